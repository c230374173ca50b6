-- The system in which the last message of a chain is another message, and the one in which it has one link more.
use Rattle.std.proofs.Common.{◌≡◌, ℕ, ◌+◌, List, [], ◌∷◌, Some, option_map, ap, ◌∙◌}
use Rattle.sp_spec.specs.Term.{Variable, Term, Terms, valued, valued_all}
use Rattle.sp_spec.specs.Destruction.{Destruction}
use Rattle.sp_spec.specs.Substitution.{Binding, bound_to}
use Rattle.sp_spec.specs.Unifier.{mgu}
use Rattle.sp_spec_system.specs.System.{System}
use Rattle.sp_spec_system.specs.Equating.{system_changed}
use Rattle.sp_spec_know.specs.Chain.{Begun, numbered_from, variables_of, with_link, with_same}
use Rattle.sp_moves_know.specs.Linking.{with_longer}

pub same_there : (s t made : System) (a b : Term Variable) (bs : List Binding) → Some bs ≡ mgu ((a, b) ∷ []) → t ≡ s
    → made ≡ system_changed (bound_to bs) (λ i. i) t → Some made ≡ with_same s a b
same_there s t made a b bs unifies is changed =
    ap Some (changed ∙ ap (λ (r : System). system_changed (bound_to bs) (λ i. i) r) is)
    ∙ ap (option_map (λ (cs : List Binding). system_changed (bound_to cs) (λ i. i) s)) unifies

pub longer_by_link : (s : System) (i : ℕ) (b : Begun) (d : Destruction) (sides : Terms Variable) (result : Term Variable) (next : ℕ)
    → sides ≡ valued_all (numbered_from s.next d) d.sides → result ≡ valued (numbered_from s.next d) d.result → next ≡ s.next + variables_of d
    → with_longer s i b.from b.conclusion b.passed sides result next ≡ with_link s i b d
longer_by_link s i b d sides result next e f g =
    let longer : Terms Variable → Term Variable → ℕ → System = with_longer s i b.from b.conclusion b.passed in
    let sides' : Terms Variable = valued_all (numbered_from s.next d) d.sides in
    let result' : Term Variable = valued (numbered_from s.next d) d.result in
    ap (λ (ts : Terms Variable). longer ts result next) e ∙ ap (λ (t : Term Variable). longer sides' t next) f ∙ ap (longer sides' result') g
