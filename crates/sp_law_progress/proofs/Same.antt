-- The move on two terms that stand for names: they have one value, or two.
use Rattle.std.proofs.Common.{◌≡◌, ◌&&◌, not, ℕ, true, List, [], ◌∷◌, ◌++◌, Some, codes, refl, sym, ◌∙◌, subst, le_refl}
use Rattle.std.proofs.lemmas.Bool.{and_parts}
use Rattle.sp_spec.specs.Lists.{Every, is_listed}
use Rattle.sp_spec.specs.Term.{Fresh, Pub, Variable, Term, var, MadeOf, valued}
use Rattle.sp_spec.specs.Equal.{Equal, end}
use Rattle.sp_spec.specs.Theory.{Theory, signature_of}
use Rattle.sp_spec.specs.Guarded.{free, same, holds, term_in}
use Rattle.sp_spec.specs.Change.{placed}
use Rattle.sp_spec.specs.Log.{Log}
use Rattle.sp_spec.proofs.Lists.{every_append, every_itself, every_weaken, every_member}
use Rattle.sp_spec.proofs.Listed.{listed_member}
use Rattle.sp_spec.proofs.Options.{if_some, some_same}
use Rattle.sp_spec_system.specs.System.{System, with_unequal}
use Rattle.sp_spec_system.specs.Occurring.{names_of}
use Rattle.sp_spec_system.specs.Solutions.{Valuation, assignment, IsSettled, AreUnequal, Solves}
use Rattle.sp_spec_system.specs.Numbered.{names_in, AtFree, HappenOnce, IsNumbered}
use Rattle.sp_spec_system.specs.Covering.{NoneSolved, Covers}
use Rattle.sp_spec_system.specs.Move.{Side, fresh_side, public_side, constant_side, Case, Context, systems_in}
use Rattle.sp_spec_formula.specs.Instantiate.{with_formula}
use Rattle.sp_spec_formula.specs.Top.{of_number}
use Rattle.sp_spec_formula.specs.Sides.{side_term, are_in_order, stands_there, are_apart, is_undecided, same_cases}
use Rattle.sp_law_equal.proofs.Made.{each_valued}
use Rattle.sp_law_truth.proofs.Only.{is_among_member}
use Rattle.sp_law_system.specs.Proofs.{IsWellMade, IsKept}
use Rattle.sp_law_system.proofs.Solutions.{Under, agrees_itself}
use Rattle.sp_law_system.proofs.With.{TermsUnder, unequal_solve, unequal_numbered}
use Rattle.sp_law_formula.proofs.Merged.{Later}
use Rattle.sp_law_graph.proofs.Once.{IsOnce}
use Rattle.sp_law_progress.proofs.Kept.{formula_solves, formula_numbered, each_kept}
use Rattle.sp_law_progress.proofs.Occurring.{variable_under, names_among}

-- a side is made of what stands in the system
side_made : (constants : List (List ℕ)) (s : System) → IsNumbered (names_in constants) s → (a : Side) → stands_there constants s a ≡ true → MadeOf (names_in constants) (Under s.next) (side_term a)
side_made constants s n (fresh_side k) e = variable_under s n (of_number Fresh k) e
side_made constants s n (public_side k) e = variable_under s n (of_number Pub k) e
side_made constants s n (constant_side c) e =
    let R : List ℕ → Type 0 = λ d. is_listed d constants ≡ true in
    let own = every_weaken _ R (λ d m. listed_member d constants m) constants (every_itself constants) in
    every_member R (constants ++ names_of s) c (is_among_member c (constants ++ names_of s) e) (every_append R constants (names_of s) own (names_among (names_in constants) R (λ d k. k) s n))

-- its value is settled, and the same in a formula
side_settled : (theory : Theory) (log : Log) (v : Valuation) (s : System) → Solves theory log v s → (a : Side) → IsSettled (signature_of theory) (valued v.terms (side_term a))
side_settled theory log v s h (fresh_side k) = (h.normal (of_number Fresh k), (h.sorts (of_number Fresh k)).1)
side_settled theory log v s h (public_side k) = (h.normal (of_number Pub k), (h.sorts (of_number Pub k)).1)
side_settled theory log v s h (constant_side c) = (tt, tt)

side_value : (v : Valuation) (a : Side) → valued v.terms (side_term a) ≡ term_in (assignment v) (placed (side_term a))
side_value v (fresh_side k) = refl
side_value v (public_side k) = refl
side_value v (constant_side c) = refl

-- its cases
abbrev told_apart : System → Side → Side → List Case
told_apart s a b =
    record { name = codes "same"; system = with_formula s (holds (same (placed (side_term a)) (placed (side_term b)))) }
    ∷ record { name = codes "unequal"; system = with_unequal s (s.unequal ++ (side_term a, side_term b) ∷ []) } ∷ []

-- What the move asks.
record IsAsked (constants : List (List ℕ)) (s : System) (a b : Side) (cs : List Case) : Type 0 where
  pub first : stands_there constants s a ≡ true
  pub second : stands_there constants s b ≡ true
  pub cases : cs ≡ told_apart s a b

module _ (constants : List (List ℕ)) (s : System) (a b : Side) (cs : List Case) (e : same_cases constants s a b ≡ Some cs) where
  is_asked : IsAsked constants s a b cs
  is_asked =
      let r = if_some (is_undecided constants s a b) (Some (told_apart s a b)) cs e in
      let open_yet = not (are_apart s.unequal (side_term a) (side_term b)) in
      let p = and_parts (are_in_order a b) (stands_there constants s a && (stands_there constants s b && open_yet)) r.0 in
      let q = and_parts (stands_there constants s a) (stands_there constants s b && open_yet) p.1 in
      let z = and_parts (stands_there constants s b) open_yet q.1 in
      record { first = q.0; second = z.0; cases = some_same (told_apart s a b) cs r.1 }

  -- its cases keep the numbers
  pub same_numbered : IsNumbered (names_in constants) s → Every (Later (names_in constants) s.next) (systems_in cs)
  same_numbered n =
      let N = names_in constants in
      let asked = is_asked in
      let first = side_made constants s n a asked.first in
      let second = side_made constants s n b asked.second in
      let at_free : (t : Term Variable) → MadeOf N (Under s.next) t → MadeOf N (AtFree (Under s.next)) (placed t) =
      λ t made. each_valued N (Under s.next) (AtFree (Under s.next)) (λ x. var (free x)) (λ x h. h) t made in
      let pair = (side_term a, side_term b) ∷ [] in
      subst (λ (x : List Case). Every (Later N s.next) (systems_in x)) (sym asked.cases) (
        formula_numbered s n (holds (same (placed (side_term a)) (placed (side_term b)))) (at_free (side_term a) first, at_free (side_term b) second),
        ((unequal_numbered s n (s.unequal ++ pair) (every_append (TermsUnder N s.next) s.unequal pair n.unequal ((first, second), tt)), le_refl s.next), tt),
      )

  -- no two events of a case have one time
  pub same_once : HappenOnce s.events → Every IsOnce (systems_in cs)
  same_once once = let asked = is_asked in subst (λ (x : List Case). Every IsOnce (systems_in x)) (sym asked.cases) (once, (once, tt))

  module _ (theory : Theory) where
    -- the values are one, or they differ
    either : (log : Log) (v : Valuation) → Solves theory log v s → NoneSolved theory log v s.next (systems_in (told_apart s a b)) → ⊥
    either log v h none =
        let es = (signature_of theory).equations in
        let first = side_settled theory log v s h a in
        let second = side_settled theory log v s h b in
        let pair = (side_term a, side_term b) ∷ [] in
        let equal : (valued v.terms (side_term a) ≡ valued v.terms (side_term b)) → ⊥ =
        λ one. none.0 v (agrees_itself s.next v)
        (formula_solves theory log v s h (holds (same (placed (side_term a)) (placed (side_term b)))) (
          (λ differ. differ (subst (Equal es (term_in (assignment v) (placed (side_term a)))) (sym (side_value v a) ∙ one ∙ side_value v b) end)),
          (subst (IsSettled (signature_of theory)) (side_value v a) first, subst (IsSettled (signature_of theory)) (side_value v b) second),
        )) in
        none.1.0 v (agrees_itself s.next v)
        (unequal_solve theory log v s h (s.unequal ++ pair) (every_append (AreUnequal theory v) s.unequal pair h.unequal ((equal, first.0, second.0), tt)))

    -- The move covers.
    pub same_covers : Covers theory s (systems_in cs)
    same_covers =
        let asked = is_asked in
        record { covers = λ log is v h none. either log v h (subst (λ (x : List Case). NoneSolved theory log v s.next (systems_in x)) asked.cases none) }

-- It keeps what systems of a proof fulfil.
pub same_kept : (context : Context) (s : System) (a b : Side) (cs : List Case) → same_cases context.public_names s a b ≡ Some cs → IsWellMade context s → Every (IsKept context s) (systems_in cs)
same_kept context s a b cs e made =
    each_kept context s (systems_in cs) (same_numbered context.public_names s a b cs e made.numbered) (same_once context.public_names s a b cs e made.once)
