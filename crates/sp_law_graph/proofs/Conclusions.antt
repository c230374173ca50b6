-- A form's conclusions as sources of a premise: the one that has the premise's value solves its case.
use Rattle.std.proofs.Common.{◌≡◌, ◌+◌, ℕ, zero, suc, Bool, true, false, List, [], ◌∷◌, Option, Some, None, option_map, option_and_then, refl, sym, ap, ◌∙◌, subst, arith, ◌&&◌, if◌then◌else◌}
use Rattle.std.proofs.lemmas.Slice.Eq.{bytes_eq-Decides}
use Rattle.std.specs.Str.{bytes_eq}
use Rattle.sp_spec.specs.Lists.{Every, AtPlace}
use Rattle.sp_spec.specs.Term.{Names, Variable, Values, valued_all, AllMadeOf}
use Rattle.sp_spec.specs.Rule.{Fact, fact_at}
use Rattle.sp_spec.specs.Theory.{Theory}
use Rattle.sp_spec.specs.Log.{Log}
use Rattle.sp_spec.specs.Substitution.{Binding, bound_to}
use Rattle.sp_spec.specs.Unifier.{mgu}
use Rattle.sp_spec.proofs.Lists.{every_append, every_parts}
use Rattle.sp_spec_system.specs.System.{System}
use Rattle.sp_spec_system.specs.Solutions.{Valuation, Solves}
use Rattle.sp_spec_system.specs.Numbered.{IsNumbered}
use Rattle.sp_spec_system.specs.Covering.{Agrees, NoneSolved}
use Rattle.sp_law_system.specs.Laws.{UnifierIsRight}
use Rattle.sp_spec_forms.specs.Alike.{same_flag}
use Rattle.sp_spec_forms.specs.Numbering.{Form}
use Rattle.sp_spec_system.specs.Equating.{argument_pairs, unifier_of, system_changed, fact_pair}
use Rattle.sp_law_system.proofs.Merging.{Paired, argument_paired, OptionUnder, flag_same, argument_under}
use Rattle.sp_law_system.proofs.Solutions.{Under, change_solves, change_numbered}
use Rattle.sp_spec_system.specs.Cases.{system_if, where_same_fact}
use Rattle.sp_spec_graph.specs.Premise.{with_source, by_conclusions}
use Rattle.sp_law_formula.proofs.Merged.{unifier_within, Later}

-- Two facts with one value have pairs that have one value each.
pub one_fact_paired : {N : Names} → (v : Values) (n : ℕ) (f g : Fact Variable) → AllMadeOf N (Under n) f.args → AllMadeOf N (Under n) g.args → fact_at v f ≡ fact_at v g → Paired N v n (fact_pair f g)
one_fact_paired v n f g a b e =
    let symbol : f.symbol ≡ g.symbol = ap (λ (x : Fact ⊥). x.symbol) e in
    let flag : f.persistent ≡ g.persistent = ap (λ (x : Fact ⊥). x.persistent) e in
    let args : valued_all v f.args ≡ valued_all v g.args = ap (λ (x : Fact ⊥). x.args) e in
    rw ((bytes_eq-Decides f.symbol g.symbol).1 symbol, flag_same f.persistent g.persistent flag) (argument_paired v n f.args g.args a b args)

pub one_fact_under : (N : Names) → (n : ℕ) (f g : Fact Variable) → AllMadeOf N (Under n) f.args → AllMadeOf N (Under n) g.args → OptionUnder N n (fact_pair f g)
one_fact_under N n f g a b = at (bytes_eq f.symbol g.symbol && same_flag f.persistent g.persistent)
  where
    at : (c : Bool) → OptionUnder N n (if c then argument_pairs f.args g.args else None)
    at true = argument_under N n f.args g.args a b
    at false = tt

module _ (N : Names) (right : UnifierIsRight) (s : System) (i p : ℕ) (f : Fact Variable) (name : List ℕ) (form : Form) where
  abbrev limit : ℕ
  limit = suc s.next + form.count

  -- each of the conclusions from a place on
  pub conclusions_numbered : ((k : ℕ) → IsNumbered N (with_source s i p name form k)) → AllMadeOf N (Under limit) f.args
      → (k : ℕ) (gs : List (Fact Variable)) → Every (λ (g : Fact Variable). AllMadeOf N (Under limit) g.args) gs → Every (Later N s.next) (by_conclusions s i p f name form k gs)
  conclusions_numbered n a k [] b = tt
  conclusions_numbered n a k (g ∷ gs) b =
      every_append _ (system_if (where_same_fact (with_source s i p name form k) f g)) (by_conclusions s i p f name form (suc k) gs)
      (at (unifier_of (fact_pair f g)) refl) (conclusions_numbered n a (suc k) gs b.1)
    where
      at : (o : Option (List Binding)) → unifier_of (fact_pair f g) ≡ o
          → Every (Later N s.next) (system_if (option_map (λ bs. system_changed (bound_to bs) (λ i. i) (with_source s i p name form k)) o))
      at None h = tt
      at (Some bs) h =
          let within = unifier_within N right limit (fact_pair f g) bs h (one_fact_under N limit f g a b.0) in
          ((change_numbered N limit bs within (λ j. j) (λ j l. l) (with_source s i p name form k) refl (n k), omega arith), tt)

  module _ (theory : Theory) (log : Log) (base : ℕ) (v w : Valuation) (ag : Agrees base v w) (k : ℕ) (n : IsNumbered N (with_source s i p name form k)) (h : Solves theory log w (with_source s i p name form k))
      (a : AllMadeOf N (Under limit) f.args) where
    -- the conclusion has the premise's value
    one_solved : (g : Fact Variable) → AllMadeOf N (Under limit) g.args → fact_at w.terms f ≡ fact_at w.terms g
        → NoneSolved theory log v base (system_if (where_same_fact (with_source s i p name form k) f g)) → ⊥
    one_solved g b same none = at (one_fact_paired w.terms limit f g a b same) (unifier_of (fact_pair f g)) refl none
      where
        at : Paired N w.terms limit (fact_pair f g) → (o : Option (List Binding)) → unifier_of (fact_pair f g) ≡ o
            → NoneSolved theory log v base (system_if (option_map (λ bs. system_changed (bound_to bs) (λ i. i) (with_source s i p name form k)) o)) → ⊥
        at q None e l = right.none q.pairs (sym (ap (option_and_then mgu) q.there) ∙ e) w.terms (λ x. (h.sorts x).0) q.same
        at q (Some bs) e l =
            let there : mgu q.pairs ≡ Some bs = sym (ap (option_and_then mgu) q.there) ∙ e in
            let fixes = right.fixes q.pairs bs there w.terms (λ x. (h.sorts x).0) q.same in
            l.0 w ag (change_solves N theory log w bs fixes (λ j. j) (λ j. refl) (with_source s i p name form k) n h)

    -- it stands at a place behind the first
    pub conclusion_solved : (g : Fact Variable) → AllMadeOf N (Under limit) g.args → fact_at w.terms f ≡ fact_at w.terms g
        → (first : ℕ) (gs : List (Fact Variable)) (place : ℕ) → AtPlace gs place g → k ≡ first + place → NoneSolved theory log v base (by_conclusions s i p f name form first gs) → ⊥
    conclusion_solved g b same first [] place there e none = there
    conclusion_solved g b same first (c ∷ gs) zero there e none =
        let here : first ≡ k = omega (arith, e) in
        let one = (every_parts _ (system_if (where_same_fact (with_source s i p name form first) f c)) (by_conclusions s i p f name form (suc first) gs) none).0 in
        one_solved g b same
        (subst (λ (x : Fact Variable). NoneSolved theory log v base (system_if (where_same_fact (with_source s i p name form k) f x))) there
        (subst (λ (j : ℕ). NoneSolved theory log v base (system_if (where_same_fact (with_source s i p name form j) f c))) here one))
    conclusion_solved g b same first (c ∷ gs) (suc place) there e none =
        conclusion_solved g b same (suc first) gs place there (omega (arith, e)) (every_parts _ (system_if (where_same_fact (with_source s i p name form first) f c)) (by_conclusions s i p f name form (suc first) gs) none).1
