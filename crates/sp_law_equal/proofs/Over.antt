-- Normal forms are over the symbols that the terms are over.
use Rattle.std.proofs.Common.{◌≡◌, ⊎_elim, ℕ, suc, List, refl, sym, ap, subst}
use Rattle.sp_spec.specs.Term.{Variable, Term, var, constant, name, app, none, more, Ground, Grounds, count, valued}
use Rattle.sp_spec.specs.Signature.{Symbol, Equation, HasSymbol, IsOver, AreOver}
use Rattle.sp_law_equal.specs.Matching.{value_in}
use Rattle.sp_law_equal.specs.Parts.{IsProperPart}
use Rattle.sp_law_equal.specs.SubtermRules.{BringInNoSymbols}
use Rattle.sp_law_equal.specs.NormalForms.{KeepSymbols}
use Rattle.sp_law_equal.specs.Normal.{reduced, normal, normal_all}
use Rattle.sp_law_equal.proofs.Parts.{proper_part_valued, part_of_one_over}
use Rattle.sp_law_equal.proofs.Forms.{Used, reduced_by}

pub count_normal : (es : List Equation) (ts : Grounds) → count (normal_all es ts) ≡ count ts
count_normal es none = refl
count_normal es (more t ts) = ap (λ k. suc k) (count_normal es ts)

module _ (symbols : List Symbol) (es : List Equation) (none_new : BringInNoSymbols symbols es) where
  used_over : (f : List ℕ) (us : Grounds) → AreOver symbols us → Used es (app f us) (reduced es (app f us)) → IsOver symbols (reduced es (app f us))
  used_over f us o u =
      let e = u.0 in
      let v = value_in u.1 in
      subst (λ (w : Ground). IsOver symbols w) (sym u.4)
      (⊎_elim
      (λ p.
      let q : IsProperPart (valued v e.right) (app f us) =
      subst (λ (w : Ground). IsProperPart (valued v e.right) w) u.3.gives (proper_part_valued v e.right e.left p) in
      part_of_one_over symbols (valued v e.right) us q o)
      (λ p. let has : IsOver symbols (app p.0 none) = (p.2, tt) in subst (λ (r : Term Variable). IsOver symbols (valued v r)) (sym p.1) has)
      (none_new.each e u.2))

  mutual
    form_over : (t : Ground) → IsOver symbols t → IsOver symbols (normal es t)
    form_over (var x) o = absurd x
    form_over (constant c) o = tt
    form_over (name n) o = tt
    form_over (app f ts) o =
        let us = normal_all es ts in
        ⊎_elim
        (λ u. used_over f us (forms_over ts o.1) u)
        (λ n.
        let whole : IsOver symbols (app f us) = (subst (λ (k : ℕ). HasSymbol symbols f k) (sym (count_normal es ts)) o.0, forms_over ts o.1) in
        subst (λ (w : Ground). IsOver symbols w) (sym n.0) whole)
        (reduced_by es (app f us))

    forms_over : (ts : Grounds) → AreOver symbols ts → AreOver symbols (normal_all es ts)
    forms_over none o = tt
    forms_over (more t ts) o = (form_over t o.0, forms_over ts o.1)

  pub keep_symbols : KeepSymbols symbols es
  keep_symbols = record { kept = form_over }

pub normal_all_over : (symbols : List Symbol) (es : List Equation) → KeepSymbols symbols es → (ts : Grounds) → AreOver symbols ts → AreOver symbols (normal_all es ts)
normal_all_over symbols es keeps none o = tt
normal_all_over symbols es keeps (more t ts) o = (keeps.kept t o.0, normal_all_over symbols es keeps ts o.1)
