-- Formulas in memory that are made of resolved ones.
use Rattle.std.proofs.Common.{◌≡◌, ℕ, List, ◌++◌, map, Result, Ok, Err, IfOk, sym, ap, ◌∙◌}
use Rattle.std.specs.Prelude.{IsOkAnd}
use Rattle.std.specs.Global.{Vec, Box}
use Rattle.sp_spec.specs.Lists.{newest_first}
use Rattle.sp_spec.specs.Signature.{Symbol}
use Rattle.sp_spec.specs.Formula.{Formula, not_so, both, either, implies}
use Rattle.sp_spec_text.specs.Shapes.{quantified}
use Rattle.sp_spec_text.specs.Formulas.{quantified_some, equivalent}
use Rattle.sp_spec_text.specs.Declared.{resolved_formula}
use Rattle.sp_read_parts.specs.Formulas.{conjoint, disjoint, chain, formula_step, formula}
use Rattle.sp_read_parts.specs.Views.{variable}
use Rattle.sp_read_parts.specs.declared.written.WrittenVariable.{WrittenVariable}
use Rattle.sp_read_parts.specs.declared.written.ReadFormula.{ReadFormula}
use Rattle.sp_read_parts.specs.declared.written.ReadFormula.TheVariants as v
use Rattle.sp_read_parts.specs.declared.written.ReadFormula.TheOpen.{ReadFormula-F}
use Rattle.sp_read_parts.specs.declared.written.ReadFormula.TheFolds.{fold-roll-ReadFormula}
use Rattle.sp_read_parts.proofs.Shown.{both_shown, either_shown, implies_shown, equivalent_shown, every_shown, some_shown}
use Rattle.sp_resolved.proofs.Binding.{chain_resolved, all_resolved, some_resolved}
use Rattle.sp_resolved.specs.Names.{named}

-- of what is made of other things that are made, and of these, follows more of it
with_one : {A B E : Type 0} (P : A → Type 0) (made : Result A E) (one : Result B E) (Q : B → Type 0) (R : A → B → Type 0) → ((x : A) (y : B) → R x y → Q y → P x)
    → IfOk made (λ x. IsOkAnd one (R x)) → IfOk one Q → IfOk made P
with_one P (Err e) one Q R f h k = tt
with_one P (Ok x) (Ok y) Q R f h k = f x y h k
with_one P (Ok x) (Err e) Q R f h k = absurd h

with_two : {A B C E : Type 0} (P : A → Type 0) (made : Result A E) (one : Result B E) (two : Result C E) (Q : B → Type 0) (Q' : C → Type 0) (R : A → B → C → Type 0)
    → ((x : A) (y : B) (z : C) → R x y z → Q y → Q' z → P x) → IfOk made (λ x. IsOkAnd one (λ y. IsOkAnd two (R x y))) → IfOk one Q → IfOk two Q' → IfOk made P
with_two P (Err e) one two Q Q' R f h k l = tt
with_two P (Ok x) (Ok y) two Q Q' R f h k l = with_one P (Ok x) two Q' (λ a z. R a y z) (λ a z r m. f a y z r k m) h l
with_two P (Ok x) (Err e) two Q Q' R f h k l = absurd h

with_three : {A B C D E : Type 0} (P : A → Type 0) (made : Result A E) (one : Result B E) (two : Result C E) (three : Result D E) (Q : B → Type 0) (Q' : C → Type 0) (Q'' : D → Type 0)
    (R : A → B → C → D → Type 0) → ((x : A) (y : B) (z : C) (w : D) → R x y z w → Q y → Q' z → Q'' w → P x)
    → IfOk made (λ x. IsOkAnd one (λ y. IsOkAnd two (λ z. IsOkAnd three (R x y z)))) → IfOk one Q → IfOk two Q' → IfOk three Q'' → IfOk made P
with_three P (Err e) one two three Q Q' Q'' R f h k l m = tt
with_three P (Ok x) (Ok y) two three Q Q' Q'' R f h k l m = with_two P (Ok x) two three Q' Q'' (λ a z w. R a y z w) (λ a z w r n o. f a y z w r k n o) h l m
with_three P (Ok x) (Err e) two three Q Q' Q'' R f h k l m = absurd h

module _ (symbols : List Symbol) where
  module _ (bound : List (List ℕ)) where
    abbrev seen : Formula → Formula
    seen = resolved_formula symbols bound

    not_resolved : (f : Box ReadFormula) (f' : Formula) → f' ≡ resolved_formula symbols bound (formula f.value)
        → not_so f' ≡ resolved_formula symbols bound (formula (v.Not f))
    not_resolved f f' e = ap not_so e ∙ sym (ap seen (ap formula (sym (v.rolls-Not f)) ∙ fold-roll-ReadFormula Formula formula_step (ReadFormula-F.Not f)))

    implies_resolved : (f g : Box ReadFormula) (f' g' : Formula)
        → f' ≡ resolved_formula symbols bound (formula f.value) → g' ≡ resolved_formula symbols bound (formula g.value)
        → implies f' g' ≡ resolved_formula symbols bound (formula (v.Implies f g))
    implies_resolved f g f' g' e h =
        ap (λ (x : Formula). implies x g') e ∙ ap (implies (seen (formula f.value))) h ∙ sym (ap seen (implies_shown f g))

    equivalent_resolved : (f g : Box ReadFormula) (f' g' : Formula)
        → f' ≡ resolved_formula symbols bound (formula f.value) → g' ≡ resolved_formula symbols bound (formula g.value)
        → equivalent f' g' ≡ resolved_formula symbols bound (formula (v.Equivalent f g))
    equivalent_resolved f g f' g' e h =
        ap (λ (x : Formula). equivalent x g') e ∙ ap (equivalent (seen (formula f.value))) h ∙ sym (ap seen (equivalent_shown f g))

    both_resolved : (f g : Box ReadFormula) (more : Vec ReadFormula) (f' g' : Formula) (more' : List Formula)
        → f' ≡ resolved_formula symbols bound (formula f.value) → g' ≡ resolved_formula symbols bound (formula g.value)
        → more' ≡ map (resolved_formula symbols bound) (map formula more.items)
        → chain conjoint (both f' g') more' ≡ resolved_formula symbols bound (formula (v.Both f g more))
    both_resolved f g more f' g' more' e h k =
        ap (λ (x : Formula). chain conjoint (both x g') more') e
        ∙ ap (λ (x : Formula). chain conjoint (both (seen (formula f.value)) x) more') h
        ∙ ap (chain conjoint (both (seen (formula f.value)) (seen (formula g.value)))) k
        ∙ sym (chain_resolved symbols conjoint bound (both (formula f.value) (formula g.value)) (map formula more.items))
        ∙ sym (ap seen (both_shown f g more))

    either_resolved : (f g : Box ReadFormula) (more : Vec ReadFormula) (f' g' : Formula) (more' : List Formula)
        → f' ≡ resolved_formula symbols bound (formula f.value) → g' ≡ resolved_formula symbols bound (formula g.value)
        → more' ≡ map (resolved_formula symbols bound) (map formula more.items)
        → chain disjoint (either f' g') more' ≡ resolved_formula symbols bound (formula (v.Either f g more))
    either_resolved f g more f' g' more' e h k =
        ap (λ (x : Formula). chain disjoint (either x g') more') e
        ∙ ap (λ (x : Formula). chain disjoint (either (seen (formula f.value)) x) more') h
        ∙ ap (chain disjoint (either (seen (formula f.value)) (seen (formula g.value)))) k
        ∙ sym (chain_resolved symbols disjoint bound (either (formula f.value) (formula g.value)) (map formula more.items))
        ∙ sym (ap seen (either_shown f g more))

    -- what is made of a formula with symbols in the place of names
    abbrev pub IsMadeOf : ReadFormula → Box ReadFormula → Type 0
    IsMadeOf f made = formula made.value ≡ seen (formula f)

    pub not_made : {E : Type 0} (made one : Result (Box ReadFormula) E) (f : Box ReadFormula)
        → IfOk made (λ x. IsOkAnd one (λ d. formula x.value ≡ not_so (formula d.value))) → IfOk one (IsMadeOf f.value) → IfOk made (IsMadeOf (v.Not f))
    not_made made one f h k =
        with_one (IsMadeOf (v.Not f)) made one (IsMadeOf f.value) (λ x d. formula x.value ≡ not_so (formula d.value)) (λ x d e i. e ∙ not_resolved f (formula d.value) i) h k

    pub implies_made : {E : Type 0} (made one two : Result (Box ReadFormula) E) (f g : Box ReadFormula)
        → IfOk made (λ x. IsOkAnd one (λ l. IsOkAnd two (λ r. formula x.value ≡ implies (formula l.value) (formula r.value))))
        → IfOk one (IsMadeOf f.value) → IfOk two (IsMadeOf g.value) → IfOk made (IsMadeOf (v.Implies f g))
    implies_made made one two f g h k m =
        with_two (IsMadeOf (v.Implies f g)) made one two (IsMadeOf f.value) (IsMadeOf g.value) (λ x l r. formula x.value ≡ implies (formula l.value) (formula r.value))
        (λ x l r e i j. e ∙ implies_resolved f g (formula l.value) (formula r.value) i j) h k m

    pub equivalent_made : {E : Type 0} (made one two : Result (Box ReadFormula) E) (f g : Box ReadFormula)
        → IfOk made (λ x. IsOkAnd one (λ l. IsOkAnd two (λ r. formula x.value ≡ equivalent (formula l.value) (formula r.value))))
        → IfOk one (IsMadeOf f.value) → IfOk two (IsMadeOf g.value) → IfOk made (IsMadeOf (v.Equivalent f g))
    equivalent_made made one two f g h k m =
        with_two (IsMadeOf (v.Equivalent f g)) made one two (IsMadeOf f.value) (IsMadeOf g.value) (λ x l r. formula x.value ≡ equivalent (formula l.value) (formula r.value))
        (λ x l r e i j. e ∙ equivalent_resolved f g (formula l.value) (formula r.value) i j) h k m

    abbrev pub AreMadeOf : Vec ReadFormula → Vec ReadFormula → Type 0
    AreMadeOf fs made = map formula made.items ≡ map (resolved_formula symbols bound) (map formula fs.items)

    pub both_made : {E : Type 0} (made one two : Result (Box ReadFormula) E) (others : Result (Vec ReadFormula) E) (f g : Box ReadFormula) (more : Vec ReadFormula)
        → IfOk made (λ x. IsOkAnd one (λ l. IsOkAnd two (λ r. IsOkAnd others (λ m. formula x.value ≡ chain conjoint (both (formula l.value) (formula r.value)) (map formula m.items)))))
        → IfOk one (IsMadeOf f.value) → IfOk two (IsMadeOf g.value) → IfOk others (AreMadeOf more) → IfOk made (IsMadeOf (v.Both f g more))
    both_made made one two others f g more h k m n =
        with_three (IsMadeOf (v.Both f g more)) made one two others (IsMadeOf f.value) (IsMadeOf g.value) (AreMadeOf more)
        (λ x l r fs. formula x.value ≡ chain conjoint (both (formula l.value) (formula r.value)) (map formula fs.items))
        (λ x l r fs e i j o. e ∙ both_resolved f g more (formula l.value) (formula r.value) (map formula fs.items) i j o) h k m n

    pub either_made : {E : Type 0} (made one two : Result (Box ReadFormula) E) (others : Result (Vec ReadFormula) E) (f g : Box ReadFormula) (more : Vec ReadFormula)
        → IfOk made (λ x. IsOkAnd one (λ l. IsOkAnd two (λ r. IsOkAnd others (λ m. formula x.value ≡ chain disjoint (either (formula l.value) (formula r.value)) (map formula m.items)))))
        → IfOk one (IsMadeOf f.value) → IfOk two (IsMadeOf g.value) → IfOk others (AreMadeOf more) → IfOk made (IsMadeOf (v.Either f g more))
    either_made made one two others f g more h k m n =
        with_three (IsMadeOf (v.Either f g more)) made one two others (IsMadeOf f.value) (IsMadeOf g.value) (AreMadeOf more)
        (λ x l r fs. formula x.value ≡ chain disjoint (either (formula l.value) (formula r.value)) (map formula fs.items))
        (λ x l r fs e i j o. e ∙ either_resolved f g more (formula l.value) (formula r.value) (map formula fs.items) i j o) h k m n

  for_all_resolved : (bound : List (List ℕ)) (xs : Vec WrittenVariable) (f : Box ReadFormula) (f' : Formula)
      → f' ≡ resolved_formula symbols (newest_first (bound ++ map named (map variable xs.items))) (formula f.value)
      → quantified (map variable xs.items) f' ≡ resolved_formula symbols (newest_first bound) (formula (v.ForAll xs f))
  for_all_resolved bound xs f f' e =
      ap (quantified (map variable xs.items)) e
      ∙ sym (all_resolved symbols bound (map variable xs.items) (formula f.value))
      ∙ sym (ap (resolved_formula symbols (newest_first bound)) (every_shown xs f))

  for_some_resolved : (bound : List (List ℕ)) (xs : Vec WrittenVariable) (f : Box ReadFormula) (f' : Formula)
      → f' ≡ resolved_formula symbols (newest_first (bound ++ map named (map variable xs.items))) (formula f.value)
      → quantified_some (map variable xs.items) f' ≡ resolved_formula symbols (newest_first bound) (formula (v.ForSome xs f))
  for_some_resolved bound xs f f' e =
      ap (quantified_some (map variable xs.items)) e
      ∙ sym (some_resolved symbols bound (map variable xs.items) (formula f.value))
      ∙ sym (ap (resolved_formula symbols (newest_first bound)) (some_shown xs f))

  pub for_all_made : {E : Type 0} (made one : Result (Box ReadFormula) E) (bound : List (List ℕ)) (xs : Vec WrittenVariable) (f : Box ReadFormula)
      → IfOk made (λ x. IsOkAnd one (λ b. formula x.value ≡ quantified (map variable xs.items) (formula b.value)))
      → IfOk one (IsMadeOf (newest_first (bound ++ map named (map variable xs.items))) f.value) → IfOk made (IsMadeOf (newest_first bound) (v.ForAll xs f))
  for_all_made made one bound xs f h k =
      with_one (IsMadeOf (newest_first bound) (v.ForAll xs f)) made one (IsMadeOf (newest_first (bound ++ map named (map variable xs.items))) f.value)
      (λ x b. formula x.value ≡ quantified (map variable xs.items) (formula b.value)) (λ x b e i. e ∙ for_all_resolved bound xs f (formula b.value) i) h k

  pub for_some_made : {E : Type 0} (made one : Result (Box ReadFormula) E) (bound : List (List ℕ)) (xs : Vec WrittenVariable) (f : Box ReadFormula)
      → IfOk made (λ x. IsOkAnd one (λ b. formula x.value ≡ quantified_some (map variable xs.items) (formula b.value)))
      → IfOk one (IsMadeOf (newest_first (bound ++ map named (map variable xs.items))) f.value) → IfOk made (IsMadeOf (newest_first bound) (v.ForSome xs f))
  for_some_made made one bound xs f h k =
      with_one (IsMadeOf (newest_first bound) (v.ForSome xs f)) made one (IsMadeOf (newest_first (bound ++ map named (map variable xs.items))) f.value)
      (λ x b. formula x.value ≡ quantified_some (map variable xs.items) (formula b.value)) (λ x b e i. e ∙ for_some_resolved bound xs f (formula b.value) i) h k
