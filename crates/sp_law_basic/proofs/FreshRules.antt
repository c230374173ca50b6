-- What premises Fr of a written rule without findings take: a variable of sort fresh.
use Rattle.std.proofs.Common.{◌≡◌, ℕ, Bool, true, false, not, ◌&&◌, ◌||◌, if◌then◌else◌, List, [], ◌∷◌, map, inl, inr, refl, sym, ap, ◌∙◌, subst, true≢false}
use Rattle.std.proofs.Math.Bool.{or-true}
use Rattle.std.proofs.lemmas.Bool.{and_parts, or_parts, or_left, or_right, and_from}
use Rattle.std.proofs.lemmas.Slice.Eq.{bytes_eq-Decides}
use Rattle.sp_spec.specs.Lists.{Member, Every}
use Rattle.sp_spec.specs.Term.{Fresh, Pub, Msg, Variable, var, constant, name, app, Terms, none, more, valued_all}
use Rattle.sp_spec.specs.Rule.{Fact, Facts, fact_at, IsFreshVariable}
use Rattle.sp_spec.specs.Formula.{Written}
use Rattle.sp_spec.specs.Written.{occurrences, is_argument, is_fr_argument, is_written, sort_in, numbered_in}
use Rattle.sp_spec.specs.Findings.{is_fr_named, is_one, is_fresh_variable, is_wrong_premise, has_wrong_premise, has_wrong_argument}
use Rattle.sp_spec.specs.Log.{is_fr}
use Rattle.sp_spec.proofs.Findings.{fr_premise}

argument_there : (x : List ℕ) (fs : List (Fact Written)) (f : Fact Written) → Member f fs → is_fr_named f ≡ true → is_argument x f.args ≡ true
    → is_fr_argument x fs ≡ true
argument_there x [] f m e a = absurd m
argument_there x (g ∷ fs) f (inl same) e a =
    or_left (is_fr_named g && is_argument x g.args) (is_fr_argument x fs)
    (subst (λ (h : Fact Written). (is_fr_named h && is_argument x h.args) ≡ true) (sym same) (and_from _ _ e a))
argument_there x (g ∷ fs) f (inr m) e a = or_right (is_fr_named g && is_argument x g.args) (is_fr_argument x fs) (argument_there x fs f m e a)

fresh_sort : (facts : Facts Written) (x : List ℕ) → is_fr_argument x facts.premises ≡ true → sort_in facts x ≡ Fresh
fresh_sort facts x e =
    ap (λ (b : Bool). if b || is_written Fresh x (occurrences facts) then Fresh else if is_written Pub x (occurrences facts) then Pub else Msg) e

module _ (facts : Facts Written) (f : Fact Written) (m : Member f facts.premises) where
  abbrev Wrong : Terms Written → Bool
  Wrong ts = f.persistent || not (is_one ts)

  -- more or less than one argument
  not_one : (ts : Terms Written) → is_one ts ≡ false → (true && Wrong ts) ≡ false → ⊥
  not_one ts one e = true≢false (sym (ap (λ (b : Bool). f.persistent || not b) one ∙ or-true f.persistent) ∙ e)

  fresh_args : (ts : Terms Written) → f.args ≡ ts → is_fr_named f ≡ true → (is_fr_named f && Wrong ts) ≡ false
      → (is_fr_named f && is_one ts && not (is_fresh_variable ts)) ≡ false → IsFreshVariable (valued_all (numbered_in facts) ts)
  fresh_args none is e wrong other = absurd (not_one none refl (sym (ap (λ (b : Bool). b && Wrong none) e) ∙ wrong))
  fresh_args (more t (more u ts)) is e wrong other =
      absurd (not_one (more t (more u ts)) refl (sym (ap (λ (b : Bool). b && Wrong (more t (more u ts))) e) ∙ wrong))
  fresh_args (more (var x) none) is e wrong other =
      let here : is_argument x.name f.args ≡ true = ap (is_argument x.name) is ∙ (bytes_eq-Decides x.name x.name).1 refl in
      (_, fresh_sort facts x.name (argument_there x.name facts.premises f m e here), refl)
  fresh_args (more (constant c) none) is e wrong other = absurd (true≢false (sym (ap (λ (b : Bool). b && true && true) e) ∙ other))
  fresh_args (more (name n) none) is e wrong other = absurd (true≢false (sym (ap (λ (b : Bool). b && true && true) e) ∙ other))
  fresh_args (more (app g ts) none) is e wrong other = absurd (true≢false (sym (ap (λ (b : Bool). b && true && true) e) ∙ other))

pub fresh_premises : (facts : Facts Written) (fs : List (Fact Written)) → ((f : Fact Written) → Member f fs → Member f facts.premises)
    → has_wrong_premise fs ≡ false → has_wrong_argument fs ≡ false
    → Every (λ (f : Fact Variable). is_fr f ≡ true → IsFreshVariable f.args) (map (fact_at (numbered_in facts)) fs)
fresh_premises facts [] among wrong other = tt
fresh_premises facts (f ∷ fs) among wrong other =
    let premise = or_parts (is_wrong_premise f) (has_wrong_premise fs) wrong in
    let argument = or_parts (is_fr_named f && is_one f.args && not (is_fresh_variable f.args)) (has_wrong_argument fs) other in (
      λ e. fresh_args facts f (among f (inl refl)) f.args refl (and_parts (is_fr_named f) (not f.persistent) e).0 (fr_premise f premise.0) argument.0,
      fresh_premises facts fs (λ g k. among g (inr k)) premise.1 argument.1,
    )
