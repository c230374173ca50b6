-- No finding stands on a formula exactly where it has a guarded form without findings.
use Rattle.std.proofs.Common.{◌≡◌, ℕ, Bool, true, false, not, ◌&&◌, ◌||◌, if◌then◌else◌, List, [], ◌∷◌, ◌++◌, Option, Some, None, is_some, option_map, option_and_then, refl, sym, ap, ap₂, ◌∙◌}
use Rattle.sp_spec.specs.Term.{Term, var, constant, name, app, Terms, none, more}
use Rattle.sp_spec.specs.Formula.{Written, Formula, truth, falsity, happens, equals, precedes, not_so, both, either, implies, for_all, for_some}
use Rattle.sp_spec.specs.Signature.{Equation}
use Rattle.sp_spec.specs.Theory.{Lemma}
use Rattle.sp_spec.specs.Written.{in_term, in_terms}
use Rattle.sp_spec.specs.Findings.{is_wide}
use Rattle.sp_spec.specs.Guarded.{Place, Time, Guarded}
use Rattle.sp_law_guard.specs.GuardedForm.{Meant, a_message, a_time, meant, message_place, time_place, placed_term, placed_terms, placed_action, acts_at, before_at, same_at, term_time, equality_at, both_forms, negate, guarded_form}
use Rattle.sp_law_guard.specs.IsGuarded.{is_guarded}
use Rattle.sp_law_guard.specs.CheckedForm.{fits, each_fits, marks_fit, has_wide, if_right, checked_form}
use Rattle.sp_guard.specs.Unguarded.{first_unguarded}
use Rattle.sp_guard.proofs.NoneUnguarded.{none_told as guarded_told}
use Rattle.sp_finding.specs.Finding.{Finding, arity_above, without_binder, other_sort, mixed_at, told, are_none}
use Rattle.sp_wf_formulas.specs.FormulaFindings.{destructors_in_lemma, wide_in, Role, as_message, as_time, Use, uses_as, role_of, uses, is_unbound, is_mixed, unbound_uses, other_uses, mixed_uses, wide_in_lemma, unbound_in_lemma, sorts_in_lemma, mixed_in_lemma, unguarded_at, unguarded_in_lemma}
use Rattle.sp_wf_formulas.specs.Sought.{is_there}
use Rattle.sp_finding.proofs.Nothing.{both_true, and_grouped, told_not, told_step, none_append}
use Rattle.std.proofs.lemmas.Bool.{and_right, and_parts, not_from_false, not-true}

-- actions of too many arguments
not_or : (a b : Bool) → (not a && not b) ≡ not (a || b)
not_or true b = refl
not_or false b = refl

wide_both : (f g : Formula) → are_none (wide_in f) ≡ not (has_wide f) → are_none (wide_in g) ≡ not (has_wide g) → are_none (wide_in f ++ wide_in g) ≡ not (has_wide f || has_wide g)
wide_both f g e k = none_append (wide_in f) (wide_in g) ∙ ap₂ (λ (a b : Bool). a && b) e k ∙ not_or (has_wide f) (has_wide g)

or_nothing : (a : Bool) → not (a || false) ≡ not a
or_nothing true = refl
or_nothing false = refl

none_wide : (f : Formula) → are_none (wide_in f) ≡ not (has_wide f)
none_wide truth = refl
none_wide falsity = refl
none_wide (happens a i) = told_step (is_wide a.args) (arity_above a.symbol) [] false refl ∙ or_nothing (is_wide a.args)
none_wide (equals t u) = refl
none_wide (precedes i j) = refl
none_wide (not_so f) = none_wide f
none_wide (both f g) = wide_both f g (none_wide f) (none_wide g)
none_wide (either f g) = wide_both f g (none_wide f) (none_wide g)
none_wide (implies f g) = wide_both f g (none_wide f) (none_wide g)
none_wide (for_all x f) = none_wide f
none_wide (for_some x f) = none_wide f

-- variables of another sort
told_fits : (b : Bool) (finding : Finding) (findings : List Finding) (rest : Bool) → are_none findings ≡ rest → are_none (told (not b) finding findings) ≡ (b && rest)
told_fits true finding findings rest e = e
told_fits false finding findings rest e = refl

other_append : (n : List ℕ) (us vs : List Use) → are_none (other_uses n (us ++ vs)) ≡ (are_none (other_uses n us) && are_none (other_uses n vs))
other_append n [] vs = refl
other_append n (u ∷ us) vs =
    told_fits (fits u.variable.mark u.means) (other_sort n u.variable.name) (other_uses n (us ++ vs)) _ (other_append n us vs)
    ∙ and_grouped (fits u.variable.mark u.means) (are_none (other_uses n us)) (are_none (other_uses n vs))
    ∙ ap (λ (b : Bool). b && are_none (other_uses n vs)) (sym (told_fits (fits u.variable.mark u.means) (other_sort n u.variable.name) (other_uses n us) _ refl))

each_other : (n : List ℕ) (role : Role) (bs xs : List Written) → are_none (other_uses n (uses_as role bs xs)) ≡ each_fits bs xs
each_other n role bs [] = refl
each_other n role bs (x ∷ xs) = told_fits (fits x.mark (meant bs x.name)) (other_sort n x.name) (other_uses n (uses_as role bs xs)) _ (each_other n role bs xs)

other_both : (n : List ℕ) (us vs : List Use) (a b : Bool) → are_none (other_uses n us) ≡ a → are_none (other_uses n vs) ≡ b → are_none (other_uses n (us ++ vs)) ≡ (a && b)
other_both n us vs a b e k = other_append n us vs ∙ ap₂ (λ (c d : Bool). c && d) e k

both_fit : (bs xs ys : List Written) → each_fits bs (xs ++ ys) ≡ (each_fits bs xs && each_fits bs ys)
both_fit bs [] ys = refl
both_fit bs (x ∷ xs) ys =
    ap (λ (b : Bool). fits x.mark (meant bs x.name) && b) (both_fit bs xs ys) ∙ and_grouped (fits x.mark (meant bs x.name)) (each_fits bs xs) (each_fits bs ys)

pub none_other : (n : List ℕ) (bs : List Written) (f : Formula) → are_none (other_uses n (uses bs f)) ≡ marks_fit bs f
none_other n bs truth = refl
none_other n bs falsity = refl
none_other n bs (happens a i) =
    other_both n (uses_as as_message bs (in_terms a.args)) (uses_as as_time bs (i ∷ [])) _ _ (each_other n as_message bs (in_terms a.args)) (each_other n as_time bs (i ∷ []))
    ∙ sym (both_fit bs (in_terms a.args) (i ∷ []))
none_other n bs (equals t u) = each_other n (role_of (term_time bs t) (term_time bs u)) bs (in_term t ++ in_term u)
none_other n bs (precedes i j) = each_other n as_time bs (i ∷ j ∷ [])
none_other n bs (not_so f) = none_other n bs f
none_other n bs (both f g) = other_both n (uses bs f) (uses bs g) _ _ (none_other n bs f) (none_other n bs g)
none_other n bs (either f g) = other_both n (uses bs f) (uses bs g) _ _ (none_other n bs f) (none_other n bs g)
none_other n bs (implies f g) = other_both n (uses bs f) (uses bs g) _ _ (none_other n bs f) (none_other n bs g)
none_other n bs (for_all x f) = none_other n (x ∷ bs) f
none_other n bs (for_some x f) = none_other n (x ∷ bs) f

-- variables that mean what is asked for
abbrev is_placed : Role → Option Meant → Bool
is_placed role means = not (is_unbound means) && not (is_mixed role means)

abbrev all_placed : List Use → Bool
all_placed [] = true
all_placed (u ∷ us) = is_placed u.role u.means && all_placed us

regroup : (a b c d : Bool) → ((a && c) && (b && d)) ≡ ((a && b) && (c && d))
regroup false b c d = refl
regroup true b true d = refl
regroup true true false d = refl
regroup true false false d = refl

none_placed : (n : List ℕ) (us : List Use) → (are_none (unbound_uses n us) && are_none (mixed_uses n us)) ≡ all_placed us
none_placed n [] = refl
none_placed n (u ∷ us) =
    ap₂ (λ (a b : Bool). a && b) (told_not (is_unbound u.means) (without_binder n u.variable.name) (unbound_uses n us)) (told_not (is_mixed u.role u.means) (mixed_at n u.variable.name) (mixed_uses n us))
    ∙ regroup (not (is_unbound u.means)) (not (is_mixed u.role u.means)) (are_none (unbound_uses n us)) (are_none (mixed_uses n us))
    ∙ ap (λ (b : Bool). is_placed u.role u.means && b) (none_placed n us)

placed_append : (us vs : List Use) → all_placed (us ++ vs) ≡ (all_placed us && all_placed vs)
placed_append [] vs = refl
placed_append (u ∷ us) vs = ap (λ (b : Bool). is_placed u.role u.means && b) (placed_append us vs) ∙ and_grouped (is_placed u.role u.means) (all_placed us) (all_placed vs)

as_append : (role : Role) (bs xs ys : List Written) → all_placed (uses_as role bs (xs ++ ys)) ≡ (all_placed (uses_as role bs xs) && all_placed (uses_as role bs ys))
as_append role bs [] ys = refl
as_append role bs (x ∷ xs) ys =
    ap (λ (b : Bool). is_placed role (meant bs x.name) && b) (as_append role bs xs ys)
    ∙ and_grouped (is_placed role (meant bs x.name)) (all_placed (uses_as role bs xs)) (all_placed (uses_as role bs ys))

mapped_there : {A B : Type 0} (f : A → B) (o : Option A) → is_there (option_map f o) ≡ is_there o
mapped_there f None = refl
mapped_there f (Some x) = refl

pub some_there : {A B : Type 0} (f : A → B) (o : Option A) (p : Option B) → option_map f o ≡ p → is_some o ≡ is_there p
some_there f None p e = ap is_there e
some_there f (Some x) p e = ap is_there e

message_there : (o : Option Meant) → is_there (message_place o) ≡ (is_placed as_message o && true)
message_there None = refl
message_there (Some (a_message mark k)) = refl
message_there (Some (a_time k)) = refl

time_there : (o : Option Meant) → is_there (time_place o) ≡ (is_placed as_time o && true)
time_there None = refl
time_there (Some (a_message mark k)) = refl
time_there (Some (a_time k)) = refl

then_there : {A B C : Type 0} (f : A → B → C) (o : Option A) (p : Option B) → is_there (option_and_then (λ (a : A). option_map (f a) p) o) ≡ (is_there o && is_there p)
then_there f None p = refl
then_there f (Some a) p = mapped_there (f a) p

mutual
  term_there : (bs : List Written) (t : Term Written) → is_there (placed_term bs t) ≡ all_placed (uses_as as_message bs (in_term t))
  term_there bs (var x) = message_there (meant bs x.name)
  term_there bs (constant c) = refl
  term_there bs (name n) = refl
  term_there bs (app g ts) = mapped_there (app g) (placed_terms bs ts) ∙ terms_there bs ts

  terms_there : (bs : List Written) (ts : Terms Written) → is_there (placed_terms bs ts) ≡ all_placed (uses_as as_message bs (in_terms ts))
  terms_there bs none = refl
  terms_there bs (more t ts) =
      then_there more (placed_term bs t) (placed_terms bs ts) ∙ ap₂ (λ (a b : Bool). a && b) (term_there bs t) (terms_there bs ts) ∙ sym (as_append as_message bs (in_term t) (in_terms ts))

acts_there : (o : Option _) (p : Option Time) → is_there (acts_at o p) ≡ (is_there o && is_there p)
acts_there None p = refl
acts_there (Some a) None = refl
acts_there (Some a) (Some i) = refl

before_there : (o p : Option Time) → is_there (before_at o p) ≡ (is_there o && is_there p)
before_there None p = refl
before_there (Some i) None = refl
before_there (Some i) (Some j) = refl

same_there : (o p : Option (Term Place)) → is_there (same_at o p) ≡ (is_there o && is_there p)
same_there None p = refl
same_there (Some t) None = refl
same_there (Some t) (Some u) = refl

forms_there : (join : Guarded → Guarded → Guarded) (o p : Option Guarded) → is_there (both_forms join o p) ≡ (is_there o && is_there p)
forms_there join None p = refl
forms_there join (Some g) None = refl
forms_there join (Some g) (Some h) = refl

-- a term that is a time is placed as a time, and not as a message
time_placed : (o : Option Meant) (i : Time) → time_place o ≡ Some i → (is_placed as_time o && true) ≡ true
time_placed None i e = absurd cc
time_placed (Some (a_message mark k)) i e = absurd cc
time_placed (Some (a_time k)) i e = refl

time_misplaced : (o : Option Meant) (i : Time) → time_place o ≡ Some i → (is_placed as_message o && true) ≡ false
time_misplaced None i e = absurd cc
time_misplaced (Some (a_message mark k)) i e = absurd cc
time_misplaced (Some (a_time k)) i e = refl

as_a_time : (bs : List Written) (t : Term Written) (i : Time) → term_time bs t ≡ Some i → all_placed (uses_as as_time bs (in_term t)) ≡ true
as_a_time bs (var x) i e = time_placed (meant bs x.name) i e
as_a_time bs (constant c) i e = absurd cc
as_a_time bs (name n) i e = absurd cc
as_a_time bs (app g ts) i e = absurd cc

no_message : (bs : List Written) (t : Term Written) (i : Time) → term_time bs t ≡ Some i → all_placed (uses_as as_message bs (in_term t)) ≡ false
no_message bs (var x) i e = time_misplaced (meant bs x.name) i e
no_message bs (constant c) i e = absurd cc
no_message bs (name n) i e = absurd cc
no_message bs (app g ts) i e = absurd cc

false_left : (a b : Bool) → a ≡ false → (a && b) ≡ false
false_left true b e = absurd cc
false_left false b e = refl

equality_there : (bs : List Written) (t u : Term Written) (o p : Option Time) → term_time bs t ≡ o → term_time bs u ≡ p
    → is_there (equality_at bs t u o p) ≡ all_placed (uses_as (role_of o p) bs (in_term t ++ in_term u))
equality_there bs t u (Some i) (Some j) e k = sym (as_append as_time bs (in_term t) (in_term u) ∙ both_true (as_a_time bs t i e) (as_a_time bs u j k))
equality_there bs t u (Some i) None e k = sym (as_append as_message bs (in_term t) (in_term u) ∙ false_left _ _ (no_message bs t i e))
equality_there bs t u None (Some j) e k = sym (as_append as_message bs (in_term t) (in_term u) ∙ and_right _ _ (no_message bs u j k))
equality_there bs t u None None e k =
    same_there (placed_term bs t) (placed_term bs u) ∙ ap₂ (λ (a b : Bool). a && b) (term_there bs t) (term_there bs u) ∙ sym (as_append as_message bs (in_term t) (in_term u))

placed_both : (us vs : List Use) (a b : Bool) → a ≡ all_placed us → b ≡ all_placed vs → (a && b) ≡ all_placed (us ++ vs)
placed_both us vs a b e k = ap₂ (λ (c d : Bool). c && d) e k ∙ sym (placed_append us vs)

form_there : (bs : List Written) (f : Formula) → is_there (guarded_form bs f) ≡ all_placed (uses bs f)
form_there bs truth = refl
form_there bs falsity = refl
form_there bs (happens a i) =
    mapped_there _ (acts_at (placed_action bs a) (time_place (meant bs i.name)))
    ∙ acts_there (placed_action bs a) (time_place (meant bs i.name))
    ∙ placed_both (uses_as as_message bs (in_terms a.args)) (uses_as as_time bs (i ∷ [])) _ _ (mapped_there _ (placed_terms bs a.args) ∙ terms_there bs a.args) (time_there (meant bs i.name))
form_there bs (equals t u) = mapped_there _ (equality_at bs t u (term_time bs t) (term_time bs u)) ∙ equality_there bs t u (term_time bs t) (term_time bs u) refl refl
form_there bs (precedes i j) =
    mapped_there _ (before_at (time_place (meant bs i.name)) (time_place (meant bs j.name)))
    ∙ before_there (time_place (meant bs i.name)) (time_place (meant bs j.name))
    ∙ placed_both (uses_as as_time bs (i ∷ [])) (uses_as as_time bs (j ∷ [])) _ _ (time_there (meant bs i.name)) (time_there (meant bs j.name))
form_there bs (not_so f) = mapped_there negate (guarded_form bs f) ∙ form_there bs f
form_there bs (both f g) = forms_there _ (guarded_form bs f) (guarded_form bs g) ∙ placed_both (uses bs f) (uses bs g) _ _ (form_there bs f) (form_there bs g)
form_there bs (either f g) = forms_there _ (guarded_form bs f) (guarded_form bs g) ∙ placed_both (uses bs f) (uses bs g) _ _ (form_there bs f) (form_there bs g)
form_there bs (implies f g) =
    forms_there _ (option_map negate (guarded_form bs f)) (guarded_form bs g)
    ∙ placed_both (uses bs f) (uses bs g) _ _ (mapped_there negate (guarded_form bs f) ∙ form_there bs f) (form_there bs g)
form_there bs (for_all x f) = mapped_there _ (guarded_form (x ∷ bs) f) ∙ form_there (x ∷ bs) f
form_there bs (for_some x f) = mapped_there _ (guarded_form (x ∷ bs) f) ∙ form_there (x ∷ bs) f

pub form_placed : (n : List ℕ) (f : Formula) → is_there (guarded_form [] f) ≡ (are_none (unbound_uses n (uses [] f)) && are_none (mixed_uses n (uses [] f)))
form_placed n f = form_there [] f ∙ sym (none_placed n (uses [] f))

form_is : {A : Type 0} (o : Option A) → is_there o ≡ true → (x : A) × (o ≡ Some x)
form_is None e = absurd cc
form_is (Some x) e = (x, refl)

pub record LemmaClean (es : List Equation) (l : Lemma) : Type 0 where
  pub wide : are_none (wide_in_lemma l) ≡ true
  pub unbound : are_none (unbound_in_lemma l) ≡ true
  pub unguarded : are_none (unguarded_in_lemma es l) ≡ true
  pub plain : are_none (destructors_in_lemma es l) ≡ true
  pub sorts : are_none (sorts_in_lemma l) ≡ true
  pub mixed : are_none (mixed_in_lemma l) ≡ true

none_named : (n : List ℕ) (o : Option (List ℕ)) → are_none (unguarded_at n o) ≡ true → o ≡ None
none_named n None e = refl
none_named n (Some x) e = absurd cc

chosen_some : (f : Formula) (g : Guarded) → is_guarded g ≡ true → marks_fit [] f ≡ true → has_wide f ≡ false → if_right f (Some g) ≡ Some g
chosen_some f g e k w = ap (λ (b : Bool). if b then Some g else None) (both_true e (both_true k (not_from_false (has_wide f) w)))

pub clean_has_form : (es : List Equation) (l : Lemma) → LemmaClean es l → (g : Guarded) × (checked_form l.formula ≡ Some g)
clean_has_form es l c =
    let f = l.formula in
    let placed = form_there [] f ∙ sym (none_placed l.name (uses [] f)) ∙ both_true c.unbound c.mixed in
    let form = form_is (guarded_form [] f) placed in
    let looked = ap (λ (b : Bool). are_none (if b then unguarded_at l.name (first_unguarded f) else [])) (both_true c.plain (both_true c.unbound (both_true c.sorts c.mixed))) in
    let none = none_named l.name (first_unguarded f) (sym looked ∙ c.unguarded) in
    let guarded = (guarded_told f form.0 form.1).0 none in
    (form.0, ap (if_right f) form.1 ∙ chosen_some f form.0 guarded (sym (none_other l.name [] f) ∙ c.sorts) (not-true (has_wide f) (sym (none_wide f) ∙ c.wide)))

-- what a form without findings says
record Right (f : Formula) : Type 0 where
  form : Guarded
  form_is : guarded_form [] f ≡ Some form
  guarded : is_guarded form ≡ true
  fit : marks_fit [] f ≡ true
  narrow : has_wide f ≡ false

right_of : (f : Formula) (g : Guarded) → checked_form f ≡ Some g → Right f
right_of f g e = at (guarded_form [] f) refl e
  where
    by : (h : Guarded) → guarded_form [] f ≡ Some h → (b : Bool) → (is_guarded h && (marks_fit [] f && not (has_wide f))) ≡ b → (if b then Some h else None) ≡ Some g → Right f
    by h is true k again =
        let r = and_parts _ _ k in
        let s = and_parts _ _ r.1 in
        record { form = h; form_is = is; guarded = r.0; fit = s.0; narrow = not-true (has_wide f) s.1 }
    by h is false k again = absurd cc

    at : (o : Option Guarded) → guarded_form [] f ≡ o → if_right f o ≡ Some g → Right f
    at None is again = absurd cc
    at (Some h) is again = by h is (is_guarded h && (marks_fit [] f && not (has_wide f))) refl again

none_at : (n : List ℕ) (b : Bool) (o : Option (List ℕ)) → o ≡ None → are_none (if b then unguarded_at n o else []) ≡ true
none_at n true None e = refl
none_at n true (Some x) e = absurd cc
none_at n false o e = refl

pub form_is_clean : (es : List Equation) (l : Lemma) (g : Guarded) → checked_form l.formula ≡ Some g → are_none (destructors_in_lemma es l) ≡ true → LemmaClean es l
form_is_clean es l g e plain =
    let f = l.formula in
    let r = right_of f g e in
    let placed = and_parts _ _ (none_placed l.name (uses [] f) ∙ sym (form_there [] f) ∙ ap is_there r.form_is) in
    record {
      wide = none_wide f ∙ not_from_false (has_wide f) r.narrow;
      unbound = placed.0;
      unguarded = none_at l.name (are_none (destructors_in_lemma es l) && (are_none (unbound_in_lemma l) && (are_none (sorts_in_lemma l) && are_none (mixed_in_lemma l)))) (first_unguarded f)
          ((guarded_told f r.form r.form_is).1 r.guarded);
      plain = plain;
      sorts = none_other l.name [] f ∙ r.fit;
      mixed = placed.1;
    }
