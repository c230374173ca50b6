-- Lists that are not as long as each other have no element beside each.
use Rattle.std.proofs.Common.{◌≡◌, ◌⊎◌, ⊎_elim, arith, suc, false, List, [], ◌∷◌, length, Option, Some, None, option_and_then, refl, ap}
use Rattle.sp_spec.specs.Term.{Variable, Grounds, none, more}
use Rattle.sp_spec.specs.Rule.{Fact, Action, Declared}
use Rattle.sp_spec.specs.Log.{Source, Entry, linear_sources}
use Rattle.sp_law_equal.specs.Matching.{Bound, matched_all}
use Rattle.sp_law_log_steps.specs.Found.{matched_facts, matched_actions, given_to}
use Rattle.sp_log.specs.Checking.{alike_facts, alike_actions, has_source, have_sources}
use Rattle.std.proofs.lemmas.Bool.{and_right}

pub uneven_facts : (fs : List (Fact Variable)) (gs : List (Fact ⊥)) → (length fs ≡ length gs → ⊥) → alike_facts fs gs ≡ false
uneven_facts [] [] n = absurd (n refl)
uneven_facts [] (g ∷ gs) n = refl
uneven_facts (f ∷ fs) [] n = refl
uneven_facts (f ∷ fs) (g ∷ gs) n = and_right _ (alike_facts fs gs) (uneven_facts fs gs (λ e. n (ap suc e)))

pub uneven_actions : (xs : List (Action Variable)) (ys : List (Action ⊥)) → (length xs ≡ length ys → ⊥) → alike_actions xs ys ≡ false
uneven_actions [] [] n = absurd (n refl)
uneven_actions [] (y ∷ ys) n = refl
uneven_actions (x ∷ xs) [] n = refl
uneven_actions (x ∷ xs) (y ∷ ys) n = and_right _ (alike_actions xs ys) (uneven_actions xs ys (λ e. n (ap suc e)))

pub uneven_sources : (fs : List (Fact ⊥)) (os : List Source) (earlier : List Entry) → (length fs ≡ length os → ⊥) → have_sources fs os earlier ≡ false
uneven_sources [] [] earlier n = absurd (n refl)
uneven_sources [] (o ∷ os) earlier n = refl
uneven_sources (f ∷ fs) [] earlier n = refl
uneven_sources (f ∷ fs) (o ∷ os) earlier n = and_right (has_source f o earlier) (have_sources fs os earlier) (uneven_sources fs os earlier (λ e. n (ap suc e)))

none_later : (o : Option (List Bound)) (next : List Bound → Option (List Bound)) → ((cs : List Bound) → next cs ≡ None) → option_and_then next o ≡ None
none_later None next h = refl
none_later (Some cs) next h = h cs

pub uneven_matched : (fs : List (Fact Variable)) (gs : List (Fact ⊥)) (bs : List Bound) → (length fs ≡ length gs → ⊥) → matched_facts fs gs bs ≡ None
uneven_matched [] [] bs n = absurd (n refl)
uneven_matched [] (g ∷ gs) bs n = refl
uneven_matched (f ∷ fs) [] bs n = refl
uneven_matched (f ∷ fs) (g ∷ gs) bs n =
    none_later (matched_all f.args g.args bs) (λ cs. matched_facts fs gs cs) (λ cs. uneven_matched fs gs cs (λ e. n (ap suc e)))

pub uneven_matched_actions : (xs : List (Action Variable)) (ys : List (Action ⊥)) (bs : List Bound) → (length xs ≡ length ys → ⊥) → matched_actions xs ys bs ≡ None
uneven_matched_actions [] [] bs n = absurd (n refl)
uneven_matched_actions [] (y ∷ ys) bs n = refl
uneven_matched_actions (x ∷ xs) [] bs n = refl
uneven_matched_actions (x ∷ xs) (y ∷ ys) bs n =
    none_later (matched_all x.args y.args bs) (λ cs. matched_actions xs ys cs) (λ cs. uneven_matched_actions xs ys cs (λ e. n (ap suc e)))

-- where one list has ended, no linear source is left
pub no_sources : (fs : List (Fact ⊥)) (os : List Source) → (length fs ≡ 0) ⊎ (length os ≡ 0) → linear_sources fs os ≡ []
no_sources [] os h = refl
no_sources (f ∷ fs) [] h = refl
no_sources (f ∷ fs) (o ∷ os) h = absurd (⊎_elim (λ k. omega (arith, k)) (λ k. omega (arith, k)) h)

-- where one list has ended, no name is given a value
pub none_given : (ds : List Declared) (ts : Grounds) → (ds ≡ []) ⊎ (ts ≡ none) → given_to ds ts ≡ []
none_given [] ts h = refl
none_given (d ∷ ds) none h = refl
none_given (d ∷ ds) (more t ts) h = ⊎_elim (λ e. absurd cc) (λ e. absurd cc) h
