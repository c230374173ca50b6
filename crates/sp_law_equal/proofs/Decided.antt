-- Either it is so or it isn't, for what the tests decide.
use Rattle.std.proofs.Common.{◌≡◌, ◌⊎◌, ⊎_elim, inl, inr, ℕ, List, [], Option, Some, None, Bool, true, false, refl, sym, subst, true≢false}
use Rattle.std.specs.Bool.{Decides}
use Rattle.std.specs.Str.{bytes_eq}
use Rattle.std.proofs.lemmas.Slice.Eq.{bytes_eq-Decides}
use Rattle.sp_spec.specs.Lists.{Classically}
use Rattle.sp_spec.specs.Term.{Variable, Term, Ground, Grounds}
use Rattle.sp_spec.specs.Signature.{Equation}
use Rattle.sp_spec.specs.Equal.{Equal, EqualAll, IsNormal}
use Rattle.sp_spec.specs.Same.{same_term, same_terms}
use Rattle.sp_law_equal.specs.Matching.{Bound, IsMatch, NoneMatches, matched}
use Rattle.sp_law_equal.specs.NormalForms.{HaveNormalForms}
use Rattle.sp_law_equal.specs.Normal.{normal, normal_all}
use Rattle.sp_spec.proofs.Same.{same_term_decides, same_terms_decides}
use Rattle.sp_law_equal.proofs.Matches.{is_match, none_matches}
use Rattle.sp_law_equal.proofs.Forms.{decides_all, normal_of_normal}

pub or_not : {P : Type 0} (b : Bool) → Decides b P → P ⊎ (P → ⊥)
or_not true d = inl (d.0 refl)
or_not false d = inr (λ p. true≢false (sym (d.1 p)))

-- by what it is equivalent to
pub or_not_by : {P Q : Type 0} → (P → Q) → (Q → P) → P ⊎ (P → ⊥) → Q ⊎ (Q → ⊥)
or_not_by to from h = ⊎_elim (λ p. inl (to p)) (λ n. inr (λ q. n (from q))) h

-- what is decided holds where it holds classically
pub stable_from : {P : Type 0} → P ⊎ (P → ⊥) → Classically P → P
stable_from h c = ⊎_elim (λ p. p) (λ n. absurd (c n)) h

pub same_text_or_not : (f g : List ℕ) → (f ≡ g) ⊎ (f ≡ g → ⊥)
same_text_or_not f g = or_not (bytes_eq f g) (bytes_eq-Decides f g)

pub same_term_or_not : (t u : Ground) → (t ≡ u) ⊎ (t ≡ u → ⊥)
same_term_or_not t u = or_not (same_term t u) (same_term_decides t u)

pub same_terms_or_not : (ts us : Grounds) → (ts ≡ us) ⊎ (ts ≡ us → ⊥)
same_terms_or_not ts us = or_not (same_terms ts us) (same_terms_decides ts us)

-- the pattern matches the term, or doesn't
pub match_or_none : (p : Term Variable) (t : Ground) → ((bs : List Bound) × IsMatch p t bs) ⊎ NoneMatches p t
match_or_none p t = by_answer (matched p t []) refl
  where
    by_answer : (o : Option (List Bound)) → matched p t [] ≡ o → ((bs : List Bound) × IsMatch p t bs) ⊎ NoneMatches p t
    by_answer None e = inr (none_matches p t e)
    by_answer (Some bs) e = inl (bs, is_match p t bs e)

module _ (es : List Equation) (good : HaveNormalForms es) where
  pub equal_or_not : (t u : Ground) → Equal es t u ⊎ (Equal es t u → ⊥)
  equal_or_not t u = let d = good.decides t u in or_not_by d.1 d.0 (same_term_or_not (normal es t) (normal es u))

  pub equal_all_or_not : (ts us : Grounds) → EqualAll es ts us ⊎ (EqualAll es ts us → ⊥)
  equal_all_or_not ts us = let d = decides_all es good ts us in or_not_by d.1 d.0 (same_terms_or_not (normal_all es ts) (normal_all es us))

  pub normal_or_not : (t : Ground) → IsNormal es t ⊎ (IsNormal es t → ⊥)
  normal_or_not t =
      or_not_by (λ e. subst (λ (u : Ground). IsNormal es u) e (good.is_normal t)) (normal_of_normal es t) (same_term_or_not (normal es t) t)

  -- terms that are classically equal are equal
  pub equal_stable : (t u : Ground) → Classically (Equal es t u) → Equal es t u
  equal_stable t u c = stable_from (equal_or_not t u) c

  pub equal_all_stable : (ts us : Grounds) → Classically (EqualAll es ts us) → EqualAll es ts us
  equal_all_stable ts us c = stable_from (equal_all_or_not ts us) c
