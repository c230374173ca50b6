-- What is new among what was used tells that nothing is used twice.
use Rattle.std.proofs.Common.{◌≡◌, ⊎_elim, Bool, true, false, not, List, [], ◌∷◌, ◌++◌, inl, inr, refl, sym, ap, ◌∙◌, subst, append_assoc, true≢false}
use Rattle.std.specs.Bool.{Decides}
use Rattle.std.proofs.lemmas.Bool.{and_parts, and_from, or_cases, or_left, or_right}
use Rattle.sp_spec.specs.Lists.{Member, Distinct, newest_first}
use Rattle.sp_spec.proofs.Lists.{member_left, member_right, member_either, distinct_apart, distinct_left}
use Rattle.sp_spec.specs.Log.{Entry}
use Rattle.sp_log.specs.Checking.{is_one_of, are_new}

-- none of them stands there, and none of them twice
pub record AreNew {A : Type 0} (before xs : List A) : Type 0 where
  pub apart : (x : A) → Member x xs → Member x before → ⊥
  pub once : Distinct xs

not_true : (b : Bool) → not b ≡ true → b ≡ true → ⊥
not_true true e t = true≢false (sym e)
not_true false e t = true≢false (sym t)

pub is_not : (b : Bool) → (b ≡ true → ⊥) → not b ≡ true
is_not true h = absurd (h refl)
is_not false h = refl

module _ {A : Type 0} (same : A → A → Bool) (decides : (x y : A) → Decides (same x y) (x ≡ y)) where
  pub one_tells : (ys : List A) (x : A) → is_one_of same ys x ≡ true → Member x ys
  one_tells [] x e = absurd cc
  one_tells (y ∷ ys) x e = ⊎_elim (λ h. inl ((decides y x).0 h)) (λ h. inr (one_tells ys x h)) (or_cases (same y x) (is_one_of same ys x) e)

  pub one_from : (ys : List A) (x : A) → Member x ys → is_one_of same ys x ≡ true
  one_from [] x m = absurd m
  one_from (y ∷ ys) x (inl e) = or_left (same y x) (is_one_of same ys x) ((decides y x).1 e)
  one_from (y ∷ ys) x (inr m) = or_right (same y x) (is_one_of same ys x) (one_from ys x m)

  new_tells : (before xs : List A) → are_new same before xs ≡ true → AreNew before xs
  new_tells before [] e = record { apart = λ x m k. m; once = tt }
  new_tells before (x ∷ xs) e =
      let both = and_parts (not (is_one_of same before x)) (are_new same (before ++ x ∷ []) xs) e in
      let rest = new_tells (before ++ x ∷ []) xs both.1 in
      record {
        apart = λ y m k.
            ⊎_elim
            (λ s. not_true (is_one_of same before x) both.0 (one_from before x (subst (λ (z : A). Member z before) (sym s) k)))
            (λ m'. rest.apart y m' (member_left y before (x ∷ []) k)) m;
        once = ((λ m. rest.apart x m (member_right x before (x ∷ []) (inl refl))), rest.once);
      }

  new_from : (before xs : List A) → AreNew before xs → are_new same before xs ≡ true
  new_from before [] h = refl
  new_from before (x ∷ xs) h =
      and_from _ _ (is_not (is_one_of same before x) (λ e. h.apart x (inl refl) (one_tells before x e)))
      (new_from (before ++ x ∷ []) xs (record {
        apart = λ y m k.
            ⊎_elim (λ b. h.apart y (inr m) b)
            (λ s. ⊎_elim (λ s'. h.once.0 (subst (λ (z : A). Member z xs) (sym s') m)) (λ no'. no') s)
            (member_either y before (x ∷ []) k);
        once = h.once.1;
      }))

distinct_joined : {A : Type 0} (xs ys : List A) → Distinct xs → Distinct ys → ((x : A) → Member x xs → Member x ys → ⊥) → Distinct (xs ++ ys)
distinct_joined [] ys d e h = e
distinct_joined (x ∷ xs) ys d e h = (
  λ m. ⊎_elim (λ k. d.0 k) (λ k. h x (inl refl) k) (member_either x xs ys m),
  distinct_joined xs ys d.1 e (λ y m k. h y (inr m) k),
)

-- of what each entry uses, and of all that a log's entries use
module _ {A : Type 0} (uses : Entry → List A) (all : List Entry → List A) (nothing : all [] ≡ [])
    (parts : (e : Entry) (es : List Entry) → all (e ∷ es) ≡ uses e ++ all es) where
  all_joined : (xs ys : List Entry) → all (xs ++ ys) ≡ all xs ++ all ys
  all_joined [] ys = ap (λ (zs : List A). zs ++ all ys) (sym nothing)
  all_joined (x ∷ xs) ys =
      parts x (xs ++ ys) ∙ ap (λ (zs : List A). uses x ++ zs) (all_joined xs ys) ∙ sym (append_assoc (uses x) (all xs) (all ys))
      ∙ ap (λ (zs : List A). zs ++ all ys) (sym (parts x xs))

  all_of_one : (x : Entry) → all (x ∷ []) ≡ uses x ++ []
  all_of_one x = parts x [] ∙ ap (λ (zs : List A). uses x ++ zs) nothing

  in_one : (x : Entry) (u : A) → Member u (all (x ∷ [])) → Member u (uses x)
  in_one x u m =
      ⊎_elim (λ k. k) (λ k. absurd k) (member_either u (uses x) [] (subst (λ (zs : List A). Member u zs) (all_of_one x) m))

  -- the order of the entries doesn't matter
  oldest_uses : (xs : List Entry) (u : A) → Member u (all (newest_first xs)) → Member u (all xs)
  oldest_uses [] u m = m
  oldest_uses (x ∷ xs) u m =
      subst (λ (zs : List A). Member u zs) (sym (parts x xs))
      (⊎_elim (λ k. member_right u (uses x) (all xs) (oldest_uses xs u k)) (λ k. member_left u (uses x) (all xs) (in_one x u k))
      (member_either u (all (newest_first xs)) (all (x ∷ [])) (subst (λ (zs : List A). Member u zs) (all_joined (newest_first xs) (x ∷ [])) m)))

  newest_uses : (xs : List Entry) (u : A) → Member u (all xs) → Member u (all (newest_first xs))
  newest_uses [] u m = m
  newest_uses (x ∷ xs) u m =
      subst (λ (zs : List A). Member u zs) (sym (all_joined (newest_first xs) (x ∷ [])))
      (⊎_elim
      (λ k. member_right u (all (newest_first xs)) (all (x ∷ [])) (subst (λ (zs : List A). Member u zs) (sym (all_of_one x)) (member_left u (uses x) [] k)))
      (λ k. member_left u (all (newest_first xs)) (all (x ∷ [])) (newest_uses xs u k))
      (member_either u (uses x) (all xs) (subst (λ (zs : List A). Member u zs) (parts x xs) m)))

  module _ (same : A → A → Bool) (decides : (x y : A) → Decides (same x y) (x ≡ y)) where
    -- behind a log that uses nothing twice
    pub new_decides : (earlier : List Entry) (e : Entry) → Distinct (all (newest_first earlier))
        → Decides (are_new same (all earlier) (uses e)) (Distinct (all (e ∷ newest_first earlier)))
    new_decides earlier e d = (
      λ t.
          let new = new_tells same decides (all earlier) (uses e) t in
          subst (λ (zs : List A). Distinct zs) (sym (parts e (newest_first earlier)))
          (distinct_joined (uses e) (all (newest_first earlier)) new.once d (λ u m k. new.apart u m (oldest_uses earlier u k))),
      λ h.
          let whole = subst (λ (zs : List A). Distinct zs) (parts e (newest_first earlier)) h in
          new_from same decides (all earlier) (uses e) (record {
            apart = λ u m k. distinct_apart u (uses e) (all (newest_first earlier)) whole m (newest_uses earlier u k);
            once = distinct_left (uses e) (all (newest_first earlier)) whole;
          }),
    )
