-- Lists that hold no more than others do.
use Rattle.std.proofs.Common.{◌≡◌, ⊎_elim, inl, inr, List, [], ◌∷◌, ◌++◌, refl, sym, subst, append_assoc}
use Rattle.std.proofs.lemmas.List.{append-nil}
use Rattle.sp_spec.specs.Lists.{Member, Distinct}
use Rattle.sp_spec.proofs.Lists.{member_left, member_right, member_either, distinct_right}

-- each element of the second stands in the first, and each at a place of its own
pub record Covers {A : Type 0} (xs ys : List A) : Type 0 where
  pub members : (z : A) → Member z ys → Member z xs
  pub distinct : (zs : List A) → Distinct (xs ++ zs) → Distinct (ys ++ zs)

module _ {A : Type 0} where
  pub covers_same : (xs ys : List A) → xs ≡ ys → Covers xs ys
  covers_same xs ys e = subst (λ (zs : List A). Covers xs zs) e (record { members = λ z m. m; distinct = λ zs d. d })

  pub covers_then : (xs ys zs : List A) → Covers xs ys → Covers ys zs → Covers xs zs
  covers_then xs ys zs a b = record { members = λ z m. a.members z (b.members z m); distinct = λ ws d. b.distinct ws (a.distinct ws d) }

  pub covers_cons : (x : A) (xs ys : List A) → Covers xs ys → Covers (x ∷ xs) (x ∷ ys)
  covers_cons x xs ys k = record {
    members = λ z m. ⊎_elim (λ e. inl e) (λ n. inr (k.members z n)) m;
    distinct = λ zs d. (
      λ m. ⊎_elim (λ a. d.0 (member_left x xs zs (k.members x a))) (λ b. d.0 (member_right x xs zs b)) (member_either x ys zs m),
      k.distinct zs d.1,
    );
  }

  pub covers_behind : (ws xs ys : List A) → Covers xs ys → Covers (ws ++ xs) (ws ++ ys)
  covers_behind [] xs ys k = k
  covers_behind (w ∷ ws) xs ys k = covers_cons w (ws ++ xs) (ws ++ ys) (covers_behind ws xs ys k)

  covers_swap : (x y : A) (zs : List A) → Covers (x ∷ y ∷ zs) (y ∷ x ∷ zs)
  covers_swap x y zs = record {
    members = λ z m. ⊎_elim (λ e. inr (inl e)) (λ n. ⊎_elim (λ e. inl e) (λ k. inr (inr k)) n) m;
    distinct = λ ws d. (λ m. ⊎_elim (λ e. d.0 (inl (sym e))) (λ k. d.1.0 k) m, ((λ k. d.0 (inr k)), d.1.1));
  }

  covers_one : (xs : List A) (y : A) (zs : List A) → Covers (xs ++ y ∷ zs) (y ∷ xs ++ zs)
  covers_one [] y zs = covers_same (y ∷ zs) (y ∷ zs) refl
  covers_one (x ∷ xs) y zs =
      covers_then (x ∷ xs ++ y ∷ zs) (x ∷ y ∷ xs ++ zs) (y ∷ x ∷ xs ++ zs)
      (covers_cons x (xs ++ y ∷ zs) (y ∷ xs ++ zs) (covers_one xs y zs))
      (covers_swap x y (xs ++ zs))

  -- a part is put to the front
  pub covers_moved : (xs ys zs : List A) → Covers (xs ++ (ys ++ zs)) (ys ++ (xs ++ zs))
  covers_moved xs [] zs = covers_same (xs ++ zs) (xs ++ zs) refl
  covers_moved xs (y ∷ ys) zs =
      covers_then (xs ++ (y ∷ (ys ++ zs))) (y ∷ (xs ++ (ys ++ zs))) (y ∷ (ys ++ (xs ++ zs)))
      (covers_one xs y (ys ++ zs))
      (covers_cons y (xs ++ (ys ++ zs)) (ys ++ (xs ++ zs)) (covers_moved xs ys zs))

  pub covers_right : (xs ys : List A) → Covers (xs ++ ys) ys
  covers_right xs ys = record {
    members = λ z m. member_right z xs ys m;
    distinct = λ zs d. distinct_right xs (ys ++ zs) (subst (λ (ws : List A). Distinct ws) (append_assoc xs ys zs) d);
  }

  pub covers_distinct : (xs ys : List A) → Covers xs ys → Distinct xs → Distinct ys
  covers_distinct xs ys k d =
      subst (λ (zs : List A). Distinct zs) (append-nil ys) (k.distinct [] (subst (λ (zs : List A). Distinct zs) (sym (append-nil xs)) d))

  covers_before : (xs ys zs : List A) → Covers xs ys → Covers (xs ++ zs) (ys ++ zs)
  covers_before xs ys zs k = record {
    members = λ z m. ⊎_elim (λ a. member_left z xs zs (k.members z a)) (λ b. member_right z xs zs b) (member_either z ys zs m);
    distinct = λ ws d.
        subst (λ (us : List A). Distinct us) (sym (append_assoc ys zs ws))
        (k.distinct (zs ++ ws) (subst (λ (us : List A). Distinct us) (append_assoc xs zs ws) d));
  }

  -- what was taken is added to what was used, and the rest stays
  pub covers_used : (all taken rest used : List A) → Covers all (taken ++ rest) → Covers (all ++ used) (rest ++ (taken ++ used))
  covers_used all taken rest used k =
      covers_then (all ++ used) ((taken ++ rest) ++ used) (rest ++ (taken ++ used)) (covers_before all (taken ++ rest) used k)
      (covers_then ((taken ++ rest) ++ used) (taken ++ (rest ++ used)) (rest ++ (taken ++ used))
      (covers_same ((taken ++ rest) ++ used) (taken ++ (rest ++ used)) (append_assoc taken rest used))
      (covers_moved taken rest used))

  -- what was taken is forgotten, and the rest stays
  pub covers_rest : (all taken rest used : List A) → Covers all (taken ++ rest) → Covers (all ++ used) (rest ++ used)
  covers_rest all taken rest used k = covers_before all rest used (covers_then all (taken ++ rest) rest k (covers_right taken rest))
