-- Searches along the equations, as far as they have come.
use Rattle.std.proofs.Common.{◌≡◌, ◌<◌, ◌≤◌, ◌+◌, ℕ, zero, suc, List, [], ◌∷◌, map, length, get_or, ⊎_elim, refl, sym, ap, ◌∙◌, subst, arith}
use Rattle.std.proofs.lemmas.Bool.{cases_eq}
use Rattle.std.proofs.lemmas.Option.{slice_get_read}
use Rattle.sp_spec.proofs.Lists.{length_map, place_got, place_map, place_one}
use Rattle.sp_spec.specs.Lists.{AtPlace}
use Rattle.sp_spec.specs.Signature.{Symbol, Equation}
use Rattle.sp_spec.specs.Substitution.{Binding}
use Rattle.sp_law_conv.specs.Clash.{DoClash, DoClashBy}
use Rattle.sp_law_conv.specs.Accepted.{HasWrongShape, HasPrivateConstant, AreAccepted}
use Rattle.sp_law_conv.proofs.Places.{member_place}
use Rattle.sp_conv.specs.Check.{IsFirst, IsFirstClash, IsOfNone}
use Rattle.sp_conv.specs.Searches.{IsFirstBehind, NoneClashesBehind, NoTwoClash}
use Rattle.sp_conv.proofs.Forms.{else_well_formed}

-- ---- places

-- the item that a loop has come to
pub item_at : {A B : Type 0} (f : A → B) (ys xs : List A) (k : ℕ) (x : A) → ys ≡ xs → k < length ys → x ≡ get_or ys k x → AtPlace (map f xs) k (f x)
item_at {A} f ys xs k x same h e = place_map f xs k x (subst (λ (zs : List A). AtPlace zs k x) same (place_got ys k x (slice_get_read ys (length ys) k x refl h e)))

-- where the loop has come to the end
pub all_passed : {A B : Type 0} (f : A → B) (ys xs : List A) (k : ℕ) → ys ≡ xs → length ys ≤ k → length (map f xs) ≤ k
all_passed f ys xs k same h = subst (λ (n : ℕ). n ≤ k) (ap length same ∙ sym (length_map f xs)) h

place_below : {A : Type 0} (xs : List A) (k : ℕ) (x : A) → AtPlace xs k x → k < length xs
place_below [] k x a = absurd a
place_below (y ∷ xs) zero x a = omega arith
place_below (y ∷ xs) (suc k) x a = let l = place_below xs k x a in omega arith

-- ---- the first equation of which something is so

pub record NoneBefore (P : Equation → Type 0) (es : List Equation) (k : ℕ) : Type 0 where
  pub none : (j : ℕ) (e : Equation) → j < k → AtPlace es j e → P e → ⊥

module _ (P : Equation → Type 0) (es : List Equation) where
  pub none_more : (k : ℕ) (e : Equation) → AtPlace es k e → (P e → ⊥) → NoneBefore P es k → NoneBefore P es (k + 1)
  none_more k e stands not_so before = record {
    none = λ j d h a p.
        ⊎_elim (λ same. not_so (subst P (place_one es k d e (subst (λ (i : ℕ). AtPlace es i d) same a) stands) p))
        (λ other. let l : j < k = omega arith in before.none j d l a p) (cases_eq j k);
  }

  pub none_at_all : (k : ℕ) → length es ≤ k → NoneBefore P es k → IsOfNone P es
  none_at_all k h before = λ j e a p. let l = place_below es j e a in before.none j e (omega arith) a p

  pub first_found : (k : ℕ) (e : Equation) → AtPlace es k e → P e → NoneBefore P es k → IsFirst P es k
  first_found k e stands so before = record { equation = e; stands = stands; is_so = so; none_before = before.none }

-- ---- the first equation behind a place that clashes with the one there

pub record NoneBetween (es : List Equation) (j : ℕ) (first : Equation) (k : ℕ) : Type 0 where
  pub none : (l : ℕ) (e : Equation) → j < l → l < k → AtPlace es l e → DoClash first e → ⊥

module _ (es : List Equation) (j : ℕ) (first : Equation) where
  pub between_more : (k : ℕ) (e : Equation) → AtPlace es k e → (j < k → DoClash first e → ⊥) → NoneBetween es j first k → NoneBetween es j first (k + 1)
  between_more k e stands apart before = record {
    none = λ l d h i a c.
        ⊎_elim
        (λ same.
        apart (subst (λ (n : ℕ). j < n) same h) (subst (λ (z : Equation). DoClash first z) (place_one es k d e (subst (λ (n : ℕ). AtPlace es n d) same a) stands) c))
        (λ other. let m : l < k = omega arith in before.none l d h m a c) (cases_eq l k);
  }

  pub between_all : (k : ℕ) → length es ≤ k → NoneBetween es j first k → NoneClashesBehind es j first
  between_all k h before = record { none = λ l e i a c. let m = place_below es l e a in before.none l e i (omega arith) a c }

  pub behind_found : (k : ℕ) (e : Equation) (bs : List Binding) → AtPlace es k e → j < k → DoClashBy first e bs → NoneBetween es j first k → IsFirstBehind es j first k bs
  behind_found k e bs stands h clash before = record { second = e; stands = stands; behind = h; clash = clash; none_between = before.none }

-- ---- the first two equations that clash

pub record NoneClashBefore (es : List Equation) (k : ℕ) : Type 0 where
  pub none : (i l : ℕ) (d e : Equation) → AtPlace es i d → AtPlace es l e → i < l → i < k → DoClash d e → ⊥

module _ (es : List Equation) where
  pub none_clash_more : (k : ℕ) (first : Equation) → AtPlace es k first → NoneClashesBehind es k first → NoneClashBefore es k → NoneClashBefore es (k + 1)
  none_clash_more k first stands behind before = record {
    none = λ i l d e a b h m c.
        ⊎_elim
        (λ same.
        behind.none l e (subst (λ (n : ℕ). n < l) same h) b (subst (λ (z : Equation). DoClash z e) (place_one es k d first (subst (λ (n : ℕ). AtPlace es n d) same a) stands) c))
        (λ other. let n : i < k = omega arith in before.none i l d e a b h n c) (cases_eq i k);
  }

  pub none_clash_at_all : (k : ℕ) → length es ≤ k → NoneClashBefore es k → NoTwoClash es
  none_clash_at_all k m before = record { none = λ i l d e a b h c. let n = place_below es i d a in before.none i l d e a b h (omega arith) c }

  pub clash_found : (j k : ℕ) (first : Equation) (bs : List Binding) → AtPlace es j first → NoneClashBefore es j → IsFirstBehind es j first k bs → IsFirstClash es j k bs
  clash_found j k first bs stands before found = record {
    first = first;
    second = found.second;
    first_stands = stands;
    second_stands = found.stands;
    in_order = found.behind;
    clash = found.clash;
    none_before = λ i l d e a b h earlier c.
        ⊎_elim (λ m. before.none i l d e a b h m c)
        (λ m.
        found.none_between l e (subst (λ (n : ℕ). n < l) m.0 h) m.1 b (subst (λ (z : Equation). DoClash z e) (place_one es j d first (subst (λ (n : ℕ). AtPlace es n d) m.0 a) stands) c))
        earlier;
  }

-- ---- no fault

pub accepted : (symbols : List Symbol) (es : List Equation) → IsOfNone (HasWrongShape symbols es) es → IsOfNone (HasPrivateConstant symbols es) es → NoTwoClash es → AreAccepted symbols es
accepted symbols es shapes constants clashes = record {
  each = λ e m. let p = member_place es e m in else_well_formed symbols es e (shapes p.0 e p.1) (constants p.0 e p.1);
  agree = clashes.none;
}
