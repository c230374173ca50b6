-- What the search for side messages finds, and what it leaves out.
use Rattle.std.proofs.Common.{◌≡◌, ◌⊎◌, inl, inr, ◌<◌, ◌+◌, ℕ, zero, suc, List, [], ◌∷◌, Option, Some, None, option_map, option_and_then, refl, sym, ap, ◌∙◌, subst, arith}
use Rattle.std.proofs.lemmas.Bool.{cases_order}
use Rattle.std.proofs.lemmas.Option.{some_pair_parts}
use Rattle.std.specs.Option.{option_or}
use Rattle.sp_spec.specs.Lists.{AtPlace}
use Rattle.sp_spec.specs.Term.{Variable, Term, Terms, none, more, Ground, Grounds}
use Rattle.sp_spec.proofs.Options.{mapped, then_some}
use Rattle.sp_law_equal.specs.Matching.{Bound, matched, matched_all}
use Rattle.sp_destruct.specs.Links.{first_from, sides_from, AreAt, IsNotBefore}
use Rattle.sp_spec.proofs.Lists.{place_one}

-- the search goes on with what stands at this place, and with nothing before it
pub record FirstFound {A B : Type 0} (go_on : A → Option B) (place : ℕ) (xs : List A) (r : ℕ × B) : Type 0 where
  pub index : ℕ
  pub item : A
  pub at : AtPlace xs index item
  pub found : go_on item ≡ Some r.1
  pub same : r.0 ≡ place + index
  pub earlier : (j : ℕ) (x : A) → j < index → AtPlace xs j x → go_on x ≡ None

module _ {A B : Type 0} (go_on : A → Option B) where
  pub first_found : (place : ℕ) (xs : List A) (r : ℕ × B) → first_from go_on place xs ≡ Some r → FirstFound go_on place xs r
  first_found place [] r e = absurd cc
  first_found place (x ∷ xs) r e = by_first (go_on x) refl e (first_found (suc place) xs r)
    where
      none_before : (index : ℕ) → go_on x ≡ None → ((j : ℕ) (y : A) → j < index → AtPlace xs j y → go_on y ≡ None)
          → (j : ℕ) (y : A) → j < suc index → AtPlace (x ∷ xs) j y → go_on y ≡ None
      none_before index is next zero y l a = subst (λ (z : A). go_on z ≡ None) a is
      none_before index is next (suc j) y l a = next j y (omega arith) a

      by_first : (o : Option B) → go_on x ≡ o → option_or (option_map (λ found. (place, found)) o) (first_from go_on (suc place) xs) ≡ Some r
          → (first_from go_on (suc place) xs ≡ Some r → FirstFound go_on (suc place) xs r) → FirstFound go_on place (x ∷ xs) r
      by_first (Some b) is e' next =
          let both = some_pair_parts place r.0 b r.1 e' in
          let one : place ≡ r.0 = both.0 in
          record { index = zero; item = x; at = refl; found = is ∙ ap Some both.1; same = omega arith; earlier = λ j y l a. absurd (omega arith) }
      by_first None is e' next =
          let f = next e' in
          let i = f.index in
          let same : r.0 ≡ suc place + i = f.same in
          record { index = suc f.index; item = f.item; at = f.at; found = f.found; same = omega arith; earlier = none_before f.index is f.earlier }

  -- where nothing is found the search goes on with nothing
  pub none_first : (place : ℕ) (xs : List A) → first_from go_on place xs ≡ None → (k : ℕ) (x : A) → AtPlace xs k x → go_on x ≡ None
  none_first place [] e k x a = absurd a
  none_first place (y ∷ xs) e k x a = by_first (go_on y) refl e k a (none_first (suc place) xs)
    where
      by_first : (o : Option B) → go_on y ≡ o → option_or (option_map (λ found. (place, found)) o) (first_from go_on (suc place) xs) ≡ None
          → (j : ℕ) → AtPlace (y ∷ xs) j x → (first_from go_on (suc place) xs ≡ None → (i : ℕ) (z : A) → AtPlace xs i z → go_on z ≡ None) → go_on x ≡ None
      by_first (Some b) is e' j b' next = absurd cc
      by_first None is e' zero b next = subst (λ (z : A). go_on z ≡ None) b is
      by_first None is e' (suc j) b next = next e' j x b

  -- what it doesn't go on with is passed
  pub passes : (place : ℕ) (x : A) (xs : List A) → go_on x ≡ None → first_from go_on place (x ∷ xs) ≡ first_from go_on (place + 1) xs
  passes place x xs e =
      let next : suc place ≡ place + 1 = omega arith in
      ap (λ (o : Option B). option_or (option_map (λ found. (place, found)) o) (first_from go_on (suc place) xs)) e
      ∙ ap (λ (n : ℕ). first_from go_on n xs) next

-- the messages at these places match the side messages, beside the bindings
pub record Fits (learnt : List Ground) (sides : Terms Variable) (bs : List Bound) (places : List ℕ) : Type 0 where
  pub messages : Grounds
  pub at : AreAt learnt places messages
  pub bindings : List Bound
  pub matches : matched_all sides messages bs ≡ Some bindings

-- what fits has a first side message and others
pub record FitsFirst (learnt : List Ground) (side : Term Variable) (sides : Terms Variable) (bs : List Bound) (places : List ℕ) : Type 0 where
  pub place : ℕ
  pub rest : List ℕ
  pub same : places ≡ place ∷ rest
  pub message : Ground
  pub at : AtPlace learnt place message
  pub middle : List Bound
  pub matches : matched side message bs ≡ Some middle
  pub others : Fits learnt sides middle rest

module _ (learnt : List Ground) where
  pub fits_first : (side : Term Variable) (sides : Terms Variable) (bs : List Bound) (places : List ℕ) → Fits learnt (more side sides) bs places
      → FitsFirst learnt side sides bs places
  fits_first side sides bs places f = by_messages places f.messages f.at f.matches
    where
      by_messages : (places : List ℕ) (ms : Grounds) → AreAt learnt places ms → matched_all (more side sides) ms bs ≡ Some f.bindings
          → FitsFirst learnt side sides bs places
      by_messages [] none a e = absurd cc
      by_messages [] (more m ms) a e = absurd a
      by_messages (k ∷ ks) none a e = absurd a
      by_messages (k ∷ ks) (more m ms) a e =
          let h = then_some (λ (cs : List Bound). matched_all sides ms cs) (matched side m bs) f.bindings e in
          record {
            place = k;
            rest = ks;
            same = refl;
            message = m;
            at = a.0;
            middle = h.0;
            matches = h.1;
            others = record { messages = ms; at = a.1; bindings = f.bindings; matches = h.2 };
          }

  -- the places for the other side messages, where the message matches the first
  abbrev pub goes_on : Term Variable → Terms Variable → List Bound → Ground → Option (List ℕ)
  goes_on side sides bs m = option_and_then (λ cs. sides_from sides learnt cs) (matched side m bs)

  none_mapped : (o : Option (ℕ × List ℕ)) → option_map (λ r. r.0 ∷ r.1) o ≡ None → o ≡ None
  none_mapped None e = refl
  none_mapped (Some r) e = absurd cc

  -- where nothing is found nothing fits
  pub none_fits : (sides : Terms Variable) (bs : List Bound) → sides_from sides learnt bs ≡ None → (places : List ℕ) → Fits learnt sides bs places → ⊥
  none_fits none bs e places f = absurd cc
  none_fits (more side sides) bs e places f =
      let r = fits_first side sides bs places f in
      let no = none_first (goes_on side sides bs) zero learnt (none_mapped (first_from (goes_on side sides bs) zero learnt) e) r.place r.message r.at in
      none_fits sides r.middle (sym (ap (option_and_then (λ (cs : List Bound). sides_from sides learnt cs)) r.matches) ∙ no) r.rest r.others

  -- the places that are found fit, and none before them do
  pub record LeastFit (sides : Terms Variable) (bs : List Bound) (places : List ℕ) : Type 0 where
    pub fits : Fits learnt sides bs places
    pub least : (others : List ℕ) → Fits learnt sides bs others → IsNotBefore others places

  not_before : (places others : List ℕ) (k j : ℕ) (ks js : List ℕ) → places ≡ k ∷ ks → others ≡ j ∷ js → (k < j) ⊎ ((k ≡ j) × IsNotBefore js ks) → IsNotBefore others places
  not_before places others k j ks js e f h =
      subst (λ (x : List ℕ). IsNotBefore x places) (sym f) (subst (λ (x : List ℕ). IsNotBefore (j ∷ js) x) (sym e) h)

  fits_more : (side : Term Variable) (sides : Terms Variable) (bs : List Bound) (places : List ℕ) (k : ℕ) (ks : List ℕ) (m : Ground) (middle : List Bound) → places ≡ k ∷ ks
      → AtPlace learnt k m → matched side m bs ≡ Some middle → Fits learnt sides middle ks → Fits learnt (more side sides) bs places
  fits_more side sides bs places k ks m middle same at is f = record {
    messages = more m f.messages;
    at = subst (λ (x : List ℕ). AreAt learnt x (more m f.messages)) (sym same) (at, f.at);
    bindings = f.bindings;
    matches = ap (option_and_then (λ (cs : List Bound). matched_all sides f.messages cs)) is ∙ f.matches;
  }

  pub sides_found : (sides : Terms Variable) (bs : List Bound) (places : List ℕ) → sides_from sides learnt bs ≡ Some places → LeastFit sides bs places
  sides_found none bs places e =
      let is : places ≡ [] = cc in
      record {
        fits = record { messages = none; at = subst (λ (x : List ℕ). AreAt learnt x none) (sym is) tt; bindings = bs; matches = refl };
        least = λ others f. subst (λ (x : List ℕ). IsNotBefore others x) (sym is) (nothing_before others);
      }
    where
      nothing_before : (others : List ℕ) → IsNotBefore others []
      nothing_before [] = tt
      nothing_before (k ∷ ks) = tt
  sides_found (more side sides) bs places e =
      let q = mapped (λ (x : ℕ × List ℕ). x.0 ∷ x.1) (first_from (goes_on side sides bs) zero learnt) places e in
      let r = first_found (goes_on side sides bs) zero learnt q.0 q.1 in
      let h = then_some (λ (cs : List Bound). sides_from sides learnt cs) (matched side r.item bs) q.0.1 r.found in
      let next = sides_found sides h.0 q.0.1 h.2 in
      let i = r.index in
      let from : q.0.0 ≡ zero + i = r.same in
      let here : q.0.0 ≡ i = omega arith in
      let same : places ≡ i ∷ q.0.1 = q.2 ∙ ap (λ (k : ℕ). k ∷ q.0.1) here in
      record {
        fits = fits_more side sides bs places i q.0.1 r.item h.0 same r.at h.1 next.fits;
        least = λ others f.
            let g = fits_first side sides bs others f in
            not_before places others i g.place q.0.1 g.rest same g.same
            (by_order side sides bs i g.place q.0.1 g.rest r.item g.message h.0 g.middle r.at g.at h.1 g.matches next.least g.others r.earlier
            (cases_order i g.place));
      }
    where
      by_order : (side : Term Variable) (sides : Terms Variable) (bs : List Bound) (k j : ℕ) (ks js : List ℕ) (m n : Ground) (cs ds : List Bound) → AtPlace learnt k m
          → AtPlace learnt j n → matched side m bs ≡ Some cs → matched side n bs ≡ Some ds
          → ((others : List ℕ) → Fits learnt sides cs others → IsNotBefore others ks)
          → Fits learnt sides ds js
          → ((l : ℕ) (x : Ground) → l < k → AtPlace learnt l x → goes_on side sides bs x ≡ None)
          → (k ≡ j) ⊎ ((k < j) ⊎ (j < k)) → (k < j) ⊎ ((k ≡ j) × IsNotBefore js ks)
      by_order side sides bs k j ks js m n cs ds a b e f least fits earlier (inl o) =
          let one : n ≡ m = place_one learnt k n m (subst (λ (x : ℕ). AtPlace learnt x n) (sym o) b) a in
          let is : matched side n bs ≡ matched side m bs = ap (λ (x : Ground). matched side x bs) one in
          let both : ds ≡ cs = cc in
          inr (o, least js (subst (λ (x : List Bound). Fits learnt sides x js) both fits))
      by_order side sides bs k j ks js m n cs ds a b e f least fits earlier (inr (inl o)) = inl o
      by_order side sides bs k j ks js m n cs ds a b e f least fits earlier (inr (inr o)) =
          absurd (none_fits sides ds (sym (ap (option_and_then (λ (xs : List Bound). sides_from sides learnt xs)) f) ∙ earlier j n o b) js fits)
