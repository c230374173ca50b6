-- Events in their order: each stands as often as before, and behind those that are before it.
use Rattle.std.proofs.Common.{◌≡◌, ℕ, zero, suc, Bool, true, false, ◌||◌, if◌then◌else◌, List, [], ◌∷◌, ◌++◌, length, Option, Some, None, option_map, option_and_then, refl, sym, ap, ◌∙◌, subst, arith}
use Rattle.std.specs.List.Sorted.{IsPermutation}
use Rattle.std.proofs.lemmas.List.Sorted.{IsPermutation-refl, IsPermutation-trans, IsPermutation-cons, IsPermutation-middle}
use Rattle.sp_spec.specs.Lists.{Every}
use Rattle.sp_spec.proofs.Lists.{every_parts, every_append}
use Rattle.sp_spec_system.specs.System.{Event}
use Rattle.sp_spec_system.specs.Order.{is_before}
use Rattle.sp_spec_solved.specs.Listing.{some_before, passed, first_free, one_by_one}
use Rattle.sp_law_candidate.specs.Laws.{StandBehind}

-- what is taken stands between two parts, and none that was left is before it
pub record IsTaken (order : List (ℕ × ℕ)) (left events : List Event) (e : Event) (others : List Event) : Type 0 where
  pub front : List Event
  pub back : List Event
  pub were : events ≡ front ++ e ∷ back
  pub are : others ≡ front ++ back
  pub free : some_before order left e.time ≡ false

some_cons : (e d : Event) (es others : List Event) (o : Option (Event × List Event)) → option_map (passed e) o ≡ Some (d, others)
    → (rest : List Event) × (o ≡ Some (d, rest)) × (others ≡ e ∷ rest)
some_cons e d es others None k = absurd cc
some_cons e d es others (Some p) k =
    let pair : passed e p ≡ (d, others) = cc in
    (p.1, ap (λ (a : Event). Some (a, p.1)) (ap (λ (q : Event × List Event). q.0) pair), sym (ap (λ (q : Event × List Event). q.1) pair))

pub taken : (order : List (ℕ × ℕ)) (left es : List Event) (d : Event) (others : List Event) → first_free order left es ≡ Some (d, others) → IsTaken order left es d others
taken order left [] d others k = absurd cc
taken order left (e ∷ es) d others k = at (some_before order left e.time) refl k (λ rest l. taken order left es d rest l)
  where
    at : (b : Bool) → some_before order left e.time ≡ b
        → (if b then option_map (passed e) (first_free order left es) else Some (e, es)) ≡ Some (d, others)
        → ((rest : List Event) → first_free order left es ≡ Some (d, rest) → IsTaken order left es d rest) → IsTaken order left (e ∷ es) d others
    at true s l later =
        let r = some_cons e d es others (first_free order left es) l in
        let t = later r.0 r.1 in
        record { front = e ∷ t.front; back = t.back; were = ap (λ (xs : List Event). e ∷ xs) t.were; are = r.2 ∙ ap (λ (xs : List Event). e ∷ xs) t.are; free = t.free }
    at false s l later =
        let both : Event × List Event = (e, es) in
        let pair : both ≡ (d, others) = cc in
        let first : e ≡ d = ap (λ (q : Event × List Event). q.0) pair in
        record {
          front = [];
          back = es;
          were = ap (λ (a : Event). a ∷ es) first;
          are = sym (ap (λ (q : Event × List Event). q.1) pair);
          free = sym (ap (λ (a : Event). some_before order left a.time) first) ∙ s;
        }

-- ---- one after the other

some_first : (d : Event) (listed : List Event) (o : Option (List Event)) → option_map (λ (es : List Event). d ∷ es) o ≡ Some listed → (rest : List Event) × (o ≡ Some rest) × (listed ≡ d ∷ rest)
some_first d listed None k = absurd cc
some_first d listed (Some es) k = (es, refl, sym (let g : d ∷ es ≡ listed = cc in g))

pub record IsNext (order : List (ℕ × ℕ)) (n : ℕ) (left listed : List Event) : Type 0 where
  pub event : Event
  pub others : List Event
  pub rest : List Event
  pub is : first_free order left left ≡ Some (event, others)
  pub then_listed : one_by_one n order others ≡ Some rest
  pub begins : listed ≡ event ∷ rest

next : (order : List (ℕ × ℕ)) (n : ℕ) (left listed : List Event) → one_by_one (suc n) order left ≡ Some listed → IsNext order n left listed
next order n left listed k = at (first_free order left left) refl k
  where
    at : (o : Option (Event × List Event)) → first_free order left left ≡ o
        → option_and_then (λ (p : Event × List Event). option_map (λ (es : List Event). p.0 ∷ es) (one_by_one n order p.1)) o ≡ Some listed → IsNext order n left listed
    at None s l = absurd cc
    at (Some p) s l =
        let r = some_first p.0 listed (one_by_one n order p.1) l in
        record { event = p.0; others = p.1; rest = r.0; is = s; then_listed = r.1; begins = r.2 }

pub length_middle : (front : List Event) (e : Event) (back : List Event) → length (front ++ e ∷ back) ≡ suc (length (front ++ back))
length_middle [] e back = refl
length_middle (f ∷ front) e back = ap suc (length_middle front e back)

pub all_listed : (order : List (ℕ × ℕ)) (n : ℕ) (left listed : List Event) → length left ≡ n → one_by_one n order left ≡ Some listed → IsPermutation left listed
all_listed order zero [] listed h k = subst (λ (es : List Event). IsPermutation [] es) (let none : List Event = [] in let g : none ≡ listed = cc in g) (IsPermutation-refl [])
all_listed order zero (e ∷ es) listed h k = absurd (omega arith)
all_listed order (suc n) left listed h k =
    let r = next order n left listed k in
    let t = taken order left left r.event r.others r.is in
    let count : length r.others ≡ n = ap length t.are ∙ (let m = length_middle t.front r.event t.back in let w = ap length t.were in omega arith) in
    let inner : IsPermutation (t.front ++ t.back) r.rest = subst (λ (es : List Event). IsPermutation es r.rest) t.are (all_listed order n r.others r.rest count r.then_listed) in
    let whole : IsPermutation (t.front ++ r.event ∷ t.back) (r.event ∷ r.rest) =
    IsPermutation-trans (t.front ++ r.event ∷ t.back) (r.event ∷ (t.front ++ t.back)) (r.event ∷ r.rest)
    (IsPermutation-middle t.front r.event t.back) (IsPermutation-cons r.event (t.front ++ t.back) r.rest inner) in
    let left_is : IsPermutation left (r.event ∷ r.rest) = subst (λ (es : List Event). IsPermutation es (r.event ∷ r.rest)) (sym t.were) whole in
    subst (λ (es : List Event). IsPermutation left es) (sym r.begins) left_is

-- what holds of each event holds of each that is listed
pub every_listed : (P : Event → Type 0) (order : List (ℕ × ℕ)) (n : ℕ) (left listed : List Event) → one_by_one n order left ≡ Some listed → Every P left → Every P listed
every_listed P order zero left listed k h = subst (Every P) (let none : List Event = [] in let g : none ≡ listed = cc in g) tt
every_listed P order (suc n) left listed k h =
    let r = next order n left listed k in
    let t = taken order left left r.event r.others r.is in
    let parts = every_parts P t.front (r.event ∷ t.back) (subst (Every P) t.were h) in
    let others : Every P r.others = subst (Every P) (sym t.are) (every_append P t.front t.back parts.0 parts.1.1) in
    subst (Every P) (sym r.begins) (parts.1.0, every_listed P order n r.others r.rest r.then_listed others)

-- and what holds of each that is listed held of each event
pub every_left : (P : Event → Type 0) (order : List (ℕ × ℕ)) (n : ℕ) (left listed : List Event) → length left ≡ n → one_by_one n order left ≡ Some listed → Every P listed → Every P left
every_left P order zero [] listed h k each = tt
every_left P order zero (e ∷ es) listed h k each = absurd (omega arith)
every_left P order (suc n) left listed h k each =
    let r = next order n left listed k in
    let t = taken order left left r.event r.others r.is in
    let count : length r.others ≡ n = ap length t.are ∙ (let m = length_middle t.front r.event t.back in let w = ap length t.were in omega arith) in
    let parts : P r.event × Every P r.rest = subst (Every P) r.begins each in
    let others : Every P (t.front ++ t.back) = subst (Every P) t.are (every_left P order n r.others r.rest count r.then_listed parts.1) in
    let around = every_parts P t.front t.back others in
    subst (Every P) (sym t.were) (every_append P t.front (r.event ∷ t.back) around.0 (parts.0, around.1))

none_before : (order : List (ℕ × ℕ)) (es : List Event) (i : ℕ) → some_before order es i ≡ false → Every (λ (f : Event). is_before order f.time i ≡ false) es
none_before order [] i k = tt
none_before order (e ∷ es) i k = let both = neither (is_before order e.time i) (some_before order es i) k in (both.0, none_before order es i both.1)
  where
    neither : (a b : Bool) → (a || b) ≡ false → (a ≡ false) × (b ≡ false)
    neither true b e = absurd cc
    neither false b e = (refl, e)

pub stand_behind : (order : List (ℕ × ℕ)) (n : ℕ) (left listed : List Event) → one_by_one n order left ≡ Some listed → StandBehind order listed
stand_behind order zero left listed k = subst (StandBehind order) (let none : List Event = [] in let g : none ≡ listed = cc in g) tt
stand_behind order (suc n) left listed k =
    let r = next order n left listed k in
    let t = taken order left left r.event r.others r.is in
    let P : Event → Type 0 = λ f. is_before order f.time r.event.time ≡ false in
    let none : Every P listed = every_listed P order (suc n) left listed k (none_before order left r.event.time t.free) in
    subst (StandBehind order) (sym r.begins) (subst (Every P) r.begins none, stand_behind order n r.others r.rest r.then_listed)
