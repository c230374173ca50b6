-- Parts that are read one after the other.
use Rattle.std.proofs.Common.{◌≡◌, List, [], ◌∷◌, ◌++◌, refl, subst, append_assoc}
use Rattle.sp_spec_text.specs.Signs.{Sign}
use Rattle.sp_spec_text.specs.Signs as s
use Rattle.sp_spec_text.specs.Token.{Lexeme, sign}
use Rattle.sp_spec_text.specs.Lists.{IsNotFirst, NoReading, AreParts, last, next, AreItems, empty, some}
use Rattle.sp_read_parts.proofs.One.{One}

-- these parts, each with the sign behind it, stand before the rest
pub record Going {A : Type 0} (R : List Lexeme → A → List Lexeme → Type 0) (between close : Sign) (tokens : List Lexeme) (found : List A) (rest : List Lexeme) : Type 0 where
  pub goes : (xs : List A) (r : List Lexeme) → AreParts R between close rest xs r → AreParts R between close tokens (found ++ xs) r
  pub stops : NoReading (AreParts R between close) rest → NoReading (AreParts R between close) tokens

pub going_none : {A : Type 0} (R : List Lexeme → A → List Lexeme → Type 0) (between close : Sign) (tokens : List Lexeme) → Going R between close tokens [] tokens
going_none _ _ _ _ = record { goes = λ xs r h. h; stops = λ h. h }

-- behind a part and the sign between two, no parts follow
no_more : {A : Type 0} {R : List Lexeme → A → List Lexeme → Type 0} {between close : Sign} → One R → (between ≡ close → ⊥) → {rest mid after : List Lexeme} {x : A} → R rest x mid → mid ≡ sign between ∷ after
    → NoReading (AreParts R between close) after → NoReading (AreParts R between close) rest
no_more {A} {R} {between} {close} o d {after = after} h e n = record { none = λ xs r k. at k h e n }
  where
    at : {ts r mid after : List Lexeme} {xs : List A} {x : A} → AreParts R between close ts xs r → R ts x mid → mid ≡ sign between ∷ after → NoReading (AreParts R between close) after → ⊥
    at (last k) h e n = let i = (o.one h k).1 in d cc
    at {after = after} (next {xs = xs} {mid = m} {rest = r} k l) h e n = let i = (o.one h k).1 in let f : m ≡ after = cc in n.none xs r (subst (λ (ts : List Lexeme). AreParts R between close ts xs r) f l)

pub going_more : {A : Type 0} {R : List Lexeme → A → List Lexeme → Type 0} {between close : Sign} → One R → (between ≡ close → ⊥) → {tokens rest mid after : List Lexeme} {found : List A} {x : A}
    → Going R between close tokens found rest → R rest x mid → mid ≡ sign between ∷ after → Going R between close tokens (found ++ x ∷ []) after
going_more {R = R} o d {rest = rest} {x = x} g h e = record {
  goes = λ xs r k. rw append_assoc (g.goes (x ∷ xs) r (next (subst (λ (ts : List Lexeme). R rest x ts) e h) k));
  stops = λ n. g.stops (no_more o d h e n);
}

pub going_last : {A : Type 0} {R : List Lexeme → A → List Lexeme → Type 0} {between close : Sign} {tokens rest mid end : List Lexeme} {found : List A} {x : A}
    → Going R between close tokens found rest → R rest x mid → mid ≡ sign close ∷ end → AreParts R between close tokens (found ++ x ∷ []) end
going_last {R = R} {rest = rest} {end = end} {x = x} g h e = g.goes (x ∷ []) end (last (subst (λ (ts : List Lexeme). R rest x ts) e h))

pub going_no_part : {A : Type 0} {R : List Lexeme → A → List Lexeme → Type 0} {between close : Sign} {tokens rest : List Lexeme} {found : List A}
    → Going R between close tokens found rest → NoReading R rest → NoReading (AreParts R between close) tokens
going_no_part {A} {R} {between} {close} g n = g.stops (record { none = λ xs r k. at k n })
  where
    at : {ts r : List Lexeme} {xs : List A} → AreParts R between close ts xs r → NoReading R ts → ⊥
    at (last {x = x} {rest = r} k) n = n.none x (sign close ∷ r) k
    at (next {x = x} {mid = m} k l) n = n.none x (sign between ∷ m) k

pub going_no_sign : {A : Type 0} {R : List Lexeme → A → List Lexeme → Type 0} {between close : Sign} → One R → {tokens rest mid : List Lexeme} {found : List A} {x : A}
    → Going R between close tokens found rest → R rest x mid → IsNotFirst (sign close) mid → IsNotFirst (sign between) mid → NoReading (AreParts R between close) tokens
going_no_sign {A} {R} {between} {close} o g h c b = g.stops (record { none = λ xs r k. at k h c b })
  where
    at : {ts r mid : List Lexeme} {xs : List A} {x : A} → AreParts R between close ts xs r → R ts x mid → IsNotFirst (sign close) mid → IsNotFirst (sign between) mid → ⊥
    at (last {rest = r} k) h c b = c r (o.one h k).1
    at (next {mid = m} k l) h c b = b m (o.one h k).1

pub items_empty : {A : Type 0} (R : List Lexeme → A → List Lexeme → Type 0) (close : Sign) {tokens rest : List Lexeme} → tokens ≡ sign close ∷ rest → AreItems R close tokens [] rest
items_empty _ _ e = rw e empty

pub no_items : {A : Type 0} {R : List Lexeme → A → List Lexeme → Type 0} {close : Sign} {tokens : List Lexeme} → IsNotFirst (sign close) tokens → NoReading (AreParts R s.Comma close) tokens → NoReading (AreItems R close) tokens
no_items {A} {R} {close} d n = record { none = λ xs r k. at k d n }
  where
    at : {ts r : List Lexeme} {xs : List A} → AreItems R close ts xs r → IsNotFirst (sign close) ts → NoReading (AreParts R s.Comma close) ts → ⊥
    at (empty {rest = r}) d n = d r refl
    at (some {xs = xs} {rest = r} k) d n = n.none xs r k

pub ruleset loops = (going_none, going_more, going_last, going_no_part, going_no_sign, items_empty, some, no_items)
