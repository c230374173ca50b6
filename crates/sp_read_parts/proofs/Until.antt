-- Parts that are read one behind the other, up to a token that begins none of them.
use Rattle.std.proofs.Common.{◌≡◌, List, [], ◌∷◌, ◌++◌, sym, subst, append_assoc}
use Rattle.sp_spec_text.specs.Token.{Lexeme}
use Rattle.sp_spec_text.specs.Lists.{IsNotFirst, NoReading}
use Rattle.sp_read_parts.specs.Parts.{AreUntil, last_one, one_more}
use Rattle.sp_read_parts.proofs.One.{One, variables'}

-- these parts stand before the rest
pub record Until {A : Type 0} (R : List Lexeme → A → List Lexeme → Type 0) (close : Lexeme) (tokens : List Lexeme) (found : List A) (rest : List Lexeme) : Type 0 where
  pub goes : (xs : List A) (r : List Lexeme) → AreUntil R close rest xs r → AreUntil R close tokens (found ++ xs) r
  pub stops : NoReading (AreUntil R close) rest → NoReading (AreUntil R close) tokens

pub until_none : {A : Type 0} (R : List Lexeme → A → List Lexeme → Type 0) (close : Lexeme) (tokens : List Lexeme) → Until R close tokens [] tokens
until_none _ _ tokens = record { goes = λ xs r h. h; stops = λ h. h }

pub until_last : {A : Type 0} {R : List Lexeme → A → List Lexeme → Type 0} {close : Lexeme} {tokens rest ahead end : List Lexeme} {found : List A} {x : A}
    → Until R close tokens found rest → R rest x ahead → ahead ≡ close ∷ end → AreUntil R close tokens (found ++ x ∷ []) end
until_last {R = R} {rest = rest} {end = end} {x = x} g h e = g.goes (x ∷ []) end (last_one (subst (λ (ts : List Lexeme). R rest x ts) e h))

pub until_more : {A : Type 0} {R : List Lexeme → A → List Lexeme → Type 0} {close : Lexeme} → One R → {tokens rest ahead : List Lexeme} {found : List A} {x : A}
    → Until R close tokens found rest → R rest x ahead → IsNotFirst close ahead → Until R close tokens (found ++ x ∷ []) ahead
until_more {A} {R} {close} o {x = x} g h d = record {
  goes = λ xs r k. rw append_assoc (g.goes (x ∷ xs) r (one_more h k));
  stops = λ n. g.stops (record { none = λ xs r k. at k h d n });
}
  where
    at : {ts r ahead : List Lexeme} {xs : List A} {x : A} → AreUntil R close ts xs r → R ts x ahead → IsNotFirst close ahead → NoReading (AreUntil R close) ahead → ⊥
    at (last_one {rest = r} k) h d n = d r (o.one h k).1
    at (one_more {xs = xs} {rest = r} k l) h d n = n.none xs r (subst (λ (ts : List Lexeme). AreUntil R close ts xs r) (sym (o.one h k).1) l)

pub until_no_part : {A : Type 0} {R : List Lexeme → A → List Lexeme → Type 0} {close : Lexeme} {tokens rest : List Lexeme} {found : List A} → Until R close tokens found rest → NoReading R rest → NoReading (AreUntil R close) tokens
until_no_part {A} {R} {close} g n = g.stops (record { none = λ xs r k. at k n })
  where
    at : {ts r : List Lexeme} {xs : List A} → AreUntil R close ts xs r → NoReading R ts → ⊥
    at (last_one {x = x} {rest = r} k) n = n.none x (close ∷ r) k
    at (one_more {x = x} {mid = m} k l) n = n.none x m k

pub ruleset binder_lists = (until_none, until_last, until_more, until_no_part, variables')
