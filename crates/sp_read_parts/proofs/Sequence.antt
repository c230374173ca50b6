-- Parts one behind the other: where one of them is missing, there is no reading of the whole.
use Rattle.std.proofs.Common.{◌≡◌, List, ◌∷◌, refl, sym, subst, ◌∙◌}
use Rattle.sp_spec_text.specs.Token.{Lexeme}
use Rattle.sp_spec_text.specs.Lists.{IsNotFirst, NoReading}
use Rattle.sp_read_parts.proofs.One.{One}

-- this token
abbrev pub Fixed : Lexeme → List Lexeme → Unit {0} → List Lexeme → Type 0
Fixed x tokens u rest = tokens ≡ x ∷ rest

pub fixed_none : {x : Lexeme} {tokens : List Lexeme} → IsNotFirst x tokens → NoReading (Fixed x) tokens
fixed_none d = record { none = λ u r h. d r h }

pub fixed_one : {x : Lexeme} → One (Fixed x)
fixed_one {x} = record { one = λ {tokens} {r} {q} h k. (refl, tail_of (sym h ∙ k)) }
  where
    tail_of : {x : Lexeme} {r q : List Lexeme} → x ∷ r ≡ x ∷ q → r ≡ q
    tail_of e = cc

-- the one, and then the other
pub record Then {A B : Type 0} (R : List Lexeme → A → List Lexeme → Type 0) (S : List Lexeme → B → List Lexeme → Type 0) (tokens : List Lexeme) (x : A × B) (rest : List Lexeme) : Type 0 where
  pub mid : List Lexeme
  pub first : R tokens x.0 mid
  pub second : S mid x.1 rest

pub no_first : {A B : Type 0} {R : List Lexeme → A → List Lexeme → Type 0} {S : List Lexeme → B → List Lexeme → Type 0} {tokens : List Lexeme} → NoReading R tokens → NoReading (Then R S) tokens
no_first n = record { none = λ x r h. n.none x.0 h.mid h.first }

pub no_second : {A B : Type 0} {R : List Lexeme → A → List Lexeme → Type 0} {S : List Lexeme → B → List Lexeme → Type 0} {tokens mid : List Lexeme} {x : A} → One R → R tokens x mid → NoReading S mid → NoReading (Then R S) tokens
no_second {S = S} o h n = record { none = λ y r k. n.none y.1 r (subst (λ (ts : List Lexeme). S ts y.1 r) (sym (o.one h k.first).1) k.second) }

-- what is read in one way is read in the other too
pub record Becomes {A B : Type 0} (R : List Lexeme → A → List Lexeme → Type 0) (S : List Lexeme → B → List Lexeme → Type 0) : Type 0 where
  pub part : (tokens : List Lexeme) (x : A) (rest : List Lexeme) → R tokens x rest → B
  pub reads : (tokens : List Lexeme) (x : A) (rest : List Lexeme) (h : R tokens x rest) → S tokens (part tokens x rest h) rest

pub no_whole : {A B : Type 0} {R : List Lexeme → A → List Lexeme → Type 0} {S : List Lexeme → B → List Lexeme → Type 0} {tokens : List Lexeme} → Becomes R S → NoReading S tokens → NoReading R tokens
no_whole {tokens = ts} b n = record { none = λ x r h. n.none (b.part ts x r h) r (b.reads ts x r h) }
