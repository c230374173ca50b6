-- Lists of parts in a list of tokens. `R tokens x rest` says that the tokens begin with x, which R reads, and that the rest follows.
use Rattle.std.specs.Prelude.{◌≡◌, ℕ, List, [], ◌∷◌}
use Rattle.sp_spec_text.specs.Signs.{Sign}
use Rattle.sp_spec_text.specs.Signs as s
use Rattle.sp_spec_text.specs.Token.{Lexeme, word, sign}

-- another token stands first, or none
abbrev pub IsNotFirst : Lexeme → List Lexeme → Type 0
IsNotFirst x tokens = (rest : List Lexeme) → tokens ≡ x ∷ rest → ⊥

abbrev pub IsNoWord : List Lexeme → Type 0
IsNoWord tokens = (w : List ℕ) (rest : List Lexeme) → tokens ≡ word w ∷ rest → ⊥

-- the tokens begin with nothing that R reads
pub record NoReading {A : Type 0} (R : List Lexeme → A → List Lexeme → Type 0) (tokens : List Lexeme) : Type 0 where
  pub none : (x : A) (rest : List Lexeme) → R tokens x rest → ⊥

-- parts with one sign between two of them, and another behind the last
pub data AreParts {A : Type 0} (R : List Lexeme → A → List Lexeme → Type 0) (between close : Sign) : List Lexeme → List A → List Lexeme → Type 0 where
  last : {x : A} {tokens rest : List Lexeme} → R tokens x (sign close ∷ rest) → AreParts R between close tokens (x ∷ []) rest
  next : {x : A} {xs : List A} {tokens mid rest : List Lexeme} → R tokens x (sign between ∷ mid) → AreParts R between close mid xs rest → AreParts R between close tokens (x ∷ xs) rest

-- parts with commas, or none
pub data AreItems {A : Type 0} (R : List Lexeme → A → List Lexeme → Type 0) (close : Sign) : List Lexeme → List A → List Lexeme → Type 0 where
  empty : {rest : List Lexeme} → AreItems R close (sign close ∷ rest) [] rest
  some : {xs : List A} {tokens rest : List Lexeme} → AreParts R s.Comma close tokens xs rest → AreItems R close tokens xs rest

-- one or more with commas, and nothing that closes them
pub data AreListed {A : Type 0} (R : List Lexeme → A → List Lexeme → Type 0) : List Lexeme → List A → List Lexeme → Type 0 where
  alone : {x : A} {tokens rest : List Lexeme} → R tokens x rest → AreListed R tokens (x ∷ []) rest
  and_more : {x : A} {xs : List A} {tokens mid rest : List Lexeme} → R tokens x (sign s.Comma ∷ mid) → AreListed R mid xs rest → AreListed R tokens (x ∷ xs) rest
