-- A text has one list of tokens, or one first fault, and not both.
use Rattle.std.specs.Prelude.{◌≡◌, ℕ, List, length}
use Rattle.sp_spec_text.specs.Bytes.{FaultKind}
use Rattle.sp_spec_text.specs.Token.{Token}
use Rattle.sp_spec_text.specs.Lex.{AreTokens, AreTokensBefore, IsFault}

pub record TextsAreCutOneWay : Type 0 where
  pub tokens : (text : List ℕ) (ts us : List Token) → AreTokens (length text) text ts → AreTokens (length text) text us → ts ≡ us
  pub fault : (text : List ℕ) (p q : ℕ) (k o : FaultKind) → IsFault (length text) text p k → IsFault (length text) text q o → (p ≡ q) × (k ≡ o)
  pub before : (text : List ℕ) (ts us : List Token) (p q : ℕ) (k o : FaultKind) → AreTokensBefore (length text) text ts p k → AreTokensBefore (length text) text us q o → ts ≡ us
  pub not_both : (text : List ℕ) (ts : List Token) (p : ℕ) (k : FaultKind) → AreTokens (length text) text ts → IsFault (length text) text p k → ⊥
