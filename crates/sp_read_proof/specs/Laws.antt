-- Tokens spell one proof.
use Rattle.std.specs.Prelude.{◌≡◌, List}
use Rattle.sp_spec_text.specs.Token.{Lexeme}
use Rattle.sp_spec_text.specs.Written.{WrittenProof}
use Rattle.sp_spec_text.specs.Proofs.{SpellsProof}

-- one proof stands first, and one rest follows it
pub record ProofsAreOne : Type 0 where
  pub one : (tokens r q : List Lexeme) (p u : WrittenProof) → SpellsProof tokens p r → SpellsProof tokens u q → (p ≡ u) × (r ≡ q)
