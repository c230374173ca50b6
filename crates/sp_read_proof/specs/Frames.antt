-- Proofs that are read in part: the methods of which a case is being read, innermost first. Source: Tamarin manual, "Proofs".
use Rattle.std.specs.Prelude.{ℕ, List, [], ◌∷◌}
use Rattle.sp_spec_text.specs.Token.{Lexeme}
use Rattle.sp_spec_text.specs.Written.{Method, WrittenProof, step, WrittenCases, no_case, then_case}
use Rattle.sp_spec_text.specs.Proofs.{SpellsProof, SpellsMore}

-- a method whose only case, without a name, is being read; a method with the cases that are read, and the name of the one that is being read
pub data Frame : Type 0 where
  lone : Method → Frame
  among : Method → List (List ℕ × WrittenProof) → List ℕ → Frame

-- the cases, and these behind them
abbrev pub joined : List (List ℕ × WrittenProof) → WrittenCases → WrittenCases
joined [] bs = bs
joined (d ∷ done) bs = then_case d.0 d.1 (joined done bs)

-- With this proof behind the frames, and these tokens behind it, the whole is a proof, and the rest follows.
pub data Completes : List Frame → WrittenProof → List Lexeme → WrittenProof → List Lexeme → Type 0 where
  whole : {k : WrittenProof} {rest : List Lexeme} → Completes [] k rest k rest
  behind_lone : {x : Method} {fs : List Frame} {k whole : WrittenProof} {tokens rest : List Lexeme} → Completes fs (step x (then_case [] k no_case)) tokens whole rest → Completes (lone x ∷ fs) k tokens whole rest
  behind_more : {x : Method} {done : List (List ℕ × WrittenProof)} {w : List ℕ} {bs : WrittenCases} {fs : List Frame} {k whole : WrittenProof} {tokens mid rest : List Lexeme}
      → SpellsMore tokens bs mid → Completes fs (step x (joined done (then_case w k bs))) mid whole rest → Completes (among x done w ∷ fs) k tokens whole rest

-- behind the frames the tokens begin with a proof that completes them
pub record Awaits (fs : List Frame) (tokens : List Lexeme) (whole : WrittenProof) (rest : List Lexeme) : Type 0 where
  pub part : WrittenProof
  pub mid : List Lexeme
  pub spelled : SpellsProof tokens part mid
  pub completed : Completes fs part mid whole rest

-- what R reads from these tokens, S reads from those, and the other way
pub record Same (R : List Lexeme → WrittenProof → List Lexeme → Type 0) (tokens : List Lexeme) (S : List Lexeme → WrittenProof → List Lexeme → Type 0) (others : List Lexeme) : Type 0 where
  pub goes : (k : WrittenProof) (rest : List Lexeme) → S others k rest → R tokens k rest
  pub comes : (k : WrittenProof) (rest : List Lexeme) → R tokens k rest → S others k rest
