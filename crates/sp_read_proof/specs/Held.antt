-- What memory holds of proofs that are read in part: a list of steps, and for those of which a case is being read their places in it.
use Rattle.std.specs.Prelude.{◌≡◌, ℕ, List, [], ◌∷◌, ◌++◌, length, map}
use Rattle.sp_spec_nodes.specs.Preorder.{AreTrees}
use Rattle.sp_spec_text.specs.Token.{Lexeme}
use Rattle.sp_spec_text.specs.Written.{Method, WrittenProof}
use Rattle.sp_written.specs.Views.{case_count, written_proofs}
use Rattle.sp_read_proof.specs.Frames as spec
use Rattle.sp_read_proof.specs.Frames.{lone, among, Awaits, Same}
use Rattle.sp_read_proof.specs.declared.frames.Frame.{Frame}
use Rattle.sp_read_proof.specs.declared.frames.Frame.TheVariants.{Lone, Among}

-- The frames in memory are these, innermost first: behind the steps of the outer ones stand a frame's own step, with the names of its cases up
-- to the one that is being read, and the steps of its cases that are read.
pub data Holds : List Frame → List (Method × List (List ℕ)) → List spec.Frame → Type 0 where
  nothing : Holds [] [] []
  in_lone : {places : List Frame} {outer steps : List (Method × List (List ℕ))} {fs : List spec.Frame} {x : Method}
      → Holds places outer fs → steps ≡ outer ++ (x, [] ∷ []) ∷ [] → Holds (Lone ∷ places) steps (lone x ∷ fs)
  in_case : {place : ℕ} {places : List Frame} {outer steps : List (Method × List (List ℕ))} {fs : List spec.Frame} {x : Method} {done : List (List ℕ × WrittenProof)} {w : List ℕ} (inside : List (Method × List (List ℕ)))
      → Holds places outer fs → place ≡ length outer → AreTrees case_count (length done) inside → written_proofs inside ≡ map (λ d. d.1) done
      → steps ≡ outer ++ (x, map (λ d. d.0) done ++ w ∷ []) ∷ inside → Holds (Among place ∷ places) steps (among x done w ∷ fs)

-- these frames, and behind them the steps of this proof
pub record Ends (places : List Frame) (steps : List (Method × List (List ℕ))) (fs : List spec.Frame) (k : WrittenProof) : Type 0 where
  pub outer : List (Method × List (List ℕ))
  pub part : List (Method × List (List ℕ))
  pub are : steps ≡ outer ++ part
  pub held : Holds places outer fs
  pub is_one : AreTrees case_count 1 part
  pub is : written_proofs part ≡ k ∷ []

-- some frames, and behind them the steps of some proof
pub record HasEnded (places : List Frame) (steps : List (Method × List (List ℕ))) : Type 0 where
  pub frames : List spec.Frame
  pub proof : WrittenProof
  pub ends : Ends places steps frames proof

-- the frames await from the tokens what R reads from the start
pub record Waits (R : List Lexeme → WrittenProof → List Lexeme → Type 0) (start : List Lexeme) (places : List Frame) (steps : List (Method × List (List ℕ))) (tokens : List Lexeme) : Type 0 where
  pub frames : List spec.Frame
  pub held : Holds places steps frames
  pub same : Same R start (Awaits frames) tokens
