-- What the code's values stand for.
use Rattle.std.specs.Prelude.{ℕ, List, map, reverse}
use Rattle.sp_spec_nodes.specs.Preorder.{AreTrees}
use Rattle.sp_lex.specs.declared.token.Token.{Token}
use Rattle.sp_read_parts.specs.Views.{seen_from}
use Rattle.sp_spec_text.specs.Written.{Method, WrittenProof}
use Rattle.sp_written.specs.declared.proof.WrittenStep.{WrittenStep}
use Rattle.sp_written.specs.Views.{method, step_at, case_count, written_proof}
use Rattle.sp_read_proof.specs.Lines as lines
use Rattle.sp_read_proof.specs.Frames as frames
use Rattle.sp_read_proof.specs.Frames.{Completes}
use Rattle.sp_read_proof.specs.Held.{Waits}
use Rattle.sp_read_proof.specs.declared.frames.Line.{Line}
use Rattle.sp_read_proof.specs.declared.frames.Line.TheVariants.{Leaf, Alone, Cases}
use Rattle.sp_read_proof.specs.declared.frames.Behind.{Behind}
use Rattle.sp_read_proof.specs.declared.frames.Behind.TheVariants.{Ended, Another}
use Rattle.sp_read_proof.specs.declared.frames.Frame.{Frame}
use Rattle.sp_read_proof.specs.declared.frames.Closed.{Closed}
use Rattle.sp_read_proof.specs.declared.frames.Closed.TheVariants.{Whole, Case}

abbrev pub line_of : Line → lines.Line
line_of (Leaf x) = lines.leaf (method x)
line_of (Alone x) = lines.alone (method x)
line_of (Cases x name) = lines.cases (method x) name.now

abbrev pub behind_of : Behind → lines.Behind
behind_of Ended = lines.ended
behind_of (Another name) = lines.another name.now

abbrev pub steps_of : List WrittenStep → List (Method × List (List ℕ))
steps_of steps = map step_at steps

-- the innermost first, which is the last in memory
abbrev pub frames_of : List Frame → List Frame
frames_of fs = reverse fs

-- What the end of a proof behind these frames leads to: the whole; or the next case, which the frames in memory then await.
abbrev pub ClosesTo : List frames.Frame → WrittenProof → List Token → ℕ → List Frame → List WrittenStep → Closed → Type 0
ClosesTo fs k tokens at places steps (Whole rest) = AreTrees case_count 1 (steps_of steps) × Completes fs k (seen_from tokens at) (written_proof (steps_of steps)) (seen_from tokens rest)
ClosesTo fs k tokens at places steps (Case rest) = Waits (Completes fs k) (seen_from tokens at) (frames_of places) (steps_of steps) (seen_from tokens rest)

abbrev pub place_of : Closed → ℕ
place_of (Whole rest) = rest
place_of (Case rest) = rest
