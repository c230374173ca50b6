-- Each step of the reader keeps what can be read from the start, and memory holds the proofs that are read in part.
use Rattle.std.proofs.Common.{◌≡◌, ℕ, ◌<◌, List, [], ◌∷◌, ◌++◌, length, map, refl, sym, subst}
use Rattle.sp_spec_nodes.specs.Preorder.{AreTrees}
use Rattle.sp_spec_text.specs.Token.{Lexeme}
use Rattle.sp_spec_text.specs.Lists.{NoReading}
use Rattle.sp_spec_text.specs.Written.{Method, WrittenProof}
use Rattle.sp_spec_text.specs.Proofs.{SpellsProof}
use Rattle.sp_written.specs.Views.{case_count, written_proof}
use Rattle.sp_read_proof.specs.Lines.{leaf, alone, cases, IsLine, ended, another, IsBehind}
use Rattle.sp_read_proof.specs.Frames as spec
use Rattle.sp_read_proof.specs.Frames.{Completes, Awaits, Same}
use Rattle.sp_read_proof.specs.declared.frames.Frame.{Frame}
use Rattle.sp_read_proof.specs.declared.frames.Frame.TheVariants.{Lone, Among}
use Rattle.sp_read_proof.specs.Held.{Holds, nothing, in_lone, in_case, Ends, HasEnded, Waits}
use Rattle.sp_read_proof.proofs.Going.{close_start, close_lone, close_ended, close_another, close_stuck, close_whole, read_start, read_leaf, read_alone, read_cases, read_stuck, closed_case}
use Rattle.sp_read_proof.proofs.Held.{InCase, ends_leaf, ends_whole, ends_lone, ends_case, place_within, case_ended, case_another}

-- behind the frames a proof has ended, and from the tokens behind it follows what R reads from the start
pub record Goes (R : List Lexeme → WrittenProof → List Lexeme → Type 0) (start : List Lexeme) (places : List Frame) (steps : List (Method × List (List ℕ))) (tokens : List Lexeme) : Type 0 where
  pub frames : List spec.Frame
  pub proof : WrittenProof
  pub ends : Ends places steps frames proof
  pub same : Same R start (Completes frames proof) tokens

-- ---- behind the end of a proof

pub goes_start : {places : List Frame} {steps : List (Method × List (List ℕ))} {fs : List spec.Frame} {k : WrittenProof} → Ends places steps fs k → (tokens : List Lexeme) → Goes (Completes fs k) tokens places steps tokens
goes_start {fs = fs} {k = k} h tokens = record { frames = fs; proof = k; ends = h; same = close_start fs k tokens }

pub goes_ended : {R : List Lexeme → WrittenProof → List Lexeme → Type 0} {start tokens : List Lexeme} {places : List Frame} {steps : List (Method × List (List ℕ))} → Goes R start places steps tokens → HasEnded places steps
goes_ended g = record { frames = g.frames; proof = g.proof; ends = g.ends }

module _ {R : List Lexeme → WrittenProof → List Lexeme → Type 0} {start tokens : List Lexeme} {all : List Frame} {steps : List (Method × List (List ℕ))} (g : Goes R start all steps tokens) where
  pub goes_whole : all ≡ [] → AreTrees case_count 1 steps × R start (written_proof steps) tokens
  goes_whole e =
      let w = ends_whole (subst (λ (ps : List Frame). Ends ps steps g.frames g.proof) e g.ends) in
      (w.1, subst (λ (k : WrittenProof). R start k tokens) (sym w.2) (close_whole g.same w.0))

  pub goes_lone : {places : List Frame} → all ≡ Lone ∷ places → Goes R start places steps tokens
  goes_lone e =
      let i = ends_lone (subst (λ (ps : List Frame). Ends ps steps g.frames g.proof) e g.ends) in
      record { frames = i.frames; proof = _; ends = i.ends; same = close_lone g.same i.are }

  module _ {place : ℕ} {places : List Frame} (e : all ≡ Among place ∷ places) where
    in_case_of : InCase place places steps g.frames g.proof
    in_case_of = ends_case (subst (λ (ps : List Frame). Ends ps steps g.frames g.proof) e g.ends)

    pub goes_place : place < length steps
    goes_place = place_within in_case_of

    pub goes_stuck : NoReading IsBehind tokens → NoReading R start
    goes_stuck n = close_stuck g.same in_case_of.are n

    pub goes_end : {mid : List Lexeme} → IsBehind tokens ended mid → Goes R start places steps mid
    goes_end b = record { frames = in_case_of.frames; proof = _; ends = case_ended in_case_of; same = close_ended g.same in_case_of.are b }

    pub goes_another : {mid : List Lexeme} {more : List (Method × List (List ℕ))} {v : List ℕ} {now : List Frame} → IsBehind tokens (another v) mid
        → ((outer inside : List (Method × List (List ℕ))) (x : Method) (names : List (List ℕ)) → place ≡ length outer → steps ≡ outer ++ (x, names) ∷ inside → more ≡ outer ++ (x, names ++ v ∷ []) ∷ inside)
        → now ≡ Among place ∷ places → Waits R start now more mid
    goes_another {mid} {more} {v} {now} b named f =
        let i = in_case_of in
        let gs : List spec.Frame = spec.among i.method (i.done ++ (i.name, g.proof) ∷ []) v ∷ i.frames in
        let h : Holds (Among place ∷ places) more gs = case_another i (named i.outer i.inside i.method (map (λ d. d.0) i.done ++ i.name ∷ []) i.at i.steps_are) in
        record { frames = gs; held = subst (λ (ps : List Frame). Holds ps more gs) (sym f) h; same = close_another g.same i.are b }

-- ---- behind a line

pub waits_start : (tokens : List Lexeme) → Waits SpellsProof tokens [] [] tokens
waits_start tokens = record { frames = []; held = nothing; same = read_start tokens }

module _ {start tokens : List Lexeme} {places : List Frame} {steps : List (Method × List (List ℕ))} (w : Waits SpellsProof start places steps tokens) where
  pub waits_stuck : NoReading IsLine tokens → NoReading SpellsProof start
  waits_stuck n = read_stuck w.same n

  pub waits_leaf : {mid : List Lexeme} {more : List (Method × List (List ℕ))} {x : Method} → IsLine tokens (leaf x) mid → more ≡ steps ++ (x, []) ∷ [] → Goes SpellsProof start places more mid
  waits_leaf l e = record { frames = w.frames; proof = _; ends = ends_leaf w.held e; same = read_leaf w.same l }

  pub waits_alone : {mid : List Lexeme} {more : List (Method × List (List ℕ))} {now : List Frame} {x : Method} → IsLine tokens (alone x) mid → more ≡ steps ++ (x, [] ∷ []) ∷ [] → now ≡ Lone ∷ places
      → Waits SpellsProof start now more mid
  waits_alone {more = more} {x = x} l e f =
      let gs : List spec.Frame = spec.lone x ∷ w.frames in
      record { frames = gs; held = subst (λ (ps : List Frame). Holds ps more gs) (sym f) (in_lone w.held e); same = read_alone w.same l }

  pub waits_cases : {mid : List Lexeme} {more : List (Method × List (List ℕ))} {now : List Frame} {place : ℕ} {x : Method} {v : List ℕ} → IsLine tokens (cases x v) mid → place ≡ length steps → more ≡ steps ++ (x, v ∷ []) ∷ []
      → now ≡ Among place ∷ places → Waits SpellsProof start now more mid
  waits_cases {more = more} {x = x} {v = v} l p e f =
      let gs : List spec.Frame = spec.among x [] v ∷ w.frames in
      record { frames = gs; held = subst (λ (ps : List Frame). Holds ps more gs) (sym f) (in_case [] w.held p tt refl e); same = read_cases w.same l }

-- the next case behind the end of a proof
pub waits_on : {R : List Lexeme → WrittenProof → List Lexeme → Type 0} {start tokens mid : List Lexeme} {fs : List spec.Frame} {k : WrittenProof} {now : List Frame} {more : List (Method × List (List ℕ))}
    → Same R start (Completes fs k) tokens → Waits (Completes fs k) tokens now more mid → Waits R start now more mid
waits_on s w = record { frames = w.frames; held = w.held; same = closed_case s w.same }
