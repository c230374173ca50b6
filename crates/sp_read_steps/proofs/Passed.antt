-- Lines that are read one after the other.
use Rattle.std.proofs.Common.{◌≡◌, ℕ, ◌+◌, inl, inr, List, [], ◌∷◌, ◌++◌, length, Some, None, true, false, refl, sym, ap, subst, ◌∙◌, append_assoc, append-nil, length-append, arith}
use Rattle.std.specs.Prelude.{Option}
use Rattle.sp_spec.specs.Signature.{Symbol}
use Rattle.sp_spec.specs.Execution.{Step}
use Rattle.sp_spec_printed.specs.StepLines.{HaveNames, IsStepLine, AreSteps, no_line, blank_line, step_line, IsFirstUnread}
use Rattle.sp_spec_text.specs.Blanks.{trimmed, lines}
use Rattle.sp_read_steps.specs.Reading.{then_lines}
use Rattle.sp_read_steps.specs.View.{Takes}
use Rattle.sp_read_steps.proofs.StepTexts.{line_of_step, step_of_text}

-- the lines before the rest are those of these steps, and as many as the number
pub record Passed (symbols : List Symbol) (all rest : List (List ℕ)) (steps : List Step) (number : ℕ) : Type 0 where
  pub front : List (List ℕ)
  pub parts : all ≡ front ++ rest
  pub read : AreSteps symbols front steps
  pub counted : number ≡ length front

pub passed_none : (symbols : List Symbol) (all : List (List ℕ)) → Passed symbols all all [] 0
passed_none symbols all = record { front = []; parts = refl; read = no_line; counted = refl }

blank_behind : {symbols : List Symbol} {front : List (List ℕ)} {steps : List Step} (line : List ℕ) → trimmed line ≡ [] → AreSteps symbols front steps → AreSteps symbols (front ++ line ∷ []) steps
blank_behind line e no_line = blank_line e no_line
blank_behind line e (blank_line f k) = blank_line f (blank_behind line e k)
blank_behind line e (step_line f k) = step_line f (blank_behind line e k)

step_behind : {symbols : List Symbol} {front : List (List ℕ)} {steps : List Step} {s : Step} (line : List ℕ) → IsStepLine symbols (trimmed line) s → AreSteps symbols front steps → AreSteps symbols (front ++ line ∷ []) (steps ++ s ∷ [])
step_behind line e no_line = step_line e no_line
step_behind line e (blank_line f k) = blank_line f (step_behind line e k)
step_behind line e (step_line f k) = step_line f (step_behind line e k)

pub passed_line : {symbols : List Symbol} {all rest : List (List ℕ)} {steps : List Step} {number : ℕ} (line : List ℕ) (made : List Step) → Passed symbols all (line ∷ rest) steps number → Takes symbols line steps made true → Passed symbols all rest made (number + 1)
passed_line {symbols} {all} {rest} {steps} {number} line made p (inl h) = record {
  front = p.front ++ line ∷ [];
  parts = p.parts ∙ sym (append_assoc p.front (line ∷ []) rest);
  read = subst (λ (xs : List Step). AreSteps symbols (p.front ++ line ∷ []) xs) (sym h.1) (blank_behind line h.0 p.read);
  counted = omega (arith, p.counted, length-append p.front (line ∷ []));
}
passed_line {symbols} {all} {rest} {steps} {number} line made p (inr h) = record {
  front = p.front ++ line ∷ [];
  parts = p.parts ∙ sym (append_assoc p.front (line ∷ []) rest);
  read = subst (λ (xs : List Step). AreSteps symbols (p.front ++ line ∷ []) xs) (sym h.2) (step_behind line (line_of_step symbols h.1) p.read);
  counted = omega (arith, p.counted, length-append p.front (line ∷ []));
}

pub passed_all : {symbols : List Symbol} {all : List (List ℕ)} {steps : List Step} {number : ℕ} → Passed symbols all [] steps number → AreSteps symbols all steps
passed_all {symbols} {steps = steps} p = subst (λ (ls : List (List ℕ)). AreSteps symbols ls steps) (sym (p.parts ∙ append-nil p.front)) p.read

passed_unread : {symbols : List Symbol} {all rest : List (List ℕ)} {steps : List Step} {number : ℕ} (line : List ℕ) (made : List Step) → HaveNames symbols → Passed symbols all (line ∷ rest) steps number → Takes symbols line steps made false → IsFirstUnread symbols all (number + 1)
passed_unread {symbols} {all} {rest} {steps} {number} line made names p h = record {
  front = p.front;
  line = line;
  back = rest;
  steps = steps;
  parts = p.parts;
  read = p.read;
  not_blank = h.0;
  no_step = λ s l. h.1.none_read s [] (step_of_text symbols names (trimmed line) s l.text l.writable);
  counted = ap (λ (n : ℕ). n + 1) p.counted;
}

-- ---- a first line, and what stands behind its line feed

cut_at : {symbols : List Symbol} {all from to : List (List ℕ)} {steps : List Step} {number : ℕ} → Passed symbols all from steps number → from ≡ to → Passed symbols all to steps number
cut_at {symbols} {all} {steps = steps} {number = number} p e = subst (λ (ls : List (List ℕ)). Passed symbols all ls steps number) e p

pub unread_line : {symbols : List Symbol} {all from : List (List ℕ)} {steps : List Step} {number : ℕ} (line : List ℕ) (made : List Step) (o : Option (List ℕ)) → HaveNames symbols → Passed symbols all from steps number → from ≡ then_lines line o → Takes symbols line steps made false → IsFirstUnread symbols all (number + 1)
unread_line line made None names p e h = passed_unread line made names (cut_at p e) h
unread_line line made (Some bytes) names p e h = passed_unread line made names (cut_at p e) h

pub more_lines : {symbols : List Symbol} {all from : List (List ℕ)} {steps : List Step} {number : ℕ} (line bytes : List ℕ) (made : List Step) → Passed symbols all from steps number → from ≡ line ∷ lines bytes → Takes symbols line steps made true → Passed symbols all (lines bytes) made (number + 1)
more_lines line bytes made p e h = passed_line line made (cut_at p e) h

pub last_line : {symbols : List Symbol} {all from : List (List ℕ)} {steps : List Step} {number : ℕ} (line : List ℕ) (made : List Step) → Passed symbols all from steps number → from ≡ line ∷ [] → Takes symbols line steps made true → AreSteps symbols all made
last_line line made p e h = passed_all (passed_line line made (cut_at p e) h)
