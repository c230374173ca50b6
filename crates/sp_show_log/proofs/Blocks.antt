-- The block of a log is written.
use Rattle.std.proofs.Common.{◌≡◌, ℕ, List, ◌++◌, map, codes, sym, ap, ap₂, subst, ◌∙◌, append_assoc}
use Rattle.sp_spec.specs.Lists.{Every, newest_first}
use Rattle.sp_spec.proofs.Lists.{newest_twice}
use Rattle.sp_spec.specs.Signature.{Equation}
use Rattle.sp_spec.specs.Rule.{Action}
use Rattle.sp_spec.specs.Log as spec
use Rattle.sp_spec_forms.specs.Forms.{RuleForms}
use Rattle.sp_spec_printed.specs.Printed.{trace_block}
use Rattle.sp_spec_log_lines.specs.Line.{Giving, Line, line_of}
use Rattle.sp_spec_log_lines.specs.Block.{lines_of, lines_text, log_block}
use Rattle.sp_learn.specs.View.{entry_of}
use Rattle.sp_learn.specs.declared.log.Entry.{Entry}
use Rattle.sp_show_log.specs.Given.{given_among}

-- what the lines of entries in memory say
abbrev pub said : List Equation → List RuleForms → List Entry → List Line
said es rules entries = map (line_of (given_among es rules)) (map entry_of entries)

pub log_written : (given : Giving) (entries : List spec.Entry) (trace : List (List (Action ⊥))) (first second all block : List ℕ)
    → newest_first trace ≡ spec.visible_trace (newest_first entries) → first ≡ codes "log:\n" → second ≡ first ++ lines_text (map (line_of given) entries)
    → block ≡ trace_block trace → all ≡ second ++ block → all ≡ log_block given (newest_first entries)
log_written given entries trace first second all block trace_is first_is second_is block_is all_is =
    all_is ∙ ap₂ (λ (a b : List ℕ). a ++ b) (second_is ∙ ap (λ (a : List ℕ). a ++ lines_text (map (line_of given) entries)) first_is) block_is
    ∙ append_assoc (codes "log:\n") (lines_text (map (line_of given) entries)) (trace_block trace)
    ∙ ap₂ (λ (es : List spec.Entry) (t : List (List (Action ⊥))). codes "log:\n" ++ (lines_text (map (line_of given) es) ++ trace_block t)) (sym (newest_twice entries))
    (sym (newest_twice trace) ∙ ap newest_first trace_is)

pub log_numbered : (P : Line → Type 0) (given : Giving) (entries : List spec.Entry) → Every P (map (line_of given) entries) → Every P (lines_of given (newest_first entries))
log_numbered P given entries h = subst (λ (es : List spec.Entry). Every P (map (line_of given) es)) (sym (newest_twice entries)) h
