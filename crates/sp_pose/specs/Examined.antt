-- What is known of a theory in memory that a text says.
use Rattle.std.specs.Prelude.{◌≡◌, ◌≤◌, ℕ, List, map, length}
use Rattle.sp_fact.specs.GroundView.{symbol_of}
use Rattle.sp_declared.specs.NumberedView.{numbered_of}
use Rattle.sp_spec_text.specs.Written.{WrittenText}
use Rattle.sp_spec_text.specs.Declared.{all_symbols, all_equations, resolved}
use Rattle.sp_spec_text.specs.Spans.{Rise}
use Rattle.sp_spec_text.specs.Texts.{IsTextOf, ArePlaces}
use Rattle.sp_written.specs.Views as view
use Rattle.sp_finding.specs.View.{lines_of}
use Rattle.sp_wf.specs.Report.{fatal_lines}
use Rattle.sp_pose.specs.declared.examined.SaidTheory.{SaidTheory}

-- Its symbols and its equations are those of the theory that the text says, its values stand for that theory's names, and its lines are the fatal findings on
-- it. The proofs of its lemmas stand at these places of the text.
pub record IsExamined (text : List ℕ) (e : SaidTheory) : Type 0 where
  pub said : WrittenText
  pub says : IsTextOf text said
  pub symbols_are : map symbol_of e.symbols.items ≡ all_symbols said.items
  pub resolved_is : view.theory e.theory ≡ resolved said
  pub equations_are : map numbered_of e.equations.items ≡ all_equations (resolved said).items
  pub fatal_are : lines_of e.fatal.items ≡ fatal_lines said
  pub places_are : ArePlaces text said (view.spans e.theory.items.items) e.theory.behind_end
  pub rise : Rise text 0 (view.spans e.theory.items.items) e.theory.behind_end
  pub within : e.theory.behind_end ≤ length text
