-- The verdicts, settings, taken lemmas and roots that those in memory stand for.
use Rattle.std.specs.Prelude.{map, option_map}
use Rattle.sp_term.specs.View.{name_of}
use Rattle.sp_fact.specs.GroundView.{signature_of}
use Rattle.sp_book.specs.BookView.{book_of}
use Rattle.sp_written.specs.Views as view
use Rattle.sp_check.specs.View.{clause_of}
use Rattle.sp_formula.specs.FormulaView.{formula_of}
use Rattle.sp_spec_system.specs.Move.{InductionCases, Root}
use Rattle.sp_hypothesis.specs.declared.cases.Cases.{Cases}
use Rattle.sp_analysis.specs.Sought as sought
use Rattle.sp_analysis.specs.Taken as taking
use Rattle.sp_spec_printed.specs.Verdict as spec
use Rattle.sp_analysis.specs.declared.beginning.Beginning.{Beginning}
use Rattle.sp_analysis.specs.declared.setting.Setting.{Setting}
use Rattle.sp_analysis.specs.declared.taken.Taken.{Taken}
use Rattle.sp_analysis.specs.declared.verdict.Verdict.{Verdict}
use Rattle.sp_analysis.specs.declared.verdict.Verdict.TheVariants.{Verified, Falsified, Incomplete, Rejected}

abbrev pub verdict_of : Verdict → spec.Verdict
verdict_of Verified = spec.verified
verdict_of Falsified = spec.falsified
verdict_of Incomplete = spec.incomplete
verdict_of (Rejected step clause) = spec.rejected step (clause_of clause)

abbrev pub setting_in : Setting → sought.Setting
setting_in s = record {
  signature = signature_of s.signature;
  forms = book_of s.book;
  constants = map name_of s.constants.items;
  restrictions = map formula_of s.restrictions.items;
  ranking = view.attributes s.ranking.items;
}

-- a lemma that is taken
abbrev pub taken_of : Taken → taking.Taken
taken_of t = record { name = t.name.now; form = formula_of t.form }

-- the formulas with which the cases of an induction begin
abbrev pub cases_in : Cases → InductionCases
cases_in c = record { empty_trace = map formula_of c.empty_trace.items; non_empty_trace = map formula_of c.non_empty_trace.items }

-- what a proof begins from in this setting
abbrev pub begun_from : sought.Setting → Beginning → Root
begun_from setting b = record {
  restrictions = setting.restrictions;
  taken = map formula_of b.taken.items;
  sought = formula_of b.sought;
  begins_with_induction = b.by_induction;
  consecutive = b.consecutive;
  cases = option_map cases_in b.cases;
}
