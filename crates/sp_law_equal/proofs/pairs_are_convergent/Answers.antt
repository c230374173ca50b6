use Rattle.sp_law_equal.proofs.Pairs.{pairs_are_subterm_rules, pairs_bring_in_no_symbols, pairs_have_normal_forms, pairs_keep_symbols}
use Rattle.sp_law_equal.proofs.pairs_are_convergent.Goals as goal

pub returns : goal.returns
returns c = record {
  subterm_rules = pairs_are_subterm_rules;
  no_symbols = pairs_bring_in_no_symbols;
  normal_forms = pairs_have_normal_forms;
  keep = pairs_keep_symbols;
}
