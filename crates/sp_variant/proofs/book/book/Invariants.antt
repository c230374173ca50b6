use Rattle.std.proofs.Common.{◌≡◌, map, take}
use Rattle.sp_fact.specs.View.{rule_of}
use Rattle.sp_fact.specs.GroundView.{equation_of}
use Rattle.sp_spec_forms.specs.Forms.{forms_of}
use Rattle.sp_book.specs.View.{rule_forms_of}
use Rattle.sp_variant.proofs.book.book.Given as goal

abbrev pub invariant-loop-rule : goal.invariant-loop-rule
invariant-loop-rule l = map rule_forms_of l.made.items ≡ map (forms_of (map equation_of l.equations.items)) (map rule_of (take l.rule-index l.rule-items))
