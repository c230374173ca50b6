use Rattle.std.proofs.Common.{◌≡◌, ◌++◌, drop, map, string_bytes}
use Rattle.sp_book.specs.View.{rule_forms_of}
use Rattle.sp_rule_forms.specs.Variants.{rules_text}
use Rattle.sp_rule_forms.proofs.listing.rules_text.Given as goal

abbrev pub invariant-loop-rule : goal.invariant-loop-rule
invariant-loop-rule l = string_bytes l.out ++ rules_text (map rule_forms_of (drop l.rule-index l.rule-items)) ≡ rules_text (map rule_forms_of l.rules.items)
