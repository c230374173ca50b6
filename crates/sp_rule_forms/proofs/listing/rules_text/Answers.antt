use Rattle.std.proofs.Common.{◌≡◌, ◌<◌, ◌+◌, ℕ, List, ◌++◌, map, length, get_or, drop, sym, ap, ◌∙◌, append_assoc, string_bytes}
use Rattle.sp_spec.proofs.Lists.{next_item}
use Rattle.sp_book.specs.View.{rule_forms_of}
use Rattle.sp_book.specs.declared.form.RuleForms.{RuleForms}
use Rattle.sp_rule_forms.specs.Variants.{rule_text, rules_text}
use Rattle.sp_rule_forms.proofs.listing.rules_text.Goals as goal

rule_written : (out more all : List ℕ) (place : ℕ) (rules : List RuleForms) (rule : RuleForms) → place < length rules → rule ≡ get_or rules place rule
    → out ++ rules_text (map rule_forms_of (drop place rules)) ≡ all → more ≡ out ++ rule_text (rule_forms_of rule) → more ++ rules_text (map rule_forms_of (drop (place + 1) rules)) ≡ all
rule_written out more all place rules rule below is so written =
    let rest = rules_text (map rule_forms_of (drop (place + 1) rules)) in
    ap (λ (xs : List ℕ). xs ++ rest) written ∙ append_assoc out (rule_text (rule_forms_of rule)) rest
    ∙ sym (ap (λ (rs : List RuleForms). out ++ rules_text (map rule_forms_of rs)) (next_item rules place rule below is)) ∙ so

pub loop-rule-preserved : goal.loop-rule-preserved
loop-rule-preserved c =
    rule_written (string_bytes c.loop-rule.out) (string_bytes c.write_rule.new.out) (rules_text (map rule_forms_of c.args.rules.now.items))
    c.loop-rule.rule-index c.deref-rule-items.result.now c.rule-item.result c.loop-rule-test.true c.rule-item.is c.loop-rule.invariant c.in_ok-write_rule.ensures
