-- The forms of rules that those in memory stand for.
use Rattle.std.specs.Prelude.{map}
use Rattle.sp_term.specs.View.{name_of, view_all}
use Rattle.sp_fact.specs.View.{declared_of, facts_of}
use Rattle.sp_spec_forms.specs.Numbering as numbering
use Rattle.sp_spec_forms.specs.Forms as forms
use Rattle.sp_book.specs.declared.form.Form.{Form}
use Rattle.sp_book.specs.declared.form.RuleForms.{RuleForms}

abbrev pub form_of : Form → numbering.Form
form_of f = record { facts = facts_of f.facts; count = f.count; kept = view_all f.kept.items }

abbrev pub rule_forms_of : RuleForms → forms.RuleForms
rule_forms_of r = record { name = name_of r.name; variables = map declared_of r.variables.items; forms = map form_of r.forms.items }
