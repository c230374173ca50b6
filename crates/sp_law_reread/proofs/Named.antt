-- The rules of a text have names that are words.
use Rattle.std.proofs.Common.{ℕ, List, [], ◌∷◌, map}
use Rattle.sp_spec.specs.Lists.{Every}
use Rattle.sp_spec.specs.Rule.{Rule}
use Rattle.sp_spec.specs.Written.{theory_of}
use Rattle.sp_spec_text.specs.Written.{WrittenText}
use Rattle.sp_spec_text.specs.Declared.{theory_in}
use Rattle.sp_spec_text.specs.Texts.{IsTextOf}
use Rattle.sp_spec.specs.Signature.{Equation}
use Rattle.sp_spec.specs.Theory.{signature_of}
use Rattle.sp_spec_forms.specs.Forms.{forms_of}
use Rattle.sp_spec_system.specs.Rules.{rules_of}
use Rattle.sp_skel.specs.Spelling.{AreNamed}
use Rattle.sp_law_printed_log.specs.Shown.{IsNamedRule}
use Rattle.sp_law_printed_log.proofs.TextNames.{texts_have_names_lem}

forms_named : (es : List Equation) (rules : List Rule) → Every IsNamedRule rules → AreNamed (map (forms_of es) rules)
forms_named es [] h = tt
forms_named es (r ∷ rules) h = (h.0.name.0, h.0.name.1, forms_named es rules h.1)

-- each rule's name is a name, and one word
pub rules_named : (text : List ℕ) (theory : WrittenText) → IsTextOf text theory → AreNamed (rules_of (theory_of (theory_in theory))).forms
rules_named text theory says = forms_named (signature_of (theory_of (theory_in theory))).equations (theory_of (theory_in theory)).rules (texts_have_names_lem.rules text theory says)
