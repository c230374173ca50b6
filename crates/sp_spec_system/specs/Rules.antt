-- The rules that a proof is made in. Source: Schmidt's thesis, chapter 3 (variants of rules): a rule has forms, which together have its instances in
-- normal form.
use Rattle.std.specs.Prelude.{List, map}
use Rattle.sp_spec.specs.Signature.{Signature}
use Rattle.sp_spec.specs.Theory.{Theory, signature_of}
use Rattle.sp_spec_forms.specs.Forms.{RuleForms, forms_of}

pub record Rules : Type 0 where
  pub signature : Signature
  pub forms : List RuleForms

abbrev pub rules_of : Theory → Rules
rules_of theory = record { signature = signature_of theory; forms = map (forms_of (signature_of theory).equations) theory.rules }
