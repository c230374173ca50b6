-- Of a text whose rules' forms are listed one thing is answered.
use Rattle.std.proofs.Common.{◌≡◌, ℕ, List, sym, ap, ◌∙◌}
use Rattle.sp_spec.specs.Written.{theory_of}
use Rattle.sp_spec_text.specs.Written.{WrittenText}
use Rattle.sp_spec_text.specs.Declared.{theory_in}
use Rattle.sp_read_theory.proofs.Whole.{text_one}
use Rattle.sp_pose.proofs.One.{not_posed}
use Rattle.sp_rule_forms.specs.Variants.{variants_text, IsListed}
use Rattle.sp_rule_forms.specs.Laws.{ListsAreOne}

one_list : (text written other : List ℕ) → IsListed text written → IsListed text other → written ≡ other
one_list text written other a b = a.written_is ∙ ap (λ (t : WrittenText). variants_text (theory_of (theory_in t))) (text_one a.poses.says b.poses.says) ∙ sym b.written_is

pub lists_are_one_lem : ListsAreOne
lists_are_one_lem = record {
  one = one_list;
  refused_or_listed = λ text written place h a. h.nothing.none a.theory a.poses.says;
  reported_or_listed = λ text lines written r a. not_posed r a.poses;
}
