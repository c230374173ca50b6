use Rattle.std.proofs.Common.{◌≡◌, ◌++◌, drop, map, string_bytes}
use Rattle.sp_book.specs.View.{form_of}
use Rattle.sp_rule_forms.specs.Variants.{lines_of}
use Rattle.sp_rule_forms.proofs.listing.write_forms.Given as goal

abbrev pub invariant-loop-form : goal.invariant-loop-form
invariant-loop-form l = string_bytes l.out ++ lines_of (map form_of (drop l.form-index l.form-items)) ≡ string_bytes l.fn.out ++ lines_of (map form_of l.forms.items)
