-- Words with which other parts of proofs begin than methods.
use Rattle.std.proofs.Common.{◌≡◌, false, codes, refl}
use Rattle.sp_spec_text.specs.Proofs.{is_method}

pub solved_none : is_method (codes "SOLVED") ≡ false
unfolding is_method
solved_none = refl

pub by_none : is_method (codes "by") ≡ false
unfolding is_method
by_none = refl

pub case_none : is_method (codes "case") ≡ false
unfolding is_method
case_none = refl
