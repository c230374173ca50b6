-- What is no finding on a fact Fr.
use Rattle.std.proofs.Common.{◌≡◌, Bool, true, false, not, ◌&&◌, ◌||◌, codes, refl, bytes_eq}
use Rattle.std.proofs.lemmas.Bool.{or_parts}
use Rattle.sp_spec.specs.Rule.{Fact}
use Rattle.sp_spec.specs.Formula.{Written}
use Rattle.sp_spec.specs.Findings.{is_fr_named, is_one, is_shared, is_misused, is_no_premise, is_wrong_premise}

shares : (fr in_ out wrong : Bool) → ((fr || in_ || out) && wrong) ≡ false → (fr && wrong) ≡ false
shares true in_ out wrong e = e
shares false in_ out wrong e = refl

fr_fits : (f : Fact Written) → is_misused f ≡ false → (is_fr_named f && (f.persistent || not (is_one f.args))) ≡ false
unfolding is_shared
fr_fits f e = shares (is_fr_named f) (bytes_eq f.symbol (codes "In")) (bytes_eq f.symbol (codes "Out")) (f.persistent || not (is_one f.args)) e

-- a premise Fr that isn't wrong is linear and has one argument
pub fr_premise : (f : Fact Written) → is_wrong_premise f ≡ false → (is_fr_named f && (f.persistent || not (is_one f.args))) ≡ false
fr_premise f e = fr_fits f (or_parts (is_no_premise f.symbol) (is_misused f) e).1
