-- What warnings in memory stand for.
use Rattle.sp_warn.specs.Warning as w
use Rattle.sp_warn.specs.declared.warning.Warning.{Warning}
use Rattle.sp_warn.specs.declared.warning.Warning.TheVariants as v

abbrev pub warning_of : Warning → w.Warning
warning_of (v.NoSource r f n) = w.no_source r.now f.now n
warning_of (v.InNoRule x f n) = w.in_no_rule x.now f.now n
warning_of (v.Alike a b) = w.alike a.now b.now
warning_of (v.SeveralForms f) = w.several_forms f.now
warning_of (v.NoInduction x) = w.no_induction x.now
