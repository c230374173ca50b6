-- Lists of terms and what they stand for.
use Rattle.std.proofs.Common.{◌≡◌, List, length}
use Rattle.sp_spec.specs.Term.{count}
use Rattle.sp_term.specs.View.{never_of, Never}
use Rattle.sp_term.specs.declared.term.Term.{Term}
use Rattle.sp_term.proofs.Lists.{count-view_all}
use Rattle.sp_fact.specs.GroundView.{grounds_of}

pub count_grounds : (ts : List (Term Never)) → count (grounds_of ts) ≡ length ts
count_grounds ts = count-view_all never_of ts
