-- What meanings in memory stand for among the guarded forms, and binders as names are looked for among them.
use Rattle.std.specs.Prelude.{ℕ}
use Rattle.sp_read_parts.specs.Views.{mark}
use Rattle.sp_law_guard.specs.GuardedForm.{Meant, a_message, a_time}
use Rattle.sp_guard.specs.declared.meaning.Meaning.{Meaning}
use Rattle.sp_guard.specs.declared.meaning.Meaning.TheVariants.{Message, Time}
pub use Rattle.sp_walk.specs.View.{innermost_first}

abbrev pub meaning_of : Meaning → Meant
meaning_of (Message m k) = a_message (mark m) k
meaning_of (Time k) = a_time k

abbrev pub place_of : Meaning → ℕ
place_of (Message m k) = k
place_of (Time k) = k
