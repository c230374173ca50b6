-- What is answered to a text, by what is to be done with what it poses.
use Rattle.std.specs.Prelude.{ℕ, List}
use Rattle.sp_place.specs.Refused.{IsRefusedAt}
use Rattle.sp_pose.specs.Problem.{IsReported}
use Rattle.sp_pose.specs.declared.reply.Reply.{Reply}
use Rattle.sp_pose.specs.declared.reply.Reply.TheVariants.{Refused, Reported, Done}

-- the text is refused at a place, or has findings, or it is done with
abbrev pub IsReplyTo : {T : Type 0} → (List ℕ → T → Type 0) → List ℕ → Reply T → Type 0
IsReplyTo IsDone text (Refused place) = IsRefusedAt text place
IsReplyTo IsDone text (Reported lines) = IsReported text lines.items
IsReplyTo IsDone text (Done done) = IsDone text done
