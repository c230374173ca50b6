use Rattle.std.proofs.Common.{◌≡◌, drop}
use Rattle.sp_spec_text.specs.Ends.{place_behind, behind_all, is_any}
use Rattle.sp_lex.specs.Views.{tokens_of}
use Rattle.sp_read_theory.proofs.read.behind_all.Given as goal

abbrev pub invariant-loop-token : goal.invariant-loop-token
invariant-loop-token l = place_behind is_any l.place (tokens_of (drop l.token-index l.tokens)) ≡ behind_all (tokens_of l.tokens)
