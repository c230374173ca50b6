use Rattle.sp_law_reread.proofs.Items.{read_again}
use Rattle.sp_law_reread.proofs.Replaced.{each_lemma, same_theory, trees_proofs}
use Rattle.sp_law_reread.proofs.texts_are_read_again.Goals as goal

pub returns : goal.returns
returns c = record { again = read_again; each = each_lemma; same = same_theory; proofs = trees_proofs }
