use Rattle.std.proofs.Common.{refl}
use Rattle.sp_read_lemmas.proofs.LemmaParts.{no_proof_there, block_there, proof_there}
use Rattle.sp_read_lemmas.proofs.Suffix.{is_behind}
use Rattle.sp_read_lemmas.proofs.lemmas.proof_part.Goals as goal

pub returns-in-Some-clause-value : goal.returns-in-Some-clause-value
returns-in-Some-clause-value c = block_there c.in-Some.ensures.value refl

pub returns-in-Some-2-clause-value : goal.returns-in-Some-2-clause-value
returns-in-Some-2-clause-value c =
    let one = rw c.in-Some-2.is at c.in_ok-found.ensures in
    proof_there c.in_default.ensures.value one.value (is_behind c.args.tokens.now c.args.at c.in-Some-2.rest c.place_before-to.result one.further.0 one.further.1 c.place_before-to.ensures)

pub returns-in-None-clause-value : goal.returns-in-None-clause-value
returns-in-None-clause-value c = no_proof_there (rw c.in-None.is at c.in_ok-found.ensures.value) refl
