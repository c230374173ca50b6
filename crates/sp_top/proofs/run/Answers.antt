use Rattle.std.proofs.Common.{inl, inr, refl}
use Rattle.sp_top.proofs.Causes.{answer_is_whole, answer_of_line, usage_exactly, read_fault_exactly, too_long_exactly, answers_exactly, posed_is_answered, posed_short, headline, headline_short, text_is_answered, asked_first}
use Rattle.sp_top.proofs.Verdicts.{verdicts_are_true}
use Rattle.sp_top.proofs.TextStatus.{verdicts_status, refused_status}
use Rattle.sp_top.proofs.run.Goals as goal

pub returns-in-Ok-write_whole-clause-usage : goal.returns-in-Ok-write_whole-clause-usage
returns-in-Ok-write_whole-clause-usage g c = usage_exactly c.args.words.now _ _ _ _ (inr (c.in-Ok.answer.0.items, c.in-Ok.ensures.answer))

pub returns-in-Ok-write_whole-clause-read_fault : goal.returns-in-Ok-write_whole-clause-read_fault
returns-in-Ok-write_whole-clause-read_fault g c = read_fault_exactly c.args.words.now _ _ _ _ (inr (c.in-Ok.answer.0.items, c.in-Ok.ensures.answer))

pub returns-in-Ok-write_whole-clause-too_long : goal.returns-in-Ok-write_whole-clause-too_long
returns-in-Ok-write_whole-clause-too_long g c = too_long_exactly c.args.words.now _ _ _ _ (inr (c.in-Ok.answer.0.items, c.in-Ok.ensures.answer))

pub returns-in-Ok-write_whole-clause-refused : goal.returns-in-Ok-write_whole-clause-refused
returns-in-Ok-write_whole-clause-refused g c = answers_exactly c.args.words.now _ _ _ _ _ refused_status (inr (c.in-Ok.answer.0.items, c.in-Ok.ensures.answer))

pub returns-in-Ok-write_whole-clause-rejected : goal.returns-in-Ok-write_whole-clause-rejected
returns-in-Ok-write_whole-clause-rejected g c = answers_exactly c.args.words.now _ _ _ _ _ (verdicts_status _ (inr (inr (inr refl)))) (inr (c.in-Ok.answer.0.items, c.in-Ok.ensures.answer))

pub returns-in-Ok-write_whole-clause-falsified : goal.returns-in-Ok-write_whole-clause-falsified
returns-in-Ok-write_whole-clause-falsified g c = answers_exactly c.args.words.now _ _ _ _ _ (verdicts_status _ (inr (inl refl))) (inr (c.in-Ok.answer.0.items, c.in-Ok.ensures.answer))

pub returns-in-Ok-write_whole-clause-incomplete : goal.returns-in-Ok-write_whole-clause-incomplete
returns-in-Ok-write_whole-clause-incomplete g c = answers_exactly c.args.words.now _ _ _ _ _ (verdicts_status _ (inr (inr (inl refl)))) (inr (c.in-Ok.answer.0.items, c.in-Ok.ensures.answer))

pub returns-in-Ok-write_whole-clause-fine : goal.returns-in-Ok-write_whole-clause-fine
returns-in-Ok-write_whole-clause-fine g c = answers_exactly c.args.words.now _ _ _ _ _ (verdicts_status _ (inl refl)) (inr (c.in-Ok.answer.0.items, c.in-Ok.ensures.answer))

pub returns-in-Ok-write_whole-clause-verdicts : goal.returns-in-Ok-write_whole-clause-verdicts
returns-in-Ok-write_whole-clause-verdicts g c = headline c.args.words.now _ _ _ _ _ c.in-Ok.answer.0.items _ c.in-Ok.ensures.answer (rw c.deref.ensures.value at c.in-Ok-write_whole.ensures.all)

pub returns-in-Ok-write_whole-clause-completeness : goal.returns-in-Ok-write_whole-clause-completeness
returns-in-Ok-write_whole-clause-completeness g c = record {
  complete = λ request bytes line telling within still sink_still.
      let text = c.in-Ok.answer.0.items in
      let answer = answer_of_line c.args.words.now (g.L.Library.holds c.args.library.now) _ _ text request c.in-Ok.answer.1 line c.in-Ok.ensures.answer in
      inr (
        text,
        text_is_answered c.args.words.now (g.L.Library.holds c.args.library.now) _ _ text request bytes c.in-Ok.answer.1 answer telling within still,
        rw c.deref.ensures.value at c.in-Ok-write_whole.ensures.all,
      );
}

pub returns-in-Ok-write_whole-clause-write_fault : goal.returns-in-Ok-write_whole-clause-write_fault
returns-in-Ok-write_whole-clause-write_fault g c = record {
  cause = λ e. absurd (answer_is_whole c.args.words.now _ _ _ c.in-Ok.answer.0.items _ c.in-Ok.ensures.answer (inl e));
}

pub returns-in-Ok-write_whole-clause-no_memory : goal.returns-in-Ok-write_whole-clause-no_memory
returns-in-Ok-write_whole-clause-no_memory g c =
    let whole = answer_is_whole c.args.words.now _ _ _ c.in-Ok.answer.0.items _ c.in-Ok.ensures.answer in
    record { written = λ e. absurd (whole (inr e)); faults = λ e. absurd (whole (inr e)) }

pub returns-in-Err-clause-verdicts : goal.returns-in-Err-clause-verdicts
returns-in-Err-clause-verdicts g c = headline_short c.args.words.now _ _ _ _ _ _ (inr refl)

pub returns-clause-verdicts : goal.returns-clause-verdicts
returns-clause-verdicts g c = headline_short c.args.words.now _ _ _ _ _ _ (inl refl)

pub returns-in-Ok-write_whole-clause-asked : goal.returns-in-Ok-write_whole-clause-asked
returns-in-Ok-write_whole-clause-asked g c = record {
  no_line = c.respond.ensures.no_line;
  at_most = λ request line. asked_first c.args.words.now request _ _ line (c.respond.ensures.asked request line);
  all = λ request line memory. c.in-Ok.ensures.asked_all request line;
}

pub returns-in-Err-clause-asked : goal.returns-in-Err-clause-asked
returns-in-Err-clause-asked g c = record {
  no_line = c.respond.ensures.no_line;
  at_most = λ request line. asked_first c.args.words.now request _ _ line (c.respond.ensures.asked request line);
  all = λ request line memory. absurd (memory refl);
}

pub returns-clause-asked : goal.returns-clause-asked
returns-clause-asked g c = record {
  no_line = c.respond.ensures.no_line;
  at_most = λ request line. asked_first c.args.words.now request _ _ line (c.respond.ensures.asked request line);
  all = λ request line memory. c.in-Ok.ensures.asked_all request line;
}

pub returns-in-Ok-write_whole-clause-headline : goal.returns-in-Ok-write_whole-clause-headline
returns-in-Ok-write_whole-clause-headline g c =
    verdicts_are_true c.args.words.now _ _ _ _ _ _ (headline c.args.words.now _ _ _ _ _ c.in-Ok.answer.0.items _ c.in-Ok.ensures.answer (rw c.deref.ensures.value at c.in-Ok-write_whole.ensures.all))
    (record { prefix = λ e. absurd (answer_is_whole c.args.words.now _ _ _ c.in-Ok.answer.0.items _ c.in-Ok.ensures.answer (inl e)) })

pub returns-in-Err-clause-headline : goal.returns-in-Err-clause-headline
returns-in-Err-clause-headline g c = verdicts_are_true c.args.words.now _ 0 0 _ _ _ (headline_short c.args.words.now _ _ _ _ _ _ (inr refl)) (record { prefix = λ e. absurd cc })

pub returns-clause-headline : goal.returns-clause-headline
returns-clause-headline g c =
    verdicts_are_true c.args.words.now _ _ _ _ _ _ (headline_short c.args.words.now _ _ _ _ _ _ (inl refl))
    (record { prefix = λ e. (c.in-Ok.answer.0.items, c.in-Ok.answer.1, c.in-Ok.ensures.answer, rw c.deref.ensures.value at c.in-Err-write_whole.ensures.prefix) })

pub returns-in-Ok-write_whole-clause-posed : goal.returns-in-Ok-write_whole-clause-posed
returns-in-Ok-write_whole-clause-posed g c = posed_is_answered c.args.words.now _ _ _ c.in-Ok.answer.0.items _ c.in-Ok.ensures.answer

pub returns-in-Err-clause-posed : goal.returns-in-Err-clause-posed
returns-in-Err-clause-posed g c = posed_short c.args.words.now _ 0 0 _ (inr refl)

pub returns-clause-posed : goal.returns-clause-posed
returns-clause-posed g c = posed_short c.args.words.now _ 0 0 _ (inl refl)
