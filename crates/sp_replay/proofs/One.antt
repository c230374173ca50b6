-- Of a text whose lines are replayed one thing is answered.
use Rattle.std.proofs.Common.{◌≡◌, Bool, true, false, ℕ, List, [], ◌∷◌, ◌++◌, refl, sym, ap, ap₂, ◌∙◌, subst}
use Rattle.sp_spec.specs.Rule.{Action}
use Rattle.sp_spec.specs.Signature.{Symbol, Signature}
use Rattle.sp_spec.specs.Formula.{Formula}
use Rattle.sp_spec.specs.Theory.{signature_of}
use Rattle.sp_spec.specs.Execution.{Step, Trace, Cause}
use Rattle.sp_law_run.proofs.Runs.{runs_alike}
use Rattle.sp_law_run.proofs.Written.{rules_right}
use Rattle.sp_spec.specs.Lists.{newest_first}
use Rattle.sp_spec_printed.specs.Printed.{trace_block}
use Rattle.sp_spec_printed.specs.StepLines.{HaveNames, AreSteps, IsFirstUnread}
use Rattle.sp_read_steps.proofs.Laws.{steps_are_one}
use Rattle.sp_exec.specs.Replay.{IsReplayed, IsFirstFault}
use Rattle.sp_exec.proofs.Replays.{one_trace, one_fault, no_execution}
use Rattle.sp_spec_text.specs.Written.{WrittenText}
use Rattle.sp_spec_text.specs.Declared.{theory_in}
use Rattle.sp_spec_text.specs.Texts.{ArePlaces}
use Rattle.sp_read_theory.proofs.Whole.{text_one, places_one}
use Rattle.sp_pose.specs.Problem.{Poses}
use Rattle.sp_pose.proofs.One.{not_posed}
use Rattle.sp_pose.proofs.BasicTheories.{normal_forms}
use Rattle.sp_replay.specs.Replay.{theory_said, lines_behind, HasLines, steps_done, IsUnread, IsStopped, IsMet, AreMet, restriction_formulas, lemma_formulas, restriction_lines, met_lines, IsReplay}
use Rattle.sp_replay.specs.Laws.{RepliesAreOne}
use Rattle.sp_law_printed_log.proofs.TextNames.{texts_have_names_lem}
use Rattle.sp_spec.proofs.Lists.{newest_twice}

-- ---- one theory, and one list of lines

abbrev symbols_said : WrittenText → List Symbol
symbols_said t = (signature_of (theory_said t)).symbols

same_lines : {text : List ℕ} {t u : WrittenText} {found others : List (List ℕ)} → HasLines text t found → HasLines text u others → (t ≡ u) × (found ≡ others)
same_lines {text} {t} {u} {found} {others} a b =
    let theory = text_one a.poses.says b.poses.says in
    let places = places_one (subst (λ (w : WrittenText). ArePlaces text w a.spans a.behind_end) theory a.places_are) b.places_are in
    (theory, a.lines_are ∙ ap (lines_behind text) places.1 ∙ sym b.lines_are)

-- and one list of steps
read_over : {t u : WrittenText} {found others : List (List ℕ)} {xs : List Step} → t ≡ u → found ≡ others → AreSteps (symbols_said t) found xs → AreSteps (symbols_said u) others xs
read_over {u = u} {found = found} {xs = xs} e d a = subst (λ (ls : List (List ℕ)). AreSteps (symbols_said u) ls xs) d (subst (λ (w : WrittenText). AreSteps (symbols_said w) found xs) e a)

unread_over : {t u : WrittenText} {found others : List (List ℕ)} {n : ℕ} → t ≡ u → found ≡ others → IsFirstUnread (symbols_said t) found n → IsFirstUnread (symbols_said u) others n
unread_over {u = u} {found = found} {n = n} e d a = subst (λ (ls : List (List ℕ)). IsFirstUnread (symbols_said u) ls n) d (subst (λ (w : WrittenText). IsFirstUnread (symbols_said w) found n) e a)

names_said : {text : List ℕ} {t : WrittenText} {found : List (List ℕ)} → HasLines text t found → HaveNames (symbols_said t)
names_said {text = text} {t = t} a = texts_have_names_lem.symbols text t a.poses.says

same_steps : {text : List ℕ} {t u : WrittenText} {found others : List (List ℕ)} {xs ys : List Step} → HasLines text t found → HasLines text u others → AreSteps (symbols_said t) found xs → AreSteps (symbols_said u) others ys → xs ≡ ys
same_steps {u = u} {others = others} {xs = xs} {ys = ys} h k a b = let same = same_lines h k in steps_are_one.one (symbols_said u) (names_said k) others xs ys (read_over same.0 same.1 a) b

read_or_unread : {text : List ℕ} {t u : WrittenText} {found others : List (List ℕ)} {xs : List Step} {n : ℕ} → HasLines text t found → HasLines text u others → AreSteps (symbols_said t) found xs → IsFirstUnread (symbols_said u) others n → ⊥
read_or_unread {u = u} {others = others} {xs = xs} {n = n} h k a b = let same = same_lines h k in steps_are_one.apart (symbols_said u) (names_said k) others xs n (read_over same.0 same.1 a) b

-- ---- traces

same_entries : (xs ys : List (List (Action ⊥))) → newest_first xs ≡ newest_first ys → xs ≡ ys
same_entries xs ys e = sym (newest_twice xs) ∙ ap newest_first e ∙ newest_twice ys

-- ---- truth is told in one way

met_one : (signature : Signature) (trace : Trace) (f : Formula) (b c : Bool) → IsMet signature trace b f → IsMet signature trace c f → b ≡ c
met_one signature trace f true true h k = refl
met_one signature trace f true false h k = absurd (k h)
met_one signature trace f false true h k = absurd (h k)
met_one signature trace f false false h k = refl

mets_one : (signature : Signature) (trace : Trace) (fs : List Formula) (bs cs : List Bool) → AreMet signature trace fs bs → AreMet signature trace fs cs → bs ≡ cs
mets_one signature trace [] [] [] h k = refl
mets_one signature trace [] [] (c ∷ cs) h k = absurd k
mets_one signature trace [] (b ∷ bs) cs h k = absurd h
mets_one signature trace (f ∷ fs) [] cs h k = absurd h
mets_one signature trace (f ∷ fs) (b ∷ bs) [] h k = absurd k
mets_one signature trace (f ∷ fs) (b ∷ bs) (c ∷ cs) h k = ap₂ (λ (d : Bool) (ds : List Bool). d ∷ ds) (met_one signature trace f b c h.0 k.0) (mets_one signature trace fs bs cs h.1 k.1)

-- what is done of a theory's steps
record Told (theory : WrittenText) (steps : List Step) (entries : List (List (Action ⊥))) (kept met : List Bool) : Type 0 where
  replayed : IsReplayed (theory_said theory) (steps_done (theory_said theory) steps) (newest_first entries)
  kept_are : AreMet (signature_of (theory_said theory)) replayed.shown (restriction_formulas (theory_said theory).restrictions) kept
  met_are : AreMet (signature_of (theory_said theory)) replayed.shown (lemma_formulas (theory_said theory).lemmas) met

told_one : {text : List ℕ} {theory : WrittenText} {steps : List Step} {entries others : List (List (Action ⊥))} {kept keeps met meets : List Bool} → Poses text theory
    → Told theory steps entries kept met → Told theory steps others keeps meets → (entries ≡ others) × (kept ≡ keeps) × (met ≡ meets)
told_one {theory = theory} {steps = steps} {entries = entries} {others = others} {kept = kept} {keeps = keeps} {met = met} {meets = meets} poses a b =
    let said = theory_said theory in
    let ran = steps_done (theory_said theory) steps in
    let right = rules_right (theory_in theory).rules poses.fine.rule_names in
    let traces = one_trace said ran (newest_first entries) (newest_first others) a.replayed b.replayed in
    let shown = (runs_alike said (normal_forms poses).normal_forms right (newest_first ran) a.replayed.executed.0 b.replayed.executed.0 a.replayed.shown b.replayed.shown a.replayed.executed.1 b.replayed.executed.1).1 in
    let kept_over = subst (λ (t : Trace). AreMet (signature_of said) t (restriction_formulas said.restrictions) kept) shown a.kept_are in
    let met_over = subst (λ (t : Trace). AreMet (signature_of said) t (lemma_formulas said.lemmas) met) shown a.met_are in (
      same_entries entries others traces,
      mets_one (signature_of said) b.replayed.shown (restriction_formulas said.restrictions) kept keeps kept_over b.kept_are,
      mets_one (signature_of said) b.replayed.shown (lemma_formulas said.lemmas) met meets met_over b.met_are,
    )

told_there : {text written : List ℕ} (a : IsReplay text written) {theory : WrittenText} {steps : List Step} → a.theory ≡ theory → a.steps ≡ steps → Told theory steps a.entries a.kept a.met
told_there a {theory} {steps} e d =
    subst (λ (t : WrittenText). Told t steps a.entries a.kept a.met) e
    (subst (λ (xs : List Step). Told a.theory xs a.entries a.kept a.met) d (record { replayed = a.replayed; kept_are = a.kept_are; met_are = a.met_are }))

-- ---- answers

one_replay : (text written other : List ℕ) → IsReplay text written → IsReplay text other → written ≡ other
one_replay text written other a b =
    let same = same_lines a.has_lines b.has_lines in
    let steps : a.steps ≡ b.steps = same_steps a.has_lines b.has_lines a.read b.read in
    let told = told_one b.has_lines.poses (told_there a same.0 steps) (told_there b refl refl) in
    let said = theory_said b.theory in
    a.written_is
    ∙ ap (λ (t : WrittenText). trace_block a.entries ++ (restriction_lines (theory_said t).restrictions a.kept ++ met_lines (theory_said t).lemmas a.met)) same.0
    ∙ ap₂ (λ (es : List (List (Action ⊥))) (words : List ℕ). trace_block es ++ words) told.0
    (ap₂ (λ (ks ms : List Bool). restriction_lines said.restrictions ks ++ met_lines said.lemmas ms) told.1 told.2)
    ∙ sym b.written_is

fault_there : {text : List ℕ} {n : ℕ} {cause : Cause} (a : IsStopped text n cause) {theory : WrittenText} {steps : List Step} → a.theory ≡ theory → a.steps ≡ steps
    → IsFirstFault (theory_said theory) (steps_done (theory_said theory) steps) n cause
fault_there {n = n} {cause = cause} a {theory} {steps} e d =
    subst (λ (t : WrittenText). IsFirstFault (theory_said t) (steps_done (theory_said t) steps) n cause) e
    (subst (λ (xs : List Step). IsFirstFault (theory_said a.theory) (steps_done (theory_said a.theory) xs) n cause) d a.fault)

one_stop : (text : List ℕ) (n m : ℕ) (cause other : Cause) → IsStopped text n cause → IsStopped text m other → (n ≡ m) × (cause ≡ other)
one_stop text n m cause other a b =
    let same = same_lines a.has_lines b.has_lines in
    let steps : a.steps ≡ b.steps = same_steps a.has_lines b.has_lines a.read b.read in
    one_fault (theory_said b.theory) (steps_done (theory_said b.theory) b.steps) n m cause other (fault_there a same.0 steps) b.fault

replay_or_stop : (text written : List ℕ) (n : ℕ) (cause : Cause) → IsReplay text written → IsStopped text n cause → ⊥
replay_or_stop text written n cause a b =
    let same = same_lines b.has_lines a.has_lines in
    let steps : b.steps ≡ a.steps = same_steps b.has_lines a.has_lines b.read a.read in
    no_execution (theory_said a.theory) (steps_done (theory_said a.theory) a.steps) n cause (fault_there b same.0 steps) a.replayed.shown a.replayed.executed

one_unread_line : (text : List ℕ) (n m : ℕ) → IsUnread text n → IsUnread text m → n ≡ m
one_unread_line text n m a b =
    let same = same_lines a.has_lines b.has_lines in
    steps_are_one.one_unread (symbols_said b.theory) (names_said b.has_lines) b.found n m (unread_over same.0 same.1 a.unread) b.unread

pub replies_are_one_lem : RepliesAreOne
replies_are_one_lem = record {
  one = one_replay;
  one_stopped = one_stop;
  one_unread = one_unread_line;
  done_or_stopped = replay_or_stop;
  done_or_unread = λ text written n a b. read_or_unread a.has_lines b.has_lines a.read b.unread;
  stopped_or_unread = λ text n m cause a b. read_or_unread a.has_lines b.has_lines a.read b.unread;
  refused_or_done = λ text written place h a. h.nothing.none a.theory a.has_lines.poses.says;
  refused_or_stopped = λ text place n cause h a. h.nothing.none a.theory a.has_lines.poses.says;
  refused_or_unread = λ text place n h a. h.nothing.none a.theory a.has_lines.poses.says;
  reported_or_done = λ text lines written r a. not_posed r a.has_lines.poses;
  reported_or_stopped = λ text lines n cause r a. not_posed r a.has_lines.poses;
  reported_or_unread = λ text lines n r a. not_posed r a.has_lines.poses;
}
