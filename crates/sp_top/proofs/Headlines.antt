-- Each verdict of an answer is so, line by line.
use Rattle.std.proofs.Common.{◌≡◌, ℕ, List, [], ◌∷◌, ◌++◌, map, codes, Option, inl, inr, refl, sym, ap, subst, ◌∙◌, append-nil, arith}
use Rattle.sp_spec.specs.Lists.{Member, Every, Distinct}
use Rattle.sp_spec.proofs.Lists.{distinct_right}
use Rattle.sp_spec.specs.Theory.{Theory, Restriction, Lemma}
use Rattle.sp_spec.specs.Written.{theory_of}
use Rattle.sp_spec.specs.Verdict.{names_learning}
use Rattle.sp_spec_proof.specs.Tree.{steps}
use Rattle.sp_spec_text.specs.Written.{WrittenText}
use Rattle.sp_spec_text.specs.Declared.{resolved, theory_in}
use Rattle.sp_spec_printed.specs.Verdict.{summary_line}
use Rattle.sp_spec_text.specs.Names.{IsNameWord}
use Rattle.sp_spec_text.specs.Blanks.{lines}
use Rattle.sp_check.specs.Skeleton as read
use Rattle.sp_wf.specs.Laws.{IsWellFormed}
use Rattle.sp_pose.specs.Problem.{Poses}
use Rattle.sp_spec_text.specs.Behind.{IsBehindEnd}
use Rattle.sp_law_reread.proofs.Behind.{behind_one}
use Rattle.sp_analysis.specs.Found.{block_of}
use Rattle.sp_law_printed_log.proofs.NoFeeds.{line_cut, no_feed_in}
use Rattle.sp_law_printed_log.proofs.Sections.{IsNoVerdict, nothing_there, behind_word}
use Rattle.sp_law_printed_log.proofs.TextNames.{texts_have_names_lem}
use Rattle.sp_analysis.specs.Taken.{Stated, stated_in, lemmas_stated, Taken, taken_by}
use Rattle.sp_analysis.specs.Sought.{Setting, setting_of}
use Rattle.sp_spec_text.specs.Numerals.{counted}
use Rattle.sp_analysis.specs.Analysis.{Outcome, summary, AreOutcomes}
use Rattle.sp_analysis.specs.Checking.{Judged, checked_text, AreJudged}
use Rattle.sp_analysis.specs.Laws.{Means, AreReadBack, JudgedRightly}
use Rattle.sp_analysis.proofs.StatedItems.{stated_lemmas}
use Rattle.sp_analysis.specs.Chosen.{run_among}
use Rattle.sp_analysis.proofs.Running.{every_run}
use Rattle.sp_analysis.proofs.ReadBack.{executions_are_read_back_lem}
use Rattle.sp_top.specs.Headline.{LinesAreTrue}
use Rattle.sp_top.specs.Run.{TriedRightly, CheckedRightly}
use Rattle.sp_top.specs.declared.Status.{Status}
use Rattle.sp_top.proofs.Told.{Told, told_text, IsRightlyTold, all_lines, told_lines, lines_true}

-- ---- lemmas that are tried

abbrev told_of : Outcome → Told
told_of o = record { lemma = o.lemma; verdict = o.verdict; steps = counted (steps o.tree); log = o.log }

summary_told : (theory : Theory) (os : List Outcome) → summary theory os ≡ told_text theory (map told_of os)
summary_told theory [] = refl
summary_told theory (o ∷ os) =
    let learns = names_learning o.lemma.formula in
    ap (λ (xs : List ℕ). summary_line o.lemma.name o.lemma.kind learns o.verdict (counted (steps o.tree)) ++ (block_of theory learns o.log ++ xs)) (summary_told theory os)

-- what is known of a lemma of the text
record IsKnown (text : WrittenText) (lemma : Lemma) : Type 0 where
  stands : Member lemma (theory_in text).lemmas
  named : IsNameWord lemma.name

all_known : (bytes : List ℕ) (text : WrittenText) → Poses bytes text → Every (IsKnown text) (theory_in text).lemmas
all_known bytes text posing = go (theory_in text).lemmas (λ l m. m) (texts_have_names_lem.lemmas bytes text posing.says)
  where
    go : (ls : List Lemma) → ((l : Lemma) → Member l ls → Member l (theory_in text).lemmas) → Every (λ (l : Lemma). IsNameWord l.name) ls → Every (IsKnown text) ls
    go [] among h = tt
    go (l ∷ ls) among h = (record { stands = among l (inl refl); named = h.0 }, go ls (λ x m. among x (inr m)) h.1)

outcomes_told : (text : WrittenText) (setting : Setting) (budget : ℕ) (taken : List Taken) (qs : List Stated) (os : List Outcome) → Every (IsKnown text) (lemmas_stated qs)
    → AreOutcomes setting budget taken qs os
    → Every (λ (o : Outcome). Means (theory_of (theory_in text)) o.lemma.kind o.verdict o.log o.lemma) os → Every (λ (o : Outcome). AreReadBack (theory_of (theory_in text)) (names_learning o.lemma.formula) o.log) os
    → Every (IsRightlyTold text) (map told_of os)
outcomes_told text setting budget taken [] [] k h m r = tt
outcomes_told text setting budget taken [] (o ∷ os) k h m r = absurd h
outcomes_told text setting budget taken (q ∷ qs) [] k h m r = absurd h
outcomes_told text setting budget taken (q ∷ qs) (o ∷ os) k h m r =
    let known = subst (IsKnown text) (sym h.0.lemma_is) k.0 in (
      record { stands = known.stands; named = known.named.1; means = m.0; read = r.0 },
      outcomes_told text setting budget (taken ++ taken_by q o.verdict) qs os k.1 h.1 m.1 r.1,
    )

-- ---- proofs that are checked

abbrev told_on : Judged → Told
told_on j = record { lemma = j.lemma; verdict = j.verdict; steps = counted (read.steps j.proof); log = j.log }

checked_told : (theory : Theory) (js : List Judged) → checked_text theory js ≡ told_text theory (map told_on js)
checked_told theory [] = refl
checked_told theory (j ∷ js) =
    let learns = names_learning j.lemma.formula in
    ap (λ (xs : List ℕ). summary_line j.lemma.name j.lemma.kind learns j.verdict (counted (read.steps j.proof)) ++ (block_of theory learns j.log ++ xs)) (checked_told theory js)

judged_told : (text : WrittenText) (setting : Setting) (taken : List Taken) (qs : List Stated) (js : List Judged) → Every (IsKnown text) (lemmas_stated qs) → AreJudged setting taken qs js
    → Every (JudgedRightly text) js → Every (λ (j : Judged). AreReadBack (theory_of (theory_in text)) (names_learning j.lemma.formula) j.log) js → Every (IsRightlyTold text) (map told_on js)
judged_told text setting taken [] [] k h m r = tt
judged_told text setting taken [] (j ∷ js) k h m r = absurd h
judged_told text setting taken (q ∷ qs) [] k h m r = absurd h
judged_told text setting taken (q ∷ qs) (j ∷ js) k h m r =
    let known = subst (IsKnown text) (sym h.0.lemma_is) k.0 in (
      record { stands = known.stands; named = known.named.1; means = m.0.means; read = r.0 },
      judged_told text setting (taken ++ taken_by q j.verdict) qs js k.1 h.1 m.1 r.1,
    )

-- its lemmas have names of their own
lemma_names_of : (text : WrittenText) → IsWellFormed text → Distinct (map (λ (l : Lemma). l.name) (theory_in text).lemmas)
lemma_names_of text fine = distinct_right (map (λ (r : Restriction). r.name) (theory_in text).restrictions) (map (λ (l : Lemma). l.name) (theory_in text).lemmas) fine.statement_names

-- ---- lines around them

one_empty : lines [] ≡ [] ∷ []
unfolding lines
one_empty = refl

opens_comment : IsNoVerdict (codes "/*")
opens_comment = behind_word [] 47 (codes "*") tt refl (λ e. omega (arith, e))

closes_comment : IsNoVerdict (codes "*/")
closes_comment = behind_word [] 42 (codes "/") tt refl (λ e. omega (arith, e))

pub tried_true : (budget : ℕ) (chosen : Option (List ℕ)) (bytes text : List ℕ) (status : Status) → TriedRightly budget chosen bytes text status → (told : List ℕ) → IsBehindEnd text told → LinesAreTrue bytes told
tried_true budget chosen bytes text status r told behind_end =
    let written = r.analysis.theory in
    let theory = theory_of (theory_in written) in
    let posing = r.analysis.poses in
    let names = texts_have_names_lem.symbols bytes written posing.says in
    let ts = map told_of r.outcomes in
    let known = every_run chosen (IsKnown written) (stated_in (resolved written).items) (stated_lemmas written (IsKnown written) (all_known bytes written posing)) in
    let right = outcomes_told written (setting_of written) budget [] (run_among chosen (stated_in (resolved written).items)) r.outcomes known r.analysis.outcomes_are r.right
    (executions_are_read_back_lem.tried budget chosen bytes text r.outcomes r.analysis) in
    let same = behind_one text told (codes "\n/*\n" ++ (summary theory r.outcomes ++ codes "*/\n")) behind_end r.behind in
    let shape : codes "\n/*\n" ++ (summary theory r.outcomes ++ codes "*/\n") ≡ [] ++ 10 ∷ (codes "/*" ++ 10 ∷ (told_text theory ts ++ codes "*/\n")) =
    ap (λ (xs : List ℕ). codes "\n/*\n" ++ (xs ++ codes "*/\n")) (summary_told theory r.outcomes) in
    let inner = told_text theory ts ++ codes "*/\n" in
    let last : lines (codes "*/" ++ 10 ∷ []) ≡ codes "*/" ∷ [] ∷ [] = line_cut (codes "*/") [] (no_feed_in (codes "*/") refl) ∙ ap (λ (ls : List (List ℕ)). codes "*/" ∷ ls) one_empty in
    let all = ap lines (same ∙ shape) ∙ line_cut [] (codes "/*" ++ 10 ∷ inner) tt
    ∙ ap (λ (ls : List (List ℕ)). [] ∷ ls) (line_cut (codes "/*") inner (no_feed_in (codes "/*") refl))
    ∙ ap (λ (ls : List (List ℕ)). [] ∷ codes "/*" ∷ ls) (told_lines written names ts right (codes "*/\n") ∙ ap (λ (ls : List (List ℕ)). all_lines written names ts ++ ls) last) in
    lines_true written names bytes posing.says (lemma_names_of written posing.fine) told ([] ∷ codes "/*" ∷ []) (codes "*/" ∷ [] ∷ []) ts right all (nothing_there, (opens_comment, tt)) (closes_comment, (nothing_there, tt))

pub checked_true : (chosen : Option (List ℕ)) (bytes text : List ℕ) (status : Status) → CheckedRightly chosen bytes text status → LinesAreTrue bytes text
checked_true chosen bytes text status r =
    let written = r.checking.theory in
    let theory = theory_of (theory_in written) in
    let posing = r.checking.poses in
    let names = texts_have_names_lem.symbols bytes written posing.says in
    let ts = map told_on r.judged in
    let known = every_run chosen (IsKnown written) (stated_in (resolved written).items) (stated_lemmas written (IsKnown written) (all_known bytes written posing)) in
    let right = judged_told written (setting_of written) [] (run_among chosen (stated_in (resolved written).items)) r.judged known r.checking.judged_are r.right
    (executions_are_read_back_lem.checked chosen bytes text r.judged r.checking) in
    let shape : text ≡ told_text theory ts ++ [] = r.checking.written_is ∙ checked_told theory r.judged ∙ sym (append-nil (told_text theory ts)) in
    let all = ap lines shape ∙ told_lines written names ts right [] ∙ ap (λ (ls : List (List ℕ)). all_lines written names ts ++ ls) one_empty in
    lines_true written names bytes posing.says (lemma_names_of written posing.fine) text [] ([] ∷ []) ts right all tt (nothing_there, tt)
