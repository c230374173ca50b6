-- What was read poses what the text poses.
use Rattle.std.proofs.Common.{◌≡◌, ◌↔◌, ◌≤◌, ℕ, Bool, true, false, nat_eq, arith, append_assoc, codes, List, [], ◌∷◌, ◌++◌, map, length, Option, Some, None, option_map, option_and_then, refl, sym, ap, ap₂, ◌∙◌, subst, string_bytes}
use Rattle.std.proofs.lemmas.Bool.{eqb-true}
use Rattle.std.proofs.lemmas.List.{nil_from_length, length-map}
use Rattle.sp_spec.specs.Lists.{Every}
use Rattle.sp_spec.specs.Signature.{Symbol, Equation, Signature}
use Rattle.sp_spec.specs.Theory.{Lemma, signature_of}
use Rattle.sp_spec.specs.Written.{rule_of, theory_of, WrittenRule}
use Rattle.sp_spec.specs.Guarded.{Guarded}
use Rattle.sp_fact.specs.GroundView.{symbol_of}
use Rattle.sp_declared.specs.NumberedView.{numbered_of}
use Rattle.sp_declared.specs.WrittenRules.{rules_written}
use Rattle.sp_declared.proofs.WrittenRules.{rules_all}
use Rattle.sp_declared.proofs.Theory.{theory_constants}
use Rattle.sp_spec_text.specs.Written as written
use Rattle.sp_spec_text.specs.Written.{WrittenText, restrictions_in, lemmas_in}
use Rattle.sp_spec_text.specs.Declared.{all_symbols, resolved_item, resolved, Numbered, all_equations, their_equations, theory_in}
use Rattle.sp_spec_text.specs.Spans.{Span, Rise}
use Rattle.sp_written.specs.Views as view
use Rattle.sp_written.specs.declared.theory.Item.{Item}
use Rattle.sp_written.specs.declared.theory.Item.TheVariants as i
use Rattle.sp_written.specs.declared.theory.ReadTheory.{ReadTheory}
use Rattle.sp_spec_text.specs.Texts.{IsTextOf, ArePlaces}
use Rattle.sp_finding.specs.Finding.{lines_after}
use Rattle.sp_finding.specs.View.{lines_of}
use Rattle.sp_wf.specs.Report.{findings_by, fatal_lines, text_of}
use Rattle.sp_wf.specs.Laws.{IsFineLemma, IsWellFormed}
use Rattle.sp_warn.specs.Warnings as warn
use Rattle.sp_warn.specs.Warnings.{warnings_on, warning_lines}
use Rattle.sp_wf_rules.specs.BindingFindings.{BoundNames, bound_in}
use Rattle.sp_wf.proofs.ReportClean.{HasForm, report_is_right}
use Rattle.sp_pose.specs.Problem.{Poses, report, IsReported, counted, counts, IsReviewed}
use Rattle.sp_pose.specs.Examined.{IsExamined}
use Rattle.sp_pose.specs.Reviewed.{warned, IsReviewOf}
use Rattle.sp_pose.specs.declared.examined.SaidTheory.{SaidTheory}
use Rattle.sp_pose.specs.declared.review.Review.{Review}
use Rattle.sp_pose.specs.Required.{all_required}
use Rattle.sp_pose.specs.Ranking.{rankings_in}
use Rattle.sp_pose.specs.Asked.{Asked, asked_with, lemmas_read, all_asked}
use Rattle.sp_pose.specs.Posed.{IsMadeOf, IsPosedBy}
use Rattle.sp_pose.specs.declared.problem.Problem.{Problem}

-- where there are lines there are findings
pub reported : {text lines : List ℕ} (t : WrittenText) → IsTextOf text t → (fatal_lines t ≡ [] → ⊥) → lines ≡ report t → IsReported text lines
reported t h some e = record { theory = t; says = h; wrong = λ fine. some ((report_is_right.no_line t).1 fine); lines_are = e }

-- and where there are none the theory is well-formed
pub poses : {text : List ℕ} (t : WrittenText) → IsTextOf text t → fatal_lines t ≡ [] → Poses text t
poses t h none = record { says = h; fine = (report_is_right.no_line t).0 none }

-- each lemma of a well-formed theory has a guarded form
pub asked_some : (xs : List Item) → Every HasForm (lemmas_in (view.items xs)) → all_asked (lemmas_read xs) ≡ None → ⊥
asked_some [] h e = cc
asked_some (i.Builtins b ∷ xs) h e = asked_some xs h e
asked_some (i.Functions f ∷ xs) h e = asked_some xs h e
asked_some (i.Equations es ∷ xs) h e = asked_some xs h e
asked_some (i.Heuristic ws ∷ xs) h e = asked_some xs h e
asked_some (i.Block w ∷ xs) h e = asked_some xs h e
asked_some (i.Rule r ∷ xs) h e = asked_some xs h e
asked_some (i.Restriction r ∷ xs) h e = asked_some xs h e
asked_some (i.Lemma l ∷ xs) h e = at (all_asked (lemmas_read xs)) refl (λ k. asked_some xs h.1 k)
  where
    at : (later : Option (List Asked)) → all_asked (lemmas_read xs) ≡ later → (all_asked (lemmas_read xs) ≡ None → ⊥) → ⊥
    at None k again = again k
    at (Some as') k again =
        let f : option_and_then (λ (g : Guarded). option_map (λ (bs : List Asked). asked_with l g ∷ bs) (Some as')) (Some h.0.0) ≡ None =
        sym (ap (λ (o : Option (List Asked)). option_and_then (λ (g : Guarded). option_map (λ (bs : List Asked). asked_with l g ∷ bs) o) (Some h.0.0)) k)
        ∙ sym (ap (option_and_then (λ (g : Guarded). option_map (λ (bs : List Asked). asked_with l g ∷ bs) (all_asked (lemmas_read xs)))) h.0.1) ∙ e in
        cc

their_forms : (symbols : List Symbol) (es : List Equation) (ls : List Lemma) → Every (IsFineLemma symbols es) ls → Every HasForm ls
their_forms symbols es [] h = tt
their_forms symbols es (l ∷ ls) h = (h.0.form, their_forms symbols es ls h.1)

pub forms_there : {text : List ℕ} (t : WrittenText) (theory : ReadTheory) → Poses text t → view.theory theory ≡ resolved t → all_asked (lemmas_read theory.items.items) ≡ None → ⊥
forms_there t theory posing is missing =
    let s = signature_of (theory_of (theory_in t)) in
    let forms : Every HasForm (lemmas_in (resolved t).items) = their_forms s.symbols s.equations (theory_in t).lemmas posing.fine.lemmas in
    asked_some theory.items.items (subst (λ (u : WrittenText). Every HasForm (lemmas_in u.items)) (sym is) forms) missing

-- in memory, where these symbols are the text's, values stand for bound names and symbols for the names that are such
pub resolved_same : (t : WrittenText) (symbols : List Symbol) (seen : WrittenText) → symbols ≡ all_symbols t.items
    → seen ≡ record { name = t.name; items = map (resolved_item symbols) t.items } → seen ≡ resolved t
resolved_same t symbols seen e f = f ∙ ap (λ (ss : List Symbol). let u : WrittenText = record { name = t.name; items = map (resolved_item ss) t.items } in u) e

-- the lines on the theory in memory are those on the text
pub lines_on : (t : WrittenText) (symbols : List Symbol) (numbered : List Numbered) (bound : List BoundNames) (seen : WrittenText) (lines : List (List ℕ)) → symbols ≡ all_symbols t.items
    → seen ≡ record { name = t.name; items = map (resolved_item symbols) t.items } → numbered ≡ all_equations seen.items → bound ≡ bound_in t.items
    → lines ≡ lines_after [] (findings_by symbols numbered bound seen) → lines ≡ fatal_lines t
lines_on t symbols numbered bound seen lines e f g k h =
    let is : seen ≡ resolved t = resolved_same t symbols seen e f in
    h ∙ ap (λ (ss : List Symbol). lines_after [] (findings_by ss numbered bound seen)) e ∙ ap (λ (ns : List Numbered). lines_after [] (findings_by (all_symbols t.items) ns bound seen)) g
    ∙ ap (λ (bs : List BoundNames). lines_after [] (findings_by (all_symbols t.items) (all_equations seen.items) bs seen)) k
    ∙ ap (λ (u : WrittenText). lines_after [] (findings_by (all_symbols t.items) (all_equations u.items) (bound_in t.items) u)) is

-- so is the signature
abbrev made_of : List Symbol → List Numbered → Signature
made_of symbols numbered = record { symbols = symbols; equations = their_equations numbered }

pub signature_same : (t : WrittenText) (symbols : List Symbol) (numbered : List Numbered) (s : Signature) → symbols ≡ all_symbols t.items → numbered ≡ all_equations (resolved t).items
    → s ≡ record { symbols = symbols; equations = their_equations numbered } → s ≡ signature_of (theory_of (theory_in t))
signature_same t symbols numbered s e g h = h ∙ ap (λ (ss : List Symbol). made_of ss numbered) e ∙ ap (made_of (all_symbols t.items)) g

-- what was read, with what its names stand for, is what the text says
pub examined_so : {text : List ℕ} (t : WrittenText) (read : ReadTheory) (e : SaidTheory) → IsTextOf text t → map symbol_of e.symbols.items ≡ all_symbols t.items → view.theory e.theory ≡ resolved t
    → map numbered_of e.equations.items ≡ all_equations (resolved t).items → lines_of e.fatal.items ≡ fatal_lines t → view.spans e.theory.items.items ≡ view.spans read.items.items → e.theory.behind_end ≡ read.behind_end
    → ArePlaces text t (view.spans read.items.items) read.behind_end → Rise text 0 (view.spans read.items.items) read.behind_end → read.behind_end ≤ length text → IsExamined text e
examined_so {text = text} t read e says symbols is equations fatal spans end places rise within = record {
  said = t;
  says = says;
  symbols_are = symbols;
  resolved_is = is;
  equations_are = equations;
  fatal_are = fatal;
  places_are = subst (λ (ss : List Span). ArePlaces text t ss e.theory.behind_end) (sym spans) (subst (ArePlaces text t (view.spans read.items.items)) (sym end) places);
  rise = subst (λ (ss : List Span). Rise text 0 ss e.theory.behind_end) (sym spans) (subst (Rise text 0 (view.spans read.items.items)) (sym end) rise);
  within = subst (λ (n : ℕ). n ≤ length text) (sym end) within;
}

-- what was made of it is what the text poses
pub made : {text : List ℕ} (e : SaidTheory) (x : IsExamined text e) (s : Signature) (p : Problem) → Poses text x.said → s ≡ signature_of (theory_of (theory_in x.said)) → IsMadeOf s e.theory p → IsPosedBy text p
made {text = text} e x s p posing over h =
    let t = x.said in
    let theory = e.theory in
    let items : view.items theory.items.items ≡ (resolved t).items = ap (λ (u : WrittenText). u.items) x.resolved_is in
    record {
      said = t;
      theory = theory;
      resolved_is = x.resolved_is;
      poses = posing;
      signature_is = h.signature_is ∙ over;
      rules_are = h.rules_are ∙ ap (λ (xs : List written.Item). map rule_of (rules_written xs)) items ∙ ap (λ (rs : List WrittenRule). map rule_of rs) (rules_all t);
      constants_are = h.constants_are ∙ theory_constants t (view.items theory.items.items) items;
      restrictions_are = h.restrictions_are ∙ ap (λ (xs : List written.Item). all_required (restrictions_in xs)) items;
      lemmas_are = h.lemmas_are;
      ranking_is = h.ranking_is ∙ ap rankings_in items;
      places_are = subst (ArePlaces text t (view.spans theory.items.items)) (sym h.end_is) x.places_are;
      rise = subst (Rise text 0 (view.spans theory.items.items)) (sym h.end_is) x.rise;
      within = subst (λ (n : ℕ). n ≤ length text) (sym h.end_is) x.within;
    }

-- ---- the fatal lines in memory

-- a list without entries
pub no_lines : {A : Type 0} (xs : List A) → length xs ≡ 0 → xs ≡ []
no_lines xs e = nil_from_length xs e

-- of a theory that was examined
pub fine_said : {text : List ℕ} (e : SaidTheory) (x : IsExamined text e) → length e.fatal.items ≡ 0 → Poses text x.said
fine_said e x none = poses x.said x.says (sym x.fatal_are ∙ ap lines_of (no_lines e.fatal.items none))

some_said : {text : List ℕ} (e : SaidTheory) (x : IsExamined text e) → (length e.fatal.items ≡ 0 → ⊥) → fatal_lines x.said ≡ [] → ⊥
some_said e x some none = some (sym (length-map e.fatal.items string_bytes) ∙ ap length (x.fatal_are ∙ none))

pub warned_on : {text : List ℕ} (e : SaidTheory) (x : IsExamined text e) → warned e ≡ warning_lines x.said
warned_on e x = ap (λ (u : WrittenText). warn.lines_of (warnings_on u.items)) x.resolved_is

pub report_on : {text : List ℕ} (e : SaidTheory) (x : IsExamined text e) → text_of (lines_of e.fatal.items ++ warned e) ≡ report x.said
report_on e x = ap₂ (λ (fs ws : List (List ℕ)). text_of (fs ++ ws)) x.fatal_are (warned_on e x)

pub reported_on : {text : List ℕ} (e : SaidTheory) (x : IsExamined text e) (lines : List ℕ) → (length e.fatal.items ≡ 0 → ⊥) → lines ≡ text_of (lines_of e.fatal.items ++ warned e) → IsReported text lines
reported_on e x lines some is = reported x.said x.says (some_said e x some) (is ∙ report_on e x)

-- lines behind lines
text_both : (xs ys : List (List ℕ)) → text_of (xs ++ ys) ≡ text_of xs ++ text_of ys
text_both [] ys = refl
text_both (x ∷ xs) ys = ap (λ (l : List ℕ). x ++ (codes "\n" ++ l)) (text_both xs ys) ∙ ap (λ (l : List ℕ). x ++ l) (sym (append_assoc (codes "\n") (text_of xs) (text_of ys))) ∙ sym (append_assoc x (codes "\n" ++ text_of xs) (text_of ys))

pub joined : (start first last : List ℕ) (xs ys : List (List ℕ)) → start ≡ [] → first ≡ start ++ text_of xs → last ≡ first ++ text_of ys → last ≡ text_of (xs ++ ys)
joined start first last xs ys e f g = g ∙ ap (λ (l : List ℕ). l ++ text_of ys) (f ∙ ap (λ (l : List ℕ). l ++ text_of xs) e) ∙ sym (text_both xs ys)

pub some_lines : {A : Type 0} (n : ℕ) (xs : List A) → false ≡ nat_eq n 0 → n ≡ length xs → length xs ≡ 0 → ⊥
some_lines n xs e f g = let h : n ≡ 0 = f ∙ g in grind (arith, e, h)

-- and the review
counts_on : {text : List ℕ} (e : SaidTheory) (x : IsExamined text e) → counted (length e.fatal.items) (length (warned e)) ≡ counts x.said
counts_on e x = ap₂ counted (sym (length-map e.fatal.items string_bytes) ∙ ap length x.fatal_are) (ap length (warned_on e x))

is_fine : {text : List ℕ} (e : SaidTheory) (x : IsExamined text e) → (nat_eq (length e.fatal.items) 0 ≡ true) ↔ IsWellFormed x.said
is_fine e x = (
  λ h. (fine_said e x (eqb-true (length e.fatal.items) 0 h)).fine,
  λ fine. ap (λ (n : ℕ). nat_eq n 0) (sym (length-map e.fatal.items string_bytes) ∙ ap length (x.fatal_are ∙ (report_is_right.no_line x.said).1 fine)),
)

pub reviewed_on : {text : List ℕ} (e : SaidTheory) (r : Review) → IsExamined text e → IsReviewOf e r → IsReviewed text r.text.items r.is_fine
reviewed_on e r x h = record {
  theory = x.said;
  says = x.says;
  review_is = h.text_is ∙ ap₂ (λ (a b : List ℕ). a ++ b) (report_on e x) (counts_on e x);
  fine_is = subst (λ (b : Bool). (b ≡ true) ↔ IsWellFormed x.said) (sym h.fine_is) (is_fine e x);
}
