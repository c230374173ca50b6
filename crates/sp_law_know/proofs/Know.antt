-- The move on a message that is learnt anyhow covers: it was made, or is the adversary's own, or a chain leads to it from what a step by a form of some rule
-- puts out.
use Rattle.std.proofs.Common.{◌≡◌, ◌<◌, ℕ, suc, Bool, true, false, if◌then◌else◌, List, [], ◌∷◌, ◌++◌, codes, map, Some, refl, sym, ap, ◌∙◌, subst, inl, inr, arith, le_refl}
use Rattle.sp_spec.specs.Lists.{Member, Every, AtPlace, AtPosition}
use Rattle.sp_spec.specs.Term.{Names, fresh_name, Sort, Msg, Fresh, Pub, Variable, Term, var, constant, name, app, Terms, Ground, Grounds, count, MadeOf, AllMadeOf, valued, valued_all}
use Rattle.sp_spec.specs.Signature.{Symbol, Equation, Signature, HasPublic}
use Rattle.sp_spec.specs.Destruction.{is_public}
use Rattle.sp_spec.specs.Rule.{Facts, fact_at, facts_at, out_of}
use Rattle.sp_spec.specs.Theory.{Theory, signature_of}
use Rattle.sp_spec.specs.Log.{Log, Entry, Source, How, public_name, own_name, constructed, by_chain, step, learn, StartsChain, MayLearn, way_of_learning, IsLog}
use Rattle.sp_spec.proofs.Lists.{every_append, every_parts, position_below, member_map}
use Rattle.sp_spec.proofs.Logs.{IsBehind, entry_behind}
use Rattle.sp_spec.proofs.Options.{mapped}
use Rattle.sp_law_equal.specs.NormalForms.{HaveNormalForms}
use Rattle.sp_law_run.proofs.Over.{count_valued}
use Rattle.sp_law_log.proofs.Destructions.{is_public_from}
use Rattle.sp_spec_forms.specs.Numbering.{Form}
use Rattle.sp_spec_forms.specs.Forms.{RuleForms, forms, forms_of}
use Rattle.sp_spec_system.specs.System.{Way, System}
use Rattle.sp_spec_system.specs.System as ways
use Rattle.sp_spec_system.specs.Solutions.{Valuation, Solves}
use Rattle.sp_spec_system.specs.Numbered.{IsNumbered}
use Rattle.sp_spec_system.specs.Covering.{NoneSolved, Covers}
use Rattle.sp_spec_system.specs.Cases.{renamed, named}
use Rattle.sp_spec_system.specs.Move.{Case, systems_in}
use Rattle.sp_spec_system.specs.Rules.{rules_of}
use Rattle.sp_spec_know.specs.Know.{wanted_at, with_way, made_case, own_if, own_case, by_outputs, output_forms, by_each_output, know_cases, with_learnings}
use Rattle.sp_law_system.specs.Rules.{IsNumberedForm, FormsAreNumbered, FormsAreWhole}
use Rattle.sp_law_system.proofs.Solutions.{Under, agrees_itself}
use Rattle.sp_law_formula.proofs.ActionSteps.{named_systems, systems_append, renamed_value}
use Rattle.sp_law_formula.proofs.Entries.{entry_is_step, form_step, numbered_form, beside}
use Rattle.sp_law_formula.proofs.Merged.{Later, respects}
use Rattle.sp_law_know.proofs.Learnt.{AreLearntBefore, all_earlier}
use Rattle.sp_law_know.proofs.KnowParts.{way_at, way_numbered, way_solved, learnings_numbered, learnings_solved}
use Rattle.sp_law_know.proofs.KnowOutputs.{form_conclusions, outputs_numbered, outputs_solved}
use Rattle.sp_law_know.proofs.KnowWanted.{IsWanted, asked, asked_under, asked_learnt, no_public_name, own_variable, made_application}
use Rattle.sp_law_graph.proofs.Sources.{place_mapped}
use Rattle.sp_law_graph.proofs.Waiting.{timed}

-- no case of a form is solved, and none of a rule
abbrev NoneByForm : Theory → Log → Valuation → ℕ → List ℕ → System → ℕ → Form → Type 0
NoneByForm theory log v n rule s i form = NoneSolved theory log v n (by_outputs s i rule form 0 (renamed (suc s.next) form.facts).conclusions)

abbrev NoneByRule : Theory → Log → Valuation → ℕ → System → ℕ → RuleForms → Type 0
NoneByRule theory log v n s i rule = NoneSolved theory log v n (output_forms rule.name rule.forms s i)

-- the cases of one form are among those of its rule
form_part : (theory : Theory) (log : Log) (v : Valuation) (n : ℕ) (rule : List ℕ) (forms : List Form) (s : System) (i : ℕ) (form : Form) → Member form forms
    → NoneSolved theory log v n (output_forms rule forms s i) → NoneByForm theory log v n rule s i form
form_part theory log v n rule [] s i form m none_solved = absurd m
form_part theory log v n rule (q ∷ forms) s i form m none_solved =
    at m (every_parts _ (by_outputs s i rule q 0 (renamed (suc s.next) q.facts).conclusions) (output_forms rule forms s i) none_solved)
    (λ k l. form_part theory log v n rule forms s i form k l)
  where
    at : Member form (q ∷ forms) → NoneByForm theory log v n rule s i q × NoneSolved theory log v n (output_forms rule forms s i)
        → (Member form forms → NoneSolved theory log v n (output_forms rule forms s i) → NoneByForm theory log v n rule s i form)
        → NoneByForm theory log v n rule s i form
    at (inl g) parts later = subst (NoneByForm theory log v n rule s i) g parts.0
    at (inr k) parts later = later k parts.1

-- and those of the rule among those of all
rule_part : (theory : Theory) (log : Log) (v : Valuation) (n : ℕ) (rules : List RuleForms) (s : System) (i : ℕ) (rule : RuleForms) → Member rule rules
    → NoneSolved theory log v n (systems_in (by_each_output rules s i)) → NoneByRule theory log v n s i rule
rule_part theory log v n [] s i rule m none_solved = absurd m
rule_part theory log v n (q ∷ rules) s i rule m none_solved =
    at m (every_parts _ (systems_in (named q.name (output_forms q.name q.forms s i))) (systems_in (by_each_output rules s i))
    (subst (NoneSolved theory log v n) (systems_append (named q.name (output_forms q.name q.forms s i)) (by_each_output rules s i)) none_solved))
    (λ k l. rule_part theory log v n rules s i rule k l)
  where
    at : Member rule (q ∷ rules)
        → NoneSolved theory log v n (systems_in (named q.name (output_forms q.name q.forms s i)))
        × NoneSolved theory log v n (systems_in (by_each_output rules s i))
        → (Member rule rules → NoneSolved theory log v n (systems_in (by_each_output rules s i)) → NoneByRule theory log v n s i rule)
        → NoneByRule theory log v n s i rule
    at (inl g) parts later =
        subst (NoneByRule theory log v n s i) g (subst (NoneSolved theory log v n) (named_systems q.name (output_forms q.name q.forms s i)) parts.0)
    at (inr k) parts later = later k parts.1

-- the case in which it is made of such parts
abbrev made_of_parts : System → ℕ → Terms Variable → Case
made_of_parts s i ts = record { name = codes "made"; system = with_learnings i ts (with_way s i ways.constructed) }

module _ (N : Names) (theory : Theory) (s : System) (n : IsNumbered N s) (i : ℕ) (i_under : i < s.next) where
  output_forms_numbered : (rule : List ℕ) (forms : List Form) → Every (IsNumberedForm N) forms → Every (Later N s.next) (output_forms rule forms s i)
  output_forms_numbered rule [] k = tt
  output_forms_numbered rule (form ∷ forms) k =
      every_append (Later N s.next) (by_outputs s i rule form 0 (renamed (suc s.next) form.facts).conclusions) (output_forms rule forms s i)
      (outputs_numbered N theory s n i i_under rule form k.0 0 (renamed (suc s.next) form.facts).conclusions
      (form_conclusions N theory s n i i_under rule form k.0))
      (output_forms_numbered rule forms k.1)

  each_output_numbered : (rules : List RuleForms) → FormsAreNumbered N rules → Every (Later N s.next) (systems_in (by_each_output rules s i))
  each_output_numbered [] k = tt
  each_output_numbered (rule ∷ rules) k =
      let own = output_forms rule.name rule.forms s i in
      subst (Every (Later N s.next)) (sym (systems_append (named rule.name own) (by_each_output rules s i)))
      (every_append (Later N s.next) (systems_in (named rule.name own)) (systems_in (by_each_output rules s i))
      (subst (Every (Later N s.next)) (sym (named_systems rule.name own)) (output_forms_numbered rule.name rule.forms k.0)) (each_output_numbered rules k.1))

  abbrev symbols : List Symbol
  symbols = (signature_of theory).symbols

  made_numbered : (m : Term Variable) → MadeOf N (Under s.next) m → Every (Later N s.next) (systems_in (made_case symbols s i m))
  made_numbered (var x) u = tt
  made_numbered (constant c) u = tt
  made_numbered (name k) u = tt
  made_numbered (app f ts) u = at (is_public symbols f (count ts))
    where
      at : (b : Bool) → Every (Later N s.next) (systems_in (if b then made_of_parts s i ts ∷ [] else []))
      at true = (learnings_numbered i ts (with_way s i ways.constructed) (way_numbered s i ways.constructed n tt) u i_under, tt)
      at false = tt

  own_numbered : (m : Term Variable) → Every (Later N s.next) (systems_in (own_case s i m))
  own_numbered (constant c) = tt
  own_numbered (name k) = tt
  own_numbered (app f ts) = tt
  own_numbered (var x) = at x.sort
    where
      at : (sort : Sort) → Every (Later N s.next) (systems_in (own_if s i sort))
      at Fresh = ((way_numbered s i ways.own_name n tt, le_refl s.next), tt)
      at Msg = tt
      at Pub = tt

  -- where the log learns it there
  module _ (log : Log) (is : IsLog theory log) (v : Valuation) (h : Solves theory log v s) where
    made_solved : (f : List ℕ) (us : Terms Variable) → AllMadeOf N (Under s.next) us → HasPublic symbols f (count (valued_all v.terms us))
        → AreLearntBefore log (v.times i) (valued_all v.terms us) → AtPosition log (v.times i) (learn (app f (valued_all v.terms us)) constructed)
        → NoneSolved theory log v s.next (systems_in (made_case symbols s i (app f us))) → ⊥
    made_solved f us under public known there none_solved =
        let m : Ground = app f (valued_all v.terms us) in
        let test = is_public_from symbols f (count us) (subst (HasPublic symbols f) (count_valued v.terms us) public) in
        let settled = way_solved s i ways.constructed theory log v (way_at log (v.times i) v ways.constructed m constructed there refl) h in
        let so = learnings_solved i theory log is us (with_way s i ways.constructed) (way_numbered s i ways.constructed n tt) under i_under v settled known
        (position_below log (v.times i) (learn m constructed) there) in
        (subst (λ (b : Bool). NoneSolved theory log v s.next (systems_in (if b then made_of_parts s i us ∷ [] else []))) test none_solved).0 so.0 so.1 so.2

    own_solved : (x : Variable) → x.sort ≡ Fresh → AtPosition log (v.times i) (learn (v.terms x) own_name)
        → NoneSolved theory log v s.next (systems_in (own_case s i (var x))) → ⊥
    own_solved x e there none_solved =
        (subst (λ (sort : Sort). NoneSolved theory log v s.next (systems_in (own_if s i sort))) e none_solved).0 v (agrees_itself s.next v)
        (way_solved s i ways.own_name theory log v (way_at log (v.times i) v ways.own_name (v.terms x) own_name there refl) h)

-- a chain begins with its first message
chain_starts : (signature : Signature) (past : Log) (chain : List Ground) (first m : Ground) → StartsChain signature past chain first m
    → (others : List Ground) × (chain ≡ first ∷ others)
chain_starts signature past [] first m h = absurd h
chain_starts signature past (t ∷ chain) first m h = (chain, ap (λ (u : Ground). u ∷ chain) h.0)

module _ (N : Names) (theory : Theory) (good : HaveNormalForms (signature_of theory).equations)
    (forms_numbered : FormsAreNumbered N (map (forms_of (signature_of theory).equations) theory.rules)) (forms_whole : FormsAreWhole theory) where
  abbrev es : List Equation
  es = (signature_of theory).equations

  abbrev rules : List RuleForms
  rules = map (forms_of es) theory.rules

  -- the cases of a message that is asked for
  abbrev cases_for : System → ℕ → Term Variable → List Case
  cases_for s i m = made_case (signature_of theory).symbols s i m ++ (own_case s i m ++ by_each_output rules s i)

  module _ (s : System) (n : IsNumbered N s) (i : ℕ) (i_under : i < s.next) (log : Log) (is : IsLog theory log) (v : Valuation)
      (h : Solves theory log v s) where
    abbrev NoneOf : List Case → Type 0
    NoneOf cs = NoneSolved theory log v s.next (systems_in cs)

    -- by a form of the rule of the step that puts out the chain's first message
    chain_solved : (m : Ground) (q k : ℕ) (chain : List Ground) → AtPosition log (v.times i) (learn m (by_chain q k chain)) → q < v.times i
        → (r : List ℕ) (facts : Facts ⊥) (sources : List Source) → AtPosition log q (step r facts sources)
        → (first : Ground) → AtPlace facts.conclusions k (out_of first) → (others : List Ground) → chain ≡ first ∷ others → NoneOf (by_each_output rules s i)
        → ⊥
    chain_solved m q k chain learnt earlier r facts sources there first put others begins none_solved =
        let of = form_step theory good forms_whole r facts (entry_is_step theory log is q r facts sources there) in
        let form = of.form in
        let of_rule = of.rule.name in
        let form_under = numbered_form N es theory.rules forms_numbered of.rule of.member form of.among in
        let here : AtPosition log q (step of_rule (facts_at of.values form.facts) sources) =
        subst (λ (g : Facts ⊥). AtPosition log q (step of_rule g sources)) of.is
        (subst (λ (o : List ℕ). AtPosition log q (step o facts sources)) (sym of.named) there) in
        let before : Valuation = timed s.next q v in
        let value : Valuation = beside (suc s.next) before of.values in
        let facts_same : facts ≡ facts_at value.terms (renamed (suc s.next) form.facts) =
        of.is ∙ sym (renamed_value N (suc s.next) form form_under before of.values) in
        let conclusions = (renamed (suc s.next) form.facts).conclusions in
        let g = place_mapped (fact_at value.terms) conclusions k (out_of first)
        (subst (λ (z : Facts ⊥). AtPlace z.conclusions k (out_of first)) facts_same put) in
        let learnt_so = subst (λ (c : List Ground). AtPosition log (v.times i) (learn m (by_chain q k c))) begins learnt in
        let own = rule_part theory log v s.next rules s i (forms_of es of.rule) (member_map (forms_of es) of.rule theory.rules of.member) none_solved in
        outputs_solved N theory s n i i_under of_rule form form_under log v h q earlier of.values of.sorts of.normal sources here k m first others learnt_so
        g.0 g.2 0 conclusions k g.1 (omega arith) (form_part theory log v s.next of_rule (forms es of.rule) s i form of.among own)

    module _ (no_names : (k : ℕ) → N (fresh_name k) → ⊥) (m : Term Variable) (under : MadeOf N (Under s.next) m) (w : IsWanted (signature_of theory).symbols m)
        (made : NoneOf (made_case (signature_of theory).symbols s i m)) (own : NoneOf (own_case s i m)) (outputs : NoneOf (by_each_output rules s i)) where
      by_way : (how : How) → AtPosition log (v.times i) (learn (valued v.terms m) how) → (b : IsBehind theory log (v.times i) (learn (valued v.terms m) how))
          → MayLearn (signature_of theory) b.past (valued v.terms m) how → ⊥
      by_way public_name there b may = no_public_name (signature_of theory).symbols v.terms (respects theory log v s h) m w may
      by_way own_name there b may =
          let x = own_variable (signature_of theory).symbols v.terms (respects theory log v s h) N no_names (Under s.next) m under w may in
          own_solved N theory s n i i_under log is v h x.0 x.2
          (subst (λ (t : Term Variable). AtPosition log (v.times i) (learn (valued v.terms t) own_name)) x.1 there)
          (subst (λ (t : Term Variable). NoneOf (own_case s i t)) x.1 own)
      by_way constructed there b may =
          let symbols = (signature_of theory).symbols in
          let f = may.0 in
          let a = made_application symbols v.terms (respects theory log v s h) m w f may.1 may.2 in
          let known = all_earlier theory log is (v.times i) (learn (valued v.terms m) constructed) b may.1 may.4 in
          made_solved N theory s n i i_under log is v h f a.0 (subst (MadeOf N (Under s.next)) a.1 under)
          (subst (λ (ts : Grounds). HasPublic symbols f (count ts)) (sym a.2) may.3)
          (subst (λ (ts : Grounds). AreLearntBefore log (v.times i) ts) (sym a.2) known)
          (subst (λ (t : Term Variable). AtPosition log (v.times i) (learn (valued v.terms t) constructed)) a.1 there)
          (subst (λ (t : Term Variable). NoneOf (made_case symbols s i t)) a.1 made)
      by_way (by_chain q k chain) there b may =
          let source : Entry = step may.0 may.1 may.2 in
          let earlier : q < v.times i = subst (λ (p : ℕ). q < p) (sym b.position) (position_below b.past q source may.3) in
          let begins = chain_starts (signature_of theory) b.past chain may.4 (valued v.terms m) may.6 in
          chain_solved (valued v.terms m) q k chain there earlier may.0 may.1 may.2 (b.still_there q source may.3) may.4 may.5 begins.0 begins.1 outputs

  -- The move on a message keeps the numbers.
  pub know_numbered : (s : System) → IsNumbered N s → (i : ℕ) (cs : List Case) → know_cases (rules_of theory) s i ≡ Some cs
      → Every (Later N s.next) (systems_in cs)
  know_numbered s n i cs e =
      let symbols = (signature_of theory).symbols in
      let r = mapped (cases_for s i) (wanted_at symbols s i) cs e in
      let m = r.0 in
      let u = asked_under symbols s i m (asked symbols s i m r.1) n in
      let made = made_case symbols s i m in
      let own = own_case s i m in
      let outputs = by_each_output rules s i in
      let both : Every (Later N s.next) (systems_in own ++ systems_in outputs) =
      every_append (Later N s.next) (systems_in own) (systems_in outputs) (own_numbered N theory s n i u.0 m)
      (each_output_numbered N theory s n i u.0 rules forms_numbered) in
      let all : Every (Later N s.next) (systems_in made ++ systems_in (own ++ outputs)) =
      every_append (Later N s.next) (systems_in made) (systems_in (own ++ outputs)) (made_numbered N theory s n i u.0 m u.1)
      (subst (Every (Later N s.next)) (sym (systems_append own outputs)) both) in
      subst (λ (x : List Case). Every (Later N s.next) (systems_in x)) (sym r.2)
      (subst (Every (Later N s.next)) (sym (systems_append made (own ++ outputs))) all)

  -- It covers.
  pub know_covers : ((k : ℕ) → N (fresh_name k) → ⊥) → (s : System) → IsNumbered N s → (i : ℕ) (cs : List Case) → know_cases (rules_of theory) s i ≡ Some cs
      → Covers theory s (systems_in cs)
  know_covers no_names s n i cs e = record {
    covers = λ log is v h none_solved.
        let symbols = (signature_of theory).symbols in
        let r = mapped (cases_for s i) (wanted_at symbols s i) cs e in
        let m = r.0 in
        let a = asked symbols s i m r.1 in
        let u = asked_under symbols s i m a n in
        let made = made_case symbols s i m in
        let own = own_case s i m in
        let outputs = by_each_output rules s i in
        let none_of : NoneSolved theory log v s.next (systems_in (made ++ (own ++ outputs))) =
        subst (λ (x : List Case). NoneSolved theory log v s.next (systems_in x)) r.2 none_solved in
        let first = every_parts _ (systems_in made) (systems_in (own ++ outputs))
        (subst (NoneSolved theory log v s.next) (systems_append made (own ++ outputs)) none_of) in
        let rest = every_parts _ (systems_in own) (systems_in outputs) (subst (NoneSolved theory log v s.next) (systems_append own outputs) first.1) in
        let here = asked_learnt symbols s i m a log v h.events in
        let b = entry_behind theory log is (v.times i) (learn (valued v.terms m) here.0) here.1 in
        by_way s n i u.0 log is v h no_names m u.1 a.is_wanted first.0 rest.0 rest.1 here.0 here.1 b (b.keeps way_of_learning);
  }
