-- The move on a premise covers: the premise is what an earlier step concludes, and that step is by a form of some rule.
use Rattle.std.proofs.Common.{◌≡◌, ◌<◌, ◌+◌, ℕ, suc, Bool, true, false, ◌||◌, if◌then◌else◌, List, [], ◌∷◌, Option, Some, None, option_and_then, refl, sym, ap, ◌∙◌, subst, inl, inr, arith, slice_get, map}
use Rattle.sp_spec.specs.Lists.{Member, Every, AtPlace, AtPosition}
use Rattle.sp_spec.specs.Term.{Names, Variable, Grounds, AllMadeOf}
use Rattle.sp_spec.specs.Signature.{Equation}
use Rattle.sp_spec.specs.Rule.{Fact, Facts, Rule, fact_at, facts_at}
use Rattle.sp_spec.specs.Theory.{Theory, signature_of}
use Rattle.sp_spec.specs.Log.{Log, Entry, step, send, learn, Source, conclusion, Concludes, IsLog, is_fr, is_in}
use Rattle.sp_law_equal.specs.NormalForms.{HaveNormalForms}
use Rattle.sp_spec_system.specs.System.{happening_premises, Event, System}
use Rattle.sp_spec_system.specs.Solutions.{Valuation, HappensIn, Solves}
use Rattle.sp_spec_system.specs.Numbered.{InEvent, IsNumbered}
use Rattle.sp_spec_system.specs.Covering.{Agrees, NoneSolved, Covers}
use Rattle.sp_law_system.specs.Laws.{UnifierIsRight}
use Rattle.sp_spec.proofs.Lists.{every_append, every_parts, every_member, place_got, member_map}
use Rattle.sp_law_system.proofs.Facts.{valued_all_same}
use Rattle.sp_law_equal.proofs.Made.{each_weaken_all}
use Rattle.sp_law_system.proofs.Numbers.{happening_made}
use Rattle.sp_law_system.proofs.Solutions.{Under, TimeUnder, agrees_then}
use Rattle.sp_spec_system.specs.MakingOne.{event_at}
use Rattle.sp_spec_system.specs.Move.{Case, systems_in}
use Rattle.sp_spec_system.specs.Cases.{renamed, named}
use Rattle.sp_spec_graph.specs.Premise.{awaiting, with_source, by_conclusions, by_each_source, premise_cases, is_linked, of_a_step, open_premise, source_forms}
use Rattle.sp_law_system.specs.Rules.{IsNumberedForm, FormsAreNumbered, FormsAreWhole}
use Rattle.sp_law_formula.proofs.Entries.{entry_is_step, IsFormStep, form_step, numbered_form, beside, beside_agrees}
use Rattle.sp_law_formula.proofs.ActionSteps.{named_systems, systems_append, renamed_value, step_numbered, step_solved}
use Rattle.sp_law_formula.proofs.Action.{event_found}
use Rattle.sp_law_log.proofs.Places.{every_place}
use Rattle.sp_law_graph.proofs.Sources.{place_mapped, premise_event, source_there}
use Rattle.sp_law_graph.proofs.Waiting.{timed, timed_agrees, timed_new, awaiting_numbered, awaiting_solved}
use Rattle.sp_law_formula.proofs.Merged.{Later}
use Rattle.sp_law_graph.proofs.Conclusions.{conclusions_numbered, conclusion_solved}
use Rattle.sp_spec_forms.specs.Numbering.{Form}
use Rattle.sp_spec_forms.specs.Forms.{RuleForms, forms, forms_of}

-- An open premise: its event and its place, and what it is not.
pub record OpenPremise (s : System) (i p : ℕ) (f : Fact Variable) : Type 0 where
  pub event : Event
  pub found : Member event s.events
  pub at_time : event.time ≡ i
  pub stands : AtPlace (happening_premises event.happening) p f
  pub no_fr : is_fr f ≡ false
  pub no_in : is_in f ≡ false

kept_premise : (g f : Fact Variable) → of_a_step (Some g) ≡ Some f → (g ≡ f) × (is_fr f ≡ false) × (is_in f ≡ false)
kept_premise g f e = at (is_fr g) (is_in g) refl refl e
  where
    at : (b c : Bool) → is_fr g ≡ b → is_in g ≡ c → (if b || c then None else Some g) ≡ Some f → (g ≡ f) × (is_fr f ≡ false) × (is_in f ≡ false)
    at true c k l e = absurd cc
    at false true k l e = absurd cc
    at false false k l e = let same : g ≡ f = cc in (same, subst (λ (x : Fact Variable). is_fr x ≡ false) same k, subst (λ (x : Fact Variable). is_in x ≡ false) same l)

pub opened_premise : (s : System) (i p : ℕ) (f : Fact Variable) → open_premise s i p ≡ Some f → OpenPremise s i p f
opened_premise s i p f h = at (is_linked s.links i p) (event_at i s.events) refl h
  where
    there : (d : Event) → event_at i s.events ≡ Some d → (o : Option (Fact Variable)) → slice_get (happening_premises d.happening) p ≡ o → of_a_step o ≡ Some f → OpenPremise s i p f
    there d k None l e = absurd cc
    there d k (Some g) l e =
        let kept = kept_premise g f e in
        let found = event_found i s.events d k in
        record {
          event = d;
          found = found.0;
          at_time = found.1;
          stands = place_got (happening_premises d.happening) p f (l ∙ ap Some kept.0);
          no_fr = kept.1;
          no_in = kept.2;
        }

    at : (b : Bool) (o : Option Event) → event_at i s.events ≡ o → (if b then None else of_a_step (option_and_then (λ (e : Event). slice_get (happening_premises e.happening) p) o)) ≡ Some f → OpenPremise s i p f
    at true o k e = absurd cc
    at false None k e = absurd cc
    at false (Some d) k e = there d k (slice_get (happening_premises d.happening) p) refl e

agree_fact : (N : Names) → (k : ℕ) (v w : Valuation) → Agrees k v w → (f : Fact Variable) → AllMadeOf N (Under k) f.args → fact_at w.terms f ≡ fact_at v.terms f
agree_fact N k v w ag f u =
    ap (λ (ts : Grounds). let g : Fact ⊥ = record { symbol = f.symbol; persistent = f.persistent; args = ts } in g) (valued_all_same N w.terms v.terms f.args (each_weaken_all N (Under k) _ ag.terms f.args u))

-- its variables are the system's, and its time is
premise_under : {N : Names} → (s : System) → IsNumbered N s → (i p : ℕ) (f : Fact Variable) → OpenPremise s i p f → (i < s.next) × AllMadeOf N (Under s.next) f.args
premise_under {N} s n i p f o =
    let d = every_member (InEvent N (Under s.next) (TimeUnder s.next)) s.events o.event o.found n.events in
    (subst (λ (j : ℕ). j < s.next) o.at_time d.0, every_place _ (happening_premises o.event.happening) p f o.stands (happening_made N (Under s.next) (TimeUnder s.next) o.event.happening d.1).premises)

-- the cases of one form are among those of its rule
source_form_part : (theory : Theory) (log : Log) (v : Valuation) (n : ℕ) (name : List ℕ) (forms : List Form) (s : System) (i p : ℕ) (f : Fact Variable) (form : Form) → Member form forms
    → NoneSolved theory log v n (source_forms name forms s i p f) → NoneSolved theory log v n (by_conclusions s i p f name form 0 (renamed (suc s.next) form.facts).conclusions)
source_form_part theory log v n name [] s i p f form m none = absurd m
source_form_part theory log v n name (q ∷ forms) s i p f form m none =
    at m (every_parts _ (by_conclusions s i p f name q 0 (renamed (suc s.next) q.facts).conclusions) (source_forms name forms s i p f) none) (λ k l. source_form_part theory log v n name forms s i p f form k l)
  where
    at : Member form (q ∷ forms) → NoneSolved theory log v n (by_conclusions s i p f name q 0 (renamed (suc s.next) q.facts).conclusions) × NoneSolved theory log v n (source_forms name forms s i p f)
        → (Member form forms → NoneSolved theory log v n (source_forms name forms s i p f) → NoneSolved theory log v n (by_conclusions s i p f name form 0 (renamed (suc s.next) form.facts).conclusions))
        → NoneSolved theory log v n (by_conclusions s i p f name form 0 (renamed (suc s.next) form.facts).conclusions)
    at (inl g) parts later = subst (λ (x : Form). NoneSolved theory log v n (by_conclusions s i p f name x 0 (renamed (suc s.next) x.facts).conclusions)) g parts.0
    at (inr k) parts later = later k parts.1

-- and those of the rule among those of all
source_rule_part : (theory : Theory) (log : Log) (v : Valuation) (n : ℕ) (rules : List RuleForms) (s : System) (i p : ℕ) (f : Fact Variable) (rule : RuleForms) → Member rule rules
    → NoneSolved theory log v n (systems_in (by_each_source rules s i p f)) → NoneSolved theory log v n (source_forms rule.name rule.forms s i p f)
source_rule_part theory log v n [] s i p f rule m none = absurd m
source_rule_part theory log v n (q ∷ rules) s i p f rule m none =
    at m (every_parts _ (systems_in (named q.name (source_forms q.name q.forms s i p f))) (systems_in (by_each_source rules s i p f))
    (subst (NoneSolved theory log v n) (systems_append (named q.name (source_forms q.name q.forms s i p f)) (by_each_source rules s i p f)) none))
    (λ k l. source_rule_part theory log v n rules s i p f rule k l)
  where
    at : Member rule (q ∷ rules) → NoneSolved theory log v n (systems_in (named q.name (source_forms q.name q.forms s i p f))) × NoneSolved theory log v n (systems_in (by_each_source rules s i p f))
        → (Member rule rules → NoneSolved theory log v n (systems_in (by_each_source rules s i p f)) → NoneSolved theory log v n (source_forms rule.name rule.forms s i p f))
        → NoneSolved theory log v n (source_forms rule.name rule.forms s i p f)
    at (inl g) parts later =
        subst (λ (x : RuleForms). NoneSolved theory log v n (source_forms x.name x.forms s i p f)) g (subst (NoneSolved theory log v n) (named_systems q.name (source_forms q.name q.forms s i p f)) parts.0)
    at (inr k) parts later = later k parts.1

-- the cases of a form of a rule of the theory are among those of all
source_part : (theory : Theory) (log : Log) (v : Valuation) (n : ℕ) (es : List Equation) (rules : List Rule) (s : System) (i p : ℕ) (f : Fact Variable) (r : Rule) → Member r rules → (form : Form) → Member form (forms es r)
    → NoneSolved theory log v n (systems_in (by_each_source (map (forms_of es) rules) s i p f)) → NoneSolved theory log v n (by_conclusions s i p f r.name form 0 (renamed (suc s.next) form.facts).conclusions)
source_part theory log v n es rules s i p f r m form k none =
    source_form_part theory log v n r.name (forms es r) s i p f form k (source_rule_part theory log v n (map (forms_of es) rules) s i p f (forms_of es r) (member_map (forms_of es) r rules m) none)

-- the system with a source
module _ {N : Names} (theory : Theory) (s : System) (n : IsNumbered N s) (i : ℕ) (i_under : i < s.next) (p : ℕ) (name : List ℕ) (form : Form) (form_under : IsNumberedForm N form) where
  source_numbered : (k : ℕ) → IsNumbered N (with_source s i p name form k)
  source_numbered k = step_numbered N theory (awaiting s i p k) name form s.next (omega arith) form_under (awaiting_numbered s n i i_under p k)

  source_conclusions : Every (λ (g : Fact Variable). AllMadeOf N (Under (suc s.next + form.count)) g.args) (renamed (suc s.next) form.facts).conclusions
  source_conclusions = (every_parts _ s.events (_ ∷ []) (source_numbered 0).events).1.0.1.conclusions

wide_premise : (N : Names) → (s : System) (form : Form) (f : Fact Variable) → AllMadeOf N (Under s.next) f.args → AllMadeOf N (Under (suc s.next + form.count)) f.args
wide_premise N s form f a = each_weaken_all N (Under s.next) (Under (suc s.next + form.count)) (λ x h. omega (arith, h)) f.args a

module _ (N : Names) (right : UnifierIsRight) (theory : Theory) (good : HaveNormalForms (signature_of theory).equations)
    (forms_numbered : FormsAreNumbered N (map (forms_of (signature_of theory).equations) theory.rules)) (forms_whole : FormsAreWhole theory) where
  abbrev es : List Equation
  es = (signature_of theory).equations

  -- where the log names for the premise that conclusion of the entry at that position
  module _ (s : System) (n : IsNumbered N s) (i p : ℕ) (f : Fact Variable) (i_under : i < s.next) (f_under : AllMadeOf N (Under s.next) f.args)
      (log : Log) (is : IsLog theory log) (v : Valuation) (h : Solves theory log v s) (q k : ℕ) (earlier : q < v.times i)
      (t : List ℕ) (taken : Facts ⊥) (takers : List Source) (taker_there : AtPosition log (v.times i) (step t taken takers)) (named_so : AtPlace takers p (conclusion q k)) where
    -- by a new step with these values
    values_give : (name : List ℕ) (form : Form) → IsNumberedForm N form → (value : Valuation) → Agrees s.next v value → Solves theory log value (with_source s i p name form k)
        → AtPlace (facts_at value.terms (renamed (suc s.next) form.facts)).conclusions k (fact_at v.terms f)
        → NoneSolved theory log v s.next (by_conclusions s i p f name form 0 (renamed (suc s.next) form.facts).conclusions) → ⊥
    values_give name form form_under value ag solved gives none =
        let g = place_mapped (fact_at value.terms) (renamed (suc s.next) form.facts).conclusions k (fact_at v.terms f) gives in
        let g_under = every_place _ (renamed (suc s.next) form.facts).conclusions k g.0 g.1 (source_conclusions theory s n i i_under p name form form_under) in
        conclusion_solved N right s i p f name form theory log s.next v value ag k (source_numbered theory s n i i_under p name form form_under k) solved (wide_premise N s form f f_under) g.0 g_under
        (agree_fact N s.next v value ag f f_under ∙ sym g.2) 0 (renamed (suc s.next) form.facts).conclusions k g.1 (omega arith) none

    -- by a form of the entry's rule
    form_gives : (r : List ℕ) (facts : Facts ⊥) (sources : List Source) → AtPosition log q (step r facts sources) → IsFormStep theory r facts → AtPlace facts.conclusions k (fact_at v.terms f)
        → NoneSolved theory log v s.next (systems_in (by_each_source (map (forms_of es) theory.rules) s i p f)) → ⊥
    form_gives r facts sources there of gives none =
        let form = of.form in
        let name = of.rule.name in
        let form_under = numbered_form N es theory.rules forms_numbered of.rule of.member form of.among in
        let before : Valuation = timed s.next q v in
        let value : Valuation = beside (suc s.next) before of.values in
        let new_time : s.next < suc s.next = omega arith in
        let here : AtPosition log q (step name (facts_at of.values form.facts) sources) =
        subst (λ (g : Facts ⊥). AtPosition log q (step name g sources)) of.is (subst (λ (o : List ℕ). AtPosition log q (step o facts sources)) (sym of.named) there) in
        let there_too = subst (λ (x : ℕ). AtPosition log x (step name (facts_at of.values form.facts) sources)) (sym (timed_new s.next q v)) here in
        let solved : Solves theory log value (with_source s i p name form k) =
        step_solved N theory (awaiting s i p k) name form s.next new_time form_under log before (awaiting_solved s n i i_under p k theory log v h q earlier t taken takers taker_there named_so)
        (awaiting_numbered s n i i_under p k) of.values of.sorts of.normal sources there_too in
        let reach : Agrees (suc s.next) before value = beside_agrees (suc s.next) before of.values in
        let facts_same : facts ≡ facts_at value.terms (renamed (suc s.next) form.facts) = of.is ∙ sym (renamed_value N (suc s.next) form form_under before of.values) in
        values_give name form form_under value (agrees_then s.next (suc s.next) v before value (omega arith) (timed_agrees s.next q v) reach) solved
        (subst (λ (z : Facts ⊥). AtPlace z.conclusions k (fact_at v.terms f)) facts_same gives)
        (source_part theory log v s.next es theory.rules s i p f of.rule of.member form of.among none)

    entry_gives : is_in f ≡ false → (e : Entry) → AtPosition log q e → Concludes e k (fact_at v.terms f) → NoneSolved theory log v s.next (systems_in (by_each_source (map (forms_of es) theory.rules) s i p f)) → ⊥
    entry_gives no_in (send m) there gives none = let e : is_in f ≡ true = ap is_in gives.1 in cc
    entry_gives no_in (learn m how) there gives none = gives
    entry_gives no_in (step r facts sources) there gives none =
        form_gives r facts sources there (form_step theory good forms_whole r facts (entry_is_step theory log is q r facts sources there)) gives none

  source_forms_numbered : (name : List ℕ) (forms : List Form) → Every (IsNumberedForm N) forms → (s : System) → IsNumbered N s → (i p : ℕ) (f : Fact Variable) → i < s.next → AllMadeOf N (Under s.next) f.args
      → Every (Later N s.next) (source_forms name forms s i p f)
  source_forms_numbered name [] k s n i p f iu fu = tt
  source_forms_numbered name (form ∷ forms) k s n i p f iu fu =
      every_append (Later N s.next) (by_conclusions s i p f name form 0 (renamed (suc s.next) form.facts).conclusions) (source_forms name forms s i p f)
      (conclusions_numbered N right s i p f name form (source_numbered theory s n i iu p name form k.0) (wide_premise N s form f fu) 0 (renamed (suc s.next) form.facts).conclusions
      (source_conclusions theory s n i iu p name form k.0))
      (source_forms_numbered name forms k.1 s n i p f iu fu)

  by_each_source_numbered : (rules : List RuleForms) → FormsAreNumbered N rules → (s : System) → IsNumbered N s → (i p : ℕ) (f : Fact Variable) → i < s.next → AllMadeOf N (Under s.next) f.args
      → Every (Later N s.next) (systems_in (by_each_source rules s i p f))
  by_each_source_numbered [] k s n i p f iu fu = tt
  by_each_source_numbered (rule ∷ rules) k s n i p f iu fu =
      let own = source_forms rule.name rule.forms s i p f in
      subst (Every (Later N s.next)) (sym (systems_append (named rule.name own) (by_each_source rules s i p f)))
      (every_append (Later N s.next) (systems_in (named rule.name own)) (systems_in (by_each_source rules s i p f))
      (subst (Every (Later N s.next)) (sym (named_systems rule.name own)) (source_forms_numbered rule.name rule.forms k.0 s n i p f iu fu)) (by_each_source_numbered rules k.1 s n i p f iu fu))

  open_numbered : (s : System) → IsNumbered N s → (i p : ℕ) (f : Fact Variable) → OpenPremise s i p f → Every (Later N s.next) (systems_in (by_each_source (map (forms_of es) theory.rules) s i p f))
  open_numbered s n i p f o = let u = premise_under s n i p f o in by_each_source_numbered (map (forms_of es) theory.rules) forms_numbered s n i p f u.0 u.1

  open_covers : (s : System) → IsNumbered N s → (i p : ℕ) (f : Fact Variable) → OpenPremise s i p f → Covers theory s (systems_in (by_each_source (map (forms_of es) theory.rules) s i p f))
  open_covers s n i p f o = record {
    covers = λ log is v h none.
        let u = premise_under s n i p f o in
        let t = premise_event log (v.times o.event.time) v o.event.happening (every_member (HappensIn log v) s.events o.event o.found h.events) p f o.stands in
        let here = subst (λ (j : ℕ). AtPosition log (v.times j) (step t.0 t.1 t.2)) o.at_time t.3 in
        let g = source_there theory log is (v.times i) t.0 t.1 t.2 here p (fact_at v.terms f) t.4 o.no_fr in
        entry_gives s n i p f u.0 u.1 log is v h g.0 g.1 g.5 t.0 t.1 t.2 here g.2 o.no_in g.3 g.4 g.6 none;
  }

  -- The move on a premise keeps the numbers.
  pub premise_numbered : (s : System) → IsNumbered N s → (i p : ℕ) (cs : List Case) → premise_cases (map (forms_of es) theory.rules) s i p (open_premise s i p) ≡ Some cs → Every (Later N s.next) (systems_in cs)
  premise_numbered s n i p cs e = at (open_premise s i p) refl e
    where
      at : (o : Option (Fact Variable)) → open_premise s i p ≡ o → premise_cases (map (forms_of es) theory.rules) s i p o ≡ Some cs → Every (Later N s.next) (systems_in cs)
      at None k l = absurd cc
      at (Some f) k l =
          let same : by_each_source (map (forms_of es) theory.rules) s i p f ≡ cs = cc in
          subst (λ (x : List Case). Every (Later N s.next) (systems_in x)) same (open_numbered s n i p f (opened_premise s i p f k))

  -- It covers.
  pub premise_covers : (s : System) → IsNumbered N s → (i p : ℕ) (cs : List Case) → premise_cases (map (forms_of es) theory.rules) s i p (open_premise s i p) ≡ Some cs → Covers theory s (systems_in cs)
  premise_covers s n i p cs e = at (open_premise s i p) refl e
    where
      at : (o : Option (Fact Variable)) → open_premise s i p ≡ o → premise_cases (map (forms_of es) theory.rules) s i p o ≡ Some cs → Covers theory s (systems_in cs)
      at None k l = absurd cc
      at (Some f) k l =
          let same : by_each_source (map (forms_of es) theory.rules) s i p f ≡ cs = cc in
          subst (λ (x : List Case). Covers theory s (systems_in x)) same (open_covers s n i p f (opened_premise s i p f k))
