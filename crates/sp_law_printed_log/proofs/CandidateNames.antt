-- The log that a system suggests has the public names of its system, which the text has, and those that its variables are given: what holds of
-- both holds of the log's names.
use Rattle.std.proofs.Common.{◌≡◌, ◌<◌, ℕ, Bool, true, false, if◌then◌else◌, List, [], ◌∷◌, length, map, Some, None, option_map, option_and_then, sym, subst}
use Rattle.sp_spec.specs.Lists.{Member, Every, newest_first, is_listed}
use Rattle.sp_spec.proofs.Lists.{every_member, every_parts, every_append, every_both, every_weaken, every_from}
use Rattle.sp_spec.proofs.Options.{mapped, then_some}
use Rattle.sp_spec.proofs.Occurrences.{term_each, occurrences_each}
use Rattle.sp_spec.specs.Term.{Names, public_name, Variable, Term, var, constant, name, app, Terms, none, more, Values, valued, MadeOf, AllMadeOf, EachVariable, EachVariables}
use Rattle.sp_spec.specs.Rule.{Facts, FactsMadeOf, InFacts}
use Rattle.sp_spec.specs.Log.{Entry, Source}
use Rattle.sp_spec_system.specs.System.{Way, anyhow, own_name, constructed, chain_begun, chain_done, Happening, rule_step, sending, learning, Event, Link, System}
use Rattle.sp_spec_system.specs.System as system
use Rattle.sp_spec_system.specs.Numbered.{names_in, InWay, InHappening, IsNumbered}
use Rattle.sp_law_equal.proofs.Made.{each_valued, facts_valued}
use Rattle.sp_law_printed_log.specs.Shown.{shown_names, no_variable, HasNames, HowHasNames, EntryHasNames, LogHasNames}
use Rattle.sp_spec_solved.specs.Listing.{in_order}
use Rattle.sp_spec_solved.specs.Naming.{in_term, in_chain, in_way, in_step, in_events, variables_of, values_of}
use Rattle.sp_spec_solved.specs.Candidate.{is_ready, how_at, entry_at, event_sources, entries_of, logged, candidate}
use Rattle.sp_law_truth.proofs.Only.{is_among_member}
use Rattle.sp_spec_printed.specs.StepLines.{IsQuotable}
use Rattle.sp_law_printed_log.specs.Laws.{CandidatesHaveNames}
use Rattle.sp_law_candidate.proofs.Listed.{every_listed}
use Rattle.sp_law_candidate.proofs.Names.{all_seen}
use Rattle.sp_law_printed_log.proofs.GivenVariables.{value_shown}

-- ---- names of facts

-- names of which it holds, the listed ones among them
module _ (N : Names) (listed : List (List ℕ)) (own : (c : List ℕ) → is_listed c listed ≡ true → N (public_name c)) where
  module _ (P Q : Variable → Type 0) where
    mutual
      term_made : (t : Term Variable) → MadeOf (names_in listed) P t → EachVariable Q t → MadeOf N Q t
      term_made (var x) h k = k
      term_made (constant c) h k = own c h
      term_made (name n) h k = absurd h
      term_made (app f ts) h k = terms_made ts h k

      terms_made : (ts : Terms Variable) → AllMadeOf (names_in listed) P ts → EachVariables Q ts → AllMadeOf N Q ts
      terms_made none h k = tt
      terms_made (more t ts) h k = (term_made t h.0 k.0, terms_made ts h.1 k.1)

    facts_made : (facts : Facts Variable) → FactsMadeOf (names_in listed) P facts → InFacts Q facts → FactsMadeOf N Q facts
    facts_made facts h k = record {
      premises = every_both _ _ _ (λ f a b. terms_made f.args a b) facts.premises h.premises k.premises;
      actions = every_both _ _ _ (λ f a b. terms_made f.args a b) facts.actions h.actions k.actions;
      conclusions = every_both _ _ _ (λ f a b. terms_made f.args a b) facts.conclusions h.conclusions k.conclusions;
    }

  module _ (P : Variable → Type 0) (Q : ℕ → Type 0) (v : Values) where
    abbrev IsGivenNames : Variable → Type 0
    IsGivenNames x = HasNames N (v x)

    -- an event of which it holds gives an entry with such names
    abbrev IsNamedEvent : Event → Type 0
    IsNamedEvent e = InHappening (names_in listed) P Q e.happening × Every IsGivenNames (in_step e.happening)

    message_named : (m : Term Variable) → MadeOf (names_in listed) P m → Every IsGivenNames (in_term m) → HasNames N (valued v m)
    message_named m made each = each_valued N IsGivenNames no_variable v (λ x k. k) m (term_made P IsGivenNames m made (term_each IsGivenNames m each))

    chain_named : (ts : List (Term Variable)) → Every (MadeOf (names_in listed) P) ts → Every IsGivenNames (in_chain ts)
        → Every (HasNames N) (map (valued v) ts)
    chain_named [] made each = tt
    chain_named (t ∷ ts) made each =
        let both = every_parts IsGivenNames (in_term t) (in_chain ts) each in (message_named t made.0 both.0, chain_named ts made.1 both.1)

    way_named : (all : List Event) (way : Way) → InWay (names_in listed) P Q way → Every IsGivenNames (in_way way) → HowHasNames N (how_at all v way)
    way_named all anyhow made each = tt
    way_named all system.public_name made each = tt
    way_named all own_name made each = tt
    way_named all constructed made each = tt
    way_named all (chain_begun i k ts) made each = chain_named ts made.1 each
    way_named all (chain_done i k ts) made each = chain_named ts made.1 each

    entry_named : (all : List Event) (h : Happening) (sources : List Source) → InHappening (names_in listed) P Q h → Every IsGivenNames (in_step h) → EntryHasNames N (entry_at all v h sources)
    entry_named all (rule_step r facts) sources made each =
        facts_valued N IsGivenNames no_variable v (λ x k. k) facts (facts_made P IsGivenNames facts made (occurrences_each IsGivenNames facts each))
    entry_named all (sending m) sources made each = message_named m made each
    entry_named all (learning m way) sources made each =
        let both = every_parts IsGivenNames (in_term m) (in_way way) each in (message_named m made.0 both.0, way_named all way made.1 both.1)

    entries_named : (all : List Event) (links : List Link) (es : List Event) (entries : List Entry) → entries_of all links v es ≡ Some entries → Every IsNamedEvent es → Every (EntryHasNames N) entries
    entries_named all links [] entries e h = let nothing : List Entry = [] in let same : nothing ≡ entries = cc in subst (Every (EntryHasNames N)) same tt
    entries_named all links (d ∷ es) entries e h =
        let sources = then_some (λ (found : List Source). option_map (λ (later : List Entry). entry_at all v d.happening found ∷ later) (entries_of all links v es)) (event_sources all links d) entries e in
        let others = mapped (λ (later : List Entry). entry_at all v d.happening sources.0 ∷ later) (entries_of all links v es) entries sources.2 in
        subst (Every (EntryHasNames N)) (sym others.2) (entry_named all d.happening sources.0 h.0.0 h.0.1, entries_named all links es others.0 others.1 h.1)

-- ---- the log

-- what holds of each variable in events holds of those in each
in_each_event : (Q : Variable → Type 0) (es : List Event) → Every Q (in_events es) → Every (λ (e : Event). Every Q (in_step e.happening)) es
in_each_event Q [] h = tt
in_each_event Q (e ∷ es) h = let both = every_parts Q (in_step e.happening) (in_events es) h in (both.0, in_each_event Q es both.1)

pub every_newest : {A : Type 0} (P : A → Type 0) (xs : List A) → Every P xs → Every P (newest_first xs)
every_newest P [] h = tt
every_newest P (x ∷ xs) h = every_append P (newest_first xs) (x ∷ []) (every_newest P xs h.1) (h.0, tt)

module _ (constants : List (List ℕ)) (s : System) (numbered : IsNumbered (names_in constants) s) where
  abbrev pub IsBelow : Variable → Type 0
  IsBelow x = x.number < s.next

  abbrev pub TimeBelow : ℕ → Type 0
  TimeBelow i = i < s.next

  abbrev pub IsMade : Event → Type 0
  IsMade e = InHappening (names_in constants) IsBelow TimeBelow e.happening

  pub listed_made : (events : List Event) → in_order s.order s.events ≡ Some events → Every IsMade events
  listed_made events is = every_listed IsMade s.order (length s.events) s.events events is (every_weaken _ IsMade (λ d h. h.1) s.events numbered.events)

  module _ (N : Names) (own : (c : List ℕ) → is_listed c constants ≡ true → N (public_name c)) where
    -- the values of the variables of these events have such names
    abbrev pub AreGivenNames : List Event → Type 0
    AreGivenNames events = (x : Variable) → Member x (variables_of events) → HasNames N (values_of constants events x)

    logged_named : (events : List Event) → in_order s.order s.events ≡ Some events → AreGivenNames events
        → (entries : List Entry) → logged constants s.links events ≡ Some entries → Every (EntryHasNames N) entries
    logged_named events is given entries e =
        let IsGiven : Variable → Type 0 = λ x. HasNames N (values_of constants events x) in
        let each : Every IsGiven (in_events events) = every_from IsGiven (in_events events) (λ x m. given x (all_seen x (in_events events) [] m)) in
        entries_named N constants own IsBelow TimeBelow (values_of constants events) events s.links events entries e
        (every_both IsMade (λ (d : Event). Every IsGiven (in_step d.happening)) _ (λ d h l. (h, l)) events (listed_made events is) (in_each_event IsGiven events each))

    pub candidate_named : ((events : List Event) → in_order s.order s.events ≡ Some events → AreGivenNames events)
        → (entries : List Entry) → candidate constants s ≡ Some entries → LogHasNames N (newest_first entries)
    candidate_named given entries e = every_newest (EntryHasNames N) entries (at (is_ready s) e)
      where
        at : (b : Bool) → (if b then option_and_then (logged constants s.links) (in_order s.order s.events) else None) ≡ Some entries → Every (EntryHasNames N) entries
        at true k = let q = then_some (logged constants s.links) (in_order s.order s.events) entries k in logged_named q.0 q.1 (given q.0 q.1) entries q.2
        at false k = absurd cc

pub candidates_have_names_lem : CandidatesHaveNames
candidates_have_names_lem = record {
  names = λ constants quotable s numbered entries e.
      candidate_named constants s numbered shown_names (λ c h. every_member IsQuotable constants c (is_among_member c constants h) quotable)
      (λ events is x m. value_shown constants (variables_of events) x m) entries e;
}
