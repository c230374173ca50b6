-- The premises of a decided system: each is an Fr or has a link. An In without a link isn't sent, as far as no rule concludes it.
use Rattle.std.proofs.Common.{◌≡◌, ⊎_elim, ℕ, zero, suc, ◌+◌, ◌==◌, Bool, true, false, ◌&&◌, List, [], ◌∷◌, Option, Some, None, option_and_then, slice_get, inl, inr, refl, sym, ap, ◌∙◌, subst, arith}
use Rattle.std.specs.Option.{option_or}
use Rattle.std.proofs.lemmas.Bool.{and_parts, or_cases, eqb-true}
use Rattle.sp_spec.specs.Lists.{Member, Every, AtPlace}
use Rattle.sp_spec.specs.Term.{Variable, Term, Terms, none, more, Ground, Values, valued_all}
use Rattle.sp_spec.specs.Rule.{Fact, fact_at}
use Rattle.sp_spec.specs.Theory.{Theory}
use Rattle.sp_spec.specs.Log.{Log, IsLog, is_fr, is_in}
use Rattle.sp_spec.proofs.Lists.{every_member, member_map, place_found}
use Rattle.sp_spec_system.specs.System.{Event, Link, System, happening_premises}
use Rattle.sp_spec_system.specs.Solutions.{Valuation, HappensIn, Solves}
use Rattle.sp_spec_system.specs.MakingOne.{premise_at}
use Rattle.sp_spec_system.specs.Picked.{only_term}
use Rattle.sp_spec_system.specs.Move.{premise, Context}
use Rattle.sp_spec_graph.specs.Premise.{is_linked, open_premise, premise_cases}
use Rattle.sp_spec_know.specs.SendInput.{Input, input_at, input_from, open_input, with_sending}
use Rattle.sp_spec_proof.specs.Finish.{is_decided}
use Rattle.sp_spec_proof.specs.Kinds.{places_from, premises_of}
use Rattle.sp_spec_proof.specs.Rows.{row_send_input}
use Rattle.sp_law_equal.specs.RightTheory.{LeavesReserved}
use Rattle.sp_law_system.specs.Proofs.{IsWellMade}
use Rattle.sp_law_graph.proofs.Sources.{premise_event}
use Rattle.sp_law_know.proofs.Learnt.{input_sent}
use Rattle.sp_law_decided.specs.Decided.{HasLink}
use Rattle.sp_law_finish.proofs.Moves.{none_at, no_place}
use Rattle.sp_law_finish.proofs.Events.{event_itself, no_image, none_picked}

-- ---- lists

place_counted : {A : Type 0} (low : ℕ) (xs : List A) (k : ℕ) (x : A) → AtPlace xs k x → Member (low + k) (places_from low xs)
place_counted low [] k x a = absurd a
place_counted low (y ∷ xs) zero x a = inl (omega arith)
place_counted low (y ∷ xs) (suc k) x a =
    inr (subst (λ (i : ℕ). Member i (places_from (suc low) xs)) (omega arith) (place_counted (suc low) xs k x a))

link_there : (ls : List Link) (i p : ℕ) → is_linked ls i p ≡ true → (l : Link) × Member l ls × (l.to ≡ i) × (l.premise ≡ p)
link_there [] i p e = absurd cc
link_there (l ∷ ls) i p e =
    ⊎_elim
    (λ k. let both = and_parts (l.to == i) (l.premise == p) k in (l, inl refl, eqb-true l.to i both.0, eqb-true l.premise p both.1))
    (λ k. let r = link_there ls i p k in (r.0, inr r.1, r.2, r.3))
    (or_cases ((l.to == i) && (l.premise == p)) (is_linked ls i p) e)

-- premises of which none is an In without a link
no_input : (links : List Link) (i low : ℕ) (fs : List (Fact Variable)) → input_from links i low fs ≡ None → (k : ℕ) (f : Fact Variable) → AtPlace fs k f → input_at links i (low + k) f ≡ None
no_input links i low [] e k f a = absurd a
no_input links i low (g ∷ fs) e k f a = at (input_at links i low g) refl e k a (λ h j b. no_input links i (suc low) fs h j f b)
  where
    at : (o : Option Input) → input_at links i low g ≡ o → option_or o (input_from links i (suc low) fs) ≡ None → (k : ℕ) → AtPlace (g ∷ fs) k f
        → (input_from links i (suc low) fs ≡ None → (j : ℕ) → AtPlace fs j f → input_at links i (suc low + j) f ≡ None) → input_at links i (low + k) f ≡ None
    at (Some x) h nothing k a later = absurd cc
    at None h nothing zero a later =
        subst (λ (x : Fact Variable). input_at links i (low + zero) x ≡ None) a (subst (λ (j : ℕ). input_at links i j g ≡ None) (omega arith) h)
    at None h nothing (suc j) a later = subst (λ (n : ℕ). input_at links i n f ≡ None) (omega arith) (later nothing j a)

-- an In of one term is one
is_input : (links : List Link) (i p : ℕ) (f : Fact Variable) → is_in f ≡ true → is_linked links i p ≡ false → input_at links i p f ≡ None → only_term f.args ≡ None
is_input links i p f takes open_yet e =
    no_image (λ (m : Term Variable). let x : Input = record { time = i; premise = p; message = m } in x) (only_term f.args)
    (sym (rw (takes, open_yet) refl) ∙ e)

one_term : (v : Values) (ts : Terms Variable) (m : Ground) → valued_all v ts ≡ more m none → only_term ts ≡ None → ⊥
one_term v none m e k = absurd cc
one_term v (more t none) m e k = absurd cc
one_term v (more t (more u us)) m e k = absurd cc

unopened : (rules : _) (s : System) (i p : ℕ) (o : Option (Fact Variable)) → premise_cases rules s i p o ≡ None → o ≡ None
unopened rules s i p None e = refl
unopened rules s i p (Some f) e = absurd cc

module _ (context : Context) (s : System) (e : is_decided context s ≡ true) (made : IsWellMade context s) (d : Event) (stands : Member d s.events)
    (p : ℕ) (f : Fact Variable) (there : AtPlace (happening_premises d.happening) p f) where
  -- one without a link that is no Fr is an In,
  no_step : is_linked s.links d.time p ≡ false → is_fr f ≡ false → is_in f ≡ false → ⊥
  no_step open_yet no_fr no_in =
      let among = member_map (premise d.time) p (places_from 0 (happening_premises d.happening))
      (subst (λ (k : ℕ). Member k (places_from 0 (happening_premises d.happening))) (omega arith) (place_counted 0 (happening_premises d.happening) p f there)) in
      let nothing = unopened context.rules.forms s d.time p (open_premise s d.time p) (none_at context s e (7, premises_of) (inr (inl refl)) d stands (premise d.time p) among) in
      let found : premise_at s.events d.time p ≡ Some f =
      ap (λ (o : Option Event). option_and_then (λ (x : Event). slice_get (happening_premises x.happening) p) o) (event_itself s.events made.once d stands)
      ∙ place_found (happening_premises d.happening) p f there in
      let is_open : open_premise s d.time p ≡ Some f = rw (open_yet, found, no_fr, no_in) refl in
      absurd cc

  -- of other than one term,
  no_term : is_linked s.links d.time p ≡ false → is_in f ≡ true → only_term f.args ≡ None
  no_term open_yet takes =
      let place = no_place context s e row_send_input (inr (inr (inr (inr (inr (inr (inr (inr (inl refl))))))))) in
      let nothing = none_picked (open_input s.links) s.events (no_image (with_sending s) _ place) d stands in
      let nowhere = no_input s.links d.time 0 (happening_premises d.happening) nothing p f there in
      is_input s.links d.time p f takes open_yet (subst (λ (k : ℕ). input_at s.links d.time k f ≡ None) (omega arith) nowhere)

  -- which no log has.
  module _ (theory : Theory) (reserved : Every LeavesReserved theory.rules) (log : Log) (is_log : IsLog theory log) (v : Valuation) (solves : Solves theory log v s) where
    sent : is_in f ≡ true → only_term f.args ≡ None → ⊥
    sent takes other =
        let r = premise_event log (v.times d.time) v d.happening (every_member (HappensIn log v) s.events d stands solves.events) p f there in
        let h = input_sent theory reserved log is_log (v.times d.time) r.0 r.1 r.2 r.3 p (fact_at v.terms f) r.4 takes in
        one_term v.terms f.args h.message (ap (λ (x : Fact ⊥). x.args) h.is) other

    by_kind : (b : Bool) → is_in f ≡ b → is_linked s.links d.time p ≡ false → is_fr f ≡ false → ⊥
    by_kind true takes open_yet no_fr = sent takes (no_term open_yet takes)
    by_kind false takes open_yet no_fr = no_step open_yet no_fr takes

    by_links : (b : Bool) → is_linked s.links d.time p ≡ b → is_fr f ≡ false → HasLink s d.time p
    by_links true linked_there no_fr = link_there s.links d.time p linked_there
    by_links false open_yet no_fr = absurd (by_kind (is_in f) refl open_yet no_fr)

    pub linked : is_fr f ≡ false → HasLink s d.time p
    linked no_fr = by_links (is_linked s.links d.time p) refl no_fr
