-- Elementary moves after which no equation could be used in an event, where none could be before.
use Rattle.std.proofs.Common.{◌≡◌, ℕ, suc, Bool, true, false, not, ◌&&◌, ◌||◌, ◌==◌, if◌then◌else◌, List, [], ◌∷◌, ◌++◌, map, codes, Option, Some, None, option_map, refl, ap, subst, ◌∙◌}
use Rattle.std.specs.List.{list_all}
use Rattle.std.specs.Option.{IfSome, option_or}
use Rattle.std.specs.Str.{bytes_eq}
use Rattle.std.proofs.lemmas.Option.{IfSome_then}
use Rattle.std.proofs.lemmas.Bool.{and_from}
use Rattle.sp_spec.specs.Term.{Sort, Msg, Fresh, Pub, Variable, Term, var, constant, name, app, Terms, none, more}
use Rattle.sp_spec.specs.Signature.{Equation, Symbol}
use Rattle.sp_spec.specs.Rule.{Fact}
use Rattle.sp_spec.specs.Log.{is_in}
use Rattle.sp_spec.specs.Destruction.{is_public}
use Rattle.sp_spec_forms.specs.Reducible.{irreducible, irreducible_all, irreducible_facts}
use Rattle.sp_spec_system.specs.System.{Way, anyhow, public_name, own_name, constructed, chain_begun, chain_done, Happening, rule_step, sending, learning, happening_facts, happening_premises, Event, Link, System, with_events, with_pairs}
use Rattle.sp_spec_system.specs.Rules.{Rules}
use Rattle.sp_spec_system.specs.Formulas.{first_formula, spending}
use Rattle.sp_spec_system.specs.MakingOne.{happening_by, learnt_by_at}
use Rattle.sp_spec_system.specs.Order.{is_before}
use Rattle.sp_spec_system.specs.Picked.{first_some, only_term}
use Rattle.sp_spec_formula.specs.Split.{split_of}
use Rattle.sp_spec_formula.specs.Open.{existential_of, opened_at}
use Rattle.sp_spec_formula.specs.Unequal.{inequality_of, unequal_at}
use Rattle.sp_spec_formula.specs.InOrder.{order_of, ordered_at}
use Rattle.sp_spec_formula.specs.ActionStands.{standing_of}
use Rattle.sp_spec_formula.specs.Disjunction.{instead_of}
use Rattle.sp_spec_formula.specs.Instantiate.{new_instance, with_formula}
use Rattle.sp_spec_graph.specs.ReducibleEvent.{has_reducible}
use Rattle.sp_spec_know.specs.Learning.{learning_of, is_unlearnt, learnt_from, learnt_before}
use Rattle.sp_spec_graph.specs.Premise.{is_linked}
use Rattle.sp_spec_know.specs.SendInput.{Input, input_at, input_from, open_input, with_sending}
use Rattle.sp_spec_know.specs.SendLearnt.{sent, if_unlearnt, unlearnt_sending}
use Rattle.sp_spec_know.specs.SettleLearn.{Settling, of_sort_pub, made_of, settling, settling_of, settled_event, each_learnt_before, with_settling}
use Rattle.sp_spec_know.specs.FreshFirst.{missing_behind}
use Rattle.sp_spec_proof.specs.Rows.{Row, row_split, row_open, row_equate, row_unequal, row_order, row_last, row_action_stands, row_disjunction, row_send_input, row_send_learnt, row_learn_once, row_linear_once, row_fresh_once, row_settle_learn, row_fresh_first, row_instantiate, by_row, reducible_term, is_contradictory}
use Rattle.sp_spec_proof.proofs.Contradictions.{none_holds}
use Rattle.sp_step.specs.Kept.{keeps_terms}

-- ---- tests

first_none : (a b : Bool) → (not a || b) ≡ false → (a ≡ true) × (b ≡ false)
first_none true b e = (refl, e)
first_none false b e = absurd cc

no_more : (a b : Bool) → a ≡ true → b ≡ false → (not a || b) ≡ false
no_more true b e h = h
no_more false b e h = absurd cc

and_parts : (a b : Bool) → (a && b) ≡ true → (a ≡ true) × (b ≡ true)
and_parts true b e = (refl, e)
and_parts false b e = absurd cc

-- ---- what is picked

either : {X : Type 0} (P : X → Type 0) (a b : Option X) → IfSome a P → IfSome b P → IfSome (option_or a b) P
either P None b h k = k
either P (Some x) b h k = h

if_so : {X : Type 0} (P : X → Type 0) (b : Bool) (o : Option X) → IfSome o P → IfSome (let r : Option X = if b then o else None in r) P
if_so P true o h = h
if_so P false o h = tt

always : {X : Type 0} (P : X → Type 0) → ((x : X) → P x) → (o : Option X) → IfSome o P
always P h None = tt
always P h (Some x) = h x

module _ (es : List Equation) where
  abbrev IsClean : List Event → Type 0
  IsClean events = has_reducible es events ≡ false

  abbrev IsFree : Happening → Type 0
  IsFree h = irreducible_facts es (happening_facts h) ≡ true

  -- what is picked of events in which no equation could be used
  picked : {X : Type 0} (P : X → Type 0) (pick : Event → Option X) → ((e : Event) → IsFree e.happening → IfSome (pick e) P) → (events : List Event) → IsClean events
      → IfSome (first_some pick events) P
  picked P pick each [] h = tt
  picked P pick each (e ∷ events) h =
      let parts = first_none (irreducible_facts es (happening_facts e.happening)) (has_reducible es events) h in
      either P (pick e) (first_some pick events) (each e parts.0) (picked P pick each events parts.1)

  -- what a row makes
  made : {X : Type 0} (f : X → System) (o : Option X) (t : System) → IfSome o (λ x. IsClean (f x).events) → option_map f o ≡ Some t → IsClean t.events
  made f None t k e = absurd cc
  made f (Some x) t k e = let same : f x ≡ t = cc in subst (λ (u : System). IsClean u.events) same k

  -- one more event
  appended : (events : List Event) (e : Event) → IsFree e.happening → IsClean events → IsClean (events ++ e ∷ [])
  appended [] e k h = no_more (irreducible_facts es (happening_facts e.happening)) false k refl
  appended (d ∷ events) e k h =
      let parts = first_none (irreducible_facts es (happening_facts d.happening)) (has_reducible es events) h in
      no_more (irreducible_facts es (happening_facts d.happening)) (has_reducible es (events ++ e ∷ [])) parts.0 (appended events e k parts.1)

  alone : (m : Term Variable) → irreducible es m ≡ true → irreducible_all es (more m none) ≡ true
  alone m h = and_from (irreducible es m) true h refl

  sent_free : (m : Term Variable) → irreducible es m ≡ true → IsFree (sending m)
  sent_free m h =
      and_from (irreducible_all es (more m none)) (irreducible_all es (more m none) && true) (alone m h) (and_from (irreducible_all es (more m none)) true (alone m h) refl)

  learnt_free : (m : Term Variable) (way : Way) → irreducible es m ≡ true → IsFree (learning m way)
  learnt_free m way h = and_from (irreducible_all es (more m none)) true (alone m h) refl

  from_alone : (m : Term Variable) (b : Bool) → (irreducible_all es (more m none) && b) ≡ true → irreducible es m ≡ true
  from_alone m b h = (and_parts (irreducible es m) true (and_parts (irreducible_all es (more m none)) b h).0).0

  -- ---- what is sent for a premise

  abbrev IsInput : Input → Type 0
  IsInput x = irreducible es x.message ≡ true

  only : (i p : ℕ) (ts : Terms Variable) → irreducible_all es ts ≡ true
      → IfSome (option_map (λ (m : Term Variable). (let r : Input = record { time = i; premise = p; message = m } in r)) (only_term ts)) IsInput
  only i p none h = tt
  only i p (more t none) h = (and_parts (irreducible es t) true h).0
  only i p (more t (more u us)) h = tt

  input : (links : List Link) (i p : ℕ) (fs : List (Fact Variable)) (others : List (Terms Variable))
      → list_all (irreducible_all es) (map (λ (f : Fact Variable). f.args) fs ++ others) ≡ true → IfSome (input_from links i p fs) IsInput
  input links i p [] others h = tt
  input links i p (f ∷ fs) others h =
      let parts = and_parts (irreducible_all es f.args) (list_all (irreducible_all es) (map (λ (g : Fact Variable). g.args) fs ++ others)) h in
      either IsInput (input_at links i p f) (input_from links i (suc p) fs)
      (if_so IsInput (is_in f && not (is_linked links i p)) _ (only i p f.args parts.0))
      (input links i (suc p) fs others parts.1)

  input_sent : (s : System) → IsClean s.events → IfSome (first_some (open_input s.links) s.events) (λ x. IsClean (with_sending s x).events)
  input_sent s h =
      IfSome_then (first_some (open_input s.links) s.events)
      (picked IsInput (open_input s.links) (λ e k. input s.links e.time 0 (happening_premises e.happening) _ k) s.events h)
      (λ x k. appended s.events _ (sent_free x.message k) h)

  -- ---- what is learnt

  one_of : (b : Bool) (s u : System) → IsClean s.events → IsClean u.events → IsClean (let r : System = if b then s else u in r).events
  one_of true s u h k = h
  one_of false s u h k = k

  learnt_before_clean : (t : Term Variable) (i : ℕ) (s : System) → irreducible es t ≡ true → IsClean s.events → IsClean (learnt_before t i s).events
  learnt_before_clean t i s k h = each (learning_of t s.events)
    where
      each : (o : Option ℕ) → IsClean (learnt_from t i s o).events
      each None = appended s.events _ (learnt_free t anyhow k) h
      each (Some j) = one_of (is_before s.order j i) s (with_pairs s ((j, i) ∷ [])) h h

  abbrev IsSent : Term Variable × ℕ → Type 0
  IsSent p = irreducible es p.0 ≡ true

  sending_told : (s : System) (i : ℕ) (h : Happening) → IsFree h → IfSome (if_unlearnt s i (sent h)) IsSent
  sending_told s i (rule_step r facts) k = tt
  sending_told s i (learning m way) k = tt
  sending_told s i (sending m) k = if_so IsSent (is_unlearnt s m i) (Some (m, i)) (from_alone m (irreducible_all es (more m none) && true) k)

  sending_learnt : (s : System) → IsClean s.events → IfSome (first_some (unlearnt_sending s) s.events) (λ p. IsClean (learnt_before p.0 p.1 s).events)
  sending_learnt s h =
      IfSome_then (first_some (unlearnt_sending s) s.events) (picked IsSent (unlearnt_sending s) (λ e k. sending_told s e.time e.happening k) s.events h)
      (λ p k. learnt_before_clean p.0 p.1 s k h)

  -- ---- ways that are settled

  abbrev PartsFree : Settling → Type 0
  PartsFree x = list_all (irreducible es) x.parts ≡ true

  by_sort : (i : ℕ) (sort : Sort) → IfSome (of_sort_pub sort i) PartsFree
  by_sort i Pub = refl
  by_sort i Msg = tt
  by_sort i Fresh = tt

  by_making : (b : Bool) (i : ℕ) (ts : List (Term Variable)) → list_all (irreducible es) ts ≡ true → IfSome (made_of b i ts) PartsFree
  by_making b i ts h = if_so PartsFree b (Some (record { time = i; way = constructed; parts = ts })) h

  settling_told : (symbols : List Symbol) (i : ℕ) (m : Term Variable) → irreducible es m ≡ true → IfSome (settling symbols i m) PartsFree
  settling_told symbols i (var x) h = by_sort i x.sort
  settling_told symbols i (constant c) h = refl
  settling_told symbols i (name n) h = tt
  settling_told symbols i (app f none) h = by_making (is_public symbols f 0) i [] refl
  settling_told symbols i (app f (more t none)) h = tt
  settling_told symbols i (app f (more t (more u none))) h =
      let parts = (and_parts (irreducible_all es (more t (more u none))) _ h).0 in
      by_making (bytes_eq f (codes "pair")) i (t ∷ u ∷ []) parts
  settling_told symbols i (app f (more t (more u (more w ws)))) h = tt

  settled_told : (symbols : List Symbol) (i : ℕ) (h : Happening) → IsFree h → IfSome (settling_of symbols i h) PartsFree
  settled_told symbols i (rule_step r facts) k = tt
  settled_told symbols i (sending m) k = tt
  settled_told symbols i (learning m anyhow) k = settling_told symbols i m (from_alone m true k)
  settled_told symbols i (learning m public_name) k = tt
  settled_told symbols i (learning m own_name) k = tt
  settled_told symbols i (learning m constructed) k = tt
  settled_told symbols i (learning m (chain_begun j c ts)) k = tt
  settled_told symbols i (learning m (chain_done j c ts)) k = tt

  same_facts : (way : Way) (h : Happening) → happening_facts (happening_by way h) ≡ happening_facts h
  same_facts way (rule_step r facts) = refl
  same_facts way (sending m) = refl
  same_facts way (learning m other) = refl

  by_way : (b : Bool) (way : Way) (e : Event)
      → irreducible_facts es (happening_facts (let r : Event = if b then record { time = e.time; happening = happening_by way e.happening } else e in r).happening)
      ≡ irreducible_facts es (happening_facts e.happening)
  by_way true way e = ap (irreducible_facts es) (same_facts way e.happening)
  by_way false way e = refl

  by_ways : (i : ℕ) (way : Way) (events : List Event) → has_reducible es (learnt_by_at i way events) ≡ has_reducible es events
  by_ways i way [] = refl
  by_ways i way (e ∷ events) = rw (by_way (e.time == i) way e, by_ways i way events) refl

  each_clean : (i : ℕ) (ts : List (Term Variable)) (s : System) → list_all (irreducible es) ts ≡ true → IsClean s.events → IsClean (each_learnt_before i ts s).events
  each_clean i [] s k h = h
  each_clean i (t ∷ ts) s k h =
      let parts = and_parts (irreducible es t) (list_all (irreducible es) ts) k in
      each_clean i ts (learnt_before t i s) parts.1 (learnt_before_clean t i s parts.0 h)

  way_settled : (symbols : List Symbol) (s : System) → IsClean s.events → IfSome (first_some (settled_event symbols) s.events) (λ x. IsClean (with_settling s x).events)
  way_settled symbols s h =
      IfSome_then (first_some (settled_event symbols) s.events) (picked PartsFree (settled_event symbols) (λ e k. settled_told symbols e.time e.happening k) s.events h)
      (λ x k. each_clean x.time x.parts (with_events s (learnt_by_at x.time x.way s.events)) k (by_ways x.time x.way s.events ∙ h))

-- where no contradiction is seen no equation could be used in an event
pub not_reducible : (rules : Rules) (s : System) → is_contradictory rules s ≡ false → has_reducible rules.signature.equations s.events ≡ false
not_reducible rules s e = none_holds rules s reducible_term e

-- where a row that keeps terms applies, no equation could be used in an event behind it if none could be before
pub row_keeps : (rules : Rules) (row : Row) (s t : System) → keeps_terms row ≡ true → by_row rules row s ≡ Some t
    → has_reducible rules.signature.equations s.events ≡ false → has_reducible rules.signature.equations t.events ≡ false
row_keeps rules row_split s t k e h = made rules.signature.equations (λ r. spending s r r.picked) (first_formula split_of s.formulas) t (always _ (λ r. h) _) e
row_keeps rules row_open s t k e h = made rules.signature.equations (opened_at s) (first_formula existential_of s.formulas) t (always _ (λ r. h) _) e
row_keeps rules row_equate s t k e h = absurd cc
row_keeps rules row_unequal s t k e h = made rules.signature.equations (unequal_at s) (first_formula inequality_of s.formulas) t (always _ (λ r. h) _) e
row_keeps rules row_order s t k e h = made rules.signature.equations (ordered_at s) (first_formula (order_of s.order) s.formulas) t (always _ (λ r. h) _) e
row_keeps rules row_last s t k e h = absurd cc
row_keeps rules row_action_stands s t k e h = made rules.signature.equations (λ r. spending s r []) (first_formula (standing_of s.events) s.formulas) t (always _ (λ r. h) _) e
row_keeps rules row_disjunction s t k e h = made rules.signature.equations (λ r. spending s r r.picked) (first_formula (instead_of s) s.formulas) t (always _ (λ r. h) _) e
row_keeps rules row_send_input s t k e h = made rules.signature.equations (with_sending s) (first_some (open_input s.links) s.events) t (input_sent rules.signature.equations s h) e
row_keeps rules row_send_learnt s t k e h =
    made rules.signature.equations (λ (p : Term Variable × ℕ). learnt_before p.0 p.1 s) (first_some (unlearnt_sending s) s.events) t (sending_learnt rules.signature.equations s h) e
row_keeps rules row_learn_once s t k e h = absurd cc
row_keeps rules row_linear_once s t k e h = absurd cc
row_keeps rules row_fresh_once s t k e h = absurd cc
row_keeps rules row_settle_learn s t k e h =
    made rules.signature.equations (with_settling s) (first_some (settled_event rules.signature.symbols) s.events) t (way_settled rules.signature.equations rules.signature.symbols s h) e
row_keeps rules row_fresh_first s t k e h = made rules.signature.equations (with_pairs s) (first_some (missing_behind s) s.events) t (always _ (λ r. h) _) e
row_keeps rules row_instantiate s t k e h = made rules.signature.equations (with_formula s) (first_some (new_instance s) s.formulas) t (always _ (λ r. h) _) e
