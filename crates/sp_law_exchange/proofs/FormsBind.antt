-- Each bound message of a guarded form is bound in it.
use Rattle.std.proofs.Common.{◌≡◌, ℕ, Bool, true, false, if◌then◌else◌, List, [], ◌∷◌, Option, Some, None, option_map, sym, subst}
use Rattle.std.specs.Str.{bytes_eq}
use Rattle.sp_spec.specs.Term.{EachVariable, EachVariables, Term, var, Terms}
use Rattle.sp_spec.specs.Rule.{Action}
use Rattle.sp_spec.specs.Formula.{Mark, bare, of_sort, of_time, Written, Formula, truth, falsity, happens, equals, precedes, not_so, both, either, implies, for_all, for_some}
use Rattle.sp_spec.specs.Guarded.{Place, bound, Atom, Guarded, holds}
use Rattle.sp_spec.specs.Guarded as guarded
use Rattle.sp_spec.proofs.Options.{mapped}
use Rattle.sp_spec.proofs.Variables.{Carries, where_carried, all_where_carried}
use Rattle.sp_law_guard.specs.GuardedForm.{Meant, a_message, a_time, binder_meant, past_binder, meant, message_place, time_place, placed_variable, placed_term, placed_terms, placed_action, acts_at, before_at, equality_at, term_time, binder_of, conjunction, disjunction, negate, existential, guarded_form}
use Rattle.sp_law_guard.proofs.Kept.{joined_forms}
use Rattle.sp_law_guard.proofs.Parts.{conjunction_is, disjunction_is}
use Rattle.sp_law_guard.proofs.Places.{action_made, order_made, equality_made}
use Rattle.sp_law_exchange.specs.Reach.{IsReached, reached_within, AtomReached, FormulaReached, BindsItsPlaces}
use Rattle.sp_law_exchange.proofs.Forms.{reached_parts, negate_reached, existential_reached}

-- the messages that these bind, the innermost first
abbrev reached_by : List Written → ℕ → Type 0
reached_by [] k = ⊥
reached_by (x ∷ bs) k = reached_within (binder_of x.mark ∷ []) (reached_by bs) k

abbrev Reaches : (ℕ → Type 0) → Meant → Type 0
Reaches B (a_message mark k) = B k
Reaches B (a_time k) = Unit {0}

binder_reaches : (mark : Mark) (B : ℕ → Type 0) → Reaches (reached_within (binder_of mark ∷ []) B) (binder_meant mark)
binder_reaches bare B = tt
binder_reaches (of_sort sort) B = tt
binder_reaches of_time B = tt

past_reaches : (mark : Mark) (B : ℕ → Type 0) (w : Meant) → Reaches B w → Reaches (reached_within (binder_of mark ∷ []) B) (past_binder mark w)
past_reaches bare B (a_message other k) l = l
past_reaches bare B (a_time k) l = tt
past_reaches (of_sort sort) B (a_message other k) l = l
past_reaches (of_sort sort) B (a_time k) l = tt
past_reaches of_time B (a_message other k) l = l
past_reaches of_time B (a_time k) l = tt

meant_reaches : (bs : List Written) (x : List ℕ) (w : Meant) → meant bs x ≡ Some w → Reaches (reached_by bs) w
meant_reaches [] x w e = absurd cc
meant_reaches (b ∷ bs) x w e = at (bytes_eq b.name x) e (meant_reaches bs x)
  where
    at : (c : Bool) → (if c then Some (binder_meant b.mark) else option_map (past_binder b.mark) (meant bs x)) ≡ Some w
        → ((v : Meant) → meant bs x ≡ Some v → Reaches (reached_by bs) v) → Reaches (reached_by (b ∷ bs)) w
    at true k below = let g : binder_meant b.mark ≡ w = cc in subst (Reaches (reached_by (b ∷ bs))) g (binder_reaches b.mark (reached_by bs))
    at false k below =
        let r = mapped (past_binder b.mark) (meant bs x) w k in
        subst (Reaches (reached_by (b ∷ bs))) (sym r.2) (past_reaches b.mark (reached_by bs) r.0 (below r.0 r.1))

message_reached : (B : ℕ → Type 0) (o : Option Meant) (u : Term Place) → ((w : Meant) → o ≡ Some w → Reaches B w) → message_place o ≡ Some u → EachVariable (IsReached B) u
message_reached B None u below e = absurd cc
message_reached B (Some (a_time k)) u below e = absurd cc
message_reached B (Some (a_message mark k)) u below e =
    let g : var (bound k) ≡ u = cc in
    let b : B k = below (a_message mark k) (λ i. Some (a_message mark k)) in
    subst (EachVariable (IsReached B)) g b

module _ (bs : List Written) where
  abbrev Inside : Term Place → Type 0
  Inside u = EachVariable (IsReached (reached_by bs)) u

  abbrev AllInside : Terms Place → Type 0
  AllInside us = EachVariables (IsReached (reached_by bs)) us

  inside_carried : Carries (placed_variable bs) (λ t u. Inside u) (λ ts us. AllInside us)
  inside_carried = record {
    leaf = λ x u e. message_reached (reached_by bs) (meant bs x.name) u (meant_reaches bs x.name) e;
    constants = λ c. tt;
    names = λ n. tt;
    under = λ f ts us h. h;
    end = tt;
    beside = λ t u ts us h k. (h, k);
  }

  term_inside : (t : Term Written) (u : Term Place) → placed_term bs t ≡ Some u → Inside u
  term_inside t u e = where_carried (placed_variable bs) (λ t u. Inside u) (λ ts us. AllInside us) inside_carried t u e

  terms_inside : (ts : Terms Written) (us : Terms Place) → placed_terms bs ts ≡ Some us → AllInside us
  terms_inside ts us e = all_where_carried (placed_variable bs) (λ t u. Inside u) (λ ts us. AllInside us) inside_carried ts us e

  action_reached : (a : Action Written) (i : Written) (atom : Atom) → acts_at (placed_action bs a) (time_place (meant bs i.name)) ≡ Some atom → AtomReached (reached_by bs) atom
  action_reached a i atom e = let r = action_made bs a i atom e in subst (AtomReached (reached_by bs)) (sym r.is) (terms_inside a.args r.action.args r.placed)

  equality_reached : (t u : Term Written) (atom : Atom) → equality_at bs t u (term_time bs t) (term_time bs u) ≡ Some atom → AtomReached (reached_by bs) atom
  equality_reached t u atom e = equality_made bs t u atom (AtomReached (reached_by bs)) e (λ i j k l. tt) (λ x y k l. (term_inside t x k, term_inside u y l))

  order_reached : (i j : Written) (atom : Atom) → before_at (time_place (meant bs i.name)) (time_place (meant bs j.name)) ≡ Some atom → AtomReached (reached_by bs) atom
  order_reached i j atom e = let r = order_made bs i j atom e in subst (AtomReached (reached_by bs)) (sym r.is) tt

abbrev Inner : List Written → Guarded → Type 0
Inner bs g = FormulaReached (reached_by bs) g

form_reached : (bs : List Written) (f : Formula) (g : Guarded) → guarded_form bs f ≡ Some g → Inner bs g
form_reached bs truth g e = subst (Inner bs) (let k : guarded.truth ≡ g = cc in k) tt
form_reached bs falsity g e = subst (Inner bs) (let k : guarded.falsity ≡ g = cc in k) tt
form_reached bs (happens a i) g e =
    let r = mapped holds (acts_at (placed_action bs a) (time_place (meant bs i.name))) g e in
    subst (Inner bs) (sym r.2) (action_reached bs a i r.0 r.1)
form_reached bs (equals t u) g e =
    let r = mapped holds (equality_at bs t u (term_time bs t) (term_time bs u)) g e in
    subst (Inner bs) (sym r.2) (equality_reached bs t u r.0 r.1)
form_reached bs (precedes i j) g e =
    let r = mapped holds (before_at (time_place (meant bs i.name)) (time_place (meant bs j.name))) g e in
    subst (Inner bs) (sym r.2) (order_reached bs i j r.0 r.1)
form_reached bs (not_so f) g e =
    let r = mapped negate (guarded_form bs f) g e in
    subst (Inner bs) (sym r.2) (negate_reached (reached_by bs) r.0 (form_reached bs f r.0 r.1))
form_reached bs (both f k) g e =
    let r = joined_forms conjunction (guarded_form bs f) (guarded_form bs k) g e in
    subst (Inner bs) (sym r.4) (conjunction_is (Inner bs) (reached_parts (reached_by bs)) r.0 r.1 (form_reached bs f r.0 r.2) (form_reached bs k r.1 r.3))
form_reached bs (either f k) g e =
    let r = joined_forms disjunction (guarded_form bs f) (guarded_form bs k) g e in
    subst (Inner bs) (sym r.4) (disjunction_is (Inner bs) (reached_parts (reached_by bs)) r.0 r.1 (form_reached bs f r.0 r.2) (form_reached bs k r.1 r.3))
form_reached bs (implies f k) g e =
    let r = joined_forms disjunction (option_map negate (guarded_form bs f)) (guarded_form bs k) g e in
    let q = mapped negate (guarded_form bs f) r.0 r.2 in
    subst (Inner bs) (sym r.4)
    (disjunction_is (Inner bs) (reached_parts (reached_by bs)) r.0 r.1 (subst (Inner bs) (sym q.2) (negate_reached (reached_by bs) q.0 (form_reached bs f q.0 q.1))) (form_reached bs k r.1 r.3))
form_reached bs (for_all x f) g e =
    let b = binder_of x.mark in
    let r = mapped (λ (k : Guarded). negate (existential (binder_of x.mark) (negate k))) (guarded_form (x ∷ bs) f) g e in
    subst (Inner bs) (sym r.2)
    (negate_reached (reached_by bs) (existential b (negate r.0))
    (existential_reached b (reached_by bs) (negate r.0) (negate_reached (reached_by (x ∷ bs)) r.0 (form_reached (x ∷ bs) f r.0 r.1))))
form_reached bs (for_some x f) g e =
    let r = mapped (existential (binder_of x.mark)) (guarded_form (x ∷ bs) f) g e in
    subst (Inner bs) (sym r.2) (existential_reached (binder_of x.mark) (reached_by bs) r.0 (form_reached (x ∷ bs) f r.0 r.1))

pub form_binds : (f : Formula) (g : Guarded) → guarded_form [] f ≡ Some g → BindsItsPlaces g
form_binds f g e = form_reached [] f g e

pub negation_binds : (g : Guarded) → BindsItsPlaces g → BindsItsPlaces (negate g)
negation_binds g h = negate_reached (λ k. ⊥) g h
