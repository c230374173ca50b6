-- What names mean among the binders, and the values that the binders have.
use Rattle.std.proofs.Common.{◌≡◌, ℕ, zero, Bool, true, false, if◌then◌else◌, List, ◌∷◌, Option, Some, None, option_map, refl, sym, ap, ◌∙◌, subst, bytes_eq}
use Rattle.sp_spec.specs.Term.{Term, var, constant, name, app, Terms, Ground, Grounds, valued, valued_all}
use Rattle.sp_spec.specs.Rule.{Action, action_at}
use Rattle.sp_spec.specs.Formula.{Mark, bare, of_sort, of_time, Written}
use Rattle.sp_spec.specs.Truth.{Value, message, position, Environment, value_of, message_of, value_in}
use Rattle.sp_spec.specs.Guarded.{Place, bound, Time, bound_time, Assignment, with_term, with_time, place_in, term_in, action_in, time_in}
use Rattle.sp_law_guard.specs.GuardedForm.{Meant, a_message, a_time, binder_meant, past_binder, meant, message_place, time_place, placed_variable, placed_term, placed_terms, placed_action, term_time}
use Rattle.sp_spec.proofs.Options.{mapped}
use Rattle.sp_spec.proofs.Variables.{where_value, where_values}

-- what is meant has the value that the binder has
abbrev pub Means : Assignment → Meant → Value → Type 0
Means m (a_message mark k) a = a ≡ message (m.bound_terms k)
Means m (a_time k) a = a ≡ position (m.bound_times k)

pub record Corresponds (bs : List Written) (env : Environment) (m : Assignment) : Type 0 where
  pub each : (x : List ℕ) (w : Meant) → meant bs x ≡ Some w → Means m w (value_of env x)

-- one more binder of a message
message_binder : (mark : Mark) (m : Assignment) (t : Ground) → (mark ≡ of_time → ⊥) → Means (with_term t m) (binder_meant mark) (message t)
message_binder of_time m t n = absurd (n refl)
message_binder bare m t n = refl
message_binder (of_sort sort) m t n = refl

past_message : (mark : Mark) (m : Assignment) (t : Ground) → (mark ≡ of_time → ⊥) → (w : Meant) (a : Value) → Means m w a → Means (with_term t m) (past_binder mark w) a
past_message of_time m t n w a h = absurd (n refl)
past_message bare m t n (a_message mark k) a h = h
past_message bare m t n (a_time k) a h = h
past_message (of_sort sort) m t n (a_message mark k) a h = h
past_message (of_sort sort) m t n (a_time k) a h = h

pub corresponds_message : (b : Written) (bs : List Written) (env : Environment) (m : Assignment) (t : Ground) → (b.mark ≡ of_time → ⊥) → Corresponds bs env m → Corresponds (b ∷ bs) ((b.name, message t) ∷ env) (with_term t m)
corresponds_message b bs env m t n h = record { each = each }
  where
    each : (x : List ℕ) (w : Meant) → meant (b ∷ bs) x ≡ Some w → Means (with_term t m) w (value_of ((b.name, message t) ∷ env) x)
    each x w e = at (bytes_eq b.name x) e
      where
        at : (c : Bool) → (if c then Some (binder_meant b.mark) else option_map (past_binder b.mark) (meant bs x)) ≡ Some w → Means (with_term t m) w (if c then message t else value_of env x)
        at true k = let g : binder_meant b.mark ≡ w = cc in subst (λ (y : Meant). Means (with_term t m) y (message t)) g (message_binder b.mark m t n)
        at false k =
            let r = mapped (past_binder b.mark) (meant bs x) w k in
            subst (λ (y : Meant). Means (with_term t m) y (value_of env x)) (sym r.2) (past_message b.mark m t n r.0 (value_of env x) (h.each x r.0 r.1))

-- one more binder of a time
past_time : (m : Assignment) (p : ℕ) (w : Meant) (a : Value) → Means m w a → Means (with_time p m) (past_binder of_time w) a
past_time m p (a_message mark k) a h = h
past_time m p (a_time k) a h = h

pub corresponds_time : (b : Written) (bs : List Written) (env : Environment) (m : Assignment) (p : ℕ) → b.mark ≡ of_time → Corresponds bs env m
    → Corresponds (b ∷ bs) ((b.name, position p) ∷ env) (with_time p m)
corresponds_time b bs env m p is h =
    let make : Mark → Written = λ mark. record { name = b.name; mark = mark } in
    subst (λ (y : Written). Corresponds (y ∷ bs) ((b.name, position p) ∷ env) (with_time p m)) (ap make (sym is)) (record { each = each })
  where
    each : (x : List ℕ) (w : Meant) → meant (record { name = b.name; mark = of_time } ∷ bs) x ≡ Some w → Means (with_time p m) w (value_of ((b.name, position p) ∷ env) x)
    each x w e = at (bytes_eq b.name x) e
      where
        at : (c : Bool) → (if c then Some (a_time zero) else option_map (past_binder of_time) (meant bs x)) ≡ Some w → Means (with_time p m) w (if c then position p else value_of env x)
        at true k = let g : a_time zero ≡ w = cc in subst (λ (y : Meant). Means (with_time p m) y (position p)) g refl
        at false k =
            let r = mapped (past_binder of_time) (meant bs x) w k in
            subst (λ (y : Meant). Means (with_time p m) y (value_of env x)) (sym r.2) (past_time m p r.0 (value_of env x) (h.each x r.0 r.1))

-- terms, actions, and times
module _ (bs : List Written) (env : Environment) (m : Assignment) (h : Corresponds bs env m) where
  place_read : (o : Option Meant) (x : List ℕ) (u : Term Place) → meant bs x ≡ o → message_place o ≡ Some u → value_of env x ≡ message (term_in m u)
  place_read None x u e k = absurd cc
  place_read (Some (a_time j)) x u e k = absurd cc
  place_read (Some (a_message mark j)) x u e k =
      let g : var (bound j) ≡ u = cc in
      h.each x (a_message mark j) e ∙ ap (λ (y : Term Place). message (term_in m y)) g

  leaf_read : (x : Written) (u : Term Place) → placed_variable bs x ≡ Some u → message_of (value_of env x.name) ≡ term_in m u
  leaf_read x u e = ap message_of (place_read (meant bs x.name) x.name u refl e)

  term_read : (t : Term Written) (u : Term Place) → placed_term bs t ≡ Some u → valued (λ x. message_of (value_of env x.name)) t ≡ term_in m u
  term_read t u e = where_value (placed_variable bs) (λ x. message_of (value_of env x.name)) (place_in m) leaf_read t u e

  terms_read : (ts : Terms Written) (us : Terms Place) → placed_terms bs ts ≡ Some us → valued_all (λ x. message_of (value_of env x.name)) ts ≡ valued_all (place_in m) us
  terms_read ts us e = where_values (placed_variable bs) (λ x. message_of (value_of env x.name)) (place_in m) leaf_read ts us e

  pub action_read : (a : Action Written) (b : Action Place) → placed_action bs a ≡ Some b → action_at (λ x. message_of (value_of env x.name)) a ≡ action_in m b
  action_read a b e =
      let make : Terms Place → Action Place = λ ts. record { symbol = a.symbol; args = ts } in
      let r = mapped make (placed_terms bs a.args) b e in
      ap (λ (ts : Grounds). let x : Action ⊥ = record { symbol = a.symbol; args = ts } in x) (terms_read a.args r.0 r.1) ∙ ap (action_in m) (sym r.2)

  place_time_read : (o : Option Meant) (x : List ℕ) (i : Time) → meant bs x ≡ o → time_place o ≡ Some i → value_of env x ≡ position (time_in m i)
  place_time_read None x i e k = absurd cc
  place_time_read (Some (a_message mark j)) x i e k = absurd cc
  place_time_read (Some (a_time j)) x i e k = let g : bound_time j ≡ i = cc in h.each x (a_time j) e ∙ ap (λ (y : Time). position (time_in m y)) g

  pub time_read : (x : List ℕ) (i : Time) → time_place (meant bs x) ≡ Some i → value_of env x ≡ position (time_in m i)
  time_read x i e = place_time_read (meant bs x) x i refl e

  -- a term that is a time, and one that is a message
  pub term_time_read : (t : Term Written) (i : Time) → term_time bs t ≡ Some i → value_in env t ≡ position (time_in m i)
  term_time_read (var x) i e = time_read x.name i e
  term_time_read (constant c) i e = absurd cc
  term_time_read (name n) i e = absurd cc
  term_time_read (app f ts) i e = absurd cc

  pub value_read : (t : Term Written) (u : Term Place) → placed_term bs t ≡ Some u → value_in env t ≡ message (term_in m u)
  value_read (var x) u e = place_read (meant bs x.name) x.name u refl e
  value_read (constant c) u e = ap message (term_read (constant c) u e)
  value_read (name n) u e = ap message (term_read (name n) u e)
  value_read (app f ts) u e = ap message (term_read (app f ts) u e)
