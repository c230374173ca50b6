-- A term of a formula that binds none of its variables has the value of the term of the system.
use Rattle.std.proofs.Common.{◌≡◌, Some, option_map, sym, ap, ◌∙◌, subst}
use Rattle.sp_spec.specs.Term.{Names, Variable, Term, var, Terms, Grounds, valued, valued_all, MadeOf, AllMadeOf}
use Rattle.sp_spec.specs.Rule.{Action, action_at}
use Rattle.sp_spec.specs.Unifier.{Pair}
use Rattle.sp_spec.specs.Guarded.{Place, free, bound, Assignment, place_in, term_in, action_in}
use Rattle.sp_spec_system.specs.Numbered.{AtFree}
use Rattle.sp_spec_system.specs.Formulas.{freed_place, freed, freed_all, freed_action, pair_of}
use Rattle.sp_spec.proofs.Options.{some_same, mapped, then_some}
use Rattle.sp_spec.proofs.Variables.{where_value, where_values, where_made, where_all_made}

module _ (m : Assignment) where
  place_freed : (p : Place) (u : Term Variable) → freed_place p ≡ Some u → place_in m p ≡ valued m.terms u
  place_freed (free x) u e = ap (valued m.terms) (sym (some_same (var x) u e))
  place_freed (bound k) u e = absurd cc

  pub freed_value : (t : Term Place) (u : Term Variable) → freed t ≡ Some u → term_in m t ≡ valued m.terms u
  freed_value t u e = where_value freed_place (place_in m) m.terms place_freed t u e

  freed_all_value : (ts : Terms Place) (us : Terms Variable) → freed_all ts ≡ Some us → valued_all (place_in m) ts ≡ valued_all m.terms us
  freed_all_value ts us e = where_values freed_place (place_in m) m.terms place_freed ts us e

module _ (N : Names) (P : Variable → Type 0) where
  place_in_freed : (p : Place) (u : Term Variable) → freed_place p ≡ Some u → AtFree P p → MadeOf N P u
  place_in_freed (free x) u e h = subst (MadeOf N P) (sym (some_same (var x) u e)) h
  place_in_freed (bound k) u e h = absurd cc

  pub freed_in : (t : Term Place) (u : Term Variable) → freed t ≡ Some u → MadeOf N (AtFree P) t → MadeOf N P u
  freed_in t u e = where_made freed_place N (AtFree P) P place_in_freed t u e

  freed_all_in : (ts : Terms Place) (us : Terms Variable) → freed_all ts ≡ Some us → AllMadeOf N (AtFree P) ts → AllMadeOf N P us
  freed_all_in ts us e = where_all_made freed_place N (AtFree P) P place_in_freed ts us e

pub freed_action_value : (m : Assignment) (a : Action Place) (b : Action Variable) → freed_action a ≡ Some b → action_in m a ≡ action_at m.terms b
freed_action_value m a b e =
    let r = mapped (λ (us : Terms Variable). let x : Action Variable = record { symbol = a.symbol; args = us } in x) (freed_all a.args) b e in
    ap (λ (ts : Grounds). let x : Action ⊥ = record { symbol = a.symbol; args = ts } in x) (freed_all_value m a.args r.0 r.1) ∙ ap (action_at m.terms) (sym r.2)

pub freed_action_in : (N : Names) → (P : Variable → Type 0) (a : Action Place) (b : Action Variable) → freed_action a ≡ Some b → AllMadeOf N (AtFree P) a.args → AllMadeOf N P b.args
freed_action_in N P a b e h =
    let r = mapped (λ (us : Terms Variable). let x : Action Variable = record { symbol = a.symbol; args = us } in x) (freed_all a.args) b e in
    subst (λ (x : Action Variable). AllMadeOf N P x.args) (sym r.2) (freed_all_in N P a.args r.0 r.1 h)

-- the two terms of a literal are terms of the system
pub pair_parts : (t u : Term Place) (p : Pair) → pair_of t u ≡ Some p → (freed t ≡ Some p.0) × (freed u ≡ Some p.1)
pair_parts t u p e =
    let r = then_some (λ a. option_map (λ (b : Term Variable). let q : Pair = (a, b) in q) (freed u)) (freed t) p e in
    let q = mapped (λ (b : Term Variable). let q : Pair = (r.0, b) in q) (freed u) p r.2 in
    (r.1 ∙ ap (λ (x : Pair). Some x.0) (sym q.2), q.1 ∙ ap (λ (x : Pair). Some x.1) (sym q.2))
