use Rattle.std.proofs.Common.{◌≡◌, ◌<◌, ◌+◌, ℕ, suc, drop, List, ◌∷◌, ◌++◌, Option, map, length, option_map, get_or, codes, decimal, arith, refl, sym, ap, subst, ◌∙◌}
use Rattle.std.specs.Global.{Vec}
use Rattle.std.proofs.lemmas.List.{append-nil, drop_more}
use Rattle.sp_spec.specs.Term.{Variable}
use Rattle.sp_spec.specs.Rule.{Action}
use Rattle.sp_spec_system.specs.System.{System}
use Rattle.sp_spec_system.specs.Move as spec
use Rattle.sp_spec_system.specs.Cases.{where_same, case_if}
use Rattle.sp_spec_formula.specs.Action.{at_event}
use Rattle.sp_fact.specs.View.{action_of}
use Rattle.sp_system.specs.SystemView.{system_of}
use Rattle.sp_moves.specs.View.{case_of}
use Rattle.sp_moves.specs.declared.moves.Case.{Case}
use Rattle.sp_moves.proofs.Going.{one_further, grows}
use Rattle.sp_moves_formula.proofs.at_event.at_event.Goals as goal
use Rattle.sp_moves_formula.proofs.at_event.at_event.Goals.{in-Some+in_ok-name+in_ok-push, in_default}

at_place : ℕ → Option System → List spec.Case
at_place k o = case_if (codes "at_" ++ decimal k) o

split : {X : Type 0} (view : X → Action Variable) (s : System) (a : Action Variable) (items all : List X) (k : ℕ) (x : X) → items ≡ all → k < length items → x ≡ get_or items k x
    → at_event s a k (map view (drop k all)) ≡ at_place k (where_same s a (view x)) ++ at_event s a (k + 1) (map view (drop (k + 1) all))
unfolding at_place
split {X = X} view s a items all k x e h is =
    let below : k < length all = subst (λ (xs : List X). k < length xs) e h in
    let here : get_or all k x ≡ x = sym (is ∙ ap (λ (xs : List X). get_or xs k x) e) in
    let next : suc k ≡ k + 1 = omega arith in
    ap (λ (xs : List X). at_event s a k (map view xs)) (drop_more all k x below ∙ ap (λ (y : X). y ∷ drop (k + 1) all) here)
    ∙ ap (λ (n : ℕ). case_if (codes "at_" ++ decimal k) (where_same s a (view x)) ++ at_event s a n (map view (drop (k + 1) all))) next

pub loop-place-preserved : goal.loop-place-preserved
unfolding at_place
loop-place-preserved c =
    let s = system_of c.args.system.now in
    let a = action_of c.args.action.now in
    let k = c.loop-place.place in
    let made = c.loop-place.made.items in
    let grown = c.match-branch-2.made.items in
    let actions = c.args.actions.now.items in
    let found = where_same s a (action_of c.other-item.result) in
    let further = λ (added : map case_of grown ≡ map case_of made ++ at_place k found).
    one_further case_of made grown (at_place k found) (at_event s a (k + 1) (map action_of (drop (k + 1) actions))) (at_event s a k (map action_of (drop k actions))) (at_event s a 0 (map action_of actions)) added
    (split action_of s a c.deref-other-items.result.now actions k c.other-item.result c.deref-other-items.ensures.value c.loop-place-test.true c.other-item.is) c.loop-place.invariant in
    let with_found = λ (o : Option System). map case_of made ++ case_if (codes "at_" ++ decimal k) o in
    elim c.match-branch-2.branch [
      | in-Some+in_ok-name+in_ok-push w ↦
          (let one : Case = record { name = w.in_ok-name.name; system = w.in-Some.system } in
          further
          (grows made grown one (codes "at_" ++ decimal k) (system_of w.in-Some.system) (ap (λ (v : Vec Case). v.items) w.made-is ∙ w.in_ok-push.ensures.items) w.in_ok-name.ensures refl
          ∙ ap with_found (sym (ap (option_map system_of) w.in-Some.is) ∙ c.in_ok-system.ensures)))
      | in_default w ↦
          further
          (ap (λ (v : Vec Case). map case_of v.items) w.made-is ∙ sym (append-nil (map case_of made)) ∙ ap with_found (sym (ap (option_map system_of) w.in_default.is) ∙ c.in_ok-system.ensures))
    ]
