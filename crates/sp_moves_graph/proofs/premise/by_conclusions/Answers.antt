use Rattle.std.proofs.Common.{◌≡◌, ◌<◌, ◌+◌, ℕ, suc, drop, List, [], ◌∷◌, ◌++◌, Option, map, length, option_map, get_or, arith, sym, ap, subst, ◌∙◌}
use Rattle.std.specs.Global.{Vec}
use Rattle.std.proofs.lemmas.List.{append-nil, drop_more, map-append}
use Rattle.sp_spec.specs.Term.{Variable}
use Rattle.sp_spec.specs.Rule.{Fact}
use Rattle.sp_spec_forms.specs.Numbering.{Form}
use Rattle.sp_spec_system.specs.System as spec
use Rattle.sp_spec_system.specs.Cases.{system_if, where_same_fact}
use Rattle.sp_spec_graph.specs.Premise.{by_conclusions, with_source}
use Rattle.sp_fact.specs.View.{fact_of}
use Rattle.sp_term.specs.View.{name_of}
use Rattle.sp_book.specs.View.{form_of}
use Rattle.sp_system.specs.SystemView.{system_of}
use Rattle.sp_system.specs.declared.system.System.{System}
use Rattle.sp_moves.proofs.Going.{one_further}
use Rattle.sp_moves_graph.proofs.premise.by_conclusions.Goals as goal
use Rattle.sp_moves_graph.proofs.premise.by_conclusions.Goals.{in-Some+in_ok-push, in_default}

split : {X : Type 0} (view : X → Fact Variable) (s : spec.System) (i p : ℕ) (f : Fact Variable) (name : List ℕ) (form : Form) (items all : List X) (k : ℕ) (x : X) → items ≡ all → k < length items
    → x ≡ get_or items k x
    → by_conclusions s i p f name form k (map view (drop k all))
    ≡ system_if (where_same_fact (with_source s i p name form k) f (view x)) ++ by_conclusions s i p f name form (k + 1) (map view (drop (k + 1) all))
split {X = X} view s i p f name form items all k x e h is =
    let below : k < length all = subst (λ (xs : List X). k < length xs) e h in
    let here : get_or all k x ≡ x = sym (is ∙ ap (λ (xs : List X). get_or xs k x) e) in
    let next : suc k ≡ k + 1 = omega arith in
    ap (λ (xs : List X). by_conclusions s i p f name form k (map view xs)) (drop_more all k x below ∙ ap (λ (y : X). y ∷ drop (k + 1) all) here)
    ∙ ap (λ (n : ℕ). system_if (where_same_fact (with_source s i p name form k) f (view x)) ++ by_conclusions s i p f name form n (map view (drop (k + 1) all))) next

pub loop-place-preserved : goal.loop-place-preserved
loop-place-preserved c =
    let s = system_of c.args.system.now in
    let i = c.args.premise.time in
    let p = c.args.premise.place in
    let f = fact_of c.args.fact.now in
    let name = name_of c.args.name.now in
    let form = form_of c.args.form.now in
    let k = c.loop-place.place in
    let made = c.loop-place.made.items in
    let grown = c.match-branch-2.made.items in
    let conclusions = c.args.conclusions.now.items in
    let found = where_same_fact (with_source s i p name form k) f (fact_of c.conclusion-item.result) in
    let further = λ (added : map system_of grown ≡ map system_of made ++ system_if found).
    one_further system_of made grown (system_if found) (by_conclusions s i p f name form (k + 1) (map fact_of (drop (k + 1) conclusions)))
    (by_conclusions s i p f name form k (map fact_of (drop k conclusions))) (by_conclusions s i p f name form 0 (map fact_of conclusions)) added
    (split fact_of s i p f name form c.deref-conclusion-items.result.now conclusions k c.conclusion-item.result c.deref-conclusion-items.ensures.value c.loop-place-test.true c.conclusion-item.is)
    c.loop-place.invariant in
    let with_found = λ (o : Option spec.System). map system_of made ++ system_if o in
    elim c.match-branch-2.branch [
      | in-Some+in_ok-push w ↦
          further
          (ap (λ (v : Vec System). map system_of v.items) w.made-is ∙ ap (map system_of) w.in_ok-push.ensures.items ∙ map-append system_of made (w.in-Some.system ∷ [])
          ∙ ap with_found (sym (ap (option_map system_of) w.in-Some.is) ∙ c.in_ok-system.ensures))
      | in_default w ↦
          further
          (ap (λ (v : Vec System). map system_of v.items) w.made-is ∙ sym (append-nil (map system_of made)) ∙ ap with_found (sym (ap (option_map system_of) w.in_default.is) ∙ c.in_ok-system.ensures))
    ]
