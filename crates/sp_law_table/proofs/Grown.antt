-- Leaves that are replaced by the cases of their moves, and leaves that are left out, lose no solution.
use Rattle.std.proofs.Common.{◌≡◌, ◌≤◌, ◌==◌, ℕ, zero, suc, Bool, true, false, if◌then◌else◌, List, [], ◌∷◌, ◌++◌, map, Option, Some, None, option_and_then, refl, sym, ◌∙◌, subst, le_trans}
use Rattle.sp_spec.specs.Lists.{Every}
use Rattle.sp_spec.specs.Term.{Names}
use Rattle.sp_spec.specs.Log.{Log, IsLog}
use Rattle.sp_spec.specs.Theory.{Theory}
use Rattle.sp_spec.proofs.Lists.{every_append, every_parts, every_map, map-map}
use Rattle.sp_spec.proofs.Options.{mapped, then_some}
use Rattle.sp_spec_system.specs.System.{System}
use Rattle.sp_spec_system.specs.Solutions.{Valuation}
use Rattle.sp_spec_system.specs.Numbered.{names_in}
use Rattle.sp_spec_system.specs.Covering.{NoneSolved}
use Rattle.sp_spec_system.specs.Move.{Move, simplify, contradiction, unproved, solved, or, action, premise, know, chain, induction, source, compare, top, same, more_events, finish, Context, Case, systems_in}
use Rattle.sp_spec_proof.specs.Rows.{is_contradictory}
use Rattle.sp_spec_proof.specs.Cases.{cases}
use Rattle.sp_spec_proof.specs.Choice.{Ranked, choice}
use Rattle.sp_law_system.specs.Proofs.{IsWellMade, IsKept}
use Rattle.sp_law_cover.specs.Contexts.{IsContextOf}
use Rattle.sp_law_cover.specs.Laws.{MovesCover, ContradictionsHold}
use Rattle.sp_law_formula.proofs.ActionSteps.{systems_append}
use Rattle.sp_spec_sources.specs.Entries.{IsCaseFrom}
use Rattle.sp_law_sources.proofs.Leaves.{IsUnsolved, unsolved_by}
use Rattle.sp_spec_table.specs.Made.{only_chain, chosen_chain, named_behind, leaf_cases, first_replaced, leaves_once, leaves_on, leaves_by, open_cases}

is_chain : (m move : Move) → only_chain m ≡ Some move → (i : ℕ) × (move ≡ chain i)
is_chain (chain i) move e = (i, let g : move ≡ chain i = cc in g)
is_chain simplify move e = absurd cc
is_chain contradiction move e = absurd cc
is_chain unproved move e = absurd cc
is_chain solved move e = absurd cc
is_chain (or k) move e = absurd cc
is_chain (action k) move e = absurd cc
is_chain (premise i p) move e = absurd cc
is_chain (know i) move e = absurd cc
is_chain induction move e = absurd cc
is_chain (source i) move e = absurd cc
is_chain (compare i j) move e = absurd cc
is_chain (top k) move e = absurd cc
is_chain (same a b) move e = absurd cc
is_chain more_events move e = absurd cc
is_chain finish move e = absurd cc

chosen_is : (o : Option Ranked) (move : Move) → chosen_chain o ≡ Some move → (i : ℕ) × (move ≡ chain i)
chosen_is None move e = absurd cc
chosen_is (Some r) move e = at (r.rank == 6) e
  where
    at : (b : Bool) → (if b then only_chain r.move else None) ≡ Some move → (i : ℕ) × (move ≡ chain i)
    at true k = is_chain r.move move k
    at false k = absurd cc

named_systems : (name : List ℕ) (cs : List Case) → systems_in (map (named_behind name) cs) ≡ systems_in cs
named_systems name cs = map-map (named_behind name) (λ (c : Case). c.system) cs

module _ (theory : Theory) (moves : MovesCover theory) (context : Context) (is_of : IsContextOf theory context) (n : ℕ) where
  abbrev N : Names
  N = names_in context.public_names

  -- where none of the second cases is solved, none of the first is
  abbrev pub Loses : List System → List System → Type 0
  Loses ss ts = (log : Log) → IsLog theory log → (v : Valuation) → NoneSolved theory log v n ts → NoneSolved theory log v n ss

  -- the second cases follow from the first
  pub record Follow (cs ds : List Case) : Type 0 where
    pub cases : Every (IsCaseFrom N n) ds
    pub none : Loses (systems_in cs) (systems_in ds)

  pub kept_cases : (s : System) → n ≤ s.next → (cs : List Case) → Every (IsKept context s) (systems_in cs) → Every (IsCaseFrom N n) cs
  kept_cases s le [] k = tt
  kept_cases s le (c ∷ cs) k = (record { numbered = k.0.well_made.numbered; once = k.0.well_made.once; next = le_trans le k.0.next }, kept_cases s le cs k.1)

  leaf_follows : (c : Case) → IsCaseFrom N n c → (ds : List Case) → leaf_cases context c ≡ Some ds → Follow (c ∷ []) ds
  leaf_follows c k ds e =
      let r = mapped (map (named_behind c.name)) (option_and_then (cases context c.system) (chosen_chain (choice context c.system))) ds e in
      let q = then_some (cases context c.system) (chosen_chain (choice context c.system)) r.0 r.1 in
      let is = chosen_is (choice context c.system) q.0 q.1 in
      let made : IsWellMade context c.system = record { numbered = k.numbered; once = k.once } in
      let not_open : q.0 ≡ unproved → ⊥ = λ g. let h : chain is.0 ≡ unproved = sym is.1 ∙ g in cc in
      let not_end : q.0 ≡ solved → ⊥ = λ g. let h : chain is.0 ≡ solved = sym is.1 ∙ g in cc in
      let not_induction : q.0 ≡ induction → ⊥ = λ g. let h : chain is.0 ≡ induction = sym is.1 ∙ g in cc in
      let not_finish : q.0 ≡ finish → ⊥ = λ g. let h : chain is.0 ≡ finish = sym is.1 ∙ g in cc in
      let kept = moves.kept context is_of c.system q.0 r.0 q.2 made in
      let covers = moves.covers context is_of c.system q.0 r.0 q.2 not_open not_end not_induction not_finish made in
      subst (Follow (c ∷ [])) (sym r.2) (record {
        cases = every_map (IsCaseFrom N n) (IsCaseFrom N n) (named_behind c.name) (λ d h. record { numbered = h.numbered; once = h.once; next = h.next }) r.0 (kept_cases c.system k.next r.0 kept);
        none = λ log is_log v none.
            (unsolved_by theory log is_log v n c.system (systems_in r.0) k.next covers (subst (NoneSolved theory log v n) (named_systems c.name r.0) none), tt);
      })

  -- one leaf
  leaves_follow : (cs : List Case) → Every (IsCaseFrom N n) cs → (ds : List Case) → leaves_once context cs ≡ Some ds → Follow cs ds
  leaves_follow [] k ds e = absurd cc
  leaves_follow (c ∷ cs) k ds e = at (leaf_cases context c) refl e (λ rest h. leaves_follow cs k.1 rest h)
    where
      at : (o : Option (List Case)) → leaf_cases context c ≡ o → first_replaced c cs o (leaves_once context cs) ≡ Some ds
          → ((rest : List Case) → leaves_once context cs ≡ Some rest → Follow cs rest) → Follow (c ∷ cs) ds
      at (Some own) h g later =
          let f = leaf_follows c k.0 own h in
          let is : own ++ cs ≡ ds = cc in
          subst (Follow (c ∷ cs)) is (record {
            cases = every_append (IsCaseFrom N n) own cs f.cases k.1;
            none = λ log is_log v none.
                let parts = every_parts (IsUnsolved theory log v n) (systems_in own) (systems_in cs) (subst (NoneSolved theory log v n) (systems_append own cs) none) in
                ((f.none log is_log v parts.0).0, parts.1);
          })
      at None h g later =
          let r = mapped (λ (rest : List Case). c ∷ rest) (leaves_once context cs) ds g in
          let f = later r.0 r.1 in
          subst (Follow (c ∷ cs)) (sym r.2) (record { cases = (k.0, f.cases); none = λ log is_log v none. (none.0, f.none log is_log v none.1) })

  then_follow : (bs cs ds : List Case) → Follow bs cs → Follow cs ds → Follow bs ds
  then_follow bs cs ds f g = record { cases = g.cases; none = λ log is_log v none. f.none log is_log v (g.none log is_log v none) }

  pub all_follow : (turns : ℕ) (cs : List Case) → Every (IsCaseFrom N n) cs → Follow cs (leaves_by context turns cs)
  unfolding leaves_by
  all_follow zero cs k = record { cases = k; none = λ log is_log v none. none }
  all_follow (suc turns) cs k = at (leaves_once context cs) refl (λ ds h. all_follow turns ds h)
    where
      at : (o : Option (List Case)) → leaves_once context cs ≡ o → ((ds : List Case) → Every (IsCaseFrom N n) ds → Follow ds (leaves_by context turns ds))
          → Follow cs (leaves_on (leaves_by context turns) cs o)
      at None h later = record { cases = k; none = λ log is_log v none. none }
      at (Some ds) h later = let f = leaves_follow cs k ds h in then_follow cs ds (leaves_by context turns ds) f (later ds f.cases)

  -- those without solutions are left out
  pub open_follow : ContradictionsHold theory → (cs : List Case) → Every (IsCaseFrom N n) cs → Follow cs (open_cases context.rules cs)
  open_follow contradictions [] k = record { cases = tt; none = λ log is_log v none. tt }
  open_follow contradictions (c ∷ cs) k = at (is_contradictory context.rules c.system) refl (open_follow contradictions cs k.1)
    where
      at : (b : Bool) → is_contradictory context.rules c.system ≡ b → Follow cs (open_cases context.rules cs)
          → Follow (c ∷ cs) (if b then open_cases context.rules cs else c ∷ open_cases context.rules cs)
      at true h f = record {
        cases = f.cases;
        none = λ log is_log v none.
            ((λ w a own. contradictions.no_solution context is_of c.system h (record { numbered = k.0.numbered; once = k.0.once }) log is_log w own), f.none log is_log v none);
      }
      at false h f = record { cases = (k.0, f.cases); none = λ log is_log v none. (none.0, f.none log is_log v none.1) }
