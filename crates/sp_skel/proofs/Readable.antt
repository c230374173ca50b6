-- The cases of accepted trees have names, or are alone.
use Rattle.std.proofs.Common.{◌≡◌, ℕ, suc, Bool, true, false, if◌then◌else◌, List, [], ◌∷◌, ◌++◌, codes, map, Option, Some, None, option_map, refl, sym, ap, subst, ◌∙◌, ◌⊎◌, inl, inr}
use Rattle.std.specs.Prelude.{decimal, is_some, slice_get}
use Rattle.sp_spec.specs.Term.{Variable, Term}
use Rattle.sp_spec.specs.Rule.{Fact, Action}
use Rattle.sp_spec.specs.Guarded.{Guarded, Guardeds, no_more, and_then}
use Rattle.sp_spec.specs.Log.{Log}
use Rattle.sp_spec.specs.Destruction.{Destruction, destructions}
use Rattle.sp_spec_system.specs.System.{System, Event, happening_actions}
use Rattle.sp_spec_system.specs.Formulas.{Found}
use Rattle.sp_spec_system.specs.MakingOne.{event_at, made_one}
use Rattle.sp_spec_proof.specs.Rows.{has_place, is_contradictory}
use Rattle.sp_spec_system.specs.Move.{Move, simplify, contradiction, unproved, solved, or, action, premise, know, chain, induction, source, compare, top, same, more_events, finish, InductionCases, Context, Case, end_log}
use Rattle.sp_spec_system.specs.Cases.{where_same, case_if, named}
use Rattle.sp_spec_formula.specs.Action.{at_event, by_forms, by_each, by_adversary, at_each, action_cases, solving_action}
use Rattle.sp_spec_formula.specs.Or.{by_part, disjunction_at, or_cases}
use Rattle.sp_spec_graph.specs.Premise.{source_forms, by_each_source, open_premise, premise_cases}
use Rattle.sp_spec_know.specs.Know.{wanted_at, made_case, own_case, by_each_output}
use Rattle.sp_spec_know.specs.Chain.{Begun, begun_at, done_case, by_destructions}
use Rattle.sp_spec_formula.specs.Induction.{induction_cases}
use Rattle.sp_spec_formula.proofs.Roots.{only_at_root}
use Rattle.sp_spec_proof.specs.Cases.{raw_cases, simple_case, cases}
use Rattle.sp_spec_proof.specs.Tree.{Tree, node, Branches, no_branch, branch, IsAccepted, AreAccepted}
use Rattle.sp_spec_proof.specs.Growth.{grown_tree}
use Rattle.sp_spec_proof.proofs.Growing.{grown_tree_accepted}
use Rattle.sp_moves_formula.specs.Sought.{sought}
use Rattle.sp_moves_formula.proofs.ByAction.{sought_cases, solves}
use Rattle.sp_spec_text.specs.Names.{IsName, IsWord}
use Rattle.sp_skel.specs.Places.{IsSaid, HavePlaces, AllHavePlaces, HaveSides, AllHaveSides}
use Rattle.sp_skel.specs.Spelling.{IsReadable, AreReadable, MayHaveCases, AreNamed, IsSpellable}
use Rattle.sp_skel.proofs.CaseNames.{at_named, event_named, part_named, empty_named, non_empty_named}
use Rattle.sp_skel.proofs.NamedCases.{CasesNamed, named_append, if_named, rule_named}
use Rattle.sp_skel.proofs.DecidingNames.{compare_named, top_named, sides_named, more_named, finish_named}
use Rattle.sp_skel.proofs.GrownSides.{grown_sides}
use Rattle.sp_skel.proofs.LearningNames.{adversary_named, made_cases_named, own_cases_named, outputs_named, done_cases_named, destructions_named}
use Rattle.sp_spec_system.specs.Rules.{Rules}
use Rattle.sp_spec_forms.specs.Forms.{RuleForms}

-- ---- cases with names

actions_named : (s : System) (a : Action Variable) (n : ℕ) (bs : List (Action Variable)) → CasesNamed (at_event s a n bs)
actions_named s a n [] = tt
actions_named s a n (b ∷ bs) =
    named_append (case_if (codes "at_" ++ decimal n) (where_same s a b)) (at_event s a (suc n) bs) (if_named (codes "at_" ++ decimal n) (where_same s a b) (at_named n)) (actions_named s a (suc n) bs)

events_named : (s : System) (i : ℕ) (es : List Event) → CasesNamed (at_each s i es)
events_named s i [] = tt
events_named s i (e ∷ es) =
    let name = codes "event_" ++ decimal e.time in
    named_append (case_if name (made_one s (i, e.time))) (at_each s i es) (if_named name (made_one s (i, e.time)) (event_named e.time)) (events_named s i es)

each_named : (rules : List RuleForms) (s : System) (i : ℕ) (a : Action Variable) → AreNamed rules → CasesNamed (by_each rules s i a)
each_named [] s i a h = tt
each_named (r ∷ rules) s i a h =
    let made = by_forms r.name r.forms s i a in
    named_append (named r.name made) (by_each rules s i a) (rule_named r.name made h.0 h.1) (each_named rules s i a h.2)

part_cases_named : (s : System) (r : Found Guardeds) (k : ℕ) (fs : Guardeds) → CasesNamed (by_part s r k fs)
part_cases_named s r k no_more = tt
part_cases_named s r k (and_then f fs) = let n = part_named k in (n.0, n.1, part_cases_named s r (suc k) fs)

sources_named : (rules : List RuleForms) (s : System) (i p : ℕ) (f : Fact Variable) → AreNamed rules → CasesNamed (by_each_source rules s i p f)
sources_named [] s i p f h = tt
sources_named (r ∷ rules) s i p f h =
    let made = source_forms r.name r.forms s i p f in
    named_append (named r.name made) (by_each_source rules s i p f) (rule_named r.name made h.0 h.1) (sources_named rules s i p f h.2)

action_named : (rules : List RuleForms) (s : System) (i : ℕ) (a : Action Variable) (o : Option Event) → AreNamed rules → CasesNamed (action_cases rules s i a o)
action_named rules s i a (Some e) h = actions_named s a 0 (happening_actions e.happening)
action_named rules s i a None h =
    either s.closed (at_each s i s.events) (by_each rules s i a ++ by_adversary s i a.symbol a.args) (events_named s i s.events)
    (named_append (by_each rules s i a) (by_adversary s i a.symbol a.args) (each_named rules s i a h) (adversary_named s i a.symbol a.args))
  where
    either : (b : Bool) (xs ys : List Case) → CasesNamed xs → CasesNamed ys → CasesNamed (if b then xs else ys)
    either true xs ys h k = h
    either false xs ys h k = k

-- ---- the cases of a move

-- one case, without a name
record OnlyUnnamed (cs : List Case) : Type 0 where
  system : System
  is : cs ≡ record { name = []; system = system } ∷ []

abbrev Fine : List Case → Type 0
Fine cs = CasesNamed cs ⊎ OnlyUnnamed cs

fine_nothing : (cs : List Case) → [] ≡ cs → Fine cs
fine_nothing cs e = inl (subst CasesNamed e tt)

sought_fine : (rules : List RuleForms) (s : System) (o : Option (ℕ × Action Variable)) (cs : List Case) → AreNamed rules → option_map (sought_cases rules s) o ≡ Some cs → Fine cs
sought_fine rules s None cs h e = absurd (let none : ⊥ = cc in none)
sought_fine rules s (Some p) cs h e =
    let f : sought_cases rules s p ≡ cs = cc in
    inl (subst CasesNamed f (action_named rules s p.0 p.1 (event_at p.0 s.events) h))

solving_fine : (rules : List RuleForms) (s : System) (o : Option Guarded) (cs : List Case) → AreNamed rules → solving_action rules s o ≡ Some cs → Fine cs
solving_fine rules s None cs h e = absurd (let none : ⊥ = cc in none)
solving_fine rules s (Some f) cs h e = sought_fine rules s (sought f) cs h (rw (solves rules s f) at e)

or_fine : (s : System) (o : Option (Found Guardeds)) (cs : List Case) → or_cases s o ≡ Some cs → Fine cs
or_fine s None cs e = absurd (let none : ⊥ = cc in none)
or_fine s (Some r) cs e = let f : by_part s r 1 r.picked ≡ cs = cc in inl (subst CasesNamed f (part_cases_named s r 1 r.picked))

premise_fine : (rules : List RuleForms) (s : System) (i p : ℕ) (o : Option (Fact Variable)) (cs : List Case) → AreNamed rules → premise_cases rules s i p o ≡ Some cs → Fine cs
premise_fine rules s i p None cs h e = absurd (let none : ⊥ = cc in none)
premise_fine rules s i p (Some f) cs h e = let g : by_each_source rules s i p f ≡ cs = cc in inl (subst CasesNamed g (sources_named rules s i p f h))

know_fine : (rules : Rules) (s : System) (i : ℕ) (o : Option (Term Variable)) (cs : List Case) → AreNamed rules.forms
    → option_map (λ m. made_case rules.signature.symbols s i m ++ (own_case s i m ++ by_each_output rules.forms s i)) o ≡ Some cs → Fine cs
know_fine rules s i None cs h e = absurd (let none : ⊥ = cc in none)
know_fine rules s i (Some m) cs h e =
    let f : made_case rules.signature.symbols s i m ++ (own_case s i m ++ by_each_output rules.forms s i) ≡ cs = cc in
    let made = made_case rules.signature.symbols s i m in
    let own = own_case s i m in
    let outputs = by_each_output rules.forms s i in
    inl (subst CasesNamed f
    (named_append made (own ++ outputs) (made_cases_named rules.signature.symbols s i m) (named_append own outputs (own_cases_named s i m) (outputs_named rules.forms s i h))))

chain_fine : (ds : List Destruction) (s : System) (i : ℕ) (o : Option Begun) (cs : List Case) → option_map (λ (b : Begun). done_case s i b ++ by_destructions s i b 1 ds) o ≡ Some cs → Fine cs
chain_fine ds s i None cs e = absurd (let none : ⊥ = cc in none)
chain_fine ds s i (Some b) cs e =
    let f : done_case s i b ++ by_destructions s i b 1 ds ≡ cs = cc in
    inl (subst CasesNamed f (named_append (done_case s i b) (by_destructions s i b 1 ds) (done_cases_named s i b) (destructions_named s i b 1 ds)))

inductive_named : (i : InductionCases) → CasesNamed (induction_cases i)
inductive_named i = (empty_named.0, empty_named.1, (non_empty_named.0, non_empty_named.1, tt))

raw_fine : (context : Context) (s : System) (move : Move) (cs : List Case) → IsSpellable context → raw_cases context s move ≡ Some cs → Fine cs
raw_fine context s simplify cs h e = at (has_place context.rules s) e
  where
    at : (b : Bool) → (if b then Some (record { name = []; system = s } ∷ []) else None) ≡ Some cs → Fine cs
    at true e = inr (record { system = s; is = let f : cs ≡ record { name = []; system = s } ∷ [] = cc in f })
    at false e = absurd (let none : ⊥ = cc in none)
raw_fine context s contradiction cs h e = at (is_contradictory context.rules s) e
  where
    at : (b : Bool) → (if b then Some [] else None) ≡ Some cs → Fine cs
    at true e = fine_nothing cs (let f : [] ≡ cs = cc in f)
    at false e = absurd (let none : ⊥ = cc in none)
raw_fine context s unproved cs h e = fine_nothing cs (let f : [] ≡ cs = cc in f)
raw_fine context s solved cs h e = at (is_some (end_log context s)) e
  where
    at : (b : Bool) → (if b then Some [] else None) ≡ Some cs → Fine cs
    at true e = fine_nothing cs (let f : [] ≡ cs = cc in f)
    at false e = absurd (let none : ⊥ = cc in none)
raw_fine context s (or k) cs h e = or_fine s (disjunction_at k s.formulas) cs e
raw_fine context s (premise i p) cs h e = premise_fine context.rules.forms s i p (open_premise s i p) cs h.rules e
raw_fine context s (know i) cs h e = know_fine context.rules s i (wanted_at context.rules.signature.symbols s i) cs h.rules e
raw_fine context s (chain i) cs h e = chain_fine (destructions context.rules.signature) s i (begun_at s i) cs e
raw_fine context s (action k) cs h e = solving_fine context.rules.forms s (slice_get s.formulas k) cs h.rules e
raw_fine context s induction cs h e = let at = only_at_root context.root s cs e in inl (subst CasesNamed (sym at.cases) (inductive_named at.parts))
raw_fine context s (source i) cs h e = absurd (let none : ⊥ = cc in none)
raw_fine context s (compare i j) cs h e = inl (compare_named s i j cs e)
raw_fine context s (top k) cs h e = inl (top_named context.rules.signature.symbols s k cs h.symbols e)
raw_fine context s (same a b) cs h e = inl (sides_named context.public_names s a b cs e)
raw_fine context s more_events cs h e = inl (more_named context.rules.forms s cs h.rules e)
raw_fine context s finish cs h e = inl (finish_named context s cs e)

simple_named : (rules : Rules) (cs : List Case) → CasesNamed cs → CasesNamed (map (simple_case rules) cs)
simple_named rules [] h = tt
simple_named rules (c ∷ cs) h = (h.0, h.1, simple_named rules cs h.2)

simple_fine : (rules : Rules) (raw cs : List Case) → Fine raw → map (simple_case rules) raw ≡ cs → Fine cs
simple_fine rules raw cs (inl h) e = inl (subst CasesNamed e (simple_named rules raw h))
simple_fine rules raw cs (inr h) e = inr (record { system = (simple_case rules (record { name = []; system = h.system })).system; is = sym e ∙ ap (map (simple_case rules)) h.is })

move_fine : (context : Context) (s : System) (move : Move) (cs : List Case) → IsSpellable context → cases context s move ≡ Some cs → Fine cs
move_fine context s move cs h e = at (raw_cases context s move) refl e
  where
    at : (o : Option (List Case)) → raw_cases context s move ≡ o → option_map (map (simple_case context.rules)) o ≡ Some cs → Fine cs
    at None r k = absurd (let none : ⊥ = cc in none)
    at (Some raw) r k = simple_fine context.rules raw cs (raw_fine context s move raw h r) (let f : map (simple_case context.rules) raw ≡ cs = cc in f)

-- ---- trees

abbrev pub TreesReadable : Branches → Type 0
TreesReadable no_branch = Unit {0}
TreesReadable (branch n t bs) = IsReadable t × TreesReadable bs

node_named : (m : Move) (bs : Branches) → IsSaid m → MayHaveCases m → AreReadable bs → IsReadable (node m bs)
node_named m no_branch p may r = p
node_named m (branch [] t no_branch) p may r = absurd r.1
node_named m (branch [] t (branch n u bs)) p may r = absurd r.1
node_named m (branch (b ∷ name) t bs) p may r = (p, may, r)

all_named : (context : Context) (cs : List Case) (bs : Branches) → CasesNamed cs → AreAccepted context (Some cs) bs → TreesReadable bs → AreReadable bs
all_named context [] no_branch n h r = tt
all_named context [] (branch name t bs) n h r = absurd h
all_named context (c ∷ cs) no_branch n h r = absurd h
all_named context (c ∷ cs) (branch name t bs) n h r = (subst IsName (sym h.0) n.0, subst IsWord (sym h.0) n.1, r.0, all_named context cs bs n.2 h.2 r.1)

only_unnamed : (context : Context) (m : Move) (s : System) (bs : Branches) → IsSaid m → MayHaveCases m → AreAccepted context (Some (record { name = []; system = s } ∷ [])) bs → TreesReadable bs → IsReadable (node m bs)
only_unnamed context m s no_branch p may h r = absurd h
only_unnamed context m s (branch name t no_branch) p may h r = subst (λ (n : List ℕ). IsReadable (node m (branch n t no_branch))) (sym h.0) (p, may, r.0)
only_unnamed context m s (branch name t (branch n u bs)) p may h r = absurd h.2

node_fine : (context : Context) (m : Move) (bs : Branches) (o : Option (List Case)) → ((cs : List Case) → o ≡ Some cs → Fine cs) → IsSaid m → MayHaveCases m → AreAccepted context o bs → TreesReadable bs → IsReadable (node m bs)
node_fine context m bs None f p may h r = absurd h
node_fine context m bs (Some cs) f p may h r = at (f cs refl)
  where
    at : Fine cs → IsReadable (node m bs)
    at (inl n) = node_named m bs p may (all_named context cs bs n h r)
    at (inr u) = only_unnamed context m u.system bs p may (subst (λ (ds : List Case). AreAccepted context (Some ds) bs) u.is h) r

-- where the search ends no case is left
end_fine : (context : Context) (o : Option Log) (bs : Branches) → AreAccepted context (option_map (map (simple_case context.rules)) (if is_some o then Some [] else None)) bs → IsReadable (node solved bs)
end_fine context None bs h = absurd h
end_fine context (Some log) no_branch h = (tt, tt)
end_fine context (Some log) (branch name t bs) h = absurd h

-- the end of the search, or a move that may have cases
ends_or_may : (m : Move) → (m ≡ solved) ⊎ MayHaveCases m
ends_or_may solved = inl refl
ends_or_may m = inr refl

either_fine : (context : Context) (s : System) (m : Move) (bs : Branches) → (m ≡ solved) ⊎ MayHaveCases m → IsSpellable context → IsSaid m → AreAccepted context (cases context s m) bs → TreesReadable bs
    → IsReadable (node m bs)
either_fine context s m bs (inl e) n p h r =
    subst (λ (x : Move). IsReadable (node x bs)) (sym e) (end_fine context (end_log context s) bs (subst (λ (x : Move). AreAccepted context (cases context s x) bs) e h))
either_fine context s m bs (inr may) n p h r = node_fine context m bs (cases context s m) (λ cs e. move_fine context s m cs n e) p may h r

mutual
  pub tree_readable : (context : Context) (s : System) (t : Tree) → IsSpellable context → HavePlaces t → HaveSides t → IsAccepted context s t → IsReadable t
  tree_readable context s (node m bs) n p q h = either_fine context s m bs (ends_or_may m) n (p.0, q.0) h (trees_readable context (cases context s m) bs n p.1 q.1 h)

  trees_readable : (context : Context) (o : Option (List Case)) (bs : Branches) → IsSpellable context → AllHavePlaces bs → AllHaveSides bs → AreAccepted context o bs → TreesReadable bs
  trees_readable context None bs n p q h = absurd h
  trees_readable context (Some []) no_branch n p q h = tt
  trees_readable context (Some []) (branch name t bs) n p q h = absurd h
  trees_readable context (Some (c ∷ cs)) no_branch n p q h = absurd h
  trees_readable context (Some (c ∷ cs)) (branch name t bs) n p q h =
      (tree_readable context c.system t n p.0 q.0 h.1, trees_readable context (Some cs) bs n p.1 q.1 h.2)

pub grown_readable : (context : Context) (s : System) (budget : ℕ) → IsSpellable context → HavePlaces (grown_tree context s budget) → IsReadable (grown_tree context s budget)
grown_readable context s budget n p =
    tree_readable context s (grown_tree context s budget) n p (grown_sides context n.names s budget) (grown_tree_accepted context s budget)
