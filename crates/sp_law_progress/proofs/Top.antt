-- The move on a message variable: its value is a public name, a fresh one, or a symbol of the signature over messages.
use Rattle.std.proofs.Common.{◌≡◌, ◌≤◌, ◌<◌, ◌+◌, ℕ, zero, suc, true, List, [], ◌∷◌, map, Some, codes, refl, sym, ap, ◌∙◌, subst, arith}
use Rattle.sp_spec.specs.Lists.{Every}
use Rattle.sp_spec.specs.Term.{Names, Sort, Msg, Fresh, Pub, Variable, Term, var, constant, name, app, Ground, Grounds, count, MadeOf, AllMadeOf, Values, valued, valued_all}
use Rattle.sp_spec.specs.Signature.{Symbol, IsOver, AreOver, IsValue, IsValuation}
use Rattle.sp_spec.specs.Equal.{IsNormal, AreNormal}
use Rattle.sp_spec.specs.Theory.{Theory, signature_of}
use Rattle.sp_spec.specs.Same.{same_sort}
use Rattle.sp_spec.specs.Log.{Log}
use Rattle.sp_spec.specs.Substitution.{Binding, bound_to, Fixes}
use Rattle.sp_spec.proofs.Lists.{every_member, member_map}
use Rattle.sp_spec.proofs.Options.{if_some, some_same}
use Rattle.sp_spec_system.specs.System.{System, with_next}
use Rattle.sp_spec_system.specs.Equating.{system_changed}
use Rattle.sp_spec_system.specs.Solutions.{Valuation, Solves}
use Rattle.sp_spec_system.specs.Numbered.{HappenOnce, IsNumbered}
use Rattle.sp_spec_system.specs.Covering.{Agrees, NoneSolved, Covers}
use Rattle.sp_spec_system.specs.Head.{new_variables}
use Rattle.sp_spec_system.specs.Move.{Case, Context, systems_in}
use Rattle.sp_spec_formula.specs.Top.{of_number, has_variable, with_term_for, by_name, by_symbol, top_cases}
use Rattle.sp_law_unify.proofs.Values.{bound_to-one}
use Rattle.sp_law_system.specs.Proofs.{IsWellMade, IsKept}
use Rattle.sp_law_system.proofs.Solutions.{Under, agree_solves, change_solves, change_numbered}
use Rattle.sp_law_system.proofs.With.{next_solves, next_numbered}
use Rattle.sp_law_formula.proofs.Entries.{beside, beside_agrees, each_beside}
use Rattle.sp_law_formula.proofs.Merged.{Later}
use Rattle.sp_law_formula.proofs.Once.{pairs_once}
use Rattle.sp_law_graph.proofs.Once.{IsOnce}
use Rattle.sp_law_progress.proofs.Kept.{each_kept}
use Rattle.sp_law_progress.proofs.NewValues.{new_value, of_sort, each_of_sort, argument_over, argument_normal, of_arguments, each_of_arguments, arguments_valued}
use Rattle.sp_law_progress.proofs.Occurring.{variable_under}

-- ---- a term for a variable

module _ (s : System) (x : Variable) (t : Term Variable) (c : ℕ) where
  abbrev binding : List Binding
  binding = (x, t) ∷ []

  term_once : HappenOnce s.events → IsOnce (with_term_for s x t c)
  term_once once = pairs_once s (Some binding) once

  module _ {N : Names} (n : IsNumbered N s) where
    term_numbered : MadeOf N (Under (s.next + c)) t → Later N s.next (with_term_for s x t c)
    term_numbered made =
        let limit = s.next + c in
        let le : s.next ≤ limit = omega arith in
        let within : (y : Variable) → Under limit y → MadeOf N (Under limit) (bound_to binding y) =
        λ y u. bound_to-one x t (λ (z : Variable) (r : Term Variable). Under limit z → MadeOf N (Under limit) r) (λ _. made) y (λ p. p) u in
        (change_numbered N limit binding within (λ i. i) (λ i u. u) (with_next s limit) refl (next_numbered s n limit le), le)

    module _ (theory : Theory) (log : Log) (v : Valuation) (h : Solves theory log v s) (u : Values) (sorts : IsValuation (signature_of theory) u)
        (are_normal : (y : Variable) → IsNormal (signature_of theory).equations (u y)) where
      -- the term has the variable's value
      term_solves : x.number < s.next → valued (beside s.next v u).terms t ≡ v.terms x → Solves theory log (beside s.next v u) (with_term_for s x t c)
      term_solves under value =
          let w = beside s.next v u in
          let agrees : Agrees s.next v w = beside_agrees s.next v u in
          let old = agree_solves theory log s v w n agrees (each_beside s.next v u (λ sort g. IsNormal (signature_of theory).equations g) h.normal are_normal)
          (each_beside s.next v u (IsValue (signature_of theory)) h.sorts sorts) h in
          let fixes : Fixes w.terms binding =
          λ y. bound_to-one x t (λ (z : Variable) (r : Term Variable). w.terms z ≡ valued w.terms r) (agrees.terms x under ∙ sym value) y refl in
          next_solves theory log w (system_changed (bound_to binding) (λ i. i) s) (change_solves N theory log w binding fixes (λ i. i) (λ i. refl) s n old) (s.next + c)

-- they are below the number behind them
new_variables_made : (N : Names) (n a k : ℕ) → k + a ≤ n → AllMadeOf N (Under n) (new_variables a k)
new_variables_made N n zero k le = tt
new_variables_made N n (suc a) k le = (omega (arith, le), new_variables_made N n a (suc k) (omega (arith, le)))

-- ---- the move

module _ (symbols : List Symbol) (s : System) (k : ℕ) where
  -- its cases
  abbrev told : List Case
  told = record { name = codes "pub"; system = by_name s k Pub } ∷ record { name = codes "fresh"; system = by_name s k Fresh } ∷ map (by_symbol s k) symbols

  -- What the move asks.
  abbrev IsAsked : List Case → Type 0
  IsAsked cs = (has_variable s (of_number Msg k) ≡ true) × (cs ≡ told)

  is_asked : (cs : List Case) → top_cases symbols s k ≡ Some cs → IsAsked cs
  is_asked cs e = let r = if_some (has_variable s (of_number Msg k)) (Some told) cs e in (r.0, some_same told cs r.1)

module _ (s : System) (k : ℕ) where
  by_symbols_once : HappenOnce s.events → (symbols : List Symbol) → Every IsOnce (systems_in (map (by_symbol s k) symbols))
  by_symbols_once once [] = tt
  by_symbols_once once (f ∷ fs) = (term_once s (of_number Msg k) (app f.name (new_variables f.arity s.next)) f.arity once, by_symbols_once once fs)

  by_symbols_numbered : {N : Names} → IsNumbered N s → (symbols : List Symbol) → Every (Later N s.next) (systems_in (map (by_symbol s k) symbols))
  by_symbols_numbered n [] = tt
  by_symbols_numbered {N} n (f ∷ fs) = (
    term_numbered s (of_number Msg k) (app f.name (new_variables f.arity s.next)) f.arity n (new_variables_made N (s.next + f.arity) f.arity s.next (omega arith)),
    by_symbols_numbered n fs,
  )

-- Its cases keep the numbers.
pub top_numbered : {N : Names} (symbols : List Symbol) (s : System) (k : ℕ) (cs : List Case) → top_cases symbols s k ≡ Some cs → IsNumbered N s → Every (Later N s.next) (systems_in cs)
top_numbered {N} symbols s k cs e n =
    let by_sort : (sort : Sort) → Later N s.next (by_name s k sort) = λ sort. term_numbered s (of_number Msg k) (var (of_number sort s.next)) 1 n (omega arith) in
    subst (λ (x : List Case). Every (Later N s.next) (systems_in x)) (sym (is_asked symbols s k cs e).1) (by_sort Pub, (by_sort Fresh, by_symbols_numbered s k n symbols))

-- No two events of a case have one time.
pub top_once : (symbols : List Symbol) (s : System) (k : ℕ) (cs : List Case) → top_cases symbols s k ≡ Some cs → HappenOnce s.events → Every IsOnce (systems_in cs)
top_once symbols s k cs e once =
    let by_sort : (sort : Sort) → IsOnce (by_name s k sort) = λ sort. term_once s (of_number Msg k) (var (of_number sort s.next)) 1 once in
    subst (λ (x : List Case). Every IsOnce (systems_in x)) (sym (is_asked symbols s k cs e).1) (by_sort Pub, (by_sort Fresh, by_symbols_once s k once symbols))

-- The move keeps what systems of a proof fulfil.
pub top_kept : (context : Context) (symbols : List Symbol) (s : System) (k : ℕ) (cs : List Case) → top_cases symbols s k ≡ Some cs → IsWellMade context s → Every (IsKept context s) (systems_in cs)
top_kept context symbols s k cs e made = each_kept context s (systems_in cs) (top_numbered symbols s k cs e made.numbered) (top_once symbols s k cs e made.once)

module _ {N : Names} (theory : Theory) (s : System) (n : IsNumbered N s) (k : ℕ) (under : k < s.next) (log : Log) (v : Valuation) (h : Solves theory log v s) where
  abbrev x : Variable
  x = of_number Msg k

  abbrev NoneOf : System → Type 0
  NoneOf t = (w : Valuation) → Agrees s.next v w → Solves theory log w t → ⊥

  name_solved : (sort : Sort) (t : Ground) → IsValue (signature_of theory) sort t → IsNormal (signature_of theory).equations t → same_sort sort sort ≡ true → t ≡ v.terms x → NoneOf (by_name s k sort) → ⊥
  name_solved sort t value normal itself is none_solved =
      let u = of_sort sort t v.terms in
      let w = beside s.next v u in
      let new : w.terms (of_number sort s.next) ≡ t = new_value s.next v u sort 0 s.next (omega arith) ∙ rw (itself) refl in
      none_solved w (beside_agrees s.next v u)
      (term_solves s x (var (of_number sort s.next)) 1 n theory log v h u (each_of_sort (IsValue (signature_of theory)) sort t v.terms value h.sorts)
      (each_of_sort (λ z g. IsNormal (signature_of theory).equations g) sort t v.terms normal h.normal) under (new ∙ is))

  symbol_solved : (f : List ℕ) (ts : Grounds) → AreOver (signature_of theory).symbols ts → AreNormal (signature_of theory).equations ts → app f ts ≡ v.terms x
      → NoneOf (with_term_for s x (app f (new_variables (count ts) s.next)) (count ts)) → ⊥
  symbol_solved f ts over normal is none_solved =
      let u = of_arguments ts v.terms in
      let w = beside s.next v u in
      let new : valued_all w.terms (new_variables (count ts) s.next) ≡ ts = arguments_valued w.terms ts s.next (λ i j e. new_value s.next v u Msg i j e) in
      none_solved w (beside_agrees s.next v u)
      (term_solves s x (app f (new_variables (count ts) s.next)) (count ts) n theory log v h u
      (each_of_arguments (IsValue (signature_of theory)) ts v.terms (λ i. (tt, argument_over (signature_of theory).symbols ts over i)) h.sorts)
      (each_of_arguments (λ z g. IsNormal (signature_of theory).equations g) ts v.terms (argument_normal (signature_of theory).equations ts normal) h.normal)
      under (ap (app f) new ∙ is))

  -- what the value is
  by_value : (t : Ground) → IsOver (signature_of theory).symbols t → IsNormal (signature_of theory).equations t → t ≡ v.terms x → NoneSolved theory log v s.next (systems_in (told (signature_of theory).symbols s k)) → ⊥
  by_value (var y) over normal is none_solved = over
  by_value (constant c) over normal is none_solved = name_solved Pub (constant c) (tt, tt) tt refl is none_solved.0
  by_value (name m) over normal is none_solved = name_solved Fresh (name m) (tt, tt) tt refl is none_solved.1.0
  by_value (app f ts) over normal is none_solved =
      let symbol : Symbol = record { name = f; arity = count ts; private = over.0.0 } in
      let symbols = (signature_of theory).symbols in
      let case_there = member_map (λ (c : Case). c.system) (by_symbol s k symbol) (map (by_symbol s k) symbols) (member_map (by_symbol s k) symbol symbols over.0.1) in
      symbol_solved f ts over.1 normal.0 is (every_member NoneOf (systems_in (map (by_symbol s k) symbols)) (by_symbol s k symbol).system case_there none_solved.1.1)

-- It covers.
pub top_covers : {N : Names} (theory : Theory) (s : System) → IsNumbered N s → (k : ℕ) (cs : List Case) → top_cases (signature_of theory).symbols s k ≡ Some cs → Covers theory s (systems_in cs)
top_covers theory s n k cs e =
    let asked = is_asked (signature_of theory).symbols s k cs e in
    record {
      covers = λ log is v h none_solved.
          let x = of_number Msg k in
          by_value theory s n k (variable_under s n x asked.0) log v h (v.terms x) (h.sorts x).1 (h.normal x) refl
          (subst (λ (z : List Case). NoneSolved theory log v s.next (systems_in z)) asked.1 none_solved);
    }
