-- Where a message is learnt, the system that its entry begins from has a solution.
use Rattle.std.proofs.Common.{◌≡◌, ◌+◌, ◌-◌, ℕ, zero, suc, List, [], Some, refl, sym, ap, ap₂, subst, inl, arith}
use Rattle.sp_spec.specs.Lists.{Every, AtPosition}
use Rattle.sp_spec.specs.Term.{Names, Sort, Msg, Fresh, Pub, Variable, Term, var, constant, name, app, Terms, none, more, Ground, Grounds, count, Values, valued, valued_all}
use Rattle.sp_spec.specs.Signature.{Signature, HasSort, IsOver, AreOver, IsValue}
use Rattle.sp_spec.specs.Equal.{IsNormal, AreNormal}
use Rattle.sp_spec.specs.Rule.{learns}
use Rattle.sp_spec.specs.Guarded.{Guarded}
use Rattle.sp_spec.specs.Log.{Log, IsLog, How, learn}
use Rattle.sp_spec.specs.Theory.{Theory, signature_of}
use Rattle.sp_law_equal.specs.RightTheory.{HasNormalInstances}
use Rattle.sp_law_run.proofs.Over.{count_valued}
use Rattle.sp_spec_system.specs.Solutions.{Valuation, FormulaHolds, Solves}
use Rattle.sp_spec.proofs.Lists.{every_both}
use Rattle.sp_law_system.proofs.Numbers.{formula_weaken}
use Rattle.sp_law_system.proofs.Solutions.{Under, TimeUnder, agree_formula}
use Rattle.sp_law_formula.proofs.Learnt.{entry_normal, entry_over}
use Rattle.sp_spec_system.specs.Head.{Head, fresh_head, symbol_head, new_variables, head_message, start_of}
use Rattle.sp_spec_know.specs.Source.{sort_head, head_of}
use Rattle.sp_spec_sources.specs.Entries.{StandsAlone}
use Rattle.sp_law_sources.specs.Laws.{AreValues}

-- the argument at a place
argument : Grounds → ℕ → Ground
argument none k = constant []
argument (more t ts) zero = t
argument (more t ts) (suc k) = argument ts k

arguments_valued : (w : Values) (ts : Grounds) (k : ℕ) → ((i j : ℕ) → i ≡ k + j → w (record { sort = Msg; number = i }) ≡ argument ts j) → valued_all w (new_variables (count ts) k) ≡ ts
unfolding argument
arguments_valued w none k h = refl
arguments_valued w (more t ts) k h =
    ap₂ more (h k zero (omega arith)) (arguments_valued w ts (suc k) (λ i j e. h i (suc j) (omega arith)))

argument_over : (signature : Signature) (ts : Grounds) → AreOver signature.symbols ts → (k : ℕ) → IsOver signature.symbols (argument ts k)
unfolding argument
argument_over signature none o k = tt
argument_over signature (more t ts) o zero = o.0
argument_over signature (more t ts) o (suc k) = argument_over signature ts o.1 k

argument_normal : (signature : Signature) (ts : Grounds) → AreNormal signature.equations ts → (k : ℕ) → IsNormal signature.equations (argument ts k)
unfolding argument
argument_normal signature none o k = tt
argument_normal signature (more t ts) o zero = o.0
argument_normal signature (more t ts) o (suc k) = argument_normal signature ts o.1 k

-- all times at one position; for the variables of sort msg these values, for those of sort fresh this one
abbrev by_sort : Sort → Ground → Ground → Ground → Ground
by_sort Msg m f p = m
by_sort Fresh m f p = f
by_sort Pub m f p = p

abbrev starting : ℕ → (ℕ → Ground) → Ground → Values → Valuation
starting p m f v = record { terms = λ x. by_sort x.sort (m (x.number - 1)) f (v x); times = λ i. p }

by_sort_value : (signature : Signature) (s : Sort) (m f p : Ground) → IsOver signature.symbols m → IsValue signature Fresh f → IsValue signature s p → IsValue signature s (by_sort s m f p)
by_sort_value signature Msg m f p a b c = (tt, a)
by_sort_value signature Fresh m f p a b c = b
by_sort_value signature Pub m f p a b c = c

by_sort_normal : (signature : Signature) (s : Sort) (m f p : Ground) → IsNormal signature.equations m → IsNormal signature.equations f → IsNormal signature.equations p
    → IsNormal signature.equations (by_sort s m f p)
by_sort_normal signature Msg m f p a b c = a
by_sort_normal signature Fresh m f p a b c = b
by_sort_normal signature Pub m f p a b c = c

starting_values : (theory : Theory) (p : ℕ) (m : ℕ → Ground) (f : Ground) (v : Valuation) → AreValues theory v
    → ((k : ℕ) → IsOver (signature_of theory).symbols (m k)) → ((k : ℕ) → IsNormal (signature_of theory).equations (m k))
    → IsValue (signature_of theory) Fresh f → IsNormal (signature_of theory).equations f → AreValues theory (starting p m f v.terms)
starting_values theory p m f v values over normal value settled = record {
  sorts = λ x. by_sort_value (signature_of theory) x.sort (m (x.number - 1)) f (v.terms x) (over (x.number - 1)) value (values.sorts x);
  normal = λ x. by_sort_normal (signature_of theory) x.sort (m (x.number - 1)) f (v.terms x) (normal (x.number - 1)) settled (values.normal x);
}

-- A formula that stands alone is as true under all values.
pub alone_hold : (N : Names) (theory : Theory) (log : Log) (v w : Valuation) (fs : List Guarded) → Every (StandsAlone N) fs → Every (FormulaHolds theory log v) fs → Every (FormulaHolds theory log w) fs
alone_hold N theory log v w fs alone h =
    every_both (StandsAlone N) (FormulaHolds theory log v) (FormulaHolds theory log w)
    (λ f a k. agree_formula N 0 v w (record { terms = λ x l. absurd (omega (arith, l)); times = λ i l. absurd (omega (arith, l)) }) theory log f
    (formula_weaken N (λ x. ⊥) (Under 0) (λ i. ⊥) (TimeUnder 0) (λ x l. absurd l) (λ i l. absurd l) f a) k) fs alone h

-- what a start has: values, a solution, and its event's time at that position
pub record Starts (theory : Theory) (log : Log) (taken : List Guarded) (l : Head) (p : ℕ) : Type 0 where
  pub values : Valuation
  pub solves : Solves theory log values (start_of taken l)
  pub time : values.times 0 ≡ p

starts_with : (theory : Theory) (log : Log) (taken : List Guarded) (l : Head) (w : Valuation) (m : Ground) (how : How) (p : ℕ) → AreValues theory w → w.times 0 ≡ p
    → valued w.terms (head_message l) ≡ m → AtPosition log p (learn m how) → Every (FormulaHolds theory log w) taken → Starts theory log taken l p
starts_with theory log taken l w m how p values time message there h = record {
  values = w;
  solves = record {
    sorts = values.sorts;
    normal = values.normal;
    events = ((how, subst (λ (q : ℕ). AtPosition log q (learn (valued w.terms (head_message l)) how)) (sym time) (subst (λ (g : Ground). AtPosition log p (learn g how)) (sym message) there), tt), tt);
    formulas = h;
    spent = tt;
    unequal = tt;
    links = tt;
    order = tt;
    last = tt;
    closed = λ c. absurd cc;
  };
  time = time;
}

-- Where a message of that head is learnt, its entry's start has a solution, in which the message's event is at that position.
module _ (N : Names) (theory : Theory) (good : HasNormalInstances theory) (log : Log) (is : IsLog theory log) (v : Valuation) (values : AreValues theory v)
    (taken : List Guarded) (alone : Every (StandsAlone N) taken) (true_here : Every (FormulaHolds theory log v) taken) (p : ℕ) (how : How) where
  learnt_over : (t : Ground) → AtPosition log p (learn t how) → IsOver (signature_of theory).symbols t
  learnt_over t there = (entry_over theory good log is p (learn t how) there (learns t) (inl refl)).0

  learnt_normal : (t : Ground) → AtPosition log p (learn t how) → IsNormal (signature_of theory).equations t
  learnt_normal t there = (entry_normal theory log is p (learn t how) there (learns t) (inl refl)).0

  fresh_starts : (t : Ground) → HasSort Fresh t → AtPosition log p (learn t how) → Starts theory log taken fresh_head p
  fresh_starts t sort there =
      let w = starting p (λ k. constant []) t v.terms in
      let sound = starting_values theory p (λ k. constant []) t v values (λ k. tt) (λ k. tt) (sort, learnt_over t there) (learnt_normal t there) in
      starts_with theory log taken fresh_head w t how p sound refl refl there (alone_hold N theory log v w taken alone true_here)

  symbol_starts : (f : List ℕ) (ts : Terms Variable) → AtPosition log p (learn (app f (valued_all v.terms ts)) how) → Starts theory log taken (symbol_head f (count ts)) p
  symbol_starts f ts there =
      let gs = valued_all v.terms ts in
      let w = starting p (argument gs) (name 0) v.terms in
      let over = learnt_over (app f gs) there in
      let normal = learnt_normal (app f gs) there in
      let sound = starting_values theory p (argument gs) (name 0) v values (argument_over (signature_of theory) gs over.1) (argument_normal (signature_of theory) gs normal.0) (tt, tt) tt in
      let place : (i j : ℕ) → i ≡ 1 + j → argument gs (i - 1) ≡ argument gs j = λ i j e. ap (argument gs) (let g : i - 1 ≡ j = omega arith in g) in
      let given = arguments_valued w.terms gs 1 place in
      let message : valued w.terms (head_message (symbol_head f (count ts))) ≡ app f gs =
      ap (app f) (subst (λ (n : ℕ). valued_all w.terms (new_variables n 1) ≡ gs) (count_valued v.terms ts) given) in
      starts_with theory log taken (symbol_head f (count ts)) w (app f gs) how p sound refl message there (alone_hold N theory log v w taken alone true_here)

  pub message_starts : (m : Term Variable) (l : Head) → head_of m ≡ Some l → AtPosition log p (learn (valued v.terms m) how) → Starts theory log taken l p
  message_starts (var x) l e there = at x.sort refl e
    where
      at : (s : Sort) → x.sort ≡ s → sort_head s ≡ Some l → Starts theory log taken l p
      at Msg same k = absurd cc
      at Pub same k = absurd cc
      at Fresh same k =
          let g : fresh_head ≡ l = cc in
          subst (λ (h : Head). Starts theory log taken h p) g (fresh_starts (v.terms x) (subst (λ (s : Sort). HasSort s (v.terms x)) same (values.sorts x).0) there)
  message_starts (app f ts) l e there =
      let g : symbol_head f (count ts) ≡ l = cc in
      subst (λ (h : Head). Starts theory log taken h p) g (symbol_starts f ts there)
  message_starts (constant c) l e there = absurd cc
  message_starts (name n) l e there = absurd cc
