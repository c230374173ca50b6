-- Opening an existential formula covers: its variables get the values that make it true, in normal form.
use Rattle.std.proofs.Common.{◌≡◌, ◌≤◌, ◌<◌, ℕ, zero, suc, Bool, true, false, ◌==◌, if◌then◌else◌, refl, sym, ap, ◌∙◌, subst, arith, lt_of_lt_of_le, nat_eq}
use Rattle.std.proofs.lemmas.Bool.{eqb-true, eq-eqb}
use Rattle.sp_spec.specs.Term.{Names, Sort, Variable, Term, var, Ground, MadeOf}
use Rattle.sp_spec.specs.Signature.{IsValue, IsValuation}
use Rattle.sp_spec.specs.Equal.{IsNormal}
use Rattle.sp_spec.specs.Theory.{Theory, signature_of}
use Rattle.sp_spec.specs.Guarded.{Place, free, bound, Time, free_time, bound_time, Assignment, with_term, with_time, pushed, place_in, term_in, time_in}
use Rattle.sp_spec.specs.Same.{same_variable}
use Rattle.sp_spec.proofs.Same.{same_variable_decides}
use Rattle.sp_spec.specs.Change.{Change}
use Rattle.sp_spec_system.specs.Solutions.{Valuation, assignment}
use Rattle.sp_spec_system.specs.Numbered.{AtFree, AtFreeTime}
use Rattle.sp_spec_system.specs.Covering.{Agrees}
use Rattle.sp_law_system.proofs.Facts.{valued_same}
use Rattle.sp_law_equal.proofs.Made.{each_weaken}
use Rattle.sp_law_system.proofs.Solutions.{Under, TimeUnder}

-- one more value, and one more position
pub with_value : Valuation → Variable → Ground → Valuation
with_value w x t = record { terms = λ y. if same_variable y x then t else w.terms y; times = w.times }

pub with_position : Valuation → ℕ → ℕ → Valuation
with_position w n p = record { terms = w.terms; times = λ i. if i == n then p else w.times i }

other_variable : (x y : Variable) (n : ℕ) → x.number < n → y.number ≡ n → same_variable x y ≡ false
other_variable x y n h e = at (same_variable x y) refl
  where
    at : (b : Bool) → same_variable x y ≡ b → b ≡ false
    at true k = let s : x ≡ y = (same_variable_decides x y).0 k in let d : x.number ≡ y.number = ap (λ (z : Variable). z.number) s in absurd (omega arith)
    at false k = refl

other_number : (i n : ℕ) → i < n → nat_eq i n ≡ false
other_number i n h = at (nat_eq i n) refl
  where
    at : (b : Bool) → nat_eq i n ≡ b → b ≡ false
    at true k = let e = eqb-true i n k in absurd (omega arith)
    at false k = refl

pub value_agrees : (w : Valuation) (sort : Sort) (n : ℕ) (t : Ground) → Agrees n w (with_value w (record { sort = sort; number = n }) t)
unfolding with_value
value_agrees w sort n t = record {
  terms = λ x h. let x' : Variable = record { sort = sort; number = n } in rw (other_variable x x' n h refl) refl;
  times = λ i h. refl;
}

pub position_agrees : (w : Valuation) (n p : ℕ) → Agrees n w (with_position w n p)
unfolding with_position
position_agrees w n p = record { terms = λ x h. refl; times = λ i h. rw (other_number i n h) refl }

value_here : (w : Valuation) (x : Variable) (t : Ground) → (with_value w x t).terms x ≡ t
unfolding with_value
value_here w x t = rw ((same_variable_decides x x).1 refl) refl

position_here : (w : Valuation) (n p : ℕ) → (with_position w n p).times n ≡ p
unfolding with_position
position_here w n p = rw (eq-eqb n n refl) refl

-- it holds of each value if it holds of the new one and of the others
each_value : (w : Valuation) (x : Variable) (t : Ground) (P : Sort → Ground → Type 0) → P x.sort t → ((y : Variable) → P y.sort (w.terms y)) → (y : Variable) → P y.sort ((with_value w x t).terms y)
unfolding with_value
each_value w x t P here others y = at (same_variable y x) refl
  where
    at : (b : Bool) → same_variable y x ≡ b → P y.sort (if b then t else w.terms y)
    at true k = let s : y ≡ x = (same_variable_decides y x).0 k in subst (λ (z : Variable). P z.sort t) (sym s) here
    at false k = others y

agree_place : (N : Names) → (n : ℕ) (v w : Valuation) → Agrees n v w → (t : Term Place) → MadeOf N (AtFree (Under n)) t → term_in (assignment w) t ≡ term_in (assignment v) t
agree_place N n v w a t b = valued_same N (place_in (assignment w)) (place_in (assignment v)) t (each_weaken N (AtFree (Under n)) _ at t b)
  where
    at : (p : Place) → AtFree (Under n) p → place_in (assignment w) p ≡ place_in (assignment v) p
    at (free x) h = a.terms x h
    at (bound k) h = refl

agree_time : (n : ℕ) (v w : Valuation) → Agrees n v w → (i : Time) → AtFreeTime (TimeUnder n) i → time_in (assignment w) i ≡ time_in (assignment v) i
agree_time n v w a (free_time i) b = a.times i b
agree_time n v w a (bound_time k) b = refl

-- what is under a number is under the next
pub more_place : (N : Names) → (n : ℕ) (t : Term Place) → MadeOf N (AtFree (Under n)) t → MadeOf N (AtFree (Under (suc n))) t
more_place N n t b = each_weaken N (AtFree (Under n)) (AtFree (Under (suc n))) at t b
  where
    at : (p : Place) → AtFree (Under n) p → AtFree (Under (suc n)) p
    at (free x) h = omega (arith, h)
    at (bound k) h = tt

pub more_time : (n : ℕ) (i : Time) → AtFreeTime (TimeUnder n) i → AtFreeTime (TimeUnder (suc n)) i
more_time n (free_time i) b = omega (arith, b)
more_time n (bound_time k) b = tt

-- What is bound so far reads, under the values so far, as the assignment that makes the formula true does.
pub record Opens (N : Names) (theory : Theory) (base next : ℕ) (c : Change) (w : Valuation) (m : Assignment) : Type 0 where
  pub above : base ≤ next
  pub same_terms : (x : Variable) → c.terms x ≡ var x
  pub same_times : (i : ℕ) → c.times i ≡ i
  pub variables : (x : Variable) → x.number < base → m.terms x ≡ w.terms x
  pub moments : (i : ℕ) → i < base → m.times i ≡ w.times i
  pub terms : (k : ℕ) → m.bound_terms k ≡ term_in (assignment w) (c.bound_terms k)
  pub times : (k : ℕ) → m.bound_times k ≡ time_in (assignment w) (c.bound_times k)
  pub terms_under : (k : ℕ) → MadeOf N (AtFree (Under next)) (c.bound_terms k)
  pub times_under : (k : ℕ) → AtFreeTime (TimeUnder next) (c.bound_times k)
  pub sorts : IsValuation (signature_of theory) w.terms
  pub normal_values : (x : Variable) → IsNormal (signature_of theory).equations (w.terms x)

abbrev pub put_message : Change → Sort → ℕ → Change
put_message c sort next = record { terms = c.terms; times = c.times; bound_terms = pushed (var (free (record { sort = sort; number = next }))) c.bound_terms; bound_times = c.bound_times }

abbrev pub put_time : Change → ℕ → Change
put_time c next = record { terms = c.terms; times = c.times; bound_terms = c.bound_terms; bound_times = pushed (free_time next) c.bound_times }

pub opens_message : (N : Names) → (theory : Theory) (base next : ℕ) (c : Change) (w : Valuation) (m : Assignment) → Opens N theory base next c w m → (sort : Sort) (t : Ground) → IsValue (signature_of theory) sort t → IsNormal (signature_of theory).equations t
    → Opens N theory base (suc next) (put_message c sort next) (with_value w (record { sort = sort; number = next }) t) (with_term t m)
opens_message N theory base next c w m o sort t is_value is_normal =
    let x : Variable = record { sort = sort; number = next } in
    let a = value_agrees w sort next t in
    let le = o.above in
    record {
      above = omega arith;
      same_terms = o.same_terms;
      same_times = o.same_times;
      variables = λ y h. o.variables y h ∙ sym (a.terms y (lt_of_lt_of_le h le));
      moments = λ i h. o.moments i h ∙ sym (a.times i (lt_of_lt_of_le h le));
      terms = terms a;
      times = λ k. o.times k ∙ sym (agree_time next w (with_value w x t) a (c.bound_times k) (o.times_under k));
      terms_under = under;
      times_under = λ k. more_time next (c.bound_times k) (o.times_under k);
      sorts = each_value w x t (IsValue (signature_of theory)) is_value o.sorts;
      normal_values = each_value w x t (λ s u. IsNormal (signature_of theory).equations u) is_normal o.normal_values;
    }
  where
    terms : Agrees next w (with_value w (record { sort = sort; number = next }) t) → (k : ℕ)
        → pushed t m.bound_terms k ≡ term_in (assignment (with_value w (record { sort = sort; number = next }) t)) (pushed (var (free (record { sort = sort; number = next }))) c.bound_terms k)
    terms a zero = sym (value_here w (record { sort = sort; number = next }) t)
    terms a (suc k) = o.terms k ∙ sym (agree_place N next w (with_value w (record { sort = sort; number = next }) t) a (c.bound_terms k) (o.terms_under k))

    under : (k : ℕ) → MadeOf N (AtFree (Under (suc next))) (pushed (var (free (record { sort = sort; number = next }))) c.bound_terms k)
    under zero = omega arith
    under (suc k) = more_place N next (c.bound_terms k) (o.terms_under k)

pub opens_time : (N : Names) → (theory : Theory) (base next : ℕ) (c : Change) (w : Valuation) (m : Assignment) → Opens N theory base next c w m → (p : ℕ)
    → Opens N theory base (suc next) (put_time c next) (with_position w next p) (with_time p m)
unfolding with_position
opens_time N theory base next c w m o p =
    let a = position_agrees w next p in
    let le = o.above in
    record {
      above = omega arith;
      same_terms = o.same_terms;
      same_times = o.same_times;
      variables = λ y h. o.variables y h ∙ sym (a.terms y (lt_of_lt_of_le h le));
      moments = λ i h. o.moments i h ∙ sym (a.times i (lt_of_lt_of_le h le));
      terms = λ k. o.terms k ∙ sym (agree_place N next w (with_position w next p) a (c.bound_terms k) (o.terms_under k));
      times = times a;
      terms_under = λ k. more_place N next (c.bound_terms k) (o.terms_under k);
      times_under = under;
      sorts = sorts;
      normal_values = normal_values;
    }
  where
    times : Agrees next w (with_position w next p) → (k : ℕ) → pushed p m.bound_times k ≡ time_in (assignment (with_position w next p)) (pushed (free_time next) c.bound_times k)
    times a zero = sym (position_here w next p)
    times a (suc k) = o.times k ∙ sym (agree_time next w (with_position w next p) a (c.bound_times k) (o.times_under k))

    under : (k : ℕ) → AtFreeTime (TimeUnder (suc next)) (pushed (free_time next) c.bound_times k)
    under zero = omega arith
    under (suc k) = more_time next (c.bound_times k) (o.times_under k)

    sorts : IsValuation (signature_of theory) (with_position w next p).terms
    sorts = o.sorts

    normal_values : (x : Variable) → IsNormal (signature_of theory).equations ((with_position w next p).terms x)
    normal_values = o.normal_values
