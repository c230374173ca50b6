-- Whether a deciding move is an instance, and the first that is one, by what is asked in memory.
use Rattle.std.proofs.Common.{◌≡◌, ℕ, Bool, true, false, ◌&&◌, if◌then◌else◌, List, [], ◌∷◌, Option, Some, None, option_map, refl, ap, ◌∙◌}
use Rattle.std.specs.Prelude.{is_some, find}
use Rattle.sp_spec.specs.Term.{Msg}
use Rattle.sp_spec_system.specs.System.{System}
use Rattle.sp_spec_system.specs.Occurring.{has_time}
use Rattle.sp_spec_system.specs.Move.{Side, Move, compare, top, same, Context}
use Rattle.sp_spec_system.specs.Picked.{first_two}
use Rattle.sp_spec_formula.specs.Sides.{stands_there, is_undecided}
use Rattle.sp_spec_formula.specs.Top.{of_number, has_variable}
use Rattle.sp_spec_graph.specs.Compare.{are_comparable}
use Rattle.sp_spec_proof.specs.Choice.{is_instance, first_instance}
use Rattle.sp_spec_proof.specs.Deciding.{counted, compare_told, told_comparisons, comparisons, sides, sames}
use Rattle.sp_undecided.specs.Undecided.{compare_both, same_both, standing_times, are_unordered, are_told, are_told_unordered, standing_sides, may_be_same}
use Rattle.sp_undecided.proofs.Pairs.{on_two, of_standing}

if_so : {X Y : Type 0} (f : X → Y) (x : X) (b : Bool) → is_some (option_map f (if b then Some x else None)) ≡ b
if_so f x true = refl
if_so f x false = refl

-- ---- two times

comparable : (context : Context) (s : System) (i j : ℕ) → is_instance context s (compare i j) ≡ are_comparable s i j
comparable context s i j = if_so _ _ (are_comparable s i j)

one : (test : Move → Bool) (m : Move) (b : Bool) → test m ≡ b → find test (m ∷ []) ≡ (if b then Some m else None)
one test m b e = ap (λ (c : Bool). if c then Some m else None) e

if_told : (test : Move → Bool) (m : Move) (b told : Bool) → test m ≡ b → find test (if told then m ∷ [] else []) ≡ (if b && told then Some m else None)
if_told test m true true e = one test m true e
if_told test m false true e = one test m false e
if_told test m true false e = refl
if_told test m false false e = refl

times_apart : (happens lower first second apart : Bool) → (happens && (lower && (first && (second && apart)))) ≡ (first && (second && (happens && (lower && apart))))
times_apart happens lower true true apart = refl
times_apart true true true false apart = refl
times_apart true false true false apart = refl
times_apart false lower true false apart = refl
times_apart true true false second apart = refl
times_apart true false false second apart = refl
times_apart false lower false second apart = refl

and_told : (first second apart told : Bool) → (first && (second && apart)) && told ≡ (first && (second && (apart && told)))
and_told true true apart told = refl
and_told true false apart told = refl
and_told false second apart told = refl

unordered : (s : System) (i j : ℕ) → are_comparable s i j ≡ (has_time i s && (has_time j s && are_unordered s i j))
unordered s i j = times_apart _ _ (has_time i s) (has_time j s) _

pub of_times : (context : Context) (s : System)
    → first_instance context s (comparisons context s) ≡ option_map compare_both (first_two (are_unordered s) (standing_times s))
of_times context s =
    on_two (is_instance context s) (λ i j. compare i j ∷ []) compare_both (are_comparable s) (λ i j. one (is_instance context s) (compare i j) (are_comparable s i j) (comparable context s i j))
    (counted 0 s.next)
    ∙ ap (option_map compare_both) (of_standing (λ i. has_time i s) (are_comparable s) (are_unordered s) (unordered s) (counted 0 s.next))

pub of_told_times : (context : Context) (s : System)
    → first_instance context s (told_comparisons context s) ≡ option_map compare_both (first_two (are_told_unordered s) (standing_times s))
of_told_times context s =
    let is_open : ℕ → ℕ → Bool = λ i j. are_comparable s i j && are_told s i j in
    on_two (is_instance context s) (compare_told s) compare_both is_open
    (λ i j. if_told (is_instance context s) (compare i j) (are_comparable s i j) (are_told s i j) (comparable context s i j))
    (counted 0 s.next)
    ∙ ap (option_map compare_both)
    (of_standing (λ i. has_time i s) is_open (are_told_unordered s)
    (λ i j. ap (λ (b : Bool). b && are_told s i j) (unordered s i j) ∙ and_told (has_time i s) (has_time j s) (are_unordered s i j) (are_told s i j))
    (counted 0 s.next))

-- ---- two names

undecided : (context : Context) (s : System) (a b : Side) → is_instance context s (same a b) ≡ is_undecided context.public_names s a b
undecided context s a b = if_so _ _ (is_undecided context.public_names s a b)

sides_apart : (ordered first second apart : Bool) → (ordered && (first && (second && apart))) ≡ (first && (second && (ordered && apart)))
sides_apart ordered true true apart = refl
sides_apart true true false apart = refl
sides_apart false true false apart = refl
sides_apart true false second apart = refl
sides_apart false false second apart = refl

pub of_names : (context : Context) (s : System)
    → first_instance context s (sames context s) ≡ option_map same_both (first_two (may_be_same s) (standing_sides context.public_names s))
of_names context s =
    let constants = context.public_names in
    on_two (is_instance context s) (λ a b. same a b ∷ []) same_both (is_undecided constants s)
    (λ a b. one (is_instance context s) (same a b) (is_undecided constants s a b) (undecided context s a b))
    (sides constants s)
    ∙ ap (option_map same_both)
    (of_standing (stands_there constants s) (is_undecided constants s) (may_be_same s) (λ a b. sides_apart _ (stands_there constants s a) (stands_there constants s b) _) (sides constants s))

-- ---- a message

pub is_top : (context : Context) (s : System) (k : ℕ) → is_instance context s (top k) ≡ has_variable s (of_number Msg k)
is_top context s k = if_so _ _ (has_variable s (of_number Msg k))
