-- The table of words: each line is such as is written and read, and the inverse has the same lines.
use Rattle.std.proofs.Common.{◌≡◌, ℕ, Bool, true, false, if◌then◌else◌, List, [], ◌∷◌, map, Option, Some, None, codes, refl, sym, ap, subst, ◌∙◌, arith}
use Rattle.std.specs.Prelude.{◌&&◌}
use Rattle.std.specs.Str.{bytes_eq}
use Rattle.std.proofs.lemmas.Slice.Eq.{bytes_eq-Decides}
use Rattle.sp_spec_text.specs.Token.{word}
use Rattle.sp_spec_text.specs.Lex.{is_end, is_solve, skip}
use Rattle.sp_spec_text.specs.Proofs.{is_method}
use Rattle.sp_spec_system.specs.Move.{Move, simplify, contradiction, unproved, solved, or, action, premise, know, chain, induction, source, compare, top, same, more_events, finish}
use Rattle.sp_spec_system.specs.Words.{Argument, place, time, variable, side, Words, method, goal, words_of, of_method, Said, digits, named, by_none, by_one, by_two, is_constant_side, by_sides, of_goal, said_of, EachWithin, IsSided, stand_alone}
use Rattle.sp_skel.specs.Laws.{IsGoal}
use Rattle.sp_spec_text.specs.Names.{IsWord}
use Rattle.sp_skel.specs.Places.{HasSides}
use Rattle.sp_skel.proofs.Unbroken.{IsUnbroken}
use Rattle.sp_skel.proofs.Sides.{EachQuotable, EachReadBack, each_read}

pub record IsMethodLine (m : Move) (w : List ℕ) : Type 0 where
  pub says : of_method w ≡ Some m
  pub is_word : IsWord w
  pub goes_on : is_end (word w) ≡ false
  pub no_goal : is_solve (word w) ≡ false
  pub begins : stand_alone (method w) ≡ false → is_method w ≡ true

pub record IsGoalLine (m : Move) (w : List ℕ) (arguments : List Argument) : Type 0 where
  pub says : IsSided m → of_goal w (map said_of arguments) ≡ Some m
  pub unbroken : IsUnbroken w
  pub quotable : HasSides m → EachQuotable arguments

abbrev pub IsLine : Move → Words → Type 0
IsLine m (method w) = IsMethodLine m w
IsLine m (goal w arguments) = IsGoalLine m w arguments

pub lines : (m : Move) → IsLine m (words_of m)
unfolding of_method of_goal is_method skip
lines simplify = record { says = refl; is_word = (refl, refl); goes_on = refl; no_goal = refl; begins = λ h. refl }
lines contradiction = record { says = refl; is_word = (refl, refl); goes_on = refl; no_goal = refl; begins = λ h. refl }
lines unproved = record { says = refl; is_word = (refl, refl); goes_on = refl; no_goal = refl; begins = λ h. refl }
lines solved = record { says = refl; is_word = (refl, refl); goes_on = refl; no_goal = refl; begins = λ h. absurd (let none : ⊥ = cc in none) }
lines induction = record { says = refl; is_word = (refl, refl); goes_on = refl; no_goal = refl; begins = λ h. refl }
lines (or k) = record { says = λ h. refl; unbroken = record { some = omega arith; unbroken = refl }; quotable = λ h. (tt, tt) }
lines (action k) = record { says = λ h. refl; unbroken = record { some = omega arith; unbroken = refl }; quotable = λ h. (tt, tt) }
lines (premise i p) = record { says = λ h. refl; unbroken = record { some = omega arith; unbroken = refl }; quotable = λ h. (tt, (tt, tt)) }
lines (know i) = record { says = λ h. refl; unbroken = record { some = omega arith; unbroken = refl }; quotable = λ h. (tt, tt) }
lines (chain i) = record { says = λ h. refl; unbroken = record { some = omega arith; unbroken = refl }; quotable = λ h. (tt, tt) }
lines (source i) = record { says = λ h. refl; unbroken = record { some = omega arith; unbroken = refl }; quotable = λ h. (tt, tt) }
lines (compare i j) = record { says = λ h. refl; unbroken = record { some = omega arith; unbroken = refl }; quotable = λ h. (tt, (tt, tt)) }
lines (top k) = record { says = λ h. refl; unbroken = record { some = omega arith; unbroken = refl }; quotable = λ h. (tt, tt) }
lines (same a b) = record { says = λ h. rw h refl; unbroken = record { some = omega arith; unbroken = refl }; quotable = λ h. (h.0, (h.1, tt)) }
lines more_events = record { says = λ h. refl; unbroken = record { some = omega arith; unbroken = refl }; quotable = λ h. tt }
lines finish = record { says = λ h. refl; unbroken = record { some = omega arith; unbroken = refl }; quotable = λ h. tt }

pub sided : (m : Move) → HasSides m → IsSided m
sided (same a b) h = h.2
sided m h = tt

pub read_back : (m : Move) (w : List ℕ) (arguments : List Argument) → IsGoalLine m w arguments → EachWithin arguments → HasSides m → EachReadBack arguments
read_back m w arguments line h sides = each_read arguments h (line.quotable sides)

-- ---- the inverse

-- a line of the inverse on words alone, and those behind it
method_or : (w x : List ℕ) (here m : Move) (later : Option Move) → words_of here ≡ method x → (later ≡ Some m → words_of m ≡ method w)
    → (if bytes_eq w x then Some here else later) ≡ Some m → words_of m ≡ method w
method_or w x here m later line others e = at (bytes_eq w x) refl e
  where
    at : (b : Bool) → bytes_eq w x ≡ b → (if b then Some here else later) ≡ Some m → words_of m ≡ method w
    at true t e =
        let same_word : w ≡ x = (bytes_eq-Decides w x).0 t in
        let is : here ≡ m = cc in
        sym (ap words_of is) ∙ line ∙ ap method (sym same_word)
    at false t e = others e

pub methods_back : (w : List ℕ) (m : Move) → of_method w ≡ Some m → words_of m ≡ method w
unfolding of_method
methods_back w m =
    method_or w (codes "simplify") simplify m _ refl
    (method_or w (codes "contradiction") contradiction m _ refl
    (method_or w (codes "sorry") unproved m _ refl
    (method_or w (codes "SOLVED") solved m _ refl
    (method_or w (codes "induction") induction m None refl (λ e. absurd (let none : ⊥ = cc in none))))))

-- one of the inverse on goals
goal_or : (w x : List ℕ) (said : List Said) (m : Move) (here later : Option Move) → (here ≡ Some m → IsGoal x said m) → (later ≡ Some m → IsGoal w said m) → (if bytes_eq w x then here else later) ≡ Some m → IsGoal w said m
goal_or w x said m here later line others e = at (bytes_eq w x) refl e
  where
    at : (b : Bool) → bytes_eq w x ≡ b → (if b then here else later) ≡ Some m → IsGoal w said m
    at true t e = subst (λ (v : List ℕ). IsGoal v said m) (sym ((bytes_eq-Decides w x).0 t)) (line e)
    at false t e = others e

none_back : (x : List ℕ) (move : Move) → IsGoal x [] move → (said : List Said) (m : Move) → by_none move said ≡ Some m → IsGoal x said m
none_back x move line [] m e = let is : move ≡ m = cc in subst (IsGoal x []) is line
none_back x move line (y ∷ said) m e = absurd (let none : ⊥ = cc in none)

one_back : (x : List ℕ) (move : ℕ → Move) → ((k : ℕ) → IsGoal x (digits k ∷ []) (move k)) → (said : List Said) (m : Move) → by_one move said ≡ Some m → IsGoal x said m
one_back x move line [] m e = absurd (let none : ⊥ = cc in none)
one_back x move line (digits k ∷ []) m e = let is : move k ≡ m = cc in subst (IsGoal x (digits k ∷ [])) is (line k)
one_back x move line (named a ∷ []) m e = absurd (let none : ⊥ = cc in none)
one_back x move line (y ∷ z ∷ said) m e = absurd (let none : ⊥ = cc in none)

two_back : (x : List ℕ) (move : ℕ → ℕ → Move) → ((i k : ℕ) → IsGoal x (digits i ∷ digits k ∷ []) (move i k)) → (said : List Said) (m : Move) → by_two move said ≡ Some m → IsGoal x said m
two_back x move line [] m e = absurd (let none : ⊥ = cc in none)
two_back x move line (y ∷ []) m e = absurd (let none : ⊥ = cc in none)
two_back x move line (digits i ∷ digits k ∷ []) m e = let is : move i k ≡ m = cc in subst (IsGoal x (digits i ∷ digits k ∷ [])) is (line i k)
two_back x move line (digits i ∷ named a ∷ []) m e = absurd (let none : ⊥ = cc in none)
two_back x move line (named a ∷ y ∷ []) m e = absurd (let none : ⊥ = cc in none)
two_back x move line (y ∷ z ∷ v ∷ said) m e = absurd (let none : ⊥ = cc in none)

sides_back : (said : List Said) (m : Move) → by_sides said ≡ Some m → IsGoal (codes "same") said m
sides_back [] m e = absurd (let none : ⊥ = cc in none)
sides_back (y ∷ []) m e = absurd (let none : ⊥ = cc in none)
sides_back (digits i ∷ y ∷ []) m e = absurd (let none : ⊥ = cc in none)
sides_back (named a ∷ digits k ∷ []) m e = absurd (let none : ⊥ = cc in none)
sides_back (named a ∷ named b ∷ []) m e = at (is_constant_side a && is_constant_side b) refl e
  where
    at : (t : Bool) → (is_constant_side a && is_constant_side b) ≡ t → (if t then None else Some (same a b)) ≡ Some m → IsGoal (codes "same") (named a ∷ named b ∷ []) m
    at true h e = absurd (let none : ⊥ = cc in none)
    at false h e = let is : same a b ≡ m = cc in subst (IsGoal (codes "same") (named a ∷ named b ∷ [])) is (record { arguments = side a ∷ side b ∷ []; words_are = refl; said_are = refl; sided = h })
sides_back (y ∷ z ∷ v ∷ said) m e = absurd (let none : ⊥ = cc in none)

pub goals_back : (w : List ℕ) (said : List Said) (m : Move) → of_goal w said ≡ Some m → IsGoal w said m
unfolding of_goal
goals_back w said m =
    goal_or w (codes "or") said m _ _ (one_back (codes "or") or (λ k. record { arguments = place k ∷ []; words_are = refl; said_are = refl; sided = tt }) said m)
    (goal_or w (codes "action") said m _ _ (one_back (codes "action") action (λ k. record { arguments = place k ∷ []; words_are = refl; said_are = refl; sided = tt }) said m)
    (goal_or w (codes "premise") said m _ _ (two_back (codes "premise") premise (λ i p. record { arguments = time i ∷ place p ∷ []; words_are = refl; said_are = refl; sided = tt }) said m)
    (goal_or w (codes "know") said m _ _ (one_back (codes "know") know (λ i. record { arguments = time i ∷ []; words_are = refl; said_are = refl; sided = tt }) said m)
    (goal_or w (codes "chain") said m _ _ (one_back (codes "chain") chain (λ i. record { arguments = time i ∷ []; words_are = refl; said_are = refl; sided = tt }) said m)
    (goal_or w (codes "source") said m _ _ (one_back (codes "source") source (λ i. record { arguments = time i ∷ []; words_are = refl; said_are = refl; sided = tt }) said m)
    (goal_or w (codes "compare") said m _ _ (two_back (codes "compare") compare (λ i j. record { arguments = time i ∷ time j ∷ []; words_are = refl; said_are = refl; sided = tt }) said m)
    (goal_or w (codes "top") said m _ _ (one_back (codes "top") top (λ k. record { arguments = variable k ∷ []; words_are = refl; said_are = refl; sided = tt }) said m)
    (goal_or w (codes "same") said m _ _ (sides_back said m)
    (goal_or w (codes "more") said m _ _ (none_back (codes "more") more_events (record { arguments = []; words_are = refl; said_are = refl; sided = tt }) said m)
    (goal_or w (codes "finish") said m _ None (none_back (codes "finish") finish (record { arguments = []; words_are = refl; said_are = refl; sided = tt }) said m)
    (λ e. absurd (let none : ⊥ = cc in none))))))))))))

-- ---- the lines, by the words

method_at : (m : Move) (ws : Words) (w : List ℕ) → IsLine m ws → ws ≡ method w → of_method w ≡ Some m
method_at m (method v) w line e = let same_word : v ≡ w = cc in subst (λ (x : List ℕ). of_method x ≡ Some m) same_word line.says
method_at m (goal v arguments) w line e = absurd (let none : ⊥ = cc in none)

pub methods_on : (w : List ℕ) (m : Move) → words_of m ≡ method w → of_method w ≡ Some m
methods_on w m e = method_at m (words_of m) w (lines m) e

goal_at : (m : Move) (ws : Words) (w : List ℕ) (arguments : List Argument) → IsLine m ws → IsSided m → ws ≡ goal w arguments → of_goal w (map said_of arguments) ≡ Some m
goal_at m (method v) w arguments line h e = absurd (let none : ⊥ = cc in none)
goal_at m (goal v others) w arguments line h e =
    let same_word : v ≡ w = cc in
    let all : others ≡ arguments = cc in
    subst (λ (x : List ℕ). of_goal x (map said_of arguments) ≡ Some m) same_word (subst (λ (xs : List Argument). of_goal v (map said_of xs) ≡ Some m) all (line.says h))

pub goals_on : (w : List ℕ) (said : List Said) (m : Move) → IsGoal w said m → of_goal w said ≡ Some m
goals_on w said m g = subst (λ (xs : List Said). of_goal w xs ≡ Some m) g.said_are (goal_at m (words_of m) w g.arguments (lines m) g.sided g.words_are)
