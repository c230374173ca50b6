-- The sides in the moves of a grown tree are such as a text can hold: variables, and public names of the theory, and of each two one is a variable.
use Rattle.std.proofs.Common.{◌≡◌, ℕ, Bool, true, false, if◌then◌else◌, List, [], ◌∷◌, map, Some, None, option_map, IfSome, refl}
use Rattle.std.specs.Prelude.{◌&&◌, flat_map, is_some}
use Rattle.std.specs.Ordering.{is_lt, nat_cmp}
use Rattle.std.specs.Cmp.Lexicographic.{slice_cmp}
use Rattle.std.proofs.lemmas.Bool.{and_parts, cond_both}
use Rattle.std.proofs.lemmas.Option.{IfSome_then}
use Rattle.sp_spec.specs.Lists.{Every}
use Rattle.sp_spec.proofs.Lists.{every_map, every_append}
use Rattle.sp_spec_printed.specs.StepLines.{IsQuotable}
use Rattle.sp_spec_system.specs.System.{System}
use Rattle.sp_spec_system.specs.Move.{Side, fresh_side, public_side, constant_side, Move, same, Context, Case}
use Rattle.sp_spec_system.specs.Words.{is_constant_side}
use Rattle.sp_spec_formula.specs.Sides.{are_in_order, is_undecided}
use Rattle.sp_spec_proof.specs.Cases.{simple_case}
use Rattle.sp_spec_proof.specs.Choice.{Ranked, is_instance, choice}
use Rattle.sp_spec_proof.specs.Deciding.{counted, each_two, placed_by_bytes, sorted_by_bytes, sides_at, sides}
use Rattle.sp_spec_proof.specs.Growth.{grown_tree}
use Rattle.sp_spec_proof.specs.Tree.{Tree, node, Branches, no_branch, branch}
use Rattle.sp_spec_proof.proofs.Chosen.{is_plain, choice_has}
use Rattle.sp_spec_proof.proofs.GrownMoves.{EachMove, EachMoveIn, grown_tree_has}
use Rattle.sp_skel.specs.Places.{IsQuoted, HasSides, HaveSides, AllHaveSides}

-- ---- the sides of a system

placed_quotable : (c : List ℕ) (ds : List (List ℕ)) → IsQuotable c → Every IsQuotable ds → Every IsQuotable (placed_by_bytes c ds)
placed_quotable c [] h k = (h, tt)
placed_quotable c (d ∷ ds) h k =
    cond_both (is_lt (slice_cmp nat_cmp d c)) (d ∷ placed_by_bytes c ds) (c ∷ d ∷ ds) (Every IsQuotable) (λ _. (k.0, placed_quotable c ds h k.1)) (λ _. (h, k))

sorted_quotable : (cs : List (List ℕ)) → Every IsQuotable cs → Every IsQuotable (sorted_by_bytes cs)
sorted_quotable [] h = tt
sorted_quotable (c ∷ cs) h = placed_quotable c (sorted_by_bytes cs) h.0 (sorted_quotable cs h.1)

variables_quoted : (ks : List ℕ) → Every IsQuoted (flat_map sides_at ks)
variables_quoted [] = tt
variables_quoted (k ∷ ks) = (tt, (tt, variables_quoted ks))

sides_quoted : (constants : List (List ℕ)) (s : System) → Every IsQuotable constants → Every IsQuoted (sides constants s)
sides_quoted constants s h =
    every_append IsQuoted (flat_map sides_at (counted 0 s.next)) (map constant_side (sorted_by_bytes constants)) (variables_quoted (counted 0 s.next))
    (every_map IsQuotable IsQuoted constant_side (λ c k. k) (sorted_by_bytes constants) (sorted_quotable constants h))

-- ---- the moves on them

abbrev AreQuoted : Move → Type 0
AreQuoted (same a b) = IsQuoted a × IsQuoted b
AreQuoted move = Unit {0}

plain_quoted : (m : Move) → is_plain m ≡ true → AreQuoted m
plain_quoted (same a b) e = absurd (let none : ⊥ = cc in none)
plain_quoted m e = tt

with_each : (a : Side) (bs : List Side) → IsQuoted a → Every IsQuoted bs → Every AreQuoted (flat_map (λ b. same a b ∷ []) bs)
with_each a [] h k = tt
with_each a (b ∷ bs) h k = ((h, k.0), with_each a bs h k.1)

pairs_quoted : (bs : List Side) → Every IsQuoted bs → Every AreQuoted (each_two (λ a b. same a b ∷ []) bs)
pairs_quoted [] h = tt
pairs_quoted (a ∷ bs) h = every_append AreQuoted (flat_map (λ b. same a b ∷ []) bs) (each_two (λ a b. same a b ∷ []) bs) (with_each a bs h.0 h.1) (pairs_quoted bs h.1)

-- ---- those that are instances

in_order_sided : (a b : Side) → are_in_order a b ≡ true → (is_constant_side a && is_constant_side b) ≡ false
in_order_sided (fresh_side i) b e = refl
in_order_sided (public_side i) b e = refl
in_order_sided (constant_side c) b e = absurd (let none : ⊥ = cc in none)

undecided_sided : (constants : List (List ℕ)) (s : System) (a b : Side) → is_undecided constants s a b ≡ true → (is_constant_side a && is_constant_side b) ≡ false
undecided_sided constants s a b e = in_order_sided a b (and_parts (are_in_order a b) _ e).0

-- where there are cases it is so
has_some : (f : List Case → List Case) (b : Bool) (made : List Case) → is_some (option_map f (if b then Some made else None)) ≡ true → b ≡ true
has_some f true made e = refl
has_some f false made e = absurd (let none : ⊥ = cc in none)

instance_has : (context : Context) (s : System) (m : Move) → is_instance context s m ≡ true → AreQuoted m → HasSides m
instance_has context s (same a b) e h =
    let undecided = has_some (map (simple_case context.rules)) (is_undecided context.public_names s a b) _ e in
    (h.0, h.1, undecided_sided context.public_names s a b undecided)
instance_has context s m e h = tt

chosen_has : (context : Context) → Every IsQuotable context.public_names → (s : System) → IfSome (choice context s) (λ (r : Ranked). HasSides r.move)
chosen_has context names s =
    IfSome_then (choice context s) (choice_has context s AreQuoted plain_quoted (pairs_quoted (sides context.public_names s) (sides_quoted context.public_names s names)) tt)
    (λ r h. instance_has context s r.move h.0 h.1)

-- ---- the moves of a tree

mutual
  tree_sides : (t : Tree) → EachMove HasSides t → HaveSides t
  tree_sides (node m bs) h = (h.0, branches_sides bs h.1)

  branches_sides : (bs : Branches) → EachMoveIn HasSides bs → AllHaveSides bs
  branches_sides no_branch h = tt
  branches_sides (branch name t bs) h = (tree_sides t h.0, branches_sides bs h.1)

pub grown_sides : (context : Context) → Every IsQuotable context.public_names → (s : System) (budget : ℕ) → HaveSides (grown_tree context s budget)
grown_sides context names s budget = tree_sides (grown_tree context s budget) (grown_tree_has HasSides tt context (chosen_has context names) s budget)
