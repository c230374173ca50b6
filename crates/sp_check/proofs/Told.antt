-- Open leaves and steps of a tree that is read are told by its nodes, one behind the other.
use Rattle.std.proofs.Common.{◌≡◌, ℕ, ◌+◌, Bool, false, List, [], ◌∷◌, length, refl, ap, zero-add, add-zero, add_assoc, arith}
use Rattle.std.proofs.Math.Bool.{or_assoc, or-false}
use Rattle.std.specs.Prelude.{◌||◌}
use Rattle.sp_spec_nodes.specs.Preorder.{AreTrees}
use Rattle.sp_spec_nodes.proofs.Walks.{all_told, tree_told}
use Rattle.sp_check.specs.Skeleton.{unknown, Skeleton, node_read, none_read, is_open, has_open, some_open, steps_at, steps, steps_in}
use Rattle.sp_check.specs.Nodes.{NodeRead, with_names, cases_at, over, tree_read}

abbrev pub open_at : NodeRead → Bool
open_at n = is_open n.0

abbrev pub open_among : List NodeRead → Bool
open_among ns = all_told false ◌||◌ open_at ns

abbrev pub steps_from : NodeRead → ℕ
steps_from n = steps_at n.0

abbrev pub steps_among : List NodeRead → ℕ
steps_among ns = all_told 0 ◌+◌ steps_from ns

some_among : (names : List (List ℕ)) (ks : List Skeleton) → length ks ≡ length names → some_open (with_names names ks) ≡ all_told false ◌||◌ has_open ks
some_among [] [] e = refl
some_among [] (k ∷ ks) e = absurd (omega (arith, e))
some_among (name ∷ names) [] e = refl
some_among (name ∷ names) (k ∷ ks) e = ap (λ (b : Bool). has_open k || b) (some_among names ks (omega (arith, e)))

steps_below : (names : List (List ℕ)) (ks : List Skeleton) → length ks ≡ length names → steps_in (with_names names ks) ≡ all_told 0 ◌+◌ steps ks
steps_below [] [] e = refl
steps_below [] (k ∷ ks) e = absurd (omega (arith, e))
steps_below (name ∷ names) [] e = refl
steps_below (name ∷ names) (k ∷ ks) e = ap (λ (i : ℕ). steps k + i) (steps_below names ks (omega (arith, e)))

pub open_told : (ns : List NodeRead) → AreTrees cases_at 1 ns → has_open (tree_read ns) ≡ open_among ns
open_told ns h =
    tree_told false ◌||◌ (λ b. refl) or_assoc cases_at over open_at has_open (λ n ks e. ap (λ (b : Bool). is_open n.0 || b) (some_among n.1 ks e)) or-false
    (node_read (unknown []) none_read) ns h

pub steps_told : (ns : List NodeRead) → AreTrees cases_at 1 ns → steps (tree_read ns) ≡ steps_among ns
steps_told ns h =
    tree_told 0 ◌+◌ zero-add add_assoc cases_at over steps_from steps (λ n ks e. ap (λ (i : ℕ). steps_at n.0 + i) (steps_below n.1 ks e)) add-zero
    (node_read (unknown []) none_read) ns h
