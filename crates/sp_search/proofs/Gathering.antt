-- What is gathered over a tree in memory is gathered over its nodes.
use Rattle.std.proofs.Common.{◌≡◌, ℕ, List, [], ◌∷◌, length, Option, sym, ap, ◌∙◌, arith}
use Rattle.sp_spec.specs.Log.{Log}
use Rattle.sp_spec_system.specs.System.{System}
use Rattle.sp_spec_system.specs.Move.{Move, unproved}
use Rattle.sp_spec_proof.specs.Choice.{Ranked}
use Rattle.sp_spec_nodes.specs.Preorder.{AreTrees}
use Rattle.sp_spec_nodes.proofs.Gathered.{gather, gather_tree}
use Rattle.sp_search.specs.Kept.{Kept, leaf, ended, inner, Keeps, nothing, also, with_names}
use Rattle.sp_search.specs.Kinds.{Kind, open_leaf, end_at, choice, case_count, tree_over, kept}

module _ {A : Type 0} (join : A → A → A) (none : A) (none_first : (a : A) → join none a ≡ a) (none_last : (a : A) → join a none ≡ a) (regroup : (a b c : A) → join (join a b) c ≡ join a (join b c)) where
  -- what branches give, by what each tree does
  named : (f : Kept → A) (below : Keeps → A) → below nothing ≡ none → ((name : List ℕ) (t : Kept) (ts : Keeps) → below (also name t ts) ≡ join (f t) (below ts))
      → (names : List (List ℕ)) (ts : List Kept) → length ts ≡ length names → below (with_names names ts) ≡ gather join none f ts
  named f below last more [] [] e = last
  named f below last more [] (t ∷ ts) e = absurd (omega (arith, e))
  named f below last more (name ∷ names) [] e = absurd (omega (arith, e))
  named f below last more (name ∷ names) (t ∷ ts) e = more name t (with_names names ts) ∙ ap (join (f t)) (named f below last more names ts (omega (arith, e)))

  module _ (f : Kept → A) (below : Keeps → A) (g : Kind → A)
      (at_leaf : (s : System) (chosen : Option Ranked) (depth : ℕ) → f (leaf s chosen depth) ≡ g (open_leaf s chosen depth))
      (at_end : (log : Log) → f (ended log) ≡ g (end_at log))
      (at_move : (m : Move) (names : List (List ℕ)) (ts : Keeps) → f (inner m ts) ≡ join (g (choice m names)) (below ts))
      (last : below nothing ≡ none) (more : (name : List ℕ) (t : Kept) (ts : Keeps) → below (also name t ts) ≡ join (f t) (below ts)) where
    at_root : (n : Kind) (ts : List Kept) → length ts ≡ case_count n → f (tree_over n ts) ≡ join (g n) (gather join none f ts)
    at_root (open_leaf s m depth) [] e = at_leaf s m depth ∙ sym (none_last (g (open_leaf s m depth)))
    at_root (open_leaf s m depth) (t ∷ ts) e = absurd (omega (arith, e))
    at_root (end_at log) [] e = at_end log ∙ sym (none_last (g (end_at log)))
    at_root (end_at log) (t ∷ ts) e = absurd (omega (arith, e))
    at_root (choice m names) ts e = at_move m names (with_names names ts) ∙ ap (join (g (choice m names))) (named f below last more names ts e)

    pub kept_gathers : (ns : List Kind) → AreTrees case_count 1 ns → f (kept ns) ≡ gather join none g ns
    kept_gathers ns are = gather_tree join none none_first none_last regroup case_count tree_over f g at_root (inner unproved nothing) ns are
