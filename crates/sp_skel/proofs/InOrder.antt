-- Nodes in memory have been gone over, and none is left.
use Rattle.std.proofs.Common.{◌≡◌, ◌∙◌, ℕ, ◌≤◌, List, ◌++◌, length, drop, sym, ap, subst}
use Rattle.std.proofs.lemmas.List.{append-nil, at_drop_all, drop_all}
use Rattle.sp_search.specs.declared.node.Node.{Node}
use Rattle.sp_search.specs.NodeView.{nodes_at}
use Rattle.sp_skel.specs.Nodes.{all_written, NodesHavePlaces}

pub all_done : (out whole : List ℕ) (around : List (List (List ℕ))) (place : ℕ) (all : List Node) → length all ≤ place → out ++ all_written around (nodes_at (drop place all)) ≡ whole → out ≡ whole
all_done out whole around place all past so =
    sym (append-nil out) ∙ ap (λ (xs : List ℕ). out ++ xs) (sym (at_drop_all (λ (ns : List Node). all_written around (nodes_at ns)) all place past)) ∙ so

pub places_done : (place : ℕ) (all : List Node) → length all ≤ place → NodesHavePlaces (nodes_at (drop place all))
places_done place all past = subst (λ (ns : List Node). NodesHavePlaces (nodes_at ns)) (sym (drop_all place all past)) tt
