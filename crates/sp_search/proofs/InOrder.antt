-- Nodes in memory are gone over, one after the other.
use Rattle.std.proofs.Common.{◌≡◌, ◌∙◌, ℕ, ◌+◌, ◌<◌, ◌≤◌, true, false, List, ◌∷◌, ◌++◌, length, map, get_or, take, drop, drop-cons, Some, None, refl, sym, ap, ap₂, add-one}
use Rattle.std.proofs.lemmas.List.{at_drop_all, drop-map, take-map, map-append, map-id}
use Rattle.std.specs.List.{splice}
use Rattle.std.specs.declared.alloc.Global.{Global}
use Rattle.std.specs.declared.boxed.Box.{Box}
use Rattle.sp_spec_system.specs.System.{System}
use Rattle.sp_spec_system.specs.Move.{Context}
use Rattle.sp_spec_proof.specs.Choice.{Ranked}
use Rattle.sp_learn.specs.declared.log.Log.{Log}
use Rattle.sp_moves.specs.declared.moves.Move as memory
use Rattle.std.specs.declared.vec.Vec.{Vec}
use Rattle.std.specs.declared.string.String.{String}
use Rattle.sp_learn.specs.View.{log_of}
use Rattle.sp_search.specs.declared.node.Node.{Node}
use Rattle.sp_search.specs.declared.node.OpenLeaf.{OpenLeaf}
use Rattle.sp_search.specs.declared.node.Node.TheVariants.{Open, Ended, Inner}
use Rattle.sp_search.specs.Kinds.{open_leaf}
use Rattle.sp_search.specs.NodeView.{leaf_of, node_at, nodes_at}
use Rattle.sp_search.specs.Told.{leaves_none}
use Rattle.sp_search.specs.Turning.{leaf_at, leaf_in_front, replaced_nodes, grown_at}
use Rattle.sp_search.proofs.Replaced.{leaf_replaced}
use Rattle.sp_search.proofs.Told.{first_log_of, none_of, steps_of}

first_node : (place : ℕ) (all : List Node) (n : Node) → place < length all → n ≡ get_or all place n → nodes_at (drop place all) ≡ node_at n ∷ nodes_at (drop (place + 1) all)
first_node place all n below is =
    let split : drop place all ≡ n ∷ drop (place + 1) all = drop-cons all place n below ∙ rw (← is, add-one) refl in
    ap nodes_at split

pub left_at : (place : ℕ) (all : List Node) (n : Node) → place < length all → n ≡ get_or all place n → leaves_none (node_at n) ≡ false → none_of (nodes_at (drop place all)) ≡ false
left_at place all n below is e = ap none_of (first_node place all n below is) ∙ rw e refl

pub left_nowhere : (place : ℕ) (all : List Node) → length all ≤ place → none_of (nodes_at (drop place all)) ≡ true
left_nowhere place all past = at_drop_all (λ (ns : List Node). none_of (nodes_at ns)) all place past

pub no_steps : (place : ℕ) (all : List Node) → length all ≤ place → steps_of (nodes_at (drop place all)) ≡ 0
no_steps place all past = at_drop_all (λ (ns : List Node). steps_of (nodes_at ns)) all place past

pub log_here : (place : ℕ) (all : List Node) (n : Node) (log : Box Log Global) → place < length all → n ≡ get_or all place n → n ≡ Ended log → first_log_of (nodes_at (drop place all)) ≡ Some (log_of log.value)
log_here place all n log below is e = ap first_log_of (first_node place all n below is) ∙ rw e refl

pub log_nowhere : (place : ℕ) (all : List Node) → length all ≤ place → first_log_of (nodes_at (drop place all)) ≡ None
log_nowhere place all past = at_drop_all (λ (ns : List Node). first_log_of (nodes_at ns)) all place past

-- ---- the leaf at a place

at_place : (place : ℕ) (all : List Node) (n : Node) → place < length all → n ≡ get_or all place n → leaf_at place (nodes_at all) ≡ leaf_in_front (node_at n ∷ nodes_at (drop (place + 1) all))
at_place place all n below is = ap leaf_in_front (drop-map node_at place all ∙ first_node place all n below is)

pub leaf_found : (place : ℕ) (all : List Node) (n : Node) (leaf : Box OpenLeaf Global) → place < length all → n ≡ get_or all place n → n ≡ Open leaf → Some (leaf_of leaf.value) ≡ leaf_at place (nodes_at all)
leaf_found place all n leaf below is e = sym (at_place place all n below is ∙ rw e refl)

pub end_found : (place : ℕ) (all : List Node) (n : Node) (log : Box Log Global) → place < length all → n ≡ get_or all place n → n ≡ Ended log → None ≡ leaf_at place (nodes_at all)
end_found place all n log below is e = sym (at_place place all n below is ∙ rw e refl)

pub move_found : (place : ℕ) (all : List Node) (n : Node) (m : memory.Move) (names : Vec (String Global) Global) → place < length all → n ≡ get_or all place n → n ≡ Inner m names → None ≡ leaf_at place (nodes_at all)
move_found place all n m names below is e = sym (at_place place all n below is ∙ rw e refl)

-- the nodes that are put in place of a leaf's
pub spliced : (context : Context) (place : ℕ) (all new made came : List Node) (s : System) (chosen : Ranked) (depth : ℕ) → new ≡ splice all place (place + 1) came → map (λ (n : Node). n) came ≡ made
    → nodes_at made ≡ replaced_nodes context s chosen.move depth → Some (open_leaf s (Some chosen) depth) ≡ leaf_at place (nodes_at all) → nodes_at new ≡ grown_at context place (nodes_at all)
spliced context place all new made came s chosen depth is same nodes leaf =
    let front : nodes_at (take place all) ≡ take place (nodes_at all) = sym (take-map node_at place all) in
    let back : nodes_at (drop (place + 1) all) ≡ drop (place + 1) (nodes_at all) = sym (drop-map node_at (place + 1) all) in
    let middle : nodes_at came ≡ replaced_nodes context s chosen.move depth = ap nodes_at (sym (map-id came) ∙ same) ∙ nodes in
    ap nodes_at is
    ∙ map-append node_at (take place all) (came ++ drop (place + 1) all)
    ∙ ap₂ ◌++◌ front (map-append node_at came (drop (place + 1) all) ∙ ap₂ ◌++◌ middle back)
    ∙ ap (λ (n : ℕ). take place (nodes_at all) ++ (replaced_nodes context s chosen.move depth ++ drop n (nodes_at all))) (add-one place)
    ∙ leaf_replaced context place (nodes_at all) s (Some chosen) depth leaf
