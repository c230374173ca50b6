-- The nodes that come in place of an open leaf are one tree: the leaf replaced by its move.
use Rattle.std.proofs.Common.{◌≡◌, ◌∙◌, ℕ, zero, suc, ◌+◌, Bool, true, false, List, [], ◌∷◌, ◌++◌, map, take, drop, length, Option, Some, None, refl, sym, ap, ap₂, subst, arith, true≢false}
use Rattle.std.proofs.lemmas.List.{take_at, drop_at, length-map}
use Rattle.std.specs.Prelude.{if◌then◌else◌}
use Rattle.sp_spec.specs.Log.{Log}
use Rattle.sp_spec_system.specs.System.{System}
use Rattle.sp_spec_system.specs.Move.{Move, Context, Case, end_log}
use Rattle.sp_spec_proof.specs.Cases.{cases}
use Rattle.sp_spec_proof.specs.Tree.{is_solved}
use Rattle.sp_spec_proof.specs.Choice.{Ranked, class_of}
use Rattle.sp_spec_proof.specs.Growth.{has_class}
use Rattle.sp_spec_nodes.specs.Preorder.{AreTrees}
use Rattle.sp_spec_nodes.proofs.Preorder.{are_appended}
use Rattle.sp_search.specs.Kept.{Kept, inner, with_names}
use Rattle.sp_search.specs.Kinds.{Kind, open_leaf, end_at, choice, case_count, all_kept}
use Rattle.sp_search.specs.Growing as growing
use Rattle.sp_search.specs.Growing.{cases_or_none, leaves_at, ended_with, replaced, opened}
use Rattle.sp_search.specs.Turning.{open_node, name_of, move_nodes, end_node, replaced_nodes, in_place_of, grown_front, grown_at, leaf_at}
use Rattle.sp_search.proofs.GrownNodes.{then_others, grow_all, all_rest}

-- ---- how many

leaves_are : (context : Context) (depth : ℕ) (cs : List Case) → AreTrees case_count (length (map name_of cs)) (map (open_node context depth) cs)
leaves_are context depth [] = tt
leaves_are context depth (c ∷ cs) =
    let e : length (map name_of cs) ≡ 0 + length (map name_of cs) = omega arith in
    subst (λ (n : ℕ). AreTrees case_count n (map (open_node context depth) cs)) e (leaves_are context depth cs)

abbrev OneMore : ℕ → List Kind → List Kind → Type 0
OneMore j made ns = AreTrees case_count (suc j) (made ++ ns)

move_one : (context : Context) (m : Move) (depth j : ℕ) (cs : List Case) (ns : List Kind) → AreTrees case_count j ns → OneMore j (move_nodes context m depth cs) ns
move_one context m depth j cs ns are = are_appended case_count (length (map name_of cs)) j (map (open_node context depth) cs) ns (leaves_are context depth cs) are

end_one : (o : Option Log) (j : ℕ) (ns : List Kind) → AreTrees case_count j ns → OneMore j (end_node o ∷ []) ns
end_one None j ns are = let e : j ≡ 0 + j = omega arith in subst (λ (n : ℕ). AreTrees case_count n ns) e are
end_one (Some log) j ns are = let e : j ≡ 0 + j = omega arith in subst (λ (n : ℕ). AreTrees case_count n ns) e are

replaced_one : (context : Context) (s : System) (m : Move) (depth j : ℕ) (ns : List Kind) → AreTrees case_count j ns → OneMore j (replaced_nodes context s m depth) ns
replaced_one context s m depth j ns are = by_end (is_solved m)
  where
    by_end : (ends : Bool)
        → OneMore j (let made : List Kind = if ends then end_node (end_log context s) ∷ [] else move_nodes context m (depth + 1) (cases_or_none (cases context s m)) in made) ns
    by_end true = end_one (end_log context s) j ns are
    by_end false = move_one context m (depth + 1) j (cases_or_none (cases context s m)) ns are

pub front_are : (context : Context) (j : ℕ) (ns : List Kind) → AreTrees case_count j ns → AreTrees case_count j (grown_front context ns)
front_are context zero [] are = are
front_are context (suc j) [] are = are
front_are context zero (n ∷ ns) are = absurd are
front_are context (suc j) (open_leaf s None depth ∷ ns) are = are
front_are context (suc j) (open_leaf s (Some r) depth ∷ ns) are =
    let e : 0 + j ≡ j = omega arith in
    replaced_one context s r.move depth j ns (subst (λ (n : ℕ). AreTrees case_count n ns) e are)
front_are context (suc j) (end_at log ∷ ns) are = are
front_are context (suc j) (choice m names ∷ ns) are = are

-- a list with one node replaced stands for as many trees
pub grown_are : (context : Context) (place j : ℕ) (ns : List Kind) → AreTrees case_count j ns → AreTrees case_count j (grown_at context place ns)
grown_are context zero j ns are = front_are context j ns are
grown_are context (suc place) j [] are = are
grown_are context (suc place) zero (n ∷ ns) are = absurd are
grown_are context (suc place) (suc j) (n ∷ ns) are = grown_are context place (case_count n + j) ns are

-- ---- which tree

leaves_before : (context : Context) (depth : ℕ) (cs : List Case) (ns : List Kind)
    → all_kept (map (open_node context depth) cs ++ ns) ≡ map (λ (c : Case). growing.open_leaf context depth c.system) cs ++ all_kept ns
leaves_before context depth [] ns = refl
leaves_before context depth (c ∷ cs) ns = ap (λ (ts : List Kept). growing.open_leaf context depth c.system ∷ ts) (leaves_before context depth cs ns)

leaves_named : (context : Context) (depth : ℕ) (cs : List Case) → with_names (map name_of cs) (map (λ (c : Case). growing.open_leaf context depth c.system) cs) ≡ leaves_at context depth cs
leaves_named context depth [] = refl
leaves_named context depth (c ∷ cs) = rw (leaves_named context depth cs) refl

move_kept : (context : Context) (m : Move) (depth : ℕ) (cs : List Case) (ns : List Kind) → all_kept (move_nodes context m depth cs ++ ns) ≡ inner m (leaves_at context depth cs) ∷ all_kept ns
move_kept context m depth cs ns =
    let ts : List Kept = map (λ (c : Case). growing.open_leaf context depth c.system) cs in
    let n : ℕ = length (map name_of cs) in
    let many : length ts ≡ n = length-map cs (λ (c : Case). growing.open_leaf context depth c.system) ∙ sym (length-map cs name_of) in
    ap (λ (us : List Kept). inner m (with_names (map name_of cs) (take n us)) ∷ drop n us) (leaves_before context depth cs ns)
    ∙ ap₂ (λ (us vs : List Kept). inner m (with_names (map name_of cs) us) ∷ vs) (take_at ts (all_kept ns) n many) (drop_at ts (all_kept ns) n many)
    ∙ ap (λ (ks : _). inner m ks ∷ all_kept ns) (leaves_named context depth cs)

end_kept : (o : Option Log) (ns : List Kind) → all_kept (end_node o ∷ ns) ≡ ended_with o ∷ all_kept ns
end_kept None ns = refl
end_kept (Some log) ns = refl

replaced_kept : (context : Context) (s : System) (m : Move) (depth : ℕ) (ns : List Kind) → all_kept (replaced_nodes context s m depth ++ ns) ≡ replaced context s m depth ∷ all_kept ns
replaced_kept context s m depth ns = by_end (is_solved m)
  where
    by_end : (ends : Bool)
        → all_kept ((let made : List Kind = if ends then end_node (end_log context s) ∷ [] else move_nodes context m (depth + 1) (cases_or_none (cases context s m)) in made) ++ ns)
        ≡ (let t : Kept = if ends then ended_with (end_log context s) else inner m (leaves_at context (depth + 1) (cases_or_none (cases context s m))) in t) ∷ all_kept ns
    by_end true = end_kept (end_log context s) ns
    by_end false = move_kept context m (depth + 1) (cases_or_none (cases context s m)) ns

-- a leaf of the class is replaced, and nothing behind it
pub leaf_grows : (context : Context) (k : ℕ) (s : System) (chosen : Option Ranked) (depth : ℕ) (ns : List Kind) → has_class (class_of chosen depth) k ≡ true
    → grow_all context k false (all_kept (open_leaf s chosen depth ∷ ns)) ≡ (all_kept (in_place_of context (open_leaf s chosen depth) ++ ns), true)
leaf_grows context k s None depth ns is = absurd (true≢false (sym is))
leaf_grows context k s (Some chosen) depth ns is =
    ap (λ (b : Bool). then_others (opened context s (Some chosen) depth b) (λ now. grow_all context k now (all_kept ns))) is
    ∙ ap (λ (r : List Kept × Bool). (replaced context s chosen.move depth ∷ r.0, r.1)) (all_rest context k (all_kept ns))
    ∙ ap (λ (ts : List Kept). (ts, true)) (sym (replaced_kept context s chosen.move depth ns))

-- ---- at a place

-- nothing is replaced where no open leaf is
pub none_replaced : (context : Context) (place : ℕ) (ns : List Kind) → None ≡ leaf_at place ns → ns ≡ grown_at context place ns
none_replaced context zero [] e = refl
none_replaced context zero (open_leaf s m depth ∷ ns) e = absurd (cc)
none_replaced context zero (end_at log ∷ ns) e = refl
none_replaced context zero (choice m names ∷ ns) e = refl
none_replaced context (suc place) [] e = refl
none_replaced context (suc place) (n ∷ ns) e = ap (λ (ms : List Kind). n ∷ ms) (none_replaced context place ns e)

-- an open leaf is, unless no move is chosen for it
pub leaf_replaced : (context : Context) (place : ℕ) (ns : List Kind) (s : System) (chosen : Option Ranked) (depth : ℕ) → Some (open_leaf s chosen depth) ≡ leaf_at place ns
    → take place ns ++ (in_place_of context (open_leaf s chosen depth) ++ drop (suc place) ns) ≡ grown_at context place ns
leaf_replaced context zero [] s chosen depth e = absurd (cc)
leaf_replaced context zero (open_leaf t other own ∷ ns) s chosen depth e =
    let same : open_leaf s chosen depth ≡ open_leaf t other own = cc in
    ap (λ (k : Kind). in_place_of context k ++ ns) same
leaf_replaced context zero (end_at log ∷ ns) s chosen depth e = absurd (cc)
leaf_replaced context zero (choice n names ∷ ns) s chosen depth e = absurd (cc)
leaf_replaced context (suc place) [] s chosen depth e = absurd (cc)
leaf_replaced context (suc place) (n ∷ ns) s chosen depth e = ap (λ (ms : List Kind). n ∷ ms) (leaf_replaced context place ns s chosen depth e)
