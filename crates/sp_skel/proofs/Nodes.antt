-- The text that is written node by node is the tree's.
use Rattle.std.proofs.Common.{arith, ◌≡◌, ◌∙◌, refl, sym, ap, ℕ, suc, ◌+◌, List, [], ◌∷◌, ◌++◌, codes, length, take, drop, subst, append_assoc}
use Rattle.std.proofs.lemmas.List.{append-nil}
use Rattle.sp_spec_system.specs.Move.{Move, unproved, solved}
use Rattle.sp_spec_proof.specs.Tree.{Tree, node, Branches, no_branch, branch}
use Rattle.sp_spec_nodes.specs.Preorder.{AreTrees}
use Rattle.sp_spec_nodes.proofs.Preorder.{count_trees}
use Rattle.sp_spec_nodes.proofs.Gathered.{one_tree}
use Rattle.sp_search.specs.Kept.{Kept, inner, nothing, with_names, shown, shown_all}
use Rattle.sp_search.specs.Kinds.{Kind, open_leaf, end_at, choice, case_count, tree_over, all_kept, kept}
use Rattle.sp_skel.specs.Nodes.{behind, leaf, over_cases, all_written}
use Rattle.sp_skel.specs.TreeText.{line, leading, move_text, tree_text, cases_text}

-- ---- what stands behind a tree

-- what stands behind a case, with the names of the later ones; `later` is what stands behind the last
abbrev behind_case : (List Kept → List ℕ) → ℕ → List (List ℕ) → List Kept → List ℕ
behind_case later depth [] ts = line depth (codes "qed") ++ later ts
behind_case later depth (name ∷ names) [] = []
behind_case later depth (name ∷ names) (t ∷ ts) =
    line depth (codes "next") ++ (line (suc depth) (codes "case " ++ name) ++ (tree_text (suc depth) (shown t) ++ behind_case later depth names ts))

abbrev behind_tree : List (List (List ℕ)) → List Kept → List ℕ
behind_tree [] ts = []
behind_tree (names ∷ around) ts = behind_case (behind_tree around) (length around) names ts

-- the text of the first of these trees and what stands behind it, where the others are those of the cases to come
abbrev text_from : List (List (List ℕ)) → List Kept → List ℕ
text_from around [] = []
text_from around (t ∷ ts) = tree_text (length around) (shown t) ++ behind_tree around ts

abbrev to_come : List (List (List ℕ)) → ℕ
to_come [] = 0
to_come (names ∷ around) = length names + to_come around

-- the cases of a move, and what stands behind them
cases_from : (later : List Kept → List ℕ) (depth j : ℕ) (name : List ℕ) (t : Kept) (names : List (List ℕ)) (ts : List Kept) → length ts ≡ length names + j
    → cases_text depth (branch name (shown t) (shown_all (with_names names (take (length names) ts)))) ++ later (drop (length names) ts)
    ≡ line (suc depth) (codes "case " ++ name) ++ (tree_text (suc depth) (shown t) ++ behind_case later depth names ts)
cases_from later depth j name t [] ts e =
    let case : List ℕ = line (suc depth) (codes "case " ++ name) in
    let inside : List ℕ = tree_text (suc depth) (shown t) in
    let qed : List ℕ = line depth (codes "qed") in
    append_assoc case (inside ++ qed) (later ts) ∙ ap (λ (xs : List ℕ). case ++ xs) (append_assoc inside qed (later ts))
cases_from later depth j name t (next ∷ names) [] e = absurd (omega (arith, e))
cases_from later depth j name t (next ∷ names) (u ∷ ts) e =
    let case : List ℕ = line (suc depth) (codes "case " ++ name) in
    let inside : List ℕ = tree_text (suc depth) (shown t) in
    let between : List ℕ = line depth (codes "next") in
    let others : List ℕ = cases_text depth (branch next (shown u) (shown_all (with_names names (take (length names) ts)))) in
    let rest : List ℕ = later (drop (length names) ts) in
    append_assoc case (inside ++ (between ++ others)) rest
    ∙ ap (λ (xs : List ℕ). case ++ xs) (append_assoc inside (between ++ others) rest ∙ ap (λ (xs : List ℕ). inside ++ xs) (append_assoc between others rest))
    ∙ ap (λ (xs : List ℕ). case ++ (inside ++ (between ++ xs))) (cases_from later depth j next u names ts (omega (arith, e)))

over_names : (around : List (List (List ℕ))) (j : ℕ) (m : Move) (name : List ℕ) (t : Kept) (names : List (List ℕ)) (ts : List Kept) → length ts ≡ length names + j
    → (line (length around) (move_text m) ++ line (suc (length around)) (codes "case " ++ name)) ++ text_from (names ∷ around) (t ∷ ts)
    ≡ (line (length around) (move_text m) ++ cases_text (length around) (branch name (shown t) (shown_all (with_names names (take (length names) ts))))) ++ behind_tree around (drop (length names) ts)
over_names around j m name t names ts e =
    let words : List ℕ = line (length around) (move_text m) in
    let case : List ℕ = line (suc (length around)) (codes "case " ++ name) in
    let all : List ℕ = cases_text (length around) (branch name (shown t) (shown_all (with_names names (take (length names) ts)))) in
    append_assoc words case (text_from (names ∷ around) (t ∷ ts))
    ∙ ap (λ (xs : List ℕ). words ++ xs) (sym (cases_from (behind_tree around) (length around) j name t names ts e))
    ∙ sym (append_assoc words all (behind_tree around (drop (length names) ts)))

named_text : (depth : ℕ) (m : Move) (x : ℕ) (name : List ℕ) (t : Tree) (bs : Branches) → tree_text depth (node m (branch (x ∷ name) t bs)) ≡ line depth (move_text m) ++ cases_text depth (branch (x ∷ name) t bs)
named_text depth m x name t no_branch = refl
named_text depth m x name t (branch n u bs) = refl

-- a move over cases, and what stands behind them
over_from : (around : List (List (List ℕ))) (j : ℕ) (m : Move) (name : List ℕ) (t : Kept) (names : List (List ℕ)) (ts : List Kept) → length ts ≡ length names + j
    → (over_cases around m name names).0 ++ text_from (over_cases around m name names).1 (t ∷ ts)
    ≡ tree_text (length around) (node m (branch name (shown t) (shown_all (with_names names (take (length names) ts))))) ++ behind_tree around (drop (length names) ts)
over_from around j m [] t [] ts e = sym (append_assoc (line (length around) (move_text m)) (tree_text (length around) (shown t)) (behind_tree around ts))
over_from around j m [] t (n ∷ names) [] e = absurd (omega (arith, e))
over_from around j m [] t (n ∷ names) (u ∷ ts) e = over_names around j m [] t (n ∷ names) (u ∷ ts) e
over_from around j m (x ∷ name) t names ts e =
    over_names around j m (x ∷ name) t names ts e
    ∙ ap (λ (xs : List ℕ). xs ++ behind_tree around (drop (length names) ts)) (sym (named_text (length around) m x name (shown t) (shown_all (with_names names (take (length names) ts)))))

-- ---- node by node

-- for the nodes behind one
abbrev IsText : List Kind → Type 0
IsText ns = (around : List (List (List ℕ))) → AreTrees case_count (suc (to_come around)) ns → all_written around ns ≡ text_from around (all_kept ns)

next_case : (around : List (List (List ℕ))) (j : ℕ) (name : List ℕ) (names : List (List ℕ)) (ts : List Kept) → length ts ≡ suc j
    → (line (length around) (codes "next") ++ line (suc (length around)) (codes "case " ++ name)) ++ text_from (names ∷ around) ts ≡ behind_tree ((name ∷ names) ∷ around) ts
next_case around j name names [] e = absurd (omega (arith, e))
next_case around j name names (t ∷ ts) e =
    append_assoc (line (length around) (codes "next")) (line (suc (length around)) (codes "case " ++ name)) (text_from (names ∷ around) (t ∷ ts))

behind_is : (ns : List Kind) → IsText ns → (around : List (List (List ℕ))) → AreTrees case_count (to_come around) ns
    → (behind around).0 ++ all_written (behind around).1 ns ≡ behind_tree around (all_kept ns)
behind_is [] again [] are = refl
behind_is (n ∷ ns) again [] are = absurd are
behind_is ns again ([] ∷ around) are =
    let e : 0 + to_come around ≡ to_come around = omega arith in
    let inner : (behind around).0 ++ all_written (behind around).1 ns ≡ behind_tree around (all_kept ns) =
    behind_is ns again around (subst (λ (n : ℕ). AreTrees case_count n ns) e are) in
    append_assoc (line (length around) (codes "qed")) (behind around).0 (all_written (behind around).1 ns) ∙ ap (λ (xs : List ℕ). line (length around) (codes "qed") ++ xs) inner
behind_is ns again ((name ∷ names) ∷ around) are =
    let e : suc (length names) + to_come around ≡ suc (length names + to_come around) = omega arith in
    let ours : AreTrees case_count (suc (to_come (names ∷ around))) ns = subst (λ (n : ℕ). AreTrees case_count n ns) e are in
    let case : List ℕ = line (length around) (codes "next") ++ line (suc (length around)) (codes "case " ++ name) in
    ap (λ (xs : List ℕ). case ++ xs) (again (names ∷ around) ours)
    ∙ next_case around (to_come (names ∷ around)) name names (all_kept ns) (count_trees case_count tree_over (suc (to_come (names ∷ around))) ns ours)

leaf_is : (ns : List Kind) → IsText ns → (around : List (List (List ℕ))) (m : Move) → AreTrees case_count (0 + to_come around) ns
    → (leaf around m).0 ++ all_written (leaf around m).1 ns ≡ line (length around) (leading m ++ move_text m) ++ behind_tree around (all_kept ns)
leaf_is ns again around m are =
    let e : 0 + to_come around ≡ to_come around = omega arith in
    let words : List ℕ = line (length around) (leading m ++ move_text m) in
    append_assoc words (behind around).0 (all_written (behind around).1 ns)
    ∙ ap (λ (xs : List ℕ). words ++ xs) (behind_is ns again around (subst (λ (n : ℕ). AreTrees case_count n ns) e are))

inside : (ns : List Kind) → IsText ns → (around : List (List (List ℕ))) (m : Move) (name : List ℕ) (names : List (List ℕ)) → AreTrees case_count (suc (length names) + to_come around) ns
    → all_written (over_cases around m name names).1 ns ≡ text_from (over_cases around m name names).1 (all_kept ns)
inside ns again around m [] [] are =
    let e : 1 + to_come around ≡ suc (to_come around) = omega arith in again around (subst (λ (n : ℕ). AreTrees case_count n ns) e are)
inside ns again around m [] (next ∷ names) are =
    let e : suc (suc (length names)) + to_come around ≡ suc (suc (length names) + to_come around) = omega arith in
    again ((next ∷ names) ∷ around) (subst (λ (n : ℕ). AreTrees case_count n ns) e are)
inside ns again around m (x ∷ name) names are =
    let e : suc (length names) + to_come around ≡ suc (length names + to_come around) = omega arith in again (names ∷ around) (subst (λ (n : ℕ). AreTrees case_count n ns) e are)

over_is : (around : List (List (List ℕ))) (m : Move) (name : List ℕ) (names : List (List ℕ)) (ts : List Kept) → length ts ≡ suc (length names) + to_come around
    → (over_cases around m name names).0 ++ text_from (over_cases around m name names).1 ts
    ≡ text_from around (inner m (with_names (name ∷ names) (take (suc (length names)) ts)) ∷ drop (suc (length names)) ts)
over_is around m name names [] e = absurd (omega (arith, e))
over_is around m name names (t ∷ ts) e = over_from around (to_come around) m name t names ts (omega (arith, e))

text_is : (ns : List Kind) → IsText ns
text_is [] around are = absurd are
text_is (open_leaf s chosen depth ∷ ns) around are = leaf_is ns (text_is ns) around unproved are
text_is (end_at log ∷ ns) around are = leaf_is ns (text_is ns) around solved are
text_is (choice m [] ∷ ns) around are = leaf_is ns (text_is ns) around m are
text_is (choice m (name ∷ names) ∷ ns) around are =
    ap (λ (xs : List ℕ). (over_cases around m name names).0 ++ xs) (inside ns (text_is ns) around m name names are)
    ∙ over_is around m name names (all_kept ns) (count_trees case_count tree_over (suc (length names) + to_come around) ns are)

-- the text of the nodes of one tree
pub all_is : (ns : List Kind) → AreTrees case_count 1 ns → all_written [] ns ≡ tree_text 0 (shown (kept ns))
all_is ns are =
    text_is ns [] are
    ∙ ap (text_from []) (one_tree (inner unproved nothing) (all_kept ns) (count_trees case_count tree_over 1 ns are))
    ∙ append-nil (tree_text 0 (shown (kept ns)))
