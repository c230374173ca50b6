-- The text of a tree has no word `end`: its tokens lead to whatever follows it.
use Rattle.std.proofs.Common.{◌≡◌, ℕ, zero, suc, Bool, true, false, if◌then◌else◌, List, [], ◌∷◌, ◌++◌, codes, refl, sym, ap, subst, ◌∙◌, append_assoc}
use Rattle.sp_spec_text.specs.Token.{word}
use Rattle.sp_spec_text.specs.Lex.{is_blank, no_gap, is_end, is_solve, as_it_is}
use Rattle.sp_spec_text.specs.Lex as lex
use Rattle.sp_spec_text.specs.Names.{IsName, IsWord}
use Rattle.sp_spec_system.specs.Move.{Move}
use Rattle.sp_spec_system.specs.Words.{Words, method, goal, words_of, AreWithin, words_text, goal_text, stand_alone}
use Rattle.sp_spec_proof.specs.Tree.{Tree, node, Branches, no_branch, branch}
use Rattle.sp_skel.specs.TreeText.{indent, line, move_text, leading, tree_text, cases_text}
use Rattle.sp_skel.specs.Places.{HasSides, IsSaid}
use Rattle.sp_skel.specs.Spelling.{IsReadable, AreReadable}
use Rattle.sp_skel.proofs.Blanks.{gap_blank, Ends, piece_word, gap_word, space, line_end, bracket_ends, gap_bracket, solve_goal, is_word_solve}
use Rattle.sp_skel.proofs.Goals.{Closes, closes_goal}
use Rattle.sp_skel.proofs.ReadBack.{name_goes_on, name_no_goal, word_by, word_case, word_next, word_qed}
use Rattle.sp_skel.proofs.Spelled.{HaveCase}
use Rattle.sp_skel.proofs.Table.{IsLine, lines, read_back}
use Rattle.sp_law_reread.proofs.Leads.{Leads, past_gap, past_one}

pub leads_at : {to bytes others : List ℕ} → bytes ≡ others → Leads to others → Leads to bytes
leads_at {to} e l = subst (λ (b : List ℕ). Leads to b) (sym e) l

pub leads_blank : {to bytes : List ℕ} (b : ℕ) → is_blank b ≡ true → Leads to bytes → Leads to (b ∷ bytes)
leads_blank {bytes = bytes} b h l = past_gap (gap_blank b bytes h) l

leads_word : {to : List ℕ} (w : List ℕ) (b : ℕ) (rest : List ℕ) → IsWord w → Ends b → is_end (word w) ≡ false → is_solve (word w) ≡ false → Leads to (b ∷ rest) → Leads to (w ++ b ∷ rest)
leads_word [] b rest h e d s l = absurd h
leads_word (c ∷ w) b rest h e d s l = past_one (no_gap (gap_word c (w ++ b ∷ rest) h.0)) (as_it_is (piece_word (c ∷ w) b rest h e) s) d l

leads_goal : {to : List ℕ} (inside rest : List ℕ) → Closes inside → Leads to rest → Leads to (codes "solve" ++ 40 ∷ (inside ++ 41 ∷ rest))
leads_goal inside rest closes l =
    let all = inside ++ 41 ∷ rest in
    past_one (no_gap (gap_word 115 (codes "olve" ++ 40 ∷ all) refl)) (lex.goal (piece_word (codes "solve") 40 all is_word_solve bracket_ends) refl (no_gap (gap_bracket all)) (solve_goal inside rest closes)) refl l

-- ---- moves and cases

leads_words : {to : List ℕ} (m : Move) (ws : Words) (rest : List ℕ) → IsLine m ws → AreWithin ws → HasSides m → Leads to (10 ∷ rest) → Leads to (words_text ws ++ 10 ∷ rest)
leads_words m (method w) rest line h sides l = leads_word w 10 rest line.is_word line_end line.goes_on line.no_goal l
leads_words m (goal w arguments) rest line h sides l =
    let inside : List ℕ = goal_text w arguments in
    leads_at (ap (λ (bytes : List ℕ). codes "solve(" ++ bytes) (append_assoc inside (codes ")") (10 ∷ rest))) (leads_goal inside (10 ∷ rest) (closes_goal w arguments line.unbroken (read_back m w arguments line h sides)) l)

leads_move : {to : List ℕ} (m : Move) (rest : List ℕ) → IsSaid m → Leads to (10 ∷ rest) → Leads to (move_text m ++ 10 ∷ rest)
leads_move m rest h l = leads_words m (words_of m) rest (lines m) h.0 h.1 l

leads_by : {to : List ℕ} (m : Move) (rest : List ℕ) → IsSaid m → Leads to (10 ∷ rest) → Leads to ((codes "by " ++ move_text m) ++ 10 ∷ rest)
leads_by m rest h l = leads_word (codes "by") 32 (move_text m ++ 10 ∷ rest) word_by space refl refl (leads_blank 32 refl (leads_move m rest h l))

leads_leaf : {to : List ℕ} (m : Move) (rest : List ℕ) → IsSaid m → Leads to (10 ∷ rest) → Leads to ((leading m ++ move_text m) ++ 10 ∷ rest)
leads_leaf {to} m rest h l = at (stand_alone (words_of m))
  where
    at : (b : Bool) → Leads to (((if b then [] else codes "by ") ++ move_text m) ++ 10 ∷ rest)
    at true = leads_move m rest h l
    at false = leads_by m rest h l

leads_case : {to : List ℕ} (n rest : List ℕ) → IsName n → IsWord n → Leads to (10 ∷ rest) → Leads to ((codes "case " ++ n) ++ 10 ∷ rest)
leads_case n rest h w l =
    leads_word (codes "case") 32 (n ++ 10 ∷ rest) word_case space refl refl (leads_blank 32 refl (leads_word n 10 rest w line_end (name_goes_on n h) (name_no_goal n h) l))

-- ---- lines

leads_indent : {to bytes : List ℕ} (depth : ℕ) → Leads to bytes → Leads to (indent depth ++ bytes)
leads_indent zero l = l
leads_indent (suc depth) l = leads_blank 32 refl (leads_blank 32 refl (leads_indent depth l))

leads_line : {to : List ℕ} (depth : ℕ) (words rest : List ℕ) → Leads to (words ++ 10 ∷ rest) → Leads to (line depth words ++ rest)
leads_line depth words rest l =
    leads_at (append_assoc (indent depth) (words ++ codes "\n") rest ∙ ap (λ (bytes : List ℕ). indent depth ++ bytes) (append_assoc words (codes "\n") rest)) (leads_indent depth l)

-- a line, and what follows it
leads_behind : {to : List ℕ} (depth : ℕ) (words more rest : List ℕ) → Leads to (words ++ 10 ∷ (more ++ rest)) → Leads to ((line depth words ++ more) ++ rest)
leads_behind depth words more rest l = leads_at (append_assoc (line depth words) more rest) (leads_line depth words (more ++ rest) l)

-- ---- trees

mutual
  pub leads_tree : {to : List ℕ} (depth : ℕ) (t : Tree) (rest : List ℕ) → IsReadable t → Leads to rest → Leads to (tree_text depth t ++ rest)
  leads_tree depth (node m no_branch) rest h l = leads_line depth (leading m ++ move_text m) rest (leads_leaf m rest h (leads_blank 10 refl l))
  leads_tree depth (node m (branch [] t no_branch)) rest h l =
      leads_behind depth (move_text m) (tree_text depth t) rest (leads_move m (tree_text depth t ++ rest) h.0 (leads_blank 10 refl (leads_tree depth t rest h.2 l)))
  leads_tree depth (node m (branch [] t (branch n u bs))) rest h l =
      leads_behind depth (move_text m) (cases_text depth (branch [] t (branch n u bs))) rest
      (leads_move m (cases_text depth (branch [] t (branch n u bs)) ++ rest) h.0 (leads_blank 10 refl (leads_cases depth (branch [] t (branch n u bs)) rest tt h.2 l)))
  leads_tree depth (node m (branch (b ∷ name) t bs)) rest h l =
      leads_behind depth (move_text m) (cases_text depth (branch (b ∷ name) t bs)) rest
      (leads_move m (cases_text depth (branch (b ∷ name) t bs) ++ rest) h.0 (leads_blank 10 refl (leads_cases depth (branch (b ∷ name) t bs) rest tt h.2 l)))

  leads_cases : {to : List ℕ} (depth : ℕ) (bs : Branches) (rest : List ℕ) → HaveCase bs → AreReadable bs → Leads to rest → Leads to (cases_text depth bs ++ rest)
  leads_cases depth no_branch rest some h l = absurd some
  leads_cases depth (branch n t no_branch) rest some h l =
      let end = line depth (codes "qed") in
      leads_behind (suc depth) (codes "case " ++ n) (tree_text (suc depth) t ++ end) rest
      (leads_case n ((tree_text (suc depth) t ++ end) ++ rest) h.0 h.1 (leads_blank 10 refl
      (leads_at (append_assoc (tree_text (suc depth) t) end rest) (leads_tree (suc depth) t (end ++ rest) h.2 (leads_line depth (codes "qed") rest (leads_word (codes "qed") 10 rest word_qed line_end refl refl (leads_blank 10 refl l)))))))
  leads_cases depth (branch n t (branch m u bs)) rest some h l =
      let end = line depth (codes "next") ++ cases_text depth (branch m u bs) in
      let more = cases_text depth (branch m u bs) ++ rest in
      leads_behind (suc depth) (codes "case " ++ n) (tree_text (suc depth) t ++ end) rest
      (leads_case n ((tree_text (suc depth) t ++ end) ++ rest) h.0 h.1 (leads_blank 10 refl
      (leads_at (append_assoc (tree_text (suc depth) t) end rest) (leads_tree (suc depth) t (end ++ rest) h.2
      (leads_behind depth (codes "next") (cases_text depth (branch m u bs)) rest (leads_word (codes "next") 10 more word_next line_end refl refl (leads_blank 10 refl (leads_cases depth (branch m u bs) rest tt h.3 l))))))))
