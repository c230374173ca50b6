-- The text of a tree is read back as the tree.
use Rattle.std.proofs.Common.{◌≡◌, ℕ, suc, zero, ◌≤◌, Bool, true, false, if◌then◌else◌, List, [], ◌∷◌, ◌++◌, length, codes, refl, sym, ap, subst, ◌∙◌, append_assoc}
use Rattle.std.specs.Prelude.{◌||◌}
use Rattle.std.specs.Str.{bytes_eq}
use Rattle.std.proofs.lemmas.Bool.{or_parts}
use Rattle.sp_spec_text.specs.Token.{Lexeme, word, Token}
use Rattle.sp_spec_text.specs.Lex.{is_end, is_solve, skip, AreTokens, lexemes}
use Rattle.sp_spec_text.specs.Names.{is_reserved, IsName, IsWord}
use Rattle.sp_spec_system.specs.Move.{Move}
use Rattle.sp_spec_system.specs.Words.{Words, method, goal, words_of, AreWithin, words_text, goal_text, stand_alone}
use Rattle.sp_spec_proof.specs.Tree.{Tree, node, Branches, no_branch, branch}
use Rattle.sp_skel.specs.TreeText.{indent, line, move_text, leading, tree_text, cases_text}
use Rattle.sp_spec_text.specs.Proofs.{SpellsProof}
use Rattle.sp_skel.specs.Laws.{ReadsBack}
use Rattle.sp_skel.specs.Places.{HasSides, IsSaid}
use Rattle.sp_skel.specs.Spelling.{words_spelled, move_spelled, behind_by, spelled, cases_spelled, as_written, IsReadable, AreReadable}
use Rattle.sp_skel.proofs.Blanks.{Lexes, lexes_blank, space, line_end, lexes_word, lexes_goal}
use Rattle.sp_skel.proofs.Goals.{closes_goal}
use Rattle.sp_skel.proofs.Spelled.{HaveCase, tree_spells, tree_says}
use Rattle.sp_skel.proofs.Table.{IsLine, lines, read_back}

lexes_at : {size : ℕ} {bytes others : List ℕ} {xs : List Lexeme} → bytes ≡ others → Lexes size others xs → Lexes size bytes xs
lexes_at {size} {xs = xs} e l = subst (λ (b : List ℕ). Lexes size b xs) (sym e) l

-- ---- names

first_of : (a b c d e f g h : Bool) → (a || b || c || d || e || f || g || h) ≡ false → a ≡ false
first_of true b c d e f g h i = i
first_of false b c d e f g h i = refl

pub name_goes_on : (w : List ℕ) → IsName w → is_end (word w) ≡ false
unfolding is_reserved
name_goes_on w h =
    first_of (bytes_eq w (codes "end")) (bytes_eq w (codes "let")) (bytes_eq w (codes "in")) (bytes_eq w (codes "not")) (bytes_eq w (codes "All")) (bytes_eq w (codes "Ex")) (bytes_eq w (codes "last")) (bytes_eq w (codes "solve")) h

pub name_no_goal : (w : List ℕ) → IsName w → is_solve (word w) ≡ false
unfolding is_reserved
name_no_goal w h =
    (or_parts (bytes_eq w (codes "end") || bytes_eq w (codes "let") || bytes_eq w (codes "in") || bytes_eq w (codes "not") || bytes_eq w (codes "All") || bytes_eq w (codes "Ex") || bytes_eq w (codes "last")) (bytes_eq w (codes "solve")) h).1

-- ---- words of moves and cases

pub word_by : IsWord (codes "by")
unfolding skip
word_by = (refl, refl)

pub word_case : IsWord (codes "case")
unfolding skip
word_case = (refl, refl)

pub word_next : IsWord (codes "next")
unfolding skip
word_next = (refl, refl)

pub word_qed : IsWord (codes "qed")
unfolding skip
word_qed = (refl, refl)

lexes_words : {size : ℕ} {xs : List Lexeme} (m : Move) (ws : Words) (rest : List ℕ) → IsLine m ws → AreWithin ws → HasSides m → Lexes size (10 ∷ rest) xs → Lexes size (words_text ws ++ 10 ∷ rest) (words_spelled ws ∷ xs)
lexes_words m (method w) rest line h sides l = lexes_word w 10 rest line.is_word line_end line.goes_on line.no_goal l
lexes_words m (goal w arguments) rest line h sides l =
    let inside : List ℕ = goal_text w arguments in
    lexes_at (ap (λ (bytes : List ℕ). codes "solve(" ++ bytes) (append_assoc inside (codes ")") (10 ∷ rest))) (lexes_goal inside (10 ∷ rest) (closes_goal w arguments line.unbroken (read_back m w arguments line h sides)) l)

lexes_move : {size : ℕ} {xs : List Lexeme} (m : Move) (rest : List ℕ) → IsSaid m → Lexes size (10 ∷ rest) xs → Lexes size (move_text m ++ 10 ∷ rest) (move_spelled m ∷ xs)
lexes_move m rest h l = lexes_words m (words_of m) rest (lines m) h.0 h.1 l

lexes_by : {size : ℕ} {xs : List Lexeme} (m : Move) (rest : List ℕ) → IsSaid m → Lexes size (10 ∷ rest) xs → Lexes size ((codes "by " ++ move_text m) ++ 10 ∷ rest) (word (codes "by") ∷ move_spelled m ∷ xs)
lexes_by m rest h l = lexes_word (codes "by") 32 (move_text m ++ 10 ∷ rest) word_by space refl refl (lexes_blank 32 refl (lexes_move m rest h l))

-- a move without cases
lexes_leaf : {size : ℕ} {xs : List Lexeme} (m : Move) (rest : List ℕ) → IsSaid m → Lexes size (10 ∷ rest) xs → Lexes size ((leading m ++ move_text m) ++ 10 ∷ rest) (behind_by m (move_spelled m ∷ xs))
lexes_leaf {size} {xs} m rest h l = at (stand_alone (words_of m))
  where
    at : (b : Bool) → Lexes size (((if b then [] else codes "by ") ++ move_text m) ++ 10 ∷ rest) (if b then move_spelled m ∷ xs else word (codes "by") ∷ move_spelled m ∷ xs)
    at true = lexes_move m rest h l
    at false = lexes_by m rest h l

lexes_case : {size : ℕ} {xs : List Lexeme} (n rest : List ℕ) → IsName n → IsWord n → Lexes size (10 ∷ rest) xs → Lexes size ((codes "case " ++ n) ++ 10 ∷ rest) (word (codes "case") ∷ word n ∷ xs)
lexes_case n rest h w l =
    lexes_word (codes "case") 32 (n ++ 10 ∷ rest) word_case space refl refl (lexes_blank 32 refl (lexes_word n 10 rest w line_end (name_goes_on n h) (name_no_goal n h) l))

-- ---- lines

lexes_indent : {size : ℕ} {bytes : List ℕ} {xs : List Lexeme} (depth : ℕ) → Lexes size bytes xs → Lexes size (indent depth ++ bytes) xs
lexes_indent zero l = l
lexes_indent (suc depth) l = lexes_blank 32 refl (lexes_blank 32 refl (lexes_indent depth l))

lexes_line : {size : ℕ} {xs : List Lexeme} (depth : ℕ) (words rest : List ℕ) → Lexes size (words ++ 10 ∷ rest) xs → Lexes size (line depth words ++ rest) xs
lexes_line depth words rest l =
    lexes_at (append_assoc (indent depth) (words ++ codes "\n") rest ∙ ap (λ (bytes : List ℕ). indent depth ++ bytes) (append_assoc words (codes "\n") rest)) (lexes_indent depth l)

-- a line, and what follows it
lexes_behind : {size : ℕ} {xs : List Lexeme} (depth : ℕ) (words more rest : List ℕ) → Lexes size (words ++ 10 ∷ (more ++ rest)) xs → Lexes size ((line depth words ++ more) ++ rest) xs
lexes_behind depth words more rest l = lexes_at (append_assoc (line depth words) more rest) (lexes_line depth words (more ++ rest) l)

-- ---- trees

mutual
  pub lexes_tree : {size : ℕ} {xs : List Lexeme} (depth : ℕ) (t : Tree) (rest : List ℕ) → IsReadable t → Lexes size rest xs → Lexes size (tree_text depth t ++ rest) (spelled t xs)
  lexes_tree depth (node m no_branch) rest h l = lexes_line depth (leading m ++ move_text m) rest (lexes_leaf m rest h (lexes_blank 10 refl l))
  lexes_tree depth (node m (branch [] t no_branch)) rest h l =
      lexes_behind depth (move_text m) (tree_text depth t) rest (lexes_move m (tree_text depth t ++ rest) h.0 (lexes_blank 10 refl (lexes_tree depth t rest h.2 l)))
  lexes_tree depth (node m (branch [] t (branch n u bs))) rest h l =
      lexes_behind depth (move_text m) (cases_text depth (branch [] t (branch n u bs))) rest
      (lexes_move m (cases_text depth (branch [] t (branch n u bs)) ++ rest) h.0 (lexes_blank 10 refl (lexes_cases depth (branch [] t (branch n u bs)) rest tt h.2 l)))
  lexes_tree depth (node m (branch (b ∷ name) t bs)) rest h l =
      lexes_behind depth (move_text m) (cases_text depth (branch (b ∷ name) t bs)) rest
      (lexes_move m (cases_text depth (branch (b ∷ name) t bs) ++ rest) h.0 (lexes_blank 10 refl (lexes_cases depth (branch (b ∷ name) t bs) rest tt h.2 l)))

  pub lexes_cases : {size : ℕ} {xs : List Lexeme} (depth : ℕ) (bs : Branches) (rest : List ℕ) → HaveCase bs → AreReadable bs → Lexes size rest xs → Lexes size (cases_text depth bs ++ rest) (cases_spelled bs xs)
  lexes_cases depth no_branch rest some h l = absurd some
  lexes_cases depth (branch n t no_branch) rest some h l =
      let end = line depth (codes "qed") in
      lexes_behind (suc depth) (codes "case " ++ n) (tree_text (suc depth) t ++ end) rest
      (lexes_case n ((tree_text (suc depth) t ++ end) ++ rest) h.0 h.1 (lexes_blank 10 refl
      (lexes_at (append_assoc (tree_text (suc depth) t) end rest) (lexes_tree (suc depth) t (end ++ rest) h.2 (lexes_line depth (codes "qed") rest (lexes_word (codes "qed") 10 rest word_qed line_end refl refl (lexes_blank 10 refl l)))))))
  lexes_cases depth (branch n t (branch m u bs)) rest some h l =
      let end = line depth (codes "next") ++ cases_text depth (branch m u bs) in
      let more = cases_text depth (branch m u bs) ++ rest in
      lexes_behind (suc depth) (codes "case " ++ n) (tree_text (suc depth) t ++ end) rest
      (lexes_case n ((tree_text (suc depth) t ++ end) ++ rest) h.0 h.1 (lexes_blank 10 refl
      (lexes_at (append_assoc (tree_text (suc depth) t) end rest) (lexes_tree (suc depth) t (end ++ rest) h.2
      (lexes_behind depth (codes "next") (cases_text depth (branch m u bs)) rest (lexes_word (codes "next") 10 more word_next line_end refl refl (lexes_blank 10 refl (lexes_cases depth (branch m u bs) rest tt h.3 l))))))))

pub reads_back : (depth size : ℕ) (t : Tree) (rest : List ℕ) (us : List Token) → IsReadable t → length (tree_text depth t ++ rest) ≤ size → AreTokens size rest us → ReadsBack size (tree_text depth t ++ rest) t (lexemes us)
reads_back depth size t rest us h le cut =
    let behind : Lexes size rest (lexemes us) = record { cut = λ fits. record { tokens = us; cut = cut; are = refl } } in
    let all = (lexes_tree depth t rest h behind).cut le in
    record {
      tokens = all.tokens;
      cut = all.cut;
      proof = as_written t;
      proof_is = refl;
      spelled = subst (λ (xs : List Lexeme). SpellsProof xs (as_written t) (lexemes us)) (sym all.are) (tree_spells t h (lexemes us));
      is = tree_says t h;
    }
