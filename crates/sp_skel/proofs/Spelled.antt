-- The lexemes of a tree's text spell a proof, and the proof says the tree.
use Rattle.std.proofs.Common.{◌≡◌, ℕ, Bool, true, false, if◌then◌else◌, List, [], ◌∷◌, Some, codes, refl, sym, subst}
use Rattle.std.proofs.lemmas.Slice.Eq.{bytes_eq-Decides}
use Rattle.sp_spec_text.specs.Token.{Lexeme, word}
use Rattle.sp_spec_text.specs.Written.{said, step, no_case}
use Rattle.sp_spec_system.specs.Move.{Move}
use Rattle.sp_spec_system.specs.Words.{Words, method, goal, words_of, AreWithin, stand_alone}
use Rattle.sp_spec_proof.specs.Tree.{Tree, node, Branches, no_branch, branch}
use Rattle.sp_check.specs.Skeleton.{known, tree_of, branches_of}
use Rattle.sp_spec_text.specs.Proofs as grammar
use Rattle.sp_spec_text.specs.Proofs.{SpellsMethod, by_word, by_goal, SpellsProof, by_method, method_proof, method_cases, SpellsCases, case, qed, next}
use Rattle.sp_skel.specs.Steps.{step_said, skeleton, branches}
use Rattle.sp_skel.specs.Places.{HasSides, IsSaid}
use Rattle.sp_skel.specs.Spelling.{words_spelled, move_spelled, spelled, cases_spelled, words_said, move_said, as_written, all_as_written, MayHaveCases, IsReadable, AreReadable}
use Rattle.sp_skel.proofs.Goals.{goal_says}
use Rattle.sp_skel.proofs.Table.{IsLine, lines, sided, read_back}

-- ---- moves

words_spell : (m : Move) (ws : Words) → IsLine m ws → stand_alone ws ≡ false → (rest : List Lexeme) → SpellsMethod (words_spelled ws ∷ rest) (words_said ws) rest
words_spell m (method w) line h rest = by_word (line.begins h)
words_spell m (goal w arguments) line h rest = by_goal

pub move_spells : (m : Move) → MayHaveCases m → (rest : List Lexeme) → SpellsMethod (move_spelled m ∷ rest) (move_said m) rest
move_spells m h rest = words_spell m (words_of m) (lines m) h rest

-- words that stand alone are those of the end of the search
alone_spells : (ws : Words) → stand_alone ws ≡ true → (rest : List Lexeme) → SpellsProof (words_spelled ws ∷ rest) (step (words_said ws) no_case) rest
alone_spells (method w) h rest =
    subst (λ (v : List ℕ). SpellsProof (word v ∷ rest) (step (said v) no_case) rest) (sym ((bytes_eq-Decides w (codes "SOLVED")).0 h)) grammar.solved
alone_spells (goal w arguments) h rest = absurd (let none : ⊥ = cc in none)

leaf_spells : (m : Move) (rest : List Lexeme) → SpellsProof (spelled (node m no_branch) rest) (as_written (node m no_branch)) rest
leaf_spells m rest = at (stand_alone (words_of m)) refl
  where
    at : (b : Bool) → stand_alone (words_of m) ≡ b → SpellsProof (if b then move_spelled m ∷ rest else word (codes "by") ∷ move_spelled m ∷ rest) (step (move_said m) no_case) rest
    at true h = alone_spells (words_of m) h rest
    at false h = by_method (move_spells m h rest)

words_say : (m : Move) (ws : Words) → IsLine m ws → AreWithin ws → HasSides m → step_said (words_said ws) ≡ known m
words_say m (method w) line h sides = rw line.says refl
words_say m (goal w arguments) line h sides = goal_says m w arguments line.unbroken (read_back m w arguments line h sides) (line.says (sided m sides))

pub move_says : (m : Move) → IsSaid m → step_said (move_said m) ≡ known m
move_says m h = words_say m (words_of m) (lines m) h.0 h.1

-- ---- trees

abbrev pub HaveCase : Branches → Type 0
HaveCase no_branch = ⊥
HaveCase (branch n t bs) = Unit {0}

mutual
  pub tree_spells : (t : Tree) → IsReadable t → (rest : List Lexeme) → SpellsProof (spelled t rest) (as_written t) rest
  tree_spells (node m no_branch) h rest = leaf_spells m rest
  tree_spells (node m (branch [] t no_branch)) h rest = method_proof (move_spells m h.1 (spelled t rest)) (tree_spells t h.2 rest)
  tree_spells (node m (branch [] t (branch n u bs))) h rest =
      method_cases (move_spells m h.1 (cases_spelled (branch [] t (branch n u bs)) rest)) (cases_spell (branch [] t (branch n u bs)) tt h.2 rest)
  tree_spells (node m (branch (b ∷ name) t bs)) h rest =
      method_cases (move_spells m h.1 (cases_spelled (branch (b ∷ name) t bs) rest)) (cases_spell (branch (b ∷ name) t bs) tt h.2 rest)

  pub cases_spell : (bs : Branches) → HaveCase bs → AreReadable bs → (rest : List Lexeme) → SpellsCases (cases_spelled bs rest) (all_as_written bs) rest
  cases_spell no_branch some h rest = absurd some
  cases_spell (branch n t no_branch) some h rest = case h.0 (tree_spells t h.2 (word (codes "qed") ∷ rest)) qed
  cases_spell (branch n t (branch m u bs)) some h rest =
      case h.0 (tree_spells t h.2 (word (codes "next") ∷ cases_spelled (branch m u bs) rest)) (next (cases_spell (branch m u bs) tt h.3 rest))

-- a known move over cases that say these branches
node_says : (m : Move) (bs : Branches) → IsSaid m → branches_of (branches (all_as_written bs)) ≡ Some bs → tree_of (skeleton (as_written (node m bs))) ≡ Some (node m bs)
node_says m bs h e = rw (move_says m h, e) refl

mutual
  pub tree_says : (t : Tree) → IsReadable t → tree_of (skeleton (as_written t)) ≡ Some t
  tree_says (node m no_branch) h = node_says m no_branch h refl
  tree_says (node m (branch [] t no_branch)) h = node_says m (branch [] t no_branch) h.0 (rw (tree_says t h.2) refl)
  tree_says (node m (branch [] t (branch n u bs))) h = node_says m (branch [] t (branch n u bs)) h.0 (cases_say (branch [] t (branch n u bs)) h.2)
  tree_says (node m (branch (b ∷ name) t bs)) h = node_says m (branch (b ∷ name) t bs) h.0 (cases_say (branch (b ∷ name) t bs) h.2)

  pub cases_say : (bs : Branches) → AreReadable bs → branches_of (branches (all_as_written bs)) ≡ Some bs
  cases_say no_branch h = refl
  cases_say (branch n t bs) h = rw (tree_says t h.2, cases_say bs h.3) refl
