-- The words that are written of moves are read as those moves, and the texts of trees as those trees. Accepted trees are such trees.
use Rattle.std.specs.Prelude.{◌≡◌, ◌↔◌, ℕ, ◌≤◌, List, ◌++◌, map, length, Some}
use Rattle.sp_spec_text.specs.Token.{Lexeme, Token}
use Rattle.sp_spec_text.specs.Lex.{AreTokens, lexemes}
use Rattle.sp_spec_system.specs.System.{System}
use Rattle.sp_spec_system.specs.Move.{Move, Context}
use Rattle.sp_spec_system.specs.Words.{Argument, method, goal, words_of, of_method, Said, of_goal, said_of, IsSided}
use Rattle.sp_spec_proof.specs.Tree.{Tree, IsAccepted}
use Rattle.sp_spec_proof.specs.Growth.{grown_tree}
use Rattle.sp_skel.specs.TreeText.{tree_text}
use Rattle.sp_check.specs.Skeleton.{tree_of}
use Rattle.sp_spec_text.specs.Written.{WrittenProof}
use Rattle.sp_spec_text.specs.Proofs.{SpellsProof}
use Rattle.sp_skel.specs.Steps.{skeleton}
use Rattle.sp_skel.specs.Places.{HavePlaces, HaveSides}
use Rattle.sp_skel.specs.Spelling.{as_written, IsReadable, IsSpellable}

-- the move is written as a goal of this word, and this stands behind it
pub record IsGoal (w : List ℕ) (said : List Said) (move : Move) : Type 0 where
  pub arguments : List Argument
  pub words_are : words_of move ≡ goal w arguments
  pub said_are : map said_of arguments ≡ said
  pub sided : IsSided move

-- the table of words and its inverse have the same lines
pub record WordsAreMoves : Type 0 where
  pub methods : (w : List ℕ) (move : Move) → (of_method w ≡ Some move) ↔ (words_of move ≡ method w)
  pub goals : (w : List ℕ) (said : List Said) (move : Move) → (of_goal w said ≡ Some move) ↔ IsGoal w said move

-- the last bytes of a text of this size begin with a proof that says the tree, and behind it follows the rest
pub record ReadsBack (size : ℕ) (bytes : List ℕ) (t : Tree) (rest : List Lexeme) : Type 0 where
  pub tokens : List Token
  pub cut : AreTokens size bytes tokens
  pub proof : WrittenProof
  pub proof_is : proof ≡ as_written t
  pub spelled : SpellsProof (lexemes tokens) proof rest
  pub is : tree_of (skeleton proof) ≡ Some t

-- whatever follows the text of the tree
pub record TreesAreReadBack : Type 0 where
  pub back : (depth size : ℕ) (t : Tree) (rest : List ℕ) (tokens : List Token) → IsReadable t → length (tree_text depth t ++ rest) ≤ size → AreTokens size rest tokens
      → ReadsBack size (tree_text depth t ++ rest) t (lexemes tokens)

-- Where what trees name can stand in a text, the cases of an accepted tree whose numbers and sides can stand there too have names, or are alone. The sides of grown
-- trees can stand there.
pub record AcceptedTreesAreReadable : Type 0 where
  pub accepted : (context : Context) (s : System) (t : Tree) → IsSpellable context → HavePlaces t → HaveSides t → IsAccepted context s t → IsReadable t
  pub grown : (context : Context) (s : System) (budget : ℕ) → IsSpellable context → HavePlaces (grown_tree context s budget) → IsReadable (grown_tree context s budget)
