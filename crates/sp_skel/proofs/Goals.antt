-- What stands between the brackets of a goal is cut into its word and what stands behind it again.
use Rattle.std.proofs.Common.{◌≡◌, ℕ, false, List, [], ◌∷◌, ◌++◌, map, Some, codes, refl, sym, ap, subst, ◌∙◌, append_assoc}
use Rattle.std.proofs.lemmas.List.{append-nil}
use Rattle.sp_spec_text.specs.Lex.{to_closing}
use Rattle.sp_spec_system.specs.Move.{Move}
use Rattle.sp_spec_system.specs.Words.{Argument, of_goal, said_of, argument_text, arguments_text, goal_text}
use Rattle.sp_check.specs.Skeleton.{known}
use Rattle.sp_spec_text.specs.Blanks.{trimmed}
use Rattle.sp_skel.specs.MoveTexts.{words, words_from, all_said}
use Rattle.sp_skel.specs.Steps.{trimmed_step, step_of_text}
use Rattle.sp_skel.proofs.Unbroken.{IsUnbroken, closing_unbroken, Ends, ends, ends_behind, trimmed_between}
use Rattle.sp_skel.proofs.Pieces.{IsPiece, unbroken_piece}
use Rattle.sp_skel.proofs.Sides.{EachReadBack}

-- ---- brackets

closing_space : (bytes : List ℕ) → to_closing false 0 (32 ∷ bytes) ≡ to_closing false 0 bytes
unfolding to_closing
closing_space bytes = refl

closing_end : (bytes : List ℕ) → to_closing false 0 (32 ∷ 41 ∷ bytes) ≡ Some (41 ∷ bytes)
unfolding to_closing
closing_end bytes = refl

arguments_close : (arguments : List Argument) (rest : List ℕ) → EachReadBack arguments → to_closing false 0 (arguments_text arguments ++ rest) ≡ to_closing false 0 rest
arguments_close [] rest r = refl
arguments_close (a ∷ arguments) rest r =
    let text : List ℕ = argument_text a in
    let later : List ℕ = arguments_text arguments ++ rest in
    ap (λ (bytes : List ℕ). to_closing false 0 (32 ∷ bytes)) (append_assoc text (arguments_text arguments) rest)
    ∙ closing_space (text ++ later) ∙ r.0.piece.closes later ∙ arguments_close arguments rest r.1

-- what stands inside the brackets is closed by the one behind it
abbrev pub Closes : List ℕ → Type 0
Closes inside = (rest : List ℕ) → to_closing false 0 (inside ++ 41 ∷ rest) ≡ Some (41 ∷ rest)

pub closes_goal : (w : List ℕ) (arguments : List Argument) → IsUnbroken w → EachReadBack arguments → Closes (goal_text w arguments)
closes_goal w arguments p r rest =
    let words : List ℕ = arguments_text arguments in
    ap (λ (bytes : List ℕ). to_closing false 0 (32 ∷ bytes)) (append_assoc w (words ++ codes " ") (41 ∷ rest) ∙ ap (λ (bytes : List ℕ). w ++ bytes) (append_assoc words (codes " ") (41 ∷ rest)))
    ∙ closing_space (w ++ (words ++ 32 ∷ 41 ∷ rest)) ∙ closing_unbroken w (words ++ 32 ∷ 41 ∷ rest) p.unbroken ∙ arguments_close arguments (32 ∷ 41 ∷ rest) r ∙ closing_end rest

-- ---- words

ends_words : (text : List ℕ) (arguments : List Argument) → Ends text → EachReadBack arguments → Ends (text ++ arguments_text arguments)
ends_words text [] e r = subst Ends (sym (append-nil text)) e
ends_words text (a ∷ arguments) e r =
    let more : List ℕ = argument_text a in
    let joined : (text ++ 32 ∷ more) ++ arguments_text arguments ≡ text ++ arguments_text (a ∷ arguments) = append_assoc text (32 ∷ more) (arguments_text arguments) in
    subst Ends joined (ends_words (text ++ 32 ∷ more) arguments (ends_behind text (32 ∷ more) (ends_behind (codes " ") more r.0.piece.ends)) r.1)

trimmed_goal : (w : List ℕ) (arguments : List Argument) → IsUnbroken w → EachReadBack arguments → trimmed (goal_text w arguments) ≡ w ++ arguments_text arguments
trimmed_goal w arguments p r = trimmed_between w (arguments_text arguments) p (ends_words w arguments (ends w p) r)

words_are : (w : List ℕ) (arguments : List Argument) → IsPiece w → EachReadBack arguments → words (w ++ arguments_text arguments) ≡ w ∷ map argument_text arguments
words_are w [] p r = ap (words_from false) (append-nil w) ∙ p.alone
words_are w (a ∷ arguments) p r =
    p.first (argument_text a ++ arguments_text arguments) ∙ ap (λ (ws : List (List ℕ)). w ∷ ws) (words_are (argument_text a) arguments r.0.piece r.1)

said_are : (arguments : List Argument) → EachReadBack arguments → all_said (map argument_text arguments) ≡ Some (map said_of arguments)
said_are [] r = refl
said_are (a ∷ arguments) r = rw (r.0.said, said_are arguments r.1) refl

-- a goal says the move that its word and what stands behind it say
pub goal_says : (m : Move) (w : List ℕ) (arguments : List Argument) → IsUnbroken w → EachReadBack arguments → of_goal w (map said_of arguments) ≡ Some m → step_of_text (goal_text w arguments) ≡ known m
goal_says m w arguments p r e = ap trimmed_step (trimmed_goal w arguments p r) ∙ rw (words_are w arguments (unbroken_piece w p) r, said_are arguments r, e) refl
