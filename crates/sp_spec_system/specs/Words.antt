-- The words of moves: the table by which a move is written and read. A new move is a line of `words_of` and a line of its inverse.
-- Source: Tamarin manual, "Proofs" (methods stand as a word, goals in `solve( )`); the words are this project's own.
use Rattle.std.specs.Prelude.{◌≡◌, ℕ, ◌^◌, ◌<◌, Bool, true, false, ◌&&◌, if◌then◌else◌, List, [], ◌∷◌, ◌++◌, Option, Some, None, option_and_then, option_map, codes, decimal}
use Rattle.std.specs.Str.{bytes_eq}
use Rattle.sp_spec_system.specs.Move.{Side, fresh_side, public_side, constant_side, Move, simplify, contradiction, unproved, solved, or, action, premise, know, chain, induction, source, compare, top, same, more_events, finish}

-- what the word of a goal is followed by
pub data Argument : Type 0 where
  -- a place in a list
  place : ℕ → Argument
  -- the time of an event
  time : ℕ → Argument
  -- the number of a message variable
  variable : ℕ → Argument
  -- a term that stands for a name
  side : Side → Argument

pub data Words : Type 0 where
  method : List ℕ → Words
  goal : List ℕ → List Argument → Words

abbrev pub words_of : Move → Words
words_of simplify = method (codes "simplify")
words_of contradiction = method (codes "contradiction")
words_of unproved = method (codes "sorry")
words_of solved = method (codes "SOLVED")
words_of induction = method (codes "induction")
words_of (or k) = goal (codes "or") (place k ∷ [])
words_of (action k) = goal (codes "action") (place k ∷ [])
words_of (premise i p) = goal (codes "premise") (time i ∷ place p ∷ [])
words_of (know i) = goal (codes "know") (time i ∷ [])
words_of (chain i) = goal (codes "chain") (time i ∷ [])
words_of (source i) = goal (codes "source") (time i ∷ [])
words_of (compare i j) = goal (codes "compare") (time i ∷ time j ∷ [])
words_of (top k) = goal (codes "top") (variable k ∷ [])
words_of (same a b) = goal (codes "same") (side a ∷ side b ∷ [])
words_of more_events = goal (codes "more") []
words_of finish = goal (codes "finish") []

-- ---- the inverse

-- the move that is said by a word alone
unfoldable pub of_method : List ℕ → Option Move
of_method w =
    if bytes_eq w (codes "simplify") then Some simplify
    else if bytes_eq w (codes "contradiction") then Some contradiction
    else if bytes_eq w (codes "sorry") then Some unproved
    else if bytes_eq w (codes "SOLVED") then Some solved
    else if bytes_eq w (codes "induction") then Some induction
    else None

-- what stands behind the word of a goal: a number in digits, or `~N`, `$N` or a constant in quotes
pub data Said : Type 0 where
  digits : ℕ → Said
  named : Side → Said

abbrev pub number_said : Said → Option ℕ
number_said (digits k) = Some k
number_said (named a) = None

abbrev pub side_said : Said → Option Side
side_said (digits k) = None
side_said (named a) = Some a

-- what nothing makes, what one thing makes, and what two make
abbrev pub by_none : Move → List Said → Option Move
by_none move [] = Some move
by_none move (x ∷ rest) = None

abbrev pub by_one : (ℕ → Move) → List Said → Option Move
by_one move (x ∷ []) = option_map move (number_said x)
by_one move said = None

abbrev pub by_two : (ℕ → ℕ → Move) → List Said → Option Move
by_two move (x ∷ y ∷ []) = option_and_then (λ i. option_map (move i) (number_said y)) (number_said x)
by_two move said = None

abbrev pub is_constant_side : Side → Bool
is_constant_side (constant_side c) = true
is_constant_side a = false

-- of two sides one is a variable
abbrev pub with_sides : Side → Side → Option Move
with_sides a b = if is_constant_side a && is_constant_side b then None else Some (same a b)

abbrev pub by_sides : List Said → Option Move
by_sides (x ∷ y ∷ []) = option_and_then (λ a. option_and_then (with_sides a) (side_said y)) (side_said x)
by_sides said = None

-- the move that is said by the word of a goal, and by what stands behind it
unfoldable pub of_goal : List ℕ → List Said → Option Move
of_goal w said =
    if bytes_eq w (codes "or") then by_one or said
    else if bytes_eq w (codes "action") then by_one action said
    else if bytes_eq w (codes "premise") then by_two premise said
    else if bytes_eq w (codes "know") then by_one know said
    else if bytes_eq w (codes "chain") then by_one chain said
    else if bytes_eq w (codes "source") then by_one source said
    else if bytes_eq w (codes "compare") then by_two compare said
    else if bytes_eq w (codes "top") then by_one top said
    else if bytes_eq w (codes "same") then by_sides said
    else if bytes_eq w (codes "more") then by_none more_events said
    else if bytes_eq w (codes "finish") then by_none finish said
    else None

-- ---- what a text can name

-- of an argument, what is read where it stands in a text
abbrev pub said_of : Argument → Said
said_of (place k) = digits k
said_of (time i) = digits i
said_of (variable k) = digits k
said_of (side a) = named a

-- numbers in texts are below it
abbrev pub limit : ℕ
limit = 2 ^ 128

abbrev pub SideWithin : Side → Type 0
SideWithin (fresh_side k) = k < limit
SideWithin (public_side k) = k < limit
SideWithin (constant_side c) = Unit

abbrev pub IsWithin : Argument → Type 0
IsWithin (place k) = k < limit
IsWithin (time i) = i < limit
IsWithin (variable k) = k < limit
IsWithin (side a) = SideWithin a

abbrev pub EachWithin : List Argument → Type 0
EachWithin [] = Unit
EachWithin (a ∷ arguments) = IsWithin a × EachWithin arguments

-- the numbers in the words can be read again
abbrev pub AreWithin : Words → Type 0
AreWithin (method word) = Unit
AreWithin (goal word arguments) = EachWithin arguments

-- one of the sides of `same` is a variable
abbrev pub IsSided : Move → Type 0
IsSided (same a b) = (is_constant_side a && is_constant_side b) ≡ false
IsSided move = Unit

-- ---- the text

abbrev pub side_text : Side → List ℕ
side_text (fresh_side k) = codes "~" ++ decimal k
side_text (public_side k) = codes "$" ++ decimal k
side_text (constant_side c) = codes "'" ++ (c ++ codes "'")

abbrev pub argument_text : Argument → List ℕ
argument_text (place k) = decimal k
argument_text (time i) = decimal i
argument_text (variable k) = decimal k
argument_text (side a) = side_text a

-- each argument behind a blank
abbrev pub arguments_text : List Argument → List ℕ
arguments_text [] = []
arguments_text (a ∷ arguments) = codes " " ++ (argument_text a ++ arguments_text arguments)

-- what stands between the brackets
abbrev pub goal_text : List ℕ → List Argument → List ℕ
goal_text word arguments = codes " " ++ (word ++ (arguments_text arguments ++ codes " "))

abbrev pub words_text : Words → List ℕ
words_text (method word) = word
words_text (goal word arguments) = codes "solve(" ++ (goal_text word arguments ++ codes ")")

-- The words stand alone: no `by` is before them, and no case behind them. So it is at the end of the search.
abbrev pub stand_alone : Words → Bool
stand_alone (method word) = bytes_eq word (codes "SOLVED")
stand_alone (goal word arguments) = false
