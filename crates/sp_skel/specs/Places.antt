-- Trees whose moves a text can name: the numbers in them are those of memory, and the constants such as may stand in quotes.
use Rattle.sp_spec_printed.specs.StepLines.{IsQuotable}
use Rattle.sp_spec_system.specs.Move.{Side, constant_side, Move, same}
use Rattle.sp_spec_system.specs.Words.{words_of, AreWithin, IsSided}
use Rattle.sp_spec_proof.specs.Tree.{Tree, node, Branches, no_branch, branch}

-- the numbers in the move are such as a text can hold
abbrev pub HasPlace : Move → Type 0
HasPlace move = AreWithin (words_of move)

-- a constant is such as may stand in quotes
abbrev pub IsQuoted : Side → Type 0
IsQuoted (constant_side c) = IsQuotable c
IsQuoted a = Unit {0}

-- the sides of `same` are such as a text can hold, and one of them is a variable
abbrev pub HasSides : Move → Type 0
HasSides (same a b) = IsQuoted a × IsQuoted b × IsSided (same a b)
HasSides move = Unit {0}

-- a text can say the move
abbrev pub IsSaid : Move → Type 0
IsSaid move = HasPlace move × HasSides move

abbrev mutual
  pub HavePlaces : Tree → Type 0
  HavePlaces (node move branches) = HasPlace move × AllHavePlaces branches

  pub AllHavePlaces : Branches → Type 0
  AllHavePlaces no_branch = Unit {0}
  AllHavePlaces (branch name tree branches) = HavePlaces tree × AllHavePlaces branches

-- the sides of `same` in a tree are such as a text can hold
abbrev mutual
  pub HaveSides : Tree → Type 0
  HaveSides (node move branches) = HasSides move × AllHaveSides branches

  pub AllHaveSides : Branches → Type 0
  AllHaveSides no_branch = Unit {0}
  AllHaveSides (branch name tree branches) = HaveSides tree × AllHaveSides branches
