-- What bytes do in a text. Source: Tamarin manual, "Syntax description".

-- the bytes of a piece: of a constant, of a comment to the end of the line, of a word
pub data Class : Type 0 where
  Constant : Class
  Line : Class
  Word : Class

-- what bytes do to the comments, or to the brackets, that are open
pub data Mark : Type 0 where
  Opens : Mark
  Closes : Mark
  Neither : Mark

-- what is wrong at a place of a text: a byte that begins no token, a comment that is not closed, a quote that begins no constant, a
-- `solve(` whose bracket is not closed, a block of text that is not closed
pub data FaultKind : Type 0 where
  NoToken : FaultKind
  OpenComment : FaultKind
  NoConstant : FaultKind
  OpenSolve : FaultKind
  OpenBlock : FaultKind
