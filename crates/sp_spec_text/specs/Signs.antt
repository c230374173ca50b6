-- The signs of the language. Source: Tamarin manual, "Syntax description".

pub data Sign : Type 0 where
  Open : Sign  -- `(`
  Close : Sign  -- `)`
  OpenList : Sign  -- `[`
  CloseList : Sign  -- `]`
  OpenArrow : Sign  -- `--[`
  CloseArrow : Sign  -- `]->`
  Arrow : Sign  -- `-->`
  Implies : Sign  -- `==>`
  Iff : Sign  -- `<=>`
  Comma : Sign  -- `,`
  Colon : Sign  -- `:`
  Dot : Sign  -- `.`
  Quote : Sign  -- `"`
  Bang : Sign  -- `!`
  Tilde : Sign  -- `~`
  Dollar : Sign  -- `$`
  Hash : Sign  -- `#`
  At : Sign  -- `@`
  And : Sign  -- `&`
  Or : Sign  -- `|`
  Equals : Sign  -- `=`
  Less : Sign  -- `<`
  Dash : Sign  -- `-`
  OpenBrace : Sign  -- `{`
  CloseBrace : Sign  -- `}`
  Greater : Sign  -- `>`
  Slash : Sign  -- `/`
  Plus : Sign  -- `+`

-- the signs of logic that are longer than a byte; in formulas each is read as the text beside it
pub data Wide : Type 0 where
  All : Wide  -- U+2200, `All`
  Ex : Wide  -- U+2203, `Ex`
  Both : Wide  -- U+2227, `&`
  Either : Wide  -- U+2228, `|`
  Not : Wide  -- U+00AC, `not`
  Then : Wide  -- U+21D2, `==>`
  Same : Wide  -- U+21D4, `<=>`
  True : Wide  -- U+22A4, `T`
  False : Wide  -- U+22A5, `F`
