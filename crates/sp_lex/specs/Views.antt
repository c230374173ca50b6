-- The signs, tokens and pieces that values in memory stand for.
use Rattle.std.specs.Prelude.{ℕ, ◌<◌, List, Option, Some, None, map, length}
use Rattle.sp_spec_text.specs.Signs as signs
use Rattle.sp_spec_text.specs.Bytes as bytes
use Rattle.sp_lex.specs.declared.token.Sign.{Sign}
use Rattle.sp_lex.specs.declared.token.Sign.TheVariants as s
use Rattle.sp_lex.specs.declared.token.Wide.{Wide}
use Rattle.sp_lex.specs.declared.token.Wide.TheVariants as w
use Rattle.sp_lex.specs.declared.token.Class.{Class}
use Rattle.sp_lex.specs.declared.token.Class.TheVariants as c
use Rattle.sp_lex.specs.declared.token.Mark.{Mark}
use Rattle.sp_lex.specs.declared.token.Mark.TheVariants as m
use Rattle.sp_lex.specs.declared.token.FaultKind.{FaultKind}
use Rattle.sp_lex.specs.declared.token.FaultKind.TheVariants as k
use Rattle.sp_lex.specs.declared.token.Lexeme as rust
use Rattle.sp_lex.specs.declared.token.Lexeme.TheVariants as v
use Rattle.sp_lex.specs.declared.token.Token as rust_token
use Rattle.sp_lex.specs.declared.token.Found.{Found}
use Rattle.sp_lex.specs.declared.token.Found.TheVariants as f
use Rattle.sp_lex.specs.declared.token.Gap.{Gap}
use Rattle.sp_lex.specs.declared.token.Gap.TheVariants as g
use Rattle.sp_lex.specs.declared.token.LexFault.{LexFault}
use Rattle.sp_lex.specs.declared.token.LexError.{LexError}
use Rattle.sp_lex.specs.declared.token.LexError.TheVariants.{Memory, Fault}
use Rattle.sp_spec_text.specs.Token.{Lexeme, word, constant, sign, solve, wide, block, Token}
use Rattle.sp_spec_text.specs.Lex.{Piece, token, no_token, Step, nothing, past, unclosed, AreTokens, AreTokensBefore, IsFault}

abbrev pub sign_of : Sign → signs.Sign
sign_of s.Open = signs.Open
sign_of s.Close = signs.Close
sign_of s.OpenList = signs.OpenList
sign_of s.CloseList = signs.CloseList
sign_of s.OpenArrow = signs.OpenArrow
sign_of s.CloseArrow = signs.CloseArrow
sign_of s.Arrow = signs.Arrow
sign_of s.Implies = signs.Implies
sign_of s.Iff = signs.Iff
sign_of s.Comma = signs.Comma
sign_of s.Colon = signs.Colon
sign_of s.Dot = signs.Dot
sign_of s.Quote = signs.Quote
sign_of s.Bang = signs.Bang
sign_of s.Tilde = signs.Tilde
sign_of s.Dollar = signs.Dollar
sign_of s.Hash = signs.Hash
sign_of s.At = signs.At
sign_of s.And = signs.And
sign_of s.Or = signs.Or
sign_of s.Equals = signs.Equals
sign_of s.Less = signs.Less
sign_of s.Dash = signs.Dash
sign_of s.OpenBrace = signs.OpenBrace
sign_of s.CloseBrace = signs.CloseBrace
sign_of s.Greater = signs.Greater
sign_of s.Slash = signs.Slash
sign_of s.Plus = signs.Plus

abbrev pub wide_of : Wide → signs.Wide
wide_of w.All = signs.All
wide_of w.Ex = signs.Ex
wide_of w.Both = signs.Both
wide_of w.Either = signs.Either
wide_of w.Not = signs.Not
wide_of w.Then = signs.Then
wide_of w.Same = signs.Same
wide_of w.True = signs.True
wide_of w.False = signs.False

abbrev pub class_of : Class → bytes.Class
class_of c.Constant = bytes.Constant
class_of c.Line = bytes.Line
class_of c.Word = bytes.Word

abbrev pub mark_of : Mark → bytes.Mark
mark_of m.Opens = bytes.Opens
mark_of m.Closes = bytes.Closes
mark_of m.Neither = bytes.Neither

abbrev pub kind_of : FaultKind → bytes.FaultKind
kind_of k.NoToken = bytes.NoToken
kind_of k.OpenComment = bytes.OpenComment
kind_of k.NoConstant = bytes.NoConstant
kind_of k.OpenSolve = bytes.OpenSolve
kind_of k.OpenBlock = bytes.OpenBlock

abbrev pub lexeme_of : rust.Lexeme → Lexeme
lexeme_of (v.Word w) = word w.now
lexeme_of (v.Constant c) = constant c.now
lexeme_of (v.Sign x) = sign (sign_of x)
lexeme_of (v.Solve s) = solve s.now
lexeme_of (v.Wide x) = wide (wide_of x)
lexeme_of v.Block = block

abbrev pub token_of : rust_token.Token → Token
token_of t = record { lexeme = lexeme_of t.lexeme; start = t.start; end = t.end }

abbrev pub tokens_of : List rust_token.Token → List Token
tokens_of ts = map token_of ts

abbrev pub found : Found → Piece
found (f.Token x rest) = token (lexeme_of x) rest.now
found (f.NoToken kind) = no_token (kind_of kind)

-- what is taken is not nothing
abbrev pub Takes : Found → List ℕ → Type 0
Takes (f.Token x rest) bytes = length rest.now < length bytes
Takes (f.NoToken kind) bytes = Unit {0}

abbrev pub step : Gap → Step
step g.Nothing = nothing
step (g.Past rest) = past rest.now
step g.Unclosed = unclosed

-- what is passed is not nothing
abbrev pub Passes : Gap → List ℕ → Type 0
Passes g.Nothing bytes = Unit {0}
Passes (g.Past rest) bytes = length rest.now < length bytes
Passes g.Unclosed bytes = Unit {0}

-- the place and the kind of the first fault, where that and not want of memory is the error
abbrev pub IsFaultOf : List ℕ → LexError → Type 0
IsFaultOf bytes Memory = Unit {0}
IsFaultOf bytes (Fault f) = IsFault (length bytes) bytes f.place (kind_of f.kind)

-- the tokens of a text, all of them, or those before its first fault
abbrev pub IsScanned : List ℕ → List Token → Option LexFault → Type 0
IsScanned text ts None = AreTokens (length text) text ts
IsScanned text ts (Some f) = AreTokensBefore (length text) text ts f.place (kind_of f.kind)
