-- What `let` binds, as a reader from the left takes it.
use Rattle.std.specs.Prelude.{List, codes}
use Rattle.sp_spec_text.specs.Signs as s
use Rattle.sp_spec_text.specs.Token.{Lexeme, word}
use Rattle.sp_spec.specs.Term.{Term}
use Rattle.sp_spec.specs.Formula.{Written}
use Rattle.sp_spec_text.specs.Bindings.{Binding}
use Rattle.sp_read_parts.specs.Parts.{IsVariable, IsTerm, AreUntil}
use Rattle.sp_read_atoms.specs.Atoms.{Infix}

abbrev pub bound_to : Written → Term Written → Binding
bound_to v t = record { variable = v; value = t }

-- var `=` term
abbrev pub IsBinding : List Lexeme → Binding → List Lexeme → Type 0
IsBinding = Infix IsVariable s.Equals (IsTerm 0) bound_to

-- (var `=` term)+ `in`
abbrev pub AreBindings : List Lexeme → List Binding → List Lexeme → Type 0
AreBindings = AreUntil IsBinding (word (codes "in"))
