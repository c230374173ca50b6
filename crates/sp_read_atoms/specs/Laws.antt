-- Bindings are fixed by the tokens.
use Rattle.std.specs.Prelude.{◌≡◌, List}
use Rattle.sp_spec_text.specs.Token.{Lexeme}
use Rattle.sp_spec_text.specs.Bindings.{Binding}
use Rattle.sp_spec_text.specs.Theories.{SpellsBindings}

-- what `let` binds, and what follows its `in`, are fixed by the tokens
pub record BindingsAreOne : Type 0 where
  pub one : (tokens r q : List Lexeme) (bs cs : List Binding) → SpellsBindings tokens bs r → SpellsBindings tokens cs q → (bs ≡ cs) × (r ≡ q)
