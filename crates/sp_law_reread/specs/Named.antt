-- The rules of a text's theory have names as they stand in a text.
use Rattle.std.specs.Prelude.{ℕ, List}
use Rattle.sp_spec.specs.Written.{theory_of}
use Rattle.sp_spec_text.specs.Written.{WrittenText}
use Rattle.sp_spec_text.specs.Declared.{theory_in}
use Rattle.sp_spec_text.specs.Texts.{IsTextOf}
use Rattle.sp_skel.specs.Spelling.{AreNamed}
use Rattle.sp_spec_system.specs.Rules.{rules_of}

pub record RulesAreNamed : Type 0 where
  -- each is a name, and one word
  pub named : (text : List ℕ) (theory : WrittenText) → IsTextOf text theory → AreNamed (rules_of (theory_of (theory_in theory))).forms
