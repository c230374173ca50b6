-- Theories are what a theory's parts consist of.
use Rattle.std.proofs.Common.{List, [], ◌∷◌}
use Rattle.sp_spec_text.specs.Token.{Lexeme}
use Rattle.sp_spec_text.specs.Written.{WrittenText}
use Rattle.sp_spec_text.specs.Theories.{SpellsTheory, theory}
use Rattle.sp_await.specs.Parts as a
use Rattle.sp_law_await.specs.Language.{HasAll}
use Rattle.sp_law_await.proofs.Means.{TheoryOf, theory_of}
use Rattle.sp_law_await.proofs.SoundTheory.{has_means}
use Rattle.sp_law_await.proofs.Had.{one_of, one_had}
use Rattle.sp_law_await.proofs.CompleteTheory.{has_theory}

whole_theory : {tokens : List Lexeme} → TheoryOf tokens [] → (t : WrittenText) × SpellsTheory tokens t
whole_theory (theory_of n h) = (_, theory n h)

pub spelled_of : {tokens : List Lexeme} → HasAll (a.Theory ∷ []) tokens [] → (t : WrittenText) × SpellsTheory tokens t
spelled_of h = whole_theory (has_means (one_of h))

pub had_of : {tokens : List Lexeme} {t : WrittenText} → SpellsTheory tokens t → HasAll (a.Theory ∷ []) tokens []
had_of h = one_had (has_theory h)
