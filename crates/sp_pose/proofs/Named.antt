-- What the grammar spells in a list, part by part.
use Rattle.std.proofs.Common.{List}
use Rattle.sp_spec_text.specs.Token.{Lexeme}
use Rattle.sp_spec_text.specs.Signs.{Sign}
use Rattle.sp_spec.specs.Lists.{Every}
use Rattle.sp_spec_text.specs.Lists.{AreParts, last, next, AreItems, empty, some}

-- of each part what holds of whatever R reads
every_part : {A : Type 0} {R : List Lexeme → A → List Lexeme → Type 0} {between close : Sign} {tokens rest : List Lexeme} {xs : List A} (P : A → Type 0)
    → ((ts : List Lexeme) (x : A) (us : List Lexeme) → R ts x us → P x) → AreParts R between close tokens xs rest → Every P xs
every_part P h (last {x = x} {tokens = ts} {rest = us} r) = (h ts x (_) r, tt)
every_part P h (next {x = x} {tokens = ts} r parts) = (h ts x (_) r, every_part P h parts)

pub every_item : {A : Type 0} {R : List Lexeme → A → List Lexeme → Type 0} {close : Sign} {tokens rest : List Lexeme} {xs : List A} (P : A → Type 0)
    → ((ts : List Lexeme) (x : A) (us : List Lexeme) → R ts x us → P x) → AreItems R close tokens xs rest → Every P xs
every_item P h empty = tt
every_item P h (some parts) = every_part P h parts
