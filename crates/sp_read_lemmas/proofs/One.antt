-- The kinds of lemmas are spelled in one way; what the parts of a list are followed by.
use Rattle.std.proofs.Common.{◌≡◌, List, ◌∷◌, refl, ap, arith}
use Rattle.sp_spec_text.specs.Signs.{Sign}
use Rattle.sp_spec_text.specs.Signs as s
use Rattle.sp_spec_text.specs.Token.{Lexeme, sign}
use Rattle.sp_spec.specs.Theory.{TraceKind}
use Rattle.sp_spec_text.specs.Lists.{IsNotFirst, AreParts, last, next}
use Rattle.sp_read_parts.proofs.One.{One}
use Rattle.sp_spec_text.specs.Theories as g
use Rattle.sp_spec_text.specs.Theories.{SpellsKind}
use Rattle.sp_read_listings.proofs.ListingParts.{fourth_byte}
use Rattle.sp_read_lemmas.specs.Lemmas.{IsKind}

-- ---- lists, where a sign follows each part

pub parts_taken : {A : Type 0} {R S : List Lexeme → A → List Lexeme → Type 0} {between close : Sign} (P : List Lexeme → Type 0) → ((rest : List Lexeme) → P (sign between ∷ rest)) → ((rest : List Lexeme) → P (sign close ∷ rest))
    → ((tokens : List Lexeme) (x : A) (rest : List Lexeme) → R tokens x rest → P rest → S tokens x rest)
    → {tokens rest : List Lexeme} {xs : List A} → AreParts R between close tokens xs rest → AreParts S between close tokens xs rest
parts_taken P b c m (last {x = x} {tokens = ts} {rest = r} h) = last (m ts x _ h (c r))
parts_taken P b c m (next {x = x} {tokens = ts} {mid = q} h k) = next (m ts x _ h (b q)) (parts_taken P b c m k)

-- another sign is not this one
pub not_this : {x y : Sign} → (y ≡ x → ⊥) → (rest : List Lexeme) → IsNotFirst (sign x) (sign y ∷ rest)
not_this {x} {y} d rest = λ r e. let f : y ≡ x = cc in d f

-- ---- the kinds of lemmas

pub kind_one : {tokens r q : List Lexeme} {k o : TraceKind} → IsKind tokens k r → IsKind tokens o q → (k ≡ o) × (r ≡ q)
kind_one h k = at h k refl refl refl
  where
    at : {ts us xs ys r q : List Lexeme} {k o : TraceKind} → SpellsKind ts k xs → SpellsKind us o ys → ts ≡ us → xs ≡ sign s.Quote ∷ r → ys ≡ sign s.Quote ∷ q → (k ≡ o) × (r ≡ q)
    at g.no_kind g.no_kind d e f = (refl, cc)
    at g.no_kind g.all_kind d e f = absurd cc
    at g.no_kind g.exists_kind d e f = absurd cc
    at g.all_kind g.no_kind d e f = absurd cc
    at g.all_kind g.all_kind d e f = (refl, cc)
    at g.all_kind g.exists_kind d e f = let b : 0 ≡ 115 = ap fourth_byte d in absurd (omega (arith, b))
    at g.exists_kind g.no_kind d e f = absurd cc
    at g.exists_kind g.all_kind d e f = let b : 115 ≡ 0 = ap fourth_byte d in absurd (omega (arith, b))
    at g.exists_kind g.exists_kind d e f = (refl, cc)

pub kinds : One IsKind
kinds = record { one = kind_one }
