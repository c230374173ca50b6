-- The words of steps tell which of them stands first.
use Rattle.std.proofs.Common.{◌≡◌, ℕ, ◌+◌, ◌*◌, List, [], ◌∷◌, ◌++◌, drop, codes, refl, ap, arith}
use Rattle.sp_read_steps.specs.declared.parts.Kind.{Kind}
use Rattle.sp_read_steps.specs.declared.parts.Kind.TheVariants as kind
use Rattle.sp_read_steps.specs.Reading.{kind_text, NoPrefix, NoKind}

pub no_kind : {bytes : List ℕ} → NoPrefix (codes "fresh ") bytes → NoPrefix (codes "out ") bytes → NoPrefix (codes "in ") bytes → NoPrefix (codes "pub ") bytes → NoPrefix (codes "own ") bytes → NoKind bytes
no_kind {bytes} f o i p w = record { no_kind = at }
  where
    at : (k : Kind) (rest : List ℕ) → bytes ≡ kind_text k ++ rest → ⊥
    at kind.Fresh rest e = f.no_rest rest e
    at kind.Out rest e = o.no_rest rest e
    at kind.In rest e = i.no_rest rest e
    at kind.Public rest e = p.no_rest rest e
    at kind.Own rest e = w.no_rest rest e

-- two bytes as one number
abbrev two_bytes : List ℕ → ℕ
two_bytes [] = 0
two_bytes (b ∷ []) = 0
two_bytes (b ∷ c ∷ bytes) = 256 * b + c

pub kinds_one : (j k : Kind) (a b : List ℕ) → kind_text j ++ a ≡ kind_text k ++ b → (j ≡ k) × (a ≡ b)
kinds_one kind.Fresh kind.Fresh a b h = (refl, ap (drop 6) h)
kinds_one kind.Fresh kind.Out a b h = absurd (let n = ap two_bytes h in let none : ⊥ = omega arith in none)
kinds_one kind.Fresh kind.In a b h = absurd (let n = ap two_bytes h in let none : ⊥ = omega arith in none)
kinds_one kind.Fresh kind.Public a b h = absurd (let n = ap two_bytes h in let none : ⊥ = omega arith in none)
kinds_one kind.Fresh kind.Own a b h = absurd (let n = ap two_bytes h in let none : ⊥ = omega arith in none)
kinds_one kind.Out kind.Fresh a b h = absurd (let n = ap two_bytes h in let none : ⊥ = omega arith in none)
kinds_one kind.Out kind.Out a b h = (refl, ap (drop 4) h)
kinds_one kind.Out kind.In a b h = absurd (let n = ap two_bytes h in let none : ⊥ = omega arith in none)
kinds_one kind.Out kind.Public a b h = absurd (let n = ap two_bytes h in let none : ⊥ = omega arith in none)
kinds_one kind.Out kind.Own a b h = absurd (let n = ap two_bytes h in let none : ⊥ = omega arith in none)
kinds_one kind.In kind.Fresh a b h = absurd (let n = ap two_bytes h in let none : ⊥ = omega arith in none)
kinds_one kind.In kind.Out a b h = absurd (let n = ap two_bytes h in let none : ⊥ = omega arith in none)
kinds_one kind.In kind.In a b h = (refl, ap (drop 3) h)
kinds_one kind.In kind.Public a b h = absurd (let n = ap two_bytes h in let none : ⊥ = omega arith in none)
kinds_one kind.In kind.Own a b h = absurd (let n = ap two_bytes h in let none : ⊥ = omega arith in none)
kinds_one kind.Public kind.Fresh a b h = absurd (let n = ap two_bytes h in let none : ⊥ = omega arith in none)
kinds_one kind.Public kind.Out a b h = absurd (let n = ap two_bytes h in let none : ⊥ = omega arith in none)
kinds_one kind.Public kind.In a b h = absurd (let n = ap two_bytes h in let none : ⊥ = omega arith in none)
kinds_one kind.Public kind.Public a b h = (refl, ap (drop 4) h)
kinds_one kind.Public kind.Own a b h = absurd (let n = ap two_bytes h in let none : ⊥ = omega arith in none)
kinds_one kind.Own kind.Fresh a b h = absurd (let n = ap two_bytes h in let none : ⊥ = omega arith in none)
kinds_one kind.Own kind.Out a b h = absurd (let n = ap two_bytes h in let none : ⊥ = omega arith in none)
kinds_one kind.Own kind.In a b h = absurd (let n = ap two_bytes h in let none : ⊥ = omega arith in none)
kinds_one kind.Own kind.Public a b h = absurd (let n = ap two_bytes h in let none : ⊥ = omega arith in none)
kinds_one kind.Own kind.Own a b h = (refl, ap (drop 4) h)

pub no_rule : (k : Kind) (a b : List ℕ) → codes "rule " ++ a ≡ kind_text k ++ b → ⊥
no_rule kind.Fresh a b h = let n = ap two_bytes h in omega arith
no_rule kind.Out a b h = let n = ap two_bytes h in omega arith
no_rule kind.In a b h = let n = ap two_bytes h in omega arith
no_rule kind.Public a b h = let n = ap two_bytes h in omega arith
no_rule kind.Own a b h = let n = ap two_bytes h in omega arith

pub no_make : (k : Kind) (a b : List ℕ) → codes "make " ++ a ≡ kind_text k ++ b → ⊥
no_make kind.Fresh a b h = let n = ap two_bytes h in omega arith
no_make kind.Out a b h = let n = ap two_bytes h in omega arith
no_make kind.In a b h = let n = ap two_bytes h in omega arith
no_make kind.Public a b h = let n = ap two_bytes h in omega arith
no_make kind.Own a b h = let n = ap two_bytes h in omega arith

pub rule_no_make : (a b : List ℕ) → codes "rule " ++ a ≡ codes "make " ++ b → ⊥
rule_no_make a b h = let n = ap two_bytes h in omega arith
