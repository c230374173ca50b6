-- Equality modulo the equations, and normal forms. Source: CSF 2012, "Cryptographic messages" (the equational theory of a
-- signature); Meier's thesis, chapter 2. A chain may pass through terms with other symbols than the signature's.
use Rattle.std.specs.Prelude.{◌≡◌, ℕ, List}
use Rattle.sp_spec.specs.Lists.{Member}
use Rattle.sp_spec.specs.Term.{var, constant, name, app, none, more, Ground, Grounds, Values, valued}
use Rattle.sp_spec.specs.Signature.{Equation, RespectsSorts}

-- in one place of the term an instance of the left side of an equation is replaced by the same instance of the right side
mutual
  pub data Rewriting (es : List Equation) : Ground → Ground → Type 0 where
    at_root : {t u : Ground} → (e : Equation) → Member e es → (v : Values) → RespectsSorts v → t ≡ valued v e.left → u ≡ valued v e.right → Rewriting es t u
    below : {f : List ℕ} {ts us : Grounds} → RewritingIn es ts us → Rewriting es (app f ts) (app f us)

  pub data RewritingIn (es : List Equation) : Grounds → Grounds → Type 0 where
    here : {t u : Ground} {ts : Grounds} → Rewriting es t u → RewritingIn es (more t ts) (more u ts)
    there : {t : Ground} {ts us : Grounds} → RewritingIn es ts us → RewritingIn es (more t ts) (more t us)

-- a finite chain of such replacements, each from left to right or from right to left
pub data Equal (es : List Equation) : Ground → Ground → Type 0 where
  end : {t : Ground} → Equal es t t
  forth : {t u w : Ground} → Rewriting es t u → Equal es u w → Equal es t w
  back : {t u w : Ground} → Rewriting es u t → Equal es u w → Equal es t w

abbrev pub EqualAll : List Equation → Grounds → Grounds → Type 0
EqualAll es none none = Unit {0}
EqualAll es none (more u us) = ⊥
EqualAll es (more t ts) none = ⊥
EqualAll es (more t ts) (more u us) = Equal es t u × EqualAll es ts us

-- the left side of no equation matches the term
abbrev pub MatchesNone : List Equation → Ground → Type 0
MatchesNone es t = (e : Equation) → Member e es → (v : Values) → RespectsSorts v → valued v e.left ≡ t → ⊥

-- nor any term inside it
abbrev mutual
  pub IsNormal : List Equation → Ground → Type 0
  IsNormal es (var x) = ⊥
  IsNormal es (constant c) = Unit {0}
  IsNormal es (name n) = Unit {0}
  IsNormal es (app f ts) = AreNormal es ts × MatchesNone es (app f ts)

  pub AreNormal : List Equation → Grounds → Type 0
  AreNormal es none = Unit {0}
  AreNormal es (more t ts) = IsNormal es t × AreNormal es ts

-- the second are normal, and equal to the first
abbrev pub AreNormalFormsOf : List Equation → Grounds → Grounds → Type 0
AreNormalFormsOf es ts us = EqualAll es ts us × AreNormal es us
