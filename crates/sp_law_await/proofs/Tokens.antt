-- What the tests on tokens say.
use Rattle.std.proofs.Common.{◌≡◌, ℕ, ◌==◌, eqb-true, if◌then◌else◌, ◌⊎◌, inl, inr, Bool, true, false, not, ◌&&◌, ◌||◌, is_some, List, Option, Some, None, codes, refl, sym, ap, subst, ◌∙◌, bytes_eq}
use Rattle.std.proofs.lemmas.Slice.Eq.{bytes_eq-Decides}
use Rattle.sp_spec_text.specs.Signs.{Sign}
use Rattle.sp_spec_text.specs.Signs as s
use Rattle.sp_spec_text.specs.Names.{IsName, is_reserved, is_capital, names_fact}
use Rattle.sp_await.specs.Keywords.{TraceKind, All, Exists, kind_word, traces_word}
use Rattle.sp_await.specs.Table.{code}
use Rattle.std.proofs.lemmas.Bool.{or_cases, false_from_ne_true}

decode : ℕ → Sign
decode n =
    if n == 0 then s.Open else if n == 1 then s.Close else if n == 2 then s.OpenList else if n == 3 then s.CloseList
    else if n == 4 then s.OpenArrow else if n == 5 then s.CloseArrow else if n == 6 then s.Arrow else if n == 7 then s.Implies
    else if n == 8 then s.Iff else if n == 9 then s.Comma else if n == 10 then s.Colon else if n == 11 then s.Dot
    else if n == 12 then s.Quote else if n == 13 then s.Bang else if n == 14 then s.Tilde else if n == 15 then s.Dollar
    else if n == 16 then s.Hash else if n == 17 then s.At else if n == 18 then s.And else if n == 19 then s.Or
    else if n == 20 then s.Equals else if n == 21 then s.Less else if n == 22 then s.Dash else if n == 23 then s.OpenBrace
    else if n == 24 then s.CloseBrace else if n == 25 then s.Greater else if n == 26 then s.Slash else s.Plus

decoded : (x : Sign) → decode (code x) ≡ x
unfolding decode
decoded s.Open = refl
decoded s.Close = refl
decoded s.OpenList = refl
decoded s.CloseList = refl
decoded s.OpenArrow = refl
decoded s.CloseArrow = refl
decoded s.Arrow = refl
decoded s.Implies = refl
decoded s.Iff = refl
decoded s.Comma = refl
decoded s.Colon = refl
decoded s.Dot = refl
decoded s.Quote = refl
decoded s.Bang = refl
decoded s.Tilde = refl
decoded s.Dollar = refl
decoded s.Hash = refl
decoded s.At = refl
decoded s.And = refl
decoded s.Or = refl
decoded s.Equals = refl
decoded s.Less = refl
decoded s.Dash = refl
decoded s.OpenBrace = refl
decoded s.CloseBrace = refl
decoded s.Greater = refl
decoded s.Slash = refl
decoded s.Plus = refl

pub same_sign : (x y : Sign) → (code x == code y) ≡ true → x ≡ y
same_sign x y e = sym (decoded x) ∙ ap decode (eqb-true (code x) (code y) e) ∙ decoded y

pub same_word : (w v : List ℕ) → bytes_eq w v ≡ true → w ≡ v
same_word w v e = (bytes_eq-Decides w v).0 e

pub either_word : (w v u : List ℕ) → (bytes_eq w v || bytes_eq w u) ≡ true → (w ≡ v) ⊎ (w ≡ u)
either_word w v u e = at (or_cases (bytes_eq w v) (bytes_eq w u) e)
  where
    at : (bytes_eq w v ≡ true) ⊎ (bytes_eq w u ≡ true) → (w ≡ v) ⊎ (w ≡ u)
    at (inl i) = inl (same_word w v i)
    at (inr i) = inr (same_word w u i)

pub name_is : {b : Bool} → not b ≡ true → b ≡ false
name_is {b = true} e = sym e
name_is {b = false} e = refl

pub some_is : {A : Type 0} (o : Option A) → is_some o ≡ true → (x : A) × (o ≡ Some x)
some_is None e = absurd (let none : ⊥ = cc in none)
some_is (Some x) e = (x, refl)

pub is_some_of : {A : Type 0} {o : Option A} {x : A} → o ≡ Some x → is_some o ≡ true
is_some_of e = rw e refl

fact_name : (a b : Bool) → (a && not b) ≡ true → b ≡ false
fact_name true true e = sym e
fact_name true false e = refl
fact_name false b e = absurd (let none : ⊥ = cc in none)

-- what names a fact is a name
pub fact_is_name : (w : List ℕ) → names_fact w ≡ true → is_reserved w ≡ false
fact_is_name w e = fact_name (is_capital w) (is_reserved w) e

pub names_truth : names_fact (codes "T") ≡ true
unfolding is_reserved
names_truth = refl

pub names_falsity : names_fact (codes "F") ≡ true
unfolding is_reserved
names_falsity = refl

-- ---- words that are names, and words that are none

pub solved_named : IsName (codes "SOLVED")
unfolding is_reserved
solved_named = refl

pub by_named : IsName (codes "by")
unfolding is_reserved
by_named = refl

pub hide_named : IsName (codes "hide_lemma")
unfolding is_reserved
hide_named = refl

pub rule_named : IsName (codes "rule")
unfolding is_reserved
rule_named = refl

pub lemma_named : IsName (codes "lemma")
unfolding is_reserved
lemma_named = refl

pub builtins_named : IsName (codes "builtins")
unfolding is_reserved
builtins_named = refl

pub functions_named : IsName (codes "functions")
unfolding is_reserved
functions_named = refl

pub equations_named : IsName (codes "equations")
unfolding is_reserved
equations_named = refl

pub heuristic_named : IsName (codes "heuristic")
unfolding is_reserved
heuristic_named = refl

pub kind_named : (y : TraceKind) → IsName (kind_word y)
unfolding is_reserved
kind_named All = refl
kind_named Exists = refl

pub traces_named : (y : TraceKind) → IsName (traces_word y)
unfolding is_reserved
traces_named All = refl
traces_named Exists = refl

-- a word that is reserved is no name
pub reserved_is : {w v : List ℕ} → is_reserved v ≡ true → w ≡ v → IsName w → ⊥
reserved_is {w} {v} e d n = let i : is_reserved v ≡ false = subst (λ (u : List ℕ). is_reserved u ≡ false) d n in let none : ⊥ = cc in none

pub name_differs : (w v : List ℕ) → is_reserved v ≡ true → IsName w → bytes_eq w v ≡ false
name_differs w v e n = false_from_ne_true (bytes_eq w v) (λ h. reserved_is e (same_word w v h) n)

-- what is so of a word is so of one that is the same
pub at_word : (P : List ℕ → Type 0) (w v : List ℕ) → bytes_eq w v ≡ true → P v → P w
at_word P w v e h = subst P (sym (same_word w v e)) h
