-- Where each term has one normal form, no left side that is a variable matches an application.
use Rattle.std.proofs.Common.{◌≡◌, inl, inr, ℕ, ◌<◌, List, [], ◌∷◌, ◌++◌, length, refl, sym, ap, ◌∙◌, subst, arith}
use Rattle.std.proofs.lemmas.List.{length-append}
use Rattle.sp_spec.specs.Lists.{Member}
use Rattle.sp_spec.specs.Term.{Sort, Msg, Fresh, Pub, Variable, Term, var, constant, name, app, none, Ground, Grounds, Values, valued}
use Rattle.sp_spec.specs.Signature.{Equation, HasSort, RespectsSorts}
use Rattle.sp_law_equal.specs.Destructors.{HasRoot, IsDestructor}
use Rattle.sp_law_equal.specs.NormalForms.{HaveNormalForms}
use Rattle.sp_law_equal.proofs.Plain.{plain_matches_none}

abbrev root : Term Variable → List ℕ
root (app f ts) = f
root t = []

-- a name longer than each destructor
abbrev longer : List Equation → List ℕ
longer [] = 0 ∷ []
longer (e ∷ es) = root e.left ++ longer es

longer_than : (es : List Equation) (e : Equation) → Member e es → length (root e.left) < length (longer es)
longer_than [] e m = absurd m
longer_than (d ∷ es) e (inl is) =
    let more_than = some_length es in
    let lengths = length-append (root d.left) (longer es) in
    let here : length (root d.left) < length (longer (d ∷ es)) = omega (arith, more_than, lengths) in
    subst (λ (c : Equation). length (root c.left) < length (longer (d ∷ es))) is here
  where
    some_length : (ds : List Equation) → 0 < length (longer ds)
    some_length [] = omega arith
    some_length (c ∷ ds) = let rest = some_length ds in let lengths = length-append (root c.left) (longer ds) in omega (arith, rest, lengths)
longer_than (d ∷ es) e (inr m) =
    let rest = longer_than es e m in
    let lengths = length-append (root d.left) (longer es) in
    omega (arith, rest, lengths)

at_root : (f : List ℕ) (l : Term Variable) → HasRoot f l → root l ≡ f
at_root f (var x) h = absurd h
at_root f (constant c) h = absurd h
at_root f (name n) h = absurd h
at_root f (app g ts) h = h

no_destructor : (es : List Equation) → IsDestructor es (longer es) → ⊥
no_destructor es d =
    let less = longer_than es d.0 d.1 in
    let same : length (root d.0.left) ≡ length (longer es) = ap length (at_root (longer es) d.0.left d.2) in
    absurd (omega (arith, less, same))

-- the message, and names for the other sorts
abbrev message_or_name : Ground → Sort → Ground
message_or_name t Msg = t
message_or_name t Fresh = name 0
message_or_name t Pub = constant []

has_sort : (t : Ground) (s : Sort) → HasSort s (message_or_name t s)
has_sort t Msg = tt
has_sort t Fresh = tt
has_sort t Pub = tt

of_messages : (s : Sort) (f : List ℕ) (us : Grounds) (t : Ground) → HasSort s (app f us) → message_or_name t s ≡ t
of_messages Msg f us t h = refl
of_messages Fresh f us t h = absurd h
of_messages Pub f us t h = absurd h

-- else it would match the application of a symbol that is no destructor
pub no_variable : (es : List Equation) → HaveNormalForms es → (e : Equation) → Member e es → (v : Values) → RespectsSorts v → (f : List ℕ) (us : Grounds)
    → valued v e.left ≡ app f us → (x : Variable) → e.left ≡ var x → ⊥
no_variable es good e m v r f us same x is =
    let t : Ground = app (longer es) none in
    let w : Values = λ y. message_or_name t y.sort in
    let value : v x ≡ app f us = ap (valued v) (sym is) ∙ same in
    plain_matches_none es good (longer es) none (no_destructor es) e m w (λ y. has_sort t y.sort)
    (ap (valued w) is ∙ of_messages x.sort f us t (subst (HasSort x.sort) value (r x)))
