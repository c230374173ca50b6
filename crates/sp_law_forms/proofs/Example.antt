-- The forms of a rule with verify(s, m, p), over the equation of signing: two, as the definition computes them.
use Rattle.std.proofs.Common.{◌≡◌, ℕ, true, false, List, [], ◌∷◌, ◌++◌, refl}
use Rattle.std.specs.Prelude.{codes}
use Rattle.sp_spec.specs.Term.{Msg, Variable, Term, app, none, more}
use Rattle.sp_spec.specs.Signature.{Equation, msg, pair, pair_equations}
use Rattle.sp_spec.specs.Rule.{Facts, Declared, Rule}
use Rattle.sp_spec_forms.specs.Numbering.{Form}
use Rattle.sp_spec_forms.specs.Forms.{forms}

abbrev sign : Term Variable → Term Variable → Term Variable
sign m k = app (codes "sign") (more m (more k none))

abbrev verify : Term Variable → Term Variable → Term Variable → Term Variable
verify s m p = app (codes "verify") (more s (more m (more p none)))

abbrev pk : Term Variable → Term Variable
pk k = app (codes "pk") (more k none)

abbrev yes : Term Variable
yes = app (codes "true") none

-- verify(sign(m, k), m, pk(k)) = true
abbrev signing : Equation
signing = record { left = verify (sign (msg 0) (msg 1)) (msg 0) (pk (msg 1)); right = yes }

-- [ !Pk(p), M(m, s) ] --[ Eq(t, true) ]-> [ ]
abbrev facts_of : Term Variable → Term Variable → Term Variable → Term Variable → Facts Variable
facts_of p m s t = record {
  premises =
      record { symbol = codes "Pk"; persistent = true; args = more p none }
      ∷ record { symbol = codes "M"; persistent = false; args = more m (more s none) } ∷ [];
  actions = record { symbol = codes "Eq"; args = more t (more yes none) } ∷ [];
  conclusions = [];
}

abbrev declared : List ℕ → Declared
declared x = record { name = x; sort = Msg }

abbrev check : Rule
check = record {
  name = codes "Check";
  variables = declared (codes "p") ∷ declared (codes "m") ∷ declared (codes "s") ∷ [];
  facts = facts_of (msg 0) (msg 1) (msg 2) (verify (msg 2) (msg 1) (msg 0));
}

-- as it is, and at a signature of the message by the key
abbrev two : List Form
two =
    record { facts = facts_of (msg 0) (msg 1) (msg 2) (verify (msg 2) (msg 1) (msg 0)); count = 3; kept = more (msg 0) (more (msg 1) (more (msg 2) none)) }
    ∷ record { facts = facts_of (pk (msg 0)) (msg 1) (sign (msg 1) (msg 0)) yes; count = 2; kept = more (pk (msg 0)) (more (msg 1) (more (sign (msg 1) (msg 0)) none)) }
    ∷ []

two_forms : forms (pair_equations ++ signing ∷ []) check ≡ two
two_forms = refl

-- [ I(x) ] --[ ]-> [ O(fst(x), snd(x)) ]: of the four choices two leave a term that a left side matches
abbrev open_facts : Term Variable → Term Variable → Term Variable → Facts Variable
open_facts x a b = record {
  premises = record { symbol = codes "I"; persistent = false; args = more x none } ∷ [];
  actions = [];
  conclusions = record { symbol = codes "O"; persistent = false; args = more a (more b none) } ∷ [];
}

abbrev taken : List ℕ → Term Variable → Term Variable
taken f t = app f (more t none)

abbrev opened : Rule
opened = record {
  name = codes "Open";
  variables = declared (codes "x") ∷ [];
  facts = open_facts (msg 0) (taken (codes "fst") (msg 0)) (taken (codes "snd") (msg 0));
}

two_opened : forms pair_equations opened
    ≡ record { facts = opened.facts; count = 1; kept = more (msg 0) none }
    ∷ record { facts = open_facts (pair (msg 0) (msg 1)) (msg 0) (msg 1); count = 2; kept = more (pair (msg 0) (msg 1)) none }
    ∷ []
two_opened = refl

-- [ I(x) ] --[ ]-> [ O(fst(fst(x)), x) ]: the inner one first; with both left, with the inner used, with both used
abbrev nested : Rule
nested = record {
  name = codes "Nested";
  variables = declared (codes "x") ∷ [];
  facts = open_facts (msg 0) (taken (codes "fst") (taken (codes "fst") (msg 0))) (msg 0);
}

three_nested : forms pair_equations nested
    ≡ record { facts = nested.facts; count = 1; kept = more (msg 0) none }
    ∷ record { facts = open_facts (pair (msg 0) (msg 1)) (taken (codes "fst") (msg 0)) (pair (msg 0) (msg 1)); count = 2; kept = more (pair (msg 0) (msg 1)) none }
    ∷ record { facts = open_facts (pair (pair (msg 0) (msg 1)) (msg 2)) (msg 0) (pair (pair (msg 0) (msg 1)) (msg 2)); count = 3; kept = more (pair (pair (msg 0) (msg 1)) (msg 2)) none }
    ∷ []
three_nested = refl
