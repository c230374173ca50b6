-- What stands behind a negation makes with it an implication, a formula, and a formula that reaches as far as it can.
use Rattle.std.proofs.Common.{ℕ, ◌+◌, ◌<◌, List, ◌∷◌}
use Rattle.sp_spec_text.specs.Signs as s
use Rattle.sp_spec_text.specs.Token.{Lexeme, sign}
use Rattle.sp_spec.specs.Formula.{Formula, both, either, implies}
use Rattle.sp_spec_text.specs.Formulas.{NoSign, equivalent, SpellsNegation, conjunction, SpellsAnds, no_more_and, and_then, disjunction, SpellsOrs, no_more_or, or_then, SpellsImplication, alone, implication, SpellsFormula, one, two, SpellsDisjunction, SpellsReach, reach_one, reach_two}
use Rattle.sp_law_await.proofs.Meaning.{Spelled, MoreOf, no_more, more_and, more_or, more_then, TwiceOf, once, twice}

data Arrowed : ℕ → List Lexeme → List Lexeme → Type 0 where
  no_arrow : {n : ℕ} {rest : List Lexeme} → Arrowed n rest rest
  arrow : {n : ℕ} {f : Formula} {tokens rest : List Lexeme} → n < 128 → SpellsImplication (n + 1) tokens f rest → Arrowed n (sign s.Implies ∷ tokens) rest

-- behind a negation: `&` and others, `|` and others, and an arrow or none
record InParts (n : ℕ) (tokens rest : List Lexeme) : Type 0 where
  behind_ands : List Lexeme
  behind_ors : List Lexeme
  ands : (f : Formula) → (g : Formula) × SpellsAnds n f tokens g behind_ands
  ors : (f : Formula) → (g : Formula) × SpellsOrs n f behind_ands g behind_ors
  arrow : Arrowed n behind_ors rest

joined : {n : ℕ} {f : Formula} {tokens mid rest : List Lexeme} → SpellsNegation n tokens f mid → InParts n mid rest → Spelled (SpellsImplication n) tokens rest
joined {n} {f} {tokens} h p = at (disjunction (conjunction h (p.ands f).1) (p.ors (p.ands f).0).1) p.arrow
  where
    at : {g : Formula} {mid rest : List Lexeme} → SpellsDisjunction n tokens g mid → Arrowed n mid rest → Spelled (SpellsImplication n) tokens rest
    at {g} d no_arrow = (g, alone d)
    at {g} d (arrow {f = f} lt i) = (implies g f, implication d lt i)

in_parts : {n : ℕ} {tokens rest : List Lexeme} → MoreOf n tokens rest → InParts n tokens rest
in_parts (no_more {rest = r} h) = record { behind_ands = r; behind_ors = r; ands = λ f. (f, no_more_and); ors = λ f. (f, no_more_or); arrow = no_arrow }
in_parts (more_and {f = g} h m) =
    let p = in_parts m in
    record { behind_ands = p.behind_ands; behind_ors = p.behind_ors; ands = λ f. ((p.ands (both f g)).0, and_then h (p.ands (both f g)).1); ors = p.ors; arrow = p.arrow }
in_parts (more_or {f = g} {tokens = ts} h m) =
    let p = in_parts m in
    record { behind_ands = sign s.Or ∷ ts; behind_ors = p.behind_ors; ands = λ f. (f, no_more_and); ors = λ f. ((p.ors (either f (p.ands g).0)).0, or_then (conjunction h (p.ands g).1) (p.ors (either f (p.ands g).0)).1); arrow = p.arrow }
in_parts (more_then {tokens = ts} lt h m) =
    let i = joined h (in_parts m) in
    record { behind_ands = sign s.Implies ∷ ts; behind_ors = sign s.Implies ∷ ts; ands = λ f. (f, no_more_and); ors = λ f. (f, no_more_or); arrow = arrow lt i.1 }

implication_of : {n : ℕ} {f : Formula} {tokens mid rest : List Lexeme} → SpellsNegation n tokens f mid → MoreOf n mid rest → Spelled (SpellsImplication n) tokens rest
implication_of h m = joined h (in_parts m)

no_sign_behind : {n : ℕ} {tokens rest : List Lexeme} → MoreOf n tokens rest → NoSign rest
no_sign_behind (no_more h) = h
no_sign_behind (more_and h m) = no_sign_behind m
no_sign_behind (more_or h m) = no_sign_behind m
no_sign_behind (more_then lt h m) = no_sign_behind m

pub formula_of : {n : ℕ} {f : Formula} {tokens mid behind rest : List Lexeme} → SpellsNegation n tokens f mid → MoreOf n mid behind → TwiceOf n behind rest → Spelled (SpellsFormula n) tokens rest
formula_of h m (once d) = let i = implication_of h m in (i.0, one i.1)
formula_of h m (twice k l) = let i = implication_of h m in let j = implication_of k l in (equivalent i.0 j.0, two i.1 j.1)

pub reach_of : {n : ℕ} {f : Formula} {tokens mid behind rest : List Lexeme} → SpellsNegation n tokens f mid → MoreOf n mid behind → TwiceOf n behind rest → Spelled (SpellsReach n) tokens rest
reach_of h m (once d) = let i = implication_of h m in (i.0, reach_one i.1 (no_sign_behind m) d)
reach_of h m (twice k l) = let i = implication_of h m in let j = implication_of k l in (equivalent i.0 j.0, reach_two i.1 j.1 (no_sign_behind l))
