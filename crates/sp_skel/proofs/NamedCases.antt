-- Cases with names, as they stand in a text.
use Rattle.std.proofs.Common.{ℕ, suc, List, [], ◌∷◌, ◌++◌, Option, Some, None}
use Rattle.sp_spec_system.specs.System.{System}
use Rattle.sp_spec_system.specs.Move.{Case}
use Rattle.sp_spec_system.specs.Cases.{case_if, numbered, named}
use Rattle.sp_spec_text.specs.Names.{IsName, IsWord}
use Rattle.sp_skel.proofs.CaseNames.{case_named}

abbrev pub CasesNamed : List Case → Type 0
CasesNamed [] = Unit {0}
CasesNamed (c ∷ cs) = IsName c.name × IsWord c.name × CasesNamed cs

pub named_append : (xs ys : List Case) → CasesNamed xs → CasesNamed ys → CasesNamed (xs ++ ys)
named_append [] ys h k = k
named_append (c ∷ xs) ys h k = (h.0, h.1, named_append xs ys h.2 k)

pub if_named : (name : List ℕ) (o : Option System) → IsName name × IsWord name → CasesNamed (case_if name o)
if_named name None h = tt
if_named name (Some s) h = (h.0, h.1, tt)

numbered_named : (name : List ℕ) (k : ℕ) (systems : List System) → IsWord name → CasesNamed (numbered name k systems)
numbered_named name k [] h = tt
numbered_named name k (s ∷ systems) h = let n = case_named name k h in (n.0, n.1, numbered_named name (suc k) systems h)

pub rule_named : (name : List ℕ) (systems : List System) → IsName name → IsWord name → CasesNamed (named name systems)
rule_named name [] h w = tt
rule_named name (s ∷ []) h w = (h, w, tt)
rule_named name (s ∷ t ∷ systems) h w = numbered_named name 1 (s ∷ t ∷ systems) w
