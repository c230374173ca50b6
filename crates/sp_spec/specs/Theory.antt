-- What a theory is: the text without its sugar, its comments and its proofs. Source: Tamarin manual, "Theory files".
use Rattle.std.specs.Prelude.{ℕ, List}
use Rattle.sp_spec.specs.Signature.{Symbol, Equation, Signature, with_pairs}
use Rattle.sp_spec.specs.Rule.{Rule}
use Rattle.sp_spec.specs.Formula.{Formula}

pub data TraceKind : Type 0 where
  all_traces : TraceKind
  exists_trace : TraceKind

pub record Restriction : Type 0 where
  pub name : List ℕ
  pub formula : Formula

pub record Lemma : Type 0 where
  pub name : List ℕ
  pub kind : TraceKind
  pub formula : Formula

pub record Theory : Type 0 where
  pub symbols : List Symbol
  pub equations : List Equation
  pub rules : List Rule
  pub restrictions : List Restriction
  pub lemmas : List Lemma

-- the pairs' and the theory's own
abbrev pub signature_of : Theory → Signature
signature_of theory = with_pairs theory.symbols theory.equations
