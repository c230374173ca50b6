-- What exchanges of names leave as it is: one exchange is a list of one. Source: as in Laws.antt.
use Rattle.std.specs.Prelude.{◌≡◌, ◌↔◌, ℕ, List, ◌∷◌, map}
use Rattle.sp_spec.specs.Lists.{Member, Every}
use Rattle.sp_spec.specs.Term.{Sort, Msg, Variable, Name, Ground, Values, constant, name}
use Rattle.sp_spec.specs.Signature.{Signature, HasSort}
use Rattle.sp_spec.specs.Rule.{Rule, FactsMadeOf}
use Rattle.sp_spec.specs.Theory.{Theory, signature_of}
use Rattle.sp_spec.specs.Execution.{Trace}
use Rattle.sp_spec.specs.Log.{Log, IsLog}
use Rattle.sp_spec.specs.Guarded.{Guarded, Assignment, GuardedHolds}
use Rattle.sp_law_equal.specs.Right.{HaveNoNames}
use Rattle.sp_law_equal.specs.RightTheory.{IsRightTheory}
use Rattle.sp_spec_system.specs.System.{System}
use Rattle.sp_spec_system.specs.Numbered.{InFormula}
use Rattle.sp_spec_system.specs.Solutions.{Valuation, Solves}
use Rattle.sp_law_exchange.specs.Renaming.{renamed, log_renamed, trace_renamed, assignment_renamed, valuation_renamed, kept_by, IsOneToOne}
use Rattle.sp_law_exchange.specs.Exchange.{Exchange, of_public, of_fresh, exchanges, exchanged, exchanged_by, apart_from, IsUnlisted}
use Rattle.sp_law_exchange.specs.Leading.{AreOneToOne, leading, AreOfOneKind, AreApart, HaveNone, leading_values}
use Rattle.sp_law_exchange.specs.Laws.{any_variable, any_time, TheoryHasNames, SystemHasNames, KeepsOutside}

-- An exchange puts each of its two names where the other stood, leaves all others, and taken twice leaves everything; a list of them is one to one.
pub record ExchangesAreOneToOne : Type 0 where
  pub public : (a b : List ℕ) → (exchanged (of_public a b) (constant a) ≡ constant b) × (exchanged (of_public a b) (constant b) ≡ constant a)
  pub fresh : (a b : ℕ) → (exchanged (of_fresh a b) (name a) ≡ name b) × (exchanged (of_fresh a b) (name b) ≡ name a)
  pub twice : (e : Exchange) (t : Ground) → exchanged e (exchanged e t) ≡ t
  pub order : (e : Exchange) (es : List Exchange) (t : Ground) → exchanged_by (e ∷ es) t ≡ exchanged_by es (exchanged e t)
  pub one : (es : List Exchange) → IsOneToOne (exchanges es)
  pub kept : (es : List Exchange) (a : Name) → apart_from es a → kept_by (exchanges es) a
  pub unlisted : (es : List Exchange) (listed : List (List ℕ)) → Every (IsUnlisted listed) es → Every (λ c. (exchanges es).public c ≡ c) listed

-- Exchanging names that stand in no rule turns a learning log into one.
pub record ExchangesKeepLogs : Type 0 where
  pub each : (theory : Theory) (es : List Exchange) → TheoryHasNames (apart_from es) theory → (log : Log) → IsLog theory log → IsLog theory (log_renamed (exchanges es) log)
  pub right : (theory : Theory) (es : List Exchange) → IsRightTheory theory → Every (λ (rule : Rule). FactsMadeOf (apart_from es) any_variable rule.facts) theory.rules
      → (log : Log) → IsLog theory log → IsLog theory (log_renamed (exchanges es) log)

-- Exchanging names that don't stand in a formula leaves its truth as it is.
pub record ExchangesKeepTruth : Type 0 where
  pub each :
      (signature : Signature) → HaveNoNames signature.equations → (es : List Exchange) (f : Guarded) → InFormula (apart_from es) any_variable any_time f
      → (trace : Trace) (m : Assignment) → GuardedHolds signature trace m f ↔ GuardedHolds signature (trace_renamed (exchanges es) trace) (assignment_renamed (exchanges es) m) f

-- Exchanging names that don't stand in a system turns each of its solutions into one.
pub record ExchangesKeepSolutions : Type 0 where
  pub each :
      (theory : Theory) → HaveNoNames (signature_of theory).equations → (es : List Exchange) (s : System) → SystemHasNames (apart_from es) s
      → Every (KeepsOutside (exchanges es)) s.formulas → Every (KeepsOutside (exchanges es)) s.spent
      → (log : Log) (v : Valuation) → Solves theory log v s → Solves theory (log_renamed (exchanges es) log) (valuation_renamed (exchanges es) v) s

-- Where pairs of names are one to one, there are exchanges that lead the first of each to its second, and leave every name that stands in no pair.
pub record ExchangesLead : Type 0 where
  pub public : (ps : List (List ℕ × List ℕ)) (fs : List (ℕ × ℕ)) → AreOneToOne ps → Every (λ (p : List ℕ × List ℕ). (exchanges (leading ps fs)).public p.0 ≡ p.1) ps
  pub fresh : (ps : List (List ℕ × List ℕ)) (fs : List (ℕ × ℕ)) → AreOneToOne fs → Every (λ (p : ℕ × ℕ). (exchanges (leading ps fs)).fresh p.0 ≡ p.1) fs
  pub public_stay : (ps : List (List ℕ × List ℕ)) (fs : List (ℕ × ℕ)) (c : List ℕ) → (Member c (map (λ (p : List ℕ × List ℕ). p.0) ps) → ⊥) → (Member c (map (λ (p : List ℕ × List ℕ). p.1) ps) → ⊥)
      → (exchanges (leading ps fs)).public c ≡ c
  pub fresh_stay : (ps : List (List ℕ × List ℕ)) (fs : List (ℕ × ℕ)) (n : ℕ) → (Member n (map (λ (p : ℕ × ℕ). p.0) fs) → ⊥) → (Member n (map (λ (p : ℕ × ℕ). p.1) fs) → ⊥)
      → (exchanges (leading ps fs)).fresh n ≡ n
  -- so they do from the values of variables to others, where no two of the variables have one value, and leave names that are no values
  pub values : (xs : List Variable) (v w : Values) → AreApart xs v → AreApart xs w → Every (λ x. AreOfOneKind (v x) (w x)) xs
      → Every (λ x. renamed (exchanges (leading_values xs v w)) (v x) ≡ w x) xs
  pub spared : (constants : List (List ℕ)) (xs : List Variable) (v w : Values) → HaveNone constants xs v → HaveNone constants xs w
      → Every (λ c. (exchanges (leading_values xs v w)).public c ≡ c) constants
  pub kinds : (sort : Sort) (t u : Ground) → (sort ≡ Msg → ⊥) → HasSort sort t → HasSort sort u → AreOfOneKind t u
