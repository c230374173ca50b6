-- The last message that a chain has passed.
use Rattle.std.proofs.Common.{◌≡◌, ℕ, suc, ◌-◌, List, [], ◌∷◌, length, map, Some, None, option_map, slice_get, refl, sym, ap, ◌∙◌, arith}
use Rattle.sp_spec.specs.Term as terms
use Rattle.sp_term.specs.View.{view}
use Rattle.sp_term.specs.declared.term.Term.{Term}
use Rattle.sp_term.specs.declared.term.Variable.{Variable}
use Rattle.sp_spec_system.specs.System.{learning, chain_begun}
use Rattle.sp_spec_know.specs.Chain.{Begun, begun, last_of}

last_there : (t : Term Variable) (ts : List (Term Variable)) → option_map view (slice_get (t ∷ ts) (length ts)) ≡ Some (last_of (view t) (map view ts))
last_there t [] = refl
last_there t (u ∷ us) = last_there u us

one_less : (n : ℕ) → suc n - 1 ≡ n
one_less n = omega arith

last_got : (t : Term Variable) (ts : List (Term Variable)) → option_map view (slice_get (t ∷ ts) (length (t ∷ ts) - 1)) ≡ Some (last_of (view t) (map view ts))
last_got t ts = ap (λ (n : ℕ). option_map view (slice_get (t ∷ ts) n)) (one_less (length ts)) ∙ last_there t ts

-- what is learnt by a chain that has passed these messages, of which this is the last
abbrev passed : terms.Term terms.Variable → ℕ → ℕ → List (terms.Term terms.Variable) → terms.Term terms.Variable → Begun
passed m j k ts last = record { message = m; from = j; conclusion = k; passed = ts; last = last }

pub begun_there : (m : terms.Term terms.Variable) (j k : ℕ) (ts : List (Term Variable)) (u : Term Variable) → slice_get ts (length ts - 1) ≡ Some u
    → begun (learning m (chain_begun j k (map view ts))) ≡ Some (record { message = m; from = j; conclusion = k; passed = map view ts; last = view u })
begun_there m j k [] u e = absurd cc
begun_there m j k (t ∷ ts) u e =
    let same : Some (last_of (view t) (map view ts)) ≡ Some (view u) = sym (last_got t ts) ∙ ap (option_map view) e in
    ap (option_map (passed m j k (map view (t ∷ ts)))) same

pub not_begun : (m : terms.Term terms.Variable) (j k : ℕ) (ts : List (Term Variable)) → slice_get ts (length ts - 1) ≡ None
    → begun (learning m (chain_begun j k (map view ts))) ≡ None
not_begun m j k [] e = refl
not_begun m j k (t ∷ ts) e = let gone : Some (last_of (view t) (map view ts)) ≡ None = sym (last_got t ts) ∙ ap (option_map view) e in absurd cc
