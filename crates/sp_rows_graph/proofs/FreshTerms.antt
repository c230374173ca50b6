-- What is picked first of the terms whose Fr some premises use is picked of the first premise, or of the others; and the terms of which an event uses the Fr.
use Rattle.std.proofs.Common.{◌≡◌, Bool, true, false, if◌then◌else◌, List, [], ◌∷◌, ◌++◌, Option, Some, None, option_and_then, refl, ap}
use Rattle.sp_spec.specs.Term.{Variable, Term, Terms, none, more}
use Rattle.sp_spec.specs.Rule.{Fact}
use Rattle.sp_spec.specs.Log.{is_fr}
use Rattle.sp_spec_system.specs.System.{anyhow, public_name, own_name, constructed, chain_begun, chain_done, Happening, rule_step, sending, learning, happening_premises, Event, System}
use Rattle.sp_spec_system.specs.Picked.{first_some}
use Rattle.sp_spec_graph.specs.Fresh.{first_term, fresh_terms, happening_fresh}
use Rattle.sp_spec_know.specs.FreshFirst.{missing_behind}
use Rattle.std.specs.Option.{option_or}
use Rattle.sp_rows_graph.specs.FreshView.{first_of, fresh_one, own_one, fresh_behind, missing_with}

pub first_of_fact : {B : Type 0} (pick : Term Variable → Option B) (f : Fact Variable) (fs : List (Fact Variable))
    → first_some pick (fresh_terms (f ∷ fs)) ≡ option_or (option_and_then pick (fresh_one f)) (first_some pick (fresh_terms fs))
first_of_fact {B = B} pick f fs = at (is_fr f) f.args
  where
    at : (b : Bool) (ts : Terms Variable) → first_some pick ((if b then first_term ts else []) ++ fresh_terms fs)
        ≡ option_or (option_and_then pick (if b then first_of ts else None)) (first_some pick (fresh_terms fs))
    at true none = refl
    at true (more t ts) = refl
    at false ts = refl

-- what an event uses is its own name, or what its premises use
pub fresh_seen : (h : Happening) → happening_fresh h ≡ fresh_behind (own_one h) (happening_premises h)
fresh_seen (rule_step r facts) = refl
fresh_seen (sending m) = refl
fresh_seen (learning m anyhow) = refl
fresh_seen (learning m public_name) = refl
fresh_seen (learning m own_name) = refl
fresh_seen (learning m constructed) = refl
fresh_seen (learning m (chain_begun i k ts)) = refl
fresh_seen (learning m (chain_done i k ts)) = refl

-- so the first for which pairs are missing is that name, or one of those
pub missing_seen : (s : System) (e : Event)
    → missing_behind s e ≡ first_some (missing_with s e.time) (fresh_behind (own_one e.happening) (happening_premises e.happening))
missing_seen s e = ap (first_some (missing_with s e.time)) (fresh_seen e.happening)

pub first_alone : {A B : Type 0} (pick : A → Option B) (x : A) → first_some pick (x ∷ []) ≡ pick x
first_alone {A} {B} pick x = at (pick x)
  where
    at : (o : Option B) → option_or o None ≡ o
    at None = refl
    at (Some y) = refl
