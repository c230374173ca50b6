-- The way down in a left side enters the first argument in which the right side stands.
use Rattle.std.proofs.Common.{◌≡◌, Bool, true, false, ℕ, List, [], ◌∷◌, if◌then◌else◌, Option, Some, None, option_map, is_some, refl, sym, ap, ◌∙◌, Vec, Global}
use Rattle.std.specs.declared.rc.Rc.{Rc}
use Rattle.std.specs.Prelude.{unwrap_or}
use Rattle.std.specs.Option.{option_or}
use Rattle.sp_spec.specs.Term.{Term, Variable, app, none, more, Terms, joined, Ground, Values, valued}
use Rattle.sp_spec.specs.Same.{alike, is_part}
use Rattle.sp_spec.specs.Destruction.{Fork, way_to, way_among}
use Rattle.sp_spec.specs.Log.{Log}
use Rattle.sp_term.specs.declared.term.Name.{Name}
use Rattle.sp_term.specs.declared.term.Variable as leaf
use Rattle.sp_term.specs.declared.term.Term as memory
use Rattle.sp_term.specs.declared.term.Term.TheVariants.{App, rolls-App}
use Rattle.sp_term.specs.declared.term.Term.TheFolds.{fold-roll-Term}
use Rattle.sp_term.specs.declared.term.Term.TheOpen.{Term-F}
use Rattle.sp_term.specs.View.{name_of, variable_of, view, view_all, view_step}
use Rattle.sp_law_adversary.specs.Learning.{Chain, chain_from, chain_down, way_learnt}
use Rattle.sp_destruct.proofs.Ways.{way_found, goes_on}
use Rattle.sp_transfer.specs.Down.{chain_among}

-- an application in memory is one
view_app : (f : Name) (ts : Rc (Vec (memory.Term leaf.Variable) Global) Global) (nesting : ℕ) → view (App f ts nesting) ≡ app (name_of f) (view_all ts.value.items)
view_app f ts nesting =
    ap view (sym (rolls-App f ts nesting)) ∙ fold-roll-Term leaf.Variable (Term Variable) (view_step variable_of) (Term-F.App f ts nesting)

module _ (log : Log) (v : Values) (end : Ground) (r : Term Variable) where
  abbrev down : Option (List Fork) → Option Chain
  down o = chain_down log v end (unwrap_or o [])

  abbrev entered : Term Variable → Option Chain
  entered t = chain_from (way_learnt log (valued v t)) end (down (way_to r t))

  among_down : (f : List ℕ) (front ts : Terms Variable) → down (way_among r f front ts) ≡ chain_among log v end r ts
  among_down f front none = refl
  among_down f front (more t ts) =
      at (way_to r t) (is_part r t) (way_found r t) (among_down f (joined front (more t none)) ts)
    where
      at : (o : Option (List Fork)) (b : Bool) → is_some o ≡ b → down (way_among r f (joined front (more t none)) ts) ≡ chain_among log v end r ts
          → down (option_or (option_map (λ (forks : List Fork). record { symbol = f; front = front; entered = t; back = ts } ∷ forks) o) (way_among r f (joined front (more t none)) ts))
          ≡ (if b then chain_from (way_learnt log (valued v t)) end (down o) else chain_among log v end r ts)
      at None true e later = absurd cc
      at None false e later = later
      at (Some forks) true e later = refl
      at (Some forks) false e later = absurd cc

  -- below an application that is another term
  down_app : (f : List ℕ) (ts : Terms Variable) → alike r (app f ts) ≡ false → down (way_to r (app f ts)) ≡ chain_among log v end r ts
  down_app f ts e = ap down (goes_on r f ts e) ∙ among_down f none ts

  -- the same in memory
  pub down_term : (t : memory.Term leaf.Variable) (f : Name) (ts : Rc (Vec (memory.Term leaf.Variable) Global) Global) (nesting : ℕ)
      → t ≡ App f ts nesting → alike r (view t) ≡ false → down (way_to r (view t)) ≡ chain_among log v end r (view_all ts.value.items)
  down_term t f ts nesting e apart =
      let same = ap view e ∙ view_app f ts nesting in
      ap (λ (u : Term Variable). down (way_to r u)) same ∙ down_app (name_of f) (view_all ts.value.items) (ap (alike r) (sym same) ∙ apart)
