-- Taking facts from a state whose facts are in normal form: the first place at which a fact is found will do.
-- Source: CSF 2012, "Labeled multiset rewriting": a state is a multiset, and a persistent fact stays when it is taken.
use Rattle.std.specs.Prelude.{◌≡◌, ℕ, zero, suc, Bool, not, ◌&&◌, if◌then◌else◌, List, [], ◌∷◌, Option, Some, None, option_map, option_and_then}
use Rattle.std.specs.Str.{bytes_eq}
use Rattle.sp_spec.specs.Same.{same_terms}
use Rattle.sp_spec.specs.Rule.{Fact}

-- both or neither
abbrev pub same_choice : Bool → Bool → Bool
same_choice b c = if b then c else not c

-- whether two facts are the same
abbrev pub same_fact : Fact ⊥ → Fact ⊥ → Bool
same_fact f g = bytes_eq f.symbol g.symbol && (same_choice f.persistent g.persistent && same_terms f.args g.args)

-- how often the fact stands in the list
abbrev pub times : Fact ⊥ → List (Fact ⊥) → ℕ
times f [] = zero
times f (g ∷ gs) = if same_fact f g then suc (times f gs) else times f gs

-- the same facts, each as often, in any order
pub record SameFacts (fs gs : List (Fact ⊥)) : Type 0 where
  pub each : (f : Fact ⊥) → times f fs ≡ times f gs

-- the list without the fact at the first place where it stands
abbrev pub removed : Fact ⊥ → List (Fact ⊥) → Option (List (Fact ⊥))
removed f [] = None
removed f (g ∷ gs) = if same_fact f g then Some gs else option_map (λ hs. g ∷ hs) (removed f gs)

-- what is left when the fact is taken: a persistent fact stays
abbrev pub without : Fact ⊥ → List (Fact ⊥) → Option (List (Fact ⊥))
without f state = if f.persistent then option_map (λ rest. state) (removed f state) else removed f state

-- what is left when the facts are taken one after the other
abbrev pub taken : List (Fact ⊥) → List (Fact ⊥) → Option (List (Fact ⊥))
taken [] state = Some state
taken (f ∷ fs) state = option_and_then (taken fs) (without f state)
