-- Facts taken from a state, and added to it.
use Rattle.std.proofs.Common.{◌≡◌, Bool, true, false, List, [], ◌∷◌, ◌++◌, if◌then◌else◌, Option, Some, None, option_map, refl, sym, ap, ◌∙◌, append_assoc}
use Rattle.sp_spec.specs.Rule.{Fact}
use Rattle.sp_spec.specs.Log.{Source}
use Rattle.sp_law_run.specs.Taken.{same_fact}
use Rattle.sp_transfer.specs.Construction.{Given, Taking, take_one}
use Rattle.sp_transfer.specs.Sourced.{found}

-- what is found in the rest, behind these
abbrev pub behind : List Given → Option Taking → Option Taking
behind front o = option_map (λ (t : Taking). record { sources = t.sources; left = front ++ t.left }) o

pub behind_none : (o : Option Taking) → o ≡ behind [] o
behind_none None = refl
behind_none (Some t) = refl

pub behind_one : (front : List Given) (g : Given) (o : Option Taking)
    → behind front (option_map (λ (t : Taking). record { sources = t.sources; left = g ∷ t.left }) o) ≡ behind (front ++ g ∷ []) o
behind_one front g None = refl
behind_one front g (Some t) = ap (λ (gs : List Given). Some (record { sources = t.sources; left = gs })) (sym (append_assoc front (g ∷ []) t.left))

-- with one fact more
abbrev pub besides : Given → Option Taking → Option Taking
besides g o = option_map (λ (t : Taking). record { sources = t.sources; left = g ∷ t.left }) o

-- with these left in place of what is
abbrev pub all_left : List Given → Option Taking → Option Taking
all_left gs o = option_map (λ (t : Taking). record { sources = t.sources; left = gs }) o

left_besides : (g : Given) (gs : List Given) (o : Option Taking) → besides g (all_left gs o) ≡ all_left (g ∷ gs) (besides g o)
left_besides g gs None = refl
left_besides g gs (Some t) = refl

abbrev nothing : Option Taking
nothing = None

none_either : (b : Bool) → (if b then nothing else nothing) ≡ nothing
none_either true = refl
none_either false = refl

-- what is taken is what is found; a persistent fact stays
pub taken_found : (f : Fact ⊥) (gs : List Given) → take_one f gs ≡ (if f.persistent then all_left gs (found f gs) else found f gs)
taken_found f [] = sym (none_either f.persistent)
taken_found f (g ∷ gs) = at f.persistent (same_fact f g.fact) (take_one f gs) (found f gs) (taken_found f gs)
  where
    at : (b s : Bool) (o p : Option Taking) → o ≡ (if b then all_left gs p else p)
        → (if s then Some (record { sources = g.source ∷ []; left = if b then g ∷ gs else gs }) else besides g o)
        ≡ (if b then all_left (g ∷ gs) (if s then Some (record { sources = g.source ∷ []; left = gs }) else besides g p)
        else (if s then Some (record { sources = g.source ∷ []; left = gs }) else besides g p))
    at true true o p e = refl
    at false true o p e = refl
    at true false o p e = ap (besides g) e ∙ left_besides g gs p
    at false false o p e = ap (besides g) e

-- with sources in front of those of the others
abbrev pub with_sources : List Source → Option Taking → Option Taking
with_sources sources o = option_map (λ (t : Taking). record { sources = sources ++ t.sources; left = t.left }) o

pub nothing_taken : (f : Fact ⊥) (gs : List Given) → found f gs ≡ None → None ≡ take_one f gs
nothing_taken f gs e = sym (taken_found f gs ∙ ap (λ (o : Option Taking). if f.persistent then all_left gs o else o) e ∙ none_either f.persistent)
