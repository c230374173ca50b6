-- The steps of an entry, the oldest first: its fresh names are made, and then its rule is used.
use Rattle.std.proofs.Common.{◌≡◌, List, [], ◌∷◌, ◌++◌, map, refl, sym, ap, ◌∙◌, append_assoc}
use Rattle.sp_spec.specs.Term.{Ground}
use Rattle.sp_spec.specs.Execution.{Step, make_fresh}
use Rattle.sp_law_log_steps.specs.Found.{fresh_steps}
use Rattle.sp_spec.specs.Lists.{newest_first}
use Rattle.sp_spec.proofs.Lists.{newest_twice}

fresh_steps_newest : (ts : List Ground) → fresh_steps ts ≡ newest_first (map make_fresh ts)
fresh_steps_newest [] = refl
fresh_steps_newest (t ∷ ts) = ap (λ (zs : List Step). zs ++ make_fresh t ∷ []) (fresh_steps_newest ts)

-- the names that are made, the first of them first
names_first : (ts : List Ground) → newest_first (fresh_steps ts) ≡ map make_fresh ts
names_first ts = ap newest_first (fresh_steps_newest ts) ∙ newest_twice (map make_fresh ts)

-- and then the rule is used
pub steps_added : (before after : List Step) (ts : List Ground) (s : Step) → after ≡ (before ++ map make_fresh ts) ++ s ∷ []
    → after ≡ before ++ (newest_first (fresh_steps ts) ++ s ∷ [])
steps_added before after ts s e =
    e ∙ append_assoc before (map make_fresh ts) (s ∷ []) ∙ ap (λ (zs : List Step). before ++ (zs ++ s ∷ [])) (sym (names_first ts))
