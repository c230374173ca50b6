-- The lemmas are tried one after the other, and each takes what those before it gave.
use Rattle.std.proofs.Common.{◌≡◌, ◌+◌, ℕ, List, [], ◌∷◌, ◌++◌, map, drop, sym, ap, ap₂, ◌∙◌, subst, append_assoc}
use Rattle.sp_pose.specs.Asked.{Asked, asked_of}
use Rattle.sp_pose.specs.declared.problem.GuardedLemma.{GuardedLemma}
use Rattle.sp_analysis.specs.Sought.{Setting}
use Rattle.sp_analysis.specs.Taken.{Taken}
use Rattle.sp_analysis.specs.Printed.{Printed, taken_from, to_print, all_to_print, IsNameable, AreNameable}
use Rattle.sp_analysis.specs.declared.replies.Command.{Command}

module _ (command : Command) (setting : Setting) (taken more : List Taken) (place : ℕ) (ls : List GuardedLemma) (l : GuardedLemma) (at : drop place ls ≡ l ∷ drop (place + 1) ls) (p : Printed)
    (prints : p ≡ to_print command setting taken (asked_of l)) (gave : more ≡ taken ++ taken_from (asked_of l) p) where
  abbrev rest : List Asked
  rest = map asked_of (drop (place + 1) ls)

  next : map asked_of (drop place ls) ≡ asked_of l ∷ rest
  next = ap (map asked_of) at

  takes : taken ++ taken_from (asked_of l) (to_print command setting taken (asked_of l)) ≡ more
  takes = sym (gave ∙ ap (λ (q : Printed). taken ++ taken_from (asked_of l) q) prints)

  -- what is printed of it, and of those behind it
  first : all_to_print command setting taken (map asked_of (drop place ls)) ≡ p ∷ all_to_print command setting more rest
  first =
      ap (all_to_print command setting taken) next
      ∙ ap₂ (λ (q : Printed) (ts : List Taken). q ∷ all_to_print command setting ts rest) (sym prints) takes

  pub one_printed : (made made_then all : List Printed) → made ++ all_to_print command setting taken (map asked_of (drop place ls)) ≡ all → made_then ≡ made ++ p ∷ []
      → made_then ++ all_to_print command setting more rest ≡ all
  one_printed made made_then all so e =
      ap (λ (ps : List Printed). ps ++ all_to_print command setting more rest) e
      ∙ append_assoc made (p ∷ []) (all_to_print command setting more rest)
      ∙ sym (ap (λ (ps : List Printed). made ++ ps) first) ∙ so

  pub one_nameable : IsNameable command setting taken (asked_of l) → AreNameable command setting more rest → AreNameable command setting taken (map asked_of (drop place ls))
  one_nameable h later =
      subst (AreNameable command setting taken) (sym next) (h, subst (λ (ts : List Taken). AreNameable command setting ts rest) (sym takes) later)
