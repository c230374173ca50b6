-- The first variable of a formula that is not guarded, in the order in which the binders stand in the text. Source: CSF 2012, "Guarded
-- trace properties"; Tamarin manual, "Property specification". f <=> g is (f ==> g) & (g ==> f), where each binder stands first as in the
-- text, and then once more.
use Rattle.std.specs.Prelude.{◌≡◌, ◌↔◌, ℕ, zero, suc, ◌+◌, Bool, true, List, [], ◌∷◌, if◌then◌else◌, Option, Some, None}
use Rattle.std.specs.Option.{option_or}
use Rattle.sp_spec.specs.Formula.{Written, Formula, truth, falsity, happens, equals, precedes, not_so, both, either, implies, for_all, for_some}
use Rattle.sp_spec.specs.Guarded.{Binder, message, time, Atom, Guarded, some, every}
use Rattle.sp_spec_text.specs.Formulas.{equivalent}
use Rattle.sp_law_guard.specs.GuardedForm.{binder_of, guarded_form}
use Rattle.sp_law_guard.specs.IsGuarded.{message_guarded, time_guarded, messages_in, times_in, is_guarded}

-- How many messages the quantifier directly above, through negations alone, binds: where an Ex is joined with it, and where an All is.
pub record QuantifierAbove : Type 0 where
  pub of_some : ℕ
  pub of_all : ℕ

abbrev pub nothing_above : QuantifierAbove
nothing_above = record { of_some = zero; of_all = zero }

-- All x. f is not Ex x. not f
abbrev pub turned : QuantifierAbove → QuantifierAbove
turned above = record { of_some = above.of_all; of_all = above.of_some }

abbrev pub one_more : Binder → ℕ → ℕ
one_more (message sort) n = suc n
one_more time n = n

abbrev pub below_some : Written → QuantifierAbove → QuantifierAbove
below_some x above = record { of_some = one_more (binder_of x.mark) above.of_some; of_all = zero }

abbrev pub below_all : Written → QuantifierAbove → QuantifierAbove
below_all x above = record { of_some = zero; of_all = one_more (binder_of x.mark) above.of_all }

-- The first of these binders is guarded, where the same quantifier binds so many messages outside of them.
abbrev pub first_guarded : ℕ → List Atom → List Binder → Bool
first_guarded outer guard [] = true
first_guarded outer guard (message sort ∷ bs) = message_guarded (outer + suc (messages_in bs)) guard (messages_in bs)
first_guarded outer guard (time ∷ bs) = time_guarded guard (times_in bs)

-- the outermost binder of a quantifier's form
abbrev pub outermost_guarded : ℕ → Option Guarded → Bool
outermost_guarded outer (Some (some bs guard g)) = first_guarded outer guard bs
outermost_guarded outer (Some (every bs guard g)) = first_guarded outer guard bs
outermost_guarded outer (Some g) = true
outermost_guarded outer None = true

abbrev pub named_unless : Written → Bool → Option (List ℕ) → Option (List ℕ)
named_unless x guarded later = if guarded then later else Some x.name

-- Within the reach of these binders, the innermost first. A quantifier's variable is the outermost binder of its guarded form.
abbrev pub unguarded : List Written → QuantifierAbove → Formula → Option (List ℕ)
unguarded bs above truth = None
unguarded bs above falsity = None
unguarded bs above (happens a i) = None
unguarded bs above (equals t u) = None
unguarded bs above (precedes i j) = None
unguarded bs above (not_so f) = unguarded bs (turned above) f
unguarded bs above (both f g) = option_or (unguarded bs nothing_above f) (unguarded bs nothing_above g)
unguarded bs above (either f g) = option_or (unguarded bs nothing_above f) (unguarded bs nothing_above g)
unguarded bs above (implies f g) = option_or (unguarded bs nothing_above f) (unguarded bs nothing_above g)
unguarded bs above (for_all x f) = named_unless x (outermost_guarded above.of_all (guarded_form bs (for_all x f))) (unguarded (x ∷ bs) (below_all x above) f)
unguarded bs above (for_some x f) = named_unless x (outermost_guarded above.of_some (guarded_form bs (for_some x f))) (unguarded (x ∷ bs) (below_some x above) f)

-- of a closed formula that has a guarded form
abbrev pub first_unguarded : Formula → Option (List ℕ)
first_unguarded f = unguarded [] nothing_above f

-- There is none exactly where the guarded form is guarded. Of an equivalence, the variables of the first side come before those of the
-- second, and none is unguarded in one direction alone.
pub record UnguardedIsTold : Type 0 where
  pub none : (f : Formula) (g : Guarded) → guarded_form [] f ≡ Some g → (first_unguarded f ≡ None) ↔ (is_guarded g ≡ true)
  pub equivalences : (f g : Formula) → first_unguarded (equivalent f g) ≡ option_or (first_unguarded f) (first_unguarded g)
