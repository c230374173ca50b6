-- One element after the other, of which each adds something to what is made.
use Rattle.std.proofs.Common.{◌≡◌, ℕ, ◌+◌, ◌<◌, List, ◌∷◌, ◌++◌, drop, length, get_or, sym, ap, ◌∙◌}
use Rattle.sp_spec.proofs.Lists.{next_there}

module _ {A B C : Type 0} (add : C → List B → C) (both : (a : C) (bs cs : List B) → add (add a bs) cs ≡ add a (bs ++ cs))
    (each : A → List B) (flat : List A → List B) (begins : (x : A) (xs : List A) → flat (x ∷ xs) ≡ each x ++ flat xs) where
  pub next : (ys xs : List A) (i : ℕ) (x : A) (before after target : C) → ys ≡ xs → i < length ys → x ≡ get_or ys i x → after ≡ add before (each x)
      → add before (flat (drop i xs)) ≡ target → add after (flat (drop (i + 1) xs)) ≡ target
  next ys xs i x before after target same below is added so =
      let rest = drop (i + 1) xs in
      ap (λ (c : C). add c (flat rest)) added ∙ both before (each x) (flat rest) ∙ ap (add before) (sym (begins x rest))
      ∙ sym (ap (λ (zs : List A). add before (flat zs)) (next_there ys xs i x same below is)) ∙ so
