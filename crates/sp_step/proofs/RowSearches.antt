-- The first row that applies, as a loop looks for it.
use Rattle.std.proofs.Common.{◌≡◌, ◌<◌, ◌≤◌, ℕ, ◌+◌, List, [], ◌∷◌, drop, length, map, Option, Some, None, sym, ap, ◌∙◌, slice_index_or}
use Rattle.std.proofs.lemmas.List.{drop_more, drop_all}
use Rattle.sp_spec_system.specs.Rules.{Rules}
use Rattle.sp_spec_system.specs.System.{System}
use Rattle.sp_spec_proof.specs.Rows.{by_row, by_rows, first_of}
use Rattle.sp_step.specs.declared.reduce.Row as memory
use Rattle.sp_step.specs.declared.reduce.Row.TheVariants as row
use Rattle.sp_step.specs.ReduceView.{row_of}

-- the rows in memory, in their order
abbrev pub all_rows : List memory.Row
all_rows =
    row.Split
    ∷ row.OpenExistential
    ∷ row.Equate
    ∷ row.Unequal
    ∷ row.Order
    ∷ row.Last
    ∷ row.ActionStands
    ∷ row.Disjunction
    ∷ row.SendInput
    ∷ row.SendLearnt
    ∷ row.LearnOnce
    ∷ row.LinearOnce
    ∷ row.FreshOnce
    ∷ row.SettleLearn
    ∷ row.FreshFirst
    ∷ row.Instantiate
    ∷ []

module _ (rules : Rules) (items : List memory.Row) (i : ℕ) (s : System) where
  abbrev pub rows_left : ℕ → System → Option System
  rows_left k t = by_rows rules (map row_of (drop k items)) t

  -- the element that stands there, whatever would stand beyond the end
  next_row : (other : memory.Row) → i < length items → rows_left i s ≡ first_of (by_row rules (row_of (slice_index_or items i other)) s) (rows_left (i + 1) s)
  next_row other h = ap (λ (rs : List memory.Row). by_rows rules (map row_of rs) s) (drop_more items i other h)

  pub row_fails : (other : memory.Row) (t : System) → i < length items → (by_row rules (row_of (slice_index_or items i other)) s ≡ None) × (t ≡ s) → rows_left i s ≡ rows_left (i + 1) t
  row_fails other t h e = next_row other h ∙ ap (λ (o : Option System). first_of o (rows_left (i + 1) s)) e.0 ∙ sym (ap (rows_left (i + 1)) e.1)

  pub row_applies : (other : memory.Row) (t : System) → i < length items → by_row rules (row_of (slice_index_or items i other)) s ≡ Some t → rows_left i s ≡ Some t
  row_applies other t h e = next_row other h ∙ ap (λ (o : Option System). first_of o (rows_left (i + 1) s)) e

  pub rows_end : length items ≤ i → rows_left i s ≡ None
  rows_end h = ap (λ (rs : List memory.Row). by_rows rules (map row_of rs) s) (drop_all i items h)
