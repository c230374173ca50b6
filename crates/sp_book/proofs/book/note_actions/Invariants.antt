use Rattle.std.proofs.Common.{◌≡◌, ℕ, List, map, drop}
use Rattle.sp_fact.specs.View.{action_of}
use Rattle.sp_book.specs.Book.{action_names, listed, noted_each}
use Rattle.sp_book.proofs.book.note_actions.Given as goal

abbrev pub invariant-loop-action : goal.invariant-loop-action
invariant-loop-action l =
    (q : List ℕ) → noted_each l.place q (action_names (map action_of (drop l.action-index l.action-items))) (listed l.by_action q)
    ≡ noted_each l.place q (action_names (map action_of l.actions.items)) (listed l.initial.by_action q)
