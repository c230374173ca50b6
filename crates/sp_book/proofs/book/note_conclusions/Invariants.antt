use Rattle.std.proofs.Common.{◌≡◌, ℕ, List, map, drop}
use Rattle.sp_fact.specs.View.{fact_of}
use Rattle.sp_book.specs.Book.{fact_names, listed, noted_each}
use Rattle.sp_book.proofs.book.note_conclusions.Given as goal

abbrev pub invariant-loop-conclusion : goal.invariant-loop-conclusion
invariant-loop-conclusion l =
    (q : List ℕ) → noted_each l.place q (fact_names (map fact_of (drop l.conclusion-index l.conclusion-items))) (listed l.by_conclusion q)
    ≡ noted_each l.place q (fact_names (map fact_of l.conclusions.items)) (listed l.initial.by_conclusion q)
