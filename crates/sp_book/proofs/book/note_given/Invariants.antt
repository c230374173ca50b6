use Rattle.std.proofs.Common.{◌≡◌, ℕ, List, map, drop}
use Rattle.sp_book.specs.View.{form_of}
use Rattle.sp_book.specs.Book.{listed, given_names, noted_forms}
use Rattle.sp_book.proofs.book.note_given.Given as goal

abbrev pub invariant-loop-form : goal.invariant-loop-form
invariant-loop-form l =
    (q : List ℕ) → noted_forms given_names l.place q (map form_of (drop l.form-index l.form-items)) (listed l.by_conclusion q)
    ≡ noted_forms given_names l.place q (map form_of l.rule.forms.items) (listed l.initial.by_conclusion q)
