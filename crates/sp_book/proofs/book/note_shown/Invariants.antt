use Rattle.std.proofs.Common.{◌≡◌, ℕ, List, map, drop}
use Rattle.sp_book.specs.View.{form_of}
use Rattle.sp_book.specs.Book.{listed, shown_names, noted_forms}
use Rattle.sp_book.proofs.book.note_shown.Given as goal

abbrev pub invariant-loop-form : goal.invariant-loop-form
invariant-loop-form l =
    (q : List ℕ) → noted_forms shown_names l.place q (map form_of (drop l.form-index l.form-items)) (listed l.by_action q)
    ≡ noted_forms shown_names l.place q (map form_of l.rule.forms.items) (listed l.initial.by_action q)
