-- The forms of rules that a book holds.
use Rattle.std.specs.Prelude.{List, map}
use Rattle.sp_spec_forms.specs.Forms as forms
use Rattle.sp_book.specs.View.{rule_forms_of}
use Rattle.sp_book.specs.declared.book.RuleBook.{RuleBook}

abbrev pub book_of : RuleBook → List forms.RuleForms
book_of b = map rule_forms_of b.rules.items
