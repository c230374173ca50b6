-- The rules that a signature and a book in memory are.
use Rattle.sp_spec_system.specs.Rules.{Rules}
use Rattle.sp_fact.specs.GroundView.{signature_of}
use Rattle.sp_fact.specs.declared.signature.Signature.{Signature}
use Rattle.sp_book.specs.BookView.{book_of}
use Rattle.sp_book.specs.declared.book.RuleBook.{RuleBook}

abbrev pub rules_of : Signature → RuleBook → Rules
rules_of signature book = record { signature = signature_of signature; forms = book_of book }
