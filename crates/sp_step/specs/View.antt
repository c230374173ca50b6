-- The contexts that those in memory stand for.
use Rattle.std.specs.Prelude.{map, Some, []}
use Rattle.sp_term.specs.View.{name_of}
use Rattle.sp_fact.specs.GroundView.{signature_of}
use Rattle.sp_solved.specs.Found.{found}
use Rattle.sp_solved.specs.View.{root_of}
use Rattle.sp_spec_system.specs.Move.{asked_formulas}
use Rattle.sp_spec_system.specs.Move as spec
use Rattle.sp_step.specs.declared.context.Context.{Context}
use Rattle.sp_book.specs.BookView.{book_of}
use Rattle.sp_spec_system.specs.Rules as spec_rules
use Rattle.sp_step.specs.declared.context.Rules.{Rules}
pub use Rattle.sp_moves.specs.View.{move_of, case_of}

-- the rules of a proof, with their forms
abbrev pub rules_of : Rules → spec_rules.Rules
rules_of r = record { signature = signature_of r.signature.now; forms = book_of r.book.now }

-- the search in a context ends with the log that is looked for
abbrev pub context_of : Context → spec.Context
context_of c = record {
  rules = record { signature = signature_of c.sought.signature.now; forms = book_of c.rules.now };
  public_names = map name_of c.sought.constants.now.items;
  root = Some (root_of c.sought.root);
  table = [];
  found = found (signature_of c.sought.signature.now) (book_of c.rules.now) (map name_of c.sought.constants.now.items) (asked_formulas (root_of c.sought.root));
}
