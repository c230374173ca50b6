-- A term over the symbols, of names that may be shown and whose numbers have an end, may be written.
use Rattle.std.specs.Prelude.{List}
use Rattle.sp_spec.specs.Term.{var, constant, name, app, none, more, Ground, Grounds, AllMadeOf}
use Rattle.sp_spec.specs.Signature.{Symbol, IsOver, AreOver}
use Rattle.sp_spec_printed.specs.StepLines.{IsWritable, AreWritable}
use Rattle.sp_law_printed_log.specs.Shown.{shown_names, numbered_names, no_variable, HasNames}

module _ (symbols : List Symbol) where
  mutual
    pub term_writable : (t : Ground) → IsOver symbols t → HasNames shown_names t → HasNames numbered_names t → IsWritable symbols t
    term_writable (var x) over shown numbered = over
    term_writable (constant c) over shown numbered = shown
    term_writable (name n) over shown numbered = (shown, numbered)
    term_writable (app f ts) over shown numbered = (over.0, terms_writable ts over.1 shown numbered)

    pub terms_writable : (ts : Grounds) → AreOver symbols ts → AllMadeOf shown_names no_variable ts → AllMadeOf numbered_names no_variable ts → AreWritable symbols ts
    terms_writable none over shown numbered = tt
    terms_writable (more t ts) over shown numbered = (term_writable t over.0 shown.0 numbered.0, terms_writable ts over.1 shown.1 numbered.1)
