use Rattle.std.proofs.Common.{[]}
use Rattle.clap.specs.Words.{found_of}
use Rattle.sp_words.proofs.Asking.{name_asked, no_name, no_number, no_size, number_asked}
use Rattle.sp_words.proofs.Command.text_by.Goals as goal

pub returns-in_err-get_str-in-Gen : goal.returns-in_err-get_str-in-Gen
returns-in_err-get_str-in-Gen c = rw c.from_residual.ensures
    (no_number (found_of c.args.values.now) [] c.args.self c.get_str.result c.in-Gen.is c.get_str.ensures c.in_err-get_str-in-Gen.was)

pub returns-in_err-size_by-in-Gen : goal.returns-in_err-size_by-in-Gen
returns-in_err-size_by-in-Gen c = rw c.from_residual-in_err-size_by-in-Gen.ensures
    (no_size (found_of c.args.values.now) [] c.args.self c.get_str.result c.in_ok-get_str-in-Gen.field-0 c.in-Gen.is c.get_str.ensures
    c.in_ok-get_str-in-Gen.was c.in_err-size_by-in-Gen.ensures)

pub returns-in_err-get_str-in_default : goal.returns-in_err-get_str-in_default
returns-in_err-get_str-in_default c = rw c.from_residual-in_err-get_str-in_default.ensures
    (no_name (found_of c.args.values.now) [] c.args.self c.get_str-in_default.result c.in_default.not-Gen c.get_str-in_default.ensures
    c.in_err-get_str-in_default.was)

pub returns-in_ok-size_by-in-Gen : goal.returns-in_ok-size_by-in-Gen
returns-in_ok-size_by-in-Gen c = number_asked (found_of c.args.values.now) [] c.args.self c.get_str.result c.in_ok-get_str-in-Gen.field-0
    c.in_ok-size_by-in-Gen.field-0 c.in-Gen.is c.get_str.ensures c.in_ok-get_str-in-Gen.was c.in_ok-size_by-in-Gen.ensures

pub returns-in_ok-get_str-in_default : goal.returns-in_ok-get_str-in_default
returns-in_ok-get_str-in_default c = name_asked (found_of c.args.values.now) [] c.args.self c.get_str-in_default.result
    c.in_ok-get_str-in_default.field-0 c.in_default.not-Gen c.get_str-in_default.ensures c.in_ok-get_str-in_default.was
