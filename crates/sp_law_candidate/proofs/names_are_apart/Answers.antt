use Rattle.std.proofs.Common.{[]}
use Rattle.sp_spec_solved.specs.Naming.{in_events, variables_of}
use Rattle.sp_law_candidate.proofs.Names as names
use Rattle.sp_law_candidate.proofs.names_are_apart.Goals as goal

pub returns : goal.returns
returns c = record {
  sorts = λ constants events. names.respects constants (variables_of events);
  apart = λ constants events x y m k e. names.apart constants (variables_of events) x y (names.all_seen x (in_events events) [] m) (names.all_seen y (in_events events) [] k) e;
  others = λ constants events x m d k e. names.others constants (variables_of events) x (names.all_seen x (in_events events) [] m) d k e;
}
