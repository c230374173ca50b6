use Rattle.std.proofs.Common.{◌≤◌, length}
use Rattle.std.specs.Io.KnownBytes.{Consumes}
use Rattle.sp_host.proofs.files.read_within.Given as goal

abbrev pub invariant-loop : goal.invariant-loop
invariant-loop g l = record {
  within : length l.bytes.items ≤ l.limit;
  read : l.counter ≤ length l.bytes.items;
  known : Consumes (g.I.Read.remaining l.fn.reader) (g.I.Read.remaining l.reader) l.bytes.items;
}
