-- What chains in memory that have begun stand for.
use Rattle.std.specs.Prelude.{map}
use Rattle.sp_term.specs.View.{view}
use Rattle.sp_spec_know.specs.Chain as spec
use Rattle.sp_moves_know.specs.declared.chain.Begun.{Begun}

abbrev pub begun_of : Begun → spec.Begun
begun_of b = record {
  message = view b.message.now;
  from = b.chain.now.time;
  conclusion = b.chain.now.conclusion;
  passed = map view b.chain.now.messages.items;
  last = view b.last.now;
}
