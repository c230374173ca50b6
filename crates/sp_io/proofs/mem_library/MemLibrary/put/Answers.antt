use Rattle.std.proofs.Common.{Some, bytes_eq, ap, ◌∙◌}
use Rattle.std.specs.Prelude.{if◌then◌else◌}
use Rattle.sp_io.specs.Shelf.{Shelf, under}
use Rattle.sp_io.proofs.Texts.{lookup-pairs-updates}
use Rattle.sp_io.proofs.mem_library.MemLibrary.put.Goals as goal

pub returns-clause-held : goal.returns-clause-held
returns-clause-held c = λ name.
    let after = lookup-pairs-updates (λ text. text.items) c.self.inside.texts c.insert.new.self c.in_ok-key.key c.in_ok-text.text c.in_ok-insert.ensures.updates name in
    rw (c.in_ok-key.ensures.ok, c.in_ok-text.ensures.items) at after ∙ ap (λ (shelf : Shelf). if bytes_eq c.args.name.now name then Some c.args.bytes.now else under shelf name) c.self.view_is
