use Rattle.std.proofs.Common.{ap, ◌∙◌, ◌++◌}
use Rattle.std.specs.List.{remove}
use Rattle.sp_shared.proofs.Replaced.{replaced}
use Rattle.sp_shared.proofs.list.replace_in.Goals as goal

pub returns : goal.returns
returns g c =
    replaced c.args.items.now.items c.args.instead.items c.append.new.self.items c.remove.new.self.items c.append-2.new.self.items c.args.place
    (c.in_ok-append.ensures.items ∙ ap (λ xs. xs ++ c.args.instead.items) c.in_ok-behind.ensures.items)
    (c.remove.ensures.items ∙ ap (λ xs. remove xs 0) c.in_ok-behind.ensures.tail)
    c.in_ok-append-2.ensures.items
