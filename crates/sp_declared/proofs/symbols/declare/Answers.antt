use Rattle.std.proofs.Common.{string_bytes, ◌∙◌}
use Rattle.sp_fact.specs.GroundView.{symbol_of}
use Rattle.sp_lines.specs.TextsView.{texts_of}
use Rattle.sp_declared.proofs.Declaring.{put_behind, left_out}
use Rattle.sp_declared.proofs.symbols.declare.Goals as goal

pub returns-in_ok-push : goal.returns-in_ok-push
returns-in_ok-push c =
    put_behind symbol_of (texts_of c.args.declared.now.names) c.args.declared.now.symbols.items c.reserve.new.self.items c.args.symbol (string_bytes c.in_ok-name.name) c.in_ok-see.field-0
    c.args.declared.now.is_exact c.in_ok-reserve.ensures.items (c.in_ok-name.ensures.ok ∙ c.as_str.ensures.value) c.in_ok-see.ensures.is_new
    c.push.new.self.items c.in_ok-push.ensures.items c.if-branch.true

pub returns-else-branch : goal.returns-else-branch
returns-else-branch c =
    left_out symbol_of (texts_of c.args.declared.now.names) c.args.declared.now.symbols.items c.reserve.new.self.items c.args.symbol (string_bytes c.in_ok-name.name) c.in_ok-see.field-0
    c.args.declared.now.is_exact c.in_ok-reserve.ensures.items (c.in_ok-name.ensures.ok ∙ c.as_str.ensures.value) c.in_ok-see.ensures.is_new
    c.if-branch.false
