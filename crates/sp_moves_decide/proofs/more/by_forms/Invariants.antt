use Rattle.std.proofs.Common.{◌≡◌, map, take}
use Rattle.sp_term.specs.View.{name_of}
use Rattle.sp_book.specs.View.{form_of}
use Rattle.sp_system.specs.SystemView.{system_of}
use Rattle.sp_spec_graph.specs.More.{another_step}
use Rattle.sp_moves_decide.proofs.more.by_forms.Given as goal

abbrev pub invariant-loop-form : goal.invariant-loop-form
invariant-loop-form l = map system_of l.made.items ≡ map (another_step (system_of l.system) (name_of l.rule.name)) (map form_of (take l.form-index l.form-items))
