use Rattle.std.proofs.Common.{◌≡◌, ◌++◌, map, drop}
use Rattle.sp_term.specs.View.{name_of}
use Rattle.sp_book.specs.View.{form_of}
use Rattle.sp_system.specs.SystemView.{system_of}
use Rattle.sp_spec_know.specs.Know.{output_forms}
use Rattle.sp_moves_know.proofs.know.output_forms.Given as goal

abbrev pub invariant-loop-form : goal.invariant-loop-form
invariant-loop-form l =
    map system_of l.made.items ++ output_forms (name_of l.rule.name) (map form_of (drop l.form-index l.form-items)) (system_of l.system) l.time
    ≡ output_forms (name_of l.rule.name) (map form_of l.rule.forms.items) (system_of l.system) l.time
