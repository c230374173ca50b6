use Rattle.std.proofs.Common.{◌≡◌, drop}
use Rattle.sp_declared.specs.View.{texts_of}
use Rattle.sp_wf_rules.specs.BindingFindings.{and_new}
use Rattle.sp_wf_rules.proofs.bindings.see_all.Given as goal

abbrev pub invariant-loop-name : goal.invariant-loop-name
invariant-loop-name l = and_new (texts_of l.names.items) (texts_of (drop l.name-index l.more.items)) ≡ and_new (texts_of l.fn.names.items) (texts_of l.more.items)
