use Rattle.std.proofs.Common.{◌≡◌, ◌++◌, drop, map}
use Rattle.sp_read_parts.specs.Views.{bindings}
use Rattle.sp_declared.specs.View.{texts_of}
use Rattle.sp_spec_text.specs.Bindings.{Binding}
use Rattle.sp_wf_rules.proofs.bindings.names_of.Given as goal

abbrev pub invariant-loop-binding : goal.invariant-loop-binding
invariant-loop-binding l =
    texts_of l.names.items ++ map (λ (b : Binding). b.variable.name) (bindings (drop l.binding-index l.binding-items)) ≡ map (λ (b : Binding). b.variable.name) (bindings l.bindings.items)
