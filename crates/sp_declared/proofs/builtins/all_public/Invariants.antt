use Rattle.std.proofs.Common.{◌≡◌, map, take}
use Rattle.sp_fact.specs.GroundView.{symbol_of}
use Rattle.sp_spec_text.specs.Declared.{public}
use Rattle.sp_declared.proofs.builtins.all_public.Given as goal

abbrev pub invariant-loop-name : goal.invariant-loop-name
invariant-loop-name l = map symbol_of l.made.items ≡ map (λ d. public d.0.now d.1) (take l.name-index l.declared)
