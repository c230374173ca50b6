use Rattle.std.proofs.Common.{List, map, ap, ◌∙◌}
use Rattle.std.specs.Global.{Vec}
use Rattle.std.specs.List.{remove}
use Rattle.sp_spec_system.specs.System as spec
use Rattle.sp_spec_system.specs.System.{with_events}
use Rattle.sp_spec_system.specs.MakingOne.{learnt_by_at}
use Rattle.sp_system.specs.declared.event.Event.{Event}
use Rattle.sp_system.specs.WayView.{way_of}
use Rattle.sp_system.specs.SystemView.{event_of, system_of}
use Rattle.sp_merge.proofs.Merges.{without}
use Rattle.sp_merge.proofs.joining.merged_events.Goals as goal

pub returns : goal.returns
returns c =
    let system = system_of c.args.system in
    let all = c.in_ok-others.ensures ∙ c.deref-2.ensures.value ∙ ap (λ (v : Vec Event). v.items) c.deref.ensures in
    ap (λ (es : Vec Event). with_events system (map event_of es.items)) c.in_ok-shared.ensures
    ∙ ap (λ (es : List spec.Event). with_events system es)
    (c.in_ok-events.ensures
    ∙ ap (learnt_by_at c.args.time (way_of c.args.way.now))
    (ap (map event_of) (c.remove.ensures.items ∙ ap (λ (es : List Event). remove es c.args.position) all)
    ∙ without c.args.system.events.items c.args.position))
