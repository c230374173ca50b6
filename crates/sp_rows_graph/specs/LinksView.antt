-- Two links in memory, and why they clash.
use Rattle.std.specs.Prelude.{Bool, List}
use Rattle.sp_spec_system.specs.System as spec
use Rattle.sp_system.specs.SystemView.{link_of}
use Rattle.sp_system.specs.declared.system.Link.{Link}
use Rattle.sp_spec_graph.specs.LinearOnce.{premises_clash, sources_clash}
use Rattle.sp_spec_graph.specs.SourceTwice.{used_twice}
use Rattle.sp_rows_graph.specs.declared.links.Clash.{Clash}
use Rattle.sp_rows_graph.specs.declared.links.Clash.TheVariants.{Premises, Sources, UsedTwice}

abbrev pub both_of : Link × Link → spec.Link × spec.Link
both_of p = (link_of p.0, link_of p.1)

-- whether two links clash so
abbrev pub clash : Clash → List spec.Event → spec.Link → spec.Link → Bool
clash Premises events = premises_clash events
clash Sources events = sources_clash
clash UsedTwice events = used_twice events
