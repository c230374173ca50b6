use Rattle.std.proofs.Common.{◌≡◌, map, ap, ◌∙◌}
use Rattle.sp_fact.specs.GroundView.{symbol_of}
use Rattle.sp_declared.specs.NumberedView.{numbered_of}
use Rattle.sp_spec_text.specs.Written.{WrittenText}
use Rattle.sp_spec_text.specs.Declared.{all_equations, resolved}
use Rattle.sp_wf_rules.specs.BindingView.{names_of}
use Rattle.sp_written.specs.Views as view
use Rattle.sp_finding.specs.View.{lines_of}
use Rattle.sp_pose.proofs.Posed.{resolved_same, lines_on, examined_so}
use Rattle.sp_pose.proofs.examined.examined.Goals as goal

pub unreachable-requires : goal.unreachable-requires
unreachable-requires c =
    let read = rw c.in_default.is at c.in_ok-read.ensures in
    let said = rw c.in_default-2.is at c.in_ok-place.ensures in
    read.value.none said.0 said.1

pub returns : goal.returns
returns c =
    let said : WrittenText = view.theory c.in-Some.read in
    let read = rw c.in-Some.is at c.in_ok-read.ensures in
    let symbols = map symbol_of c.in_ok-symbols.symbols.items in
    let numbered = map numbered_of c.in_ok-equations.equations.items in
    let seen = view.theory c.in_ok-theory.theory in
    let same : seen ≡ resolved said = resolved_same said symbols seen c.in_ok-symbols.ensures c.in_ok-theory.ensures.value in
    examined_so said c.in-Some.read _ read.value c.in_ok-symbols.ensures same (c.in_ok-equations.ensures ∙ ap (λ (u : WrittenText). all_equations u.items) same)
    (lines_on said symbols numbered (map names_of c.in_ok-bound.bound.items) seen (lines_of c.in_ok-fatal.fatal.items) c.in_ok-symbols.ensures c.in_ok-theory.ensures.value c.in_ok-equations.ensures c.in_ok-bound.ensures
    c.in_ok-fatal.ensures) c.in_ok-theory.ensures.places c.in_ok-theory.ensures.end read.places read.ordered.0 read.ordered.1
