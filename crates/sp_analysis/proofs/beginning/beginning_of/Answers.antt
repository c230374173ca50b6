use Rattle.std.proofs.Common.{Bool, false, List, map, Option, ap, ◌∙◌}
use Rattle.std.specs.Prelude.{option_map}
use Rattle.sp_spec.specs.Guarded.{Guarded}
use Rattle.sp_spec_system.specs.Move.{InductionCases, Root}
use Rattle.sp_formula.specs.FormulaView.{formula_of}
use Rattle.sp_pose.specs.Asked as ask
use Rattle.sp_analysis.specs.Sought.{begins_by, is_consecutive, root_with, sought}
use Rattle.sp_analysis.specs.View.{setting_in, cases_in}
use Rattle.sp_analysis.proofs.beginning.beginning_of.Goals as goal

abbrev root : List Guarded → List Guarded → Guarded → Bool → Bool → Option InductionCases → Root
root restrictions taken f begins consecutive cases = record {
  restrictions = restrictions;
  taken = taken;
  sought = f;
  begins_with_induction = begins;
  consecutive = consecutive;
  cases = cases;
}

pub returns : goal.returns
returns c =
    let restrictions = (setting_in c.args.setting.now).restrictions in
    let a = ask.asked_of c.args.lemma.now in
    let taken = map formula_of c.in_ok-taken.taken.items in
    let begins = begins_by a.kind a.attributes in
    let ranking = (setting_in c.args.setting.now).ranking in
    let consecutive = is_consecutive (is_consecutive false ranking) a.attributes in
    let asked = c.is_consecutive-consecutive.ensures ∙ ap (λ (b : Bool). is_consecutive b a.attributes) c.is_consecutive-of_text.ensures in
    ap (λ (f : Guarded). root restrictions taken f c.begins_by-by_induction.result c.is_consecutive-consecutive.result (option_map cases_in c.in_ok-cases.cases)) c.in_ok-sought.ensures
    ∙ ap (λ (b : Bool). root restrictions taken (sought a.kind a.form) b c.is_consecutive-consecutive.result (option_map cases_in c.in_ok-cases.cases)) c.begins_by-by_induction.ensures
    ∙ ap (λ (b : Bool). root restrictions taken (sought a.kind a.form) begins b (option_map cases_in c.in_ok-cases.cases)) asked
    ∙ ap (root restrictions taken (sought a.kind a.form) begins consecutive) c.in_ok-cases.ensures
    ∙ ap (λ (ts : List Guarded). root_with restrictions ts begins consecutive a.kind a.form) c.in_ok-taken.ensures
