-- The symbols of a text have names, and its equations may be read from left to right.
use Rattle.std.proofs.Common.{ℕ, List, map, sym, ap, subst}
use Rattle.sp_spec.specs.Signature as spec
use Rattle.sp_law_equal.specs.NormalForms.{HaveNormalForms}
use Rattle.sp_law_printed_log.proofs.TextNames.{texts_have_names_lem}
use Rattle.sp_fact.specs.GroundView.{symbol_of, signature_of}
use Rattle.sp_spec_printed.specs.StepLines.{HaveNames}
use Rattle.sp_pose.specs.Posed.{IsPosedBy}
use Rattle.sp_pose.specs.declared.problem.Problem.{Problem}
use Rattle.sp_pose.proofs.BasicTheories.{normal_forms}

pub have_names : {text : List ℕ} (p : Problem) → IsPosedBy text p → HaveNames (map symbol_of p.signature.symbols.items)
have_names {text = text} p h = subst HaveNames (sym (ap (λ (s : spec.Signature). s.symbols) h.signature_is)) (texts_have_names_lem.symbols text h.said h.poses.says)

pub have_normal_forms : {text : List ℕ} (p : Problem) → IsPosedBy text p → HaveNormalForms (signature_of p.signature).equations
have_normal_forms p h = subst HaveNormalForms (sym (ap (λ (s : spec.Signature). s.equations) h.signature_is)) (normal_forms h.poses).normal_forms
