-- What is known of a problem in memory, and of a text that was read.
use Rattle.std.specs.Prelude.{◌≡◌, ◌≤◌, ℕ, List, Some, map, length}
use Rattle.sp_spec.specs.Signature.{Signature}
use Rattle.sp_spec.specs.Written.{rule_of, theory_of}
use Rattle.sp_term.specs.View.{name_of}
use Rattle.sp_spec.specs.Theory as spec
use Rattle.sp_fact.specs.GroundView.{signature_of}
use Rattle.sp_fact.specs.View as memory
use Rattle.sp_spec.specs.Constants.{constants_of}
use Rattle.sp_declared.specs.Constants.{constants_in}
use Rattle.sp_declared.specs.WrittenRules.{rules_written}
use Rattle.sp_spec_text.specs.Written.{WrittenText, restrictions_in}
use Rattle.sp_spec_text.specs.Declared.{resolved, theory_in}
use Rattle.sp_written.specs.Views as view
use Rattle.sp_written.specs.declared.theory.ReadTheory.{ReadTheory}
use Rattle.sp_spec_text.specs.Spans.{Rise}
use Rattle.sp_spec_text.specs.Texts.{ArePlaces}
use Rattle.sp_place.specs.Refused.{IsRefusedAt}
use Rattle.sp_pose.specs.Problem.{Poses, IsReported}
use Rattle.sp_pose.specs.Ranking.{rankings_in}
use Rattle.sp_pose.specs.Required.{required_of, all_required}
use Rattle.sp_pose.specs.Asked.{asked_of, lemmas_read, all_asked}
use Rattle.sp_pose.specs.declared.problem.Problem.{Problem}
use Rattle.sp_pose.specs.declared.problem.Read.{Read}
use Rattle.sp_pose.specs.declared.problem.Read.TheVariants.{Refused, Reported, Posed}

-- It is made of this signature, and of the theory in memory.
pub record IsMadeOf (s : Signature) (theory : ReadTheory) (p : Problem) : Type 0 where
  pub signature_is : signature_of p.signature ≡ s
  pub rules_are : map memory.rule_of p.rules.items ≡ map rule_of (rules_written (view.items theory.items.items))
  pub constants_are : map name_of p.constants.items ≡ constants_in (view.items theory.items.items)
  pub restrictions_are : map required_of p.restrictions.items ≡ all_required (restrictions_in (view.items theory.items.items))
  pub lemmas_are : all_asked (lemmas_read theory.items.items) ≡ Some (map asked_of p.lemmas.items)
  pub ranking_is : view.attributes p.ranking.items ≡ rankings_in (view.items theory.items.items)
  pub end_is : p.behind_end ≡ theory.behind_end

-- It is what the text poses: the signature, the rules and the public names of the theory that the text says, its restrictions and its lemmas with their guarded forms. The
-- theory in memory is that of the text with what its names stand for.
pub record IsPosedBy (text : List ℕ) (p : Problem) : Type 0 where
  pub said : WrittenText
  pub theory : ReadTheory
  pub resolved_is : view.theory theory ≡ resolved said
  pub poses : Poses text said
  pub signature_is : signature_of p.signature ≡ spec.signature_of (theory_of (theory_in said))
  pub rules_are : map memory.rule_of p.rules.items ≡ (theory_of (theory_in said)).rules
  pub constants_are : map name_of p.constants.items ≡ constants_of (theory_in said)
  pub restrictions_are : map required_of p.restrictions.items ≡ all_required (theory_in said).restrictions
  pub lemmas_are : all_asked (lemmas_read theory.items.items) ≡ Some (map asked_of p.lemmas.items)
  pub ranking_is : view.attributes p.ranking.items ≡ rankings_in (resolved said).items
  pub places_are : ArePlaces text said (view.spans theory.items.items) p.behind_end
  pub rise : Rise text 0 (view.spans theory.items.items) p.behind_end
  pub within : p.behind_end ≤ length text

abbrev pub IsRead : List ℕ → Read → Type 0
IsRead text (Refused place) = IsRefusedAt text place
IsRead text (Reported lines) = IsReported text lines.items
IsRead text (Posed p) = IsPosedBy text p
