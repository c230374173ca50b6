-- The cases that one rule gives for a premise.
use Rattle.std.specs.Prelude.{ℕ, suc, List}
use Rattle.sp_spec.specs.Term.{Variable}
use Rattle.sp_spec.specs.Rule.{Fact}
use Rattle.sp_spec_forms.specs.Numbering.{Form}
use Rattle.sp_spec_forms.specs.Forms.{RuleForms}
use Rattle.sp_spec_system.specs.System.{System}
use Rattle.sp_spec_system.specs.Move.{Case}
use Rattle.sp_spec_graph.specs.Premise.{by_conclusions, source_forms}
use Rattle.sp_spec_system.specs.Cases.{renamed, named}

-- the systems in which a conclusion of this form is the premise
abbrev pub by_form : List ℕ → Form → System → ℕ → ℕ → Fact Variable → List System
by_form name form s i p f = by_conclusions s i p f name form 0 (renamed (suc s.next) form.facts).conclusions

abbrev pub by_source : RuleForms → System → ℕ → ℕ → Fact Variable → List Case
by_source r s i p f = named r.name (source_forms r.name r.forms s i p f)
