-- The cases that one form, one rule and one message give.
use Rattle.std.specs.Prelude.{ℕ, suc, List, [], ◌∷◌, ◌++◌}
use Rattle.sp_spec.specs.Term.{Variable, Term}
use Rattle.sp_spec.specs.Signature.{Symbol}
use Rattle.sp_spec_forms.specs.Numbering.{Form}
use Rattle.sp_spec_forms.specs.Forms.{RuleForms}
use Rattle.sp_spec_system.specs.System.{System, chain_begun, with_pairs, with_next}
use Rattle.sp_spec_system.specs.Cases.{renamed, named}
use Rattle.sp_spec_system.specs.Move.{Case}
use Rattle.sp_spec_know.specs.Know.{with_way, made_case, own_case, by_outputs, output_forms, by_each_output}

-- a chain begins with this message, put out at the place by an event that is still to be made, of the next number and before that time
abbrev pub with_begun : System → ℕ → ℕ → Term Variable → System
with_begun s i k t = with_next (with_pairs (with_way s i (chain_begun s.next k (t ∷ []))) ((s.next, i) ∷ [])) (suc s.next)

-- the systems in which a chain begins with what a conclusion of this form puts out
abbrev pub output_form : List ℕ → Form → System → ℕ → List System
output_form name form s i = by_outputs s i name form 0 (renamed (suc s.next) form.facts).conclusions

abbrev pub output_cases : RuleForms → System → ℕ → List Case
output_cases r s i = named r.name (output_forms r.name r.forms s i)

-- the ways in which the message may be learnt
abbrev pub cases_for : List Symbol → List RuleForms → System → ℕ → Term Variable → List Case
cases_for symbols rules s i m = made_case symbols s i m ++ (own_case s i m ++ by_each_output rules s i)
