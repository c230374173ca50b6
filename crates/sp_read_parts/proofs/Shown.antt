-- What formulas in memory stand for, by how they are made.
use Rattle.std.proofs.Common.{◌≡◌, sym, ap, ◌∙◌, map}
use Rattle.std.specs.Global.{Vec, Box}
use Rattle.sp_spec.specs.Formula.{Formula, truth, falsity, happens, equals, precedes, both, either, implies}
use Rattle.sp_spec_text.specs.Shapes.{quantified}
use Rattle.sp_spec_text.specs.Formulas.{quantified_some, equivalent}
use Rattle.sp_term.specs.declared.term.Term.{Term}
use Rattle.sp_fact.specs.declared.fact.Action.{Action}
use Rattle.sp_read_parts.specs.Formulas.{conjoint, disjoint, chain, formula_step, formula}
use Rattle.sp_read_parts.specs.Views.{variable, term, action_of}
use Rattle.sp_read_parts.specs.declared.written.WrittenVariable.{WrittenVariable}
use Rattle.sp_read_parts.specs.declared.written.ReadFormula.{ReadFormula}
use Rattle.sp_read_parts.specs.declared.written.ReadFormula.TheVariants as v
use Rattle.sp_read_parts.specs.declared.written.ReadFormula.TheOpen.{ReadFormula-F}
use Rattle.sp_read_parts.specs.declared.written.ReadFormula.TheFolds.{fold-roll-ReadFormula}

pub true_shown : formula v.True ≡ truth
true_shown = ap formula (sym v.rolls-True) ∙ fold-roll-ReadFormula Formula formula_step ReadFormula-F.True

pub false_shown : formula v.False ≡ falsity
false_shown = ap formula (sym v.rolls-False) ∙ fold-roll-ReadFormula Formula formula_step ReadFormula-F.False

pub happens_shown : (a : Action WrittenVariable) (x : WrittenVariable) → formula (v.Happens a x) ≡ happens (action_of a) (variable x)
happens_shown a x = ap formula (sym (v.rolls-Happens a x)) ∙ fold-roll-ReadFormula Formula formula_step (ReadFormula-F.Happens a x)

pub equals_shown : (x y : Term WrittenVariable) → formula (v.Equals x y) ≡ equals (term x) (term y)
equals_shown x y = ap formula (sym (v.rolls-Equals x y)) ∙ fold-roll-ReadFormula Formula formula_step (ReadFormula-F.Equals x y)

pub precedes_shown : (x y : WrittenVariable) → formula (v.Precedes x y) ≡ precedes (variable x) (variable y)
precedes_shown x y = ap formula (sym (v.rolls-Precedes x y)) ∙ fold-roll-ReadFormula Formula formula_step (ReadFormula-F.Precedes x y)

pub both_shown : (f g : Box ReadFormula) (more : Vec ReadFormula) → formula (v.Both f g more) ≡ chain conjoint (both (formula f.value) (formula g.value)) (map formula more.items)
both_shown f g more = ap formula (sym (v.rolls-Both f g more)) ∙ fold-roll-ReadFormula Formula formula_step (ReadFormula-F.Both f g more)

pub either_shown : (f g : Box ReadFormula) (more : Vec ReadFormula) → formula (v.Either f g more) ≡ chain disjoint (either (formula f.value) (formula g.value)) (map formula more.items)
either_shown f g more = ap formula (sym (v.rolls-Either f g more)) ∙ fold-roll-ReadFormula Formula formula_step (ReadFormula-F.Either f g more)

pub implies_shown : (f g : Box ReadFormula) → formula (v.Implies f g) ≡ implies (formula f.value) (formula g.value)
implies_shown f g = ap formula (sym (v.rolls-Implies f g)) ∙ fold-roll-ReadFormula Formula formula_step (ReadFormula-F.Implies f g)

pub equivalent_shown : (f g : Box ReadFormula) → formula (v.Equivalent f g) ≡ equivalent (formula f.value) (formula g.value)
equivalent_shown f g = ap formula (sym (v.rolls-Equivalent f g)) ∙ fold-roll-ReadFormula Formula formula_step (ReadFormula-F.Equivalent f g)

pub every_shown : (xs : Vec WrittenVariable) (f : Box ReadFormula) → formula (v.ForAll xs f) ≡ quantified (map variable xs.items) (formula f.value)
every_shown xs f = ap formula (sym (v.rolls-ForAll xs f)) ∙ fold-roll-ReadFormula Formula formula_step (ReadFormula-F.ForAll xs f)

pub some_shown : (xs : Vec WrittenVariable) (f : Box ReadFormula) → formula (v.ForSome xs f) ≡ quantified_some (map variable xs.items) (formula f.value)
some_shown xs f = ap formula (sym (v.rolls-ForSome xs f)) ∙ fold-roll-ReadFormula Formula formula_step (ReadFormula-F.ForSome xs f)
