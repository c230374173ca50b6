-- What findings in memory stand for, and lines.
use Rattle.std.specs.Prelude.{ℕ, List, String, map, string_bytes}
use Rattle.sp_finding.specs.Finding as f
use Rattle.sp_finding.specs.Finding.{Finding}
use Rattle.sp_finding.specs.declared.finding.Finding as memory
use Rattle.sp_finding.specs.declared.finding.Finding.TheVariants as v
use Rattle.sp_finding.specs.declared.finding.RuleFinding.{RuleFinding}
use Rattle.sp_finding.specs.declared.finding.RuleFinding.TheVariants as r
use Rattle.sp_finding.specs.declared.finding.FormulaFinding.{FormulaFinding}
use Rattle.sp_finding.specs.declared.finding.FormulaFinding.TheVariants as l

abbrev pub on_rule : List ℕ → RuleFinding → Finding
on_rule rule (r.BoundTwice x) = f.bound_twice rule x.now
on_rule rule (r.TwoSorts x) = f.two_sorts rule x.now
on_rule rule (r.Reserved fact) = f.reserved rule fact.now
on_rule rule r.FrArgument = f.fr_argument rule
on_rule rule r.Destructor = f.destructor_in_premise rule
on_rule rule (r.NotBound x) = f.in_no_premise rule x.now

abbrev pub on_formula : List ℕ → FormulaFinding → Finding
on_formula name (l.NotBound x) = f.without_binder name x.now
on_formula name (l.NotGuarded x) = f.not_guarded name x.now
on_formula name l.Destructor = f.destructor_in_formula name
on_formula name (l.OtherSort x) = f.other_sort name x.now
on_formula name (l.MixedAt x) = f.mixed_at name x.now

abbrev pub finding_of : memory.Finding → Finding
finding_of (v.BuiltinLeftOut b) = f.builtin_left_out b.now
finding_of (v.DeclaredTwice s) = f.declared_twice s.now
finding_of (v.UnknownSymbol s n) = f.unknown_symbol s.now n
finding_of (v.ArityAbove x) = f.arity_above x.now
finding_of (v.WrongShape k) = f.wrong_shape k
finding_of (v.PrivateConstant k) = f.private_constant k
finding_of (v.Clash j k) = f.clash j k
finding_of (v.UsedTwice x) = f.used_twice x.now
finding_of (v.OnRule rule finding) = on_rule rule.now finding
finding_of (v.OnFormula name finding) = on_formula name.now finding
finding_of (v.RestrictsLearning x) = f.restricts_learning x.now
finding_of (v.AttributeLeftOut lemma a) = f.attribute_left_out lemma.now a.now

abbrev pub lines_of : {A : Type 0} → List (String A) → List (List ℕ)
lines_of ls = map string_bytes ls
