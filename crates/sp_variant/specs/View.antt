-- What the values stand for that are made within.
use Rattle.std.specs.Prelude.{List, map}
use Rattle.std.specs.Global.{Vec}
use Rattle.sp_spec.specs.Term as terms
use Rattle.sp_term.specs.View.{view_all}
use Rattle.sp_term.specs.declared.term.Term.{Term}
use Rattle.sp_term.specs.declared.term.Variable.{Variable}
use Rattle.sp_unify.specs.View.{pair_view}
use Rattle.sp_spec_forms.specs.Narrowing as ways
use Rattle.sp_variant.specs.declared.narrowing.Chosen.{Chosen}
use Rattle.sp_variant.specs.declared.narrowing.Way.{Way}

abbrev pub chosen_of : Chosen → ways.Chosen
chosen_of s = record { pairs = map pair_view s.pairs.items; next = s.next }

-- a way to make what its value stands for
abbrev pub way_by : {T A : Type 0} → (T → A) → Way T → A × ways.Chosen
way_by value_of w = (value_of w.value, chosen_of w.chosen)

abbrev pub list_by : {T A : Type 0} → (T → A) → Vec T → List A
list_by value_of xs = map value_of xs.items

abbrev pub terms_in : Vec (Term Variable) → terms.Terms terms.Variable
terms_in ts = view_all ts.items
