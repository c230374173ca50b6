-- The term that a `Term` in memory stands for, over what its leaves stand for.
use Rattle.std.specs.Prelude.{ℕ, List, [], ◌∷◌, map, max}
use Rattle.std.specs.Rc.{rc_str_bytes}
use Rattle.sp_spec.specs.Term as spec
use Rattle.sp_spec.specs.Term.{var, constant, name, app, none, more}
use Rattle.sp_term.specs.declared.term.Sort.{Sort}
use Rattle.sp_term.specs.declared.term.Sort.TheVariants.{Msg, Fresh, Pub}
use Rattle.sp_term.specs.declared.term.Variable.{Variable}
use Rattle.std.specs.declared.convert.Infallible.{Infallible}
use Rattle.sp_term.specs.declared.term.Only.{Only}
use Rattle.sp_term.specs.declared.term.Name.{Name}
use Rattle.sp_term.specs.declared.term.Term.{Term, fold-Term}
use Rattle.sp_term.specs.declared.term.Term.TheOpen.{Term-F}

abbrev pub sort_of : Sort → spec.Sort
sort_of Msg = spec.Msg
sort_of Fresh = spec.Fresh
sort_of Pub = spec.Pub

abbrev pub variable_of : Variable → spec.Variable
variable_of x = record { sort = sort_of x.sort; number = x.number }

-- there is no such leaf
abbrev pub Never : Type 0
Never = Only Infallible

abbrev pub impossible : Infallible → ⊥
impossible = elim [ ]

abbrev pub never_of : Never → ⊥
never_of x = impossible x.leaf

abbrev pub name_of : Name → List ℕ
name_of n = rc_str_bytes n.text

abbrev pub terms_of : {V : Type 0} → List (spec.Term V) → spec.Terms V
terms_of [] = none
terms_of (t ∷ ts) = more t (terms_of ts)

-- one level, with each term inside already seen
abbrev pub view_step : {L V : Type 0} → (L → V) → Term-F L (spec.Term V) → spec.Term V
view_step leaf_of (Term-F.Var x) = var (leaf_of x)
view_step leaf_of (Term-F.Constant c) = constant (name_of c)
view_step leaf_of (Term-F.FreshName n) = name n
view_step leaf_of (Term-F.App f ts nesting) = app (name_of f) (terms_of ts.value.items)

abbrev pub view_by : {L V : Type 0} → (L → V) → Term L → spec.Term V
view_by {L} {V} leaf_of = fold-Term L (spec.Term V) (view_step leaf_of)

abbrev pub view_all_by : {L V : Type 0} → (L → V) → List (Term L) → spec.Terms V
view_all_by leaf_of ts = terms_of (map (view_by leaf_of) ts)

-- how deep a term in memory nests, as it says itself; what it stands for is the same whatever it says
abbrev pub nesting_step : {L : Type 0} → Term-F L ℕ → ℕ
nesting_step (Term-F.App f ts nesting) = nesting
nesting_step t = 0

abbrev pub nesting_of : {L : Type 0} → Term L → ℕ
nesting_of {L} = fold-Term L ℕ nesting_step

abbrev pub deepest : List ℕ → ℕ
deepest [] = 0
deepest (n ∷ ns) = max n (deepest ns)

-- terms of rules and systems
abbrev pub view : Term Variable → spec.Term spec.Variable
view t = view_by variable_of t

abbrev pub view_all : List (Term Variable) → spec.Terms spec.Variable
view_all ts = view_all_by variable_of ts
