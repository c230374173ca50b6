-- Which names, public and fresh, and which words stand in what is printed of an execution.
use Rattle.std.specs.Prelude.{◌<◌, List}
use Rattle.sp_spec.specs.Lists.{Every}
use Rattle.sp_spec.specs.Term.{Names, public_name, fresh_name, AllMadeOf, Variable}
use Rattle.sp_spec.specs.Signature.{Symbol, AreOver}
use Rattle.sp_spec.specs.Rule.{Action, Declared, Rule, FactsMadeOf}
use Rattle.sp_spec.specs.Execution.{Trace}
pub use Rattle.sp_show.specs.Numbers.{no_variable, HasNames, StepHasNames, numbered_names}
use Rattle.sp_spec.specs.Log.{How, by_chain, Entry, step, send, learn, Log}
use Rattle.sp_spec_text.specs.Names.{IsNameWord}
use Rattle.sp_spec_printed.specs.StepLines.{IsQuotable}

-- public names that may stand in quotes, and fresh names that are numbered from 1
abbrev pub shown_names : Names
shown_names (public_name c) = IsQuotable c
shown_names (fresh_name n) = 0 < n

-- the names in the messages of a chain are such ones
abbrev pub HowHasNames : Names → How → Type 0
HowHasNames N (by_chain p k chain) = Every (HasNames N) chain
HowHasNames N how = Unit {0}

-- so are those in the facts and the messages of a log's entries
abbrev pub EntryHasNames : Names → Entry → Type 0
EntryHasNames N (step r facts sources) = FactsMadeOf N no_variable facts
EntryHasNames N (send m) = HasNames N m
EntryHasNames N (learn m how) = HasNames N m × HowHasNames N how

abbrev pub LogHasNames : Names → Log → Type 0
LogHasNames N log = Every (EntryHasNames N) log

-- a rule, its variables and its actions have names as a text may have them, and the names in its facts may be shown
pub record IsNamedRule (r : Rule) : Type 0 where
  pub name : IsNameWord r.name
  pub variables : Every (λ (d : Declared). IsNameWord d.name) r.variables
  pub actions : Every (λ (a : Action Variable). IsNameWord a.symbol) r.facts.actions
  pub facts : FactsMadeOf shown_names (λ (x : Variable). Unit {0}) r.facts

-- what an entry of a trace says is over the symbols, of names that may be shown
abbrev pub IsShownAction : List Symbol → Action ⊥ → Type 0
IsShownAction symbols a = IsNameWord a.symbol × AreOver symbols a.args × AllMadeOf shown_names no_variable a.args

abbrev pub IsShownTrace : List Symbol → Trace → Type 0
IsShownTrace symbols trace = Every (Every (IsShownAction symbols)) trace
