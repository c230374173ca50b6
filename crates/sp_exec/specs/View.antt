-- What the causes, the instances and the machine in memory stand for.
use Rattle.std.specs.Prelude.{List, map, Bool, if◌then◌else◌, Option, Some, None, Result, Ok, Err}
use Rattle.sp_spec.specs.Rule.{Fact}
use Rattle.sp_spec.specs.Execution as execution
use Rattle.sp_spec.specs.Execution.{no_such_rule, no_instance, premise_absent, fresh_name_twice, wrong_sort}
use Rattle.sp_fact.specs.GroundView.{ground_of, ground_fact, ground_facts, ground_action}
use Rattle.sp_exec.specs.Next as spec
use Rattle.sp_exec.specs.declared.cause.Cause.{Cause}
use Rattle.sp_exec.specs.declared.cause.Cause.TheVariants.{NoSuchRule, NoInstance, PremiseAbsent, FreshNameTwice, WrongSort}
use Rattle.sp_exec.specs.declared.instance.Instance.{Instance}
use Rattle.sp_exec.specs.declared.machine.Machine.{Machine}

abbrev pub cause_of : Cause → execution.Cause
cause_of NoSuchRule = no_such_rule
cause_of NoInstance = no_instance
cause_of PremiseAbsent = premise_absent
cause_of FreshNameTwice = fresh_name_twice
cause_of WrongSort = wrong_sort

abbrev pub instance_in : Instance → spec.Instance
instance_in i = record { facts = ground_facts i.facts; sorted = i.sorted }

abbrev pub reached_by : Machine → spec.Reached
reached_by m = record { facts = map ground_fact m.facts.items; made = map ground_of m.made.items; entries = map (λ entry. map ground_action entry.items) m.entries.items }

-- what is left of the facts, if they were taken
abbrev pub left_over : Bool → List (Fact ⊥) → Option (List (Fact ⊥))
left_over taken rest = if taken then Some rest else None

-- an instance, or why there is none
abbrev pub answer_of : Result Instance Cause → Result spec.Instance execution.Cause
answer_of (Ok i) = Ok (instance_in i)
answer_of (Err cause) = Err (cause_of cause)

-- what a step leads to: the machine after it, or why it can't be done
abbrev pub outcome_of : Option Cause → Machine → Result spec.Reached execution.Cause
outcome_of None m = Ok (reached_by m)
outcome_of (Some cause) m = Err (cause_of cause)
