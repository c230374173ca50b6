-- The written rows that rows in memory stand for.
use Rattle.sp_spec_proof.specs.Rows as spec
use Rattle.sp_step.specs.declared.reduce.Row.{Row}
use Rattle.sp_step.specs.declared.reduce.Row.TheVariants.{Split, OpenExistential, Equate, Unequal, Order, Last, ActionStands, Disjunction, SendInput, SendLearnt, LearnOnce, LinearOnce, FreshOnce, SettleLearn, FreshFirst, Instantiate}

abbrev pub row_of : Row → spec.Row
row_of Split = spec.row_split
row_of OpenExistential = spec.row_open
row_of Equate = spec.row_equate
row_of Unequal = spec.row_unequal
row_of Order = spec.row_order
row_of Last = spec.row_last
row_of ActionStands = spec.row_action_stands
row_of Disjunction = spec.row_disjunction
row_of SendInput = spec.row_send_input
row_of SendLearnt = spec.row_send_learnt
row_of LearnOnce = spec.row_learn_once
row_of LinearOnce = spec.row_linear_once
row_of FreshOnce = spec.row_fresh_once
row_of SettleLearn = spec.row_settle_learn
row_of FreshFirst = spec.row_fresh_first
row_of Instantiate = spec.row_instantiate
