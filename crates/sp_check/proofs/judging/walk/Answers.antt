use Rattle.std.proofs.Common.{◌≡◌, ℕ, ◌+◌, ◌<◌, None, Option, List, [], ◌∷◌, length, drop, get_or, option_map, refl, sym, ap, ap₂, ◌∙◌}
use Rattle.std.proofs.lemmas.List.{at_drop_all}
use Rattle.sp_spec.specs.Log.{Log}
use Rattle.sp_spec.proofs.Lists.{next_item}
use Rattle.sp_spec_system.specs.System.{System}
use Rattle.sp_spec_system.specs.Move.{Context}
use Rattle.sp_system.specs.SystemView.{system_of}
use Rattle.sp_learn.specs.View.{log_of}
use Rattle.sp_step.specs.View.{context_of}
use Rattle.sp_check.specs.declared.skeleton.Node.{Node}
use Rattle.sp_check.specs.declared.judging.NodesJudged.{NodesJudged}
use Rattle.sp_check.specs.Judging.{passed, walked_on}
use Rattle.sp_check.specs.Nodes.{NodeRead, walk_all}
use Rattle.sp_check.specs.View.{node_of, nodes_of, systems_of, walked_of}
use Rattle.sp_check.proofs.Kept.{seen_one}
use Rattle.sp_check.proofs.Listed.{tree_walked}
use Rattle.sp_check.proofs.judging.walk.Goals as goal

-- where no system is awaited the walk ends
none_walked : (context : Context) (before : ℕ) (met : Option Log) (ns : List NodeRead) → walk_all context before met [] ns ≡ passed before met
none_walked context before met [] = refl
none_walked context before met (n ∷ ns) = refl

none_awaited : (context : Context) (before : ℕ) (met : Option Log) (ss : List System) (ns : List NodeRead) → ss ≡ [] → walk_all context before met ss ns ≡ passed before met
none_awaited context before met ss ns e = ap (λ (ts : List System). walk_all context before met ts ns) e ∙ none_walked context before met ns

-- the walk behind a node, for which the next system was taken
walked_further : (context : Context) (before : ℕ) (met : Option Log) (s : System) (ss popped left : List System) (ns : List Node) (i : ℕ) (x : Node) (w : NodesJudged)
    → ss ≡ s ∷ popped → i < length ns → x ≡ get_or ns i x
    → ((rest : List NodeRead) → walked_on (walked_of w) (λ n log. walk_all context n log left rest) ≡ walk_all context before met (s ∷ popped) (node_of x ∷ rest))
    → walk_all context before met ss (nodes_of (drop i ns)) ≡ walked_on (walked_of w) (λ n log. walk_all context n log left (nodes_of (drop (i + 1) ns)))
walked_further context before met s ss popped left ns i x w e h is k =
    ap (λ (ts : List System). walk_all context before met ts (nodes_of (drop i ns))) e
    ∙ ap (λ (ms : List Node). walk_all context before met (s ∷ popped) (nodes_of ms)) (next_item ns i x h is)
    ∙ sym (k (nodes_of (drop (i + 1) ns)))

pub loop-node-init : goal.loop-node-init
loop-node-init c =
    let context = context_of c.args.context.now in
    let nodes = c.args.skeleton.now.nodes.items in
    sym (tree_walked context (system_of c.args.root) (nodes_of nodes) (seen_one nodes c.args.skeleton.now.is_one))
    ∙ ap₂ (λ (ss : List System) (ns : List Node). walk_all context 0 None ss (nodes_of ns)) (sym (ap systems_of c.in_ok-awaited.ensures.items)) (sym c.deref-node-items.ensures.value)

pub loop-node-preserved : goal.loop-node-preserved
loop-node-preserved c =
    let context = context_of c.args.context.now in
    let nodes = c.deref-node-items.result.now in
    let left = systems_of c.walk_node.new.awaited.items in
    c.loop-node.invariant
    ∙ walked_further context c.loop-node.met.nodes (option_map log_of c.loop-node.met.log) (system_of c.in-Some.system) (systems_of c.loop-node.awaited.items)
    (systems_of c.pop_system.new.awaited.items) left nodes c.loop-node.node-index c.node-item.result c.in_ok-now.field-0
    c.in-Some.ensures c.loop-node-test.true c.node-item.is c.in_ok-now.ensures
    ∙ ap (λ (w : NodesJudged). walked_on (walked_of w) (λ n log. walk_all context n log left (nodes_of (drop (c.loop-node.node-index + 1) nodes)))) c.in-Passed.is

pub returns-in_default : goal.returns-in_default
returns-in_default c =
    sym (c.loop-node.invariant
    ∙ none_awaited (context_of c.args.context.now) c.loop-node.met.nodes (option_map log_of c.loop-node.met.log) (systems_of c.loop-node.awaited.items)
    (nodes_of (drop c.loop-node.node-index c.deref-node-items.result.now)) c.in_default.ensures)

pub returns-in-Stopped : goal.returns-in-Stopped
returns-in-Stopped c =
    let context = context_of c.args.context.now in
    let nodes = c.deref-node-items.result.now in
    let left = systems_of c.walk_node.new.awaited.items in
    sym (c.loop-node.invariant
    ∙ walked_further context c.loop-node.met.nodes (option_map log_of c.loop-node.met.log) (system_of c.in-Some.system) (systems_of c.loop-node.awaited.items)
    (systems_of c.pop_system.new.awaited.items) left nodes c.loop-node.node-index c.node-item.result c.in_ok-now.field-0
    c.in-Some.ensures c.loop-node-test.true c.node-item.is c.in_ok-now.ensures
    ∙ ap (λ (w : NodesJudged). walked_on (walked_of w) (λ n log. walk_all context n log left (nodes_of (drop (c.loop-node.node-index + 1) nodes)))) c.in-Stopped.is)

pub returns : goal.returns
returns c =
    let context = context_of c.args.context.now in
    let met = c.loop-node.met in
    sym (c.loop-node.invariant
    ∙ at_drop_all (λ (ns : List Node). walk_all context met.nodes (option_map log_of met.log) (systems_of c.loop-node.awaited.items) (nodes_of ns))
    c.deref-node-items.result.now c.loop-node.node-index c.loop-node-test.false)
