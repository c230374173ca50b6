use Rattle.std.proofs.Common.{List, map}
use Rattle.std.specs.List.{flat_map}
use Rattle.sp_term.specs.View.{name_of}
use Rattle.sp_term.specs.declared.term.Name.{Name}
use Rattle.sp_spec_text.specs.Declared.{builtin_of, builtin_symbols}
use Rattle.sp_wf_symbols.specs.FirstsView.{symbols_of}
use Rattle.sp_wf_symbols.specs.SymbolFindings.{declared_otherwise}
use Rattle.sp_wf_symbols.specs.Told.{otherwise_named}
use Rattle.sp_wf_symbols.proofs.Declaring.{otherwise_both}
use Rattle.sp_finding.specs.Finding.{Finding, lines_after}
use Rattle.sp_lines.specs.TextsView.{texts_of}
use Rattle.sp_finding.proofs.Stepping.{next_part}
use Rattle.sp_wf_symbols.proofs.symbols.tell_builtins.Goals as goal

pub loop-name-preserved : goal.loop-name-preserved
loop-name-preserved c =
    let all : List Name → List Finding = λ xs. otherwise_named (symbols_of c.args.symbols.now) (map name_of xs) in
    next_part (λ x. declared_otherwise (symbols_of c.args.symbols.now) (builtin_symbols (builtin_of (name_of x)))) all (λ x xs. otherwise_both (symbols_of c.args.symbols.now) (builtin_symbols (builtin_of (name_of x))) (flat_map (λ b. builtin_symbols (builtin_of b)) (map name_of xs))) c.deref-name-items.result.now c.args.names.now.items c.loop-name.name-index c.name-item.result
    (texts_of c.loop-name.lines) (texts_of c.tell_builtin.new.lines) (lines_after (texts_of c.args.lines.now) (all c.args.names.now.items))
    c.deref-name-items.ensures.value c.loop-name-test.true c.name-item.is c.in_ok-tell_builtin.ensures c.loop-name.invariant
