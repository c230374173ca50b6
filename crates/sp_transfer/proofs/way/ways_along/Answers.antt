use Rattle.std.proofs.Common.{◌≡◌, ◌∙◌, ◌++◌, ◌+◌, ◌<◌, true, suc, [], ◌∷◌, List, map, take, length, get_or, sym, ap, subst, arith}
use Rattle.std.proofs.lemmas.List.{map-append}
use Rattle.sp_spec.specs.Destruction.{is_public}
use Rattle.sp_fact.specs.GroundView.{symbol_of}
use Rattle.sp_law_log_execution.specs.Executed as spec
use Rattle.sp_term.specs.View.{name_of}
use Rattle.sp_transfer.specs.declared.level.Level as memory
use Rattle.sp_transfer.specs.Executing.{level_of, levels_of}
use Rattle.sp_transfer.proofs.Ways.{way_further}
use Rattle.sp_transfer.proofs.way.ways_along.Goals as goal

pub loop-place-preserved : goal.loop-place-preserved
loop-place-preserved c =
    let symbols = map symbol_of c.args.symbols.now.items in
    let xs = c.args.way.now.items in
    let i = c.loop-place.place in
    let x = c.level-item.result in
    let same = c.deref-level-items.ensures.value in
    let within = subst (λ (ys : List memory.Level). i < length ys) same c.loop-place-test.true in
    let item = subst (λ (ys : List memory.Level). x ≡ get_or ys i x) same c.level-item.is in
    let other : i + 1 ≡ length xs → ⊥ = λ e. c.if-place-len.false (e ∙ sym (c.len.ensures ∙ c.args.way.now.ok.0)) in
    let as_many : x.front + suc x.back ≡ x.front + 1 + x.back = omega arith in
    let public : is_public symbols (name_of x.symbol) (x.front + suc x.back) ≡ true =
    ap (is_public symbols (name_of x.symbol)) as_many ∙ sym c.if-not-may_apply.ensures in
    let found = c.loop-place.found.items in
    let pushed = ap (map levels_of) c.in_ok-push.ensures.items ∙ map-append levels_of found (c.in_ok-copy_levels.field-0 ∷ [])
    ∙ ap (λ (ls : List spec.Level). map levels_of found ++ ls ∷ []) (c.in_ok-copy_levels.ensures ∙ ap (λ ys. map level_of (take (i + 1) ys)) c.deref.ensures.value) in
    way_further level_of symbols xs i x within item other public (map levels_of found) (map levels_of c.push.new.self.items) pushed
    ∙ c.loop-place.invariant
