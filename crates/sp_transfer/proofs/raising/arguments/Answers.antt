use Rattle.std.proofs.Common.{◌≡◌, ◌++◌, ◌∷◌, [], List, map, take, sym, ap, ap₂, ◌∙◌}
use Rattle.std.proofs.lemmas.List.{map-append, drop-map}
use Rattle.std.proofs.lemmas.Result.{IfOk-weaker}
use Rattle.sp_spec.specs.Term.{Ground}
use Rattle.sp_law_log_execution.specs.Executed as spec
use Rattle.sp_fact.specs.GroundView.{ground_of, grounds_of}
use Rattle.sp_transfer.specs.Executing.{level_of}
use Rattle.sp_transfer.proofs.Executing.{args_made}
use Rattle.sp_transfer.proofs.raising.arguments.Goals as goal

pub returns : goal.returns
returns c =
    let messages = c.args.messages.now in
    let ms = map ground_of messages in
    let l = level_of c.args.level.now in
    let t = ground_of c.args.entered.now in
    let front : map ground_of c.in_ok-made.made.items ≡ take l.front ms =
    c.in_ok-made.ensures ∙ ap (λ ts. map ground_of ts ++ take l.front ms) c.new.ensures.items in
    let entered = ap (map ground_of) c.in_ok-push.ensures.items
    ∙ map-append ground_of c.in_ok-made.made.items (c.in_ok-clone.field-0 ∷ [])
    ∙ ap₂ (λ (ts : List Ground) (u : Ground). ts ++ u ∷ []) front c.in_ok-clone.ensures.cases in
    let back = ap (λ ts. take l.back (map ground_of ts)) c.behind.ensures ∙ ap (take l.back) (sym (drop-map ground_of l.front messages)) in
    IfOk-weaker c.with_first-2.result
    (λ ts. map ground_of ts.items ≡ map ground_of c.push.new.self.items ++ take l.back (map ground_of c.behind.result.now))
    (λ ts. grounds_of ts.items ≡ spec.args_between l ms t)
    (λ ts e. args_made l ms (map ground_of ts.items) t (e ∙ ap₂ (λ (xs ys : List Ground). xs ++ ys) entered back))
    c.with_first-2.ensures
