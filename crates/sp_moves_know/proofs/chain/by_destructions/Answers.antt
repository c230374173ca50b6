use Rattle.std.proofs.Common.{◌≡◌, ℕ, suc, ◌+◌, List, ◌∷◌, ◌++◌, append_assoc, codes, decimal, map, drop, refl, sym, ap, ◌∙◌, arith}
use Rattle.std.proofs.lemmas.List.{map-append}
use Rattle.sp_spec.specs.Destruction as written
use Rattle.sp_spec.proofs.Lists.{next_there}
use Rattle.sp_destruct.specs.View.{destruction_of}
use Rattle.sp_destruct.specs.declared.destruction.Destruction.{Destruction}
use Rattle.sp_spec_system.specs.System.{System}
use Rattle.sp_spec_system.specs.Cases.{case_if}
use Rattle.sp_spec_system.specs.Move.{Case}
use Rattle.sp_system.specs.SystemView.{system_of}
use Rattle.sp_spec_know.specs.Chain.{Begun, by_destructions}
use Rattle.sp_moves.specs.View.{case_of}
use Rattle.sp_moves_know.specs.BegunView.{begun_of}
use Rattle.sp_moves_know.specs.Linking.{by_destruction}
use Rattle.sp_moves_know.proofs.chain.by_destructions.Goals as goal

-- the case of one destruction more is made
one_more : (s : System) (i : ℕ) (b : Begun) (n : ℕ) (d : written.Destruction) (ds : List written.Destruction) (made made' all : List Case)
    → made ++ by_destructions s i b n (d ∷ ds) ≡ all → made' ≡ made ++ case_if (codes "chain_" ++ decimal n) (by_destruction s i b d)
    → made' ++ by_destructions s i b (n + 1) ds ≡ all
one_more s i b n d ds made made' all before e =
    let next : n + 1 ≡ suc n = omega arith in
    let here : List Case = case_if (codes "chain_" ++ decimal n) (by_destruction s i b d) in
    ap (λ (m : ℕ). made' ++ by_destructions s i b m ds) next
    ∙ ap (λ (cs : List Case). cs ++ by_destructions s i b (suc n) ds) e
    ∙ append_assoc made here (by_destructions s i b (suc n) ds)
    ∙ before

pub loop-place-preserved : goal.loop-place-preserved
loop-place-preserved c =
    let s = system_of c.args.system.now in
    let b = begun_of c.args.begun.now in
    let all = c.deref-destruction-items.result.now in
    let k = c.loop-place.place in
    let one = c.destruction-item.result in
    let made = c.loop-place.made.items in
    one_more s c.args.time b (k + 1) (destruction_of one) (map destruction_of (drop (k + 1) all)) (map case_of made) (map case_of c.append.new.self.items)
    (by_destructions s c.args.time b 1 (map destruction_of c.args.destructions.now.items))
    (sym (ap (λ (ds : List Destruction). map case_of made ++ by_destructions s c.args.time b (k + 1) (map destruction_of ds))
    (next_there all all k one refl c.loop-place-test.true c.destruction-item.is))
    ∙ c.loop-place.invariant)
    (ap (map case_of) c.in_ok-append.ensures.items
    ∙ map-append case_of made c.in_ok-cases.cases.items
    ∙ ap (λ (cs : List Case). map case_of made ++ cs) c.in_ok-cases.ensures)
