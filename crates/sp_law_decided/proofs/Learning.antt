-- How a log learns what an event of a decided system learns.
use Rattle.std.proofs.Common.{◌≡◌, ◌<◌, ℕ, true, false, List, length, refl, subst, arith}
use Rattle.sp_spec.specs.Lists.{Every, AtPosition}
use Rattle.sp_spec.proofs.Lists.{position_below}
use Rattle.sp_spec.proofs.Logs.{entry_behind}
use Rattle.sp_spec.specs.Term.{Sort, Msg, Fresh, Pub, Variable, Term, var, constant, name, app, Ground, Values, valued, in_term}
use Rattle.sp_spec.specs.Signature.{HasSort}
use Rattle.sp_spec.specs.Theory.{Theory, signature_of}
use Rattle.sp_spec.specs.Log.{Log, learn, by_chain, IsLog, MayLearn, way_of_learning}
use Rattle.sp_spec_solved.specs.Naming.{if_fresh}
use Rattle.sp_spec_solved.specs.Candidate.{may_be_public}

-- ---- what is learnt anyhow is a public name

public_sort : (s : Sort) → (s ≡ Msg → ⊥) → if_fresh s false true ≡ true → s ≡ Pub
public_sort Msg n e = absurd (n refl)
public_sort Fresh n e = absurd cc
public_sort Pub n e = refl

pub public_value : (v : Values) → ((x : Variable) → HasSort x.sort (v x)) → (m : Term Variable) → Every (λ (x : Variable). x.sort ≡ Msg → ⊥) (in_term m) → may_be_public m ≡ true → HasSort Pub (valued v m)
public_value v sorts (var x) n e = subst (λ (s : Sort). HasSort s (v x)) (public_sort x.sort n.0 e) (sorts x)
public_value v sorts (constant c) n e = tt
public_value v sorts (name k) n e = absurd cc
public_value v sorts (app f ts) n e = absurd cc

-- ---- a chain's step came earlier

pub chain_below : (theory : Theory) (entries : Log) → IsLog theory entries → (p : ℕ) (m : Ground) (q k : ℕ) (ts : List Ground) → AtPosition entries p (learn m (by_chain q k ts)) → q < length entries
chain_below theory entries is_log p m q k ts there =
    let b = entry_behind theory entries is_log p (learn m (by_chain q k ts)) there in
    let h : MayLearn (signature_of theory) b.past m (by_chain q k ts) = b.keeps way_of_learning in
    let early = position_below b.past q _ h.3 in
    let late = position_below entries p _ there in
    let is = b.position in omega arith
