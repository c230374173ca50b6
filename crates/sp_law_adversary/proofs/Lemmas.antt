-- What logs show of lemmas, executions show too.
use Rattle.std.proofs.Common.{◌≡◌, ◌↔◌, ⊎_elim, zero, false, [], sym, ◌∙◌, true≢false}
use Rattle.std.specs.Prelude.{codes}
use Rattle.std.proofs.lemmas.Bool.{or_parts}
use Rattle.std.proofs.lemmas.Slice.Eq.{bytes_eq-Decides}
use Rattle.sp_spec.specs.Lists.{Member, Every}
use Rattle.sp_spec.specs.Term.{constant}
use Rattle.sp_spec.specs.Formula.{Formula, truth, falsity, happens, equals, precedes, not_so, both, either, implies, for_all, for_some}
use Rattle.sp_spec.specs.Guarded.{Assignment}
use Rattle.sp_spec.specs.Theory.{Theory, Restriction, Lemma, signature_of}
use Rattle.sp_spec.specs.Truth.{IsTrueOver}
use Rattle.sp_spec.specs.Execution.{Trace}
use Rattle.sp_spec.specs.Log.{Log, log_trace}
use Rattle.sp_spec.specs.Verdict.{names_learning, MeetsRestrictions, HoldsInAll, HoldsInNone, HoldsInAllLogs, HoldsInNoLog}
use Rattle.sp_spec.proofs.Lists.{member_either, every_both, every_member}
use Rattle.sp_law_truth.specs.Shown.{action_names}
use Rattle.sp_law_guard.specs.Symbols.{symbols_of}
use Rattle.sp_law_guard.proofs.Kept.{form_kept}
use Rattle.sp_law_guard.proofs.Named.{form_named}
use Rattle.sp_law_guard.proofs.Timed.{form_timed}
use Rattle.sp_law_adversary.specs.Laws.{Learns}
use Rattle.sp_law_adversary.specs.Lemmas.{IsOfExecutions, HasLogs}
use Rattle.sp_law_adversary.proofs.Truth.{logs_truth}
use Rattle.sp_law_adversary.proofs.Learnt.{executions_learnt}

-- the test tells that learning is none of the symbols
not_learning : (f : Formula) → names_learning f ≡ false → Member (codes "KU") (symbols_of f) → ⊥
not_learning truth e m = m
not_learning falsity e m = m
not_learning (happens a i) e m = ⊎_elim (λ is. true≢false (sym ((bytes_eq-Decides a.symbol (codes "KU")).1 is) ∙ e)) (λ h. h) m
not_learning (equals t u) e m = m
not_learning (precedes i j) e m = m
not_learning (not_so f) e m = not_learning f e m
not_learning (both f g) e m =
    let p = or_parts (names_learning f) (names_learning g) e in
    ⊎_elim (λ k. not_learning f p.0 k) (λ k. not_learning g p.1 k) (member_either (codes "KU") (symbols_of f) (symbols_of g) m)
not_learning (either f g) e m =
    let p = or_parts (names_learning f) (names_learning g) e in
    ⊎_elim (λ k. not_learning f p.0 k) (λ k. not_learning g p.1 k) (member_either (codes "KU") (symbols_of f) (symbols_of g) m)
not_learning (implies f g) e m =
    let p = or_parts (names_learning f) (names_learning g) e in
    ⊎_elim (λ k. not_learning f p.0 k) (λ k. not_learning g p.1 k) (member_either (codes "KU") (symbols_of f) (symbols_of g) m)
not_learning (for_all x f) e m = not_learning f e m
not_learning (for_some x f) e m = not_learning f e m

any_assignment : Assignment
any_assignment = record { terms = λ x. constant []; times = λ i. zero; bound_terms = λ k. constant []; bound_times = λ k. zero }

-- a formula that doesn't speak of learning is as true over the log
pub formula_over : (theory : Theory) (trace : Trace) (log : Log) → Learns theory trace log → (f : Formula) → IsOfExecutions f
    → IsTrueOver (signature_of theory) trace f ↔ IsTrueOver (signature_of theory) (log_trace log) f
formula_over theory trace log learnt f read =
    let g = read.0.0 in
    let named = form_named f g read.0.1 in
    let unnamed : Member (codes "KU") (action_names g) → ⊥ = λ m. not_learning f read.1 (every_member _ (action_names g) (codes "KU") m named) in
    let over = logs_truth theory trace log learnt g (form_timed f g read.0.1 read.0.2) unnamed any_assignment in
    let here = form_kept (signature_of theory) trace f g read.0.1 any_assignment in
    let there = form_kept (signature_of theory) (log_trace log) f g read.0.1 any_assignment in
    ((λ h. there.1 (over.0 (here.0 h))), (λ h. here.1 (over.1 (there.0 h))))

pub restrictions_over : (theory : Theory) (trace : Trace) (log : Log) → Learns theory trace log
    → Every (λ (r : Restriction). IsOfExecutions r.formula) theory.restrictions
    → MeetsRestrictions theory trace → MeetsRestrictions theory (log_trace log)
restrictions_over theory trace log learnt read meets =
    every_both (λ (r : Restriction). IsOfExecutions r.formula) (λ (r : Restriction). IsTrueOver (signature_of theory) trace r.formula)
    (λ (r : Restriction). IsTrueOver (signature_of theory) (log_trace log) r.formula)
    (λ r a h. (formula_over theory trace log learnt r.formula a).0 h) theory.restrictions read meets

-- what holds in all logs holds in all executions, and what holds in none holds in none
pub logs_show : (theory : Theory) → HasLogs theory → (lemma : Lemma) → IsOfExecutions lemma.formula
    → (HoldsInAllLogs theory lemma → HoldsInAll theory lemma) × (HoldsInNoLog theory lemma → HoldsInNone theory lemma)
logs_show theory has lemma of_executions = (
  λ holds steps trace execution meets.
      let r = executions_learnt theory has.normal_forms has.keeps has.reserved steps trace execution in
      (formula_over theory trace r.0 r.1 lemma.formula of_executions).1 (holds r.0 r.1.is_log (restrictions_over theory trace r.0 r.1 has.restrictions meets)),
  λ holds steps trace execution meets true_here.
      let r = executions_learnt theory has.normal_forms has.keeps has.reserved steps trace execution in
      holds r.0 r.1.is_log (restrictions_over theory trace r.0 r.1 has.restrictions meets)
      ((formula_over theory trace r.0 r.1 lemma.formula of_executions).0 true_here),
)
