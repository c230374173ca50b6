-- The example.
use Rattle.std.proofs.Common.{◌≡◌, ⊎_elim, zero, suc, true, [], ◌∷◌, inl, inr, refl, arith}
use Rattle.std.specs.Prelude.{codes}
use Rattle.sp_spec.specs.Term.{Sort, Msg, Fresh, Pub}
use Rattle.sp_spec.specs.Signature.{IsValue}
use Rattle.sp_spec.specs.Equal.{IsNormal}
use Rattle.sp_spec.specs.Rule.{facts_at}
use Rattle.sp_spec.specs.Theory.{signature_of}
use Rattle.sp_spec.specs.Log.{Log, step, conclusion, IsLog, IsRuleInstance}
use Rattle.sp_spec.proofs.Logs.{step_keeps}
use Rattle.sp_spec_system.specs.System.{rule_step}
use Rattle.sp_spec_system.specs.Solutions.{AreAll, Solves}
use Rattle.sp_spec_system.specs.Numbered.{names_in, HappenOnce, IsNumbered}
use Rattle.sp_spec_proof.specs.Finish.{is_decided}
use Rattle.sp_law_decided.specs.Decided.{IsDecided}
use Rattle.sp_law_finish.specs.Examples.{input, given, taken, give_rule, take_rule, theory, context, unlinked_system, value, valuation, unlinked_log, InputsAreReserved}

ended : is_decided context unlinked_system ≡ true
ended = refl

numbered : IsNumbered (names_in []) unlinked_system
numbered =
    record {
      events = (
        (omega arith, record { premises = tt; actions = tt; conclusions = (tt, tt) }),
        ((omega arith, record { premises = (tt, tt); actions = tt; conclusions = tt }), tt),
      );
      formulas = tt;
      spent = tt;
      unequal = tt;
      links = tt;
      order = ((omega arith, omega arith), tt);
      last = tt;
    }

happen_once : HappenOnce unlinked_system.events
happen_once = ((λ m. ⊎_elim (λ e. omega (arith, e)) (λ k. k) m), ((λ m. m), tt))

-- ---- its solution

is_value : (s : Sort) → IsValue (signature_of theory) s (value s)
is_value Msg = (tt, tt)
is_value Fresh = (tt, tt)
is_value Pub = (tt, tt)

is_normal : (s : Sort) → IsNormal (signature_of theory).equations (value s)
is_normal Msg = tt
is_normal Fresh = tt
is_normal Pub = tt

give_instance : IsRuleInstance theory (codes "Give") (facts_at valuation.terms given)
give_instance = (give_rule, inl refl, refl, valuation.terms, (λ z. is_value z.sort), record { premises = tt; actions = tt; conclusions = (refl, refl, (tt, tt), tt) })

take_instance : IsRuleInstance theory (codes "Take") (facts_at valuation.terms taken)
take_instance = (take_rule, inr (inl refl), refl, valuation.terms, (λ z. is_value z.sort), record { premises = (refl, refl, (tt, tt), tt); actions = tt; conclusions = tt })

abbrev give_log : Log
give_log = step (codes "Give") (facts_at valuation.terms given) [] ∷ []

is_log : IsLog theory unlinked_log
is_log = (
  (tt, step_keeps theory [] (codes "Give") (facts_at valuation.terms given) [] give_instance tt tt tt),
  step_keeps theory give_log (codes "Take") (facts_at valuation.terms taken) (conclusion 0 0 ∷ []) take_instance
      (refl, (step (codes "Give") (facts_at valuation.terms given) [], inl (refl, refl), refl), tt) ((λ m. m), tt) tt,
)

all_happen : AreAll unlinked_log valuation unlinked_system.events
all_happen zero l = (record { time = 0; happening = rule_step (codes "Give") given }, inl refl, refl)
all_happen (suc zero) l = (record { time = 1; happening = rule_step (codes "Take") taken }, inr (inl refl), refl)
all_happen (suc (suc p)) l = absurd (omega arith)

solved : Solves theory unlinked_log valuation unlinked_system
solved =
    record {
      sorts = λ z. is_value z.sort;
      normal = λ z. is_normal z.sort;
      events = (([], inr (inl (refl, refl))), ((conclusion 0 0 ∷ [], inl (refl, refl)), tt));
      formulas = tt;
      spent = tt;
      unequal = tt;
      links = tt;
      order = ((omega arith, omega arith), tt);
      last = tt;
      closed = λ c. all_happen;
    }

-- the premise has no link
unlinked : IsDecided [] unlinked_system → ⊥
unlinked d = (d.linked (record { time = 1; happening = rule_step (codes "Take") taken }) (inr (inl refl)) 0 input refl refl).1

pub inputs_are_reserved_lem : InputsAreReserved
inputs_are_reserved_lem = record { ended = ended; made = record { numbered = numbered; once = happen_once }; log = is_log; solves = solved; fails = unlinked }
