-- What a decided system suggests is a learning log if a solution is over one, and the same formulas are true over both.
use Rattle.std.proofs.Common.{◌≡◌, ℕ, List, sym, ap, ◌∙◌, subst}
use Rattle.sp_spec.specs.Lists.{Every, newest_first}
use Rattle.sp_spec.proofs.Lists.{every_weaken}
use Rattle.sp_spec.specs.Theory.{Theory, Restriction, signature_of}
use Rattle.sp_spec.specs.Formula.{Formula}
use Rattle.sp_spec.specs.Execution.{Trace}
use Rattle.sp_spec.specs.Log.{IsLog, log_trace}
use Rattle.sp_law_equal.specs.Right.{HaveNoNames}
use Rattle.sp_law_exchange.specs.Renaming.{Renaming, IsOneToOne, trace_renamed, kept_by}
use Rattle.sp_law_exchange.specs.Exchange.{exchanges}
use Rattle.sp_law_exchange.specs.Laws.{TheoryHasNames, FormKept}
use Rattle.sp_law_exchange.proofs.Exchanges.{exchanges_one}
use Rattle.sp_law_exchange.proofs.ExchangesKeep.{unlisted_stay}
use Rattle.sp_law_exchange.proofs.Names.{listed_rules, listed_formula}
use Rattle.sp_law_exchange.proofs.Entries.{log_trace_renamed}
use Rattle.sp_law_exchange.proofs.Logs.{logs_renamed}
use Rattle.sp_law_exchange.proofs.Written.{form_renamed, negation_renamed, restrictions_renamed}
use Rattle.sp_law_decided.specs.Alike.{HasForm, AreAlike}
use Rattle.sp_law_decided.specs.Laws.{SolutionsAreSuggested, UnsoughtIsUnsolved}
use Rattle.sp_law_decided.proofs.Candidate.{decided_logs_lem}

module _ (theory : Theory) (constants : List (List ℕ)) (without : HaveNoNames (signature_of theory).equations) (r : Renaming) (one : IsOneToOne r) (stay : Every (λ c. r.public c ≡ c) constants) where
  abbrev form_stays : (f : Formula) → HasForm constants f → FormKept r f
  form_stays f h = (h.0, h.1, listed_formula r constants stay h.2 h.0 h.3)

  pub traces_alike : (trace : Trace) → AreAlike theory constants trace (trace_renamed r trace)
  traces_alike trace =
      record {
        form = λ f h m w. form_renamed (signature_of theory) without r one f (form_stays f h) trace m w;
        negation = λ f h m w. negation_renamed (signature_of theory) without r one f (form_stays f h) trace m w;
        restrictions = λ h.
            restrictions_renamed theory without r one
            (every_weaken (λ (x : Restriction). HasForm constants x.formula) (λ (x : Restriction). FormKept r x.formula) (λ (x : Restriction) k. form_stays x.formula k) theory.restrictions h) trace;
      }

pub solutions_are_suggested_lem : SolutionsAreSuggested
solutions_are_suggested_lem =
    record {
      each = λ theory constants without numbered s decided log is_log v solves.
          let d = decided_logs_lem.each theory constants s decided log is_log v solves in
          let r : Renaming = exchanges d.1 in
          let one = exchanges_one d.1 in
          let stay = unlisted_stay d.1 constants d.3 in
          let names : TheoryHasNames (kept_by r) theory = record { equations = without; rules = listed_rules r constants stay theory.rules numbered } in
          let there = logs_renamed theory r one names log is_log in
          let trace : trace_renamed r (log_trace log) ≡ log_trace (newest_first d.0) = sym (log_trace_renamed r log) ∙ ap log_trace d.4 in
          (d.0, d.2, subst (IsLog theory) d.4 there, subst (AreAlike theory constants (log_trace log)) trace (traces_alike theory constants without r one stay (log_trace log)));
    }

pub unsought_is_unsolved_lem : UnsoughtIsUnsolved
unsought_is_unsolved_lem =
    record {
      form = λ theory constants without numbered forms s decided f h w unsought log is_log v solves m meets holds.
          let r = solutions_are_suggested_lem.each theory constants without numbered s decided log is_log v solves in
          unsought r.0 r.1 r.2 ((r.3.restrictions forms).0 meets) ((r.3.form f h m w).0 holds);
      negation = λ theory constants without numbered forms s decided f h w unsought log is_log v solves m meets holds.
          let r = solutions_are_suggested_lem.each theory constants without numbered s decided log is_log v solves in
          unsought r.0 r.1 r.2 ((r.3.restrictions forms).0 meets) ((r.3.negation f h m w).0 holds);
    }
