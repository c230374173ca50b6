-- Of the same steps there is one answer.
use Rattle.std.proofs.Common.{◌≡◌, ◌<◌, ⊎_elim, ℕ, zero, suc, List, [], ◌∷◌, ◌++◌, refl, sym, ap, ◌∙◌, subst, length, append_assoc, arith}
use Rattle.std.proofs.lemmas.Bool.{cases_order}
use Rattle.sp_spec.specs.Rule.{Facts}
use Rattle.sp_spec.specs.Theory.{Theory}
use Rattle.sp_spec.specs.Execution.{Step, State, Trace, Leads, Runs, IsExecution, Cause, no_such_rule, no_instance, premise_absent, fresh_name_twice, wrong_sort, IsNoStep}
use Rattle.sp_spec.specs.Lists.{newest_first}
use Rattle.sp_exec.specs.Replay.{rank, IsReplayed, IsFirstFault}
use Rattle.sp_spec.proofs.Lists.{newest_append}

-- a step that is done fails for no cause
pub leads_without : (theory : Theory) (step : Step) (facts : Facts ⊥) (before after : State) → Leads theory step facts before after → (cause : Cause) →
    IsNoStep cause theory step before → ⊥
leads_without theory step facts before after l no_such_rule k = k l.named
leads_without theory step facts before after l no_instance k = k l.values facts l.is_instance
leads_without theory step facts before after l premise_absent k = k l.values facts l.rest l.is_instance l.takes
leads_without theory step facts before after l fresh_name_twice k = k l.is_new
leads_without theory step facts before after l wrong_sort k = k l.values facts l.is_instance l.sorts

-- the earlier steps of an execution are one
earlier_runs : (theory : Theory) (later past : List Step) (state : State) (trace : Trace) → Runs theory (later ++ past) state trace →
    (s : State) × (t : Trace) × Runs theory past s t
earlier_runs theory [] past state trace h = (state, trace, h)
earlier_runs theory (step ∷ later) past state trace h = earlier_runs theory later past h.0 h.1 h.3

-- steps that can't all be done are no execution
stops_runs : (theory : Theory) (front : List Step) (step : Step) (back : List Step) (cause : Cause) →
    ((state : State) (trace : Trace) → Runs theory (newest_first front) state trace → IsNoStep cause theory step state) →
    (state : State) (trace : Trace) → Runs theory (newest_first (front ++ step ∷ back)) state trace → ⊥
stops_runs theory front step back cause fails state trace h =
    let order : newest_first (front ++ step ∷ back) ≡ newest_first back ++ step ∷ newest_first front =
    newest_append front (step ∷ back) ∙ append_assoc (newest_first back) (step ∷ []) (newest_first front) in
    let r = earlier_runs theory (newest_first back) (step ∷ newest_first front) state trace (subst (λ (zs : List Step). Runs theory zs state trace) order h) in
    let here = r.2 in
    leads_without theory step here.2 here.0 r.0 here.4 cause (fails here.0 here.1 here.3)

pub no_execution : (theory : Theory) (steps : List Step) (n : ℕ) (cause : Cause) → IsFirstFault theory steps n cause → (trace : Trace) →
    IsExecution theory (newest_first steps) trace → ⊥
no_execution theory steps n cause f trace h =
    stops_runs theory f.front f.step f.back cause f.fails h.0 trace (subst (λ (zs : List Step). Runs theory (newest_first zs) h.0 trace) f.splits h.1)

pub one_trace : (theory : Theory) (steps : List Step) (trace other : Trace) → IsReplayed theory steps trace → IsReplayed theory steps other → trace ≡ other
one_trace theory steps trace other a b = sym (a.each a.shown a.executed) ∙ b.each a.shown a.executed

split_same : {A : Type 0} (xs ys : List A) (x y : A) (as' bs : List A) → length xs ≡ length ys → xs ++ x ∷ as' ≡ ys ++ y ∷ bs → (xs ≡ ys) × (x ≡ y)
split_same [] [] x y as' bs l e = (refl, cc)
split_same [] (z ∷ ys) x y as' bs l e = absurd (omega (arith, l))
split_same (z ∷ xs) [] x y as' bs l e = absurd (omega (arith, l))
split_same (z ∷ xs) (w ∷ ys) x y as' bs l e =
    let first : z ≡ w = cc in
    let rest : xs ++ x ∷ as' ≡ ys ++ y ∷ bs = cc in
    let r = split_same xs ys x y as' bs (omega (arith, l)) rest in
    let same = r.0 in
    (cc, r.1)

split_longer : {A : Type 0} (xs ys : List A) (x y : A) (as' bs : List A) → length xs < length ys → xs ++ x ∷ as' ≡ ys ++ y ∷ bs → (zs : List A) × (ys ≡ xs ++ x ∷ zs)
split_longer [] [] x y as' bs l e = absurd (omega (arith, l))
split_longer [] (z ∷ ys) x y as' bs l e = let same : z ≡ x = cc in (ys, ap (λ w. w ∷ ys) same)
split_longer (z ∷ xs) [] x y as' bs l e = absurd (omega (arith, l))
split_longer (z ∷ xs) (w ∷ ys) x y as' bs l e =
    let first : w ≡ z = cc in
    let rest : xs ++ x ∷ as' ≡ ys ++ y ∷ bs = cc in
    let r = split_longer xs ys x y as' bs (omega (arith, l)) rest in
    let same = r.1 in
    (r.0, cc)

-- the later of two faults isn't the first
not_later : (theory : Theory) (steps : List Step) (n m : ℕ) (cause other : Cause) → (f : IsFirstFault theory steps n cause) → (g : IsFirstFault theory steps m other) →
    length f.front < length g.front → ⊥
not_later theory steps n m cause other f g l =
    let r = split_longer f.front g.front f.step g.step f.back g.back l (sym f.splits ∙ g.splits) in
    let here = g.reached in
    stops_runs theory f.front f.step r.0 cause f.fails here.0 here.1 (subst (λ (zs : List Step). Runs theory (newest_first zs) here.0 here.1) r.1 here.2)

-- nor is the greater of two causes the least
not_greater : (theory : Theory) (steps : List Step) (n m : ℕ) (cause other : Cause) → (f : IsFirstFault theory steps n cause) → (g : IsFirstFault theory steps m other) →
    f.front ≡ g.front → f.step ≡ g.step → rank cause < rank other → ⊥
not_greater theory steps n m cause other f g e s l =
    let here = g.reached in
    let runs = subst (λ (zs : List Step). Runs theory (newest_first zs) here.0 here.1) (sym e) here.2 in
    g.least here.0 here.1 here.2 cause l (subst (λ (z : Step). IsNoStep cause theory z here.0) s (f.fails here.0 here.1 runs))

of_rank : ℕ → Cause
of_rank zero = no_such_rule
of_rank (suc zero) = no_instance
of_rank (suc (suc zero)) = premise_absent
of_rank (suc (suc (suc zero))) = fresh_name_twice
of_rank n = wrong_sort

own_rank : (c : Cause) → of_rank (rank c) ≡ c
unfolding of_rank
own_rank no_such_rule = refl
own_rank no_instance = refl
own_rank premise_absent = refl
own_rank fresh_name_twice = refl
own_rank wrong_sort = refl

pub one_fault : (theory : Theory) (steps : List Step) (n m : ℕ) (cause other : Cause) → IsFirstFault theory steps n cause → IsFirstFault theory steps m other →
    (n ≡ m) × (cause ≡ other)
one_fault theory steps n m cause other f g =
    ⊎_elim same_length
    (λ u. ⊎_elim (λ l. absurd (not_later theory steps n m cause other f g l)) (λ l. absurd (not_later theory steps m n other cause g f l)) u)
    (cases_order (length f.front) (length g.front))
  where
    same_length : length f.front ≡ length g.front → (n ≡ m) × (cause ≡ other)
    same_length e =
        let s = split_same f.front g.front f.step g.step f.back g.back e (sym f.splits ∙ g.splits) in
        let number : n ≡ m = f.counted ∙ ap (λ k. suc k) e ∙ sym g.counted in (
          number,
          ⊎_elim (λ r. sym (own_rank cause) ∙ ap of_rank r ∙ own_rank other)
              (λ u. ⊎_elim
              (λ l. absurd (not_greater theory steps n m cause other f g s.0 s.1 l))
              (λ l. absurd (not_greater theory steps m n other cause g f (sym s.0) (sym s.1) l)) u)
              (cases_order (rank cause) (rank other)),
        )
