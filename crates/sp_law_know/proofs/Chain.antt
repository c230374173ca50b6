-- The move on a chain covers: the chain is done with what was passed last, or goes on by an instance of a destruction.
use Rattle.std.proofs.Common.{◌≡◌, ℕ, suc, Bool, true, false, if◌then◌else◌, List, [], ◌∷◌, ◌++◌, append-nil, map, codes, decimal, Some, refl, sym, ap, subst, inl, inr, le_refl}
use Rattle.std.proofs.lemmas.Slice.Eq.{bytes_eq-Decides}
use Rattle.sp_spec.specs.Lists.{Member, Every, AtPosition}
use Rattle.sp_spec.specs.Term.{Names, Sort, Msg, Fresh, Pub, Variable, Term, var, constant, name, app, none, more, Ground, Grounds, Values, valued, valued_all}
use Rattle.sp_spec.specs.Signature.{Signature, IsOver, AreOver, HasSort, RespectsSorts}
use Rattle.sp_spec.specs.Equal.{IsNormal, AreNormal}
use Rattle.sp_spec.specs.Theory.{Theory, signature_of}
use Rattle.sp_spec.specs.Destruction.{Destruction, destructions}
use Rattle.sp_spec.specs.Log.{Log, by_chain, learn, IsDestructed, IsMadeAlone, IsLog}
use Rattle.sp_spec.proofs.Lists.{every_append, every_parts}
use Rattle.sp_spec.proofs.Options.{mapped}
use Rattle.sp_law_equal.specs.Right.{HaveNoNames}
use Rattle.sp_law_equal.specs.RightTheory.{HasNormalInstances}
use Rattle.sp_law_log.proofs.Lasting.{Lasts, holds_in_log}
use Rattle.sp_law_log.proofs.Over.{over_lasts, normal_lasts}
use Rattle.sp_spec_system.specs.System.{Way, chain_done, System}
use Rattle.sp_spec_system.specs.Solutions.{Valuation, Solves}
use Rattle.sp_spec_system.specs.Numbered.{IsNumbered}
use Rattle.sp_spec_system.specs.Covering.{NoneSolved, Covers}
use Rattle.sp_spec_system.specs.Cases.{case_if}
use Rattle.sp_spec_system.specs.Move.{Case, systems_in}
use Rattle.sp_spec_know.specs.Know.{with_way}
use Rattle.sp_spec_know.specs.Chain.{Begun, begun_at, with_same, is_pub_sort, is_no_end, done_case, numbered_from, with_link, by_destructions, chain_cases}
use Rattle.sp_law_system.specs.Laws.{UnifierIsRight}
use Rattle.sp_law_system.proofs.Solutions.{agrees_itself}
use Rattle.sp_law_formula.proofs.ActionSteps.{systems_append}
use Rattle.sp_law_formula.proofs.Merged.{Later, respects}
use Rattle.sp_law_know.proofs.ChainBegun.{Chained, chained, ChainUnder, chain_under, chain_learnt, Goes, chain_goes, chain_last}
use Rattle.sp_law_know.proofs.ChainLinks.{same_numbered, same_solved, link_numbered, link_solved}
use Rattle.sp_law_know.proofs.ChainValues.{once, once_stands}
use Rattle.sp_law_know.proofs.KnowParts.{way_at, way_numbered, way_solved}
use Rattle.sp_law_know.proofs.Learnt.{all_earlier}

-- no chain leads to what is no end of a chain
made_by_itself : (signature : Signature) (v : Values) → RespectsSorts v → (t : Term Variable) → is_no_end t ≡ true → IsMadeAlone signature (valued v t)
made_by_itself signature v sorts (var x) e = at x.sort refl e
  where
    at : (sort : Sort) → x.sort ≡ sort → is_pub_sort sort ≡ true → IsMadeAlone signature (v x)
    at Pub k l = inr (inr (subst (λ (sort : Sort). HasSort sort (v x)) k (sorts x)))
    at Msg k l = absurd cc
    at Fresh k l = absurd cc
made_by_itself signature v sorts (constant c) e = inr (inr tt)
made_by_itself signature v sorts (name n) e = absurd cc
made_by_itself signature v sorts (app f none) e = absurd cc
made_by_itself signature v sorts (app f (more t none)) e = absurd cc
made_by_itself signature v sorts (app f (more t (more u none))) e =
    inl (valued v t, valued v u, ap (λ (g : List ℕ). app g (more (valued v t) (more (valued v u) none))) ((bytes_eq-Decides f (codes "pair")).0 e))
made_by_itself signature v sorts (app f (more t (more u (more w ws)))) e = absurd cc

module _ (N : Names) (right : UnifierIsRight) (theory : Theory) (instances : HasNormalInstances theory) where
  abbrev signature : Signature
  signature = signature_of theory

  abbrev nameless : HaveNoNames signature.equations
  nameless = instances.forms.nameless

  module _ (s : System) (n : IsNumbered N s) (i : ℕ) (b : Begun) (a : Chained s i b) where
    abbrev under : ChainUnder N s.next i b
    under = chain_under s i b a N n

    abbrev done : Way
    done = chain_done b.from b.conclusion b.passed

    abbrev link_case : List ℕ → Destruction → List Case
    link_case label d = case_if label (with_same (with_link s i b d) b.last (valued (numbered_from s.next d) d.pattern))

    done_way : IsNumbered N (with_way s i done)
    done_way = way_numbered s i done n (under.from, under.passed)

    done_numbered : Every (Later N s.next) (systems_in (done_case s i b))
    done_numbered = at (is_no_end b.last)
      where
        at : (c : Bool) → Every (Later N s.next) (systems_in (if c then [] else case_if (codes "done") (with_same (with_way s i done) b.last b.message)))
        at true = tt
        at false = same_numbered N right (with_way s i done) done_way b.last b.message (codes "done") s.next (le_refl s.next) under.last under.message

    links_numbered : (k : ℕ) (ds : List Destruction) → ((d : Destruction) → Member d ds → Member d (destructions signature))
        → Every (Later N s.next) (systems_in (by_destructions s i b k ds))
    links_numbered k [] among = tt
    links_numbered k (d ∷ ds) among =
        let label = codes "chain_" ++ decimal k in
        let own = link_case label d in
        subst (Every (Later N s.next)) (sym (systems_append own (by_destructions s i b (suc k) ds)))
        (every_append (Later N s.next) (systems_in own) (systems_in (by_destructions s i b (suc k) ds))
        (link_numbered N right theory nameless s n i under.time b under.from under.passed under.last d (among d (inl refl)) label)
        (links_numbered (suc k) ds (λ c m. among c (inr m))))

    module _ (log : Log) (is : IsLog theory log) (v : Valuation) (h : Solves theory log v s) where
      abbrev m : Ground
      m = valued v.terms b.message

      abbrev NoneOf : List Case → Type 0
      NoneOf cs = NoneSolved theory log v s.next (systems_in cs)

      abbrev Learnt : List Ground → Type 0
      Learnt others = AtPosition log (v.times i) (learn m (by_chain (v.times b.from) b.conclusion (map (valued v.terms) b.passed ++ others)))

      -- the last message that was passed is the one that is learnt
      done_solved : Learnt [] → NoneOf (done_case s i b) → ⊥
      done_solved there none_solved = at (is_no_end b.last) refl none_solved
        where
          goes : Goes i b theory log v []
          goes = chain_goes s i b a theory log is v [] there

          at : (c : Bool) → is_no_end b.last ≡ c → NoneOf (if c then [] else case_if (codes "done") (with_same (with_way s i done) b.last b.message)) → ⊥
          at true e l = goes.not_alone (subst (IsMadeAlone signature) goes.leads (made_by_itself signature v.terms (respects theory log v s h) b.last e))
          at false e l =
              let passed = map (valued v.terms) b.passed in
              let how = by_chain (v.times b.from) b.conclusion (passed ++ []) in
              let is_way = way_at log (v.times i) v done m how there
              (ap (λ (ts : List Ground). by_chain (v.times b.from) b.conclusion ts) (append-nil passed)) in
              same_solved N right (with_way s i done) done_way b.last b.message (codes "done") theory log s.next v v (agrees_itself s.next v)
              (way_solved s i done theory log v is_way h) goes.leads l

      -- the case of a destruction is among those of all
      link_part : (k : ℕ) (ds : List Destruction) (d : Destruction) → Member d ds → NoneOf (by_destructions s i b k ds)
          → (label : List ℕ) × NoneOf (link_case label d)
      link_part k [] d among none_solved = absurd among
      link_part k (c ∷ ds) d among none_solved =
          let label = codes "chain_" ++ decimal k in
          at label among
          (every_parts _ (systems_in (link_case label c)) (systems_in (by_destructions s i b (suc k) ds))
          (subst (NoneSolved theory log v s.next) (systems_append (link_case label c) (by_destructions s i b (suc k) ds)) none_solved))
          (λ l. link_part (suc k) ds d l)
        where
          at : (label : List ℕ) → Member d (c ∷ ds) → NoneOf (link_case label c) × NoneOf (by_destructions s i b (suc k) ds)
              → (Member d ds → NoneOf (by_destructions s i b (suc k) ds) → (other : List ℕ) × NoneOf (link_case other d))
              → (other : List ℕ) × NoneOf (link_case other d)
          at label (inl e) parts later = (label, subst (λ (x : Destruction). NoneOf (link_case label x)) e parts.0)
          at label (inr l) parts later = later l parts.1

      -- what lasts throughout logs holds of the values of a link's variables
      link_values : (P : Ground → Type 0) (Qs : Grounds → Type 0) → Lasts theory P Qs → (others : List Ground) → (there : Learnt others) → (u : Ground)
          → (goes : Goes i b theory log v others) → (link : IsDestructed signature goes.behind.past (valued v.terms b.last) u) → (x : Variable)
          → Member x (once link.0) → P (link.2 x)
      link_values P Qs lasts others there u goes link x among =
          let chain = map (valued v.terms) b.passed ++ others in
          let messages = (holds_in_log theory P Qs lasts log is).messages (v.times i) (learn m (by_chain (v.times b.from) b.conclusion chain)) there in
          let last : P (valued v.terms b.last) = chain_last s i b a theory log is v others there P messages.1 in
          (holds_in_log theory P Qs lasts goes.behind.past goes.behind.is_log).values (valued v.terms b.last) u last link x (once_stands link.0 x among)

      more_solved : (u : Ground) (others : List Ground) → Learnt (u ∷ others) → NoneOf (by_destructions s i b 1 (destructions signature)) → ⊥
      more_solved u others there none_solved =
          let goes = chain_goes s i b a theory log is v (u ∷ others) there in
          let link = goes.leads.0 in
          let part = link_part 1 (destructions signature) link.0 link.1 none_solved in
          let over = link_values (IsOver signature.symbols) (AreOver signature.symbols) (over_lasts theory instances) (u ∷ others) there u goes link in
          let are_normal = link_values (IsNormal signature.equations) (AreNormal signature.equations) (normal_lasts theory) (u ∷ others) there u goes link in
          let how = by_chain (v.times b.from) b.conclusion (map (valued v.terms) b.passed ++ u ∷ others) in
          let known = all_earlier theory log is (v.times i) (learn m how) goes.behind (valued_all link.2 link.0.sides) link.5 in
          link_solved N right theory nameless s n i under.time b under.from under.passed under.last link.0 link.1 log is v h m u others there
          link.2 (λ x k. (link.3 x, over x k)) are_normal link.4 known link.6 part.0 part.1

      chain_solved : (others : List Ground) → Learnt others → NoneOf (done_case s i b) → NoneOf (by_destructions s i b 1 (destructions signature)) → ⊥
      chain_solved [] there ended further = done_solved there ended
      chain_solved (u ∷ others) there ended further = more_solved u others there further

  abbrev cases_for : System → ℕ → Begun → List Case
  cases_for s i b = done_case s i b ++ by_destructions s i b 1 (destructions signature)

  -- The move on a chain keeps the numbers.
  pub chain_numbered : (s : System) → IsNumbered N s → (i : ℕ) (cs : List Case) → chain_cases (destructions (signature_of theory)) s i ≡ Some cs
      → Every (Later N s.next) (systems_in cs)
  chain_numbered s n i cs e =
      let r = mapped (cases_for s i) (begun_at s i) cs e in
      let b = r.0 in
      let a = chained s i b r.1 in
      let ended = done_case s i b in
      let further = by_destructions s i b 1 (destructions signature) in
      subst (λ (x : List Case). Every (Later N s.next) (systems_in x)) (sym r.2)
      (subst (Every (Later N s.next)) (sym (systems_append ended further))
      (every_append (Later N s.next) (systems_in ended) (systems_in further) (done_numbered s n i b a)
      (links_numbered s n i b a 1 (destructions signature) (λ d m. m))))

  -- It covers.
  pub chain_covers : (s : System) → IsNumbered N s → (i : ℕ) (cs : List Case) → chain_cases (destructions (signature_of theory)) s i ≡ Some cs
      → Covers theory s (systems_in cs)
  chain_covers s n i cs e = record {
    covers = λ log is v h none_solved.
        let r = mapped (cases_for s i) (begun_at s i) cs e in
        let b = r.0 in
        let a = chained s i b r.1 in
        let ended = done_case s i b in
        let further = by_destructions s i b 1 (destructions signature) in
        let none_of = subst (λ (x : List Case). NoneSolved theory log v s.next (systems_in x)) r.2 none_solved in
        let parts = every_parts _ (systems_in ended) (systems_in further) (subst (NoneSolved theory log v s.next) (systems_append ended further) none_of) in
        let learnt = chain_learnt s i b a log v h.events in
        chain_solved s n i b a log is v h learnt.0 learnt.1 parts.0 parts.1;
  }
