-- Along a link the adversary goes up the way of the destruction that is found, beside the messages at the places that are found; and so along a chain.
use Rattle.std.proofs.Common.{◌≡◌, ⊎_elim, inl, inr, ◌+◌, ℕ, zero, true, List, [], ◌∷◌, ◌++◌, map, length, Option, Some, None, unwrap_or, is_some, refl, sym, ap, ap₂, ◌∙◌, subst, arith}
use Rattle.sp_spec.specs.Lists.{Member, AtPlace, AtPosition}
use Rattle.sp_spec.proofs.Lists.{member_left, member_right, member_either, place_found}
use Rattle.sp_spec.specs.Term.{Variable, Term, constant, Terms, none, more, Ground, Grounds, Values, valued, valued_all, list_of}
use Rattle.sp_spec.specs.Signature.{Signature, Equation, RespectsSorts}
use Rattle.sp_spec.specs.Equal.{at_root, Equal, forth, end}
use Rattle.sp_spec.specs.Rule.{Fact}
use Rattle.sp_spec.specs.Theory.{Theory, signature_of}
use Rattle.sp_spec.specs.Execution.{Step}
use Rattle.sp_spec.specs.Destruction.{Destruction, destructions}
use Rattle.sp_spec.specs.Log.{How, Entry, step, send, learn, Log, IsLearnt, IsDestructed, IsChain}
use Rattle.sp_law_log.specs.Ways.{sides}
use Rattle.sp_law_equal.proofs.Chains.{equal_sym}
use Rattle.sp_law_equal.proofs.Parts.{part_valued}
use Rattle.sp_destruct.specs.Links.{link_by, link, AllAmong, AreAt, LeadsBy}
use Rattle.sp_destruct.specs.Laws.{HasLearnt}
use Rattle.sp_destruct.proofs.Searching.{first_found}
use Rattle.sp_destruct.proofs.Leading.{at_among, link_leads}
use Rattle.sp_destruct.proofs.Deciding.{in_log}
use Rattle.sp_law_log_execution.specs.Executed.{Level, level_of, destruction_ways, linking_of, raising, if_there, messages_at, steps_by, link_steps, chain_steps, messages_learnt}
use Rattle.sp_law_log_execution.proofs.Raised.{shown}
use Rattle.sp_law_log_execution.proofs.Ways.{IsWayOf, destruction_way}
use Rattle.sp_law_log_execution.proofs.Lifted.{IsKnownIn, AreKnownIn, known_stays, Reaches, reaches_known, reaches_keeps, reaches_then, lift, reaches_equal}

-- ---- the messages that a log learns

abbrev pub learnt_of : Entry → Ground
learnt_of (learn m how) = m
learnt_of e = constant []

later : (e : Entry) (past : Log) (m : Ground) → IsLearnt past m → IsLearnt (e ∷ past) m
later e past m l = (l.0, (l.1.0, inr l.1.1))

learnt_tells : (past : Log) (m : Ground) → Member m (messages_learnt past) → IsLearnt past m
learnt_tells [] m k = absurd k
learnt_tells (step r facts os ∷ past) m k = later (step r facts os) past m (learnt_tells past m k)
learnt_tells (send n ∷ past) m k = later (send n) past m (learnt_tells past m k)
learnt_tells (learn n how ∷ past) m k =
    ⊎_elim (λ old. later (learn n how) past m (learnt_tells past m old))
    (λ new. ⊎_elim (λ e. (length past, (how, inl (refl, ap (λ (x : Ground). learn x how) e)))) (λ wrong. absurd wrong) new)
    (member_either m (messages_learnt past) (n ∷ []) k)

learnt_from : (past : Log) (m : Ground) (p : ℕ) (how : How) → AtPosition past p (learn m how) → Member m (messages_learnt past)
learnt_from [] m p how a = absurd a
learnt_from (step r facts os ∷ past) m p how (inl a) = let wrong = a.1 in absurd cc
learnt_from (step r facts os ∷ past) m p how (inr a) = learnt_from past m p how a
learnt_from (send n ∷ past) m p how (inl a) = let wrong = a.1 in absurd cc
learnt_from (send n ∷ past) m p how (inr a) = learnt_from past m p how a
learnt_from (learn n way ∷ past) m p how (inl a) = member_right m (messages_learnt past) (n ∷ []) (inl (ap learnt_of a.1))
learnt_from (learn n way ∷ past) m p how (inr a) = member_left m (messages_learnt past) (n ∷ []) (learnt_from past m p how a)

pub has_learnt : (past : Log) → HasLearnt past (messages_learnt past)
has_learnt past m = (learnt_tells past m, λ l. learnt_from past m l.0 l.1.0 l.1.1)

-- ---- what is found

messages_are : (learnt : List Ground) (places : List ℕ) (ts : Grounds) → AreAt learnt places ts → messages_at learnt places ≡ list_of ts
messages_are learnt [] none a = refl
messages_are learnt [] (more t ts) a = absurd a
messages_are learnt (k ∷ ks) none a = absurd a
messages_are learnt (k ∷ ks) (more t ts) a =
    ap₂ (λ (o : Option Ground) (ms : List Ground). if_there o ++ ms) (place_found learnt k t a.0) (messages_are learnt ks ts a.1)

-- the destruction of the link, its way, the places of its side messages, and the steps by them
pub record Linked (signature : Signature) (learnt : List Ground) (t u : Ground) : Type 0 where
  pub destruction : Destruction
  pub levels : List Level
  pub way : IsWayOf signature destruction levels
  pub places : List ℕ
  pub leads : LeadsBy destruction learnt t u places
  pub steps_are : link_steps (linking_of signature) learnt t u ≡ raising levels (messages_at learnt places) t

pub linked : (signature : Signature) (past : Log) (learnt : List Ground) → HasLearnt past learnt → (t u : Ground) → IsDestructed signature past t u
    → Linked signature learnt t u
linked signature past learnt h t u l = by_link (link (destructions signature) learnt t u) refl ((in_log signature past learnt h t u).1 l)
  where
    by_link : (o : Option (ℕ × List ℕ)) → link (destructions signature) learnt t u ≡ o → is_some o ≡ true → Linked signature learnt t u
    by_link None e s = absurd cc
    by_link (Some r) e s =
        let f = first_found (λ (d : Destruction). link_by d learnt t u) zero (destructions signature) r e in
        let i = f.index in
        let same : r.0 ≡ zero + i = f.same in
        let is : i ≡ r.0 = omega arith in
        let w = destruction_way signature r.0 f.item (subst (λ (k : ℕ). AtPlace (destructions signature) k f.item) is f.at) in
        record {
          destruction = f.item;
          levels = w.0;
          way = w.2;
          places = r.1;
          leads = link_leads f.item learnt t u r.1 f.found;
          steps_are =
              ap (steps_by (linking_of signature) learnt t) e
              ∙ ap (λ (o : Option (List Level)). raising (unwrap_or o []) (messages_at learnt r.1) t) (place_found (destruction_ways signature) r.0 w.0 w.1);
        }

-- ---- what is reached

module _ (theory : Theory) (made learnt : List Ground) where
  abbrev es : List Equation
  es = (signature_of theory).equations

  -- each of the messages is known there
  abbrev pub KnowsAll : List (Fact ⊥) → Type 0
  KnowsAll facts = (m : Ground) → Member m learnt → IsKnownIn theory facts m

  among_known : (facts : List (Fact ⊥)) → KnowsAll facts → (ts : Grounds) → AllAmong learnt ts → AreKnownIn theory facts ts
  among_known facts all none h = tt
  among_known facts all (more t ts) h = (all t h.0, among_known facts all ts h.1)

  of_way : (d : Destruction) (levels : List Level) (w : IsWayOf (signature_of theory) d levels) (v : Values) → RespectsSorts v → (facts : List (Fact ⊥))
      → AreKnownIn theory facts (valued_all v d.sides) → IsKnownIn theory facts (valued v d.pattern)
      → Reaches theory facts made (raising levels (shown v d.sides) (valued v d.pattern)) (valued v d.result)
  of_way d levels w v respects facts beside h =
      let e = w.equation in
      let up = raising (map level_of w.forks) (shown v (sides w.forks)) (valued v d.pattern) in
      let whole =
      lift theory made v e.left w.forks d.pattern w.way w.publics facts (subst (λ (ts : Terms Variable). AreKnownIn theory facts (valued_all v ts)) w.sides_are beside) h in
      let root : Equal es (valued v e.left) (valued v e.right) = forth (at_root e w.is_equation v respects refl refl) end in
      let result =
      reaches_equal theory made facts up (valued v e.left) (valued v e.right) (equal_sym es (valued v e.left) (valued v e.right) root)
      (part_valued v e.right e.left w.part) whole in
      let steps : raising levels (shown v d.sides) (valued v d.pattern) ≡ up =
      ap₂ (λ (ls : List Level) (ts : Terms Variable). raising ls (shown v ts) (valued v d.pattern)) w.levels_are w.sides_are in
      subst (λ (r : Term Variable). Reaches theory facts made (raising levels (shown v d.sides) (valued v d.pattern)) (valued v r)) (sym w.result_is)
      (subst (λ (xs : List Step). Reaches theory facts made xs (valued v e.right)) (sym steps) result)

  reaches_link : (facts : List (Fact ⊥)) (t u : Ground) → KnowsAll facts → IsKnownIn theory facts t → Linked (signature_of theory) learnt t u
      → Reaches theory facts made (link_steps (linking_of (signature_of theory)) learnt t u) u
  reaches_link facts t u all h f =
      let d = f.destruction in
      let v = f.leads.0 in
      let sides_there = f.leads.3 in
      let r =
      of_way d f.levels f.way v f.leads.1 facts (among_known facts all (valued_all v d.sides) (at_among learnt f.places (valued_all v d.sides) sides_there))
      (subst (IsKnownIn theory facts) f.leads.2 h) in
      let steps : link_steps (linking_of (signature_of theory)) learnt t u ≡ raising f.levels (shown v d.sides) (valued v d.pattern) =
      f.steps_are ∙ ap₂ (raising f.levels) (messages_are learnt f.places (valued_all v d.sides) sides_there) f.leads.2 in
      subst (λ (m : Ground). Reaches theory facts made (link_steps (linking_of (signature_of theory)) learnt t u) m) (sym f.leads.4)
      (subst (λ (xs : List Step). Reaches theory facts made xs (valued v d.result)) (sym steps) r)

  pub reaches_chain : (past : Log) → HasLearnt past learnt → (facts : List (Fact ⊥)) (t : Ground) (chain : List Ground) (m : Ground) → KnowsAll facts
      → IsKnownIn theory facts t → IsChain (signature_of theory) past t chain m → Reaches theory facts made (chain_steps (linking_of (signature_of theory)) learnt t chain) m
  reaches_chain past has facts t [] m all h c = reaches_known theory made facts m (subst (IsKnownIn theory facts) c h)
  reaches_chain past has facts t (u ∷ chain) m all h c =
      let steps = link_steps (linking_of (signature_of theory)) learnt t u in
      let a = reaches_link facts t u all h (linked (signature_of theory) past learnt has t u c.0) in
      let still : KnowsAll a.later =
      λ n k. known_stays theory facts a.later (λ g there persistent. reaches_keeps theory made facts steps u a g there) n (all n k) in
      reaches_then theory made facts steps (chain_steps (linking_of (signature_of theory)) learnt u chain) u m a
      (reaches_chain past has a.later u chain m still a.known c.1)
