-- The sources that the premises of a log's entries name: each is there, it came earlier, and a linear one is named once.
use Rattle.std.proofs.Common.{◌≡◌, ◌<◌, ℕ, zero, suc, Bool, true, false, if◌then◌else◌, List, [], ◌∷◌, ◌++◌, map, refl, sym, ap, ◌∙◌, subst, inl, inr}
use Rattle.sp_spec.specs.Lists.{Member, Distinct, AtPlace, AtPosition}
use Rattle.sp_spec.specs.Term.{Variable}
use Rattle.sp_spec.specs.Rule.{Fact, Facts, fact_at, facts_at}
use Rattle.sp_spec.specs.Theory.{Theory}
use Rattle.sp_spec.specs.Log.{Log, Entry, step, send, learn, Source, fresh_rule, conclusion, is_fr, linear_sources, sources_of, all_sources, Concludes, HasSources, premise_sources, IsLog}
use Rattle.sp_spec.proofs.Logs.{log_sources, IsBehind, entry_behind}
use Rattle.sp_spec.proofs.Lists.{member_left, member_right, distinct_right, distinct_apart, position_below, position_one, distinct_left, place_map, place_one}
use Rattle.sp_spec_system.specs.System.{Happening, rule_step, sending, learning, happening_premises}
use Rattle.sp_spec_system.specs.Solutions.{Valuation, HappensAt}

-- an element of a mapped list at a place comes from that of the list
pub place_mapped : {A B : Type 0} (f : A → B) (xs : List A) (k : ℕ) (y : B) → AtPlace (map f xs) k y → (x : A) × AtPlace xs k x × (f x ≡ y)
place_mapped f [] k y a = absurd a
place_mapped f (x ∷ xs) zero y a = (x, refl, a)
place_mapped f (x ∷ xs) (suc k) y a = place_mapped f xs k y a

-- a premise of what happens is one of a step
pub premise_event : (log : Log) (q : ℕ) (v : Valuation) (h : Happening) → HappensAt log q v h → (p : ℕ) (f : Fact Variable) → AtPlace (happening_premises h) p f
    → (r : List ℕ) × (facts : Facts ⊥) × (sources : List Source) × AtPosition log q (step r facts sources) × AtPlace facts.premises p (fact_at v.terms f)
premise_event log q v (rule_step r facts) h p f a = (r, facts_at v.terms facts, h.0, h.1, place_map (fact_at v.terms) facts.premises p f a)
premise_event log q v (sending m) h p f a = absurd a
premise_event log q v (learning m way) h p f a = absurd a

-- a premise has one source
pub one_source : (sources : List Source) (a p k q l : ℕ) → AtPlace sources a (conclusion p k) → AtPlace sources a (conclusion q l) → (p ≡ q) × (k ≡ l)
one_source sources a p k q l x y = let e : conclusion p k ≡ conclusion q l = place_one sources a (conclusion p k) (conclusion q l) x y in (cc, cc)

concludes_one : (e : Entry) (k : ℕ) (f g : Fact ⊥) → Concludes e k f → Concludes e k g → f ≡ g
concludes_one (step r facts sources) k f g a b = place_one facts.conclusions k f g a b
concludes_one (send m) k f g a b = a.1 ∙ sym b.1
concludes_one (learn m how) k f g a b = absurd a

-- an entry that came before concludes the fact at that place
abbrev Given : Log → ℕ → ℕ → Fact ⊥ → Type 0
Given past p k f = (e : Entry) × AtPosition past p e × Concludes e k f

given_premise : (past : Log) (fs : List (Fact ⊥)) (sources : List Source) → HasSources fs sources past → (a : ℕ) (f : Fact ⊥) → AtPlace fs a f → is_fr f ≡ false
    → (p : ℕ) × (k : ℕ) × AtPlace sources a (conclusion p k) × Given past p k f
given_premise past [] sources has a f there own = absurd there
given_premise past (g ∷ fs) [] has a f there own = absurd has
given_premise past (g ∷ fs) (fresh_rule ∷ sources) has zero f there own = let e : is_fr g ≡ true = has.0 in let d : is_fr g ≡ false = subst (λ (x : Fact ⊥). is_fr x ≡ false) (sym there) own in absurd cc
given_premise past (g ∷ fs) (conclusion p k ∷ sources) has zero f there own = (p, k, refl, subst (Given past p k) there has.1)
given_premise past (g ∷ fs) (fresh_rule ∷ sources) has (suc a) f there own = given_premise past fs sources has.1 a f there own
given_premise past (g ∷ fs) (conclusion p k ∷ sources) has (suc a) f there own = given_premise past fs sources has.2 a f there own

-- what a source is named for
named_premise : (past : Log) (fs : List (Fact ⊥)) (sources : List Source) → HasSources fs sources past → (a p k : ℕ) → AtPlace sources a (conclusion p k) → (f : Fact ⊥) × AtPlace fs a f × Given past p k f
named_premise past fs [] has a p k there = absurd there
named_premise past [] (source ∷ sources) has a p k there = absurd has
named_premise past (g ∷ fs) (fresh_rule ∷ sources) has zero p k there = let e : fresh_rule ≡ conclusion p k = there in absurd cc
named_premise past (g ∷ fs) (conclusion q l ∷ sources) has zero p k there =
    let e : conclusion q l ≡ conclusion p k = there in
    let same_position : q ≡ p = cc in
    let same_place : l ≡ k = cc in
    (g, refl, subst (λ (x : ℕ). Given past p x g) same_place (subst (λ (x : ℕ). Given past x l g) same_position has.1))
named_premise past (g ∷ fs) (fresh_rule ∷ sources) has (suc a) p k there = named_premise past fs sources has.1 a p k there
named_premise past (g ∷ fs) (conclusion q l ∷ sources) has (suc a) p k there = named_premise past fs sources has.2 a p k there

named_twice : (persistent : Bool) → persistent ≡ false → (source named : Source) (rest : List Source) → Distinct ((if persistent then [] else source ∷ []) ++ rest) → source ≡ named → Member named rest → ⊥
named_twice true e source named rest d same m = absurd cc
named_twice false e source named rest d same m = d.0 (subst (λ (x : Source). Member x rest) (sym same) m)

-- Of linear facts: the source is among those named, and a list that names none twice names it at one place.
linear_named : (fs : List (Fact ⊥)) (sources : List Source) (a p k : ℕ) (f : Fact ⊥) → AtPlace fs a f → f.persistent ≡ false → AtPlace sources a (conclusion p k) → Member (conclusion p k) (linear_sources fs sources)
linear_named [] sources a p k f premise linear there = absurd premise
linear_named (g ∷ fs) [] a p k f premise linear there = absurd there
linear_named (g ∷ fs) (fresh_rule ∷ sources) zero p k f premise linear there = let e : fresh_rule ≡ conclusion p k = there in absurd cc
linear_named (g ∷ fs) (conclusion q l ∷ sources) zero p k f premise linear there =
    let e : g.persistent ≡ false = ap (λ (x : Fact ⊥). x.persistent) premise ∙ linear in
    rw e (inl there)
linear_named (g ∷ fs) (fresh_rule ∷ sources) (suc a) p k f premise linear there = linear_named fs sources a p k f premise linear there
linear_named (g ∷ fs) (conclusion q l ∷ sources) (suc a) p k f premise linear there =
    member_right (conclusion p k) (if g.persistent then [] else conclusion q l ∷ []) (linear_sources fs sources) (linear_named fs sources a p k f premise linear there)

linear_once : (fs : List (Fact ⊥)) (sources : List Source) → Distinct (linear_sources fs sources) → (a b p k : ℕ) (f g : Fact ⊥) → AtPlace fs a f → AtPlace fs b g → f.persistent ≡ false → g.persistent ≡ false
    → AtPlace sources a (conclusion p k) → AtPlace sources b (conclusion p k) → a ≡ b
linear_once [] sources d a b p k f g x y l m there too = absurd x
linear_once (h ∷ fs) [] d a b p k f g x y l m there too = absurd there
linear_once (h ∷ fs) (source ∷ sources) d zero zero p k f g x y l m there too = refl
linear_once (h ∷ fs) (fresh_rule ∷ sources) d zero (suc b) p k f g x y l m there too = let e : fresh_rule ≡ conclusion p k = there in absurd cc
linear_once (h ∷ fs) (fresh_rule ∷ sources) d (suc a) zero p k f g x y l m there too = let e : fresh_rule ≡ conclusion p k = too in absurd cc
linear_once (h ∷ fs) (fresh_rule ∷ sources) d (suc a) (suc b) p k f g x y l m there too = ap suc (linear_once fs sources d a b p k f g x y l m there too)
linear_once (h ∷ fs) (conclusion q j ∷ sources) d zero (suc b) p k f g x y l m there too =
    absurd (named_twice h.persistent (ap (λ (z : Fact ⊥). z.persistent) x ∙ l) (conclusion q j) (conclusion p k) (linear_sources fs sources) d there (linear_named fs sources b p k g y m too))
linear_once (h ∷ fs) (conclusion q j ∷ sources) d (suc a) zero p k f g x y l m there too =
    absurd (named_twice h.persistent (ap (λ (z : Fact ⊥). z.persistent) y ∙ m) (conclusion q j) (conclusion p k) (linear_sources fs sources) d too (linear_named fs sources a p k f x l there))
linear_once (h ∷ fs) (conclusion q j ∷ sources) d (suc a) (suc b) p k f g x y l m there too =
    ap suc (linear_once fs sources (distinct_right (if h.persistent then [] else conclusion q j ∷ []) (linear_sources fs sources) d) a b p k f g x y l m there too)

module _ (theory : Theory) where
  -- its premises have their sources in what came before a step
  sourced : (log : Log) (q : ℕ) (r : List ℕ) (facts : Facts ⊥) (sources : List Source) → (b : IsBehind theory log q (step r facts sources)) → HasSources facts.premises sources b.past
  sourced log q r facts sources b = (b.keeps premise_sources).0

  -- a premise that is no Fr is what an earlier entry concludes
  pub source_there : (log : Log) → IsLog theory log → (q : ℕ) (r : List ℕ) (facts : Facts ⊥) (sources : List Source) → AtPosition log q (step r facts sources)
      → (a : ℕ) (f : Fact ⊥) → AtPlace facts.premises a f → is_fr f ≡ false
      → (p : ℕ) × (k : ℕ) × AtPlace sources a (conclusion p k) × (e : Entry) × AtPosition log p e × (p < q) × Concludes e k f
  source_there log is q r facts sources there a f premise own =
      let b = entry_behind theory log is q (step r facts sources) there in
      let g = given_premise b.past facts.premises sources (sourced log q r facts sources b) a f premise own in
      let given = g.3 in
      let below = position_below b.past g.0 given.0 given.1 in
      (g.0, g.1, g.2, given.0, b.still_there g.0 given.0 given.1, subst (λ (n : ℕ). g.0 < n) (sym b.position) below, given.2)

  -- the sources that an entry names are among those of the log, and no other entry names one of them
  among : (log : Log) (q : ℕ) (e : Entry) (source : Source) → AtPosition log q e → Member source (sources_of e) → Member source (all_sources log)
  among [] q e source there m = absurd there
  among (d ∷ log) q e source (inl there) m = member_left source (sources_of d) (all_sources log) (subst (λ (x : Entry). Member source (sources_of x)) (sym there.1) m)
  among (d ∷ log) q e source (inr there) m = member_right source (sources_of d) (all_sources log) (among log q e source there m)

  one_user : (log : Log) → IsLog theory log → (q u : ℕ) (d e : Entry) (source : Source) → AtPosition log q d → AtPosition log u e → Member source (sources_of d) → Member source (sources_of e) → q ≡ u
  one_user [] is q u d e source a b m k = absurd a
  one_user (z ∷ log) is q u d e source (inl a) (inl b) m k = a.0 ∙ sym b.0
  one_user (z ∷ log) is q u d e source (inl a) (inr b) m k =
      absurd (distinct_apart source (sources_of z) (all_sources log) (log_sources theory (z ∷ log) is) (subst (λ (x : Entry). Member source (sources_of x)) (sym a.1) m) (among log u e source b k))
  one_user (z ∷ log) is q u d e source (inr a) (inl b) m k =
      absurd (distinct_apart source (sources_of z) (all_sources log) (log_sources theory (z ∷ log) is) (subst (λ (x : Entry). Member source (sources_of x)) (sym b.1) k) (among log q d source a m))
  one_user (z ∷ log) is q u d e source (inr a) (inr b) m k = one_user log is.0 q u d e source a b m k

  names_distinct : (log : Log) → IsLog theory log → (q : ℕ) (e : Entry) → AtPosition log q e → Distinct (sources_of e)
  names_distinct [] is q e there = absurd there
  names_distinct (d ∷ log) is q e (inl there) = subst (λ (x : Entry). Distinct (sources_of x)) there.1 (distinct_left (sources_of d) (all_sources log) (log_sources theory (d ∷ log) is))
  names_distinct (d ∷ log) is q e (inr there) = names_distinct log is.0 q e there

  -- Two steps that name one source name it for one fact; if that is linear, they are one step and the premise is one.
  module _ (log : Log) (is : IsLog theory log) (p k : ℕ) (q u : ℕ) (r o : List ℕ) (facts others : Facts ⊥) (sources others_sources : List Source)
      (here : AtPosition log q (step r facts sources)) (there : AtPosition log u (step o others others_sources))
      (a b : ℕ) (named : AtPlace sources a (conclusion p k)) (named_too : AtPlace others_sources b (conclusion p k))
      (f : Fact ⊥) (premise : AtPlace facts.premises a f) (linear : f.persistent ≡ false) where
    same_premise : AtPlace others.premises b f
    same_premise =
        let d = entry_behind theory log is q (step r facts sources) here in
        let e = entry_behind theory log is u (step o others others_sources) there in
        let g = named_premise d.past facts.premises sources (sourced log q r facts sources d) a p k named in
        let h = named_premise e.past others.premises others_sources (sourced log u o others others_sources e) b p k named_too in
        let given = g.2 in
        let given_too = h.2 in
        let one_entry = position_one log p given.0 given_too.0 (d.still_there p given.0 given.1) (e.still_there p given_too.0 given_too.1) in
        let one_fact = concludes_one given_too.0 k g.0 h.0 (subst (λ (x : Entry). Concludes x k g.0) one_entry given.2) given_too.2 in
        subst (AtPlace others.premises b) (sym one_fact ∙ place_one facts.premises a g.0 f g.1 premise) h.1

    pub source_once : (q ≡ u) × (a ≡ b)
    source_once =
        let one_position = one_user log is q u (step r facts sources) (step o others others_sources) (conclusion p k) here there
        (linear_named facts.premises sources a p k f premise linear named)
        (linear_named others.premises others_sources b p k f same_premise linear named_too) in
        let there_too = subst (λ (x : ℕ). AtPosition log x (step o others others_sources)) (sym one_position) there in
        let one_entry : step r facts sources ≡ step o others others_sources = position_one log q (step r facts sources) (step o others others_sources) here there_too in
        let one_facts : others ≡ facts = cc in
        let one_sources : others_sources ≡ sources = cc in
        let premise_too = subst (λ (x : Facts ⊥). AtPlace x.premises b f) one_facts same_premise in
        let source_too = subst (λ (x : List Source). AtPlace x b (conclusion p k)) one_sources named_too in
        (one_position, linear_once facts.premises sources (names_distinct log is q (step r facts sources) here) a b p k f f premise premise_too linear linear named source_too)
