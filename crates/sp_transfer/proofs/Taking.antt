-- What is taken from facts with sources, each at the first place where it stands, is taken with the sources that the log has for it.
use Rattle.std.proofs.Common.{◌≡◌, List, [], ◌∷◌, ◌++◌, Bool, true, false, Option, Some, None, option_map, option_and_then, if◌then◌else◌, refl, sym, ap, ◌∙◌, subst, append_assoc}
use Rattle.std.specs.Bool.{Decides}
use Rattle.std.proofs.lemmas.Option.{option_and_then_some}
use Rattle.sp_spec.specs.Term.{Ground}
use Rattle.sp_spec.specs.Signature.{Equation}
use Rattle.sp_spec.specs.Rule.{Fact, SameFact}
use Rattle.sp_spec.specs.Log.{Source, fresh_of, linear_sources}
use Rattle.sp_law_equal.specs.Pointwise.{EachWith}
use Rattle.sp_law_equal.proofs.Forms.{to_normal_all}
use Rattle.sp_law_run.specs.Taken.{same_fact, removed, without, taken}
use Rattle.sp_law_run.proofs.Counted.{same_fact_tells}
use Rattle.sp_law_run.proofs.Taking.{normals, keeps_or_loses}
use Rattle.sp_law_log.proofs.Rearranged.{Covers, covers_same, covers_then, covers_behind, covers_moved}
use Rattle.sp_law_log.proofs.Taking.{source_share, fresh_share, linear_cons, source_share_none, fresh_share_none}
use Rattle.sp_transfer.specs.Construction.{Given, Taking, take_one, take_all}
use Rattle.sp_transfer.proofs.Ordered.{facts_of, sources_of}

abbrev linear_of : List Given → List Source
linear_of gs = linear_sources (facts_of gs) (sources_of gs)

abbrev fresh_in : List Given → List Ground
fresh_in gs = fresh_of (facts_of gs)

abbrev taking : Source → List Given → Taking
taking o left = record { sources = o ∷ []; left = left }

abbrev passed : Given → Taking → Taking
passed g t = record { sources = t.sources; left = g ∷ t.left }

module _ (Has : Fact ⊥ → Source → Type 0) where
  abbrev pub HaveSources : List Given → Type 0
  HaveSources gs = EachWith Has (facts_of gs) (sources_of gs)

  record OneTaken (f : Fact ⊥) (state : List Given) (o : Source) (left : List Given) : Type 0 where
    has : Has f o
    have_left : HaveSources left
    linear : Covers (linear_of state) (source_share f o ++ linear_of left)
    fresh : Covers (fresh_in state) (fresh_share f ++ fresh_in left)

  -- the fact is taken, and left are those that are left of the facts alone
  abbrev Takes : Fact ⊥ → List Given → List (Fact ⊥) → Option Taking → Type 0
  Takes f state kept answer = (o : Source) × (left : List Given) × (answer ≡ Some (taking o left)) × (facts_of left ≡ kept) × OneTaken f state o left

  takes_here : (f : Fact ⊥) (g : Given) (gs : List Given) (kept : List (Fact ⊥)) → f ≡ g.fact → HaveSources (g ∷ gs) → facts_of gs ≡ kept → (b : Bool)
      → f.persistent ≡ b
      → Takes f (g ∷ gs) (if b then facts_of (g ∷ gs) else kept) (Some (taking g.source (if b then g ∷ gs else gs)))
  takes_here f g gs kept is h same true p = (
    g.source,
    g ∷ gs,
    refl,
    refl,
    record {
      has = subst (λ (x : Fact ⊥). Has x g.source) (sym is) h.0;
      have_left = h;
      linear = covers_same _ _ (ap (λ (xs : List Source). xs ++ linear_of (g ∷ gs)) (sym (source_share_none f g.source p)));
      fresh = covers_same _ _ (ap (λ (xs : List Ground). xs ++ fresh_in (g ∷ gs)) (sym (fresh_share_none f p)));
    },
  )
  takes_here f g gs kept is h same false p = (
    g.source,
    gs,
    refl,
    same,
    record {
      has = subst (λ (x : Fact ⊥). Has x g.source) (sym is) h.0;
      have_left = h.1;
      linear =
          covers_same _ _ (linear_cons g.fact (facts_of gs) g.source (sources_of gs) ∙ ap (λ (x : Fact ⊥). source_share x g.source ++ linear_of gs) (sym is));
      fresh = covers_same _ _ (ap (λ (x : Fact ⊥). fresh_share x ++ fresh_in gs) (sym is));
    },
  )

  -- a fact before it stays
  takes_later : (f : Fact ⊥) (g : Given) (gs : List Given) (kept : List (Fact ⊥)) (answer : Option Taking) → Has g.fact g.source → Takes f gs kept answer
      → Takes f (g ∷ gs) (g.fact ∷ kept) (option_map (passed g) answer)
  takes_later f g gs kept answer h r =
      let o = r.0 in
      let left = r.1 in
      let t = r.4 in
      let here = source_share g.fact g.source in
      let share = source_share f o in (
        o,
        g ∷ left,
        ap (option_map (passed g)) r.2,
        ap (λ (fs : List (Fact ⊥)). g.fact ∷ fs) r.3,
        record {
          has = t.has;
          have_left = (h, t.have_left);
          linear =
              subst (λ (xs : List Source). Covers xs (share ++ linear_of (g ∷ left))) (sym (linear_cons g.fact (facts_of gs) g.source (sources_of gs)))
              (subst (λ (xs : List Source). Covers (here ++ linear_of gs) (share ++ xs)) (sym (linear_cons g.fact (facts_of left) g.source (sources_of left)))
              (covers_then (here ++ linear_of gs) (here ++ (share ++ linear_of left)) (share ++ (here ++ linear_of left))
              (covers_behind here (linear_of gs) (share ++ linear_of left) t.linear)
              (covers_moved here share (linear_of left))));
          fresh =
              covers_then (fresh_in (g ∷ gs)) (fresh_share g.fact ++ (fresh_share f ++ fresh_in left)) (fresh_share f ++ fresh_in (g ∷ left))
              (covers_behind (fresh_share g.fact) (fresh_in gs) (fresh_share f ++ fresh_in left) t.fresh)
              (covers_moved (fresh_share g.fact) (fresh_share f) (fresh_in left));
        },
      )

  -- what can be removed of the facts can be taken
  takes_one : (f : Fact ⊥) (state : List Given) (kept : List (Fact ⊥)) → HaveSources state → removed f (facts_of state) ≡ Some kept
      → Takes f state (if f.persistent then facts_of state else kept) (take_one f state)
  takes_one f [] kept h e = absurd cc
  takes_one f (g ∷ gs) kept h e = at (same_fact f g.fact) (same_fact_tells f g.fact) (λ rest k. takes_one f gs rest h.1 k) (removed f (facts_of gs)) refl e
    where
      behind : (b : Bool) (rest : List (Fact ⊥)) → g.fact ∷ rest ≡ kept
          → g.fact ∷ (if b then facts_of gs else rest) ≡ (if b then facts_of (g ∷ gs) else kept)
      behind true rest is = refl
      behind false rest is = is

      at : (b : Bool) → Decides b (f ≡ g.fact)
          → ((rest : List (Fact ⊥)) → removed f (facts_of gs) ≡ Some rest → Takes f gs (if f.persistent then facts_of gs else rest) (take_one f gs))
          → (r : Option (List (Fact ⊥))) → removed f (facts_of gs) ≡ r
          → (if b then Some (facts_of gs) else option_map (λ hs. g.fact ∷ hs) r) ≡ Some kept
          → Takes f (g ∷ gs) (if f.persistent then facts_of (g ∷ gs) else kept)
          (if b then Some (taking g.source (if f.persistent then g ∷ gs else gs)) else option_map (passed g) (take_one f gs))
      at true d later r found e = takes_here f g gs kept (d.0 refl) h (let same : facts_of gs ≡ kept = cc in same) f.persistent refl
      at false d later None found e = absurd cc
      at false d later (Some rest) found e =
          let is : g.fact ∷ rest ≡ kept = cc in
          subst (λ (fs : List (Fact ⊥)). Takes f (g ∷ gs) fs (option_map (passed g) (take_one f gs))) (behind f.persistent rest is)
          (takes_later f g gs _ (take_one f gs) h.0 (later rest found))

  takes_without : (f : Fact ⊥) (state : List Given) (kept : List (Fact ⊥)) → HaveSources state → without f (facts_of state) ≡ Some kept
      → Takes f state kept (take_one f state)
  takes_without f state kept h e = at f.persistent (removed f (facts_of state)) (λ rest k. takes_one f state rest h k) e
    where
      at : (b : Bool) (r : Option (List (Fact ⊥)))
          → ((rest : List (Fact ⊥)) → r ≡ Some rest → Takes f state (if b then facts_of state else rest) (take_one f state))
          → keeps_or_loses b (facts_of state) r ≡ Some kept → Takes f state kept (take_one f state)
      at true None found e = absurd cc
      at false None found e = absurd cc
      at true (Some rest) found e =
          subst (λ (fs : List (Fact ⊥)). Takes f state fs (take_one f state)) (let same : facts_of state ≡ kept = cc in same) (found rest refl)
      at false (Some rest) found e = subst (λ (fs : List (Fact ⊥)). Takes f state fs (take_one f state)) (let same : rest ≡ kept = cc in same) (found rest refl)

  pub record AllTaken (fs : List (Fact ⊥)) (state : List Given) (t : Taking) : Type 0 where
    pub have_sources : EachWith Has fs t.sources
    pub have_left : HaveSources t.left
    pub linear : Covers (linear_of state) (linear_sources fs t.sources ++ linear_of t.left)
    pub fresh : Covers (fresh_in state) (fresh_of fs ++ fresh_in t.left)

  -- one more is taken, before the others
  all_more : (f : Fact ⊥) (fs : List (Fact ⊥)) (state : List Given) (o : Source) (middle : List Given) (t : Taking) → OneTaken f state o middle
      → AllTaken fs middle t
      → AllTaken (f ∷ fs) state (record { sources = o ∷ t.sources; left = t.left })
  all_more f fs state o middle t one others =
      let share = source_share f o in
      let found = linear_sources fs t.sources in
      let left = linear_of t.left in
      record {
        have_sources = (one.has, others.have_sources);
        have_left = others.have_left;
        linear =
            subst (λ (xs : List Source). Covers (linear_of state) (xs ++ left)) (sym (linear_cons f fs o t.sources))
            (subst (λ (xs : List Source). Covers (linear_of state) xs) (sym (append_assoc share found left))
            (covers_then (linear_of state) (share ++ linear_of middle) (share ++ (found ++ left)) one.linear
            (covers_behind share (linear_of middle) (found ++ left) others.linear)));
        fresh =
            subst (λ (xs : List Ground). Covers (fresh_in state) xs) (sym (append_assoc (fresh_share f) (fresh_of fs) (fresh_in t.left)))
            (covers_then (fresh_in state) (fresh_share f ++ fresh_in middle) (fresh_share f ++ (fresh_of fs ++ fresh_in t.left)) one.fresh
            (covers_behind (fresh_share f) (fresh_in middle) (fresh_of fs ++ fresh_in t.left) others.fresh));
      }

  -- what can be taken of the facts can be taken with their sources
  pub takes_all : (fs : List (Fact ⊥)) (state : List Given) (kept : List (Fact ⊥)) → HaveSources state → taken fs (facts_of state) ≡ Some kept
      → (t : Taking) × (take_all fs state ≡ Some t) × (facts_of t.left ≡ kept) × AllTaken fs state t
  takes_all [] state kept h e = (
    record { sources = []; left = state },
    refl,
    (let same : facts_of state ≡ kept = cc in same),
    record { have_sources = tt; have_left = h; linear = covers_same _ _ refl; fresh = covers_same _ _ refl },
  )
  takes_all (f ∷ fs) state kept h e = option_and_then_some (taken fs) (without f (facts_of state)) kept e (λ r a b.
      let one = takes_without f state r h a in
      let others = takes_all fs one.1 kept one.4.have_left (subst (λ (zs : List (Fact ⊥)). taken fs zs ≡ Some kept) (sym one.3) b) in
      let t = others.0 in
      let with_others : Taking → Option Taking =
      λ (x : Taking). option_map (λ (y : Taking). record { sources = x.sources ++ y.sources; left = y.left }) (take_all fs x.left) in (
        record { sources = one.0 ∷ t.sources; left = t.left },
        ap (option_and_then with_others) one.2 ∙ ap (option_map (λ (y : Taking). record { sources = one.0 ∷ y.sources; left = y.left })) others.1,
        others.2,
        all_more f fs state one.0 one.1 t one.4 others.3,
      ))

-- facts and their normal forms are the same
pub normals_same : (es : List Equation) (fs : List (Fact ⊥)) → EachWith (SameFact es) fs (normals es fs)
normals_same es [] = tt
normals_same es (f ∷ fs) = ((refl, refl, to_normal_all es f.args), normals_same es fs)
