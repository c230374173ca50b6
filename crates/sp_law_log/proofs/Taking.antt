-- How what a state's facts add to its linear sources and fresh names is passed on when facts are taken, whatever their origins must have.
use Rattle.std.proofs.Common.{◌≡◌, Bool, true, false, not, ◌&&◌, if◌then◌else◌, List, [], ◌∷◌, ◌++◌, refl, sym, ap, ◌∙◌, subst, append_assoc}
use Rattle.std.specs.Prelude.{codes}
use Rattle.std.specs.Str.{bytes_eq}
use Rattle.sp_spec.specs.Term.{Ground}
use Rattle.sp_spec.specs.Signature.{Equation}
use Rattle.sp_spec.specs.Rule.{Fact, SameFact}
use Rattle.sp_spec.specs.Execution.{Takes}
use Rattle.sp_spec.specs.Log.{Source, fresh_rule, conclusion, is_fr, first_arg, fresh_of, linear_sources}
use Rattle.sp_law_equal.specs.Pointwise.{EachWith}
use Rattle.sp_law_log.proofs.Rearranged.{Covers, covers_same, covers_then, covers_behind, covers_moved}

-- a linear source, if the fact has one, and the name of a fresh fact: what a fact adds to those of a state
abbrev pub source_share : Fact ⊥ → Source → List Source
source_share f (conclusion p k) = if f.persistent then [] else conclusion p k ∷ []
source_share f fresh_rule = []

abbrev pub fresh_share : Fact ⊥ → List Ground
fresh_share f = if is_fr f then first_arg f.args else []

pub linear_cons : (f : Fact ⊥) (fs : List (Fact ⊥)) (o : Source) (os : List Source)
    → linear_sources (f ∷ fs) (o ∷ os) ≡ source_share f o ++ linear_sources fs os
linear_cons f fs (conclusion p k) os = refl
linear_cons f fs fresh_rule os = refl

pub fresh_append : (fs gs : List (Fact ⊥)) → fresh_of (fs ++ gs) ≡ fresh_of fs ++ fresh_of gs
fresh_append [] gs = refl
fresh_append (f ∷ fs) gs = ap (λ (xs : List Ground). fresh_share f ++ xs) (fresh_append fs gs) ∙ sym (append_assoc (fresh_share f) (fresh_of fs) (fresh_of gs))

-- what is persistent adds nothing
pub source_share_none : (f : Fact ⊥) (o : Source) → f.persistent ≡ true → source_share f o ≡ []
source_share_none f (conclusion p k) e = rw e refl
source_share_none f fresh_rule e = refl

and_not_true : (a b : Bool) → b ≡ true → a && not b ≡ false
and_not_true true b e = rw e refl
and_not_true false b e = refl

pub fresh_share_none : (f : Fact ⊥) → f.persistent ≡ true → fresh_share f ≡ []
fresh_share_none f e = let n : is_fr f ≡ false = and_not_true (bytes_eq f.symbol (codes "Fr")) f.persistent e in rw n refl

module _ (es : List Equation) (Has : Fact ⊥ → Source → Type 0) where
  abbrev pub HaveOrigins : List (Fact ⊥) → List Source → Type 0
  HaveOrigins = EachWith Has

  -- what was found for the facts, and what is left, with their sources
  pub record Taken (facts state : List (Fact ⊥)) (origins : List Source) (rest : List (Fact ⊥)) : Type 0 where
    pub founds : List (Fact ⊥)
    pub sources : List Source
    pub left : List Source
    pub same : EachWith (SameFact es) facts founds
    pub have_sources : HaveOrigins founds sources
    pub have_left : HaveOrigins rest left
    pub linear : Covers (linear_sources state origins) (linear_sources founds sources ++ linear_sources rest left)
    pub fresh : Covers (fresh_of state) (fresh_of founds ++ fresh_of rest)

  -- the same of one fact
  record OneTaken (state : List (Fact ⊥)) (origins : List Source) (found : Fact ⊥) (rest : List (Fact ⊥)) : Type 0 where
    source : Source
    left : List Source
    has_source : Has found source
    have_left : HaveOrigins rest left
    linear : Covers (linear_sources state origins) (source_share found source ++ linear_sources rest left)
    fresh : Covers (fresh_of state) (fresh_share found ++ fresh_of rest)

  -- origins before, of, and behind a fact
  record Split (front : List (Fact ⊥)) (found : Fact ⊥) (back : List (Fact ⊥)) (origins : List Source) : Type 0 where
    before : List Source
    source : Source
    behind : List Source
    is : origins ≡ before ++ source ∷ behind
    have_before : HaveOrigins front before
    has_source : Has found source
    have_behind : HaveOrigins back behind

  split : (front : List (Fact ⊥)) (found : Fact ⊥) (back : List (Fact ⊥)) (origins : List Source)
      → HaveOrigins (front ++ found ∷ back) origins → Split front found back origins
  split [] found back [] h = absurd h
  split [] found back (o ∷ os) h = record { before = []; source = o; behind = os; is = refl; have_before = tt; has_source = h.0; have_behind = h.1 }
  split (f ∷ front) found back [] h = absurd h
  split (f ∷ front) found back (o ∷ os) h =
      let s = split front found back os h.1 in
      record {
        before = o ∷ s.before;
        source = s.source;
        behind = s.behind;
        is = ap (λ (xs : List Source). o ∷ xs) s.is;
        have_before = (h.0, s.have_before);
        has_source = s.has_source;
        have_behind = s.have_behind;
      }

  pub have_append : (fs gs : List (Fact ⊥)) (os ps : List Source) → HaveOrigins fs os → HaveOrigins gs ps → HaveOrigins (fs ++ gs) (os ++ ps)
  have_append [] gs [] ps a b = b
  have_append [] gs (o ∷ os) ps a b = absurd a
  have_append (f ∷ fs) gs [] ps a b = absurd a
  have_append (f ∷ fs) gs (o ∷ os) ps a b = (a.0, have_append fs gs os ps a.1 b)

  pub linear_append : (fs gs : List (Fact ⊥)) (os ps : List Source) → HaveOrigins fs os
      → linear_sources (fs ++ gs) (os ++ ps) ≡ linear_sources fs os ++ linear_sources gs ps
  linear_append [] gs [] ps a = refl
  linear_append [] gs (o ∷ os) ps a = absurd a
  linear_append (f ∷ fs) gs [] ps a = absurd a
  linear_append (f ∷ fs) gs (o ∷ os) ps a =
      linear_cons f (fs ++ gs) o (os ++ ps)
      ∙ ap (λ (xs : List Source). source_share f o ++ xs) (linear_append fs gs os ps a.1)
      ∙ sym (append_assoc (source_share f o) (linear_sources fs os) (linear_sources gs ps))
      ∙ ap (λ (xs : List Source). xs ++ linear_sources gs ps) (sym (linear_cons f fs o os))

  -- how both shares move to the front when the fact is taken away
  moved_linear : (front : List (Fact ⊥)) (found : Fact ⊥) (back : List (Fact ⊥)) (origins : List Source) (s : Split front found back origins)
      → Covers (linear_sources (front ++ found ∷ back) origins) (source_share found s.source ++ linear_sources (front ++ back) (s.before ++ s.behind))
  moved_linear front found back origins s =
      let share = source_share found s.source in
      let all : linear_sources (front ++ found ∷ back) origins ≡ linear_sources front s.before ++ (share ++ linear_sources back s.behind) =
      ap (linear_sources (front ++ found ∷ back)) s.is
      ∙ linear_append front (found ∷ back) s.before (s.source ∷ s.behind) s.have_before
      ∙ ap (λ (xs : List Source). linear_sources front s.before ++ xs) (linear_cons found back s.source s.behind) in
      let rest : linear_sources front s.before ++ linear_sources back s.behind ≡ linear_sources (front ++ back) (s.before ++ s.behind) =
      sym (linear_append front back s.before s.behind s.have_before) in
      subst (λ (xs : List Source). Covers xs (share ++ linear_sources (front ++ back) (s.before ++ s.behind))) (sym all)
      (subst (λ (xs : List Source). Covers (linear_sources front s.before ++ (share ++ linear_sources back s.behind)) (share ++ xs)) rest
      (covers_moved (linear_sources front s.before) share (linear_sources back s.behind)))

  moved_fresh : (front : List (Fact ⊥)) (found : Fact ⊥) (back : List (Fact ⊥))
      → Covers (fresh_of (front ++ found ∷ back)) (fresh_share found ++ fresh_of (front ++ back))
  moved_fresh front found back =
      subst (λ (xs : List Ground). Covers xs (fresh_share found ++ fresh_of (front ++ back))) (sym (fresh_append front (found ∷ back)))
      (subst (λ (xs : List Ground). Covers (fresh_of front ++ (fresh_share found ++ fresh_of back)) (fresh_share found ++ xs)) (sym (fresh_append front back))
      (covers_moved (fresh_of front) (fresh_share found) (fresh_of back)))

  one_taken : (front : List (Fact ⊥)) (found : Fact ⊥) (back : List (Fact ⊥)) (origins : List Source) → HaveOrigins (front ++ found ∷ back) origins
      → OneTaken (front ++ found ∷ back) origins found (front ++ (if found.persistent then found ∷ back else back))
  one_taken front found back origins h = at found.persistent refl (split front found back origins h)
    where
      at : (b : Bool) → found.persistent ≡ b → Split front found back origins
          → OneTaken (front ++ found ∷ back) origins found (front ++ (if b then found ∷ back else back))
      at true e s = record {
        source = s.source;
        left = origins;
        has_source = s.has_source;
        have_left = h;
        linear =
            covers_same (linear_sources (front ++ found ∷ back) origins) (source_share found s.source ++ linear_sources (front ++ found ∷ back) origins)
            (ap (λ (xs : List Source). xs ++ linear_sources (front ++ found ∷ back) origins) (sym (source_share_none found s.source e)));
        fresh =
            covers_same (fresh_of (front ++ found ∷ back)) (fresh_share found ++ fresh_of (front ++ found ∷ back))
            (ap (λ (xs : List Ground). xs ++ fresh_of (front ++ found ∷ back)) (sym (fresh_share_none found e)));
      }
      at false e s = record {
        source = s.source;
        left = s.before ++ s.behind;
        has_source = s.has_source;
        have_left = have_append front back s.before s.behind s.have_before s.have_behind;
        linear = moved_linear front found back origins s;
        fresh = moved_fresh front found back;
      }

  -- a share that moved to the front, and then what follows it
  also : {A : Type 0} (all share middle taken left : List A)
      → Covers all (share ++ middle) → Covers middle (taken ++ left) → Covers all ((share ++ taken) ++ left)
  also all share middle taken left a b =
      covers_then all (share ++ middle) ((share ++ taken) ++ left) a
      (covers_then (share ++ middle) (share ++ (taken ++ left)) ((share ++ taken) ++ left)
      (covers_behind share middle (taken ++ left) b)
      (covers_same (share ++ (taken ++ left)) ((share ++ taken) ++ left) (sym (append_assoc share taken left))))

  pub taken : (facts state : List (Fact ⊥)) (origins : List Source) (rest : List (Fact ⊥))
      → HaveOrigins state origins → Takes es facts state rest → Taken facts state origins rest
  taken [] state origins rest h t = record {
    founds = [];
    sources = [];
    left = origins;
    same = tt;
    have_sources = tt;
    have_left = subst (λ (fs : List (Fact ⊥)). HaveOrigins fs origins) t h;
    linear = covers_same (linear_sources state origins) (linear_sources rest origins) (ap (λ (fs : List (Fact ⊥)). linear_sources fs origins) t);
    fresh = covers_same (fresh_of state) (fresh_of rest) (ap fresh_of t);
  }
  taken (f ∷ facts) state origins rest h t =
      let front = t.0 in let found = t.1 in let back = t.2 in
      let middle = front ++ (if found.persistent then found ∷ back else back) in
      let is : front ++ found ∷ back ≡ state = sym t.3 in
      let one = one_taken front found back origins (subst (λ (fs : List (Fact ⊥)). HaveOrigins fs origins) t.3 h) in
      let more_taken = taken facts middle one.left rest one.have_left t.5 in
      let here = front ++ found ∷ back in
      let left_sources = linear_sources rest more_taken.left in
      let found_sources = linear_sources (found ∷ more_taken.founds) (one.source ∷ more_taken.sources) in
      let sources_moved =
      also (linear_sources here origins) (source_share found one.source) (linear_sources middle one.left)
      (linear_sources more_taken.founds more_taken.sources) left_sources one.linear more_taken.linear in
      let fresh_moved =
      also (fresh_of here) (fresh_share found) (fresh_of middle) (fresh_of more_taken.founds) (fresh_of rest) one.fresh more_taken.fresh in
      record {
        founds = found ∷ more_taken.founds;
        sources = one.source ∷ more_taken.sources;
        left = more_taken.left;
        same = (t.4, more_taken.same);
        have_sources = (one.has_source, more_taken.have_sources);
        have_left = more_taken.have_left;
        linear =
            subst (λ (fs : List (Fact ⊥)). Covers (linear_sources fs origins) (found_sources ++ left_sources)) is
            (subst (λ (xs : List Source). Covers (linear_sources here origins) (xs ++ left_sources))
            (sym (linear_cons found more_taken.founds one.source more_taken.sources)) sources_moved);
        fresh = subst (λ (fs : List (Fact ⊥)). Covers (fresh_of fs) (fresh_of (found ∷ more_taken.founds) ++ fresh_of rest)) is fresh_moved;
      }
