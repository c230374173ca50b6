-- Premises can be taken from a state exactly where their normal forms can be taken from a state of normal facts that is alike, and
-- what is left is alike again.
use Rattle.std.proofs.Common.{◌≡◌, ◌<◌, zero, List, [], ◌∷◌, ◌++◌, Bool, true, false, if◌then◌else◌, Option, Some, None, option_map, option_and_then, refl, sym, ap, ◌∙◌, subst, map, arith}
use Rattle.std.proofs.lemmas.Option.{option_and_then_some}
use Rattle.sp_spec.specs.Signature.{Equation}
use Rattle.sp_spec.specs.Rule.{Fact, SameFact}
use Rattle.sp_spec.specs.Execution.{Takes}
use Rattle.sp_law_equal.specs.NormalForms.{HaveNormalForms}
use Rattle.sp_law_equal.specs.Normal.{normal_fact}
use Rattle.sp_law_equal.proofs.Facts.{same_fact_decides}
use Rattle.sp_law_run.specs.Taken.{times, SameFacts, removed, without, taken}
use Rattle.sp_law_run.proofs.Counted.{times_middle, times_one_less, times_over, removed_some, removed_there, Found, found_there, same_facts_itself, same_facts_then, same_facts_back}

pub map_append : {A B : Type 0} (f : A → B) (xs ys : List A) → map f (xs ++ ys) ≡ map f xs ++ map f ys
map_append f [] ys = refl
map_append f (x ∷ xs) ys = ap (λ zs. f x ∷ zs) (map_append f xs ys)

-- what stays when one fact is taken from between these
abbrev pub left : List (Fact ⊥) → Fact ⊥ → List (Fact ⊥) → List (Fact ⊥)
left front found back = front ++ (if found.persistent then found ∷ back else back)

-- how a fact is taken from a state, in normal form
abbrev pub keeps_or_loses : Bool → List (Fact ⊥) → Option (List (Fact ⊥)) → Option (List (Fact ⊥))
keeps_or_loses b state rest = if b then option_map (λ (r : List (Fact ⊥)). state) rest else rest

module _ (es : List Equation) where
  abbrev pub normals : List (Fact ⊥) → List (Fact ⊥)
  normals fs = map (normal_fact es) fs

  -- The states are alike: the facts in memory are the normal forms of those of the state.
  between : (front : List (Fact ⊥)) (found : Fact ⊥) (back : List (Fact ⊥)) (g : Fact ⊥) →
      times g (normals (front ++ found ∷ back)) ≡ times g (normal_fact es found ∷ normals (front ++ back))
  between front found back g =
      ap (times g) (map_append (normal_fact es) front (found ∷ back))
      ∙ times_middle g (normal_fact es found) (normals front) (normals back)
      ∙ ap (λ zs. times g (normal_fact es found ∷ zs)) (sym (map_append (normal_fact es) front back))

  -- after one fact was removed from each of two that are alike, they are alike
  removed_alike : (state : List (Fact ⊥)) (front : List (Fact ⊥)) (found : Fact ⊥) (back rest : List (Fact ⊥)) →
      SameFacts state (normals (front ++ found ∷ back)) → removed (normal_fact es found) state ≡ Some rest → SameFacts rest (normals (front ++ back))
  removed_alike state front found back rest s e = record {
    each = λ g. times_one_less g (normal_fact es found) rest (normals (front ++ back))
        (sym (removed_some (normal_fact es found) state rest e g) ∙ s.each g ∙ between front found back g);
  }

  can_be_removed : (state : List (Fact ⊥)) (front : List (Fact ⊥)) (found : Fact ⊥) (back : List (Fact ⊥)) →
      SameFacts state (normals (front ++ found ∷ back)) → (rest : List (Fact ⊥)) × (removed (normal_fact es found) state ≡ Some rest)
  can_be_removed state front found back s =
      let f = normal_fact es found in
      removed_there f state
      (let a = s.each f in let b = between front found back f in let l = times_over f (normals (front ++ back)) in omega (arith, a, b, l))

  -- what is taken from a state can be taken from the other
  pub taken_one : (state front : List (Fact ⊥)) (found : Fact ⊥) (back : List (Fact ⊥)) → SameFacts state (normals (front ++ found ∷ back)) →
      (rest : List (Fact ⊥)) × (without (normal_fact es found) state ≡ Some rest) × SameFacts rest (normals (left front found back))
  taken_one state front found back s =
      let r = can_be_removed state front found back s in
      by_kind found.persistent r.0 r.1 (removed_alike state front found back r.0 s r.1)
    where
      by_kind : (b : Bool) (rest : List (Fact ⊥)) → removed (normal_fact es found) state ≡ Some rest → SameFacts rest (normals (front ++ back)) →
          (rest : List (Fact ⊥)) × (keeps_or_loses b state (removed (normal_fact es found) state) ≡ Some rest)
          × SameFacts rest (normals (front ++ (if b then found ∷ back else back)))
      by_kind true rest e k = (state, ap (option_map (λ (r : List (Fact ⊥)). state)) e, s)
      by_kind false rest e k = (rest, e, k)

  was_removed : (b : Bool) (state rest : List (Fact ⊥)) (o : Option (List (Fact ⊥))) → keeps_or_loses b state o ≡ Some rest → (r : List (Fact ⊥)) × (o ≡ Some r)
  was_removed true state rest None e = absurd cc
  was_removed false state rest None e = absurd cc
  was_removed b state rest (Some r) e = (r, refl)

  stands : (state whole : List (Fact ⊥)) (f : Fact ⊥) (rest : List (Fact ⊥)) → SameFacts state (normals whole) → without f state ≡ Some rest →
      zero < times f (normals whole)
  stands state whole f rest s e =
      let r = was_removed f.persistent state rest (removed f state) e in
      let a = removed_some f state r.0 r.1 f in
      let b = times_over f r.0 in
      let c = s.each f in
      omega (arith, a, b, c)

  -- and what is taken from the normal facts stands in the state
  pub taken_back : (state whole : List (Fact ⊥)) (f : Fact ⊥) (rest : List (Fact ⊥)) → SameFacts state (normals whole) → without (normal_fact es f) state ≡ Some rest →
      (k : Found (normal_fact es) (normal_fact es f) whole) × SameFacts rest (normals (left k.front k.found k.back))
  taken_back state whole f rest s e =
      let k : Found (normal_fact es) (normal_fact es f) whole =
      found_there (normal_fact es) (normal_fact es f) whole (stands state whole (normal_fact es f) rest s e) in
      let o = taken_one state k.front k.found k.back (subst (λ (zs : List (Fact ⊥)). SameFacts state (normals zs)) k.at s) in
      let e' : without (normal_fact es f) state ≡ Some o.0 = subst (λ (x : Fact ⊥). without x state ≡ Some o.0) k.same o.1 in
      let same : o.0 ≡ rest = cc in
      (k, subst (λ (zs : List (Fact ⊥)). SameFacts zs (normals (left k.front k.found k.back))) same o.2)

  module _ (good : HaveNormalForms es) where
    -- all that is taken from a state can be taken from the normal facts
    pub takes_taken : (fs state whole rest : List (Fact ⊥)) → SameFacts state (normals whole) → Takes es fs whole rest →
        (kept : List (Fact ⊥)) × (taken (normals fs) state ≡ Some kept) × SameFacts kept (normals rest)
    takes_taken [] state whole rest s h = (state, refl, subst (λ (zs : List (Fact ⊥)). SameFacts state (normals zs)) h s)
    takes_taken (f ∷ fs) state whole rest s h =
        let front = h.0 in
        let found = h.1 in
        let back = h.2 in
        let one = taken_one state front found back (subst (λ (zs : List (Fact ⊥)). SameFacts state (normals zs)) h.3 s) in
        let same : normal_fact es f ≡ normal_fact es found = (same_fact_decides es good f found).0 h.4 in
        let first : without (normal_fact es f) state ≡ Some one.0 = subst (λ (x : Fact ⊥). without x state ≡ Some one.0) (sym same) one.1 in
        let others = takes_taken fs one.0 (left front found back) rest one.2 h.5 in
        (others.0, ap (option_and_then (taken (normals fs))) first ∙ others.1, others.2)

    -- all that is taken from the normal facts can be taken from the state
    pub taken_takes : (fs state whole kept : List (Fact ⊥)) → SameFacts state (normals whole) → taken (normals fs) state ≡ Some kept →
        (rest : List (Fact ⊥)) × Takes es fs whole rest × SameFacts kept (normals rest)
    taken_takes [] state whole kept s e =
        let same : state ≡ kept = cc in (whole, refl, subst (λ (zs : List (Fact ⊥)). SameFacts zs (normals whole)) same s)
    taken_takes (f ∷ fs) state whole kept s e = option_and_then_some (taken (normals fs)) (without (normal_fact es f) state) kept e (λ r a b.
        let k = taken_back state whole f r s a in
        let found = k.0 in
        let others = taken_takes fs r (left found.front found.found found.back) kept k.1 b in
        let same : SameFact es f found.found = (same_fact_decides es good f found.found).1 (sym found.same) in
        (others.0, (found.front, found.found, found.back, found.at, same, others.1), others.2))

    -- what is left of two states that are alike is alike
    pub takes_alike : (fs state state' rest rest' : List (Fact ⊥)) → SameFacts (normals state) (normals state') → Takes es fs state rest → Takes es fs state' rest' →
        SameFacts (normals rest) (normals rest')
    takes_alike fs state state' rest rest' s h h' =
        let a = takes_taken fs (normals state) state rest (same_facts_itself (normals state)) h in
        let b = takes_taken fs (normals state) state' rest' s h' in
        let same : a.0 ≡ b.0 = cc in
        same_facts_then (normals rest) a.0 (normals rest') (same_facts_back a.0 (normals rest) a.2)
        (subst (λ (zs : List (Fact ⊥)). SameFacts zs (normals rest')) (sym same) b.2)
