-- How often a fact stands in a list.
use Rattle.std.proofs.Common.{◌≡◌, ◌<◌, ◌+◌, ◌⊎◌, ⊎_elim, ℕ, zero, suc, List, [], ◌∷◌, ◌++◌, Bool, true, false, Option, Some, None, option_map, refl, sym, ap, ◌∙◌, subst, map, arith}
use Rattle.std.proofs.lemmas.Bool.{and_parts, and_from, false_from_ne_true}
use Rattle.std.proofs.lemmas.Slice.Eq.{bytes_eq-Decides}
use Rattle.std.specs.Bool.{Decides}
use Rattle.std.specs.Str.{bytes_eq}
use Rattle.sp_spec.specs.Same.{same_terms}
use Rattle.sp_spec.specs.Rule.{Fact}
use Rattle.sp_spec.proofs.Same.{same_terms_decides}
use Rattle.sp_law_equal.proofs.Decided.{or_not}
use Rattle.sp_law_run.specs.Taken.{same_choice, same_fact, times, SameFacts, removed}
use Rattle.sp_spec.proofs.Facts.{same_fact_parts}

same_choice_decides : (b c : Bool) → Decides (same_choice b c) (b ≡ c)
same_choice_decides true true = (λ e. refl, λ e. refl)
same_choice_decides true false = (λ e. absurd cc, λ e. absurd cc)
same_choice_decides false true = (λ e. absurd cc, λ e. absurd cc)
same_choice_decides false false = (λ e. refl, λ e. refl)

pub same_fact_tells : (f g : Fact ⊥) → Decides (same_fact f g) (f ≡ g)
same_fact_tells f g =
    let symbols = bytes_eq-Decides f.symbol g.symbol in
    let choices = same_choice_decides f.persistent g.persistent in
    let args = same_terms_decides f.args g.args in (
      λ e. let both = and_parts (bytes_eq f.symbol g.symbol) _ e in
          let rest = and_parts (same_choice f.persistent g.persistent) (same_terms f.args g.args) both.1 in
          same_fact_parts f g (symbols.0 both.0) (choices.0 rest.0) (args.0 rest.1),
      λ e. and_from _ _ (symbols.1 (ap (λ x. x.symbol) e)) (and_from _ _ (choices.1 (ap (λ x. x.persistent) e)) (args.1 (ap (λ x. x.args) e))),
    )

pub same_or_not : (f g : Fact ⊥) → (f ≡ g) ⊎ (f ≡ g → ⊥)
same_or_not f g = or_not (same_fact f g) (same_fact_tells f g)

pub times_here : (f g : Fact ⊥) (gs : List (Fact ⊥)) → f ≡ g → times f (g ∷ gs) ≡ suc (times f gs)
times_here f g gs e = let t = (same_fact_tells f g).1 e in rw t refl

pub times_there : (f g : Fact ⊥) (gs : List (Fact ⊥)) → (f ≡ g → ⊥) → times f (g ∷ gs) ≡ times f gs
times_there f g gs n = let t = false_from_ne_true (same_fact f g) (λ e. n ((same_fact_tells f g).0 e)) in rw t refl

pub times_append : (f : Fact ⊥) (xs ys : List (Fact ⊥)) → times f (xs ++ ys) ≡ times f xs + times f ys
times_append f [] ys = omega arith
times_append f (x ∷ xs) ys =
    let h = times_append f xs ys in
    ⊎_elim
    (λ e. let a = times_here f x xs e in let b = times_here f x (xs ++ ys) e in omega (arith, a, b, h))
    (λ n. let a = times_there f x xs n in let b = times_there f x (xs ++ ys) n in omega (arith, a, b, h))
    (same_or_not f x)

-- an element more
abbrev added : (f g : Fact ⊥) → ℕ
added f g = times f (g ∷ [])

pub times_more : (f g : Fact ⊥) (gs : List (Fact ⊥)) → times f (g ∷ gs) ≡ times f (g ∷ []) + times f gs
times_more f g gs = times_append f (g ∷ []) gs

-- an element in the middle may as well stand in front
pub times_middle : (f g : Fact ⊥) (xs ys : List (Fact ⊥)) → times f (xs ++ g ∷ ys) ≡ times f (g ∷ (xs ++ ys))
times_middle f g xs ys =
    let a = times_append f xs (g ∷ ys) in
    let b = times_more f g ys in
    let c = times_more f g (xs ++ ys) in
    let d = times_append f xs ys in
    omega (arith, a, b, c, d)

pub times_one_less : (f g : Fact ⊥) (xs ys : List (Fact ⊥)) → times f (g ∷ xs) ≡ times f (g ∷ ys) → times f xs ≡ times f ys
times_one_less f g xs ys e = let a = times_more f g xs in let b = times_more f g ys in omega (arith, a, b, e)

pub removed_none : (f : Fact ⊥) (xs : List (Fact ⊥)) → removed f xs ≡ None → times f xs ≡ zero
removed_none f [] e = refl
removed_none f (x ∷ xs) e =
    ⊎_elim
    (λ s. let t = (same_fact_tells f x).1 s in absurd (let k = rw t at e in cc))
    (λ n. let t = false_from_ne_true (same_fact f x) (λ s. n ((same_fact_tells f x).0 s)) in
    let k = rw t at e in times_there f x xs n ∙ removed_none f xs (map_none (removed f xs) k))
    (same_or_not f x)
  where
    map_none : (o : Option (List (Fact ⊥))) → option_map (λ hs. x ∷ hs) o ≡ None → o ≡ None
    map_none None e = refl
    map_none (Some hs) e = absurd cc

map_some : (x : Fact ⊥) (ys : List (Fact ⊥)) (o : Option (List (Fact ⊥))) → option_map (λ hs. x ∷ hs) o ≡ Some ys → (zs : List (Fact ⊥)) × (o ≡ Some zs) × (x ∷ zs ≡ ys)
map_some x ys None e = absurd cc
map_some x ys (Some zs) e = (zs, refl, cc)

-- the fact has gone once, and the others stand as often
pub removed_some : (f : Fact ⊥) (xs ys : List (Fact ⊥)) → removed f xs ≡ Some ys → (g : Fact ⊥) → times g xs ≡ times g (f ∷ ys)
removed_some f [] ys e g = absurd cc
removed_some f (x ∷ xs) ys e g =
    ⊎_elim
    (λ s. let t = (same_fact_tells f x).1 s in let k = rw t at e in
    let left : xs ≡ ys = cc in
    let both : x ∷ xs ≡ f ∷ ys = cc in ap (times g) both)
    (λ n. let t = false_from_ne_true (same_fact f x) (λ s. n ((same_fact_tells f x).0 s)) in
    let k = rw t at e in
    let r = map_some x ys (removed f xs) k in
    let h = removed_some f xs r.0 r.1 g in
    let a = times_more g x xs in
    let b = times_more g f r.0 in
    let c = times_middle g x (f ∷ []) r.0 in
    let d = times_more g x (f ∷ r.0) in
    subst (λ (zs : List (Fact ⊥)). times g (x ∷ xs) ≡ times g (f ∷ zs)) r.2 (omega (arith, a, b, c, d, h)))
    (same_or_not f x)

-- it can be found where it stands
pub removed_there : (f : Fact ⊥) (xs : List (Fact ⊥)) → zero < times f xs → (ys : List (Fact ⊥)) × (removed f xs ≡ Some ys)
removed_there f xs l = by_answer (removed f xs) refl
  where
    by_answer : (o : Option (List (Fact ⊥))) → removed f xs ≡ o → (ys : List (Fact ⊥)) × (removed f xs ≡ Some ys)
    by_answer None e = let z = removed_none f xs e in absurd (omega arith)
    by_answer (Some ys) e = (ys, e)

-- where a fact stands in a mapped list, it comes from some place
pub record Found (n : Fact ⊥ → Fact ⊥) (f : Fact ⊥) (xs : List (Fact ⊥)) : Type 0 where
  pub front : List (Fact ⊥)
  pub found : Fact ⊥
  pub back : List (Fact ⊥)
  pub at : xs ≡ front ++ found ∷ back
  pub same : n found ≡ f

pub found_there : (n : Fact ⊥ → Fact ⊥) (f : Fact ⊥) (xs : List (Fact ⊥)) → zero < times f (map n xs) → Found n f xs
found_there n f [] l = absurd (omega arith)
found_there n f (x ∷ xs) l =
    ⊎_elim
    (λ s. record { front = []; found = x; back = xs; at = refl; same = sym s })
    (λ d. let e = times_there f (n x) (map n xs) d in
    let r = found_there n f xs (omega arith) in
    record { front = x ∷ r.front; found = r.found; back = r.back; at = ap (λ ys. x ∷ ys) r.at; same = r.same })
    (same_or_not f (n x))

pub times_over : (f : Fact ⊥) (xs : List (Fact ⊥)) → zero < times f (f ∷ xs)
times_over f xs = let e = times_here f f xs refl in omega arith

pub same_facts_itself : (xs : List (Fact ⊥)) → SameFacts xs xs
same_facts_itself xs = record { each = λ f. refl }

pub same_facts_then : (xs ys zs : List (Fact ⊥)) → SameFacts xs ys → SameFacts ys zs → SameFacts xs zs
same_facts_then xs ys zs a b = record { each = λ f. a.each f ∙ b.each f }

pub same_facts_back : (xs ys : List (Fact ⊥)) → SameFacts xs ys → SameFacts ys xs
same_facts_back xs ys a = record { each = λ f. sym (a.each f) }

-- what is added on either side keeps the facts the same
pub same_facts_added : (xs ys cs : List (Fact ⊥)) → SameFacts xs ys → SameFacts (xs ++ cs) (cs ++ ys)
same_facts_added xs ys cs s = record {
  each = λ f. let a = times_append f xs cs in let b = times_append f cs ys in let c = s.each f in omega (arith, a, b, c);
}
