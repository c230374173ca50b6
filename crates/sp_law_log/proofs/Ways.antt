-- The way that the definition of destructions takes, and what it leads to.
use Rattle.std.proofs.Common.{◌≡◌, ◌⊎◌, ⊎_elim, inl, inr, ℕ, List, [], ◌∷◌, ◌++◌, Option, Some, None, option_map, Bool, true, false, refl, sym, ap, ◌∙◌, subst, if◌then◌else◌}
use Rattle.std.specs.Option.{option_or}
use Rattle.sp_spec.specs.Term.{Variable, Term, var, constant, name, app, Terms, none, more, joined}
use Rattle.sp_spec.specs.Same.{alike}
use Rattle.sp_spec.specs.Destruction.{Fork, way_to, way_among}
use Rattle.sp_spec.proofs.Same.{alike_same, same_by_decides, same_variable_decides}
use Rattle.sp_law_equal.specs.Parts.{IsPart, IsPartOfOne}
use Rattle.sp_law_equal.proofs.Parts.{part_itself}
use Rattle.sp_law_log.specs.Ways.{args_with, plug, IsWay, sides}

pub joined_again : {V : Type 0} (ts us ws : Terms V) → joined (joined ts us) ws ≡ joined ts (joined us ws)
joined_again none us ws = refl
joined_again (more t ts) us ws = ap (more t) (joined_again ts us ws)

pub joined_none : {V : Type 0} (ts : Terms V) → joined ts none ≡ ts
joined_none none = refl
joined_none (more t ts) = ap (more t) (joined_none ts)

-- the arguments beside a way that goes on by a fork
pub sides_end : (above : List Fork) (f : Fork) → sides (above ++ f ∷ []) ≡ joined (sides above) (joined f.front f.back)
sides_end [] f = joined_none (joined f.front f.back)
sides_end (a ∷ above) f =
    ap (λ (ts : Terms Variable). joined (joined a.front a.back) ts) (sides_end above f)
    ∙ sym (joined_again (joined a.front a.back) (sides above) (joined f.front f.back))

-- the way leads to its end
pub way_plug : (t : Term Variable) (forks : List Fork) (r : Term Variable) → IsWay t forks r → t ≡ plug forks r
way_plug t [] r w = w
way_plug t (f ∷ forks) r w = w.0 ∙ ap (λ u. app f.symbol (args_with f u)) (way_plug f.entered forks r w.1)

alike_itself : (t u : Term Variable) → t ≡ u → alike t u ≡ true
alike_itself t u e = (same_by_decides _ same_variable_decides t u).1 e

-- what is found at the root, or else below it
abbrev here_or : Bool → Option (List Fork) → Option (List Fork)
here_or b other = if b then Some [] else other

module _ (r : Term Variable) where
  found_here : (t : Term Variable) (b : Bool) (other : Option (List Fork)) (forks : List Fork) → alike r t ≡ b → ((fs : List Fork) → other ≡ Some fs → IsWay t fs r)
      → here_or b other ≡ Some forks → IsWay t forks r
  found_here t true other forks e below h = subst (λ (fs : List Fork). IsWay t fs r) (let g : [] ≡ forks = cc in g) (sym (alike_same r t e))
  found_here t false other forks e below h = below forks h

  pass : (f : List ℕ) (front : Terms Variable) (t : Term Variable) (ts : Terms Variable) (whole : Terms Variable) (a b : Option (List Fork)) (forks : List Fork)
      → joined front (more t ts) ≡ whole → ((fs : List Fork) → a ≡ Some fs → IsWay t fs r) → ((fs : List Fork) → b ≡ Some fs → IsWay (app f whole) fs r)
      → option_or (option_map (λ fs. record { symbol = f; front = front; entered = t; back = ts } ∷ fs) a) b ≡ Some forks → IsWay (app f whole) forks r
  pass f front t ts whole (Some fs) b forks e at_t later h =
      let k : Fork = record { symbol = f; front = front; entered = t; back = ts } in
      subst (λ (gs : List Fork). IsWay (app f whole) gs r) (let g : k ∷ fs ≡ forks = cc in g) (ap (app f) (sym e), at_t fs refl)
  pass f front t ts whole None b forks e at_t later h = later forks h

  mutual
    pub way_leads : (t : Term Variable) (forks : List Fork) → way_to r t ≡ Some forks → IsWay t forks r
    way_leads (var x) forks h = found_here (var x) _ None forks refl (λ fs e. absurd cc) h
    way_leads (constant c) forks h = found_here (constant c) _ None forks refl (λ fs e. absurd cc) h
    way_leads (name n) forks h = found_here (name n) _ None forks refl (λ fs e. absurd cc) h
    way_leads (app f ts) forks h = found_here (app f ts) _ (way_among r f none ts) forks refl (λ fs e. among_leads f none ts ts fs refl e) h

    among_leads : (f : List ℕ) (front ts whole : Terms Variable) (forks : List Fork) → joined front ts ≡ whole → way_among r f front ts ≡ Some forks → IsWay (app f whole) forks r
    among_leads f front none whole forks e h = absurd cc
    among_leads f front (more t ts) whole forks e h =
        pass f front t ts whole (way_to r t) _ forks e (λ fs k. way_leads t fs k)
        (λ fs k. among_leads f (joined front (more t none)) ts whole fs (joined_again front (more t none) ts ∙ e) k) h

  -- a way is found to what stands in the term
  abbrev Found : Option (List Fork) → Type 0
  Found o = (forks : List Fork) × (o ≡ Some forks)

  found_at : (t : Term Variable) (b : Bool) (other : Option (List Fork)) → alike r t ≡ b → (r ≡ t) ⊎ Found other → Found (here_or b other)
  found_at t true other e h = ([], refl)
  found_at t false other e (inl k) = absurd (let a = alike_itself r t k in cc)
  found_at t false other e (inr k) = k

  found_among : (k : Fork) (a b : Option (List Fork)) → Found a ⊎ Found b → Found (option_or (option_map (λ fs. k ∷ fs) a) b)
  found_among k (Some fs) b h = (k ∷ fs, refl)
  found_among k None b (inl h) = absurd (let e = h.1 in cc)
  found_among k None b (inr h) = h

  mutual
    pub way_found : (t : Term Variable) → IsPart r t → Found (way_to r t)
    way_found (var x) p = found_at (var x) _ None refl (inl p)
    way_found (constant c) p = found_at (constant c) _ None refl (inl p)
    way_found (name n) p = found_at (name n) _ None refl (inl p)
    way_found (app f ts) p = found_at (app f ts) _ _ refl (⊎_elim (λ e. inl e) (λ q. inr (among_found f none ts q)) p)

    among_found : (f : List ℕ) (front ts : Terms Variable) → IsPartOfOne r ts → Found (way_among r f front ts)
    among_found f front none p = absurd p
    among_found f front (more t ts) p =
        found_among (record { symbol = f; front = front; entered = t; back = ts }) (way_to r t) _
        (⊎_elim (λ q. inl (way_found t q)) (λ q. inr (among_found f (joined front (more t none)) ts q)) p)

  -- what a way leads to stands in where it begins
  part_joined : (t : Term Variable) (front back : Terms Variable) → IsPart r t → IsPartOfOne r (joined front (more t back))
  part_joined t none back p = inl p
  part_joined t (more u front) back p = inr (part_joined t front back p)

  pub way_part : (t : Term Variable) (forks : List Fork) → IsWay t forks r → IsPart r t
  way_part t [] w = subst (IsPart r) (sym w) (part_itself r)
  way_part t (f ∷ forks) w = subst (IsPart r) (sym w.0) (inr (part_joined f.entered f.front f.back (way_part f.entered forks w.1)))

-- a way goes on below each of its forks
pub way_below : (t : Term Variable) (above : List Fork) (f : Fork) (under : List Fork) (r : Term Variable) → IsWay t (above ++ f ∷ under) r → IsWay f.entered under r
way_below t [] f under r w = w.1
way_below t (a ∷ above) f under r w = way_below a.entered above f under r w.1
