-- To the destruction of each number belongs the way of that number: it leads from the root of an equation's left side to the destruction's pattern, below
-- public symbols alone, and the arguments beside it are the side messages.
use Rattle.std.proofs.Common.{◌≡◌, inl, inr, ℕ, zero, suc, ◌+◌, Bool, true, false, if◌then◌else◌, List, [], ◌∷◌, ◌++◌, map, Option, Some, None, refl, sym, ap, subst, append_assoc, arith}
use Rattle.sp_spec.specs.Lists.{Member, AtPlace}
use Rattle.sp_spec.specs.Term.{Variable, Term, Terms, none, more, joined, count}
use Rattle.sp_spec.specs.Signature.{Equation, Signature}
use Rattle.sp_spec.specs.Destruction.{Destruction, Fork, way_to, is_public, along, along_way, destructions_by, destructions}
use Rattle.sp_spec.proofs.Lists.{every_append}
use Rattle.sp_law_equal.specs.Parts.{IsPart}
use Rattle.sp_law_run.proofs.Taking.{map_append}
use Rattle.sp_law_log.specs.Ways.{args_with, sides, IsPublicFork, ArePublic, IsWay}
use Rattle.sp_law_log.proofs.Ways.{way_leads, way_part, sides_end}
use Rattle.sp_law_log.proofs.Destructions.{is_public_tells}
use Rattle.sp_law_log_execution.specs.Executed.{Level, level_of, ways_along, ways_on, ways_by, destruction_ways}

-- ---- two lists with the same places

abbrev pub AreOf : {A B : Type 0} → (A → B → Type 0) → List A → List B → Type 0
AreOf P [] [] = Unit {0}
AreOf P (x ∷ xs) (y ∷ ys) = P x y × AreOf P xs ys
AreOf P xs ys = ⊥

are_append : {A B : Type 0} (P : A → B → Type 0) (xs us : List A) (ys vs : List B) → AreOf P xs ys → AreOf P us vs → AreOf P (xs ++ us) (ys ++ vs)
are_append P [] us [] vs h k = k
are_append P [] us (y ∷ ys) vs h k = absurd h
are_append P (x ∷ xs) us [] vs h k = absurd h
are_append P (x ∷ xs) us (y ∷ ys) vs h k = (h.0, are_append P xs us ys vs h.1 k)

pub at_same_place : {A B : Type 0} (P : A → B → Type 0) (xs : List A) (ys : List B) → AreOf P xs ys → (k : ℕ) (x : A) → AtPlace xs k x
    → (y : B) × AtPlace ys k y × P x y
at_same_place P [] ys h k x a = absurd a
at_same_place P (z ∷ xs) [] h k x a = absurd h
at_same_place P (z ∷ xs) (y ∷ ys) h zero x a = (y, refl, subst (λ w. P w y) a h.0)
at_same_place P (z ∷ xs) (y ∷ ys) h (suc k) x a = at_same_place P xs ys h.1 k x a

-- ---- ways

-- a way down to a place on it
way_upto : (t : Term Variable) (above : List Fork) (f : Fork) (under : List Fork) (r : Term Variable) → IsWay t (above ++ f ∷ under) r
    → IsWay t (above ++ f ∷ []) f.entered
way_upto t [] f under r w = (w.0, refl)
way_upto t (a ∷ above) f under r w = (w.0, way_upto a.entered above f under r w.1)

count_joined : (ts us : Terms Variable) → count (joined ts us) ≡ count ts + count us
count_joined none us = nothing_more (count us)
  where
    nothing_more : (n : ℕ) → n ≡ 0 + n
    nothing_more n = omega arith
count_joined (more t ts) us = one_more (count (joined ts us)) (count ts) (count us) (count_joined ts us)
  where
    one_more : (n a b : ℕ) → n ≡ a + b → suc n ≡ suc a + b
    one_more n a b e = omega (arith, e)

-- these levels are the way of the destruction
pub record IsWayOf (signature : Signature) (d : Destruction) (levels : List Level) : Type 0 where
  pub forks : List Fork
  pub levels_are : levels ≡ map level_of forks
  pub equation : Equation
  pub is_equation : Member equation signature.equations
  pub way : IsWay equation.left forks d.pattern
  pub publics : ArePublic signature.symbols forks
  pub sides_are : d.sides ≡ sides forks
  pub result_is : d.result ≡ equation.right
  pub part : IsPart equation.right equation.left

module _ (signature : Signature) where
  module _ (e : Equation) (is : Member e signature.equations) (part : IsPart e.right e.left) where
    abbrev first_below : Terms Variable → Fork → Destruction
    first_below ss f = record { pattern = f.entered; sides = joined ss (joined f.front f.back); result = e.right }

    one_way : (above : List Fork) (f : Fork) (under : List Fork) → ArePublic signature.symbols above → IsPublicFork signature.symbols f
        → IsWay e.left (above ++ f ∷ under) e.right → IsWayOf signature (first_below (sides above) f) (map level_of above ++ level_of f ∷ [])
    one_way above f under publics public way = record {
      forks = above ++ f ∷ [];
      levels_are = sym (map_append level_of above (f ∷ []));
      equation = e;
      is_equation = is;
      way = way_upto e.left above f under e.right way;
      publics = every_append (IsPublicFork signature.symbols) above (f ∷ []) publics (public, tt);
      sides_are = sym (sides_end above f);
      result_is = refl;
      part = part;
    }

    -- where the symbol is public there is a destruction and its way
    by_test : (b c : Bool) → b ≡ c → (d : Destruction) (levels : List Level) (ds : List Destruction) (ways : List (List Level))
        → (b ≡ true → IsWayOf signature d levels × AreOf (IsWayOf signature) ds ways)
        → AreOf (IsWayOf signature) (if b then d ∷ ds else []) (if c then levels ∷ ways else [])
    by_test true true e d levels ds ways h = h refl
    by_test false false e d levels ds ways h = tt
    by_test true false e d levels ds ways h = absurd cc
    by_test false true e d levels ds ways h = absurd cc

    -- farther down, with one more fork above
    below : (f g : Fork) (forks above : List Fork)
        → AreOf (IsWayOf signature) (along signature.symbols e.right (sides (above ++ f ∷ [])) (g ∷ forks))
        (ways_along signature.symbols (map level_of (above ++ f ∷ [])) (map level_of (g ∷ forks)))
        → AreOf (IsWayOf signature) (along signature.symbols e.right (joined (sides above) (joined f.front f.back)) (g ∷ forks))
        (ways_along signature.symbols (map level_of above ++ level_of f ∷ []) (map level_of (g ∷ forks)))
    below f g forks above h =
        subst
        (λ (ss : Terms Variable).
        AreOf (IsWayOf signature) (along signature.symbols e.right ss (g ∷ forks))
        (ways_along signature.symbols (map level_of above ++ level_of f ∷ []) (map level_of (g ∷ forks))))
        (sides_end above f)
        (subst
        (λ (levels : List Level).
        AreOf (IsWayOf signature) (along signature.symbols e.right (sides (above ++ f ∷ [])) (g ∷ forks))
        (ways_along signature.symbols levels (map level_of (g ∷ forks))))
        (map_append level_of above (f ∷ [])) h)

    along_ways : (forks above : List Fork) → ArePublic signature.symbols above → IsWay e.left (above ++ forks) e.right
        → AreOf (IsWayOf signature) (along signature.symbols e.right (sides above) forks)
        (ways_along signature.symbols (map level_of above) (map level_of forks))
    along_ways [] above publics way = tt
    along_ways (f ∷ []) above publics way = tt
    along_ways (f ∷ g ∷ forks) above publics way =
        by_test (is_public signature.symbols f.symbol (count (args_with f f.entered)))
        (is_public signature.symbols f.symbol (count f.front + suc (count f.back)))
        (ap (is_public signature.symbols f.symbol) (count_joined f.front (more f.entered f.back)))
        (first_below (sides above) f) (map level_of above ++ level_of f ∷ [])
        (along signature.symbols e.right (joined (sides above) (joined f.front f.back)) (g ∷ forks))
        (ways_along signature.symbols (map level_of above ++ level_of f ∷ []) (map level_of (g ∷ forks)))
        (λ t.
        let public = is_public_tells signature.symbols f.symbol (count (args_with f f.entered)) t in (
          one_way above f (g ∷ forks) publics public way,
          below f g forks above
              (along_ways (g ∷ forks) (above ++ f ∷ []) (every_append (IsPublicFork signature.symbols) above (f ∷ []) publics (public, tt))
              (subst (λ (fs : List Fork). IsWay e.left fs e.right) (sym (append_assoc above (f ∷ []) (g ∷ forks))) way)),
        ))

  of_equation : (e : Equation) → Member e signature.equations
      → AreOf (IsWayOf signature) (along_way signature.symbols e.right (way_to e.right e.left)) (ways_on signature.symbols (way_to e.right e.left))
  of_equation e is = by_way (way_to e.right e.left) refl
    where
      by_way : (o : Option (List Fork)) → way_to e.right e.left ≡ o
          → AreOf (IsWayOf signature) (along_way signature.symbols e.right o) (ways_on signature.symbols o)
      by_way None w = tt
      by_way (Some forks) w =
          let way = way_leads e.right e.left forks w in
          along_ways e is (way_part e.right e.left forks way) forks [] tt way

  of_equations : (es : List Equation) → ((e : Equation) → Member e es → Member e signature.equations)
      → AreOf (IsWayOf signature) (destructions_by signature.symbols es) (ways_by signature.symbols es)
  of_equations [] all = tt
  of_equations (e ∷ es) all =
      are_append (IsWayOf signature) (along_way signature.symbols e.right (way_to e.right e.left)) (destructions_by signature.symbols es)
      (ways_on signature.symbols (way_to e.right e.left)) (ways_by signature.symbols es)
      (of_equation e (all e (inl refl))) (of_equations es (λ c m. all c (inr m)))

  pub destruction_way : (k : ℕ) (d : Destruction) → AtPlace (destructions signature) k d
      → (levels : List Level) × AtPlace (destruction_ways signature) k levels × IsWayOf signature d levels
  destruction_way k d at =
      at_same_place (IsWayOf signature) (destructions signature) (destruction_ways signature) (of_equations signature.equations (λ e m. m)) k d at
