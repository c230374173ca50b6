-- Which destructions are listed: one for each place on the way with public symbols alone above it, and with the arguments beside the way.
use Rattle.std.proofs.Common.{◌≡◌, ◌↔◌, inl, inr, ℕ, zero, suc, length, List, [], ◌∷◌, ◌++◌, Option, Some, None, Bool, true, false, refl, sym, ap, ap₂, arith, ◌∙◌, subst, ◌&&◌, ◌||◌, ◌==◌, not, if◌then◌else◌}
use Rattle.std.proofs.lemmas.Bool.{and_parts, and_from, or_left, or_right, not-true, eqb-true, eq-eqb}
use Rattle.std.proofs.lemmas.Slice.Eq.{bytes_eq-Decides}
use Rattle.std.specs.Str.{bytes_eq}
use Rattle.std.proofs.Math.Nat.{suc_inj}
use Rattle.sp_spec.specs.Lists.{Member, Every, AtPlace}
use Rattle.sp_spec.specs.Term.{Variable, Term, Terms, none, joined, count}
use Rattle.sp_spec.specs.Signature.{Symbol, Equation, Signature, HasPublic}
use Rattle.sp_spec.specs.Destruction.{Destruction, Fork, way_to, is_public, along, along_way, destructions_by, destructions}
use Rattle.sp_spec.proofs.Lists.{member_left, member_right, every_append, every_member, place_member}
use Rattle.sp_law_log.specs.Ways.{args_with, sides, IsPublicFork, ArePublic, destruction_below, IsOfPlace}
use Rattle.sp_law_log.specs.Laws.{IsPlace}
use Rattle.sp_law_equal.specs.Parts.{IsPart}
use Rattle.sp_law_log.proofs.Ways.{joined_again, joined_none, way_leads, way_below, way_part}
use Rattle.sp_law_log.proofs.Places.{each_placed}

abbrev symbol_test : List ℕ → ℕ → Symbol → Bool
symbol_test f n s = bytes_eq s.name f && (s.arity == n) && not s.private

symbol_fields : (s : Symbol) (f : List ℕ) (n : ℕ) → s.name ≡ f → s.arity ≡ n → s.private ≡ false → s ≡ record { name = f; arity = n; private = false }
symbol_fields s f n a b c =
    let made : List ℕ → ℕ → Bool → Symbol = λ g m p. record { name = g; arity = m; private = p } in
    ap (λ g. made g s.arity s.private) a ∙ ap (λ m. made f m s.private) b ∙ ap (made f n) c

-- the test tells the public symbols
pub is_public_tells : (symbols : List Symbol) (f : List ℕ) (n : ℕ) → is_public symbols f n ≡ true → HasPublic symbols f n
is_public_tells [] f n e = absurd cc
is_public_tells (s ∷ symbols) f n e = at (symbol_test f n s) refl (λ k. is_public_tells symbols f n k) e
  where
    at : (b : Bool) → symbol_test f n s ≡ b → (is_public symbols f n ≡ true → HasPublic symbols f n) → b || is_public symbols f n ≡ true → HasPublic (s ∷ symbols) f n
    at true h later k =
        let one = and_parts (bytes_eq s.name f && (s.arity == n)) (not s.private) h in
        let two = and_parts (bytes_eq s.name f) (s.arity == n) one.0 in
        inl (symbol_fields s f n ((bytes_eq-Decides s.name f).0 two.0) (eqb-true s.arity n two.1) (not-true s.private one.1))
    at false h later k = inr (later k)

pub is_public_from : (symbols : List Symbol) (f : List ℕ) (n : ℕ) → HasPublic symbols f n → is_public symbols f n ≡ true
is_public_from [] f n m = absurd m
is_public_from (s ∷ symbols) f n (inl e) =
    let itself : symbol_test f n (record { name = f; arity = n; private = false }) ≡ true =
    and_from (bytes_eq f f && (n == n)) true (and_from (bytes_eq f f) (n == n) ((bytes_eq-Decides f f).1 refl) (eq-eqb n n refl)) refl in
    or_left (symbol_test f n s) (is_public symbols f n) (subst (λ (z : Symbol). symbol_test f n z ≡ true) (sym e) itself)
is_public_from (s ∷ symbols) f n (inr m) = or_right (symbol_test f n s) (is_public symbols f n) (is_public_from symbols f n m)

-- the destruction below a fork, with side messages from farther up
abbrev beside : Term Variable → Terms Variable → List Fork → Fork → Destruction
beside r above_sides above f = record { pattern = f.entered; sides = joined above_sides (sides (above ++ f ∷ [])); result = r }

abbrev first_beside : Term Variable → Terms Variable → Fork → Destruction
first_beside r above_sides f = record { pattern = f.entered; sides = joined above_sides (joined f.front f.back); result = r }

abbrev so_far : Terms Variable → Fork → Terms Variable
so_far above_sides f = joined above_sides (joined f.front f.back)

module _ (symbols : List Symbol) (r : Term Variable) where
  -- below a public fork stands the destruction of the place below it, and then those of the places farther down
  along_public : (ss : Terms Variable) (f g : Fork) (forks : List Fork) → IsPublicFork symbols f
      → along symbols r ss (f ∷ g ∷ forks) ≡ first_beside r ss f ∷ along symbols r (so_far ss f) (g ∷ forks)
  along_public ss f g forks public =
      ap (λ (b : Bool). if b then first_beside r ss f ∷ along symbols r (so_far ss f) (g ∷ forks) else []) (is_public_from symbols f.symbol (count (args_with f f.entered)) public)

  first_is : (ss : Terms Variable) (f : Fork) → first_beside r ss f ≡ beside r ss [] f
  first_is ss f = ap (λ (ts : Terms Variable). let d : Destruction = record { pattern = f.entered; sides = joined ss ts; result = r } in d) (sym (joined_none (joined f.front f.back)))

  later_is : (ss : Terms Variable) (a : Fork) (above : List Fork) (f : Fork) → beside r (so_far ss a) above f ≡ beside r ss (a ∷ above) f
  later_is ss a above f =
      ap (λ (ts : Terms Variable). let d : Destruction = record { pattern = f.entered; sides = ts; result = r } in d) (joined_again ss (joined a.front a.back) (sides (above ++ f ∷ [])))

  -- farther down below a public fork
  lower : (ss : Terms Variable) (a b : Fork) (forks : List Fork) (k : ℕ) (d x y : Destruction) → IsPublicFork symbols a → x ≡ y
      → AtPlace (along symbols r (so_far ss a) (b ∷ forks)) k d ↔ (x ≡ d) → AtPlace (along symbols r ss (a ∷ b ∷ forks)) (suc k) d ↔ (y ≡ d)
  lower ss a b forks k d x y public e h = (
    λ t. sym e ∙ h.0 (subst (λ (xs : List Destruction). AtPlace xs (suc k) d) (along_public ss a b forks public) t),
    λ i. subst (λ (xs : List Destruction). AtPlace xs (suc k) d) (sym (along_public ss a b forks public)) (h.1 (e ∙ i)),
  )

  -- what stands in the list at the place with so many forks above it
  along_listed : (above : List Fork) (f g : Fork) (under : List Fork) (ss : Terms Variable) → ArePublic symbols above → IsPublicFork symbols f → (d : Destruction)
      → AtPlace (along symbols r ss (above ++ f ∷ g ∷ under)) (length above) d ↔ (beside r ss above f ≡ d)
  along_listed [] f g under ss publics public d = (
    λ t. sym (first_is ss f) ∙ subst (λ (xs : List Destruction). AtPlace xs zero d) (along_public ss f g under public) t,
    λ i. subst (λ (xs : List Destruction). AtPlace xs zero d) (sym (along_public ss f g under public)) (first_is ss f ∙ i),
  )
  along_listed (a ∷ []) f g under ss publics public d =
      lower ss a f (g ∷ under) zero d (beside r (so_far ss a) [] f) (beside r ss (a ∷ []) f) publics.0 (later_is ss a [] f) (along_listed [] f g under (so_far ss a) tt public d)
  along_listed (a ∷ b ∷ above) f g under ss publics public d =
      lower ss a b (above ++ f ∷ g ∷ under) (suc (length above)) d (beside r (so_far ss a) (b ∷ above) f) (beside r ss (a ∷ b ∷ above) f) publics.0 (later_is ss a (b ∷ above) f)
      (along_listed (b ∷ above) f g under (so_far ss a) publics.1 public d)

  -- the place among the forks that stands at a place of the list
  record Place (ss : Terms Variable) (forks : List Fork) (k : ℕ) (d : Destruction) : Type 0 where
    above : List Fork
    fork : Fork
    next : Fork
    under : List Fork
    forks_are : forks ≡ above ++ fork ∷ next ∷ under
    publics : ArePublic symbols above
    public : IsPublicFork symbols fork
    place : length above ≡ k
    is : beside r ss above fork ≡ d

  at_test : (ss : Terms Variable) (f g : Fork) (forks : List Fork) (d : Destruction) (b : Bool) → is_public symbols f.symbol (count (args_with f f.entered)) ≡ b
      → ((k : ℕ) → AtPlace (along symbols r (so_far ss f) (g ∷ forks)) k d → Place (so_far ss f) (g ∷ forks) k d)
      → (k : ℕ) → AtPlace (if b then first_beside r ss f ∷ along symbols r (so_far ss f) (g ∷ forks) else []) k d → Place ss (f ∷ g ∷ forks) k d
  at_test ss f g forks d true e later zero a = record {
    above = [];
    fork = f;
    next = g;
    under = forks;
    forks_are = refl;
    publics = tt;
    public = is_public_tells symbols f.symbol (count (args_with f f.entered)) e;
    place = refl;
    is = sym (first_is ss f) ∙ a;
  }
  at_test ss f g forks d true e later (suc k) a =
      let p = later k a in
      record {
        above = f ∷ p.above;
        fork = p.fork;
        next = p.next;
        under = p.under;
        forks_are = ap (λ (xs : List Fork). f ∷ xs) p.forks_are;
        publics = (is_public_tells symbols f.symbol (count (args_with f f.entered)) e, p.publics);
        public = p.public;
        place = ap suc p.place;
        is = sym (later_is ss f p.above p.fork) ∙ p.is;
      }
  at_test ss f g forks d false e later k a = absurd a

  along_place : (forks : List Fork) (ss : Terms Variable) (d : Destruction) (k : ℕ) → AtPlace (along symbols r ss forks) k d → Place ss forks k d
  along_place [] ss d k a = absurd a
  along_place (f ∷ []) ss d k a = absurd a
  along_place (f ∷ g ∷ forks) ss d k a = at_test ss f g forks d _ refl (λ j b. along_place (g ∷ forks) (so_far ss f) d j b) k a

abbrev listed_by : List Symbol → Equation → List Destruction
listed_by symbols e = along_way symbols e.right (way_to e.right e.left)

pub places_listed : (symbols : List Symbol) (e : Equation) (above : List Fork) (f : Fork) → IsPlace symbols e above f
    → (d : Destruction) → AtPlace (listed_by symbols e) (length above) d ↔ (d ≡ destruction_below e above f)
places_listed symbols e above f p d =
    let h = along_listed symbols e.right above f p.next p.under none p.publics p.public d in (
      λ a. sym (h.0 (subst (λ (o : Option (List Fork)). AtPlace (along_way symbols e.right o) (length above) d) p.way a)),
      λ i. subst (λ (o : Option (List Fork)). AtPlace (along_way symbols e.right o) (length above) d) (sym p.way) (h.1 (sym i)),
    )

pub listed_place : (symbols : List Symbol) (e : Equation) (k : ℕ) (d : Destruction) → AtPlace (listed_by symbols e) k d
    → (above : List Fork) × (f : Fork) × IsPlace symbols e above f × (length above ≡ k) × (d ≡ destruction_below e above f)
listed_place symbols e k d a = at (way_to e.right e.left) refl a
  where
    at : (o : Option (List Fork)) → way_to e.right e.left ≡ o → AtPlace (along_way symbols e.right o) k d
        → (above : List Fork) × (f : Fork) × IsPlace symbols e above f × (length above ≡ k) × (d ≡ destruction_below e above f)
    at None w b = absurd b
    at (Some forks) w b =
        let p = along_place symbols e.right forks none d k b in (
          p.above,
          p.fork,
          record { next = p.next; under = p.under; way = w ∙ ap (λ (fs : List Fork). Some fs) p.forks_are; publics = p.publics; public = p.public },
          p.place,
          sym p.is,
        )

-- lists that are the same are so up to each place
same_so_far : {A : Type 0} (xs ys us vs : List A) (x y : A) → xs ++ x ∷ us ≡ ys ++ y ∷ vs → length xs ≡ length ys → (xs ≡ ys) × (x ≡ y)
same_so_far [] [] us vs x y e l = (refl, cc)
same_so_far [] (b ∷ ys) us vs x y e l = absurd (omega (arith, l))
same_so_far (a ∷ xs) [] us vs x y e l = absurd (omega (arith, l))
same_so_far (a ∷ xs) (b ∷ ys) us vs x y e l =
    let first : a ≡ b = cc in
    let rest : xs ++ x ∷ us ≡ ys ++ y ∷ vs = cc in
    let later = same_so_far xs ys us vs x y rest (suc_inj l) in
    (ap₂ (λ z zs. z ∷ zs) first later.0, later.1)

pub one_place : (symbols : List Symbol) (e : Equation) (above others : List Fork) (f g : Fork) → IsPlace symbols e above f → IsPlace symbols e others g → length above ≡ length others
    → (above ≡ others) × (f ≡ g)
one_place symbols e above others f g p q l =
    let same : Some (above ++ f ∷ p.next ∷ p.under) ≡ Some (others ++ g ∷ q.next ∷ q.under) = sym p.way ∙ q.way in
    let forks : above ++ f ∷ p.next ∷ p.under ≡ others ++ g ∷ q.next ∷ q.under = cc in
    same_so_far above others (p.next ∷ p.under) (q.next ∷ q.under) f g forks l

-- the destructions of an equation are among those of all
among : (symbols : List Symbol) (e : Equation) (d : Destruction) → Member d (listed_by symbols e) → (es : List Equation) → Member e es → Member d (destructions_by symbols es)
among symbols e d m [] k = absurd k
among symbols e d m (c ∷ es) (inl is) = member_left d (listed_by symbols c) (destructions_by symbols es) (subst (λ (x : Equation). Member d (listed_by symbols x)) (sym is) m)
among symbols e d m (c ∷ es) (inr k) = member_right d (listed_by symbols c) (destructions_by symbols es) (among symbols e d m es k)

pub place_among : (signature : Signature) (e : Equation) → Member e signature.equations → (above : List Fork) (f : Fork) → IsPlace signature.symbols e above f
    → Member (destruction_below e above f) (destructions signature)
place_among signature e m above f p =
    let there = (places_listed signature.symbols e above f p (destruction_below e above f)).1 refl in
    among signature.symbols e (destruction_below e above f) (place_member (listed_by signature.symbols e) (length above) (destruction_below e above f) there) signature.equations m

module _ (signature : Signature) where
  of_equation : (e : Equation) → Member e signature.equations → Every (IsOfPlace signature) (listed_by signature.symbols e)
  of_equation e m =
      each_placed (IsOfPlace signature) (listed_by signature.symbols e)
      (λ k d a.
      let p = listed_place signature.symbols e k d a in
      let at = p.2 in
      record {
        equation = e;
        is_equation = m;
        above = p.0;
        fork = p.1;
        next = at.next;
        under = at.under;
        way = way_leads e.right e.left (p.0 ++ p.1 ∷ at.next ∷ at.under) at.way;
        publics = at.publics;
        public = at.public;
        is = p.4;
      })

  of_equations : (es : List Equation) → ((e : Equation) → Member e es → Member e signature.equations) → Every (IsOfPlace signature) (destructions_by signature.symbols es)
  of_equations [] all = tt
  of_equations (e ∷ es) all =
      every_append (IsOfPlace signature) (listed_by signature.symbols e) (destructions_by signature.symbols es) (of_equation e (all e (inl refl))) (of_equations es (λ c n. all c (inr n)))

  pub destruction_place : (d : Destruction) → Member d (destructions signature) → IsOfPlace signature d
  destruction_place d m = every_member (IsOfPlace signature) (destructions signature) d m (of_equations signature.equations (λ e n. n))

  -- what a destruction gives stands in what it takes
  pub gives_part : (d : Destruction) → Member d (destructions signature) → IsPart d.result d.pattern
  gives_part d m =
      let p = destruction_place d m in
      let r = p.equation.right in
      subst (λ (x : Destruction). IsPart x.result x.pattern) (sym p.is)
      (way_part r p.fork.entered (p.next ∷ p.under) (way_below p.equation.left p.above p.fork (p.next ∷ p.under) r p.way))
