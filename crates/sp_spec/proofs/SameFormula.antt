-- The test of formulas tells whether they are equal.
use Rattle.std.proofs.Common.{◌≡◌, ℕ, Bool, true, ◌&&◌, List, [], ◌∷◌, refl, ap, ap₂, subst}
use Rattle.std.specs.Bool.{Decides}
use Rattle.std.specs.Str.{bytes_eq}
use Rattle.std.proofs.lemmas.Bool.{and_parts, and_from, eqb-true, eq-eqb}
use Rattle.std.proofs.lemmas.Slice.Eq.{bytes_eq-Decides}
use Rattle.sp_spec.specs.Term.{Sort, Msg, Fresh, Pub, Term, Terms}
use Rattle.sp_spec.specs.Rule.{Action}
use Rattle.sp_spec.specs.Guarded.{Place, free, bound, Time, free_time, bound_time, Binder, message, time, Atom, acts, same, same_time, before, last}
use Rattle.sp_spec.specs.Guarded.{Guarded, truth, falsity, holds, fails, all_of, one_of, some, every, Guardeds, no_more, and_then}
use Rattle.sp_spec.specs.Same.{same_sort, same_by, same_all_by}
use Rattle.sp_spec.specs.SameFormula.{same_place, same_moment, same_binder, same_binders, same_atom, same_atoms, same_formula, same_formulas}
use Rattle.sp_spec.proofs.Same.{same_sort_tells, same_sort_itself, same_variable_decides, same_by_decides, same_all_by_decides}

-- ---- what is the same is equal

place_tells : (x y : Place) → same_place x y ≡ true → x ≡ y
place_tells (free x) (free y) e = ap free ((same_variable_decides x y).0 e)
place_tells (bound k) (bound j) e = ap bound (eqb-true k j e)
place_tells (free x) (bound j) e = absurd cc
place_tells (bound k) (free y) e = absurd cc

place_itself : (x : Place) → same_place x x ≡ true
place_itself (free x) = (same_variable_decides x x).1 refl
place_itself (bound k) = eq-eqb k k refl

pub same_place_decides : (x y : Place) → Decides (same_place x y) (x ≡ y)
same_place_decides x y = (place_tells x y, λ e. subst (λ (z : Place). same_place x z ≡ true) e (place_itself x))

term_tells : (t u : Term Place) → same_by same_place t u ≡ true → t ≡ u
term_tells t u e = (same_by_decides same_place same_place_decides t u).0 e

terms_tell : (ts us : Terms Place) → same_all_by same_place ts us ≡ true → ts ≡ us
terms_tell ts us e = (same_all_by_decides same_place same_place_decides ts us).0 e

moment_tells : (i j : Time) → same_moment i j ≡ true → i ≡ j
moment_tells (free_time i) (free_time j) e = ap free_time (eqb-true i j e)
moment_tells (bound_time k) (bound_time l) e = ap bound_time (eqb-true k l e)
moment_tells i j e = absurd cc

binder_tells : (b c : Binder) → same_binder b c ≡ true → b ≡ c
binder_tells (message s) (message u) e = ap message (same_sort_tells s u e)
binder_tells time time e = refl
binder_tells b c e = absurd cc

binders_tell : (bs cs : List Binder) → same_binders bs cs ≡ true → bs ≡ cs
binders_tell [] [] e = refl
binders_tell (b ∷ bs) (c ∷ cs) e = let both = and_parts (same_binder b c) (same_binders bs cs) e in ap₂ (λ x xs. x ∷ xs) (binder_tells b c both.0) (binders_tell bs cs both.1)
binders_tell bs cs e = absurd cc

action_tells : (a b : Action Place) → (bytes_eq a.symbol b.symbol && same_all_by same_place a.args b.args) ≡ true → a ≡ b
action_tells a b e =
    let both = and_parts (bytes_eq a.symbol b.symbol) (same_all_by same_place a.args b.args) e in
    let made : List ℕ → Terms Place → Action Place = λ s ts. record { symbol = s; args = ts } in
    ap₂ made ((bytes_eq-Decides a.symbol b.symbol).0 both.0) (terms_tell a.args b.args both.1)

two_moments : (f : Time → Time → Atom) (i j k l : Time) → (same_moment i k && same_moment j l) ≡ true → f i j ≡ f k l
two_moments f i j k l e = let both = and_parts (same_moment i k) (same_moment j l) e in ap₂ f (moment_tells i k both.0) (moment_tells j l both.1)

atom_tells : (a b : Atom) → same_atom a b ≡ true → a ≡ b
atom_tells (acts a i) (acts b j) e =
    let both = and_parts (bytes_eq a.symbol b.symbol && same_all_by same_place a.args b.args) (same_moment i j) e in
    ap₂ acts (action_tells a b both.0) (moment_tells i j both.1)
atom_tells (same t u) (same v w) e =
    let both = and_parts (same_by same_place t v) (same_by same_place u w) e in ap₂ same (term_tells t v both.0) (term_tells u w both.1)
atom_tells (same_time i j) (same_time k l) e = two_moments same_time i j k l e
atom_tells (before i j) (before k l) e = two_moments before i j k l e
atom_tells (last i) (last k) e = ap last (moment_tells i k e)
atom_tells a b e = absurd cc

atoms_tell : (xs ys : List Atom) → same_atoms xs ys ≡ true → xs ≡ ys
atoms_tell [] [] e = refl
atoms_tell (x ∷ xs) (y ∷ ys) e = let both = and_parts (same_atom x y) (same_atoms xs ys) e in ap₂ (λ z zs. z ∷ zs) (atom_tells x y both.0) (atoms_tell xs ys both.1)
atoms_tell xs ys e = absurd cc

-- the parts of quantified formulas
parts : (bs cs : List Binder) (guard other : List Atom) (b : Bool) → (same_binders bs cs && same_atoms guard other && b) ≡ true → (bs ≡ cs) × (guard ≡ other) × (b ≡ true)
parts bs cs guard other b e =
    let outer = and_parts (same_binders bs cs && same_atoms guard other) b e in
    let inner = and_parts (same_binders bs cs) (same_atoms guard other) outer.0 in
    (binders_tell bs cs inner.0, atoms_tell guard other inner.1, outer.1)

quantified : (q : List Binder → List Atom → Guarded → Guarded) {bs cs : List Binder} {guard other : List Atom} {f g : Guarded} → bs ≡ cs → guard ≡ other → f ≡ g
    → q bs guard f ≡ q cs other g
quantified q binders guards bodies = ap₂ (λ (r : Guarded → Guarded) (x : Guarded). r x) (ap₂ q binders guards) bodies

mutual
  pub same_formula_tells : (f g : Guarded) → same_formula f g ≡ true → f ≡ g
  same_formula_tells truth truth e = refl
  same_formula_tells falsity falsity e = refl
  same_formula_tells (holds a) (holds b) e = ap holds (atom_tells a b e)
  same_formula_tells (fails a) (fails b) e = ap fails (atom_tells a b e)
  same_formula_tells (all_of fs) (all_of gs) e = ap all_of (formulas_tell fs gs e)
  same_formula_tells (one_of fs) (one_of gs) e = ap one_of (formulas_tell fs gs e)
  same_formula_tells (some bs guard f) (some cs other g) e =
      let all = parts bs cs guard other (same_formula f g) e in quantified (λ ds atoms x. some ds atoms x) all.0 all.1 (same_formula_tells f g all.2)
  same_formula_tells (every bs guard f) (every cs other g) e =
      let all = parts bs cs guard other (same_formula f g) e in quantified (λ ds atoms x. every ds atoms x) all.0 all.1 (same_formula_tells f g all.2)
  same_formula_tells f g e = absurd cc

  formulas_tell : (fs gs : Guardeds) → same_formulas fs gs ≡ true → fs ≡ gs
  formulas_tell no_more no_more e = refl
  formulas_tell (and_then f fs) (and_then g gs) e =
      let both = and_parts (same_formula f g) (same_formulas fs gs) e in ap₂ and_then (same_formula_tells f g both.0) (formulas_tell fs gs both.1)
  formulas_tell fs gs e = absurd cc

-- ---- what is equal is the same

moment_itself : (i : Time) → same_moment i i ≡ true
moment_itself (free_time i) = eq-eqb i i refl
moment_itself (bound_time k) = eq-eqb k k refl

binder_itself : (b : Binder) → same_binder b b ≡ true
binder_itself (message s) = same_sort_itself s
binder_itself time = refl

binders_themselves : (bs : List Binder) → same_binders bs bs ≡ true
binders_themselves [] = refl
binders_themselves (b ∷ bs) = and_from (same_binder b b) (same_binders bs bs) (binder_itself b) (binders_themselves bs)

term_itself : (t : Term Place) → same_by same_place t t ≡ true
term_itself t = (same_by_decides same_place same_place_decides t t).1 refl

two_themselves : (i j : Time) → (same_moment i i && same_moment j j) ≡ true
two_themselves i j = and_from (same_moment i i) (same_moment j j) (moment_itself i) (moment_itself j)

atom_itself : (a : Atom) → same_atom a a ≡ true
atom_itself (acts a i) =
    let terms = (same_all_by_decides same_place same_place_decides a.args a.args).1 refl in
    and_from (bytes_eq a.symbol a.symbol && same_all_by same_place a.args a.args) (same_moment i i)
    (and_from (bytes_eq a.symbol a.symbol) (same_all_by same_place a.args a.args) ((bytes_eq-Decides a.symbol a.symbol).1 refl) terms) (moment_itself i)
atom_itself (same t u) = and_from (same_by same_place t t) (same_by same_place u u) (term_itself t) (term_itself u)
atom_itself (same_time i j) = two_themselves i j
atom_itself (before i j) = two_themselves i j
atom_itself (last i) = moment_itself i

atoms_themselves : (xs : List Atom) → same_atoms xs xs ≡ true
atoms_themselves [] = refl
atoms_themselves (x ∷ xs) = and_from (same_atom x x) (same_atoms xs xs) (atom_itself x) (atoms_themselves xs)

parts_themselves : (bs : List Binder) (guard : List Atom) (b : Bool) → b ≡ true → (same_binders bs bs && same_atoms guard guard && b) ≡ true
parts_themselves bs guard b e =
    and_from (same_binders bs bs && same_atoms guard guard) b (and_from (same_binders bs bs) (same_atoms guard guard) (binders_themselves bs) (atoms_themselves guard)) e

mutual
  formula_itself : (f : Guarded) → same_formula f f ≡ true
  formula_itself truth = refl
  formula_itself falsity = refl
  formula_itself (holds a) = atom_itself a
  formula_itself (fails a) = atom_itself a
  formula_itself (all_of fs) = formulas_themselves fs
  formula_itself (one_of fs) = formulas_themselves fs
  formula_itself (some bs guard f) = parts_themselves bs guard (same_formula f f) (formula_itself f)
  formula_itself (every bs guard f) = parts_themselves bs guard (same_formula f f) (formula_itself f)

  formulas_themselves : (fs : Guardeds) → same_formulas fs fs ≡ true
  formulas_themselves no_more = refl
  formulas_themselves (and_then f fs) = and_from (same_formula f f) (same_formulas fs fs) (formula_itself f) (formulas_themselves fs)

pub same_formulas_decides : (fs gs : Guardeds) → Decides (same_formulas fs gs) (fs ≡ gs)
same_formulas_decides fs gs = (formulas_tell fs gs, λ e. subst (λ (x : Guardeds). same_formulas fs x ≡ true) e (formulas_themselves fs))
