-- What a match is made of, and what is matched.
use Rattle.std.proofs.Common.{◌≡◌, ℕ, List, Bool, true, if◌then◌else◌, Option, Some, None, option_and_then, refl, sym, ap, ◌∙◌, subst, bytes_eq, nat_eq}
use Rattle.std.proofs.lemmas.Bool.{eqb-true, eq-eqb}
use Rattle.std.proofs.lemmas.Slice.Eq.{bytes_eq-Decides}
use Rattle.sp_spec.specs.Term.{Term, var, constant, name, app, Terms, none, more, valued, valued_all}
use Rattle.sp_spec.specs.Matching.{matched_by, matched_all_by}
use Rattle.sp_spec.proofs.Options.{some_same, if_some, then_if, then_some}

-- What goes from the variables to the terms holds of each pattern, of what it is matched with, and of the states before and after.
pub record Matches {V W S : Type 0} (bind : V → Term W → S → Option S) (R : Term V → Term W → S → S → Type 0) (Rs : Terms V → Terms W → S → S → Type 0) : Type 0 where
  pub leaf : (x : V) (t : Term W) (s r : S) → bind x t s ≡ Some r → R (var x) t s r
  pub constants : (c : List ℕ) (s : S) → R (constant c) (constant c) s s
  pub names : (n : ℕ) (s : S) → R (name n) (name n) s s
  pub under : (f : List ℕ) (ps : Terms V) (ts : Terms W) (s r : S) → Rs ps ts s r → R (app f ps) (app f ts) s r
  pub end : (s : S) → Rs none none s s
  pub beside : (p : Term V) (t : Term W) (ps : Terms V) (ts : Terms W) (s q r : S) → R p t s q → Rs ps ts q r → Rs (more p ps) (more t ts) s r

module _ {V W S : Type 0} (bind : V → Term W → S → Option S) (R : Term V → Term W → S → S → Type 0) (Rs : Terms V → Terms W → S → S → Type 0) (matches : Matches bind R Rs) where
  mutual
    pub matched_so : (p : Term V) (t : Term W) (s r : S) → matched_by bind p t s ≡ Some r → R p t s r
    matched_so (var x) t s r e = matches.leaf x t s r e
    matched_so (constant c) (constant d) s r e =
        let h = if_some (bytes_eq c d) (Some s) r e in
        subst (R (constant c) (constant d) s) (sym (some_same s r h.1))
        (subst (λ (x : List ℕ). R (constant c) (constant x) s s) ((bytes_eq-Decides c d).0 h.0) (matches.constants c s))
    matched_so (name m) (name n) s r e =
        let h = if_some (nat_eq m n) (Some s) r e in
        subst (R (name m) (name n) s) (sym (some_same s r h.1)) (subst (λ (x : ℕ). R (name m) (name x) s s) (eqb-true m n h.0) (matches.names m s))
    matched_so (app f ps) (app g ts) s r e =
        let h = if_some (bytes_eq f g) (matched_all_by bind ps ts s) r e in
        subst (λ (x : List ℕ). R (app f ps) (app x ts) s r) ((bytes_eq-Decides f g).0 h.0) (matches.under f ps ts s r (matched_all_so ps ts s r h.1))
    matched_so (constant c) (var y) s r e = absurd cc
    matched_so (constant c) (name n) s r e = absurd cc
    matched_so (constant c) (app g ts) s r e = absurd cc
    matched_so (name m) (var y) s r e = absurd cc
    matched_so (name m) (constant d) s r e = absurd cc
    matched_so (name m) (app g ts) s r e = absurd cc
    matched_so (app f ps) (var y) s r e = absurd cc
    matched_so (app f ps) (constant d) s r e = absurd cc
    matched_so (app f ps) (name n) s r e = absurd cc

    pub matched_all_so : (ps : Terms V) (ts : Terms W) (s r : S) → matched_all_by bind ps ts s ≡ Some r → Rs ps ts s r
    matched_all_so none none s r e = subst (Rs none none s) (sym (some_same s r e)) (matches.end s)
    matched_all_so none (more t ts) s r e = absurd cc
    matched_all_so (more p ps) none s r e = absurd cc
    matched_all_so (more p ps) (more t ts) s r e =
        let h = then_some (λ (q : S). matched_all_by bind ps ts q) (matched_by bind p t s) r e in
        matches.beside p t ps ts s h.0 r (matched_so p t s h.0 h.1) (matched_all_so ps ts h.0 r h.2)

-- a state is found of which this holds
abbrev pub Found : {S : Type 0} → (S → Type 0) → Option S → Type 0
Found {S} P o = (s : S) × (o ≡ Some s) × P s

-- The term that the values make of a pattern is matched, and what holds of the state before holds behind it, where this is so of variables.
module _ {V W S : Type 0} (bind : V → Term W → S → Option S) (v : V → Term W) (P : S → Type 0) (leaf : (x : V) (s : S) → P s → Found P (bind x (v x) s)) where
  found_if : (b : Bool) (o : Option S) → b ≡ true → Found P o → Found P (if b then o else None)
  found_if b o e r = (r.0, then_if b o e ∙ r.1, r.2)

  mutual
    pub value_found : (p : Term V) (s : S) → P s → Found P (matched_by bind p (valued v p) s)
    value_found (var x) s h = leaf x s h
    value_found (constant c) s h = found_if (bytes_eq c c) (Some s) ((bytes_eq-Decides c c).1 refl) (s, refl, h)
    value_found (name n) s h = found_if (nat_eq n n) (Some s) (eq-eqb n n refl) (s, refl, h)
    value_found (app f ps) s h = found_if (bytes_eq f f) (matched_all_by bind ps (valued_all v ps) s) ((bytes_eq-Decides f f).1 refl) (values_found ps s h)

    pub values_found : (ps : Terms V) (s : S) → P s → Found P (matched_all_by bind ps (valued_all v ps) s)
    values_found none s h = (s, refl, h)
    values_found (more p ps) s h =
        let q = value_found p s h in
        let r = values_found ps q.0 q.2 in
        (r.0, ap (option_and_then (λ (z : S). matched_all_by bind ps (valued_all v ps) z)) q.1 ∙ r.1, r.2)
