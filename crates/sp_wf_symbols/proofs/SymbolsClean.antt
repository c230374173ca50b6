-- Each symbol is declared in one way exactly where each that is declared is the first of its name.
use Rattle.std.proofs.Common.{◌≡◌, ◌⊎◌, ℕ, Bool, true, false, not, ◌||◌, ◌==◌, if◌then◌else◌, List, [], ◌∷◌, ◌++◌, map, inl, inr, ⊎_elim, refl, sym, ap, ◌∙◌, subst, append_assoc, append-nil, codes}
use Rattle.sp_law_equal.proofs.Pairs.{names_apart}
use Rattle.std.proofs.lemmas.Bool.{both_ways, or_cases, or_left, or_right, false_from_ne_true, not-false}
use Rattle.std.proofs.lemmas.Bool.Decides.{Decides-and, Decides-eqb}
use Rattle.std.proofs.lemmas.List.{map-append}
use Rattle.std.proofs.lemmas.Slice.Eq.{bytes_eq-Decides}
use Rattle.std.specs.Bool.{Decides, beq}
use Rattle.std.specs.Cmp.{booleans_Decides}
use Rattle.std.specs.Str.{bytes_eq}
use Rattle.sp_spec.specs.Lists.{Member, Every, Distinct}
use Rattle.sp_spec.specs.Signature.{Symbol, pair_symbols}
use Rattle.sp_spec.proofs.Lists.{member_map, every_from}
use Rattle.sp_spec_text.specs.Declared.{is_named, new_symbols}
use Rattle.sp_finding.specs.Finding.{declared_twice, are_none}
use Rattle.sp_wf_symbols.specs.SymbolFindings.{is_same_symbol, differs, declared_otherwise}
use Rattle.sp_finding.proofs.Nothing.{none_told, told_none}

abbrev name_in : Symbol → List ℕ
name_in s = s.name

abbrev pub symbol : List ℕ → ℕ → Bool → Symbol
symbol f n private = record { name = f; arity = n; private = private }

pub same_parts : (s t : Symbol) → s.name ≡ t.name → s.arity ≡ t.arity → s.private ≡ t.private → s ≡ t
same_parts s t e a p = ap (λ f. symbol f s.arity s.private) e ∙ (ap (λ n. symbol t.name n s.private) a ∙ ap (symbol t.name t.arity) p)

same_symbol_decides : (s t : Symbol) → Decides (is_same_symbol s t) ((s.arity ≡ t.arity) × (s.private ≡ t.private))
same_symbol_decides s t = Decides-and (s.arity == t.arity) (beq s.private t.private) (Decides-eqb s.arity t.arity) (booleans_Decides s.private t.private)

-- ---- the first of its name

is_first : (s : Symbol) (symbols : List Symbol) → differs s symbols ≡ false → is_named s.name symbols ≡ true → Member s symbols
is_first s [] d n = absurd cc
is_first s (t ∷ symbols) d n = at (is_first s symbols) (bytes_eq t.name s.name) refl d n
  where
    at : (differs s symbols ≡ false → is_named s.name symbols ≡ true → Member s symbols) → (b : Bool) → bytes_eq t.name s.name ≡ b → (if b then not (is_same_symbol t s) else differs s symbols) ≡ false → (b || is_named s.name symbols) ≡ true → (t ≡ s) ⊎ Member s symbols
    at before true e k h = let same = (same_symbol_decides t s).0 (not-false (is_same_symbol t s) k) in inl (same_parts t s ((bytes_eq-Decides t.name s.name).0 e) same.0 same.1)
    at before false e k h = inr (before k h)

first_is_same : (s : Symbol) (symbols : List Symbol) → Distinct (map name_in symbols) → Member s symbols → differs s symbols ≡ false
first_is_same s [] d m = absurd m
first_is_same s (t ∷ symbols) d (inl m) =
    ap (λ (b : Bool). if b then not (is_same_symbol t s) else differs s symbols) ((bytes_eq-Decides t.name s.name).1 (ap name_in m))
    ∙ ap not ((same_symbol_decides t s).1 (ap (λ (x : Symbol). x.arity) m, ap (λ (x : Symbol). x.private) m))
first_is_same s (t ∷ symbols) d (inr m) =
    ap (λ (b : Bool). if b then not (is_same_symbol t s) else differs s symbols)
    (false_from_ne_true (bytes_eq t.name s.name) (λ e. d.0 (subst (λ (f : List ℕ). Member f (map name_in symbols)) (sym ((bytes_eq-Decides t.name s.name).0 e)) (member_map name_in s symbols m))))
    ∙ first_is_same s symbols d.1 m

-- ---- names of symbols that are listed

named_left : (f : List ℕ) (ss ts : List Symbol) → is_named f ss ≡ true → is_named f (ss ++ ts) ≡ true
named_left f [] ts e = absurd cc
named_left f (s ∷ ss) ts e =
    ⊎_elim (λ h. or_left (bytes_eq s.name f) (is_named f (ss ++ ts)) h) (λ h. or_right (bytes_eq s.name f) (is_named f (ss ++ ts)) (named_left f ss ts h))
    (or_cases (bytes_eq s.name f) (is_named f ss) e)

named_right : (f : List ℕ) (ss ts : List Symbol) → is_named f ts ≡ true → is_named f (ss ++ ts) ≡ true
named_right f [] ts e = e
named_right f (s ∷ ss) ts e = or_right (bytes_eq s.name f) (is_named f (ss ++ ts)) (named_right f ss ts e)

named_member : (f : List ℕ) (ss : List Symbol) → Member f (map name_in ss) → is_named f ss ≡ true
named_member f [] m = absurd m
named_member f (s ∷ ss) (inl m) = or_left (bytes_eq s.name f) (is_named f ss) ((bytes_eq-Decides s.name f).1 m)
named_member f (s ∷ ss) (inr m) = or_right (bytes_eq s.name f) (is_named f ss) (named_member f ss m)

-- what is declared has its name among those before and the new
one_more : (before : List Symbol) (s : Symbol) (rest : List Symbol) → (before ++ s ∷ []) ++ rest ≡ before ++ s ∷ rest
one_more before s rest = append_assoc before (s ∷ []) rest

has_name : (before declared : List Symbol) (s : Symbol) → Member s declared → is_named s.name (before ++ new_symbols before declared) ≡ true
has_name before [] s m = absurd m
has_name before (t ∷ declared) s m = at (has_name before declared s) (has_name (before ++ t ∷ []) declared s) (is_named t.name before) refl m
  where
    at : (Member s declared → is_named s.name (before ++ new_symbols before declared) ≡ true)
        → (Member s declared → is_named s.name ((before ++ t ∷ []) ++ new_symbols (before ++ t ∷ []) declared) ≡ true) → (b : Bool) → is_named t.name before ≡ b → (t ≡ s) ⊎ Member s declared
        → is_named s.name (before ++ (if b then new_symbols before declared else t ∷ new_symbols (before ++ t ∷ []) declared)) ≡ true
    at same more true e (inl m) = named_left s.name before (new_symbols before declared) (ap (λ (x : Symbol). is_named x.name before) (sym m) ∙ e)
    at same more true e (inr m) = same m
    at same more false e (inl m) =
        named_right s.name before (t ∷ new_symbols (before ++ t ∷ []) declared)
        (or_left (bytes_eq t.name s.name) (is_named s.name (new_symbols (before ++ t ∷ []) declared)) ((bytes_eq-Decides t.name s.name).1 (ap name_in m)))
    at same more false e (inr m) = ap (is_named s.name) (sym (one_more before t (new_symbols (before ++ t ∷ []) declared))) ∙ more m

-- no two that are new have one name
last_member : (g f : List ℕ) (gs : List (List ℕ)) → Member g (gs ++ f ∷ []) → Member g gs ⊎ (f ≡ g)
last_member g f [] (inl m) = inr m
last_member g f [] (inr m) = absurd m
last_member g f (h ∷ gs) (inl m) = inl (inl m)
last_member g f (h ∷ gs) (inr m) = ⊎_elim (λ k. inl (inr k)) (λ k. inr k) (last_member g f gs m)

distinct_behind : (fs : List (List ℕ)) (f : List ℕ) → Distinct fs → (Member f fs → ⊥) → Distinct (fs ++ f ∷ [])
distinct_behind [] f d n = ((λ m. m), tt)
distinct_behind (g ∷ fs) f d n = ((λ m. ⊎_elim (λ k. d.0 k) (λ k. n (inl (sym k))) (last_member g f fs m)), distinct_behind fs f d.1 (λ m. n (inr m)))

distinct_new : (before declared : List Symbol) → Distinct (map name_in before) → Distinct (map name_in (before ++ new_symbols before declared))
distinct_new before [] d = subst (λ (ss : List Symbol). Distinct (map name_in ss)) (sym (append-nil before)) d
distinct_new before (t ∷ declared) d = at (distinct_new before declared) (distinct_new (before ++ t ∷ []) declared) (is_named t.name before) refl
  where
    at : (Distinct (map name_in before) → Distinct (map name_in (before ++ new_symbols before declared)))
        → (Distinct (map name_in (before ++ t ∷ [])) → Distinct (map name_in ((before ++ t ∷ []) ++ new_symbols (before ++ t ∷ []) declared))) → (b : Bool) → is_named t.name before ≡ b
        → Distinct (map name_in (before ++ (if b then new_symbols before declared else t ∷ new_symbols (before ++ t ∷ []) declared)))
    at same more true e = same d
    at same more false e =
        subst (λ (ss : List Symbol). Distinct (map name_in ss)) (one_more before t (new_symbols (before ++ t ∷ []) declared))
        (more
        (subst Distinct (sym (map-append name_in before (t ∷ [])))
        (distinct_behind (map name_in before) t.name d (λ m. both_ways (is_named t.name before) e (named_member t.name before m)))))

-- ---- all of them

module _ (symbols : List Symbol) where
  first_each : (declared : List Symbol) → Every (λ (s : Symbol). is_named s.name symbols ≡ true) declared → are_none (declared_otherwise symbols declared) ≡ true → Every (λ (s : Symbol). Member s symbols) declared
  first_each [] n e = tt
  first_each (s ∷ declared) n e = let k = none_told (differs s symbols) (declared_twice s.name) (declared_otherwise symbols declared) e in (is_first s symbols k.0 n.0, first_each declared n.1 k.1)

  each_first : (declared : List Symbol) → Distinct (map name_in symbols) → Every (λ (s : Symbol). Member s symbols) declared → are_none (declared_otherwise symbols declared) ≡ true
  each_first [] d h = refl
  each_first (s ∷ declared) d h = told_none (differs s symbols) (declared_twice s.name) (declared_otherwise symbols declared) (first_is_same s symbols d h.0) (each_first declared d h.1)

-- behind symbols of which no two have one name
module _ (before declared : List Symbol) where
  pub declared_well : are_none (declared_otherwise (before ++ new_symbols before declared) declared) ≡ true → Every (λ (s : Symbol). Member s (before ++ new_symbols before declared)) declared
  declared_well e =
      first_each (before ++ new_symbols before declared) declared
      (every_from (λ (s : Symbol). is_named s.name (before ++ new_symbols before declared) ≡ true) declared (λ s m. has_name before declared s m)) e

  pub none_otherwise : Distinct (map name_in before) → Every (λ (s : Symbol). Member s (before ++ new_symbols before declared)) declared
      → are_none (declared_otherwise (before ++ new_symbols before declared) declared) ≡ true
  none_otherwise d h = each_first (before ++ new_symbols before declared) declared (distinct_new before declared d) h

-- the names of the symbols of pairs
pub pairs_distinct : Distinct (map name_in pair_symbols)
pairs_distinct = (
  λ m. ⊎_elim (names_apart (codes "fst") (codes "pair") refl) (λ k. ⊎_elim (names_apart (codes "snd") (codes "pair") refl) (λ n. n) k) m,
  (λ m. ⊎_elim (names_apart (codes "snd") (codes "fst") refl) (λ n. n) m, (λ n. n, tt)),
)
