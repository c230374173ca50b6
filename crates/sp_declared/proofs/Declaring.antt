-- Symbols that are declared behind others.
use Rattle.std.proofs.Common.{◌≡◌, ℕ, Bool, true, false, not, ◌||◌, if◌then◌else◌, List, [], ◌∷◌, ◌++◌, map, append-nil, append_assoc, refl, sym, ap, ap₂, ◌∙◌}
use Rattle.std.proofs.lemmas.List.{map-append}
use Rattle.std.specs.Str.{bytes_eq}
use Rattle.sp_spec.specs.Signature.{Symbol}
use Rattle.sp_spec.specs.Lists.{is_listed}
use Rattle.sp_spec_text.specs.Declared.{is_named, new_symbols}
use Rattle.sp_declared.specs.Symbols.{declared_after, names_of}

abbrev with_symbol : Bool → List Symbol → Symbol → List Symbol
with_symbol b before s = if b then before else before ++ s ∷ []

pub declared_next : (before : List Symbol) (s : Symbol) (more : List Symbol) → declared_after before (s ∷ more) ≡ declared_after (with_symbol (is_named s.name before) before s) more
declared_next before s more = at (is_named s.name before)
  where
    at : (b : Bool) → before ++ (if b then new_symbols before more else s ∷ new_symbols (before ++ s ∷ []) more) ≡ declared_after (with_symbol b before s) more
    at true = refl
    at false = sym (append_assoc before (s ∷ []) (new_symbols (before ++ s ∷ []) more))

declared_one : (before : List Symbol) (s : Symbol) → declared_after before (s ∷ []) ≡ with_symbol (is_named s.name before) before s
declared_one before s = declared_next before s [] ∙ append-nil (with_symbol (is_named s.name before) before s)

pub declared_both : (before more last : List Symbol) → declared_after (declared_after before more) last ≡ declared_after before (more ++ last)
declared_both before [] last = ap (λ (ss : List Symbol). declared_after ss last) (append-nil before)
declared_both before (s ∷ more) last =
    ap (λ (ss : List Symbol). declared_after ss last) (declared_next before s more)
    ∙ declared_both (with_symbol (is_named s.name before) before s) more last
    ∙ sym (declared_next before s (more ++ last))

-- ---- one symbol, where the names of those before stand in a list of their own

named_listed : (n : List ℕ) (before : List Symbol) → is_named n before ≡ is_listed n (names_of before)
named_listed n [] = refl
named_listed n (s ∷ before) = ap (λ (b : Bool). bytes_eq s.name n || b) (named_listed n before)

-- a symbol is put at the end where its name is new
declared_new : (b : Bool) (before : List Symbol) (s : Symbol) → b ≡ not (is_named s.name before) → (if b then before ++ s ∷ [] else before) ≡ declared_after before (s ∷ [])
declared_new b before s e = ap (λ (a : Bool). if a then before ++ s ∷ [] else before) e ∙ turned (is_named s.name before) ∙ sym (declared_one before s)
  where
    turned : (d : Bool) → (if not d then before ++ s ∷ [] else before) ≡ with_symbol d before s
    turned true = refl
    turned false = refl

-- whether it is new is asked of the names alone
module _ {A : Type 0} (view : A → Symbol) (names : List (List ℕ)) (xs ys : List A) (x : A) (n : List ℕ) (b : Bool)
    (exact : names ≡ names_of (map view xs)) (same : ys ≡ xs) (named : n ≡ (view x).name) (is_new : b ≡ not (is_listed n names)) where
  told : b ≡ not (is_named (view x).name (map view xs))
  told = is_new ∙ ap not (ap₂ is_listed named exact ∙ sym (named_listed (view x).name (map view xs)))

  pub put_behind : (zs : List A) → zs ≡ ys ++ x ∷ [] → b ≡ true → map view zs ≡ declared_after (map view xs) (view x ∷ [])
  put_behind zs put is =
      ap (map view) put ∙ map-append view ys (x ∷ []) ∙ ap (λ (vs : List A). map view vs ++ view x ∷ []) same ∙ declared_new true (map view xs) (view x) (sym is ∙ told)

  pub left_out : b ≡ false → map view ys ≡ declared_after (map view xs) (view x ∷ [])
  left_out is = ap (map view) same ∙ declared_new false (map view xs) (view x) (sym is ∙ told)
