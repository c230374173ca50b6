-- The first symbol of a name is kept in a map.
use Rattle.std.proofs.Common.{◌≡◌, ℕ, Bool, true, false, not, cond, if◌then◌else◌, ◌+◌, ◌<◌, List, [], ◌∷◌, map, drop, length, get_or, Option, Some, None, refl, sym, ap, ◌∙◌}
use denote.Ref.{Bor}
use Rattle.std.proofs.lemmas.Slice.Eq.{bytes_eq-Decides}
use Rattle.std.specs.Prelude.{option_map}
use Rattle.std.specs.Option.{option_or}
use Rattle.std.specs.Str.{bytes_eq}
use Rattle.indexmap.specs.IndexMap.{IndexMap, get_by}
use Rattle.sp_spec.specs.Signature.{Symbol}
use Rattle.sp_spec.proofs.Lists.{next_there}
use Rattle.sp_term.specs.View.{name_of}
use Rattle.sp_fact.specs.GroundView.{symbol_of}
use Rattle.sp_fact.specs.declared.signature.Symbol as memory
use Rattle.sp_wf_symbols.specs.SymbolFindings.{is_same_symbol, differs}
use Rattle.sp_wf_symbols.specs.Firsts.{first_in, if_named, first_named, KnowsFirsts}

pub or_none : (o : Option Symbol) → option_or o None ≡ o
or_none None = refl
or_none (Some s) = refl

-- ---- one more symbol

known_before : (b : Bool) (x s : Symbol) (o : Option Symbol) → (b ≡ true → o ≡ Some x) → o ≡ option_or o (if b then Some s else None)
known_before true x s o there = there refl ∙ sym (ap (λ (p : Option Symbol). option_or p (Some s)) (there refl))
known_before false x s o there = sym (or_none o)

new_there : (b : Bool) (s : Symbol) (t : Bor memory.Symbol) (o : Option (Bor memory.Symbol)) → symbol_of t.now ≡ s → (b ≡ true → o ≡ None)
    → option_map (λ x. symbol_of x.now) (cond b (Some t) o) ≡ option_or (option_map (λ x. symbol_of x.now) o) (if b then Some s else None)
new_there true s t o same none =
    ap (λ (z : Symbol). Some z) same ∙ sym (ap (λ (p : Option (Bor memory.Symbol)). option_or (option_map (λ x. symbol_of x.now) p) (Some s)) (none refl))
new_there false s t o same none = sym (or_none (option_map (λ x. symbol_of x.now) o))

module _ {S : Type 0} (m : IndexMap (Bor (List ℕ)) (Bor memory.Symbol) S) (k : Bor (List ℕ)) (t : Bor memory.Symbol) (is : k.now ≡ name_of t.now.name) (q : Bor (List ℕ)) where
  same_name : bytes_eq (name_of t.now.name) q.now ≡ true → k.now ≡ q.now
  same_name e = is ∙ (bytes_eq-Decides (name_of t.now.name) q.now).0 e

  looked_up : (o : Option (Bor memory.Symbol)) → o ≡ get_by (λ x. bytes_eq k.now x.now) m → bytes_eq (name_of t.now.name) q.now ≡ true → get_by (λ x. bytes_eq q.now x.now) m ≡ o
  looked_up o there e = sym (there ∙ ap (λ (n : List ℕ). get_by (λ x. bytes_eq n x.now) m) (same_name e))

  pub noted_before : (x : Bor memory.Symbol) → Some x ≡ get_by (λ x. bytes_eq k.now x.now) m → first_in m q ≡ option_or (first_in m q) (if_named q.now (symbol_of t.now))
  noted_before x there =
      known_before (bytes_eq (name_of t.now.name) q.now) (symbol_of x.now) (symbol_of t.now) (first_in m q)
      (λ e. ap (option_map (λ (y : Bor memory.Symbol). symbol_of y.now)) (looked_up (Some x) there e))

  pub noted_new : (n : IndexMap (Bor (List ℕ)) (Bor memory.Symbol) S) → None ≡ get_by (λ x. bytes_eq k.now x.now) m
      → get_by (λ x. bytes_eq q.now x.now) n ≡ cond (bytes_eq k.now q.now) (Some t) (get_by (λ x. bytes_eq q.now x.now) m)
      → first_in n q ≡ option_or (first_in m q) (if_named q.now (symbol_of t.now))
  noted_new n there updates =
      ap (option_map (λ (y : Bor memory.Symbol). symbol_of y.now))
      (updates ∙ ap (λ (j : List ℕ). cond (bytes_eq j q.now) (Some t) (get_by (λ x. bytes_eq q.now x.now) m)) is)
      ∙ new_there (bytes_eq (name_of t.now.name) q.now) (symbol_of t.now) t (get_by (λ x. bytes_eq q.now x.now) m) refl (looked_up None there)

put_first : (b : Bool) (s : Symbol) (o n rest target : Option Symbol) → n ≡ option_or o (if b then Some s else None) → option_or o (cond b (Some s) rest) ≡ target → option_or n rest ≡ target
put_first b s (Some x) n rest target put so = ap (λ (p : Option Symbol). option_or p rest) put ∙ so
put_first true s None n rest target put so = ap (λ (p : Option Symbol). option_or p rest) put ∙ so
put_first false s None n rest target put so = ap (λ (p : Option Symbol). option_or p rest) put ∙ so

pub next_first : (ys xs : List memory.Symbol) (i : ℕ) (x : memory.Symbol) (q : List ℕ) (o n target : Option Symbol) → ys ≡ xs → i < length ys → x ≡ get_or ys i x
    → n ≡ option_or o (if_named q (symbol_of x)) → option_or o (first_named q (map symbol_of (drop i xs))) ≡ target → option_or n (first_named q (map symbol_of (drop (i + 1) xs))) ≡ target
next_first ys xs i x q o n target same below is put so =
    put_first (bytes_eq (name_of x.name) q) (symbol_of x) o n (first_named q (map symbol_of (drop (i + 1) xs))) target put
    (ap (λ (zs : List memory.Symbol). option_or o (first_named q (map symbol_of zs))) (sym (next_there ys xs i x same below is)) ∙ so)

-- ---- whether a symbol differs from the first of its name

abbrev differs_by : Symbol → Option Symbol → Bool
differs_by s None = false
differs_by s (Some t) = not (is_same_symbol t s)

differs_at : (b : Bool) (s t : Symbol) (symbols : List Symbol) → differs s symbols ≡ differs_by s (first_named s.name symbols)
    → (if b then not (is_same_symbol t s) else differs s symbols) ≡ differs_by s (cond b (Some t) (first_named s.name symbols))
differs_at true s t symbols rest = refl
differs_at false s t symbols rest = rest

by_first : (s : Symbol) (symbols : List Symbol) → differs s symbols ≡ differs_by s (first_named s.name symbols)
by_first s [] = refl
by_first s (t ∷ symbols) = differs_at (bytes_eq t.name s.name) s t symbols (by_first s symbols)

module _ {S : Type 0} (m : IndexMap (Bor (List ℕ)) (Bor memory.Symbol) S) (symbols : List Symbol) (knows : KnowsFirsts m symbols) (k : Bor (List ℕ)) (s : Symbol) (is : k.now ≡ s.name) where
  by_map : (o : Option (Bor memory.Symbol)) → o ≡ get_by (λ x. bytes_eq k.now x.now) m → differs_by s (option_map (λ x. symbol_of x.now) o) ≡ differs s symbols
  by_map o there =
      ap (differs_by s) (ap (option_map (λ (y : Bor memory.Symbol). symbol_of y.now)) there ∙ knows k ∙ ap (λ (n : List ℕ). first_named n symbols) is) ∙ sym (by_first s symbols)

  pub differs_found : (t : Bor memory.Symbol) → Some t ≡ get_by (λ x. bytes_eq k.now x.now) m → not (is_same_symbol (symbol_of t.now) s) ≡ differs s symbols
  differs_found t there = by_map (Some t) there

  pub differs_not : None ≡ get_by (λ x. bytes_eq k.now x.now) m → false ≡ differs s symbols
  differs_not there = by_map None there
