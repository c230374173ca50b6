-- No two symbols that a text declares have one name.
use Rattle.std.proofs.Common.{◌≡◌, ◌⊎◌, ⊎_elim, inl, inr, ℕ, Bool, true, false, if◌then◌else◌, List, [], ◌∷◌, ◌++◌, refl, sym, ap, ◌∙◌, subst, append_assoc, true≢false}
use Rattle.std.proofs.lemmas.Bool.{or_left, or_right}
use Rattle.std.proofs.lemmas.List.{append-nil}
use Rattle.std.proofs.lemmas.Slice.Eq.{bytes_eq-Decides}
use Rattle.std.specs.Str.{bytes_eq}
use Rattle.sp_spec.specs.Signature.{Symbol, HasSymbol, pair_symbols}
use Rattle.sp_spec.proofs.Lists.{member_either}
use Rattle.sp_spec_text.specs.Written.{Item}
use Rattle.sp_spec_text.specs.Declared.{is_named, new_symbols, declared_symbols, all_symbols}
use Rattle.sp_law_conv.specs.Laws.{HaveOneArity}

named : (symbols : List Symbol) (f : List ℕ) (n : ℕ) → HasSymbol symbols f n → is_named f symbols ≡ true
named [] f n h = absurd h.1
named (s ∷ symbols) f n (p, inl e) = or_left (bytes_eq s.name f) (is_named f symbols) ((bytes_eq-Decides s.name f).1 (ap (λ (x : Symbol). x.name) e))
named (s ∷ symbols) f n (p, inr m) = or_right (bytes_eq s.name f) (is_named f symbols) (named symbols f n (p, m))

-- among these, or the one behind them
behind : (symbols : List Symbol) (s : Symbol) (f : List ℕ) (n : ℕ) → HasSymbol (symbols ++ s ∷ []) f n → HasSymbol symbols f n ⊎ ((s.name ≡ f) × (s.arity ≡ n))
behind symbols s f n h =
    ⊎_elim (λ m. inl (h.0, m))
    (λ m. ⊎_elim (λ e. inr (ap (λ (x : Symbol). x.name) e, ap (λ (x : Symbol). x.arity) e)) (λ k. absurd k) m)
    (member_either (record { name = f; arity = n; private = h.0 }) symbols (s ∷ []) h.1)

not_both : (symbols : List Symbol) (s : Symbol) (f : List ℕ) (n : ℕ) → is_named s.name symbols ≡ false → HasSymbol symbols f n → s.name ≡ f → ⊥
not_both symbols s f n new h e = true≢false (sym (named symbols f n h) ∙ (ap (λ (g : List ℕ). is_named g symbols) (sym e) ∙ new))

one_more : (symbols : List Symbol) (s : Symbol) → HaveOneArity symbols → is_named s.name symbols ≡ false → HaveOneArity (symbols ++ s ∷ [])
one_more symbols s one new f m n h k = at (behind symbols s f m h) (behind symbols s f n k)
  where
    at : HasSymbol symbols f m ⊎ ((s.name ≡ f) × (s.arity ≡ m)) → HasSymbol symbols f n ⊎ ((s.name ≡ f) × (s.arity ≡ n)) → m ≡ n
    at (inl a) (inl b) = one f m n a b
    at (inl a) (inr b) = absurd (not_both symbols s f m new a b.0)
    at (inr a) (inl b) = absurd (not_both symbols s f n new b a.0)
    at (inr a) (inr b) = sym a.1 ∙ b.1

one_behind : (before symbols : List Symbol) → HaveOneArity before → HaveOneArity (before ++ new_symbols before symbols)
one_behind before [] one = subst HaveOneArity (sym (append-nil before)) one
one_behind before (s ∷ symbols) one = at (is_named s.name before) refl (one_behind before symbols one) (λ new. one_behind (before ++ s ∷ []) symbols (one_more before s one new))
  where
    at : (b : Bool) → is_named s.name before ≡ b → HaveOneArity (before ++ new_symbols before symbols)
        → (is_named s.name before ≡ false → HaveOneArity ((before ++ s ∷ []) ++ new_symbols (before ++ s ∷ []) symbols))
        → HaveOneArity (before ++ (if b then new_symbols before symbols else s ∷ new_symbols (before ++ s ∷ []) symbols))
    at true e old new = old
    at false e old new = subst HaveOneArity (append_assoc before (s ∷ []) (new_symbols (before ++ s ∷ []) symbols)) (new e)

no_symbol : HaveOneArity []
no_symbol f m n h k = absurd h.1

pairs_have_one_arity : HaveOneArity pair_symbols
pairs_have_one_arity = one_behind [] pair_symbols no_symbol

pub have_one_arity : (items : List Item) → HaveOneArity (all_symbols items)
have_one_arity items = one_behind pair_symbols (declared_symbols items) pairs_have_one_arity
