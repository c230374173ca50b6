-- Symbols have names as a text may have them.
use Rattle.std.proofs.Common.{◌≡◌, ℕ, List, [], ◌∷◌, inl, inr, refl, sym, ap, subst}
use Rattle.sp_spec.specs.Signature.{Symbol, HasSymbol, Signature, pair_symbols, with_pairs}
use Rattle.sp_spec_text.specs.Lex.{skip}
use Rattle.sp_spec_text.specs.Names.{is_reserved, IsWord}
use Rattle.sp_spec_printed.specs.StepLines.{HaveNames}

pub symbol_named : (symbols : List Symbol) (f : List ℕ) (n : ℕ) → HaveNames symbols → HasSymbol symbols f n → IsWord f
symbol_named [] f n h m = absurd m.1
symbol_named (s ∷ symbols) f n h (p, inl e) = subst IsWord (ap (λ (x : Symbol). x.name) e) h.0.1
symbol_named (s ∷ symbols) f n h (p, inr m) = symbol_named symbols f n h.1 (p, m)

-- ---- the symbols of pairs

pub pairs_have_names : HaveNames pair_symbols
unfolding is_reserved skip
pairs_have_names = ((refl, (refl, refl)), (((refl, (refl, refl))), (((refl, (refl, refl))), tt)))

pub of_pairs : (s : Signature) → s ≡ with_pairs [] [] → HaveNames s.symbols
of_pairs s e = subst HaveNames (sym (ap (λ (x : Signature). x.symbols) e)) pairs_have_names
