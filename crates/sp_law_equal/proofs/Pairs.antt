-- The equations of pairs are subterm rules that bring in no symbols, so each term has one normal form, over the term's symbols.
use Rattle.std.proofs.Common.{◌≡◌, ◌⊎◌, ⊎_elim, inl, inr, ℕ, List, false, refl, sym, ◌∙◌, subst, true≢false}
use Rattle.std.specs.Prelude.{codes}
use Rattle.std.specs.Str.{bytes_eq}
use Rattle.std.proofs.lemmas.Slice.Eq.{bytes_eq-Decides}
use Rattle.sp_spec.specs.Lists.{Member}
use Rattle.sp_spec.specs.Term.{app, none, more, Grounds}
use Rattle.sp_spec.specs.Signature.{Equation, Symbol, pair, msg, pair_equations, HasSymbol}
use Rattle.sp_law_equal.specs.Destructors.{HasRoot, IsDestructor, IsPlain}
use Rattle.sp_law_equal.specs.Parts.{IsProperPart}
use Rattle.sp_law_equal.specs.SubtermRules.{IsPlainBelow, IsSimple, DoAgree, AreSubtermRules, BringInNoSymbols}
use Rattle.sp_law_equal.specs.NormalForms.{HaveNormalForms, KeepSymbols}
use Rattle.sp_law_equal.proofs.SubtermRules.{subterm_rules_have_normal_forms}
use Rattle.sp_law_equal.proofs.Over.{keep_symbols}

abbrev pub first_of_pair : Equation
first_of_pair = record { left = app (codes "fst") (more (pair (msg 0) (msg 1)) none); right = msg 0 }

abbrev pub second_of_pair : Equation
second_of_pair = record { left = app (codes "snd") (more (pair (msg 0) (msg 1)) none); right = msg 1 }

-- what holds of the two holds of each
pub each_of_pairs : (P : Equation → Type 0) → P first_of_pair → P second_of_pair → (e : Equation) → Member e pair_equations → P e
each_of_pairs P p q e m = ⊎_elim (λ is. subst P is p) (λ m'. ⊎_elim (λ is. subst P is q) (λ h. absurd h) m') m

-- different names of symbols
pub names_apart : (f g : List ℕ) → bytes_eq f g ≡ false → f ≡ g → ⊥
names_apart f g h e = true≢false (sym ((bytes_eq-Decides f g).1 e) ∙ h)

-- fst and snd are the destructors
pub pair_is_plain : IsDestructor pair_equations (codes "pair") → ⊥
pair_is_plain h =
    each_of_pairs (λ e. HasRoot (codes "pair") e.left → ⊥)
    (names_apart (codes "fst") (codes "pair") refl)
    (names_apart (codes "snd") (codes "pair") refl)
    h.0 h.1 h.2

same_root : {f g : List ℕ} {ts us : Grounds} → app f ts ≡ app g us → f ≡ g
same_root e = cc

-- the right sides are variables of the pair
first_is_part : IsProperPart first_of_pair.right first_of_pair.left
first_is_part = inl (inr (inl refl))

second_is_part : IsProperPart second_of_pair.right second_of_pair.left
second_is_part = inl (inr (inr (inl refl)))

pub pairs_are_subterm_rules : AreSubtermRules pair_equations
pairs_are_subterm_rules = record {
  left_plain = each_of_pairs (λ e. IsPlainBelow pair_equations e.left) ((pair_is_plain, (tt, (tt, tt))), tt) ((pair_is_plain, (tt, (tt, tt))), tt);
  right_plain = each_of_pairs (λ e. IsPlain pair_equations e.right) tt tt;
  simple = each_of_pairs IsSimple (inl first_is_part) (inl second_is_part);
  agree = λ d e m n.
      each_of_pairs (λ d. (e : Equation) → Member e pair_equations → DoAgree d e)
      (each_of_pairs (λ e. DoAgree first_of_pair e)
      (λ v w r s k. cc)
      (λ v w r s k. absurd (names_apart (codes "fst") (codes "snd") refl (same_root k))))
      (each_of_pairs (λ e. DoAgree second_of_pair e)
      (λ v w r s k. absurd (names_apart (codes "snd") (codes "fst") refl (same_root k)))
      (λ v w r s k. cc))
      d m e n;
}

pub pairs_have_normal_forms : HaveNormalForms pair_equations
pairs_have_normal_forms = subterm_rules_have_normal_forms pair_equations pairs_are_subterm_rules

-- whatever the symbols
pub pairs_bring_in_no_symbols : (symbols : List Symbol) → BringInNoSymbols symbols pair_equations
pairs_bring_in_no_symbols symbols = record {
  each =
      each_of_pairs (λ e. IsProperPart e.right e.left ⊎ ((c : List ℕ) × (e.right ≡ app c none) × HasSymbol symbols c 0))
      (inl first_is_part)
      (inl second_is_part);
}

pub pairs_keep_symbols : (symbols : List Symbol) → KeepSymbols symbols pair_equations
pairs_keep_symbols symbols = keep_symbols symbols pair_equations (pairs_bring_in_no_symbols symbols)
