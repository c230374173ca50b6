-- Chains with one formula more, as loops make them and go over them.
use Rattle.std.proofs.Common.{◌≡◌, ◌<◌, ◌+◌, ℕ, List, [], ◌∷◌, ◌++◌, length, map, remove, slice_index_or, take, arith, get_or, refl, sym, ap, ap₂, ◌∙◌}
use Rattle.std.proofs.lemmas.List.{map-append, take_more}
use Rattle.sp_spec.specs.Formula.{Formula}
use Rattle.sp_read_parts.specs.Formulas.{Joint, join, chain, linked, formula}
use Rattle.sp_read_parts.specs.declared.written.ReadFormula.{ReadFormula}

chain_more : (o : Joint) (f g : Formula) (gs : List Formula) → chain o f (gs ++ g ∷ []) ≡ join o (chain o f gs) g
chain_more o f g [] = refl
chain_more o f g (h ∷ gs) = chain_more o (join o f h) g gs

-- one more behind another
pub linked_more : (o : Joint) (fs : List Formula) (f g : Formula) → linked o ((fs ++ f ∷ []) ++ g ∷ []) ≡ join o (linked o (fs ++ f ∷ [])) g
linked_more o [] f g = refl
linked_more o (h ∷ hs) f g = chain_more o h g (hs ++ f ∷ [])

pub chain_pushed : (o : Joint) (f : Formula) (fs : List ReadFormula) (x : ReadFormula) → chain o f (map formula (fs ++ x ∷ [])) ≡ join o (chain o f (map formula fs)) (formula x)
chain_pushed o f fs x = ap (chain o f) (map-append formula fs (x ∷ [])) ∙ chain_more o f (formula x) (map formula fs)

-- up to the next place
pub chain_taken : (o : Joint) (f : Formula) (fs : List ReadFormula) (k : ℕ) (x : ReadFormula) → k < length fs → x ≡ get_or fs k x
    → chain o f (map formula (take (k + 1) fs)) ≡ join o (chain o f (map formula (take k fs))) (formula x)
chain_taken o f fs k x below is =
    ap (λ (gs : List ReadFormula). chain o f (map formula gs)) (take_more fs k x below ∙ ap (λ (y : ReadFormula). take k fs ++ y ∷ []) (sym is)) ∙ chain_pushed o f (take k fs) x

-- where the first formula is taken, it stood before the others
pub first_taken : (fs : List ReadFormula) (x : ReadFormula) → 0 < length fs → x ≡ slice_index_or fs 0 x → map formula fs ≡ formula x ∷ map formula (remove fs 0)
first_taken [] x below is = absurd (omega arith)
first_taken (f ∷ fs) x below is = let e : x ≡ f = is in rw e refl

-- what is made of a chain part by part
module _ {A : Type 0} (o : Joint) (seen : Formula → A) (op : A → A → A) (joins : (f g : Formula) → seen (join o f g) ≡ op (seen f) (seen g)) where
  pub chain_seen : (f : Formula) (fs : List ReadFormula) (k : ℕ) (x : ReadFormula) (before next after : A) → k < length fs → x ≡ get_or fs k x
      → before ≡ seen (chain o f (map formula (take k fs))) → next ≡ seen (formula x) → after ≡ op before next
      → after ≡ seen (chain o f (map formula (take (k + 1) fs)))
  chain_seen f fs k x before next after below is b n e =
      e ∙ ap₂ op b n ∙ sym (joins (chain o f (map formula (take k fs))) (formula x)) ∙ sym (ap seen (chain_taken o f fs k x below is))
