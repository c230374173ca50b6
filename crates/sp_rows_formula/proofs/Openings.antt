-- What stands at a place where variables were pushed one after another, and how they are made.
use Rattle.std.proofs.Common.{reverse, ap₂, ◌≡◌, ◌≤◌, ◌<◌, ◌+◌, ℕ, zero, suc, List, [], ◌∷◌, ◌++◌, length, map, drop, refl, sym, ap, ◌∙◌, arith, slice_index_or}
use Rattle.std.proofs.lemmas.List.{map-append, drop_more, drop_all, reverse-append}
use Rattle.sp_spec.specs.Term.{Term, var}
use Rattle.sp_spec.specs.Guarded.{pushed, Place}
use Rattle.sp_term.specs.View.{view, view_by, view_step}
use Rattle.sp_term.specs.declared.term.Variable.{Variable}
use Rattle.sp_term.specs.declared.term.Term.TheVariants.{Var, rolls-Var}
use Rattle.sp_term.specs.declared.term.Term.TheFolds.{fold-roll-Term}
use Rattle.sp_term.specs.declared.term.Term.TheOpen.{Term-F}
use Rattle.sp_spec.specs.Guarded as spec
use Rattle.sp_spec.specs.Change.{Change, opened}
use Rattle.sp_formula.specs.FormulaView.{binder_of}
use Rattle.sp_formula.specs.declared.formula.Binder.{Binder}
use Rattle.sp_rows_formula.specs.OpeningView.{pushed_all, put, value_place, change_of}
use Rattle.sp_rows_formula.specs.declared.opening.Values.{Values}
use Rattle.sp_term.specs.declared.term.Term as memory_term
use Rattle.sp_spec_formula.specs.Instances.{filled, placed_each, free_each, instance}

pushed_last : {A : Type 0} (xs : List A) (x : A) (f : ℕ → A) → pushed_all (xs ++ x ∷ []) f ≡ pushed x (pushed_all xs f)
pushed_last [] x f = refl
pushed_last (y ∷ ys) x f = pushed_last ys x (pushed y f)

module _ {A B : Type 0} (g : A → B) where
  -- one more is the innermost
  pub one_more : (xs grown : List A) (x : A) (f : ℕ → B) → grown ≡ xs ++ x ∷ [] → pushed_all (map g grown) f ≡ pushed (g x) (pushed_all (map g xs) f)
  one_more xs grown x f e = ap (λ (ys : List A). pushed_all (map g ys) f) e ∙ ap (λ (ys : List B). pushed_all ys f) (map-append g xs (x ∷ [])) ∙ pushed_last (map g xs) (g x) f

  -- beyond them, what stood there before
  pub stands_past : (xs : List A) (f : ℕ → B) (k m : ℕ) → k ≡ length xs + m → pushed_all (map g xs) f k ≡ f m
  stands_past [] f k m e = ap f (omega (arith, e))
  stands_past (x ∷ xs) f k m e = stands_past xs (pushed (g x) f) k (suc m) (omega (arith, e))

  -- counted from the last one
  pub stands_there : (xs : List A) (f : ℕ → B) (k i : ℕ) (x : A) → i + suc k ≡ length xs → x ≡ slice_index_or xs i x → pushed_all (map g xs) f k ≡ g x
  stands_there [] f k i x e is = absurd (omega (arith, e))
  stands_there (y ∷ ys) f k zero x e is = stands_past ys (pushed (g y) f) k 0 (omega (arith, e)) ∙ ap g (sym is)
  stands_there (y ∷ ys) f k (suc i) x e is = stands_there ys (pushed (g y) f) k i x (omega (arith, e)) is

opened_put : (b : spec.Binder) (bs : List spec.Binder) (n : ℕ) (c : Change) → opened (b ∷ bs) n c ≡ opened bs (suc n) (put b n c)
opened_put (spec.message sort) bs n c = refl
opened_put spec.time bs n c = refl

-- one turn of a loop over binders in memory
pub opened_more : (items : List Binder) (i : ℕ) (z : Binder) (n m : ℕ) (c d : Change) → i < length items → m ≡ n + 1 → d ≡ put (binder_of (slice_index_or items i z)) n c
    → opened (map binder_of (drop i items)) n c ≡ opened (map binder_of (drop (i + 1) items)) m d
opened_more items i z n m c d h e put_in =
    let b = slice_index_or items i z in
    ap (λ (bs : List Binder). opened (map binder_of bs) n c) (drop_more items i z h)
    ∙ opened_put (binder_of b) (map binder_of (drop (i + 1) items)) n c
    ∙ ap (λ (k : ℕ). opened (map binder_of (drop (i + 1) items)) k (put (binder_of b) n c)) (omega (arith, e))
    ∙ ap (opened (map binder_of (drop (i + 1) items)) m) (sym put_in)

pub opened_nothing : (items : List Binder) (i : ℕ) (n : ℕ) (c : Change) → length items ≤ i → opened (map binder_of (drop i items)) n c ≡ c
opened_nothing items i n c h = ap (λ (bs : List Binder). opened (map binder_of bs) n c) (drop_all i items h)

-- a leaf in memory is one
pub view_var : {L V : Type 0} (leaf_of : L → V) (x : L) → view_by leaf_of (Var x) ≡ var (leaf_of x)
view_var {L} {V} leaf_of x = ap (view_by leaf_of) (sym (rolls-Var x)) ∙ fold-roll-Term L (Term V) (view_step leaf_of) (Term-F.Var x)

-- the innermost first, and the innermost last
pub reversed_all : {A : Type 0} (xs : List A) (f : ℕ → A) → pushed_all (reverse xs) f ≡ filled xs f
reversed_all [] f = refl
reversed_all {A = A} (x ∷ xs) f = ap (λ (ys : List A). pushed_all ys f) (reverse-append (x ∷ []) xs) ∙ pushed_last (reverse xs) x f ∙ ap (pushed x) (reversed_all xs f)

map-reverse : {A B : Type 0} (f : A → B) (xs : List A) → map f (reverse xs) ≡ reverse (map f xs)
map-reverse f [] = refl
map-reverse {B = B} f (x ∷ xs) =
    ap (map f) (reverse-append (x ∷ []) xs) ∙ map-append f (reverse xs) (x ∷ []) ∙ ap (λ (ys : List B). ys ++ f x ∷ []) (map-reverse f xs)
    ∙ sym (reverse-append (f x ∷ []) (map f xs))

placed_views : (ts : List (memory_term.Term Variable)) → placed_each (map view ts) ≡ map value_place ts
placed_views [] = refl
placed_views (t ∷ ts) = ap (λ (us : List (Term Place)). value_place t ∷ us) (placed_views ts)

free_times : (js : List ℕ) → free_each js ≡ map spec.free_time js
free_times [] = refl
free_times (j ∷ js) = ap (λ (ks : List spec.Time). spec.free_time j ∷ ks) (free_times js)

-- values in memory, the innermost last, make the instance of the values, the innermost first
pub instance_of : (v : Values) (ts : List (memory_term.Term Variable)) (js : List ℕ) → v.messages.items ≡ reverse ts → v.times.items ≡ reverse js → change_of v ≡ instance (map view ts) js
instance_of v ts js e d =
    ap₂ (λ (f : ℕ → Term Place) (g : ℕ → spec.Time). let c : Change = record { terms = var; times = λ i. i; bound_terms = f; bound_times = g } in c)
    (ap (λ (us : List (Term Place)). pushed_all us (λ k. var (spec.bound k))) (ap (map value_place) e ∙ map-reverse value_place ts ∙ ap reverse (sym (placed_views ts)))
    ∙ reversed_all (placed_each (map view ts)) (λ k. var (spec.bound k)))
    (ap (λ (us : List spec.Time). pushed_all us spec.bound_time) (ap (map spec.free_time) d ∙ map-reverse spec.free_time js ∙ ap reverse (sym (free_times js)))
    ∙ reversed_all (free_each js) spec.bound_time)
