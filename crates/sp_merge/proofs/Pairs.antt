-- Pairs of two lists, element by element, as a loop gathers them.
use Rattle.std.proofs.Common.{◌≡◌, suc, List, [], ◌∷◌, ◌++◌, map, length, Bool, true, false, ◌&&◌, if◌then◌else◌, Option, Some, None, option_map, refl, sym, ap, ap₂, ◌∙◌, append_assoc, append-nil, ◌⊎◌, inl, inr, arith}
use Rattle.std.specs.Str.{bytes_eq}
use Rattle.sp_spec.specs.Unifier.{Pair}
use Rattle.sp_term.specs.View.{view, view_all}
use Rattle.sp_term.specs.declared.term.Term.{Term}
use Rattle.sp_term.specs.declared.term.Variable.{Variable}
use Rattle.sp_spec_forms.specs.Alike.{same_flag}
use Rattle.sp_spec_system.specs.Equating.{argument_pairs, both_pairs, common_pairs, fact_pairs, action_pair, action_pairs, fact_pair}
use Rattle.sp_fact.specs.View.{fact_of, action_of}
use Rattle.sp_fact.specs.declared.fact.Fact.{Fact}
use Rattle.sp_fact.specs.declared.fact.Action.{Action}

-- the pairs of each two elements, if there are as many of the one list as of the other
abbrev pub listed : {A : Type 0} → (A → A → Option (List Pair)) → List A → List A → Option (List Pair)
listed p [] [] = Some []
listed p [] (y ∷ ys) = None
listed p (x ∷ xs) [] = None
listed p (x ∷ xs) (y ∷ ys) = both_pairs (p x y) (listed p xs ys)

abbrev pub term_pair : Term Variable → Term Variable → Option (List Pair)
term_pair t u = Some ((view t, view u) ∷ [])

both_none : (o : Option (List Pair)) → both_pairs o None ≡ None
both_none None = refl
both_none (Some pairs) = refl

both_assoc : (a b c : Option (List Pair)) → both_pairs (both_pairs a b) c ≡ both_pairs a (both_pairs b c)
both_assoc None b c = refl
both_assoc (Some x) None c = refl
both_assoc (Some x) (Some y) None = refl
both_assoc (Some x) (Some y) (Some z) = ap Some (append_assoc x y z)

both_nothing : (o : Option (List Pair)) → both_pairs (Some []) o ≡ o
both_nothing None = refl
both_nothing (Some pairs) = refl

one_first : (p : Pair) (o : Option (List Pair)) → option_map (λ (pairs : List Pair). p ∷ pairs) o ≡ both_pairs (Some (p ∷ [])) o
one_first p None = refl
one_first p (Some pairs) = refl

if_first : (b : Bool) (o rest : Option (List Pair)) → (if b then both_pairs o rest else None) ≡ both_pairs (if b then o else None) rest
if_first true o rest = refl
if_first false o rest = refl

pub argument_pairs-listed : (ts us : List (Term Variable)) → argument_pairs (view_all ts) (view_all us) ≡ listed term_pair ts us
argument_pairs-listed [] [] = refl
argument_pairs-listed [] (u ∷ us) = refl
argument_pairs-listed (t ∷ ts) [] = refl
argument_pairs-listed (t ∷ ts) (u ∷ us) = one_first (view t, view u) (argument_pairs (view_all ts) (view_all us)) ∙ ap (both_pairs (term_pair t u)) (argument_pairs-listed ts us)

pub fact_pairs-listed : (fs gs : List (Fact Variable)) → fact_pairs (map fact_of fs) (map fact_of gs) ≡ listed (λ f g. fact_pair (fact_of f) (fact_of g)) fs gs
fact_pairs-listed [] [] = refl
fact_pairs-listed [] (g ∷ gs) = refl
fact_pairs-listed (f ∷ fs) [] = refl
fact_pairs-listed (f ∷ fs) (g ∷ gs) =
    if_first (bytes_eq (fact_of f).symbol (fact_of g).symbol && same_flag f.persistent g.persistent) (argument_pairs (fact_of f).args (fact_of g).args) (fact_pairs (map fact_of fs) (map fact_of gs))
    ∙ ap (both_pairs (fact_pair (fact_of f) (fact_of g))) (fact_pairs-listed fs gs)

pub action_pairs-listed : (xs ys : List (Action Variable)) → action_pairs (map action_of xs) (map action_of ys) ≡ listed (λ a b. action_pair (action_of a) (action_of b)) xs ys
action_pairs-listed [] [] = refl
action_pairs-listed [] (y ∷ ys) = refl
action_pairs-listed (x ∷ xs) [] = refl
action_pairs-listed (x ∷ xs) (y ∷ ys) = ap (both_pairs (action_pair (action_of x) (action_of y))) (action_pairs-listed xs ys)

-- what a loop has gathered, with the pairs of what is left, are the pairs of the two lists
pub record Gathered {A : Type 0} (p : A → A → Option (List Pair)) (xs ys : List A) (made : List Pair) (left right : List A) : Type 0 where
  pub pairs : both_pairs (Some made) (listed p left right) ≡ listed p xs ys
  pub alike : length left ≡ length right

module _ {A : Type 0} (p : A → A → Option (List Pair)) where
  pub unlike : (xs ys : List A) → (length xs ≡ length ys → ⊥) → listed p xs ys ≡ None
  unlike [] [] h = absurd (h refl)
  unlike [] (y ∷ ys) h = refl
  unlike (x ∷ xs) [] h = refl
  unlike (x ∷ xs) (y ∷ ys) h = ap (both_pairs (p x y)) (unlike xs ys (λ e. h (ap suc e))) ∙ both_none (p x y)

  pub gathered_start : (xs ys : List A) → length xs ≡ length ys → Gathered p xs ys [] xs ys
  gathered_start xs ys e = record { pairs = both_nothing (listed p xs ys); alike = e }

  -- one turn of the loop, whose two elements have these pairs
  pub gathered_more : (xs ys : List A) (made pairs after : List Pair) (left right after_left after_right : List A) (x y : A) → left ≡ x ∷ after_left → right ≡ y ∷ after_right → p x y ≡ Some pairs
      → after ≡ made ++ pairs → Gathered p xs ys made left right → Gathered p xs ys after after_left after_right
  gathered_more xs ys made pairs after left right after_left after_right x y e d found grown gathered = record {
    pairs = ap (λ (ps : List Pair). both_pairs (Some ps) (listed p after_left after_right)) grown ∙ both_assoc (Some made) (Some pairs) (listed p after_left after_right)
        ∙ ap (λ (o : Option (List Pair)). both_pairs (Some made) (both_pairs o (listed p after_left after_right))) (sym found)
        ∙ ap₂ (λ (l r : List A). both_pairs (Some made) (listed p l r)) (sym e) (sym d) ∙ gathered.pairs;
    alike = let h : length (x ∷ after_left) ≡ length (y ∷ after_right) = ap length (sym e) ∙ gathered.alike ∙ ap length d in omega arith;
  }

  -- a turn whose two elements have no pairs
  pub gathered_stop : (xs ys : List A) (made : List Pair) (left right after_left after_right : List A) (x y : A) → left ≡ x ∷ after_left → right ≡ y ∷ after_right → p x y ≡ None
      → Gathered p xs ys made left right → listed p xs ys ≡ None
  gathered_stop xs ys made left right after_left after_right x y e d found gathered =
      sym gathered.pairs ∙ ap₂ (λ (l r : List A). both_pairs (Some made) (listed p l r)) e d
      ∙ ap (λ (o : Option (List Pair)). both_pairs (Some made) (both_pairs o (listed p after_left after_right))) found

  -- the loop has ended
  pub gathered_end : (xs ys : List A) (made : List Pair) (left right : List A) → (left ≡ []) ⊎ (right ≡ []) → Gathered p xs ys made left right → listed p xs ys ≡ Some made
  gathered_end xs ys made left right h gathered = ended left right h gathered.alike gathered.pairs
    where
      ended : (l r : List A) → (l ≡ []) ⊎ (r ≡ []) → length l ≡ length r → both_pairs (Some made) (listed p l r) ≡ listed p xs ys → listed p xs ys ≡ Some made
      ended [] [] e alike whole = sym whole ∙ ap Some (append-nil made)
      ended [] (y ∷ r) e alike whole = absurd (omega arith)
      ended (x ∷ l) [] e alike whole = absurd (omega arith)
      ended (x ∷ l) (y ∷ r) (inl e) alike whole = absurd cc
      ended (x ∷ l) (y ∷ r) (inr e) alike whole = absurd cc

-- the pairs of the elements that both lists have
abbrev pub common : List (Term Variable) → List (Term Variable) → List Pair
common ts us = common_pairs (map view ts) (map view us)

-- one turn of a loop that gathers them
pub common_more : (made after all : List Pair) (left right after_left after_right : List (Term Variable)) (x y : Term Variable) → left ≡ x ∷ after_left → right ≡ y ∷ after_right
    → after ≡ made ++ (view x, view y) ∷ [] → made ++ common left right ≡ all → after ++ common after_left after_right ≡ all
common_more made after all left right after_left after_right x y e d grown before =
    ap (λ (ps : List Pair). ps ++ common after_left after_right) grown ∙ append_assoc made ((view x, view y) ∷ []) (common after_left after_right)
    ∙ ap₂ (λ (l r : List (Term Variable)). made ++ common l r) (sym e) (sym d) ∙ before

pub common_end : (made all : List Pair) (left right : List (Term Variable)) → (left ≡ []) ⊎ (right ≡ []) → made ++ common left right ≡ all → made ≡ all
common_end made all [] right h e = sym (append-nil made) ∙ e
common_end made all (t ∷ ts) [] h e = sym (append-nil made) ∙ e
common_end made all (t ∷ ts) (u ∷ us) (inl h) e = absurd cc
common_end made all (t ∷ ts) (u ∷ us) (inr h) e = absurd cc
