-- Rules, restrictions and lemmas among items, one after the other.
use Rattle.std.proofs.Common.{◌≡◌, ◌<◌, ◌+◌, ℕ, List, [], ◌∷◌, ◌++◌, map, length, get_or, drop, Option, Some, None, option_map, option_and_then, refl, sym, ap, ◌∙◌, append_assoc, append-nil}
use Rattle.sp_spec.specs.Rule.{Rule}
use Rattle.sp_spec.specs.Written as written
use Rattle.sp_spec.specs.Guarded.{Guarded}
use Rattle.sp_law_guard.specs.CheckedForm.{checked_form}
use Rattle.sp_spec_text.specs.Written.{restrictions_in}
use Rattle.sp_read_parts.specs.Formulas.{formula}
use Rattle.sp_declared.specs.WrittenRules.{rules_written}
use Rattle.sp_written.specs.Views as view
use Rattle.sp_written.specs.declared.theory.Item.{Item}
use Rattle.sp_written.specs.declared.theory.Item.TheVariants as i
use Rattle.sp_written.specs.declared.theory.WrittenRestriction.{WrittenRestriction}
use Rattle.sp_written.specs.declared.theory.WrittenLemma.{WrittenLemma}
use Rattle.sp_pose.specs.Required.{Required, required_by, all_required}
use Rattle.sp_pose.specs.Asked.{Asked, asked_of, asked_with, asked_then, lemmas_read, all_asked}
use Rattle.sp_pose.specs.declared.problem.GuardedLemma.{GuardedLemma}
use Rattle.sp_spec.proofs.Lists.{next_item}

-- what is made of items is made of each: with what is made of one more at its end, it goes on behind that
item_pushed : (B : Type 0) (made : List Item → List B) → ((x : Item) (xs : List Item) → made (x ∷ xs) ≡ made (x ∷ []) ++ made xs)
    → (out more all : List B) (place : ℕ) (xs : List Item) (x : Item) → place < length xs → x ≡ get_or xs place x → out ++ made (drop place xs) ≡ all
    → more ≡ out ++ made (x ∷ []) → more ++ made (drop (place + 1) xs) ≡ all
item_pushed B made first out more all place xs x below is so pushed =
    let rest = drop (place + 1) xs in
    ap (λ (bs : List B). bs ++ made rest) pushed ∙ append_assoc out (made (x ∷ [])) (made rest)
    ∙ ap (λ (bs : List B). out ++ bs) (sym (first x rest)) ∙ sym (ap (λ (ys : List Item). out ++ made ys) (next_item xs place x below is)) ∙ so

-- ---- rules

abbrev pub rules_read : List Item → List Rule
rules_read xs = map written.rule_of (rules_written (view.items xs))

first_rules : (x : Item) (xs : List Item) → rules_read (x ∷ xs) ≡ rules_read (x ∷ []) ++ rules_read xs
first_rules (i.Builtins b) xs = refl
first_rules (i.Functions f) xs = refl
first_rules (i.Equations e) xs = refl
first_rules (i.Heuristic ws) xs = refl
first_rules (i.Block w) xs = refl
first_rules (i.Rule r) xs = refl
first_rules (i.Restriction r) xs = refl
first_rules (i.Lemma l) xs = refl

pub rule_pushed : (out more all : List Rule) (place : ℕ) (xs : List Item) (x : Item) → place < length xs → x ≡ get_or xs place x → out ++ rules_read (drop place xs) ≡ all
    → more ≡ out ++ rules_read (x ∷ []) → more ++ rules_read (drop (place + 1) xs) ≡ all
rule_pushed out more all place xs x below is so pushed = item_pushed Rule rules_read first_rules out more all place xs x below is so pushed

-- ---- restrictions

abbrev pub required_read : List Item → List Required
required_read xs = all_required (restrictions_in (view.items xs))

first_required : (x : Item) (xs : List Item) → required_read (x ∷ xs) ≡ required_read (x ∷ []) ++ required_read xs
first_required (i.Builtins b) xs = refl
first_required (i.Functions f) xs = refl
first_required (i.Equations e) xs = refl
first_required (i.Heuristic ws) xs = refl
first_required (i.Block w) xs = refl
first_required (i.Rule r) xs = refl
first_required (i.Restriction r) xs = ap (λ (rs : List Required). rs ++ required_read xs) (sym (append-nil (required_by r.name.now (checked_form (formula r.formula)))))
first_required (i.Lemma l) xs = refl

pub required_pushed : (out more all : List Required) (place : ℕ) (xs : List Item) (x : Item) → place < length xs → x ≡ get_or xs place x → out ++ required_read (drop place xs) ≡ all
    → more ≡ out ++ required_read (x ∷ []) → more ++ required_read (drop (place + 1) xs) ≡ all
required_pushed out more all place xs x below is so pushed = item_pushed Required required_read first_required out more all place xs x below is so pushed

-- of one restriction, with the form that it has
pub required_alone : (out more : List Required) (r : WrittenRestriction) (o : Option Guarded) → o ≡ checked_form (formula r.formula) → more ≡ out ++ required_by r.name.now o
    → more ≡ out ++ required_read (i.Restriction r ∷ [])
required_alone out more r o e pushed =
    pushed ∙ ap (λ (form : Option Guarded). out ++ required_by r.name.now form) e
    ∙ ap (λ (rs : List Required). out ++ rs) (sym (append-nil (required_by r.name.now (checked_form (formula r.formula)))))

-- ---- lemmas

pub last_read : (xs : List Item) (x : Item) → lemmas_read (xs ++ x ∷ []) ≡ lemmas_read xs ++ lemmas_read (x ∷ [])
last_read [] x = refl
last_read (i.Builtins b ∷ xs) x = last_read xs x
last_read (i.Functions f ∷ xs) x = last_read xs x
last_read (i.Equations e ∷ xs) x = last_read xs x
last_read (i.Heuristic ws ∷ xs) x = last_read xs x
last_read (i.Block w ∷ xs) x = last_read xs x
last_read (i.Rule r ∷ xs) x = last_read xs x
last_read (i.Restriction r ∷ xs) x = last_read xs x
last_read (i.Lemma l ∷ xs) x = ap (λ (ls : List WrittenLemma). l ∷ ls) (last_read xs x)

pub last_asked : (ls : List WrittenLemma) (l : WrittenLemma) → all_asked (ls ++ l ∷ []) ≡ asked_then (all_asked ls) l
last_asked [] l = at (checked_form (formula l.formula))
  where
    at : (o : Option Guarded) → option_and_then (λ (g : Guarded). option_map (λ (as' : List Asked). asked_with l g ∷ as') (Some [])) o ≡ option_map (λ (g : Guarded). [] ++ asked_with l g ∷ []) o
    at None = refl
    at (Some g) = refl
last_asked (k ∷ ls) l =
    ap (λ (o : Option (List Asked)). option_and_then (λ (g : Guarded). option_map (λ (as' : List Asked). asked_with k g ∷ as') o) (checked_form (formula k.formula))) (last_asked ls l)
    ∙ at (checked_form (formula k.formula)) (all_asked ls) (checked_form (formula l.formula))
  where
    at : (first : Option Guarded) (others : Option (List Asked)) (last : Option Guarded)
        → option_and_then (λ (g : Guarded). option_map (λ (as' : List Asked). asked_with k g ∷ as') (option_and_then (λ (as' : List Asked). option_map (λ (h : Guarded). as' ++ asked_with l h ∷ []) last) others)) first
        ≡ option_and_then (λ (as' : List Asked). option_map (λ (h : Guarded). as' ++ asked_with l h ∷ []) last) (option_and_then (λ (g : Guarded). option_map (λ (as' : List Asked). asked_with k g ∷ as') others) first)
    at None others last = refl
    at (Some g) None last = refl
    at (Some g) (Some as') None = refl
    at (Some g) (Some as') (Some h) = refl

-- one more, whose guarded form is there where the lemma has one
pub one_asked : (as' : List Asked) (l : WrittenLemma) (o : Option GuardedLemma) (form : Option Guarded) → option_map asked_of o ≡ option_map (λ (g : Guarded). asked_with l g) form
    → option_map (λ (m : GuardedLemma). as' ++ asked_of m ∷ []) o ≡ option_map (λ (g : Guarded). as' ++ asked_with l g ∷ []) form
one_asked as' l None None e = refl
one_asked as' l None (Some g) e = ap (option_map (λ (a : Asked). as' ++ a ∷ [])) e
one_asked as' l (Some m) None e = ap (option_map (λ (a : Asked). as' ++ a ∷ [])) e
one_asked as' l (Some m) (Some g) e = ap (option_map (λ (a : Asked). as' ++ a ∷ [])) e
