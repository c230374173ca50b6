-- The first form of a name is kept in a map.
use mathlib.Core.Bool.{beq}
use Rattle.std.proofs.Common.{◌≡◌, Bool, true, false, not, ◌&&◌, cond, if◌then◌else◌, List, [], ◌∷◌, ◌++◌, Option, Some, None, refl, sym, ap, ap₂, ◌∙◌}
use Rattle.std.specs.Prelude.{option_map}
use Rattle.std.proofs.lemmas.Bool.{and_parts}
use Rattle.std.proofs.lemmas.Cmp.{nat_list_eq_equiv}
use Rattle.std.proofs.lemmas.List.Folds.{find-append}
use Rattle.std.proofs.lemmas.Slice.Eq.{bytes_eq-Decides}
use Rattle.std.specs.Option.{option_or}
use Rattle.std.specs.List.{find}
use Rattle.std.specs.Str.{bytes_eq}
use Rattle.indexmap.specs.IndexMap.{IndexMap, get, IsEmpty, Updates, with_entries}
use Rattle.sp_warn.specs.Firsts.{called_by, first_of, Knows}
use Rattle.sp_warn.specs.Forms.{Form, is_same_form, is_action, is_same_bool, are_namesakes, differs_from_first}
use Rattle.sp_warn.specs.FormView.{usage_of, form_of}
use Rattle.sp_warn.specs.declared.forms.Form as memory
use Rattle.sp_warn.specs.declared.several.Called.{Called}
use Rattle.sp_warn.specs.contracts.several.CalledPartialEq.TheImpl as calls

-- ---- namesakes

same_bools : (a b : Bool) → beq a b ≡ is_same_bool a b
same_bools true true = refl
same_bools true false = refl
same_bools false true = refl
same_bools false false = refl

bools_turned : (a b : Bool) → is_same_bool a b ≡ is_same_bool b a
bools_turned true true = refl
bools_turned true false = refl
bools_turned false true = refl
bools_turned false false = refl

bools_told : (a b : Bool) → is_same_bool a b ≡ true → a ≡ b
bools_told true true e = refl
bools_told true false e = absurd cc
bools_told false true e = absurd cc
bools_told false false e = refl

called_tests : (x y : memory.Form) → calls.ghosts.eq (called_by x) (called_by y) ≡ are_namesakes (form_of x) (form_of y)
called_tests x y = ap (λ (b : Bool). bytes_eq x.symbol.now y.symbol.now && b) (same_bools (is_action (usage_of x.usage)) (is_action (usage_of y.usage)))

turned : (x y : Form) → are_namesakes x y ≡ are_namesakes y x
turned x y = ap₂ (λ (a b : Bool). a && b) (nat_list_eq_equiv.symm x.symbol y.symbol) (bools_turned (is_action x.usage) (is_action y.usage))

-- namesakes have one first form
same_first : (x y : Form) (fs : List Form) → are_namesakes x y ≡ true → first_of x fs ≡ first_of y fs
same_first x y fs e =
    let parts = and_parts (bytes_eq x.symbol y.symbol) (is_same_bool (is_action x.usage) (is_action y.usage)) e in
    let symbols : x.symbol ≡ y.symbol = (bytes_eq-Decides x.symbol y.symbol).0 parts.0 in
    let kinds : is_action x.usage ≡ is_action y.usage = bools_told (is_action x.usage) (is_action y.usage) parts.1 in
    λ i. find (λ z. bytes_eq (symbols i) z.symbol && is_same_bool (kinds i) (is_action z.usage)) fs

-- ---- whether a form differs from the first of its name

abbrev differs_by : Form → Option Form → Bool
differs_by x None = false
differs_by x (Some y) = not (is_same_form x y)

differs_at : (b : Bool) (x y : Form) (fs : List Form) → differs_from_first x fs ≡ differs_by x (first_of x fs)
    → (if b then not (is_same_form x y) else differs_from_first x fs) ≡ differs_by x (cond b (Some y) (first_of x fs))
differs_at true x y fs rest = refl
differs_at false x y fs rest = rest

by_first : (x : Form) (fs : List Form) → differs_from_first x fs ≡ differs_by x (first_of x fs)
by_first x [] = refl
by_first x (y ∷ fs) = differs_at (are_namesakes x y) x y fs (by_first x fs)

-- ---- one more form

or_none : (o : Option Form) → option_or o None ≡ o
or_none None = refl
or_none (Some f) = refl

-- another name's first form stays
passed : (x y : Form) (fs : List Form) → are_namesakes x y ≡ false → first_of x (fs ++ y ∷ []) ≡ first_of x fs
passed x y fs e =
    find-append (are_namesakes x) fs (y ∷ []) ∙ ap (λ (b : Bool). option_or (first_of x fs) (cond b (Some y) None)) e ∙ or_none (first_of x fs)

stays : (b : Bool) (x y f : Form) (fs : List Form) → are_namesakes x y ≡ b → first_of y fs ≡ Some f → first_of x (fs ++ y ∷ []) ≡ first_of x fs
stays true x y f fs named there =
    let known : first_of x fs ≡ Some f = same_first x y fs named ∙ there in
    find-append (are_namesakes x) fs (y ∷ []) ∙ ap (λ (o : Option Form). option_or o (find (are_namesakes x) (y ∷ []))) known ∙ sym known
stays false x y f fs named there = passed x y fs named

added : (b : Bool) (x : Form) (y : memory.Form) (old : Option memory.Form) (fs : List Form) → are_namesakes x (form_of y) ≡ b → option_map form_of old ≡ first_of x fs → first_of (form_of y) fs ≡ None
    → option_map form_of (cond b (Some y) old) ≡ first_of x (fs ++ form_of y ∷ [])
added true x y old fs named same none =
    sym (find-append (are_namesakes x) fs (form_of y ∷ [])
    ∙ ap₂ (λ (o : Option Form) (b : Bool). option_or o (cond b (Some (form_of y)) None)) (same_first x (form_of y) fs named ∙ none) named)
added false x y old fs named same none = same ∙ sym (passed x (form_of y) fs named)

-- ---- what a map tells that knows the first forms

module _ {S : Type 0} (m : IndexMap Called memory.Form S) (before : List Form) (knows : Knows m before) (y : memory.Form) (k : Called) (is : k ≡ called_by y) where
  looked_up : option_map form_of (get calls.ghosts.eq m k) ≡ first_of (form_of y) before
  looked_up = ap (λ (c : Called). option_map form_of (get calls.ghosts.eq m c)) is ∙ knows y

  first_is : (o : Option memory.Form) → get calls.ghosts.eq m k ≡ o → first_of (form_of y) before ≡ option_map form_of o
  first_is o there = sym looked_up ∙ ap (option_map form_of) there

  pub differs_known : (f : memory.Form) → get calls.ghosts.eq m k ≡ Some f → not (is_same_form (form_of y) (form_of f)) ≡ differs_from_first (form_of y) before
  differs_known f there = sym (by_first (form_of y) before ∙ ap (differs_by (form_of y)) (first_is (Some f) there))

  pub differs_not : get calls.ghosts.eq m k ≡ None → false ≡ differs_from_first (form_of y) before
  differs_not none = sym (by_first (form_of y) before ∙ ap (differs_by (form_of y)) (first_is None none))

  pub knows_known : (f : memory.Form) → get calls.ghosts.eq m k ≡ Some f → Knows m (before ++ form_of y ∷ [])
  knows_known f there x = knows x ∙ sym (stays (are_namesakes (form_of x) (form_of y)) (form_of x) (form_of y) (form_of f) before refl (first_is (Some f) there))

  pub knows_new : (n : IndexMap Called memory.Form S) → get calls.ghosts.eq m k ≡ None → Updates calls.ghosts.eq m n k (Some y) → Knows n (before ++ form_of y ∷ [])
  knows_new n none updates x =
      let old = get calls.ghosts.eq m (called_by x) in
      ap (option_map form_of) (updates.0 (called_by x))
      ∙ ap (λ (b : Bool). option_map form_of (cond b (Some y) old)) (ap (λ (c : Called). calls.ghosts.eq c (called_by x)) is ∙ called_tests y x ∙ turned (form_of y) (form_of x))
      ∙ added (are_namesakes (form_of x) (form_of y)) (form_of x) y old before refl (knows x) (first_is None none)

pub knows_nothing : {S : Type 0} (m : IndexMap Called memory.Form S) → IsEmpty m → Knows m []
knows_nothing m empty x = ap (λ es. option_map form_of (get calls.ghosts.eq (with_entries m es) (called_by x))) empty
