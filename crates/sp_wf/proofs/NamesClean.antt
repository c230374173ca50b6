-- No name is repeated exactly where the names of the rules are distinct, and those of the restrictions and lemmas are.
use Rattle.std.proofs.Common.{◌≡◌, ℕ, Bool, true, false, true≢false, not, ◌&&◌, ◌||◌, List, [], ◌∷◌, ◌++◌, map, inl, inr, ⊎_elim, refl, sym, ap, ap₂, ◌∙◌, subst}
use Rattle.std.specs.Str.{bytes_eq}
use Rattle.std.proofs.lemmas.Slice.Eq.{bytes_eq-Decides}
use Rattle.std.proofs.lemmas.List.{map-append}
use Rattle.std.proofs.lemmas.Bool.{false_from_ne_true, or_parts, and_parts, not_from_false, not-true}
use Rattle.sp_spec.specs.Lists.{Member, Every, Distinct}
use Rattle.sp_spec.specs.Theory.{Restriction, Lemma}
use Rattle.sp_spec.specs.Written.{WrittenRule, is_listed}
use Rattle.sp_spec.proofs.Lists.{every_member, every_from}
use Rattle.sp_spec.proofs.Listed.{equal_names}
use Rattle.sp_spec_text.specs.Written.{Item, builtins_item, functions_item, equations_item, heuristic_item, block_item, rule_item, restriction_item, lemma_item, restrictions_in, lemmas_in}
use Rattle.sp_declared.specs.WrittenRules.{item_written, rules_written}
use Rattle.sp_finding.specs.Finding.{Finding, used_twice, are_none}
use Rattle.sp_finding.proofs.Nothing.{both_false, both_true, and_grouped, told_not, none_append}
use Rattle.sp_wf_formulas.specs.Statements.{item_statements, statements_in}
use Rattle.sp_wf.specs.ItemFindings.{names_of_rules, names_of_statements, told_again, repeated}

abbrev pub rule_names : List Item → List (List ℕ)
rule_names xs = map (λ (r : WrittenRule). r.name) (rules_written xs)

abbrev pub statement_names : List Item → List (List ℕ)
statement_names xs = map (λ (l : Lemma). l.name) (statements_in xs)

-- each is new behind these
abbrev all_new : List (List ℕ) → List (List ℕ) → Bool
all_new before [] = true
all_new before (x ∷ xs) = not (is_listed x before) && all_new (x ∷ before) xs

new_names : (say : List ℕ → Finding) (before xs : List (List ℕ)) → are_none (told_again say before xs) ≡ all_new before xs
new_names say before [] = refl
new_names say before (x ∷ xs) =
    told_not (is_listed x before) (say x) (told_again say (x ∷ before) xs) ∙ ap (λ (b : Bool). not (is_listed x before) && b) (new_names say (x ∷ before) xs)

-- the order of the names before doesn't matter
new_behind : (one other xs : List (List ℕ)) → ((q : List ℕ) → is_listed q one ≡ is_listed q other) → all_new one xs ≡ all_new other xs
new_behind one other [] e = refl
new_behind one other (x ∷ xs) e =
    ap₂ (λ (a b : Bool). not a && b) (e x) (new_behind (x ∷ one) (x ∷ other) xs (λ q. ap (λ (b : Bool). bytes_eq x q || b) (e q)))

listed_between : (q x : List ℕ) (xs before : List (List ℕ)) → is_listed q (xs ++ x ∷ before) ≡ is_listed q (x ∷ xs ++ before)
listed_between q x [] before = refl
listed_between q x (y ∷ xs) before = ap (λ (b : Bool). bytes_eq y q || b) (listed_between q x xs before) ∙ turned (bytes_eq y q) (bytes_eq x q) (is_listed q (xs ++ before))
  where
    turned : (a b c : Bool) → (a || (b || c)) ≡ (b || (a || c))
    turned true true c = refl
    turned true false c = refl
    turned false b c = refl

new_parts : (before xs ys : List (List ℕ)) → all_new before (xs ++ ys) ≡ (all_new before xs && all_new (xs ++ before) ys)
new_parts before [] ys = refl
new_parts before (x ∷ xs) ys =
    ap (λ (b : Bool). not (is_listed x before) && b)
    (new_parts (x ∷ before) xs ys ∙ ap (λ (b : Bool). all_new (x ∷ before) xs && b) (new_behind (xs ++ x ∷ before) (x ∷ xs ++ before) ys (λ q. listed_between q x xs before)))
    ∙ and_grouped (not (is_listed x before)) (all_new (x ∷ before) xs) (all_new (x ∷ xs ++ before) ys)

-- the names of an item, and those of the others
rules_begin : (x : Item) (xs : List Item) → rule_names (x ∷ xs) ≡ names_of_rules x ++ rule_names xs
rules_begin x xs = map-append (λ (r : WrittenRule). r.name) (item_written x) (rules_written xs)

statements_begin : (x : Item) (xs : List Item) → statement_names (x ∷ xs) ≡ names_of_statements x ++ statement_names xs
statements_begin x xs = map-append (λ (l : Lemma). l.name) (item_statements x) (statements_in xs)

four : (a b c d : Bool) → (a && (b && (c && d))) ≡ ((a && c) && (b && d))
four true true c d = refl
four true false true d = refl
four true false false d = refl
four false b c d = refl

of_each_kind : (rs ls : List (List ℕ)) (xs : List Item) → are_none (repeated rs ls xs) ≡ (all_new rs (rule_names xs) && all_new ls (statement_names xs))
of_each_kind rs ls [] = refl
of_each_kind rs ls (x ∷ xs) =
    let mine = names_of_rules x in
    let own = names_of_statements x in
    let rest = repeated (mine ++ rs) (own ++ ls) xs in
    none_append (told_again used_twice rs mine) (told_again used_twice ls own ++ rest)
    ∙ ap₂ (λ (a b : Bool). a && b) (new_names used_twice rs mine) (none_append (told_again used_twice ls own) rest)
    ∙ ap₂ (λ (b c : Bool). all_new rs mine && (b && c)) (new_names used_twice ls own) (of_each_kind (mine ++ rs) (own ++ ls) xs)
    ∙ four (all_new rs mine) (all_new ls own) (all_new (mine ++ rs) (rule_names xs)) (all_new (own ++ ls) (statement_names xs))
    ∙ sym (ap₂ (λ (a b : Bool). a && b) (ap (all_new rs) (rules_begin x xs) ∙ new_parts rs mine (rule_names xs)) (ap (all_new ls) (statements_begin x xs) ∙ new_parts ls own (statement_names xs)))

abbrev New : List (List ℕ) → List ℕ → Type 0
New before x = is_listed x before ≡ false

drop_first : (before : List (List ℕ)) (x : List ℕ) (xs : List (List ℕ)) → Every (New (x ∷ before)) xs → Every (New before) xs
drop_first before x [] h = tt
drop_first before x (y ∷ ys) h = ((or_parts (bytes_eq x y) (is_listed y before) h.0).1, drop_first before x ys h.1)

not_again : (before : List (List ℕ)) (x : List ℕ) (xs : List (List ℕ)) → Every (New (x ∷ before)) xs → Member x xs → ⊥
not_again before x xs h m = true≢false (sym (equal_names x) ∙ (or_parts (bytes_eq x x) (is_listed x before) (every_member (New (x ∷ before)) xs x m h)).0)

new_and_distinct : (before xs : List (List ℕ)) → all_new before xs ≡ true → Every (New before) xs × Distinct xs
new_and_distinct before [] e = (tt, tt)
new_and_distinct before (x ∷ xs) e =
    let k = and_parts (not (is_listed x before)) (all_new (x ∷ before) xs) e in
    let r = new_and_distinct (x ∷ before) xs k.1 in
    ((not-true (is_listed x before) k.0, drop_first before x xs r.0), (not_again before x xs r.0, r.1))

all_are_new : (before xs : List (List ℕ)) → Every (New before) xs → Distinct xs → all_new before xs ≡ true
all_are_new before [] h d = refl
all_are_new before (x ∷ xs) h d =
    both_true (not_from_false (is_listed x before) h.0)
    (all_are_new (x ∷ before) xs
    (every_from (New (x ∷ before)) xs
    (λ y m. both_false (false_from_ne_true (bytes_eq x y) (λ e. d.0 (at y m ((bytes_eq-Decides x y).0 e)))) (every_member (New before) xs y m h.1)))
    d.1)
  where
    at : (y : List ℕ) → Member y xs → x ≡ y → Member x xs
    at y m e = subst (λ (z : List ℕ). Member z xs) (sym e) m

every_new : (xs : List (List ℕ)) → Every (New []) xs
every_new [] = tt
every_new (x ∷ xs) = (refl, every_new xs)

-- names, of which none is told
pub none_again : (say : List ℕ → Finding) (xs : List (List ℕ)) → are_none (told_again say [] xs) ≡ true → Distinct xs
none_again say xs e = (new_and_distinct [] xs (sym (new_names say [] xs) ∙ e)).1

pub distinct_told : (say : List ℕ → Finding) (xs : List (List ℕ)) → Distinct xs → are_none (told_again say [] xs) ≡ true
distinct_told say xs d = new_names say [] xs ∙ all_are_new [] xs (every_new xs) d

pub names_distinct : (xs : List Item) → are_none (repeated [] [] xs) ≡ true → Distinct (rule_names xs) × Distinct (statement_names xs)
names_distinct xs e =
    let k = and_parts (all_new [] (rule_names xs)) (all_new [] (statement_names xs)) (sym (of_each_kind [] [] xs) ∙ e) in
    ((new_and_distinct [] (rule_names xs) k.0).1, (new_and_distinct [] (statement_names xs) k.1).1)

pub distinct_names : (xs : List Item) → Distinct (rule_names xs) → Distinct (statement_names xs) → are_none (repeated [] [] xs) ≡ true
distinct_names xs d e = of_each_kind [] [] xs ∙ both_true (all_are_new [] (rule_names xs) (every_new (rule_names xs)) d) (all_are_new [] (statement_names xs) (every_new (statement_names xs)) e)

-- ---- the names of restrictions and lemmas in the order of the text, and those of all restrictions before those of all lemmas

abbrev pub both_names : List Item → List (List ℕ)
both_names xs = map (λ (r : Restriction). r.name) (restrictions_in xs) ++ map (λ (l : Lemma). l.name) (lemmas_in xs)

module _ (x : List ℕ) where
  -- a name in the middle of a list
  between : (ns ms : List (List ℕ)) (q : List ℕ) → Member q (ns ++ x ∷ ms) → Member q (x ∷ ns ++ ms)
  between [] ms q m = m
  between (n ∷ ns) ms q (inl m) = inr (inl m)
  between (n ∷ ns) ms q (inr m) = ⊎_elim (λ k. inl k) (λ k. inr (inr k)) (between ns ms q m)

  back_between : (ns ms : List (List ℕ)) (q : List ℕ) → Member q (x ∷ ns ++ ms) → Member q (ns ++ x ∷ ms)
  back_between [] ms q m = m
  back_between (n ∷ ns) ms q (inl m) = inr (back_between ns ms q (inl m))
  back_between (n ∷ ns) ms q (inr (inl m)) = inl m
  back_between (n ∷ ns) ms q (inr (inr m)) = inr (back_between ns ms q (inr m))

  to_front : (ns ms : List (List ℕ)) → Distinct (ns ++ x ∷ ms) → Distinct (x ∷ ns ++ ms)
  to_front [] ms d = d
  to_front (n ∷ ns) ms d =
      let k = to_front ns ms d.1 in
      ((λ m. ⊎_elim (λ (e : n ≡ x). d.0 (back_between ns ms n (inl (sym e)))) (λ h. k.0 h) m), ((λ m. d.0 (back_between ns ms n (inr m))), k.1))

  from_front : (ns ms : List (List ℕ)) → Distinct (x ∷ ns ++ ms) → Distinct (ns ++ x ∷ ms)
  from_front [] ms d = d
  from_front (n ∷ ns) ms d =
      ((λ m. ⊎_elim (λ (e : x ≡ n). d.0 (inl (sym e))) (λ h. d.1.0 h) (between ns ms n m)), from_front ns ms ((λ m. d.0 (inr m)), d.1.1))

same_members : (xs : List Item) (q : List ℕ) → Member q (statement_names xs) → Member q (both_names xs)
same_members [] q m = m
same_members (builtins_item bs ∷ xs) q m = same_members xs q m
same_members (functions_item ss ∷ xs) q m = same_members xs q m
same_members (equations_item es ∷ xs) q m = same_members xs q m
same_members (heuristic_item ws ∷ xs) q m = same_members xs q m
same_members (block_item w ∷ xs) q m = same_members xs q m
same_members (rule_item bs r ∷ xs) q m = same_members xs q m
same_members (restriction_item r ∷ xs) q (inl m) = inl m
same_members (restriction_item r ∷ xs) q (inr m) = inr (same_members xs q m)
same_members (lemma_item l as' p ∷ xs) q m =
    back_between l.name (map (λ (r : Restriction). r.name) (restrictions_in xs)) (map (λ (k : Lemma). k.name) (lemmas_in xs)) q
    (⊎_elim (λ k. inl k) (λ k. inr (same_members xs q k)) m)

members_same : (xs : List Item) (q : List ℕ) → Member q (both_names xs) → Member q (statement_names xs)
members_same [] q m = m
members_same (builtins_item bs ∷ xs) q m = members_same xs q m
members_same (functions_item ss ∷ xs) q m = members_same xs q m
members_same (equations_item es ∷ xs) q m = members_same xs q m
members_same (heuristic_item ws ∷ xs) q m = members_same xs q m
members_same (block_item w ∷ xs) q m = members_same xs q m
members_same (rule_item bs r ∷ xs) q m = members_same xs q m
members_same (restriction_item r ∷ xs) q (inl m) = inl m
members_same (restriction_item r ∷ xs) q (inr m) = inr (members_same xs q m)
members_same (lemma_item l as' p ∷ xs) q m =
    ⊎_elim (λ k. inl k) (λ k. inr (members_same xs q k))
    (between l.name (map (λ (r : Restriction). r.name) (restrictions_in xs)) (map (λ (k : Lemma). k.name) (lemmas_in xs)) q m)

pub each_kind_distinct : (xs : List Item) → Distinct (statement_names xs) → Distinct (both_names xs)
each_kind_distinct [] d = d
each_kind_distinct (builtins_item bs ∷ xs) d = each_kind_distinct xs d
each_kind_distinct (functions_item ss ∷ xs) d = each_kind_distinct xs d
each_kind_distinct (equations_item es ∷ xs) d = each_kind_distinct xs d
each_kind_distinct (heuristic_item ws ∷ xs) d = each_kind_distinct xs d
each_kind_distinct (block_item w ∷ xs) d = each_kind_distinct xs d
each_kind_distinct (rule_item bs r ∷ xs) d = each_kind_distinct xs d
each_kind_distinct (restriction_item r ∷ xs) d = ((λ m. d.0 (members_same xs r.name m)), each_kind_distinct xs d.1)
each_kind_distinct (lemma_item l as' p ∷ xs) d =
    from_front l.name (map (λ (r : Restriction). r.name) (restrictions_in xs)) (map (λ (k : Lemma). k.name) (lemmas_in xs))
    ((λ m. d.0 (members_same xs l.name m)), each_kind_distinct xs d.1)

pub in_order_distinct : (xs : List Item) → Distinct (both_names xs) → Distinct (statement_names xs)
in_order_distinct [] d = d
in_order_distinct (builtins_item bs ∷ xs) d = in_order_distinct xs d
in_order_distinct (functions_item ss ∷ xs) d = in_order_distinct xs d
in_order_distinct (equations_item es ∷ xs) d = in_order_distinct xs d
in_order_distinct (heuristic_item ws ∷ xs) d = in_order_distinct xs d
in_order_distinct (block_item w ∷ xs) d = in_order_distinct xs d
in_order_distinct (rule_item bs r ∷ xs) d = in_order_distinct xs d
in_order_distinct (restriction_item r ∷ xs) d = ((λ m. d.0 (same_members xs r.name m)), in_order_distinct xs d.1)
in_order_distinct (lemma_item l as' p ∷ xs) d =
    let k = to_front l.name (map (λ (r : Restriction). r.name) (restrictions_in xs)) (map (λ (m : Lemma). m.name) (lemmas_in xs)) d in
    ((λ m. k.0 (same_members xs l.name m)), in_order_distinct xs k.1)
