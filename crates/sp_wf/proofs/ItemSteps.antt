-- One item after the other: on its rules, on its restrictions and lemmas, and on its rules with what it binds.
use Rattle.std.proofs.Common.{◌≡◌, ℕ, ◌+◌, ◌<◌, ◌≤◌, List, [], ◌∷◌, ◌++◌, map, drop, length, get_or, refl, sym, ap, ap₂, ◌∙◌, append_assoc, arith}
use Rattle.std.proofs.Math.ListN.{drop_of_length-le}
use Rattle.sp_spec.specs.Theory.{Lemma}
use Rattle.sp_spec.specs.Written.{WrittenRule}
use Rattle.sp_spec.proofs.Lists.{next_there}
use Rattle.sp_spec_text.specs.Written.{Item}
use Rattle.sp_declared.specs.WrittenRules.{item_written, rules_written}
use Rattle.sp_finding.specs.Finding.{Finding, lines_after}
use Rattle.sp_finding.proofs.Telling.{told_both}
use Rattle.sp_wf_rules.specs.BindingFindings.{BoundNames}
use Rattle.sp_wf_formulas.specs.Statements.{item_statements, statements_in}
use Rattle.sp_wf.specs.ItemFindings.{on_rules, on_lemmas, with_bound}

on_both_rules : (on : WrittenRule → List Finding) (rs ss : List WrittenRule) → on_rules on (rs ++ ss) ≡ on_rules on rs ++ on_rules on ss
on_both_rules on [] ss = refl
on_both_rules on (r ∷ rs) ss = ap (λ (fs : List Finding). on r ++ fs) (on_both_rules on rs ss) ∙ sym (append_assoc (on r) (on_rules on rs) (on_rules on ss))

on_both_lemmas : (on : Lemma → List Finding) (ls ms : List Lemma) → on_lemmas on (ls ++ ms) ≡ on_lemmas on ls ++ on_lemmas on ms
on_both_lemmas on [] ms = refl
on_both_lemmas on (l ∷ ls) ms = ap (λ (fs : List Finding). on l ++ fs) (on_both_lemmas on ls ms) ∙ sym (append_assoc (on l) (on_lemmas on ls) (on_lemmas on ms))

pub rule_next : (on : WrittenRule → List Finding) (x : Item) (xs : List Item) → on_rules on (rules_written (x ∷ xs)) ≡ on_rules on (item_written x) ++ on_rules on (rules_written xs)
rule_next on x xs = on_both_rules on (item_written x) (rules_written xs)

pub statement_next : (on : Lemma → List Finding) (x : Item) (xs : List Item) → on_lemmas on (statements_in (x ∷ xs)) ≡ on_lemmas on (item_statements x) ++ on_lemmas on (statements_in xs)
statement_next on x xs = on_both_lemmas on (item_statements x) (statements_in xs)

-- ---- with what each binds

pub next_bound : {A B : Type 0} (on : BoundNames → WrittenRule → List Finding) (view : A → Item) (names : B → BoundNames) (ys xs : List A) (ds bs : List B) (i : ℕ) (x : A) (n : B) (a b target : List (List ℕ))
    → ys ≡ xs → i < length ys → x ≡ get_or ys i x → ds ≡ bs → i < length ds → n ≡ get_or ds i n → b ≡ lines_after a (on_rules (on (names n)) (item_written (view x)))
    → lines_after a (with_bound on (map names (drop i bs)) (map view (drop i xs))) ≡ target → lines_after b (with_bound on (map names (drop (i + 1) bs)) (map view (drop (i + 1) xs))) ≡ target
next_bound {A = A} {B = B} on view names ys xs ds bs i x n a b target same h e alike within found told inv =
    let rest = with_bound on (map names (drop (i + 1) bs)) (map view (drop (i + 1) xs)) in
    ap (λ (ls : List (List ℕ)). lines_after ls rest) told
    ∙ told_both (on_rules (on (names n)) (item_written (view x))) a rest
    ∙ sym (ap₂ (λ (cs : List B) (zs : List A). lines_after a (with_bound on (map names cs) (map view zs))) (next_there ds bs i n alike within found) (next_there ys xs i x same h e))
    ∙ inv

-- behind the last there is none
pub none_bound : {A : Type 0} (on : BoundNames → WrittenRule → List Finding) (names : A → BoundNames) (ds bs : List A) (i : ℕ) (us vs : List Item) (a target : List (List ℕ)) → ds ≡ bs → length ds ≤ i
    → lines_after a (with_bound on (map names (drop i bs)) us) ≡ target → lines_after a (with_bound on (map names (drop (i + 1) bs)) vs) ≡ target
none_bound {A = A} on names ds bs i us vs a target alike past inv =
    let here : length bs ≤ i = omega (arith, ap length alike) in
    let later : length bs ≤ i + 1 = omega arith in
    ap (λ (cs : List A). lines_after a (with_bound on (map names cs) vs)) (drop_of_length-le bs later)
    ∙ sym (ap (λ (cs : List A). lines_after a (with_bound on (map names cs) us)) (drop_of_length-le bs here)) ∙ inv

-- behind the last item there is none
none_left : (on : BoundNames → WrittenRule → List Finding) (bs : List BoundNames) → with_bound on bs [] ≡ []
none_left on [] = refl
none_left on (b ∷ bs) = refl

pub bound_past : {A : Type 0} (on : BoundNames → WrittenRule → List Finding) (view : A → Item) (ys xs : List A) (bs : List BoundNames) (i : ℕ) (a target : List (List ℕ)) → ys ≡ xs → length ys ≤ i
    → lines_after a (with_bound on bs (map view (drop i xs))) ≡ target → a ≡ target
bound_past {A = A} on view ys xs bs i a target same past inv =
    let behind : length xs ≤ i = omega (arith, ap length same) in
    sym (ap (lines_after a) (none_left on bs)) ∙ sym (ap (λ (zs : List A). lines_after a (with_bound on bs (map view zs))) (drop_of_length-le xs behind)) ∙ inv
