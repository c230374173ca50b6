-- Variables that stand in facts, and those that no premise binds.
use Rattle.std.proofs.Common.{◌≡◌, ℕ, Bool, true, false, not, ◌&&◌, ◌||◌, List, [], ◌∷◌, ◌++◌, length, refl, sym, ap, ◌∙◌}
use Rattle.std.proofs.Math.Bool.{or_assoc}
use Rattle.std.specs.Str.{bytes_eq}
use Rattle.sp_spec.specs.Lists.{Every}
use Rattle.sp_spec.specs.Rule.{Fact, Facts}
use Rattle.sp_spec.specs.Formula.{Written}
use Rattle.sp_spec.specs.Written.{in_terms, in_facts, in_actions, occurrences}
use Rattle.sp_spec.specs.Findings.{is_named, is_pub}
use Rattle.sp_spec.specs.Term.{var, constant, name, app, Terms, none, more, count}
use Rattle.sp_spec.proofs.Lists.{every_from}
use Rattle.sp_term.specs.declared.term.Term.{Term}
use Rattle.sp_read_parts.specs.Views.{terms}
use Rattle.sp_read_parts.specs.declared.written.WrittenVariable.{WrittenVariable}
use Rattle.sp_finding.specs.Finding.{Finding, in_no_premise, told, lines_after}
use Rattle.sp_finding.proofs.Counted.{counted}
use Rattle.sp_wf_rules.specs.RuleFindings.{makes_fresh, first_sort, unbound}
use Rattle.sp_wf_rules.specs.Told.{stands_among}
use Rattle.sp_wf_rules.proofs.RuleSorts.{member_named}

-- with another number of arguments there is not the one
not_made_counted : (x : List ℕ) (ts : Terms Written) → (count ts ≡ 1 → ⊥) → makes_fresh x ts ≡ false
not_made_counted x none h = refl
not_made_counted x (more t none) h = absurd (h refl)
not_made_counted x (more (var y) (more u ts)) h = refl
not_made_counted x (more (constant c) (more u ts)) h = refl
not_made_counted x (more (name n) (more u ts)) h = refl
not_made_counted x (more (app f xs) (more u ts)) h = refl

pub not_made : (x : List ℕ) (ts : List (Term WrittenVariable)) → (length ts ≡ 1 → ⊥) → makes_fresh x (terms ts) ≡ false
not_made x ts h = not_made_counted x (terms ts) (λ e. h (sym (counted ts) ∙ e))

pub named_in_either : (x : List ℕ) (xs ys : List Written) → is_named x (xs ++ ys) ≡ is_named x xs || is_named x ys
named_in_either x [] ys = refl
named_in_either x (y ∷ xs) ys = ap (λ (b : Bool). bytes_eq y.name x || b) (named_in_either x xs ys) ∙ sym (or_assoc (bytes_eq y.name x) (is_named x xs) (is_named x ys))

pub among : (x : List ℕ) (fs : List (Fact Written)) → stands_among x fs ≡ is_named x (in_facts fs)
among x [] = refl
among x (f ∷ fs) = ap (λ (b : Bool). is_named x (in_terms f.args) || b) (among x fs) ∙ sym (named_in_either x (in_terms f.args) (in_facts fs))

-- what stands in a premise is not unbound
unbound_both : (r : List ℕ) (facts : Facts Written) (xs ys : List Written) → unbound r facts (xs ++ ys) ≡ unbound r facts xs ++ unbound r facts ys
unbound_both r facts [] ys = refl
unbound_both r facts (x ∷ xs) ys =
    ap (told (not (is_pub (first_sort facts x.name)) && not (is_named x.name (in_facts facts.premises))) (in_no_premise r x.name)) (unbound_both r facts xs ys)
    ∙ on (not (is_pub (first_sort facts x.name)) && not (is_named x.name (in_facts facts.premises)))
  where
    on : (b : Bool) → told b (in_no_premise r x.name) (unbound r facts xs ++ unbound r facts ys) ≡ told b (in_no_premise r x.name) (unbound r facts xs) ++ unbound r facts ys
    on true = refl
    on false = refl

not_told : (a b : Bool) (finding : Finding) (findings : List Finding) → b ≡ true → told (a && not b) finding findings ≡ findings
not_told true true finding findings e = refl
not_told false true finding findings e = refl
not_told a false finding findings e = absurd cc

all_bound : (r : List ℕ) (facts : Facts Written) (xs : List Written) → Every (λ (x : Written). is_named x.name (in_facts facts.premises) ≡ true) xs → unbound r facts xs ≡ []
all_bound r facts [] h = refl
all_bound r facts (x ∷ xs) h =
    not_told (not (is_pub (first_sort facts x.name))) (is_named x.name (in_facts facts.premises)) (in_no_premise r x.name) (unbound r facts xs) h.0 ∙ all_bound r facts xs h.1

unbound_all : (r : List ℕ) (facts : Facts Written) → unbound r facts (occurrences facts) ≡ unbound r facts (in_actions facts.actions) ++ unbound r facts (in_facts facts.conclusions)
unbound_all r facts =
    unbound_both r facts (in_facts facts.premises) (in_actions facts.actions ++ in_facts facts.conclusions)
    ∙ ap (λ (fs : List Finding). fs ++ unbound r facts (in_actions facts.actions ++ in_facts facts.conclusions))
    (all_bound r facts (in_facts facts.premises) (every_from (λ (x : Written). is_named x.name (in_facts facts.premises) ≡ true) (in_facts facts.premises) (λ x m. member_named x (in_facts facts.premises) m)))
    ∙ unbound_both r facts (in_actions facts.actions) (in_facts facts.conclusions)

pub unbound_anywhere : (r : List ℕ) (facts : Facts Written) (xs : List Written) (a b : List (List ℕ)) → xs ≡ occurrences facts → b ≡ lines_after a (unbound r facts xs)
    → b ≡ lines_after a (unbound r facts (in_actions facts.actions) ++ unbound r facts (in_facts facts.conclusions))
unbound_anywhere r facts xs a b e k = k ∙ ap (λ (ys : List Written). lines_after a (unbound r facts ys)) e ∙ ap (lines_after a) (unbound_all r facts)
