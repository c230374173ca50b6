-- In a rule where each variable stands with one sort, the sort of its first mark is the sort that it has, and the other way round.
use Rattle.std.proofs.Common.{◌≡◌, ℕ, Bool, true, false, not, ◌&&◌, ◌||◌, if◌then◌else◌, List, [], ◌∷◌, inl, inr, refl, sym, ap, ap₂, ◌∙◌, subst}
use Rattle.std.specs.Str.{bytes_eq}
use Rattle.std.proofs.lemmas.Slice.Eq.{bytes_eq-Decides}
use Rattle.sp_spec.specs.Term.{Sort, Msg, Fresh, Pub, var, constant, name, app, Terms, none, more}
use Rattle.sp_spec.specs.Rule.{Fact, Facts}
use Rattle.sp_spec.specs.Formula.{Mark, bare, of_sort, of_time, Written}
use Rattle.sp_spec.specs.Lists.{Member, Every}
use Rattle.sp_spec.proofs.Lists.{every_member, every_weaken, every_from}
use Rattle.sp_spec.specs.Written.{occurrences, is_argument, is_fr_argument, is_marked, is_written, sort_in}
use Rattle.sp_spec.specs.Findings.{agrees, is_fr_named, is_one, may_be_fresh, is_fresh_variable, has_wrong_premise, has_wrong_argument, has_two_sorts, is_named}
use Rattle.sp_finding.specs.Finding.{two_sorts, are_none}
use Rattle.sp_wf_rules.specs.RuleFindings.{makes_fresh, is_made_fresh, first_mark, sort_of_mark, first_sort, stands_otherwise, has_other_mark, two_sorted}
use Rattle.sp_finding.proofs.Nothing.{both_false, none_told, told_none}
use Rattle.std.proofs.lemmas.Bool.{or_right, or_left, or_parts, not-false}
use Rattle.sp_spec.proofs.Listed.{equal_names}
use Rattle.sp_spec.proofs.Findings.{fr_premise}

-- a right premise Fr makes its argument fresh
right_makes : (fr persistent eq may : Bool) → (fr && (persistent || false)) ≡ false → ((fr && true) && not may) ≡ false → (fr && (not persistent && (eq && may))) ≡ (fr && eq)
right_makes false persistent eq may p a = refl
right_makes true true eq may p a = absurd cc
right_makes true false true true p a = refl
right_makes true false true false p a = absurd cc
right_makes true false false may p a = refl

neither : (fr persistent : Bool) → (fr && (not persistent && false)) ≡ (fr && false)
neither false persistent = refl
neither true true = refl
neither true false = refl

fact_makes : (x : List ℕ) (fr persistent : Bool) (ts : Terms Written) → (fr && (persistent || not (is_one ts))) ≡ false → ((fr && is_one ts) && not (is_fresh_variable ts)) ≡ false
    → (fr && (not persistent && makes_fresh x ts)) ≡ (fr && is_argument x ts)
fact_makes x fr persistent none p a = neither fr persistent
fact_makes x fr persistent (more (var y) none) p a = right_makes fr persistent (bytes_eq y.name x) (may_be_fresh y.mark) p a
fact_makes x fr persistent (more (var y) (more t ts)) p a = neither fr persistent
fact_makes x fr persistent (more (constant c) none) p a = neither fr persistent
fact_makes x fr persistent (more (constant c) (more t ts)) p a = neither fr persistent
fact_makes x fr persistent (more (name n) none) p a = neither fr persistent
fact_makes x fr persistent (more (name n) (more t ts)) p a = neither fr persistent
fact_makes x fr persistent (more (app f us) none) p a = neither fr persistent
fact_makes x fr persistent (more (app f us) (more t ts)) p a = neither fr persistent

pub made_fresh : (x : List ℕ) (fs : List (Fact Written)) → has_wrong_premise fs ≡ false → has_wrong_argument fs ≡ false → is_made_fresh x fs ≡ is_fr_argument x fs
made_fresh x [] p a = refl
made_fresh x (f ∷ fs) p a =
    let q = or_parts _ _ p in
    let b = or_parts _ _ a in
    ap₂ (λ (c d : Bool). c || d) (fact_makes x (is_fr_named f) f.persistent f.args (fr_premise f q.0) b.0) (made_fresh x fs q.1 b.1)

-- marks of one sort
agreed_sort : (s : Sort) (m : Mark) → agrees false s m ≡ true → sort_of_mark m ≡ s
agreed_sort Msg bare e = refl
agreed_sort Msg of_time e = absurd cc
agreed_sort Msg (of_sort Msg) e = refl
agreed_sort Msg (of_sort Fresh) e = absurd cc
agreed_sort Msg (of_sort Pub) e = absurd cc
agreed_sort Fresh bare e = absurd cc
agreed_sort Fresh of_time e = absurd cc
agreed_sort Fresh (of_sort Msg) e = absurd cc
agreed_sort Fresh (of_sort Fresh) e = refl
agreed_sort Fresh (of_sort Pub) e = absurd cc
agreed_sort Pub bare e = absurd cc
agreed_sort Pub of_time e = absurd cc
agreed_sort Pub (of_sort Msg) e = absurd cc
agreed_sort Pub (of_sort Fresh) e = absurd cc
agreed_sort Pub (of_sort Pub) e = refl

-- the mark is the sort's own exactly where the sort is that one
abbrev owned : Sort → Sort → Bool
owned own s = is_marked own (of_sort s)

owned_mark : (own s : Sort) (m : Mark) → agrees false s m ≡ true → is_marked own m ≡ owned own s
owned_mark own Msg bare e = no_mark own
  where
    no_mark : (own : Sort) → is_marked own bare ≡ owned own Msg
    no_mark Msg = refl
    no_mark Fresh = refl
    no_mark Pub = refl
owned_mark own Msg of_time e = absurd cc
owned_mark own Msg (of_sort Msg) e = refl
owned_mark own Msg (of_sort Fresh) e = absurd cc
owned_mark own Msg (of_sort Pub) e = absurd cc
owned_mark own Fresh bare e = absurd cc
owned_mark own Fresh of_time e = absurd cc
owned_mark own Fresh (of_sort Msg) e = absurd cc
owned_mark own Fresh (of_sort Fresh) e = refl
owned_mark own Fresh (of_sort Pub) e = absurd cc
owned_mark own Pub bare e = absurd cc
owned_mark own Pub of_time e = absurd cc
owned_mark own Pub (of_sort Msg) e = absurd cc
owned_mark own Pub (of_sort Fresh) e = absurd cc
owned_mark own Pub (of_sort Pub) e = refl

-- each variable of the name stands with that sort
abbrev pub Stand : Sort → List ℕ → List Written → Type 0
Stand s x ys = Every (λ (y : Written). bytes_eq y.name x ≡ true → agrees false s y.mark ≡ true) ys

one_written : (own : Sort) (s : Sort) (c : Bool) (m : Mark) (later : Bool) (named : Bool) → (c ≡ true → agrees false s m ≡ true) → later ≡ (owned own s && named) → ((c && is_marked own m) || later) ≡ (owned own s && (c || named))
one_written own s false m later named h e = e
one_written own s true m later named h e = ap (λ (b : Bool). b || later) (owned_mark own s m (h refl)) ∙ known (owned own s) later named e
  where
    known : (o later named : Bool) → later ≡ (o && named) → (o || later) ≡ (o && true)
    known true later named k = refl
    known false later named k = k

all_written : (own s : Sort) (x : List ℕ) (ys : List Written) → Stand s x ys → is_written own x ys ≡ (owned own s && is_named x ys)
all_written own s x [] h = nowhere (owned own s)
  where
    nowhere : (o : Bool) → false ≡ (o && false)
    nowhere true = refl
    nowhere false = refl
all_written own s x (y ∷ ys) h = one_written own s (bytes_eq y.name x) y.mark (is_written own x ys) (is_named x ys) h.0 (all_written own s x ys h.1)

-- its first mark is that of one that stands there
first_of : (x : List ℕ) (ys : List Written) → is_named x ys ≡ true → (y : Written) × Member y ys × (bytes_eq y.name x ≡ true) × (first_mark x ys ≡ y.mark)
first_of x [] e = absurd cc
first_of x (y ∷ ys) e = at (bytes_eq y.name x) refl e (first_of x ys)
  where
    at : (b : Bool) → bytes_eq y.name x ≡ b → (b || is_named x ys) ≡ true → (is_named x ys ≡ true → (z : Written) × Member z ys × (bytes_eq z.name x ≡ true) × (first_mark x ys ≡ z.mark))
        → (z : Written) × Member z (y ∷ ys) × (bytes_eq z.name x ≡ true) × ((if b then y.mark else first_mark x ys) ≡ z.mark)
    at true is k later = (y, inl refl, is, refl)
    at false is k later = let r = later k in (r.0, inr r.1, r.2, r.3)

-- each variable of the name agrees
abbrev pub AgreesNamed : Bool → Sort → List ℕ → Written → Type 0
AgreesNamed by_fr s x y = bytes_eq y.name x ≡ true → agrees by_fr s y.mark ≡ true

abbrev pub Agreed : Bool → Sort → List ℕ → List Written → Type 0
Agreed by_fr s x ys = Every (AgreesNamed by_fr s x) ys

if_named : (c a : Bool) → (c && not a) ≡ false → c ≡ true → a ≡ true
if_named true a e k = not-false a e
if_named false a e k = absurd cc

unless_named : (c a : Bool) → (c ≡ true → a ≡ true) → (c && not a) ≡ false
unless_named true true h = refl
unless_named true false h = sym (h refl)
unless_named false a h = refl

all_agree : (by_fr : Bool) (s : Sort) (x : List ℕ) (ys : List Written) → stands_otherwise by_fr s x ys ≡ false → Agreed by_fr s x ys
all_agree by_fr s x [] e = tt
all_agree by_fr s x (y ∷ ys) e =
    let r = or_parts _ _ e in
    (if_named (bytes_eq y.name x) (agrees by_fr s y.mark) r.0, all_agree by_fr s x ys r.1)

none_otherwise : (by_fr : Bool) (s : Sort) (x : List ℕ) (ys : List Written) → Agreed by_fr s x ys → stands_otherwise by_fr s x ys ≡ false
none_otherwise by_fr s x [] h = refl
none_otherwise by_fr s x (y ∷ ys) h = both_false (unless_named (bytes_eq y.name x) (agrees by_fr s y.mark) h.0) (none_otherwise by_fr s x ys h.1)

pub member_named : (x : Written) (ys : List Written) → Member x ys → is_named x.name ys ≡ true
member_named x [] m = absurd m
member_named x (y ∷ ys) (inl m) = or_left (bytes_eq y.name x.name) (is_named x.name ys) ((bytes_eq-Decides y.name x.name).1 (ap (λ (z : Written). z.name) m))
member_named x (y ∷ ys) (inr m) = or_right (bytes_eq y.name x.name) (is_named x.name ys) (member_named x ys m)

-- beside a premise Fr
fresh_first : (facts : Facts Written) (x : List ℕ) → is_made_fresh x facts.premises ≡ true → is_fr_argument x facts.premises ≡ true → first_sort facts x ≡ sort_in facts x
fresh_first facts x e k =
    ap (λ (b : Bool). if b then Fresh else sort_of_mark (first_mark x (occurrences facts))) e
    ∙ sym (ap (λ (b : Bool). if b || is_written Fresh x (occurrences facts) then Fresh else if is_written Pub x (occurrences facts) then Pub else Msg) k)

-- by the first mark
by_first : (facts : Facts Written) (x : List ℕ) → is_made_fresh x facts.premises ≡ false → first_sort facts x ≡ sort_of_mark (first_mark x (occurrences facts))
by_first facts x e = ap (λ (b : Bool). if b then Fresh else sort_of_mark (first_mark x (occurrences facts))) e

chosen : (s : Sort) → (if owned Fresh s && true then Fresh else if owned Pub s && true then Pub else Msg) ≡ s
chosen Msg = refl
chosen Fresh = refl
chosen Pub = refl

-- where each stands with the sort of the first
same_first : (facts : Facts Written) (x : List ℕ) → is_made_fresh x facts.premises ≡ is_fr_argument x facts.premises → is_named x (occurrences facts) ≡ true
    → Agreed (is_made_fresh x facts.premises) (first_sort facts x) x (occurrences facts) → first_sort facts x ≡ sort_in facts x
same_first facts x e named h = at (is_made_fresh x facts.premises) refl
  where
    at : (b : Bool) → is_made_fresh x facts.premises ≡ b → first_sort facts x ≡ sort_in facts x
    at true is = fresh_first facts x is (sym e ∙ is)
    at false is =
        let s = sort_of_mark (first_mark x (occurrences facts)) in
        let first = by_first facts x is in
        let stand = subst (λ (b : Bool). Agreed b s x (occurrences facts)) is (subst (λ (t : Sort). Agreed (is_made_fresh x facts.premises) t x (occurrences facts)) first h) in
        let fresh = all_written Fresh s x (occurrences facts) stand ∙ ap (λ (b : Bool). owned Fresh s && b) named in
        let public = all_written Pub s x (occurrences facts) stand ∙ ap (λ (b : Bool). owned Pub s && b) named in
        first ∙ sym (chosen s)
        ∙ sym (ap (λ (b : Bool). if b || is_written Fresh x (occurrences facts) then Fresh else if is_written Pub x (occurrences facts) then Pub else Msg) (sym e ∙ is)
        ∙ ap₂ (λ (b c : Bool). if b then Fresh else if c then Pub else Msg) fresh public)

-- where each stands with the sort that the rule gives
same_given : (facts : Facts Written) (x : List ℕ) → is_made_fresh x facts.premises ≡ is_fr_argument x facts.premises → is_named x (occurrences facts) ≡ true
    → Agreed (is_fr_argument x facts.premises) (sort_in facts x) x (occurrences facts) → first_sort facts x ≡ sort_in facts x
same_given facts x e named h = at (is_fr_argument x facts.premises) refl
  where
    at : (b : Bool) → is_fr_argument x facts.premises ≡ b → first_sort facts x ≡ sort_in facts x
    at true is = fresh_first facts x (e ∙ is) is
    at false is =
        let r = first_of x (occurrences facts) named in
        let agreed = every_member (AgreesNamed (is_fr_argument x facts.premises) (sort_in facts x) x) (occurrences facts) r.0 r.1 h r.2 in
        by_first facts x (e ∙ is) ∙ ap sort_of_mark r.3 ∙ agreed_sort (sort_in facts x) r.0.mark (subst (λ (b : Bool). agrees b (sort_in facts x) r.0.mark ≡ true) is agreed)

-- In a rule whose premises Fr are right: no variable stands with two sorts by the one exactly where none does by the other, and then each
-- has one sort.
abbrev OneMade : Facts Written → Type 0
OneMade facts = (x : List ℕ) → is_made_fresh x facts.premises ≡ is_fr_argument x facts.premises

abbrev pub HasOneSort : Facts Written → Written → Type 0
HasOneSort facts x = first_sort facts x.name ≡ sort_in facts x.name

abbrev pub OneSort : Facts Written → List Written → Type 0
OneSort facts xs = Every (HasOneSort facts) xs

abbrev Given : Facts Written → Written → Type 0
Given facts x = agrees (is_fr_argument x.name facts.premises) (sort_in facts x.name) x.mark ≡ true

abbrev OneMark : Facts Written → Written → Type 0
OneMark facts x = has_other_mark facts x.name ≡ false

each_agrees : (facts : Facts Written) (xs : List Written) → has_two_sorts facts xs ≡ false → Every (Given facts) xs
each_agrees facts [] e = tt
each_agrees facts (x ∷ xs) e = let r = or_parts _ _ e in (not-false _ r.0, each_agrees facts xs r.1)

no_two_sorts : (facts : Facts Written) (xs : List Written) → Every (Given facts) xs → has_two_sorts facts xs ≡ false
no_two_sorts facts [] h = refl
no_two_sorts facts (x ∷ xs) h = both_false (is_false (agrees (is_fr_argument x.name facts.premises) (sort_in facts x.name) x.mark) h.0) (no_two_sorts facts xs h.1)
  where
    is_false : (b : Bool) → b ≡ true → not b ≡ false
    is_false true e = refl
    is_false false e = absurd cc

each_one : (r : List ℕ) (facts : Facts Written) (xs : List Written) → are_none (two_sorted r facts xs) ≡ true → Every (OneMark facts) xs
each_one r facts [] e = tt
each_one r facts (x ∷ xs) e = let k = none_told (has_other_mark facts x.name) (two_sorts r x.name) (two_sorted r facts xs) e in (k.0, each_one r facts xs k.1)

none_two : (r : List ℕ) (facts : Facts Written) (xs : List Written) → Every (OneMark facts) xs → are_none (two_sorted r facts xs) ≡ true
none_two r facts [] h = refl
none_two r facts (x ∷ xs) h = told_none (has_other_mark facts x.name) (two_sorts r x.name) (two_sorted r facts xs) h.0 (none_two r facts xs h.1)

given_at : (facts : Facts Written) → has_two_sorts facts (occurrences facts) ≡ false → (x : Written) → Agreed (is_fr_argument x.name facts.premises) (sort_in facts x.name) x.name (occurrences facts)
given_at facts e x =
    every_weaken (Given facts) (AgreesNamed (is_fr_argument x.name facts.premises) (sort_in facts x.name) x.name)
    (λ y h named. subst (λ (n : List ℕ). agrees (is_fr_argument n facts.premises) (sort_in facts n) y.mark ≡ true) ((bytes_eq-Decides y.name x.name).0 named) h)
    (occurrences facts) (each_agrees facts (occurrences facts) e)

pub one_sort_given : (facts : Facts Written) → OneMade facts → has_two_sorts facts (occurrences facts) ≡ false → OneSort facts (occurrences facts)
one_sort_given facts made e =
    every_from (HasOneSort facts) (occurrences facts) (λ x m. same_given facts x.name (made x.name) (member_named x (occurrences facts) m) (given_at facts e x))

pub no_other_mark : (r : List ℕ) (facts : Facts Written) → OneMade facts → has_two_sorts facts (occurrences facts) ≡ false → are_none (two_sorted r facts (occurrences facts)) ≡ true
no_other_mark r facts made e =
    none_two r facts (occurrences facts)
    (every_from (OneMark facts) (occurrences facts)
    (λ x m.
    let same = same_given facts x.name (made x.name) (member_named x (occurrences facts) m) (given_at facts e x) in
    none_otherwise (is_made_fresh x.name facts.premises) (first_sort facts x.name) x.name (occurrences facts)
    (subst (λ (s : Sort). Agreed (is_made_fresh x.name facts.premises) s x.name (occurrences facts)) (sym same)
    (subst (λ (b : Bool). Agreed b (sort_in facts x.name) x.name (occurrences facts)) (sym (made x.name)) (given_at facts e x)))))

first_at : (facts : Facts Written) (x : Written) → has_other_mark facts x.name ≡ false → Agreed (is_made_fresh x.name facts.premises) (first_sort facts x.name) x.name (occurrences facts)
first_at facts x e = all_agree (is_made_fresh x.name facts.premises) (first_sort facts x.name) x.name (occurrences facts) e

pub one_sort_first : (r : List ℕ) (facts : Facts Written) → OneMade facts → are_none (two_sorted r facts (occurrences facts)) ≡ true → OneSort facts (occurrences facts)
one_sort_first r facts made e =
    every_from (HasOneSort facts) (occurrences facts)
    (λ x m. same_first facts x.name (made x.name) (member_named x (occurrences facts) m) (first_at facts x (every_member (OneMark facts) (occurrences facts) x m (each_one r facts (occurrences facts) e))))

pub no_two : (r : List ℕ) (facts : Facts Written) → OneMade facts → are_none (two_sorted r facts (occurrences facts)) ≡ true → has_two_sorts facts (occurrences facts) ≡ false
no_two r facts made e =
    no_two_sorts facts (occurrences facts)
    (every_from (Given facts) (occurrences facts)
    (λ x m.
    let agreed = first_at facts x (every_member (OneMark facts) (occurrences facts) x m (each_one r facts (occurrences facts) e)) in
    let same = same_first facts x.name (made x.name) (member_named x (occurrences facts) m) agreed in
    let here = every_member (AgreesNamed (is_made_fresh x.name facts.premises) (first_sort facts x.name) x.name) (occurrences facts) x m agreed (equal_names x.name) in
    subst (λ (b : Bool). agrees b (sort_in facts x.name) x.mark ≡ true) (made x.name)
    (subst (λ (s : Sort). agrees (is_made_fresh x.name facts.premises) s x.mark ≡ true) same here)))
