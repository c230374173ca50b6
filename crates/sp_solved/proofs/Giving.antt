-- Public names that are given one after the other.
use Rattle.std.proofs.Common.{◌≡◌, ℕ, zero, suc, ◌+◌, ◌-◌, ◌<◌, Bool, true, false, if◌then◌else◌, List, [], ◌∷◌, ◌++◌, map, drop, length, get_or, refl, sym, ap, ◌∙◌, add-one, append_assoc}
use Rattle.std.proofs.Math.Seq.{drop-length}
use Rattle.std.proofs.lemmas.List.{append-nil}
use Rattle.sp_spec.specs.Term as spec
use Rattle.sp_spec.specs.Term.{constant}
use Rattle.sp_spec.specs.Written.{is_listed}
use Rattle.sp_law_equal.specs.Matching.{Bound}
use Rattle.sp_term.specs.View.{variable_of}
use Rattle.sp_term.specs.declared.term.Variable.{Variable}
use Rattle.sp_spec_solved.specs.Naming.{public_name, public_given}
use Rattle.sp_spec.proofs.Lists.{next_item}
use Rattle.sp_system.proofs.TurnsLeft.{one_less}

pub none_left : (cs : List (List ℕ)) (n k : ℕ) → public_given cs n k [] ≡ []
none_left cs zero k = refl
none_left cs (suc n) k = refl

over_one : (cs : List (List ℕ)) (m k : ℕ) (xs : List spec.Variable) → is_listed (public_name k) cs ≡ true → public_given cs (suc m) k xs ≡ public_given cs m (suc k) xs
over_one cs m k [] e = sym (none_left cs m (suc k))
over_one cs m k (x ∷ xs) e = ap (λ (b : Bool). if b then public_given cs m (suc k) (x ∷ xs) else (x, constant (public_name k)) ∷ public_given cs m (suc k) xs) e

one_given : (cs : List (List ℕ)) (m k : ℕ) (x : spec.Variable) (xs : List spec.Variable) → is_listed (public_name k) cs ≡ false
    → public_given cs (suc m) k (x ∷ xs) ≡ (x, constant (public_name k)) ∷ public_given cs m (suc k) xs
one_given cs m k x xs e = ap (λ (b : Bool). if b then public_given cs m (suc k) (x ∷ xs) else (x, constant (public_name k)) ∷ public_given cs m (suc k) xs) e

-- the name of this number is passed over
pub passed_over : (cs : List (List ℕ)) (total passed : ℕ) (n : List ℕ) (xs : List spec.Variable) (before target : List Bound) → passed < total → n ≡ public_name (passed + 1) → is_listed n cs ≡ true
    → before ++ public_given cs (total - passed) (passed + 1) xs ≡ target → before ++ public_given cs (total - (passed + 1)) (passed + 1 + 1) xs ≡ target
passed_over cs total passed n xs before target h is listed inv =
    ap (λ (bs : List Bound). before ++ bs)
    (ap (λ (k : ℕ). public_given cs (total - (passed + 1)) k xs) (add-one (passed + 1))
    ∙ sym (over_one cs (total - (passed + 1)) (passed + 1) xs (ap (λ (c : List ℕ). is_listed c cs) (sym is) ∙ listed))
    ∙ ap (λ (k : ℕ). public_given cs k (passed + 1) xs) (sym (one_less total passed h)))
    ∙ inv

-- the next variable is given it
pub given_one : (cs : List (List ℕ)) (total passed : ℕ) (n : List ℕ) (vs : List Variable) (given : ℕ) (x : Variable) (before after target : List Bound) → passed < total → n ≡ public_name (passed + 1)
    → is_listed n cs ≡ false → given < length vs → x ≡ get_or vs given x → after ≡ before ++ (variable_of x, constant n) ∷ []
    → before ++ public_given cs (total - passed) (passed + 1) (map variable_of (drop given vs)) ≡ target
    → after ++ public_given cs (total - (passed + 1)) (passed + 1 + 1) (map variable_of (drop (given + 1) vs)) ≡ target
given_one cs total passed n vs given x before after target h is new within there put inv =
    let rest = map variable_of (drop (given + 1) vs) in
    let m = total - (passed + 1) in
    let first : Bound = (variable_of x, constant n) in
    ap (λ (bs : List Bound). bs ++ public_given cs m (passed + 1 + 1) rest) put
    ∙ append_assoc before (first ∷ []) (public_given cs m (passed + 1 + 1) rest)
    ∙ ap (λ (bs : List Bound). before ++ bs)
    (ap (λ (k : ℕ). first ∷ public_given cs m k rest) (add-one (passed + 1))
    ∙ ap (λ (c : List ℕ). (variable_of x, constant c) ∷ public_given cs m (suc (passed + 1)) rest) is
    ∙ sym (one_given cs m (passed + 1) (variable_of x) rest (ap (λ (c : List ℕ). is_listed c cs) (sym is) ∙ new))
    ∙ ap (λ (k : ℕ). public_given cs k (passed + 1) (variable_of x ∷ rest)) (sym (one_less total passed h))
    ∙ ap (λ (ys : List Variable). public_given cs (total - passed) (passed + 1) (map variable_of ys)) (sym (next_item vs given x within there)))
    ∙ inv

-- each variable has been given one
pub all_given : (cs : List (List ℕ)) (n k : ℕ) (vs : List Variable) (given : ℕ) (before target : List Bound) → length vs ≡ given
    → before ++ public_given cs n k (map variable_of (drop given vs)) ≡ target → before ≡ target
all_given cs n k vs given before target done inv =
    let nothing : drop given vs ≡ [] = ap (λ (i : ℕ). drop i vs) (sym done) ∙ drop-length vs in
    sym (append-nil before) ∙ ap (λ (bs : List Bound). before ++ bs) (sym (none_left cs n k))
    ∙ ap (λ (ys : List Variable). before ++ public_given cs n k (map variable_of ys)) (sym nothing) ∙ inv
