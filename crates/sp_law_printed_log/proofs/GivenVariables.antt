-- The values that variables are given: each has a name that may be shown.
use Rattle.std.proofs.Common.{◌<◌, ℕ, zero, suc, ◌+◌, Bool, true, false, if◌then◌else◌, List, [], ◌∷◌, length, Option, unwrap_or, sym, ap, subst, arith}
use Rattle.sp_spec.specs.Lists.{Member, Every, is_listed}
use Rattle.sp_spec.proofs.Lists.{every_member, every_append}
use Rattle.sp_spec.specs.Term.{Variable, Ground, constant}
use Rattle.sp_law_equal.specs.Matching.{Bound, any_of, value_in}
use Rattle.sp_law_printed_log.specs.Shown.{shown_names, HasNames}
use Rattle.sp_spec_solved.specs.Naming.{fresh_among, others_among, fresh_given, public_name, public_given, given}
use Rattle.sp_law_candidate.proofs.Names.{found_is_there, value_given}
use Rattle.sp_law_printed_log.proofs.PublicNames.{public_name_quotable}

-- ---- the names that are given

abbrev IsShown : Bound → Type 0
IsShown b = HasNames shown_names b.1

fresh_shown : (n : ℕ) (xs : List Variable) → 0 < n → Every IsShown (fresh_given n xs)
fresh_shown n [] p = tt
fresh_shown n (x ∷ xs) p = (p, fresh_shown (suc n) xs (omega arith))

public_shown : (cs : List (List ℕ)) (n k : ℕ) (xs : List Variable) → Every IsShown (public_given cs n k xs)
public_shown cs zero k [] = tt
public_shown cs zero k (x ∷ xs) = (public_name_quotable k, public_shown cs zero k xs)
public_shown cs (suc n) k [] = tt
public_shown cs (suc n) k (x ∷ xs) = at (is_listed (public_name k) cs) (public_shown cs n (suc k) (x ∷ xs)) (public_shown cs n (suc k) xs)
  where
    at : (b : Bool) → Every IsShown (public_given cs n (suc k) (x ∷ xs)) → Every IsShown (public_given cs n (suc k) xs)
        → Every IsShown (if b then public_given cs n (suc k) (x ∷ xs) else (x, constant (public_name k)) ∷ public_given cs n (suc k) xs)
    at true passing giving = passing
    at false passing giving = (public_name_quotable k, giving)

module _ (cs : List (List ℕ)) (xs : List Variable) where
  given_shown : Every IsShown (given cs xs)
  given_shown =
      every_append IsShown (fresh_given 1 (fresh_among xs)) (public_given cs (length (others_among xs) + length cs) 1 (others_among xs))
      (fresh_shown 1 (fresh_among xs) (omega arith)) (public_shown cs (length (others_among xs) + length cs) 1 (others_among xs))

  -- the value of each of the variables has names that may be shown
  pub value_shown : (x : Variable) → Member x xs → HasNames shown_names (value_in (given cs xs) x)
  value_shown x m =
      let r = value_given cs xs x m in
      subst (HasNames shown_names) (sym (ap (λ (o : Option Ground). unwrap_or o (any_of x.sort)) r.1))
      (every_member IsShown (given cs xs) (x, r.0) (found_is_there (given cs xs) x r.0 r.1) given_shown)
