-- What stands before a rest, and what words and digits go on with.
use Rattle.std.proofs.Common.{◌≡◌, ℕ, suc, ◌-◌, ◌≤◌, false, List, [], ◌∷◌, ◌++◌, length, refl, length-append, arith}
use Rattle.std.proofs.lemmas.List.{take_at}
use Rattle.sp_spec_text.specs.Lex.{is_first, is_digit, before}

pub before_self : (bytes : List ℕ) → before bytes bytes ≡ []
before_self bytes = let e : length bytes - length bytes ≡ 0 = omega arith in rw e refl

pub before_more : (b : ℕ) (bytes rest : List ℕ) → length rest ≤ length bytes → before (b ∷ bytes) rest ≡ b ∷ before bytes rest
before_more b bytes rest le = let e : length (b ∷ bytes) - length rest ≡ suc (length bytes - length rest) = omega arith in rw e refl

pub before_rest : (xs ys : List ℕ) → before (xs ++ ys) ys ≡ xs
before_rest xs ys = take_at xs ys (length (xs ++ ys) - length ys) (omega (arith, length-append xs ys))

-- a digit stands first in a text exactly where it does before others that don't begin with one
pub first_kept : (w rest : List ℕ) → is_first is_digit rest ≡ false → is_first is_digit (w ++ rest) ≡ is_first is_digit w
first_kept [] rest h = h
first_kept (c ∷ w) rest h = refl
