-- Where a term is followed by a closing bracket, a formula that begins there ends with it: what stands in a group begins no equality.
use Rattle.std.proofs.Common.{◌≡◌, ℕ, ◌+◌, List, ◌∷◌, refl}
use Rattle.sp_spec_text.specs.Signs as s
use Rattle.sp_spec_text.specs.Token.{Lexeme, sign}
use Rattle.sp_spec.specs.Term.{Term}
use Rattle.sp_spec.specs.Formula.{Written, Formula}
use Rattle.sp_spec_text.specs.Lists.{IsNotFirst, NoReading}
use Rattle.sp_spec_text.proofs.Words.{all_reserved, ex_reserved}
use Rattle.sp_read_parts.specs.Parts as f
use Rattle.sp_read_parts.specs.Parts.{IsTerm}
use Rattle.sp_read_parts.specs.Formulas.{Joint, conjoint, disjoint}
use Rattle.sp_read_parts.proofs.One.{variable_sign}
use Rattle.sp_read_atoms.specs.Atoms.{two_sides, IsEquality}
use Rattle.sp_read_atoms.proofs.Apart.{EndsTerm, sign_ends, not_is_reserved, reserved_no_term, atom_closes}
use Rattle.sp_read_formula.specs.Reading.{all_word, ex_word, sign_of, Part, a_whole, Reads, grouped, bound, shallow, from_group, from_binding, positive, negative, chained, lone, implying, single, double, ended, went}

-- no sign that joins is a closing one, or one by which a term goes on
joint_ends : (o : Joint) {tokens after : List Lexeme} → tokens ≡ sign (sign_of o) ∷ after → EndsTerm tokens
joint_ends conjoint {after = ts} e = rw e (sign_ends s.And ts (λ i. i))
joint_ends disjoint {after = ts} e = rw e (sign_ends s.Or ts (λ i. i))

joint_not_close : (o : Joint) {tokens after r : List Lexeme} → tokens ≡ sign (sign_of o) ∷ after → tokens ≡ sign s.Close ∷ r → ⊥
joint_not_close conjoint e d = cc
joint_not_close disjoint e d = cc

-- where a term is followed by `)`, a formula that begins there ends with the term
closes_at : {p : Part} {n : ℕ} {tokens r rest : List Lexeme} {x : Term Written} {g : Formula} → Reads p n tokens g rest → IsTerm n tokens x (sign s.Close ∷ r) → EndsTerm rest → rest ≡ sign s.Close ∷ r
closes_at (grouped lu h) (f.variable d t) c = absurd (variable_sign refl t)
closes_at (grouped {rest = q} lu h) (f.brackets lt t) c = let e = closes_at h t (sign_ends s.Close q (λ i. i)) in cc
closes_at (bound lt all_word b h) t c = absurd (reserved_no_term all_reserved t)
closes_at (bound lt ex_word b h) t c = absurd (reserved_no_term ex_reserved t)
closes_at (shallow h) t c = atom_closes h t c
closes_at (from_group d h) t c = closes_at h t c
closes_at (from_binding d h) t c = closes_at h t c
closes_at (positive d h) t c = closes_at h t c
closes_at (negative h) t c = absurd (reserved_no_term not_is_reserved t)
closes_at (chained h (ended d)) t c = closes_at h t c
closes_at (chained {o = o} h (went e i k)) t c = absurd (joint_not_close o e (closes_at h t (joint_ends o e)))
closes_at (lone h d) t c = closes_at h t c
closes_at (implying {mid = m} h lt i) t c = let e = closes_at h t (sign_ends s.Implies m (λ j. j)) in absurd cc
closes_at (single h d) t c = closes_at h t c
closes_at (double {mid = m} h i) t c = let e = closes_at h t (sign_ends s.Iff m (λ j. j)) in absurd cc

open_term : {n : ℕ} {tokens rest : List Lexeme} {x : Term Written} → IsTerm n (sign s.Open ∷ tokens) x rest → IsTerm (n + 1) tokens x (sign s.Close ∷ rest)
open_term (f.variable d t) = absurd (variable_sign refl t)
open_term (f.brackets lt t) = t

-- a bracket that closes a formula, and no `=` behind it, opens no equality
pub group_no_equality : {n : ℕ} {tokens rest : List Lexeme} {g : Formula} → Reads a_whole (n + 1) tokens g (sign s.Close ∷ rest) → IsNotFirst (sign s.Equals) rest → NoReading (IsEquality n) (sign s.Open ∷ tokens)
group_no_equality {n} {tokens} {rest} h d = record { none = λ u r k. at k }
  where
    at : {r : List Lexeme} {u : Formula} → IsEquality n (sign s.Open ∷ tokens) u r → ⊥
    at (two_sides {mid = m} t k) = let e = closes_at h (open_term t) (sign_ends s.Close rest (λ i. i)) in let j : rest ≡ sign s.Equals ∷ m = cc in d m j
