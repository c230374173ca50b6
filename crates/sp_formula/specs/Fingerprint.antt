-- The fingerprint of a formula: a number below 2 ^ 64 that is made of all that stands in it, so that formulas with different fingerprints differ.
use Rattle.std.specs.Prelude.{ℕ, ◌+◌, ◌*◌, ◌%◌, ◌^◌, List, [], ◌∷◌}
use Rattle.sp_spec.specs.Term.{Sort, Msg, Fresh, Pub, Term, var, constant, name, app, Terms, none, more}
use Rattle.sp_spec.specs.Guarded.{Place, free, bound, Time, free_time, bound_time, Binder, message, time, Atom, acts, same, same_time, before, last, Guarded, truth, falsity, holds, fails, all_of, one_of, some, every, Guardeds, no_more, and_then}

-- a fingerprint, and one more number behind what it is made of
unfoldable pub mixed : ℕ → ℕ → ℕ
mixed print n = ((print * 1099511628211) % 2 ^ 64 + n % 2 ^ 64) % 2 ^ 64

-- and each of these behind it
abbrev pub mixed_each : {A : Type 0} → (A → ℕ) → ℕ → List A → ℕ
mixed_each of print [] = print
mixed_each of print (x ∷ xs) = mixed_each of (mixed print (of x)) xs

abbrev pub mixed_name : ℕ → List ℕ → ℕ
mixed_name print bytes = mixed_each (λ b. b) print bytes

abbrev pub sort_print : Sort → ℕ
sort_print Msg = 1
sort_print Fresh = 2
sort_print Pub = 3

abbrev pub place_print : Place → ℕ
place_print (free x) = mixed (sort_print x.sort) x.number
place_print (bound k) = mixed 4 k

abbrev mutual
  pub term_print : Term Place → ℕ
  term_print (var x) = place_print x
  term_print (constant c) = mixed_name 5 c
  term_print (name n) = mixed 6 n
  term_print (app f ts) = mixed_terms (mixed_name 7 f) ts

  pub mixed_terms : ℕ → Terms Place → ℕ
  mixed_terms print none = print
  mixed_terms print (more t ts) = mixed_terms (mixed print (term_print t)) ts

abbrev pub moment_print : Time → ℕ
moment_print (free_time i) = mixed 1 i
moment_print (bound_time k) = mixed 2 k

abbrev pub binder_print : Binder → ℕ
binder_print (message sort) = sort_print sort
binder_print time = 4

abbrev pub atom_print : Atom → ℕ
atom_print (acts a i) = mixed (mixed_terms (mixed_name 1 a.symbol) a.args) (moment_print i)
atom_print (same t u) = mixed (mixed 2 (term_print t)) (term_print u)
atom_print (same_time i j) = mixed (mixed 3 (moment_print i)) (moment_print j)
atom_print (before i j) = mixed (mixed 4 (moment_print i)) (moment_print j)
atom_print (last i) = mixed 5 (moment_print i)

abbrev mutual
  pub fingerprint : Guarded → ℕ
  fingerprint truth = 1
  fingerprint falsity = 2
  fingerprint (holds a) = mixed 3 (atom_print a)
  fingerprint (fails a) = mixed 4 (atom_print a)
  fingerprint (all_of fs) = mixed_formulas 5 fs
  fingerprint (one_of fs) = mixed_formulas 6 fs
  fingerprint (some bs guard f) = mixed (mixed_each atom_print (mixed_each binder_print 7 bs) guard) (fingerprint f)
  fingerprint (every bs guard f) = mixed (mixed_each atom_print (mixed_each binder_print 8 bs) guard) (fingerprint f)

  pub mixed_formulas : ℕ → Guardeds → ℕ
  mixed_formulas print no_more = print
  mixed_formulas print (and_then f fs) = mixed_formulas (mixed print (fingerprint f)) fs
