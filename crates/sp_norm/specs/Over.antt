-- Tests of symbols, as an algorithm runs them.
use Rattle.std.specs.Prelude.{ℕ, Bool, true, false, not, ◌&&◌, ◌||◌, ◌==◌, List, [], ◌∷◌}
use Rattle.std.specs.Str.{bytes_eq}
use Rattle.sp_spec.specs.Term.{var, constant, name, app, none, more, Ground, Grounds, count}
use Rattle.sp_spec.specs.Signature.{Symbol}

abbrev pub is_symbol : Symbol → List ℕ → ℕ → Bool
is_symbol s f n = bytes_eq s.name f && (s.arity == n)

abbrev pub any_symbol : List Symbol → List ℕ → ℕ → Bool
any_symbol [] f n = false
any_symbol (s ∷ symbols) f n = is_symbol s f n || any_symbol symbols f n

abbrev pub any_public : List Symbol → List ℕ → ℕ → Bool
any_public [] f n = false
any_public (s ∷ symbols) f n = (is_symbol s f n && not s.private) || any_public symbols f n

abbrev mutual
  pub over : List Symbol → Ground → Bool
  over symbols (var x) = false
  over symbols (constant c) = true
  over symbols (name n) = true
  over symbols (app f ts) = any_symbol symbols f (count ts) && all_over symbols ts

  pub all_over : List Symbol → Grounds → Bool
  all_over symbols none = true
  all_over symbols (more t ts) = over symbols t && all_over symbols ts
