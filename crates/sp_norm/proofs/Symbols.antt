-- What the tests of symbols tell.
use Rattle.std.proofs.Common.{◌≡◌, ℕ, Bool, true, false, not, ◌&&◌, List, [], ◌∷◌, length, ⊎_elim, inl, inr, refl, sym, ap, ◌∙◌}
use Rattle.std.proofs.lemmas.Bool.{and_parts, and_from, or_cases, or_left, or_right, eqb-true, eq-eqb, not-true}
use Rattle.std.proofs.lemmas.Slice.Eq.{bytes_eq-Decides}
use Rattle.std.specs.Bool.{Decides}
use Rattle.sp_spec.specs.Term.{var, constant, name, app, none, more, Ground, Grounds, count}
use Rattle.sp_spec.specs.Signature.{Symbol, HasSymbol, HasPublic, IsOver, AreOver}
use Rattle.sp_term.specs.View.{Never}
use Rattle.sp_term.specs.declared.term.Term as memory
use Rattle.sp_fact.specs.GroundView.{grounds_of}
use Rattle.sp_fact.proofs.Lists.{count_grounds}
use Rattle.sp_norm.specs.Over.{is_symbol, any_symbol, any_public, over, all_over}

abbrev made : List ℕ → ℕ → Bool → Symbol
made f n p = record { name = f; arity = n; private = p }

is_symbol_tells : (s : Symbol) (f : List ℕ) (n : ℕ) → is_symbol s f n ≡ true → s ≡ made f n s.private
is_symbol_tells s f n e =
    let both = and_parts _ _ e in
    ap (λ g. made g s.arity s.private) ((bytes_eq-Decides s.name f).0 both.0) ∙ ap (λ k. made f k s.private) (eqb-true s.arity n both.1)

is_symbol_from : (s : Symbol) (f : List ℕ) (n : ℕ) (p : Bool) → s ≡ made f n p → is_symbol s f n ≡ true
is_symbol_from s f n p e = and_from _ _ ((bytes_eq-Decides s.name f).1 (ap (λ (z : Symbol). z.name) e)) (eq-eqb s.arity n (ap (λ (z : Symbol). z.arity) e))

any_symbol_tells : (symbols : List Symbol) (f : List ℕ) (n : ℕ) → any_symbol symbols f n ≡ true → HasSymbol symbols f n
any_symbol_tells [] f n e = absurd cc
any_symbol_tells (s ∷ symbols) f n e =
    ⊎_elim (λ h. (s.private, inl (is_symbol_tells s f n h))) (λ h. let r = any_symbol_tells symbols f n h in (r.0, inr r.1))
    (or_cases (is_symbol s f n) (any_symbol symbols f n) e)

any_symbol_from : (symbols : List Symbol) (f : List ℕ) (n : ℕ) → HasSymbol symbols f n → any_symbol symbols f n ≡ true
any_symbol_from [] f n h = absurd h.1
any_symbol_from (s ∷ symbols) f n h =
    ⊎_elim (λ e. or_left (is_symbol s f n) (any_symbol symbols f n) (is_symbol_from s f n h.0 e))
    (λ m. or_right (is_symbol s f n) (any_symbol symbols f n) (any_symbol_from symbols f n (h.0, m))) h.1

pub any_symbol_decides : (symbols : List Symbol) (f : List ℕ) (n : ℕ) → Decides (any_symbol symbols f n) (HasSymbol symbols f n)
any_symbol_decides symbols f n = (any_symbol_tells symbols f n, any_symbol_from symbols f n)

any_public_tells : (symbols : List Symbol) (f : List ℕ) (n : ℕ) → any_public symbols f n ≡ true → HasPublic symbols f n
any_public_tells [] f n e = absurd cc
any_public_tells (s ∷ symbols) f n e =
    ⊎_elim
    (λ h. let both = and_parts (is_symbol s f n) (not s.private) h in inl (is_symbol_tells s f n both.0 ∙ ap (made f n) (not-true s.private both.1)))
    (λ h. inr (any_public_tells symbols f n h))
    (or_cases (is_symbol s f n && not s.private) (any_public symbols f n) e)

any_public_from : (symbols : List Symbol) (f : List ℕ) (n : ℕ) → HasPublic symbols f n → any_public symbols f n ≡ true
any_public_from [] f n h = absurd h
any_public_from (s ∷ symbols) f n h =
    ⊎_elim
    (λ e.
    or_left (is_symbol s f n && not s.private) (any_public symbols f n)
    (and_from _ _ (is_symbol_from s f n false e) (ap (λ (z : Symbol). not z.private) e)))
    (λ m. or_right (is_symbol s f n && not s.private) (any_public symbols f n) (any_public_from symbols f n m)) h

pub any_public_decides : (symbols : List Symbol) (f : List ℕ) (n : ℕ) → Decides (any_public symbols f n) (HasPublic symbols f n)
any_public_decides symbols f n = (any_public_tells symbols f n, any_public_from symbols f n)

module _ (symbols : List Symbol) where
  mutual
    over_tells : (t : Ground) → over symbols t ≡ true → IsOver symbols t
    over_tells (var x) e = absurd x
    over_tells (constant c) e = tt
    over_tells (name n) e = tt
    over_tells (app f ts) e =
        let both = and_parts (any_symbol symbols f (count ts)) (all_over symbols ts) e in
        (any_symbol_tells symbols f (count ts) both.0, all_over_tells ts both.1)

    all_over_tells : (ts : Grounds) → all_over symbols ts ≡ true → AreOver symbols ts
    all_over_tells none e = tt
    all_over_tells (more t ts) e = let both = and_parts (over symbols t) (all_over symbols ts) e in (over_tells t both.0, all_over_tells ts both.1)

  mutual
    over_from : (t : Ground) → IsOver symbols t → over symbols t ≡ true
    over_from (var x) o = absurd x
    over_from (constant c) o = refl
    over_from (name n) o = refl
    over_from (app f ts) o = and_from _ _ (any_symbol_from symbols f (count ts) o.0) (all_over_from ts o.1)

    all_over_from : (ts : Grounds) → AreOver symbols ts → all_over symbols ts ≡ true
    all_over_from none o = refl
    all_over_from (more t ts) o = and_from _ _ (over_from t o.0) (all_over_from ts o.1)

  pub over_decides : (t : Ground) → Decides (over symbols t) (IsOver symbols t)
  over_decides t = (over_tells t, over_from t)

  pub all_over_decides : (ts : Grounds) → Decides (all_over symbols ts) (AreOver symbols ts)
  all_over_decides ts = (all_over_tells ts, all_over_from ts)

  -- of an application that has so many arguments
  over_app : (f : List ℕ) (ts : List (memory.Term Never)) (n : ℕ) → n ≡ length ts
      → over symbols (app f (grounds_of ts)) ≡ (any_symbol symbols f n && all_over symbols (grounds_of ts))
  over_app f ts n e = ap (λ k. any_symbol symbols f k && all_over symbols (grounds_of ts)) (count_grounds ts ∙ sym e)

  pub over_by_arguments : (f : List ℕ) (ts : List (memory.Term Never)) (n : ℕ) → n ≡ length ts → any_symbol symbols f n ≡ true
      → over symbols (app f (grounds_of ts)) ≡ all_over symbols (grounds_of ts)
  over_by_arguments f ts n e h = over_app f ts n e ∙ ap (λ b. b && all_over symbols (grounds_of ts)) h

  pub over_without_symbol : (f : List ℕ) (ts : List (memory.Term Never)) (n : ℕ) → n ≡ length ts → any_symbol symbols f n ≡ false
      → over symbols (app f (grounds_of ts)) ≡ false
  over_without_symbol f ts n e h = over_app f ts n e ∙ ap (λ b. b && all_over symbols (grounds_of ts)) h
