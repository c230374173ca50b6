-- The equations of a theory are over its symbols exactly where no unknown symbol is told of in those that are written.
use Rattle.std.proofs.Common.{◌≡◌, ℕ, suc, Bool, true, false, if◌then◌else◌, List, [], ◌∷◌, ◌++◌, map, Option, Some, None, inl, inr, ⊎_elim, refl, ap₂}
use Rattle.std.proofs.lemmas.Bool.{and_parts, or_cases}
use Rattle.std.specs.List.{flat_map}
use Rattle.sp_spec.specs.Lists.{Member, Every}
use Rattle.sp_spec.specs.Term.{Variable, Term}
use Rattle.sp_spec.specs.Same.{alike}
use Rattle.sp_spec.specs.Signature.{Symbol, Equation, pair_symbols, pair_equations}
use Rattle.sp_spec.specs.Formula.{Written}
use Rattle.sp_spec.proofs.Same.{alike_same}
use Rattle.sp_spec.proofs.Lists.{every_member, every_append, every_parts}
use Rattle.sp_spec_text.specs.Declared.{Builtin, hashing, symmetric_encryption, asymmetric_encryption, signing, revealing_signing, builtin_of, builtin_symbols, builtin_equations, symbols_of, equations_of, equation_names, equation_variable, equation_of, is_same_equation, stands_among, Numbered, new_equations, without_number, numbered_from, their_equations}
use Rattle.sp_law_equal.specs.Right.{IsTermOver}
use Rattle.sp_finding.specs.Finding.{are_none}
use Rattle.sp_finding.specs.TermFindings.{unknown_in}
use Rattle.sp_wf_symbols.specs.SymbolFindings.{unknown_in_equations}
use Rattle.sp_finding.proofs.Nothing.{none_parts, none_both}
use Rattle.sp_wf_symbols.proofs.UnknownClean.{known_over, over_known, over_valued, valued_over}

-- both sides are over the symbols
pub record IsOverBoth (symbols : List Symbol) (e : Equation) : Type 0 where
  pub left : IsTermOver symbols e.left
  pub right : IsTermOver symbols e.right

-- ---- those that are written

module _ (symbols : List Symbol) where
  written_over : (e : Term Written × Term Written) → are_none (unknown_in symbols e.0) ≡ true → are_none (unknown_in symbols e.1) ≡ true → IsOverBoth symbols (equation_of e)
  written_over e l r = record {
    left = over_valued symbols (equation_variable (equation_names e)) (λ x. tt) e.0 (known_over symbols e.0 l);
    right = over_valued symbols (equation_variable (equation_names e)) (λ x. tt) e.1 (known_over symbols e.1 r);
  }

  pub known_equations : (es : List (Term Written × Term Written)) → are_none (unknown_in_equations symbols es) ≡ true → Every (IsOverBoth symbols) (map equation_of es)
  known_equations [] n = tt
  known_equations (e ∷ es) n =
      let a = none_parts (unknown_in symbols e.0) (unknown_in symbols e.1 ++ unknown_in_equations symbols es) n in
      let b = none_parts (unknown_in symbols e.1) (unknown_in_equations symbols es) a.1 in
      (written_over e a.0 b.0, known_equations es b.1)

  pub equations_known : (es : List (Term Written × Term Written)) → Every (IsOverBoth symbols) (map equation_of es) → are_none (unknown_in_equations symbols es) ≡ true
  equations_known [] h = refl
  equations_known (e ∷ es) h =
      let v = equation_variable (equation_names e) in
      none_both (unknown_in symbols e.0) (unknown_in symbols e.1 ++ unknown_in_equations symbols es) (over_known symbols e.0 (valued_over symbols v (λ x. tt) e.0 h.0.left))
      (none_both (unknown_in symbols e.1) (unknown_in_equations symbols es) (over_known symbols e.1 (valued_over symbols v (λ x. tt) e.1 h.0.right)) (equations_known es h.1))

  -- ---- those of builtins, whose symbols are declared with them

  abbrev Are : List Symbol → Type 0
  Are ss = Every (λ (s : Symbol). Member s symbols) ss

  builtin_over : (b : Builtin) → Are (symbols_of b) → Every (IsOverBoth symbols) (equations_of b)
  builtin_over hashing h = tt
  builtin_over symmetric_encryption h =
      let enc = h.0 in
      let dec = h.1.0 in
      (record { left = ((false, dec), (((false, enc), (tt, (tt, tt))), (tt, tt))); right = tt }, tt)
  builtin_over asymmetric_encryption h =
      let enc = h.0 in
      let dec = h.1.0 in
      let pk = h.1.1.0 in
      (record { left = ((false, dec), (((false, enc), (tt, (((false, pk), (tt, tt)), tt))), (tt, tt))); right = tt }, tt)
  builtin_over signing h =
      let sign = h.0 in
      let verify = h.1.0 in
      let pk = h.1.1.0 in
      let yes' = h.1.1.1.0 in
      (record { left = ((false, verify), (((false, sign), (tt, (tt, tt))), (tt, (((false, pk), (tt, tt)), tt)))); right = ((false, yes'), tt) }, tt)
  builtin_over revealing_signing h =
      let sign = h.0 in
      let verify = h.1.0 in
      let get = h.1.1.0 in
      let pk = h.1.1.1.0 in
      let yes' = h.1.1.1.1.0 in (
        record { left = ((false, verify), (((false, sign), (tt, (tt, tt))), (tt, (((false, pk), (tt, tt)), tt)))); right = ((false, yes'), tt) },
        (record { left = ((false, get), (((false, sign), (tt, (tt, tt))), tt)); right = tt }, tt),
      )

  named_over : (o : Option Builtin) → Are (builtin_symbols o) → Every (IsOverBoth symbols) (builtin_equations o)
  named_over None h = tt
  named_over (Some b) h = builtin_over b h

  pub builtins_over : (bs : List (List ℕ)) → Are (flat_map (λ b. builtin_symbols (builtin_of b)) bs) → Every (IsOverBoth symbols) (flat_map (λ b. builtin_equations (builtin_of b)) bs)
  builtins_over [] h = tt
  builtins_over (b ∷ bs) h =
      let k = every_parts (λ (s : Symbol). Member s symbols) (builtin_symbols (builtin_of b)) (flat_map (λ c. builtin_symbols (builtin_of c)) bs) h in
      every_append (IsOverBoth symbols) (builtin_equations (builtin_of b)) (flat_map (λ c. builtin_equations (builtin_of c)) bs) (named_over (builtin_of b) k.0) (builtins_over bs k.1)

  -- and those of pairs
  pub pairs_over : Are pair_symbols → Every (IsOverBoth symbols) pair_equations
  pairs_over h =
      let pair = h.0 in
      let fst = h.1.0 in
      let snd = h.1.1.0 in (
        record { left = ((false, fst), (((false, pair), (tt, (tt, tt))), tt)); right = tt },
        (record { left = ((false, snd), (((false, pair), (tt, (tt, tt))), tt)); right = tt }, tt),
      )

-- ---- one that equals an earlier one is passed over

abbrev equation : Term Variable → Term Variable → Equation
equation l r = record { left = l; right = r }

same_tells : (d e : Equation) → is_same_equation d e ≡ true → d ≡ e
same_tells d e h = let k = and_parts (alike d.left e.left) (alike d.right e.right) h in ap₂ equation (alike_same d.left e.left k.0) (alike_same d.right e.right k.1)

among_member : (e : Equation) (ds : List Equation) → stands_among e ds ≡ true → Member e ds
among_member e [] h = absurd cc
among_member e (d ∷ ds) h = ⊎_elim (λ k. inl (same_tells d e k)) (λ k. inr (among_member e ds k)) (or_cases (is_same_equation d e) (stands_among e ds) h)

module _ (P : Equation → Type 0) where
  abbrev Theirs : List Numbered → Type 0
  Theirs es = Every P (their_equations es)

  -- what holds of all holds of those that are new
  pub new_hold : (before : List Equation) (es : List Numbered) → Theirs es → Theirs (new_equations before es)
  new_hold before [] h = tt
  new_hold before (e ∷ es) h = at (new_hold before es h.1) (new_hold (before ++ e.1 ∷ []) es h.1) (stands_among e.1 before)
    where
      at : Theirs (new_equations before es) → Theirs (new_equations (before ++ e.1 ∷ []) es) → (b : Bool)
          → Theirs (if b then new_equations before es else e ∷ new_equations (before ++ e.1 ∷ []) es)
      at same more true = same
      at same more false = (h.0, more)

  -- and the other way round, where it holds of those before
  pub all_hold : (before : List Equation) (es : List Numbered) → Every P before → Theirs (new_equations before es) → Theirs es
  all_hold before [] h k = tt
  all_hold before (e ∷ es) h k = at (all_hold before es h) (all_hold (before ++ e.1 ∷ []) es) (stands_among e.1 before) refl k
    where
      at : (Theirs (new_equations before es) → Theirs es) → (Every P (before ++ e.1 ∷ []) → Theirs (new_equations (before ++ e.1 ∷ []) es) → Theirs es) → (b : Bool) → stands_among e.1 before ≡ b
          → Theirs (if b then new_equations before es else e ∷ new_equations (before ++ e.1 ∷ []) es) → P e.1 × Theirs es
      at same more true a n = (every_member P before e.1 (among_member e.1 before a) h, same n)
      at same more false a n = (n.0, more (every_append P before (e.1 ∷ []) h (n.0, tt)) n.1)

  -- equations with their numbers
  pub numbered_hold : (n : ℕ) (es : List Equation) → Every P es → Theirs (numbered_from n es)
  numbered_hold n [] h = tt
  numbered_hold n (e ∷ es) h = (h.0, numbered_hold (suc n) es h.1)

  pub hold_numbered : (n : ℕ) (es : List Equation) → Theirs (numbered_from n es) → Every P es
  hold_numbered n [] h = tt
  hold_numbered n (e ∷ es) h = (h.0, hold_numbered (suc n) es h.1)

  pub without_hold : (es : List Equation) → Every P es → Theirs (map without_number es)
  without_hold [] h = tt
  without_hold (e ∷ es) h = (h.0, without_hold es h.1)

  pub both_hold : (xs ys : List Numbered) → Theirs xs → Theirs ys → Theirs (xs ++ ys)
  both_hold [] ys h k = k
  both_hold (x ∷ xs) ys h k = (h.0, both_hold xs ys h.1 k)

  pub later_hold : (xs ys : List Numbered) → Theirs (xs ++ ys) → Theirs ys
  later_hold [] ys h = h
  later_hold (x ∷ xs) ys h = later_hold xs ys h.1
