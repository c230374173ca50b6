-- Which findings stand on equations, by their forms and by whether they clash.
use Rattle.std.proofs.Common.{◌≡◌, ◌<◌, ◌+◌, ◌-◌, ℕ, Bool, true, false, not, ◌&&◌, List, ◌∷◌, map, take, drop, length, get_or, MatchOption, is_some, Option, Some, None, refl, sym, ap, ap₂, ◌∙◌}
use Rattle.std.proofs.lemmas.Bool.{and_right, both_ways, false_from_ne_true, not_from_false, not-true}
use Rattle.std.proofs.lemmas.List.{take_rest}
use Rattle.sp_spec.specs.Term.{Variable, Term, valued}
use Rattle.sp_spec.specs.Same.{alike}
use Rattle.sp_spec.specs.Signature.{Symbol, Equation}
use Rattle.sp_spec.specs.Substitution.{Binding, bound_to}
use Rattle.sp_spec.specs.Unifier.{mgu}
use Rattle.sp_spec_text.specs.Declared.{Numbered}
use Rattle.sp_spec_forms.specs.Shifted.{shifted}
use Rattle.sp_law_conv.specs.Clash.{DoClash, DoClashBy, apart, overlap}
use Rattle.sp_law_conv.specs.Accepted.{IsWellFormed, HasPrivateConstant, HasWrongShape}
use Rattle.sp_conv.specs.Tests.{is_well_formed, has_private_constant}
use Rattle.sp_conv.proofs.Tests.{alike_decides, is_well_formed_decides, has_private_constant_decides}
use Rattle.sp_finding.specs.Finding.{wrong_shape, private_constant, are_none, lines_after}
use Rattle.sp_wf_symbols.specs.EquationFindings.{shapes, private_constants, differ_by, do_clash, clashes_with, clashes}
use Rattle.sp_wf_symbols.specs.Told.{is_formed}
use Rattle.sp_spec.proofs.Lists.{next_there}
use Rattle.sp_finding.proofs.Nothing.{told_not}
use Rattle.sp_finding.proofs.Telling.{told_both}

-- ---- each by itself

module _ (symbols : List Symbol) (es : List Equation) (e : Equation) where
  abbrev wrong : Bool
  wrong = not (is_well_formed symbols es e) && not (has_private_constant symbols es e)

  right_of_formed : IsWellFormed symbols es e → is_well_formed symbols es e ≡ true
  right_of_formed w = (is_well_formed_decides symbols es e).1 w

  pub shape_of_formed : IsWellFormed symbols es e → (not (is_well_formed symbols es e) && not (has_private_constant symbols es e)) ≡ false
  shape_of_formed w = ap (λ (b : Bool). not b && not (has_private_constant symbols es e)) (right_of_formed w)

  pub private_of_private : HasPrivateConstant symbols es e → has_private_constant symbols es e ≡ true
  private_of_private p = (has_private_constant_decides symbols es e).1 p

  pub shape_of_private : HasPrivateConstant symbols es e → (not (is_well_formed symbols es e) && not (has_private_constant symbols es e)) ≡ false
  shape_of_private p = ap (λ (b : Bool). not (is_well_formed symbols es e) && not b) (private_of_private p) ∙ and_right (not (is_well_formed symbols es e)) false refl

  not_right : (IsWellFormed symbols es e → ⊥) → is_well_formed symbols es e ≡ false
  not_right w = false_from_ne_true (is_well_formed symbols es e) (λ h. w ((is_well_formed_decides symbols es e).0 h))

  not_private : (HasPrivateConstant symbols es e → ⊥) → has_private_constant symbols es e ≡ false
  not_private p = false_from_ne_true (has_private_constant symbols es e) (λ h. p ((has_private_constant_decides symbols es e).0 h))

  pub shape_of_wrong : HasWrongShape symbols es e → (not (is_well_formed symbols es e) && not (has_private_constant symbols es e)) ≡ true
  shape_of_wrong w = ap₂ (λ (a b : Bool). not a && not b) (not_right w.wrong) (not_private w.other)

  pub private_of_formed : IsWellFormed symbols es e → has_private_constant symbols es e ≡ false
  private_of_formed w = not_private (λ p. p.wrong w)

  pub private_of_wrong : HasWrongShape symbols es e → has_private_constant symbols es e ≡ false
  private_of_wrong w = not_private w.other

-- ---- neither on any of the equations

module _ (symbols : List Symbol) (es : List Equation) where
  turned : (a b c d : Bool) → ((not a && b) && (not c && d)) ≡ ((not a && not c) && (b && d))
  turned true b c d = refl
  turned false true c d = refl
  turned false false true d = refl
  turned false false false d = refl

  -- one equation more
  one_more_formed : (e : Numbered) (rest : List Numbered)
      → (are_none (shapes symbols es (e ∷ rest)) && are_none (private_constants symbols es (e ∷ rest)))
      ≡ (is_formed symbols es e.1 && (are_none (shapes symbols es rest) && are_none (private_constants symbols es rest)))
  one_more_formed e rest =
      let a = not (is_well_formed symbols es e.1) && not (has_private_constant symbols es e.1) in
      let c = has_private_constant symbols es e.1 in
      ap₂ (λ (x y : Bool). x && y) (told_not a (wrong_shape e.0) (shapes symbols es rest)) (told_not c (private_constant e.0) (private_constants symbols es rest))
      ∙ turned a (are_none (shapes symbols es rest)) c (are_none (private_constants symbols es rest))

  abbrev pub all_formed : List Numbered → Bool
  all_formed numbered = are_none (shapes symbols es numbered) && are_none (private_constants symbols es numbered)

  -- one equation, and then the others
  pub next_formed : {A : Type 0} (view : A → Numbered) (ys : List A) (i : ℕ) (x : A) → i < length ys → x ≡ get_or ys i x
      → all_formed (map view (drop i ys)) ≡ (is_formed symbols es (view x).1 && all_formed (map view (drop (i + 1) ys)))
  next_formed {A = A} view ys i x h e =
      ap (λ (zs : List A). all_formed (map view zs)) (next_there ys ys i x refl h e) ∙ one_more_formed (view x) (map view (drop (i + 1) ys))

-- ---- two that clash

module _ (d e : Equation) where
  abbrev left_under : List Binding → Term Variable
  left_under bs = valued (bound_to bs) d.right

  abbrev right_under : List Binding → Term Variable
  right_under bs = valued (bound_to bs) (shifted (apart d) e.right)

  pub do_clash_by : (bs : List Binding) → DoClashBy d e bs → do_clash d e ≡ true
  do_clash_by bs c =
      ap (differ_by d e) c.unified
      ∙ not_from_false (alike (left_under bs) (right_under bs)) (false_from_ne_true (alike (left_under bs) (right_under bs)) (λ h. c.differ ((alike_decides (left_under bs) (right_under bs)).0 h)))

  by_bindings : (o : Option (List Binding)) → mgu (overlap d e) ≡ o → differ_by d e o ≡ true → DoClash d e
  by_bindings None u h = absurd cc
  by_bindings (Some bs) u h =
      (bs, record { unified = u; differ = λ k. both_ways (alike (left_under bs) (right_under bs)) (not-true (alike (left_under bs) (right_under bs)) h) ((alike_decides (left_under bs) (right_under bs)).1 k) })

  pub clash_tells : do_clash d e ≡ true → DoClash d e
  clash_tells h = by_bindings (mgu (overlap d e)) refl h

  pub do_not_clash : (DoClash d e → ⊥) → do_clash d e ≡ false
  do_not_clash n = false_from_ne_true (do_clash d e) (λ h. n (clash_tells h))

  -- as it is found
  pub some_clash : {A : Type 0} (bs : A → List Binding) (o : Option A) → MatchOption o (DoClash d e → ⊥) (λ (a : A). DoClashBy d e (bs a)) → is_some o ≡ do_clash d e
  some_clash bs None n = sym (do_not_clash n)
  some_clash bs (Some a) c = sym (do_clash_by (bs a) c)

-- one equation, and then the others
pub next_clash : {A : Type 0} (view : A → Numbered) (ys zs xs : List A) (i : ℕ) (x : A) (a b target : List (List ℕ)) → ys ≡ xs → zs ≡ xs → i < length ys → x ≡ get_or ys i x
    → b ≡ lines_after a (clashes_with (view x) (map view (take (length zs - (i + 1)) (drop (i + 1) zs)))) → lines_after a (clashes (map view (drop i xs))) ≡ target → lines_after b (clashes (map view (drop (i + 1) xs))) ≡ target
next_clash {A = A} view ys zs xs i x a b target same other h e told inv =
    let rest = map view (drop (i + 1) xs) in
    let behind : List A → List (List ℕ) = λ ws. lines_after a (clashes_with (view x) (map view ws)) in
    ap (λ (ls : List (List ℕ)). lines_after ls (clashes rest)) (told ∙ (ap behind (take_rest zs (i + 1)) ∙ ap (λ (ws : List A). behind (drop (i + 1) ws)) other))
    ∙ told_both (clashes_with (view x) rest) a (clashes rest)
    ∙ ap (λ (ws : List A). lines_after a (clashes (map view ws))) (sym (next_there ys xs i x same h e)) ∙ inv
