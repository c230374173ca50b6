-- No finding stands on equations exactly where they are accepted.
use Rattle.std.proofs.Common.{◌≡◌, ◌<◌, ℕ, zero, suc, Bool, true, false, not, ◌&&◌, if◌then◌else◌, List, [], ◌∷◌, ◌++◌, inl, inr, refl, sym, ap, ◌∙◌, subst, arith}
use Rattle.sp_spec.specs.Lists.{Member, Every, AtPlace}
use Rattle.sp_spec.specs.Signature.{Symbol, Equation}
use Rattle.sp_spec_text.specs.Declared.{Numbered, their_equations}
use Rattle.sp_law_conv.specs.Clash.{DoClash}
use Rattle.sp_law_conv.specs.Accepted.{IsWellFormed, AreAccepted}
use Rattle.sp_conv.specs.Tests.{is_well_formed, has_private_constant}
use Rattle.sp_conv.proofs.Tests.{is_well_formed_decides}
use Rattle.sp_finding.specs.Finding.{Finding, wrong_shape, private_constant, clash, are_none}
use Rattle.sp_wf_symbols.specs.EquationFindings.{shapes, private_constants, do_clash, clashes_with, clashes, findings_on_equations}
use Rattle.sp_finding.proofs.Nothing.{both_true, none_told, told_none, none_parts, none_both}
use Rattle.sp_wf_symbols.proofs.EquationForms.{shape_of_formed, private_of_formed, do_clash_by, do_not_clash}

-- ---- each by itself

module _ (symbols : List Symbol) (es : List Equation) where
  abbrev Formed : Numbered → Type 0
  Formed e = IsWellFormed symbols es e.1

  right_is : (a b : Bool) → (not a && not b) ≡ false → b ≡ false → a ≡ true
  right_is true b e k = refl
  right_is false true e k = absurd cc
  right_is false false e k = absurd cc

  all_formed : (numbered : List Numbered) → are_none (shapes symbols es numbered) ≡ true → are_none (private_constants symbols es numbered) ≡ true → Every Formed numbered
  all_formed [] s p = tt
  all_formed (e ∷ rest) s p =
      let a = none_told (not (is_well_formed symbols es e.1) && not (has_private_constant symbols es e.1)) (wrong_shape e.0) (shapes symbols es rest) s in
      let b = none_told (has_private_constant symbols es e.1) (private_constant e.0) (private_constants symbols es rest) p in
      ((is_well_formed_decides symbols es e.1).0 (right_is (is_well_formed symbols es e.1) (has_private_constant symbols es e.1) a.0 b.0), all_formed rest a.1 b.1)

  no_shape : (numbered : List Numbered) → Every Formed numbered → are_none (shapes symbols es numbered) ≡ true
  no_shape [] h = refl
  no_shape (e ∷ rest) h =
      told_none (not (is_well_formed symbols es e.1) && not (has_private_constant symbols es e.1)) (wrong_shape e.0) (shapes symbols es rest) (shape_of_formed symbols es e.1 h.0) (no_shape rest h.1)

  no_private : (numbered : List Numbered) → Every Formed numbered → are_none (private_constants symbols es numbered) ≡ true
  no_private [] h = refl
  no_private (e ∷ rest) h =
      told_none (has_private_constant symbols es e.1) (private_constant e.0) (private_constants symbols es rest) (private_of_formed symbols es e.1 h.0) (no_private rest h.1)

each_theirs : (P : Equation → Type 0) (numbered : List Numbered) → Every (λ (e : Numbered). P e.1) numbered → (e : Equation) → Member e (their_equations numbered) → P e
each_theirs P [] h e m = absurd m
each_theirs P (d ∷ rest) h e (inl m) = subst P m h.0
each_theirs P (d ∷ rest) h e (inr m) = each_theirs P rest h.1 e m

each_numbered : (P : Equation → Type 0) (numbered : List Numbered) → ((e : Equation) → Member e (their_equations numbered) → P e) → Every (λ (e : Numbered). P e.1) numbered
each_numbered P [] h = tt
each_numbered P (d ∷ rest) h = (h d.1 (inl refl), each_numbered P rest (λ e m. h e (inr m)))

-- ---- two that clash

abbrev Apart : Equation → Equation → Type 0
Apart d e = DoClash d e → ⊥

apart_by : (d e : Equation) → do_clash d e ≡ false → Apart d e
apart_by d e h c = absurd (let k = do_clash_by d e c.0 c.1 in let g : true ≡ false = sym k ∙ h in absurd cc)

all_apart : (d : Numbered) (rest : List Numbered) → are_none (clashes_with d rest) ≡ true → (k : ℕ) (e : Equation) → AtPlace (their_equations rest) k e → Apart d.1 e
all_apart d [] n k e a = absurd a
all_apart d (f ∷ rest) n zero e a = subst (Apart d.1) a (apart_by d.1 f.1 (none_told (do_clash d.1 f.1) (clash d.0 f.0) (clashes_with d rest) n).0)
all_apart d (f ∷ rest) n (suc k) e a = all_apart d rest (none_told (do_clash d.1 f.1) (clash d.0 f.0) (clashes_with d rest) n).1 k e a

none_clash : (numbered : List Numbered) → are_none (clashes numbered) ≡ true → (j k : ℕ) (d e : Equation) → AtPlace (their_equations numbered) j d → AtPlace (their_equations numbered) k e → j < k → Apart d e
none_clash [] n j k d e a b h = absurd a
none_clash (f ∷ rest) n zero zero d e a b h = absurd (omega arith)
none_clash (f ∷ rest) n zero (suc k) d e a b h = subst (λ (z : Equation). Apart z e) a (all_apart f rest (none_parts (clashes_with f rest) (clashes rest) n).0 k e b)
none_clash (f ∷ rest) n (suc j) zero d e a b h = absurd (omega arith)
none_clash (f ∷ rest) n (suc j) (suc k) d e a b h = none_clash rest (none_parts (clashes_with f rest) (clashes rest) n).1 j k d e a b (omega arith)

no_clash_with : (d : Numbered) (rest : List Numbered) → ((k : ℕ) (e : Equation) → AtPlace (their_equations rest) k e → Apart d.1 e) → are_none (clashes_with d rest) ≡ true
no_clash_with d [] h = refl
no_clash_with d (f ∷ rest) h =
    told_none (do_clash d.1 f.1) (clash d.0 f.0) (clashes_with d rest) (do_not_clash d.1 f.1 (h zero f.1 refl)) (no_clash_with d rest (λ k e a. h (suc k) e a))

no_clash : (numbered : List Numbered) → ((j k : ℕ) (d e : Equation) → AtPlace (their_equations numbered) j d → AtPlace (their_equations numbered) k e → j < k → Apart d e) → are_none (clashes numbered) ≡ true
no_clash [] h = refl
no_clash (f ∷ rest) h =
    none_both (clashes_with f rest) (clashes rest) (no_clash_with f rest (λ k e a. h zero (suc k) f.1 e refl a (omega arith)))
    (no_clash rest (λ j k d e a b l. h (suc j) (suc k) d e a b (omega arith)))

-- ---- all equations

module _ (symbols : List Symbol) (numbered : List Numbered) where
  abbrev theirs : List Equation
  theirs = their_equations numbered

  abbrev last : List Finding
  last = if are_none (shapes symbols theirs numbered) && are_none (private_constants symbols theirs numbered) then clashes numbered else []

  pub clean_accepted : are_none (findings_on_equations symbols numbered) ≡ true → AreAccepted symbols (their_equations numbered)
  clean_accepted n =
      let a = none_parts (shapes symbols theirs numbered) (private_constants symbols theirs numbered ++ last) n in
      let b = none_parts (private_constants symbols theirs numbered) last a.1 in
      let formed = all_formed symbols theirs numbered a.0 b.0 in
      let looked = ap (λ (c : Bool). are_none (if c then clashes numbered else [])) (both_true a.0 b.0) in
      record { each = each_theirs (IsWellFormed symbols theirs) numbered formed; agree = none_clash numbered (sym looked ∙ b.1) }

  pub accepted_clean : AreAccepted symbols (their_equations numbered) → are_none (findings_on_equations symbols numbered) ≡ true
  accepted_clean h =
      let formed = each_numbered (IsWellFormed symbols theirs) numbered h.each in
      let a = no_shape symbols theirs numbered formed in
      let b = no_private symbols theirs numbered formed in
      none_both (shapes symbols theirs numbered) (private_constants symbols theirs numbered ++ last) a
      (none_both (private_constants symbols theirs numbered) last b (ap (λ (c : Bool). are_none (if c then clashes numbered else [])) (both_true a b) ∙ no_clash numbered h.agree))
