-- The test of a root tells whether a system is the one in which its proof begins. So induction is an instance there alone.
use Rattle.std.proofs.Common.{◌≡◌, ◌==◌, suc, Bool, true, false, not, List, [], ◌∷◌, length, Option, option_map, if◌then◌else◌, Some, None, is_none, refl, sym, subst, ap, ◌∙◌}
use Rattle.std.specs.Bool.{Decides}
use Rattle.std.proofs.lemmas.Bool.{and_parts, eqb-true}
use Rattle.sp_spec.specs.Guarded.{Guarded, parts_of, guardeds_of}
use Rattle.sp_spec.specs.SameFormula.{same_formulas}
use Rattle.sp_spec.proofs.Guardeds.{parts_so}
use Rattle.sp_spec_system.specs.System.{System, formulas_alone}
use Rattle.sp_spec_system.specs.Move.{Case, InductionCases, Root, root_formulas, root_system}
use Rattle.sp_spec_formula.specs.Induction.{induction_cases, is_empty, has_formulas_alone, is_root, root_induction}
use Rattle.sp_spec.proofs.SameFormula.{same_formulas_decides}

none_there : {A : Type 0} (xs : List A) → is_empty xs ≡ true → xs ≡ []
none_there [] e = refl
none_there (x ∷ xs) e = let k : suc (length xs) ≡ 0 = eqb-true (suc (length xs)) 0 e in absurd cc

nothing : {A : Type 0} (o : Option A) → is_none o ≡ true → o ≡ None
nothing None e = refl
nothing (Some x) e = absurd cc

isnt : (b : Bool) → not b ≡ true → b ≡ false
isnt false e = refl
isnt true e = absurd cc

same_lists : (fs gs : List Guarded) → same_formulas (guardeds_of fs) (guardeds_of gs) ≡ true → fs ≡ gs
same_lists fs gs e = sym (parts_so fs) ∙ ap parts_of ((same_formulas_decides (guardeds_of fs) (guardeds_of gs)).0 e) ∙ parts_so gs

formulas_only : (s : System) (fs : List Guarded) → s.events ≡ [] → s.formulas ≡ fs → s.spent ≡ [] → s.unequal ≡ [] → s.links ≡ [] → s.order ≡ [] → s.last ≡ None → s.closed ≡ false → s.next ≡ 0
    → s ≡ formulas_alone fs
formulas_only s fs a b c d e f g h i =
    let fields : System = record { events = s.events; formulas = s.formulas; spent = s.spent; unequal = s.unequal; links = s.links; order = s.order; last = s.last; closed = s.closed; next = s.next } in
    let same_fields : fields ≡ formulas_alone fs = cc in
    same_fields

root_tells : (r : Root) (s : System) → is_root r s ≡ true → s ≡ root_system r
root_tells r s e =
    let both = and_parts (has_formulas_alone s) (same_formulas (guardeds_of s.formulas) (guardeds_of (root_formulas r))) e in
    let a = and_parts (s.next == 0) _ both.0 in
    let b = and_parts (not s.closed) _ a.1 in
    let c = and_parts (is_none s.last) _ b.1 in
    let d = and_parts (is_empty s.events) _ c.1 in
    let f = and_parts (is_empty s.spent) _ d.1 in
    let g = and_parts (is_empty s.unequal) _ f.1 in
    let h = and_parts (is_empty s.links) _ g.1 in
    formulas_only s (root_formulas r) (none_there s.events d.0) (same_lists s.formulas (root_formulas r) both.1) (none_there s.spent f.0) (none_there s.unequal g.0)
    (none_there s.links h.0) (none_there s.order h.1) (nothing s.last c.0) (isnt s.closed b.0) (eqb-true s.next 0 a.0)

root_itself : (r : Root) → is_root r (root_system r) ≡ true
root_itself r = (same_formulas_decides (guardeds_of (root_formulas r)) (guardeds_of (root_formulas r))).1 refl

pub is_root_decides : (r : Root) (s : System) → Decides (is_root r s) (s ≡ root_system r)
is_root_decides r s = (root_tells r s, λ e. subst (λ (t : System). is_root r t ≡ true) (sym e) (root_itself r))

-- the root at which the move is an instance, and whose cases it has
pub record IsAtRoot (o : Option Root) (s : System) (cs : List Case) : Type 0 where
  pub root : Root
  pub is_root : o ≡ Some root
  pub begins : s ≡ root_system root
  pub parts : InductionCases
  pub has_parts : root.cases ≡ Some parts
  pub cases : cs ≡ induction_cases parts

pub only_at_root : (o : Option Root) (s : System) (cs : List Case) → root_induction o s ≡ Some cs → IsAtRoot o s cs
only_at_root None s cs e = absurd cc
only_at_root (Some r) s cs e = at (is_root r s) refl e
  where
    at_cases : s ≡ root_system r → (o : Option InductionCases) → r.cases ≡ o → option_map induction_cases o ≡ Some cs → IsAtRoot (Some r) s cs
    at_cases begins None h k = absurd cc
    at_cases begins (Some i) h k =
        let same : induction_cases i ≡ cs = cc in record { root = r; is_root = refl; begins = begins; parts = i; has_parts = h; cases = sym same }

    at : (b : Bool) → is_root r s ≡ b → (if b then option_map induction_cases r.cases else None) ≡ Some cs → IsAtRoot (Some r) s cs
    at false h k = absurd cc
    at true h k = at_cases (root_tells r s h) r.cases refl k

pub it_is_there : (r : Root) (i : InductionCases) → r.cases ≡ Some i → root_induction (Some r) (root_system r) ≡ Some (induction_cases i)
it_is_there r i e = rw (root_itself r) (ap (option_map induction_cases) e)
