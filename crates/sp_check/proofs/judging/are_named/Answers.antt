use Rattle.std.proofs.Common.{◌≡◌, Bool, true, false, not, ◌&&◌, List, [], ◌∷◌, length, map, ◌⊎◌, inl, inr, refl, sym, ap, ap₂, ◌∙◌, arith}
use Rattle.std.specs.Prelude.{String, bytes_eq, string_bytes}
use Rattle.std.specs.Slice.Iter.{iter_rest}
use Rattle.std.proofs.lemmas.Bool.{false_from_ne_true}
use Rattle.std.proofs.lemmas.Slice.Zip.{either_empty_from_Zip}
use Rattle.sp_moves.specs.declared.moves.Case.{Case}
use Rattle.sp_step.specs.View.{case_of}
use Rattle.sp_check.specs.Judging.{are_named}
use Rattle.sp_check.proofs.Names.{as_many}
use Rattle.sp_check.proofs.judging.are_named.Goals as goal

-- the first case has its name, and the others theirs
named_further : {A : Type 0} (case : Case) (name : String A) (b : Bool) (all cases : List Case) (whole names : List (String A)) → all ≡ case ∷ cases → whole ≡ name ∷ names
    → bytes_eq (case_of case).name (string_bytes name) ≡ b → are_named (map case_of all) (map string_bytes whole) ≡ (b && are_named (map case_of cases) (map string_bytes names))
named_further {A = A} case name b all cases whole names e h k =
    ap₂ (λ (cs : List Case) (ns : List (String A)). are_named (map case_of cs) (map string_bytes ns)) e h
    ∙ ap (λ (d : Bool). d && are_named (map case_of cases) (map string_bytes names)) k

-- those that are left are as many
ended : {A : Type 0} (cases : List Case) (names : List (String A)) → (cases ≡ []) ⊎ (names ≡ []) → length cases ≡ length names → are_named (map case_of cases) (map string_bytes names) ≡ true
ended [] [] e same = refl
ended [] (name ∷ names) e same = absurd (omega (arith, same))
ended (case ∷ cases) [] e same = absurd (omega (arith, same))
ended (case ∷ cases) (name ∷ names) (inl e) same = absurd (omega (arith, ap length e))
ended (case ∷ cases) (name ∷ names) (inr e) same = absurd (omega (arith, ap length e))

unequal : (b : Bool) → true ≡ not b → b ≡ false
unequal true e = e
unequal false e = refl

equal : (b : Bool) → false ≡ not b → b ≡ true
equal true e = refl
equal false e = e

pub returns-then-len : goal.returns-then-len
returns-then-len c =
    let cs = c.args.cases.now in
    let names = c.args.names.now in
    sym (false_from_ne_true _ (λ h. absurd (omega (arith, as_many cs.items names.items h, c.if-len.true, c.len.ensures, c.len-2.ensures, cs.ok.0, names.ok.0))))

pub loop-case-preserved : goal.loop-case-preserved
loop-case-preserved c =
    let steps = c.in-Some.ensures.steps in
    let case = c.in-Some.case.now in
    let name = c.in-Some.name.now in (
      c.loop-case.invariant.0
          ∙ named_further case name true (iter_rest c.loop-case.case-iterator.a) (iter_rest c.next.new.self.a) (iter_rest c.loop-case.case-iterator.b) (iter_rest c.next.new.self.b) steps.0 steps.1
          (equal (bytes_eq (case_of case).name (string_bytes name)) c.if-ne.ensures),
      omega (arith, ap length steps.0, ap length steps.1, c.loop-case.invariant.1),
    )

pub returns-then-ne : goal.returns-then-ne
returns-then-ne c =
    let steps = c.in-Some.ensures.steps in
    let case = c.in-Some.case.now in
    let name = c.in-Some.name.now in
    sym (c.loop-case.invariant.0
    ∙ named_further case name false (iter_rest c.loop-case.case-iterator.a) (iter_rest c.next.new.self.a) (iter_rest c.loop-case.case-iterator.b) (iter_rest c.next.new.self.b) steps.0 steps.1
    (unequal (bytes_eq (case_of case).name (string_bytes name)) c.if-ne.ensures))

pub returns : goal.returns
returns c =
    sym (c.loop-case.invariant.0
    ∙ ended (iter_rest c.loop-case.case-iterator.a) (iter_rest c.loop-case.case-iterator.b)
    (either_empty_from_Zip c.loop-case.case-iterator c.next.new.self c.next.result c.in-None.is c.next.ensures.steps) c.loop-case.invariant.1)
