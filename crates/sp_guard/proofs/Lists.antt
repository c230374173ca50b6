-- Lists that are looked through from the outermost binder to the innermost.
use Rattle.std.proofs.Common.{arith, ◌≡◌, ◌+◌, ◌<◌, ◌∙◌, ap, ℕ, suc, List, [], ◌∷◌, length, map, take, get_or, Option, Some, option_map, if◌then◌else◌}
use Rattle.std.specs.Str.{bytes_eq}
use Rattle.std.proofs.Math.Seq.{take-suc}
use mathlib.Core.List.{map-append}
use Rattle.sp_spec.specs.Formula.{Written}
use Rattle.sp_read_parts.specs.declared.written.Mark.TheVariants.{Bare}
use Rattle.sp_read_parts.specs.declared.written.WrittenVariable.{WrittenVariable}
use Rattle.sp_read_parts.specs.Views.{variable}
use Rattle.sp_law_guard.specs.GuardedForm.{Meant, binder_meant, past_binder, meant}
use Rattle.sp_guard.specs.View.{innermost_first}
use Rattle.sp_spec.specs.Lists.{newest_first}
use Rattle.sp_spec.proofs.Lists.{newest_last}

-- what stands behind the end of a list
abbrev pub none_written : WrittenVariable
none_written = record { name = record { ref_ptr = (0, 0); now = [] }; mark = Bare }

-- what a name means inside one more binder
abbrev pub inside : List ℕ → Written → Option Meant → Option Meant
inside x b outside = if bytes_eq b.name x then Some (binder_meant b.mark) else option_map (past_binder b.mark) outside

pub meant_more : (x : List ℕ) → (bs : List WrittenVariable) → (i : ℕ) → (d : WrittenVariable) → i < length bs
    → meant (innermost_first (take (i + 1) bs)) x ≡ inside x (variable (get_or bs i d)) (meant (innermost_first (take i bs)) x)
meant_more x bs i d below =
    let b = get_or bs i d in
    let next : i + 1 ≡ suc i = omega arith in
    ap (λ (n : ℕ). meant (innermost_first (take n bs)) x) next
    ∙ ap (λ (cs : List WrittenVariable). meant (innermost_first cs) x) (take-suc bs i d below)
    ∙ ap (λ (cs : List Written). meant (newest_first cs) x) (map-append variable (take i bs) (b ∷ []))
    ∙ ap (λ (cs : List Written). meant cs x) (newest_last (map variable (take i bs)) (variable b))
