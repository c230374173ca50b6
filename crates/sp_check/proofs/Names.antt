-- The test of the branches' names.
use Rattle.std.proofs.Common.{◌≡◌, ℕ, true, List, [], ◌∷◌, length, map, refl, sym, ap, ◌∙◌}
use Rattle.std.proofs.lemmas.List.{length-map}
use Rattle.std.specs.Bool.{Decides}
use Rattle.std.specs.Prelude.{bytes_eq, String, string_bytes}
use Rattle.std.proofs.lemmas.Bool.{false≢true}
use Rattle.std.proofs.lemmas.Bool.Decides.{Decides-and}
use Rattle.std.proofs.lemmas.Slice.Eq.{bytes_eq-Decides}
use Rattle.sp_spec_system.specs.Move.{Case}
use Rattle.sp_moves.specs.declared.moves.Case as memory
use Rattle.sp_step.specs.View.{case_of}
use Rattle.sp_check.specs.Rejected.{case_names}
use Rattle.sp_check.specs.Judging.{are_named}

pub named_decides : (cs : List Case) (names : List (List ℕ)) → Decides (are_named cs names) (names ≡ case_names cs)
named_decides [] [] = (λ _. refl, λ _. refl)
named_decides [] (name ∷ names) = (λ e. absurd (false≢true e), λ e. cc)
named_decides (c ∷ cs) [] = (λ e. absurd (false≢true e), λ e. cc)
named_decides (c ∷ cs) (name ∷ names) =
    let d = Decides-and (bytes_eq c.name name) (are_named cs names) (bytes_eq-Decides c.name name) (named_decides cs names) in
    (λ e. let h = d.0 e in let first = h.0 in let others = h.1 in cc, λ e. d.1 (cc, cc))

-- cases with these names are as many
pub named_as_many : (cs : List Case) (names : List (List ℕ)) → are_named cs names ≡ true → length cs ≡ length names
named_as_many cs names e = sym (length-map cs (λ (c : Case). c.name)) ∙ ap length (sym ((named_decides cs names).0 e))

pub as_many : {A : Type 0} (cs : List memory.Case) (names : List (String A)) → are_named (map case_of cs) (map string_bytes names) ≡ true → length cs ≡ length names
as_many cs names e =
    sym (length-map cs case_of) ∙ named_as_many (map case_of cs) (map string_bytes names) e ∙ length-map names string_bytes
