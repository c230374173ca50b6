use Rattle.std.proofs.Common.{◌≡◌, ℕ, List, IfErr, map, string_bytes, ap, ◌∙◌, subst}
use Rattle.sp_words.specs.declared.RequestError.TheVariants.{NoLine}
use Rattle.sp_top.specs.Command.{IsNoLine}
use Rattle.sp_top.proofs.Lines.{asks_nothing}
use Rattle.sp_top.proofs.words.Words.request.Goals as goal

pub returns-clause-no_line : goal.returns-clause-no_line
returns-clause-no_line c =
    subst (λ (line : List (List ℕ)). IfErr c.read_request.result (λ cause. cause ≡ NoLine → IsNoLine line)) (ap (map string_bytes) c.as_slice.ensures.value ∙ c.self.view_is)
    (asks_nothing (map string_bytes c.as_slice.result.now) c.read_request.result c.read_request.ensures.no_line)
