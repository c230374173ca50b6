-- The names of a theory are those of the items in which values stand for bound names, and symbols for the names that are such.
use Rattle.std.proofs.Common.{◌≡◌, [], ◌++◌, List, ap, ◌∙◌}
use Rattle.sp_spec.specs.Written.{WrittenRule}
use Rattle.sp_spec_text.specs.Written.{Item, WrittenText, restrictions_in, lemmas_in}
use Rattle.sp_spec_text.specs.Declared.{resolved, theory_in}
use Rattle.sp_spec.specs.Constants.{in_rules, in_restrictions, in_lemmas, once_after, constants_of}
use Rattle.sp_declared.specs.Constants.{constants_in}
use Rattle.sp_declared.proofs.WrittenRules.{rules_all}

pub theory_constants : (t : WrittenText) (items : List Item) → items ≡ (resolved t).items → constants_in items ≡ constants_of (theory_in t)
theory_constants t items e =
    ap constants_in e
    ∙ ap (λ (rs : List WrittenRule). once_after [] (in_rules rs ++ (in_restrictions (restrictions_in (resolved t).items) ++ in_lemmas (lemmas_in (resolved t).items)))) (rules_all t)
