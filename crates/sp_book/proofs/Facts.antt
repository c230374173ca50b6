-- No left side matches a term in facts: in premises, then in actions, then in conclusions.
use Rattle.std.proofs.Common.{◌≡◌, Bool, ◌&&◌, ◌++◌, map, ap, ◌∙◌}
use Rattle.std.specs.List.{list_all}
use Rattle.std.proofs.lemmas.List.Folds.{list_all-append}
use Rattle.sp_spec.specs.Term.{Variable, Terms}
use Rattle.sp_spec.specs.Rule.{Facts}
use Rattle.sp_spec_forms.specs.Reducible.{args_of}

pub all_of : (p : Terms Variable → Bool) (f : Facts Variable)
    → list_all p (args_of f) ≡ (list_all p (map (λ x. x.args) f.premises) && (list_all p (map (λ a. a.args) f.actions) && list_all p (map (λ c. c.args) f.conclusions)))
all_of p f =
    let actions = map (λ a. a.args) f.actions in
    let conclusions = map (λ c. c.args) f.conclusions in
    list_all-append p (map (λ x. x.args) f.premises) (actions ++ conclusions)
    ∙ ap (λ (b : Bool). list_all p (map (λ x. x.args) f.premises) && b) (list_all-append p actions conclusions)
