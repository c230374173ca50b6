use Rattle.std.proofs.Common.{List, ℕ, Vec, Global, sym, ap, ◌∙◌}
use Rattle.sp_spec_printed.specs.Printed.{is_pair}
use Rattle.sp_term.specs.View.{name_of, Never}
use Rattle.sp_term.specs.declared.term.Term.{Term}
use Rattle.sp_fact.specs.GroundView.{ground_of, grounds_of}
use Rattle.sp_fact.proofs.Applied.{ground_app}
use Rattle.sp_read_steps.specs.Reading.{is_pair_term}
use Rattle.sp_read_steps.proofs.terms.is_pair_term.Goals as goal

pub returns-in-App : goal.returns-in-App
returns-in-App c =
    let f = c.in-App.symbol in
    let ts = c.in-App.terms in
    c.is_pair.ensures
    ∙ ap (λ (g : List ℕ). is_pair g (grounds_of c.deref.result.now.items)) c.as_str.ensures.value
    ∙ ap (λ (us : Vec (Term Never) Global). is_pair (name_of f) (grounds_of us.items)) c.deref.ensures
    ∙ ap is_pair_term (sym (ground_app f ts c.in-App.field-2))
    ∙ ap (λ (t : Term Never). is_pair_term (ground_of t)) (sym c.in-App.is)
