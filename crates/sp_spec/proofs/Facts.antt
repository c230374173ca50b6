-- Facts and actions with equal parts are equal.
use Rattle.std.proofs.Common.{◌≡◌, ℕ, List, Bool, ap, ◌∙◌}
use Rattle.sp_spec.specs.Term.{Grounds}
use Rattle.sp_spec.specs.Rule.{Fact, Action, Facts}

abbrev pub made_fact : List ℕ → Bool → Grounds → Fact ⊥
made_fact f p ts = record { symbol = f; persistent = p; args = ts }

abbrev pub made_action : List ℕ → Grounds → Action ⊥
made_action f ts = record { symbol = f; args = ts }

abbrev pub made_facts : List (Fact ⊥) → List (Action ⊥) → List (Fact ⊥) → Facts ⊥
made_facts ps as' cs = record { premises = ps; actions = as'; conclusions = cs }

pub same_fact_parts : (f g : Fact ⊥) → f.symbol ≡ g.symbol → f.persistent ≡ g.persistent → f.args ≡ g.args → f ≡ g
same_fact_parts f g s p a =
    ap (λ x. made_fact x f.persistent f.args) s ∙ ap (λ x. made_fact g.symbol x f.args) p ∙ ap (made_fact g.symbol g.persistent) a

pub same_action_parts : (a b : Action ⊥) → a.symbol ≡ b.symbol → a.args ≡ b.args → a ≡ b
same_action_parts a b s e = ap (λ x. made_action x a.args) s ∙ ap (made_action b.symbol) e
