-- What the log says of an entry: its actions, its rule and its form, and the new event that stands for it.
use Rattle.std.proofs.Common.{◌≡◌, ◌+◌, ◌-◌, ℕ, suc, Bool, true, false, if◌then◌else◌, List, [], ◌∷◌, map, length, refl, sym, ap, ◌∙◌, subst, inl, inr, arith, nat_lt, lt-ltb}
use Rattle.std.proofs.lemmas.Bool.{ltb-true}
use Rattle.sp_spec.specs.Lists.{Every, Member, AtPosition}
use Rattle.sp_spec.specs.Term.{Names, Sort, Variable, Ground, Grounds, Values, valued}
use Rattle.sp_spec.specs.Signature.{Equation, IsValuation}
use Rattle.sp_spec.specs.Equal.{IsNormal, AreNormal}
use Rattle.sp_spec.specs.Rule.{Action, Facts, Rule, action_at, facts_at, SameAction, AreNormalActions}
use Rattle.sp_spec.specs.Theory.{Theory, signature_of}
use Rattle.sp_spec.specs.Log.{Log, Entry, step, send, learn, Source, entry_actions, log_trace, IsRuleInstance, rule_instance, IsLog}
use Rattle.sp_spec.proofs.Logs.{entry_behind}
use Rattle.sp_spec.proofs.Lists.{every_member, member_map}
use Rattle.sp_spec_forms.specs.Numbering.{Form}
use Rattle.sp_spec_forms.specs.Forms.{RuleForms, forms, forms_of}
use Rattle.sp_law_equal.specs.NormalForms.{HaveNormalForms}
use Rattle.sp_law_equal.proofs.Values.{equal_all_normal_same}
use Rattle.sp_law_equal.proofs.Facts.{one_normal_form}
use Rattle.sp_law_system.specs.Rules.{IsNumberedForm, FormsAreNumbered, FormsAreWhole}
use Rattle.sp_spec_system.specs.System.{Happening, rule_step, sending, learning, happening_actions}
use Rattle.sp_spec_system.specs.Solutions.{Valuation, HappensAt}
use Rattle.sp_spec_system.specs.Covering.{Agrees}

pub length_trace : (log : Log) → length (log_trace log) ≡ length log
length_trace [] = refl
length_trace (e ∷ log) = ap suc (length_trace log)

-- an entry of the log's trace is that of the log at the same position
pub traced : (log : Log) (p : ℕ) (actions : List (Action ⊥)) → AtPosition (log_trace log) p actions → (e : Entry) × AtPosition log p e × (actions ≡ entry_actions e)
traced [] p actions a = absurd a
traced (e ∷ log) p actions (inl a) = (e, inl (a.0 ∙ length_trace log, refl), sym a.1)
traced (e ∷ log) p actions (inr a) = let r = traced log p actions a in (r.0, inr r.1, r.2)

-- the entry of what happens, and that it shows the actions
pub happened : (log : Log) (p : ℕ) (v : Valuation) (h : Happening) → HappensAt log p v h → (e : Entry) × AtPosition log p e × (entry_actions e ≡ map (action_at v.terms) (happening_actions h))
happened log p v (rule_step r facts) k = (step r (facts_at v.terms facts) k.0, k.1, refl)
happened log p v (sending m) k = (send (valued v.terms m), k, refl)
happened log p v (learning m way) k = (learn (valued v.terms m) k.0, k.1, refl)

-- a step of the log is an instance of a rule
pub entry_is_step : (theory : Theory) (log : Log) → IsLog theory log → (p : ℕ) (r : List ℕ) (facts : Facts ⊥) (sources : List Source) → AtPosition log p (step r facts sources) → IsRuleInstance theory r facts
entry_is_step theory log is p r facts sources a = (entry_behind theory log is p (step r facts sources) a).keeps rule_instance

-- the actions of a normal form are normal
normal_among : (es : List Equation) (xs ys : List (Action ⊥)) → AreNormalActions es xs ys → (b : Action ⊥) → Member b ys → AreNormal es b.args
normal_among es [] [] h b m = absurd m
normal_among es [] (y ∷ ys) h b m = absurd h
normal_among es (x ∷ xs) [] h b m = absurd m
normal_among es (x ∷ xs) (y ∷ ys) h b (inl m) = subst (λ (z : Action ⊥). AreNormal es z.args) m h.1.1
normal_among es (x ∷ xs) (y ∷ ys) h b (inr m) = normal_among es xs ys h.2 b m

pub step_action_normal : (theory : Theory) (r : List ℕ) (facts : Facts ⊥) → IsRuleInstance theory r facts → (b : Action ⊥) → Member b facts.actions → AreNormal (signature_of theory).equations b.args
step_action_normal theory r facts is b m = normal_among (signature_of theory).equations (facts_at is.3 is.0.facts).actions facts.actions is.5.actions b m

-- two equal actions in normal form are the same
pub same_normal_action : (es : List Equation) → HaveNormalForms es → (a b : Action ⊥) → AreNormal es a.args → AreNormal es b.args → SameAction es a b → a ≡ b
same_normal_action es good a b m n h =
    let e = equal_all_normal_same es good a.args b.args m n h.1 in
    let make : List ℕ → Grounds → Action ⊥ = λ s ts. record { symbol = s; args = ts } in
    ap (λ (s : List ℕ). make s a.args) h.0 ∙ ap (λ (ts : Grounds). make b.symbol ts) e

-- What a step of the log is: a form of a rule of its name, under normal values over the signature.
pub record IsFormStep (theory : Theory) (r : List ℕ) (facts : Facts ⊥) : Type 0 where
  pub rule : Rule
  pub member : Member rule theory.rules
  pub named : rule.name ≡ r
  pub form : Form
  pub among : Member form (forms (signature_of theory).equations rule)
  pub values : Values
  pub sorts : IsValuation (signature_of theory) values
  pub normal : (x : Variable) → IsNormal (signature_of theory).equations (values x)
  pub is : facts ≡ facts_at values form.facts

pub form_step : (theory : Theory) → HaveNormalForms (signature_of theory).equations → FormsAreWhole theory → (r : List ℕ) (facts : Facts ⊥) → IsRuleInstance theory r facts → IsFormStep theory r facts
form_step theory good whole r facts is =
    let w = whole.each is.0 is.1 is.3 is.4 in
    record {
      rule = is.0;
      member = is.1;
      named = is.2;
      form = w.0;
      among = w.2;
      values = w.1;
      sorts = w.3;
      normal = w.4;
      is = one_normal_form (signature_of theory).equations good (facts_at is.3 is.0.facts) facts (facts_at w.1 w.0.facts) is.5 w.5;
    }

-- numbered as all of them
pub numbered_form : (N : Names) (es : List Equation) (rules : List Rule) → FormsAreNumbered N (map (forms_of es) rules) → (r : Rule) → Member r rules → (form : Form) → Member form (forms es r) → IsNumberedForm N form
numbered_form N es rules h r m form k =
    every_member (IsNumberedForm N) (forms es r) form k
    (every_member (λ (rule : RuleForms). Every (IsNumberedForm N) rule.forms) (map (forms_of es) rules) (forms_of es r) (member_map (forms_of es) r rules m) h)

-- Values for the numbers from a next one on, beside those below it.
pub beside : ℕ → Valuation → Values → Valuation
beside next v w = record { terms = λ x. if nat_lt x.number next then v.terms x else w (record { sort = x.sort; number = x.number - next }); times = v.times }

pub beside_agrees : (next : ℕ) (v : Valuation) (w : Values) → Agrees next v (beside next v w)
unfolding beside
beside_agrees next v w = record { terms = λ x h. rw (lt-ltb x.number next h) refl; times = λ i h. refl }

pub beside_new : (next : ℕ) (v : Valuation) (w : Values) (x : Variable) → (beside next v w).terms (record { sort = x.sort; number = next + x.number }) ≡ w x
unfolding beside
beside_new next v w x = at (nat_lt (next + x.number) next) refl
  where
    at : (b : Bool) → nat_lt (next + x.number) next ≡ b
        → (if b then v.terms (record { sort = x.sort; number = next + x.number }) else w (record { sort = x.sort; number = next + x.number - next })) ≡ w x
    at true e = let l = ltb-true (next + x.number) next e in absurd (omega arith)
    at false e =
        let k : next + x.number - next ≡ x.number = omega arith in
        ap (λ (n : ℕ). w (record { sort = x.sort; number = n })) k

pub each_beside : (next : ℕ) (v : Valuation) (w : Values) (P : Sort → Ground → Type 0) → ((x : Variable) → P x.sort (v.terms x)) → ((x : Variable) → P x.sort (w x)) → (x : Variable) → P x.sort ((beside next v w).terms x)
unfolding beside
each_beside next v w P h k x = at (nat_lt x.number next)
  where
    at : (b : Bool) → P x.sort (if b then v.terms x else w (record { sort = x.sort; number = x.number - next }))
    at true = h x
    at false = k (record { sort = x.sort; number = x.number - next })
