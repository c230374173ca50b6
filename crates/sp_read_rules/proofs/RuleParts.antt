-- Rules from their parts, and each part that may be missing.
use Rattle.std.proofs.Common.{◌≡◌, ℕ, List, [], ◌∷◌, map, codes, refl, sym, ap, subst}
use Rattle.sp_spec_text.specs.Signs as s
use Rattle.sp_spec_text.specs.Token.{Lexeme, word, sign}
use Rattle.sp_spec.specs.Rule.{Fact, Action, Facts}
use Rattle.sp_spec.specs.Formula.{Written}
use Rattle.sp_spec.specs.Written.{WrittenRule}
use Rattle.sp_spec_text.specs.Bindings.{Binding}
use Rattle.sp_spec_text.specs.Lists.{IsNotFirst, NoReading, AreItems}
use Rattle.sp_read_parts.specs.Parts.{IsFact}
use Rattle.sp_spec_text.specs.Shapes.{action_of}
use Rattle.sp_read_parts.proofs.One.{One}
use Rattle.sp_read_parts.proofs.Sequence.{Fixed, fixed_none, fixed_one, Then, no_first, no_second, Becomes, no_whole}
use Rattle.sp_read_atoms.proofs.Taken.{facts_taken}
use Rattle.sp_read_atoms.proofs.LetBindings.{bindings_one}
use Rattle.sp_spec_text.specs.Theories as g
use Rattle.sp_spec_text.specs.Theories.{SpellsFacts, SpellsArrow, SpellsBindings, SpellsLet, SpellsRuleHead, SpellsRule}
use Rattle.sp_read_rules.specs.Rules.{IsLet, nothing_bound, bound, IsTransition, transition, IsRule}
use Rattle.sp_read_rules.proofs.One.{spelled, facts_one, arrow_one, lists, arrows'}
use Rattle.sp_read_rules.proofs.RuleHeads.{then_one, rule_heads'}

-- ---- lists of facts, and arrows

pub facts_at : {fs : List (Fact Written)} {tokens inside rest : List Lexeme} → tokens ≡ sign s.OpenList ∷ inside → AreItems (IsFact 0) s.CloseList inside fs rest → SpellsFacts tokens fs rest
facts_at e h = rw e (g.facts (spelled h))

facts_parts : Becomes SpellsFacts (Then (Fixed (sign s.OpenList)) (AreItems (IsFact 0) s.CloseList))
facts_parts = record { part = λ ts x r h. (tt, x); reads = λ ts x r h. at h }
  where
    at : {ts r : List Lexeme} {x : List (Fact Written)} → SpellsFacts ts x r → Then (Fixed (sign s.OpenList)) (AreItems (IsFact 0) s.CloseList) ts (tt, x) r
    at (g.facts {tokens = ts} h) = record { mid = ts; first = refl; second = facts_taken (λ e. cc) h }

pub no_facts : {tokens : List Lexeme} → IsNotFirst (sign s.OpenList) tokens → NoReading SpellsFacts tokens
no_facts d = no_whole facts_parts (no_first (fixed_none d))

pub no_fact_list : {tokens inside : List Lexeme} → tokens ≡ sign s.OpenList ∷ inside → NoReading (AreItems (IsFact 0) s.CloseList) inside → NoReading SpellsFacts tokens
no_fact_list {inside = i} e n = no_whole facts_parts (no_second {x = tt} fixed_one e n)

pub ruleset fact_lists = (facts_at, no_facts, no_fact_list)

pub unlabelled_at : {tokens rest : List Lexeme} → tokens ≡ sign s.Arrow ∷ rest → SpellsArrow tokens [] rest
unlabelled_at e = rw e g.unlabelled

pub labelled_at : {fs : List (Fact Written)} {tokens inside rest : List Lexeme} → tokens ≡ sign s.OpenArrow ∷ inside → AreItems (IsFact 0) s.CloseArrow inside fs rest → SpellsArrow tokens fs rest
labelled_at e h = rw e (g.labelled (spelled h))

pub no_arrow : {tokens : List Lexeme} → IsNotFirst (sign s.Arrow) tokens → IsNotFirst (sign s.OpenArrow) tokens → NoReading SpellsArrow tokens
no_arrow a b = record { none = λ x r h. at h a b }
  where
    at : {ts r : List Lexeme} {x : List (Fact Written)} → SpellsArrow ts x r → IsNotFirst (sign s.Arrow) ts → IsNotFirst (sign s.OpenArrow) ts → ⊥
    at (g.unlabelled {rest = r}) a b = a r refl
    at (g.labelled {tokens = ts} h) a b = b ts refl

pub no_labels : {tokens inside : List Lexeme} → tokens ≡ sign s.OpenArrow ∷ inside → NoReading (AreItems (IsFact 0) s.CloseArrow) inside → NoReading SpellsArrow tokens
no_labels e n = record { none = λ x r h. at h e n }
  where
    at : {ts r inside : List Lexeme} {x : List (Fact Written)} → SpellsArrow ts x r → ts ≡ sign s.OpenArrow ∷ inside → NoReading (AreItems (IsFact 0) s.CloseArrow) inside → ⊥
    at g.unlabelled e n = cc
    at {inside = i} (g.labelled {fs = fs} {tokens = ts} {rest = r} h) e n =
        let f : ts ≡ i = cc in n.none fs r (subst (λ (l : List Lexeme). AreItems (IsFact 0) s.CloseArrow l fs r) f (facts_taken (λ d. cc) h))

pub ruleset arrows = (unlabelled_at, labelled_at, no_arrow, no_labels)

-- ---- the facts of a rule

pub transition_at : {ps as' cs : List (Fact Written)} {shown : List (Action Written)} {tokens mid behind rest : List Lexeme} → SpellsFacts tokens ps mid → SpellsArrow mid as' behind → SpellsFacts behind cs rest → shown ≡ map action_of as'
    → IsTransition tokens (record { premises = ps; actions = shown; conclusions = cs }) rest
transition_at h i j e = rw e (transition h i j)

abbrev TransitionParts : List Lexeme → List (Fact Written) × (List (Fact Written) × List (Fact Written)) → List Lexeme → Type 0
TransitionParts = Then SpellsFacts (Then SpellsArrow SpellsFacts)

transition_parts : Becomes IsTransition TransitionParts
transition_parts = record { part = λ ts x r h. (at h).0; reads = λ ts x r h. (at h).1 }
  where
    at : {ts r : List Lexeme} {x : Facts Written} → IsTransition ts x r → (y : List (Fact Written) × (List (Fact Written) × List (Fact Written))) × TransitionParts ts y r
    at (transition {premises = ps} {actions = as'} {conclusions = cs} {mid = b} {behind = c} h i j) =
        ((ps, (as', cs)), record { mid = b; first = h; second = record { mid = c; first = i; second = j } })

pub transition_no_premises : {tokens : List Lexeme} → NoReading SpellsFacts tokens → NoReading IsTransition tokens
transition_no_premises n = no_whole transition_parts (no_first n)

pub transition_no_arrow : {ps : List (Fact Written)} {tokens mid : List Lexeme} → SpellsFacts tokens ps mid → NoReading SpellsArrow mid → NoReading IsTransition tokens
transition_no_arrow h n = no_whole transition_parts (no_second lists h (no_first n))

pub transition_no_conclusions : {ps as' : List (Fact Written)} {tokens mid behind : List Lexeme} → SpellsFacts tokens ps mid → SpellsArrow mid as' behind → NoReading SpellsFacts behind → NoReading IsTransition tokens
transition_no_conclusions h i n = no_whole transition_parts (no_second lists h (no_second arrows' i n))

pub ruleset transitions = (transition_at, transition_no_premises, transition_no_arrow, transition_no_conclusions)

transition_one : {tokens r q : List Lexeme} {x y : Facts Written} → IsTransition tokens x r → IsTransition tokens y q → (x ≡ y) × (r ≡ q)
transition_one (transition h i j) (transition {actions = bs} {conclusions = ds} {behind = b} {rest = q} k l m) =
    let a = facts_one h k in
    let o = arrow_one i (subst (λ (us : List Lexeme). SpellsArrow us bs b) (sym a.1) l) in
    let u = facts_one j (subst (λ (us : List Lexeme). SpellsFacts us ds q) (sym o.1) m) in
    (rw (a.0, o.0, u.0) refl, u.1)

transitions' : One IsTransition
transitions' = record { one = transition_one }

-- ---- bindings that may stand there

pub bound_at : {bs : List Binding} {tokens inside rest : List Lexeme} → tokens ≡ word (codes "let") ∷ inside → SpellsBindings inside bs rest → IsLet tokens bs rest
bound_at e h = rw e (bound h)

pub let_none : {tokens inside : List Lexeme} → tokens ≡ word (codes "let") ∷ inside → NoReading SpellsBindings inside → NoReading IsLet tokens
let_none e n = record { none = λ bs r h. at h e n }
  where
    at : {ts inside r : List Lexeme} {bs : List Binding} → IsLet ts bs r → ts ≡ word (codes "let") ∷ inside → NoReading SpellsBindings inside → ⊥
    at {inside = i} (nothing_bound d) e n = d i e
    at {inside = i} (bound {bs = bs} {tokens = ts} {rest = r} h) e n = let f : ts ≡ i = cc in n.none bs r (subst (λ (us : List Lexeme). SpellsBindings us bs r) f h)

pub ruleset lets = (nothing_bound, bound_at, let_none)

let_one : {tokens r q : List Lexeme} {bs cs : List Binding} → IsLet tokens bs r → IsLet tokens cs q → (bs ≡ cs) × (r ≡ q)
let_one (nothing_bound d) (nothing_bound e) = (refl, refl)
let_one (nothing_bound d) (bound {tokens = ts} h) = absurd (d ts refl)
let_one (bound {tokens = ts} h) (nothing_bound d) = absurd (d ts refl)
let_one (bound h) (bound k) = bindings_one h k

lets' : One IsLet
lets' = record { one = let_one }

let_spelled : {tokens rest : List Lexeme} {bs : List Binding} → IsLet tokens bs rest → SpellsLet tokens bs rest
let_spelled (nothing_bound d) = g.no_let
let_spelled (bound h) = g.let_in h

-- before facts in brackets no `let` stands
let_taken : {tokens mid rest : List Lexeme} {bs : List Binding} {fs : List (Fact Written)} → SpellsLet tokens bs mid → SpellsFacts mid fs rest → IsLet tokens bs mid
let_taken g.no_let (g.facts k) = nothing_bound (λ r e. cc)
let_taken (g.let_in h) k = bound h

-- ---- rules

pub rule_at : {w : List ℕ} {bs cs : List Binding} {fs : Facts Written} {q : WrittenRule} {tokens body inner rest : List Lexeme} → SpellsRuleHead tokens w body → IsLet body bs inner → IsTransition inner fs rest → cs ≡ bs → q ≡ record { name = w; facts = fs }
    → IsRule tokens (cs, q) rest
rule_at h l (transition i j k) e f = rw (e, f) (g.rule h (let_spelled l) i j k)

abbrev Parts : List Lexeme → List ℕ × (List Binding × Facts Written) → List Lexeme → Type 0
Parts = Then SpellsRuleHead (Then IsLet IsTransition)

rule_split : {tokens rest : List Lexeme} {bs : List Binding} {q : WrittenRule} → SpellsRule tokens bs q rest → Parts tokens (q.name, (bs, q.facts)) rest
rule_split (g.rule {body = b} {facts = f} h l i j k) = record { mid = b; first = h; second = record { mid = f; first = let_taken l i; second = transition i j k } }

rule_parts : Becomes IsRule Parts
rule_parts = record { part = λ ts x r h. (x.1.name, (x.0, x.1.facts)); reads = λ ts x r h. rule_split h }

pub rule_no_head : {tokens : List Lexeme} → NoReading SpellsRuleHead tokens → NoReading IsRule tokens
rule_no_head n = no_whole rule_parts (no_first n)

pub rule_no_let : {w : List ℕ} {tokens body : List Lexeme} → SpellsRuleHead tokens w body → NoReading IsLet body → NoReading IsRule tokens
rule_no_let h n = no_whole rule_parts (no_second rule_heads' h (no_first n))

pub rule_no_transition : {w : List ℕ} {bs : List Binding} {tokens body inner : List Lexeme} → SpellsRuleHead tokens w body → IsLet body bs inner → NoReading IsTransition inner → NoReading IsRule tokens
rule_no_transition h l n = no_whole rule_parts (no_second rule_heads' h (no_second lets' l n))

pub ruleset rule_items = (rule_at, rule_no_head, rule_no_let, rule_no_transition)

abbrev rule_with : List ℕ × (List Binding × Facts Written) → List Binding × WrittenRule
rule_with p = (p.1.0, record { name = p.0; facts = p.1.1 })

pub rule_one : {tokens p q : List Lexeme} {bs cs : List Binding} {r s : WrittenRule} → SpellsRule tokens bs r p → SpellsRule tokens cs s q → (◌≡◌ {A = List Binding × WrittenRule} (bs, r) (cs, s)) × (p ≡ q)
rule_one {bs = bs} {cs} {r} {s} h k =
    let i = (then_one rule_heads' (then_one lets' transitions')).one (rule_split h) (rule_split k) in
    let e : ◌≡◌ {A = List Binding × WrittenRule} (bs, r) (cs, s) = ap rule_with i.0 in
    (e, i.1)

pub rules' : One IsRule
rules' = record { one = λ h k. rule_one h k }
