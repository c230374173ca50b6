-- The head of a rule from its parts, and each part that may be missing.
use Rattle.std.proofs.Common.{◌≡◌, ℕ, List, ◌∷◌, codes, refl, sym, ap, subst}
use Rattle.sp_spec_text.specs.Signs as s
use Rattle.sp_spec_text.specs.Token.{Lexeme, word, sign}
use Rattle.sp_spec_text.specs.Names.{IsName}
use Rattle.sp_spec_text.specs.Lists.{IsNotFirst, NoReading}
use Rattle.sp_spec_text.specs.Theories as g
use Rattle.sp_spec_text.specs.Theories.{SpellsModulo, SpellsRuleAttributes, SpellsRuleHead}
use Rattle.sp_read_parts.specs.Parts.{IsNameFirst, name}
use Rattle.sp_read_parts.proofs.One.{One, name_one}
use Rattle.sp_read_parts.proofs.Sequence.{Fixed, fixed_none, fixed_one, Then, no_first, no_second, Becomes, no_whole}
use Rattle.sp_read_rules.specs.Rules.{IsModulo, modulo, IsRuleName, bare_name, behind_modulo, IsBracketed, no_bracket, bracketed}
use Rattle.sp_read_rules.proofs.Balances.{brackets'}

pub names : One IsNameFirst
names = record { one = name_one }

paired : {A B : Type 0} {a c : A} {b d : B} → a ≡ c → b ≡ d → ◌≡◌ {A = A × B} (a, b) (c, d)
paired e f = rw (e, f) refl

-- one part behind the other, each read in one way
pub then_one : {A B : Type 0} {R : List Lexeme → A → List Lexeme → Type 0} {S : List Lexeme → B → List Lexeme → Type 0} → One R → One S → One (Then R S)
then_one {A} {B} {R} {S} o w = record { one = λ {tokens} {r} {q} h k. at h k }
  where
    at : {ts r q : List Lexeme} {x y : A × B} → Then R S ts x r → Then R S ts y q → (x ≡ y) × (r ≡ q)
    at {q = q} {x = x} {y = y} h k =
        let a = o.one h.first k.first in
        let b = w.one h.second (subst (λ (us : List Lexeme). S us y.1 q) (sym a.1) k.second) in
        (paired {a = x.0} {c = y.0} {b = x.1} {d = y.1} a.0 b.0, b.1)

-- ---- modulos

modulo_one : {u v : Unit {0}} {tokens r q : List Lexeme} → IsModulo tokens u r → IsModulo tokens v q → r ≡ q
modulo_one (modulo h) (modulo k) = refl

pub modulo_at : {w : List ℕ} {tokens inside named close rest : List Lexeme} → tokens ≡ sign s.Open ∷ inside → inside ≡ word (codes "modulo") ∷ named → IsNameFirst named w close → close ≡ sign s.Close ∷ rest → IsModulo tokens tt rest
modulo_at e f (name h) i = rw (e, f, i) (modulo h)

pub modulo_no_bracket : {tokens : List Lexeme} → IsNotFirst (sign s.Open) tokens → NoReading IsModulo tokens
modulo_no_bracket d = record { none = λ u r h. at h d }
  where
    at : {u : Unit {0}} {ts r : List Lexeme} → IsModulo ts u r → IsNotFirst (sign s.Open) ts → ⊥
    at (modulo {w = w} {rest = r} h) d = d (word (codes "modulo") ∷ word w ∷ sign s.Close ∷ r) refl

pub modulo_no_word : {tokens inside : List Lexeme} → tokens ≡ sign s.Open ∷ inside → IsNotFirst (word (codes "modulo")) inside → NoReading IsModulo tokens
modulo_no_word e d = record { none = λ u r h. at h e d }
  where
    at : {u : Unit {0}} {ts inside r : List Lexeme} → IsModulo ts u r → ts ≡ sign s.Open ∷ inside → IsNotFirst (word (codes "modulo")) inside → ⊥
    at (modulo {w = w} {rest = r} h) e d = d (word w ∷ sign s.Close ∷ r) cc

pub modulo_no_name : {tokens inside named : List Lexeme} → tokens ≡ sign s.Open ∷ inside → inside ≡ word (codes "modulo") ∷ named → NoReading IsNameFirst named → NoReading IsModulo tokens
modulo_no_name e f n = record { none = λ u r h. at h e f n }
  where
    at : {u : Unit {0}} {ts inside named r : List Lexeme} → IsModulo ts u r → ts ≡ sign s.Open ∷ inside → inside ≡ word (codes "modulo") ∷ named → NoReading IsNameFirst named → ⊥
    at {named = m} (modulo {w = w} {rest = r} h) e f n =
        let i : word w ∷ sign s.Close ∷ r ≡ m = cc in
        n.none w (sign s.Close ∷ r) (subst (λ (us : List Lexeme). IsNameFirst us w (sign s.Close ∷ r)) i (name h))

pub modulo_unclosed : {w : List ℕ} {tokens inside named close : List Lexeme} → tokens ≡ sign s.Open ∷ inside → inside ≡ word (codes "modulo") ∷ named → IsNameFirst named w close → IsNotFirst (sign s.Close) close → NoReading IsModulo tokens
modulo_unclosed e f k d = record { none = λ u r h. at h e f k d }
  where
    at : {u : Unit {0}} {w : List ℕ} {ts inside named close r : List Lexeme} → IsModulo ts u r → ts ≡ sign s.Open ∷ inside → inside ≡ word (codes "modulo") ∷ named → IsNameFirst named w close → IsNotFirst (sign s.Close) close → ⊥
    at (modulo {rest = r} h) e f (name k) d = d r cc

pub ruleset modulos = (modulo_at, modulo_no_bracket, modulo_no_word, modulo_no_name, modulo_unclosed)

-- ---- the name of a rule

pub behind_modulo_at : {w : List ℕ} {tokens mid rest : List Lexeme} → IsModulo tokens tt mid → IsNameFirst mid w rest → IsRuleName tokens w rest
behind_modulo_at m (name h) = behind_modulo m h

pub behind_modulo_none : {tokens mid : List Lexeme} → IsModulo tokens tt mid → NoReading IsNameFirst mid → NoReading IsRuleName tokens
behind_modulo_none m n = record { none = λ w r h. at h m n }
  where
    at : {w : List ℕ} {ts mid r : List Lexeme} → IsRuleName ts w r → IsModulo ts tt mid → NoReading IsNameFirst mid → ⊥
    at (bare_name h) m n = elim m [ ]
    at (behind_modulo {w = w} {rest = r} k h) m n = n.none w r (subst (λ (us : List Lexeme). IsNameFirst us w r) (modulo_one k m) (name h))

pub bare_name_at : {w : List ℕ} {tokens rest : List Lexeme} → IsNameFirst tokens w rest → IsRuleName tokens w rest
bare_name_at (name h) = bare_name h

pub bare_name_none : {tokens : List Lexeme} → NoReading IsModulo tokens → NoReading IsNameFirst tokens → NoReading IsRuleName tokens
bare_name_none n m = record { none = λ w r h. at h n m }
  where
    at : {w : List ℕ} {ts r : List Lexeme} → IsRuleName ts w r → NoReading IsModulo ts → NoReading IsNameFirst ts → ⊥
    at (bare_name {w = w} {rest = r} h) n m = m.none w r (name h)
    at (behind_modulo {w = w} {rest = r} k h) n m = n.none tt (word w ∷ r) k

pub ruleset rule_names = (behind_modulo_at, behind_modulo_none, bare_name_at, bare_name_none)

rule_name_one : {tokens r q : List Lexeme} {w u : List ℕ} → IsRuleName tokens w r → IsRuleName tokens u q → (w ≡ u) × (r ≡ q)
rule_name_one (bare_name h) (bare_name k) = (refl, refl)
rule_name_one (bare_name h) (behind_modulo m k) = elim m [ ]
rule_name_one (behind_modulo m h) (bare_name k) = elim m [ ]
rule_name_one (behind_modulo m h) (behind_modulo n k) = let e = modulo_one m n in (cc, cc)

rule_names' : One IsRuleName
rule_names' = record { one = rule_name_one }

-- ---- heads

modulo_spelled : {u : Unit {0}} {tokens rest : List Lexeme} → IsModulo tokens u rest → SpellsModulo tokens rest
modulo_spelled (modulo h) = g.modulo h

name_spelled : {w : List ℕ} {tokens rest : List Lexeme} → IsRuleName tokens w rest → SpellsModulo tokens (word w ∷ rest) × IsName w
name_spelled (bare_name h) = (g.no_modulo, h)
name_spelled (behind_modulo m h) = (modulo_spelled m, h)

name_taken : {w : List ℕ} {tokens rest : List Lexeme} → SpellsModulo tokens (word w ∷ rest) → IsName w → IsRuleName tokens w rest
name_taken m h = at m refl h
  where
    at : {w : List ℕ} {ts us r : List Lexeme} → SpellsModulo ts us → us ≡ word w ∷ r → IsName w → IsRuleName ts w r
    at g.no_modulo e h = rw e (bare_name h)
    at {ts = ts} (g.modulo k) e h = behind_modulo (subst (λ (us : List Lexeme). IsModulo ts tt us) e (modulo k)) h

brackets_spelled : {u : Unit {0}} {tokens rest : List Lexeme} → IsBracketed tokens u rest → SpellsRuleAttributes tokens rest
brackets_spelled (no_bracket d) = g.no_rule_attribute
brackets_spelled (bracketed h) = g.rule_attributes h

brackets_taken : {tokens mid rest : List Lexeme} → SpellsRuleAttributes tokens mid → mid ≡ sign s.Colon ∷ rest → IsBracketed tokens tt mid
brackets_taken g.no_rule_attribute e = no_bracket (λ q d. cc)
brackets_taken (g.rule_attributes h) e = bracketed h

pub rule_head_at : {w : List ℕ} {tokens named attributes colon rest : List Lexeme} → tokens ≡ word (codes "rule") ∷ named → IsRuleName named w attributes → IsBracketed attributes tt colon → colon ≡ sign s.Colon ∷ rest → SpellsRuleHead tokens w rest
rule_head_at {attributes = as'} e h b f = let n = name_spelled h in rw e (g.rule_head n.0 n.1 (subst (λ (us : List Lexeme). SpellsRuleAttributes as' us) f (brackets_spelled b)))

abbrev HeadParts : List Lexeme → Unit {0} × (List ℕ × (Unit {0} × Unit {0})) → List Lexeme → Type 0
HeadParts = Then (Fixed (word (codes "rule"))) (Then IsRuleName (Then IsBracketed (Fixed (sign s.Colon))))

head_split : {tokens rest : List Lexeme} {w : List ℕ} → SpellsRuleHead tokens w rest → HeadParts tokens (tt, (w, (tt, tt))) rest
head_split (g.rule_head {tokens = ts} {attributes = as'} {rest = r} m n a) =
    record { mid = ts; first = refl; second = record { mid = as'; first = name_taken m n; second = record { mid = sign s.Colon ∷ r; first = brackets_taken a refl; second = refl } } }

head_parts : Becomes SpellsRuleHead HeadParts
head_parts = record { part = λ ts x r h. (tt, (x, (tt, tt))); reads = λ ts x r h. head_split h }

pub head_no_rule : {tokens : List Lexeme} → IsNotFirst (word (codes "rule")) tokens → NoReading SpellsRuleHead tokens
head_no_rule d = no_whole head_parts (no_first (fixed_none d))

pub head_no_name : {tokens named : List Lexeme} → tokens ≡ word (codes "rule") ∷ named → NoReading IsRuleName named → NoReading SpellsRuleHead tokens
head_no_name e n = no_whole head_parts (no_second {x = tt} fixed_one e (no_first n))

pub head_unclosed : {w : List ℕ} {tokens named attributes : List Lexeme} → tokens ≡ word (codes "rule") ∷ named → IsRuleName named w attributes → NoReading IsBracketed attributes → NoReading SpellsRuleHead tokens
head_unclosed e h n = no_whole head_parts (no_second {x = tt} fixed_one e (no_second rule_names' h (no_first n)))

pub head_no_colon : {w : List ℕ} {tokens named attributes colon : List Lexeme} → tokens ≡ word (codes "rule") ∷ named → IsRuleName named w attributes → IsBracketed attributes tt colon → IsNotFirst (sign s.Colon) colon → NoReading SpellsRuleHead tokens
head_no_colon e h b d = no_whole head_parts (no_second {x = tt} fixed_one e (no_second rule_names' h (no_second {x = tt} brackets' b (fixed_none d))))

pub ruleset rule_heads = (rule_head_at, head_no_rule, head_no_name, head_unclosed, head_no_colon)

head_parts_one : One HeadParts
head_parts_one = then_one fixed_one (then_one rule_names' (then_one brackets' fixed_one))

pub rule_head_one : {tokens r q : List Lexeme} {w u : List ℕ} → SpellsRuleHead tokens w r → SpellsRuleHead tokens u q → (w ≡ u) × (r ≡ q)
rule_head_one h k =
    let i = head_parts_one.one (head_split h) (head_split k) in
    (ap (λ (x : Unit {0} × (List ℕ × (Unit {0} × Unit {0}))). x.1.0) i.0, i.1)

pub rule_heads' : One SpellsRuleHead
rule_heads' = record { one = rule_head_one }
