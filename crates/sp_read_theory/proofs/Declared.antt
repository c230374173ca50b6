-- Declarations are read in one way, and where an item or the end follows as the grammar spells them.
use Rattle.std.proofs.Common.{◌≡◌, ℕ, true, false, true≢false, List, ◌∷◌, codes, refl, sym, ap, subst, ◌∙◌, arith}
use Rattle.sp_spec_text.specs.Signs as s
use Rattle.sp_spec_text.specs.Token.{Lexeme, word, sign, block}
use Rattle.sp_spec.specs.Theory.{Restriction, Lemma}
use Rattle.sp_spec.specs.Written.{WrittenRule}
use Rattle.sp_spec_text.specs.Names.{is_reserved}
use Rattle.sp_spec_text.specs.Attributes.{is_restriction}
use Rattle.sp_spec_text.specs.Bindings.{Binding}
use Rattle.sp_spec_text.specs.Lists.{NoReading, AreListed}
use Rattle.sp_spec_text.specs.Written.{Attribute, Item, heuristic_item, rule_item, restriction_item}
use Rattle.sp_spec_text.specs.Theories as g
use Rattle.sp_spec_text.specs.Theories.{SpellsBuiltin, SpellsFunction, SpellsEquation, SpellsRuleHead, SpellsRule, SpellsRestriction, SpellsLemma, SpellsWords, SpellsDeclaration}
use Rattle.sp_spec_text.proofs.Words.{end_reserved}
use Rattle.sp_read_atoms.specs.Atoms.{first, second}
use Rattle.sp_read_parts.proofs.One.{One}
use Rattle.sp_read_atoms.proofs.Atomic.{or_else_one}
use Rattle.sp_read_listings.specs.Made.{made_of}
use Rattle.sp_read_listings.specs.Listings.{IsBlock, text_block}
use Rattle.sp_read_listings.proofs.Follows.{StartsWord, Follows}
use Rattle.sp_read_listings.proofs.Listed.{all_one, builtins_one}
use Rattle.sp_read_listings.proofs.Making.{made_one, made_none, blocks'}
use Rattle.sp_read_listings.proofs.ListingParts.{NoColon, no_listing, fourth_byte, equations_one, listings_one, listing_spelled, builtins_taken, functions_taken, equations_taken, builtins_listing, functions_listing, equations_listing, heuristic_listing}
use Rattle.sp_read_listings.proofs.SymbolParts.{functions_one}
use Rattle.sp_read_listings.proofs.Words.{words_rest}
use Rattle.sp_read_rules.specs.Rules.{IsRule}
use Rattle.sp_read_rules.proofs.RuleParts.{rule_one, rules'}
use Rattle.sp_read_lemmas.specs.Items.{IsRuleItem, IsStatement, IsDeclaration}
use Rattle.sp_read_lemmas.proofs.LemmaParts.{restrictions'}

-- ---- items

pub rule_made : {bs : List Binding} {r : WrittenRule} {tokens rest : List Lexeme} → IsRule tokens (bs, r) rest → IsRuleItem tokens (rule_item bs r) rest
rule_made {bs} {r} h = made_of {x = (bs, r)} h

-- ---- in one way

pub declarations_one : One IsDeclaration
declarations_one = or_else_one listings_one (or_else_one (made_one blocks') (or_else_one (made_one rules') (made_one restrictions')))

pub declaration_one : {tokens r q : List Lexeme} {x y : Item} → IsDeclaration tokens x r → IsDeclaration tokens y q → (x ≡ y) × (r ≡ q)
declaration_one h k = declarations_one.one h k

-- ---- as the grammar spells them

statement_spelled : {tokens rest : List Lexeme} {x : Item} → IsStatement tokens x rest → SpellsDeclaration tokens x rest
statement_spelled (first (made_of (text_block h))) = g.text_block h
statement_spelled (second n (first (made_of h))) = g.a_rule h
statement_spelled (second n (second m (made_of h))) = g.a_restriction h

pub declaration_spelled : {tokens rest : List Lexeme} {x : Item} → IsDeclaration tokens x rest → SpellsDeclaration tokens x rest
declaration_spelled (first h) = listing_spelled h
declaration_spelled (second n h) = statement_spelled h

-- no word with a block behind it begins a rule or a restriction
not_block : {w : List ℕ} {x : Lexeme} {tokens : List Lexeme} → (x ≡ block → ⊥) → NoReading IsBlock (word w ∷ x ∷ tokens)
not_block d = record { none = λ u r h. at h refl d }
  where
    at : {u w : List ℕ} {x : Lexeme} {ts us r : List Lexeme} → IsBlock ts u r → ts ≡ word w ∷ x ∷ us → (x ≡ block → ⊥) → ⊥
    at (text_block h) e d = d cc

-- ---- and what is spelled is read where an item or the end follows

-- a rule begins with its keyword, and behind that with a name or a bracket
pub record RuleStart (tokens : List Lexeme) : Type 0 where
  pub next : Lexeme
  pub others : List Lexeme
  pub are : tokens ≡ word (codes "rule") ∷ next ∷ others
  pub no_colon : next ≡ sign s.Colon → ⊥
  pub no_block : next ≡ block → ⊥

pub rule_start : {tokens rest : List Lexeme} {bs : List Binding} {r : WrittenRule} → SpellsRule tokens bs r rest → RuleStart tokens
rule_start (g.rule h l i j k) = at h
  where
    at : {ts body : List Lexeme} {w : List ℕ} → SpellsRuleHead ts w body → RuleStart ts
    at (g.rule_head {w = w} {attributes = as'} g.no_modulo n a) = record { next = word w; others = as'; are = refl; no_colon = λ e. cc; no_block = λ e. cc }
    at (g.rule_head (g.modulo {w = v} {rest = r} h) n a) = record { next = sign s.Open; others = word (codes "modulo") ∷ word v ∷ sign s.Close ∷ r; are = refl; no_colon = λ e. cc; no_block = λ e. cc }

no_colon_behind : {w : List ℕ} {x : Lexeme} {tokens us : List Lexeme} → tokens ≡ word w ∷ x ∷ us → (x ≡ sign s.Colon → ⊥) → NoColon tokens
no_colon_behind e d = record { none = λ u r f. d cc }

rule_no_restriction : is_restriction (codes "rule") ≡ false
unfolding is_restriction
rule_no_restriction = refl

lemma_no_restriction : is_restriction (codes "lemma") ≡ false
unfolding is_restriction
lemma_no_restriction = refl

end_no_restriction : is_restriction (codes "end") ≡ false
unfolding is_restriction
end_no_restriction = refl

-- a word with which no restriction begins
no_restriction_word : {k w : List ℕ} → is_restriction k ≡ true → is_restriction w ≡ false → k ≡ w → ⊥
no_restriction_word h n e = true≢false (sym h ∙ (ap is_restriction e ∙ n))

rule_taken : {tokens rest : List Lexeme} {bs : List Binding} {r : WrittenRule} → SpellsRule tokens bs r rest → IsDeclaration tokens (rule_item bs r) rest
rule_taken {bs = bs} {r} h =
    let t = rule_start h in
    let e = t.are in
    second (no_listing (no_colon_behind e t.no_colon)) (second (made_none (rw e (not_block t.no_block))) (first (made_of {x = (bs, r)} h)))

no_rule : {tokens rest : List Lexeme} {r : Restriction} → SpellsRestriction tokens r rest → NoReading IsRule tokens
no_rule h = record { none = λ x r k. at h (rule_start k) }
  where
    at : {ts rest : List Lexeme} {r : Restriction} → SpellsRestriction ts r rest → RuleStart ts → ⊥
    at (g.restriction {k = k} i h q) t = let e = t.are in let f : k ≡ codes "rule" = cc in no_restriction_word i rule_no_restriction f

restriction_taken : {tokens rest : List Lexeme} {r : Restriction} → SpellsRestriction tokens r rest → IsDeclaration tokens (restriction_item r) rest
restriction_taken h = second (no_listing (no_colon h)) (second (made_none (no_text h)) (second (made_none (no_rule h)) (made_of h)))
  where
    no_colon : {ts rest : List Lexeme} {r : Restriction} → SpellsRestriction ts r rest → NoColon ts
    no_colon (g.restriction i h q) = record { none = λ w r e. cc }

    no_text : {ts rest : List Lexeme} {r : Restriction} → SpellsRestriction ts r rest → NoReading IsBlock ts
    no_text (g.restriction i h q) = not_block (λ e. cc)

pub declaration_taken : {tokens rest : List Lexeme} {x : Item} → SpellsDeclaration tokens x rest → Follows rest → IsDeclaration tokens x rest
declaration_taken (g.builtins h) f = first (builtins_listing h f.starts)
declaration_taken (g.functions h) f = first (functions_listing h f.starts)
declaration_taken (g.equations h) f = first (equations_listing h f.starts)
declaration_taken (g.heuristic h) f = first (heuristic_listing h f)
declaration_taken (g.text_block {w = w} {rest = r} h) f = second (no_listing (no_colon_behind refl (λ e. cc))) (first (made_of (text_block h)))
declaration_taken (g.a_rule h) f = rule_taken h
declaration_taken (g.a_restriction h) f = restriction_taken h

inside : {x y u v : Lexeme} {r q : List Lexeme} → x ∷ y ∷ r ≡ u ∷ v ∷ q → r ≡ q
inside e = cc

same_words : {ws us : List (List ℕ)} → heuristic_item ws ≡ heuristic_item us → ws ≡ us
same_words e = cc

-- of one item two spellings leave one rest
pub declaration_rest : {tokens r q : List Lexeme} {x : Item} → SpellsDeclaration tokens x r → SpellsDeclaration tokens x q → StartsWord r → StartsWord q → r ≡ q
declaration_rest h k v w = at h k refl refl v w
  where
    at : {ts us r q : List Lexeme} {x y : Item} → SpellsDeclaration ts x r → SpellsDeclaration us y q → ts ≡ us → x ≡ y → StartsWord r → StartsWord q → r ≡ q
    at (g.builtins h) (g.builtins {bs = bs} {rest = q} k) e f v w =
        (all_one builtins_one (builtins_taken h v) (builtins_taken (subst (λ (ts : List Lexeme). AreListed SpellsBuiltin ts bs q) (sym (inside e)) k) w)).1
    at (g.functions h) (g.functions {ss = ss} {rest = q} k) e f v w =
        (all_one functions_one (functions_taken h v) (functions_taken (subst (λ (ts : List Lexeme). AreListed SpellsFunction ts ss q) (sym (inside e)) k) w)).1
    at (g.equations h) (g.equations {es = es} {rest = q} k) e f v w =
        (all_one equations_one (equations_taken h v) (equations_taken (subst (λ (ts : List Lexeme). AreListed SpellsEquation ts es q) (sym (inside e)) k) w)).1
    at (g.heuristic {tokens = ts} h) (g.heuristic {ws = us} {rest = q} k) e f v w =
        let i = subst (λ (xs : List Lexeme). SpellsWords xs us q) (sym (inside e)) k in
        words_rest h (subst (λ (ws : List (List ℕ)). SpellsWords ts ws q) (sym (same_words f)) i)
    at (g.text_block h) (g.text_block k) e f v w = cc
    at (g.a_rule h) (g.a_rule {bs = bs} {r = r} {rest = q} k) e f v w = (rule_one h (subst (λ (ts : List Lexeme). SpellsRule ts bs r q) (sym e) k)).1
    at (g.a_restriction h) (g.a_restriction {r = r} {rest = q} k) e f v w = (restrictions'.one h (subst (λ (ts : List Lexeme). SpellsRestriction ts r q) (sym e) k)).1
    at _ _ e f v w = absurd (let none : ⊥ = cc in none)

-- ---- what they begin with

pub declaration_not_lemma : {tokens r q : List Lexeme} {x : Item} {l : Lemma} {each : List Attribute} → SpellsDeclaration tokens x r → SpellsLemma tokens l each q → ⊥
declaration_not_lemma h (g.lemma {w = w} {tokens = ts} i a k f) = at h refl
  where
    at : {ts us r : List Lexeme} {w : List ℕ} {x : Item} → SpellsDeclaration ts x r → ts ≡ word (codes "lemma") ∷ word w ∷ us → ⊥
    at (g.builtins h) e = cc
    at (g.functions h) e = cc
    at (g.equations h) e = cc
    at (g.heuristic h) e = cc
    at (g.text_block h) e = cc
    at (g.a_rule h) e = let t = rule_start h in let d : 101 ≡ 109 = ap fourth_byte (sym t.are ∙ e) in omega (arith, d)
    at (g.a_restriction (g.restriction {k = k} i h q)) e = let f : k ≡ codes "lemma" = cc in no_restriction_word i lemma_no_restriction f

pub declaration_not_end : {tokens rest after : List Lexeme} {x : Item} → SpellsDeclaration tokens x rest → tokens ≡ word (codes "end") ∷ after → ⊥
declaration_not_end (g.builtins h) e = let b : 108 ≡ 0 = ap fourth_byte e in omega (arith, b)
declaration_not_end (g.functions h) e = let b : 99 ≡ 0 = ap fourth_byte e in omega (arith, b)
declaration_not_end (g.equations h) e = let b : 97 ≡ 0 = ap fourth_byte e in omega (arith, b)
declaration_not_end (g.heuristic h) e = let b : 114 ≡ 0 = ap fourth_byte e in omega (arith, b)
declaration_not_end (g.text_block {w = w} h) e = let f : w ≡ codes "end" = cc in true≢false (sym end_reserved ∙ (sym (ap is_reserved f) ∙ h))
declaration_not_end (g.a_rule h) e = let t = rule_start h in let b : 101 ≡ 0 = ap fourth_byte (sym t.are ∙ e) in omega (arith, b)
declaration_not_end (g.a_restriction (g.restriction {k = k} i h q)) e = let f : k ≡ codes "end" = cc in no_restriction_word i end_no_restriction f

pub lemma_not_end : {tokens rest after : List Lexeme} {l : Lemma} {each : List Attribute} → SpellsLemma tokens l each rest → tokens ≡ word (codes "end") ∷ after → ⊥
lemma_not_end (g.lemma i a k f) e = cc
