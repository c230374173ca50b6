-- Tokens spell one theory.
use Rattle.std.proofs.Common.{◌≡◌, ℕ, false, true≢false, ◌⊎◌, inl, inr, List, [], ◌∷◌, Option, Some, codes, refl, sym, ap, subst, ◌∙◌}
use Rattle.sp_spec_text.specs.Token.{Lexeme, word}
use Rattle.sp_spec.specs.Theory.{Lemma}
use Rattle.sp_spec_text.specs.Lists.{NoReading}
use Rattle.sp_spec_text.specs.Written.{WrittenProof, Attribute, Item, lemma_item, WrittenText}
use Rattle.sp_spec_text.specs.Proofs.{is_method, SpellsProof}
use Rattle.sp_read_proof.proofs.One.{proof_one}
use Rattle.sp_read_proof.proofs.Starts.{begins_proof, proof_word, proof_not_rule, proof_not_lemma, proof_not_end, proof_no_block}
use Rattle.sp_spec_text.specs.Theories as g
use Rattle.sp_spec_text.specs.Theories.{SpellsDeclaration, SpellsLemma, SpellsProofPart, SpellsItems, SpellsTheory}
use Rattle.sp_read_listings.specs.Heuristics.{the_end}
use Rattle.sp_read_listings.specs.Listings.{IsBlock, text_block}
use Rattle.sp_read_lemmas.specs.Items.{IsDeclaration, HasNoProof, no_start, by_block, IsGreedy}
use Rattle.sp_read_theory.specs.Items.{AreItemsToEnd}
use Rattle.sp_read_listings.proofs.Follows.{items_follow, items_word}
use Rattle.sp_read_lemmas.proofs.LemmaParts.{lemma_one}
use Rattle.sp_spec_text.proofs.Words.{restriction_words}
use Rattle.sp_read_theory.proofs.Declared.{declaration_one, declaration_spelled, declaration_taken, declaration_not_lemma, declaration_not_end, lemma_not_end, rule_start}

-- ---- proofs

builtins_begin_none : begins_proof (codes "builtins") ≡ false
unfolding is_method
builtins_begin_none = refl

functions_begin_none : begins_proof (codes "functions") ≡ false
unfolding is_method
functions_begin_none = refl

equations_begin_none : begins_proof (codes "equations") ≡ false
unfolding is_method
equations_begin_none = refl

heuristic_begins_none : begins_proof (codes "heuristic") ≡ false
unfolding is_method
heuristic_begins_none = refl

restriction_begins_none : begins_proof (codes "restriction") ≡ false
unfolding is_method
restriction_begins_none = refl

axiom_begins_none : begins_proof (codes "axiom") ≡ false
unfolding is_method
axiom_begins_none = refl

no_proof_word : {w : List ℕ} {tokens after : List Lexeme} → begins_proof w ≡ false → tokens ≡ word w ∷ after → HasNoProof tokens
no_proof_word b e = no_start (record { none = λ p r h. true≢false (sym (proof_word h e) ∙ b) })

restriction_begins : {k : List ℕ} → (k ≡ codes "restriction") ⊎ (k ≡ codes "axiom") → begins_proof k ≡ false
restriction_begins (inl e) = ap begins_proof e ∙ restriction_begins_none
restriction_begins (inr e) = ap begins_proof e ∙ axiom_begins_none

-- no item begins as a proof does, but a block of text
declaration_no_proof : {tokens rest : List Lexeme} {x : Item} → SpellsDeclaration tokens x rest → HasNoProof tokens
declaration_no_proof (g.builtins k) = no_proof_word builtins_begin_none refl
declaration_no_proof (g.functions k) = no_proof_word functions_begin_none refl
declaration_no_proof (g.equations k) = no_proof_word equations_begin_none refl
declaration_no_proof (g.heuristic k) = no_proof_word heuristic_begins_none refl
declaration_no_proof (g.text_block k) = by_block (text_block k)
declaration_no_proof (g.a_rule k) = let e = (rule_start k).are in no_start (record { none = λ p r h. proof_not_rule h e })
declaration_no_proof (g.a_restriction (g.restriction {k = k} i j q)) = no_proof_word (restriction_begins (restriction_words k i)) refl

-- nor does the end
items_no_proof : {tokens last : List Lexeme} {items : List Item} → SpellsItems tokens items last → last ≡ the_end → HasNoProof tokens
items_no_proof g.no_item e = no_start (record { none = λ p r h. proof_not_end h e })
items_no_proof (g.declaration_first k i) e = declaration_no_proof k
items_no_proof (g.lemma_first (g.lemma w a k f) c i) e = no_start (record { none = λ p r h. proof_not_lemma h refl })

proof_there : {tokens rest : List Lexeme} {p : WrittenProof} → HasNoProof tokens → NoReading IsBlock tokens → SpellsProof tokens p rest → ⊥
proof_there {rest = r} {p} (no_start n) m h = n.none p r h
proof_there (by_block {w = w} {rest = r} b) m h = m.none w r b

-- behind what begins as a block of text and is read as a proof no item follows
block_no_proof : {tokens rest last r : List Lexeme} {p : WrittenProof} {items : List Item} {w : List ℕ} → IsBlock tokens w r → SpellsProof tokens p rest → SpellsItems rest items last → last ≡ the_end → ⊥
block_no_proof (text_block b) h i e = proof_no_block h refl (items_word i e).are

-- where items and the end follow, any proof that begins was read
pub greedy : {tokens rest last : List Lexeme} {p : Option WrittenProof} {items : List Item} → SpellsProofPart tokens p rest → SpellsItems rest items last → last ≡ the_end → IsGreedy tokens p
greedy g.no_proof i e = items_no_proof i e
greedy (g.a_proof h) i e = record { none = λ w r b. block_no_proof b h i e }

pub part_one : {tokens x y last : List Lexeme} {p q : Option WrittenProof} {items : List Item} → SpellsProofPart tokens p x → IsGreedy tokens p → SpellsProofPart tokens q y → SpellsItems y items last → last ≡ the_end → (p ≡ q) × (x ≡ y)
part_one g.no_proof n g.no_proof i e = (refl, refl)
part_one g.no_proof (no_start n) (g.a_proof {p = p} {rest = r} k) i e = absurd (n.none p r k)
part_one g.no_proof (by_block b) (g.a_proof k) i e = absurd (block_no_proof b k i e)
part_one (g.a_proof h) n g.no_proof i e = absurd (proof_there (items_no_proof i e) n h)
part_one (g.a_proof h) n (g.a_proof k) i e = let o = proof_one h k in (ap Some o.0, o.1)

-- ---- items

-- behind a declaration that is read, and behind a lemma with its proof
pub record Behind (x : Item) (mid : List Lexeme) (items : List Item) : Type 0 where
  pub others : List Item
  pub is : items ≡ x ∷ others
  pub spelled : AreItemsToEnd mid others

pub behind_declaration : {tokens mid : List Lexeme} {x : Item} {items : List Item} → IsDeclaration tokens x mid → AreItemsToEnd tokens items → Behind x mid items
behind_declaration h k = at h k refl
  where
    at : {tokens mid rest : List Lexeme} {x : Item} {items : List Item} → IsDeclaration tokens x mid → SpellsItems tokens items rest → rest ≡ the_end → Behind x mid items
    at h g.no_item e = absurd (declaration_not_end (declaration_spelled h) e)
    at h (g.declaration_first {items = xs} {mid = m} k i) e =
        let o = declaration_one h (declaration_taken k (items_follow i e)) in
        record { others = xs; is = rw o.0 refl; spelled = rw (o.1, sym e) i }
    at h (g.lemma_first k c i) e = absurd (declaration_not_lemma (declaration_spelled h) k)

same_item : {l m : Lemma} {as' bs : List Attribute} {p q : Option WrittenProof} → ◌≡◌ {A = Lemma × List Attribute} (l, as') (m, bs) → p ≡ q → (xs : List Item) → lemma_item l as' p ∷ xs ≡ lemma_item m bs q ∷ xs
same_item {p = p} e f xs = ap (λ (x : Lemma × List Attribute). lemma_item x.0 x.1 p ∷ xs) e ∙ rw f refl

pub behind_lemma : {tokens behind mid : List Lexeme} {l : Lemma} {each : List Attribute} {p : Option WrittenProof} {items : List Item} → SpellsLemma tokens l each behind → SpellsProofPart behind p mid → IsGreedy behind p → AreItemsToEnd tokens items
    → Behind (lemma_item l each p) mid items
behind_lemma h c n k = at h c n k refl
  where
    at : {tokens behind mid rest : List Lexeme} {l : Lemma} {each : List Attribute} {p : Option WrittenProof} {items : List Item} → SpellsLemma tokens l each behind → SpellsProofPart behind p mid → IsGreedy behind p → SpellsItems tokens items rest → rest ≡ the_end
        → Behind (lemma_item l each p) mid items
    at h c n g.no_item e = absurd (lemma_not_end h e)
    at h c n (g.declaration_first k i) e = absurd (declaration_not_lemma k h)
    at h c n (g.lemma_first {p = q} {items = xs} {behind = b} {mid = m} k d i) e =
        let o = lemma_one h k in
        let u = part_one c n (subst (λ (ts : List Lexeme). SpellsProofPart ts q m) (sym o.1) d) i e in
        record { others = xs; is = sym (same_item o.0 u.0 xs); spelled = rw (u.1, sym e) i }

pub items_one : {tokens : List Lexeme} {xs ys : List Item} → AreItemsToEnd tokens xs → AreItemsToEnd tokens ys → xs ≡ ys
items_one h k = at h refl k
  where
    at : {tokens rest : List Lexeme} {xs ys : List Item} → SpellsItems tokens xs rest → rest ≡ the_end → AreItemsToEnd tokens ys → xs ≡ ys
    at g.no_item e k = nothing e k
      where
        nothing : {tokens rest : List Lexeme} {ys : List Item} → tokens ≡ the_end → SpellsItems tokens ys rest → [] ≡ ys
        nothing e g.no_item = refl
        nothing e (g.declaration_first h k) = absurd (declaration_not_end h e)
        nothing e (g.lemma_first h c k) = absurd (lemma_not_end h e)
    at (g.declaration_first h i) e k =
        let b = behind_declaration (declaration_taken h (items_follow i e)) k in
        rw (at i e b.spelled, sym b.is) refl
    at (g.lemma_first h c i) e k =
        let b = behind_lemma h c (greedy c i e) k in
        rw (at i e b.spelled, sym b.is) refl

pub theory_one : {tokens : List Lexeme} {t u : WrittenText} → SpellsTheory tokens t → SpellsTheory tokens u → t ≡ u
theory_one (g.theory {w = w} {tokens = ts} h k) i = at i w ts k refl
  where
    at : {us : List Lexeme} {u : WrittenText} {xs : List Item} → SpellsTheory us u → (w : List ℕ) (tokens : List Lexeme) → AreItemsToEnd tokens xs → us ≡ word (codes "theory") ∷ word w ∷ word (codes "begin") ∷ tokens → record { name = w; items = xs } ≡ u
    at (g.theory {w = v} {items = ys} {tokens = vs} h k) w ts i e =
        let d : vs ≡ ts = cc in
        let n : v ≡ w = cc in
        let o = items_one i (subst (λ (ts : List Lexeme). AreItemsToEnd ts ys) d k) in
        rw (n, o) refl
