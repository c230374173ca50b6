-- The items of a text, from the last back, and the whole text.
use Rattle.std.proofs.Common.{◌≡◌, ℕ, List, [], ◌∷◌, ◌++◌, length, take, drop, codes, Option, Some, None, refl, sym, ap, subst, ◌∙◌, append_assoc, arith}
use Rattle.std.proofs.lemmas.List.{append_cancel_right, map-append, drop-map, take-append-drop}
use Rattle.std.proofs.Math.Seq.{drop-append_seam}
use Rattle.sp_spec.specs.Lists.{Every}
use Rattle.sp_spec.specs.Theory.{Lemma}
use Rattle.sp_spec_text.specs.Signs as s
use Rattle.sp_spec_text.specs.Token.{Lexeme, word, sign, Token}
use Rattle.sp_spec_text.specs.Lex.{AreTokens, is_end, lexemes}
use Rattle.sp_spec_text.specs.Ends.{place_behind, is_any}
use Rattle.sp_lex.proofs.One.{tokens_one}
use Rattle.sp_spec_text.specs.Names.{IsName}
use Rattle.sp_spec_proof.specs.Tree.{Tree}
use Rattle.sp_spec_text.specs.Written.{WrittenProof, Attribute, Item, lemma_item, WrittenText}
use Rattle.sp_spec_text.specs.Spans.{Span, IsBehind, EndsAt, AreSpans, no_span, past_declaration, past_lemma}
use Rattle.sp_spec_text.specs.Theories as g
use Rattle.sp_spec_text.specs.Theories.{SpellsLemma, SpellsDeclaration, SpellsProofPart, SpellsItems, SpellsTheory}
use Rattle.sp_read_listings.specs.Heuristics.{the_end}
use Rattle.sp_spec_text.specs.Texts.{IsTextOf, ArePlaces}
use Rattle.sp_read_lemmas.proofs.LemmaParts.{lemma_one}
use Rattle.sp_read_theory.proofs.Declared.{declaration_rest, declaration_not_lemma}
use Rattle.sp_read_listings.proofs.Follows.{items_word}
use Rattle.sp_skel.specs.Spelling.{spelled}
use Rattle.sp_skel.proofs.Spelled.{tree_spells}
use Rattle.sp_skel.proofs.Blanks.{Cut}
use Rattle.sp_law_reread.specs.Again.{replaced, with_trees, IsReadableIf}
use Rattle.sp_law_reread.proofs.Ends.{Ends, ends_behind, next_ends}
use Rattle.sp_law_reread.proofs.Moving.{front_of, move_declaration, move_lemma}
use Rattle.sp_law_reread.proofs.Keeping.{read_before, proof_before}
use Rattle.sp_law_reread.proofs.Reached.{Parted, parted}
use Rattle.sp_law_reread.proofs.Places.{At, at_start, Claim, Again, settle, extend, claim_stays}
use Rattle.sp_law_reread.proofs.Stretches.{claim_end, claim_lemma, after_other, onwards}
use Rattle.sp_read_theory.proofs.Spans.{proof_rest, spans_word}

-- ---- the tokens of an item

-- the tokens of a declaration spell it, whatever follows
declaration_before : (tokens mid : List Token) {x : Item} → SpellsDeclaration (lexemes tokens) x (lexemes mid) → (first : List Token) → tokens ≡ first ++ mid → (ys : List Lexeme) → SpellsDeclaration (lexemes first ++ ys) x ys
declaration_before tokens mid h first e ys = read_before {R = SpellsDeclaration} tokens mid (λ zs. move_declaration h zs) first e ys

last_same : (xs ys : List Lexeme) (x y : Lexeme) → xs ++ x ∷ [] ≡ ys ++ y ∷ [] → (xs ≡ ys) × (x ≡ y)
last_same [] [] x y e = (refl, cc)
last_same [] (b ∷ []) x y e = absurd (let none : ⊥ = cc in none)
last_same [] (b ∷ c ∷ ys) x y e = absurd (let none : ⊥ = cc in none)
last_same (a ∷ []) [] x y e = absurd (let none : ⊥ = cc in none)
last_same (a ∷ d ∷ xs) [] x y e = absurd (let none : ⊥ = cc in none)
last_same (a ∷ xs) (b ∷ ys) x y e =
    let f : xs ++ x ∷ [] ≡ ys ++ y ∷ [] = cc in
    let o = last_same xs ys x y f in
    let g : a ≡ b = cc in
    let h : xs ≡ ys = o.0 in
    (rw (g, h) refl, o.1)

-- those of a lemma spell it up to its closing quote
record LemmaBefore (first : List Token) (quote : Token) (l : Lemma) (each : List Attribute) : Type 0 where
  closing : quote.lexeme ≡ sign s.Quote
  spells : (ys : List Lexeme) → SpellsLemma (lexemes first ++ sign s.Quote ∷ ys) l each ys

lemma_before : (tokens behind : List Token) {l : Lemma} {each : List Attribute} → SpellsLemma (lexemes tokens) l each (lexemes behind) → (first : List Token) (quote : Token) → tokens ≡ first ++ quote ∷ behind → LemmaBefore first quote l each
lemma_before tokens behind {l} {each} h first quote e =
    let fronts : (ys : List Lexeme) → ((front_of (move_lemma h ys).swapped).front ≡ lexemes first) × (sign s.Quote ≡ quote.lexeme) = λ ys.
    let f = front_of (move_lemma h ys).swapped in
    let xs = lexemes behind in
    let one : f.front ++ sign s.Quote ∷ xs ≡ lexemes first ++ quote.lexeme ∷ xs = sym f.are ∙ ap lexemes e ∙ map-append (λ (t : Token). t.lexeme) first (quote ∷ behind) in
    let two : (f.front ++ sign s.Quote ∷ []) ++ xs ≡ (lexemes first ++ quote.lexeme ∷ []) ++ xs = append_assoc f.front (sign s.Quote ∷ []) xs ∙ one ∙ sym (append_assoc (lexemes first) (quote.lexeme ∷ []) xs) in
    last_same f.front (lexemes first) (sign s.Quote) quote.lexeme (append_cancel_right (f.front ++ sign s.Quote ∷ []) (lexemes first ++ quote.lexeme ∷ []) xs two) in
    record {
      closing = sym (fronts []).1;
      spells = λ ys.
          let m = move_lemma h ys in
          let f = front_of m.swapped in
          subst (λ (xs : List Lexeme). SpellsLemma xs l each ys) (f.others_are ∙ ap (λ (xs : List Lexeme). xs ++ sign s.Quote ∷ ys) (fronts ys).0) m.reads;
    }

abbrev Spelled : List Item → List Lexeme → Type 0
Spelled items xs = SpellsItems xs items the_end

-- those of a lemma and of the proof that stands below it spell both
record LemmaKept (tokens mid : List Token) (l : Lemma) (each : List Attribute) (p : Option WrittenProof) : Type 0 where
  first : List Token
  are : tokens ≡ first ++ mid
  spells : (items : List Item) (ys : List Lexeme) → Spelled items ys → Spelled (lemma_item l each p ∷ items) (lexemes first ++ ys)

lemma_kept : {tokens behind mid : List Token} {l : Lemma} {each : List Attribute} {p : Option WrittenProof} (span : Span) → SpellsLemma (lexemes tokens) l each (lexemes behind)
    → IsBehind tokens behind span.from → SpellsProofPart (lexemes behind) p (lexemes mid) → EndsAt behind mid p span → LemmaKept tokens mid l each p
lemma_kept {tokens} {behind} {mid} {l} {each} {p} span h b c f =
    let before = lemma_before tokens behind h b.before b.last b.are in
    let k = proof_before span c f in
    let proof = lexemes k.first in
    let first = b.before ++ b.last ∷ k.first in
    record {
      first = first;
      are = b.are ∙ ap (λ (ts : List Token). b.before ++ b.last ∷ ts) k.are ∙ sym (append_assoc b.before (b.last ∷ k.first) mid);
      spells = λ items ys later.
          let parts : lexemes first ++ ys ≡ lexemes b.before ++ b.last.lexeme ∷ (proof ++ ys) =
          ap (λ (xs : List Lexeme). xs ++ ys) (map-append (λ (t : Token). t.lexeme) b.before (b.last ∷ k.first)) ∙ append_assoc (lexemes b.before) (b.last.lexeme ∷ proof) ys in
          let are : lexemes first ++ ys ≡ lexemes b.before ++ sign s.Quote ∷ (proof ++ ys) = parts ∙ ap (λ (x : Lexeme). lexemes b.before ++ x ∷ (proof ++ ys)) before.closing in
          subst (λ (xs : List Lexeme). Spelled (lemma_item l each p ∷ items) xs) (sym are) (g.lemma_first (before.spells (proof ++ ys)) (k.spells ys) later);
    }

-- ---- what follows an item

some_left : {tokens after : List Lexeme} {items : List Item} → SpellsItems tokens items after → after ≡ the_end → tokens ≡ [] → ⊥
some_left g.no_item e f = let none : ⊥ = cc in none
some_left (g.declaration_first (g.builtins h) i) e f = let none : ⊥ = cc in none
some_left (g.declaration_first (g.functions h) i) e f = let none : ⊥ = cc in none
some_left (g.declaration_first (g.equations h) i) e f = let none : ⊥ = cc in none
some_left (g.declaration_first (g.heuristic h) i) e f = let none : ⊥ = cc in none
some_left (g.declaration_first (g.text_block n) i) e f = let none : ⊥ = cc in none
some_left (g.declaration_first (g.a_rule (g.rule (g.rule_head m n r) h a b c)) i) e f = let none : ⊥ = cc in none
some_left (g.declaration_first (g.a_restriction (g.restriction k n h)) i) e f = let none : ⊥ = cc in none
some_left (g.lemma_first (g.lemma n m k j) p i) e f = let none : ⊥ = cc in none

record FirstToken (ts : List Token) : Type 0 where
  token : Token
  others : List Token
  are : ts ≡ token ∷ others

first_token : (ts : List Token) {after : List Lexeme} {items : List Item} → SpellsItems (lexemes ts) items after → after ≡ the_end → FirstToken ts
first_token [] i e = absurd (some_left i e refl)
first_token (t ∷ ts) i e = record { token = t; others = ts; are = refl }

-- the last of all is the same
place_later : (first others : List Token) (b : ℕ) → place_behind is_any b (first ++ others) ≡ place_behind is_any (place_behind is_any b first) others
place_later [] others b = refl
place_later (t ∷ first) others b = place_later first others t.end

-- the tokens end at this place
record EndAt (ts : List Token) (end : ℕ) : Type 0 where
  from : ℕ
  is : place_behind is_any from ts ≡ end

end_later : {ts us : List Token} {end : ℕ} → EndAt ts end → (first : List Token) → ts ≡ first ++ us → EndAt us end
end_later {us = us} e first f = record { from = place_behind is_any e.from first; is = sym (place_later first us e.from) ∙ ap (λ (ts : List Token). place_behind is_any e.from ts) (sym f) ∙ e.is }

end_behind : {behind others : List Token} {end : ℕ} (p : Option WrittenProof) (span : Span) → EndsAt behind others p span → EndAt behind end → EndAt others end
end_behind None span h e = end_later e [] (sym h.0)
end_behind {others = us} (Some p) span h e = end_later e (h.before ++ h.last ∷ []) (h.are ∙ sym (append_assoc h.before (h.last ∷ []) us))

-- ---- declarations

-- trees are put behind lemmas alone
trees_past : {tokens rest : List Lexeme} {x : Item} → SpellsDeclaration tokens x rest → (items : List Item) (trees : List (Option Tree)) → x ∷ with_trees items trees ≡ with_trees (x ∷ items) trees
trees_past (g.builtins h) items trees = refl
trees_past (g.functions h) items trees = refl
trees_past (g.equations h) items trees = refl
trees_past (g.heuristic h) items trees = refl
trees_past (g.text_block n) items trees = refl
trees_past (g.a_rule h) items trees = refl
trees_past (g.a_restriction h) items trees = refl

-- The tokens up to the rest that the grammar leaves. Behind the last declaration the spans say nothing of those that follow.
record Divided (tokens : List Token) (rest : List Lexeme) : Type 0 where
  first : List Token
  mid : List Token
  are : tokens ≡ first ++ mid
  mid_is : lexemes mid ≡ rest

divided : (tokens : List Token) {x : Item} {rest : List Lexeme} → SpellsDeclaration (lexemes tokens) x rest → Divided tokens rest
divided tokens {rest = rest} h =
    let f = front_of (move_declaration h []).swapped in
    let n = length f.front in
    record {
      first = take n tokens;
      mid = drop n tokens;
      are = sym (take-append-drop n tokens);
      mid_is = sym (drop-map (λ (t : Token). t.lexeme) n tokens) ∙ ap (λ (xs : List Lexeme). drop n xs) f.are ∙ drop-append_seam f.front rest;
    }

-- these tokens are cut off these bytes, and those are left
record CutOff (text bytes : List ℕ) (first mid : List Token) (end : ℕ) : Type 0 where
  parted_at : Parted (length text) bytes first mid
  ends : Ends text parted_at.rest
  ends_at : EndAt mid end

cut_off : {text bytes : List ℕ} {end : ℕ} {tokens mid : List Token} (first : List Token) → tokens ≡ first ++ mid
    → FirstToken mid → EndAt tokens end → AreTokens (length text) bytes tokens → Ends text bytes → CutOff text bytes first mid end
cut_off {text} {bytes} first e u p cut ends =
    let o = subst (λ (ts : List Token). Parted (length text) bytes first ts) (sym u.are) (parted first u.token u.others cut (e ∙ ap (λ (ts : List Token). first ++ ts) u.are)) in
    record { parted_at = o; ends = ends_behind ends o.ends; ends_at = end_later p first e }

-- ---- the items

claim_declaration : {text behind bytes : List ℕ} {end : ℕ} {x : Item} {first mid : List Token} {spans : List Span} (items : List Item) (trees : List (Option Tree)) (d : CutOff text bytes first mid end)
    → ((ys : List Lexeme) → SpellsDeclaration (lexemes first ++ ys) x ys) → x ∷ with_trees items trees ≡ with_trees (x ∷ items) trees
    → Claim text spans trees end behind d.parted_at.rest (Spelled (with_trees items trees)) → Claim text spans trees end behind bytes (Spelled (with_trees (x ∷ items) trees))
claim_declaration {first = first} items trees d before e c = extend d.parted_at c (λ ys k. subst (λ (xs : List Item). Spelled xs (lexemes first ++ ys)) e (g.declaration_first (before ys) k))

claim_items : {text behind : List ℕ} {end : ℕ} {tokens : List Token} {items : List Item} {spans : List Span} {after : List Lexeme} {bytes : List ℕ} → AreSpans tokens items spans
    → SpellsItems (lexemes tokens) items after → after ≡ the_end → (trees : List (Option Tree)) → Every IsReadableIf trees → length trees ≡ length spans → EndAt tokens end → AreTokens (length text) bytes tokens → Ends text bytes
    → Claim text spans trees end behind bytes (Spelled (with_trees items trees))
claim_items no_span g.no_item e trees rs l p cut ends = claim_end p.from cut e p.is g.no_item
claim_items {tokens = ts} (past_declaration {x = x} {items = []} h b no_span) (g.declaration_first q g.no_item) e trees rs l p cut ends =
    let w = divided ts q in
    let f = w.mid_is ∙ e in
    let q' = subst (λ (us : List Lexeme). SpellsDeclaration (lexemes ts) x us) (sym w.mid_is) q in
    let d = cut_off w.first w.are (first_token w.mid g.no_item f) p cut ends in
    claim_declaration [] trees d (declaration_before ts w.mid q' w.first w.are) (trees_past q [] trees) (claim_end d.ends_at.from d.parted_at.cut f d.ends_at.is g.no_item)
claim_items {tokens = ts} {after = after} (past_declaration {items = x ∷ xs} {mid = mid} h b s) (g.declaration_first q i) e trees rs l p cut ends =
    let o = declaration_rest h q (spans_word s) (items_word i e) in
    let j = subst (λ (us : List Lexeme). SpellsItems us (x ∷ xs) after) (sym o) i in
    let d = cut_off b.0 b.1 (first_token mid j e) p cut ends in
    claim_declaration (x ∷ xs) trees d (declaration_before ts mid h b.0 b.1) (trees_past h (x ∷ xs) trees) (claim_items {bytes = d.parted_at.rest} s j e trees rs l d.ends_at d.parted_at.cut d.ends)
claim_items (past_declaration h b s) (g.lemma_first o d i) e trees rs l p cut ends = absurd (declaration_not_lemma h o)
claim_items (past_lemma h b c f s) (g.declaration_first q i) e trees rs l p cut ends = absurd (declaration_not_lemma q h)
claim_items (past_lemma h b c f s) (g.lemma_first o d i) e [] rs l p cut ends = absurd (omega (arith, l))
claim_items {text} {tokens = tokens} {after = after} (past_lemma {l = x} {p = proof} {items = xs} {span = span} {behind = y} {mid = mid} h b c f s) (g.lemma_first {mid = n} o d i) e (Some t ∷ trees) rs l p cut ends =
    let d' = subst (λ (us : List Lexeme). SpellsProofPart us proof n) (sym (lemma_one h o).1) d in
    let j = subst (λ (us : List Lexeme). SpellsItems us xs after) (sym (proof_rest c d')) i in
    let u = first_token mid j e in
    let before = lemma_before tokens y h b.before b.last b.are in
    let q = parted b.before b.last y cut b.are in
    let a = after_other b.last y q.cut refl (ap is_end before.closing) in
    let at : At text span.from a.rest = record { ends = ends_behind ends (ends_behind q.ends (next_ends a.comes)); is = let k = a.comes.end in omega (arith, k, b.place_is) } in
    let w = onwards proof span u.token u.others u.are f at a.cut in
    let ends_at = end_behind proof span f (end_later p (b.before ++ b.last ∷ []) (b.are ∙ sym (append_assoc b.before (b.last ∷ []) y))) in
    let later = claim_items {bytes = w.bytes} s j e trees rs.1 (omega (arith, l)) ends_at w.cut w.at.ends in
    claim_lemma b.last t rs.0 q a.comes before.closing b.place_is (settle {bytes = w.bytes} later w.at)
    (λ ys k. g.lemma_first (before.spells (spelled t ys)) (g.a_proof (tree_spells t rs.0 ys)) k)
claim_items {after = after} (past_lemma {p = proof} {items = xs} {span = span} {mid = mid} h b c f s) (g.lemma_first {mid = n} o d i) e (None ∷ trees) rs l p cut ends =
    let d' = subst (λ (us : List Lexeme). SpellsProofPart us proof n) (sym (lemma_one h o).1) d in
    let j = subst (λ (us : List Lexeme). SpellsItems us xs after) (sym (proof_rest c d')) i in
    let k = lemma_kept span h b c f in
    let w = cut_off k.first k.are (first_token mid j e) p cut ends in
    let later = claim_items {bytes = w.parted_at.rest} s j e trees rs.1 (omega (arith, l)) w.ends_at w.parted_at.cut w.ends in
    claim_stays (extend w.parted_at later (λ ys h. k.spells (with_trees xs trees) ys h))

-- ---- the whole text

-- the first three tokens open a theory, and the items stand behind them
record Opened (theory : WrittenText) (first others : List Token) : Type 0 where
  items : SpellsItems (lexemes others) theory.items the_end
  whole : (items : List Item) (ys : List Lexeme) → SpellsItems ys items the_end → SpellsTheory (lexemes first ++ ys) (record { name = theory.name; items = items })

three : {w : List ℕ} {items : List Item} {us : List Lexeme} (a b c : Token) (ts : List Token) → IsName w → SpellsItems us items the_end → word (codes "theory") ∷ word w ∷ word (codes "begin") ∷ us ≡ lexemes (a ∷ b ∷ c ∷ ts)
    → Opened (record { name = w; items = items }) (a ∷ b ∷ c ∷ []) ts
three {w} {items} {us} a b c ts n h e =
    let x : word (codes "theory") ≡ a.lexeme = cc in
    let y : word w ≡ b.lexeme = cc in
    let z : word (codes "begin") ≡ c.lexeme = cc in
    let v : us ≡ lexemes ts = cc in
    record {
      items = subst (λ (xs : List Lexeme). SpellsItems xs items the_end) v h;
      whole = λ others ys k.
          let f : word (codes "theory") ∷ word w ∷ word (codes "begin") ∷ ys ≡ a.lexeme ∷ b.lexeme ∷ c.lexeme ∷ ys = rw (x, y, z) refl in
          subst (λ (xs : List Lexeme). SpellsTheory xs (record { name = w; items = others })) f (g.theory n k);
    }

record Opening (theory : WrittenText) (ts : List Token) : Type 0 where
  first : List Token
  others : List Token
  are : ts ≡ first ++ others
  others_are : drop 3 ts ≡ others
  opened : Opened theory first others

opening : {xs : List Lexeme} {theory : WrittenText} → SpellsTheory xs theory → (ts : List Token) → xs ≡ lexemes ts → Opening theory ts
opening (g.theory n h) [] e = absurd (let none : ⊥ = cc in none)
opening (g.theory n h) (a ∷ []) e = absurd (let none : ⊥ = cc in none)
opening (g.theory n h) (a ∷ b ∷ []) e = absurd (let none : ⊥ = cc in none)
opening (g.theory n h) (a ∷ b ∷ c ∷ ts) e = record { first = a ∷ b ∷ c ∷ []; others = ts; are = refl; others_are = refl; opened = three a b c ts n h e }

-- what is written from the start on is a text
text_of : {text : List ℕ} {spans : List Span} {trees : List (Option Tree)} {end : ℕ} {behind : List ℕ} {theory : WrittenText} → Again text spans trees end behind 0 (λ ys. SpellsTheory ys theory)
    → IsTextOf (replaced text 0 spans trees end ++ 10 ∷ behind) theory
text_of {text} {spans} {trees} {end} {behind} {theory} a =
    let written = replaced text 0 spans trees end ++ 10 ∷ behind in
    from_cut ((a.lexes (length written)).cut (omega arith)) a.holds
  where
    from_cut : {bytes : List ℕ} {xs : List Lexeme} → Cut (length bytes) bytes xs → SpellsTheory xs theory → IsTextOf bytes theory
    from_cut c h = record { tokens = c.tokens; cut = c.cut; spells = subst (λ (ys : List Lexeme). SpellsTheory ys theory) (sym c.are) h }

pub written_again : (text : List ℕ) (theory : WrittenText) (spans : List Span) (end : ℕ) (trees : List (Option Tree)) (behind : List ℕ)
    → IsTextOf text theory → ArePlaces text theory spans end → Every IsReadableIf trees → length trees ≡ length spans
    → Again text spans trees end behind 0 (λ ys. SpellsTheory ys (record { name = theory.name; items = with_trees theory.items trees }))
written_again text theory spans end trees behind h p rs l =
    let says = subst (λ (ts : List Token). SpellsTheory (lexemes ts) theory) (tokens_one h.cut p.cut) h.spells in
    let o = opening says p.tokens refl in
    let u = first_token o.others o.opened.items refl in
    let q = parted o.first u.token u.others p.cut (o.are ∙ ap (λ (ts : List Token). o.first ++ ts) u.are) in
    let cut = subst (λ (ts : List Token). AreTokens (length text) q.rest ts) (sym u.are) q.cut in
    let spans_are = subst (λ (ts : List Token). AreSpans ts theory.items spans) o.others_are p.spans_are in
    let all : EndAt p.tokens end = record { from = 0; is = sym p.end_is } in
    let c = claim_items {behind = behind} {bytes = q.rest} spans_are o.opened.items refl trees rs l (end_later all o.first o.are) cut q.ends in
    let made : WrittenText = record { name = theory.name; items = with_trees theory.items trees } in
    let d = extend {Q = λ ys. SpellsTheory ys made} q c (λ ys k. o.opened.whole (with_trees theory.items trees) ys k) in
    settle d (at_start text)

pub read_again : (text : List ℕ) (theory : WrittenText) (spans : List Span) (end : ℕ) (trees : List (Option Tree)) (behind : List ℕ)
    → IsTextOf text theory → ArePlaces text theory spans end → Every IsReadableIf trees → length trees ≡ length spans
    → IsTextOf (replaced text 0 spans trees end ++ (codes "\n" ++ behind)) (record { name = theory.name; items = with_trees theory.items trees })
read_again text theory spans end trees behind h p rs l = text_of (written_again text theory spans end trees behind h p rs l)
