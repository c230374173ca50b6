-- Items that are read one after the other.
use Rattle.std.proofs.Common.{◌≡◌, List, [], ◌∷◌, ◌++◌, codes, refl, ap, subst, ◌∙◌, append_assoc}
use Rattle.std.proofs.lemmas.List.{append-nil}
use Rattle.sp_spec_text.specs.Token.{Lexeme, word, Token}
use Rattle.sp_spec_text.specs.Lex.{lexemes}
use Rattle.sp_spec_text.specs.Written.{Item}
use Rattle.sp_written.specs.declared.theory.Item as rust
use Rattle.sp_written.specs.declared.theory.Item.TheVariants as i
use Rattle.sp_spec_text.specs.Spans.{Span}
use Rattle.sp_spec_text.specs.Lists.{IsNotFirst, NoReading}
use Rattle.sp_spec_text.specs.Theories.{SpellsItems, no_item, declaration_first, lemma_first}
use Rattle.sp_read_lemmas.specs.Lemmas.{IsLemma}
use Rattle.sp_read_listings.specs.Heuristics.{the_end}
use Rattle.sp_read_lemmas.specs.Items.{IsDeclaration, ReadsItem, a_declaration, a_lemma}
use Rattle.sp_read_theory.specs.Items.{NoItem, AreItemsToEnd, NoItems}
use Rattle.sp_spec_text.specs.Spans.{EndsWith, AreSpans, no_span, past_declaration, past_lemma}
use Rattle.sp_read_theory.specs.Views as view
use Rattle.sp_read_listings.proofs.Follows.{items_follow}
use Rattle.sp_read_theory.proofs.Declared.{declaration_spelled, declaration_taken, declaration_not_end, lemma_not_end}
use Rattle.sp_read_theory.proofs.OneTheory.{Behind, behind_declaration, behind_lemma}
use Rattle.sp_read_lemmas.proofs.Suffix.{ends_with}

-- these items stand before the rest, and the proofs of their lemmas have these spans
pub record Gone (tokens : List Token) (items : List Item) (spans : List Span) (rest : List Token) : Type 0 where
  pub goes : (others : List Item) → AreItemsToEnd (lexemes rest) others → AreItemsToEnd (lexemes tokens) (items ++ others)
  pub places : (others : List Item) (more : List Span) → AreSpans rest others more → AreSpans tokens (items ++ others) (spans ++ more)
  pub stops : NoItems (lexemes rest) → NoItems (lexemes tokens)

pub gone_none : (tokens : List Token) → Gone tokens [] [] tokens
gone_none tokens = record { goes = λ xs h. h; places = λ xs ss h. h; stops = λ h. h }

-- ---- one item

before_items : {tokens rest : List Token} {x : Item} {spans : List Span} {others : List Item} → ReadsItem tokens x spans rest → AreItemsToEnd (lexemes rest) others → AreItemsToEnd (lexemes tokens) (x ∷ others)
before_items (a_declaration r e) h = declaration_first (declaration_spelled r) h
before_items (a_lemma l b p) h = lemma_first l p.spells h

before_spans : {tokens rest : List Token} {x : Item} {spans more : List Span} {others : List Item} → ReadsItem tokens x spans rest → AreSpans rest others more → AreSpans tokens (x ∷ others) (spans ++ more)
before_spans (a_declaration r e) h = past_declaration (declaration_spelled r) e h
before_spans (a_lemma l b p) h = past_lemma l b p.spells p.ends h

behind_item : {tokens rest : List Token} {x : Item} {spans : List Span} {items : List Item} → ReadsItem tokens x spans rest → AreItemsToEnd (lexemes tokens) items → Behind x (lexemes rest) items
behind_item (a_declaration r e) h = behind_declaration r h
behind_item (a_lemma l b p) h = behind_lemma l p.spells p.greedy h

pub gone_item : {tokens rest mid : List Token} {items : List Item} {spans more : List Span} {x : Item} → Gone tokens items spans rest → ReadsItem rest x more mid → Gone tokens (items ++ x ∷ []) (spans ++ more) mid
gone_item {x = x} g r = record {
  goes = λ xs h. rw append_assoc (g.goes (x ∷ xs) (before_items r h));
  places = λ xs ss h. rw (append_assoc, append_assoc) (g.places (x ∷ xs) _ (before_spans r h));
  stops = λ n. g.stops (record { none = λ xs h. let b = behind_item r h in n.none b.others b.spelled });
}

-- a declaration has no proof, a lemma one span
pub spans_more : (xs ys : List rust.Item) → view.spans (xs ++ ys) ≡ view.spans xs ++ view.spans ys
spans_more [] ys = refl
spans_more (i.Builtins bs ∷ xs) ys = spans_more xs ys
spans_more (i.Functions ss ∷ xs) ys = spans_more xs ys
spans_more (i.Equations es ∷ xs) ys = spans_more xs ys
spans_more (i.Heuristic ws ∷ xs) ys = spans_more xs ys
spans_more (i.Block w ∷ xs) ys = spans_more xs ys
spans_more (i.Rule r ∷ xs) ys = spans_more xs ys
spans_more (i.Restriction r ∷ xs) ys = spans_more xs ys
spans_more (i.Lemma l ∷ xs) ys = ap (λ (ss : List Span). view.span_of l.span ∷ ss) (spans_more xs ys)

pub declaration_item_at : {x : Item} {spans : List Span} {tokens rest : List Token} → IsDeclaration (lexemes tokens) x (lexemes rest) → EndsWith tokens rest → spans ≡ [] → ReadsItem tokens x spans rest
declaration_item_at h e n = rw n (a_declaration h e)

pub no_item_at : {tokens : List Lexeme} → NoReading IsDeclaration tokens → NoReading IsLemma tokens → NoItem tokens
no_item_at n m = record { no_declaration = n; no_lemma = m }

pub ruleset one_item = (declaration_item_at, no_item_at, ends_with)

-- ---- the end

pub gone_all : {tokens rest : List Token} {items : List Item} {spans : List Span} → Gone tokens items spans rest → lexemes rest ≡ the_end → AreItemsToEnd (lexemes tokens) items
gone_all {tokens} {items = items} g e = subst (λ (xs : List Item). AreItemsToEnd (lexemes tokens) xs) (append-nil items) (g.goes [] (rw e no_item))

pub gone_places : {tokens rest : List Token} {items : List Item} {spans : List Span} → Gone tokens items spans rest → AreSpans tokens items spans
gone_places {tokens} {items = items} {spans = spans} g =
    subst (λ (xs : List Item). AreSpans tokens xs spans) (append-nil items) (subst (λ (ss : List Span). AreSpans tokens (items ++ []) ss) (append-nil spans) (g.places [] [] no_span))

-- another token is left behind the end
pub gone_too_far : {tokens rest : List Token} {after : List Lexeme} {items : List Item} {spans : List Span} → Gone tokens items spans rest → lexemes rest ≡ word (codes "end") ∷ after → (after ≡ [] → ⊥) → NoItems (lexemes tokens)
gone_too_far g e d = g.stops (record { none = λ xs h. at h refl e d })
  where
    at : {rest after ends : List Lexeme} {xs : List Item} → SpellsItems rest xs ends → ends ≡ the_end → rest ≡ word (codes "end") ∷ after → (after ≡ [] → ⊥) → ⊥
    at no_item f e d = d cc
    at (declaration_first r h) f e d = declaration_not_end r e
    at (lemma_first l p h) f e d = lemma_not_end l e

pub gone_nowhere : {tokens rest : List Token} {items : List Item} {spans : List Span} → Gone tokens items spans rest → IsNotFirst (word (codes "end")) (lexemes rest) → NoItem (lexemes rest) → NoItems (lexemes tokens)
gone_nowhere g d n = g.stops (record { none = λ xs h. at h refl d n })
  where
    at : {rest ends : List Lexeme} {xs : List Item} → SpellsItems rest xs ends → ends ≡ the_end → IsNotFirst (word (codes "end")) rest → NoItem rest → ⊥
    at no_item f d n = d [] f
    at (declaration_first {x = x} {mid = m} k h) f d n = n.no_declaration.none x m (declaration_taken k (items_follow h f))
    at (lemma_first {l = l} {each = xs} {behind = b} k p h) f d n = n.no_lemma.none (l, xs) b k

pub nothing_follows : {tokens last : List Lexeme} → tokens ≡ word (codes "end") ∷ last → last ≡ [] → tokens ≡ the_end
nothing_follows e f = e ∙ ap (λ (ts : List Lexeme). word (codes "end") ∷ ts) f

pub ruleset all_items = (gone_none, gone_nowhere)
