-- The proofs and the theories of the grammar are in the table.
use Rattle.std.proofs.Common.{◌≡◌, ℕ, Bool, true, false, List, [], ◌∷◌, Option, codes, refl, sym, subst, bytes_eq}
use Rattle.sp_spec_text.specs.Signs.{Sign}
use Rattle.sp_spec_text.specs.Signs as s
use Rattle.sp_spec_text.specs.Token.{Lexeme, word, sign, block}
use Rattle.sp_spec_text.specs.Names.{IsName, is_reserved}
use Rattle.sp_spec.specs.Formula.{Formula}
use Rattle.sp_spec_text.specs.Written.{Method, WrittenProof, WrittenCases, Item, WrittenText}
use Rattle.sp_spec_text.specs.Proofs as p
use Rattle.sp_spec_text.specs.Proofs.{is_method, SpellsMethod, SpellsProof, SpellsCases, SpellsMore}
use Rattle.sp_spec_text.proofs.Methods.{solved_none, by_none}
use Rattle.sp_spec_text.specs.Theories as g
use Rattle.sp_spec_text.specs.Theories.{SpellsQuoted, SpellsDeclaration, SpellsProofPart, SpellsItems, SpellsTheory}
use Rattle.sp_spec_text.proofs.Words.{end_reserved}
use Rattle.sp_await.specs.Keywords.{Rule, Restriction, Lemma, Builtins, Functions, Equations, Heuristic, Keyword, neither, keyword_of}
use Rattle.sp_await.specs.Parts.{Awaited}
use Rattle.sp_await.specs.Parts as a
use Rattle.sp_await.specs.Table.{next, takes, stuck, or_block}
use Rattle.sp_law_await.specs.Language.{Has, by_token, by_parts, HasAll, all_had, and_all}
use Rattle.sp_law_await.proofs.Tokens.{same_word, at_word, solved_named, by_named, rule_named, lemma_named, builtins_named, functions_named, equations_named, heuristic_named}
use Rattle.sp_law_await.proofs.Keywords.{rule_keyword, lemma_keyword, builtins_keyword, functions_keyword, equations_keyword, heuristic_keyword, restriction_keyword, solved_keyword, by_keyword, method_named, method_keyword, restriction_named}
use Rattle.sp_law_await.proofs.Had.{taken, no_move, one_of, one_had, no_tokens, first_stuck, first_becomes, become_all}
use Rattle.sp_law_await.proofs.CompleteParts.{has_name}
use Rattle.sp_law_await.proofs.CompleteFormulas.{quoted_had}
use Rattle.sp_law_await.proofs.CompleteItems.{has_fact_list, has_arrow, has_kind, modulo_had, rule_headed_had, let_had, facts_no_let, lemma_headed_had}
use Rattle.sp_law_await.proofs.CompleteLists.{builtins_left, functions_left, equations_left, words_left, listing_had}
use Rattle.std.proofs.lemmas.Bool.{false_from_ne_true}

-- ---- words

-- a method is no word that is none
method_differs : (w v : List ℕ) → is_method w ≡ true → is_method v ≡ false → bytes_eq w v ≡ false
method_differs w v e d = false_from_ne_true (bytes_eq w v) (λ h. let i : is_method v ≡ true = subst (λ (u : List ℕ). is_method u ≡ true) (same_word w v h) e in let none : ⊥ = cc in none)

case_stuck : next a.Proof (word (codes "case")) ≡ stuck
unfolding is_method
case_stuck = refl

-- ---- proofs

has_method : {x : Method} {tokens rest : List Lexeme} → SpellsMethod tokens x rest → Has a.Method tokens rest
has_method (p.by_word e) = by_token (rw e refl) all_had
has_method p.by_goal = by_token refl all_had

method_first : {x : Method} {tokens mid rest : List Lexeme} → SpellsMethod tokens x mid → Has a.Behind mid rest → Has a.Proof tokens rest
method_first (p.by_word {w = w} e) h = by_token (rw (method_differs w (codes "SOLVED") e solved_none, method_differs w (codes "by") e by_none, e) refl) (one_had {part = a.Behind} h)
method_first p.by_goal h = by_token refl (one_had h)

behind_of_proof : (tokens : List Lexeme) {rest : List Lexeme} → Has a.Proof tokens rest → Has a.Behind tokens rest
behind_of_proof [] h = elim h [ ]
behind_of_proof (word w ∷ tokens) {rest} h = at (bytes_eq w (codes "case")) refl
  where
    at : (b : Bool) → bytes_eq w (codes "case") ≡ b → Has a.Behind (word w ∷ tokens) rest
    at true e = absurd (no_move a.Proof (word (codes "case")) case_stuck (subst (λ (u : List ℕ). Has a.Proof (word u ∷ tokens) rest) (same_word w (codes "case") e) h))
    at false e = by_parts (rw e refl) (one_had {part = a.Proof} h)
behind_of_proof (x ∷ tokens) h = by_parts refl (one_had {part = a.Proof} h)

mutual
  pub has_proof : {q : WrittenProof} {tokens rest : List Lexeme} → SpellsProof tokens q rest → Has a.Proof tokens rest
  has_proof p.solved = by_token refl all_had
  has_proof (p.by_method m) = by_token refl (one_had (has_method m))
  has_proof (p.method_proof {mid = mid} m h) = method_first m (behind_of_proof mid (has_proof h))
  has_proof (p.method_cases m (p.case n h l)) = method_first m (by_token refl (and_all (has_name n) (and_all (has_proof h) (one_had (has_more l)))))

  has_more : {cs : WrittenCases} {tokens rest : List Lexeme} → SpellsMore tokens cs rest → Has a.Cases tokens rest
  has_more p.qed = by_token refl all_had
  has_more (p.next (p.case n h l)) = by_token refl (and_all {part = a.Case} (by_token refl all_had) (and_all (has_name n) (and_all (has_proof h) (one_had (has_more l)))))

behind_of_cases : {cs : WrittenCases} {tokens rest : List Lexeme} → SpellsCases tokens cs rest → Has a.Behind tokens rest
behind_of_cases (p.case n h l) = by_token refl (and_all {part = a.Name} (has_name n) (and_all {part = a.Proof} (has_proof h) (one_had {part = a.Cases} (has_more l))))

-- ---- behind a lemma

neither_sign : (y : Sign) → next (a.Item neither) (sign y) ≡ stuck
neither_sign s.Colon = refl
neither_sign s.Open = refl
neither_sign _ = refl

-- a word that begins no item is that of a block
block_behind : (part : Awaited) → next part block ≡ takes (a.Items ∷ []) → (tokens : List Lexeme) {rest : List Lexeme} → Has (a.Item neither) tokens rest → Has part tokens rest
block_behind part e [] h = elim h [ ]
block_behind part e (block ∷ tokens) h = by_token e (taken (a.Item neither) block {parts = a.Items ∷ []} refl h)
block_behind part e (word w ∷ tokens) {rest} h = at (is_reserved w) refl
  where
    at : (b : Bool) → is_reserved w ≡ b → Has part (word w ∷ tokens) rest
    at true d = absurd (no_move (a.Item neither) (word w) (rw d refl) h)
    at false d = absurd (no_move (a.Item neither) (word w) (rw d refl) h)
block_behind part e (sign y ∷ tokens) h = absurd (no_move (a.Item neither) (sign y) (neither_sign y) h)
block_behind part e (x ∷ tokens) h = absurd (no_move (a.Item neither) x refl h)

plain_item : {w : List ℕ} {tokens rest : List Lexeme} → IsName w → keyword_of w ≡ neither → Has a.Items (word w ∷ tokens) rest → Has (a.Item neither) tokens rest
plain_item {w} {tokens} {rest} n e h = subst (λ (k : Keyword). Has (a.Item k) tokens rest) e (one_of (taken a.Items (word w) {parts = a.Item (keyword_of w) ∷ []} (rw n refl) h))

solved_block : {tokens rest : List Lexeme} → Has a.Items (word (codes "SOLVED") ∷ tokens) rest → Has a.Below (word (codes "SOLVED") ∷ tokens) rest
solved_block {tokens} h = by_token refl (one_had {part = a.BelowSolved} (block_behind a.BelowSolved refl tokens (plain_item solved_named solved_keyword h)))

by_block : {tokens rest : List Lexeme} → Has a.Items (word (codes "by") ∷ tokens) rest → Has a.Below (word (codes "by") ∷ tokens) rest
by_block {tokens} h = by_token refl (one_had {part = a.BelowBy} (block_behind a.BelowBy refl tokens (plain_item by_named by_keyword h)))

method_below : {w : List ℕ} {tokens rest : List Lexeme} → is_method w ≡ true → Has a.BelowMethod tokens rest → Has a.Below (word w ∷ tokens) rest
method_below {w} e h = by_token (rw (method_differs w (codes "SOLVED") e solved_none, method_differs w (codes "by") e by_none, e) refl) (one_had {part = a.BelowMethod} h)

below_of_items : (tokens : List Lexeme) {rest : List Lexeme} → Has a.Items tokens rest → Has a.Below tokens rest
below_of_items [] h = elim h [ ]
below_of_items (word w ∷ tokens) {rest} h = at (bytes_eq w (codes "SOLVED")) refl (bytes_eq w (codes "by")) refl (is_method w) refl
  where
    at : (b : Bool) → bytes_eq w (codes "SOLVED") ≡ b → (c : Bool) → bytes_eq w (codes "by") ≡ c → (d : Bool) → is_method w ≡ d → Has a.Below (word w ∷ tokens) rest
    at true i c j d k = at_word (λ u. Has a.Items (word u ∷ tokens) rest → Has a.Below (word u ∷ tokens) rest) w (codes "SOLVED") i (λ x. solved_block x) h
    at false i true j d k = at_word (λ u. Has a.Items (word u ∷ tokens) rest → Has a.Below (word u ∷ tokens) rest) w (codes "by") j (λ x. by_block x) h
    at false i false j true k = method_below k (block_behind a.BelowMethod refl tokens (plain_item (method_named w k) (method_keyword w k) h))
    at false i false j false k = by_parts (rw (i, j, k) refl) (one_had {part = a.Items} h)
below_of_items (x ∷ tokens) h = absurd (no_move a.Items x refl h)

-- parts that begin with no block
or_parts : (part first : Awaited) {parts : List Awaited} → ((x : Lexeme) → next part x ≡ or_block (first ∷ parts) x) → ((us q : List Lexeme) → HasAll (first ∷ parts) (block ∷ us) q → ⊥)
    → (tokens : List Lexeme) {rest : List Lexeme} → HasAll (first ∷ parts) tokens rest → Has part tokens rest
or_parts part first e f [] h = absurd (no_tokens h)
or_parts part first e f (block ∷ tokens) {rest} h = absurd (f tokens rest h)
or_parts part first e f (x ∷ tokens) h = by_parts (e x) h

behind_no_block : {parts : List Awaited} {tokens rest : List Lexeme} → HasAll (a.Behind ∷ parts) (block ∷ tokens) rest → ⊥
behind_no_block h = first_stuck a.Proof refl (first_becomes a.Behind block (a.Proof ∷ []) refl h)

step_below : {x : Method} {tokens mid behind rest : List Lexeme} → SpellsMethod tokens x mid → Has a.Behind mid behind → Has a.Items behind rest → Has a.Below tokens rest
step_below {mid = mid} (p.by_word e) h i = method_below e (or_parts a.BelowMethod a.Behind (λ x. refl) (λ us q k. behind_no_block k) mid (and_all {part = a.Behind} h (one_had {part = a.Items} i)))
step_below p.by_goal h i = by_token refl (and_all {part = a.Behind} h (one_had {part = a.Items} i))

below_of_proof : {q : WrittenProof} {tokens mid rest : List Lexeme} → SpellsProof tokens q mid → Has a.Items mid rest → Has a.Below tokens rest
below_of_proof {mid = mid} p.solved i = by_token refl (one_had {part = a.BelowSolved} (or_parts a.BelowSolved a.Items (λ x. refl) (λ us q k. first_stuck a.Items refl k) mid (one_had {part = a.Items} i)))
below_of_proof (p.by_method {tokens = ts} m) i = by_token refl (one_had {part = a.BelowBy} (or_parts a.BelowBy a.Method (λ x. refl) (λ us q k. first_stuck a.Method refl k) ts (and_all {part = a.Method} (has_method m) (one_had {part = a.Items} i))))
below_of_proof (p.method_proof {mid = mid} m h) i = step_below m (behind_of_proof mid (has_proof h)) i
below_of_proof (p.method_cases m c) i = step_below m (behind_of_cases c) i

-- ---- items

item_had : {w : List ℕ} {k : Keyword} {tokens rest : List Lexeme} → IsName w → keyword_of w ≡ k → Has (a.Item k) tokens rest → Has a.Items (word w ∷ tokens) rest
item_had {w} {tokens = tokens} {rest = rest} n e h = by_token (rw n refl) (one_had {part = a.Item (keyword_of w)} (subst (λ (k : Keyword). Has (a.Item k) tokens rest) (sym e) h))

restriction_body_had : {f : Formula} (tokens : List Lexeme) {mid rest : List Lexeme} → SpellsQuoted tokens f mid → Has a.Items mid rest → Has (a.Body Restriction) (sign s.Quote ∷ tokens) rest
restriction_body_had tokens q i = by_parts refl (and_all {part = a.Exactly s.Quote} (by_token refl all_had) (and_all {part = a.Quoted} (quoted_had tokens q) (one_had {part = a.Items} i)))

declaration_had : {x : Item} {tokens mid rest : List Lexeme} → SpellsDeclaration tokens x mid → Has a.Items mid rest → Has a.Items tokens rest
declaration_had (g.builtins {tokens = ts} h) i = item_had builtins_named builtins_keyword (by_token refl (one_had {part = a.Listing Builtins} (listing_had Builtins ts (builtins_left h i))))
declaration_had (g.functions {tokens = ts} h) i = item_had functions_named functions_keyword (by_token refl (one_had {part = a.Listing Functions} (listing_had Functions ts (functions_left h i))))
declaration_had (g.equations {tokens = ts} h) i = item_had equations_named equations_keyword (by_token refl (one_had {part = a.Listing Equations} (listing_had Equations ts (equations_left h i))))
declaration_had (g.heuristic {tokens = ts} h) i = item_had heuristic_named heuristic_keyword (by_token refl (one_had {part = a.Listing Heuristic} (listing_had Heuristic ts (words_left h i))))
declaration_had (g.text_block n) i = item_had n refl (by_token refl (one_had {part = a.Items} i))
declaration_had (g.a_rule (g.rule {body = body} (g.rule_head m n t) l u v w)) i =
    let parts = and_all {part = a.Let} (let_had l (facts_no_let u)) (and_all {part = a.FactList} (has_fact_list u) (and_all {part = a.Arrow} (has_arrow v) (and_all {part = a.FactList} (has_fact_list w) (one_had {part = a.Items} i)))) in
    item_had rule_named rule_keyword (modulo_had m n (rule_headed_had t (become_all (a.Body Rule) (λ x. refl) body parts)))
declaration_had (g.a_restriction (g.restriction {k = k} {tokens = ts} e n q)) i =
    item_had (restriction_named k e) (restriction_keyword k e) (by_token (rw n refl) (one_had {part = a.Headed Restriction} (by_token refl (one_had {part = a.Body Restriction} (restriction_body_had ts q i)))))

below_had : {q : Option WrittenProof} {tokens mid rest : List Lexeme} → SpellsProofPart tokens q mid → Has a.Items mid rest → Has a.Below tokens rest
below_had {mid = mid} g.no_proof i = below_of_items mid i
below_had (g.a_proof h) i = below_of_proof h i

items_had : {tokens end rest : List Lexeme} {items : List Item} → SpellsItems tokens items end → end ≡ word (codes "end") ∷ rest → Has a.Items tokens rest
items_had {rest = rest} g.no_item e = subst (λ (ts : List Lexeme). Has a.Items ts rest) (sym e) (by_token (rw end_reserved refl) all_had)
items_had (g.declaration_first d l) e = declaration_had d (items_had l e)
items_had (g.lemma_first (g.lemma {mid = mid} {body = body} n t k f) q l) e =
    let parts = and_all {part = a.Kind} (has_kind k) (and_all {part = a.Quoted} (quoted_had body f) (one_had {part = a.Below} (below_had q (items_had l e)))) in
    item_had lemma_named lemma_keyword (by_token (rw n refl) (one_had {part = a.Headed Lemma} (lemma_headed_had t (become_all (a.Body Lemma) (λ x. refl) mid parts))))

pub has_theory : {tokens : List Lexeme} {t : WrittenText} → SpellsTheory tokens t → Has a.Theory tokens []
has_theory (g.theory n h) = by_token refl (and_all {part = a.Name} (has_name n) (and_all {part = a.Begin} (by_token refl all_had) (one_had {part = a.Items} (items_had h refl))))
