-- Lemmas from their parts, with their proofs, restrictions, and each part that may be missing.
use Rattle.std.proofs.Common.{◌≡◌, ℕ, List, [], ◌∷◌, Option, Some, None, codes, refl, sym, ap, subst, ◌∙◌}
use Rattle.sp_spec_text.specs.Signs as s
use Rattle.sp_spec_text.specs.Token.{Lexeme, word, sign, Token}
use Rattle.sp_spec_text.specs.Lex.{lexemes}
use Rattle.sp_spec.specs.Formula.{Formula}
use Rattle.sp_spec.specs.Theory.{TraceKind, all_traces, exists_trace, Restriction, Lemma}
use Rattle.sp_spec_text.specs.Lists.{IsNotFirst, NoReading}
use Rattle.sp_read_parts.proofs.One.{One}
use Rattle.sp_read_parts.proofs.Sequence.{Then, no_first, no_second, Becomes, no_whole}
use Rattle.sp_read_formula.proofs.Plain.{quoted_one}
use Rattle.sp_spec_text.specs.Written.{WrittenProof, Attribute, lemma_item}
use Rattle.sp_spec_text.specs.Spans.{Span}
use Rattle.sp_spec_text.specs.Proofs.{SpellsProof}
use Rattle.sp_spec_text.specs.Theories as g
use Rattle.sp_spec_text.specs.Theories.{SpellsQuoted, SpellsKind, SpellsLemma, SpellsRestriction}
use Rattle.sp_read_lemmas.specs.Lemmas.{Dashed, NotDashed, IsKind, IsClaim, claim, IsLemmaHead, lemma_head, IsRestrictionHead, restriction_head, IsLemma}
use Rattle.sp_read_listings.specs.Listings.{IsBlock}
use Rattle.sp_read_lemmas.specs.Items.{no_start, by_block, ReadsProofPart, ReadsItem, a_lemma}
use Rattle.sp_spec_text.specs.Spans.{IsBehind}
use Rattle.sp_read_lemmas.proofs.One.{kinds}
use Rattle.sp_read_rules.proofs.RuleHeads.{then_one}
use Rattle.sp_read_lemmas.proofs.LemmaHeads.{attributes_spelled, attributes_taken, lemma_heads', restriction_heads'}
use Rattle.sp_read_listings.proofs.Listed.{tail_of}

-- ---- two words and a dash

pub dashed_at : {a b : List ℕ} {tokens dash next quote rest : List Lexeme} → tokens ≡ word a ∷ dash → dash ≡ sign s.Dash ∷ next → next ≡ word b ∷ quote → quote ≡ sign s.Quote ∷ rest → Dashed a b tokens rest
dashed_at e f h k = rw (e, f, h, k) refl

pub not_dashed_word : {a b : List ℕ} {tokens : List Lexeme} → IsNotFirst (word a) tokens → NotDashed a b tokens
not_dashed_word {b = b} d = record { none = λ r h. d (sign s.Dash ∷ word b ∷ sign s.Quote ∷ r) h }

pub not_dashed_dash : {a b : List ℕ} {tokens dash : List Lexeme} → tokens ≡ word a ∷ dash → IsNotFirst (sign s.Dash) dash → NotDashed a b tokens
not_dashed_dash {b = b} e d = record { none = λ r h. d (word b ∷ sign s.Quote ∷ r) (tail_of (sym e ∙ h)) }

pub not_dashed_next : {a b : List ℕ} {tokens dash next : List Lexeme} → tokens ≡ word a ∷ dash → dash ≡ sign s.Dash ∷ next → IsNotFirst (word b) next → NotDashed a b tokens
not_dashed_next e f d = record { none = λ r h. d (sign s.Quote ∷ r) (tail_of (sym f ∙ tail_of (sym e ∙ h))) }

pub not_dashed_quote : {a b : List ℕ} {tokens dash next quote : List Lexeme} → tokens ≡ word a ∷ dash → dash ≡ sign s.Dash ∷ next → next ≡ word b ∷ quote → IsNotFirst (sign s.Quote) quote → NotDashed a b tokens
not_dashed_quote e f k d = record { none = λ r h. d r (tail_of (sym k ∙ tail_of (sym f ∙ tail_of (sym e ∙ h)))) }

pub ruleset dashes = (dashed_at, not_dashed_word, not_dashed_dash, not_dashed_next, not_dashed_quote)

-- ---- the kind

pub no_kind_at : {tokens rest : List Lexeme} → tokens ≡ sign s.Quote ∷ rest → IsKind tokens all_traces rest
no_kind_at e = rw e g.no_kind

pub all_kind_at : {tokens rest : List Lexeme} → Dashed (codes "all") (codes "traces") tokens rest → IsKind tokens all_traces rest
all_kind_at e = rw e g.all_kind

pub exists_kind_at : {tokens rest : List Lexeme} → Dashed (codes "exists") (codes "trace") tokens rest → IsKind tokens exists_trace rest
exists_kind_at e = rw e g.exists_kind

pub kind_missing : {tokens : List Lexeme} → IsNotFirst (sign s.Quote) tokens → NotDashed (codes "all") (codes "traces") tokens → NotDashed (codes "exists") (codes "trace") tokens → NoReading IsKind tokens
kind_missing a b c = record { none = λ k r h. at h refl a b c }
  where
    at : {tokens xs r : List Lexeme} {k : TraceKind} → SpellsKind tokens k xs → xs ≡ sign s.Quote ∷ r → IsNotFirst (sign s.Quote) tokens → NotDashed (codes "all") (codes "traces") tokens → NotDashed (codes "exists") (codes "trace") tokens → ⊥
    at {r = r} g.no_kind e a b c = a r e
    at {r = r} g.all_kind e a b c = b.none r (rw e refl)
    at {r = r} g.exists_kind e a b c = c.none r (rw e refl)

pub ruleset kinds_of_lemmas = (no_kind_at, all_kind_at, exists_kind_at, kind_missing)

-- ---- formulas in double quotes

pub quotes : One SpellsQuoted
quotes = record { one = λ {tokens} h k. quoted_one tokens h k }

pub claim_no_kind : {tokens : List Lexeme} → NoReading IsKind tokens → NoReading IsClaim tokens
claim_no_kind n = record { none = λ x r h. at h n }
  where
    at : {ts r : List Lexeme} {x : TraceKind × Formula} → IsClaim ts x r → NoReading IsKind ts → ⊥
    at (claim {kind = k} {body = b} h i) n = n.none k b h

pub claim_no_formula : {k : TraceKind} {tokens body : List Lexeme} → IsKind tokens k body → NoReading SpellsQuoted body → NoReading IsClaim tokens
claim_no_formula h n = record { none = λ x r i. at i h n }
  where
    at : {ts body r : List Lexeme} {k : TraceKind} {x : TraceKind × Formula} → IsClaim ts x r → IsKind ts k body → NoReading SpellsQuoted body → ⊥
    at (claim {f = f} {rest = r} i j) h n = n.none f r (subst (λ (us : List Lexeme). SpellsQuoted us f r) (kinds.one i h).1 j)

pub ruleset claims = (claim, claim_no_kind, claim_no_formula)

claim_one : {tokens r q : List Lexeme} {x y : TraceKind × Formula} → IsClaim tokens x r → IsClaim tokens y q → (x ≡ y) × (r ≡ q)
claim_one (claim {body = body} h i) (claim {f = f} {rest = q} j k) =
    let a = kinds.one h j in
    let b = quoted_one body i (subst (λ (us : List Lexeme). SpellsQuoted us f q) (sym a.1) k) in
    (rw (a.0, b.0) refl, b.1)

claims' : One IsClaim
claims' = record { one = claim_one }

-- ---- the lemma

pub lemma_at : {w : List ℕ} {each : List Attribute} {k : TraceKind} {f : Formula} {tokens mid rest : List Lexeme} → IsLemmaHead tokens (w, each) mid → IsClaim mid (k, f) rest
    → IsLemma tokens (record { name = w; kind = k; formula = f }, each) rest
lemma_at (lemma_head h a) (claim i j) = g.lemma h (attributes_spelled a) i j

abbrev LemmaParts : List Lexeme → (List ℕ × List Attribute) × (TraceKind × Formula) → List Lexeme → Type 0
LemmaParts = Then IsLemmaHead IsClaim

lemma_split : {tokens rest : List Lexeme} {l : Lemma} {each : List Attribute} → SpellsLemma tokens l each rest → LemmaParts tokens ((l.name, each), (l.kind, l.formula)) rest
lemma_split (g.lemma {mid = m} h a i j) = record { mid = m; first = lemma_head h (attributes_taken a refl); second = claim i j }

lemma_parts : Becomes IsLemma LemmaParts
lemma_parts = record { part = λ ts x r h. ((x.0.name, x.1), (x.0.kind, x.0.formula)); reads = λ ts x r h. lemma_split h }

pub lemma_no_head : {tokens : List Lexeme} → NoReading IsLemmaHead tokens → NoReading IsLemma tokens
lemma_no_head n = no_whole lemma_parts (no_first n)

pub lemma_no_claim : {x : List ℕ × List Attribute} {tokens mid : List Lexeme} → IsLemmaHead tokens x mid → NoReading IsClaim mid → NoReading IsLemma tokens
lemma_no_claim h n = no_whole lemma_parts (no_second lemma_heads' h n)

pub ruleset whole_lemmas = (lemma_at, lemma_no_head, lemma_no_claim)

abbrev lemma_with : (List ℕ × List Attribute) × (TraceKind × Formula) → Lemma × List Attribute
lemma_with p = (record { name = p.0.0; kind = p.1.0; formula = p.1.1 }, p.0.1)

pub lemma_one : {tokens r q : List Lexeme} {l m : Lemma} {xs ys : List Attribute} → SpellsLemma tokens l xs r → SpellsLemma tokens m ys q → (◌≡◌ {A = Lemma × List Attribute} (l, xs) (m, ys)) × (r ≡ q)
lemma_one {l = l} {m} {xs} {ys} h k =
    let i = (then_one lemma_heads' claims').one (lemma_split h) (lemma_split k) in
    let e : ◌≡◌ {A = Lemma × List Attribute} (l, xs) (m, ys) = ap lemma_with i.0 in
    (e, i.1)

-- ---- the proof behind a lemma

pub no_proof_there : {behind : List Token} {span : Span} → NoReading SpellsProof (lexemes behind) → span.to ≡ span.from → ReadsProofPart behind None span behind
no_proof_there n e = record { spells = g.no_proof; greedy = no_start n; ends = (refl, e) }

pub block_there : {w : List ℕ} {rest : List Lexeme} {behind : List Token} {span : Span} → IsBlock (lexemes behind) w rest → span.to ≡ span.from → ReadsProofPart behind None span behind
block_there h e = record { spells = g.no_proof; greedy = by_block h; ends = (refl, e) }

pub proof_there : {behind rest : List Token} {p : WrittenProof} {span : Span} → NoReading IsBlock (lexemes behind) → SpellsProof (lexemes behind) p (lexemes rest) → IsBehind behind rest span.to → ReadsProofPart behind (Some p) span rest
proof_there n h b = record { spells = g.a_proof h; greedy = n; ends = b }

pub ruleset proof_parts = (no_proof_there, block_there, proof_there)

pub proved_lemma : {l : Lemma} {each : List Attribute} {p : Option WrittenProof} {place : ℕ} {span : Span} {tokens behind rest : List Token} → IsLemma (lexemes tokens) (l, each) (lexemes behind) → IsBehind tokens behind place → ReadsProofPart behind p span rest
    → span.from ≡ place → ReadsItem tokens (lemma_item l each p) (span ∷ []) rest
proved_lemma {tokens = ts} {behind = us} h b r e = a_lemma h (subst (λ (q : ℕ). IsBehind ts us q) (sym e) b) r

pub ruleset proved_lemmas = (proved_lemma)

-- ---- restrictions

pub restriction_at : {w : List ℕ} {f : Formula} {tokens body rest : List Lexeme} → IsRestrictionHead tokens w body → SpellsQuoted body f rest → SpellsRestriction tokens (record { name = w; formula = f }) rest
restriction_at (restriction_head i h) k = g.restriction i h k

abbrev RestrictionParts : List Lexeme → List ℕ × Formula → List Lexeme → Type 0
RestrictionParts = Then IsRestrictionHead SpellsQuoted

restriction_split : {tokens rest : List Lexeme} {x : Restriction} → SpellsRestriction tokens x rest → RestrictionParts tokens (x.name, x.formula) rest
restriction_split (g.restriction {tokens = ts} i h k) = record { mid = ts; first = restriction_head i h; second = k }

restriction_parts : Becomes SpellsRestriction RestrictionParts
restriction_parts = record { part = λ ts x r h. (x.name, x.formula); reads = λ ts x r h. restriction_split h }

pub restriction_no_head : {tokens : List Lexeme} → NoReading IsRestrictionHead tokens → NoReading SpellsRestriction tokens
restriction_no_head n = no_whole restriction_parts (no_first n)

pub restriction_no_formula : {w : List ℕ} {tokens body : List Lexeme} → IsRestrictionHead tokens w body → NoReading SpellsQuoted body → NoReading SpellsRestriction tokens
restriction_no_formula h n = no_whole restriction_parts (no_second restriction_heads' h n)

pub ruleset whole_restrictions = (restriction_at, restriction_no_head, restriction_no_formula)

abbrev restriction_with : List ℕ × Formula → Restriction
restriction_with p = record { name = p.0; formula = p.1 }

restriction_one : {tokens r q : List Lexeme} {x y : Restriction} → SpellsRestriction tokens x r → SpellsRestriction tokens y q → (x ≡ y) × (r ≡ q)
restriction_one {x = x} {y} h k =
    let i = (then_one restriction_heads' quotes).one (restriction_split h) (restriction_split k) in
    let e : x ≡ y = ap restriction_with i.0 in
    (e, i.1)

pub restrictions' : One SpellsRestriction
restrictions' = record { one = restriction_one }
