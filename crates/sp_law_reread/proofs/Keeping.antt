-- The tokens of a proof spell it whatever follows.
use Rattle.std.proofs.Common.{◌≡◌, List, [], ◌∷◌, ◌++◌, Option, Some, None, codes, sym, ap, subst, ◌∙◌, append_assoc}
use Rattle.std.proofs.lemmas.List.{append_cancel_right, map-append}
use Rattle.sp_spec_text.specs.Token.{Lexeme, word, solve, Token}
use Rattle.sp_spec_text.specs.Lex.{lexemes}
use Rattle.sp_spec_text.specs.Written.{Method, WrittenProof, WrittenCases}
use Rattle.sp_spec_text.specs.Proofs as g
use Rattle.sp_spec_text.specs.Proofs.{SpellsMethod, SpellsProof, SpellsCases, SpellsMore}
use Rattle.sp_spec_text.specs.Theories.{SpellsProofPart, no_proof, a_proof}
use Rattle.sp_spec_text.specs.Spans.{Span, EndsAt}
use Rattle.sp_law_reread.proofs.Moving.{swapped_here, swapped_behind, swapped_in, front_of, Moved}

-- what R reads of these tokens it reads of them whatever follows
pub read_before : {A : Type 0} {R : List Lexeme → A → List Lexeme → Type 0} {x : A} (tokens mid : List Token) → ((ys : List Lexeme) → Moved R (lexemes tokens) x (lexemes mid) ys) → (first : List Token) → tokens ≡ first ++ mid
    → (ys : List Lexeme) → R (lexemes first ++ ys) x ys
read_before {R = R} {x = x} tokens mid move first e ys =
    let m = move ys in
    let f = front_of m.swapped in
    let same : f.front ≡ lexemes first = append_cancel_right f.front (lexemes first) (lexemes mid) (sym f.are ∙ ap lexemes e ∙ map-append (λ (t : Token). t.lexeme) first mid) in
    subst (λ (xs : List Lexeme). R xs x ys) (f.others_are ∙ ap (λ (xs : List Lexeme). xs ++ ys) same) m.reads

move_method : {x : Method} {tokens rest : List Lexeme} → SpellsMethod tokens x rest → (other : List Lexeme) → Moved SpellsMethod tokens x rest other
move_method (g.by_word {w = w} e) other = record { others = word w ∷ other; swapped = swapped_behind (word w) swapped_here; reads = g.by_word e }
move_method (g.by_goal {text = text}) other = record { others = solve text ∷ other; swapped = swapped_behind (solve text) swapped_here; reads = g.by_goal }

mutual
  move_proof : {p : WrittenProof} {tokens rest : List Lexeme} → SpellsProof tokens p rest → (other : List Lexeme) → Moved SpellsProof tokens p rest other
  move_proof g.solved other = record { others = word (codes "SOLVED") ∷ other; swapped = swapped_behind (word (codes "SOLVED")) swapped_here; reads = g.solved }
  move_proof (g.by_method h) other =
      let m = move_method h other in
      record { others = word (codes "by") ∷ m.others; swapped = swapped_behind (word (codes "by")) m.swapped; reads = g.by_method m.reads }
  move_proof (g.method_proof h k) other =
      let n = move_proof k other in
      let m = move_method h n.others in
      record { others = m.others; swapped = swapped_in m.swapped n.swapped; reads = g.method_proof m.reads n.reads }
  move_proof (g.method_cases h k) other =
      let n = move_cases k other in
      let m = move_method h n.others in
      record { others = m.others; swapped = swapped_in m.swapped n.swapped; reads = g.method_cases m.reads n.reads }

  move_cases : {cs : WrittenCases} {tokens rest : List Lexeme} → SpellsCases tokens cs rest → (other : List Lexeme) → Moved SpellsCases tokens cs rest other
  move_cases (g.case {w = w} e h k) other =
      let n = move_more k other in
      let m = move_proof h n.others in
      record {
        others = word (codes "case") ∷ word w ∷ m.others;
        swapped = swapped_behind (word (codes "case")) (swapped_behind (word w) (swapped_in m.swapped n.swapped));
        reads = g.case e m.reads n.reads;
      }

  move_more : {cs : WrittenCases} {tokens rest : List Lexeme} → SpellsMore tokens cs rest → (other : List Lexeme) → Moved SpellsMore tokens cs rest other
  move_more g.qed other = record { others = word (codes "qed") ∷ other; swapped = swapped_behind (word (codes "qed")) swapped_here; reads = g.qed }
  move_more (g.next h) other =
      let m = move_cases h other in
      record { others = word (codes "next") ∷ m.others; swapped = swapped_behind (word (codes "next")) m.swapped; reads = g.next m.reads }

-- the tokens of a proof, up to those behind it
pub record ProofBefore (behind others : List Token) (p : Option WrittenProof) : Type 0 where
  pub first : List Token
  pub are : behind ≡ first ++ others
  pub spells : (ys : List Lexeme) → SpellsProofPart (lexemes first ++ ys) p ys

pub proof_before : {behind others : List Token} {p : Option WrittenProof} (span : Span) → SpellsProofPart (lexemes behind) p (lexemes others) → EndsAt behind others p span → ProofBefore behind others p
proof_before {p = None} span h e = record { first = []; are = sym e.0; spells = λ ys. no_proof }
proof_before {behind} {others} {p = Some p} span (a_proof h) e =
    let first = e.before ++ e.last ∷ [] in
    let are : behind ≡ first ++ others = e.are ∙ sym (append_assoc e.before (e.last ∷ []) others) in
    record { first = first; are = are; spells = λ ys. a_proof (read_before {R = SpellsProof} behind others (λ zs. move_proof h zs) first are ys) }
