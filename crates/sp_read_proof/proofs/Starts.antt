-- What a proof begins with.
use Rattle.std.proofs.Common.{◌≡◌, ℕ, Bool, true, false, true≢false, List, [], ◌∷◌, codes, refl, sym, ap, ◌∙◌}
use Rattle.std.specs.Prelude.{◌||◌}
use Rattle.std.specs.Str.{bytes_eq}
use Rattle.sp_spec_text.specs.Signs.{Sign}
use Rattle.sp_spec_text.specs.Token.{Lexeme, word, sign, block}
use Rattle.sp_spec_text.specs.Written.{Method, WrittenProof, WrittenCases}
use Rattle.sp_spec_text.specs.Proofs.{is_method, SpellsMethod, by_word, by_goal, SpellsProof, solved, by_method, method_proof, method_cases, SpellsCases, case}
use Rattle.sp_read_proof.proofs.Methods.{method_word, method_block}

-- the words with which proofs begin
abbrev pub begins_proof : List ℕ → Bool
begins_proof w = bytes_eq w (codes "SOLVED") || bytes_eq w (codes "by") || is_method w

or_last : (a b c : Bool) → c ≡ true → (a || b || c) ≡ true
or_last true b c h = refl
or_last false true c h = refl
or_last false false c h = h

begins_solved : begins_proof (codes "SOLVED") ≡ true
begins_solved = refl

begins_by : begins_proof (codes "by") ≡ true
begins_by = refl

begins_method : (w : List ℕ) → is_method w ≡ true → begins_proof w ≡ true
begins_method w h = or_last (bytes_eq w (codes "SOLVED")) (bytes_eq w (codes "by")) (is_method w) h

-- no proof begins with another word
pub proof_word : {w : List ℕ} {p : WrittenProof} {tokens mid rest : List Lexeme} → SpellsProof tokens p rest → tokens ≡ word w ∷ mid → begins_proof w ≡ true
proof_word {w} solved e = let f : w ≡ codes "SOLVED" = cc in ap begins_proof f ∙ begins_solved
proof_word {w} (by_method h) e = let f : w ≡ codes "by" = cc in ap begins_proof f ∙ begins_by
proof_word {w} (method_proof h k) e = begins_method w (method_word h e).0
proof_word {w} (method_cases h k) e = begins_method w (method_word h e).0

rule_begins_none : begins_proof (codes "rule") ≡ false
unfolding is_method
rule_begins_none = refl

lemma_begins_none : begins_proof (codes "lemma") ≡ false
unfolding is_method
lemma_begins_none = refl

end_begins_none : begins_proof (codes "end") ≡ false
unfolding is_method
end_begins_none = refl

-- nor with an item of a theory or with its end
pub proof_not_rule : {p : WrittenProof} {tokens mid rest : List Lexeme} → SpellsProof tokens p rest → tokens ≡ word (codes "rule") ∷ mid → ⊥
proof_not_rule h e = true≢false (sym (proof_word h e) ∙ rule_begins_none)

pub proof_not_lemma : {p : WrittenProof} {tokens mid rest : List Lexeme} → SpellsProof tokens p rest → tokens ≡ word (codes "lemma") ∷ mid → ⊥
proof_not_lemma h e = true≢false (sym (proof_word h e) ∙ lemma_begins_none)

pub proof_not_end : {p : WrittenProof} {tokens mid rest : List Lexeme} → SpellsProof tokens p rest → tokens ≡ word (codes "end") ∷ mid → ⊥
proof_not_end h e = true≢false (sym (proof_word h e) ∙ end_begins_none)

method_some : {x : Method} {tokens rest : List Lexeme} → SpellsMethod tokens x rest → tokens ≡ [] → ⊥
method_some (by_word h) e = cc
method_some by_goal e = cc

method_no_sign : {s : Sign} {x : Method} {tokens mid rest : List Lexeme} → SpellsMethod tokens x rest → tokens ≡ sign s ∷ mid → ⊥
method_no_sign (by_word h) e = cc
method_no_sign by_goal e = cc

-- something stands where a proof does
pub proof_not_nil : {p : WrittenProof} {tokens rest : List Lexeme} → SpellsProof tokens p rest → tokens ≡ [] → ⊥
proof_not_nil solved e = cc
proof_not_nil (by_method h) e = cc
proof_not_nil (method_proof h k) e = method_some h e
proof_not_nil (method_cases h k) e = method_some h e

-- no proof begins with a sign
pub proof_not_sign : {s : Sign} {p : WrittenProof} {tokens mid rest : List Lexeme} → SpellsProof tokens p rest → tokens ≡ sign s ∷ mid → ⊥
proof_not_sign solved e = cc
proof_not_sign (by_method h) e = cc
proof_not_sign (method_proof h k) e = method_no_sign h e
proof_not_sign (method_cases h k) e = method_no_sign h e

-- nor with a block of text
proof_not_block : {p : WrittenProof} {tokens mid rest : List Lexeme} → SpellsProof tokens p rest → tokens ≡ block ∷ mid → ⊥
proof_not_block solved e = cc
proof_not_block (by_method h) e = cc
proof_not_block (method_proof h k) e = method_block h e
proof_not_block (method_cases h k) e = method_block h e

cases_not_block : {cs : WrittenCases} {tokens mid rest : List Lexeme} → SpellsCases tokens cs rest → tokens ≡ block ∷ mid → ⊥
cases_not_block (case n h m) e = cc

-- where the first word of a proof has a block of text behind it, no word follows the proof
pub proof_no_block : {w v : List ℕ} {p : WrittenProof} {tokens mid rest after : List Lexeme} → SpellsProof tokens p rest → tokens ≡ word w ∷ block ∷ mid → rest ≡ word v ∷ after → ⊥
proof_no_block solved e f = cc
proof_no_block {mid = m} (by_method {tokens = ts} h) e f = let i : ts ≡ block ∷ m = cc in method_block h i
proof_no_block (method_proof h k) e f = proof_not_block k (method_word h e).2
proof_no_block (method_cases h k) e f = cases_not_block k (method_word h e).2
