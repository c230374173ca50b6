-- The grammar of proofs, line by line: which tokens spell which proof. `SpellsX tokens x rest` says that the tokens begin with a spelling
-- of x, and that the rest follows. Proofs nest without a limit. Source: Tamarin manual, "Proofs".
use Rattle.std.specs.Prelude.{◌≡◌, ℕ, Bool, true, ◌||◌, List, [], ◌∷◌, codes}
use Rattle.std.specs.Str.{bytes_eq}
use Rattle.sp_spec_text.specs.Token.{Lexeme, word, solve}
use Rattle.sp_spec_text.specs.Names.{IsName}
use Rattle.sp_spec_text.specs.Written.{Method, said, goal, WrittenProof, step, WrittenCases, no_case, then_case}

-- the words that are methods
unfoldable pub is_method : List ℕ → Bool
is_method w = bytes_eq w (codes "simplify") || bytes_eq w (codes "induction") || bytes_eq w (codes "contradiction") || bytes_eq w (codes "sorry")

-- method: `simplify` `induction` `contradiction` `sorry` ; `solve(` text `)`
pub data SpellsMethod : List Lexeme → Method → List Lexeme → Type 0 where
  by_word : {w : List ℕ} {rest : List Lexeme} → is_method w ≡ true → SpellsMethod (word w ∷ rest) (said w) rest
  by_goal : {text : List ℕ} {rest : List Lexeme} → SpellsMethod (solve text ∷ rest) (goal text) rest

mutual
  -- proof: `SOLVED` ; `by` method ; method proof ; method cases. A proof behind its method is that of an only case without a name.
  pub data SpellsProof : List Lexeme → WrittenProof → List Lexeme → Type 0 where
    solved : {rest : List Lexeme} → SpellsProof (word (codes "SOLVED") ∷ rest) (step (said (codes "SOLVED")) no_case) rest
    by_method : {x : Method} {tokens rest : List Lexeme} → SpellsMethod tokens x rest → SpellsProof (word (codes "by") ∷ tokens) (step x no_case) rest
    method_proof : {x : Method} {p : WrittenProof} {tokens mid rest : List Lexeme} → SpellsMethod tokens x mid → SpellsProof mid p rest → SpellsProof tokens (step x (then_case [] p no_case)) rest
    method_cases : {x : Method} {cs : WrittenCases} {tokens mid rest : List Lexeme} → SpellsMethod tokens x mid → SpellsCases mid cs rest → SpellsProof tokens (step x cs) rest

  -- cases: `case` name proof (`next` `case` name proof)* `qed`
  pub data SpellsCases : List Lexeme → WrittenCases → List Lexeme → Type 0 where
    case : {w : List ℕ} {p : WrittenProof} {cs : WrittenCases} {tokens mid rest : List Lexeme} → IsName w → SpellsProof tokens p mid → SpellsMore mid cs rest
        → SpellsCases (word (codes "case") ∷ word w ∷ tokens) (then_case w p cs) rest

  -- what stands behind a case: (`next` `case` name proof)* `qed`
  pub data SpellsMore : List Lexeme → WrittenCases → List Lexeme → Type 0 where
    qed : {rest : List Lexeme} → SpellsMore (word (codes "qed") ∷ rest) no_case rest
    next : {cs : WrittenCases} {tokens rest : List Lexeme} → SpellsCases tokens cs rest → SpellsMore (word (codes "next") ∷ tokens) cs rest
