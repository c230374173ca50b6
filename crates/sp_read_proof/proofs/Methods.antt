-- What a line begins with says which way it is read; each way to get stuck leaves no reading.
use Rattle.std.proofs.Common.{◌≡◌, ℕ, true, false, true≢false, List, [], ◌∷◌, codes, refl, sym, ap, subst, ◌∙◌}
use Rattle.sp_spec_text.specs.Signs.{Sign, Wide}
use Rattle.sp_spec_text.specs.Token.{Lexeme, word, constant, sign, solve, wide, block}
use Rattle.sp_spec_text.specs.Lists.{IsNotFirst, NoReading}
use Rattle.sp_read_parts.specs.Parts.{IsNameFirst}
use Rattle.sp_spec_text.specs.Written.{Method, said, goal}
use Rattle.sp_spec_text.specs.Proofs.{is_method, SpellsMethod, by_word, by_goal}
use Rattle.sp_spec_text.proofs.Methods.{solved_none, by_none, case_none}
use Rattle.sp_read_proof.specs.Lines.{Line, leaf, cases, IsLine, solved_line, by_line, move_line, case_line, Behind, ended, another, IsBehind, qed_line, next_line}

-- ---- methods

pub word_at : {w : List ℕ} {tokens rest : List Lexeme} → tokens ≡ word w ∷ rest → is_method w ≡ true → SpellsMethod tokens (said w) rest
word_at e h = rw e (by_word h)

pub goal_at : {text : List ℕ} {tokens rest : List Lexeme} → tokens ≡ solve text ∷ rest → SpellsMethod tokens (goal text) rest
goal_at e = rw e by_goal

-- what a method that begins with a word says
pub method_word : {w : List ℕ} {x : Method} {tokens mid rest : List Lexeme} → SpellsMethod tokens x rest → tokens ≡ word w ∷ mid → (is_method w ≡ true) × (said w ≡ x) × (rest ≡ mid)
method_word {w} (by_word {w = u} h) e = let f : w ≡ u = cc in (ap is_method f ∙ h, ap said f, cc)
method_word by_goal e = absurd (let none : ⊥ = cc in none)

pub method_unknown : {w : List ℕ} {tokens rest : List Lexeme} → tokens ≡ word w ∷ rest → is_method w ≡ false → NoReading SpellsMethod tokens
method_unknown e n = record { none = λ x r h. true≢false (sym (method_word h e).0 ∙ n) }

pub method_nil : {tokens : List Lexeme} → tokens ≡ [] → NoReading SpellsMethod tokens
method_nil e = record { none = λ x r h. at h e }
  where
    at : {tokens r : List Lexeme} {x : Method} → SpellsMethod tokens x r → tokens ≡ [] → ⊥
    at (by_word h) e = cc
    at by_goal e = cc

pub method_constant : {c : List ℕ} {tokens rest : List Lexeme} → tokens ≡ constant c ∷ rest → NoReading SpellsMethod tokens
method_constant e = record { none = λ x r h. at h e }
  where
    at : {c : List ℕ} {tokens rest r : List Lexeme} {x : Method} → SpellsMethod tokens x r → tokens ≡ constant c ∷ rest → ⊥
    at (by_word h) e = cc
    at by_goal e = cc

pub method_sign : {s : Sign} {tokens rest : List Lexeme} → tokens ≡ sign s ∷ rest → NoReading SpellsMethod tokens
method_sign e = record { none = λ x r h. at h e }
  where
    at : {s : Sign} {tokens rest r : List Lexeme} {x : Method} → SpellsMethod tokens x r → tokens ≡ sign s ∷ rest → ⊥
    at (by_word h) e = cc
    at by_goal e = cc

pub method_wide : {x : Wide} {tokens rest : List Lexeme} → tokens ≡ wide x ∷ rest → NoReading SpellsMethod tokens
method_wide e = record { none = λ x r h. at h e }
  where
    at : {y : Wide} {tokens rest r : List Lexeme} {x : Method} → SpellsMethod tokens x r → tokens ≡ wide y ∷ rest → ⊥
    at (by_word h) e = cc
    at by_goal e = cc

pub method_block : {x : Method} {tokens rest r : List Lexeme} → SpellsMethod tokens x r → tokens ≡ block ∷ rest → ⊥
method_block (by_word h) e = cc
method_block by_goal e = cc

pub method_no_block : {tokens rest : List Lexeme} → tokens ≡ block ∷ rest → NoReading SpellsMethod tokens
method_no_block e = record { none = λ x r h. method_block h e }

pub ruleset methods = (word_at, goal_at, method_unknown, method_nil, method_constant, method_sign, method_wide, method_no_block)

pub method_one : {x y : Method} {tokens r q : List Lexeme} → SpellsMethod tokens x r → SpellsMethod tokens y q → (x ≡ y) × (r ≡ q)
method_one (by_word h) k = let m = method_word k refl in (m.1, sym m.2)
method_one (by_goal {text = t} {rest = r}) k = goal_is k refl
  where
    goal_is : {t : List ℕ} {y : Method} {tokens r q : List Lexeme} → SpellsMethod tokens y q → tokens ≡ solve t ∷ r → (goal t ≡ y) × (r ≡ q)
    goal_is (by_word h) e = absurd (let none : ⊥ = cc in none)
    goal_is {t} (by_goal {text = u}) e = let f : t ≡ u = cc in (ap goal f, cc)

-- words with which other parts of proofs begin are no methods
pub no_word : {w : List ℕ} {x : Method} {tokens mid rest : List Lexeme} → is_method w ≡ false → SpellsMethod tokens x rest → tokens ≡ word w ∷ mid → ⊥
no_word n h e = true≢false (sym (method_word h e).0 ∙ n)

pub method_not_solved : {x : Method} {tokens mid rest : List Lexeme} → SpellsMethod tokens x rest → tokens ≡ word (codes "SOLVED") ∷ mid → ⊥
method_not_solved h e = no_word solved_none h e

pub method_not_by : {x : Method} {tokens mid rest : List Lexeme} → SpellsMethod tokens x rest → tokens ≡ word (codes "by") ∷ mid → ⊥
method_not_by h e = no_word by_none h e

pub method_not_case : {x : Method} {tokens mid rest : List Lexeme} → SpellsMethod tokens x rest → tokens ≡ word (codes "case") ∷ mid → ⊥
method_not_case h e = no_word case_none h e

-- ---- lines

pub solved_at : {tokens rest : List Lexeme} → tokens ≡ word (codes "SOLVED") ∷ rest → IsLine tokens (leaf (said (codes "SOLVED"))) rest
solved_at e = rw e solved_line

pub by_at : {x : Method} {tokens mid rest : List Lexeme} → tokens ≡ word (codes "by") ∷ mid → SpellsMethod mid x rest → IsLine tokens (leaf x) rest
by_at e h = rw e (by_line h)

pub case_at : {x : Method} {w : List ℕ} {tokens mid inside rest : List Lexeme} → SpellsMethod tokens x mid → mid ≡ word (codes "case") ∷ inside → IsNameFirst inside w rest → IsLine tokens (cases x w) rest
case_at h e k = case_line (rw e at h) k

pub by_stuck : {tokens mid : List Lexeme} → tokens ≡ word (codes "by") ∷ mid → NoReading SpellsMethod mid → NoReading IsLine tokens
by_stuck {tokens} {mid} e n = record { none = λ l r h. at h e }
  where
    at : {ts r : List Lexeme} {l : Line} → IsLine ts l r → ts ≡ word (codes "by") ∷ mid → ⊥
    at solved_line e = cc
    at (by_line {x = x} {tokens = us} {rest = r} h) e = let f : us ≡ mid = cc in n.none x r (subst (λ (ts : List Lexeme). SpellsMethod ts x r) f h)
    at (move_line h d) e = method_not_by h e
    at (case_line h k) e = method_not_by h e

pub no_line : {tokens : List Lexeme} → IsNotFirst (word (codes "SOLVED")) tokens → IsNotFirst (word (codes "by")) tokens → NoReading SpellsMethod tokens → NoReading IsLine tokens
no_line {tokens} s b n = record { none = λ l r h. at h s b n }
  where
    at : {ts r : List Lexeme} {l : Line} → IsLine ts l r → IsNotFirst (word (codes "SOLVED")) ts → IsNotFirst (word (codes "by")) ts → NoReading SpellsMethod ts → ⊥
    at (solved_line {rest = r}) s b n = s r refl
    at (by_line {tokens = ts} h) s b n = b ts refl
    at (move_line {x = x} {rest = r} h d) s b n = n.none x r h
    at (case_line {x = x} {mid = m} h k) s b n = n.none x (word (codes "case") ∷ m) h

pub case_stuck : {x : Method} {tokens mid inside : List Lexeme} → SpellsMethod tokens x mid → mid ≡ word (codes "case") ∷ inside → NoReading IsNameFirst inside → NoReading IsLine tokens
case_stuck {x} {inside = inside} h e n = record { none = λ l r k. at k h e }
  where
    at : {ts mid r : List Lexeme} {l : Line} → IsLine ts l r → SpellsMethod ts x mid → mid ≡ word (codes "case") ∷ inside → ⊥
    at solved_line h e = method_not_solved h refl
    at (by_line k) h e = method_not_by h refl
    at (move_line k d) h e = d inside ((method_one k h).1 ∙ e)
    at (case_line {w = w} {mid = m} {rest = r} k i) h e = let f : m ≡ inside = (let o = (method_one k h).1 in cc) in n.none w r (subst (λ (ts : List Lexeme). IsNameFirst ts w r) f i)

pub ruleset whole_lines = (solved_at, by_at, move_line, case_at, by_stuck, no_line, case_stuck)

-- ---- behind cases

pub qed_at : {tokens rest : List Lexeme} → tokens ≡ word (codes "qed") ∷ rest → IsBehind tokens ended rest
qed_at e = rw e qed_line

pub next_at : {w : List ℕ} {tokens mid inside rest : List Lexeme} → tokens ≡ word (codes "next") ∷ mid → mid ≡ word (codes "case") ∷ inside → IsNameFirst inside w rest → IsBehind tokens (another w) rest
next_at e f h = rw (e, f) (next_line h)

pub no_end : {tokens : List Lexeme} → IsNotFirst (word (codes "qed")) tokens → IsNotFirst (word (codes "next")) tokens → NoReading IsBehind tokens
no_end q n = record { none = λ b r h. at h q n }
  where
    at : {ts r : List Lexeme} {b : Behind} → IsBehind ts b r → IsNotFirst (word (codes "qed")) ts → IsNotFirst (word (codes "next")) ts → ⊥
    at (qed_line {rest = r}) q n = q r refl
    at (next_line {tokens = ts} h) q n = n (word (codes "case") ∷ ts) refl

pub next_no_case : {tokens mid : List Lexeme} → tokens ≡ word (codes "next") ∷ mid → IsNotFirst (word (codes "case")) mid → NoReading IsBehind tokens
next_no_case {tokens} {mid} e n = record { none = λ b r h. at h e }
  where
    at : {ts r : List Lexeme} {b : Behind} → IsBehind ts b r → ts ≡ word (codes "next") ∷ mid → ⊥
    at qed_line e = cc
    at (next_line {tokens = ts} h) e = n ts cc

pub next_no_name : {tokens mid inside : List Lexeme} → tokens ≡ word (codes "next") ∷ mid → mid ≡ word (codes "case") ∷ inside → NoReading IsNameFirst inside → NoReading IsBehind tokens
next_no_name {tokens} {mid} {inside} e f n = record { none = λ b r h. at h e f }
  where
    at : {ts r : List Lexeme} {b : Behind} → IsBehind ts b r → ts ≡ word (codes "next") ∷ mid → mid ≡ word (codes "case") ∷ inside → ⊥
    at qed_line e f = cc
    at (next_line {w = w} {tokens = ts} {rest = r} h) e f = let g : ts ≡ inside = cc in n.none w r (subst (λ (us : List Lexeme). IsNameFirst us w r) g h)

pub ruleset case_ends = (qed_at, next_at, no_end, next_no_case, next_no_name)
