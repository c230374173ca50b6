-- Proofs that are read in part, line by line.
use Rattle.std.proofs.Common.{◌≡◌, ℕ, List, [], ◌∷◌, codes, refl, sym, ap, subst, ◌∙◌}
use Rattle.sp_spec_text.specs.Token.{Lexeme, word}
use Rattle.sp_spec_text.specs.Lists.{IsNotFirst, NoReading}
use Rattle.sp_read_parts.specs.Parts.{IsNameFirst, name}
use Rattle.sp_spec_text.specs.Written.{Method, said, WrittenProof, step, WrittenCases, no_case, then_case}
use Rattle.sp_spec_text.specs.Proofs.{SpellsMethod, SpellsProof, solved, by_method, method_proof, method_cases, SpellsCases, case, SpellsMore}
use Rattle.sp_read_proof.specs.Lines.{Line, leaf, alone, cases, IsLine, solved_line, by_line, move_line, case_line}
use Rattle.sp_read_proof.proofs.Methods.{method_one, method_not_solved, method_not_by, method_not_case}

-- ---- what stands behind a line

-- what proofs with this line first are
abbrev pub Follows : Line → List Lexeme → WrittenProof → List Lexeme → Type 0
Follows (leaf x) mid k rest = (k ≡ step x no_case) × (rest ≡ mid)
Follows (alone x) mid k rest = (inner : WrittenProof) × (k ≡ step x (then_case [] inner no_case)) × SpellsProof mid inner rest
Follows (cases x w) mid k rest = (inner : WrittenProof) × (bs : WrittenCases) × (behind : List Lexeme) × (k ≡ step x (then_case w inner bs)) × SpellsProof mid inner behind × SpellsMore behind bs rest

pub cases_at : {tokens rest : List Lexeme} {bs : WrittenCases} → SpellsCases tokens bs rest → (mid : List Lexeme) × (tokens ≡ word (codes "case") ∷ mid)
cases_at (case {w = w} {tokens = ts} n h m) = (word w ∷ ts, refl)

-- no proof begins with the word `case`
pub proof_not_case : {tokens mid rest : List Lexeme} {k : WrittenProof} → SpellsProof tokens k rest → tokens ≡ word (codes "case") ∷ mid → ⊥
proof_not_case solved e = cc
proof_not_case (by_method h) e = cc
proof_not_case (method_proof h k) e = method_not_case h e
proof_not_case (method_cases h k) e = method_not_case h e

pub behind_solved : {tokens mid rest : List Lexeme} {k : WrittenProof} → SpellsProof tokens k rest → tokens ≡ word (codes "SOLVED") ∷ mid → Follows (leaf (said (codes "SOLVED"))) mid k rest
behind_solved solved e = (refl, cc)
behind_solved (by_method h) e = absurd (let none : ⊥ = cc in none)
behind_solved (method_proof h k) e = absurd (method_not_solved h e)
behind_solved (method_cases h k) e = absurd (method_not_solved h e)

pub behind_by : {tokens mid after rest : List Lexeme} {k : WrittenProof} {x : Method} → SpellsProof tokens k rest → tokens ≡ word (codes "by") ∷ mid → SpellsMethod mid x after → Follows (leaf x) after k rest
behind_by solved e m = absurd (let none : ⊥ = cc in none)
behind_by {after = after} {x = x} (by_method {x = y} {tokens = ts} {rest = r} h) e m =
    let f : ts ≡ _ = cc in
    let o = method_one (subst (λ (us : List Lexeme). SpellsMethod us y r) f h) m in
    (ap (λ (z : Method). step z no_case) o.0, o.1)
behind_by (method_proof h k) e m = absurd (method_not_by h e)
behind_by (method_cases h k) e m = absurd (method_not_by h e)

pub behind_move : {tokens mid rest : List Lexeme} {k : WrittenProof} {x : Method} → SpellsProof tokens k rest → SpellsMethod tokens x mid → IsNotFirst (word (codes "case")) mid → Follows (alone x) mid k rest
behind_move solved m d = absurd (method_not_solved m refl)
behind_move (by_method h) m d = absurd (method_not_by m refl)
behind_move {rest = rest} (method_proof {p = inner} h k) m d =
    let o = method_one h m in
    (inner, ap (λ (z : Method). step z (then_case [] inner no_case)) o.0, subst (λ (ts : List Lexeme). SpellsProof ts inner rest) o.1 k)
behind_move (method_cases h k) m d =
    let o = method_one h m in
    let c = cases_at k in
    absurd (d c.0 (sym o.1 ∙ c.1))

-- what cases with this name first are
first_case : {tokens inside mid rest : List Lexeme} {w : List ℕ} {bs : WrittenCases} {x : Method} → SpellsCases tokens bs rest → tokens ≡ word (codes "case") ∷ inside → IsNameFirst inside w mid
    → (inner : WrittenProof) × (others : WrittenCases) × (behind : List Lexeme) × (step x bs ≡ step x (then_case w inner others)) × SpellsProof mid inner behind × SpellsMore behind others rest
first_case {x = x} (case {w = u} {p = k} {cs = others} {tokens = ts} {mid = b} n h m) e (name {w = w} {rest = r} i) =
    let f : u ≡ w = cc in
    let g : ts ≡ r = cc in
    (k, others, b, ap (λ (v : List ℕ). step x (then_case v k others)) f, subst (λ (us : List Lexeme). SpellsProof us k b) g h, m)

behind_case : {tokens inside mid rest : List Lexeme} {k : WrittenProof} {x : Method} {w : List ℕ} → SpellsProof tokens k rest → SpellsMethod tokens x (word (codes "case") ∷ inside) → IsNameFirst inside w mid → Follows (cases x w) mid k rest
behind_case solved m i = absurd (method_not_solved m refl)
behind_case (by_method h) m i = absurd (method_not_by m refl)
behind_case (method_proof h k) m i = absurd (proof_not_case k (method_one h m).1)
behind_case {x = x} (method_cases {cs = bs} h k) m i =
    let o = method_one h m in
    let c = first_case {x = x} k o.1 i in
    (c.0, c.1, c.2, ap (λ (z : Method). step z bs) o.0 ∙ c.3, c.4, c.5)

-- a proof with this line first goes on behind it
pub behind_line : {tokens mid rest : List Lexeme} {k : WrittenProof} {l : Line} → IsLine tokens l mid → SpellsProof tokens k rest → Follows l mid k rest
behind_line solved_line h = behind_solved h refl
behind_line (by_line m) h = behind_by h refl m
behind_line (move_line m d) h = behind_move h m d
behind_line (case_line m i) h = behind_case h m i

-- and the other way
pub line_before : {tokens mid rest : List Lexeme} {k : WrittenProof} {l : Line} → IsLine tokens l mid → Follows l mid k rest → SpellsProof tokens k rest
line_before solved_line f = rw (f.0, f.1) solved
line_before (by_line m) f = rw (f.0, f.1) (by_method m)
line_before (move_line m d) f = rw f.1 (method_proof m f.2)
line_before (case_line m (name i)) f = rw f.3 (method_cases m (case i f.4 f.5))

pub has_line : {tokens rest : List Lexeme} {k : WrittenProof} → SpellsProof tokens k rest → NoReading IsLine tokens → ⊥
has_line (solved {rest = r}) n = n.none (leaf (said (codes "SOLVED"))) r solved_line
has_line (by_method {x = x} {rest = r} h) n = n.none (leaf x) r (by_line h)
has_line (method_proof {x = x} {mid = m} h k) n = n.none (alone x) m (move_line h (λ r e. proof_not_case k e))
has_line (method_cases {x = x} h (case {w = w} {tokens = ts} i k m)) n = n.none (cases x w) ts (case_line h (name i))
