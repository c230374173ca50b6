-- Tokens spell one proof.
use Rattle.std.proofs.Common.{◌≡◌, ℕ, List, [], ◌∷◌, codes, refl, sym, ap, subst, ◌∙◌}
use Rattle.sp_spec_text.specs.Token.{Lexeme, word}
use Rattle.sp_spec_text.specs.Written.{Method, WrittenProof, step, WrittenCases, no_case, then_case}
use Rattle.sp_spec_text.specs.Proofs.{SpellsMethod, SpellsProof, solved, by_method, method_proof, method_cases, SpellsCases, case, SpellsMore, qed, next}
use Rattle.sp_read_proof.proofs.Methods.{method_one, method_not_solved, method_not_by}
use Rattle.sp_read_proof.proofs.Parted.{cases_at, proof_not_case, behind_solved, behind_by, behind_move}

-- cases behind a method
record Cases (x : Method) (mid : List Lexeme) (k : WrittenProof) (rest : List Lexeme) : Type 0 where
  branches : WrittenCases
  is : k ≡ step x branches
  spelled : SpellsCases mid branches rest

behind_cases : {x : Method} {tokens mid after rest : List Lexeme} {k : WrittenProof} → SpellsProof tokens k rest → SpellsMethod tokens x mid → mid ≡ word (codes "case") ∷ after → Cases x mid k rest
behind_cases solved m e = absurd (method_not_solved m refl)
behind_cases (by_method h) m e = absurd (method_not_by m refl)
behind_cases (method_proof h k) m e = absurd (proof_not_case k ((method_one h m).1 ∙ e))
behind_cases {rest = rest} (method_cases {cs = bs} h c) m e =
    let o = method_one h m in
    record { branches = bs; is = ap (λ (y : Method). step y bs) o.0; spelled = subst (λ (ts : List Lexeme). SpellsCases ts bs rest) o.1 c }

-- a first case, and those behind it
record First (w : List ℕ) (tokens : List Lexeme) (bs : WrittenCases) (rest : List Lexeme) : Type 0 where
  inner : WrittenProof
  others : WrittenCases
  mid : List Lexeme
  are : bs ≡ then_case w inner others
  spelled : SpellsProof tokens inner mid
  behind : SpellsMore mid others rest

first_of_cases : {w : List ℕ} {tokens inside rest : List Lexeme} {bs : WrittenCases} → SpellsCases tokens bs rest → tokens ≡ word (codes "case") ∷ word w ∷ inside → First w inside bs rest
first_of_cases {w} {inside = inside} (case {w = u} {p = k} {cs = others} {tokens = ts} {mid = m} n h b) e =
    let f : u ≡ w = cc in
    let g : ts ≡ inside = cc in
    record { inner = k; others = others; mid = m; are = ap (λ (v : List ℕ). then_case v k others) f; spelled = subst (λ (us : List Lexeme). SpellsProof us k m) g h; behind = b }

more_qed : {tokens rest mid : List Lexeme} {bs : WrittenCases} → SpellsMore tokens bs rest → tokens ≡ word (codes "qed") ∷ mid → (no_case ≡ bs) × (mid ≡ rest)
more_qed qed e = (refl, cc)
more_qed (next h) e = absurd (let none : ⊥ = cc in none)

more_next : {tokens rest mid : List Lexeme} {bs : WrittenCases} → SpellsMore tokens bs rest → tokens ≡ word (codes "next") ∷ mid → SpellsCases mid bs rest
more_next qed e = absurd (let none : ⊥ = cc in none)
more_next {rest = rest} {bs = bs} (next {tokens = ts} h) e = let f : ts ≡ _ = cc in subst (λ (us : List Lexeme). SpellsCases us bs rest) f h

mutual
  pub proof_one : {tokens r q : List Lexeme} {k j : WrittenProof} → SpellsProof tokens k r → SpellsProof tokens j q → (k ≡ j) × (r ≡ q)
  proof_one solved h = let f = behind_solved h refl in (sym f.0, sym f.1)
  proof_one (by_method m) h = let f = behind_by h refl m in (sym f.0, sym f.1)
  proof_one (method_proof {x = x} m p) h =
      let f = behind_move h m (λ r e. proof_not_case p e) in
      let o = proof_one p f.2 in
      (ap (λ (i : WrittenProof). step x (then_case [] i no_case)) o.0 ∙ sym f.1, o.1)
  proof_one (method_cases {x = x} m c) h =
      let f = behind_cases h m (cases_at c).1 in
      let o = cases_one c f.spelled in
      (ap (step x) o.0 ∙ sym f.is, o.1)

  pub cases_one : {tokens r q : List Lexeme} {bs cs : WrittenCases} → SpellsCases tokens bs r → SpellsCases tokens cs q → (bs ≡ cs) × (r ≡ q)
  cases_one {q = q} (case {w = w} {p = k} {cs = bs} n h m) c =
      let f = first_of_cases c refl in
      let o = proof_one h f.spelled in
      let p = more_one m (subst (λ (ts : List Lexeme). SpellsMore ts f.others q) (sym o.1) f.behind) in
      (ap (λ (i : WrittenProof). then_case w i bs) o.0 ∙ ap (then_case w f.inner) p.0 ∙ sym f.are, p.1)

  pub more_one : {tokens r q : List Lexeme} {bs cs : WrittenCases} → SpellsMore tokens bs r → SpellsMore tokens cs q → (bs ≡ cs) × (r ≡ q)
  more_one qed h = more_qed h refl
  more_one (next c) h = cases_one c (more_next h refl)
