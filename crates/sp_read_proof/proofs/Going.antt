-- Proofs that are read in part: each step keeps what can be read from the start.
use Rattle.std.proofs.Common.{◌≡◌, ℕ, List, [], ◌∷◌, ◌++◌, codes, refl, sym, ap, subst, ◌∙◌}
use Rattle.sp_spec_text.specs.Token.{Lexeme, word}
use Rattle.sp_spec_text.specs.Lists.{NoReading}
use Rattle.sp_read_parts.specs.Parts.{IsNameFirst, name}
use Rattle.sp_spec_text.specs.Written.{Method, WrittenProof, step, WrittenCases, no_case, then_case}
use Rattle.sp_spec_text.specs.Proofs.{SpellsProof, SpellsCases, case, SpellsMore, qed, next}
use Rattle.sp_read_proof.specs.Lines.{leaf, alone, cases, IsLine, ended, another, IsBehind, qed_line, next_line}
use Rattle.sp_read_proof.specs.Frames.{Frame, lone, among, joined, Completes, whole, behind_lone, behind_more, Awaits, Same}
use Rattle.sp_read_proof.proofs.Parted.{behind_line, line_before, has_line}

-- ---- frames

whole_is : {k all : WrittenProof} {tokens rest : List Lexeme} → Completes [] k tokens all rest → (k ≡ all) × (tokens ≡ rest)
whole_is whole = (refl, refl)

lone_is : {x : Method} {fs : List Frame} {k all : WrittenProof} {tokens rest : List Lexeme} → Completes (lone x ∷ fs) k tokens all rest → Completes fs (step x (then_case [] k no_case)) tokens all rest
lone_is (behind_lone h) = h

among_is : {x : Method} {done : List (List ℕ × WrittenProof)} {w : List ℕ} {fs : List Frame} {k all : WrittenProof} {tokens rest : List Lexeme} → Completes (among x done w ∷ fs) k tokens all rest
    → (bs : WrittenCases) × (mid : List Lexeme) × SpellsMore tokens bs mid × Completes fs (step x (joined done (then_case w k bs))) mid all rest
among_is (behind_more {bs = bs} {mid = mid} m h) = (bs, mid, m, h)

joined_last : (done : List (List ℕ × WrittenProof)) (w : List ℕ) (k : WrittenProof) (bs : WrittenCases) → joined (done ++ (w, k) ∷ []) bs ≡ joined done (then_case w k bs)
joined_last [] w k bs = refl
joined_last (d ∷ done) w k bs = ap (λ (cs : WrittenCases). then_case d.0 d.1 cs) (joined_last done w k bs)

-- ---- behind a case

more_ended : {tokens mid rest : List Lexeme} {bs : WrittenCases} → SpellsMore tokens bs rest → tokens ≡ word (codes "qed") ∷ mid → (bs ≡ no_case) × (rest ≡ mid)
more_ended qed e = (refl, cc)
more_ended (next h) e = absurd (let none : ⊥ = cc in none)

-- the next case, and those behind it
record Another (w : List ℕ) (tokens : List Lexeme) (bs : WrittenCases) (rest : List Lexeme) : Type 0 where
  part : WrittenProof
  others : WrittenCases
  mid : List Lexeme
  are : bs ≡ then_case w part others
  spelled : SpellsProof tokens part mid
  behind : SpellsMore mid others rest

another_case : {tokens inside mid rest : List Lexeme} {w : List ℕ} {bs : WrittenCases} → SpellsCases tokens bs rest → tokens ≡ word (codes "case") ∷ inside → IsNameFirst inside w mid → Another w mid bs rest
another_case (case {w = u} {p = k} {cs = others} {tokens = ts} {mid = b} n h m) e (name {w = w} {rest = r} i) =
    let f : u ≡ w = cc in
    let g : ts ≡ r = cc in
    record { part = k; others = others; mid = b; are = ap (λ (v : List ℕ). then_case v k others) f; spelled = subst (λ (us : List Lexeme). SpellsProof us k b) g h; behind = m }

more_another : {tokens inside mid rest : List Lexeme} {w : List ℕ} {bs : WrittenCases} → SpellsMore tokens bs rest → tokens ≡ word (codes "next") ∷ word (codes "case") ∷ inside → IsNameFirst inside w mid → Another w mid bs rest
more_another qed e i = absurd (let none : ⊥ = cc in none)
more_another (next h) e i = another_case h (let f : _ ≡ _ = cc in f) i

end_is : {tokens mid : List Lexeme} → IsBehind tokens ended mid → tokens ≡ word (codes "qed") ∷ mid
end_is qed_line = refl

-- the tokens behind the word `next`
next_is : {tokens mid : List Lexeme} {w : List ℕ} → IsBehind tokens (another w) mid → (inside : List Lexeme) × (tokens ≡ word (codes "next") ∷ word (codes "case") ∷ inside) × IsNameFirst inside w mid
next_is (next_line {tokens = ts} i) = (ts, refl, i)

has_end : {tokens rest : List Lexeme} {bs : WrittenCases} → SpellsMore tokens bs rest → NoReading IsBehind tokens → ⊥
has_end (qed {rest = r}) n = n.none ended r qed_line
has_end (next (case {w = w} {tokens = ts} i h m)) n = n.none (another w) ts (next_line (name i))

more_at : {tokens inside mid behind rest : List Lexeme} {w : List ℕ} {k : WrittenProof} {bs : WrittenCases} → tokens ≡ word (codes "next") ∷ word (codes "case") ∷ inside → IsNameFirst inside w mid → SpellsProof mid k behind
    → SpellsMore behind bs rest → SpellsMore tokens (then_case w k bs) rest
more_at e (name i) h m = rw e (next (case i h m))

-- ---- steps at the end of a proof

pub close_start : (fs : List Frame) (k : WrittenProof) (tokens : List Lexeme) → Same (Completes fs k) tokens (Completes fs k) tokens
close_start fs k tokens = record { goes = λ a r h. h; comes = λ a r h. h }

pub close_lone : {S : List Lexeme → WrittenProof → List Lexeme → Type 0} {start tokens : List Lexeme} {gs fs : List Frame} {x : Method} {k : WrittenProof} → Same S start (Completes gs k) tokens → gs ≡ lone x ∷ fs
    → Same S start (Completes fs (step x (then_case [] k no_case))) tokens
close_lone {tokens = tokens} {k = k} s e = record {
  goes = λ a r h. s.goes a r (rw e (behind_lone h));
  comes = λ a r h. lone_is (subst (λ (hs : List Frame). Completes hs k tokens a r) e (s.comes a r h));
}

pub close_ended : {S : List Lexeme → WrittenProof → List Lexeme → Type 0} {start tokens mid : List Lexeme} {gs fs : List Frame} {x : Method} {done : List (List ℕ × WrittenProof)} {w : List ℕ} {k : WrittenProof}
    → Same S start (Completes gs k) tokens → gs ≡ among x done w ∷ fs → IsBehind tokens ended mid → Same S start (Completes fs (step x (joined done (then_case w k no_case)))) mid
close_ended {tokens = tokens} {mid} {fs = fs} {x} {done} {w} {k} s e b = record {
  goes = λ a r h. s.goes a r (subst (λ (hs : List Frame). Completes hs k tokens a r) (sym e)
      (subst (λ (ts : List Lexeme). Completes (among x done w ∷ fs) k ts a r) (sym (end_is b)) (behind_more qed h)));
  comes = λ a r h.
      let i = among_is (subst (λ (hs : List Frame). Completes hs k tokens a r) e (s.comes a r h)) in
      let m = more_ended i.2 (end_is b) in
      subst (λ (bs : WrittenCases). Completes fs (step x (joined done (then_case w k bs))) mid a r) m.0
      (subst (λ (ts : List Lexeme). Completes fs (step x (joined done (then_case w k i.0))) ts a r) m.1 i.3);
}

pub close_another : {S : List Lexeme → WrittenProof → List Lexeme → Type 0} {start tokens mid : List Lexeme} {gs fs : List Frame} {x : Method} {done : List (List ℕ × WrittenProof)} {w v : List ℕ} {k : WrittenProof}
    → Same S start (Completes gs k) tokens → gs ≡ among x done w ∷ fs → IsBehind tokens (another v) mid → Same S start (Awaits (among x (done ++ (w, k) ∷ []) v ∷ fs)) mid
close_another {tokens = tokens} {fs = fs} {x} {done} {w} {v} {k} s e b =
    let n = next_is b in
    record {
      goes = λ a r h.
          let i = among_is h.completed in
          let c = subst (λ (bs : WrittenCases). Completes fs (step x bs) i.1 a r) (joined_last done w k (then_case v h.part i.0)) i.3 in
          s.goes a r (subst (λ (qs : List Frame). Completes qs k tokens a r) (sym e) (behind_more (more_at n.1 n.2 h.spelled i.2) c));
      comes = λ a r h.
          let i = among_is (subst (λ (qs : List Frame). Completes qs k tokens a r) e (s.comes a r h)) in
          let m = more_another i.2 n.1 n.2 in
          let c = subst (λ (bs : WrittenCases). Completes fs (step x bs) i.1 a r) (ap (λ (bs : WrittenCases). joined done (then_case w k bs)) m.are ∙ sym (joined_last done w k (then_case v m.part m.others))) i.3 in
          record { part = m.part; mid = m.mid; spelled = m.spelled; completed = behind_more m.behind c };
    }

pub close_stuck : {S : List Lexeme → WrittenProof → List Lexeme → Type 0} {start tokens : List Lexeme} {gs fs : List Frame} {x : Method} {done : List (List ℕ × WrittenProof)} {w : List ℕ} {k : WrittenProof}
    → Same S start (Completes gs k) tokens → gs ≡ among x done w ∷ fs → NoReading IsBehind tokens → NoReading S start
close_stuck {tokens = tokens} {k = k} s e n = record {
  none = λ a r h.
      let i = among_is (subst (λ (qs : List Frame). Completes qs k tokens a r) e (s.comes a r h)) in
      has_end i.2 n;
}

pub close_whole : {S : List Lexeme → WrittenProof → List Lexeme → Type 0} {start tokens : List Lexeme} {gs : List Frame} {k : WrittenProof} → Same S start (Completes gs k) tokens → gs ≡ [] → S start k tokens
close_whole {tokens = tokens} {k = k} s e = s.goes k tokens (rw e whole)

-- ---- steps behind a line

pub read_start : (tokens : List Lexeme) → Same SpellsProof tokens (Awaits []) tokens
read_start tokens = record {
  goes = λ a r h.
      let i = whole_is h.completed in
      subst (λ (ts : List Lexeme). SpellsProof tokens a ts) i.1 (subst (λ (k : WrittenProof). SpellsProof tokens k h.mid) i.0 h.spelled);
  comes = λ a r h. record { part = a; mid = r; spelled = h; completed = whole };
}

pub read_leaf : {start tokens mid : List Lexeme} {fs : List Frame} {x : Method} → Same SpellsProof start (Awaits fs) tokens → IsLine tokens (leaf x) mid → Same SpellsProof start (Completes fs (step x no_case)) mid
read_leaf {mid = mid} {fs = fs} {x = x} s l = record {
  goes = λ a r h. s.goes a r (record { part = step x no_case; mid = mid; spelled = line_before l (refl, refl); completed = h });
  comes = λ a r h.
      let w = s.comes a r h in
      let f = behind_line l w.spelled in
      subst (λ (i : WrittenProof). Completes fs i mid a r) f.0 (subst (λ (ts : List Lexeme). Completes fs w.part ts a r) f.1 w.completed);
}

pub read_alone : {start tokens mid : List Lexeme} {fs : List Frame} {x : Method} → Same SpellsProof start (Awaits fs) tokens → IsLine tokens (alone x) mid → Same SpellsProof start (Awaits (lone x ∷ fs)) mid
read_alone {fs = fs} {x = x} s l = record {
  goes = λ a r h. s.goes a r (record { part = step x (then_case [] h.part no_case); mid = h.mid; spelled = line_before l (h.part, refl, h.spelled); completed = lone_is h.completed });
  comes = λ a r h.
      let w = s.comes a r h in
      let f = behind_line l w.spelled in
      record { part = f.0; mid = w.mid; spelled = f.2; completed = behind_lone (subst (λ (i : WrittenProof). Completes fs i w.mid a r) f.1 w.completed) };
}

pub read_cases : {start tokens mid : List Lexeme} {fs : List Frame} {x : Method} {v : List ℕ} → Same SpellsProof start (Awaits fs) tokens → IsLine tokens (cases x v) mid → Same SpellsProof start (Awaits (among x [] v ∷ fs)) mid
read_cases {fs = fs} {x = x} {v = v} s l = record {
  goes = λ a r h.
      let i = among_is h.completed in
      s.goes a r (record { part = step x (then_case v h.part i.0); mid = i.1; spelled = line_before l (h.part, i.0, h.mid, refl, h.spelled, i.2); completed = i.3 });
  comes = λ a r h.
      let w = s.comes a r h in
      let f = behind_line l w.spelled in
      record { part = f.0; mid = f.2; spelled = f.4; completed = behind_more f.5 (subst (λ (i : WrittenProof). Completes fs i w.mid a r) f.3 w.completed) };
}

pub read_stuck : {start tokens : List Lexeme} {fs : List Frame} → Same SpellsProof start (Awaits fs) tokens → NoReading IsLine tokens → NoReading SpellsProof start
read_stuck s n = record { none = λ a r h. has_line (s.comes a r h).spelled n }

pub closed_none : {S : List Lexeme → WrittenProof → List Lexeme → Type 0} {start tokens : List Lexeme} {fs : List Frame} {k : WrittenProof} → Same S start (Completes fs k) tokens → NoReading (Completes fs k) tokens → NoReading S start
closed_none s n = record { none = λ a r h. n.none a r (s.comes a r h) }

pub closed_case : {S : List Lexeme → WrittenProof → List Lexeme → Type 0} {start tokens mid : List Lexeme} {fs hs : List Frame} {k : WrittenProof} → Same S start (Completes fs k) tokens → Same (Completes fs k) tokens (Awaits hs) mid
    → Same S start (Awaits hs) mid
closed_case s t = record { goes = λ a r h. s.goes a r (t.goes a r h); comes = λ a r h. t.comes a r (s.comes a r h) }
