-- Where the word `end` of a text has a line feed somewhere behind it, it is the text's first word `end` too when more is written behind that.
use Rattle.std.proofs.Common.{◌≡◌, ℕ, ◌+◌, ◌-◌, ◌≤◌, Bool, true, false, cond, List, [], ◌∷◌, ◌++◌, length, drop, codes, Option, Some, None, refl, sym, ap, subst, ◌∙◌, true≢false, append_assoc, length-append, arith}
use Rattle.std.specs.Prelude.{◌&&◌, ◌==◌, nat_lt}
use Rattle.std.proofs.lemmas.Bool.Decides.{nat_tests}
use Rattle.std.proofs.lemmas.Slice.Eq.{bytes_eq-Decides}
use Rattle.std.proofs.lemmas.List.{append_cancel_right}
use Rattle.sp_spec_text.specs.Bytes.{Class}
use Rattle.sp_spec_text.specs.Bytes as class
use Rattle.sp_spec_text.specs.Token.{Lexeme, word, constant, sign, solve, wide, block, Token}
use Rattle.sp_spec_text.specs.Lex.{is_in, is_first, is_digit, skip, before, Skips, Piece, token, close_constant, piece, is_token, is_quoted, bracket, to_closing, closed_by, is_end, is_solve, NoBracket, other, open_comment, Reads, as_it_is, bare, goal, AreTokens, no_more, last, next}
use Rattle.sp_spec_text.proofs.Rests.{before_rest}
use Rattle.sp_lex.proofs.Gaps.{skips_one, skips_closed}
use Rattle.sp_lex.proofs.Solve.{closing_leaves}
use Rattle.sp_law_reread.proofs.Behind.{behind_one}
use Rattle.sp_law_reread.proofs.Ends.{Ends, ends_behind, skips_ends, closing_ends, reads_ends}
use Rattle.sp_law_reread.proofs.Local.{choice, marks, skips_local, piece_local}
use Rattle.sp_law_reread.proofs.Stops.{letter_firm, word_read}
use Rattle.sp_law_reread.proofs.Reached.{shorter_end}
use Rattle.sp_law_reread.proofs.Leads.{Ended, ends_later}
use Rattle.sp_spec_text.specs.Ends.{behind_all}
use Rattle.sp_spec_text.specs.Behind.{EndsInEnd, IsBehindEnd}
use Rattle.sp_spec_text.proofs.Closing.{closes}
use Rattle.std.proofs.Math.Seq.{drop-append_seam}

-- ---- words and constants end before a line feed

first_same : (p : ℕ → Bool) (w v q : List ℕ) → is_first p (w ++ 10 ∷ v) ≡ is_first p (w ++ 10 ∷ q)
first_same p [] v q = refl
first_same p (b ∷ w) v q = refl

goes_on : (k : Class) (b : ℕ) (w v q : List ℕ) → is_in k b (w ++ 10 ∷ v) ≡ is_in k b (w ++ 10 ∷ q)
goes_on class.Constant b w v q = refl
goes_on class.Line b w v q = refl
goes_on class.Word b w v q = rw (first_same is_digit w v q) refl

feed_ends : (k : Class) (v : List ℕ) → is_in k 10 v ≡ false
feed_ends class.Constant v = refl
feed_ends class.Line v = refl
feed_ends class.Word v = refl

-- what is left of the bytes before the line feed
abbrev left_of : Class → List ℕ → List ℕ
left_of k [] = []
left_of k (b ∷ w) = cond (is_in k b (w ++ 10 ∷ [])) (left_of k w) (b ∷ w)

stops : (k : Class) (w v : List ℕ) → skip k (w ++ 10 ∷ v) ≡ left_of k w ++ 10 ∷ v
unfolding skip
stops k [] v = rw (feed_ends k v) refl
stops k (b ∷ w) v = by_test (is_in k b (w ++ 10 ∷ v)) (is_in k b (w ++ 10 ∷ [])) (goes_on k b w v []) (stops k w v)
  where
    by_test : (t u : Bool) → t ≡ u → skip k (w ++ 10 ∷ v) ≡ left_of k w ++ 10 ∷ v → cond t (skip k (w ++ 10 ∷ v)) (b ∷ w ++ 10 ∷ v) ≡ cond u (left_of k w) (b ∷ w) ++ 10 ∷ v
    by_test true true e h = h
    by_test false false e h = refl
    by_test true false e h = absurd cc
    by_test false true e h = absurd cc

-- ---- the text of a goal

token_test : (t : Bool) (x : Lexeme) (rest : List ℕ) (y : Piece) → is_token y ≡ false → is_token (cond t (token x rest) y) ≡ t
token_test true x rest y e = refl
token_test false x rest y e = e

shorter_so : (s w v q : List ℕ) → nat_lt (length (s ++ 10 ∷ v)) (length (w ++ 10 ∷ v)) ≡ nat_lt (length (s ++ 10 ∷ q)) (length (w ++ 10 ∷ q))
shorter_so s w v q =
    let a = length-append s (10 ∷ v) in
    let b = length-append s (10 ∷ q) in
    let c = length-append w (10 ∷ v) in
    let d = length-append w (10 ∷ q) in
    grind (arith, nat_tests)

-- whether a constant begins doesn't depend on what stands behind the line feed
begins_constant : (w v q : List ℕ)
    → is_token (close_constant (w ++ 10 ∷ v) (skip class.Constant (w ++ 10 ∷ v))) ≡ is_token (close_constant (w ++ 10 ∷ q) (skip class.Constant (w ++ 10 ∷ q)))
begins_constant w v q =
    let s = left_of class.Constant w in
    let at : (x : List ℕ) → is_token (close_constant (w ++ 10 ∷ x) (skip class.Constant (w ++ 10 ∷ x))) ≡ (nat_lt (length (s ++ 10 ∷ x)) (length (w ++ 10 ∷ x)) && is_first (λ b. b == 39) (s ++ 10 ∷ x)) =
    λ x. ap (λ (z : List ℕ). is_token (close_constant (w ++ 10 ∷ x) z)) (stops class.Constant w x) ∙ closes (w ++ 10 ∷ x) (s ++ 10 ∷ x) in
    at v ∙ ap (λ (t : Bool). t && is_first (λ b. b == 39) (s ++ 10 ∷ v)) (shorter_so s w v q)
    ∙ ap (λ (t : Bool). nat_lt (length (s ++ 10 ∷ q)) (length (w ++ 10 ∷ q)) && t) (first_same (λ b. b == 39) s v q) ∙ sym (at q)

quoted_so : (quoted : Bool) (b : ℕ) (w v q : List ℕ) → is_quoted quoted b (w ++ 10 ∷ v) ≡ is_quoted quoted b (w ++ 10 ∷ q)
quoted_so true b w v q = refl
quoted_so false b w v q = ap (λ (t : Bool). b == 39 && t) (begins_constant w v q)

no_such : {A : Type 0} {rest : List ℕ} → None ≡ Some rest → A
no_such e = absurd (let none : ⊥ = cc in none)

-- the closing bracket stands before the line feed, whatever stands behind it
closing_stays : (quoted : Bool) (depth : ℕ) (w tail v q : List ℕ) → to_closing quoted depth (w ++ 10 ∷ v) ≡ Some (tail ++ 10 ∷ v) → to_closing quoted depth (w ++ 10 ∷ q) ≡ Some (tail ++ 10 ∷ q)
unfolding to_closing
closing_stays true depth [] tail v q h = absurd (omega (arith, (closing_leaves (is_quoted true 10 v) depth v).most (tail ++ 10 ∷ v) h, length-append tail (10 ∷ v)))
closing_stays false depth [] tail v q h = absurd (omega (arith, (closing_leaves (is_quoted false 10 v) depth v).most (tail ++ 10 ∷ v) h, length-append tail (10 ∷ v)))
closing_stays quoted depth (b ∷ w) tail v q h =
    let here : Some (b ∷ w ++ 10 ∷ v) ≡ Some (tail ++ 10 ∷ v) → Some (b ∷ w ++ 10 ∷ q) ≡ Some (tail ++ 10 ∷ q) =
    λ e. let f : b ∷ w ++ 10 ∷ v ≡ tail ++ 10 ∷ v = cc in ap (λ (x : List ℕ). Some (x ++ 10 ∷ q)) (append_cancel_right (b ∷ w) tail (10 ∷ v) f) in
    marks (bracket quoted b) (closing_stays quoted (depth + 1) w tail v q) (choice (depth == 0) here (closing_stays quoted (depth - 1) w tail v q))
    (λ e. closing_stays (is_quoted quoted b (w ++ 10 ∷ q)) depth w tail v q (subst (λ (t : Bool). to_closing t depth (w ++ 10 ∷ v) ≡ Some (tail ++ 10 ∷ v)) (quoted_so quoted b w v q) e)) h

-- ---- tokens up to the word `end`

-- the bytes are cut into tokens up to the first word `end`, behind which these stand
data Comes (told : List ℕ) : List ℕ → Type 0 where
  here : {bytes from : List ℕ} {x : Lexeme} → Skips bytes from → Reads from (token x told) → is_end x ≡ true → Comes told bytes
  later : {bytes from rest : List ℕ} {x : Lexeme} → Skips bytes from → Reads from (token x rest) → is_end x ≡ false → Comes told rest → Comes told bytes

not_last : (t : Token) (ts : List Token) → is_end t.lexeme ≡ false → EndsInEnd (t ∷ ts) → EndsInEnd ts
not_last t [] e h = absurd (let none : ⊥ = cc in none)
not_last t (u ∷ ts) e h = h

comes_from : {size : ℕ} {bytes : List ℕ} {ts : List Token} → AreTokens size bytes ts → EndsInEnd ts → (told : List ℕ) × Comes told bytes
comes_from (no_more s) h = absurd h
comes_from (last {rest = rest} n e) h = (rest, here n.skips n.reads e)
comes_from (next {t = t} {ts = ts} n e k) h = let c = comes_from k (not_last t ts e h) in (c.0, later n.skips n.reads e c.1)

comes_ended : {size : ℕ} {told bytes : List ℕ} → Comes told bytes → length bytes ≤ size → Ended size bytes told
comes_ended {size} {told} (here {from = from} {x = x} s r e) le =
    let a = shorter_end (skips_ends s) in
    let b = shorter_end (reads_ends r refl) in
    let t : Token = record { lexeme = x; start = size - length from; end = size - length told } in
    record {
      tokens = t ∷ [];
      cut = last (record { from = from; skips = s; reads = r; start = omega arith; end = omega arith }) e;
      ended = e;
      place = λ k. omega arith;
    }
comes_ended {size} {told} (later {from = from} {rest = rest} {x = x} s r e h) le =
    let a = shorter_end (skips_ends s) in
    let b = shorter_end (reads_ends r refl) in
    let c : Ended size rest told = comes_ended h (omega arith) in
    let t : Token = record { lexeme = x; start = size - length from; end = size - length rest } in
    record {
      tokens = t ∷ c.tokens;
      cut = next (record { from = from; skips = s; reads = r; start = omega arith; end = omega arith }) e c.cut;
      ended = ends_later t c.tokens c.ended;
      place = λ k. c.place t.end;
    }

comes_end : {told bytes : List ℕ} → Comes told bytes → Ends bytes told
comes_end (here s r e) = ends_behind (skips_ends s) (reads_ends r refl)
comes_end (later s r e h) = ends_behind (skips_ends s) (ends_behind (reads_ends r refl) (comes_end h))

comes_behind : {told bytes : List ℕ} → Comes told bytes → IsBehindEnd bytes told
comes_behind {told} {bytes} h =
    let e = comes_ended {size = length bytes} h (omega arith) in
    let o = comes_end h in
    let place : behind_all e.tokens ≡ length o.0 = let p = e.place 0 in omega (arith, p, ap length o.1, length-append o.0 told) in
    record {
      tokens = e.tokens;
      cut = e.cut;
      ended = e.ended;
      behind_is = sym (ap (λ (n : ℕ). drop n bytes) place ∙ ap (drop (length o.0)) o.1 ∙ drop-append_seam o.0 told);
    }

-- ---- with other bytes behind a line feed that stands behind the word

abbrev the_end : List ℕ → List ℕ → List ℕ
the_end u v = codes "end" ++ (u ++ 10 ∷ v)

-- The word `end` itself.
end_word : (x : Lexeme) → is_end x ≡ true → (w : List ℕ) × (x ≡ word w) × (w ≡ codes "end")
end_word (word w) e = (w, refl, (bytes_eq-Decides w (codes "end")).0 e)
end_word (constant c) e = absurd (let none : ⊥ = cc in none)
end_word (sign s) e = absurd (let none : ⊥ = cc in none)
end_word (solve s) e = absurd (let none : ⊥ = cc in none)
end_word (wide x) e = absurd (let none : ⊥ = cc in none)
end_word block e = absurd (let none : ⊥ = cc in none)

end_solves : (x : Lexeme) → is_end x ≡ true → is_solve x ≡ false
end_solves x e = let w = end_word x e in ap is_solve (w.1 ∙ ap word w.2)

closed_ends : (inside told : List ℕ) (o : Option (List ℕ)) (x : Lexeme) → closed_by inside o ≡ token x told → is_end x ≡ false
closed_ends inside told None x e = absurd (let none : ⊥ = cc in none)
closed_ends inside told (Some rest) x e = let same : solve (before inside rest) ≡ x = cc in sym (ap is_end same)

-- it is a piece by itself
end_reads : {from told : List ℕ} {x : Lexeme} → Reads from (token x told) → is_end x ≡ true → piece from ≡ token (word (codes "end")) told
end_reads {told = told} {x = x} (as_it_is p d) e = let w = end_word x e in p ∙ ap (λ (y : Lexeme). token y told) (w.1 ∙ ap word w.2)
end_reads {x = x} (bare p s n) e = absurd (true≢false (sym s ∙ end_solves x e))
end_reads {told = told} {x = x} (goal {inside = inside} p s k h) e = absurd (true≢false (sym e ∙ closed_ends inside told (to_closing false 0 inside) x h))

-- and with other bytes behind the line feed
end_again : (u v q : List ℕ) → piece (the_end u v) ≡ token (word (codes "end")) (u ++ 10 ∷ v) → piece (the_end u q) ≡ token (word (codes "end")) (u ++ 10 ∷ q)
unfolding piece
end_again u v q e =
    let nd : List ℕ = codes "nd" ++ u in
    let whole : token (word (before (the_end u v) (skip class.Word (nd ++ 10 ∷ v)))) (skip class.Word (nd ++ 10 ∷ v)) ≡ token (word (codes "end")) (u ++ 10 ∷ v) = e in
    let s : skip class.Word (nd ++ 10 ∷ v) ≡ u ++ 10 ∷ v = cc in
    let l : left_of class.Word nd ≡ u = append_cancel_right (left_of class.Word nd) u (10 ∷ v) (sym (stops class.Word nd v) ∙ s) in
    let z : skip class.Word (nd ++ 10 ∷ q) ≡ u ++ 10 ∷ q = stops class.Word nd q ∙ ap (λ (y : List ℕ). y ++ 10 ∷ q) l in
    ap (λ (y : List ℕ). token (word (before (the_end u q) y)) y) z ∙ ap (λ (y : List ℕ). token (word y) (u ++ 10 ∷ q)) (before_rest (codes "end") (u ++ 10 ∷ q))

-- where the first token begins, before the word or with it
record First (told bytes : List ℕ) : Type 0 where
  from : List ℕ
  skips : Skips bytes from
  tail : List ℕ
  are : from ≡ tail ++ (codes "end" ++ told)

comes_first : {told bytes : List ℕ} → Comes told bytes → First told bytes
comes_first {told} (here {from = from} s r e) = record { from = from; skips = s; tail = []; are = word_read from told (codes "end") (end_reads r e) }
comes_first {told} (later {from = from} {rest = rest} s r e h) =
    let f = comes_first h in
    let i = reads_ends r refl in
    let o = skips_ends f.skips in
    record {
      from = from;
      skips = s;
      tail = i.0 ++ (o.0 ++ f.tail);
      are = i.1 ∙ ap (λ (x : List ℕ). i.0 ++ x) (o.1 ∙ ap (λ (x : List ℕ). o.0 ++ x) f.are ∙ sym (append_assoc o.0 f.tail (codes "end" ++ told))) ∙ sym (append_assoc i.0 (o.0 ++ f.tail) (codes "end" ++ told));
    }

first_bracket : (tail a b : List ℕ) → is_first (λ b. b == 40) (tail ++ 101 ∷ a) ≡ is_first (λ b. b == 40) (tail ++ 101 ∷ b)
first_bracket [] a b = refl
first_bracket (c ∷ tail) a b = refl

module _ (u v q : List ℕ) where
  -- the bytes before the line feed, and those behind it
  by_feed : (m x : List ℕ) → m ++ the_end u x ≡ (m ++ (codes "end" ++ u)) ++ 10 ∷ x
  by_feed m x = sym (append_assoc m (codes "end" ++ u) (10 ∷ x))

  closing_again : (m t : List ℕ) → to_closing false 0 (m ++ the_end u v) ≡ Some (t ++ the_end u v) → to_closing false 0 (m ++ the_end u q) ≡ Some (t ++ the_end u q)
  closing_again m t h =
      ap (to_closing false 0) (by_feed m q) ∙ closing_stays false 0 (m ++ (codes "end" ++ u)) (t ++ (codes "end" ++ u)) v q (sym (ap (to_closing false 0) (by_feed m v)) ∙ h ∙ ap Some (by_feed t v)) ∙ sym (ap Some (by_feed t q))

  skips_again : {bytes from : List ℕ} (m t : List ℕ) → Skips bytes from → bytes ≡ m ++ the_end u v → from ≡ t ++ the_end u v → Skips (m ++ the_end u q) (t ++ the_end u q)
  skips_again m t s e d = skips_local letter_firm m t (codes "nd" ++ (u ++ 10 ∷ v)) (codes "nd" ++ (u ++ 10 ∷ q)) s e d

  piece_again : {from rest : List ℕ} {x : Lexeme} (m t : List ℕ) → piece from ≡ token x rest → from ≡ m ++ the_end u v → rest ≡ t ++ the_end u v → piece (m ++ the_end u q) ≡ token x (t ++ the_end u q)
  piece_again {x = x} m t p e d = piece_local letter_firm m t (codes "nd" ++ (u ++ 10 ∷ v)) (codes "nd" ++ (u ++ 10 ∷ q)) x (sym (ap piece e) ∙ p ∙ ap (token x) d)

  -- a token that isn't the word `end`
  record Reread (m t : List ℕ) : Type 0 where
    lexeme : Lexeme
    reads : Reads (m ++ the_end u q) (token lexeme (t ++ the_end u q))
    no_end : is_end lexeme ≡ false

  no_bracket_again : {rest : List ℕ} (t : List ℕ) → rest ≡ t ++ the_end u v → First (u ++ 10 ∷ v) rest → NoBracket rest → NoBracket (t ++ the_end u q)
  no_bracket_again t e f (other s n) =
      let one = skips_one s f.skips ∙ f.are in
      other (skips_again t f.tail f.skips e f.are)
      (sym (first_bracket f.tail (codes "nd" ++ (u ++ 10 ∷ v)) (codes "nd" ++ (u ++ 10 ∷ q))) ∙ sym (ap (is_first (λ b. b == 40)) one) ∙ n)
  no_bracket_again t e f (open_comment c) = absurd (skips_closed f.skips c)

  -- where the goal is closed
  record Closed (inside t : List ℕ) : Type 0 where
    byte : ℕ
    before_it : List ℕ
    are : inside ≡ (before_it ++ byte ∷ t) ++ the_end u v
    closing : to_closing false 0 ((before_it ++ byte ∷ t) ++ the_end u v) ≡ Some ((byte ∷ t) ++ the_end u v)

  no_rest : (t : List ℕ) → [] ≡ t ++ the_end u v → ⊥
  no_rest [] e = cc
  no_rest (b ∷ t) e = cc

  closed_at : (inside t rest : List ℕ) (x : Lexeme) (o : Option (List ℕ)) → to_closing false 0 inside ≡ o → closed_by inside o ≡ token x rest → rest ≡ t ++ the_end u v → Closed inside t
  closed_at inside t rest x None c h e = absurd (let none : ⊥ = cc in none)
  closed_at inside t rest x (Some []) c h e = let d : [] ≡ rest = cc in absurd (no_rest t (d ∙ e))
  closed_at inside t rest x (Some (b ∷ behind)) c h e =
      let d : behind ≡ t ++ the_end u v = (let g : behind ≡ rest = cc in g) ∙ e in
      let o = closing_ends false 0 inside (b ∷ behind) c in
      let are = o.1 ∙ ap (λ (y : List ℕ). o.0 ++ b ∷ y) d ∙ sym (append_assoc o.0 (b ∷ t) (the_end u v)) in
      record { byte = b; before_it = o.0; are = are; closing = sym (ap (to_closing false 0) are) ∙ c ∙ ap (λ (y : List ℕ). Some (b ∷ y)) d }

  reads_again : {from rest : List ℕ} {x : Lexeme} (m t : List ℕ) → Reads from (token x rest) → from ≡ m ++ the_end u v → rest ≡ t ++ the_end u v → is_end x ≡ false → First (u ++ 10 ∷ v) rest → Reread m t
  reads_again {x = x} m t (as_it_is p d) e r n f = record { lexeme = x; reads = as_it_is (piece_again m t p e r) d; no_end = n }
  reads_again {x = x} m t (bare p s b) e r n f = record { lexeme = x; reads = bare (piece_again m t p e r) s (no_bracket_again t r f b); no_end = n }
  reads_again {rest = rest} {x = x} m t (goal {rest = mid} {inside = inside} p s k h) e r n f =
      let c = closed_at inside t rest x (to_closing false 0 inside) refl h r in
      let o = skips_ends k in
      let w = c.before_it ++ c.byte ∷ t in
      let opened : 40 ∷ inside ≡ (40 ∷ w) ++ the_end u v = ap (λ (y : List ℕ). 40 ∷ y) c.are in
      let middle : mid ≡ (o.0 ++ 40 ∷ w) ++ the_end u v = o.1 ∙ ap (λ (y : List ℕ). o.0 ++ y) opened ∙ sym (append_assoc o.0 (40 ∷ w) (the_end u v)) in
      record {
        lexeme = solve (before (w ++ the_end u q) ((c.byte ∷ t) ++ the_end u q));
        reads = goal (piece_again m (o.0 ++ 40 ∷ w) p e middle) s (skips_again (o.0 ++ 40 ∷ w) (40 ∷ w) k middle opened) (ap (closed_by (w ++ the_end u q)) (closing_again w (c.byte ∷ t) c.closing));
        no_end = refl;
      }

  -- the same tokens, with other bytes behind the line feed
  record Again (bytes : List ℕ) : Type 0 where
    front : List ℕ
    are : bytes ≡ front ++ the_end u v
    comes : Comes (u ++ 10 ∷ q) (front ++ the_end u q)

  again : {bytes : List ℕ} → Comes (u ++ 10 ∷ v) bytes → Again bytes
  again (here {from = from} s r e) =
      let p = end_reads r e in
      let at : from ≡ the_end u v = word_read from (u ++ 10 ∷ v) (codes "end") p in
      let o = skips_ends s in
      let are = o.1 ∙ ap (λ (y : List ℕ). o.0 ++ y) at in
      record { front = o.0; are = are; comes = here (skips_again o.0 [] s are at) (as_it_is (end_again u v q (sym (ap piece at) ∙ p)) refl) refl }
  again (later {from = from} {rest = rest} s r e h) =
      let a = again h in
      let i = reads_ends r refl in
      let o = skips_ends s in
      let m = i.0 ++ a.front in
      let at : from ≡ m ++ the_end u v = i.1 ∙ ap (λ (y : List ℕ). i.0 ++ y) a.are ∙ sym (append_assoc i.0 a.front (the_end u v)) in
      let are = o.1 ∙ ap (λ (y : List ℕ). o.0 ++ y) at ∙ sym (append_assoc o.0 m (the_end u v)) in
      let n = reads_again m a.front r at a.are e (comes_first h) in
      record { front = o.0 ++ m; are = are; comes = later (skips_again (o.0 ++ m) m s are at) n.reads n.no_end a.comes }

-- What stands behind the word `end` and has a line feed stands behind it still, with more behind it, when more is written.
pub end_stays : (written told more u v : List ℕ) → IsBehindEnd written told → told ≡ u ++ 10 ∷ v → IsBehindEnd (written ++ more) (told ++ more)
end_stays written told more u v b e =
    let c = comes_from b.cut b.ended in
    let same : c.0 ≡ u ++ 10 ∷ v = behind_one written c.0 told (comes_behind c.1) b ∙ e in
    let a = again u v (v ++ more) (subst (λ (x : List ℕ). Comes x written) same c.1) in
    let whole : a.front ++ the_end u (v ++ more) ≡ written ++ more = sym (append_assoc a.front (the_end u v) more ∙ ap (λ (x : List ℕ). a.front ++ (codes "end" ++ x)) (append_assoc u (10 ∷ v) more)) ∙ ap (λ (x : List ℕ). x ++ more) (sym a.are) in
    let rest : u ++ 10 ∷ (v ++ more) ≡ told ++ more = sym (append_assoc u (10 ∷ v) more) ∙ ap (λ (x : List ℕ). x ++ more) (sym e) in
    subst (λ (x : List ℕ). IsBehindEnd x (told ++ more)) whole (subst (IsBehindEnd (a.front ++ the_end u (v ++ more))) rest (comes_behind a.comes))
