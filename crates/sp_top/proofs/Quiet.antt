-- No line of a text ends with a closing bracket, as each line of a verdict does, where no line feed stands directly behind one.
use Rattle.std.proofs.Common.{◌≡◌, ℕ, zero, suc, Bool, true, false, cond, List, [], ◌∷◌, ◌++◌, take, drop, codes, refl, sym, ap, subst, ◌∙◌, true≢false}
use Rattle.std.specs.Prelude.{decimal, ◌==◌, ◌&&◌}
use Rattle.std.proofs.lemmas.Bool.{eqb-true}
use Rattle.sp_spec.specs.Lists.{Every}
use Rattle.sp_spec_text.specs.Blanks.{onto_first, lines}
use Rattle.sp_law_printed_log.proofs.NoFeeds.{NoFeed}
use Rattle.sp_wf.specs.Report.{text_of}
use Rattle.sp_top.proofs.PlainNames.{IsPlain, plain_in}
use Rattle.sp_top.proofs.WholeLines.{some_line}

-- no line feed stands directly behind a closing bracket, be that one of the text or one before it
abbrev pub calm_after : Bool → List ℕ → Type 0
calm_after closed [] = Unit {0}
calm_after closed (b ∷ bytes) = ((closed && (b == 10)) ≡ false) × calm_after (b == 41) bytes

-- whether a closing bracket stands last, or before a text that is empty
abbrev pub closes : Bool → List ℕ → Bool
closes closed [] = closed
closes closed (b ∷ bytes) = closes (b == 41) bytes

abbrev pub IsCalm : List ℕ → Type 0
IsCalm bytes = calm_after false bytes

-- ---- what is cut off at either end

pub calm_first : (closed : Bool) (n : ℕ) (xs : List ℕ) → calm_after closed xs → calm_after closed (take n xs)
calm_first closed zero xs h = tt
calm_first closed (suc n) [] h = tt
calm_first closed (suc n) (b ∷ xs) h = (h.0, calm_first (b == 41) n xs h.1)

calm_alone : (closed : Bool) (xs : List ℕ) → calm_after closed xs → IsCalm xs
calm_alone closed [] h = tt
calm_alone closed (b ∷ xs) h = (refl, h.1)

pub calm_behind : (closed : Bool) (n : ℕ) (xs : List ℕ) → calm_after closed xs → IsCalm (drop n xs)
calm_behind closed zero xs h = calm_alone closed xs h
calm_behind closed (suc n) [] h = tt
calm_behind closed (suc n) (b ∷ xs) h = calm_behind (b == 41) n xs h.1

-- ---- texts that follow one another

calm_append : (closed : Bool) (xs ys : List ℕ) → calm_after closed xs → calm_after (closes closed xs) ys → calm_after closed (xs ++ ys)
calm_append closed [] ys h k = k
calm_append closed (b ∷ xs) ys h k = (h.0, calm_append (b == 41) xs ys h.1 k)

closes_append : (closed : Bool) (xs ys : List ℕ) → closes closed (xs ++ ys) ≡ closes (closes closed xs) ys
closes_append closed [] ys = refl
closes_append closed (b ∷ xs) ys = closes_append (b == 41) xs ys

-- calm, and no closing bracket stands last, so a calm text may follow
pub record IsQuiet (text : List ℕ) : Type 0 where
  pub calm : IsCalm text
  pub open_ended : closes false text ≡ false

pub quiet_append : (xs ys : List ℕ) → IsQuiet xs → IsQuiet ys → IsQuiet (xs ++ ys)
quiet_append xs ys h k = record {
  calm = calm_append false xs ys h.calm (subst (λ (t : Bool). calm_after t ys) (sym h.open_ended) k.calm);
  open_ended = closes_append false xs ys ∙ ap (λ (t : Bool). closes t ys) h.open_ended ∙ k.open_ended;
}

plain_calm : (xs : List ℕ) → IsPlain xs → IsCalm xs
plain_calm [] h = tt
plain_calm (b ∷ xs) h = (refl, subst (λ (t : Bool). calm_after t xs) (sym h.0) (plain_calm xs h.1))

plain_open : (xs : List ℕ) → IsPlain xs → closes false xs ≡ false
plain_open [] h = refl
plain_open (b ∷ xs) h = ap (λ (t : Bool). closes t xs) h.0 ∙ plain_open xs h.1

pub quiet_plain : (xs : List ℕ) → IsPlain xs → IsQuiet xs
quiet_plain xs h = record { calm = plain_calm xs h; open_ended = plain_open xs h }

no_feed_after : (closed : Bool) (b : ℕ) → (b == 10) ≡ false → (closed && (b == 10)) ≡ false
no_feed_after true b h = h
no_feed_after false b h = refl

-- a text without line feeds may have closing brackets where a quote follows
calm_quoted : (closed : Bool) (c ys : List ℕ) → NoFeed c → IsCalm ys → calm_after closed (c ++ 39 ∷ ys)
calm_quoted closed [] ys h k = (no_feed_after closed 39 refl, k)
calm_quoted closed (b ∷ c) ys h k = (no_feed_after closed b h.0, calm_quoted (b == 41) c ys h.1 k)

pub quiet_quoted : (c ys : List ℕ) → NoFeed c → IsQuiet ys → IsQuiet (c ++ 39 ∷ ys)
quiet_quoted c ys h k = record { calm = calm_quoted false c ys h k.calm; open_ended = closes_append false c (39 ∷ ys) ∙ k.open_ended }

pub quiet_text : (ls : List (List ℕ)) → Every IsQuiet ls → IsQuiet (text_of ls)
quiet_text [] e = quiet_plain [] tt
quiet_text (l ∷ ls) e = quiet_append l (codes "\n" ++ text_of ls) e.0 (quiet_append (codes "\n") (text_of ls) (quiet_plain (codes "\n") (plain_in (codes "\n") refl)) (quiet_text ls e.1))

-- ---- lines

-- whether a closing bracket stands before a line: before the first there may be one
abbrev closed_before : List (List ℕ) → Bool → Bool
closed_before [] closed = closed
closed_before (a ∷ above) closed = false

none_before : (above : List (List ℕ)) (closed : Bool) → closed ≡ false → closed_before above closed ≡ false
none_before [] closed h = h
none_before (a ∷ above) closed h = refl

not_closed : (closed t : Bool) → t ≡ true → (closed && t) ≡ false → closed ≡ false
not_closed true t e h = absurd (true≢false (sym e ∙ h))
not_closed false t e h = refl

-- no line with another below it ends with a closing bracket
line_open : (xs : List ℕ) (closed : Bool) → calm_after closed xs → (above : List (List ℕ)) (line next : List ℕ) (below : List (List ℕ)) → lines xs ≡ above ++ line ∷ next ∷ below
    → closes (closed_before above closed) line ≡ false
unfolding lines
line_open [] closed k [] line next below e = absurd (let none : ⊥ = cc in none)
line_open [] closed k (a ∷ []) line next below e = absurd (let none : ⊥ = cc in none)
line_open [] closed k (a ∷ c ∷ above) line next below e = absurd (let none : ⊥ = cc in none)
line_open (b ∷ xs) closed k above line next below e = at (b == 10) refl above e (line_open xs (b == 41) k.1) (some_line xs)
  where
    at : (t : Bool) → (b == 10) ≡ t → (above : List (List ℕ)) → cond t ([] ∷ lines xs) (onto_first b (lines xs)) ≡ above ++ line ∷ next ∷ below
        → ((above : List (List ℕ)) (line next : List ℕ) (below : List (List ℕ)) → lines xs ≡ above ++ line ∷ next ∷ below → closes (closed_before above (b == 41)) line ≡ false)
        → (first : List ℕ) × (others : List (List ℕ)) × (lines xs ≡ first ∷ others) → closes (closed_before above closed) line ≡ false
    at true d [] e h s =
        let f : [] ≡ line = cc in
        subst (λ (l : List ℕ). closes closed l ≡ false) f (not_closed closed (b == 10) d k.0)
    at true d (a ∷ above) e h s =
        let g : lines xs ≡ above ++ line ∷ next ∷ below = cc in
        let feed : (b == 41) ≡ false = ap (λ (c : ℕ). c == 41) (eqb-true b 10 d) in
        ap (λ (t : Bool). closes t line) (sym (none_before above (b == 41) feed)) ∙ h above line next below g
    at false d [] e h s =
        let g : (b ∷ s.0) ∷ s.1 ≡ line ∷ next ∷ below = ap (onto_first b) (sym s.2) ∙ e in
        let o : s.1 ≡ next ∷ below = cc in
        let f : b ∷ s.0 ≡ line = cc in
        subst (λ (l : List ℕ). closes closed l ≡ false) f (h [] s.0 next below (s.2 ∙ ap (λ (ls : List (List ℕ)). s.0 ∷ ls) o))
    at false d (a ∷ above) e h s =
        let g : (b ∷ s.0) ∷ s.1 ≡ a ∷ above ++ line ∷ next ∷ below = ap (onto_first b) (sym s.2) ∙ e in
        let o : s.1 ≡ above ++ line ∷ next ∷ below = cc in
        h (s.0 ∷ above) line next below (s.2 ∙ ap (λ (ls : List (List ℕ)). s.0 ∷ ls) o)

-- whatever stands before the number of steps
steps_close : (closed : Bool) (front : List ℕ) (n : ℕ) → closes closed (front ++ (decimal n ++ codes " steps)")) ≡ true
steps_close closed front n = closes_append closed front (decimal n ++ codes " steps)") ∙ closes_append (closes closed front) (decimal n) (codes " steps)")

verdict_closes : (closed : Bool) (name said : List ℕ) (n : ℕ) → closes closed (name ++ (said ++ (decimal n ++ codes " steps)"))) ≡ true
verdict_closes closed name said n = closes_append closed name (said ++ (decimal n ++ codes " steps)")) ∙ steps_close (closes closed name) said n

pub no_verdict_line : (xs : List ℕ) → IsCalm xs → (above : List (List ℕ)) (name said : List ℕ) (n : ℕ) (next : List ℕ) (below : List (List ℕ))
    → lines xs ≡ above ++ (name ++ (said ++ (decimal n ++ codes " steps)"))) ∷ next ∷ below → ⊥
no_verdict_line xs h above name said n next below e =
    true≢false (sym (verdict_closes (closed_before above false) name said n) ∙ line_open xs false h above (name ++ (said ++ (decimal n ++ codes " steps)"))) next below e)
