-- Whole lines of what stands written are lines of all that was to be written, and a line feed stands behind each.
use Rattle.std.proofs.Common.{◌≡◌, ℕ, Bool, true, false, cond, List, [], ◌∷◌, ◌++◌, refl, sym, ap, ◌∙◌}
use Rattle.std.specs.Prelude.{◌==◌}
use Rattle.std.proofs.lemmas.Bool.{eqb-true}
use Rattle.sp_spec_text.specs.Blanks.{onto_first, lines}

-- ---- whole lines stay

-- a text has a first line
pub some_line : (xs : List ℕ) → (first : List ℕ) × (others : List (List ℕ)) × (lines xs ≡ first ∷ others)
unfolding lines
some_line [] = ([], [], refl)
some_line (b ∷ xs) = at (b == 10) (some_line xs)
  where
    at : (t : Bool) → (first : List ℕ) × (others : List (List ℕ)) × (lines xs ≡ first ∷ others)
        → (first : List ℕ) × (others : List (List ℕ)) × (cond t ([] ∷ lines xs) (onto_first b (lines xs)) ≡ first ∷ others)
    at true s = ([], lines xs, refl)
    at false s = (b ∷ s.0, s.1, rw s.2 refl)

pub whole_stays : (xs ys : List ℕ) (above : List (List ℕ)) (line next : List ℕ) (below : List (List ℕ)) → lines xs ≡ above ++ line ∷ next ∷ below
    → (others : List (List ℕ)) × (lines (xs ++ ys) ≡ above ++ line ∷ others)
unfolding lines
whole_stays [] ys [] line next below e = absurd (let none : ⊥ = cc in none)
whole_stays [] ys (a ∷ []) line next below e = absurd (let none : ⊥ = cc in none)
whole_stays [] ys (a ∷ c ∷ above) line next below e = absurd (let none : ⊥ = cc in none)
whole_stays (b ∷ xs) ys above line next below e = at (b == 10) above e (whole_stays xs ys) (some_line xs)
  where
    at : (t : Bool) (above : List (List ℕ)) → cond t ([] ∷ lines xs) (onto_first b (lines xs)) ≡ above ++ line ∷ next ∷ below
        → ((above : List (List ℕ)) (line next : List ℕ) (below : List (List ℕ)) → lines xs ≡ above ++ line ∷ next ∷ below → (others : List (List ℕ)) × (lines (xs ++ ys) ≡ above ++ line ∷ others))
        → (first : List ℕ) × (others : List (List ℕ)) × (lines xs ≡ first ∷ others)
        → (others : List (List ℕ)) × (cond t ([] ∷ lines (xs ++ ys)) (onto_first b (lines (xs ++ ys))) ≡ above ++ line ∷ others)
    at true [] e h s = let f : [] ≡ line = cc in (lines (xs ++ ys), ap (λ (l : List ℕ). l ∷ lines (xs ++ ys)) f)
    at true (a ∷ above) e h s =
        let f : [] ≡ a = cc in
        let g : lines xs ≡ above ++ line ∷ next ∷ below = cc in
        let k = h above line next below g in
        (k.0, ap (λ (l : List ℕ). l ∷ lines (xs ++ ys)) f ∙ ap (λ (ls : List (List ℕ)). a ∷ ls) k.1)
    at false [] e h s =
        let g : (b ∷ s.0) ∷ s.1 ≡ line ∷ next ∷ below = ap (onto_first b) (sym s.2) ∙ e in
        let f : b ∷ s.0 ≡ line = cc in
        let o : s.1 ≡ next ∷ below = cc in
        let k = h [] s.0 next below (s.2 ∙ ap (λ (ls : List (List ℕ)). s.0 ∷ ls) o) in
        (k.0, ap (onto_first b) k.1 ∙ ap (λ (l : List ℕ). l ∷ k.0) f)
    at false (a ∷ above) e h s =
        let g : (b ∷ s.0) ∷ s.1 ≡ a ∷ above ++ line ∷ next ∷ below = ap (onto_first b) (sym s.2) ∙ e in
        let f : b ∷ s.0 ≡ a = cc in
        let o : s.1 ≡ above ++ line ∷ next ∷ below = cc in
        let k = h (s.0 ∷ above) line next below (s.2 ∙ ap (λ (ls : List (List ℕ)). s.0 ∷ ls) o) in
        (k.0, ap (onto_first b) k.1 ∙ ap (λ (l : List ℕ). l ∷ above ++ line ∷ k.0) f)

-- ---- a line feed stands behind a whole line

-- the bytes before a line feed, and those behind it
pub record HasFeed (text : List ℕ) : Type 0 where
  pub front : List ℕ
  pub behind : List ℕ
  pub are : text ≡ front ++ 10 ∷ behind

feed_later : (b : ℕ) (xs : List ℕ) → HasFeed xs → HasFeed (b ∷ xs)
feed_later b xs h = record { front = b ∷ h.front; behind = h.behind; are = ap (λ (x : List ℕ). b ∷ x) h.are }

pub feed_in : (xs : List ℕ) (above : List (List ℕ)) (line next : List ℕ) (below : List (List ℕ)) → lines xs ≡ above ++ line ∷ next ∷ below → HasFeed xs
unfolding lines
feed_in [] [] line next below e = absurd (let none : ⊥ = cc in none)
feed_in [] (a ∷ []) line next below e = absurd (let none : ⊥ = cc in none)
feed_in [] (a ∷ c ∷ above) line next below e = absurd (let none : ⊥ = cc in none)
feed_in (b ∷ xs) above line next below e = at (b == 10) refl above e (feed_in xs) (some_line xs)
  where
    at : (t : Bool) → (b == 10) ≡ t → (above : List (List ℕ)) → cond t ([] ∷ lines xs) (onto_first b (lines xs)) ≡ above ++ line ∷ next ∷ below
        → ((above : List (List ℕ)) (line next : List ℕ) (below : List (List ℕ)) → lines xs ≡ above ++ line ∷ next ∷ below → HasFeed xs)
        → (first : List ℕ) × (others : List (List ℕ)) × (lines xs ≡ first ∷ others) → HasFeed (b ∷ xs)
    at true d above e h s = record { front = []; behind = xs; are = ap (λ (c : ℕ). c ∷ xs) (eqb-true b 10 d) }
    at false d [] e h s =
        let g : (b ∷ s.0) ∷ s.1 ≡ line ∷ next ∷ below = ap (onto_first b) (sym s.2) ∙ e in
        let o : s.1 ≡ next ∷ below = cc in
        let k = h [] s.0 next below (s.2 ∙ ap (λ (ls : List (List ℕ)). s.0 ∷ ls) o) in
        feed_later b xs k
    at false d (a ∷ above) e h s =
        let g : (b ∷ s.0) ∷ s.1 ≡ a ∷ above ++ line ∷ next ∷ below = ap (onto_first b) (sym s.2) ∙ e in
        let o : s.1 ≡ above ++ line ∷ next ∷ below = cc in
        let k = h (s.0 ∷ above) line next below (s.2 ∙ ap (λ (ls : List (List ℕ)). s.0 ∷ ls) o) in
        feed_later b xs k
