-- Lines are those of one list of steps.
use Rattle.std.proofs.Common.{◌≡◌, ℕ, List, [], ◌∷◌, ◌++◌, length, refl, sym, ap, ◌∙◌, arith}
use Rattle.sp_spec.specs.Signature.{Symbol}
use Rattle.sp_spec.specs.Execution.{Step, make_fresh, use_rule, take_out, put_in, know_public, make_own, apply_symbol}
use Rattle.sp_spec_printed.specs.Printed.{step_text}
use Rattle.sp_spec_printed.specs.StepLines.{HaveNames, IsStepLine, AreSteps, no_line, blank_line, step_line}
use Rattle.sp_spec_text.specs.Blanks.{trimmed}
use Rattle.sp_read_steps.specs.Laws.{StepsAreOne}
use Rattle.sp_read_steps.proofs.One.{step_one}
use Rattle.sp_read_steps.proofs.StepTexts.{step_of_text}

line_one : (symbols : List Symbol) → HaveNames symbols → (line : List ℕ) (s u : Step) → IsStepLine symbols line s → IsStepLine symbols line u → s ≡ u
line_one symbols n line s u h k = step_one (step_of_text symbols n line s h.text h.writable) (step_of_text symbols n line u k.text k.writable)

step_not_blank : (s : Step) → step_text s ≡ [] → ⊥
step_not_blank (make_fresh t) e = cc
step_not_blank (use_rule r given) e = cc
step_not_blank (take_out t) e = cc
step_not_blank (put_in t) e = cc
step_not_blank (know_public t) e = cc
step_not_blank (make_own t) e = cc
step_not_blank (apply_symbol f ts) e = cc

steps_one : (symbols : List Symbol) → HaveNames symbols → {all : List (List ℕ)} {xs ys : List Step} → AreSteps symbols all xs → AreSteps symbols all ys → xs ≡ ys
steps_one symbols n no_line no_line = refl
steps_one symbols n (blank_line e h) (blank_line f k) = steps_one symbols n h k
steps_one symbols n (blank_line e h) (step_line {s = s} l k) = absurd (step_not_blank s (sym l.text ∙ e))
steps_one symbols n (step_line {s = s} l h) (blank_line f k) = absurd (step_not_blank s (sym l.text ∙ f))
steps_one symbols n (step_line {line = line} {s = s} {steps = xs} l h) (step_line {s = u} m k) =
    ap (λ (x : Step). x ∷ xs) (line_one symbols n (trimmed line) s u l m) ∙ ap (λ (us : List Step). u ∷ us) (steps_one symbols n h k)

-- a line that is no step's is none of those
not_among : (symbols : List Symbol) (line : List ℕ) → (trimmed line ≡ [] → ⊥) → ((s : Step) → IsStepLine symbols (trimmed line) s → ⊥) → (front back : List (List ℕ)) (xs : List Step) → AreSteps symbols (front ++ line ∷ back) xs → ⊥
not_among symbols line b u [] back xs (blank_line e h) = b e
not_among symbols line b u [] back xs (step_line {s = s} l h) = u s l
not_among symbols line b u (first ∷ front) back xs (blank_line {steps = ys} e h) = not_among symbols line b u front back ys h
not_among symbols line b u (first ∷ front) back xs (step_line {steps = ys} l h) = not_among symbols line b u front back ys h

-- the first unread line is not before the other
first_unread : (symbols : List Symbol) (front other : List (List ℕ)) (line further : List ℕ) (back rest : List (List ℕ)) (xs ys : List Step)
    → front ++ line ∷ back ≡ other ++ further ∷ rest → AreSteps symbols front xs → AreSteps symbols other ys
    → (trimmed line ≡ [] → ⊥) → ((s : Step) → IsStepLine symbols (trimmed line) s → ⊥) → (trimmed further ≡ [] → ⊥) → ((s : Step) → IsStepLine symbols (trimmed further) s → ⊥) → length front ≡ length other
first_unread symbols [] [] line further back rest xs ys e h k a b c d = refl
first_unread symbols [] (o ∷ other) line further back rest xs ys e h k a b c d = absurd (let i : o ≡ line = cc in at k i)
  where
    at : {zs : List Step} → AreSteps symbols (o ∷ other) zs → o ≡ line → ⊥
    at (blank_line f m) i = a (ap trimmed (sym i) ∙ f)
    at (step_line {s = s} l m) i = b s (rw (← i) l)
first_unread symbols (f ∷ front) [] line further back rest xs ys e h k a b c d = absurd (let i : f ≡ further = cc in at h i)
  where
    at : {zs : List Step} → AreSteps symbols (f ∷ front) zs → f ≡ further → ⊥
    at (blank_line g m) i = c (ap trimmed (sym i) ∙ g)
    at (step_line {s = s} l m) i = d s (rw (← i) l)
first_unread symbols (f ∷ front) (o ∷ other) line further back rest xs ys e h k a b c d =
    let t : front ++ line ∷ back ≡ other ++ further ∷ rest = cc in
    let i = tail_of h in
    let j = tail_of k in
    let n = first_unread symbols front other line further back rest i.0 j.0 t i.1 j.1 a b c d in
    omega arith
  where
    tail_of : {l : List ℕ} {ls : List (List ℕ)} {zs : List Step} → AreSteps symbols (l ∷ ls) zs → (ws : List Step) × AreSteps symbols ls ws
    tail_of (blank_line {steps = ws} g m) = (ws, m)
    tail_of (step_line {steps = ws} g m) = (ws, m)

pub steps_are_one : StepsAreOne
steps_are_one = record {
  one = λ symbols n all xs ys h k. steps_one symbols n h k;
  apart = λ symbols n all xs m h u. not_among symbols u.line u.not_blank u.no_step u.front u.back xs (rw (← u.parts) h);
  one_unread = λ symbols n all i j h k.
      let e = first_unread symbols h.front k.front h.line k.line h.back k.back h.steps k.steps (sym h.parts ∙ k.parts) h.read k.read h.not_blank h.no_step k.not_blank k.no_step in
      omega (arith, h.counted, k.counted);
}
