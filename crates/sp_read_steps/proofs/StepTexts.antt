-- What is read of a line is the step that prints as it.
use Rattle.std.proofs.Common.{◌≡◌, ℕ, ◌<◌, List, [], ◌∷◌, ◌++◌, length, true, codes, refl, ap, subst, ◌∙◌, append-nil, arith}
use Rattle.sp_spec_text.specs.Lex.{skip}
use Rattle.sp_spec.specs.Lists.{Every}
use Rattle.sp_spec.specs.Term.{Ground}
use Rattle.sp_spec.specs.Signature.{Symbol}
use Rattle.sp_spec.specs.Execution.{Step, make_fresh, use_rule, take_out, put_in, know_public, make_own, apply_symbol}
use Rattle.sp_spec_printed.specs.Printed.{term_text, given_text, more_given_text, step_text}
use Rattle.sp_read_steps.specs.declared.parts.Kind.{Kind}
use Rattle.sp_read_steps.specs.declared.parts.Kind.TheVariants as kind
use Rattle.sp_spec_printed.specs.StepLines.{HaveNames, IsWritable, IsGiven, IsWritableStep, IsStepLine}
use Rattle.sp_read_steps.specs.Reading.{ends, kind_text, step_over, Reads, ReadsGiven, read_given, ReadsValues, last_value, next_value, ReadsRule, no_values, with_values, ReadsApplication, ReadsStep, read_rule, read_application, read_term}
use Rattle.sp_read_steps.proofs.Words.{Stops, named_is, named_parts, named_before}
use Rattle.sp_read_steps.proofs.Heads.{TextAt}
use Rattle.sp_read_steps.proofs.Spoken.{reads_text}
use Rattle.sp_read_steps.proofs.Written.{is_read}
use Rattle.sp_read_steps.proofs.ApplicationTexts.{application_at, application_read}

-- a value, and what stands behind it
abbrev value_text : List ℕ × Ground → List ℕ → List ℕ
value_text g rest = g.0 ++ (codes " = " ++ (term_text g.1 ++ rest))

abbrev values_text : List (List ℕ × Ground) → List ℕ
values_text [] = []
values_text (g ∷ gs) = value_text g (more_given_text gs)

-- ---- from what is read to the text

record GivenAt (symbols : List Symbol) (bytes : List ℕ) (g : List ℕ × Ground) (rest : List ℕ) : Type 0 where
  parts : bytes ≡ value_text g rest
  is : IsGiven symbols g

given_at : (symbols : List Symbol) {bytes rest : List ℕ} {g : List ℕ × Ground} → ReadsGiven symbols bytes g rest → GivenAt symbols bytes g rest
given_at symbols (read_given {bytes} {x} {mid} {rest} {t} n k) =
    let one = reads_text symbols k in
    record {
      parts = named_parts bytes x (32 ∷ 61 ∷ 32 ∷ mid) n ∙ ap (λ (xs : List ℕ). x ++ 32 ∷ 61 ∷ 32 ∷ xs) one.parts;
      is = (named_is bytes x (32 ∷ 61 ∷ 32 ∷ mid) n, one.writable);
    }

record ValuesAt (symbols : List Symbol) (bytes : List ℕ) (gs : List (List ℕ × Ground)) : Type 0 where
  some : 0 < length gs
  parts : bytes ≡ values_text gs
  are : Every (IsGiven symbols) gs

more_values : (gs : List (List ℕ × Ground)) → 0 < length gs → 44 ∷ 32 ∷ values_text gs ≡ more_given_text gs
more_values [] h = absurd (let none : ⊥ = omega arith in none)
more_values (g ∷ gs) h = refl

values_at : (symbols : List Symbol) {bytes rest : List ℕ} {gs : List (List ℕ × Ground)} → ReadsValues symbols bytes gs rest → ValuesAt symbols bytes gs
values_at symbols (last_value k) = let one = given_at symbols k in record { some = omega arith; parts = one.parts; are = (one.is, tt) }
values_at symbols (next_value {g = g} {gs = gs} k l) =
    let one = given_at symbols k in
    let two = values_at symbols l in
    record {
      some = omega arith;
      parts = one.parts ∙ ap (λ (xs : List ℕ). value_text g (44 ∷ 32 ∷ xs)) two.parts ∙ ap (value_text g) (more_values gs two.some);
      are = (one.is, two.are);
    }

given_of_values : (gs : List (List ℕ × Ground)) → 0 < length gs → 32 ∷ values_text gs ≡ given_text gs
given_of_values [] h = absurd (let none : ⊥ = omega arith in none)
given_of_values (g ∷ gs) h = refl

rule_line : (symbols : List Symbol) {behind rest : List ℕ} {s : Step} → ReadsRule symbols behind s rest → (bytes : List ℕ) → bytes ≡ codes "rule " ++ behind → IsStepLine symbols bytes s
rule_line symbols (no_values {bytes = b} {r = r} n) bytes e = record {
  text = e ∙ ap (λ (xs : List ℕ). codes "rule " ++ xs) (named_parts b r (58 ∷ []) n);
  writable = (named_is b r (58 ∷ []) n, tt);
}
rule_line symbols (with_values {bytes = b} {r = r} {mid = mid} {gs = gs} n k) bytes e =
    let v = values_at symbols k in
    record {
      text = e ∙ ap (λ (xs : List ℕ). codes "rule " ++ xs) (named_parts b r (58 ∷ 32 ∷ mid) n
          ∙ ap (λ (xs : List ℕ). r ++ 58 ∷ xs) (ap (λ (xs : List ℕ). 32 ∷ xs) v.parts ∙ given_of_values gs v.some));
      writable = (named_is b r (58 ∷ 32 ∷ mid) n, v.are);
    }

application_line : (symbols : List Symbol) {behind rest : List ℕ} {s : Step} → ReadsApplication symbols behind s rest → (bytes : List ℕ) → bytes ≡ codes "make " ++ behind → IsStepLine symbols bytes s
application_line symbols {s = s} k bytes e =
    let a = application_at symbols k in
    subst (IsStepLine symbols bytes) a.is (record { text = e ∙ ap (λ (xs : List ℕ). codes "make " ++ xs) a.parts; writable = a.writable })

over_line : (symbols : List Symbol) (k : Kind) (bytes behind : List ℕ) (t : Ground) → bytes ≡ kind_text k ++ behind → TextAt symbols behind t [] → IsStepLine symbols bytes (step_over k t)
over_line symbols kind.Fresh bytes behind t e a = record { text = e ∙ ap (λ (xs : List ℕ). codes "fresh " ++ xs) (a.parts ∙ append-nil (term_text t)); writable = a.writable }
over_line symbols kind.Out bytes behind t e a = record { text = e ∙ ap (λ (xs : List ℕ). codes "out " ++ xs) (a.parts ∙ append-nil (term_text t)); writable = a.writable }
over_line symbols kind.In bytes behind t e a = record { text = e ∙ ap (λ (xs : List ℕ). codes "in " ++ xs) (a.parts ∙ append-nil (term_text t)); writable = a.writable }
over_line symbols kind.Public bytes behind t e a = record { text = e ∙ ap (λ (xs : List ℕ). codes "pub " ++ xs) (a.parts ∙ append-nil (term_text t)); writable = a.writable }
over_line symbols kind.Own bytes behind t e a = record { text = e ∙ ap (λ (xs : List ℕ). codes "own " ++ xs) (a.parts ∙ append-nil (term_text t)); writable = a.writable }

pub line_of_step : (symbols : List Symbol) {bytes rest : List ℕ} {s : Step} → ReadsStep symbols bytes s rest → IsStepLine symbols bytes s
line_of_step symbols (read_rule {bytes} e k) = rule_line symbols k bytes e
line_of_step symbols (read_application {bytes} e k) = application_line symbols k bytes e
line_of_step symbols (read_term {bytes} {behind} k {t} e r) = over_line symbols k bytes behind t e (reads_text symbols r)

-- ---- from the text to what is read

stops_space : (rest : List ℕ) → Stops (32 ∷ rest)
unfolding skip
stops_space rest = record { no_digit = refl; skipped = refl }

stops_colon : (rest : List ℕ) → Stops (58 ∷ rest)
unfolding skip
stops_colon rest = record { no_digit = refl; skipped = refl }

given_is_read : (symbols : List Symbol) → HaveNames symbols → (g : List ℕ × Ground) (rest : List ℕ) → IsGiven symbols g → ends rest ≡ true → ReadsGiven symbols (value_text g rest) g rest
given_is_read symbols s g rest w e = read_given (named_before g.0 (32 ∷ 61 ∷ 32 ∷ (term_text g.1 ++ rest)) w.0 (stops_space (61 ∷ 32 ∷ (term_text g.1 ++ rest)))) ((is_read symbols s g.1 w.1).at_end rest e)

values_are_read : (symbols : List Symbol) → HaveNames symbols → (g : List ℕ × Ground) (gs : List (List ℕ × Ground)) → Every (IsGiven symbols) (g ∷ gs) → ReadsValues symbols (values_text (g ∷ gs)) (g ∷ gs) []
values_are_read symbols s g [] w = last_value (given_is_read symbols s g [] w.0 refl)
values_are_read symbols s g (h ∷ gs) w = next_value (given_is_read symbols s g (44 ∷ 32 ∷ values_text (h ∷ gs)) w.0 refl) (values_are_read symbols s h gs w.1)

whole_read : (symbols : List Symbol) → HaveNames symbols → (t : Ground) → IsWritable symbols t → Reads symbols (term_text t) t []
whole_read symbols s t w = subst (λ (xs : List ℕ). Reads symbols xs t []) (append-nil (term_text t)) ((is_read symbols s t w).at_end [] refl)

pub step_of_text : (symbols : List Symbol) → HaveNames symbols → (bytes : List ℕ) (s : Step) → bytes ≡ step_text s → IsWritableStep symbols s → ReadsStep symbols bytes s []
step_of_text symbols h bytes (make_fresh t) e w = read_term kind.Fresh e (whole_read symbols h t w)
step_of_text symbols h bytes (use_rule r []) e w = read_rule e (no_values (named_before r (58 ∷ []) w.0 (stops_colon [])))
step_of_text symbols h bytes (use_rule r (g ∷ gs)) e w =
    read_rule e (with_values (named_before r (58 ∷ 32 ∷ values_text (g ∷ gs)) w.0 (stops_colon (32 ∷ values_text (g ∷ gs)))) (values_are_read symbols h g gs w.1))
step_of_text symbols h bytes (take_out t) e w = read_term kind.Out e (whole_read symbols h t w)
step_of_text symbols h bytes (put_in t) e w = read_term kind.In e (whole_read symbols h t w)
step_of_text symbols h bytes (know_public t) e w = read_term kind.Public e (whole_read symbols h t w)
step_of_text symbols h bytes (make_own t) e w = read_term kind.Own e (whole_read symbols h t w)
step_of_text symbols h bytes (apply_symbol f ts) e w = read_application e (application_read symbols h f ts w.0 w.1)
