-- Bytes are read in one way.
use Rattle.std.proofs.Common.{◌≡◌, ℕ, List, [], ◌∷◌, Some, None, sym, ap, subst, ◌∙◌, arith}
use Rattle.sp_spec.specs.Term.{Ground}
use Rattle.sp_spec.specs.Signature.{Symbol}
use Rattle.sp_spec.specs.Execution.{Step}
use Rattle.sp_read_steps.specs.declared.parts.Kind.{Kind}
use Rattle.sp_read_steps.specs.Reading.{whole, over, opened, nothing, head, applied, paired, Reads, read_whole, read_over, read_pair, ReadsRow, last_term, next_term, NoReading, ReadsGiven, read_given, ReadsValues, last_value, next_value, ReadsRule, no_values, with_values, named, unpaired, pairing, ReadsApplication, no_terms, with_terms, with_parts, step_over, ReadsStep, read_rule, read_application, read_term}
use Rattle.sp_read_steps.proofs.Found.{some_both}
use Rattle.sp_read_steps.proofs.FirstWords.{kinds_one, no_rule, no_make, rule_no_make}

pub at_nothing : {symbols : List Symbol} {bytes q : List ℕ} {u : Ground} → Reads symbols bytes u q → head symbols bytes ≡ nothing → ⊥
at_nothing (read_whole e) h = cc
at_nothing (read_over e k a) h = cc
at_nothing (read_pair e k a) h = cc

pub at_whole : {symbols : List Symbol} {bytes q r : List ℕ} {t u : Ground} → Reads symbols bytes u q → head symbols bytes ≡ whole t r → (t ≡ u) × (r ≡ q)
at_whole (read_whole e) h = (cc, cc)
at_whole (read_over e k a) h = absurd (let none : ⊥ = cc in none)
at_whole (read_pair e k a) h = absurd (let none : ⊥ = cc in none)

-- terms in brackets behind a symbol
pub record Over (symbols : List Symbol) (f inside : List ℕ) (t : Ground) (rest : List ℕ) : Type 0 where
  pub terms : List Ground
  pub in_brackets : ReadsRow symbols 41 inside terms rest
  pub is : applied symbols f terms rest ≡ Some t

pub at_over : {symbols : List Symbol} {bytes q f inside : List ℕ} {u : Ground} → Reads symbols bytes u q → head symbols bytes ≡ over f inside → Over symbols f inside u q
at_over (read_whole e) h = absurd (let none : ⊥ = cc in none)
at_over {symbols} {q = q} {f = f} {inside = inside} {u = u} (read_over {inside = i} {f = g} {ts = ts} e k a) h =
    let d : g ≡ f = cc in
    let j : i ≡ inside = cc in
    record { terms = ts; in_brackets = subst (λ (b : List ℕ). ReadsRow symbols 41 b ts q) j k; is = subst (λ (b : List ℕ). applied symbols b ts q ≡ Some u) d a }
at_over (read_pair e k a) h = absurd (let none : ⊥ = cc in none)

-- terms in the brackets of a pair
pub record Paired (symbols : List Symbol) (inside : List ℕ) (t : Ground) (rest : List ℕ) : Type 0 where
  pub terms : List Ground
  pub in_brackets : ReadsRow symbols 62 inside terms rest
  pub is : paired symbols terms rest ≡ Some t

pub at_pair : {symbols : List Symbol} {bytes q inside : List ℕ} {u : Ground} → Reads symbols bytes u q → head symbols bytes ≡ opened inside → Paired symbols inside u q
at_pair (read_whole e) h = absurd (let none : ⊥ = cc in none)
at_pair (read_over e k a) h = absurd (let none : ⊥ = cc in none)
at_pair {symbols} {q = q} {inside = inside} (read_pair {inside = i} {ts = ts} e k a) h =
    let j : i ≡ inside = cc in
    record { terms = ts; in_brackets = subst (λ (b : List ℕ). ReadsRow symbols 62 b ts q) j k; is = a }

mutual
  pub reads_one : {symbols : List Symbol} {bytes r q : List ℕ} {t u : Ground} → Reads symbols bytes t r → Reads symbols bytes u q → (t ≡ u) × (r ≡ q)
  reads_one (read_whole e) h = at_whole h e
  reads_one {symbols} {t = t} {u = u} (read_over {f = f} e k a) h =
      let o = at_over h e in
      let s = row_one (λ c. let none : ⊥ = omega arith in none) k o.in_brackets in
      let b = rw (s.0, s.1) at a in
      (cc (b, o.is), s.1)
  reads_one {symbols} (read_pair e k a) h =
      let o = at_pair h e in
      let s = row_one (λ c. let none : ⊥ = omega arith in none) k o.in_brackets in
      let b = rw (s.0, s.1) at a in
      (cc (b, o.is), s.1)

  pub row_one : {symbols : List Symbol} {close : ℕ} {bytes r q : List ℕ} {ts us : List Ground} → (close ≡ 44 → ⊥) → ReadsRow symbols close bytes ts r → ReadsRow symbols close bytes us q → (ts ≡ us) × (r ≡ q)
  row_one d (last_term h) (last_term k) = let o = reads_one h k in (cc, cc)
  row_one d (last_term h) (next_term k l) = let o = reads_one h k in absurd (d cc)
  row_one d (next_term h m) (last_term k) = let o = reads_one h k in absurd (d cc)
  row_one {symbols} {close} {q = q} d (next_term {mid = i} h m) (next_term {mid = j} {ts = us} k l) =
      let o = reads_one h k in
      let e : j ≡ i = cc in
      let s = row_one d m (subst (λ (b : List ℕ). ReadsRow symbols close b us q) e l) in
      (cc, s.1)

-- ---- where nothing is read

pub over_not : {symbols : List Symbol} {bytes f inside rest : List ℕ} {ts : List Ground} → head symbols bytes ≡ over f inside → ReadsRow symbols 41 inside ts rest → applied symbols f ts rest ≡ None → NoReading (Reads symbols) bytes
over_not h row a = record {
  none_read = λ x r k.
      let o = at_over k h in
      let s = row_one (λ c. let none : ⊥ = omega arith in none) row o.in_brackets in
      let b = rw (s.0, s.1) at a in
      let none : ⊥ = cc (b, o.is) in none;
}

pub pair_not : {symbols : List Symbol} {bytes inside rest : List ℕ} {ts : List Ground} → head symbols bytes ≡ opened inside → ReadsRow symbols 62 inside ts rest → paired symbols ts rest ≡ None → NoReading (Reads symbols) bytes
pair_not h row a = record {
  none_read = λ x r k.
      let o = at_pair k h in
      let s = row_one (λ c. let none : ⊥ = omega arith in none) row o.in_brackets in
      let b = rw (s.0, s.1) at a in
      let none : ⊥ = cc (b, o.is) in none;
}

-- ---- steps

pub given_one : {symbols : List Symbol} {bytes r q : List ℕ} {g h : List ℕ × Ground} → ReadsGiven symbols bytes g r → ReadsGiven symbols bytes h q → (g ≡ h) × (r ≡ q)
given_one {symbols} {q = q} (read_given {x = x} {mid = i} {t = t} n k) (read_given {x = y} {mid = j} {t = u} m l) =
    let s = some_both (sym n ∙ m) in
    let e : j ≡ i = cc (s.1) in
    let o = reads_one k (subst (λ (b : List ℕ). Reads symbols b u q) e l) in
    (ap (λ (w : List ℕ). (w, t)) s.0 ∙ ap (λ (v : Ground). (y, v)) o.0, o.1)

pub values_one : {symbols : List Symbol} {bytes r q : List ℕ} {gs hs : List (List ℕ × Ground)} → ReadsValues symbols bytes gs r → ReadsValues symbols bytes hs q → gs ≡ hs
values_one (last_value k) (last_value l) = let o = given_one k l in cc
values_one (last_value k) (next_value l m) = let o = given_one k l in absurd (let none : ⊥ = cc in none)
values_one (next_value k m) (last_value l) = let o = given_one k l in absurd (let none : ⊥ = cc in none)
values_one {symbols} {q = q} (next_value {mid = i} k m) (next_value {mid = j} {gs = hs} l n) =
    let o = given_one k l in
    let e : j ≡ i = cc in
    let v = values_one m (subst (λ (b : List ℕ). ReadsValues symbols b hs q) e n) in
    cc

pub rule_one : {symbols : List Symbol} {bytes r q : List ℕ} {s u : Step} → ReadsRule symbols bytes s r → ReadsRule symbols bytes u q → s ≡ u
rule_one (no_values n) (no_values m) = let s = some_both (sym n ∙ m) in cc
rule_one (no_values n) (with_values m k) = let s = some_both (sym n ∙ m) in absurd (let none : ⊥ = cc in none)
rule_one (with_values n k) (no_values m) = let s = some_both (sym n ∙ m) in absurd (let none : ⊥ = cc in none)
rule_one {symbols} (with_values {mid = i} n k) (with_values {mid = j} {gs = hs} m l) =
    let s = some_both (sym n ∙ m) in
    let e : j ≡ i = cc in
    let v = values_one k (subst (λ (b : List ℕ). ReadsValues symbols b hs []) e l) in
    cc

-- no name begins with the bracket of a pair
pub no_name_opens : {bytes inside : List ℕ} {w : List ℕ × List ℕ} → named bytes ≡ Some w → bytes ≡ 60 ∷ inside → ⊥
no_name_opens n e = let none = sym n ∙ ap named e in cc

pub application_one : {symbols : List Symbol} {bytes r q : List ℕ} {s u : Step} → ReadsApplication symbols bytes s r → ReadsApplication symbols bytes u q → s ≡ u
application_one (no_terms n) (no_terms m) = let s = some_both (sym n ∙ m) in cc
application_one (no_terms n) (with_terms m k a) = let s = some_both (sym n ∙ m) in absurd (let none : ⊥ = cc in none)
application_one (no_terms n) (with_parts e k a) = absurd (no_name_opens n e)
application_one (with_terms n k a) (no_terms m) = let s = some_both (sym n ∙ m) in absurd (let none : ⊥ = cc in none)
application_one {symbols} {u = u} (with_terms {f = f} {inside = i} {ts = ts} n k a) (with_terms {f = g} {inside = j} {ts = us} m l b) =
    let s = some_both (sym n ∙ m) in
    let e : j ≡ i = cc in
    let o = row_one (λ c. let none : ⊥ = omega arith in none) k (subst (λ (x : List ℕ). ReadsRow symbols 41 x us []) e l) in
    let c : unpaired f ts ≡ Some u = ap (λ (x : List ℕ). unpaired x ts) s.0 ∙ ap (unpaired g) o.0 ∙ b in
    cc
application_one (with_terms n k a) (with_parts e l b) = absurd (no_name_opens n e)
application_one (with_parts e k a) (no_terms m) = absurd (no_name_opens m e)
application_one (with_parts e k a) (with_terms m l b) = absurd (no_name_opens m e)
application_one {symbols} {u = u} (with_parts {inside = i} {ts = ts} e k a) (with_parts {inside = j} {ts = us} f l b) =
    let g : j ≡ i = cc in
    let o = row_one (λ c. let none : ⊥ = omega arith in none) k (subst (λ (x : List ℕ). ReadsRow symbols 62 x us []) g l) in
    let c : pairing symbols ts ≡ Some u = ap (pairing symbols) o.0 ∙ b in
    cc

pub step_one : {symbols : List Symbol} {bytes r q : List ℕ} {s u : Step} → ReadsStep symbols bytes s r → ReadsStep symbols bytes u q → s ≡ u
step_one {symbols} {u = u} (read_rule {behind = a} e k) (read_rule {behind = b} f l) =
    let h : b ≡ a = cc in
    rule_one k (subst (λ (x : List ℕ). ReadsRule symbols x u []) h l)
step_one (read_rule {behind = a} e k) (read_term {behind = b} j f l) = absurd (no_rule j a b (sym e ∙ f))
step_one (read_rule {behind = a} e k) (read_application {behind = b} f l) = absurd (rule_no_make a b (sym e ∙ f))
step_one (read_application {behind = a} e k) (read_rule {behind = b} f l) = absurd (rule_no_make b a (sym f ∙ e))
step_one {symbols} {u = u} (read_application {behind = a} e k) (read_application {behind = b} f l) =
    let h : b ≡ a = cc in
    application_one k (subst (λ (x : List ℕ). ReadsApplication symbols x u []) h l)
step_one (read_application {behind = a} e k) (read_term {behind = b} j f l) = absurd (no_make j a b (sym e ∙ f))
step_one (read_term {behind = a} j e k) (read_application {behind = b} f l) = absurd (no_make j b a (sym f ∙ e))
step_one (read_term {behind = a} j e k) (read_rule {behind = b} f l) = absurd (no_rule j b a (sym f ∙ e))
step_one {symbols} (read_term {behind = a} i {t = t} e k) (read_term {behind = b} j {t = u} f l) =
    let o = kinds_one i j a b (sym e ∙ f) in
    let w = reads_one k (subst (λ (x : List ℕ). Reads symbols x u []) (sym o.1) l) in
    ap (λ (x : Kind). step_over x t) o.0 ∙ ap (step_over j) w.0
