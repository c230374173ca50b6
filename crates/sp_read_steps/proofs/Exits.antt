-- What is read, or why nothing is, from one part of a step to the next.
use Rattle.std.proofs.Common.{◌≡◌, ℕ, List, [], ◌∷◌, ◌++◌, Some, None, codes, sym, ap, subst, ◌∙◌, arith}
use Rattle.std.specs.Prelude.{Option, MatchOption, option_map}
use Rattle.sp_spec.specs.Term.{none, Ground}
use Rattle.sp_spec.specs.Signature.{Symbol}
use Rattle.sp_spec.specs.Execution.{Step, use_rule, apply_symbol}
use Rattle.sp_read_steps.specs.declared.parts.Kind.{Kind}
use Rattle.sp_read_steps.specs.Reading.{NoReading, NoWhole, NoPrefix, NoKind, named, kind_text, pairing, unpaired, Reads, ReadsRow, ReadsGiven, read_given, ReadsValues, ReadsRule, no_values, with_values, ReadsApplication, no_terms, with_terms, with_parts, ReadsStep, read_rule, read_application, read_term}
use Rattle.sp_read_steps.proofs.Found.{some_both}
use Rattle.sp_read_steps.proofs.FirstWords.{kinds_one, no_rule, no_make, rule_no_make}
use Rattle.sp_read_steps.proofs.One.{reads_one, row_one, no_name_opens}

-- ---- a value

pub given_read : {symbols : List Symbol} {bytes x rest mid ahead : List ℕ} {t : Ground} → Some (x, rest) ≡ named bytes → rest ≡ codes " = " ++ mid → Reads symbols mid t ahead → ReadsGiven symbols bytes (x, t) ahead
given_read {x = x} n e k = read_given (sym n ∙ ap (λ (r : List ℕ). Some (x, r)) e) k

pub given_no_name : {symbols : List Symbol} {bytes : List ℕ} → None ≡ named bytes → NoReading (ReadsGiven symbols) bytes
given_no_name {symbols} n = record { none_read = λ g r k. at k n }
  where
    at : {bytes r : List ℕ} {g : List ℕ × Ground} → ReadsGiven symbols bytes g r → None ≡ named bytes → ⊥
    at (read_given m k) n = let e = n ∙ m in cc

pub given_no_sign : {symbols : List Symbol} {bytes x rest : List ℕ} → Some (x, rest) ≡ named bytes → NoPrefix (codes " = ") rest → NoReading (ReadsGiven symbols) bytes
given_no_sign {symbols} {x = x} {rest = rest} n p = record { none_read = λ g r k. at k n }
  where
    at : {bytes r : List ℕ} {g : List ℕ × Ground} → ReadsGiven symbols bytes g r → Some (x, rest) ≡ named bytes → ⊥
    at (read_given {mid = mid} m k) n = p.no_rest mid (some_both (n ∙ m)).1

pub given_no_term : {symbols : List Symbol} {bytes x rest mid : List ℕ} → Some (x, rest) ≡ named bytes → rest ≡ codes " = " ++ mid → NoReading (Reads symbols) mid → NoReading (ReadsGiven symbols) bytes
given_no_term {symbols} {x = x} {rest = rest} {mid = mid} n e p = record { none_read = λ g r k. at k n }
  where
    at : {bytes r : List ℕ} {g : List ℕ × Ground} → ReadsGiven symbols bytes g r → Some (x, rest) ≡ named bytes → ⊥
    at (read_given {mid = i} {rest = r} {t = t} m k) n =
        let s = (some_both (n ∙ m)).1 in
        let f : i ≡ mid = cc in
        p.none_read t r (subst (λ (b : List ℕ). Reads symbols b t r) f k)

-- ---- a term up to the end

pub not_whole : {symbols : List Symbol} {bytes rest : List ℕ} {t : Ground} → Reads symbols bytes t rest → (rest ≡ [] → ⊥) → NoWhole (Reads symbols) bytes
not_whole k n = record { none_whole = λ u l. n (reads_one k l).1 }

-- ---- the use of a rule

pub rule_no_name : {symbols : List Symbol} {bytes : List ℕ} → None ≡ named bytes → NoReading (ReadsRule symbols) bytes
rule_no_name {symbols} n = record { none_read = λ s r k. at k n }
  where
    at : {bytes r : List ℕ} {s : Step} → ReadsRule symbols bytes s r → None ≡ named bytes → ⊥
    at (no_values m) n = let e = n ∙ m in cc
    at (with_values m k) n = let e = n ∙ m in cc

pub rule_no_colon : {symbols : List Symbol} {bytes x rest : List ℕ} → Some (x, rest) ≡ named bytes → NoPrefix (58 ∷ []) rest → NoReading (ReadsRule symbols) bytes
rule_no_colon {symbols} {x = x} {rest = rest} n p = record { none_read = λ s r k. at k n }
  where
    at : {bytes r : List ℕ} {s : Step} → ReadsRule symbols bytes s r → Some (x, rest) ≡ named bytes → ⊥
    at (no_values m) n = p.no_rest [] (some_both (n ∙ m)).1
    at (with_values {mid = mid} m k) n = p.no_rest (32 ∷ mid) (some_both (n ∙ m)).1

pub rule_alone : {symbols : List Symbol} {bytes x rest others : List ℕ} → Some (x, rest) ≡ named bytes → rest ≡ 58 ∷ others → others ≡ [] → ReadsRule symbols bytes (use_rule x []) []
rule_alone {x = x} n e f = no_values (sym n ∙ ap (λ (r : List ℕ). Some (x, r)) (e ∙ ap (λ (r : List ℕ). 58 ∷ r) f))

pub rule_no_space : {symbols : List Symbol} {bytes x rest others : List ℕ} → Some (x, rest) ≡ named bytes → rest ≡ 58 ∷ others → (others ≡ [] → ⊥) → NoPrefix (32 ∷ []) others → NoReading (ReadsRule symbols) bytes
rule_no_space {symbols} {x = x} {rest = rest} {others = others} n e f p = record { none_read = λ s r k. at k n }
  where
    at : {bytes r : List ℕ} {s : Step} → ReadsRule symbols bytes s r → Some (x, rest) ≡ named bytes → ⊥
    at (no_values m) n = let s = (some_both (n ∙ m)).1 in f cc
    at (with_values {mid = mid} m k) n = let s = (some_both (n ∙ m)).1 in p.no_rest mid cc

pub rule_no_values : {symbols : List Symbol} {bytes x rest others inside : List ℕ} → Some (x, rest) ≡ named bytes → rest ≡ 58 ∷ others → others ≡ 32 ∷ inside → NoReading (ReadsValues symbols) inside → NoReading (ReadsRule symbols) bytes
rule_no_values {symbols} {x = x} {rest = rest} {others = others} {inside = inside} n e f p = record { none_read = λ s r k. at k n }
  where
    at : {bytes r : List ℕ} {s : Step} → ReadsRule symbols bytes s r → Some (x, rest) ≡ named bytes → ⊥
    at (no_values m) n = let s = (some_both (n ∙ m)).1 in cc
    at (with_values {mid = mid} {gs = gs} m k) n =
        let s = (some_both (n ∙ m)).1 in
        let g : mid ≡ inside = cc in
        p.none_read gs [] (subst (λ (b : List ℕ). ReadsValues symbols b gs []) g k)

pub rule_with_values : {symbols : List Symbol} {bytes x rest others inside : List ℕ} {gs : List (List ℕ × Ground)} → Some (x, rest) ≡ named bytes → rest ≡ 58 ∷ others → others ≡ 32 ∷ inside → ReadsValues symbols inside gs [] → ReadsRule symbols bytes (use_rule x gs) []
rule_with_values {x = x} n e f k = with_values (sym n ∙ ap (λ (r : List ℕ). Some (x, r)) (e ∙ ap (λ (r : List ℕ). 58 ∷ r) f)) k

-- ---- an application

pub row_not_whole : {symbols : List Symbol} {close : ℕ} {bytes rest : List ℕ} {ts : List Ground} → (close ≡ 44 → ⊥) → ReadsRow symbols close bytes ts rest → (rest ≡ [] → ⊥) → NoWhole (ReadsRow symbols close) bytes
row_not_whole d k n = record { none_whole = λ us l. n (row_one d k l).1 }

pub pair_no_row : {symbols : List Symbol} {bytes inside : List ℕ} → bytes ≡ 60 ∷ inside → NoWhole (ReadsRow symbols 62) inside → NoReading (ReadsApplication symbols) bytes
pair_no_row {symbols} {inside = inside} e p = record { none_read = λ s r k. at k e }
  where
    at : {bytes r : List ℕ} {s : Step} → ReadsApplication symbols bytes s r → bytes ≡ 60 ∷ inside → ⊥
    at (no_terms n) e = no_name_opens n e
    at (with_terms n k a) e = no_name_opens n e
    at (with_parts {inside = i} {ts = ts} f k a) e = let g : i ≡ inside = cc in p.none_whole ts (subst (λ (b : List ℕ). ReadsRow symbols 62 b ts []) g k)

pub pair_of_row : {A : Type 0} (f : A → Step) (symbols : List Symbol) (bytes inside : List ℕ) (ts : List Ground) (o : Option A) → bytes ≡ 60 ∷ inside → ReadsRow symbols 62 inside ts [] → option_map f o ≡ pairing symbols ts
    → MatchOption o (NoReading (ReadsApplication symbols) bytes) (λ s. ReadsApplication symbols bytes (f s) [])
pair_of_row f symbols bytes inside ts None e k a = record { none_read = λ s r l. at l e }
  where
    at : {bytes r : List ℕ} {s : Step} → ReadsApplication symbols bytes s r → bytes ≡ 60 ∷ inside → ⊥
    at (no_terms n) e = no_name_opens n e
    at (with_terms n l b) e = no_name_opens n e
    at (with_parts {inside = i} {ts = us} g l b) e =
        let h : i ≡ inside = cc in
        let o = row_one (λ c. let none : ⊥ = omega arith in none) k (subst (λ (x : List ℕ). ReadsRow symbols 62 x us []) h l) in
        let none : None ≡ pairing symbols us = a ∙ ap (pairing symbols) o.0 in
        cc
pair_of_row f symbols bytes inside ts (Some s) e k a = with_parts e k (sym a)

pub application_no_name : {symbols : List Symbol} {bytes : List ℕ} → NoPrefix (60 ∷ []) bytes → None ≡ named bytes → NoReading (ReadsApplication symbols) bytes
application_no_name {symbols} p n = record { none_read = λ s r k. at k p n }
  where
    at : {bytes r : List ℕ} {s : Step} → ReadsApplication symbols bytes s r → NoPrefix (60 ∷ []) bytes → None ≡ named bytes → ⊥
    at (no_terms m) p n = let e = n ∙ m in cc
    at (with_terms m k a) p n = let e = n ∙ m in cc
    at (with_parts {inside = i} e k a) p n = p.no_rest i e

pub application_alone : {symbols : List Symbol} {bytes x rest : List ℕ} → Some (x, rest) ≡ named bytes → rest ≡ [] → ReadsApplication symbols bytes (apply_symbol x none) []
application_alone {x = x} n e = no_terms (sym n ∙ ap (λ (r : List ℕ). Some (x, r)) e)

pub application_no_bracket : {symbols : List Symbol} {bytes x rest : List ℕ} → Some (x, rest) ≡ named bytes → (rest ≡ [] → ⊥) → NoPrefix (40 ∷ []) rest → NoReading (ReadsApplication symbols) bytes
application_no_bracket {symbols} {x = x} {rest = rest} n f p = record { none_read = λ s r k. at k n }
  where
    at : {bytes r : List ℕ} {s : Step} → ReadsApplication symbols bytes s r → Some (x, rest) ≡ named bytes → ⊥
    at (no_terms m) n = f (some_both (n ∙ m)).1
    at (with_terms {inside = i} m k a) n = p.no_rest i (some_both (n ∙ m)).1
    at (with_parts e k a) n = no_name_opens (sym n) e

pub application_no_row : {symbols : List Symbol} {bytes x rest inside : List ℕ} → Some (x, rest) ≡ named bytes → rest ≡ 40 ∷ inside → NoWhole (ReadsRow symbols 41) inside → NoReading (ReadsApplication symbols) bytes
application_no_row {symbols} {x = x} {rest = rest} {inside = inside} n e p = record { none_read = λ s r k. at k n }
  where
    at : {bytes r : List ℕ} {s : Step} → ReadsApplication symbols bytes s r → Some (x, rest) ≡ named bytes → ⊥
    at (no_terms m) n = let s = (some_both (n ∙ m)).1 in cc
    at (with_terms {inside = i} {ts = ts} m k a) n =
        let s = (some_both (n ∙ m)).1 in
        let g : i ≡ inside = cc in
        p.none_whole ts (subst (λ (b : List ℕ). ReadsRow symbols 41 b ts []) g k)
    at (with_parts f k a) n = no_name_opens (sym n) f

pub application_of_row : {A : Type 0} (f : A → Step) (symbols : List Symbol) (bytes x rest inside : List ℕ) (ts : List Ground) (o : Option A) → Some (x, rest) ≡ named bytes → rest ≡ 40 ∷ inside → ReadsRow symbols 41 inside ts []
    → option_map f o ≡ unpaired x ts → MatchOption o (NoReading (ReadsApplication symbols) bytes) (λ s. ReadsApplication symbols bytes (f s) [])
application_of_row f symbols bytes x rest inside ts None n e k a = record { none_read = λ s r l. at l n }
  where
    at : {bytes r : List ℕ} {s : Step} → ReadsApplication symbols bytes s r → Some (x, rest) ≡ named bytes → ⊥
    at (no_terms m) n = let s = (some_both (n ∙ m)).1 in cc
    at (with_terms {f = g} {inside = i} {ts = us} m l b) n =
        let s = some_both (n ∙ m) in
        let h : i ≡ inside = cc in
        let o = row_one (λ c. let none : ⊥ = omega arith in none) k (subst (λ (y : List ℕ). ReadsRow symbols 41 y us []) h l) in
        let none : None ≡ unpaired g us = a ∙ ap (λ (y : List ℕ). unpaired y ts) s.0 ∙ ap (unpaired g) o.0 in
        cc
    at (with_parts d l b) n = no_name_opens (sym n) d
application_of_row f symbols bytes x rest inside ts (Some s) n e k a = with_terms (sym n ∙ ap (λ (r : List ℕ). Some (x, r)) e) k (sym a)

-- ---- a step

pub step_no_rule : {symbols : List Symbol} {bytes rest : List ℕ} → bytes ≡ codes "rule " ++ rest → NoReading (ReadsRule symbols) rest → NoReading (ReadsStep symbols) bytes
step_no_rule {symbols} {rest = rest} e n = record { none_read = λ s r k. at k e }
  where
    at : {bytes r : List ℕ} {s : Step} → ReadsStep symbols bytes s r → bytes ≡ codes "rule " ++ rest → ⊥
    at (read_rule {behind = b} {s = s} f k) e = let g : b ≡ rest = cc in n.none_read s [] (subst (λ (x : List ℕ). ReadsRule symbols x s []) g k)
    at (read_application {behind = b} f k) e = rule_no_make rest b (sym e ∙ f)
    at (read_term {behind = b} j f k) e = no_rule j rest b (sym e ∙ f)

pub rule_step : {A : Type 0} (f : A → Step) (symbols : List Symbol) (bytes rest : List ℕ) (o : Option A) → bytes ≡ codes "rule " ++ rest
    → MatchOption o (NoReading (ReadsRule symbols) rest) (λ s. ReadsRule symbols rest (f s) []) → MatchOption o (NoReading (ReadsStep symbols) bytes) (λ s. ReadsStep symbols bytes (f s) [])
rule_step f symbols bytes rest None e h = step_no_rule e h
rule_step f symbols bytes rest (Some s) e h = read_rule e h

pub step_no_application : {symbols : List Symbol} {bytes rest : List ℕ} → bytes ≡ codes "make " ++ rest → NoReading (ReadsApplication symbols) rest → NoReading (ReadsStep symbols) bytes
step_no_application {symbols} {rest = rest} e n = record { none_read = λ s r k. at k e }
  where
    at : {bytes r : List ℕ} {s : Step} → ReadsStep symbols bytes s r → bytes ≡ codes "make " ++ rest → ⊥
    at (read_rule {behind = b} f k) e = rule_no_make b rest (sym f ∙ e)
    at (read_application {behind = b} {s = s} f k) e = let g : b ≡ rest = cc in n.none_read s [] (subst (λ (x : List ℕ). ReadsApplication symbols x s []) g k)
    at (read_term {behind = b} j f k) e = no_make j rest b (sym e ∙ f)

pub application_step : {A : Type 0} (f : A → Step) (symbols : List Symbol) (bytes rest : List ℕ) (o : Option A) → bytes ≡ codes "make " ++ rest
    → MatchOption o (NoReading (ReadsApplication symbols) rest) (λ s. ReadsApplication symbols rest (f s) []) → MatchOption o (NoReading (ReadsStep symbols) bytes) (λ s. ReadsStep symbols bytes (f s) [])
application_step f symbols bytes rest None e h = step_no_application e h
application_step f symbols bytes rest (Some s) e h = read_application e h

pub step_no_kind : {symbols : List Symbol} {bytes : List ℕ} → NoPrefix (codes "rule ") bytes → NoPrefix (codes "make ") bytes → NoKind bytes → NoReading (ReadsStep symbols) bytes
step_no_kind {symbols} p m n = record { none_read = λ s r k. at k p m n }
  where
    at : {bytes r : List ℕ} {s : Step} → ReadsStep symbols bytes s r → NoPrefix (codes "rule ") bytes → NoPrefix (codes "make ") bytes → NoKind bytes → ⊥
    at (read_rule {behind = b} f k) p m n = p.no_rest b f
    at (read_application {behind = b} f k) p m n = m.no_rest b f
    at (read_term {behind = b} j f k) p m n = n.no_kind j b f

pub step_no_term : {symbols : List Symbol} {bytes rest : List ℕ} (k : Kind) → NoPrefix (codes "rule ") bytes → NoPrefix (codes "make ") bytes → bytes ≡ kind_text k ++ rest → NoWhole (Reads symbols) rest → NoReading (ReadsStep symbols) bytes
step_no_term {symbols} {rest = rest} k p m e n = record { none_read = λ s r h. at h p m e }
  where
    at : {bytes r : List ℕ} {s : Step} → ReadsStep symbols bytes s r → NoPrefix (codes "rule ") bytes → NoPrefix (codes "make ") bytes → bytes ≡ kind_text k ++ rest → ⊥
    at (read_rule {behind = b} f h) p m e = p.no_rest b f
    at (read_application {behind = b} f h) p m e = m.no_rest b f
    at (read_term {behind = b} j {t = t} f h) p m e = let o = kinds_one j k b rest (sym f ∙ e) in n.none_whole t (subst (λ (x : List ℕ). Reads symbols x t []) o.1 h)

pub ruleset givens = (given_no_name, given_no_sign, given_no_term)

pub ruleset rules_read = (rule_no_name, rule_no_colon, rule_alone, rule_no_space, rule_no_values)

pub ruleset applications_read = (pair_no_row, application_no_name, application_alone, application_no_bracket, application_no_row)

pub ruleset steps_read = (step_no_rule, step_no_kind, step_no_term)
