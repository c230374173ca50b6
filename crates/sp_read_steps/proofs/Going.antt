-- Parts that are read one after the other.
use Rattle.std.proofs.Common.{◌≡◌, ℕ, List, [], ◌∷◌, ◌++◌, subst, append_assoc}
use Rattle.sp_spec.specs.Term.{Ground}
use Rattle.sp_spec.specs.Signature.{Symbol}
use Rattle.sp_read_steps.specs.Reading.{Reads, ReadsRow, last_term, next_term, ReadsGiven, ReadsValues, last_value, next_value, NoReading, NoPrefix}
use Rattle.sp_read_steps.proofs.One.{reads_one, given_one}

-- these parts, each with what stands behind it, stand before the rest
pub record Going {A : Type 0} (R : List ℕ → List A → List ℕ → Type 0) (text : List ℕ) (found : List A) (rest : List ℕ) : Type 0 where
  pub goes : (xs : List A) (r : List ℕ) → R rest xs r → R text (found ++ xs) r
  pub stops : NoReading R rest → NoReading R text

no_more : {symbols : List Symbol} {close : ℕ} {rest mid more : List ℕ} {t : Ground} → (close ≡ 44 → ⊥) → Reads symbols rest t mid → mid ≡ 44 ∷ 32 ∷ more → NoReading (ReadsRow symbols close) more → NoReading (ReadsRow symbols close) rest
no_more {symbols} {close} {more = more} d h e n = record { none_read = λ xs r k. at k h e n }
  where
    at : {bytes r mid : List ℕ} {xs : List Ground} {t : Ground} → ReadsRow symbols close bytes xs r → Reads symbols bytes t mid → mid ≡ 44 ∷ 32 ∷ more → NoReading (ReadsRow symbols close) more → ⊥
    at (last_term k) h e n = let i = (reads_one h k).1 in d cc
    at (next_term {mid = m} {rest = r} {ts = xs} k l) h e n = let i = (reads_one h k).1 in let f : m ≡ more = cc in n.none_read xs r (subst (λ (b : List ℕ). ReadsRow symbols close b xs r) f l)

pub row_more : {symbols : List Symbol} {close : ℕ} {text rest mid more : List ℕ} {found : List Ground} {t : Ground} → (close ≡ 44 → ⊥)
    → Going (ReadsRow symbols close) text found rest → Reads symbols rest t mid → mid ≡ 44 ∷ 32 ∷ more → Going (ReadsRow symbols close) text (found ++ t ∷ []) more
row_more {symbols} {rest = rest} {t = t} d g h e = record {
  goes = λ xs r k. rw append_assoc (g.goes (t ∷ xs) r (next_term (subst (λ (b : List ℕ). Reads symbols rest t b) e h) k));
  stops = λ n. g.stops (no_more d h e n);
}

pub row_last : {symbols : List Symbol} {close : ℕ} {text rest mid end : List ℕ} {found : List Ground} {t : Ground}
    → Going (ReadsRow symbols close) text found rest → Reads symbols rest t mid → mid ≡ close ∷ end → ReadsRow symbols close text (found ++ t ∷ []) end
row_last {symbols} {rest = rest} {end = end} {t = t} g h e = g.goes (t ∷ []) end (last_term (subst (λ (b : List ℕ). Reads symbols rest t b) e h))

pub row_no_sign : {symbols : List Symbol} {close : ℕ} {text rest mid : List ℕ} {found : List Ground} {t : Ground}
    → Going (ReadsRow symbols close) text found rest → Reads symbols rest t mid → NoPrefix (close ∷ []) mid → NoPrefix (44 ∷ 32 ∷ []) mid → NoReading (ReadsRow symbols close) text
row_no_sign {symbols} {close} g h c b = g.stops (record { none_read = λ xs r k. at k h c b })
  where
    at : {bytes r mid : List ℕ} {xs : List Ground} {t : Ground} → ReadsRow symbols close bytes xs r → Reads symbols bytes t mid → NoPrefix (close ∷ []) mid → NoPrefix (44 ∷ 32 ∷ []) mid → ⊥
    at (last_term {rest = r} k) h c b = c.no_rest r (reads_one h k).1
    at (next_term {mid = m} k l) h c b = b.no_rest m (reads_one h k).1

-- ---- values

no_more_values : {symbols : List Symbol} {rest mid more : List ℕ} {g : List ℕ × Ground} → ReadsGiven symbols rest g mid → mid ≡ 44 ∷ 32 ∷ more → NoReading (ReadsValues symbols) more → NoReading (ReadsValues symbols) rest
no_more_values {symbols} {more = more} h e n = record { none_read = λ xs r k. at k h e n }
  where
    at : {bytes r mid : List ℕ} {xs : List (List ℕ × Ground)} {g : List ℕ × Ground} → ReadsValues symbols bytes xs r → ReadsGiven symbols bytes g mid → mid ≡ 44 ∷ 32 ∷ more → NoReading (ReadsValues symbols) more → ⊥
    at (last_value k) h e n = let i = (given_one h k).1 in cc
    at (next_value {mid = m} {rest = r} {gs = xs} k l) h e n = let i = (given_one h k).1 in let f : m ≡ more = cc in n.none_read xs r (subst (λ (b : List ℕ). ReadsValues symbols b xs r) f l)

pub values_more : {symbols : List Symbol} {text rest mid more : List ℕ} {found : List (List ℕ × Ground)} {g : List ℕ × Ground}
    → Going (ReadsValues symbols) text found rest → ReadsGiven symbols rest g mid → mid ≡ 44 ∷ 32 ∷ more → Going (ReadsValues symbols) text (found ++ g ∷ []) more
values_more {symbols} {rest = rest} {g = t} g h e = record {
  goes = λ xs r k. rw append_assoc (g.goes (t ∷ xs) r (next_value (subst (λ (b : List ℕ). ReadsGiven symbols rest t b) e h) k));
  stops = λ n. g.stops (no_more_values h e n);
}

pub values_last : {symbols : List Symbol} {text rest mid : List ℕ} {found : List (List ℕ × Ground)} {g : List ℕ × Ground}
    → Going (ReadsValues symbols) text found rest → ReadsGiven symbols rest g mid → mid ≡ [] → ReadsValues symbols text (found ++ g ∷ []) []
values_last {symbols} {rest = rest} {g = t} g h e = g.goes (t ∷ []) [] (last_value (subst (λ (b : List ℕ). ReadsGiven symbols rest t b) e h))

pub values_no_sign : {symbols : List Symbol} {text rest mid : List ℕ} {found : List (List ℕ × Ground)} {g : List ℕ × Ground}
    → Going (ReadsValues symbols) text found rest → ReadsGiven symbols rest g mid → (mid ≡ [] → ⊥) → NoPrefix (44 ∷ 32 ∷ []) mid → NoReading (ReadsValues symbols) text
values_no_sign {symbols} g h c b = g.stops (record { none_read = λ xs r k. at k h c b })
  where
    at : {bytes r mid : List ℕ} {xs : List (List ℕ × Ground)} {g : List ℕ × Ground} → ReadsValues symbols bytes xs r → ReadsGiven symbols bytes g mid → (mid ≡ [] → ⊥) → NoPrefix (44 ∷ 32 ∷ []) mid → ⊥
    at (last_value k) h c b = c (given_one h k).1
    at (next_value {mid = m} k l) h c b = b.no_rest m (given_one h k).1
