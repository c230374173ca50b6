-- Entries in memory, which have the oldest first, and the log that they are.
use Rattle.std.proofs.Common.{◌≡◌, ◌+◌, ◌-◌, ◌<◌, ◌≤◌, ◌||◌, Bool, true, false, ℕ, List, [], ◌∷◌, ◌++◌, map, length, take, get_or, Option, Some, None, is_some, option_map, if◌then◌else◌, refl, sym, ap, ◌∙◌, arith}
use Rattle.std.proofs.lemmas.List.{length_push, map-append, take_more}
use Rattle.sp_spec.specs.Lists.{newest_first}
use Rattle.sp_spec.specs.Same.{same_term}
use Rattle.sp_spec.specs.Term.{Ground}
use Rattle.sp_spec.specs.Log.{How, Log, step, send, learn}
use Rattle.sp_spec.proofs.Lists.{newest_last}
use Rattle.sp_law_adversary.specs.Learning.{way_learnt, is_learnt}
use Rattle.sp_learn.specs.declared.log.Entry as memory
use Rattle.sp_learn.specs.declared.log.Entry.TheVariants.{Step, Send, Learn}
use Rattle.sp_learn.specs.View.{entry_of}
use Rattle.sp_transfer.specs.View.{log_in}

-- one entry more
pub log_push : (entries : List memory.Entry) (e : memory.Entry) → log_in (entries ++ e ∷ []) ≡ entry_of e ∷ log_in entries
log_push entries e = ap newest_first (map-append entry_of entries (e ∷ [])) ∙ newest_last (map entry_of entries) (entry_of e)

-- the entries as far as a place, and that place's
pub log_more : (entries : List memory.Entry) (i : ℕ) (e : memory.Entry) → i < length entries → e ≡ get_or entries i e
    → log_in (take (i + 1) entries) ≡ entry_of e ∷ log_in (take i entries)
log_more entries i e l item =
    ap log_in (take_more entries i e l ∙ ap (λ (x : memory.Entry). take i entries ++ x ∷ []) (sym item)) ∙ log_push (take i entries) e

-- the entries as far as one that is reached from their end
pub log_back : (entries : List memory.Entry) (n : ℕ) (e : memory.Entry) → 0 < n → n ≤ length entries → e ≡ get_or entries (n - 1) e
    → log_in (take n entries) ≡ entry_of e ∷ log_in (take (n - 1) entries)
log_back entries n e some within item =
    let all : n ≡ (n - 1) + 1 = omega arith in
    ap (λ k. log_in (take k entries)) all ∙ log_more entries (n - 1) e (omega arith) item

-- the way in which an entry's message was learnt, or else that before
pub way_here : (log past : Log) (m t : Ground) (how : How) → log ≡ learn t how ∷ past → same_term t m ≡ true → way_learnt log m ≡ Some how
way_here log past m t how e same = ap (λ l. way_learnt l m) e ∙ ap (λ b. if b then Some how else way_learnt past m) same

pub way_before : (log past : Log) (m t : Ground) (how : How) → log ≡ learn t how ∷ past → same_term t m ≡ false → way_learnt log m ≡ way_learnt past m
way_before log past m t how e same = ap (λ l. way_learnt l m) e ∙ ap (λ b. if b then Some how else way_learnt past m) same

pub way_passed : (log past : Log) (m : Ground) (e : memory.Entry) → log ≡ entry_of e ∷ past
    → ((t : _) (how : _) → e ≡ Learn t how → ⊥) → way_learnt log m ≡ way_learnt past m
way_passed log past m (Step s) e other = ap (λ l. way_learnt l m) e
way_passed log past m (Send t) e other = ap (λ l. way_learnt l m) e
way_passed log past m (Learn t how) e other = absurd (other t how refl)

-- it was learnt where there is a way
pub learnt_some : (log : Log) (m : Ground) → is_learnt log m ≡ is_some (way_learnt log m)
learnt_some [] m = refl
learnt_some (step r facts sources ∷ past) m = learnt_some past m
learnt_some (send t ∷ past) m = learnt_some past m
learnt_some (learn t how ∷ past) m = at (same_term t m) (learnt_some past m)
  where
    at : (b : Bool) → is_learnt past m ≡ is_some (way_learnt past m) → (b || is_learnt past m) ≡ is_some (if b then Some how else way_learnt past m)
    at true e = refl
    at false e = e

pub mapped_some : {A B : Type 0} (f : A → B) (o : Option A) → is_some (option_map f o) ≡ is_some o
mapped_some f None = refl
mapped_some f (Some x) = refl

-- as many
pub log_length : (entries : List memory.Entry) → length (log_in entries) ≡ length entries
log_length [] = refl
log_length (entry ∷ entries) = let e = log_length entries in length_push (log_in entries) (entry_of entry) ∙ omega (arith, e)
