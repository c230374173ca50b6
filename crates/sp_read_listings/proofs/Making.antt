-- Items made of what is read: behind a keyword and a colon, or by themselves.
use Rattle.std.proofs.Common.{◌≡◌, ℕ, List, ◌∷◌, refl, ap, subst}
use Rattle.sp_spec_text.specs.Token.{Lexeme, block}
use Rattle.sp_spec_text.specs.Lists.{IsNotFirst, NoReading}
use Rattle.sp_read_parts.specs.Parts.{IsNameFirst, name}
use Rattle.sp_read_atoms.specs.Atoms.{first, second}
use Rattle.sp_read_parts.proofs.One.{One}
use Rattle.sp_read_atoms.proofs.Atomic.{or_else_none}
use Rattle.sp_read_listings.specs.Made.{Made, made_of}
use Rattle.sp_read_listings.specs.Listings.{Headed, NotHeaded, Under, under_colon, IsBlock, text_block}

-- ---- made of what is read

pub made_one : {A B : Type 0} {R : List Lexeme → A → List Lexeme → Type 0} {f : A → B} → One R → One (Made R f)
made_one {A} {B} {R} {f} o = record { one = λ {tokens} {r} {q} h k. at h k }
  where
    at : {ts r q : List Lexeme} {x y : B} → Made R f ts x r → Made R f ts y q → (x ≡ y) × (r ≡ q)
    at (made_of h) (made_of k) = let i = o.one h k in (ap f i.0, i.1)

pub made_none : {A B : Type 0} {R : List Lexeme → A → List Lexeme → Type 0} {f : A → B} {tokens : List Lexeme} → NoReading R tokens → NoReading (Made R f) tokens
made_none {A} {B} {R} {f} n = record { none = λ y r h. at h n }
  where
    at : {ts r : List Lexeme} {y : B} → Made R f ts y r → NoReading R ts → ⊥
    at (made_of {x = x} {rest = r} h) n = n.none x r h

-- ---- behind a keyword and a colon

pub under_one : {A : Type 0} {keyword : List ℕ} {R : List Lexeme → A → List Lexeme → Type 0} → One R → One (Under keyword R)
under_one {A} {keyword} {R} o = record { one = λ {tokens} {r} {q} h k. at h k refl }
  where
    at : {ts us r q : List Lexeme} {x y : A} → Under keyword R ts x r → Under keyword R us y q → ts ≡ us → (x ≡ y) × (r ≡ q)
    at (under_colon {tokens = ts} h) (under_colon {x = y} {tokens = us} {rest = q} k) e = let f : us ≡ ts = cc in o.one h (subst (λ (vs : List Lexeme). R vs y q) f k)

pub under_at : {A : Type 0} {keyword : List ℕ} {R : List Lexeme → A → List Lexeme → Type 0} {x : A} {tokens inside rest : List Lexeme} → Headed keyword tokens inside → R inside x rest → Under keyword R tokens x rest
under_at e h = rw e (under_colon h)

pub under_no_head : {A : Type 0} {keyword : List ℕ} {R : List Lexeme → A → List Lexeme → Type 0} {tokens : List Lexeme} → NotHeaded keyword tokens → NoReading (Under keyword R) tokens
under_no_head {A} {keyword} {R} n = record { none = λ x r h. at h n }
  where
    at : {ts r : List Lexeme} {x : A} → Under keyword R ts x r → NotHeaded keyword ts → ⊥
    at (under_colon {tokens = ts} h) n = n.none ts refl

pub under_none : {A : Type 0} {keyword : List ℕ} {R : List Lexeme → A → List Lexeme → Type 0} {tokens inside : List Lexeme} → Headed keyword tokens inside → NoReading R inside → NoReading (Under keyword R) tokens
under_none {A} {keyword} {R} e n = record { none = λ x r h. at h e n }
  where
    at : {ts inside r : List Lexeme} {x : A} → Under keyword R ts x r → Headed keyword ts inside → NoReading R inside → ⊥
    at {inside = i} (under_colon {x = x} {tokens = us} {rest = r} h) e n = let f : us ≡ i = cc in n.none x r (subst (λ (ts : List Lexeme). R ts x r) f h)

pub ruleset items_made = (made_of, made_none, under_at, under_no_head, under_none)

pub ruleset alternatives = (first, second, or_else_none)

-- ---- blocks of text

pub block_one : {tokens r q : List Lexeme} {w u : List ℕ} → IsBlock tokens w r → IsBlock tokens u q → (w ≡ u) × (r ≡ q)
block_one (text_block h) (text_block k) = (refl, refl)

pub blocks' : One IsBlock
blocks' = record { one = block_one }

pub block_at : {w : List ℕ} {tokens ahead rest : List Lexeme} → IsNameFirst tokens w ahead → ahead ≡ block ∷ rest → IsBlock tokens w rest
block_at (name h) e = rw e (text_block h)

pub block_no_name : {tokens : List Lexeme} → NoReading IsNameFirst tokens → NoReading IsBlock tokens
block_no_name n = record { none = λ w r h. at h n }
  where
    at : {ts r : List Lexeme} {w : List ℕ} → IsBlock ts w r → NoReading IsNameFirst ts → ⊥
    at (text_block {w = w} {rest = r} h) n = n.none w (block ∷ r) (name h)

pub no_block : {w : List ℕ} {tokens ahead : List Lexeme} → IsNameFirst tokens w ahead → IsNotFirst block ahead → NoReading IsBlock tokens
no_block k d = record { none = λ w r h. at h k d }
  where
    at : {ts ahead r : List Lexeme} {w u : List ℕ} → IsBlock ts w r → IsNameFirst ts u ahead → IsNotFirst block ahead → ⊥
    at (text_block {rest = r} h) (name k) d = d r refl

pub ruleset blocks = (block_at, block_no_name, no_block)
