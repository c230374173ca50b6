-- Parts that are read one after the other, where nothing closes them.
use Rattle.std.proofs.Common.{◌≡◌, ℕ, List, [], ◌∷◌, ◌++◌, codes, refl, ap, subst, append_assoc}
use Rattle.sp_spec_text.specs.Signs as s
use Rattle.sp_spec_text.specs.Token.{Lexeme, sign}
use Rattle.sp_spec_text.specs.Lists.{IsNotFirst, NoReading, AreListed, alone, and_more}
use Rattle.sp_spec_text.specs.Theories.{SpellsBuiltin, single, joined}
use Rattle.sp_read_parts.specs.Parts.{IsNameFirst, name}
use Rattle.sp_read_parts.proofs.One.{One}
use Rattle.sp_read_listings.specs.Listings.{IsBuiltin, AreAll}

pub tail_of : {x y : Lexeme} {r q : List Lexeme} → x ∷ r ≡ y ∷ q → r ≡ q
tail_of e = cc

-- what is read from the rest on goes on with what was found
pub record Onward {A : Type 0} (R : List Lexeme → List A → List Lexeme → Type 0) (tokens : List Lexeme) (found : List A) (rest : List Lexeme) : Type 0 where
  pub goes : (xs : List A) (r : List Lexeme) → R rest xs r → R tokens (found ++ xs) r
  pub stops : NoReading R rest → NoReading R tokens

pub onward_none : {A : Type 0} (R : List Lexeme → List A → List Lexeme → Type 0) (tokens : List Lexeme) → Onward R tokens [] tokens
onward_none _ _ = record { goes = λ xs r h. h; stops = λ n. n }

-- ---- lists with commas

pub listed_one : {A : Type 0} {E : List Lexeme → A → List Lexeme → Type 0} → One E → {tokens r q : List Lexeme} {xs ys : List A} → AreListed E tokens xs r → IsNotFirst (sign s.Comma) r → AreListed E tokens ys q → IsNotFirst (sign s.Comma) q → (xs ≡ ys) × (r ≡ q)
listed_one {A} o (alone h) d (alone k) e = let i = o.one h k in (ap (λ (x : A). x ∷ []) i.0, i.1)
listed_one o (alone h) d (and_more {mid = m} k l) e = absurd (d m (o.one h k).1)
listed_one o (and_more {mid = m} h k) d (alone l) e = absurd (e m (o.one l h).1)
listed_one {A} {E} o (and_more {mid = m} h k) d (and_more {xs = ys} {mid = n} {rest = q} i l) e =
    let a = o.one h i in
    let b = a.1 in
    let f : n ≡ m = cc in
    let c = listed_one o k d (subst (λ (ts : List Lexeme). AreListed E ts ys q) f l) e in
    let g = a.0 in let j = c.0 in (cc, c.1)

pub all_one : {A : Type 0} {E : List Lexeme → A → List Lexeme → Type 0} → One E → {tokens r q : List Lexeme} {xs ys : List A} → AreAll E tokens xs r → AreAll E tokens ys q → (xs ≡ ys) × (r ≡ q)
all_one o h k = listed_one o h.spells h.ended k.spells k.ended

-- behind a part and its comma, no parts follow
no_more : {A : Type 0} {E : List Lexeme → A → List Lexeme → Type 0} → One E → {rest mid after : List Lexeme} {x : A} → E rest x mid → mid ≡ sign s.Comma ∷ after → NoReading (AreAll E) after → NoReading (AreAll E) rest
no_more {A} {E} o h e n = record { none = λ xs r k. at k.spells k.ended h e n }
  where
    at : {ts r mid after : List Lexeme} {xs : List A} {x : A} → AreListed E ts xs r → IsNotFirst (sign s.Comma) r → E ts x mid → mid ≡ sign s.Comma ∷ after → NoReading (AreAll E) after → ⊥
    at {after = after} (alone k) d h e n = let i = (o.one h k).1 in d after cc
    at {after = after} (and_more {xs = xs} {mid = m} {rest = r} k l) d h e n =
        let i = (o.one h k).1 in
        let f : m ≡ after = cc in
        n.none xs r (record { spells = subst (λ (ts : List Lexeme). AreListed E ts xs r) f l; ended = d })

pub list_more : {A : Type 0} {E : List Lexeme → A → List Lexeme → Type 0} → One E → {tokens rest mid after : List Lexeme} {found : List A} {x : A}
    → Onward (AreAll E) tokens found rest → E rest x mid → mid ≡ sign s.Comma ∷ after → Onward (AreAll E) tokens (found ++ x ∷ []) after
list_more {E = E} o {rest = rest} {x = x} g h e = record {
  goes = λ xs r k. rw append_assoc (g.goes (x ∷ xs) r (record { spells = and_more (subst (λ (ts : List Lexeme). E rest x ts) e h) k.spells; ended = k.ended }));
  stops = λ n. g.stops (no_more o h e n);
}

pub list_last : {A : Type 0} {E : List Lexeme → A → List Lexeme → Type 0} {tokens rest mid : List Lexeme} {found : List A} {x : A}
    → Onward (AreAll E) tokens found rest → E rest x mid → IsNotFirst (sign s.Comma) mid → AreAll E tokens (found ++ x ∷ []) mid
list_last {mid = m} {x = x} g h d = g.goes (x ∷ []) m (record { spells = alone h; ended = d })

pub list_no_part : {A : Type 0} {E : List Lexeme → A → List Lexeme → Type 0} {tokens rest : List Lexeme} {found : List A} → Onward (AreAll E) tokens found rest → NoReading E rest → NoReading (AreAll E) tokens
list_no_part {A} {E} g n = g.stops (record { none = λ xs r k. at k.spells n })
  where
    at : {ts r : List Lexeme} {xs : List A} → AreListed E ts xs r → NoReading E ts → ⊥
    at (alone {x = x} {rest = r} k) n = n.none x r k
    at (and_more {x = x} {mid = m} k l) n = n.none x (sign s.Comma ∷ m) k

pub ruleset lists = (onward_none, list_last, list_no_part)

-- ---- names with dashes

pub spelled_one : {tokens r q : List Lexeme} {b c : List ℕ} → SpellsBuiltin tokens b r → IsNotFirst (sign s.Dash) r → SpellsBuiltin tokens c q → IsNotFirst (sign s.Dash) q → (b ≡ c) × (r ≡ q)
spelled_one (single h) d (single k) e = (refl, refl)
spelled_one (single h) d (joined {tokens = ts} k l) e = absurd (d ts refl)
spelled_one (joined {tokens = ts} k l) d (single h) e = absurd (e ts refl)
spelled_one (joined {w = w} h k) d (joined i l) e = let o = spelled_one k d l e in (ap (λ (b : List ℕ). w ++ (codes "-" ++ b)) o.0, o.1)

pub builtins_one : One IsBuiltin
builtins_one = record { one = λ h k. spelled_one h.spells h.ended k.spells k.ended }

pub name_last : {tokens rest mid : List Lexeme} {found w : List ℕ} → Onward IsBuiltin tokens found rest → IsNameFirst rest w mid → IsNotFirst (sign s.Dash) mid → IsBuiltin tokens (found ++ w) mid
name_last {mid = m} {w = w} g h d = g.goes w m (record { spells = at h; ended = d })
  where
    at : {ts r : List Lexeme} {w : List ℕ} → IsNameFirst ts w r → SpellsBuiltin ts w r
    at (name h) = single h

-- behind a name and its dash
no_names : {rest mid after : List Lexeme} {w : List ℕ} → IsNameFirst rest w mid → mid ≡ sign s.Dash ∷ after → NoReading IsBuiltin after → NoReading IsBuiltin rest
no_names h e n = record { none = λ b r k. at k.spells k.ended h e n }
  where
    at : {ts r mid after : List Lexeme} {b w : List ℕ} → SpellsBuiltin ts b r → IsNotFirst (sign s.Dash) r → IsNameFirst ts w mid → mid ≡ sign s.Dash ∷ after → NoReading IsBuiltin after → ⊥
    at {after = after} (single k) d (name h) e n = d after e
    at {after = after} (joined {b = b} {tokens = ts} {rest = r} k l) d (name h) e n =
        let f : ts ≡ after = cc in
        n.none b r (record { spells = subst (λ (us : List Lexeme). SpellsBuiltin us b r) f l; ended = d })

pub name_more : {tokens rest mid after : List Lexeme} {found w : List ℕ} → Onward IsBuiltin tokens found rest → IsNameFirst rest w mid → mid ≡ sign s.Dash ∷ after → Onward IsBuiltin tokens ((found ++ w) ++ codes "-") after
name_more {w = w} g h e = record {
  goes = λ b r k. rw (append_assoc, append_assoc) (g.goes (w ++ (codes "-" ++ b)) r (record { spells = at h e k.spells; ended = k.ended }));
  stops = λ n. g.stops (no_names h e n);
}
  where
    at : {ts mid after r : List Lexeme} {w b : List ℕ} → IsNameFirst ts w mid → mid ≡ sign s.Dash ∷ after → SpellsBuiltin after b r → SpellsBuiltin ts (w ++ (codes "-" ++ b)) r
    at (name h) e k = rw e (joined h k)

pub name_missing : {tokens rest : List Lexeme} {found : List ℕ} → Onward IsBuiltin tokens found rest → NoReading IsNameFirst rest → NoReading IsBuiltin tokens
name_missing g n = g.stops (record { none = λ b r k. at k.spells n })
  where
    at : {ts r : List Lexeme} {b : List ℕ} → SpellsBuiltin ts b r → NoReading IsNameFirst ts → ⊥
    at (single {w = w} {rest = r} h) n = n.none w r (name h)
    at (joined {w = w} {tokens = ts} h k) n = n.none w (sign s.Dash ∷ ts) (name h)

pub ruleset joined_names = (onward_none, name_last, name_more, name_missing)
