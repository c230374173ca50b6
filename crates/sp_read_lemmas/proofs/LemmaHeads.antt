-- The heads of lemmas and of restrictions from their parts, and each part that may be missing.
use Rattle.std.proofs.Common.{◌≡◌, ℕ, true, false, true≢false, List, ◌∷◌, codes, refl, sym, ap, subst, ◌∙◌}
use Rattle.sp_spec_text.specs.Signs as s
use Rattle.sp_spec_text.specs.Token.{Lexeme, word, sign}
use Rattle.sp_spec_text.specs.Attributes.{attribute_of, is_restriction}
use Rattle.sp_spec_text.specs.Lists.{IsNotFirst, IsNoWord, NoReading, AreParts}
use Rattle.sp_spec_text.specs.Written.{Attribute}
use Rattle.sp_spec_text.specs.Theories as g
use Rattle.sp_spec_text.specs.Theories.{SpellsLemmaAttribute, SpellsLemmaAttributes}
use Rattle.sp_read_parts.specs.Parts.{IsNameFirst, name}
use Rattle.sp_read_atoms.specs.Atoms.{first, second}
use Rattle.sp_read_parts.proofs.One.{One, parts_one}
use Rattle.sp_read_atoms.proofs.Atomic.{or_else_one, or_else_none}
use Rattle.sp_read_parts.proofs.Sequence.{Fixed, fixed_none, fixed_one, Then, no_first, no_second, Becomes, no_whole}
use Rattle.sp_read_parts.proofs.Spelled.{parts_spelled}
use Rattle.sp_read_listings.specs.Made.{made_of}
use Rattle.sp_read_lemmas.specs.Lemmas.{IsValued, valued, IsLoneName, lone_name, IsWordAttribute, IsLemmaAttribute, AreLemmaAttributes, none_said, some_said, IsLemmaHead, lemma_head, IsRestrictionHead, restriction_head}
use Rattle.sp_read_lemmas.proofs.One.{parts_taken, not_this}
use Rattle.sp_read_listings.proofs.Making.{made_one, made_none}
use Rattle.sp_read_rules.proofs.RuleHeads.{names, then_one}

-- ---- a keyword with a name, and a name alone

pub valued_at : {keyword w : List ℕ} {tokens equals named rest : List Lexeme} → tokens ≡ word keyword ∷ equals → equals ≡ sign s.Equals ∷ named → IsNameFirst named w rest → IsValued keyword tokens w rest
valued_at e f (name h) = rw (e, f) (valued h)

pub valued_no_word : {keyword : List ℕ} {tokens : List Lexeme} → IsNotFirst (word keyword) tokens → NoReading (IsValued keyword) tokens
valued_no_word d = record { none = λ w r h. at h d }
  where
    at : {keyword w : List ℕ} {ts r : List Lexeme} → IsValued keyword ts w r → IsNotFirst (word keyword) ts → ⊥
    at (valued {w = w} {rest = r} h) d = d (sign s.Equals ∷ word w ∷ r) refl

pub valued_no_sign : {keyword : List ℕ} {tokens equals : List Lexeme} → tokens ≡ word keyword ∷ equals → IsNotFirst (sign s.Equals) equals → NoReading (IsValued keyword) tokens
valued_no_sign e d = record { none = λ w r h. at h e d }
  where
    at : {keyword w : List ℕ} {ts equals r : List Lexeme} → IsValued keyword ts w r → ts ≡ word keyword ∷ equals → IsNotFirst (sign s.Equals) equals → ⊥
    at (valued {w = w} {rest = r} h) e d = d (word w ∷ r) cc

pub valued_no_name : {keyword : List ℕ} {tokens equals named : List Lexeme} → tokens ≡ word keyword ∷ equals → equals ≡ sign s.Equals ∷ named → NoReading IsNameFirst named → NoReading (IsValued keyword) tokens
valued_no_name e f n = record { none = λ w r h. at h e f n }
  where
    at : {keyword w : List ℕ} {ts equals named r : List Lexeme} → IsValued keyword ts w r → ts ≡ word keyword ∷ equals → equals ≡ sign s.Equals ∷ named → NoReading IsNameFirst named → ⊥
    at {named = m} (valued {w = w} {rest = r} h) e f n = let i : word w ∷ r ≡ m = cc in n.none w r (subst (λ (us : List Lexeme). IsNameFirst us w r) i (name h))

pub ruleset values = (valued_at, valued_no_word, valued_no_sign, valued_no_name)

valued_one : {keyword : List ℕ} {tokens r q : List Lexeme} {w u : List ℕ} → IsValued keyword tokens w r → IsValued keyword tokens u q → (w ≡ u) × (r ≡ q)
valued_one h k = at h k refl
  where
    at : {keyword : List ℕ} {ts us r q : List Lexeme} {w u : List ℕ} → IsValued keyword ts w r → IsValued keyword us u q → ts ≡ us → (w ≡ u) × (r ≡ q)
    at (valued h) (valued k) e = (cc, cc)

values' : {keyword : List ℕ} → One (IsValued keyword)
values' = record { one = valued_one }

pub lone_at : {w : List ℕ} {tokens rest : List Lexeme} → IsNameFirst tokens w rest → IsNotFirst (sign s.Equals) rest → IsLoneName tokens w rest
lone_at (name h) d = lone_name h d

pub lone_no_name : {tokens : List Lexeme} → NoReading IsNameFirst tokens → NoReading IsLoneName tokens
lone_no_name n = record { none = λ w r h. at h n }
  where
    at : {w : List ℕ} {ts r : List Lexeme} → IsLoneName ts w r → NoReading IsNameFirst ts → ⊥
    at (lone_name {w = w} {rest = r} h d) n = n.none w r (name h)

pub lone_equals : {w : List ℕ} {tokens equals rest : List Lexeme} → IsNameFirst tokens w equals → equals ≡ sign s.Equals ∷ rest → NoReading IsLoneName tokens
lone_equals k e = record { none = λ w r h. at h k e }
  where
    at : {w u : List ℕ} {ts equals rest r : List Lexeme} → IsLoneName ts w r → IsNameFirst ts u equals → equals ≡ sign s.Equals ∷ rest → ⊥
    at {rest = q} (lone_name h d) (name k) e = d q e

pub ruleset lone_names = (lone_at, lone_no_name, lone_equals)

lone_one : {tokens r q : List Lexeme} {w u : List ℕ} → IsLoneName tokens w r → IsLoneName tokens u q → (w ≡ u) × (r ≡ q)
lone_one (lone_name h d) (lone_name k e) = (refl, refl)

lone_names' : One IsLoneName
lone_names' = record { one = lone_one }

-- ---- attributes

pub word_attribute_at : {w : List ℕ} {a : Attribute} {tokens rest : List Lexeme} → IsLoneName tokens w rest → a ≡ attribute_of w → IsWordAttribute tokens a rest
word_attribute_at h e = rw e (made_of h)

pub ruleset an_attribute = (made_of, made_none, word_attribute_at, first, second, or_else_none)

pub attributes' : One IsLemmaAttribute
attributes' = or_else_one (made_one values') (or_else_one (made_one values') (made_one lone_names'))

attribute_spelled : {tokens rest : List Lexeme} {a : Attribute} → IsLemmaAttribute tokens a rest → SpellsLemmaAttribute tokens a rest
attribute_spelled (first (made_of (valued h))) = g.hides h
attribute_spelled (second n (first (made_of (valued h)))) = g.ranks h
attribute_spelled (second n (second m (made_of (lone_name h d)))) = g.by_word h

-- no keyword with a name stands where another word does, or no `=`
other_keyword : {keyword other : List ℕ} {tokens : List Lexeme} → (keyword ≡ other → ⊥) → NoReading (IsValued keyword) (word other ∷ tokens)
other_keyword d = record { none = λ w r h. at h refl d }
  where
    at : {keyword other w : List ℕ} {ts tokens r : List Lexeme} → IsValued keyword ts w r → ts ≡ word other ∷ tokens → (keyword ≡ other → ⊥) → ⊥
    at (valued h) e d = d cc

no_value : {keyword w : List ℕ} {tokens : List Lexeme} → IsNotFirst (sign s.Equals) tokens → NoReading (IsValued keyword) (word w ∷ tokens)
no_value d = record { none = λ w r h. at h refl d }
  where
    at : {keyword u w : List ℕ} {ts tokens r : List Lexeme} → IsValued keyword ts w r → ts ≡ word u ∷ tokens → IsNotFirst (sign s.Equals) tokens → ⊥
    at (valued {w = w} {rest = r} h) e d = d (word w ∷ r) cc

ranking_not_hiding : codes "hide_lemma" ≡ codes "heuristic" → ⊥
ranking_not_hiding e = cc

attribute_taken : {tokens rest : List Lexeme} {a : Attribute} → SpellsLemmaAttribute tokens a rest → IsNotFirst (sign s.Equals) rest → IsLemmaAttribute tokens a rest
attribute_taken (g.by_word h) d = second (made_none (no_value d)) (second (made_none (no_value d)) (made_of (lone_name h d)))
attribute_taken (g.hides h) d = first (made_of (valued h))
attribute_taken (g.ranks h) d = second (made_none (other_keyword ranking_not_hiding)) (first (made_of (valued h)))

-- ---- attributes that may stand there

pub some_said_at : {each : List Attribute} {tokens inside rest : List Lexeme} → tokens ≡ sign s.OpenList ∷ inside → AreParts IsLemmaAttribute s.Comma s.CloseList inside each rest → AreLemmaAttributes tokens each rest
some_said_at e h = rw e (some_said h)

pub some_said_none : {tokens inside : List Lexeme} → tokens ≡ sign s.OpenList ∷ inside → NoReading (AreParts IsLemmaAttribute s.Comma s.CloseList) inside → NoReading AreLemmaAttributes tokens
some_said_none e n = record { none = λ xs r h. at h e n }
  where
    at : {ts inside r : List Lexeme} {xs : List Attribute} → AreLemmaAttributes ts xs r → ts ≡ sign s.OpenList ∷ inside → NoReading (AreParts IsLemmaAttribute s.Comma s.CloseList) inside → ⊥
    at {inside = i} (none_said d) e n = d i e
    at {inside = i} (some_said {each = xs} {tokens = ts} {rest = r} h) e n =
        let f : ts ≡ i = cc in n.none xs r (subst (λ (us : List Lexeme). AreParts IsLemmaAttribute s.Comma s.CloseList us xs r) f h)

pub ruleset attribute_lists = (none_said, some_said_at, some_said_none)

attributes_one : {tokens r q : List Lexeme} {xs ys : List Attribute} → AreLemmaAttributes tokens xs r → AreLemmaAttributes tokens ys q → (xs ≡ ys) × (r ≡ q)
attributes_one (none_said d) (none_said e) = (refl, refl)
attributes_one (none_said d) (some_said {tokens = ts} h) = absurd (d ts refl)
attributes_one (some_said {tokens = ts} h) (none_said d) = absurd (d ts refl)
attributes_one (some_said h) (some_said k) = parts_one attributes' (λ e. cc) h k

attribute_lists' : One AreLemmaAttributes
attribute_lists' = record { one = attributes_one }

pub attributes_spelled : {tokens rest : List Lexeme} {xs : List Attribute} → AreLemmaAttributes tokens xs rest → SpellsLemmaAttributes tokens xs rest
attributes_spelled (none_said d) = g.no_lemma_attribute
attributes_spelled (some_said h) = g.lemma_attributes (parts_spelled (λ ts x r k. attribute_spelled k) h)

pub attributes_taken : {tokens mid rest : List Lexeme} {xs : List Attribute} → SpellsLemmaAttributes tokens xs mid → mid ≡ sign s.Colon ∷ rest → AreLemmaAttributes tokens xs mid
attributes_taken g.no_lemma_attribute e = none_said (λ q d. cc)
attributes_taken (g.lemma_attributes h) e = some_said (parts_taken (IsNotFirst (sign s.Equals)) (not_this (λ d. cc)) (not_this (λ d. cc)) (λ ts x r k n. attribute_taken k n) h)

-- ---- the head of a lemma

pub lemma_head_at : {w : List ℕ} {each : List Attribute} {tokens named ahead colon rest : List Lexeme} → tokens ≡ word (codes "lemma") ∷ named → IsNameFirst named w ahead → AreLemmaAttributes ahead each colon → colon ≡ sign s.Colon ∷ rest
    → IsLemmaHead tokens (w, each) rest
lemma_head_at {each = xs} e (name {rest = r} h) a f = rw e (lemma_head h (subst (λ (us : List Lexeme). AreLemmaAttributes r xs us) f a))

abbrev HeadParts : List Lexeme → Unit {0} × (List ℕ × (List Attribute × Unit {0})) → List Lexeme → Type 0
HeadParts = Then (Fixed (word (codes "lemma"))) (Then IsNameFirst (Then AreLemmaAttributes (Fixed (sign s.Colon))))

head_split : {tokens rest : List Lexeme} {x : List ℕ × List Attribute} → IsLemmaHead tokens x rest → HeadParts tokens (tt, (x.0, (x.1, tt))) rest
head_split (lemma_head {w = w} {tokens = ts} {rest = r} h a) =
    record { mid = word w ∷ ts; first = refl; second = record { mid = ts; first = name h; second = record { mid = sign s.Colon ∷ r; first = a; second = refl } } }

head_parts : Becomes IsLemmaHead HeadParts
head_parts = record { part = λ ts x r h. (tt, (x.0, (x.1, tt))); reads = λ ts x r h. head_split h }

pub lemma_head_no_word : {tokens : List Lexeme} → IsNotFirst (word (codes "lemma")) tokens → NoReading IsLemmaHead tokens
lemma_head_no_word d = no_whole head_parts (no_first (fixed_none d))

pub lemma_head_no_name : {tokens named : List Lexeme} → tokens ≡ word (codes "lemma") ∷ named → NoReading IsNameFirst named → NoReading IsLemmaHead tokens
lemma_head_no_name e n = no_whole head_parts (no_second {x = tt} fixed_one e (no_first n))

pub lemma_head_unclosed : {w : List ℕ} {tokens named ahead : List Lexeme} → tokens ≡ word (codes "lemma") ∷ named → IsNameFirst named w ahead → NoReading AreLemmaAttributes ahead → NoReading IsLemmaHead tokens
lemma_head_unclosed e h n = no_whole head_parts (no_second {x = tt} fixed_one e (no_second names h (no_first n)))

pub lemma_head_no_colon : {w : List ℕ} {each : List Attribute} {tokens named ahead colon : List Lexeme} → tokens ≡ word (codes "lemma") ∷ named → IsNameFirst named w ahead → AreLemmaAttributes ahead each colon → IsNotFirst (sign s.Colon) colon
    → NoReading IsLemmaHead tokens
lemma_head_no_colon e h a d = no_whole head_parts (no_second {x = tt} fixed_one e (no_second names h (no_second attribute_lists' a (fixed_none d))))

pub ruleset lemma_heads = (lemma_head_at, lemma_head_no_word, lemma_head_no_name, lemma_head_unclosed, lemma_head_no_colon)

abbrev head_with : Unit {0} × (List ℕ × (List Attribute × Unit {0})) → List ℕ × List Attribute
head_with p = (p.1.0, p.1.1.0)

lemma_head_one : {tokens r q : List Lexeme} {x y : List ℕ × List Attribute} → IsLemmaHead tokens x r → IsLemmaHead tokens y q → (x ≡ y) × (r ≡ q)
lemma_head_one {x = x} {y} h k =
    let i = (then_one fixed_one (then_one names (then_one attribute_lists' fixed_one))).one (head_split h) (head_split k) in
    let e : x ≡ y = ap head_with i.0 in
    (e, i.1)

pub lemma_heads' : One IsLemmaHead
lemma_heads' = record { one = lemma_head_one }

-- ---- the head of a restriction

pub restriction_head_at : {k w : List ℕ} {tokens named colon quote rest : List Lexeme} → tokens ≡ word k ∷ named → is_restriction k ≡ true → IsNameFirst named w colon → colon ≡ sign s.Colon ∷ quote → quote ≡ sign s.Quote ∷ rest → IsRestrictionHead tokens w rest
restriction_head_at e i (name h) f j = rw (e, f, j) (restriction_head i h)

pub restriction_no_word : {tokens : List Lexeme} → IsNoWord tokens → NoReading IsRestrictionHead tokens
restriction_no_word d = record { none = λ w r h. at h d }
  where
    at : {ts r : List Lexeme} {w : List ℕ} → IsRestrictionHead ts w r → IsNoWord ts → ⊥
    at (restriction_head {k = k} {w = w} {rest = r} i h) d = d k (word w ∷ sign s.Colon ∷ sign s.Quote ∷ r) refl

pub restriction_no_keyword : {k : List ℕ} {tokens named : List Lexeme} → tokens ≡ word k ∷ named → is_restriction k ≡ false → NoReading IsRestrictionHead tokens
restriction_no_keyword e f = record { none = λ w r h. at h e f }
  where
    at : {ts named r : List Lexeme} {k w : List ℕ} → IsRestrictionHead ts w r → ts ≡ word k ∷ named → is_restriction k ≡ false → ⊥
    at {k = k} (restriction_head {k = l} i h) e f = let j : l ≡ k = cc in true≢false (sym i ∙ (ap is_restriction j ∙ f))

pub restriction_no_name : {k : List ℕ} {tokens named : List Lexeme} → tokens ≡ word k ∷ named → NoReading IsNameFirst named → NoReading IsRestrictionHead tokens
restriction_no_name e n = record { none = λ w r h. at h e n }
  where
    at : {ts named r : List Lexeme} {k w : List ℕ} → IsRestrictionHead ts w r → ts ≡ word k ∷ named → NoReading IsNameFirst named → ⊥
    at {named = m} (restriction_head {w = w} {rest = r} i h) e n =
        let q : List Lexeme = sign s.Colon ∷ sign s.Quote ∷ r in
        let j : word w ∷ sign s.Colon ∷ sign s.Quote ∷ r ≡ m = cc in
        n.none w q (subst (λ (us : List Lexeme). IsNameFirst us w q) j (name h))

pub restriction_no_colon : {k u : List ℕ} {tokens named colon : List Lexeme} → tokens ≡ word k ∷ named → IsNameFirst named u colon → IsNotFirst (sign s.Colon) colon → NoReading IsRestrictionHead tokens
restriction_no_colon e l d = record { none = λ w r h. at h e l d }
  where
    at : {ts named colon r : List Lexeme} {k u w : List ℕ} → IsRestrictionHead ts w r → ts ≡ word k ∷ named → IsNameFirst named u colon → IsNotFirst (sign s.Colon) colon → ⊥
    at (restriction_head {rest = r} i h) e (name l) d = d (sign s.Quote ∷ r) cc

pub restriction_no_quote : {k u : List ℕ} {tokens named colon quote : List Lexeme} → tokens ≡ word k ∷ named → IsNameFirst named u colon → colon ≡ sign s.Colon ∷ quote → IsNotFirst (sign s.Quote) quote → NoReading IsRestrictionHead tokens
restriction_no_quote e l f d = record { none = λ w r h. at h e l f d }
  where
    at : {ts named colon quote r : List Lexeme} {k u w : List ℕ} → IsRestrictionHead ts w r → ts ≡ word k ∷ named → IsNameFirst named u colon → colon ≡ sign s.Colon ∷ quote → IsNotFirst (sign s.Quote) quote → ⊥
    at (restriction_head {rest = r} i h) e (name l) f d = d r cc

pub ruleset restriction_heads = (restriction_head_at, restriction_no_word, restriction_no_keyword, restriction_no_name, restriction_no_colon, restriction_no_quote)

restriction_head_one : {tokens r q : List Lexeme} {w u : List ℕ} → IsRestrictionHead tokens w r → IsRestrictionHead tokens u q → (w ≡ u) × (r ≡ q)
restriction_head_one (restriction_head i h) (restriction_head j k) = (refl, refl)

pub restriction_heads' : One IsRestrictionHead
restriction_heads' = record { one = restriction_head_one }
