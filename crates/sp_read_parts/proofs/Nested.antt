-- What a term begins with says which way it is read; each way to get stuck leaves no reading.
use Rattle.std.proofs.Common.{◌≡◌, ℕ, ◌+◌, ◌<◌, ◌≤◌, List, [], ◌∷◌, refl, sym, subst, arith}
use Rattle.sp_spec_text.specs.Signs.{Sign}
use Rattle.sp_spec_text.specs.Signs as s
use Rattle.sp_spec_text.specs.Token.{Lexeme, word, constant, sign}
use Rattle.sp_spec.specs.Term.{Term, var, app, Terms, none, more}
use Rattle.sp_spec.specs.Term as t
use Rattle.sp_spec.specs.Signature.{pair}
use Rattle.sp_spec.specs.Formula.{Written}
use Rattle.sp_spec_text.specs.Names.{IsName}
use Rattle.sp_spec_text.specs.Lists.{IsNotFirst, NoReading, AreParts, last, next}
use Rattle.sp_term.specs.View.{terms_of}
use Rattle.sp_read_parts.specs.Parts.{IsNameFirst, name, IsVariable, marked, sorted, unmarked, IsNoConstant, IsNoApplication, IsTerm, fixed, variable, brackets, tuple, application, braced, IsTuple, last_part, next_part, arguments, AreTermsTo, no_term, some_terms, AreTerms, last_term, next_term}
use Rattle.sp_read_parts.proofs.One.{variable_sign, term_one, tuple_one}

-- ---- terms in brackets

under_bracket : {n : ℕ} {tokens rest : List Lexeme} {x : Term Written} → IsTerm n (sign s.Open ∷ tokens) x rest → (n < 128) × IsTerm (n + 1) tokens x (sign s.Close ∷ rest)
under_bracket (variable d h) = absurd (variable_sign refl h)
under_bracket (brackets lt h) = (lt, h)

pub bracketed_at : {n k : ℕ} {x : Term Written} {tokens ahead rest : List Lexeme} → n < 128 → k ≡ n + 1 → IsTerm k tokens x ahead → ahead ≡ sign s.Close ∷ rest → IsTerm n (sign s.Open ∷ tokens) x rest
bracketed_at {n} {x = x} {tokens = ts} {ahead = a} lt e h c = brackets lt (subst (λ (r : List Lexeme). IsTerm (n + 1) ts x r) c (subst (λ (m : ℕ). IsTerm m ts x a) e h))

pub bracket_too_deep : {n : ℕ} {tokens : List Lexeme} → 128 ≤ n → NoReading (IsTerm n) (sign s.Open ∷ tokens)
bracket_too_deep le = record { none = λ x r h. let i = (under_bracket h).0 in omega (arith, le, i) }

pub bracket_no_inside : {n k : ℕ} {tokens : List Lexeme} → k ≡ n + 1 → NoReading (IsTerm k) tokens → NoReading (IsTerm n) (sign s.Open ∷ tokens)
bracket_no_inside {tokens = ts} e d = record { none = λ x r h. d.none x (sign s.Close ∷ r) (subst (λ (m : ℕ). IsTerm m ts x (sign s.Close ∷ r)) (sym e) (under_bracket h).1) }

pub bracket_unclosed : {n k : ℕ} {y : Term Written} {tokens ahead : List Lexeme} → k ≡ n + 1 → IsTerm k tokens y ahead → IsNotFirst (sign s.Close) ahead → NoReading (IsTerm n) (sign s.Open ∷ tokens)
bracket_unclosed {tokens = ts} e k d = record { none = λ x r h. d r (term_one k (subst (λ (m : ℕ). IsTerm m ts x (sign s.Close ∷ r)) (sym e) (under_bracket h).1)).1 }

pub ruleset bracketed_terms = (bracketed_at, bracket_too_deep, bracket_no_inside, bracket_unclosed)

-- ---- terms that are tuples

under_angle : {n : ℕ} {tokens rest : List Lexeme} {x : Term Written} → IsTerm n (sign s.Less ∷ tokens) x rest → (n < 128) × IsTuple (n + 1) s.Greater tokens x rest
under_angle (variable d h) = absurd (variable_sign refl h)
under_angle (tuple lt h) = (lt, h)

pub angled_at : {n k : ℕ} {x : Term Written} {tokens inside rest : List Lexeme} → tokens ≡ sign s.Less ∷ inside → n < 128 → k ≡ n + 1 → IsTuple k s.Greater inside x rest → IsTerm n tokens x rest
angled_at {x = x} {inside = ts} {rest = r} d lt e h = rw d (tuple lt (subst (λ (m : ℕ). IsTuple m s.Greater ts x r) e h))

pub angle_too_deep : {n : ℕ} {tokens inside : List Lexeme} → tokens ≡ sign s.Less ∷ inside → 128 ≤ n → NoReading (IsTerm n) tokens
angle_too_deep {n} {inside = ts} d le = subst (NoReading (IsTerm n)) (sym d) (record { none = λ x r h. let i = (under_angle h).0 in omega (arith, le, i) })

pub angle_no_tuple : {n k : ℕ} {tokens inside : List Lexeme} → tokens ≡ sign s.Less ∷ inside → k ≡ n + 1 → NoReading (IsTuple k s.Greater) inside → NoReading (IsTerm n) tokens
angle_no_tuple {n} {inside = ts} d e k = subst (NoReading (IsTerm n)) (sym d) (record { none = λ x r h. k.none x r (subst (λ (m : ℕ). IsTuple m s.Greater ts x r) (sym e) (under_angle h).1) })

pub ruleset angled_terms = (angled_at, angle_too_deep, angle_no_tuple)

-- ---- symbols over arguments

under_call : {n : ℕ} {w : List ℕ} {tokens rest : List Lexeme} {x : Term Written} → IsTerm n (word w ∷ sign s.Open ∷ tokens) x rest → (n < 128) × (xs : Terms Written) × AreTermsTo (n + 1) tokens xs rest
under_call {w = w} {tokens = ts} (variable d h) = absurd (d.no_bracket w ts refl)
under_call (application {xs = xs} i (arguments lt h)) = (lt, xs, h)

pub applied_at : {n k : ℕ} {w : List ℕ} {x : Term Written} {xs : Terms Written} {tokens rest : List Lexeme} → IsName w → n < 128 → k ≡ n + 1 → AreTermsTo k tokens xs rest → x ≡ app w xs → IsTerm n (word w ∷ sign s.Open ∷ tokens) x rest
applied_at {xs = xs} {tokens = ts} {rest = r} i lt e h d = rw d (application i (arguments lt (subst (λ (m : ℕ). AreTermsTo m ts xs r) e h)))

pub call_too_deep : {n : ℕ} {w : List ℕ} {tokens : List Lexeme} → 128 ≤ n → NoReading (IsTerm n) (word w ∷ sign s.Open ∷ tokens)
call_too_deep le = record { none = λ x r h. let i = (under_call h).0 in omega (arith, le, i) }

pub call_no_arguments : {n k : ℕ} {w : List ℕ} {tokens : List Lexeme} → k ≡ n + 1 → NoReading (AreTermsTo k) tokens → NoReading (IsTerm n) (word w ∷ sign s.Open ∷ tokens)
call_no_arguments {tokens = ts} e d = record { none = λ x r h. let i = under_call h in d.none i.1 r (subst (λ (m : ℕ). AreTermsTo m ts i.1 r) (sym e) i.2) }

pub ruleset applied_terms = (applied_at, call_too_deep, call_no_arguments)

-- ---- symbols over a tuple and what stands behind its brace

record UnderBrace (n : ℕ) (tokens rest : List Lexeme) : Type 0 where
  pub first : Term Written
  pub second : Term Written
  pub mid : List Lexeme
  pub shallow_enough : n < 128
  pub inside : IsTuple (n + 1) s.CloseBrace tokens first mid
  pub behind : IsTerm (n + 1) mid second rest

under_brace : {n : ℕ} {w : List ℕ} {tokens rest : List Lexeme} {x : Term Written} → IsTerm n (word w ∷ sign s.OpenBrace ∷ tokens) x rest → UnderBrace n tokens rest
under_brace {w = w} {tokens = ts} (variable d h) = absurd (d.no_brace w ts refl)
under_brace (application i h) = elim h [ ]
under_brace (braced {x = x} {y = y} {mid = m} i lt h k) = record { first = x; second = y; mid = m; shallow_enough = lt; inside = h; behind = k }

pub braced_at : {n k : ℕ} {w : List ℕ} {x y z : Term Written} {tokens mid rest : List Lexeme} → IsName w → n < 128 → k ≡ n + 1 → IsTuple k s.CloseBrace tokens x mid → IsTerm k mid y rest
    → z ≡ app w (more x (more y none)) → IsTerm n (word w ∷ sign s.OpenBrace ∷ tokens) z rest
braced_at {x = x} {y = y} {tokens = ts} {mid = m} {rest = r} i lt e h k d = rw d (braced i lt (subst (λ (o : ℕ). IsTuple o s.CloseBrace ts x m) e h) (subst (λ (o : ℕ). IsTerm o m y r) e k))

pub brace_too_deep : {n : ℕ} {w : List ℕ} {tokens : List Lexeme} → 128 ≤ n → NoReading (IsTerm n) (word w ∷ sign s.OpenBrace ∷ tokens)
brace_too_deep le = record { none = λ x r h. let i = (under_brace h).shallow_enough in omega (arith, le, i) }

pub brace_no_tuple : {n k : ℕ} {w : List ℕ} {tokens : List Lexeme} → k ≡ n + 1 → NoReading (IsTuple k s.CloseBrace) tokens → NoReading (IsTerm n) (word w ∷ sign s.OpenBrace ∷ tokens)
brace_no_tuple {tokens = ts} e d = record { none = λ x r h. let i = under_brace h in d.none i.first i.mid (subst (λ (m : ℕ). IsTuple m s.CloseBrace ts i.first i.mid) (sym e) i.inside) }

pub brace_no_behind : {n k : ℕ} {w : List ℕ} {x : Term Written} {tokens mid : List Lexeme} → k ≡ n + 1 → IsTuple k s.CloseBrace tokens x mid → NoReading (IsTerm k) mid → NoReading (IsTerm n) (word w ∷ sign s.OpenBrace ∷ tokens)
brace_no_behind {n} {k} {tokens = ts} e h d = record {
  none = λ x r j.
      let i = under_brace j in
      let o = tuple_one (λ c. cc) h (subst (λ (m : ℕ). IsTuple m s.CloseBrace ts i.first i.mid) (sym e) i.inside) in
      d.none i.second r (subst (λ (us : List Lexeme). IsTerm k us i.second r) (sym o.1) (subst (λ (m : ℕ). IsTerm m i.mid i.second r) (sym e) i.behind));
}

pub ruleset braced_terms = (braced_at, brace_too_deep, brace_no_tuple, brace_no_behind)

-- ---- tuples

pub tuple_end : {n : ℕ} {close : Sign} {x : Term Written} {tokens ahead rest : List Lexeme} → IsTerm n tokens x ahead → ahead ≡ sign close ∷ rest → IsTuple n close tokens x rest
tuple_end {n} {x = x} {tokens = ts} h e = last_part (subst (λ (r : List Lexeme). IsTerm n ts x r) e h)

pub tuple_more : {n k : ℕ} {close : Sign} {x y z : Term Written} {tokens ahead after rest : List Lexeme} → IsTerm n tokens x ahead → ahead ≡ sign s.Comma ∷ after → n < 128 → k ≡ n + 1 → IsTuple k close after y rest → z ≡ pair x y → IsTuple n close tokens z rest
tuple_more {n} {close = close} {x = x} {y = y} {tokens = ts} {after = us} {rest = r} h c lt e k d =
    rw d (next_part (subst (λ (l : List Lexeme). IsTerm n ts x l) c h) lt (subst (λ (m : ℕ). IsTuple m close us y r) e k))

pub tuple_no_first : {n : ℕ} {close : Sign} {tokens : List Lexeme} → NoReading (IsTerm n) tokens → NoReading (IsTuple n close) tokens
tuple_no_first {n} {close} d = record { none = λ x r h. at h d }
  where
    at : {ts r : List Lexeme} {x : Term Written} → IsTuple n close ts x r → NoReading (IsTerm n) ts → ⊥
    at (last_part {x = x} {rest = r} h) d = d.none x (sign close ∷ r) h
    at (next_part {x = x} {mid = m} h lt k) d = d.none x (sign s.Comma ∷ m) h

pub tuple_no_sign : {n : ℕ} {close : Sign} {x : Term Written} {tokens ahead : List Lexeme} → IsTerm n tokens x ahead → IsNotFirst (sign close) ahead → IsNotFirst (sign s.Comma) ahead → NoReading (IsTuple n close) tokens
tuple_no_sign {n} {close} h c d = record { none = λ x r k. at k h c d }
  where
    at : {ts ahead r : List Lexeme} {x y : Term Written} → IsTuple n close ts x r → IsTerm n ts y ahead → IsNotFirst (sign close) ahead → IsNotFirst (sign s.Comma) ahead → ⊥
    at (last_part {rest = r} k) h c d = c r (term_one h k).1
    at (next_part {mid = m} k lt l) h c d = d m (term_one h k).1

-- behind a part and its comma stand the others
under_comma : {n : ℕ} {close : Sign} {x y : Term Written} {tokens ahead after rest : List Lexeme} → (s.Comma ≡ close → ⊥) → IsTerm n tokens x ahead → ahead ≡ sign s.Comma ∷ after → IsTuple n close tokens y rest → (n < 128) × (z : Term Written) × IsTuple (n + 1) close after z rest
under_comma d h c (last_part k) = let e = (term_one h k).1 in absurd (d cc)
under_comma {n} {close} {after = us} {rest = r} d h c (next_part {y = y} {mid = m} k lt l) = let e = (term_one h k).1 in let f : m ≡ us = cc in (lt, y, subst (λ (ts : List Lexeme). IsTuple (n + 1) close ts y r) f l)

pub tuple_too_deep : {n : ℕ} {close : Sign} {x : Term Written} {tokens ahead after : List Lexeme} → (s.Comma ≡ close → ⊥) → IsTerm n tokens x ahead → ahead ≡ sign s.Comma ∷ after → 128 ≤ n → NoReading (IsTuple n close) tokens
tuple_too_deep d h c le = record { none = λ y r k. let i = (under_comma d h c k).0 in omega (arith, le, i) }

pub tuple_no_others : {n k : ℕ} {close : Sign} {x : Term Written} {tokens ahead after : List Lexeme} → (s.Comma ≡ close → ⊥) → IsTerm n tokens x ahead → ahead ≡ sign s.Comma ∷ after → k ≡ n + 1 → NoReading (IsTuple k close) after → NoReading (IsTuple n close) tokens
tuple_no_others {close = close} {after = us} d h c e l = record { none = λ y r k. let i = under_comma d h c k in l.none i.1 r (subst (λ (m : ℕ). IsTuple m close us i.1 r) (sym e) i.2) }

pub ruleset tuples = (tuple_end, tuple_more, tuple_no_first, tuple_no_sign, tuple_too_deep, tuple_no_others)

-- ---- lists

parts_listed : {n : ℕ} {tokens rest : List Lexeme} {xs : List (Term Written)} → AreParts (IsTerm n) s.Comma s.Close tokens xs rest → AreTerms n tokens (terms_of xs) rest
parts_listed (last h) = last_term h
parts_listed (next h k) = next_term h (parts_listed k)

listed_parts : {n : ℕ} {tokens rest : List Lexeme} {xs : Terms Written} → AreTerms n tokens xs rest → (ys : List (Term Written)) × AreParts (IsTerm n) s.Comma s.Close tokens ys rest
listed_parts (last_term {x = x} h) = (x ∷ [], last h)
listed_parts (next_term {x = x} h k) = let i = listed_parts k in (x ∷ i.0, next h i.1)

pub list_none : {n : ℕ} {tokens rest : List Lexeme} → tokens ≡ sign s.Close ∷ rest → AreTermsTo n tokens none rest
list_none e = rw e no_term

pub list_some : {n : ℕ} {tokens rest : List Lexeme} {xs : List (Term Written)} → IsNotFirst (sign s.Close) tokens → AreParts (IsTerm n) s.Comma s.Close tokens xs rest → AreTermsTo n tokens (terms_of xs) rest
list_some d h = some_terms d (parts_listed h)

pub no_list : {n : ℕ} {tokens : List Lexeme} → IsNotFirst (sign s.Close) tokens → NoReading (AreParts (IsTerm n) s.Comma s.Close) tokens → NoReading (AreTermsTo n) tokens
no_list {n} d k = record { none = λ xs r h. at h d k }
  where
    at : {ts r : List Lexeme} {xs : Terms Written} → AreTermsTo n ts xs r → IsNotFirst (sign s.Close) ts → NoReading (AreParts (IsTerm n) s.Comma s.Close) ts → ⊥
    at (no_term {rest = r}) d k = d r refl
    at {r = r} (some_terms e h) d k = let i = listed_parts h in k.none i.0 r i.1

pub ruleset term_lists = (list_none, list_some, no_list)

-- ---- any term

pub name_is : {w : List ℕ} {tokens rest : List Lexeme} → IsNameFirst tokens w rest → tokens ≡ word w ∷ rest
name_is (name h) = refl

pub name_named : {w : List ℕ} {tokens rest : List Lexeme} → IsNameFirst tokens w rest → IsName w
name_named (name h) = h

pub fixed_at : {n : ℕ} {c : List ℕ} {x : Term Written} {tokens rest : List Lexeme} → tokens ≡ constant c ∷ rest → x ≡ t.constant c → IsTerm n tokens x rest
fixed_at e d = rw (e, d) fixed

-- what begins with no name, or with one and neither a bracket nor a brace behind it
record Uncalled (tokens : List Lexeme) : Type 0 where
  pub bracket : (w : List ℕ) (rest : List Lexeme) → IsName w → tokens ≡ word w ∷ sign s.Open ∷ rest → ⊥
  pub brace : (w : List ℕ) (rest : List Lexeme) → IsName w → tokens ≡ word w ∷ sign s.OpenBrace ∷ rest → ⊥

unnamed : {tokens : List Lexeme} → NoReading IsNameFirst tokens → Uncalled tokens
unnamed d = record {
  bracket = λ w r i e. d.none w (sign s.Open ∷ r) (rw e (name i));
  brace = λ w r i e. d.none w (sign s.OpenBrace ∷ r) (rw e (name i));
}

bare_name : {w : List ℕ} {tokens behind : List Lexeme} → IsNameFirst tokens w behind → IsNotFirst (sign s.Open) behind → IsNotFirst (sign s.OpenBrace) behind → Uncalled tokens
bare_name (name h) o b = record { bracket = λ w r i e. o r cc; brace = λ w r i e. b r cc }

uncalled_variable : {v : Written} {tokens rest : List Lexeme} → Uncalled tokens → IsVariable tokens v rest → IsNoApplication tokens
uncalled_variable u (marked e h) = record { no_bracket = λ w r d. cc; no_brace = λ w r d. cc }
uncalled_variable u (sorted (name h) k) = record { no_bracket = λ w r d. cc; no_brace = λ w r d. cc }
uncalled_variable u (unmarked {w = u'} (name h) d) = record {
  no_bracket = λ w r e. let f : u' ≡ w = cc in u.bracket w r (subst IsName f h) e;
  no_brace = λ w r e. let f : u' ≡ w = cc in u.brace w r (subst IsName f h) e;
}

uncalled_none : {n : ℕ} {tokens : List Lexeme} → IsNoConstant tokens → IsNotFirst (sign s.Open) tokens → IsNotFirst (sign s.Less) tokens → Uncalled tokens → NoReading IsVariable tokens → NoReading (IsTerm n) tokens
uncalled_none {n} c o l u d = record { none = λ x r h. at h c o l u d }
  where
    at : {ts r : List Lexeme} {x : Term Written} → IsTerm n ts x r → IsNoConstant ts → IsNotFirst (sign s.Open) ts → IsNotFirst (sign s.Less) ts → Uncalled ts → NoReading IsVariable ts → ⊥
    at (fixed {c = k} {rest = r}) c o l u d = c k r refl
    at (variable {v = v} {rest = r} a h) c o l u d = d.none v r h
    at (brackets {tokens = ts} lt h) c o l u d = o ts refl
    at (tuple {tokens = ts} lt h) c o l u d = l ts refl
    at (application {w = w} i (arguments {tokens = ts} lt h)) c o l u d = u.bracket w ts i refl
    at (braced {w = w} {tokens = ts} i lt h k) c o l u d = u.brace w ts i refl

-- a variable alone, where no symbol stands over arguments
abbrev pub Lone : List Lexeme → Term Written → List Lexeme → Type 0
Lone tokens x rest = (v : Written) × IsVariable tokens v rest × (x ≡ var v)

lone_term : {n : ℕ} {x : Term Written} {tokens rest : List Lexeme} → Uncalled tokens → Lone tokens x rest → IsTerm n tokens x rest
lone_term u l = rw l.2 (variable (uncalled_variable u l.1) l.1)

-- no name stands first, and what may be a variable is one or is not
pub unnamed_at : {n : ℕ} {x : Term Written} {tokens rest : List Lexeme} → NoReading IsNameFirst tokens → Lone tokens x rest → IsTerm n tokens x rest
unnamed_at d l = lone_term (unnamed d) l

pub unnamed_none : {n : ℕ} {tokens : List Lexeme} → IsNoConstant tokens → IsNotFirst (sign s.Open) tokens → IsNotFirst (sign s.Less) tokens → NoReading IsNameFirst tokens → NoReading IsVariable tokens → NoReading (IsTerm n) tokens
unnamed_none c o l d k = uncalled_none c o l (unnamed d) k

pub bare_at : {n : ℕ} {w : List ℕ} {x : Term Written} {tokens behind rest : List Lexeme} → IsNameFirst tokens w behind → IsNotFirst (sign s.Open) behind → IsNotFirst (sign s.OpenBrace) behind → Lone tokens x rest → IsTerm n tokens x rest
bare_at h o b l = lone_term (bare_name h o b) l

pub bare_none : {n : ℕ} {w : List ℕ} {tokens behind : List Lexeme} → IsNoConstant tokens → IsNotFirst (sign s.Open) tokens → IsNotFirst (sign s.Less) tokens
    → IsNameFirst tokens w behind → IsNotFirst (sign s.Open) behind → IsNotFirst (sign s.OpenBrace) behind → NoReading IsVariable tokens → NoReading (IsTerm n) tokens
bare_none c p l h o b k = uncalled_none c p l (bare_name h o b) k

pub ruleset all_terms = (fixed_at, name_named, unnamed_at, unnamed_none, bare_at, bare_none)
