-- What a part of a formula begins with says which way it is read; each way to get stuck leaves no reading.
use Rattle.std.proofs.Common.{◌≡◌, ℕ, ◌+◌, ◌<◌, ◌≤◌, Bool, List, [], ◌∷◌, ◌++◌, codes, refl, sym, subst, arith}
use Rattle.sp_spec_text.specs.Signs as s
use Rattle.sp_spec_text.specs.Token.{Lexeme, word, sign}
use Rattle.sp_spec.specs.Formula.{Written, Formula, not_so, implies}
use Rattle.sp_spec_text.specs.Lists.{IsNotFirst, NoReading}
use Rattle.sp_read_parts.specs.Parts.{AreBinders}
use Rattle.sp_spec_text.specs.Formulas.{equivalent}
use Rattle.sp_read_atoms.specs.Atoms.{IsAtom}
use Rattle.sp_read_formula.specs.Reading.{IsQuantifier, bind, sign_of, a_group, a_binding, a_unit, a_negation, a_chain, an_implication, a_whole, below, Reads, grouped, bound, shallow, from_group, from_binding, positive, negative, chained, lone, implying, single, double, GoesOn, ended, went}
use Rattle.sp_read_parts.specs.Formulas.{Joint, disjoint, join, linked}
use Rattle.sp_read_parts.proofs.Chains.{linked_more}
use Rattle.sp_read_parts.proofs.One.{binders_one}
use Rattle.sp_read_formula.proofs.OneFormula.{quantifier_one, reads_one}

-- ---- groups

pub group_at : {n : ℕ} {f : Formula} {tokens inside ahead rest : List Lexeme} → tokens ≡ sign s.Open ∷ inside → n < 128 → Reads a_whole (n + 1) inside f ahead → ahead ≡ sign s.Close ∷ rest → Reads a_group n tokens f rest
group_at {n} {f} {inside = inside} e lt h c = rw e (grouped lt (subst (λ (ts : List Lexeme). Reads a_whole (n + 1) inside f ts) c h))

under_group : {n : ℕ} {f : Formula} {tokens rest : List Lexeme} → Reads a_group n tokens f rest → (n < 128) × (inside : List Lexeme) × (tokens ≡ sign s.Open ∷ inside) × Reads a_whole (n + 1) inside f (sign s.Close ∷ rest)
under_group (grouped {tokens = ts} lt h) = (lt, ts, refl, h)

pub group_too_deep : {n : ℕ} {tokens : List Lexeme} → 128 ≤ n → NoReading (Reads a_group n) tokens
group_too_deep le = record { none = λ f r h. let i = (under_group h).0 in omega (arith, le, i) }

pub no_group : {n : ℕ} {tokens : List Lexeme} → IsNotFirst (sign s.Open) tokens → NoReading (Reads a_group n) tokens
no_group d = record { none = λ f r h. let i = under_group h in d i.1 i.2 }

-- what stands in a group behind this bracket
inside_of : {n : ℕ} {f : Formula} {tokens inside rest : List Lexeme} → tokens ≡ sign s.Open ∷ inside → Reads a_group n tokens f rest → Reads a_whole (n + 1) inside f (sign s.Close ∷ rest)
inside_of {n} {f} {inside = inside} {rest = rest} e h = let i = under_group h in let d = i.2 in let j : i.1 ≡ inside = cc in subst (λ (ts : List Lexeme). Reads a_whole (n + 1) ts f (sign s.Close ∷ rest)) j i.3

pub group_no_inside : {n : ℕ} {tokens inside : List Lexeme} → tokens ≡ sign s.Open ∷ inside → NoReading (Reads a_whole (n + 1)) inside → NoReading (Reads a_group n) tokens
group_no_inside e k = record { none = λ f r h. k.none f (sign s.Close ∷ r) (inside_of e h) }

pub group_unclosed : {n : ℕ} {g : Formula} {tokens inside ahead : List Lexeme} → tokens ≡ sign s.Open ∷ inside → Reads a_whole (n + 1) inside g ahead → IsNotFirst (sign s.Close) ahead → NoReading (Reads a_group n) tokens
group_unclosed e k d = record { none = λ f r h. d r (reads_one k (inside_of e h)).1 }

pub ruleset groups = (group_at, group_too_deep, no_group, group_no_inside, group_unclosed)

-- ---- bindings

binding_at : {n : ℕ} {k : Bool} {vs : List Written} {f g : Formula} {tokens inner body rest : List Lexeme} → n < 128 → IsQuantifier tokens k inner → AreBinders inner vs body → Reads a_whole (n + 1) body f rest → g ≡ bind k vs f → Reads a_binding n tokens g rest
binding_at lt q b h e = rw e (bound lt q b h)

record UnderBinding (n : ℕ) (tokens : List Lexeme) (rest : List Lexeme) : Type 0 where
  pub kind : Bool
  pub binders : List Written
  pub within : Formula
  pub inner : List Lexeme
  pub body : List Lexeme
  pub shallow_enough : n < 128
  pub quantifier : IsQuantifier tokens kind inner
  pub bindings : AreBinders inner binders body
  pub reads : Reads a_whole (n + 1) body within rest

under_binding : {n : ℕ} {f : Formula} {tokens rest : List Lexeme} → Reads a_binding n tokens f rest → UnderBinding n tokens rest
under_binding (bound {k = k} {vs = vs} {f = f} {inner = i} {body = b} lt q bs h) = record { kind = k; binders = vs; within = f; inner = i; body = b; shallow_enough = lt; quantifier = q; bindings = bs; reads = h }

binding_too_deep : {n : ℕ} {tokens : List Lexeme} → 128 ≤ n → NoReading (Reads a_binding n) tokens
binding_too_deep le = record { none = λ f r h. let i = (under_binding h).shallow_enough in omega (arith, le, i) }

no_binding : {n : ℕ} {tokens : List Lexeme} → NoReading IsQuantifier tokens → NoReading (Reads a_binding n) tokens
no_binding k = record { none = λ f r h. let i = under_binding h in k.none i.kind i.inner i.quantifier }

binding_no_binders : {n : ℕ} {k : Bool} {tokens inner : List Lexeme} → IsQuantifier tokens k inner → NoReading AreBinders inner → NoReading (Reads a_binding n) tokens
binding_no_binders q d = record {
  none = λ f r h.
      let i = under_binding h in
      d.none i.binders i.body (subst (λ (ts : List Lexeme). AreBinders ts i.binders i.body) (sym (quantifier_one q i.quantifier).1) i.bindings);
}

binding_no_body : {n : ℕ} {k : Bool} {vs : List Written} {tokens inner body : List Lexeme} → IsQuantifier tokens k inner → AreBinders inner vs body → NoReading (Reads a_whole (n + 1)) body → NoReading (Reads a_binding n) tokens
binding_no_body {n} q b d = record {
  none = λ f r h.
      let i = under_binding h in
      let o = binders_one b (subst (λ (ts : List Lexeme). AreBinders ts i.binders i.body) (sym (quantifier_one q i.quantifier).1) i.bindings) in
      d.none i.within r (subst (λ (ts : List Lexeme). Reads a_whole (n + 1) ts i.within r) (sym o.1) i.reads);
}

-- ---- units and negations

no_unit : {n : ℕ} {tokens : List Lexeme} → NoReading (IsAtom n) tokens → NoReading (Reads a_group n) tokens → NoReading (Reads a_binding n) tokens → NoReading (Reads a_unit n) tokens
no_unit {n} a g b = record { none = λ f r h. at h a g b }
  where
    at : {ts r : List Lexeme} {f : Formula} → Reads a_unit n ts f r → NoReading (IsAtom n) ts → NoReading (Reads a_group n) ts → NoReading (Reads a_binding n) ts → ⊥
    at (shallow {f = f} {rest = r} h) a g b = a.none f r h
    at (from_group {f = f} {rest = r} d h) a g b = g.none f r h
    at (from_binding {f = f} {rest = r} d h) a g b = b.none f r h

pub unit_bound : {n : ℕ} {k : Bool} {vs : List Written} {f g : Formula} {tokens inner body rest : List Lexeme} → NoReading (IsAtom n) tokens → n < 128 → IsQuantifier tokens k inner → AreBinders inner vs body
    → Reads a_whole (n + 1) body f rest → g ≡ bind k vs f → Reads a_unit n tokens g rest
unit_bound a lt q b h e = from_binding a (binding_at lt q b h e)

pub unit_too_deep : {n : ℕ} {tokens : List Lexeme} → NoReading (IsAtom n) tokens → NoReading (Reads a_group n) tokens → 128 ≤ n → NoReading (Reads a_unit n) tokens
unit_too_deep a g le = no_unit a g (binding_too_deep le)

pub unit_unbound : {n : ℕ} {tokens : List Lexeme} → NoReading (IsAtom n) tokens → NoReading (Reads a_group n) tokens → NoReading IsQuantifier tokens → NoReading (Reads a_unit n) tokens
unit_unbound a g k = no_unit a g (no_binding k)

pub unit_no_binders : {n : ℕ} {k : Bool} {tokens inner : List Lexeme} → NoReading (IsAtom n) tokens → NoReading (Reads a_group n) tokens → IsQuantifier tokens k inner → NoReading AreBinders inner → NoReading (Reads a_unit n) tokens
unit_no_binders a g q d = no_unit a g (binding_no_binders q d)

pub unit_no_body : {n : ℕ} {k : Bool} {vs : List Written} {tokens inner body : List Lexeme} → NoReading (IsAtom n) tokens → NoReading (Reads a_group n) tokens → IsQuantifier tokens k inner → AreBinders inner vs body
    → NoReading (Reads a_whole (n + 1)) body → NoReading (Reads a_unit n) tokens
unit_no_body a g q b d = no_unit a g (binding_no_body q b d)

pub ruleset units = (shallow, from_group, unit_bound, unit_too_deep, unit_unbound, unit_no_binders, unit_no_body)

pub negative_at : {n : ℕ} {f g : Formula} {tokens after rest : List Lexeme} → tokens ≡ word (codes "not") ∷ after → Reads a_unit n after f rest → g ≡ not_so f → Reads a_negation n tokens g rest
negative_at e h d = rw (e, d) (negative h)

pub no_positive : {n : ℕ} {tokens : List Lexeme} → IsNotFirst (word (codes "not")) tokens → NoReading (Reads a_unit n) tokens → NoReading (Reads a_negation n) tokens
no_positive {n} d k = record { none = λ f r h. at h d k }
  where
    at : {ts r : List Lexeme} {f : Formula} → Reads a_negation n ts f r → IsNotFirst (word (codes "not")) ts → NoReading (Reads a_unit n) ts → ⊥
    at (positive {f = f} {rest = r} e h) d k = k.none f r h
    at (negative {tokens = ts} h) d k = d ts refl

pub no_negative : {n : ℕ} {tokens after : List Lexeme} → tokens ≡ word (codes "not") ∷ after → NoReading (Reads a_unit n) after → NoReading (Reads a_negation n) tokens
no_negative {n} e k = record { none = λ f r h. at h e k }
  where
    at : {ts r after : List Lexeme} {f : Formula} → Reads a_negation n ts f r → ts ≡ word (codes "not") ∷ after → NoReading (Reads a_unit n) after → ⊥
    at {after = after} (positive d h) e k = d after e
    at {after = after} (negative {f = f} {tokens = ts} {rest = r} h) e k = let i : ts ≡ after = cc in k.none f r (subst (λ (l : List Lexeme). Reads a_unit n l f r) i h)

pub ruleset negations = (positive, negative_at, no_positive, no_negative)

-- ---- chains

-- behind these parts, and a sign behind each, the next part is awaited
pub record Joined (o : Joint) (n : ℕ) (tokens : List Lexeme) (fs : List Formula) (rest : List Lexeme) : Type 0 where
  pub goes : (f g : Formula) (mid r : List Lexeme) → Reads (below o) n rest f mid → GoesOn o n (linked o (fs ++ f ∷ [])) mid g r → Reads (a_chain o) n tokens g r
  pub stops : (f : Formula) (mid : List Lexeme) → Reads (below o) n rest f mid → NoReading (GoesOn o n (linked o (fs ++ f ∷ []))) mid → NoReading (Reads (a_chain o) n) tokens
  pub lacks : NoReading (Reads (below o) n) rest → NoReading (Reads (a_chain o) n) tokens

no_chain : (o : Joint) {n : ℕ} {tokens : List Lexeme} → NoReading (Reads (below o) n) tokens → NoReading (Reads (a_chain o) n) tokens
no_chain o {n} k = record { none = λ g r h. at h k }
  where
    at : {ts r : List Lexeme} {g : Formula} → Reads (a_chain o) n ts g r → NoReading (Reads (below o) n) ts → ⊥
    at (chained {f = x} {mid = m} i j) k = k.none x m i

-- behind its first part a chain goes on
no_first : (o : Joint) {n : ℕ} {f : Formula} {tokens rest : List Lexeme} → Reads (below o) n tokens f rest → NoReading (GoesOn o n f) rest → NoReading (Reads (a_chain o) n) tokens
no_first o {n} k d = record { none = λ g r h. at h k d }
  where
    at : {ts r rest : List Lexeme} {f g : Formula} → Reads (a_chain o) n ts g r → Reads (below o) n ts f rest → NoReading (GoesOn o n f) rest → ⊥
    at {f = f} (chained {f = x} {g = g} {mid = m} {rest = r} i j) k d =
        let a = reads_one k i in
        d.none g r (subst (λ (ts : List Lexeme). GoesOn o n f ts g r) (sym a.1) (subst (λ (y : Formula). GoesOn o n y m g r) (sym a.0) j))

-- a chain goes on with the part behind its sign
no_next : (o : Joint) {n : ℕ} {f g h : Formula} {rest after ahead : List Lexeme} → rest ≡ sign (sign_of o) ∷ after → Reads (below o) n after g ahead → h ≡ join o f g → NoReading (GoesOn o n h) ahead → NoReading (GoesOn o n f) rest
no_next o {n} e k c d = record { none = λ x r m. at m e k c d }
  where
    at : {ts r after ahead : List Lexeme} {f g h x : Formula} → GoesOn o n f ts x r → ts ≡ sign (sign_of o) ∷ after → Reads (below o) n after g ahead → h ≡ join o f g → NoReading (GoesOn o n h) ahead → ⊥
    at {after = after} (ended d) e k c b = d after e
    at {after = after} {ahead = ahead} {f = f} {g = z} (went {g = y} {h = x} {after = us} {mid = m} {rest = r} d i l) e k c b =
        let v : us ≡ after = cc in
        let a = reads_one k (subst (λ (ts : List Lexeme). Reads (below o) n ts y m) v i) in
        b.none x r (subst (λ (w : Formula). GoesOn o n w ahead x r) (sym c) (subst (λ (ts : List Lexeme). GoesOn o n (join o f z) ts x r) (sym a.1) (subst (λ (w : Formula). GoesOn o n (join o f w) m x r) (sym a.0) l)))

no_part : (o : Joint) {n : ℕ} {f : Formula} {rest after : List Lexeme} → rest ≡ sign (sign_of o) ∷ after → NoReading (Reads (below o) n) after → NoReading (GoesOn o n f) rest
no_part o {n} e d = record { none = λ g r h. at h e d }
  where
    at : {ts r after : List Lexeme} {f g : Formula} → GoesOn o n f ts g r → ts ≡ sign (sign_of o) ∷ after → NoReading (Reads (below o) n) after → ⊥
    at {after = after} (ended d) e k = d after e
    at {after = after} (went {g = y} {after = us} {mid = m} c i l) e k = let v : us ≡ after = cc in k.none y m (subst (λ (ts : List Lexeme). Reads (below o) n ts y m) v i)

pub joined_none : (o : Joint) (n : ℕ) (tokens : List Lexeme) → Joined o n tokens [] tokens
joined_none o n tokens = record { goes = λ f g mid r k m. chained k m; stops = λ f mid k d. no_first o k d; lacks = λ d. no_chain o d }

pub joined_more : (o : Joint) {n : ℕ} {fs : List Formula} {f : Formula} {tokens rest ahead after : List Lexeme} → Joined o n tokens fs rest → Reads (below o) n rest f ahead → ahead ≡ sign (sign_of o) ∷ after → Joined o n tokens (fs ++ f ∷ []) after
joined_more o {n} {fs} {f} {ahead = ahead} j h e = record {
  goes = λ g x mid r k m. j.goes f x ahead r h (went e k (subst (λ (y : Formula). GoesOn o n y mid x r) (linked_more o fs f g) m));
  stops = λ g mid k d. j.stops f ahead h (no_next o e k (linked_more o fs f g) d);
  lacks = λ d. j.stops f ahead h (no_part o e d);
}

pub joined_end : (o : Joint) {n : ℕ} {fs : List Formula} {f : Formula} {tokens rest ahead : List Lexeme} → Joined o n tokens fs rest → Reads (below o) n rest f ahead → IsNotFirst (sign (sign_of o)) ahead → Reads (a_chain o) n tokens (linked o (fs ++ f ∷ [])) ahead
joined_end o {fs = fs} {f = f} {ahead = ahead} j k d = j.goes f (linked o (fs ++ f ∷ [])) ahead ahead k (ended d)

pub ruleset chains = (joined_none, joined_more, joined_end)

-- ---- implications and whole formulas

pub implying_at : {n : ℕ} {f g h : Formula} {tokens ahead after rest : List Lexeme} → Reads (a_chain disjoint) n tokens f ahead → ahead ≡ sign s.Implies ∷ after → n < 128 → Reads an_implication (n + 1) after g rest → h ≡ implies f g → Reads an_implication n tokens h rest
implying_at {n} {f} {tokens = tokens} k e lt i d = rw d (implying (subst (λ (ts : List Lexeme). Reads (a_chain disjoint) n tokens f ts) e k) lt i)

pub no_premise : {n : ℕ} {tokens : List Lexeme} → NoReading (Reads (a_chain disjoint) n) tokens → NoReading (Reads an_implication n) tokens
no_premise {n} k = record { none = λ g r h. at h k }
  where
    at : {ts r : List Lexeme} {g : Formula} → Reads an_implication n ts g r → NoReading (Reads (a_chain disjoint) n) ts → ⊥
    at (lone {f = f} {rest = r} h d) k = k.none f r h
    at (implying {f = f} {mid = m} h lt i) k = k.none f (sign s.Implies ∷ m) h

-- behind a premise and its arrow stands the conclusion
under_arrow : {n : ℕ} {f g : Formula} {tokens ahead after rest : List Lexeme} → Reads (a_chain disjoint) n tokens f ahead → ahead ≡ sign s.Implies ∷ after → Reads an_implication n tokens g rest → (n < 128) × (h : Formula) × Reads an_implication (n + 1) after h rest
under_arrow {after = after} k e (lone {rest = r} h d) = let a = (reads_one k h).1 in let b : r ≡ sign s.Implies ∷ after = cc in absurd (d after b)
under_arrow {n} {after = after} k e (implying {g = g} {mid = m} {rest = r} h lt i) =
    let a = (reads_one k h).1 in
    let j : m ≡ after = cc in
    (lt, g, subst (λ (ts : List Lexeme). Reads an_implication (n + 1) ts g r) j i)

pub implication_too_deep : {n : ℕ} {f : Formula} {tokens ahead after : List Lexeme} → Reads (a_chain disjoint) n tokens f ahead → ahead ≡ sign s.Implies ∷ after → 128 ≤ n → NoReading (Reads an_implication n) tokens
implication_too_deep k e le = record { none = λ g r h. let i = (under_arrow k e h).0 in omega (arith, le, i) }

pub no_conclusion : {n : ℕ} {f : Formula} {tokens ahead after : List Lexeme} → Reads (a_chain disjoint) n tokens f ahead → ahead ≡ sign s.Implies ∷ after → NoReading (Reads an_implication (n + 1)) after → NoReading (Reads an_implication n) tokens
no_conclusion k e d = record { none = λ g r h. let i = under_arrow k e h in d.none i.1 r i.2 }

pub ruleset implications = (lone, implying_at, no_premise, implication_too_deep, no_conclusion)

pub double_at : {n : ℕ} {f g h : Formula} {tokens ahead after rest : List Lexeme} → Reads an_implication n tokens f ahead → ahead ≡ sign s.Iff ∷ after → Reads an_implication n after g rest → h ≡ equivalent f g → Reads a_whole n tokens h rest
double_at {n} {f} {tokens = tokens} k e i d = rw d (double (subst (λ (ts : List Lexeme). Reads an_implication n tokens f ts) e k) i)

pub no_left : {n : ℕ} {tokens : List Lexeme} → NoReading (Reads an_implication n) tokens → NoReading (Reads a_whole n) tokens
no_left {n} k = record { none = λ g r h. at h k }
  where
    at : {ts r : List Lexeme} {g : Formula} → Reads a_whole n ts g r → NoReading (Reads an_implication n) ts → ⊥
    at (single {f = f} {rest = r} h d) k = k.none f r h
    at (double {f = f} {mid = m} h i) k = k.none f (sign s.Iff ∷ m) h

pub no_right : {n : ℕ} {f : Formula} {tokens ahead after : List Lexeme} → Reads an_implication n tokens f ahead → ahead ≡ sign s.Iff ∷ after → NoReading (Reads an_implication n) after → NoReading (Reads a_whole n) tokens
no_right {n} k e d = record { none = λ g r h. at h k e d }
  where
    at : {ts r ahead after : List Lexeme} {f g : Formula} → Reads a_whole n ts g r → Reads an_implication n ts f ahead → ahead ≡ sign s.Iff ∷ after → NoReading (Reads an_implication n) after → ⊥
    at {after = after} (single {rest = r} h c) k e d = let a = (reads_one k h).1 in let b : r ≡ sign s.Iff ∷ after = cc in c after b
    at {after = after} (double {g = g} {mid = m} {rest = r} h i) k e d =
        let a = (reads_one k h).1 in
        let j : m ≡ after = cc in
        d.none g r (subst (λ (ts : List Lexeme). Reads an_implication n ts g r) j i)

pub ruleset wholes = (single, double_at, no_left, no_right)
