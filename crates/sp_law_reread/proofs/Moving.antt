-- What declarations and lemmas spell is the same whatever follows.
use Rattle.std.proofs.Common.{◌≡◌, ℕ, Bool, true, false, true≢false, cond, List, [], ◌∷◌, ◌++◌, codes, refl, sym, ap, ap₂, subst, ◌∙◌}
use Rattle.sp_spec_text.specs.Signs.{Sign}
use Rattle.sp_spec_text.specs.Signs as s
use Rattle.sp_spec_text.specs.Token.{Lexeme, word, constant, sign, solve, wide, block}
use Rattle.sp_spec_text.specs.Plain.{plain, is_quote, plain_to_quote}
use Rattle.sp_spec.specs.Term.{Term, Terms}
use Rattle.sp_spec.specs.Signature.{Symbol}
use Rattle.sp_spec.specs.Rule.{Fact}
use Rattle.sp_spec.specs.Formula.{Written, Formula}
use Rattle.sp_spec.specs.Theory.{TraceKind, Lemma}
use Rattle.sp_spec_text.specs.Lists as l
use Rattle.sp_spec_text.specs.Lists.{IsNotFirst, AreParts, AreItems, AreListed}
use Rattle.sp_spec_text.specs.Formulas as g
use Rattle.sp_spec_text.specs.Formulas.{SpellsVariable, SpellsTerm, SpellsTuple, SpellsArguments, SpellsTerms, SpellsAnnotation, SpellsAnnotations, SpellsFact, SpellsBinders, NoSign, SpellsUnit, SpellsNegation, SpellsConjunction, SpellsAnds, SpellsDisjunction, SpellsOrs, SpellsImplication, SpellsFormula, SpellsReach}
use Rattle.sp_spec_text.specs.Theories as t
use Rattle.sp_spec_text.specs.Theories.{SpellsFacts, SpellsArrow, SpellsBuiltin, SpellsAttribute, SpellsFunction, SpellsEquation, SpellsModulo, SpellsBalanced, SpellsRuleAttributes, SpellsRuleHead, SpellsBinding, SpellsBindings, SpellsLet, SpellsWords, SpellsKind, SpellsLemmaAttribute, SpellsLemmaAttributes, SpellsLemma, SpellsDeclaration}
use Rattle.sp_spec_text.specs.Bindings.{Binding}
use Rattle.sp_spec_text.specs.Written.{Attribute, Item}

-- the same tokens before these and those
pub data Swapped (rest other : List Lexeme) : List Lexeme → List Lexeme → Type 0 where
  swapped_here : Swapped rest other rest other
  swapped_behind : {tokens others : List Lexeme} (x : Lexeme) → Swapped rest other tokens others → Swapped rest other (x ∷ tokens) (x ∷ others)

pub swapped_in : {rest other mid middle tokens others : List Lexeme} → Swapped mid middle tokens others → Swapped rest other mid middle → Swapped rest other tokens others
swapped_in swapped_here k = k
swapped_in (swapped_behind x h) k = swapped_behind x (swapped_in h k)

-- a sign behind which other tokens stand
past_sign : {rest other tokens others : List Lexeme} (x : Sign) → Swapped (sign x ∷ rest) (sign x ∷ other) tokens others → Swapped rest other tokens others
past_sign x h = swapped_in h (swapped_behind (sign x) swapped_here)

-- what stands before both
pub record Front (rest other tokens others : List Lexeme) : Type 0 where
  pub front : List Lexeme
  pub are : tokens ≡ front ++ rest
  pub others_are : others ≡ front ++ other

pub front_of : {rest other tokens others : List Lexeme} → Swapped rest other tokens others → Front rest other tokens others
front_of swapped_here = record { front = []; are = refl; others_are = refl }
front_of (swapped_behind x h) =
    let f = front_of h in
    record { front = x ∷ f.front; are = ap (λ (ts : List Lexeme). x ∷ ts) f.are; others_are = ap (λ (ts : List Lexeme). x ∷ ts) f.others_are }

-- what R reads is read before the other tokens too
pub record Moved {A : Type 0} (R : List Lexeme → A → List Lexeme → Type 0) (tokens : List Lexeme) (x : A) (rest other : List Lexeme) : Type 0 where
  pub others : List Lexeme
  pub swapped : Swapped rest other tokens others
  pub reads : R others x other

-- what doesn't stand first doesn't stand first there either
abbrev pub Follows : List Lexeme → List Lexeme → Type 0
Follows rest other = (x : Lexeme) → IsNotFirst x rest → IsNotFirst x other

follows_sign : {rest other : List Lexeme} (y : Sign) → Follows (sign y ∷ rest) (sign y ∷ other)
follows_sign {rest} y x h more e = h rest (let f : sign y ≡ x = cc in ap (λ (z : Lexeme). z ∷ rest) f)

follows_swapped : {rest other tokens others : List Lexeme} → Swapped rest other tokens others → Follows rest other → Follows tokens others
follows_swapped swapped_here f = f
follows_swapped (swapped_behind {tokens = ts} y h) f = λ x k more e. k ts (let d : y ≡ x = cc in ap (λ (z : Lexeme). z ∷ ts) d)

-- ---- variables, terms and facts

move_variable : {v : Written} {tokens rest : List Lexeme} → SpellsVariable tokens v rest → (other : List Lexeme) → Moved SpellsVariable tokens v rest other
move_variable (g.marked {x = x} {w = w} e n) other =
    record { others = sign x ∷ word w ∷ other; swapped = swapped_behind (sign x) (swapped_behind (word w) swapped_here); reads = g.marked e n }
move_variable (g.unmarked {w = w} n) other = record { others = word w ∷ other; swapped = swapped_behind (word w) swapped_here; reads = g.unmarked n }
move_variable (g.sorted {w = w} {k = k} {m = m} n e) other =
    record {
      others = word w ∷ sign s.Colon ∷ word k ∷ other;
      swapped = swapped_behind (word w) (swapped_behind (sign s.Colon) (swapped_behind (word k) swapped_here));
      reads = g.sorted n e;
    }

mutual
  move_term : {n : ℕ} {x : Term Written} {tokens rest : List Lexeme} → SpellsTerm n tokens x rest → (other : List Lexeme) → Moved (SpellsTerm n) tokens x rest other
  move_term (g.fixed {c = c}) other = record { others = constant c ∷ other; swapped = swapped_behind (constant c) swapped_here; reads = g.fixed }
  move_term (g.variable h) other = let m = move_variable h other in record { others = m.others; swapped = m.swapped; reads = g.variable m.reads }
  move_term (g.brackets lt h) other =
      let m = move_term h (sign s.Close ∷ other) in
      record { others = sign s.Open ∷ m.others; swapped = swapped_behind (sign s.Open) (past_sign s.Close m.swapped); reads = g.brackets lt m.reads }
  move_term (g.tuple lt h) other =
      let m = move_tuple h other in
      record { others = sign s.Less ∷ m.others; swapped = swapped_behind (sign s.Less) m.swapped; reads = g.tuple lt m.reads }
  move_term (g.application {w = w} n lt h) other =
      let m = move_arguments h other in
      record { others = word w ∷ sign s.Open ∷ m.others; swapped = swapped_behind (word w) (swapped_behind (sign s.Open) m.swapped); reads = g.application n lt m.reads }
  move_term (g.braced {w = w} n lt h k) other =
      let o = move_term k other in
      let m = move_tuple h o.others in
      record {
        others = word w ∷ sign s.OpenBrace ∷ m.others;
        swapped = swapped_behind (word w) (swapped_behind (sign s.OpenBrace) (swapped_in m.swapped o.swapped));
        reads = g.braced n lt m.reads o.reads;
      }

  move_tuple : {n : ℕ} {close : Sign} {x : Term Written} {tokens rest : List Lexeme} → SpellsTuple n close tokens x rest → (other : List Lexeme) → Moved (SpellsTuple n close) tokens x rest other
  move_tuple (g.last_part {close = close} h) other =
      let m = move_term h (sign close ∷ other) in
      record { others = m.others; swapped = past_sign close m.swapped; reads = g.last_part m.reads }
  move_tuple (g.next_part h lt k) other =
      let o = move_tuple k other in
      let m = move_term h (sign s.Comma ∷ o.others) in
      record { others = m.others; swapped = swapped_in (past_sign s.Comma m.swapped) o.swapped; reads = g.next_part m.reads lt o.reads }

  move_arguments : {n : ℕ} {xs : Terms Written} {tokens rest : List Lexeme} → SpellsArguments n tokens xs rest → (other : List Lexeme) → Moved (SpellsArguments n) tokens xs rest other
  move_arguments g.no_argument other = record { others = sign s.Close ∷ other; swapped = swapped_behind (sign s.Close) swapped_here; reads = g.no_argument }
  move_arguments (g.some_arguments h) other = let m = move_terms h other in record { others = m.others; swapped = m.swapped; reads = g.some_arguments m.reads }

  move_terms : {n : ℕ} {xs : Terms Written} {tokens rest : List Lexeme} → SpellsTerms n tokens xs rest → (other : List Lexeme) → Moved (SpellsTerms n) tokens xs rest other
  move_terms (g.last_term h) other =
      let m = move_term h (sign s.Close ∷ other) in
      record { others = m.others; swapped = past_sign s.Close m.swapped; reads = g.last_term m.reads }
  move_terms (g.next_term h k) other =
      let o = move_terms k other in
      let m = move_term h (sign s.Comma ∷ o.others) in
      record { others = m.others; swapped = swapped_in (past_sign s.Comma m.swapped) o.swapped; reads = g.next_term m.reads o.reads }

move_parts : {A : Type 0} {R : List Lexeme → A → List Lexeme → Type 0} {between close : Sign} {tokens rest : List Lexeme} {xs : List A} → ((ts us vs : List Lexeme) (x : A) → R ts x us → Moved R ts x us vs) → AreParts R between close tokens xs rest → (other : List Lexeme)
    → Moved (AreParts R between close) tokens xs rest other
move_parts {close = close} f (l.last {x = x} {tokens = ts} {rest = us} h) other =
    let m = f ts (sign close ∷ us) (sign close ∷ other) x h in
    record { others = m.others; swapped = past_sign close m.swapped; reads = l.last m.reads }
move_parts {between = between} f (l.next {x = x} {tokens = ts} {mid = us} h k) other =
    let n = move_parts f k other in
    let m = f ts (sign between ∷ us) (sign between ∷ n.others) x h in
    record { others = m.others; swapped = swapped_in (past_sign between m.swapped) n.swapped; reads = l.next m.reads n.reads }

move_items : {A : Type 0} {R : List Lexeme → A → List Lexeme → Type 0} {close : Sign} {tokens rest : List Lexeme} {xs : List A} → ((ts us vs : List Lexeme) (x : A) → R ts x us → Moved R ts x us vs) → AreItems R close tokens xs rest → (other : List Lexeme)
    → Moved (AreItems R close) tokens xs rest other
move_items {close = close} f l.empty other = record { others = sign close ∷ other; swapped = swapped_behind (sign close) swapped_here; reads = l.empty }
move_items f (l.some h) other = let m = move_parts f h other in record { others = m.others; swapped = m.swapped; reads = l.some m.reads }

move_listed : {A : Type 0} {R : List Lexeme → A → List Lexeme → Type 0} {tokens rest : List Lexeme} {xs : List A} → ((ts us vs : List Lexeme) (x : A) → R ts x us → Moved R ts x us vs) → AreListed R tokens xs rest → (other : List Lexeme)
    → Moved (AreListed R) tokens xs rest other
move_listed f (l.alone {x = x} {tokens = ts} {rest = us} h) other = let m = f ts us other x h in record { others = m.others; swapped = m.swapped; reads = l.alone m.reads }
move_listed f (l.and_more {x = x} {tokens = ts} {mid = us} h k) other =
    let n = move_listed f k other in
    let m = f ts (sign s.Comma ∷ us) (sign s.Comma ∷ n.others) x h in
    record { others = m.others; swapped = swapped_in (past_sign s.Comma m.swapped) n.swapped; reads = l.and_more m.reads n.reads }

-- what R, which reads no value, passes is passed before the other tokens too
pub record Passed (R : List Lexeme → List Lexeme → Type 0) (tokens rest other : List Lexeme) : Type 0 where
  pub others : List Lexeme
  pub swapped : Swapped rest other tokens others
  pub passes : R others other

move_annotation : {x : Lexeme} {tokens rest : List Lexeme} → SpellsAnnotation tokens x rest → (other : List Lexeme) → Moved SpellsAnnotation tokens x rest other
move_annotation (g.annotation {x = x} e) other = record { others = x ∷ other; swapped = swapped_behind x swapped_here; reads = g.annotation e }

move_annotations : {tokens rest : List Lexeme} → SpellsAnnotations tokens rest → (other : List Lexeme) → Passed SpellsAnnotations tokens rest other
move_annotations g.no_annotation other = record { others = other; swapped = swapped_here; passes = g.no_annotation }
move_annotations (g.annotations h) other =
    let m = move_parts (λ ts us vs x a. move_annotation a vs) h other in
    record { others = sign s.OpenList ∷ m.others; swapped = swapped_behind (sign s.OpenList) m.swapped; passes = g.annotations m.reads }

move_fact : {n : ℕ} {f : Fact Written} {tokens rest : List Lexeme} → SpellsFact n tokens f rest → (other : List Lexeme) → Moved (SpellsFact n) tokens f rest other
move_fact (g.linear {w = w} e lt h k) other =
    let o = move_annotations k other in
    let m = move_arguments h o.others in
    record { others = word w ∷ sign s.Open ∷ m.others; swapped = swapped_behind (word w) (swapped_behind (sign s.Open) (swapped_in m.swapped o.swapped)); reads = g.linear e lt m.reads o.passes }
move_fact (g.persistent {w = w} e lt h k) other =
    let o = move_annotations k other in
    let m = move_arguments h o.others in
    record {
      others = sign s.Bang ∷ word w ∷ sign s.Open ∷ m.others;
      swapped = swapped_behind (sign s.Bang) (swapped_behind (word w) (swapped_behind (sign s.Open) (swapped_in m.swapped o.swapped)));
      reads = g.persistent e lt m.reads o.passes;
    }

move_each : {n : ℕ} (ts us vs : List Lexeme) (f : Fact Written) → SpellsFact n ts f us → Moved (SpellsFact n) ts f us vs
move_each ts us vs f h = move_fact h vs

-- ---- formulas

move_binders : {vs : List Written} {tokens rest : List Lexeme} → SpellsBinders tokens vs rest → (other : List Lexeme) → Moved SpellsBinders tokens vs rest other
move_binders (g.one_binder h) other = let m = move_variable h (sign s.Dot ∷ other) in record { others = m.others; swapped = past_sign s.Dot m.swapped; reads = g.one_binder m.reads }
move_binders (g.more_binders h k) other =
    let n = move_binders k other in
    let m = move_variable h n.others in
    record { others = m.others; swapped = swapped_in m.swapped n.swapped; reads = g.more_binders m.reads n.reads }

move_no_sign : {rest other : List Lexeme} → Follows rest other → NoSign rest → NoSign other
move_no_sign f n = record { no_and = f (sign s.And) n.no_and; no_or = f (sign s.Or) n.no_or; no_arrow = f (sign s.Implies) n.no_arrow }

mutual
  move_unit : {n : ℕ} {f : Formula} {tokens rest : List Lexeme} → SpellsUnit n tokens f rest → (other : List Lexeme) → Follows rest other → Moved (SpellsUnit n) tokens f rest other
  move_unit (g.bracketed lt h) other w =
      let m = move_formula h (sign s.Close ∷ other) (follows_sign s.Close) in
      record { others = sign s.Open ∷ m.others; swapped = swapped_behind (sign s.Open) (past_sign s.Close m.swapped); reads = g.bracketed lt m.reads }
  move_unit (g.every lt b h) other w =
      let n = move_reach h other w in
      let m = move_binders b n.others in
      record { others = word (codes "All") ∷ m.others; swapped = swapped_behind (word (codes "All")) (swapped_in m.swapped n.swapped); reads = g.every lt m.reads n.reads }
  move_unit (g.there_is lt b h) other w =
      let n = move_reach h other w in
      let m = move_binders b n.others in
      record { others = word (codes "Ex") ∷ m.others; swapped = swapped_behind (word (codes "Ex")) (swapped_in m.swapped n.swapped); reads = g.there_is lt m.reads n.reads }
  move_unit g.true_unit other w = record { others = word (codes "T") ∷ other; swapped = swapped_behind (word (codes "T")) swapped_here; reads = g.true_unit }
  move_unit g.false_unit other w = record { others = word (codes "F") ∷ other; swapped = swapped_behind (word (codes "F")) swapped_here; reads = g.false_unit }
  move_unit (g.action h k) other w =
      let n = move_variable k other in
      let m = move_fact h (sign s.At ∷ n.others) in
      record { others = m.others; swapped = swapped_in (past_sign s.At m.swapped) n.swapped; reads = g.action m.reads n.reads }
  move_unit (g.equation h k) other w =
      let n = move_term k other in
      let m = move_term h (sign s.Equals ∷ n.others) in
      record { others = m.others; swapped = swapped_in (past_sign s.Equals m.swapped) n.swapped; reads = g.equation m.reads n.reads }
  move_unit (g.order h k) other w =
      let n = move_variable k other in
      let m = move_variable h (sign s.Less ∷ n.others) in
      record { others = m.others; swapped = swapped_in (past_sign s.Less m.swapped) n.swapped; reads = g.order m.reads n.reads }

  move_negation : {n : ℕ} {f : Formula} {tokens rest : List Lexeme} → SpellsNegation n tokens f rest → (other : List Lexeme) → Follows rest other → Moved (SpellsNegation n) tokens f rest other
  move_negation (g.unit_alone h) other w = let m = move_unit h other w in record { others = m.others; swapped = m.swapped; reads = g.unit_alone m.reads }
  move_negation (g.negated h) other w =
      let m = move_unit h other w in
      record { others = word (codes "not") ∷ m.others; swapped = swapped_behind (word (codes "not")) m.swapped; reads = g.negated m.reads }

  move_conjunction : {n : ℕ} {f : Formula} {tokens rest : List Lexeme} → SpellsConjunction n tokens f rest → (other : List Lexeme) → Follows rest other → Moved (SpellsConjunction n) tokens f rest other
  move_conjunction (g.conjunction h k) other w =
      let n = move_ands k other w in
      let m = move_negation h n.others (follows_swapped n.swapped w) in
      record { others = m.others; swapped = swapped_in m.swapped n.swapped; reads = g.conjunction m.reads n.reads }

  move_ands : {n : ℕ} {f h : Formula} {tokens rest : List Lexeme} → SpellsAnds n f tokens h rest → (other : List Lexeme) → Follows rest other → Moved (SpellsAnds n f) tokens h rest other
  move_ands g.no_more_and other w = record { others = other; swapped = swapped_here; reads = g.no_more_and }
  move_ands (g.and_then h k) other w =
      let n = move_ands k other w in
      let m = move_negation h n.others (follows_swapped n.swapped w) in
      record { others = sign s.And ∷ m.others; swapped = swapped_behind (sign s.And) (swapped_in m.swapped n.swapped); reads = g.and_then m.reads n.reads }

  move_disjunction : {n : ℕ} {f : Formula} {tokens rest : List Lexeme} → SpellsDisjunction n tokens f rest → (other : List Lexeme) → Follows rest other → Moved (SpellsDisjunction n) tokens f rest other
  move_disjunction (g.disjunction h k) other w =
      let n = move_ors k other w in
      let m = move_conjunction h n.others (follows_swapped n.swapped w) in
      record { others = m.others; swapped = swapped_in m.swapped n.swapped; reads = g.disjunction m.reads n.reads }

  move_ors : {n : ℕ} {f h : Formula} {tokens rest : List Lexeme} → SpellsOrs n f tokens h rest → (other : List Lexeme) → Follows rest other → Moved (SpellsOrs n f) tokens h rest other
  move_ors g.no_more_or other w = record { others = other; swapped = swapped_here; reads = g.no_more_or }
  move_ors (g.or_then h k) other w =
      let n = move_ors k other w in
      let m = move_conjunction h n.others (follows_swapped n.swapped w) in
      record { others = sign s.Or ∷ m.others; swapped = swapped_behind (sign s.Or) (swapped_in m.swapped n.swapped); reads = g.or_then m.reads n.reads }

  move_implication : {n : ℕ} {f : Formula} {tokens rest : List Lexeme} → SpellsImplication n tokens f rest → (other : List Lexeme) → Follows rest other → Moved (SpellsImplication n) tokens f rest other
  move_implication (g.alone h) other w = let m = move_disjunction h other w in record { others = m.others; swapped = m.swapped; reads = g.alone m.reads }
  move_implication (g.implication h lt k) other w =
      let n = move_implication k other w in
      let m = move_disjunction h (sign s.Implies ∷ n.others) (follows_sign s.Implies) in
      record { others = m.others; swapped = swapped_in (past_sign s.Implies m.swapped) n.swapped; reads = g.implication m.reads lt n.reads }

  move_formula : {n : ℕ} {f : Formula} {tokens rest : List Lexeme} → SpellsFormula n tokens f rest → (other : List Lexeme) → Follows rest other → Moved (SpellsFormula n) tokens f rest other
  move_formula (g.one h) other w = let m = move_implication h other w in record { others = m.others; swapped = m.swapped; reads = g.one m.reads }
  move_formula (g.two h k) other w =
      let n = move_implication k other w in
      let m = move_implication h (sign s.Iff ∷ n.others) (follows_sign s.Iff) in
      record { others = m.others; swapped = swapped_in (past_sign s.Iff m.swapped) n.swapped; reads = g.two m.reads n.reads }

  move_reach : {n : ℕ} {f : Formula} {tokens rest : List Lexeme} → SpellsReach n tokens f rest → (other : List Lexeme) → Follows rest other → Moved (SpellsReach n) tokens f rest other
  move_reach (g.reach_one h a b) other w =
      let m = move_implication h other w in
      record { others = m.others; swapped = m.swapped; reads = g.reach_one m.reads (move_no_sign w a) (w (sign s.Iff) b) }
  move_reach (g.reach_two h k a) other w =
      let n = move_implication k other w in
      let m = move_implication h (sign s.Iff ∷ n.others) (follows_sign s.Iff) in
      record { others = m.others; swapped = swapped_in (past_sign s.Iff m.swapped) n.swapped; reads = g.reach_two m.reads n.reads (move_no_sign w a) }

-- ---- formulas in quotes

quote_plain : (x : Lexeme) → is_quote (plain x) ≡ is_quote x
quote_plain (word w) = refl
quote_plain (constant c) = refl
quote_plain (sign x) = refl
quote_plain (solve w) = refl
quote_plain (wide s.All) = refl
quote_plain (wide s.Ex) = refl
quote_plain (wide s.Both) = refl
quote_plain (wide s.Either) = refl
quote_plain (wide s.Not) = refl
quote_plain (wide s.Then) = refl
quote_plain (wide s.Same) = refl
quote_plain (wide s.True) = refl
quote_plain (wide s.False) = refl
quote_plain block = refl

-- what is read as those tokens, before other tokens behind the quote
record Unplained (rest other tokens others : List Lexeme) : Type 0 where
  moved : List Lexeme
  swapped : Swapped (sign s.Quote ∷ rest) (sign s.Quote ∷ other) tokens moved
  are : plain_to_quote moved ≡ others

first_quote : {rest other tokens : List Lexeme} (x : Lexeme) (ts : List Lexeme) (t : Bool) → is_quote x ≡ t → tokens ≡ x ∷ ts → cond t (x ∷ ts) (plain x ∷ plain_to_quote ts) ≡ sign s.Quote ∷ rest → Unplained rest other tokens (sign s.Quote ∷ other)
first_quote {rest} {other} x ts true q f e =
    record { moved = sign s.Quote ∷ other; swapped = subst (λ (us : List Lexeme). Swapped (sign s.Quote ∷ rest) (sign s.Quote ∷ other) us (sign s.Quote ∷ other)) (sym (f ∙ e)) swapped_here; are = refl }
first_quote x ts false q f e =
    let d : plain x ≡ sign s.Quote = cc in
    absurd (true≢false (sym (ap is_quote d) ∙ quote_plain x ∙ q))

other_first : {rest other xs others : List Lexeme} (y : Lexeme) → Swapped (sign s.Quote ∷ rest) (sign s.Quote ∷ other) xs others → (x : Lexeme) (ts : List Lexeme) (t : Bool) → is_quote x ≡ t → (plain_to_quote ts ≡ xs → Unplained rest other ts others)
    → cond t (x ∷ ts) (plain x ∷ plain_to_quote ts) ≡ y ∷ xs → Unplained rest other (x ∷ ts) (y ∷ others)
other_first {rest} {other} {xs} {others} y h x ts true q again e =
    let f : x ∷ ts ≡ y ∷ xs = e in
    let d : x ≡ y = cc in
    let one : plain_to_quote (y ∷ others) ≡ y ∷ others = ap (λ (t : Bool). cond t (y ∷ others) (plain y ∷ plain_to_quote others)) (ap is_quote (sym d) ∙ q) in
    record { moved = y ∷ others; swapped = subst (λ (us : List Lexeme). Swapped (sign s.Quote ∷ rest) (sign s.Quote ∷ other) us (y ∷ others)) (sym f) (swapped_behind y h); are = one }
other_first {xs = xs} y h x ts false q again e =
    let d : plain x ≡ y = cc in
    let f : plain_to_quote ts ≡ xs = cc in
    let u = again f in
    let one : plain_to_quote (x ∷ u.moved) ≡ plain x ∷ plain_to_quote u.moved = ap (λ (t : Bool). cond t (x ∷ u.moved) (plain x ∷ plain_to_quote u.moved)) q in
    record { moved = x ∷ u.moved; swapped = swapped_behind x u.swapped; are = one ∙ ap₂ (λ (z : Lexeme) (zs : List Lexeme). z ∷ zs) d u.are }

unplain : {rest other xs others : List Lexeme} → Swapped (sign s.Quote ∷ rest) (sign s.Quote ∷ other) xs others → (tokens : List Lexeme) → plain_to_quote tokens ≡ xs → Unplained rest other tokens others
unplain swapped_here [] e = absurd (let none : ⊥ = cc in none)
unplain swapped_here (x ∷ ts) e = first_quote x ts (is_quote x) refl refl e
unplain (swapped_behind y h) [] e = absurd (let none : ⊥ = cc in none)
unplain (swapped_behind y h) (x ∷ ts) e = other_first y h x ts (is_quote x) refl (λ f. unplain h ts f) e

-- a formula and its closing quote, behind which these tokens stand or those
record MovedQuoted (tokens : List Lexeme) (f : Formula) (rest other : List Lexeme) : Type 0 where
  others : List Lexeme
  swapped : Swapped (sign s.Quote ∷ rest) (sign s.Quote ∷ other) tokens others
  reads : SpellsFormula 0 (plain_to_quote others) f (sign s.Quote ∷ other)

move_quoted : {f : Formula} {rest : List Lexeme} (tokens : List Lexeme) → SpellsFormula 0 (plain_to_quote tokens) f (sign s.Quote ∷ rest) → (other : List Lexeme) → MovedQuoted tokens f rest other
move_quoted {f} tokens h other =
    let m = move_formula h (sign s.Quote ∷ other) (follows_sign s.Quote) in
    let u = unplain m.swapped tokens refl in
    record { others = u.moved; swapped = u.swapped; reads = subst (λ (xs : List Lexeme). SpellsFormula 0 xs f (sign s.Quote ∷ other)) (sym u.are) m.reads }

-- ---- rules

move_facts : {fs : List (Fact Written)} {tokens rest : List Lexeme} → SpellsFacts tokens fs rest → (other : List Lexeme) → Moved SpellsFacts tokens fs rest other
move_facts (t.facts h) other =
    let m = move_items move_each h other in
    record { others = sign s.OpenList ∷ m.others; swapped = swapped_behind (sign s.OpenList) m.swapped; reads = t.facts m.reads }

move_arrow : {fs : List (Fact Written)} {tokens rest : List Lexeme} → SpellsArrow tokens fs rest → (other : List Lexeme) → Moved SpellsArrow tokens fs rest other
move_arrow t.unlabelled other = record { others = sign s.Arrow ∷ other; swapped = swapped_behind (sign s.Arrow) swapped_here; reads = t.unlabelled }
move_arrow (t.labelled h) other =
    let m = move_items move_each h other in
    record { others = sign s.OpenArrow ∷ m.others; swapped = swapped_behind (sign s.OpenArrow) m.swapped; reads = t.labelled m.reads }

move_modulo : {tokens rest : List Lexeme} → SpellsModulo tokens rest → (other : List Lexeme) → Passed SpellsModulo tokens rest other
move_modulo t.no_modulo other = record { others = other; swapped = swapped_here; passes = t.no_modulo }
move_modulo (t.modulo {w = w} n) other =
    record {
      others = sign s.Open ∷ word (codes "modulo") ∷ word w ∷ sign s.Close ∷ other;
      swapped = swapped_behind (sign s.Open) (swapped_behind (word (codes "modulo")) (swapped_behind (word w) (swapped_behind (sign s.Close) swapped_here)));
      passes = t.modulo n;
    }

move_balanced : {tokens rest : List Lexeme} → SpellsBalanced tokens rest → (other : List Lexeme) → Passed SpellsBalanced tokens rest other
move_balanced t.closed other = record { others = sign s.CloseList ∷ other; swapped = swapped_behind (sign s.CloseList) swapped_here; passes = t.closed }
move_balanced (t.nested h k) other =
    let n = move_balanced k other in
    let m = move_balanced h n.others in
    record { others = sign s.OpenList ∷ m.others; swapped = swapped_behind (sign s.OpenList) (swapped_in m.swapped n.swapped); passes = t.nested m.passes n.passes }
move_balanced (t.passed {x = x} e d h) other =
    let m = move_balanced h other in
    record { others = x ∷ m.others; swapped = swapped_behind x m.swapped; passes = t.passed e d m.passes }

move_rule_attributes : {tokens rest : List Lexeme} → SpellsRuleAttributes tokens rest → (other : List Lexeme) → Passed SpellsRuleAttributes tokens rest other
move_rule_attributes t.no_rule_attribute other = record { others = other; swapped = swapped_here; passes = t.no_rule_attribute }
move_rule_attributes (t.rule_attributes h) other =
    let m = move_balanced h other in
    record { others = sign s.OpenList ∷ m.others; swapped = swapped_behind (sign s.OpenList) m.swapped; passes = t.rule_attributes m.passes }

move_head : {w : List ℕ} {tokens rest : List Lexeme} → SpellsRuleHead tokens w rest → (other : List Lexeme) → Moved SpellsRuleHead tokens w rest other
move_head (t.rule_head {w = w} h n a) other =
    let i = move_rule_attributes a (sign s.Colon ∷ other) in
    let m = move_modulo h (word w ∷ i.others) in
    record {
      others = word (codes "rule") ∷ m.others;
      swapped = swapped_behind (word (codes "rule")) (swapped_in m.swapped (swapped_behind (word w) (past_sign s.Colon i.swapped)));
      reads = t.rule_head m.passes n i.passes;
    }

move_binding : {b : Binding} {tokens rest : List Lexeme} → SpellsBinding tokens b rest → (other : List Lexeme) → Moved SpellsBinding tokens b rest other
move_binding (t.binding h k) other =
    let n = move_term k other in
    let m = move_variable h (sign s.Equals ∷ n.others) in
    record { others = m.others; swapped = swapped_in (past_sign s.Equals m.swapped) n.swapped; reads = t.binding m.reads n.reads }

move_bindings : {bs : List Binding} {tokens rest : List Lexeme} → SpellsBindings tokens bs rest → (other : List Lexeme) → Moved SpellsBindings tokens bs rest other
move_bindings (t.last_binding h) other =
    let m = move_binding h (word (codes "in") ∷ other) in
    record { others = m.others; swapped = swapped_in m.swapped (swapped_behind (word (codes "in")) swapped_here); reads = t.last_binding m.reads }
move_bindings (t.next_binding h k) other =
    let n = move_bindings k other in
    let m = move_binding h n.others in
    record { others = m.others; swapped = swapped_in m.swapped n.swapped; reads = t.next_binding m.reads n.reads }

move_let : {bs : List Binding} {tokens rest : List Lexeme} → SpellsLet tokens bs rest → (other : List Lexeme) → Moved SpellsLet tokens bs rest other
move_let t.no_let other = record { others = other; swapped = swapped_here; reads = t.no_let }
move_let (t.let_in h) other =
    let m = move_bindings h other in
    record { others = word (codes "let") ∷ m.others; swapped = swapped_behind (word (codes "let")) m.swapped; reads = t.let_in m.reads }

-- ---- builtins, functions and equations

move_builtin : {b : List ℕ} {tokens rest : List Lexeme} → SpellsBuiltin tokens b rest → (other : List Lexeme) → Moved SpellsBuiltin tokens b rest other
move_builtin (t.single {w = w} n) other = record { others = word w ∷ other; swapped = swapped_behind (word w) swapped_here; reads = t.single n }
move_builtin (t.joined {w = w} n h) other =
    let m = move_builtin h other in
    record { others = word w ∷ sign s.Dash ∷ m.others; swapped = swapped_behind (word w) (swapped_behind (sign s.Dash) m.swapped); reads = t.joined n m.reads }

move_attribute : {p : Bool} {tokens rest : List Lexeme} → SpellsAttribute tokens p rest → (other : List Lexeme) → Moved SpellsAttribute tokens p rest other
move_attribute (t.attribute {w = w} {private = p} e) other = record { others = word w ∷ other; swapped = swapped_behind (word w) swapped_here; reads = t.attribute e }

move_function : {f : Symbol} {tokens rest : List Lexeme} → SpellsFunction tokens f rest → (other : List Lexeme) → Moved SpellsFunction tokens f rest other
move_function (t.plain {w = w} {k = k} n e) other =
    record {
      others = word w ∷ sign s.Slash ∷ word k ∷ other;
      swapped = swapped_behind (word w) (swapped_behind (sign s.Slash) (swapped_behind (word k) swapped_here));
      reads = t.plain n e;
    }
move_function (t.with_attributes {w = w} {k = k} n e h) other =
    let m = move_parts (λ ts us vs p a. move_attribute a vs) h other in
    record {
      others = word w ∷ sign s.Slash ∷ word k ∷ sign s.OpenList ∷ m.others;
      swapped = swapped_behind (word w) (swapped_behind (sign s.Slash) (swapped_behind (word k) (swapped_behind (sign s.OpenList) m.swapped)));
      reads = t.with_attributes n e m.reads;
    }

move_equation : {e : Term Written × Term Written} {tokens rest : List Lexeme} → SpellsEquation tokens e rest → (other : List Lexeme) → Moved SpellsEquation tokens e rest other
move_equation (t.equation h k) other =
    let n = move_term k other in
    let m = move_term h (sign s.Equals ∷ n.others) in
    record { others = m.others; swapped = swapped_in (past_sign s.Equals m.swapped) n.swapped; reads = t.equation m.reads n.reads }

-- ---- declarations

move_words : {ws : List (List ℕ)} {tokens rest : List Lexeme} → SpellsWords tokens ws rest → (other : List Lexeme) → Moved SpellsWords tokens ws rest other
move_words (t.one_word {w = w} n) other = record { others = word w ∷ other; swapped = swapped_behind (word w) swapped_here; reads = t.one_word n }
move_words (t.more_words {w = w} n h) other =
    let m = move_words h other in
    record { others = word w ∷ m.others; swapped = swapped_behind (word w) m.swapped; reads = t.more_words n m.reads }

-- a keyword and a colon before what is read
behind_keyword : {rest other tokens others : List Lexeme} (w : List ℕ) → Swapped rest other tokens others → Swapped rest other (word w ∷ sign s.Colon ∷ tokens) (word w ∷ sign s.Colon ∷ others)
behind_keyword w h = swapped_behind (word w) (swapped_behind (sign s.Colon) h)

pub move_declaration : {x : Item} {tokens rest : List Lexeme} → SpellsDeclaration tokens x rest → (other : List Lexeme) → Moved SpellsDeclaration tokens x rest other
move_declaration (t.builtins h) other =
    let m = move_listed (λ ts us vs b a. move_builtin a vs) h other in
    record { others = word (codes "builtins") ∷ sign s.Colon ∷ m.others; swapped = behind_keyword (codes "builtins") m.swapped; reads = t.builtins m.reads }
move_declaration (t.functions h) other =
    let m = move_listed (λ ts us vs f a. move_function a vs) h other in
    record { others = word (codes "functions") ∷ sign s.Colon ∷ m.others; swapped = behind_keyword (codes "functions") m.swapped; reads = t.functions m.reads }
move_declaration (t.equations h) other =
    let m = move_listed (λ ts us vs e a. move_equation a vs) h other in
    record { others = word (codes "equations") ∷ sign s.Colon ∷ m.others; swapped = behind_keyword (codes "equations") m.swapped; reads = t.equations m.reads }
move_declaration (t.heuristic h) other =
    let m = move_words h other in
    record { others = word (codes "heuristic") ∷ sign s.Colon ∷ m.others; swapped = behind_keyword (codes "heuristic") m.swapped; reads = t.heuristic m.reads }
move_declaration (t.text_block {w = w} n) other = record { others = word w ∷ block ∷ other; swapped = swapped_behind (word w) (swapped_behind block swapped_here); reads = t.text_block n }
move_declaration (t.a_rule (t.rule h k a b c)) other =
    let o = move_facts c other in
    let i = move_arrow b o.others in
    let m = move_facts a i.others in
    let n = move_let k m.others in
    let e = move_head h n.others in
    record {
      others = e.others;
      swapped = swapped_in e.swapped (swapped_in n.swapped (swapped_in m.swapped (swapped_in i.swapped o.swapped)));
      reads = t.a_rule (t.rule e.reads n.reads m.reads i.reads o.reads);
    }
move_declaration (t.a_restriction (t.restriction {k = k} {w = w} {tokens = ts} e n f)) other =
    let m = move_quoted ts f other in
    record {
      others = word k ∷ word w ∷ sign s.Colon ∷ sign s.Quote ∷ m.others;
      swapped = swapped_behind (word k) (swapped_behind (word w) (swapped_behind (sign s.Colon) (swapped_behind (sign s.Quote) (past_sign s.Quote m.swapped))));
      reads = t.a_restriction (t.restriction {tokens = m.others} e n m.reads);
    }

-- ---- lemmas

move_kind : {k : TraceKind} {tokens rest : List Lexeme} → SpellsKind tokens k rest → (other : List Lexeme) → Moved SpellsKind tokens k rest other
move_kind t.no_kind other = record { others = other; swapped = swapped_here; reads = t.no_kind }
move_kind t.all_kind other =
    record {
      others = word (codes "all") ∷ sign s.Dash ∷ word (codes "traces") ∷ other;
      swapped = swapped_behind (word (codes "all")) (swapped_behind (sign s.Dash) (swapped_behind (word (codes "traces")) swapped_here));
      reads = t.all_kind;
    }
move_kind t.exists_kind other =
    record {
      others = word (codes "exists") ∷ sign s.Dash ∷ word (codes "trace") ∷ other;
      swapped = swapped_behind (word (codes "exists")) (swapped_behind (sign s.Dash) (swapped_behind (word (codes "trace")) swapped_here));
      reads = t.exists_kind;
    }

move_lemma_attribute : {x : Attribute} {tokens rest : List Lexeme} → SpellsLemmaAttribute tokens x rest → (other : List Lexeme) → Moved SpellsLemmaAttribute tokens x rest other
move_lemma_attribute (t.by_word {w = w} n) other = record { others = word w ∷ other; swapped = swapped_behind (word w) swapped_here; reads = t.by_word n }
move_lemma_attribute (t.hides {w = w} n) other =
    record { others = word (codes "hide_lemma") ∷ sign s.Equals ∷ word w ∷ other; swapped = swapped_behind (word (codes "hide_lemma")) (swapped_behind (sign s.Equals) (swapped_behind (word w) swapped_here)); reads = t.hides n }
move_lemma_attribute (t.ranks {w = w} n) other =
    record { others = word (codes "heuristic") ∷ sign s.Equals ∷ word w ∷ other; swapped = swapped_behind (word (codes "heuristic")) (swapped_behind (sign s.Equals) (swapped_behind (word w) swapped_here)); reads = t.ranks n }

move_lemma_attributes : {each : List Attribute} {tokens rest : List Lexeme} → SpellsLemmaAttributes tokens each rest → (other : List Lexeme) → Moved SpellsLemmaAttributes tokens each rest other
move_lemma_attributes t.no_lemma_attribute other = record { others = other; swapped = swapped_here; reads = t.no_lemma_attribute }
move_lemma_attributes (t.lemma_attributes h) other =
    let m = move_parts (λ ts us vs x a. move_lemma_attribute a vs) h other in
    record { others = sign s.OpenList ∷ m.others; swapped = swapped_behind (sign s.OpenList) m.swapped; reads = t.lemma_attributes m.reads }

-- the closing quote stands behind both, and then these tokens or those
pub record MovedLemma (tokens : List Lexeme) (x : Lemma) (each : List Attribute) (rest other : List Lexeme) : Type 0 where
  pub others : List Lexeme
  pub swapped : Swapped (sign s.Quote ∷ rest) (sign s.Quote ∷ other) tokens others
  pub reads : SpellsLemma others x each other

pub move_lemma : {x : Lemma} {each : List Attribute} {tokens rest : List Lexeme} → SpellsLemma tokens x each rest → (other : List Lexeme) → MovedLemma tokens x each rest other
move_lemma (t.lemma {w = w} {body = body} n a k f) other =
    let o = move_quoted body f other in
    let m = move_kind k (sign s.Quote ∷ o.others) in
    let i = move_lemma_attributes a (sign s.Colon ∷ m.others) in
    record {
      others = word (codes "lemma") ∷ word w ∷ i.others;
      swapped = swapped_behind (word (codes "lemma")) (swapped_behind (word w) (swapped_in (past_sign s.Colon i.swapped) (swapped_in (past_sign s.Quote m.swapped) o.swapped)));
      reads = t.lemma n i.reads m.reads o.reads;
    }
