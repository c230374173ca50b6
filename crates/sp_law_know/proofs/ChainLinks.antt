-- A chain that goes on by a destruction: its case keeps the numbers, and is solved where the log's chain has such a link.
use Rattle.std.proofs.Common.{◌≡◌, ◌≤◌, ◌<◌, ◌+◌, ℕ, List, [], ◌∷◌, ◌++◌, map, Option, Some, None, sym, ap, ap₂, ◌∙◌, subst, arith, le_trans}
use Rattle.sp_spec.specs.Lists.{Member, Every, AtPosition}
use Rattle.sp_spec.specs.Term.{Names, Variable, Term, Ground, Grounds, MadeOf, AllMadeOf, Values, valued, valued_all}
use Rattle.sp_spec.specs.Signature.{IsValue}
use Rattle.sp_spec.specs.Equal.{IsNormal}
use Rattle.sp_spec.specs.Theory.{Theory, signature_of}
use Rattle.sp_spec.specs.Destruction.{Destruction, destructions}
use Rattle.sp_spec.specs.Log.{Log, How, by_chain, learn, IsLog}
use Rattle.sp_spec.proofs.Lists.{every_append, every_weaken, position_below}
use Rattle.sp_law_equal.specs.Right.{HaveNoNames}
use Rattle.sp_spec_system.specs.System.{Way, chain_begun, System, with_next}
use Rattle.sp_spec_system.specs.Solutions.{Valuation, Begins, Solves}
use Rattle.sp_spec_system.specs.Numbered.{IsNumbered}
use Rattle.sp_spec_system.specs.Covering.{Agrees, NoneSolved}
use Rattle.sp_spec_system.specs.Cases.{case_if}
use Rattle.sp_spec_know.specs.Know.{with_way}
use Rattle.sp_spec_know.specs.Chain.{Begun, with_same, numbered_from, variables_of, with_link}
use Rattle.sp_law_forms.specs.Laws.{IsNormalValuation}
use Rattle.sp_law_system.specs.Laws.{UnifierIsRight}
use Rattle.sp_spec_system.specs.Move.{systems_in}
use Rattle.sp_law_system.proofs.Facts.{valued_same}
use Rattle.sp_law_equal.proofs.Made.{each_weaken}
use Rattle.sp_law_system.proofs.Solutions.{Under, agree_solves, agrees_then}
use Rattle.sp_law_system.proofs.With.{next_solves, next_numbered}
use Rattle.sp_law_formula.proofs.Entries.{beside, beside_agrees, each_beside}
use Rattle.sp_law_formula.proofs.MadeOne.{pairs_solved, pairs_numbered}
use Rattle.sp_law_formula.proofs.Merged.{SolvedBy, Later, NumberedFrom}
use Rattle.sp_law_know.proofs.ChainValues.{once, destruction_numbered, at_new, at_new_good, pattern_value, result_value, sides_value}
use Rattle.sp_law_know.proofs.KnowParts.{way_at, way_numbered, way_solved, learnings_numbered, learnings_solved}
use Rattle.sp_law_know.proofs.Learnt.{AreLearntBefore}
use Rattle.sp_law_know.proofs.Learning.{SolvedLater}

-- ---- two terms that are to be the same

case_numbered : (N : Names) (k n : ℕ) (name : List ℕ) (o : Option System) → k ≤ n → NumberedFrom N n o → Every (Later N k) (systems_in (case_if name o))
case_numbered N k n name None le h = tt
case_numbered N k n name (Some t) le h = ((h.0, le_trans le h.1), tt)

case_solved : (theory : Theory) (log : Log) (base : ℕ) (v w : Valuation) (name : List ℕ) (o : Option System) → Agrees base v w → SolvedBy theory log w o
    → NoneSolved theory log v base (systems_in (case_if name o)) → ⊥
case_solved theory log base v w name None agrees h none_solved = h
case_solved theory log base v w name (Some t) agrees h none_solved = none_solved.0 w agrees h

module _ (N : Names) (right : UnifierIsRight) (t : System) (n : IsNumbered N t) (a c : Term Variable) (name : List ℕ) where
  pub same_numbered : (k : ℕ) → k ≤ t.next → MadeOf N (Under t.next) a → MadeOf N (Under t.next) c
      → Every (Later N k) (systems_in (case_if name (with_same t a c)))
  same_numbered k le ua uc = case_numbered N k t.next name (with_same t a c) le (pairs_numbered right t n ((a, c) ∷ []) ((ua, uc), tt))

  pub same_solved : (theory : Theory) (log : Log) (base : ℕ) (v w : Valuation) → Agrees base v w → Solves theory log w t → valued w.terms a ≡ valued w.terms c
      → NoneSolved theory log v base (systems_in (case_if name (with_same t a c))) → ⊥
  same_solved theory log base v w agrees h e none_solved =
      case_solved theory log base v w name (with_same t a c) agrees (pairs_solved right t n ((a, c) ∷ []) theory log w h (e, tt)) none_solved

-- ---- one link more

-- the messages that were passed, and one more
one_more : (v w : Values) (ts : List (Term Variable)) (r : Term Variable) (u : Ground) (others : List Ground)
    → Every (λ (t : Term Variable). valued w t ≡ valued v t) ts
    → valued w r ≡ u → map (valued w) (ts ++ r ∷ []) ++ others ≡ map (valued v) ts ++ u ∷ others
one_more v w [] r u others h e = ap (λ (g : Ground). g ∷ others) e
one_more v w (t ∷ ts) r u others h e = ap₂ (λ (g : Ground) (gs : List Ground). g ∷ gs) h.0 (one_more v w ts r u others h.1 e)

one_more_begins : (ts : List (Term Variable)) (r : Term Variable) → Begins (ts ++ r ∷ [])
one_more_begins [] r = tt
one_more_begins (t ∷ ts) r = tt

module _ (N : Names) (right : UnifierIsRight) (theory : Theory) (nameless : HaveNoNames (signature_of theory).equations)
    (s : System) (n : IsNumbered N s) (i : ℕ) (i_under : i < s.next) (b : Begun) (from_under : b.from < s.next)
    (passed_under : Every (MadeOf N (Under s.next)) b.passed)
    (last_under : MadeOf N (Under s.next) b.last) (d : Destruction) (among : Member d (destructions (signature_of theory))) where
  abbrev wide : ℕ
  wide = s.next + variables_of d

  abbrev new : Variable → Term Variable
  new = numbered_from s.next d

  abbrev way : Way
  way = chain_begun b.from b.conclusion (b.passed ++ valued new d.result ∷ [])

  abbrev base : System
  base = with_next s wide

  abbrev settled : System
  settled = with_way base i way

  made : MadeOf N (Under wide) (valued new d.pattern) × AllMadeOf N (Under wide) (valued_all new d.sides) × MadeOf N (Under wide) (valued new d.result)
  made = destruction_numbered d N (signature_of theory) nameless among s.next

  widened : (t : Term Variable) → MadeOf N (Under s.next) t → MadeOf N (Under wide) t
  widened = each_weaken N (Under s.next) (Under wide) (λ x k. omega (arith, k))

  i_wide : i < wide
  i_wide = omega (arith, i_under)

  settled_numbered : IsNumbered N settled
  settled_numbered =
      let from_wide : b.from < wide = omega (arith, from_under) in
      let passed = every_weaken (MadeOf N (Under s.next)) (MadeOf N (Under wide)) widened b.passed passed_under in
      way_numbered base i way (next_numbered s n wide (omega arith))
      (from_wide, every_append (MadeOf N (Under wide)) b.passed (valued new d.result ∷ []) passed (made.2, tt))

  link_later : Later N wide (with_link s i b d)
  link_later = learnings_numbered i (valued_all new d.sides) settled settled_numbered made.1 i_wide

  further : (t : Term Variable) → MadeOf N (Under wide) t → MadeOf N (Under (with_link s i b d).next) t
  further = each_weaken N (Under wide) (Under (with_link s i b d).next) (λ x k. let le = link_later.1 in omega (arith, k, le))

  pub link_numbered : (name : List ℕ) → Every (Later N s.next) (systems_in (case_if name (with_same (with_link s i b d) b.last (valued new d.pattern))))
  link_numbered name =
      let le = link_later.1 in
      same_numbered N right (with_link s i b d) link_later.0 b.last (valued new d.pattern) name s.next (omega (arith, le))
      (further b.last (widened b.last last_under))
      (further (valued new d.pattern) made.0)

  -- where the log's chain goes on so
  module _ (log : Log) (is : IsLog theory log) (v : Valuation) (h : Solves theory log v s) (m u : Ground) (others : List Ground)
      (learnt : AtPosition log (v.times i) (learn m (by_chain (v.times b.from) b.conclusion (map (valued v.terms) b.passed ++ u ∷ others))))
      (w : Values) (sorts : (x : Variable) → Member x (once d) → IsValue (signature_of theory) x.sort (w x))
      (are_normal : (x : Variable) → Member x (once d) → IsNormal (signature_of theory).equations (w x))
      (pattern : valued v.terms b.last ≡ valued w d.pattern) (known : AreLearntBefore log (v.times i) (valued_all w d.sides))
      (result : u ≡ valued w d.result) where
    abbrev value : Valuation
    value = beside s.next v (at_new d w v.terms)

    agrees : Agrees s.next v value
    agrees = beside_agrees s.next v (at_new d w v.terms)

    base_solved : Solves theory log value base
    base_solved =
        let signature = signature_of theory in
        let good : IsNormalValuation signature (at_new d w v.terms) = at_new_good d w v.terms signature (h.sorts, h.normal) sorts are_normal in
        let old = agree_solves theory log s v value n agrees
        (each_beside s.next v (at_new d w v.terms) (λ sort t. IsNormal signature.equations t) h.normal good.1)
        (each_beside s.next v (at_new d w v.terms) (IsValue signature) h.sorts good.0) h in
        next_solves theory log value s old wide

    value_same : (t : Term Variable) → MadeOf N (Under s.next) t → valued value.terms t ≡ valued v.terms t
    value_same t under = valued_same N value.terms v.terms t (each_weaken N (Under s.next) _ agrees.terms t under)

    abbrev how : How
    how = by_chain (v.times b.from) b.conclusion (map (valued v.terms) b.passed ++ u ∷ others)

    same_how : how ≡ by_chain (value.times b.from) b.conclusion (map (valued value.terms) (b.passed ++ valued new d.result ∷ []) ++ others)
    same_how =
        let each = every_weaken (MadeOf N (Under s.next)) (λ t. valued value.terms t ≡ valued v.terms t) value_same b.passed passed_under in
        let messages = one_more v.terms value.terms b.passed (valued new d.result) u others each (result_value d w v.terms s.next v ∙ sym result) in
        ap (λ (p : ℕ). by_chain p b.conclusion (map (valued v.terms) b.passed ++ u ∷ others)) (sym (agrees.times b.from from_under))
        ∙ ap (λ (ts : List Ground). by_chain (value.times b.from) b.conclusion ts) (sym messages)

    here : AtPosition log (value.times i) (learn m how)
    here = subst (λ (p : ℕ). AtPosition log p (learn m how)) (sym (agrees.times i i_under)) learnt

    settled_solved : Solves theory log value settled
    settled_solved = way_solved base i way theory log value (way_at log (value.times i) value way m how here (others, same_how, one_more_begins b.passed (valued new d.result))) base_solved

    link_solution : SolvedLater theory log wide value (with_link s i b d)
    link_solution =
        let known_so = subst (λ (p : ℕ). AreLearntBefore log p (valued_all value.terms (valued_all new d.sides))) (sym (agrees.times i i_under))
        (subst (λ (ts : Grounds). AreLearntBefore log (v.times i) ts) (sym (sides_value d w v.terms s.next v)) known) in
        learnings_solved i theory log is (valued_all new d.sides) settled settled_numbered made.1 i_wide value settled_solved known_so
        (position_below log (value.times i) (learn m how) here)

    pub link_solved : (name : List ℕ) → NoneSolved theory log v s.next (systems_in (case_if name (with_same (with_link s i b d) b.last (valued new d.pattern))))
        → ⊥
    link_solved name none_solved =
        let so = link_solution in
        let x = so.0 in
        let later : (t : Term Variable) → MadeOf N (Under wide) t → valued x.terms t ≡ valued value.terms t =
        λ t under. valued_same N x.terms value.terms t (each_weaken N (Under wide) _ so.1.terms t under) in
        let same : valued x.terms b.last ≡ valued x.terms (valued new d.pattern) =
        later b.last (widened b.last last_under) ∙ value_same b.last last_under ∙ pattern ∙ sym (pattern_value d w v.terms s.next v)
        ∙ sym (later (valued new d.pattern) made.0) in
        same_solved N right (with_link s i b d) link_later.0 b.last (valued new d.pattern) name theory log s.next v x
        (agrees_then s.next wide v value x (omega arith) agrees so.1) so.2 same
        none_solved
