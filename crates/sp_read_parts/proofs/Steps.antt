-- What a part begins with says which way it is read; each way to get stuck leaves no reading.
use Rattle.std.proofs.Common.{◌≡◌, ℕ, ◌+◌, ◌<◌, Bool, true, false, List, [], ◌∷◌, Some, None, refl, sym, ap, subst, ◌∙◌}
use Rattle.sp_spec_text.specs.Signs.{Sign, Wide}
use Rattle.sp_spec_text.specs.Signs as s
use Rattle.sp_spec_text.specs.Token.{Lexeme, word, constant, sign, solve, wide, block}
use Rattle.sp_spec.specs.Term.{Terms}
use Rattle.sp_spec.specs.Rule.{Fact}
use Rattle.sp_spec.specs.Formula.{Mark, Written}
use Rattle.sp_spec_text.specs.Names.{IsName, names_fact, mark_of, mark_at}
use Rattle.sp_spec_text.specs.Lists.{IsNotFirst, IsNoWord, NoReading}
use Rattle.sp_spec_text.specs.Shapes.{written, fact}
use Rattle.sp_read_parts.specs.Parts.{IsNameFirst, name, IsSort, sort, IsVariable, marked, sorted, unmarked, AreArguments, arguments, AreTermsTo, IsAnnotated, IsNamedFact, named, IsFact, linear, persistent}
use Rattle.sp_read_parts.proofs.One.{variable_constant, variable_solve, variable_wide, variable_block, variable_sign, arguments_one}

-- ---- names and variables

pub name_at : {w : List ℕ} {tokens rest : List Lexeme} → tokens ≡ word w ∷ rest → IsName w → IsNameFirst tokens w rest
name_at e h = rw e (name h)

pub name_no_word : {tokens : List Lexeme} → IsNoWord tokens → NoReading IsNameFirst tokens
name_no_word {tokens} d = record { none = λ w rest h. at h d }
  where
    at : {ts r : List Lexeme} {w : List ℕ} → IsNameFirst ts w r → IsNoWord ts → ⊥
    at (name {w = w} {rest = r} h) d = d w r refl

pub name_reserved : {w : List ℕ} {tokens rest : List Lexeme} → tokens ≡ word w ∷ rest → (IsName w → ⊥) → NoReading IsNameFirst tokens
name_reserved {w} e d = record { none = λ u r h. at h e d }
  where
    at : {ts r rest : List Lexeme} {u w : List ℕ} → IsNameFirst ts u r → ts ≡ word w ∷ rest → (IsName w → ⊥) → ⊥
    at (name {w = u} h) e d = let f : u ≡ _ = cc in d (subst IsName f h)

pub marked_at : {x : Sign} {m : Mark} {w : List ℕ} {tokens after rest : List Lexeme} → tokens ≡ sign x ∷ after → Some m ≡ mark_at x → IsNameFirst after w rest → IsVariable tokens (written w m) rest
marked_at e m h = rw e (marked (sym m) h)

pub sort_at : {k : List ℕ} {m : Mark} {tokens rest : List Lexeme} → tokens ≡ word k ∷ rest → Some m ≡ mark_of k → IsSort tokens m rest
sort_at e m = rw e (sort (sym m))

pub sort_no_word : {tokens : List Lexeme} → IsNoWord tokens → NoReading IsSort tokens
sort_no_word {tokens} d = record { none = λ m r h. at h d }
  where
    at : {ts r : List Lexeme} {m : Mark} → IsSort ts m r → IsNoWord ts → ⊥
    at (sort {k = k} {rest = r} h) d = d k r refl

pub sort_unknown : {k : List ℕ} {tokens rest : List Lexeme} → tokens ≡ word k ∷ rest → None ≡ mark_of k → NoReading IsSort tokens
sort_unknown {k} e n = record { none = λ m r h. at h e n }
  where
    at : {k : List ℕ} {ts r rest : List Lexeme} {m : Mark} → IsSort ts m r → ts ≡ word k ∷ rest → None ≡ mark_of k → ⊥
    at {k} (sort {k = c} {m = m} h) e n = let g : k ≡ c = cc in let j : None ≡ Some m = n ∙ ap mark_of g ∙ h in cc

pub sorted_at : {w : List ℕ} {m : Mark} {tokens mid behind rest : List Lexeme} → IsNameFirst tokens w mid → mid ≡ sign s.Colon ∷ behind → IsSort behind m rest → IsVariable tokens (written w m) rest
sorted_at h e k = sorted (rw e at h) k

pub variable_nil : {tokens : List Lexeme} → tokens ≡ [] → NoReading IsVariable tokens
variable_nil e = record { none = λ v r h. at h e }
  where
    at : {ts r : List Lexeme} {v : Written} → IsVariable ts v r → ts ≡ [] → ⊥
    at (marked m h) e = cc
    at (sorted (name h) m) e = cc
    at (unmarked (name h) m) e = cc

pub variable_no_mark : {x : Sign} {tokens after : List Lexeme} → tokens ≡ sign x ∷ after → None ≡ mark_at x → NoReading IsVariable tokens
variable_no_mark e n = record { none = λ v r h. variable_sign (sym n) (subst (λ (ts : List Lexeme). IsVariable ts v r) e h) }

pub variable_no_name : {x : Sign} {tokens after : List Lexeme} → tokens ≡ sign x ∷ after → NoReading IsNameFirst after → NoReading IsVariable tokens
variable_no_name e n = record { none = λ v r h. at (subst (λ (ts : List Lexeme). IsVariable ts v r) e h) n }
  where
    at : {x : Sign} {ts r : List Lexeme} {v : Written} → IsVariable (sign x ∷ ts) v r → NoReading IsNameFirst ts → ⊥
    at (marked {w = w} {rest = r} m h) n = n.none w r h
    at (sorted h m) n = elim h [ ]
    at (unmarked h m) n = elim h [ ]

pub variable_no_constant : {c : List ℕ} {tokens after : List Lexeme} → tokens ≡ constant c ∷ after → NoReading IsVariable tokens
variable_no_constant e = record { none = λ v r h. variable_constant (subst (λ (ts : List Lexeme). IsVariable ts v r) e h) }

pub variable_no_solve : {s : List ℕ} {tokens after : List Lexeme} → tokens ≡ solve s ∷ after → NoReading IsVariable tokens
variable_no_solve e = record { none = λ v r h. variable_solve (subst (λ (ts : List Lexeme). IsVariable ts v r) e h) }

pub variable_no_wide : {x : Wide} {tokens after : List Lexeme} → tokens ≡ wide x ∷ after → NoReading IsVariable tokens
variable_no_wide e = record { none = λ v r h. variable_wide (subst (λ (ts : List Lexeme). IsVariable ts v r) e h) }

pub variable_no_block : {tokens after : List Lexeme} → tokens ≡ block ∷ after → NoReading IsVariable tokens
variable_no_block e = record { none = λ v r h. variable_block (subst (λ (ts : List Lexeme). IsVariable ts v r) e h) }

pub variable_reserved : {w : List ℕ} {tokens after : List Lexeme} → tokens ≡ word w ∷ after → NoReading IsNameFirst tokens → NoReading IsVariable tokens
variable_reserved e n = record { none = λ v r h. at h e n }
  where
    at : {ts r after : List Lexeme} {w : List ℕ} {v : Written} → IsVariable ts v r → ts ≡ word w ∷ after → NoReading IsNameFirst ts → ⊥
    at (marked m h) e n = cc
    at (sorted {w = w} h m) e n = n.none w _ h
    at (unmarked {w = w} {rest = r} h m) e n = n.none w r h

pub variable_no_sort : {w : List ℕ} {tokens mid behind : List Lexeme} → IsNameFirst tokens w mid → mid ≡ sign s.Colon ∷ behind → NoReading IsSort behind → NoReading IsVariable tokens
variable_no_sort h e n = record { none = λ v r k. at h e n k }
  where
    at : {w : List ℕ} {tokens mid behind rest : List Lexeme} {v : Written} → IsNameFirst tokens w mid → mid ≡ sign s.Colon ∷ behind → NoReading IsSort behind → IsVariable tokens v rest → ⊥
    at (name i) e n (sorted {m = m} {behind = b} {rest = r} (name h) k) = n.none m r (subst (λ (ts : List Lexeme). IsSort ts m r) (cc) k)
    at {behind = b} (name i) e n (unmarked (name h) d) = d b e

pub ruleset names = (name_at, name_no_word, name_reserved)

pub ruleset sorts = (sort_at, sort_no_word, sort_unknown)

pub ruleset variables = (marked_at, sorted_at, unmarked, variable_nil, variable_no_mark, variable_no_name, variable_no_constant, variable_no_solve, variable_no_wide, variable_no_block, variable_reserved, variable_no_sort)

-- ---- facts

pub arguments_at : {n : ℕ} {args : Terms Written} {tokens inside rest : List Lexeme} → tokens ≡ sign s.Open ∷ inside → n < 128 → AreTermsTo (n + 1) inside args rest → AreArguments n tokens args rest
arguments_at e lt h = rw e (arguments lt h)

pub no_arguments : {n : ℕ} {tokens : List Lexeme} → IsNotFirst (sign s.Open) tokens → NoReading (AreArguments n) tokens
no_arguments {n} d = record { none = λ x r h. at h d }
  where
    at : {ts r : List Lexeme} {xs : Terms Written} → AreArguments n ts xs r → IsNotFirst (sign s.Open) ts → ⊥
    at (arguments {tokens = ts} lt h) d = d ts refl

pub no_argument_list : {n : ℕ} {tokens inside : List Lexeme} → tokens ≡ sign s.Open ∷ inside → NoReading (AreTermsTo (n + 1)) inside → NoReading (AreArguments n) tokens
no_argument_list {n} e k = record { none = λ x r h. at h e k }
  where
    at : {ts r inside : List Lexeme} {xs : Terms Written} → AreArguments n ts xs r → ts ≡ sign s.Open ∷ inside → NoReading (AreTermsTo (n + 1)) inside → ⊥
    at {inside = i} (arguments {xs = xs} {tokens = ts} {rest = r} lt h) e k = let f : ts ≡ i = cc in k.none xs r (subst (λ (l : List Lexeme). AreTermsTo (n + 1) l xs r) f h)

pub named_at : {n : ℕ} {p : Bool} {w : List ℕ} {f : Fact Written} {args : Terms Written} {tokens after mid rest : List Lexeme} → tokens ≡ word w ∷ after → names_fact w ≡ true → AreArguments n after args mid → IsAnnotated mid tt rest → f ≡ fact w p args
    → IsNamedFact n p tokens f rest
named_at e f h a d = rw (e, d) (named f h a)

pub named_no_word : {n : ℕ} {p : Bool} {tokens : List Lexeme} → IsNoWord tokens → NoReading (IsNamedFact n p) tokens
named_no_word {n} {p} d = record { none = λ x r h. at h d }
  where
    at : {ts r : List Lexeme} {f : Fact Written} → IsNamedFact n p ts f r → IsNoWord ts → ⊥
    at (named {w = w} {tokens = ts} e h a) d = d w ts refl

record UnderName (n : ℕ) (w : List ℕ) (after rest : List Lexeme) : Type 0 where
  pub called : names_fact w ≡ true
  pub args : Terms Written
  pub mid : List Lexeme
  pub behind_name : AreArguments n after args mid
  pub annotations : IsAnnotated mid tt rest

under_name : {n : ℕ} {p : Bool} {w : List ℕ} {tokens after rest : List Lexeme} {f : Fact Written} → tokens ≡ word w ∷ after → IsNamedFact n p tokens f rest → UnderName n w after rest
under_name {n} {p} {rest = rest} {f = f} e h = at (subst (λ (ts : List Lexeme). IsNamedFact n p ts f rest) e h)
  where
    at : {w : List ℕ} {after rest : List Lexeme} {f : Fact Written} → IsNamedFact n p (word w ∷ after) f rest → UnderName n w after rest
    at (named {args = xs} {mid = m} e h a) = record { called = e; args = xs; mid = m; behind_name = h; annotations = a }

pub named_no_name : {n : ℕ} {p : Bool} {w : List ℕ} {tokens after : List Lexeme} → tokens ≡ word w ∷ after → names_fact w ≡ false → NoReading (IsNamedFact n p) tokens
named_no_name e f = record { none = λ x r h. let g = sym f ∙ (under_name e h).called in cc }

pub named_no_arguments : {n : ℕ} {p : Bool} {w : List ℕ} {tokens after : List Lexeme} → tokens ≡ word w ∷ after → NoReading (AreArguments n) after → NoReading (IsNamedFact n p) tokens
named_no_arguments e k = record { none = λ x r h. let i = under_name e h in k.none i.args i.mid i.behind_name }

pub named_not_annotated : {n : ℕ} {p : Bool} {w : List ℕ} {args : Terms Written} {tokens after mid : List Lexeme} → tokens ≡ word w ∷ after → AreArguments n after args mid → NoReading IsAnnotated mid → NoReading (IsNamedFact n p) tokens
named_not_annotated e h k = record {
  none = λ x r j.
      let i = under_name e j in
      k.none tt r (subst (λ (ts : List Lexeme). IsAnnotated ts tt r) (sym (arguments_one h i.behind_name).1) i.annotations);
}

pub persistent_at : {n : ℕ} {f : Fact Written} {tokens after rest : List Lexeme} → tokens ≡ sign s.Bang ∷ after → IsNamedFact n true after f rest → IsFact n tokens f rest
persistent_at e h = rw e (persistent h)

pub no_persistent : {n : ℕ} {tokens after : List Lexeme} → tokens ≡ sign s.Bang ∷ after → NoReading (IsNamedFact n true) after → NoReading (IsFact n) tokens
no_persistent {n} e k = record { none = λ x r h. at (subst (λ (ts : List Lexeme). IsFact n ts x r) e h) k }
  where
    at : {after r : List Lexeme} {f : Fact Written} → IsFact n (sign s.Bang ∷ after) f r → NoReading (IsNamedFact n true) after → ⊥
    at (linear h) k = elim h [ ]
    at (persistent {f = f} {rest = r} h) k = k.none f r h

pub no_linear : {n : ℕ} {tokens : List Lexeme} → IsNotFirst (sign s.Bang) tokens → NoReading (IsNamedFact n false) tokens → NoReading (IsFact n) tokens
no_linear {n} d k = record { none = λ x r h. at h d k }
  where
    at : {ts r : List Lexeme} {f : Fact Written} → IsFact n ts f r → IsNotFirst (sign s.Bang) ts → NoReading (IsNamedFact n false) ts → ⊥
    at (linear {f = f} {rest = r} h) d k = k.none f r h
    at (persistent {tokens = ts} h) d k = d ts refl

pub ruleset argument_lists = (arguments_at, no_arguments, no_argument_list)

pub ruleset named_facts = (named_at, named_no_word, named_no_name, named_no_arguments, named_not_annotated)

pub ruleset facts_either_way = (linear, persistent_at, no_persistent, no_linear)
