-- Matching of a pattern with a term: what its variables are bound to, in the order in which they stand in it. How one is bound beside a term
-- is a step of any kind. Source: Schmidt's thesis, chapter 2 (matching).
use Rattle.std.specs.Prelude.{◌≡◌, List, [], ◌∷◌, ◌++◌, Bool, true, false, ◌==◌, if◌then◌else◌, Option, Some, None, option_and_then}
use Rattle.std.specs.Str.{bytes_eq}
use Rattle.sp_spec.specs.Term.{Sort, Msg, Fresh, Pub, Variable, Term, var, constant, name, app, Terms, none, more, valued}
use Rattle.sp_spec.specs.Same.{same_sort, same_by}
use Rattle.sp_spec.specs.Substitution.{lookup}

-- the bindings, with those that the pattern wants beside the term
abbrev mutual
  pub matched_by : {V W S : Type 0} → (V → Term W → S → Option S) → Term V → Term W → S → Option S
  matched_by bind (var x) t s = bind x t s
  matched_by bind (constant c) (constant d) s = if bytes_eq c d then Some s else None
  matched_by bind (name m) (name n) s = if m == n then Some s else None
  matched_by bind (app f ps) (app g ts) s = if bytes_eq f g then matched_all_by bind ps ts s else None
  matched_by bind _ _ s = None

  pub matched_all_by : {V W S : Type 0} → (V → Term W → S → Option S) → Terms V → Terms W → S → Option S
  matched_all_by bind none none s = Some s
  matched_all_by bind (more p ps) (more t ts) s = option_and_then (λ r. matched_all_by bind ps ts r) (matched_by bind p t s)
  matched_all_by bind _ _ s = None

-- whether the term is of the sort, by what is said of its variables: a fresh name of fresh, a public name of pub, any of msg
abbrev pub has_sort_by : {V : Type 0} → (Sort → V → Bool) → Sort → Term V → Bool
has_sort_by of_sort Msg t = true
has_sort_by of_sort sort (var x) = of_sort sort x
has_sort_by of_sort Fresh (name n) = true
has_sort_by of_sort Pub (constant c) = true
has_sort_by of_sort _ _ = false

-- a variable is of its own sort, and of none below
abbrev pub variable_has_sort : Sort → Variable → Bool
variable_has_sort sort x = same_sort sort x.sort

abbrev pub never_has_sort : Sort → ⊥ → Bool
never_has_sort sort x = false

-- a variable that is bound stays bound to the same; another is bound to a term of its sort
abbrev pub kept_or : {V : Type 0} → (V → V → Bool) → (Sort → V → Bool) → Option (Term V) → Variable → Term V → List (Variable × Term V) → Option (List (Variable × Term V))
kept_or test of_sort None x t bs = if has_sort_by of_sort x.sort t then Some (bs ++ (x, t) ∷ []) else None
kept_or test of_sort (Some u) x t bs = if same_by test u t then Some bs else None

abbrev pub bound_by : {V : Type 0} → (V → V → Bool) → (Sort → V → Bool) → Variable → Term V → List (Variable × Term V) → Option (List (Variable × Term V))
bound_by test of_sort x t bs = kept_or test of_sort (lookup bs x) x t bs

-- terms for variables, each of its variable's sort
abbrev pub KeepsSorts : {V : Type 0} → (Sort → V → Bool) → (Variable → Term V) → Type 0
KeepsSorts of_sort v = (x : Variable) → has_sort_by of_sort x.sort (v x) ≡ true

-- they are those of the bindings, where these have one
abbrev pub Agrees : {V : Type 0} → (Variable → Term V) → List (Variable × Term V) → Type 0
Agrees {V} v bs = (x : Variable) (t : Term V) → lookup bs x ≡ Some t → v x ≡ t

-- Terms that agree with the bindings make the pattern the term; each binding is of its variable's sort; and terms that keep sorts and make the
-- pattern the term agree with the bindings.
pub record IsMatch {V : Type 0} (of_sort : Sort → V → Bool) (pattern : Term Variable) (term : Term V) (bs : List (Variable × Term V)) : Type 0 where
  pub gives : (v : Variable → Term V) → Agrees v bs → valued v pattern ≡ term
  pub sorted : (x : Variable) (t : Term V) → lookup bs x ≡ Some t → has_sort_by of_sort x.sort t ≡ true
  pub forced : (v : Variable → Term V) → KeepsSorts of_sort v → valued v pattern ≡ term → Agrees v bs

-- no terms that keep sorts make the pattern the term
abbrev pub NoneMatches : {V : Type 0} → (Sort → V → Bool) → Term Variable → Term V → Type 0
NoneMatches {V} of_sort pattern term = (v : Variable → Term V) → KeepsSorts of_sort v → valued v pattern ≡ term → ⊥
