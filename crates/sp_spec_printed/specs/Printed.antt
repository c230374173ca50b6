-- The texts of ground terms, actions, traces and steps. Source of the shape: Tamarin manual, "Cryptographic messages" (pairs, constants
-- and fresh names); the words of steps are this project's own.
use Rattle.std.specs.Prelude.{ℕ, Bool, true, false, ◌&&◌, if◌then◌else◌, List, [], ◌∷◌, ◌++◌, codes, decimal}
use Rattle.std.specs.Str.{bytes_eq}
use Rattle.sp_spec.specs.Term.{var, constant, name, app, none, more, Ground, Grounds}
use Rattle.sp_spec.specs.Rule.{Action}
use Rattle.sp_spec.specs.Execution.{Step, make_fresh, use_rule, take_out, put_in, know_public, make_own, apply_symbol}

-- two arguments
abbrev pub are_two : Grounds → Bool
are_two (more t (more u none)) = true
are_two ts = false

abbrev pub is_pair : List ℕ → Grounds → Bool
is_pair f ts = bytes_eq f (codes "pair") && are_two ts

-- `'c'`, `~n1`, a symbol without arguments alone, `f(t, u)`, and `<t, u, w>` for pairs nested on the right: at the end of a row a pair
-- goes on with the row
abbrev mutual
  pub text_at : Bool → Ground → List ℕ
  text_at ends (var x) = []
  text_at ends (constant c) = codes "'" ++ (c ++ codes "'")
  text_at ends (name n) = codes "~n" ++ decimal n
  text_at ends (app f none) = f
  text_at ends (app f (more t ts)) =
      if is_pair f (more t ts)
      then (if ends then text_at false t ++ row_text true ts else codes "<" ++ (text_at false t ++ (row_text true ts ++ codes ">")))
      else f ++ (codes "(" ++ (text_at false t ++ (row_text false ts ++ codes ")")))

  -- the terms behind the first of a row, each behind a comma; in a pair, a pair goes on with the row
  pub row_text : Bool → Grounds → List ℕ
  row_text in_pair none = []
  row_text in_pair (more t ts) = codes ", " ++ (text_at in_pair t ++ row_text in_pair ts)

abbrev pub term_text : Ground → List ℕ
term_text t = text_at false t

-- `A(t, u)`
abbrev pub arguments_text : Grounds → List ℕ
arguments_text none = []
arguments_text (more t ts) = term_text t ++ row_text false ts

abbrev pub action_text : Action ⊥ → List ℕ
action_text a = a.symbol ++ (codes "(" ++ (arguments_text a.args ++ codes ")"))

-- the values of a rule's variables, behind its name and a colon
abbrev pub more_given_text : List (List ℕ × Ground) → List ℕ
more_given_text [] = []
more_given_text (g ∷ given) = codes ", " ++ (g.0 ++ (codes " = " ++ (term_text g.1 ++ more_given_text given)))

abbrev pub given_text : List (List ℕ × Ground) → List ℕ
given_text [] = []
given_text (g ∷ given) = codes " " ++ (g.0 ++ (codes " = " ++ (term_text g.1 ++ more_given_text given)))

-- the line of a step, without its line feed
abbrev pub step_text : Step → List ℕ
step_text (make_fresh t) = codes "fresh " ++ term_text t
step_text (use_rule r given) = codes "rule " ++ (r ++ (codes ":" ++ given_text given))
step_text (take_out t) = codes "out " ++ term_text t
step_text (put_in t) = codes "in " ++ term_text t
step_text (know_public t) = codes "pub " ++ term_text t
step_text (make_own t) = codes "own " ++ term_text t
step_text (apply_symbol f ts) = codes "make " ++ term_text (app f ts)

-- an entry of a trace, with its line feed: the actions joined by commas
abbrev pub more_actions_text : List (Action ⊥) → List ℕ
more_actions_text [] = codes "\n"
more_actions_text (a ∷ entry) = codes ", " ++ (action_text a ++ more_actions_text entry)

abbrev pub entry_text : List (Action ⊥) → List ℕ
entry_text [] = codes "\n"
entry_text (a ∷ entry) = action_text a ++ more_actions_text entry

abbrev pub entries_text : List (List (Action ⊥)) → List ℕ
entries_text [] = []
entries_text (entry ∷ entries) = entry_text entry ++ entries_text entries

-- the block of a trace, the oldest entry first
abbrev pub trace_block : List (List (Action ⊥)) → List ℕ
trace_block entries = codes "trace:\n" ++ (entries_text entries ++ codes "end of trace\n")
