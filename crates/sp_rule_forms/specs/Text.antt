-- The texts of a rule's forms: a line for each, below the rule's name and how many there are. Source: Tamarin manual, "Cryptographic messages"
-- (variants of rules); the words are this project's own.
use Rattle.std.specs.Prelude.{ℕ, List, [], ◌∷◌, ◌++◌, map, if◌then◌else◌, codes, decimal}
use Rattle.sp_spec.specs.Term.{Sort, Msg, Fresh, Pub, Variable, app, none, valued_all, Ground}
use Rattle.sp_spec.specs.Rule.{Fact, Action, Facts, action_at}
use Rattle.sp_spec_printed.specs.Printed.{action_text}

abbrev pub mark_text : Sort → List ℕ
mark_text Msg = []
mark_text Fresh = codes "~"
mark_text Pub = codes "$"

-- a variable is written as a symbol without arguments: its mark, a `v` and its number
abbrev pub shown_variable : Variable → Ground
shown_variable x = app (mark_text x.sort ++ (codes "v" ++ decimal x.number)) none

-- so that an action is written as a ground one, and a fact as an action, behind `!` where it is persistent
abbrev pub shown_action : Action Variable → List ℕ
shown_action a = action_text (action_at shown_variable a)

abbrev pub shown_fact : Fact Variable → List ℕ
shown_fact f = (if f.persistent then codes "!" else []) ++ action_text (record { symbol = f.symbol; args = valued_all shown_variable f.args })

-- `A, B`, with a blank before and behind; a blank alone where there is none
abbrev pub behind_first : List (List ℕ) → List ℕ
behind_first [] = codes " "
behind_first (x ∷ xs) = codes ", " ++ (x ++ behind_first xs)

abbrev pub joined : List (List ℕ) → List ℕ
joined [] = codes " "
joined (x ∷ xs) = codes " " ++ (x ++ behind_first xs)

-- `  [ P ] --[ A ]-> [ C ]`
abbrev pub facts_line : Facts Variable → List ℕ
facts_line f =
    codes "  [" ++ (joined (map shown_fact f.premises) ++ (codes "] --[" ++ (joined (map shown_action f.actions)
    ++ (codes "]-> [" ++ (joined (map shown_fact f.conclusions) ++ codes "]\n")))))

-- `rule R: 2 forms`
abbrev pub rule_head : List ℕ → ℕ → List ℕ
rule_head name forms = codes "rule " ++ (name ++ (codes ": " ++ (decimal forms ++ codes " forms\n")))
