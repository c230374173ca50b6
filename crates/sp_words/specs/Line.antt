-- Which words are a line of the command, and what they ask for. The words are read by the meaning that `clap` gives a command: `fault_of` lists
-- why it doesn't take them, `subcommand_of` has the subcommand that they name with the values of its arguments, and `first_of` looks for a value.
-- Source: the manual of `clap`, "Subcommands"; of what is asked for, the Tamarin manual, "Running Tamarin".
use Rattle.std.specs.Prelude.{◌≡◌, ◌≤◌, ⊤, ℕ, List, [], Option, Some, None, true, codes, decimal, option_map}
use Rattle.clap.specs.Words.{App, Kinds, Row, Rule, fault_of, first_of, new_app, new_rule, subcommand_of, with_rule, with_subcommand}
use Rattle.sp_words.specs.declared.Command.{Command}
use Rattle.sp_words.specs.declared.Command.TheVariants.{Prove, Check, Replay, Variants, Wf, Graph, Gen}
use Rattle.sp_words.specs.declared.Request as memory
use Rattle.sp_words.specs.declared.Text as memory_text
use Rattle.sp_words.specs.declared.Text.TheVariants.{File, Made}
use Rattle.sp_words.specs.declared.RequestError.{RequestError}
use Rattle.sp_words.specs.declared.RequestError.TheVariants.{NoLine, NoMemory}
use Rattle.clap.specs.declared.error.kind.ErrorKind.{ErrorKind}
use Rattle.clap.specs.declared.error.kind.ErrorKind.TheVariants as kind

-- ---- the command, as `clap` sees it

-- `NAME`
abbrev pub place_rule : List ℕ → Rule
place_rule name = record (new_rule name) { required = true }

-- `[--NAME VALUE]`
abbrev pub option_rule : List ℕ → Rule
option_rule name = record (new_rule name) { long = Some name }

abbrev pub command_word : Command → List ℕ
command_word Prove = codes "prove"
command_word Check = codes "check"
command_word Replay = codes "replay"
command_word Variants = codes "variants"
command_word Wf = codes "wf"
command_word Graph = codes "graph"
command_word Gen = codes "gen"

-- `WORD FILE`
abbrev pub on_file : List ℕ → App
on_file word = with_rule (new_app word) (place_rule (codes "FILE"))

-- `prove FILE [--budget N] [--lemma NAME]`
abbrev pub proving : App
proving = with_rule (with_rule (on_file (command_word Prove)) (option_rule (codes "budget"))) (option_rule (codes "lemma"))

-- `graph FILE --lemma NAME`
abbrev pub drawing : App
drawing = with_rule (on_file (command_word Graph)) (record (option_rule (codes "lemma")) { required = true })

-- `gen N [--budget N]`
abbrev pub making : App
making = with_rule (with_rule (new_app (command_word Gen)) (place_rule (codes "N"))) (option_rule (codes "budget"))

abbrev pub with_words : App → App → App
with_words above below = with_subcommand above below.top

-- `prove`, or `check FILE`, `replay FILE`, `variants FILE`
abbrev pub first_four : App
first_four =
    with_words (with_words (with_words (with_words (new_app (codes "spthy")) proving) (on_file (command_word Check))) (on_file (command_word Replay))) (on_file (command_word Variants))

-- one of these, or `wf FILE`, `graph`, `gen`; one is required
unfoldable pub spthy : App
spthy =
    let all = with_words (with_words (with_words first_four (on_file (command_word Wf))) drawing) making in
    record all { top = record all.top { subcommand_required = true } }

-- ---- what is asked for

-- which text is meant: that of this name, which is fetched, or the theory that is made of this number
pub data Text : Type 0 where
  of_file : List ℕ → Text
  made_of : ℕ → Text

-- What is asked for: what is to be done, with which text, how many moves a proof may have that is grown, and of which lemma alone (of each lemma,
-- where none is named).
pub record Request : Type 0 where
  pub command : Command
  pub text : Text
  pub budget : ℕ
  pub lemma : Option (List ℕ)

-- a numeral from 1 to the most there may be, without a sign or a leading zero
abbrev pub IsNumeral : ℕ → List ℕ → ℕ → Type 0
IsNumeral most text n = (text ≡ decimal n) × (1 ≤ n) × (n ≤ most)

-- a numeral from 1 to 500
abbrev pub IsSize : List ℕ → ℕ → Type 0
IsSize = IsNumeral 500

-- a numeral from 1 to 1,000,000; where none is given, it is 10,000
abbrev pub IsBudget : Option (List ℕ) → ℕ → Type 0
IsBudget None budget = budget ≡ 10000
IsBudget (Some text) budget = IsNumeral 1000000 text budget

-- `gen` has a number, each other command the name of a text
abbrev pub IsTextAsked : Command → List Row → Text → Type 0
IsTextAsked Gen values text = (t : List ℕ) × (n : ℕ) × (first_of (codes "N") values ≡ Some t) × IsSize t n × (text ≡ made_of n)
IsTextAsked _ values text = (f : List ℕ) × (first_of (codes "FILE") values ≡ Some f) × (text ≡ of_file f)

-- `graph` is asked of one lemma
abbrev pub NamesLemma : Command → Option (List ℕ) → Type 0
NamesLemma Graph lemma = (name : List ℕ) × (lemma ≡ Some name)
NamesLemma _ lemma = ⊤

-- a subcommand of this name asks for this, by the values that stand at its arguments
pub record AskFor (word : List ℕ) (values : List Row) (request : Request) : Type 0 where
  pub command : word ≡ command_word request.command
  pub text : IsTextAsked request.command values request.text
  pub budget : IsBudget (first_of (codes "budget") values) request.budget
  pub lemma : first_of (codes "lemma") values ≡ request.lemma
  pub named : NamesLemma request.command request.lemma

-- why `clap` doesn't take the words
unfoldable pub faults : List (List ℕ) → Kinds
faults words = fault_of spthy words

-- the name of the subcommand that `clap` reads from the words, and the values of its arguments
unfoldable pub named : List (List ℕ) → Option (List ℕ × List Row)
named words = subcommand_of spthy words

-- the subcommand that was read, if one was, asks for this
pub record AsksFor (read : Option (List ℕ × List Row)) (request : Request) : Type 0 where
  pub word : List ℕ
  pub values : List Row
  pub is : read ≡ Some (word, values)
  pub asks : AskFor word values request

-- the words are a line that asks for this: `clap` takes them, and what it reads from them asks for it
pub record IsLine (words : List (List ℕ)) (request : Request) : Type 0 where
  pub taken : faults words ≡ []
  pub asks : AsksFor (named words) request

-- the words are no line of the command
abbrev pub IsNoLine : List (List ℕ) → Type 0
IsNoLine words = (request : Request) → ¬ IsLine words request

-- ---- in memory

abbrev pub text_of : memory_text.Text → Text
text_of (File name) = of_file name.now
text_of (Made n) = made_of n

abbrev pub request_of : memory.Request → Request
request_of r = record { command = r.command; text = text_of r.text; budget = r.budget; lemma = option_map (λ s. s.now) r.lemma }

-- why there is no request, by the kind of `clap`'s error: all but want of memory, a request for help among them, are lines that are none
abbrev pub cause_of : ErrorKind → RequestError
cause_of kind.OutOfMemory = NoMemory
cause_of _ = NoLine
