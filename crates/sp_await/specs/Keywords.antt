-- The words with which items of a text begin.
use Rattle.std.specs.Prelude.{ℕ, if◌then◌else◌, List, codes}
use Rattle.std.specs.Str.{bytes_eq}
use Rattle.sp_spec_text.specs.Attributes.{is_restriction}

-- an item with a name
pub data NamedItem : Type 0 where
  Rule : NamedItem
  Restriction : NamedItem
  Lemma : NamedItem

-- an item that is a list, with a colon directly behind its word
pub data ListItem : Type 0 where
  Builtins : ListItem
  Functions : ListItem
  Equations : ListItem
  Heuristic : ListItem

-- what a word may begin; each may also be the word of a block of text
pub data Keyword : Type 0 where
  names : NamedItem → Keyword
  lists : ListItem → Keyword
  neither : Keyword

unfoldable pub keyword_of : List ℕ → Keyword
keyword_of w =
    if is_restriction w then names Restriction
    else if bytes_eq w (codes "rule") then names Rule
    else if bytes_eq w (codes "lemma") then names Lemma
    else if bytes_eq w (codes "builtins") then lists Builtins
    else if bytes_eq w (codes "functions") then lists Functions
    else if bytes_eq w (codes "equations") then lists Equations
    else if bytes_eq w (codes "heuristic") then lists Heuristic
    else neither

-- the traces that a lemma speaks of, where it says so: `all-traces` or `exists-trace`
pub data TraceKind : Type 0 where
  All : TraceKind
  Exists : TraceKind

-- the words before and behind the dash
abbrev pub kind_word : TraceKind → List ℕ
kind_word All = codes "all"
kind_word Exists = codes "exists"

abbrev pub traces_word : TraceKind → List ℕ
traces_word All = codes "traces"
traces_word Exists = codes "trace"
