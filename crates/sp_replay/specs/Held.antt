-- What the code writes of restrictions and lemmas that are kept by their guarded forms.
use Rattle.std.specs.Prelude.{ℕ, Bool, List, [], ◌∷◌, ◌++◌, codes}
use Rattle.sp_spec.specs.Execution.{Trace}
use Rattle.sp_spec.specs.Guarded.{Guarded}
use Rattle.sp_law_decide.specs.Deciding.{empty, decided}
use Rattle.sp_pose.specs.Asked.{Asked}
use Rattle.sp_pose.specs.Required.{Required}
use Rattle.sp_spec_printed.specs.Kind.{kind_text}
use Rattle.sp_replay.specs.Replay.{met_text, said_of}

-- whether the guarded form is true over the trace
abbrev pub held : Trace → Guarded → Bool
held trace form = decided trace empty form

abbrev pub required_line : Trace → Required → List ℕ
required_line trace q = q.name ++ (codes " (restriction): " ++ met_text (held trace q.form))

abbrev pub required_lines : Trace → List Required → List ℕ
required_lines trace [] = []
required_lines trace (q ∷ qs) = required_line trace q ++ required_lines trace qs

-- what is said of a lemma
abbrev pub held_text : Trace → Asked → List ℕ
held_text trace a = said_of a.marked (held trace a.form)

abbrev pub held_line : Trace → Asked → List ℕ
held_line trace a = a.name ++ (codes " (" ++ (kind_text a.kind ++ (codes "): " ++ held_text trace a)))

abbrev pub held_lines : Trace → List Asked → List ℕ
held_lines trace [] = []
held_lines trace (a ∷ as') = held_line trace a ++ held_lines trace as'
