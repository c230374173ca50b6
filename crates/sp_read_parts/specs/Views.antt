-- What the code's values stand for.
use Rattle.std.specs.Prelude.{ℕ, List, map, drop}
use Rattle.sp_lex.specs.declared.token.Token as lexer
use Rattle.sp_spec_text.specs.Token.{Lexeme}
use Rattle.sp_spec_text.specs.Lex.{lexemes}
use Rattle.sp_lex.specs.Views.{tokens_of}
use Rattle.sp_spec.specs.Term.{Fresh, Pub, Msg}
use Rattle.sp_spec.specs.Term as t
use Rattle.sp_spec.specs.Rule as facts
use Rattle.sp_spec.specs.Formula as f
use Rattle.sp_spec.specs.Formula.{Written}
use Rattle.sp_spec.specs.Written as spec
use Rattle.sp_spec_text.specs.Shapes.{written}
use Rattle.sp_spec_text.specs.Bindings.{Binding}
use Rattle.sp_term.specs.View.{view_by, view_all_by}
use Rattle.sp_term.specs.declared.term.Term.{Term}
use Rattle.sp_fact.specs.View.{fact_by, action_by, facts_by}
use Rattle.sp_fact.specs.declared.fact.Fact.{Fact}
use Rattle.sp_fact.specs.declared.fact.Action.{Action}
use Rattle.sp_read_parts.specs.declared.written.Mark.{Mark}
use Rattle.sp_read_parts.specs.declared.written.Mark.TheVariants as m
use Rattle.sp_read_parts.specs.declared.written.WrittenVariable.{WrittenVariable}
use Rattle.sp_read_parts.specs.declared.written.WrittenRule.{WrittenRule}
use Rattle.sp_read_parts.specs.declared.written.WrittenBinding.{WrittenBinding}

-- the tokens as they read
abbrev pub seen : List lexer.Token → List Lexeme
seen tokens = lexemes (tokens_of tokens)

-- those from this place on
abbrev pub seen_from : List lexer.Token → ℕ → List Lexeme
seen_from tokens place = seen (drop place tokens)

abbrev pub mark : Mark → f.Mark
mark m.Bare = f.bare
mark m.Fresh = f.of_sort Fresh
mark m.Public = f.of_sort Pub
mark m.Message = f.of_sort Msg
mark m.Time = f.of_time

abbrev pub variable : WrittenVariable → Written
variable x = written x.name.now (mark x.mark)

abbrev pub term : Term WrittenVariable → t.Term Written
term x = view_by variable x

abbrev pub terms : List (Term WrittenVariable) → t.Terms Written
terms xs = view_all_by variable xs

abbrev pub fact_of : Fact WrittenVariable → facts.Fact Written
fact_of f = fact_by variable f

abbrev pub facts_of : List (Fact WrittenVariable) → List (facts.Fact Written)
facts_of fs = map fact_of fs

abbrev pub action_of : Action WrittenVariable → facts.Action Written
action_of a = action_by variable a

abbrev pub binding : WrittenBinding → Binding
binding b = record { variable = variable b.variable; value = term b.value }

abbrev pub bindings : List WrittenBinding → List Binding
bindings bs = map binding bs

abbrev pub rule : WrittenRule → spec.WrittenRule
rule r = record { name = r.name.now; facts = facts_by variable r.facts }

abbrev pub rules : List WrittenRule → List spec.WrittenRule
rules rs = map rule rs
