-- Each good list of parts is had by some tokens, none of which is a sign of logic that is longer than a byte.
use Rattle.std.proofs.Common.{◌≡◌, ℕ, zero, suc, ◌+◌, ◌<◌, ◌==◌, lt-ltb, eq-eqb, Bool, true, false, not, ◌&&◌, List, [], ◌∷◌, codes, refl, ap}
use Rattle.sp_spec_text.specs.Signs.{Sign}
use Rattle.sp_spec_text.specs.Signs as s
use Rattle.sp_spec_text.specs.Token.{Lexeme, word, constant, sign, solve, wide, block}
use Rattle.sp_spec_text.specs.Plain.{plain_to_quote}
use Rattle.sp_spec_text.specs.Names.{IsName, is_reserved, names_fact, mark_of, privacy_of, is_annotation}
use Rattle.sp_spec_text.specs.Proofs.{is_method}
use Rattle.sp_spec_text.proofs.Words.{end_reserved}
use Rattle.sp_await.specs.Keywords.{NamedItem, Rule, Restriction, Lemma, ListItem, Builtins, Functions, Equations, Heuristic, TraceKind, All, Exists}
use Rattle.sp_await.specs.Parts.{Awaited}
use Rattle.sp_await.specs.Parts as a
use Rattle.sp_await.specs.Table.{next, takes, deep, code}
use Rattle.sp_await.specs.Stack.{is_closing, closes_first, is_closed, Fits, Good}
use Rattle.sp_law_await.specs.Language.{Has, by_token, by_parts, by_quote, HasAll, all_had, and_all}
use Rattle.sp_law_await.proofs.Had.{one_had}
use Rattle.sp_law_await.proofs.CompleteWords.{either_of_list}

-- ---- signs of logic

abbrev is_wide : Lexeme → Bool
is_wide (wide v) = true
is_wide _ = false

-- no token is such a sign
abbrev pub all_plain : List Lexeme → Bool
all_plain [] = true
all_plain (x ∷ tokens) = not (is_wide x) && all_plain tokens

-- then they are read in a formula as they stand
pub plain_same : (tokens : List Lexeme) → all_plain tokens ≡ true → plain_to_quote tokens ≡ tokens
plain_same [] e = refl
plain_same (wide v ∷ tokens) e = absurd (let none : ⊥ = cc in none)
plain_same (sign s.Quote ∷ tokens) e = refl
plain_same (x ∷ tokens) e = ap (λ (ts : List Lexeme). x ∷ ts) (plain_same tokens e)

-- `)` or `"` stands first
data Quiet : List Lexeme → Type 0 where
  quiet_close : {tokens : List Lexeme} → Quiet (sign s.Close ∷ tokens)
  quiet_quote : {tokens : List Lexeme} → Quiet (sign s.Quote ∷ tokens)

x_named : IsName (codes "x")
unfolding is_reserved
x_named = refl

fact_named : names_fact (codes "A") ≡ true
unfolding is_reserved
fact_named = refl

msg_sort : next a.Sort (word (codes "msg")) ≡ takes []
unfolding mark_of
msg_sort = refl

zero_number : next a.Number (word (codes "0")) ≡ takes []
zero_number = refl

private_attribute : next a.Attribute (word (codes "private")) ≡ takes []
unfolding privacy_of
private_attribute = refl

plus_annotation : next a.Annotation (sign s.Plus) ≡ takes []
unfolding is_annotation
plus_annotation = refl

-- ---- parts that end by themselves

end_name : (rest : List Lexeme) → Has a.Name (word (codes "x") ∷ rest) rest
end_name rest = by_token (rw x_named refl) all_had

end_sort : (rest : List Lexeme) → Has a.Sort (word (codes "msg") ∷ rest) rest
end_sort rest = by_token msg_sort all_had

end_fact_name : (rest : List Lexeme) → Has a.FactName (word (codes "A") ∷ rest) rest
end_fact_name rest = by_token (rw fact_named refl) all_had

end_exactly : (y : Sign) (rest : List Lexeme) → Has (a.Exactly y) (sign y ∷ rest) rest
end_exactly y rest = by_token (rw (eq-eqb (code y) (code y) refl) refl) all_had

-- `[+]`
end_annotations : (rest : List Lexeme) → Has a.Annotations (sign s.OpenList ∷ sign s.Plus ∷ sign s.CloseList ∷ rest) rest
end_annotations rest = by_token refl (and_all {part = a.Annotation} (by_token plus_annotation all_had) (one_had {part = a.MoreAnnotations} (by_token refl all_had)))

-- `()[+]`
end_opened : (n : ℕ) (rest : List Lexeme) → n < 128 → Has (a.Opened n) (sign s.Open ∷ sign s.Close ∷ sign s.OpenList ∷ sign s.Plus ∷ sign s.CloseList ∷ rest) rest
end_opened n rest lt = by_token (rw (lt-ltb n 128 lt) refl) (and_all {part = a.Arguments (n + 1)} (by_token refl all_had) (one_had {part = a.Annotations} (end_annotations rest)))

end_tuple : (n : ℕ) (y : Sign) (rest : List Lexeme) → (code y == code s.Comma) ≡ false → Has (a.MoreTuple n y) (sign y ∷ rest) rest
end_tuple n y rest e = by_token (rw (e, eq-eqb (code y) (code y) refl) refl) all_had

end_attributes : (rest : List Lexeme) → Has a.Attributes (sign s.OpenList ∷ word (codes "private") ∷ sign s.CloseList ∷ rest) rest
end_attributes rest = by_token refl (and_all (by_token private_attribute all_had) (one_had (by_token refl all_had)))

-- `x/0[private]`
end_function : (rest : List Lexeme) → Has a.Function (word (codes "x") ∷ sign s.Slash ∷ word (codes "0") ∷ sign s.OpenList ∷ word (codes "private") ∷ sign s.CloseList ∷ rest) rest
end_function rest = by_token (rw x_named refl) (and_all {part = a.Exactly s.Slash} (by_token refl all_had) (and_all {part = a.Number} (by_token zero_number all_had) (one_had (end_attributes rest))))

end_items : (rest : List Lexeme) → Has a.Items (word (codes "end") ∷ rest) rest
end_items rest = by_token (rw end_reserved refl) all_had

end_more_facts : (y : Sign) (rest : List Lexeme) → (code y == code s.Comma) ≡ false → Has (a.MoreFacts y) (sign y ∷ rest) rest
end_more_facts y rest e = by_token (rw (e, eq-eqb (code y) (code y) refl) refl) all_had

end_facts : (y : Sign) (rest : List Lexeme) → Has (a.Facts y) (sign y ∷ rest) rest
end_facts y rest = by_token (rw (eq-eqb (code y) (code y) refl) refl) all_had

-- ---- parts of formulas

end_more : (n : ℕ) {rest : List Lexeme} → Quiet rest → Has (a.More n) rest rest
end_more n quiet_close = by_parts refl all_had
end_more n quiet_quote = by_parts refl all_had

end_twice : (n : ℕ) {rest : List Lexeme} → Quiet rest → Has (a.Twice n) rest rest
end_twice n quiet_close = by_parts refl all_had
end_twice n quiet_quote = by_parts refl all_had

closed_by : ℕ → List Lexeme → List Lexeme
closed_by zero rest = rest
closed_by (suc k) rest = sign s.Close ∷ closed_by k rest

closed_plain : (k : ℕ) (rest : List Lexeme) → all_plain rest ≡ true → all_plain (closed_by k rest) ≡ true
unfolding closed_by
closed_plain zero rest e = e
closed_plain (suc k) rest e = closed_plain k rest e

closed_quiet : (k : ℕ) {rest : List Lexeme} → Quiet rest → Quiet (closed_by k rest)
unfolding closed_by
closed_quiet zero q = q
closed_quiet (suc k) q = quiet_close

closing_zero : (n : ℕ) {rest : List Lexeme} → Quiet rest → Has (a.Closing n zero) rest rest
closing_zero n quiet_close = by_parts refl all_had
closing_zero n quiet_quote = by_parts refl all_had

end_closing : (n k : ℕ) {rest : List Lexeme} → Quiet rest → Has (a.Closing n k) (closed_by k rest) rest
unfolding closed_by
end_closing n zero q = closing_zero n q
end_closing n (suc k) q = by_parts refl (and_all (end_more (deep n k + 1) quiet_close) (and_all (end_twice (deep n k + 1) quiet_close) (and_all (by_token refl all_had) (one_had (end_closing n k q)))))

-- `= ''`, and the brackets
sided : ℕ → List Lexeme → List Lexeme
sided k rest = sign s.Equals ∷ constant [] ∷ closed_by k rest

sided_plain : (k : ℕ) (rest : List Lexeme) → all_plain rest ≡ true → all_plain (sided k rest) ≡ true
unfolding sided
sided_plain k rest e = closed_plain k rest e

end_side : (n k : ℕ) {rest : List Lexeme} → Quiet rest → Has (a.Side n k) (sided k rest) rest
unfolding sided
end_side n k q = by_token refl (and_all {part = a.Term (deep n k)} (by_token refl all_had) (one_had {part = a.Closing n k} (end_closing n k q)))

end_order : (n k : ℕ) {rest : List Lexeme} → Quiet rest → Has (a.Order n k) (sided k rest) rest
unfolding sided
end_order n k q = by_parts refl (one_had {part = a.Side n k} (end_side n k q))

end_bare : (n k : ℕ) {rest : List Lexeme} → Quiet rest → Has (a.Bare n k) (sided k rest) rest
unfolding sided
end_bare n k q = by_parts refl (one_had {part = a.Order n k} (end_order n k q))

end_named : (n k : ℕ) {rest : List Lexeme} → Quiet rest → Has (a.Named n k) (sided k rest) rest
unfolding sided
end_named n k q = by_parts refl (one_had {part = a.Bare n k} (end_bare n k q))

end_shown : (n k : ℕ) {rest : List Lexeme} → Quiet rest → Has (a.Shown n k) (sided k rest) rest
unfolding sided
end_shown n k q = by_parts refl (one_had {part = a.Side n k} (end_side n k q))

end_both : (n k : ℕ) {rest : List Lexeme} → Quiet rest → Has (a.Both n k) (sided k rest) rest
unfolding sided
end_both n k q = by_parts refl (one_had {part = a.Side n k} (end_side n k q))

end_truth : (n k : ℕ) {rest : List Lexeme} → Quiet rest → Has (a.Truth n k) (sided k rest) rest
unfolding sided
end_truth n k q = by_parts refl (one_had {part = a.Both n k} (end_both n k q))

end_unit : (n k : ℕ) {rest : List Lexeme} → Quiet rest → Has (a.Unit n k) (constant [] ∷ sided k rest) rest
end_unit n k q = by_token refl (one_had {part = a.Side n k} (end_side n k q))

end_negation : (n k : ℕ) {rest : List Lexeme} → Quiet rest → Has (a.Negation n k) (constant [] ∷ sided k rest) rest
end_negation n k q = by_parts refl (one_had {part = a.Unit n k} (end_unit n k q))

-- `'' = ''"`
end_quoted : (rest : List Lexeme) → Has a.Quoted (constant [] ∷ sign s.Equals ∷ constant [] ∷ sign s.Quote ∷ rest) rest
unfolding sided closed_by
end_quoted rest = by_quote refl (and_all {part = a.Negation 0 0} (end_negation 0 0 quiet_quote) (and_all {part = a.More 0} (end_more 0 quiet_quote) (and_all {part = a.Twice 0} (end_twice 0 quiet_quote) (one_had {part = a.Exactly s.Quote} (by_token refl all_had)))))

-- ---- items

more_builtins_end : (rest : List Lexeme) → Has a.MoreBuiltins (word (codes "end") ∷ rest) rest
more_builtins_end rest = by_parts refl (one_had {part = a.Items} (end_items rest))

more_functions_end : (rest : List Lexeme) → Has a.MoreFunctions (word (codes "end") ∷ rest) rest
more_functions_end rest = by_parts refl (one_had {part = a.Items} (end_items rest))

more_equations_end : (rest : List Lexeme) → Has a.MoreEquations (word (codes "end") ∷ rest) rest
more_equations_end rest = by_parts refl (one_had {part = a.Items} (end_items rest))

second_word_end : (rest : List Lexeme) → Has a.SecondWord (word (codes "end") ∷ rest) rest
second_word_end rest = by_token (rw end_reserved refl) all_had

below_end : (rest : List Lexeme) → Has a.Below (word (codes "end") ∷ rest) rest
unfolding is_method
below_end rest = by_parts refl (one_had {part = a.Items} (end_items rest))

-- tokens that have the part, none of them a sign of logic
record Ends (part : Awaited) (rest : List Lexeme) : Type 0 where
  tokens : List Lexeme
  had : Has part tokens rest
  plain : all_plain rest ≡ true → all_plain tokens ≡ true

end_listing : (l : ListItem) (rest : List Lexeme) → Ends (a.Listing l) rest
end_listing Builtins rest = record { tokens = word (codes "x") ∷ word (codes "end") ∷ rest; had = by_parts refl (and_all {part = a.Name} (end_name (word (codes "end") ∷ rest)) (one_had {part = a.MoreBuiltins} (more_builtins_end rest))); plain = λ e. e }
end_listing Functions rest = record {
  tokens = word (codes "x") ∷ sign s.Slash ∷ word (codes "0") ∷ sign s.OpenList ∷ word (codes "private") ∷ sign s.CloseList ∷ word (codes "end") ∷ rest;
  had = by_parts refl (and_all {part = a.Function} (end_function (word (codes "end") ∷ rest)) (one_had {part = a.MoreFunctions} (more_functions_end rest)));
  plain = λ e. e;
}
end_listing Equations rest = record {
  tokens = constant [] ∷ sign s.Equals ∷ constant [] ∷ word (codes "end") ∷ rest;
  had = by_parts refl (and_all {part = a.Term 0} (by_token refl all_had) (and_all {part = a.Exactly s.Equals} (by_token refl all_had) (and_all {part = a.Term 0} (by_token refl all_had) (one_had {part = a.MoreEquations} (more_equations_end rest)))));
  plain = λ e. e;
}
end_listing Heuristic rest = record { tokens = word (codes "x") ∷ word (codes "end") ∷ rest; had = by_parts refl (and_all {part = a.Name} (end_name (word (codes "end") ∷ rest)) (one_had {part = a.SecondWord} (second_word_end rest))); plain = λ e. e }

end_either : (l : ListItem) (i : NamedItem) (rest : List Lexeme) → Ends (a.Either l i) rest
end_either l i rest = let e = end_listing l rest in record { tokens = e.tokens; had = either_of_list l i e.tokens e.had; plain = e.plain }

end_joined : (l : ListItem) (y : TraceKind) (rest : List Lexeme) → Ends (a.Joined l y) rest
end_joined Builtins y rest = record { tokens = word (codes "end") ∷ rest; had = by_parts refl (one_had {part = a.MoreBuiltins} (more_builtins_end rest)); plain = λ e. e }
end_joined Functions y rest = record {
  tokens = sign s.Slash ∷ word (codes "0") ∷ sign s.OpenList ∷ word (codes "private") ∷ sign s.CloseList ∷ word (codes "end") ∷ rest;
  had = by_parts refl (and_all {part = a.Exactly s.Slash} (by_token refl all_had) (and_all {part = a.Number} (by_token zero_number all_had) (and_all {part = a.Attributes} (end_attributes (word (codes "end") ∷ rest)) (one_had {part = a.MoreFunctions} (more_functions_end rest)))));
  plain = λ e. e;
}
end_joined Equations y rest = record {
  tokens = sign s.Equals ∷ constant [] ∷ word (codes "end") ∷ rest;
  had = by_parts refl (and_all {part = a.Applied 0} (by_parts refl (one_had {part = a.Sorted} (by_parts refl all_had))) (and_all {part = a.Exactly s.Equals} (by_token refl all_had) (and_all {part = a.Term 0} (by_token refl all_had) (one_had {part = a.MoreEquations} (more_equations_end rest)))));
  plain = λ e. e;
}
end_joined Heuristic y rest = record { tokens = word (codes "end") ∷ rest; had = by_parts refl (one_had {part = a.SecondWord} (second_word_end rest)); plain = λ e. e }

end_joined_traces : (y : TraceKind) (rest : List Lexeme) → Has (a.JoinedTraces y) (word (codes "x") ∷ word (codes "end") ∷ rest) rest
end_joined_traces All rest = by_parts refl (and_all {part = a.Name} (end_name (word (codes "end") ∷ rest)) (one_had {part = a.MoreBuiltins} (more_builtins_end rest)))
end_joined_traces Exists rest = by_parts refl (and_all {part = a.Name} (end_name (word (codes "end") ∷ rest)) (one_had {part = a.MoreBuiltins} (more_builtins_end rest)))

fact_list_end : (rest : List Lexeme) → Has a.FactList (sign s.OpenList ∷ sign s.CloseList ∷ rest) rest
fact_list_end rest = by_token refl (one_had {part = a.Facts s.CloseList} (end_facts s.CloseList rest))

-- `[] --> [] end`, `"'' = ''" end`
body_tokens : NamedItem → List Lexeme → List Lexeme
body_tokens Rule rest = sign s.OpenList ∷ sign s.CloseList ∷ sign s.Arrow ∷ sign s.OpenList ∷ sign s.CloseList ∷ word (codes "end") ∷ rest
body_tokens Restriction rest = sign s.Quote ∷ constant [] ∷ sign s.Equals ∷ constant [] ∷ sign s.Quote ∷ word (codes "end") ∷ rest
body_tokens Lemma rest = sign s.Quote ∷ constant [] ∷ sign s.Equals ∷ constant [] ∷ sign s.Quote ∷ word (codes "end") ∷ rest

body_plain : (i : NamedItem) (rest : List Lexeme) → all_plain rest ≡ true → all_plain (body_tokens i rest) ≡ true
unfolding body_tokens
body_plain Rule rest e = e
body_plain Restriction rest e = e
body_plain Lemma rest e = e

end_body : (i : NamedItem) (rest : List Lexeme) → Has (a.Body i) (body_tokens i rest) rest
unfolding body_tokens
end_body Rule rest =
    by_parts refl (and_all {part = a.Let} (by_parts refl all_had) (and_all {part = a.FactList} (fact_list_end (sign s.Arrow ∷ sign s.OpenList ∷ sign s.CloseList ∷ word (codes "end") ∷ rest))
    (and_all {part = a.Arrow} (by_token refl all_had) (and_all {part = a.FactList} (fact_list_end (word (codes "end") ∷ rest)) (one_had {part = a.Items} (end_items rest))))))
end_body Restriction rest = by_parts refl (and_all {part = a.Exactly s.Quote} (by_token refl all_had) (and_all {part = a.Quoted} (end_quoted (word (codes "end") ∷ rest)) (one_had {part = a.Items} (end_items rest))))
end_body Lemma rest = by_parts refl (and_all {part = a.Kind} (by_token refl all_had) (and_all {part = a.Quoted} (end_quoted (word (codes "end") ∷ rest)) (one_had {part = a.Below} (below_end rest))))

-- `let ~x = '' in`
end_let : (rest : List Lexeme) → Has a.Let (word (codes "let") ∷ sign s.Tilde ∷ word (codes "x") ∷ sign s.Equals ∷ constant [] ∷ word (codes "in") ∷ rest) rest
end_let rest =
    by_token refl (and_all {part = a.Variable} (by_token refl (one_had {part = a.Name} (end_name (sign s.Equals ∷ constant [] ∷ word (codes "in") ∷ rest)))) (and_all {part = a.Exactly s.Equals} (by_token refl all_had)
    (and_all {part = a.Term 0} (by_token refl all_had) (one_had {part = a.MoreBindings} (by_token refl all_had)))))

-- ---- all

-- tokens that have the part, what they begin with, and that none is a sign of logic
record Finished (part : Awaited) (b : Bool) (rest : List Lexeme) : Type 0 where
  tokens : List Lexeme
  had : Has part tokens rest
  quiet : closes_first part b ≡ true → Quiet tokens
  plain : all_plain rest ≡ true → all_plain tokens ≡ true

never : {A : Type 0} → false ≡ true → A
never e = absurd (let none : ⊥ = cc in none)

-- a part that closes no formula
finished_as : {part : Awaited} {b : Bool} {tokens rest : List Lexeme} → closes_first part b ≡ false → Has part tokens rest → (all_plain rest ≡ true → all_plain tokens ≡ true) → Finished part b rest
finished_as {tokens = ts} e h p = record { tokens = ts; had = h; quiet = λ d. absurd (let none : ⊥ = cc in none); plain = p }

finished_so : {part : Awaited} {b : Bool} {rest : List Lexeme} → closes_first part b ≡ false → Ends part rest → Finished part b rest
finished_so e h = finished_as e h.had h.plain

quiet_sign : (y : Sign) {rest : List Lexeme} → is_closing y ≡ true → Quiet (sign y ∷ rest)
quiet_sign s.Close e = quiet_close
quiet_sign s.Quote e = quiet_quote
quiet_sign _ e = never e

end_theory : (rest : List Lexeme) → Has a.Theory (word (codes "theory") ∷ word (codes "x") ∷ word (codes "begin") ∷ word (codes "end") ∷ rest) rest
end_theory rest = by_token refl (and_all (end_name (word (codes "begin") ∷ word (codes "end") ∷ rest)) (and_all (by_token refl all_had) (one_had (end_items rest))))

finish : (part : Awaited) (b : Bool) → Fits part b → (rest : List Lexeme) → (b ≡ true → Quiet rest) → Finished part b rest
finish (a.Exactly y) b f rest q = record { tokens = sign y ∷ rest; had = end_exactly y rest; quiet = λ e. quiet_sign y e; plain = λ e. e }
finish a.Name b f rest q = finished_as refl (end_name rest) (λ e. e)
finish a.Sort b f rest q = finished_as refl (end_sort rest) (λ e. e)
finish a.FactName b f rest q = finished_as refl (end_fact_name rest) (λ e. e)
finish a.Sorted b f rest q = finished_as {tokens = sign s.Colon ∷ word (codes "msg") ∷ rest} refl (by_token refl (one_had (end_sort rest))) (λ e. e)
finish a.Variable b f rest q = finished_as {tokens = sign s.Tilde ∷ word (codes "x") ∷ rest} refl (by_token refl (one_had (end_name rest))) (λ e. e)
finish (a.Term n) b f rest q = finished_as {tokens = constant [] ∷ rest} refl (by_token refl all_had) (λ e. e)
finish (a.Applied n) b f rest q = finished_as {tokens = sign s.Colon ∷ word (codes "msg") ∷ rest} refl (by_parts refl (one_had {part = a.Sorted} (by_token refl (one_had (end_sort rest))))) (λ e. e)
finish (a.Tuple n y) b f rest q = finished_as {tokens = constant [] ∷ sign y ∷ rest} refl (by_parts refl (and_all {part = a.Term n} (by_token refl all_had) (one_had (end_tuple n y rest f.1)))) (λ e. e)
finish (a.MoreTuple n y) b f rest q = finished_as refl (end_tuple n y rest f.1) (λ e. e)
finish (a.Arguments n) b f rest q = finished_as {tokens = sign s.Close ∷ rest} refl (by_token refl all_had) (λ e. e)
finish (a.MoreArguments n) b f rest q = finished_as {tokens = sign s.Close ∷ rest} refl (by_token refl all_had) (λ e. e)
finish (a.Fact n) b f rest q = finished_as {tokens = sign s.Bang ∷ word (codes "A") ∷ sign s.Open ∷ sign s.Close ∷ sign s.OpenList ∷ sign s.Plus ∷ sign s.CloseList ∷ rest} refl (by_token refl (and_all {part = a.FactName} (end_fact_name (sign s.Open ∷ sign s.Close ∷ sign s.OpenList ∷ sign s.Plus ∷ sign s.CloseList ∷ rest)) (one_had {part = a.Opened n} (end_opened n rest f)))) (λ e. e)
finish (a.Opened n) b f rest q = finished_as refl (end_opened n rest f) (λ e. e)
finish a.Annotations b f rest q = finished_as refl (end_annotations rest) (λ e. e)
finish a.Annotation b f rest q = finished_as {tokens = sign s.Plus ∷ rest} refl (by_token plus_annotation all_had) (λ e. e)
finish a.MoreAnnotations b f rest q = finished_as {tokens = sign s.CloseList ∷ rest} refl (by_token refl all_had) (λ e. e)
finish a.Binders b f rest q = finished_as {tokens = sign s.Dot ∷ rest} refl (by_token refl all_had) (λ e. e)
finish (a.Negation n k) b f rest q = finished_as refl (end_negation n k (q f.1)) (λ e. sided_plain k rest e)
finish (a.Unit n k) b f rest q = finished_as refl (end_unit n k (q f.1)) (λ e. sided_plain k rest e)
finish (a.Side n k) b f rest q = finished_as refl (end_side n k (q f.1)) (λ e. sided_plain k rest e)
finish (a.Order n k) b f rest q = finished_as refl (end_order n k (q f.1)) (λ e. sided_plain k rest e)
finish (a.Bare n k) b f rest q = finished_as refl (end_bare n k (q f.1)) (λ e. sided_plain k rest e)
finish (a.Named n k) b f rest q = finished_as refl (end_named n k (q f.1)) (λ e. sided_plain k rest e)
finish (a.Shown n k) b f rest q = finished_as refl (end_shown n k (q f.1)) (λ e. sided_plain k rest e)
finish (a.Truth n k) b f rest q = finished_as refl (end_truth n k (q f.1)) (λ e. sided_plain k rest e)
finish (a.Both n k) b f rest q = finished_as refl (end_both n k (q f.1)) (λ e. sided_plain k rest e)
finish (a.Closing n k) b f rest q = record { tokens = closed_by k rest; had = end_closing n k (q f.1); quiet = λ e. closed_quiet k (q f.1); plain = λ e. closed_plain k rest e }
finish (a.More n) b f rest q = record { tokens = rest; had = end_more n (q f.1); quiet = q; plain = λ e. e }
finish (a.Twice n) b f rest q = record { tokens = rest; had = end_twice n (q f.1); quiet = q; plain = λ e. e }
finish a.Quoted b f rest q = finished_as refl (end_quoted rest) (λ e. e)
finish a.Theory b f rest q = finished_as refl (end_theory rest) (λ e. e)
finish a.Begin b f rest q = finished_as {tokens = word (codes "begin") ∷ rest} refl (by_token refl all_had) (λ e. e)
finish a.Items b f rest q = finished_as refl (end_items rest) (λ e. e)
finish (a.Item k) b f rest q = finished_as {tokens = block ∷ word (codes "end") ∷ rest} refl (by_token refl (one_had {part = a.Items} (end_items rest))) (λ e. e)
finish a.Modulo b f rest q = finished_as {tokens = word (codes "modulo") ∷ rest} refl (by_token refl all_had) (λ e. e)
finish (a.Headed i) b f rest q = finished_as {tokens = sign s.Colon ∷ body_tokens i rest} refl (by_token refl (one_had {part = a.Body i} (end_body i rest))) (λ e. body_plain i rest e)
finish (a.Body i) b f rest q = finished_as refl (end_body i rest) (λ e. body_plain i rest e)
finish a.Balanced b f rest q = finished_as {tokens = sign s.CloseList ∷ rest} refl (by_token refl all_had) (λ e. e)
finish a.Let b f rest q = finished_as refl (end_let rest) (λ e. e)
finish a.MoreBindings b f rest q = finished_as {tokens = word (codes "in") ∷ rest} refl (by_token refl all_had) (λ e. e)
finish a.LemmaAttribute b f rest q = finished_as {tokens = word (codes "x") ∷ rest} refl (by_token (rw x_named refl) all_had) (λ e. e)
finish a.AttributeValue b f rest q = finished_as {tokens = sign s.Equals ∷ word (codes "x") ∷ rest} refl (by_token refl (one_had {part = a.Name} (end_name rest))) (λ e. e)
finish a.MoreLemmaAttributes b f rest q = finished_as {tokens = sign s.CloseList ∷ rest} refl (by_token refl all_had) (λ e. e)
finish (a.Listing l) b f rest q = finished_so refl (end_listing l rest)
finish a.MoreBuiltins b f rest q = finished_as refl (more_builtins_end rest) (λ e. e)
finish a.Function b f rest q = finished_as refl (end_function rest) (λ e. e)
finish a.Number b f rest q = finished_as {tokens = word (codes "0") ∷ rest} refl (by_token zero_number all_had) (λ e. e)
finish a.Attributes b f rest q = finished_as refl (end_attributes rest) (λ e. e)
finish a.Attribute b f rest q = finished_as {tokens = word (codes "private") ∷ rest} refl (by_token private_attribute all_had) (λ e. e)
finish a.MoreAttributes b f rest q = finished_as {tokens = sign s.CloseList ∷ rest} refl (by_token refl all_had) (λ e. e)
finish a.MoreFunctions b f rest q = finished_as refl (more_functions_end rest) (λ e. e)
finish a.MoreEquations b f rest q = finished_as refl (more_equations_end rest) (λ e. e)
finish a.SecondWord b f rest q = finished_as refl (second_word_end rest) (λ e. e)
finish (a.MoreWords k j) b f rest q = finished_as {tokens = word (codes "end") ∷ rest} refl (by_token (rw end_reserved refl) all_had) (λ e. e)
finish (a.Either l i) b f rest q = finished_so refl (end_either l i rest)
finish (a.Joined l y) b f rest q = finished_so refl (end_joined l y rest)
finish (a.JoinedTraces y) b f rest q = finished_as refl (end_joined_traces y rest) (λ e. e)
finish a.JoinedQuote b f rest q = finished_as {tokens = word (codes "end") ∷ rest} refl (by_parts refl (one_had {part = a.MoreBuiltins} (more_builtins_end rest))) (λ e. e)
finish a.FactList b f rest q = finished_as refl (fact_list_end rest) (λ e. e)
finish (a.Facts y) b f rest q = finished_as refl (end_facts y rest) (λ e. e)
finish (a.MoreFacts y) b f rest q = finished_as refl (end_more_facts y rest f) (λ e. e)
finish a.Arrow b f rest q = finished_as {tokens = sign s.Arrow ∷ rest} refl (by_token refl all_had) (λ e. e)
finish a.Kind b f rest q = finished_as {tokens = sign s.Quote ∷ rest} refl (by_token refl all_had) (λ e. e)
finish (a.Traces All) b f rest q = finished_as {tokens = word (codes "traces") ∷ rest} refl (by_token refl all_had) (λ e. e)
finish (a.Traces Exists) b f rest q = finished_as {tokens = word (codes "trace") ∷ rest} refl (by_token refl all_had) (λ e. e)
finish a.Below b f rest q = finished_as refl (below_end rest) (λ e. e)
finish a.BelowSolved b f rest q = finished_as {tokens = block ∷ word (codes "end") ∷ rest} refl (by_token refl (one_had {part = a.Items} (end_items rest))) (λ e. e)
finish a.BelowBy b f rest q = finished_as {tokens = block ∷ word (codes "end") ∷ rest} refl (by_token refl (one_had {part = a.Items} (end_items rest))) (λ e. e)
finish a.BelowMethod b f rest q = finished_as {tokens = block ∷ word (codes "end") ∷ rest} refl (by_token refl (one_had {part = a.Items} (end_items rest))) (λ e. e)
finish a.Proof b f rest q = finished_as {tokens = word (codes "SOLVED") ∷ rest} refl (by_token refl all_had) (λ e. e)
finish a.Behind b f rest q = finished_as {tokens = word (codes "SOLVED") ∷ rest} refl (by_parts refl (one_had {part = a.Proof} (by_token refl all_had))) (λ e. e)
finish a.Case b f rest q = finished_as {tokens = word (codes "case") ∷ rest} refl (by_token refl all_had) (λ e. e)
finish a.Cases b f rest q = finished_as {tokens = word (codes "qed") ∷ rest} refl (by_token refl all_had) (λ e. e)
finish a.Method b f rest q = finished_as {tokens = solve [] ∷ rest} refl (by_token refl all_had) (λ e. e)

record Lives (parts : List Awaited) : Type 0 where
  tokens : List Lexeme
  had : HasAll parts tokens []
  quiet : is_closed parts ≡ true → Quiet tokens
  plain : all_plain tokens ≡ true

lives : (parts : List Awaited) → Good parts → Lives parts
lives [] g = record { tokens = []; had = all_had; quiet = λ e. never e; plain = refl }
lives (part ∷ parts) g =
    let l = lives parts g.1 in
    let f = finish part (is_closed parts) g.0 l.tokens l.quiet in
    record { tokens = f.tokens; had = and_all f.had l.had; quiet = f.quiet; plain = f.plain l.plain }

-- what a good list of parts is had by, and that it is so read in a formula, too
pub record GoodEnd (parts : List Awaited) : Type 0 where
  pub tokens : List Lexeme
  pub had : HasAll parts tokens []
  pub plain : plain_to_quote tokens ≡ tokens

pub good_lives : (parts : List Awaited) → Good parts → GoodEnd parts
good_lives parts g = let l = lives parts g in record { tokens = l.tokens; had = l.had; plain = plain_same l.tokens l.plain }
