-- What the table says of proofs and theories, the grammar says; and so does what is made of the table.
use Rattle.std.proofs.Common.{◌≡◌, ℕ, true, List, [], ◌∷◌, codes, subst, bytes_eq}
use Rattle.sp_spec_text.specs.Token.{Lexeme, word, solve, block}
use Rattle.sp_spec_text.specs.Names.{IsName}
use Rattle.sp_spec_text.specs.Written.{Method, said, goal}
use Rattle.sp_spec_text.specs.Proofs as p
use Rattle.sp_spec_text.specs.Proofs.{is_method, SpellsMethod, SpellsProof, SpellsMore}
use Rattle.sp_spec_text.specs.Theories as g
use Rattle.sp_await.specs.Keywords.{TraceKind, traces_word}
use Rattle.sp_await.specs.Parts.{Awaited}
use Rattle.sp_await.specs.Parts as a
use Rattle.sp_await.specs.Table.{next, Move, takes, becomes, opens, stuck, or_block, proof_move, behind_move, cases_move, theory_move, below_move}
use Rattle.sp_law_await.specs.Language.{Has, by_token, by_parts, by_quote, HasAll, all_had, and_all}
use Rattle.sp_law_await.proofs.Meaning.{Spelled, one_word}
use Rattle.sp_law_await.proofs.Tokens.{name_is, at_word, solved_named, by_named}
use Rattle.sp_law_await.proofs.Keywords.{method_named}
use Rattle.sp_law_await.proofs.Means.{ItemsOf, TheoryOf, theory_of, BelowOf, below, BelowMethodOf, BehindOf, lone, among, Means, MeansAll, nothing, and_then, Sound, by_if, nothing_is, one_is, by_single}
use Rattle.sp_law_await.proofs.SoundParts.{sound_exactly, sound_name, sound_sort, sound_fact_name, sound_sorted, sound_variable, sound_term, sound_applied, sound_tuple, sound_more_tuple, sound_arguments, sound_more_arguments, sound_fact, sound_opened, sound_annotations, sound_annotation, sound_more_annotations, sound_binders}
use Rattle.sp_law_await.proofs.SoundFormulas.{sound_unit}
use Rattle.sp_law_await.proofs.SoundBehind.{sound_negation, sound_side, sound_order, sound_bare, sound_named, sound_shown, sound_truth, sound_both, sound_closing, sound_more, sound_twice}
use Rattle.sp_law_await.proofs.SoundLists.{sound_listing, sound_more_builtins, sound_function, sound_number, sound_attributes, sound_attribute, sound_more_attributes, sound_more_functions, sound_more_equations}
use Rattle.sp_law_await.proofs.SoundItems.{block_items, sound_items, sound_item, sound_headed, sound_balanced, sound_lemma_attribute, sound_attribute_value, sound_more_lemma_attributes, sound_let, sound_more_bindings, sound_quoted, sound_body, sound_fact_list, sound_facts, sound_more_facts, sound_arrow, sound_kind}
use Rattle.sp_law_await.proofs.SoundWords.{sound_second_word, sound_more_words, sound_either, sound_joined, sound_joined_traces, sound_joined_quote}

-- ---- proofs

pub sound_method : (x : Lexeme) → Sound a.Method x (next a.Method x)
sound_method (word w) = by_single a.Method (word w) (is_method w) (λ e rest. (said w, p.by_word e))
sound_method (solve g) = by_single a.Method (solve g) true (λ e rest. (goal g, p.by_goal))
sound_method _ = tt

behind_one : {x : Method} {tokens mid rest : List Lexeme} → SpellsMethod tokens x mid → BehindOf mid rest → Spelled SpellsProof tokens rest
behind_one h (lone k) = (_, p.method_proof h k)
behind_one h (among k) = (_, p.method_cases h k)

solved_end : {tokens rest : List Lexeme} → tokens ≡ rest → Spelled SpellsProof (word (codes "SOLVED") ∷ tokens) rest
solved_end {tokens} e = subst (λ (r : List Lexeme). Spelled SpellsProof (word (codes "SOLVED") ∷ tokens) r) e (_, p.solved)

by_one : {tokens rest : List Lexeme} → Spelled SpellsMethod tokens rest → Spelled SpellsProof (word (codes "by") ∷ tokens) rest
by_one h = (_, p.by_method h.1)

pub sound_proof : (x : Lexeme) → Sound a.Proof x (proof_move x)
sound_proof (word w) =
    by_if S (bytes_eq w (codes "SOLVED")) (takes []) _ (λ e ts r h. at_word (λ u. Spelled SpellsProof (word u ∷ ts) r) w (codes "SOLVED") e (solved_end (nothing_is h)))
    (λ q. by_if S (bytes_eq w (codes "by")) (takes (a.Method ∷ [])) _ (λ e ts r h. at_word (λ u. Spelled SpellsProof (word u ∷ ts) r) w (codes "by") e (by_one (one_is h)))
    (λ q. by_if S (is_method w) (takes (a.Behind ∷ [])) stuck (λ e ts r h. behind_one (p.by_word e) (one_is h)) (λ e. tt)))
  where
    S : Move → Type 0
    S m = Sound a.Proof (word w) m
sound_proof (solve g) = λ ts r h. behind_one p.by_goal (one_is h)
sound_proof _ = tt

a_case : {tokens rest : List Lexeme} → MeansAll (a.Name ∷ a.Proof ∷ a.Cases ∷ []) tokens rest → BehindOf (word (codes "case") ∷ tokens) rest
a_case (and_then (one_word e) (and_then k (and_then c nothing))) = among (p.case (name_is e) k.1 c.1)

no_case : {tokens rest : List Lexeme} → Spelled SpellsProof tokens rest → BehindOf tokens rest
no_case h = lone h.1

pub sound_behind : (x : Lexeme) → Sound a.Behind x (behind_move x)
sound_behind (word w) =
    by_if (Sound a.Behind (word w)) (bytes_eq w (codes "case")) (takes (a.Name ∷ a.Proof ∷ a.Cases ∷ [])) (becomes (a.Proof ∷ []))
    (λ e ts r h. at_word (λ u. BehindOf (word u ∷ ts) r) w (codes "case") e (a_case h))
    (λ e ts r h. no_case (one_is h))
sound_behind _ = λ ts r h. no_case (one_is h)

last_case : {tokens rest : List Lexeme} → tokens ≡ rest → Spelled SpellsMore (word (codes "qed") ∷ tokens) rest
last_case {tokens} e = subst (λ (r : List Lexeme). Spelled SpellsMore (word (codes "qed") ∷ tokens) r) e (_, p.qed)

case_first : {tokens rest : List Lexeme} → MeansAll (a.Case ∷ a.Name ∷ a.Proof ∷ a.Cases ∷ []) tokens rest → Spelled SpellsMore (word (codes "next") ∷ tokens) rest
case_first {rest = rest} (and_then (one_word {w = w} {rest = ts} d) (and_then (one_word e) (and_then k (and_then c nothing)))) = at_word (λ u. Spelled SpellsMore (word (codes "next") ∷ word u ∷ ts) rest) w (codes "case") d (_, p.next (p.case (name_is e) k.1 c.1))

pub sound_cases : (x : Lexeme) → Sound a.Cases x (cases_move x)
sound_cases (word w) =
    by_if S (bytes_eq w (codes "qed")) (takes []) _ (λ e ts r h. at_word (λ u. Spelled SpellsMore (word u ∷ ts) r) w (codes "qed") e (last_case (nothing_is h)))
    (λ q. by_if S (bytes_eq w (codes "next")) (takes (a.Case ∷ a.Name ∷ a.Proof ∷ a.Cases ∷ [])) stuck (λ e ts r h. at_word (λ u. Spelled SpellsMore (word u ∷ ts) r) w (codes "next") e (case_first h)) (λ e. tt))
  where
    S : Move → Type 0
    S m = Sound a.Cases (word w) m
sound_cases _ = tt

-- ---- behind a lemma

items_below : {tokens rest : List Lexeme} → ItemsOf tokens rest → BelowOf tokens rest
items_below h = below g.no_proof h.1

block_below : {w : List ℕ} {tokens rest : List Lexeme} → IsName w → ItemsOf tokens rest → BelowOf (word w ∷ block ∷ tokens) rest
block_below n i = items_below (block_items n i)

solved_below : {tokens rest : List Lexeme} → ItemsOf tokens rest → BelowOf (word (codes "SOLVED") ∷ tokens) rest
solved_below i = below (g.a_proof p.solved) i.1

by_below : {tokens rest : List Lexeme} → MeansAll (a.Method ∷ a.Items ∷ []) tokens rest → BelowOf (word (codes "by") ∷ tokens) rest
by_below (and_then m (and_then i nothing)) = below (g.a_proof (p.by_method m.1)) i.1

step_below : {x : Lexeme} {m : Method} {tokens rest : List Lexeme} → ((q : List Lexeme) → SpellsMethod (x ∷ q) m q) → MeansAll (a.Behind ∷ a.Items ∷ []) tokens rest → BelowOf (x ∷ tokens) rest
step_below {tokens = ts} h (and_then k (and_then i nothing)) = below (g.a_proof (behind_one (h ts) k).1) i.1

pub sound_below : (x : Lexeme) → Sound a.Below x (below_move x)
sound_below (word w) =
    by_if S (bytes_eq w (codes "SOLVED")) (takes (a.BelowSolved ∷ [])) _ (λ e ts r h. at_word (λ u. BelowOf (word u ∷ ts) r) w (codes "SOLVED") e (one_is h))
    (λ d. by_if S (bytes_eq w (codes "by")) (takes (a.BelowBy ∷ [])) _ (λ e ts r h. at_word (λ u. BelowOf (word u ∷ ts) r) w (codes "by") e (one_is h))
    (λ d. by_if S (is_method w) (takes (a.BelowMethod ∷ [])) _ (λ e ts r h. let b : BelowMethodOf ts r = one_is h in b.at w e)
    (λ d. by_if S (is_method w) (takes (a.Behind ∷ a.Items ∷ [])) (becomes (a.Items ∷ [])) (λ e ts r h. step_below (λ q. p.by_word e) h) (λ e ts r h. items_below (one_is h)))))
  where
    S : Move → Type 0
    S m = Sound a.Below (word w) m
sound_below (solve t) = λ ts r h. step_below (λ q. p.by_goal) h
sound_below _ = λ ts r h. items_below (one_is h)

sound_below_solved : (x : Lexeme) → Sound a.BelowSolved x (or_block (a.Items ∷ []) x)
sound_below_solved block = λ ts r h. block_below solved_named (one_is h)
sound_below_solved _ = λ ts r h. solved_below (one_is h)

sound_below_by : (x : Lexeme) → Sound a.BelowBy x (or_block (a.Method ∷ a.Items ∷ []) x)
sound_below_by block = λ ts r h. block_below by_named (one_is h)
sound_below_by _ = λ ts r h. by_below h

sound_below_method : (x : Lexeme) → Sound a.BelowMethod x (or_block (a.Behind ∷ a.Items ∷ []) x)
sound_below_method block = λ ts r h. record { at = λ w e. block_below (method_named w e) (one_is h) }
sound_below_method _ = λ ts r h. record { at = λ w e. step_below (λ q. p.by_word e) h }

-- ---- theories

a_theory : {tokens rest : List Lexeme} → MeansAll (a.Name ∷ a.Begin ∷ a.Items ∷ []) tokens rest → TheoryOf (word (codes "theory") ∷ tokens) rest
a_theory {rest = rest} (and_then (one_word {w = v} e) (and_then (one_word {w = w} {rest = ts} d) (and_then l nothing))) = at_word (λ u. TheoryOf (word (codes "theory") ∷ word v ∷ word u ∷ ts) rest) w (codes "begin") d (theory_of (name_is e) l.1)

pub sound_theory : (x : Lexeme) → Sound a.Theory x (theory_move x)
sound_theory (word w) = by_if (Sound a.Theory (word w)) (bytes_eq w (codes "theory")) (takes (a.Name ∷ a.Begin ∷ a.Items ∷ [])) stuck (λ e ts r h. at_word (λ u. TheoryOf (word u ∷ ts) r) w (codes "theory") e (a_theory h)) (λ e. tt)
sound_theory _ = tt

-- ---- all

sound_begin : (x : Lexeme) → Sound a.Begin x (next a.Begin x)
sound_begin (word w) = by_single a.Begin (word w) (bytes_eq w (codes "begin")) (λ e rest. one_word e)
sound_begin _ = tt

sound_modulo : (x : Lexeme) → Sound a.Modulo x (next a.Modulo x)
sound_modulo (word w) = by_single a.Modulo (word w) (bytes_eq w (codes "modulo")) (λ e rest. one_word e)
sound_modulo _ = tt

sound_traces : (y : TraceKind) (x : Lexeme) → Sound (a.Traces y) x (next (a.Traces y) x)
sound_traces y (word w) = by_single (a.Traces y) (word w) (bytes_eq w (traces_word y)) (λ e rest. one_word e)
sound_traces y _ = tt

sound_case : (x : Lexeme) → Sound a.Case x (next a.Case x)
sound_case (word w) = by_single a.Case (word w) (bytes_eq w (codes "case")) (λ e rest. one_word e)
sound_case _ = tt

sound : (part : Awaited) (x : Lexeme) → Sound part x (next part x)
sound (a.Exactly y) x = sound_exactly y x
sound a.Name x = sound_name x
sound a.Sort x = sound_sort x
sound a.FactName x = sound_fact_name x
sound a.Sorted x = sound_sorted x
sound a.Variable x = sound_variable x
sound (a.Term n) x = sound_term n x
sound (a.Applied n) x = sound_applied n x
sound (a.Tuple n y) x = sound_tuple n y x
sound (a.MoreTuple n y) x = sound_more_tuple n y x
sound (a.Arguments n) x = sound_arguments n x
sound (a.MoreArguments n) x = sound_more_arguments n x
sound (a.Fact n) x = sound_fact n x
sound (a.Opened n) x = sound_opened n x
sound a.Annotations x = sound_annotations x
sound a.Annotation x = sound_annotation x
sound a.MoreAnnotations x = sound_more_annotations x
sound a.Binders x = sound_binders x
sound (a.Negation n k) x = sound_negation n k x
sound (a.Unit n k) x = sound_unit n k x
sound (a.Side n k) x = sound_side n k x
sound (a.Order n k) x = sound_order n k x
sound (a.Bare n k) x = sound_bare n k x
sound (a.Named n k) x = sound_named n k x
sound (a.Shown n k) x = sound_shown n k x
sound (a.Truth n k) x = sound_truth n k x
sound (a.Both n k) x = sound_both n k x
sound (a.Closing n k) x = sound_closing n k x
sound (a.More n) x = sound_more n x
sound (a.Twice n) x = sound_twice n x
sound a.Quoted x = sound_quoted x
sound a.Theory x = sound_theory x
sound a.Begin x = sound_begin x
sound a.Items x = sound_items x
sound (a.Item k) x = sound_item k x
sound a.Modulo x = sound_modulo x
sound (a.Headed i) x = sound_headed i x
sound (a.Body i) x = sound_body i x
sound a.Balanced x = sound_balanced x
sound a.Let x = sound_let x
sound a.MoreBindings x = sound_more_bindings x
sound a.LemmaAttribute x = sound_lemma_attribute x
sound a.AttributeValue x = sound_attribute_value x
sound a.MoreLemmaAttributes x = sound_more_lemma_attributes x
sound (a.Listing l) x = sound_listing l x
sound a.MoreBuiltins x = sound_more_builtins x
sound a.Function x = sound_function x
sound a.Number x = sound_number x
sound a.Attributes x = sound_attributes x
sound a.Attribute x = sound_attribute x
sound a.MoreAttributes x = sound_more_attributes x
sound a.MoreFunctions x = sound_more_functions x
sound a.MoreEquations x = sound_more_equations x
sound a.SecondWord x = sound_second_word x
sound (a.MoreWords k j) x = sound_more_words k j x
sound (a.Either l i) x = sound_either l i x
sound (a.Joined l y) x = sound_joined l y x
sound (a.JoinedTraces y) x = sound_joined_traces y x
sound a.JoinedQuote x = sound_joined_quote x
sound a.FactList x = sound_fact_list x
sound (a.Facts y) x = sound_facts y x
sound (a.MoreFacts y) x = sound_more_facts y x
sound a.Arrow x = sound_arrow x
sound a.Kind x = sound_kind x
sound (a.Traces y) x = sound_traces y x
sound a.Below x = sound_below x
sound a.BelowSolved x = sound_below_solved x
sound a.BelowBy x = sound_below_by x
sound a.BelowMethod x = sound_below_method x
sound a.Proof x = sound_proof x
sound a.Behind x = sound_behind x
sound a.Case x = sound_case x
sound a.Cases x = sound_cases x
sound a.Method x = sound_method x

sound_at : (part : Awaited) (x : Lexeme) (m : Move) → next part x ≡ m → Sound part x m
sound_at part x m e = subst (λ (o : Move). Sound part x o) e (sound part x)

mutual
  pub has_means : {part : Awaited} {tokens rest : List Lexeme} → Has part tokens rest → Means part tokens rest
  has_means (by_token {part = part} {x = x} {parts = ps} {tokens = ts} {rest = r} e h) = sound_at part x (takes ps) e ts r (all_mean h)
  has_means (by_parts {part = part} {x = x} {parts = ps} {tokens = ts} {rest = r} e h) = sound_at part x (becomes ps) e ts r (all_mean h)
  has_means (by_quote {part = part} {x = x} {parts = ps} {tokens = ts} {rest = r} e h) = sound_at part x (opens ps) e ts r (all_mean h)

  all_mean : {parts : List Awaited} {tokens rest : List Lexeme} → HasAll parts tokens rest → MeansAll parts tokens rest
  all_mean all_had = nothing
  all_mean (and_all h k) = and_then (has_means h) (all_mean k)
