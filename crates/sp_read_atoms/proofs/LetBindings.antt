-- What `let` binds: how it is read is how the grammar spells it, and each way to get stuck leaves no reading.
use Rattle.std.proofs.Common.{◌≡◌, List, [], ◌∷◌, ◌++◌, Some, codes, sym, ◌∙◌}
use Rattle.sp_spec_text.specs.Signs.{Sign}
use Rattle.sp_spec_text.specs.Signs as s
use Rattle.sp_spec_text.specs.Token.{Lexeme, word}
use Rattle.sp_spec.specs.Formula.{Mark, Written}
use Rattle.sp_spec_text.specs.Names.{mark_at}
use Rattle.sp_spec_text.specs.Bindings.{Binding}
use Rattle.sp_spec_text.specs.Lists.{IsNotFirst, NoReading}
use Rattle.sp_spec_text.specs.Formulas as g
use Rattle.sp_spec_text.specs.Formulas.{SpellsVariable}
use Rattle.sp_spec_text.specs.Theories as t
use Rattle.sp_spec_text.specs.Theories.{SpellsBinding, SpellsBindings}
use Rattle.sp_spec_text.proofs.Words.{in_reserved}
use Rattle.sp_read_parts.specs.Parts.{last_one, one_more}
use Rattle.sp_read_atoms.specs.Atoms.{two_sides}
use Rattle.sp_read_atoms.specs.Lets.{IsBinding, AreBindings}
use Rattle.sp_read_parts.proofs.One.{One, terms, variables', until_one}
use Rattle.sp_read_atoms.proofs.Atomic.{infix_one, infix_at, infix_no_left, infix_no_sign, infix_no_right}
use Rattle.sp_read_parts.proofs.Until.{Until, until_none, until_last, until_more, until_no_part}
use Rattle.sp_read_parts.proofs.Spelled.{variable_spelled, term_spelled}
use Rattle.sp_read_atoms.proofs.Apart.{EndsTerm, GoesTermOn, sign_ends, word_ends, variable_name}
use Rattle.sp_read_atoms.proofs.Taken.{variable_taken, term_taken}

pub ruleset lone_bindings = (infix_at, infix_no_left, infix_no_sign, infix_no_right, variables')

pub bindings' : One IsBinding
bindings' = infix_one variables' terms

-- `in` is no name
in_binds_nothing : {tokens r : List Lexeme} {b : Binding} → IsBinding (word (codes "in") ∷ tokens) b r → ⊥
in_binds_nothing (two_sides h k) = let e = sym in_reserved ∙ variable_name h in cc

-- ---- what is read is spelled so

binding_spelled : {b : Binding} {tokens rest : List Lexeme} → IsBinding tokens b rest → SpellsBinding tokens b rest
binding_spelled (two_sides h k) = t.binding (variable_spelled h) (term_spelled k)

pub bindings_spelled : {bs : List Binding} {tokens rest : List Lexeme} → AreBindings tokens bs rest → SpellsBindings tokens bs rest
bindings_spelled (last_one h) = t.last_binding (binding_spelled h)
bindings_spelled (one_more h k) = t.next_binding (binding_spelled h) (bindings_spelled k)

-- ---- what is spelled is read so: behind a term, `in` or a variable ends it

mark_ends_term : (x : Sign) {m : Mark} → mark_at x ≡ Some m → GoesTermOn x → ⊥
mark_ends_term s.Colon e i = cc
mark_ends_term s.Open e i = cc
mark_ends_term s.OpenBrace e i = cc
mark_ends_term _ e i = i

variable_ends_term : {v : Written} {tokens rest : List Lexeme} → SpellsVariable tokens v rest → EndsTerm tokens
variable_ends_term (g.marked {x = x} {w = w} {rest = r} e h) = sign_ends x (word w ∷ r) (λ i. mark_ends_term x e i)
variable_ends_term (g.unmarked {w = w} {rest = r} h) = word_ends w r
variable_ends_term (g.sorted {w = w} h e) = word_ends w _

binding_ends_term : {b : Binding} {tokens rest : List Lexeme} → SpellsBinding tokens b rest → EndsTerm tokens
binding_ends_term (t.binding h k) = variable_ends_term h

bindings_end_term : {bs : List Binding} {tokens rest : List Lexeme} → SpellsBindings tokens bs rest → EndsTerm tokens
bindings_end_term (t.last_binding h) = binding_ends_term h
bindings_end_term (t.next_binding h k) = binding_ends_term h

binding_taken : {b : Binding} {tokens rest : List Lexeme} → SpellsBinding tokens b rest → EndsTerm rest → IsBinding tokens b rest
binding_taken (t.binding h k) e = two_sides (variable_taken h (λ r d. cc)) (term_taken k e)

pub bindings_taken : {bs : List Binding} {tokens rest : List Lexeme} → SpellsBindings tokens bs rest → AreBindings tokens bs rest
bindings_taken (t.last_binding {rest = r} h) = last_one (binding_taken h (word_ends (codes "in") r))
bindings_taken (t.next_binding h k) = one_more (binding_taken h (bindings_end_term k)) (bindings_taken k)

pub bindings_one : {tokens r q : List Lexeme} {bs cs : List Binding} → SpellsBindings tokens bs r → SpellsBindings tokens cs q → (bs ≡ cs) × (r ≡ q)
bindings_one h k = until_one bindings' (λ ts r b i. in_binds_nothing i) (bindings_taken h) (bindings_taken k)

-- ---- one behind the other

pub lets_none : (tokens : List Lexeme) → Until IsBinding (word (codes "in")) tokens [] tokens
lets_none tokens = until_none IsBinding (word (codes "in")) tokens

pub lets_last : {b : Binding} {found : List Binding} {tokens rest ahead end : List Lexeme} → Until IsBinding (word (codes "in")) tokens found rest → IsBinding rest b ahead → ahead ≡ word (codes "in") ∷ end → SpellsBindings tokens (found ++ b ∷ []) end
lets_last u h e = bindings_spelled (until_last u h e)

pub lets_more : {b : Binding} {found : List Binding} {tokens rest ahead : List Lexeme} → Until IsBinding (word (codes "in")) tokens found rest → IsBinding rest b ahead → IsNotFirst (word (codes "in")) ahead → Until IsBinding (word (codes "in")) tokens (found ++ b ∷ []) ahead
lets_more u h d = until_more bindings' u h d

pub lets_stuck : {found : List Binding} {tokens rest : List Lexeme} → Until IsBinding (word (codes "in")) tokens found rest → NoReading IsBinding rest → NoReading SpellsBindings tokens
lets_stuck u n = let k = until_no_part u n in record { none = λ bs r h. k.none bs r (bindings_taken h) }

pub ruleset binding_lists = (lets_none, lets_last, lets_more, lets_stuck)
