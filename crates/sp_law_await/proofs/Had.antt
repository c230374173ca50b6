-- A part that is had is had by the move of the table.
use Rattle.std.proofs.Common.{◌≡◌, List, [], ◌∷◌, ◌++◌, refl, subst}
use Rattle.sp_spec_text.specs.Token.{Lexeme}
use Rattle.sp_spec_text.specs.Plain.{plain_to_quote}
use Rattle.sp_await.specs.Parts.{Awaited}
use Rattle.sp_await.specs.Table.{next, takes, becomes, opens, stuck}
use Rattle.sp_law_await.specs.Language.{Has, by_token, by_parts, by_quote, HasAll, all_had, and_all}

pub taken : (part : Awaited) (x : Lexeme) {parts : List Awaited} {tokens rest : List Lexeme} → next part x ≡ takes parts → Has part (x ∷ tokens) rest → HasAll parts tokens rest
taken part x {parts} {tokens} {rest} d (by_token {parts = ps} e h) = let i : ps ≡ parts = cc in subst (λ (qs : List Awaited). HasAll qs tokens rest) i h
taken part x d (by_parts e h) = absurd (let none : ⊥ = cc in none)
taken part x d (by_quote e h) = absurd (let none : ⊥ = cc in none)

pub become : (part : Awaited) (x : Lexeme) {parts : List Awaited} {tokens rest : List Lexeme} → next part x ≡ becomes parts → Has part (x ∷ tokens) rest → HasAll parts (x ∷ tokens) rest
become part x d (by_token e h) = absurd (let none : ⊥ = cc in none)
become part x {parts} {tokens} {rest} d (by_parts {parts = ps} e h) = let i : ps ≡ parts = cc in subst (λ (qs : List Awaited). HasAll qs (x ∷ tokens) rest) i h
become part x d (by_quote e h) = absurd (let none : ⊥ = cc in none)

pub open_had : (part : Awaited) (x : Lexeme) {parts : List Awaited} {tokens rest : List Lexeme} → next part x ≡ opens parts → Has part (x ∷ tokens) rest → HasAll parts (plain_to_quote (x ∷ tokens)) rest
open_had part x d (by_token e h) = absurd (let none : ⊥ = cc in none)
open_had part x d (by_parts e h) = absurd (let none : ⊥ = cc in none)
open_had part x {parts} {tokens} {rest} d (by_quote {parts = ps} e h) = let i : ps ≡ parts = cc in subst (λ (qs : List Awaited). HasAll qs (plain_to_quote (x ∷ tokens)) rest) i h

pub no_move : (part : Awaited) (x : Lexeme) {tokens rest : List Lexeme} → next part x ≡ stuck → Has part (x ∷ tokens) rest → ⊥
no_move part x d (by_token e h) = let none : ⊥ = cc in none
no_move part x d (by_parts e h) = let none : ⊥ = cc in none
no_move part x d (by_quote e h) = let none : ⊥ = cc in none

pub none_left : {tokens rest : List Lexeme} → HasAll [] tokens rest → tokens ≡ rest
none_left all_had = refl

pub one_of : {part : Awaited} {tokens rest : List Lexeme} → HasAll (part ∷ []) tokens rest → Has part tokens rest
one_of {part} {tokens} (and_all h n) = subst (λ (r : List Lexeme). Has part tokens r) (none_left n) h

pub had_append : {parts others : List Awaited} {tokens mid rest : List Lexeme} → HasAll parts tokens mid → HasAll others mid rest → HasAll (parts ++ others) tokens rest
had_append all_had k = k
had_append (and_all h i) k = and_all h (had_append i k)

pub one_had : {part : Awaited} {tokens rest : List Lexeme} → Has part tokens rest → HasAll (part ∷ []) tokens rest
one_had h = and_all h all_had

-- ---- parts, of which the first meets a token

pub no_tokens : {part : Awaited} {parts : List Awaited} {rest : List Lexeme} → HasAll (part ∷ parts) [] rest → ⊥
no_tokens (and_all h k) = elim h [ ]

pub first_stuck : (part : Awaited) {parts : List Awaited} {x : Lexeme} {tokens rest : List Lexeme} → next part x ≡ stuck → HasAll (part ∷ parts) (x ∷ tokens) rest → ⊥
first_stuck part {x = x} e (and_all h k) = no_move part x e h

pub first_taken : (part : Awaited) (x : Lexeme) (parts : List Awaited) {others : List Awaited} {tokens rest : List Lexeme} → next part x ≡ takes parts → HasAll (part ∷ others) (x ∷ tokens) rest → HasAll (parts ++ others) tokens rest
first_taken part x parts e (and_all h k) = had_append (taken part x {parts = parts} e h) k

pub first_becomes : (part : Awaited) (x : Lexeme) (parts : List Awaited) {others : List Awaited} {tokens rest : List Lexeme} → next part x ≡ becomes parts → HasAll (part ∷ others) (x ∷ tokens) rest → HasAll (parts ++ others) (x ∷ tokens) rest
first_becomes part x parts e (and_all h k) = had_append (become part x {parts = parts} e h) k

-- a part that becomes others whatever the token is
pub become_all : (part : Awaited) {first : Awaited} {parts : List Awaited} → ((x : Lexeme) → next part x ≡ becomes (first ∷ parts)) → (tokens : List Lexeme) {rest : List Lexeme} → HasAll (first ∷ parts) tokens rest → Has part tokens rest
become_all part e [] h = absurd (no_tokens h)
become_all part e (x ∷ tokens) h = by_parts (e x) h
