-- The texts of rows as they are written, and the texts of the definitions.
use Rattle.std.proofs.Common.{◌≡◌, ℕ, Bool, true, false, ◌&&◌, cond, List, [], ◌∷◌, ◌++◌, codes, nat_eq, length, refl, sym, ap, ◌∙◌, append_assoc, true≢false, arith}
use Rattle.std.proofs.lemmas.List.{append-nil}
use Rattle.std.specs.Str.{bytes_eq}
use Rattle.std.proofs.Math.Bool.{and-true, and-false}
use Rattle.sp_spec.specs.Term.{app, none, more, Ground, Grounds}
use Rattle.sp_spec.specs.Rule.{Action}
use Rattle.sp_term.specs.View.{Never}
use Rattle.sp_term.specs.declared.term.Term.{Term}
use Rattle.sp_fact.specs.GroundView.{grounds_of}
use Rattle.sp_spec_printed.specs.Printed.{are_two, is_pair, text_at, row_text, arguments_text, action_text, more_actions_text, entry_text, more_given_text, given_text}
use Rattle.sp_show.specs.Runs.{terms_run, opening, closing, actions_run, given_run}

two_terms : (ts : List (Term Never)) → nat_eq (length ts) 2 ≡ are_two (grounds_of ts)
two_terms [] = refl
two_terms (t ∷ []) = refl
two_terms (t ∷ u ∷ []) = refl
two_terms (t ∷ u ∷ w ∷ ts) = grind arith

row_run : (in_pair : Bool) (ts : Grounds) → terms_run false in_pair ts ≡ row_text in_pair ts
row_run in_pair none = refl
row_run in_pair (more t ts) =
    ap (λ (b : Bool). codes ", " ++ (text_at b t ++ terms_run false in_pair ts)) (and-true in_pair) ∙ ap (λ (xs : List ℕ). codes ", " ++ (text_at in_pair t ++ xs)) (row_run in_pair ts)

first_run : (in_pair : Bool) (t : Ground) (ts : Grounds) → terms_run true in_pair (more t ts) ≡ text_at false t ++ row_text in_pair ts
first_run in_pair t ts = ap (λ (b : Bool). text_at b t ++ terms_run false in_pair ts) (and-false in_pair) ∙ ap (λ (xs : List ℕ). text_at false t ++ xs) (row_run in_pair ts)

pub arguments_run : (ts : Grounds) → terms_run true false ts ≡ arguments_text ts
arguments_run none = refl
arguments_run (more t ts) = first_run false t ts

-- an application is what stands before its arguments, these, and what stands behind them
app_text : (ends : Bool) (f : List ℕ) (ts : Grounds) → text_at ends (app f ts) ≡ opening ends f ts ++ (terms_run true (is_pair f ts) ts ++ closing ends f ts)
app_text ends f none = sym (append-nil f)
app_text ends f (more t ts) = by_kind (is_pair f (more t ts)) ends (text_at false t) (row_text true ts) (row_text false ts) (λ b. terms_run true b (more t ts)) (first_run true t ts) (first_run false t ts)
  where
    by_kind : (b e : Bool) (x row_in row_out : List ℕ) (run : Bool → List ℕ) → run true ≡ x ++ row_in → run false ≡ x ++ row_out
        → cond b (cond e (x ++ row_in) (codes "<" ++ (x ++ (row_in ++ codes ">")))) (f ++ (codes "(" ++ (x ++ (row_out ++ codes ")"))))
        ≡ cond b (cond e [] (codes "<")) (f ++ codes "(") ++ (run b ++ cond b (cond e [] (codes ">")) (codes ")"))
    by_kind true true x row_in row_out run h k = sym (append-nil (run true) ∙ h)
    by_kind true false x row_in row_out run h k = ap (λ (xs : List ℕ). codes "<" ++ xs) (sym (append_assoc x row_in (codes ">")) ∙ ap (λ (xs : List ℕ). xs ++ codes ">") (sym h))
    by_kind false e x row_in row_out run h k =
        sym (append_assoc f (codes "(") (x ++ (row_out ++ codes ")")))
        ∙ ap (λ (xs : List ℕ). (f ++ codes "(") ++ xs) (sym (append_assoc x row_out (codes ")")) ∙ ap (λ (xs : List ℕ). xs ++ codes ")") (sym k))

more_actions_run : (entry : List (Action ⊥)) → actions_run false entry ≡ more_actions_text entry
more_actions_run [] = refl
more_actions_run (a ∷ entry) = ap (λ (xs : List ℕ). codes ", " ++ (action_text a ++ xs)) (more_actions_run entry)

pub entry_run : (entry : List (Action ⊥)) → actions_run true entry ≡ entry_text entry
entry_run [] = refl
entry_run (a ∷ entry) = ap (λ (xs : List ℕ). action_text a ++ xs) (more_actions_run entry)

more_given_run : (given : List (List ℕ × Ground)) → given_run false given ≡ more_given_text given
more_given_run [] = refl
more_given_run (g ∷ given) = ap (λ (xs : List ℕ). codes ", " ++ (g.0 ++ (codes " = " ++ (text_at false g.1 ++ xs)))) (more_given_run given)

pub all_given_run : (given : List (List ℕ × Ground)) → given_run true given ≡ given_text given
all_given_run [] = refl
all_given_run (g ∷ given) = ap (λ (xs : List ℕ). codes " " ++ (g.0 ++ (codes " = " ++ (text_at false g.1 ++ xs)))) (more_given_run given)

-- three parts are put at the end, one after the other
three_parts : (old a b new one two three all : List ℕ) → a ≡ old ++ one → b ≡ a ++ two → new ≡ b ++ three → all ≡ one ++ (two ++ three) → new ≡ old ++ all
three_parts old a b new one two three all e f g is =
    g ∙ ap (λ (xs : List ℕ). xs ++ three) (f ∙ ap (λ (xs : List ℕ). xs ++ two) e)
    ∙ append_assoc (old ++ one) two three ∙ append_assoc old one (two ++ three) ∙ ap (λ (xs : List ℕ). old ++ xs) (sym is)

pub written_application : (old a b new : List ℕ) (ends : Bool) (f : List ℕ) (ts : Grounds) (paired : Bool) → paired ≡ is_pair f ts
    → a ≡ old ++ opening ends f ts → b ≡ a ++ terms_run true paired ts → new ≡ b ++ closing ends f ts → new ≡ old ++ text_at ends (app f ts)
written_application old a b new ends f ts paired p e g h =
    three_parts old a b new (opening ends f ts) (terms_run true paired ts) (closing ends f ts) (text_at ends (app f ts)) e g h
    (app_text ends f ts ∙ ap (λ (q : Bool). opening ends f ts ++ (terms_run true q ts ++ closing ends f ts)) (sym p))

pub pair_of_two : (f : List ℕ) (ts : List (Term Never)) (n : ℕ) → n ≡ length ts → true ≡ bytes_eq f (codes "pair") → nat_eq n 2 ≡ is_pair f (grounds_of ts)
pair_of_two f ts n e h = ap (λ (k : ℕ). nat_eq k 2) e ∙ two_terms ts ∙ ap (λ (b : Bool). b && are_two (grounds_of ts)) h

-- other symbols stand before round brackets
pub opening_round : (ends : Bool) (f : List ℕ) (ts : List (Term Never)) → false ≡ nat_eq (length ts) 0 → false ≡ is_pair f (grounds_of ts) → f ++ codes "(" ≡ opening ends f (grounds_of ts)
opening_round ends f [] e h = absurd (true≢false (sym e))
opening_round ends f (t ∷ ts) e h = ap (λ (b : Bool). cond b (cond ends [] (codes "<")) (f ++ codes "(")) h

pub closing_round : (ends : Bool) (f : List ℕ) (ts : List (Term Never)) → false ≡ nat_eq (length ts) 0 → false ≡ is_pair f (grounds_of ts) → codes ")" ≡ closing ends f (grounds_of ts)
closing_round ends f [] e h = absurd (true≢false (sym e))
closing_round ends f (t ∷ ts) e h = ap (λ (b : Bool). cond b (cond ends [] (codes ">")) (codes ")")) h
