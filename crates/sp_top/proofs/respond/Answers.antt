use Rattle.std.proofs.Common.{◌≡◌, List, ℕ, codes, Option, Result, Ok, Err, OnOk, IfOk, ◌⊎◌, inl, inr, subst}
use Rattle.sp_io.specs.Told.{extended}
use Rattle.sp_top.specs.Command.{Request, fetched, told, IsLine, IsNoLine, request_of}
use Rattle.sp_top.specs.Answer.{IsFileAnswer, IsAnswer}
use Rattle.sp_top.specs.declared.Status.{Status}
use Rattle.sp_top.specs.declared.Status.TheVariants.{Usage}
use Rattle.sp_top.proofs.Causes.{line_asks_one}
use Rattle.sp_top.proofs.respond.Goals as goal

-- what holds anyway holds of an Ok
on_ok : {T E P : Type 0} (r : Result T E) → P → OnOk r P
on_ok (Ok x) p = p
on_ok (Err e) p = tt

-- what holds of what the words ask for holds of what they ask for by any account
asked_any : {T E : Type 0} (words : List (List ℕ)) (request : Request) (old new : Option (List (List ℕ))) (r : Result T E) → IsLine words request → OnOk r (new ≡ extended old (fetched request))
    → OnOk r ((other : Request) → IsLine words other → new ≡ extended old (fetched other))
asked_any words request old new (Ok x) line e = λ other l. subst (λ (q : Request). new ≡ extended old (fetched q)) (line_asks_one words request other line l) e
asked_any words request old new (Err x) line e = tt

asked_or_not : (words : List (List ℕ)) (request : Request) (old new : Option (List (List ℕ))) (other : Request) → IsLine words request → IsLine words other
    → (new ≡ old) ⊎ (new ≡ extended old (fetched request)) → (new ≡ old) ⊎ (new ≡ extended old (fetched other))
asked_or_not words request old new other line l h = subst (λ (q : Request). (new ≡ old) ⊎ (new ≡ extended old (fetched q))) (line_asks_one words request other line l) h

-- what is answered to a line is the answer to the words
is_line_answer : {A E : Type 0} (text : A → List ℕ) (status : A → Status) (words : List (List ℕ)) (holds : List ℕ → Option (Option (List ℕ))) (before now : ℕ) (request : Request) (r : Result A E)
    → IsLine words request → IfOk r (λ a. IsFileAnswer request (told holds request) before now (text a) (status a)) → IfOk r (λ a. IsAnswer words holds before now (text a) (status a))
is_line_answer text status words holds before now request (Ok a) line h = inr (record { request = request; line = line; answer = h })
is_line_answer text status words holds before now request (Err e) line h = tt

pub returns-in-Ok-clause-answer : goal.returns-in-Ok-clause-answer
returns-in-Ok-clause-answer g c =
    is_line_answer (λ answer. answer.0.items) (λ answer. answer.1) c.args.words.now (g.L.Library.holds c.args.library.now) _ _ (request_of c.in-Ok.request) c.answer_request.result c.in-Ok.ensures.line
    c.answer_request.ensures.answer

pub returns-in-Ok-clause-no_line : goal.returns-in-Ok-clause-no_line
returns-in-Ok-clause-no_line g c = λ no_line. absurd (no_line (request_of c.in-Ok.request) c.in-Ok.ensures.line)

pub returns-in-Ok-clause-asked : goal.returns-in-Ok-clause-asked
returns-in-Ok-clause-asked g c = λ request line. asked_or_not c.args.words.now (request_of c.in-Ok.request) _ _ request c.in-Ok.ensures.line line c.answer_request.ensures.asked

pub returns-in-Ok-clause-asked_all : goal.returns-in-Ok-clause-asked_all
returns-in-Ok-clause-asked_all g c = asked_any c.args.words.now (request_of c.in-Ok.request) _ _ c.answer_request.result c.in-Ok.ensures.line c.answer_request.ensures.asked_all

-- words that are no line are answered so
is_usage : {A E : Type 0} (text : A → List ℕ) (status : A → Status) (words : List (List ℕ)) (holds : List ℕ → Option (Option (List ℕ))) (before now : ℕ) (r : Result A E) → IsNoLine words
    → IfOk r (λ a. text a ≡ codes "refused: usage\n") → IfOk r (λ a. status a ≡ Usage) → IfOk r (λ a. IsAnswer words holds before now (text a) (status a))
is_usage text status words holds before now (Ok a) none t s = inl (record { no_line = none; text_is = t; status_is = s })
is_usage text status words holds before now (Err e) none t s = tt

pub returns-in-Err-NoLine-clause-answer : goal.returns-in-Err-NoLine-clause-answer
returns-in-Err-NoLine-clause-answer g c =
    is_usage (λ answer. answer.0.items) (λ answer. answer.1) c.args.words.now _ _ _ c.fixed.result (c.in-Err-NoLine.ensures.no_line c.in-Err-NoLine.field-0-is) c.fixed.ensures.text c.fixed.ensures.status

pub returns-in-Err-NoLine-clause-asked_all : goal.returns-in-Err-NoLine-clause-asked_all
returns-in-Err-NoLine-clause-asked_all g c = on_ok c.fixed.result (λ request line. absurd (c.in-Err-NoLine.ensures.no_line c.in-Err-NoLine.field-0-is request line))
