-- What the words of a command ask of the library, and of what stands in the text.
use Rattle.std.specs.Prelude.{◌≡◌, ℕ, List, [], ◌∷◌, Option, Some}
use Rattle.sp_generated.specs.Theory.{generated}
use Rattle.sp_analysis.specs.declared.replies.Command as asked
use Rattle.sp_analysis.specs.declared.replies.Command.TheVariants as proofs
use Rattle.sp_words.specs.Line as words
use Rattle.sp_words.specs.Line.{Text, of_file, made_of}
use Rattle.sp_words.specs.declared.Command.{Command}
use Rattle.sp_words.specs.declared.Command.TheVariants.{Prove, Check, Graph, Gen}
use Rattle.sp_words.specs.declared.Request as memory

-- What is asked for: what is to be done, how many moves a proof may have that is grown, of which lemma alone (of each lemma, where none is
-- named), and of which text.
pub record Request : Type 0 where
  pub command : Command
  pub budget : ℕ
  pub lemma : Option (List ℕ)
  pub text : Text

abbrev pub fetched_for : Text → List (List ℕ)
fetched_for (of_file file) = file ∷ []
fetched_for (made_of n) = []

-- the names under which texts are fetched, in their order
abbrev pub fetched : Request → List (List ℕ)
fetched request = fetched_for request.text

-- the request is about the text of this name, and fetches no other
abbrev pub IsAbout : Request → List ℕ → Type 0
IsAbout request file = request.text ≡ of_file file

-- What is told of the text that is asked for, if anything is: what the library tells of that name, and of a theory that is made its bytes.
abbrev pub told_of : (List ℕ → Option (Option (List ℕ))) → Text → Option (Option (List ℕ))
told_of holds (of_file file) = holds file
told_of holds (made_of n) = Some (Some (generated n))

abbrev pub told : (List ℕ → Option (Option (List ℕ))) → Request → Option (Option (List ℕ))
told holds request = told_of holds request.text

-- what is asked by a line of the command
abbrev pub request_by : words.Request → Request
request_by r = record { command = r.command; budget = r.budget; lemma = r.lemma; text = r.text }

-- the words ask for this
abbrev pub IsLine : List (List ℕ) → Request → Type 0
IsLine line request = (r : words.Request) × words.IsLine line r × (request ≡ request_by r)

-- the words are no line of the command
abbrev pub IsNoLine : List (List ℕ) → Type 0
IsNoLine line = (request : Request) → ¬ IsLine line request

-- ---- in memory

abbrev pub request_of : memory.Request → Request
request_of r = request_by (words.request_of r)

-- what is asked of proofs, and within how many moves (to check them, none is grown)
abbrev pub of_proofs : asked.Command → Command
of_proofs (proofs.Prove budget) = Prove
of_proofs proofs.Check = Check
of_proofs (proofs.Graph budget) = Graph
of_proofs (proofs.Count budget) = Gen

abbrev pub budget_in : asked.Command → ℕ
budget_in (proofs.Prove budget) = budget
budget_in proofs.Check = 0
budget_in (proofs.Graph budget) = budget
budget_in (proofs.Count budget) = budget
