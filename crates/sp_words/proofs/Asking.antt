-- When values of a subcommand ask for something, and that it is one thing.
use Rattle.std.proofs.Common.{◌≡◌, ◌≢◌, ℕ, List, [], ◌∷◌, Option, Some, None, option_map, MatchOption, refl, sym, ap, ap₂, subst, ◌∙◌, arith}
use Rattle.std.specs.Prelude.{⊤, bytes_eq, codes, find}
use Rattle.std.specs.Borrow.{Bor}
use Rattle.std.proofs.lemmas.Fmt.{decimal_injective}
use Rattle.clap.specs.Words.{Row, first_of, first_value, rows_of, subcommand_name_of, subcommand_rows_of}
use Rattle.clap.specs.declared.parser.matches.Found.{Found}
use Rattle.clap.specs.declared.parser.matches.ArgMatches.{ArgMatches}
use Rattle.clap.specs.declared.parser.matches.ArgMatches.TheViews.{out-ArgMatches}
use Rattle.clap.proofs.WalkLemmas.{first_value-rows}
use Rattle.sp_words.specs.Line.{AskFor, IsBudget, IsSize, IsTextAsked, NamesLemma, AsksFor, IsLine, Request, Text, of_file, made_of, command_word}
use Rattle.sp_words.specs.declared.Command.{Command}
use Rattle.sp_words.specs.declared.Command.TheVariants.{Prove, Check, Replay, Variants, Wf, Graph, Gen}

-- ---- the command is known by its word

none_some : {X : Type 0} (x : X) → ◌≡◌ {A = Option X} None (Some x) → ⊥
none_some x e = subst (λ o. MatchOption o ⊤ (λ _. ⊥)) e tt

same_some : {X : Type 0} (a b : X) → ◌≡◌ {A = Option X} (Some a) (Some b) → a ≡ b
same_some a b e = subst (λ o. MatchOption o ⊥ (λ x. a ≡ x)) e refl

abbrev command_of : List ℕ → Option Command
command_of word = find (λ c. bytes_eq (command_word c) word) (Prove ∷ Check ∷ Replay ∷ Variants ∷ Wf ∷ Graph ∷ Gen ∷ [])

of_its_word : (c : Command) → command_of (command_word c) ≡ Some c
of_its_word Prove = refl
of_its_word Check = refl
of_its_word Replay = refl
of_its_word Variants = refl
of_its_word Wf = refl
of_its_word Graph = refl
of_its_word Gen = refl

same_command : (a b : Command) → command_word a ≡ command_word b → a ≡ b
same_command a b e = same_some a b (sym (of_its_word a) ∙ ap command_of e ∙ of_its_word b)

-- ---- each command but `gen` has the name of a text

file_asked : (c : Command) (values : List Row) (text : Text) → c ≢ Gen → IsTextAsked Prove values text → IsTextAsked c values text
file_asked Gen values text other is = absurd (other refl)
file_asked _ values text other is = is

only_file : (c : Command) (values : List Row) (text : Text) → c ≢ Gen → IsTextAsked c values text → IsTextAsked Prove values text
only_file Gen values text other is = absurd (other refl)
only_file _ values text other is = is

-- ---- what `clap` found of a subcommand asks for this, or for nothing

abbrev texts_of : Option (Bor (List ℕ)) → Option (List ℕ)
texts_of = option_map (λ s. s.now)

pub names_one : (c : Command) (value : Option (Bor (List ℕ))) (name : Bor (List ℕ)) → value ≡ Some name → NamesLemma c (texts_of value)
names_one Graph value name is = (name.now, ap texts_of is)
names_one _ value name is = tt

pub names_any : (c : Command) (lemma : Option (List ℕ)) → c ≢ Graph → NamesLemma c lemma
names_any Graph lemma other = absurd (other refl)
names_any _ lemma other = tt

module _ (found : Found) (word : List ℕ) where
  abbrev IsFound : List ℕ → Option (Bor (List ℕ)) → Type 0
  IsFound name value = texts_of value ≡ first_value found name

  stands : (name : List ℕ) (value : Option (Bor (List ℕ))) → IsFound name value → texts_of value ≡ first_of name (rows_of found)
  stands name value is = is ∙ first_value-rows found name

  module _ (command : Command) (value : Option (Bor (List ℕ))) where
    abbrev IsAsked : Text → Type 0
    IsAsked = IsTextAsked command (rows_of found)

    pub number_asked : (text : Bor (List ℕ)) (n : ℕ) → command ≡ Gen → IsFound (codes "N") value → value ≡ Some text → IsSize text.now n → IsAsked (made_of n)
    number_asked text n gen is some size = subst (λ c. IsTextAsked c (rows_of found) (made_of n)) (sym gen)
        (text.now, n, sym (stands (codes "N") value is) ∙ ap texts_of some, size, refl)

    pub no_number : command ≡ Gen → IsFound (codes "N") value → value ≡ None → (text : Text) → ¬ IsAsked text
    no_number gen is none text asked =
        let its = subst (λ c. IsTextAsked c (rows_of found) text) gen asked in
        none_some its.0 (sym (ap texts_of none) ∙ stands (codes "N") value is ∙ its.2)

    pub no_size : (given : Bor (List ℕ)) → command ≡ Gen → IsFound (codes "N") value → value ≡ Some given → ((n : ℕ) → ¬ IsSize given.now n)
        → (text : Text) → ¬ IsAsked text
    no_size given gen is some never text asked =
        let its = subst (λ c. IsTextAsked c (rows_of found) text) gen asked in
        let same = same_some its.0 given.now (sym its.2 ∙ sym (stands (codes "N") value is) ∙ ap texts_of some) in
        never its.1 (subst (λ t. IsSize t its.1) same its.3)

    pub name_asked : (name : Bor (List ℕ)) → command ≢ Gen → IsFound (codes "FILE") value → value ≡ Some name → IsAsked (of_file name.now)
    name_asked name other is some = file_asked command (rows_of found) (of_file name.now) other
        (name.now, sym (stands (codes "FILE") value is) ∙ ap texts_of some, refl)

    pub no_name : command ≢ Gen → IsFound (codes "FILE") value → value ≡ None → (text : Text) → ¬ IsAsked text
    no_name other is none text asked =
        let its = only_file command (rows_of found) text other asked in
        none_some its.0 (sym (ap texts_of none) ∙ stands (codes "FILE") value is ∙ its.1)

  pub no_budget : (value : Option (Bor (List ℕ))) → IsFound (codes "budget") value → ((n : ℕ) → ¬ IsBudget (texts_of value) n)
      → (request : Request) → ¬ AskFor word (rows_of found) request
  no_budget value is never request asks = never request.budget (subst (λ t. IsBudget t request.budget) (sym (stands (codes "budget") value is)) asks.budget)

  pub no_lemma : (value : Option (Bor (List ℕ))) → IsFound (codes "lemma") value → value ≡ None → word ≡ command_word Graph
      → (request : Request) → ¬ AskFor word (rows_of found) request
  no_lemma value is none graph request asks =
      let one = subst (λ c. NamesLemma c request.lemma) (same_command request.command Graph (sym asks.command ∙ graph)) asks.named in
      none_some one.0 (sym (ap texts_of none) ∙ stands (codes "lemma") value is ∙ asks.lemma ∙ one.1)

  pub asks_this : (command : Command) (text : Text) (n : ℕ) (budget lemma : Option (Bor (List ℕ))) → word ≡ command_word command
      → IsTextAsked command (rows_of found) text → IsFound (codes "budget") budget → IsBudget (texts_of budget) n → IsFound (codes "lemma") lemma
      → NamesLemma command (texts_of lemma)
      → AskFor word (rows_of found) (record { command = command; text = text; budget = n; lemma = texts_of lemma })
  asks_this command text n budget lemma is asked first moves second named = record {
    command = is;
    text = asked;
    budget = subst (λ t. IsBudget t n) (stands (codes "budget") budget first) moves;
    lemma = sym (stands (codes "lemma") lemma second);
    named = named;
  }

-- ---- the subcommand that was met, by its name and its values

module _ {B X Y : Type 0} (f : B → X) (g : B → Y) where
  abbrev both : B → X × Y
  both b = (f b, g b)

  pair_of : (o : Option B) (x : X) (y : Y) → Some x ≡ option_map f o → Some y ≡ option_map (λ p. p.1) (option_map both o) → option_map both o ≡ Some (x, y)
  pair_of None x y p q = absurd (none_some x (sym p))
  pair_of (Some b) x y p q = ap₂ (λ u v. Some (u, v)) (same_some (f b) x (sym p)) (same_some (g b) y (sym q))

  none_of : (o : Option B) → None ≡ option_map f o → option_map both o ≡ None
  none_of None p = refl
  none_of (Some b) p = absurd (none_some (f b) p)

pub named_pair : (m : ArgMatches) (word : List ℕ) (values : List Row) → Some word ≡ subcommand_name_of m
    → Some values ≡ option_map (λ p. p.1) (subcommand_rows_of m) → subcommand_rows_of m ≡ Some (word, values)
named_pair m word values p q = pair_of _ _ (out-ArgMatches m).subcommand word values p q

pub read_asks : (read : Option (List ℕ × List Row)) (word : List ℕ) (values : List Row) (request : Request) → read ≡ Some (word, values)
    → AskFor word values request → AsksFor read request
read_asks read word values request is asks = record { word = word; values = values; is = is; asks = asks }

pub read_asks_nothing : (read : Option (List ℕ × List Row)) (word : List ℕ) (values : List Row) → read ≡ Some (word, values)
    → ((request : Request) → ¬ AskFor word values request) → (request : Request) → ¬ AsksFor read request
read_asks_nothing read word values is never request asks =
    let same = same_some (asks.word, asks.values) (word, values) (sym asks.is ∙ is) in
    never request (subst (λ (n : List ℕ × List Row). AskFor n.0 n.1 request) same asks.asks)

pub unnamed_asks_nothing : (m : ArgMatches) → None ≡ subcommand_name_of m → (request : Request) → ¬ AsksFor (subcommand_rows_of m) request
unnamed_asks_nothing m p request asks = none_some (asks.word, asks.values) (sym (none_of _ _ (out-ArgMatches m).subcommand p) ∙ asks.is)

-- ---- what is asked for is one thing

same_budget : (given : Option (List ℕ)) (a b : ℕ) → IsBudget given a → IsBudget given b → a ≡ b
same_budget None a b p q = p ∙ sym q
same_budget (Some text) a b p q = decimal_injective a b (omega (arith, p.2)) (omega (arith, q.2)) (sym p.0 ∙ q.0)

one_file : (values : List Row) (a b : Text) → IsTextAsked Prove values a → IsTextAsked Prove values b → a ≡ b
one_file values a b p q = p.2 ∙ ap of_file (same_some p.0 q.0 (sym p.1 ∙ q.1)) ∙ sym q.2

same_size : (t u : List ℕ) (m n : ℕ) → t ≡ u → IsSize t m → IsSize u n → m ≡ n
same_size t u m n e p q = decimal_injective m n (omega (arith, p.2)) (omega (arith, q.2)) (sym p.0 ∙ e ∙ q.0)

one_text : (values : List Row) (c : Command) (a b : Text) → IsTextAsked c values a → IsTextAsked c values b → a ≡ b
one_text values Gen a b p q = p.4 ∙ ap made_of (same_size p.0 q.0 p.1 q.1 (same_some p.0 q.0 (sym p.2 ∙ q.2)) p.3 q.3) ∙ sym q.4
one_text values _ a b p q = one_file values a b p q

same_request : (a b : Request) → a.command ≡ b.command → a.text ≡ b.text → a.budget ≡ b.budget → a.lemma ≡ b.lemma → a ≡ b
same_request a b c t n l = λ i. record { command = c i; text = t i; budget = n i; lemma = l i }

asked_once : (word : List ℕ) (values : List Row) (a b : Request) → AskFor word values a → AskFor word values b → a ≡ b
asked_once word values a b p q =
    let command = same_command a.command b.command (sym p.command ∙ q.command) in
    same_request a b command
    (one_text values b.command a.text b.text (subst (λ c. IsTextAsked c values a.text) command p.text) q.text)
    (same_budget (first_of (codes "budget") values) a.budget b.budget p.budget q.budget) (sym p.lemma ∙ q.lemma)

pub line_asks_once : (words : List (List ℕ)) (a b : Request) → IsLine words a → IsLine words b → a ≡ b
line_asks_once words a b p q =
    let same = same_some (p.asks.word, p.asks.values) (q.asks.word, q.asks.values) (sym p.asks.is ∙ q.asks.is) in
    asked_once q.asks.word q.asks.values a b (subst (λ (n : List ℕ × List Row). AskFor n.0 n.1 a) same p.asks.asks) q.asks.asks
