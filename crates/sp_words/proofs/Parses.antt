-- The command is one of which `clap` says exactly what a parse gives, and which errors come.
use Rattle.std.proofs.Common.{◌≡◌, ◌≢◌, true, List, [], inl, inr, refl, sym, ap, subst, ◌∙◌}
use Rattle.clap.specs.Words.{App, HasKind, HasMatchesOf, Kinds, fault_of, is_simple, is_simple_and_free, kind_of, subcommand_of, subcommand_rows_of}
use Rattle.clap.specs.declared.error.Error.{Error}
use Rattle.clap.specs.declared.parser.matches.ArgMatches.{ArgMatches}
use Rattle.std.specs.Prelude.{⊤, ℕ}
use Rattle.clap.proofs.OnLiterals.{clap_on_literals}
use Rattle.sp_words.specs.Line.{cause_of, faults, named, spthy}
use Rattle.sp_words.specs.declared.RequestError.{RequestError}
use Rattle.sp_words.specs.declared.RequestError.TheVariants.{NoLine, NoMemory}

pub is_free : is_simple_and_free spthy ≡ true
unfolding clap_on_literals spthy
is_free = refl

pub is_exact : is_simple spthy ≡ true
unfolding clap_on_literals spthy
is_exact = refl

abbrev is_line_fault : RequestError → Type 0
is_line_fault NoLine = ⊤
is_line_fault NoMemory = ⊥

-- an error that isn't want of memory is one of the kinds
among_none : (kinds : Kinds) (e : Error) → HasKind kinds e → cause_of (kind_of e) ≡ NoLine → kinds ≡ [] → ⊥
among_none kinds e has cause none = go (subst (λ k. HasKind k e) none has)
  where
    go : HasKind [] e → ⊥
    go (inl memory) = subst is_line_fault (sym cause ∙ ap cause_of memory) tt
    go (inr among) = among

module _ (command : App) (is : command ≡ spthy) (words : List (List ℕ)) where
  free : is_simple_and_free command ≡ true
  free = ap is_simple_and_free is ∙ is_free

  pub taken_by : (is_simple_and_free command ≡ true → fault_of command words ≡ []) → faults words ≡ []
  unfolding faults
  taken_by found = ap (λ a. fault_of a words) (sym is) ∙ found free

  pub named_by : (m : ArgMatches) → HasMatchesOf command words m → subcommand_rows_of m ≡ named words
  unfolding named
  named_by m has = (has (ap is_simple is ∙ is_exact)).1 ∙ ap (λ a. subcommand_of a words) is

  pub refused_by : (e : Error) → (is_simple_and_free command ≡ true → HasKind (fault_of command words) e) → cause_of (kind_of e) ≡ NoLine → faults words ≢ []
  unfolding faults
  refused_by e has cause none = among_none (fault_of command words) e (has free) cause (ap (λ a. fault_of a words) is ∙ none)
