-- The names of the cases of what the adversary does, of how a message is known, and of how a chain goes on.
use Rattle.std.proofs.Common.{ℕ, suc, Bool, true, false, if◌then◌else◌, List, [], ◌∷◌, ◌++◌, codes, Option}
use Rattle.std.specs.Prelude.{decimal}
use Rattle.std.specs.Str.{bytes_eq}
use Rattle.sp_spec.specs.Term.{Sort, Msg, Fresh, Pub, Variable, Term, var, constant, name, app, Terms, none, more, count, valued}
use Rattle.sp_spec.specs.Signature.{Symbol}
use Rattle.sp_spec.specs.Destruction.{Destruction, is_public}
use Rattle.sp_spec_forms.specs.Forms.{RuleForms}
use Rattle.sp_spec_system.specs.System.{anyhow, constructed, chain_done, sending, learning, System}
use Rattle.sp_spec_system.specs.Cases.{case_if, named}
use Rattle.sp_spec_formula.specs.Action.{done_there, by_adversary}
use Rattle.sp_spec_know.specs.Know.{made_case, own_if, own_case, output_forms, by_each_output, with_way, with_learnings}
use Rattle.sp_spec_know.specs.Chain.{Begun, with_same, is_no_end, done_case, numbered_from, with_link, by_destructions}
use Rattle.sp_skel.specs.Spelling.{AreNamed}
use Rattle.sp_skel.proofs.CaseNames.{chain_named, send_named, learn_named, made_named, own_named, done_named}
use Rattle.sp_skel.proofs.NamedCases.{CasesNamed, named_append, if_named, rule_named}

-- ---- what the adversary does

message_named : (s : System) (i : ℕ) (m : Term Variable) (b c : Bool)
    → CasesNamed (if b then done_there (codes "Send") s i (sending m) ∷ [] else if c then done_there (codes "Learn") s i (learning m anyhow) ∷ [] else [])
message_named s i m true c = (send_named.0, send_named.1, tt)
message_named s i m false true = (learn_named.0, learn_named.1, tt)
message_named s i m false false = tt

pub adversary_named : (s : System) (i : ℕ) (symbol : List ℕ) (ts : Terms Variable) → CasesNamed (by_adversary s i symbol ts)
adversary_named s i symbol none = tt
adversary_named s i symbol (more m none) = message_named s i m (bytes_eq symbol (codes "K")) (bytes_eq symbol (codes "KU"))
adversary_named s i symbol (more m (more t ts)) = tt

-- ---- how a message is known

pub made_cases_named : (symbols : List Symbol) (s : System) (i : ℕ) (m : Term Variable) → CasesNamed (made_case symbols s i m)
made_cases_named symbols s i (var x) = tt
made_cases_named symbols s i (constant c) = tt
made_cases_named symbols s i (name n) = tt
made_cases_named symbols s i (app f ts) = at (is_public symbols f (count ts))
  where
    at : (b : Bool) → CasesNamed (if b then record { name = codes "made"; system = with_learnings i ts (with_way s i constructed) } ∷ [] else [])
    at true = (made_named.0, made_named.1, tt)
    at false = tt

pub own_cases_named : (s : System) (i : ℕ) (m : Term Variable) → CasesNamed (own_case s i m)
own_cases_named s i (var x) = at x.sort
  where
    at : (sort : Sort) → CasesNamed (own_if s i sort)
    at Fresh = (own_named.0, own_named.1, tt)
    at Msg = tt
    at Pub = tt
own_cases_named s i (constant c) = tt
own_cases_named s i (name n) = tt
own_cases_named s i (app f ts) = tt

pub outputs_named : (rules : List RuleForms) (s : System) (i : ℕ) → AreNamed rules → CasesNamed (by_each_output rules s i)
outputs_named [] s i h = tt
outputs_named (r ∷ rules) s i h =
    let made = output_forms r.name r.forms s i in
    named_append (named r.name made) (by_each_output rules s i) (rule_named r.name made h.0 h.1) (outputs_named rules s i h.2)

-- ---- how a chain goes on

pub done_cases_named : (s : System) (i : ℕ) (b : Begun) → CasesNamed (done_case s i b)
done_cases_named s i b = at (is_no_end b.last) (with_same (with_way s i (chain_done b.from b.conclusion b.passed)) b.last b.message)
  where
    at : (c : Bool) (o : Option System) → CasesNamed (if c then [] else case_if (codes "done") o)
    at true o = tt
    at false o = if_named (codes "done") o done_named

pub destructions_named : (s : System) (i : ℕ) (b : Begun) (n : ℕ) (ds : List Destruction) → CasesNamed (by_destructions s i b n ds)
destructions_named s i b n [] = tt
destructions_named s i b n (d ∷ ds) =
    let gone_on = with_same (with_link s i b d) b.last (valued (numbered_from s.next d) d.pattern) in
    named_append (case_if (codes "chain_" ++ decimal n) gone_on) (by_destructions s i b (suc n) ds) (if_named (codes "chain_" ++ decimal n) gone_on (chain_named n)) (destructions_named s i b (suc n) ds)
