-- What lasts from the facts of steps to all that is sent, learnt and taken out along chains.
use Rattle.std.proofs.Common.{ℕ, List, [], ◌∷◌, sym, subst, inl, inr}
use Rattle.sp_spec.specs.Lists.{Every, AtPosition}
use Rattle.sp_spec.specs.Term.{Pub, Variable, var, constant, name, app, none, more, Ground, Grounds, count, valued, valued_all}
use Rattle.sp_spec.specs.Signature.{HasPublic, HasSort}
use Rattle.sp_spec.specs.Equal.{IsNormal}
use Rattle.sp_spec.specs.Rule.{Fact, Facts, OfArguments, out_of}
use Rattle.sp_spec.specs.Theory.{Theory, signature_of}
use Rattle.sp_spec.specs.Log.{How, public_name, own_name, constructed, by_chain, Entry, step, send, learn, Log, IsRuleInstance, IsLearnt, AreLearnt, IsDestructed, IsChain, StartsChain, MayLearn, Clause, rule_instance, sent_is_learnt, way_of_learning, Keeps, IsLog}
use Rattle.sp_spec.proofs.Logs.{entry_behind}
use Rattle.sp_spec.proofs.Sorts.{is_name}
use Rattle.sp_law_equal.specs.Parts.{IsPart}
use Rattle.sp_law_equal.proofs.Parts.{part_valued, part_keeps, part_of_one_keeps}
use Rattle.sp_law_log.specs.Laws.{messages_of, StandsInDestruction, HoldsInLog}
use Rattle.sp_law_log.proofs.Places.{every_place}
use Rattle.sp_law_log.proofs.Destructions.{gives_part}
use Rattle.sp_law_log.proofs.NameParts.{value_part, value_part_of_one}

-- it holds of the facts of instances, of names, of what stands in that of which it holds, and of what is made of such and is normal
pub record Lasts (theory : Theory) (P : Ground → Type 0) (Qs : Grounds → Type 0) : Type 0 where
  pub facts : (r : List ℕ) (facts : Facts ⊥) → IsRuleInstance theory r facts → OfArguments Qs facts
  pub constants : (c : List ℕ) → P (constant c)
  pub names : (n : ℕ) → P (name n)
  pub applied : (f : List ℕ) (ts : Grounds) → HasPublic (signature_of theory).symbols f (count ts) → IsNormal (signature_of theory).equations (app f ts) → Qs ts → P (app f ts)
  pub under : (f : List ℕ) (ts : Grounds) → P (app f ts) → Qs ts
  pub first : (t : Ground) (ts : Grounds) → Qs (more t ts) → P t
  pub rest : (t : Ground) (ts : Grounds) → Qs (more t ts) → Qs ts
  pub nothing : Qs none
  pub together : (t : Ground) (ts : Grounds) → P t → Qs ts → Qs (more t ts)

-- what holds of all messages that an entry learns holds of the one that is learnt
pub message_first : (P : Ground → Type 0) (m : Ground) (how : How) → Every P (messages_of (learn m how)) → P m
message_first P m public_name h = h.0
message_first P m own_name h = h.0
message_first P m constructed h = h.0
message_first P m (by_chain c k chain) h = h.0

module _ (theory : Theory) (P : Ground → Type 0) (Qs : Grounds → Type 0) (l : Lasts theory P Qs) where
  of_public : (m : Ground) → HasSort Pub m → P m
  of_public (var x) h = absurd x
  of_public (constant c) h = l.constants c
  of_public (name n) h = absurd h
  of_public (app f ts) h = absurd h

  of_part : (r t : Ground) → IsPart r t → P t → P r
  of_part r t p h = part_keeps P Qs l.under l.first l.rest r t p h

  destructed : (past : Log) (t u : Ground) → IsDestructed (signature_of theory) past t u → P t → P u
  destructed past t u h k =
      let d = h.0 in
      let v = h.2 in
      subst P (sym h.6) (of_part (valued v d.result) (valued v d.pattern) (part_valued v d.result d.pattern (gives_part (signature_of theory) d h.1)) (subst P h.4 k))

  along_chain : (past : Log) (t : Ground) (chain : List Ground) (m : Ground) → IsChain (signature_of theory) past t chain m → P t → Every P chain × P m
  along_chain past t [] m h k = (tt, subst P h k)
  along_chain past t (u ∷ chain) m h k =
      let next = destructed past t u h.0 k in
      let later = along_chain past u chain m h.1 next in
      ((next, later.0), later.1)

  from_first : (past : Log) (chain : List Ground) (first m : Ground) → StartsChain (signature_of theory) past chain first m → P first → Every P chain × P m
  from_first past [] first m h k = absurd h
  from_first past (t ∷ chain) first m h k =
      let start = subst P (sym h.0) k in
      let later = along_chain past t chain m h.1 start in
      ((start, later.0), later.1)

  abbrev Messages : Log → Type 0
  Messages log = (p : ℕ) (e : Entry) → AtPosition log p e → Every P (messages_of e)

  -- where it holds of the messages that came before
  module _ (past : Log) (is : IsLog theory past) (all : Messages past) where
    known : (m : Ground) → IsLearnt past m → P m
    known m h = let at = h.1 in message_first P m at.0 (all h.0 (learn m at.0) at.1)

    each_known : (ts : Grounds) → AreLearnt past ts → Qs ts
    each_known none h = l.nothing
    each_known (more t ts) h = l.together t ts (known t h.0) (each_known ts h.1)

    learnt_messages : (m : Ground) (how : How) → MayLearn (signature_of theory) past m how → Every P (messages_of (learn m how))
    learnt_messages m public_name h = (of_public m h, tt)
    learnt_messages m own_name h = let n = is_name m h in (subst P (sym n.1) (l.names n.0), tt)
    learnt_messages m constructed h =
        (subst P (sym h.2) (l.applied h.0 h.1 h.3 (subst (IsNormal (signature_of theory).equations) h.2 h.5) (each_known h.1 h.4)), tt)
    learnt_messages m (by_chain c k chain) h =
        let own = (entry_behind theory past is c (step h.0 h.1 h.2) h.3).keeps rule_instance in
        let put_out = every_place (λ (f : Fact ⊥). Qs f.args) h.1.conclusions k (out_of h.4) h.5 (l.facts h.0 h.1 own).conclusions in
        let both = from_first past chain h.4 m h.6 (l.first h.4 none put_out) in
        (both.1, both.0)

    entry_messages : (e : Entry) → ((clause : Clause) → Keeps theory clause e past) → Every P (messages_of e)
    entry_messages (step r facts sources) keeps = tt
    entry_messages (send m) keeps = (known m (keeps sent_is_learnt), tt)
    entry_messages (learn m how) keeps = learnt_messages m how (keeps way_of_learning)

  messages : (log : Log) → IsLog theory log → Messages log
  messages [] is p e a = absurd a
  messages (d ∷ past) is p e (inl a) = subst (λ (x : Entry). Every P (messages_of x)) a.1 (entry_messages past is.0 (λ q x b. messages past is.0 q x b) d is.1)
  messages (d ∷ past) is p e (inr a) = messages past is.0 p e a

  -- the values of a destruction's variables stand in what it takes and in its side messages
  values : (log : Log) → IsLog theory log → (t u : Ground) → P t → (link : IsDestructed (signature_of theory) log t u) → (x : Variable) → StandsInDestruction x link.0 → P (link.2 x)
  values log is t u k link x (inl s) = of_part (link.2 x) (valued link.2 link.0.pattern) (value_part link.2 x link.0.pattern s) (subst P link.4 k)
  values log is t u k link x (inr (inl s)) =
      part_of_one_keeps P Qs l.under l.first l.rest (link.2 x) (valued_all link.2 link.0.sides) (value_part_of_one link.2 x link.0.sides s)
      (each_known log is (messages log is) (valued_all link.2 link.0.sides) link.5)
  values log is t u k link x (inr (inr s)) =
      of_part (link.2 x) (valued link.2 link.0.result) (value_part link.2 x link.0.result s) (subst P link.6 (destructed log t u link k))

  pub holds_in_log : (log : Log) → IsLog theory log → HoldsInLog theory log P Qs
  holds_in_log log is = record {
    facts = λ p r facts sources a. l.facts r facts ((entry_behind theory log is p (step r facts sources) a).keeps rule_instance);
    messages = messages log is;
    values = values log is;
  }
