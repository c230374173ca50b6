-- Putting terms for variables and one time for another throughout a system, and making two events one.
use Rattle.std.specs.Prelude.{ℕ, ◌&&◌, ◌==◌, Bool, ◌||◌, not, List, [], ◌∷◌, true, false, ◌++◌, if◌then◌else◌, map, length, Option, Some, None, option_map, option_and_then, nat_lt}
use Rattle.std.specs.Str.{bytes_eq}
use Rattle.sp_spec.specs.Term.{Variable, Term, valued, Terms, none, more}
use Rattle.sp_spec.specs.Rule.{facts_at, Fact, Action}
use Rattle.sp_spec_forms.specs.Alike.{same_flag}
use Rattle.sp_spec_system.specs.System.{Way, anyhow, public_name, own_name, constructed, chain_begun, chain_done, Happening, rule_step, sending, learning, Event, Link, System}
use Rattle.sp_spec.specs.Unifier.{Pair, mgu}
use Rattle.sp_spec.specs.Change.{free_change, changed}
use Rattle.sp_spec.specs.Substitution.{Binding}

-- of the ways only a chain has terms and a time
abbrev pub way_changed : (Variable → Term Variable) → (ℕ → ℕ) → Way → Way
way_changed terms times (chain_begun i k ts) = chain_begun (times i) k (map (valued terms) ts)
way_changed terms times (chain_done i k ts) = chain_done (times i) k (map (valued terms) ts)
way_changed terms times way = way

-- in its facts, or in its message and its way
abbrev pub happening_changed : (Variable → Term Variable) → (ℕ → ℕ) → Happening → Happening
happening_changed terms times (rule_step r facts) = rule_step r (facts_at terms facts)
happening_changed terms times (sending m) = sending (valued terms m)
happening_changed terms times (learning m way) = learning (valued terms m) (way_changed terms times way)

abbrev pub event_changed : (Variable → Term Variable) → (ℕ → ℕ) → Event → Event
event_changed terms times e = record { time = times e.time; happening = happening_changed terms times e.happening }

abbrev pub pair_changed : (Variable → Term Variable) → Pair → Pair
pair_changed terms p = (valued terms p.0, valued terms p.1)

abbrev pub order_changed : (ℕ → ℕ) → ℕ × ℕ → ℕ × ℕ
order_changed times p = (times p.0, times p.1)

abbrev pub link_changed : (ℕ → ℕ) → Link → Link
link_changed times l = record { from = times l.from; conclusion = l.conclusion; to = times l.to; premise = l.premise }

abbrev pub same_source : Link → Link → Bool
same_source l m = (l.from == m.from) && (l.conclusion == m.conclusion)

abbrev pub same_premise : Link → Link → Bool
same_premise l m = (l.to == m.to) && (l.premise == m.premise)

abbrev pub has_link : List Link → Link → Bool
has_link [] l = false
has_link (m ∷ ms) l = same_source m l && same_premise m l || has_link ms l

-- these links and, behind them, each of the others that isn't there yet: equal links are one
abbrev pub joined_links : List Link → List Link → List Link
joined_links kept [] = kept
joined_links kept (l ∷ ls) = joined_links (if has_link kept l then kept else kept ++ l ∷ []) ls

abbrev pub system_changed : (Variable → Term Variable) → (ℕ → ℕ) → System → System
system_changed terms times s = record {
  events = map (event_changed terms times) s.events;
  formulas = map (changed (free_change terms times)) s.formulas;
  spent = map (changed (free_change terms times)) s.spent;
  unequal = map (pair_changed terms) s.unequal;
  links = joined_links [] (map (link_changed times) s.links);
  order = map (order_changed times) s.order;
  last = option_map times s.last;
  closed = s.closed;
  next = s.next;
}

-- the pairs that make two lists of arguments the same, if there are as many of the one as of the other
abbrev pub argument_pairs : Terms Variable → Terms Variable → Option (List Pair)
argument_pairs none none = Some []
argument_pairs none (more u us) = None
argument_pairs (more t ts) none = None
argument_pairs (more t ts) (more u us) = option_map (λ (pairs : List Pair). (t, u) ∷ pairs) (argument_pairs ts us)

abbrev pub both_pairs : Option (List Pair) → Option (List Pair) → Option (List Pair)
both_pairs (Some pairs) (Some more_pairs) = Some (pairs ++ more_pairs)
both_pairs (Some pairs) None = None
both_pairs None other = None

abbrev pub fact_pairs : List (Fact Variable) → List (Fact Variable) → Option (List Pair)
fact_pairs [] [] = Some []
fact_pairs [] (g ∷ gs) = None
fact_pairs (f ∷ fs) [] = None
fact_pairs (f ∷ fs) (g ∷ gs) =
    if bytes_eq f.symbol g.symbol && same_flag f.persistent g.persistent then both_pairs (argument_pairs f.args g.args) (fact_pairs fs gs) else None

abbrev pub action_pair : Action Variable → Action Variable → Option (List Pair)
action_pair a b = if bytes_eq a.symbol b.symbol then argument_pairs a.args b.args else None

abbrev pub action_pairs : List (Action Variable) → List (Action Variable) → Option (List Pair)
action_pairs [] [] = Some []
action_pairs [] (b ∷ bs) = None
action_pairs (a ∷ rest) [] = None
action_pairs (a ∷ rest) (b ∷ bs) = both_pairs (action_pair a b) (action_pairs rest bs)

-- What makes two happenings one: pairs of terms that have to be the same, times that have to be one, and the way in which what then happens is learnt,
-- where something is.
pub record Merging : Type 0 where
  pub pairs : List Pair
  pub times : List (ℕ × ℕ)
  pub way : Way

-- the messages that two chains both have
abbrev pub common_pairs : List (Term Variable) → List (Term Variable) → List Pair
common_pairs [] us = []
common_pairs (t ∷ ts) [] = []
common_pairs (t ∷ ts) (u ∷ us) = (t, u) ∷ common_pairs ts us

abbrev pub longer : List (Term Variable) → List (Term Variable) → List (Term Variable)
longer ts us = if nat_lt (length ts) (length us) then us else ts

-- their steps are one, and what both chains have is the same
abbrev pub chains_merging : Bool → ℕ × ℕ → List (Term Variable) → List (Term Variable) → Way → Option Merging
chains_merging true times ts us way = Some (record { pairs = common_pairs ts us; times = times ∷ []; way = way })
chains_merging false times ts us way = None

abbrev pub same_way : Way → Option Merging
same_way way = Some (record { pairs = []; times = []; way = way })

-- Any way is one with that which says nothing. Two chains are one where one of them begins with the other; one that is done is no shorter.
abbrev pub ways_merging : Way → Way → Option Merging
ways_merging anyhow way = same_way way
ways_merging way anyhow = same_way way
ways_merging public_name public_name = same_way public_name
ways_merging own_name own_name = same_way own_name
ways_merging constructed constructed = same_way constructed
ways_merging (chain_begun i k ts) (chain_begun j l us) = chains_merging (k == l) (i, j) ts us (chain_begun i k (longer ts us))
ways_merging (chain_begun i k ts) (chain_done j l us) = chains_merging ((k == l) && not (nat_lt (length us) (length ts))) (i, j) ts us (chain_done j l us)
ways_merging (chain_done i k ts) (chain_begun j l us) = chains_merging ((k == l) && not (nat_lt (length ts) (length us))) (i, j) ts us (chain_done i k ts)
ways_merging (chain_done i k ts) (chain_done j l us) = chains_merging ((k == l) && (length ts == length us)) (i, j) ts us (chain_done i k ts)
ways_merging way other = None

abbrev pub with_pair : Pair → Merging → Merging
with_pair p m = record { pairs = p ∷ m.pairs; times = m.times; way = m.way }

-- nothing is learnt
abbrev pub of_pairs : List Pair → Merging
of_pairs pairs = record { pairs = pairs; times = []; way = anyhow }

-- Two steps are one where they are of the same rule and all their facts are the same, two sendings where their messages are, two learnings where also
-- their ways are one; and nothing is one with what is of another kind.
abbrev pub merging : Happening → Happening → Option Merging
merging (rule_step r f) (rule_step q g) =
    option_map of_pairs
    (if bytes_eq r q
    then both_pairs (fact_pairs f.premises g.premises) (both_pairs (action_pairs f.actions g.actions) (fact_pairs f.conclusions g.conclusions))
    else None)
merging (sending m) (sending n) = Some (of_pairs ((m, n) ∷ []))
merging (learning m way) (learning n other) = option_map (with_pair (m, n)) (ways_merging way other)
merging a b = None

abbrev pub unifier_of : Option (List Pair) → Option (List Binding)
unifier_of pairs = option_and_then mgu pairs

-- the smaller and the larger
abbrev pub smaller : ℕ → ℕ → ℕ
smaller i j = if nat_lt j i then j else i

abbrev pub larger : ℕ → ℕ → ℕ
larger i j = if nat_lt j i then i else j

abbrev pub fact_pair : Fact Variable → Fact Variable → Option (List Pair)
fact_pair f g = if bytes_eq f.symbol g.symbol && same_flag f.persistent g.persistent then argument_pairs f.args g.args else None
