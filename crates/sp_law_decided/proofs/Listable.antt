-- A decided system suggests a log where it has a solution.
use Rattle.std.proofs.Common.{◌≡◌, ◌<◌, ℕ, false, List, length, refl, arith}
use Rattle.std.proofs.lemmas.Bool.{false_from_ne_true}
use Rattle.sp_spec.specs.Lists.{Member, Every, AtPlace}
use Rattle.sp_spec.proofs.Lists.{every_member, position_below}
use Rattle.sp_spec.proofs.Logs.{entry_behind}
use Rattle.sp_spec.specs.Term.{Variable}
use Rattle.sp_spec.specs.Rule.{Fact}
use Rattle.sp_spec.specs.Theory.{Theory}
use Rattle.sp_spec.specs.Log.{Log, step, IsLog, premise_sources, is_fr}
use Rattle.sp_spec_system.specs.System.{Event, Link, System, happening_premises}
use Rattle.sp_spec_system.specs.Solutions.{Valuation, Solves, LinkHolds, IsBefore}
use Rattle.sp_spec_system.specs.Order.{is_cyclic}
use Rattle.sp_law_formula.proofs.InOrder.{cyclic_contradicts}
use Rattle.sp_law_candidate.specs.Laws.{HasSourceEvent, IsListable}
use Rattle.sp_law_candidate.proofs.Least.{all_are_listed}
use Rattle.sp_law_decided.specs.Decided.{IsDecided}
use Rattle.sp_law_decided.proofs.Times.{link_time}
use Rattle.sp_law_decided.proofs.Whole.{event_at}
use Rattle.sp_law_decided.proofs.Sources.{link_is, link_there, source_below}

-- what a link begins at is a position of the log
pub link_below : (theory : Theory) (entries : Log) → IsLog theory entries → (v : Valuation) (l : Link) → LinkHolds entries v l → v.times l.from < length entries
link_below theory entries is_log v l h =
    let b = entry_behind theory entries is_log (v.times l.to) (step h.0 h.1 h.2) h.3 in
    let early = source_below b.past h.1.premises h.2 (b.keeps premise_sources).0 l.premise (v.times l.from) l.conclusion h.4 in
    let late = position_below entries (v.times l.to) (step h.0 h.1 h.2) h.3 in
    let is = b.position in omega arith

is_acyclic : (log : Log) (v : Valuation) (order : List (ℕ × ℕ)) → Every (IsBefore log v) order → is_cyclic order ≡ false
is_acyclic log v order h = false_from_ne_true (is_cyclic order) (λ e. cyclic_contradicts log v order h e)

module _ (theory : Theory) (constants : List (List ℕ)) (s : System) (decided : IsDecided constants s)
    (entries : Log) (is_log : IsLog theory entries) (v : Valuation) (solves : Solves theory entries v s) where
  given : (e : Event) → Member e s.events → (p : ℕ) (f : Fact Variable) → AtPlace (happening_premises e.happening) p f → is_fr f ≡ false → HasSourceEvent s e.time p
  given e m p f a none =
      let linked = decided.linked e m p f a none in
      let first = link_there s.links e.time p linked.0 linked.1 linked.2 linked.3 in
      let is = link_is s.links e.time p first.0 first.1 in
      let below = link_below theory entries is_log v first.0 (every_member (LinkHolds entries v) s.links first.0 is.0 solves.links) in
      let listing = all_are_listed s.order (is_acyclic entries v s.order solves.order) (length s.events) s.events refl in
      let source = event_at theory constants s decided entries v solves listing.0 listing.1 first.0.from (link_time s first.0 is.0) below in
      (first.0, first.1, source.0, source.1, source.2)

  pub is_listable : IsListable s
  is_listable = record { settled = decided.settled; given = given; placed = decided.placed; acyclic = is_acyclic entries v s.order solves.order }
