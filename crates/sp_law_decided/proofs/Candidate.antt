-- Each solution's log of a decided system becomes the suggested one by a list of exchanges of names.
use Rattle.std.proofs.Common.{◌≡◌, ℕ, List, [], ◌∷◌, ◌++◌, length, map, inl, inr, refl, sym, ap, ◌∙◌, subst}
use Rattle.std.proofs.lemmas.List.{map-append}
use Rattle.sp_spec.specs.Lists.{Member, Every, AtPlace, AtPosition, newest_first}
use Rattle.sp_spec.proofs.Lists.{every_member, every_from, place_map, place_member, length_map, newest_count, newest_twice}
use Rattle.sp_spec.specs.Term.{Sort, Msg, Fresh, Pub, Variable, Term, var, constant, valued}
use Rattle.sp_spec.specs.Signature.{HasSort}
use Rattle.sp_spec.specs.Theory.{Theory}
use Rattle.sp_spec.specs.Log.{Log, Entry, IsLog}
use Rattle.sp_spec_system.specs.System.{System}
use Rattle.sp_spec_system.specs.Solutions.{Valuation, Solves, AreUnequal}
use Rattle.sp_spec_solved.specs.Naming.{in_events, variables_of, values_of}
use Rattle.sp_law_candidate.proofs.Names as names
use Rattle.sp_law_candidate.proofs.Ready.{suggests}
use Rattle.sp_law_exchange.specs.Renaming.{renamed, entry_renamed, log_renamed}
use Rattle.sp_law_exchange.specs.Exchange.{Exchange, exchanges, IsUnlisted}
use Rattle.sp_law_exchange.specs.Leading.{AreApart, HaveNone, AreOfOneKind, leading_values}
use Rattle.sp_law_exchange.proofs.LeadingValues.{values_lead, sorts_are_kinds}
use Rattle.sp_law_exchange.proofs.ExchangesKeep.{unlisted_stay}
use Rattle.sp_law_decided.specs.Decided.{IsDecided, StandApart}
use Rattle.sp_law_decided.specs.Laws.{DecidedLogsAreTheCandidate}
use Rattle.sp_law_decided.proofs.Places.{same_lists, position_place}
use Rattle.sp_law_decided.proofs.Whole.{of_system, as_many, position_is}
use Rattle.sp_law_decided.proofs.Naming.{apart_by_sorts, values_unlisted}
use Rattle.sp_law_decided.proofs.Suggested.{as_many_entries, suggested_at, IsListing, listing_of}
use Rattle.sp_law_decided.proofs.Entries.{stands_among, stands_in, entry_is}
use Rattle.sp_law_decided.proofs.Listable.{is_listable}

newest_map : {A B : Type 0} (f : A → B) (xs : List A) → newest_first (map f xs) ≡ map f (newest_first xs)
newest_map f [] = refl
newest_map f (x ∷ xs) = ap (λ ys. ys ++ f x ∷ []) (newest_map f xs) ∙ sym (map-append f (newest_first xs) (x ∷ []))

module _ (theory : Theory) (constants : List (List ℕ)) (s : System) (decided : IsDecided constants s)
    (log : Log) (is_log : IsLog theory log) (v : Valuation) (solves : Solves theory log v s)
    (entries : List Entry) (listing : IsListing constants s entries) where
  apart_values : (t u : Term Variable) → StandApart s t u → valued v.terms t ≡ valued v.terms u → ⊥
  apart_values t u (inl m) e = (every_member (AreUnequal theory v) s.unequal (t, u) m solves.unequal).0 e
  apart_values t u (inr m) e = (every_member (AreUnequal theory v) s.unequal (u, t) m solves.unequal).0 (sym e)

  -- a variable of the listing is one of the system
  in_system : (x : Variable) → Member x (in_events listing.listed) → Member x (in_events s.events)
  in_system x m =
      let r = stands_in listing.listed x m in
      stands_among s.events r.0 x (of_system theory constants s decided log v solves listing.listed listing.is_order r.0 r.1) r.2

  named : (x : Variable) → Member x (in_events listing.listed) → x.sort ≡ Msg → ⊥
  named x m = decided.named x (in_system x m)

  -- ---- the values of the solution

  values_apart : AreApart (in_events listing.listed) v.terms
  values_apart =
      apart_by_sorts (in_events listing.listed) named v.terms (λ x. (solves.sorts x).0)
      (λ x y m k e n. apart_values (var x) (var y) (decided.apart x y (in_system x m) (in_system y k) e n))

  values_none : HaveNone constants (in_events listing.listed) v.terms
  values_none x m c k e = at x.sort refl
    where
      at : (sort : Sort) → x.sort ≡ sort → ⊥
      at Msg is = named x m is
      at Fresh is = subst (λ (r : Sort). HasSort r (constant c)) is (subst (HasSort x.sort) e (solves.sorts x).0)
      at Pub is = apart_values (var x) (constant c) (decided.others x (in_system x m) is c k) e

  -- ---- the values of the candidate

  among : (x : Variable) → Member x (in_events listing.listed) → Member x (variables_of listing.listed)
  among x m = names.all_seen x (in_events listing.listed) [] m

  names_apart : AreApart (in_events listing.listed) (values_of constants listing.listed)
  names_apart x y m k e = names.apart constants (variables_of listing.listed) x y (among x m) (among y k) e

  names_none : HaveNone constants (in_events listing.listed) (values_of constants listing.listed)
  names_none x m c k e = names.others constants (variables_of listing.listed) x (among x m) c k e

  -- ---- the log

  abbrev pub between : List Exchange
  between = leading_values (in_events listing.listed) v.terms (values_of constants listing.listed)

  pub between_unlisted : Every (IsUnlisted constants) between
  between_unlisted = values_unlisted constants (in_events listing.listed) v.terms (values_of constants listing.listed) values_none names_none

  pub between_leads : (x : Variable) → Member x (in_events listing.listed) → renamed (exchanges between) (v.terms x) ≡ values_of constants listing.listed x
  between_leads x m =
      every_member (λ (y : Variable). renamed (exchanges between) (v.terms y) ≡ values_of constants listing.listed y) (in_events listing.listed) x m
      (values_lead v.terms (values_of constants listing.listed) (in_events listing.listed) values_apart names_apart
      (every_from (λ (y : Variable). AreOfOneKind (v.terms y) (values_of constants listing.listed y)) (in_events listing.listed)
      (λ y k. sorts_are_kinds y.sort (v.terms y) (values_of constants listing.listed y) (named y k) (solves.sorts y).0 (names.respects constants (variables_of listing.listed) y))))

  module _ (es : List Exchange) (proper : Every (IsUnlisted constants) es)
      (leads : (x : Variable) → Member x (in_events listing.listed) → renamed (exchanges es) (v.terms x) ≡ values_of constants listing.listed x) where
    there : (k : ℕ) (d : Entry) → AtPlace entries k d → AtPlace (map (entry_renamed (exchanges es)) (newest_first log)) k d
    there k d a =
        let r = suggested_at listing.listed s.links (values_of constants listing.listed) listing.listed entries listing.are k d a in
        let m = place_member listing.listed k r.0 r.1 in
        let b = entry_is theory constants s decided log is_log v solves listing.listed listing.is_order
        (exchanges es) (unlisted_stay es constants proper) (values_of constants listing.listed) leads r.0 m d r.2 in
        let position = position_is theory constants s decided log v solves listing.listed listing.is_order k r.0 r.1 in
        let at_position = subst (λ (p : ℕ). AtPosition log p b.0) position b.1 in
        subst (AtPlace (map (entry_renamed (exchanges es)) (newest_first log)) k) b.2
        (place_map (entry_renamed (exchanges es)) (newest_first log) k b.0 (position_place log k b.0 at_position))

    lengths : length entries ≡ length (map (entry_renamed (exchanges es)) (newest_first log))
    lengths =
        as_many_entries listing.listed s.links (values_of constants listing.listed) listing.listed entries listing.are
        ∙ as_many theory constants s decided log v solves listing.listed listing.is_order
        ∙ sym (newest_count log) ∙ sym (length_map (entry_renamed (exchanges es)) (newest_first log))

    becomes : log_renamed (exchanges es) log ≡ newest_first entries
    becomes =
        ap (map (entry_renamed (exchanges es))) (sym (newest_twice log))
        ∙ sym (newest_map (entry_renamed (exchanges es)) (newest_first log))
        ∙ ap newest_first (sym (same_lists entries (map (entry_renamed (exchanges es)) (newest_first log)) lengths there))

pub decided_logs_lem : DecidedLogsAreTheCandidate
decided_logs_lem =
    record {
      each = λ theory constants s decided log is_log v solves.
          let candidate_there = suggests constants s (is_listable theory constants s decided log is_log v solves) in
          let listing = listing_of constants s candidate_there.0 candidate_there.1 in
          let es = between theory constants s decided log is_log v solves candidate_there.0 listing in
          let unlisted = between_unlisted theory constants s decided log is_log v solves candidate_there.0 listing in
          let leads = between_leads theory constants s decided log is_log v solves candidate_there.0 listing in
          (candidate_there.0, es, candidate_there.1, unlisted, becomes theory constants s decided log is_log v solves candidate_there.0 listing es unlisted leads);
    }
