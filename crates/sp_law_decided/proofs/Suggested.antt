-- The entries that a listing suggests: at each place that of the event there.
use Rattle.std.proofs.Common.{◌≡◌, ℕ, zero, suc, List, [], ◌∷◌, length, Option, Some, option_map, option_and_then, refl, sym, ap, ◌∙◌, subst}
use Rattle.sp_spec.specs.Lists.{AtPlace}
use Rattle.sp_spec.proofs.Options.{if_some, mapped, then_some}
use Rattle.sp_spec.specs.Term.{Values}
use Rattle.sp_spec.specs.Log.{Entry, Source}
use Rattle.sp_spec_system.specs.System.{Event, Link, System}
use Rattle.sp_spec_solved.specs.Listing.{in_order}
use Rattle.sp_spec_solved.specs.Naming.{values_of}
use Rattle.sp_spec_solved.specs.Candidate.{entry_at, event_sources, entries_of, is_ready, logged, candidate}

-- what comes first, and what is made of it
pub first_there : {A B C : Type 0} (make : A → B → C) (first : Option A) (rest : Option B) (all : C) → option_and_then (λ a. option_map (λ b. make a b) rest) first ≡ Some all
    → (a : A) × (b : B) × (first ≡ Some a) × (rest ≡ Some b) × (all ≡ make a b)
first_there make first rest all e =
    let f = then_some (λ a. option_map (λ b. make a b) rest) first all e in
    let r = mapped (λ b. make f.0 b) rest all f.2 in
    (f.0, r.0, f.1, r.1, r.2)

module _ (listed : List Event) (links : List Link) (w : Values) where
  -- the entry is the one that is suggested for the event
  abbrev pub IsSuggested : Event → Entry → Type 0
  IsSuggested e d = (sources : List Source) × (event_sources listed links e ≡ Some sources) × (d ≡ entry_at listed w e.happening sources)

  pub as_many_entries : (es : List Event) (entries : List Entry) → entries_of listed links w es ≡ Some entries → length entries ≡ length es
  as_many_entries [] entries k = ap length (sym (let none : List Entry = [] in let g : none ≡ entries = cc in g))
  as_many_entries (e ∷ es) entries k =
      let r = first_there (λ (sources : List Source) (ds : List Entry). entry_at listed w e.happening sources ∷ ds) (event_sources listed links e) (entries_of listed links w es) entries k in
      ap length r.4 ∙ ap suc (as_many_entries es r.1 r.3)

  pub suggested_at : (es : List Event) (entries : List Entry) → entries_of listed links w es ≡ Some entries → (k : ℕ) (d : Entry) → AtPlace entries k d
      → (e : Event) × AtPlace es k e × IsSuggested e d
  suggested_at [] entries k p d a = absurd (subst (λ (ds : List Entry). AtPlace ds p d) (sym (let none : List Entry = [] in let g : none ≡ entries = cc in g)) a)
  suggested_at (e ∷ es) entries k zero d a =
      let r = first_there (λ (sources : List Source) (ds : List Entry). entry_at listed w e.happening sources ∷ ds) (event_sources listed links e) (entries_of listed links w es) entries k in
      let b : AtPlace (entry_at listed w e.happening r.0 ∷ r.1) zero d = subst (λ (ds : List Entry). AtPlace ds zero d) r.4 a in
      (e, refl, (r.0, r.2, sym b))
  suggested_at (e ∷ es) entries k (suc p) d a =
      let r = first_there (λ (sources : List Source) (ds : List Entry). entry_at listed w e.happening sources ∷ ds) (event_sources listed links e) (entries_of listed links w es) entries k in
      suggested_at es r.1 r.3 p d (subst (λ (ds : List Entry). AtPlace ds (suc p) d) r.4 a)

-- what a system suggests are the entries of its listing
pub record IsListing (constants : List (List ℕ)) (s : System) (entries : List Entry) : Type 0 where
  pub listed : List Event
  pub is_order : in_order s.order s.events ≡ Some listed
  pub are : entries_of listed s.links (values_of constants listed) listed ≡ Some entries

pub listing_of : (constants : List (List ℕ)) (s : System) (entries : List Entry) → candidate constants s ≡ Some entries → IsListing constants s entries
listing_of constants s entries e =
    let ready = if_some (is_ready s) (option_and_then (logged constants s.links) (in_order s.order s.events)) entries e in
    let r = then_some (logged constants s.links) (in_order s.order s.events) entries ready.1 in
    record { listed = r.0; is_order = r.1; are = r.2 }
