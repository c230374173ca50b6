-- The listed events have an entry each where each of their premises is an Fr or has a link from one of them.
use Rattle.std.proofs.Common.{◌≡◌, ℕ, zero, suc, ◌+◌, Bool, true, false, ◌==◌, if◌then◌else◌, List, [], ◌∷◌, Some, option_map, option_and_then, inl, inr, refl, sym, ap, ◌∙◌, subst, arith}
use Rattle.std.proofs.lemmas.Bool.{eq-eqb}
use Rattle.sp_spec.specs.Lists.{Member, Every, AtPlace}
use Rattle.sp_spec.specs.Term.{Variable, Values}
use Rattle.sp_spec.specs.Rule.{Fact}
use Rattle.sp_spec.specs.Log.{Entry, Source, fresh_rule, conclusion, is_fr}
use Rattle.sp_spec_system.specs.System.{Event, Link, happening_premises}
use Rattle.sp_spec_solved.specs.Candidate.{place_of, first_link, given_by, linked_source, source_of, sources_from, entry_at, event_sources, entries_of}

-- ---- places

pub place_there : (i : ℕ) (es : List Event) (d : Event) → Member d es → d.time ≡ i → (q : ℕ) × (place_of i es ≡ Some q)
place_there i [] d m t = absurd m
place_there i (e ∷ es) d (inl s) t = (0, ap (λ (b : Bool). if b then Some 0 else option_map suc (place_of i es)) (eq-eqb e.time i (ap (λ (a : Event). a.time) s ∙ t)))
place_there i (e ∷ es) d (inr m) t = by_test (e.time == i) (place_there i es d m t)
  where
    by_test : (b : Bool) → (q : ℕ) × (place_of i es ≡ Some q) → (q : ℕ) × ((if b then Some 0 else option_map suc (place_of i es)) ≡ Some q)
    by_test true r = (0, refl)
    by_test false r = (suc r.0, ap (option_map suc) r.1)

-- ---- sources

-- the number of a premise that stands so far behind another
abbrev pub past : ℕ → ℕ → ℕ
past p zero = p
past p (suc k) = past (suc p) k

past-sum : (p k : ℕ) → past p k ≡ p + k
past-sum p zero = omega arith
past-sum p (suc k) = past-sum (suc p) k ∙ omega arith

pub past-first : (k : ℕ) → past zero k ≡ k
past-first k = past-sum zero k ∙ omega arith

module _ (listed : List Event) (links : List Link) where
  -- the first link to the premise is from a listed event
  abbrev pub IsLinked : ℕ → ℕ → Type 0
  IsLinked i p = (l : Link) × (first_link links i p ≡ Some l) × (q : ℕ) × (place_of l.from listed ≡ Some q)

  abbrev HasSource : ℕ → ℕ → Fact Variable → Type 0
  HasSource i p f = (s : Source) × (source_of listed links i p f ≡ Some s)

  abbrev pub HasSources : Event → Type 0
  HasSources e = (ss : List Source) × (event_sources listed links e ≡ Some ss)

  linked_there : (i p : ℕ) → IsLinked i p → (s : Source) × (linked_source listed links i p ≡ Some s)
  linked_there i p h =
      let l = h.0 in (conclusion h.2 l.conclusion, ap (option_and_then (given_by listed)) h.1 ∙ ap (option_map (λ (q : ℕ). conclusion q l.conclusion)) h.3)

  source_there : (i p : ℕ) (f : Fact Variable) → (is_fr f ≡ false → IsLinked i p) → HasSource i p f
  source_there i p f h = at (is_fr f) refl
    where
      at : (b : Bool) → is_fr f ≡ b → (s : Source) × ((if b then Some fresh_rule else linked_source listed links i p) ≡ Some s)
      at true e = (fresh_rule, refl)
      at false e = linked_there i p (h e)

  sources_there : (i p : ℕ) (fs : List (Fact Variable)) → ((k : ℕ) (f : Fact Variable) → AtPlace fs k f → HasSource i (past p k) f) → (ss : List Source) × (sources_from listed links i p fs ≡ Some ss)
  sources_there i p [] h = ([], refl)
  sources_there i p (f ∷ fs) h =
      let first = h zero f refl in
      let rest = sources_there i (suc p) fs (λ k g m. h (suc k) g m) in (
        first.0 ∷ rest.0,
        ap (option_and_then (λ (s : Source). option_map (λ (ss : List Source). s ∷ ss) (sources_from listed links i (suc p) fs))) first.1
            ∙ ap (option_map (λ (ss : List Source). first.0 ∷ ss)) rest.1,
      )

  -- ---- events

  pub event_sourced : (e : Event) → ((p : ℕ) (f : Fact Variable) → AtPlace (happening_premises e.happening) p f → is_fr f ≡ false → IsLinked e.time p) → HasSources e
  event_sourced e h =
      sources_there e.time zero (happening_premises e.happening)
      (λ k f m. subst (λ (n : ℕ). HasSource e.time n f) (sym (past-first k)) (source_there e.time k f (h k f m)))

  pub entries_there : (v : Values) (es : List Event) → Every HasSources es → (entries : List Entry) × (entries_of listed links v es ≡ Some entries)
  entries_there v [] h = ([], refl)
  entries_there v (e ∷ es) h =
      let rest = entries_there v es h.1 in (
        entry_at listed v e.happening h.0.0 ∷ rest.0,
        ap (option_and_then (λ (ss : List Source). option_map (λ (entries : List Entry). entry_at listed v e.happening ss ∷ entries) (entries_of listed links v es))) h.0.1
            ∙ ap (option_map (λ (entries : List Entry). entry_at listed v e.happening h.0.0 ∷ entries)) rest.1,
      )
