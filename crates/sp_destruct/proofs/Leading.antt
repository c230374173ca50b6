-- Values of which a destruction leads from one message to the next are found by matching pattern, result and side messages one after the other.
use Rattle.std.proofs.Common.{◌≡◌, ℕ, List, [], ◌∷◌, Option, Some, None, option_and_then, IsSome, ◌↔◌, refl, sym, ap, ◌∙◌, subst}
use Rattle.sp_spec.specs.Term.{Variable, Term, app, none, more, Ground, Grounds, valued, valued_all}
use Rattle.sp_spec.specs.Destruction.{Destruction}
use Rattle.sp_spec.proofs.Options.{some_same, then_some}
use Rattle.sp_law_conv.proofs.Places.{member_place}
use Rattle.sp_law_equal.specs.Matching.{Bound, value_in, matched, matched_all}
use Rattle.sp_law_equal.proofs.Matches.{is_match, none_matches}
use Rattle.sp_destruct.specs.Links.{sides_from, link_by, AllAmong, AreAt, Leads, LeadsBy, IsNotBefore}
use Rattle.sp_destruct.proofs.Searching.{Fits, sides_found, none_fits}
use Rattle.sp_spec.proofs.Lists.{place_member}

-- ---- terms among messages have places, and terms at places are among them

pub at_among : (learnt : List Ground) (places : List ℕ) (ts : Grounds) → AreAt learnt places ts → AllAmong learnt ts
at_among learnt [] none a = tt
at_among learnt [] (more t ts) a = absurd a
at_among learnt (k ∷ ks) none a = absurd a
at_among learnt (k ∷ ks) (more t ts) a = (place_member learnt k t a.0, at_among learnt ks ts a.1)

pub among_at : (learnt : List Ground) (ts : Grounds) → AllAmong learnt ts → (places : List ℕ) × AreAt learnt places ts
among_at learnt none a = ([], tt)
among_at learnt (more t ts) a = let k = member_place learnt t a.0 in let r = among_at learnt ts a.1 in (k.0 ∷ r.0, (k.1, r.1))

module _ (d : Destruction) (learnt : List Ground) (t u : Ground) where
  -- what is found for pattern and result
  abbrev started : Option (List Bound)
  started = option_and_then (λ bs. matched d.result u bs) (matched d.pattern t [])

  -- pattern, result and side messages as one term, and the messages beside them
  abbrev whole : Term Variable
  whole = app [] (more d.pattern (more d.result d.sides))

  abbrev beside : Grounds → Ground
  beside ms = app [] (more t (more u ms))

  whole_matched : (ms : Grounds) → matched whole (beside ms) [] ≡ option_and_then (λ bs. matched_all d.sides ms bs) started
  whole_matched ms = by_pattern (matched d.pattern t [])
    where
      by_pattern : (o : Option (List Bound))
          → option_and_then (λ (bs : List Bound). option_and_then (λ (cs : List Bound). matched_all d.sides ms cs) (matched d.result u bs)) o
          ≡ option_and_then (λ (bs : List Bound). matched_all d.sides ms bs) (option_and_then (λ (bs : List Bound). matched d.result u bs) o)
      by_pattern None = refl
      by_pattern (Some bs) = refl

  -- values by which it leads are found
  pub leads_fits : (places : List ℕ) → LeadsBy d learnt t u places → (bs : List Bound) × (started ≡ Some bs) × Fits learnt d.sides bs places
  leads_fits places l = by_match (matched whole (beside (valued_all l.0 d.sides)) []) refl
    where
      by_match : (o : Option (List Bound)) → matched whole (beside (valued_all l.0 d.sides)) [] ≡ o
          → (bs : List Bound) × (started ≡ Some bs) × Fits learnt d.sides bs places
      by_match None e =
          let pattern = l.2 in
          let result = l.4 in
          let same : valued l.0 whole ≡ beside (valued_all l.0 d.sides) = cc in
          absurd (none_matches whole (beside (valued_all l.0 d.sides)) e l.0 l.1 same)
      by_match (Some cs) e =
          let h = then_some (λ (bs : List Bound). matched_all d.sides (valued_all l.0 d.sides) bs) started cs (sym (whole_matched (valued_all l.0 d.sides)) ∙ e) in
          (h.0, h.1, record { messages = valued_all l.0 d.sides; at = l.3; bindings = cs; matches = h.2 })

  pub fits_leads : (places : List ℕ) (bs : List Bound) → started ≡ Some bs → Fits learnt d.sides bs places → LeadsBy d learnt t u places
  fits_leads places bs e f =
      let m = is_match whole (beside f.messages) f.bindings (whole_matched f.messages ∙ ap (option_and_then (λ (cs : List Bound). matched_all d.sides f.messages cs)) e ∙ f.matches) in
      let v = value_in f.bindings in
      let pattern : t ≡ valued (value_in f.bindings) d.pattern = cc (m.gives) in
      let result : u ≡ valued (value_in f.bindings) d.result = cc (m.gives) in
      let sides : f.messages ≡ valued_all (value_in f.bindings) d.sides = cc (m.gives) in
      (value_in f.bindings, m.respects, pattern, subst (AreAt learnt places) sides f.at, result)

  pub link_leads : (places : List ℕ) → link_by d learnt t u ≡ Some places → LeadsBy d learnt t u places
  link_leads places e =
      let h = then_some (λ (cs : List Bound). sides_from d.sides learnt cs) started places e in
      fits_leads places h.0 h.1 (sides_found learnt d.sides h.0 places h.2).fits

  pub link_least : (places others : List ℕ) → link_by d learnt t u ≡ Some places → LeadsBy d learnt t u others → IsNotBefore others places
  link_least places others e l =
      let h = then_some (λ (cs : List Bound). sides_from d.sides learnt cs) started places e in
      let f = leads_fits others l in
      let one : f.0 ≡ h.0 = some_same h.0 f.0 (sym h.1 ∙ f.1) in
      (sides_found learnt d.sides h.0 places h.2).least others (subst (λ (bs : List Bound). Fits learnt d.sides bs others) one f.2)

  -- where it leads a link is found
  pub leads_link : (places : List ℕ) → LeadsBy d learnt t u places → IsSome (link_by d learnt t u)
  leads_link places l =
      let f = leads_fits places l in
      by_search f.0 f.1 f.2 (sides_from d.sides learnt f.0) refl
    where
      by_search : (bs : List Bound) → started ≡ Some bs → Fits learnt d.sides bs places → (o : Option (List ℕ)) → sides_from d.sides learnt bs ≡ o
          → IsSome (link_by d learnt t u)
      by_search bs is fits None e = absurd (none_fits learnt d.sides bs e places fits)
      by_search bs is fits (Some found) e =
          subst (λ (o : Option (List ℕ)). IsSome o) (sym (ap (option_and_then (λ (cs : List Bound). sides_from d.sides learnt cs)) is ∙ e)) refl

  pub by_one : IsSome (link_by d learnt t u) ↔ Leads d learnt t u
  by_one = (
    λ s. by_found (link_by d learnt t u) refl s,
    λ l. let r = among_at learnt (valued_all l.0 d.sides) l.3 in leads_link r.0 (l.0, l.1, l.2, r.1, l.4),
  )
    where
      by_found : (o : Option (List ℕ)) → link_by d learnt t u ≡ o → IsSome o → Leads d learnt t u
      by_found None e s = absurd cc
      by_found (Some places) e s =
          let l = link_leads places e in
          (l.0, l.1, l.2, at_among learnt places (valued_all l.0 d.sides) l.3, l.4)
