-- What an event of a decided system learns: it is settled how.
use Rattle.std.proofs.Common.{◌≡◌, ℕ, Bool, true, false, not, List, [], ◌∷◌, Option, Some, None, is_none, if◌then◌else◌, option_map, option_and_then, inl, inr, refl, sym, ap, ◌∙◌, subst}
use Rattle.std.proofs.lemmas.Bool.{or_from}
use Rattle.sp_spec.specs.Lists.{Member}
use Rattle.sp_spec.specs.Term.{Sort, Msg, Fresh, Pub, Variable, Term, var, constant, name, app, none, more}
use Rattle.sp_spec.specs.Signature.{Symbol}
use Rattle.sp_spec.specs.Theory.{Theory}
use Rattle.sp_spec.specs.Log.{Log}
use Rattle.sp_spec.proofs.Lists.{every_member}
use Rattle.sp_spec_system.specs.System.{Way, anyhow, public_name, own_name, constructed, chain_begun, chain_done, Happening, rule_step, sending, learning, Event, System}
use Rattle.sp_spec_system.specs.Solutions.{Valuation, HappensAt, HappensIn, Solves}
use Rattle.sp_spec_system.specs.Numbered.{names_in, InEvent, InHappening}
use Rattle.sp_spec_system.specs.Move.{know, chain, Context}
use Rattle.sp_spec_know.specs.SettleLearn.{Settling, settling, settling_of, settled_event, with_settling, of_sort_pub, made_of}
use Rattle.sp_spec_know.specs.Know.{learnt_anyhow, is_message_variable, if_wanted, wanted_at}
use Rattle.sp_spec_know.specs.Chain.{Begun, begun}
use Rattle.sp_spec_solved.specs.Naming.{in_step, if_fresh}
use Rattle.sp_spec_solved.specs.Candidate.{may_be_public, is_settled}
use Rattle.sp_spec_proof.specs.Finish.{is_decided}
use Rattle.sp_spec_proof.specs.Kinds.{EventKind, event_kinds, at_message, passed_last, no_message_variable, is_fresh_variable, is_application}
use Rattle.sp_spec_proof.specs.Rows.{row_settle_learn}
use Rattle.sp_law_system.specs.Proofs.{IsWellMade}
use Rattle.sp_law_system.proofs.Solutions.{Under, TimeUnder}
use Rattle.sp_law_decided.proofs.Entries.{stands_among}
use Rattle.sp_law_finish.proofs.Moves.{none_at, no_place}
use Rattle.sp_law_finish.proofs.Events.{none_of, no_image, none_picked, kind_there}
use Rattle.sp_law_finish.proofs.Names.{named}

-- whether it is settled how a message is learnt doesn't depend on the time
sort_unsettled : (sort : Sort) (i j : ℕ) → of_sort_pub sort i ≡ None → of_sort_pub sort j ≡ None
sort_unsettled Pub i j e = absurd cc
sort_unsettled Msg i j e = refl
sort_unsettled Fresh i j e = refl

made_unsettled : (b : Bool) (i j : ℕ) (parts : List (Term Variable)) → made_of b i parts ≡ None → made_of b j parts ≡ None
made_unsettled true i j parts e = absurd cc
made_unsettled false i j parts e = refl

unsettled : (symbols : List Symbol) (i j : ℕ) (m : Term Variable) → settling symbols i m ≡ None → settling symbols j m ≡ None
unsettled symbols i j (var x) e = sort_unsettled x.sort i j e
unsettled symbols i j (constant c) e = absurd cc
unsettled symbols i j (name n) e = refl
unsettled symbols i j (app f none) e = made_unsettled _ i j [] e
unsettled symbols i j (app f (more t none)) e = refl
unsettled symbols i j (app f (more t (more u none))) e = made_unsettled _ i j (t ∷ u ∷ []) e
unsettled symbols i j (app f (more t (more u (more w ws)))) e = refl

-- what is learnt anyhow and isn't wanted is a message variable, or settled
wanted : (symbols : List Symbol) (m : Term Variable) → is_message_variable m ≡ false → settling symbols 0 m ≡ None → if_wanted symbols m ≡ Some m
wanted symbols m no_variable open_yet =
    ap (λ (b : Bool). if b then None else Some m)
    (or_from (is_message_variable m) (not (is_none (settling symbols 0 m))) no_variable (ap (λ (o : Option Settling). not (is_none o)) open_yet))

module _ (context : Context) (s : System) (e : is_decided context s ≡ true) (made : IsWellMade context s) (d : Event) (stands : Member d s.events) where
  abbrev symbols : List Symbol
  symbols = context.rules.signature.symbols

  module _ (m : Term Variable) (learns : d.happening ≡ learning m anyhow) where
    open_yet : settling symbols 0 m ≡ None
    open_yet =
        let none = none_picked (settled_event symbols) s.events (no_image (with_settling s) _ (no_place context s e row_settle_learn
        (inr (inr (inr (inr (inr (inr (inr (inr (inr (inr (inr (inr (inr (inl refl)))))))))))))))) d stands in
        unsettled symbols d.time 0 m (sym (ap (settling_of symbols d.time) learns) ∙ none)

    -- a move at the message is an instance
    not_known : is_message_variable m ≡ false → (kind : EventKind) → Member kind event_kinds → Member (know d.time) (kind.1 d) → ⊥
    not_known no_variable kind k among =
        let asks : Event → Option (Term Variable) = λ (x : Event). option_and_then (if_wanted symbols) (learnt_anyhow x.happening) in
        let nowhere : wanted_at symbols s d.time ≡ None = no_image _ (wanted_at symbols s d.time) (none_at context s e kind k d stands (know d.time) among) in
        let none = none_of asks s.events made.once d stands nowhere in
        let there = ap (λ (h : Happening). option_and_then (if_wanted symbols) (learnt_anyhow h)) learns ∙ wanted symbols m no_variable open_yet in
        absurd cc

    kind_of : (move : Term Variable → Bool) (rank : ℕ) → Member (rank, at_message know learnt_anyhow move) event_kinds → move m ≡ true → is_message_variable m ≡ false → ⊥
    kind_of move rank k passes no_variable =
        not_known no_variable (rank, at_message know learnt_anyhow move) k (kind_there know learnt_anyhow move d m (ap learnt_anyhow learns) passes)

  -- ---- what is learnt anyhow

  of_sort : (x : Variable) (sort : Sort) → x.sort ≡ sort → d.happening ≡ learning (var x) anyhow → if_fresh x.sort false true ≡ true
  of_sort x Msg is learns =
      let among = subst (λ (h : Happening). Member x (in_step h)) (sym learns) (inl refl) in
      absurd (named context s e made x (stands_among s.events d x stands among) is)
  of_sort x Fresh is learns = absurd (kind_of (var x) learns is_fresh_variable 8 (inr (inr (inl refl))) (rw (is) refl) (rw (is) refl))
  of_sort x Pub is learns = rw (is) refl

  anyhow_public : (m : Term Variable) → d.happening ≡ learning m anyhow → may_be_public m ≡ true
  anyhow_public (var x) learns = of_sort x x.sort refl learns
  anyhow_public (constant c) learns = refl
  anyhow_public (name n) learns =
      let N = names_in context.public_names in
      let within = every_member (InEvent N (Under s.next) (TimeUnder s.next)) s.events d stands made.numbered.events in
      absurd (subst (InHappening N (Under s.next) (TimeUnder s.next)) learns within.1).0
  anyhow_public (app f ts) learns = absurd (kind_of (app f ts) learns is_application 9 (inr (inr (inr (inl refl)))) refl refl)

  -- ---- a chain that has begun

  module _ (b : Begun) (begins : begun d.happening ≡ Some b) where
    chain_kind : (kind : Term Variable → Bool) (rank : ℕ) → Member (rank, at_message chain passed_last kind) event_kinds → kind b.last ≡ true → ⊥
    chain_kind kind rank k passes =
        let passed = ap (option_map (λ (x : Begun). x.last)) begins in
        let among = kind_there chain passed_last kind d b.last passed passes in
        let nowhere = no_image _ _ (none_at context s e (rank, at_message chain passed_last kind) k d stands (chain d.time) among) in
        let nothing = none_of (λ (x : Event). begun x.happening) s.events made.once d stands nowhere in
        absurd cc

    by_last : (c : Bool) → is_message_variable b.last ≡ c → ⊥
    by_last true is = chain_kind is_message_variable 10 (inr (inr (inr (inr (inl refl))))) is
    by_last false is = chain_kind no_message_variable 6 (inl refl) (ap not is)

    not_begun : ⊥
    not_begun = by_last (is_message_variable b.last) refl

  module _ (theory : Theory) (log : Log) (v : Valuation) (solves : Solves theory log v s) where
    happens : HappensIn log v d
    happens = every_member (HappensIn log v) s.events d stands solves.events

    by_way : (m : Term Variable) (way : Way) → d.happening ≡ learning m way → is_settled (learning m way) ≡ true
    by_way m anyhow learns = anyhow_public m learns
    by_way m public_name learns = refl
    by_way m own_name learns = refl
    by_way m constructed learns = refl
    by_way m (chain_begun j k []) learns = absurd (subst (HappensAt log (v.times d.time) v) learns happens).2.2
    by_way m (chain_begun j k (t ∷ ts)) learns = absurd (not_begun _ (ap begun learns))
    by_way m (chain_done j k ts) learns = refl

    by_happening : (h : Happening) → d.happening ≡ h → is_settled h ≡ true
    by_happening (rule_step r facts) is = refl
    by_happening (sending m) is = refl
    by_happening (learning m way) is = by_way m way is

    pub settled : is_settled d.happening ≡ true
    settled = by_happening d.happening refl
