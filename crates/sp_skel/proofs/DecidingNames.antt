-- The names of the cases of the moves that decide what is open: on two times, on what stands for a message, on two names, and on one more event.
use Rattle.std.proofs.Common.{◌≡◌, ℕ, Bool, true, false, if◌then◌else◌, List, [], ◌∷◌, codes, map, Some, None, refl, subst}
use Rattle.sp_spec.specs.Term.{Msg}
use Rattle.sp_spec.specs.Signature.{Symbol}
use Rattle.sp_spec_forms.specs.Forms.{RuleForms}
use Rattle.sp_spec_text.specs.Lex.{skip}
use Rattle.sp_spec_text.specs.Names.{is_reserved, IsNameWord}
use Rattle.sp_spec_printed.specs.StepLines.{HaveNames}
use Rattle.sp_spec_system.specs.System.{System}
use Rattle.sp_spec_system.specs.Cases.{named}
use Rattle.sp_spec_system.specs.Move.{Side, Context, Case}
use Rattle.sp_spec_formula.specs.Sides.{is_undecided, same_cases}
use Rattle.sp_spec_formula.specs.Top.{of_number, has_variable, by_symbol, top_cases}
use Rattle.sp_spec_graph.specs.Compare.{are_comparable, compare_cases}
use Rattle.sp_spec_graph.specs.More.{another_step, each_step, more_cases}
use Rattle.sp_spec_proof.specs.Finish.{is_decided, finish_cases}
use Rattle.sp_skel.specs.Spelling.{AreNamed}
use Rattle.sp_skel.proofs.CaseNames.{send_named, learn_named}
use Rattle.sp_skel.proofs.NamedCases.{CasesNamed, named_append, rule_named}

-- ---- the names

before_named : IsNameWord (codes "before")
unfolding is_reserved skip
before_named = (refl, (refl, refl))

same_named : IsNameWord (codes "same")
unfolding is_reserved skip
same_named = (refl, (refl, refl))

after_named : IsNameWord (codes "after")
unfolding is_reserved skip
after_named = (refl, (refl, refl))

unequal_named : IsNameWord (codes "unequal")
unfolding is_reserved skip
unequal_named = (refl, (refl, refl))

pub_named : IsNameWord (codes "pub")
unfolding is_reserved skip
pub_named = (refl, (refl, refl))

fresh_named : IsNameWord (codes "fresh")
unfolding is_reserved skip
fresh_named = (refl, (refl, refl))

closed_named : IsNameWord (codes "closed")
unfolding is_reserved skip
closed_named = (refl, (refl, refl))

-- ---- the cases

-- where there are cases only if it is so
if_so : (b : Bool) (made cs : List Case) → CasesNamed made → (if b then Some made else None) ≡ Some cs → CasesNamed cs
if_so true made cs h e = subst CasesNamed (let f : made ≡ cs = cc in f) h
if_so false made cs h e = absurd (let none : ⊥ = cc in none)

unless : (b : Bool) (made cs : List Case) → CasesNamed made → (if b then None else Some made) ≡ Some cs → CasesNamed cs
unless true made cs h e = absurd (let none : ⊥ = cc in none)
unless false made cs h e = subst CasesNamed (let f : made ≡ cs = cc in f) h

pub compare_named : (s : System) (i j : ℕ) (cs : List Case) → compare_cases s i j ≡ Some cs → CasesNamed cs
compare_named s i j cs e =
    if_so (are_comparable s i j) _ cs (before_named.0, before_named.1, (same_named.0, same_named.1, (after_named.0, after_named.1, tt))) e

pub sides_named : (constants : List (List ℕ)) (s : System) (a b : Side) (cs : List Case) → same_cases constants s a b ≡ Some cs → CasesNamed cs
sides_named constants s a b cs e = if_so (is_undecided constants s a b) _ cs (same_named.0, same_named.1, (unequal_named.0, unequal_named.1, tt)) e

symbols_named : (s : System) (k : ℕ) (symbols : List Symbol) → HaveNames symbols → CasesNamed (map (by_symbol s k) symbols)
symbols_named s k [] h = tt
symbols_named s k (f ∷ symbols) h = (h.0.0, h.0.1, symbols_named s k symbols h.1)

pub top_named : (symbols : List Symbol) (s : System) (k : ℕ) (cs : List Case) → HaveNames symbols → top_cases symbols s k ≡ Some cs → CasesNamed cs
top_named symbols s k cs h e =
    if_so (has_variable s (of_number Msg k)) _ cs (pub_named.0, pub_named.1, (fresh_named.0, fresh_named.1, symbols_named s k symbols h)) e

steps_named : (rules : List RuleForms) (s : System) → AreNamed rules → CasesNamed (each_step rules s)
steps_named [] s h = tt
steps_named (r ∷ rules) s h =
    let made = map (another_step s r.name) r.forms in
    named_append (named r.name made) (each_step rules s) (rule_named r.name made h.0 h.1) (steps_named rules s h.2)

pub more_named : (rules : List RuleForms) (s : System) (cs : List Case) → AreNamed rules → more_cases rules s ≡ Some cs → CasesNamed cs
more_named rules s cs h e =
    unless s.closed _ cs (closed_named.0, closed_named.1, named_append (each_step rules s) _ (steps_named rules s h) (send_named.0, send_named.1, (learn_named.0, learn_named.1, tt))) e

-- where nothing is left to decide there is no case
pub finish_named : (context : Context) (s : System) (cs : List Case) → finish_cases context s ≡ Some cs → CasesNamed cs
finish_named context s cs e = if_so (is_decided context s) [] cs tt e
