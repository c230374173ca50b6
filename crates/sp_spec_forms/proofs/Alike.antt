-- What the tests of sameness of facts and actions tell.
use Rattle.std.proofs.Common.{◌≡◌, ℕ, Bool, true, false, List, [], ◌∷◌, refl, sym, ap, ap₂, ◌∙◌, subst, true≢false}
use Rattle.std.proofs.lemmas.Bool.{and_from, and_parts}
use Rattle.std.proofs.lemmas.Slice.Eq.{bytes_eq-Decides}
use Rattle.sp_spec.specs.Term.{Variable, Terms}
use Rattle.sp_spec.specs.Same.{same_variable, alike_all}
use Rattle.sp_spec.specs.Rule.{Fact, Action, Facts}
use Rattle.sp_spec.proofs.Same.{same_variable_decides, same_all_by_decides}
use Rattle.sp_spec_forms.specs.Alike.{same_flag, same_list, same_action, alike_fact, alike_facts}

alike_all_tells : (ts us : Terms Variable) → alike_all ts us ≡ true → ts ≡ us
alike_all_tells ts us e = (same_all_by_decides same_variable same_variable_decides ts us).0 e

same_flag_tells : (a b : Bool) → same_flag a b ≡ true → a ≡ b
same_flag_tells true true e = refl
same_flag_tells true false e = sym e
same_flag_tells false true e = e
same_flag_tells false false e = refl

pub same_list_tells : {A : Type 0} (test : A → A → Bool) → ((x y : A) → test x y ≡ true → x ≡ y) → (xs ys : List A) → same_list test xs ys ≡ true → xs ≡ ys
same_list_tells test h [] [] e = refl
same_list_tells test h [] (y ∷ ys) e = absurd (true≢false (sym e))
same_list_tells test h (x ∷ xs) [] e = absurd (true≢false (sym e))
same_list_tells test h (x ∷ xs) (y ∷ ys) e =
    let k = and_parts (test x y) (same_list test xs ys) e in
    ap₂ (λ z zs. z ∷ zs) (h x y k.0) (same_list_tells test h xs ys k.1)

pub alike_fact_tells : (f g : Fact Variable) → alike_fact f g ≡ true → f ≡ g
alike_fact_tells f g e =
    let made : List ℕ → Bool → Terms Variable → Fact Variable = λ s p ts. record { symbol = s; persistent = p; args = ts } in
    let k = and_parts _ _ e in
    let l = and_parts _ _ k.1 in
    ap (λ s. made s f.persistent f.args) ((bytes_eq-Decides f.symbol g.symbol).0 k.0)
    ∙ ap (λ p. made g.symbol p f.args) (same_flag_tells f.persistent g.persistent l.0)
    ∙ ap (made g.symbol g.persistent) (alike_all_tells f.args g.args l.1)

pub same_action_tells : (a b : Action Variable) → same_action a b ≡ true → a ≡ b
same_action_tells a b e =
    let made : List ℕ → Terms Variable → Action Variable = λ s ts. record { symbol = s; args = ts } in
    let k = and_parts _ _ e in
    ap (λ s. made s a.args) ((bytes_eq-Decides a.symbol b.symbol).0 k.0) ∙ ap (made b.symbol) (alike_all_tells a.args b.args k.1)

pub alike_facts_tells : (f g : Facts Variable) → alike_facts f g ≡ true → f ≡ g
alike_facts_tells f g e =
    let made : List (Fact Variable) → List (Action Variable) → List (Fact Variable) → Facts Variable = λ ps xs cs. record { premises = ps; actions = xs; conclusions = cs } in
    let k = and_parts _ _ e in
    let l = and_parts _ _ k.1 in
    ap (λ ps. made ps f.actions f.conclusions) (same_list_tells alike_fact alike_fact_tells f.premises g.premises k.0)
    ∙ ap (λ xs. made g.premises xs f.conclusions) (same_list_tells same_action same_action_tells f.actions g.actions l.0)
    ∙ ap (made g.premises g.actions) (same_list_tells alike_fact alike_fact_tells f.conclusions g.conclusions l.1)

same_flag_itself : (a : Bool) → same_flag a a ≡ true
same_flag_itself true = refl
same_flag_itself false = refl

pub same_list_itself : {A : Type 0} (test : A → A → Bool) → ((x : A) → test x x ≡ true) → (xs : List A) → same_list test xs xs ≡ true
same_list_itself test h [] = refl
same_list_itself test h (x ∷ xs) = and_from (test x x) (same_list test xs xs) (h x) (same_list_itself test h xs)

args_itself : (ts : Terms Variable) → alike_all ts ts ≡ true
args_itself ts = (same_all_by_decides same_variable same_variable_decides ts ts).1 refl

pub alike_fact_itself : (f : Fact Variable) → alike_fact f f ≡ true
alike_fact_itself f = and_from _ _ ((bytes_eq-Decides f.symbol f.symbol).1 refl) (and_from _ _ (same_flag_itself f.persistent) (args_itself f.args))

pub same_action_itself : (a : Action Variable) → same_action a a ≡ true
same_action_itself a = and_from _ _ ((bytes_eq-Decides a.symbol a.symbol).1 refl) (args_itself a.args)

pub alike_facts_from : (f g : Facts Variable) → f ≡ g → alike_facts f g ≡ true
alike_facts_from f g e =
    subst (λ (h : Facts Variable). alike_facts f h ≡ true) e
    (and_from _ _ (same_list_itself alike_fact alike_fact_itself f.premises)
    (and_from _ _ (same_list_itself same_action same_action_itself f.actions) (same_list_itself alike_fact alike_fact_itself f.conclusions)))
