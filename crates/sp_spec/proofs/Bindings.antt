-- What is found for the variables of a pattern, by sorts.
use Rattle.std.proofs.Common.{◌≡◌, ◌⊎◌, ⊎_elim, inl, inr, Bool, true, false, cond, if◌then◌else◌, List, [], ◌∷◌, ◌++◌, Option, Some, None, refl, sym, ap, ap₂, ◌∙◌, subst}
use Rattle.std.specs.Bool.{Decides}
use Rattle.std.specs.Option.{option_or}
use Rattle.sp_spec.specs.Term.{Sort, Variable, Term, constant, name, app, Terms, none, more, valued, valued_all}
use Rattle.sp_spec.specs.Same.{same_variable, same_by}
use Rattle.sp_spec.specs.Substitution.{lookup}
use Rattle.sp_spec.specs.Matching.{matched_by, matched_all_by, has_sort_by, kept_or, bound_by, KeepsSorts, Agrees, IsMatch, NoneMatches}
use Rattle.sp_spec.proofs.Options.{some_same, if_some, then_if}
use Rattle.sp_spec.proofs.Same.{same_variable_decides, same_by_decides}
use Rattle.sp_spec.proofs.Matching.{Matches, matched_so, matched_all_so, Found, value_found}

-- one more binding, behind the others
module _ {V : Type 0} (x : Variable) (t : Term V) where
  abbrev in_last : Variable → Option (Term V)
  in_last y = if same_variable x y then Some t else None

  lookup_more : (bs : List (Variable × Term V)) (y : Variable) → lookup (bs ++ (x, t) ∷ []) y ≡ option_or (lookup bs y) (in_last y)
  lookup_more [] y = refl
  lookup_more (b ∷ bs) y = by_test (same_variable b.0 y) (lookup_more bs y)
    where
      by_test : (c : Bool) → lookup (bs ++ (x, t) ∷ []) y ≡ option_or (lookup bs y) (in_last y)
          → cond c (Some b.1) (lookup (bs ++ (x, t) ∷ []) y) ≡ option_or (cond c (Some b.1) (lookup bs y)) (in_last y)
      by_test true next = refl
      by_test false next = next

  pub old_stays : (bs : List (Variable × Term V)) (y : Variable) (u : Term V) → lookup bs y ≡ Some u → lookup (bs ++ (x, t) ∷ []) y ≡ Some u
  old_stays bs y u e = lookup_more bs y ∙ ap (λ (o : Option (Term V)). option_or o (in_last y)) e

  pub new_there : (bs : List (Variable × Term V)) → lookup bs x ≡ None → lookup (bs ++ (x, t) ∷ []) x ≡ Some t
  new_there bs e =
      lookup_more bs x ∙ ap (λ (o : Option (Term V)). option_or o (in_last x)) e ∙ then_if (same_variable x x) (Some t) ((same_variable_decides x x).1 refl)

  one_of : (bs : List (Variable × Term V)) (y : Variable) (u : Term V) → lookup (bs ++ (x, t) ∷ []) y ≡ Some u → (lookup bs y ≡ Some u) ⊎ ((x ≡ y) × (t ≡ u))
  one_of bs y u e = by_old (lookup bs y) refl (sym (lookup_more bs y) ∙ e)
    where
      by_old : (o : Option (Term V)) → lookup bs y ≡ o → option_or o (in_last y) ≡ Some u → (lookup bs y ≡ Some u) ⊎ ((x ≡ y) × (t ≡ u))
      by_old (Some w) h k = inl (h ∙ k)
      by_old None h k = let r = if_some (same_variable x y) (Some t) u k in inr ((same_variable_decides x y).0 r.0, sym (some_same t u r.1))

module _ {V : Type 0} (test : V → V → Bool) (decides : (x y : V) → Decides (test x y) (x ≡ y)) (of_sort : Sort → V → Bool) where
  abbrev bind : Variable → Term V → List (Variable × Term V) → Option (List (Variable × Term V))
  bind = bound_by test of_sort

  abbrev AreSorted : List (Variable × Term V) → Type 0
  AreSorted bs = (x : Variable) (t : Term V) → lookup bs x ≡ Some t → has_sort_by of_sort x.sort t ≡ true

  -- what agrees with the new bindings fits, and agrees with the old ones; and sorts are kept
  pub record Gives (Fits : (Variable → Term V) → Type 0) (bs cs : List (Variable × Term V)) : Type 0 where
    pub agree : (v : Variable → Term V) → Agrees v cs → Fits v × Agrees v bs
    pub sorted : AreSorted bs → AreSorted cs

  given_same : (Fits : (Variable → Term V) → Type 0) → ((v : Variable → Term V) → Fits v) → (bs : List (Variable × Term V)) → Gives Fits bs bs
  given_same Fits h bs = record { agree = λ v a. (h v, a); sorted = λ s. s }

  variable_given : (o : Option (Term V)) (x : Variable) (t : Term V) (bs cs : List (Variable × Term V)) → lookup bs x ≡ o → kept_or test of_sort o x t bs ≡ Some cs
      → Gives (λ v. v x ≡ t) bs cs
  variable_given (Some u) x t bs cs is e =
      let h = if_some (same_by test u t) (Some bs) cs e in
      subst (Gives (λ v. v x ≡ t) bs) (sym (some_same bs cs h.1))
      (record { agree = λ v a. (a x u is ∙ (same_by_decides test decides u t).0 h.0, a); sorted = λ s. s })
  variable_given None x t bs cs is e =
      let h = if_some (has_sort_by of_sort x.sort t) (Some (bs ++ (x, t) ∷ [])) cs e in
      subst (Gives (λ v. v x ≡ t) bs) (sym (some_same (bs ++ (x, t) ∷ []) cs h.1))
      (record {
        agree = λ v a. (a x t (new_there x t bs is), λ y u l. a y u (old_stays x t bs y u l));
        sorted = λ s y u l.
            ⊎_elim (λ k. s y u k)
            (λ k. subst (λ (z : Variable). has_sort_by of_sort z.sort u ≡ true) k.0 (subst (λ (w : Term V). has_sort_by of_sort x.sort w ≡ true) k.1 h.0))
            (one_of x t bs y u l);
      })

  abbrev GivesTerm : Term Variable → Term V → List (Variable × Term V) → List (Variable × Term V) → Type 0
  GivesTerm p t bs cs = Gives (λ v. valued v p ≡ t) bs cs

  abbrev GivesTerms : Terms Variable → Terms V → List (Variable × Term V) → List (Variable × Term V) → Type 0
  GivesTerms ps ts bs cs = Gives (λ v. valued_all v ps ≡ ts) bs cs

  matches : Matches bind GivesTerm GivesTerms
  matches = record {
    leaf = λ x t bs cs e. variable_given (lookup bs x) x t bs cs refl e;
    constants = λ c bs. given_same (λ v. constant c ≡ constant c) (λ v. refl) bs;
    names = λ n bs. given_same (λ v. name n ≡ name n) (λ v. refl) bs;
    under = λ f ps ts bs cs h. record { agree = λ v a. let r = h.agree v a in (ap (app f) r.0, r.1); sorted = h.sorted };
    end = λ bs. given_same (λ v. none ≡ none) (λ v. refl) bs;
    beside = λ p t ps ts bs cs ds h k. record {
      agree = λ v a. let r = k.agree v a in let q = h.agree v r.1 in (ap₂ more q.0 r.0, q.1);
      sorted = λ s. k.sorted (h.sorted s);
    };
  }

  pub all_given : (ps : Terms Variable) (ts : Terms V) (bs cs : List (Variable × Term V)) → matched_all_by bind ps ts bs ≡ Some cs → GivesTerms ps ts bs cs
  all_given ps ts bs cs e = matched_all_so bind GivesTerm GivesTerms matches ps ts bs cs e

  none_bound : (v : Variable → Term V) → Agrees v []
  none_bound v x t e = absurd cc

  module _ (v : Variable → Term V) (sorts : KeepsSorts of_sort v) where
    variable_found : (o : Option (Term V)) (x : Variable) (bs : List (Variable × Term V)) → lookup bs x ≡ o → Agrees v bs → Found (Agrees v) (kept_or test of_sort o x (v x) bs)
    variable_found (Some u) x bs is a =
        (bs, then_if (same_by test u (v x)) (Some bs) ((same_by_decides test decides u (v x)).1 (sym (a x u is))), a)
    variable_found None x bs is a = (
      bs ++ (x, v x) ∷ [],
      then_if (has_sort_by of_sort x.sort (v x)) (Some (bs ++ (x, v x) ∷ [])) (sorts x),
      λ y u l. ⊎_elim (λ k. a y u k) (λ k. ap v (sym k.0) ∙ k.1) (one_of x (v x) bs y u l),
    )

    -- beside what they make of a pattern bindings are found with which they agree
    found : (p : Term Variable) (t : Term V) → valued v p ≡ t → Found (Agrees v) (matched_by bind p t [])
    found p t f =
        subst (λ (u : Term V). Found (Agrees v) (matched_by bind p u [])) f
        (value_found bind v (Agrees v) (λ x bs a. variable_found (lookup bs x) x bs refl a) p [] (none_bound v))

  -- what is found is a match
  pub is_match : (p : Term Variable) (t : Term V) (cs : List (Variable × Term V)) → matched_by bind p t [] ≡ Some cs → IsMatch of_sort p t cs
  is_match p t cs e =
      let h = matched_so bind GivesTerm GivesTerms matches p t [] cs e in
      record {
        gives = λ v a. (h.agree v a).0;
        sorted = h.sorted (λ x u k. absurd cc);
        forced = λ v k f. let r = found v k p t f in subst (Agrees v) (sym (some_same r.0 cs (sym r.1 ∙ e))) r.2;
      }

  -- where nothing is found there is nothing to find
  pub none_matches : (p : Term Variable) (t : Term V) → matched_by bind p t [] ≡ None → NoneMatches of_sort p t
  none_matches p t e v k f = let r = found v k p t f in let is : None ≡ Some r.0 = sym e ∙ r.1 in cc
