-- States whose facts are the same one by one: what can be taken from one can be taken from the other.
use Rattle.std.proofs.Common.{◌≡◌, Bool, true, false, if◌then◌else◌, List, [], ◌∷◌, ◌++◌, refl, sym, ap, ◌∙◌, subst, ⊎_elim}
use Rattle.sp_spec.specs.Lists.{Member}
use Rattle.sp_spec.proofs.Lists.{member_left, member_right, member_either}
use Rattle.sp_spec.specs.Signature.{Equation}
use Rattle.sp_spec.specs.Rule.{Fact, SameFact}
use Rattle.sp_spec.specs.Execution.{Takes}
use Rattle.sp_law_equal.specs.Pointwise.{EachWith}
use Rattle.sp_law_equal.proofs.Chains.{same_fact_refl, same_fact_sym, same_fact_trans}

module _ (es : List Equation) where
  abbrev pub AreAlike : List (Fact ⊥) → List (Fact ⊥) → Type 0
  AreAlike fs gs = EachWith (SameFact es) fs gs

  pub alike_itself : (fs : List (Fact ⊥)) → AreAlike fs fs
  alike_itself [] = tt
  alike_itself (f ∷ fs) = (same_fact_refl es f, alike_itself fs)

  pub alike_append : (fs gs hs ks : List (Fact ⊥)) → AreAlike fs gs → AreAlike hs ks → AreAlike (fs ++ hs) (gs ++ ks)
  alike_append [] [] hs ks a b = b
  alike_append [] (g ∷ gs) hs ks a b = absurd a
  alike_append (f ∷ fs) [] hs ks a b = absurd a
  alike_append (f ∷ fs) (g ∷ gs) hs ks a b = (a.0, alike_append fs gs hs ks a.1 b)

  -- where one has a fact in its middle the other has one that is the same
  record Split (fs front : List (Fact ⊥)) (g : Fact ⊥) (back : List (Fact ⊥)) : Type 0 where
    before : List (Fact ⊥)
    middle : Fact ⊥
    behind : List (Fact ⊥)
    is : fs ≡ before ++ middle ∷ behind
    same_before : AreAlike before front
    same_middle : SameFact es middle g
    same_behind : AreAlike behind back

  split : (fs front : List (Fact ⊥)) (g : Fact ⊥) (back : List (Fact ⊥)) → AreAlike fs (front ++ g ∷ back) → Split fs front g back
  split [] [] g back a = absurd a
  split [] (k ∷ front) g back a = absurd a
  split (f ∷ fs) [] g back a = record { before = []; middle = f; behind = fs; is = refl; same_before = tt; same_middle = a.0; same_behind = a.1 }
  split (f ∷ fs) (k ∷ front) g back a =
      let s = split fs front g back a.1 in
      record {
        before = f ∷ s.before;
        middle = s.middle;
        behind = s.behind;
        is = ap (λ xs. f ∷ xs) s.is;
        same_before = (a.0, s.same_before);
        same_middle = s.same_middle;
        same_behind = s.same_behind;
      }

  -- what stays when it is taken
  left_alike : (b c : Bool) → b ≡ c → (f g : Fact ⊥) (fs gs : List (Fact ⊥)) → SameFact es f g → AreAlike fs gs
      → AreAlike (if b then f ∷ fs else fs) (if c then g ∷ gs else gs)
  left_alike true true e f g fs gs s a = (s, a)
  left_alike false false e f g fs gs s a = a
  left_alike true false e f g fs gs s a = absurd cc
  left_alike false true e f g fs gs s a = absurd cc

  pub takes_alike : (wanted fs gs rest : List (Fact ⊥)) → AreAlike fs gs → Takes es wanted gs rest → (left : List (Fact ⊥)) × Takes es wanted fs left × AreAlike left rest
  takes_alike [] fs gs rest a t = (fs, refl, subst (AreAlike fs) t a)
  takes_alike (w ∷ wanted) fs gs rest a t =
      let front = t.0 in
      let g = t.1 in
      let back = t.2 in
      let s = split fs front g back (subst (AreAlike fs) t.3 a) in
      let f = s.middle in
      let stays = alike_append s.before front (if f.persistent then f ∷ s.behind else s.behind) (if g.persistent then g ∷ back else back) s.same_before
      (left_alike f.persistent g.persistent s.same_middle.1 f g s.behind back s.same_middle s.same_behind) in
      let others = takes_alike wanted (s.before ++ (if f.persistent then f ∷ s.behind else s.behind)) (front ++ (if g.persistent then g ∷ back else back)) rest stays t.5 in (
        others.0,
        (s.before, f, s.behind, s.is, same_fact_trans es w g f t.4 (same_fact_sym es f g s.same_middle), others.1),
        others.2,
      )

  still_there : (b : Bool) (front : List (Fact ⊥)) (f : Fact ⊥) (back : List (Fact ⊥)) (g : Fact ⊥) → f.persistent ≡ b → g.persistent ≡ true
      → Member g (front ++ f ∷ back) → Member g (front ++ (if b then f ∷ back else back))
  still_there true front f back g e p m = m
  still_there false front f back g e p m =
      ⊎_elim (λ k. member_left g front back k)
      (λ k.
      ⊎_elim (λ same. let wrong : false ≡ true = sym e ∙ ap (λ (h : Fact ⊥). h.persistent) same ∙ p in absurd cc) (λ later. member_right g front back later) k)
      (member_either g front (f ∷ back) m)

  -- what is persistent stays when facts are taken
  pub persistent_stays : (wanted fs rest : List (Fact ⊥)) → Takes es wanted fs rest → (g : Fact ⊥) → Member g fs → g.persistent ≡ true → Member g rest
  persistent_stays [] fs rest t g m p = subst (λ (xs : List (Fact ⊥)). Member g xs) t m
  persistent_stays (w ∷ wanted) fs rest t g m p =
      let front = t.0 in
      let f = t.1 in
      let back = t.2 in
      persistent_stays wanted (front ++ (if f.persistent then f ∷ back else back)) rest t.5 g
      (still_there f.persistent front f back g refl p (subst (λ (xs : List (Fact ⊥)). Member g xs) t.3 m)) p
