-- What names become is bound, the times within those that are bound there.
use Rattle.std.proofs.Common.{◌≡◌, ℕ, ◌<◌, Bool, true, false, if◌then◌else◌, List, [], ◌∷◌, Option, Some, None, option_map, refl, sym, subst, bytes_eq, arith}
use Rattle.sp_spec.specs.Term.{Term, var, constant, name, app, Terms}
use Rattle.sp_spec.specs.Rule.{Action}
use Rattle.sp_spec.specs.Formula.{Mark, bare, of_sort, of_time, Written}
use Rattle.sp_spec.specs.Guarded.{Place, bound, Time, bound_time, Atom, acts, same, same_time, before}
use Rattle.sp_law_truth.specs.Shown.{times_within, IsBound}
use Rattle.sp_law_guard.specs.GuardedForm.{Meant, a_message, a_time, binder_meant, past_binder, meant, message_place, time_place, placed_variable, placed_term, placed_terms, placed_action, acts_at, before_at, same_at, term_time, equality_at, binder_of}
use Rattle.sp_law_guard.specs.Closed.{IsClosedTerm, AreClosedTerms}
use Rattle.sp_spec.proofs.Options.{mapped}
use Rattle.sp_spec.proofs.Variables.{Carries, where_carried, all_where_carried}
use Rattle.sp_law_guard.proofs.Throughout.{times_bound}

-- one of n times
abbrev IsWithin : ℕ → Meant → Type 0
IsWithin n (a_message mark k) = Unit {0}
IsWithin n (a_time k) = k < n

binder_within : (mark : Mark) (n : ℕ) → IsWithin (times_within (binder_of mark ∷ []) n) (binder_meant mark)
binder_within bare n = tt
binder_within (of_sort sort) n = tt
binder_within of_time n = omega arith

past_within : (mark : Mark) (n : ℕ) (w : Meant) → IsWithin n w → IsWithin (times_within (binder_of mark ∷ []) n) (past_binder mark w)
past_within bare n (a_message other k) l = tt
past_within bare n (a_time k) l = l
past_within (of_sort sort) n (a_message other k) l = tt
past_within (of_sort sort) n (a_time k) l = l
past_within of_time n (a_message other k) l = tt
past_within of_time n (a_time k) l = omega (arith, l)

meant_within : (bs : List Written) (x : List ℕ) (w : Meant) → meant bs x ≡ Some w → IsWithin (times_bound bs) w
meant_within [] x w e = absurd cc
meant_within (b ∷ bs) x w e = at (bytes_eq b.name x) e (meant_within bs x)
  where
    at : (c : Bool) → (if c then Some (binder_meant b.mark) else option_map (past_binder b.mark) (meant bs x)) ≡ Some w
        → ((v : Meant) → meant bs x ≡ Some v → IsWithin (times_bound bs) v) → IsWithin (times_bound (b ∷ bs)) w
    at true k below = let g : binder_meant b.mark ≡ w = cc in subst (IsWithin (times_bound (b ∷ bs))) g (binder_within b.mark (times_bound bs))
    at false k below =
        let r = mapped (past_binder b.mark) (meant bs x) w k in
        subst (IsWithin (times_bound (b ∷ bs))) (sym r.2) (past_within b.mark (times_bound bs) r.0 (below r.0 r.1))

place_bound : (n : ℕ) (o : Option Meant) (i : Time) → ((w : Meant) → o ≡ Some w → IsWithin n w) → time_place o ≡ Some i → IsBound n i
place_bound n None i below e = absurd cc
place_bound n (Some (a_message mark k)) i below e = absurd cc
place_bound n (Some (a_time k)) i below e = let g : bound_time k ≡ i = cc in subst (IsBound n) g (below (a_time k) refl)

pub time_bound : (bs : List Written) (x : List ℕ) (i : Time) → time_place (meant bs x) ≡ Some i → IsBound (times_bound bs) i
time_bound bs x i e = place_bound (times_bound bs) (meant bs x) i (meant_within bs x) e

term_time_bound : (bs : List Written) (t : Term Written) (i : Time) → term_time bs t ≡ Some i → IsBound (times_bound bs) i
term_time_bound bs (var x) i e = time_bound bs x.name i e
term_time_bound bs (constant c) i e = absurd cc
term_time_bound bs (name n) i e = absurd cc
term_time_bound bs (app f ts) i e = absurd cc

message_closed : (o : Option Meant) (u : Term Place) → message_place o ≡ Some u → IsClosedTerm u
message_closed None u e = absurd cc
message_closed (Some (a_time k)) u e = absurd cc
message_closed (Some (a_message mark k)) u e = let g : var (bound k) ≡ u = cc in subst IsClosedTerm g tt

module _ (bs : List Written) where
  closed_carried : Carries (placed_variable bs) (λ t u. IsClosedTerm u) (λ ts us. AreClosedTerms us)
  closed_carried = record {
    leaf = λ x u e. message_closed (meant bs x.name) u e;
    constants = λ c. tt;
    names = λ n. tt;
    under = λ f ts us h. h;
    end = tt;
    beside = λ t u ts us h k. (h, k);
  }

  pub term_closed : (t : Term Written) (u : Term Place) → placed_term bs t ≡ Some u → IsClosedTerm u
  term_closed t u e = where_carried (placed_variable bs) (λ t u. IsClosedTerm u) (λ ts us. AreClosedTerms us) closed_carried t u e

  terms_closed : (ts : Terms Written) (us : Terms Place) → placed_terms bs ts ≡ Some us → AreClosedTerms us
  terms_closed ts us e = all_where_carried (placed_variable bs) (λ t u. IsClosedTerm u) (λ ts us. AreClosedTerms us) closed_carried ts us e

-- An action, an order of times, and an equality, as atoms.
pub record ReadsAction (bs : List Written) (a : Action Written) (atom : Atom) : Type 0 where
  pub action : Action Place
  pub time : Time
  pub is : atom ≡ acts action time
  pub symbol : action.symbol ≡ a.symbol
  pub placed : placed_terms bs a.args ≡ Some action.args
  pub closed : AreClosedTerms action.args
  pub bounded : IsBound (times_bound bs) time

pub action_made : (bs : List Written) (a : Action Written) (i : Written) (atom : Atom) → acts_at (placed_action bs a) (time_place (meant bs i.name)) ≡ Some atom → ReadsAction bs a atom
action_made bs a i atom e = at (placed_action bs a) (time_place (meant bs i.name)) refl refl e
  where
    at : (o : Option (Action Place)) (p : Option Time) → placed_action bs a ≡ o → time_place (meant bs i.name) ≡ p → acts_at o p ≡ Some atom → ReadsAction bs a atom
    at None p k l e = absurd cc
    at (Some b) None k l e = absurd cc
    at (Some b) (Some j) k l e =
        let make : Terms Place → Action Place = λ ts. record { symbol = a.symbol; args = ts } in
        let r = mapped make (placed_terms bs a.args) b k in
        record {
          action = make r.0;
          time = j;
          is = let g : atom ≡ acts b j = cc in subst (λ (x : Action Place). atom ≡ acts x j) r.2 g;
          symbol = refl;
          placed = r.1;
          closed = terms_closed bs a.args r.0 r.1;
          bounded = time_bound bs i.name j l;
        }

pub record ReadsOrder (n : ℕ) (atom : Atom) : Type 0 where
  pub first : Time
  pub second : Time
  pub is : atom ≡ before first second
  pub first_bound : IsBound n first
  pub second_bound : IsBound n second

pub order_made : (bs : List Written) (i j : Written) (atom : Atom) → before_at (time_place (meant bs i.name)) (time_place (meant bs j.name)) ≡ Some atom → ReadsOrder (times_bound bs) atom
order_made bs i j atom e = at (time_place (meant bs i.name)) (time_place (meant bs j.name)) refl refl e
  where
    at : (o p : Option Time) → time_place (meant bs i.name) ≡ o → time_place (meant bs j.name) ≡ p → before_at o p ≡ Some atom → ReadsOrder (times_bound bs) atom
    at None p k l e = absurd cc
    at (Some r) None k l e = absurd cc
    at (Some r) (Some s) k l e = record {
      first = r;
      second = s;
      is = let g : atom ≡ before r s = cc in g;
      first_bound = time_bound bs i.name r k;
      second_bound = time_bound bs j.name s l;
    }

-- two times, or two messages
pub equality_made : (bs : List Written) (t u : Term Written) (atom : Atom) (Q : Atom → Type 0) → equality_at bs t u (term_time bs t) (term_time bs u) ≡ Some atom
    → ((i j : Time) → IsBound (times_bound bs) i → IsBound (times_bound bs) j → Q (same_time i j))
    → ((x y : Term Place) → placed_term bs t ≡ Some x → placed_term bs u ≡ Some y → Q (same x y)) → Q atom
equality_made bs t u atom Q e times messages = at (term_time bs t) (term_time bs u) refl refl e
  where
    both : (o p : Option (Term Place)) → placed_term bs t ≡ o → placed_term bs u ≡ p → same_at o p ≡ Some atom → Q atom
    both None p k l e = absurd cc
    both (Some x) None k l e = absurd cc
    both (Some x) (Some y) k l e = let g : same x y ≡ atom = cc in subst Q g (messages x y k l)

    at : (o p : Option Time) → term_time bs t ≡ o → term_time bs u ≡ p → equality_at bs t u o p ≡ Some atom → Q atom
    at (Some i) (Some j) k l e = let g : same_time i j ≡ atom = cc in subst Q g (times i j (term_time_bound bs t i k) (term_time_bound bs u j l))
    at (Some i) None k l e = absurd cc
    at None (Some j) k l e = absurd cc
    at None None k l e = both (placed_term bs t) (placed_term bs u) refl refl e
