-- The edges among entries are those that the test of taking finds, in order.
use Rattle.std.proofs.Common.{◌≡◌, ◌⊎◌, ◌<◌, ◌≤◌, ℕ, zero, suc, Bool, true, List, [], ◌∷◌, ◌++◌, length, inl, inr, refl, sym, ap, ap₂, subst, arith, append_assoc, length-append}
use Rattle.std.proofs.Math.Nat.{eq-or-lt_of_le}
use Rattle.std.proofs.lemmas.List.{append-nil}
use Rattle.std.proofs.lemmas.Option.{slice_get_within}
use Rattle.sp_spec.specs.Lists.{Member, Distinct, AtPlace}
use Rattle.sp_spec.specs.Log.{Entry}
use Rattle.sp_spec.proofs.Lists.{every_append, every_from, every_member, member_map, member_mapped, member_left, member_right, member_either, place_found, place_one}
use Rattle.sp_graph.specs.Edges.{Edge, takes_from, taken_from, takes_facts, edge_to, edges_to, edges_behind}
use Rattle.sp_graph.specs.Laws.{Leads, Precedes, AreInOrder}
use Rattle.sp_graph.proofs.Taken.{is_taken, takes_each, taken_in_order}

place_left : (xs ys : List Entry) (k : ℕ) (x : Entry) → AtPlace xs k x → AtPlace (xs ++ ys) k x
place_left [] ys k x a = absurd a
place_left (z ∷ xs) ys zero x a = a
place_left (z ∷ xs) ys (suc k) x a = place_left xs ys k x a

place_front : (xs ys : List Entry) (k : ℕ) (x : Entry) → k < length xs → AtPlace (xs ++ ys) k x → AtPlace xs k x
place_front [] ys k x l a = absurd (omega arith)
place_front (z ∷ xs) ys zero x l a = a
place_front (z ∷ xs) ys (suc k) x l a = place_front xs ys k x (omega arith) a

place_joint : (xs : List Entry) (x : Entry) (ys : List Entry) → AtPlace (xs ++ x ∷ ys) (length xs) x
place_joint [] x ys = refl
place_joint (z ∷ xs) x ys = place_joint xs x ys

-- by its test the entry takes something, of that kind
abbrev pub Tests : Bool → Entry → ℕ → Entry → Type 0
Tests is_fact e p x = (takes_from e p x ≡ true) × (takes_facts e ≡ is_fact)

abbrev pub EdgeLeads : List Entry → Edge → Type 0
EdgeLeads entries a = Leads (Tests a.is_fact) entries a.from a.to

leads_here : (earlier : List Entry) (e : Entry) (later : List Entry) (a : Edge) → Member a (edges_to e earlier) → EdgeLeads (earlier ++ e ∷ later) a
leads_here earlier e later a m =
    let found = member_mapped (edge_to e (length earlier)) a (taken_from e 0 earlier) m in
    let p = found.0 in
    let t = is_taken e 0 earlier p found.1 in
    let at : AtPlace earlier p t.taken = let i = t.is in subst (λ k. AtPlace earlier k t.taken) (let s : t.place ≡ p = omega arith in s) t.at in
    subst (λ (b : Edge). EdgeLeads (earlier ++ e ∷ later) b) found.2 (record {
      taken = t.taken;
      taking = e;
      from = place_left earlier (e ∷ later) p t.taken at;
      to = place_joint earlier e later;
      earlier = slice_get_within earlier p t.taken (place_found earlier p t.taken at);
      takes = (t.takes, refl);
    })

either_leads : (all : List Entry) (a : Edge) (here there : List Edge) → (Member a here → EdgeLeads all a) → (Member a there → EdgeLeads all a)
    → Member a here ⊎ Member a there → EdgeLeads all a
either_leads all a here there f g (inl m) = f m
either_leads all a here there f g (inr m) = g m

-- an edge leads from what is taken to what takes it
pub edge_leads : (earlier later : List Entry) (a : Edge) → Member a (edges_behind earlier later) → EdgeLeads (earlier ++ later) a
edge_leads earlier [] a m = absurd m
edge_leads earlier (e ∷ later) a m =
    let there = edges_behind (earlier ++ e ∷ []) later in
    either_leads (earlier ++ e ∷ later) a (edges_to e earlier) there (leads_here earlier e later a)
    (λ k. subst (λ all. EdgeLeads all a) (append_assoc earlier (e ∷ []) later) (edge_leads (earlier ++ e ∷ []) later a k))
    (member_either a (edges_to e earlier) there m)

same_edge : (a : Edge) (is_fact : Bool) (to : ℕ) → is_fact ≡ a.is_fact → to ≡ a.to → record { from = a.from; is_fact = is_fact; to = to } ≡ a
same_edge a is_fact to f t = ap₂ (λ (b : Bool) (n : ℕ). let c : Edge = record { from = a.from; is_fact = b; to = n } in c) f t

edge_here : (earlier : List Entry) (e : Entry) (later : List Entry) (a : Edge) → length earlier ≡ a.to → EdgeLeads (earlier ++ e ∷ later) a → Member a (edges_to e earlier)
edge_here earlier e later a t h =
    let all = earlier ++ e ∷ later in
    let itself : h.taking ≡ e = place_one all (length earlier) h.taking e (subst (λ q. AtPlace all q h.taking) (sym t) h.to) (place_joint earlier e later) in
    let below = h.earlier in
    let at = place_front earlier (e ∷ later) a.from h.taken (omega arith) h.from in
    let takes = subst (λ (x : Entry). Tests a.is_fact x a.from h.taken) itself h.takes in
    subst (λ (b : Edge). Member b (edges_to e earlier)) (same_edge a (takes_facts e) (length earlier) takes.1 t)
    (member_map (edge_to e (length earlier)) a.from (taken_from e 0 earlier) (takes_each e 0 earlier a.from a.from h.taken at (omega arith) takes.0))

either_edge : {P Q : Type 0} (a : Edge) (here there : List Edge) → (P → Member a here) → (Q → Member a there) → P ⊎ Q → Member a (here ++ there)
either_edge a here there f g (inl p) = member_left a here there (f p)
either_edge a here there f g (inr q) = member_right a here there (g q)

-- what takes something has an edge from there
pub has_edge : (earlier later : List Entry) (a : Edge) → length earlier ≤ a.to → EdgeLeads (earlier ++ later) a → Member a (edges_behind earlier later)
has_edge earlier [] a l h =
    let below = slice_get_within (earlier ++ []) a.to h.taking (place_found (earlier ++ []) a.to h.taking h.to) in
    absurd (omega (arith, ap length (append-nil earlier)))
has_edge earlier (e ∷ later) a l h =
    let more = earlier ++ e ∷ [] in
    either_edge a (edges_to e earlier) (edges_behind more later) (λ t. edge_here earlier e later a t h)
    (λ (k : length earlier < a.to). has_edge more later a (omega (arith, length-append earlier (e ∷ [])))
    (subst (λ all. EdgeLeads all a) (sym (append_assoc earlier (e ∷ []) later)) h))
    (eq-or-lt_of_le l)

-- an edge behind entries leads behind them
later_to : (earlier later : List Entry) (a : Edge) → Member a (edges_behind earlier later) → length earlier ≤ a.to
later_to earlier [] a m = absurd m
later_to earlier (e ∷ later) a m = at (member_either a (edges_to e earlier) (edges_behind (earlier ++ e ∷ []) later) m) (later_to (earlier ++ e ∷ []) later a)
  where
    at : Member a (edges_to e earlier) ⊎ Member a (edges_behind (earlier ++ e ∷ []) later)
        → (Member a (edges_behind (earlier ++ e ∷ []) later) → length (earlier ++ e ∷ []) ≤ a.to) → length earlier ≤ a.to
    at (inl k) behind = let found = member_mapped (edge_to e (length earlier)) a (taken_from e 0 earlier) k in
        let t = ap (λ (b : Edge). b.to) found.2 in omega arith
    at (inr k) behind = let l = behind k in omega (arith, length-append earlier (e ∷ []))

joined_in_order : (front back : List Edge) → AreInOrder front → AreInOrder back
    → ((a b : Edge) → Member a front → Member b back → Precedes a b) → AreInOrder (front ++ back)
joined_in_order [] back h k f = k
joined_in_order (a ∷ front) back h k f = (
  every_append (Precedes a) front back h.0 (every_from (Precedes a) back (λ b m. f a b (inl refl) m)),
  joined_in_order front back h.1 k (λ c b m n. f c b (inr m) n),
)

pub edges_in_order : (earlier later : List Entry) → AreInOrder (edges_behind earlier later)
edges_in_order earlier [] = tt
edges_in_order earlier (e ∷ later) =
    joined_in_order (edges_to e earlier) (edges_behind (earlier ++ e ∷ []) later) (taken_in_order e (length earlier) 0 earlier) (edges_in_order (earlier ++ e ∷ []) later)
    (λ a b m n.
    let found = member_mapped (edge_to e (length earlier)) a (taken_from e 0 earlier) m in
    let t = ap (λ (c : Edge). c.to) found.2 in
    let l = later_to (earlier ++ e ∷ []) later b n in
    inl (omega (arith, length-append earlier (e ∷ []))))

never_itself : (a : Edge) → Precedes a a → ⊥
never_itself a (inl l) = omega arith
never_itself a (inr r) = let l = r.1 in omega arith

pub in_order_once : (es : List Edge) → AreInOrder es → Distinct es
in_order_once [] h = tt
in_order_once (a ∷ es) h = ((λ m. never_itself a (every_member (Precedes a) es a m h.0)), in_order_once es h.1)
