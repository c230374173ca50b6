-- Truth over a normal trace is what is decided.
use Rattle.std.proofs.Common.{◌≡◌, inl, inr, ◌≤◌, Bool, true, false, ◌&&◌, ◌||◌, not, List, [], ◌∷◌, length, refl, sym, ap, ◌∙◌, subst, arith}
use Rattle.std.specs.Bool.{Decides}
use Rattle.std.proofs.lemmas.Bool.{and_parts, and_from}
use Rattle.std.proofs.lemmas.Bool.Decides.{Decides-and, Decides-or, Decides-not}
use Rattle.sp_spec.specs.Lists.{Member, Every}
use Rattle.sp_spec.specs.Signature.{Signature}
use Rattle.sp_spec.specs.Execution.{Trace}
use Rattle.sp_spec.specs.Guarded.{Place, free, bound, Binder, Atom, Guarded, Guardeds, truth, falsity, holds, fails, all_of, one_of, some, every, no_more, and_then, Assignment, place_in, AtomHolds, AtomsHold, GuardedHolds, EachHolds, SomeHolds}
use Rattle.sp_law_equal.specs.NormalForms.{HaveNormalForms, KeepSymbols}
use Rattle.sp_law_guard.specs.IsGuarded.{messages_in, each_guarded, is_guarded, are_guarded}
use Rattle.sp_law_decide.specs.Deciding.{Environment, assignment_of, candidates, atom_true, atoms_true, for_one, for_each, decided, each_decided, one_decided, empty}
use Rattle.sp_law_decide.specs.Normal.{IsNormalTrace, IsConstructorAtom, IsConstructorForm, AreConstructorForms}
use Rattle.sp_law_decide.proofs.Matched.{IsNormalValue}
use Rattle.sp_law_decide.proofs.Terms.{slots_normal}
use Rattle.sp_law_decide.proofs.Ranges.{Arises, some_from, some_is, each_from, each_is}
use Rattle.sp_law_decide.proofs.Atoms.{stable_true, decides_classically, atom_decides, atoms_decide}
use Rattle.sp_law_decide.proofs.Full.{IsReady, candidate_ready}
use Rattle.sp_law_decide.proofs.Candidates.{candidate_arises, normalized_holds, candidate_found}

one_is : (test : Environment → Bool) (envs : List Environment) → for_one test envs ≡ true → (c : Environment) × Member c envs × (test c ≡ true)
one_is test [] e = absurd cc
one_is test (x ∷ envs) e = at (test x) refl e (one_is test envs)
  where
    at : (b : Bool) → test x ≡ b → (b || for_one test envs) ≡ true → (for_one test envs ≡ true → (c : Environment) × Member c envs × (test c ≡ true))
        → (c : Environment) × Member c (x ∷ envs) × (test c ≡ true)
    at true e k below = (x, inl refl, e)
    at false e k below = let r = below k in (r.0, inr r.1, r.2)

one_from : (test : Environment → Bool) (envs : List Environment) (c : Environment) → Member c envs → test c ≡ true → for_one test envs ≡ true
one_from test [] c m e = absurd m
one_from test (x ∷ envs) c (inl m) e = ap (λ b. b || for_one test envs) (ap test m ∙ e)
one_from test (x ∷ envs) c (inr m) e = right (test x) (one_from test envs c m e)
  where
    right : (b : Bool) → for_one test envs ≡ true → (b || for_one test envs) ≡ true
    right true k = refl
    right false k = k

each_at : (test : Environment → Bool) (envs : List Environment) → for_each test envs ≡ true → (c : Environment) → Member c envs → test c ≡ true
each_at test [] e c m = absurd m
each_at test (x ∷ envs) e c (inl m) = ap test (sym m) ∙ (and_parts (test x) (for_each test envs) e).0
each_at test (x ∷ envs) e c (inr m) = each_at test envs (and_parts (test x) (for_each test envs) e).1 c m

all_from : (test : Environment → Bool) (envs : List Environment) → ((c : Environment) → Member c envs → test c ≡ true) → for_each test envs ≡ true
all_from test [] h = refl
all_from test (x ∷ envs) h = and_from (test x) (for_each test envs) (h x (inl refl)) (all_from test envs (λ c m. h c (inr m)))

implied : (a b : Bool) → (not a || b) ≡ true → a ≡ true → b ≡ true
implied true b e h = e
implied false b e h = absurd cc

implies_from : (a b : Bool) → (a ≡ true → b ≡ true) → (not a || b) ≡ true
implies_from true b h = h refl
implies_from false b h = refl

module _ (signature : Signature) (good : HaveNormalForms signature.equations) (keeps : KeepSymbols signature.symbols signature.equations) (trace : Trace) (normals : IsNormalTrace signature trace) where
  abbrev Ready : Environment → Type 0
  Ready = IsReady signature (length trace)

  within : length trace ≤ length trace
  within = omega arith

  places_normal : (env : Environment) → Ready env → (p : Place) → IsNormalValue signature (place_in (assignment_of env) p)
  places_normal env ready (free x) = (tt, tt)
  places_normal env ready (bound k) = slots_normal signature good env.messages ready.good.messages k

  atom_right : (env : Environment) → Ready env → (a : Atom) → IsConstructorAtom signature a → Decides (atom_true trace (assignment_of env) a) (AtomHolds signature trace (assignment_of env) a)
  atom_right env ready a constructors = atom_decides signature good trace normals (assignment_of env) (places_normal env ready) a constructors

  -- what is decided of a formula is so, whatever is bound outside
  abbrev IsDecided : Guarded → Type 0
  IsDecided g = (env : Environment) → Ready env → Decides (decided trace env g) (GuardedHolds signature trace (assignment_of env) g)

  module _ (bs : List Binder) (guard : List Atom) (g : Guarded) (guarded : each_guarded (messages_in bs) guard bs ≡ true) (constructors : Every (IsConstructorAtom signature) guard)
      (right : IsDecided g) (env : Environment) (ready : Ready env) where
    abbrev Both : Assignment → Type 0
    Both w = AtomsHold signature trace w guard × GuardedHolds signature trace w g

    abbrev Implied : Assignment → Type 0
    Implied w = AtomsHold signature trace w guard → GuardedHolds signature trace w g

    abbrev Candidate : Environment → Type 0
    Candidate c = Member c (candidates trace bs guard env)

    ready_there : (c : Environment) → Candidate c → Ready c
    ready_there c m = (candidate_ready signature (length trace) good trace normals within bs guard env guarded constructors ready c m).0

    arises_there : (c : Environment) → Candidate c → Arises signature (length trace) bs (assignment_of env) (assignment_of c)
    arises_there c m =
        let r = candidate_ready signature (length trace) good trace normals within bs guard env guarded constructors ready c m in
        candidate_arises signature (length trace) bs env c ready r.0 r.1

    guard_right : (c : Environment) → Candidate c → Decides (atoms_true trace (assignment_of c) guard) (AtomsHold signature trace (assignment_of c) guard)
    guard_right c m = atoms_decide signature good trace normals (assignment_of c) (places_normal c (ready_there c m)) guard constructors

    body_right : (c : Environment) → Candidate c → Decides (decided trace c g) (GuardedHolds signature trace (assignment_of c) g)
    body_right c m = right c (ready_there c m)

    -- an assignment that makes the guard true is that of a candidate, in normal form
    found : (w : Assignment) → Arises signature (length trace) bs (assignment_of env) w → AtomsHold signature trace w guard
        → (c : Environment) × Candidate c × AtomsHold signature trace (assignment_of c) guard
        × ((f : Guarded) → (GuardedHolds signature trace w f → GuardedHolds signature trace (assignment_of c) f) × (GuardedHolds signature trace (assignment_of c) f → GuardedHolds signature trace w f))
    found w a h =
        let r = candidate_found signature (length trace) good keeps trace normals within bs guard env guarded constructors ready w a h in
        let same : (f : Guarded) → _ = λ (f : Guarded). subst (λ (x : Assignment). (GuardedHolds signature trace w f → GuardedHolds signature trace x f) × (GuardedHolds signature trace x f → GuardedHolds signature trace w f))
        (sym r.2) (normalized_holds signature (length trace) good keeps trace normals within bs env w a f) in
        (r.0, r.1, ((same (some [] guard truth)).0 (h, tt)).0, same)

    pub some_right : Decides (for_one (λ c. atoms_true trace (assignment_of c) guard && decided trace c g) (candidates trace bs guard env)) (GuardedHolds signature trace (assignment_of env) (some bs guard g))
    some_right = (to, λ h. stable_true _ (λ none. some_is signature (length trace) Both bs (assignment_of env) h (λ x. none (from x.0 x.1 x.2))))
      where
        to : for_one (λ c. atoms_true trace (assignment_of c) guard && decided trace c g) (candidates trace bs guard env) ≡ true → GuardedHolds signature trace (assignment_of env) (some bs guard g)
        to e =
            let r = one_is (λ c. atoms_true trace (assignment_of c) guard && decided trace c g) (candidates trace bs guard env) e in
            let c = r.0 in
            let q = and_parts (atoms_true trace (assignment_of c) guard) (decided trace c g) r.2 in
            some_from signature (length trace) Both bs (assignment_of env) (assignment_of c) (arises_there c r.1) ((guard_right c r.1).0 q.0, (body_right c r.1).0 q.1)

        from : (w : Assignment) → Arises signature (length trace) bs (assignment_of env) w → Both w
            → for_one (λ c. atoms_true trace (assignment_of c) guard && decided trace c g) (candidates trace bs guard env) ≡ true
        from w a h =
            let r = found w a h.0 in
            let c = r.0 in
            one_from (λ c. atoms_true trace (assignment_of c) guard && decided trace c g) (candidates trace bs guard env) c r.1
            (and_from (atoms_true trace (assignment_of c) guard) (decided trace c g) ((guard_right c r.1).1 r.2) ((body_right c r.1).1 ((r.3 g).0 h.1)))

    pub every_right : Decides (for_each (λ c. not (atoms_true trace (assignment_of c) guard) || decided trace c g) (candidates trace bs guard env)) (GuardedHolds signature trace (assignment_of env) (every bs guard g))
    every_right = (to, from)
      where
        to : for_each (λ c. not (atoms_true trace (assignment_of c) guard) || decided trace c g) (candidates trace bs guard env) ≡ true → GuardedHolds signature trace (assignment_of env) (every bs guard g)
        to e =
            each_from signature (length trace) Implied bs (assignment_of env)
            (λ w a h.
            let r = found w a h in
            let c = r.0 in
            let test = each_at (λ c. not (atoms_true trace (assignment_of c) guard) || decided trace c g) (candidates trace bs guard env) e c r.1 in
            (r.3 g).1 ((body_right c r.1).0 (implied (atoms_true trace (assignment_of c) guard) (decided trace c g) test ((guard_right c r.1).1 r.2))))

        from : GuardedHolds signature trace (assignment_of env) (every bs guard g) → for_each (λ c. not (atoms_true trace (assignment_of c) guard) || decided trace c g) (candidates trace bs guard env) ≡ true
        from h =
            all_from (λ c. not (atoms_true trace (assignment_of c) guard) || decided trace c g) (candidates trace bs guard env)
            (λ c m.
            implies_from (atoms_true trace (assignment_of c) guard) (decided trace c g)
            (λ e. (body_right c m).1 (each_is signature (length trace) Implied bs (assignment_of env) (assignment_of c) h (arises_there c m) ((guard_right c m).0 e))))

  mutual
    pub right : (g : Guarded) → IsConstructorForm signature g → is_guarded g ≡ true → IsDecided g
    right truth constructors guarded env ready = (λ e. tt, λ h. refl)
    right falsity constructors guarded env ready = (λ e. absurd cc, λ h. absurd h)
    right (holds a) constructors guarded env ready = atom_right env ready a constructors
    right (fails a) constructors guarded env ready = Decides-not (atom_true trace (assignment_of env) a) (atom_right env ready a constructors)
    right (all_of gs) constructors guarded env ready = each_right gs constructors guarded env ready
    right (one_of gs) constructors guarded env ready = decides_classically (one_decided trace env gs) (one_right gs constructors guarded env ready)
    right (some bs guard g) constructors guarded env ready =
        let e = and_parts (each_guarded (messages_in bs) guard bs) (is_guarded g) guarded in
        some_right bs guard g e.0 constructors.0 (right g constructors.1 e.1) env ready
    right (every bs guard g) constructors guarded env ready =
        let e = and_parts (each_guarded (messages_in bs) guard bs) (is_guarded g) guarded in
        every_right bs guard g e.0 constructors.0 (right g constructors.1 e.1) env ready

    each_right : (gs : Guardeds) → AreConstructorForms signature gs → are_guarded gs ≡ true → (env : Environment) → Ready env
        → Decides (each_decided trace env gs) (EachHolds signature trace (assignment_of env) gs)
    each_right no_more constructors guarded env ready = (λ e. tt, λ h. refl)
    each_right (and_then g gs) constructors guarded env ready =
        let e = and_parts (is_guarded g) (are_guarded gs) guarded in
        Decides-and (decided trace env g) (each_decided trace env gs) (right g constructors.0 e.0 env ready) (each_right gs constructors.1 e.1 env ready)

    one_right : (gs : Guardeds) → AreConstructorForms signature gs → are_guarded gs ≡ true → (env : Environment) → Ready env
        → Decides (one_decided trace env gs) (SomeHolds signature trace (assignment_of env) gs)
    one_right no_more constructors guarded env ready = (λ e. absurd cc, λ h. absurd h)
    one_right (and_then g gs) constructors guarded env ready =
        let e = and_parts (is_guarded g) (are_guarded gs) guarded in
        Decides-or (decided trace env g) (one_decided trace env gs) (right g constructors.0 e.0 env ready) (one_right gs constructors.1 e.1 env ready)

  empty_ready : Ready empty
  empty_ready = record { good = record { messages = tt; times = tt }; messages = λ k. refl; times = λ k. refl }

  pub closed_right : (g : Guarded) → IsConstructorForm signature g → is_guarded g ≡ true → Decides (decided trace empty g) (GuardedHolds signature trace (assignment_of empty) g)
  closed_right g constructors guarded = right g constructors guarded empty empty_ready
