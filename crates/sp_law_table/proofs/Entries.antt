-- The table that is made has an entry of each head of the signature.
use Rattle.std.proofs.Common.{is_none, ◌≡◌, ℕ, zero, suc, Bool, true, false, not, ◌&&◌, if◌then◌else◌, List, [], ◌∷◌, ◌++◌, map, Option, Some, None, option_map, codes, refl, sym, ap, ap₂, ◌∙◌, subst, inl, inr, nat_eq, arith, eq-eqb}
use Rattle.std.proofs.lemmas.Bool.{eqb-true, eqb-false}
use Rattle.std.proofs.lemmas.Slice.Eq.{bytes_eq-Decides}
use Rattle.std.specs.Str.{bytes_eq}
use Rattle.sp_spec.specs.Lists.{Member}
use Rattle.sp_spec.specs.Term.{app}
use Rattle.sp_spec.specs.Signature.{Symbol, msg}
use Rattle.sp_spec.specs.Guarded.{Guarded}
use Rattle.sp_spec_system.specs.Head.{Head, fresh_head, symbol_head, new_variables, head_message, start_of}
use Rattle.sp_spec_system.specs.Move.{know, TableEntry, Context, Case}
use Rattle.sp_spec_know.specs.SettleLearn.{Settling, made_of, settling}
use Rattle.sp_spec_know.specs.Know.{wanted_at, know_cases}
use Rattle.sp_spec_know.specs.Source.{same_head, entry_of}
use Rattle.sp_spec_proof.specs.Cases.{simple_case, cases}
use Rattle.sp_spec_sources.specs.Heads.{has_entry, symbol_heads, heads}
use Rattle.sp_law_sources.proofs.Uses.{head_same}
use Rattle.sp_spec_table.specs.Made.{open_cases, leaves_by, entry_cases, entry_if, table_from, from_nothing}
use Rattle.sp_law_table.specs.Laws.{AreUnambiguous, EntriesAreMade}

-- a symbol of that name and arity that has an entry
record HasEntry (symbols : List Symbol) (f : List ℕ) (n : ℕ) : Type 0 where
  symbol : Symbol
  listed : Member symbol symbols
  named : symbol.name ≡ f
  arity : symbol.arity ≡ n
  entry : has_entry symbol ≡ true

head_in : (symbols : List Symbol) (f : List ℕ) (n : ℕ) → Member (symbol_head f n) (symbol_heads symbols) → HasEntry symbols f n
head_in [] f n m = absurd m
head_in (s ∷ symbols) f n m = at (has_entry s) refl m (λ k. head_in symbols f n k)
  where
    further : HasEntry symbols f n → HasEntry (s ∷ symbols) f n
    further r = record { symbol = r.symbol; listed = inr r.listed; named = r.named; arity = r.arity; entry = r.entry }

    at : (b : Bool) → has_entry s ≡ b → Member (symbol_head f n) (if b then symbol_head s.name s.arity ∷ symbol_heads symbols else symbol_heads symbols)
        → (Member (symbol_head f n) (symbol_heads symbols) → HasEntry symbols f n) → HasEntry (s ∷ symbols) f n
    at true h (inl e) later =
        let a : s.name ≡ f = cc in
        let b : s.arity ≡ n = cc in
        record { symbol = s; listed = inl refl; named = a; arity = b; entry = h }
    at true h (inr k) later = further (later k)
    at false h k later = further (later k)

-- its message isn't settled
private_constant : (s : Symbol) → has_entry s ≡ true → s.arity ≡ 0 → s.private ≡ true
private_constant s h e = at (nat_eq s.arity 0) refl h
  where
    at : (b : Bool) → nat_eq s.arity 0 ≡ b → (if b then s.private else not (bytes_eq s.name (codes "pair"))) ≡ true → s.private ≡ true
    at true k l = l
    at false k l = absurd (eqb-false s.arity 0 k e)

no_pair : (s : Symbol) → has_entry s ≡ true → (s.arity ≡ 0 → ⊥) → bytes_eq s.name (codes "pair") ≡ false
no_pair s h some = at (nat_eq s.arity 0) refl h
  where
    off : (b : Bool) → not b ≡ true → b ≡ false
    off true k = absurd cc
    off false k = refl

    at : (b : Bool) → nat_eq s.arity 0 ≡ b → (if b then s.private else not (bytes_eq s.name (codes "pair"))) ≡ true → bytes_eq s.name (codes "pair") ≡ false
    at true k l = absurd (some (eqb-true s.arity 0 k))
    at false k l = off _ l

symbol_made : List ℕ → ℕ → Bool → Symbol
symbol_made f n private = record { name = f; arity = n; private = private }

listed_so : (symbols : List Symbol) (s : Symbol) → Member s symbols → (f : List ℕ) (n : ℕ) (b : Bool) → s.name ≡ f → s.arity ≡ n → s.private ≡ b
    → Member (record { name = f; arity = n; private = b }) symbols
unfolding symbol_made
listed_so symbols s m f n b e g h =
    let same : symbol_made s.name s.arity s.private ≡ symbol_made f n b =
    ap (λ (x : List ℕ). symbol_made x s.arity s.private) e ∙ ap (λ (x : ℕ). symbol_made f x s.private) g ∙ ap (λ (x : Bool). symbol_made f n x) h in
    subst (λ (x : Symbol). Member x symbols) same m

symbol_unsettled : (symbols : List Symbol) → AreUnambiguous symbols → (f : List ℕ) (n : ℕ) → HasEntry symbols f n → settling symbols 0 (app f (new_variables n 1)) ≡ None
symbol_unsettled symbols apart f zero r =
    let there = listed_so symbols r.symbol r.listed f 0 true r.named r.arity (private_constant r.symbol r.entry r.arity) in
    ap (λ (b : Bool). made_of b 0 []) (apart f there)
symbol_unsettled symbols apart f (suc zero) r = refl
symbol_unsettled symbols apart f (suc (suc zero)) r =
    let other : bytes_eq f (codes "pair") ≡ false =
    subst (λ (x : List ℕ). bytes_eq x (codes "pair") ≡ false) r.named (no_pair r.symbol r.entry (λ e. let g = r.arity in omega (arith, e, g))) in
    ap (λ (b : Bool). made_of b 0 (msg 1 ∷ msg 2 ∷ [])) other
symbol_unsettled symbols apart f (suc (suc (suc n))) r = refl

-- so it is asked how it is learnt
head_wanted : (symbols : List Symbol) → AreUnambiguous symbols → (taken : List Guarded) (l : Head) → Member l (heads symbols) → wanted_at symbols (start_of taken l) 0 ≡ Some (head_message l)
head_wanted symbols apart taken fresh_head m = refl
head_wanted symbols apart taken (symbol_head f n) (inl e) = absurd cc
head_wanted symbols apart taken (symbol_head f n) (inr k) =
    ap (λ (o : Option Settling). if not (is_none o) then None else Some (app f (new_variables n 1))) (symbol_unsettled symbols apart f n (head_in symbols f n k))

some_map : {A B : Type 0} (f : A → B) (o : Option A) → (x : A) × (o ≡ Some x) → (y : B) × (option_map f o ≡ Some y)
some_map f None r = let e = r.1 in absurd cc
some_map f (Some x) r = (f x, refl)

entry_there : (context : Context) → AreUnambiguous context.rules.signature.symbols → (taken : List Guarded) (l : Head) → Member l (heads context.rules.signature.symbols)
    → (cs : List Case) × (entry_cases context taken l ≡ Some cs)
entry_there context apart taken l m =
    let wanted = head_wanted context.rules.signature.symbols apart taken l m in
    let asked : (cs : List Case) × (know_cases context.rules (start_of taken l) 0 ≡ Some cs) =
    some_map _ (wanted_at context.rules.signature.symbols (start_of taken l) 0) (head_message l, wanted) in
    let known : (cs : List Case) × (cases context (start_of taken l) (know 0) ≡ Some cs) = some_map (map (simple_case context.rules)) (know_cases context.rules (start_of taken l) 0) asked in
    some_map (λ (cs : List Case). open_cases context.rules (leaves_by context 64 cs)) (cases context (start_of taken l) (know 0)) known

head_itself : (l : Head) → same_head l l ≡ true
head_itself fresh_head = refl
head_itself (symbol_head f n) = both (bytes_eq f f) (nat_eq n n) ((bytes_eq-Decides f f).1 refl) (eq-eqb n n refl)
  where
    both : (a b : Bool) → a ≡ true → b ≡ true → (a && b) ≡ true
    both true b e g = g
    both false b e g = absurd cc

-- and the table has it: there is one entry for each head
entry_found : (context : Context) (taken : List Guarded) (ls : List Head) (l : Head) (cs : List Case) → entry_cases context taken l ≡ Some cs → Member l ls
    → entry_of (table_from context taken ls) l ≡ Some (record { head = l; start = start_of taken l; cases = cs })
entry_found context taken [] l cs e m = absurd m
entry_found context taken (k ∷ ks) l cs e m = at (entry_cases context taken k) refl m (λ j. entry_found context taken ks l cs e j)
  where
    made : Head → List Case → TableEntry
    made a ds = record { head = a; start = start_of taken a; cases = ds }

    at : (o : Option (List Case)) → entry_cases context taken k ≡ o → Member l (k ∷ ks) → (Member l ks → entry_of (table_from context taken ks) l ≡ Some (record { head = l; start = start_of taken l; cases = cs }))
        → entry_of (entry_if taken k o ++ table_from context taken ks) l ≡ Some (record { head = l; start = start_of taken l; cases = cs })
    at None h (inl same) later =
        let g : entry_cases context taken l ≡ None = subst (λ (a : Head). entry_cases context taken a ≡ None) same h in
        absurd cc
    at None h (inr j) later = later j
    at (Some ds) h j later = by (same_head k l) refl
      where
        by : (b : Bool) → same_head k l ≡ b → (if b then Some (record { head = k; start = start_of taken k; cases = ds }) else entry_of (table_from context taken ks) l) ≡ Some (record { head = l; start = start_of taken l; cases = cs })
        by true same =
            let one = head_same k l same in
            let g : Some ds ≡ Some cs = sym (subst (λ (a : Head). entry_cases context taken a ≡ Some ds) one h) ∙ e in
            let two : ds ≡ cs = cc in
            ap₂ (λ (a : Head) (x : List Case). Some (made a x)) one two
        by false same = other j
          where
            other : Member l (k ∷ ks) → entry_of (table_from context taken ks) l ≡ Some (record { head = l; start = start_of taken l; cases = cs })
            other (inl one) = let g : same_head l l ≡ false = subst (λ (a : Head). same_head a l ≡ false) one same in let t = head_itself l in absurd cc
            other (inr i) = later i

pub entries_are_made_lem : EntriesAreMade
entries_are_made_lem = record {
  each = λ context apart taken l m.
      let r = entry_there (from_nothing context) apart taken l m in
      (r.0, r.1, entry_found (from_nothing context) taken (heads context.rules.signature.symbols) l r.0 r.1 m);
}
