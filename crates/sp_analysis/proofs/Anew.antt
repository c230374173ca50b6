-- A text with other proofs poses what it posed.
use Rattle.std.proofs.Common.{◌≡◌, ◌≤◌, ℕ, suc, List, [], ◌∷◌, ◌++◌, length, map, Option, Some, refl, sym, ap, ◌∙◌, subst}
use Rattle.std.specs.List.{flat_map}
use Rattle.sp_spec.specs.Lists.{Member, Every, Distinct}
use Rattle.sp_spec.specs.Signature.{Symbol, pair_symbols}
use Rattle.sp_spec.specs.Theory.{Restriction, Lemma, signature_of}
use Rattle.sp_spec.specs.Written.{WrittenRule, WrittenTheory, theory_of}
use Rattle.sp_law_conv.specs.Accepted.{AreAccepted}
use Rattle.sp_law_equal.specs.Right.{EquationsAreOver}
use Rattle.sp_spec_text.specs.Written.{WrittenProof, Item, builtins_item, functions_item, equations_item, heuristic_item, block_item, rule_item, restriction_item, lemma_item, WrittenText, item_attributes, builtins_in, functions_in, lemmas_in, with_proofs}
use Rattle.sp_spec_text.specs.Declared.{Builtin, builtin_of, new_symbols, declared_symbols, resolved_item, theory_in}
use Rattle.sp_spec_text.specs.Texts.{IsTextOf}
use Rattle.sp_spec_text.proofs.Items.{kept}
use Rattle.sp_wf_rules.specs.BindingFindings.{BoundNames, item_bound, bound_in}
use Rattle.sp_wf.specs.Laws.{DeclaresWell, BindsWell, IsFineRule, IsFineLemma, IsFineRestriction, IsKnown, IsWellFormed}
use Rattle.sp_pose.specs.Problem.{Poses}

-- it has as many lemmas where names that are symbols are such
pub as_many_resolved : (symbols : List Symbol) (items : List Item) → length (lemmas_in (map (resolved_item symbols) items)) ≡ length (lemmas_in items)
as_many_resolved symbols [] = refl
as_many_resolved symbols (builtins_item bs ∷ items) = as_many_resolved symbols items
as_many_resolved symbols (functions_item ss ∷ items) = as_many_resolved symbols items
as_many_resolved symbols (equations_item es ∷ items) = as_many_resolved symbols items
as_many_resolved symbols (heuristic_item ws ∷ items) = as_many_resolved symbols items
as_many_resolved symbols (block_item w ∷ items) = as_many_resolved symbols items
as_many_resolved symbols (rule_item bs r ∷ items) = as_many_resolved symbols items
as_many_resolved symbols (restriction_item r ∷ items) = as_many_resolved symbols items
as_many_resolved symbols (lemma_item l as' p ∷ items) = ap suc (as_many_resolved symbols items)

-- ---- what doesn't look at proofs

bound_listed : (items : List Item) → bound_in items ≡ flat_map (λ (item : Item). item_bound item ∷ []) items
bound_listed [] = refl
bound_listed (x ∷ items) = ap (λ (bs : List BoundNames). item_bound x ∷ bs) (bound_listed items)

pub bound_kept : (items : List Item) (proofs : List (Option WrittenProof)) → bound_in (with_proofs items proofs) ≡ bound_in items
bound_kept items proofs =
    bound_listed (with_proofs items proofs) ∙ kept (λ (item : Item). item_bound item ∷ []) (λ l as' p q. refl) items proofs ∙ sym (bound_listed items)

-- ---- findings

module _ (t u : WrittenText) (builtins : builtins_in u.items ≡ builtins_in t.items) (functions : functions_in u.items ≡ functions_in t.items)
    (bound : bound_in u.items ≡ bound_in t.items) (attributes : flat_map item_attributes u.items ≡ flat_map item_attributes t.items) where
  symbols_anew : declared_symbols u.items ≡ declared_symbols t.items
  symbols_anew = rw (builtins, functions) refl

  declares_anew : DeclaresWell t → DeclaresWell u
  declares_anew d = record {
    builtins = subst (Every (λ (b : List ℕ). (found : Builtin) × (builtin_of b ≡ Some found))) (sym builtins) d.builtins;
    symbols = subst (λ (ss : List Symbol). Every (λ (s : Symbol). Member s (pair_symbols ++ new_symbols pair_symbols ss)) ss) (sym symbols_anew) d.symbols;
    arities = subst (Every (λ (s : Symbol). s.arity ≤ 16)) (sym functions) d.arities;
  }

  module _ (same : theory_in u ≡ theory_in t) where
    over : (P : WrittenTheory → Type 0) → P (theory_in t) → P (theory_in u)
    over P h = subst P (sym same) h

    well_formed_anew : IsWellFormed t → IsWellFormed u
    well_formed_anew fine = record {
      declares = declares_anew fine.declares;
      over = over (λ w. let s = signature_of (theory_of w) in EquationsAreOver s.symbols s.equations) fine.over;
      accepted = over (λ w. let s = signature_of (theory_of w) in AreAccepted s.symbols s.equations) fine.accepted;
      rule_names = over (λ w. Distinct (map (λ (r : WrittenRule). r.name) w.rules)) fine.rule_names;
      statement_names = over (λ w. Distinct (map (λ (r : Restriction). r.name) w.restrictions ++ map (λ (l : Lemma). l.name) w.lemmas)) fine.statement_names;
      rules = over (λ w. let s = signature_of (theory_of w) in Every (IsFineRule s.symbols s.equations) w.rules) fine.rules;
      lemmas = over (λ w. let s = signature_of (theory_of w) in Every (IsFineLemma s.symbols s.equations) w.lemmas) fine.lemmas;
      bindings = subst (Every BindsWell) (sym bound) fine.bindings;
      restrictions = over (λ w. let s = signature_of (theory_of w) in Every (IsFineRestriction s.symbols s.equations) w.restrictions) fine.restrictions;
      attributes = subst (Every IsKnown) (sym attributes) fine.attributes;
    }

    pub posed_anew : {text written : List ℕ} → Poses text t → IsTextOf written u → Poses written u
    posed_anew p says = record { says = says; fine = well_formed_anew p.fine }
