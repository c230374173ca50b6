-- Symbols that are declared one after the other.
use Rattle.std.proofs.Common.{◌≡◌, ℕ, List, [], ◌∷◌, ◌++◌, refl, sym, ap, ◌∙◌}
use Rattle.std.specs.List.{flat_map}
use Rattle.std.proofs.lemmas.Grind.{flat_map-append}
use Rattle.sp_spec.specs.Signature.{Symbol}
use Rattle.sp_spec_text.specs.Written.{Item, item_builtins, item_functions, builtins_in, functions_in}
use Rattle.sp_spec_text.specs.Declared.{builtin_of, builtin_symbols}
use Rattle.sp_finding.specs.Finding.{builtin_left_out, declared_twice, told, lines_after}
use Rattle.sp_wf_symbols.specs.SymbolFindings.{is_left_out, left_out, differs, declared_otherwise}
use Rattle.sp_wf_symbols.specs.Told.{otherwise_named}
use Rattle.sp_finding.proofs.Telling.{one_behind, told_append}

module _ (symbols : List Symbol) where
  pub otherwise_both : (ss ts : List Symbol) → declared_otherwise symbols (ss ++ ts) ≡ declared_otherwise symbols ss ++ declared_otherwise symbols ts
  otherwise_both [] ts = refl
  otherwise_both (s ∷ ss) ts =
      ap (told (differs s symbols) (declared_twice s.name)) (otherwise_both ss ts)
      ∙ told_append (differs s symbols) (declared_twice s.name) (declared_otherwise symbols ss) (declared_otherwise symbols ts)

  -- the symbols of all builtins, and then the others
  pub declared_behind : (a b c : List (List ℕ)) (ss ts : List Symbol) → b ≡ lines_after a (declared_otherwise symbols ss) → c ≡ lines_after b (declared_otherwise symbols ts)
      → c ≡ lines_after a (declared_otherwise symbols (ss ++ ts))
  declared_behind a b c ss ts e k =
      one_behind a b c (declared_otherwise symbols ss) (declared_otherwise symbols ts) e k ∙ ap (lines_after a) (sym (otherwise_both ss ts))

  -- item by item
  pub builtins_next : (x : Item) (xs : List Item) → otherwise_named symbols (builtins_in (x ∷ xs)) ≡ otherwise_named symbols (item_builtins x) ++ otherwise_named symbols (builtins_in xs)
  builtins_next x xs =
      let ss = λ (b : List ℕ). builtin_symbols (builtin_of b) in
      ap (declared_otherwise symbols) (flat_map-append ss (item_builtins x) (builtins_in xs)) ∙ otherwise_both (flat_map ss (item_builtins x)) (flat_map ss (builtins_in xs))

  pub functions_next : (x : Item) (xs : List Item)
      → declared_otherwise symbols (functions_in (x ∷ xs)) ≡ declared_otherwise symbols (item_functions x) ++ declared_otherwise symbols (functions_in xs)
  functions_next x xs = otherwise_both (item_functions x) (functions_in xs)

left_out_both : (bs cs : List (List ℕ)) → left_out (bs ++ cs) ≡ left_out bs ++ left_out cs
left_out_both [] cs = refl
left_out_both (b ∷ bs) cs =
    ap (told (is_left_out (builtin_of b)) (builtin_left_out b)) (left_out_both bs cs) ∙ told_append (is_left_out (builtin_of b)) (builtin_left_out b) (left_out bs) (left_out cs)

pub left_out_next : (x : Item) (xs : List Item) → left_out (builtins_in (x ∷ xs)) ≡ left_out (item_builtins x) ++ left_out (builtins_in xs)
left_out_next x xs = left_out_both (item_builtins x) (builtins_in xs)
