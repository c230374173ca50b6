-- Lemmas of which some are run.
use Rattle.std.proofs.Common.{◌≡◌, ◌≤◌, ℕ, suc, Bool, true, false, if◌then◌else◌, List, [], ◌∷◌, length, map, Option, Some, None, refl, ap, arith}
use Rattle.sp_spec.specs.Lists.{Every}
use Rattle.sp_spec.specs.Theory.{Lemma}
use Rattle.sp_spec_proof.specs.Tree.{Tree}
use Rattle.sp_spec_text.specs.Spans.{Span, Rise, goes_on}
use Rattle.sp_skel.specs.Spelling.{IsReadable}
use Rattle.sp_law_reread.specs.Again.{IsReadableIf}
use Rattle.sp_analysis.specs.Taken.{Stated, lemmas_stated}
use Rattle.sp_analysis.specs.Chosen.{is_run, run_among, placed, next_tree, later_trees}
use Rattle.sp_analysis.proofs.Writing.{goes_further}

-- ---- those that are run

run_one : (P : Lemma → Type 0) (q : Stated) (qs run : List Stated) (b : Bool) → P q.lemma → Every P (lemmas_stated run) → Every P (lemmas_stated (if b then q ∷ run else run))
run_one P q qs run true h k = (h, k)
run_one P q qs run false h k = k

-- what is so of all lemmas is so of them
pub every_run : (chosen : Option (List ℕ)) (P : Lemma → Type 0) (qs : List Stated) → Every P (lemmas_stated qs) → Every P (lemmas_stated (run_among chosen qs))
every_run chosen P [] h = tt
every_run chosen P (q ∷ qs) h = run_one P q qs (run_among chosen qs) (is_run chosen q.lemma.name) h.0 (every_run chosen P qs h.1)

-- where no name is given, they are all
pub run_all : (qs : List Stated) → run_among None qs ≡ qs
run_all [] = refl
run_all (q ∷ qs) = ap (λ (rest : List Stated). q ∷ rest) (run_all qs)

-- ---- their trees

abbrev put : Bool → List Tree → List (Option Tree) → List (Option Tree) → List (Option Tree)
put b trees run kept = if b then next_tree trees ∷ run else None ∷ kept

put_length : (b : Bool) (trees : List Tree) (run kept : List (Option Tree)) (n : ℕ) → length run ≡ n → length kept ≡ n → length (put b trees run kept) ≡ suc n
put_length true trees run kept n e f = ap suc e
put_length false trees run kept n e f = ap suc f

-- one place for each lemma
pub placed_length : (chosen : Option (List ℕ)) (qs : List Stated) (trees : List Tree) → length (placed chosen qs trees) ≡ length qs
placed_length chosen [] trees = refl
placed_length chosen (q ∷ qs) trees =
    put_length (is_run chosen q.lemma.name) trees (placed chosen qs (later_trees trees)) (placed chosen qs trees) (length qs) (placed_length chosen qs (later_trees trees)) (placed_length chosen qs trees)

next_readable : (trees : List Tree) → Every IsReadable trees → IsReadableIf (next_tree trees)
next_readable [] h = tt
next_readable (t ∷ trees) h = h.0

later_readable : (trees : List Tree) → Every IsReadable trees → Every IsReadable (later_trees trees)
later_readable [] h = tt
later_readable (t ∷ trees) h = h.1

put_readable : (b : Bool) (trees : List Tree) (run kept : List (Option Tree)) → Every IsReadable trees → Every IsReadableIf run → Every IsReadableIf kept → Every IsReadableIf (put b trees run kept)
put_readable true trees run kept h r k = (next_readable trees h, r)
put_readable false trees run kept h r k = (tt, k)

pub placed_readable : (chosen : Option (List ℕ)) (qs : List Stated) (trees : List Tree) → Every IsReadable trees → Every IsReadableIf (placed chosen qs trees)
placed_readable chosen [] trees h = tt
placed_readable chosen (q ∷ qs) trees h =
    put_readable (is_run chosen q.lemma.name) trees (placed chosen qs (later_trees trees)) (placed chosen qs trees) h
    (placed_readable chosen qs (later_trees trees) (later_readable trees h)) (placed_readable chosen qs trees h)

-- where no name is given, each lemma gets its tree
pub placed_all : (qs : List Stated) (trees : List Tree) → length trees ≡ length qs → placed None qs trees ≡ map (λ (t : Tree). Some t) trees
placed_all [] [] e = refl
placed_all [] (t ∷ trees) e = absurd (omega (arith, e))
placed_all (q ∷ qs) [] e = absurd (omega (arith, e))
placed_all (q ∷ qs) (t ∷ trees) e = ap (λ (rest : List (Option Tree)). Some t ∷ rest) (placed_all qs trees (omega (arith, e)))

-- ---- their places

pub rise_lower : (text : List ℕ) (low high : ℕ) (spans : List Span) (end : ℕ) → low ≤ high → Rise text high spans end → Rise text low spans end
rise_lower text low high [] end le h = omega (arith, le, h)
rise_lower text low high (span ∷ spans) end le h = let first = h.0 in (omega (arith, le, first), h.1, h.2)

-- without one of them
pub rise_behind : (text : List ℕ) (low : ℕ) (span : Span) (spans : List Span) (end : ℕ) → low ≤ span.from → span.from ≤ span.to → Rise text (goes_on text span) spans end → Rise text low spans end
rise_behind text low span spans end le reach h = let further = goes_further text span in rise_lower text low (goes_on text span) spans end (omega (arith, le, reach, further)) h
