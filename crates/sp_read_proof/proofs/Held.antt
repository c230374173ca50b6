-- What memory holds where a proof ends behind frames: what stands inside the innermost frame is one proof more, or all of the frame's own.
use Rattle.std.proofs.Common.{◌≡◌, ℕ, ◌+◌, ◌<◌, List, [], ◌∷◌, ◌++◌, length, map, refl, sym, ap, ap₂, subst, ◌∙◌, append_assoc, arith}
use Rattle.std.proofs.lemmas.List.{length-append, length-map, map-append}
use Rattle.sp_spec_nodes.specs.Preorder.{AreTrees, first}
use Rattle.sp_spec_nodes.proofs.Preorder.{are_appended, are_over, trees_appended, tree_over}
use Rattle.sp_spec_text.specs.Written.{Method, said, WrittenProof, step, WrittenCases, no_case, then_case}
use Rattle.sp_written.specs.Views.{with_names, case_count, proof_over, written_proofs, written_proof}
use Rattle.sp_read_proof.specs.Frames as spec
use Rattle.sp_read_proof.specs.Frames.{lone, among, joined}
use Rattle.sp_read_proof.specs.declared.frames.Frame.{Frame}
use Rattle.sp_read_proof.specs.declared.frames.Frame.TheVariants.{Lone, Among}
use Rattle.sp_read_proof.specs.Held.{Holds, nothing, in_lone, in_case, Ends}

-- a step over the steps of its cases
proof_of : (x : Method) (names : List (List ℕ)) (inside : List (Method × List (List ℕ))) (proofs : List WrittenProof) → AreTrees case_count (length names) inside → written_proofs inside ≡ proofs
    → written_proofs ((x, names) ∷ inside) ≡ step x (with_names names proofs) ∷ []
proof_of x names inside proofs h e = tree_over case_count proof_over (x, names) inside h ∙ ap (λ (ps : List WrittenProof). step x (with_names names ps) ∷ []) e

-- a leaf behind the frames is a proof
pub ends_leaf : {places : List Frame} {steps more : List (Method × List (List ℕ))} {fs : List spec.Frame} {x : Method} → Holds places steps fs → more ≡ steps ++ (x, []) ∷ [] → Ends places more fs (step x no_case)
ends_leaf {steps = steps} {x = x} h e = record { outer = steps; part = (x, []) ∷ []; are = e; held = h; is_one = tt; is = refl }

-- ---- behind no frame

held_nothing : {outer : List (Method × List (List ℕ))} {fs : List spec.Frame} → Holds [] outer fs → (outer ≡ []) × (fs ≡ [])
held_nothing nothing = (refl, refl)

pub ends_whole : {steps : List (Method × List (List ℕ))} {fs : List spec.Frame} {k : WrittenProof} → Ends [] steps fs k → (fs ≡ []) × AreTrees case_count 1 steps × (written_proof steps ≡ k)
ends_whole {steps} h =
    let i = held_nothing h.held in
    let are : h.part ≡ steps = sym (h.are ∙ ap (λ (o : List (Method × List (List ℕ))). o ++ h.part) i.0) in (
      i.1,
      subst (λ (ss : List (Method × List (List ℕ))). AreTrees case_count 1 ss) are h.is_one,
      ap written_proof (sym are) ∙ ap (λ (ks : List WrittenProof). first (step (said []) no_case) ks) h.is,
    )

-- ---- inside an only case

pub record InLone (places : List Frame) (steps : List (Method × List (List ℕ))) (fs : List spec.Frame) (k : WrittenProof) : Type 0 where
  pub method : Method
  pub frames : List spec.Frame
  pub are : fs ≡ lone method ∷ frames
  pub ends : Ends places steps frames (step method (then_case [] k no_case))

pub ends_lone : {places : List Frame} {steps : List (Method × List (List ℕ))} {fs : List spec.Frame} {k : WrittenProof} → Ends (Lone ∷ places) steps fs k → InLone places steps fs k
ends_lone {places} {steps} {k = k} h = at h.held h.part h.are h.is_one h.is
  where
    at : {all : List (Method × List (List ℕ))} {fs : List spec.Frame} → Holds (Lone ∷ places) all fs → (part : List (Method × List (List ℕ))) → steps ≡ all ++ part → AreTrees case_count 1 part → written_proofs part ≡ k ∷ []
        → InLone places steps fs k
    at (in_lone {outer = outer} {fs = frames} {x = x} h e) part are one is =
        let s : Method × List (List ℕ) = (x, [] ∷ []) in
        record {
          method = x;
          frames = frames;
          are = refl;
          ends = record {
            outer = outer;
            part = s ∷ part;
            are = are ∙ ap (λ (o : List (Method × List (List ℕ))). o ++ part) e ∙ append_assoc outer (s ∷ []) part;
            held = h;
            is_one = are_over case_count s part one;
            is = proof_of x ([] ∷ []) part (k ∷ []) one is;
          };
        }

-- ---- inside one of the cases

pub record InCase (place : ℕ) (places : List Frame) (steps : List (Method × List (List ℕ))) (fs : List spec.Frame) (k : WrittenProof) : Type 0 where
  pub method : Method
  pub done : List (List ℕ × WrittenProof)
  pub name : List ℕ
  pub frames : List spec.Frame
  pub outer : List (Method × List (List ℕ))
  pub inside : List (Method × List (List ℕ))
  pub are : fs ≡ among method done name ∷ frames
  pub held : Holds places outer frames
  pub at : place ≡ length outer
  pub steps_are : steps ≡ outer ++ (method, map (λ d. d.0) done ++ name ∷ []) ∷ inside
  pub so_many : AreTrees case_count (length done + 1) inside
  pub proofs_are : written_proofs inside ≡ map (λ d. d.1) done ++ k ∷ []

pub ends_case : {place : ℕ} {places : List Frame} {steps : List (Method × List (List ℕ))} {fs : List spec.Frame} {k : WrittenProof} → Ends (Among place ∷ places) steps fs k → InCase place places steps fs k
ends_case {place} {places} {steps} {k = k} h = at h.held h.part h.are h.is_one h.is
  where
    at : {all : List (Method × List (List ℕ))} {fs : List spec.Frame} → Holds (Among place ∷ places) all fs → (part : List (Method × List (List ℕ))) → steps ≡ all ++ part → AreTrees case_count 1 part → written_proofs part ≡ k ∷ []
        → InCase place places steps fs k
    at (in_case {outer = outer} {fs = frames} {x = x} {done = done} {w = w} inside h p many proofs e) part are one is =
        let s : Method × List (List ℕ) = (x, map (λ d. d.0) done ++ w ∷ []) in
        record {
          method = x;
          done = done;
          name = w;
          frames = frames;
          outer = outer;
          inside = inside ++ part;
          are = refl;
          held = h;
          at = p;
          steps_are = are ∙ ap (λ (o : List (Method × List (List ℕ))). o ++ part) e ∙ append_assoc outer (s ∷ inside) part;
          so_many = are_appended case_count (length done) 1 inside part many one;
          proofs_are = trees_appended case_count proof_over (length done) inside part many ∙ ap₂ (λ (ks js : List WrittenProof). ks ++ js) proofs is;
        }

module _ {place : ℕ} {places : List Frame} {steps : List (Method × List (List ℕ))} {fs : List spec.Frame} {k : WrittenProof} (c : InCase place places steps fs k) where
  pub place_within : place < length steps
  place_within = omega (arith, c.at, ap length c.steps_are, length-append c.outer ((c.method, map (λ d. d.0) c.done ++ c.name ∷ []) ∷ c.inside))

  -- the last of the cases is read
  pub case_ended : Ends places steps c.frames (step c.method (joined c.done (then_case c.name k no_case)))
  case_ended =
      let names : List (List ℕ) = map (λ d. d.0) c.done ++ c.name ∷ [] in
      let count : length c.done + 1 ≡ length names = sym (length-append (map (λ d. d.0) c.done) (c.name ∷ []) ∙ ap (λ (n : ℕ). n + 1) (length-map c.done (λ d. d.0))) in
      let so_many : AreTrees case_count (length names) c.inside = subst (λ (n : ℕ). AreTrees case_count n c.inside) count c.so_many in
      record {
        outer = c.outer;
        part = (c.method, names) ∷ c.inside;
        are = c.steps_are;
        held = c.held;
        is_one = are_over case_count (c.method, names) c.inside so_many;
        is = proof_of c.method names c.inside (map (λ d. d.1) c.done ++ k ∷ []) so_many c.proofs_are ∙ ap (λ (bs : WrittenCases). step c.method bs ∷ []) (joined_by_names c.done);
      }
    where
      joined_by_names : (done : List (List ℕ × WrittenProof)) → with_names (map (λ d. d.0) done ++ c.name ∷ []) (map (λ d. d.1) done ++ k ∷ []) ≡ joined done (then_case c.name k no_case)
      joined_by_names [] = refl
      joined_by_names (d ∷ done) = ap (λ (bs : WrittenCases). then_case d.0 d.1 bs) (joined_by_names done)

  -- the next case is named
  pub case_another : {more : List (Method × List (List ℕ))} {v : List ℕ} → more ≡ c.outer ++ (c.method, (map (λ d. d.0) c.done ++ c.name ∷ []) ++ v ∷ []) ∷ c.inside
      → Holds (Among place ∷ places) more (among c.method (c.done ++ (c.name, k) ∷ []) v ∷ c.frames)
  case_another {more} {v} e =
      let count : length c.done + 1 ≡ length (c.done ++ (c.name, k) ∷ []) = sym (length-append c.done ((c.name, k) ∷ [])) in
      in_case c.inside c.held c.at (subst (λ (n : ℕ). AreTrees case_count n c.inside) count c.so_many)
      (c.proofs_are ∙ sym (map-append (λ d. d.1) c.done ((c.name, k) ∷ [])))
      (e ∙ ap (λ (names : List (List ℕ)). c.outer ++ (c.method, names ++ v ∷ []) ∷ c.inside) (sym (map-append (λ d. d.0) c.done ((c.name, k) ∷ []))))
