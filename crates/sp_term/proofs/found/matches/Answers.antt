use Rattle.std.proofs.Common.{Bool, sym, ap, ◌∙◌}
use Rattle.sp_spec.specs.Matching.{matched_by, bound_by}
use Rattle.sp_spec.proofs.Bindings.{is_match, none_matches}
use Rattle.sp_term.specs.Bindings.{bindings_by, answer}
use Rattle.sp_term.specs.View.{view, view_by}
use Rattle.sp_term.proofs.found.matches.Goals as goal

pub returns-then-branch-clause-means : goal.returns-then-branch-clause-means
returns-then-branch-clause-means g c =
    let m = g.M.Leaf in
    let p = view c.args.pattern.now in
    let t = view_by m.leaf_of c.args.term.now in
    let found = bindings_by m.leaf_of c.extend.new.found in
    is_match m.test g.met.M.Leaf.decides m.of_sort p t found
    (ap (matched_by (bound_by m.test m.of_sort) p t) (sym c.new-found.ensures) ∙ sym c.in_ok-extend.ensures ∙ ap (λ (b : Bool). answer b found) c.if-branch.true)

pub returns-else-branch-clause-means : goal.returns-else-branch-clause-means
returns-else-branch-clause-means g c =
    let m = g.M.Leaf in
    let p = view c.args.pattern.now in
    let t = view_by m.leaf_of c.args.term.now in
    let found = bindings_by m.leaf_of c.extend.new.found in
    none_matches m.test g.met.M.Leaf.decides m.of_sort p t
    (ap (matched_by (bound_by m.test m.of_sort) p t) (sym c.new-found.ensures) ∙ sym c.in_ok-extend.ensures ∙ ap (λ (b : Bool). answer b found) c.if-branch.false)
