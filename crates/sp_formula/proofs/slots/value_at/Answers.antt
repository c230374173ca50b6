use Rattle.std.proofs.Common.{◌≡◌, Option, Some, None, option_map, Bor, refl, sym, ap, ◌∙◌, arith}
use Rattle.std.specs.Option.{option_copied}
use Rattle.sp_term.specs.View.{view_by}
use Rattle.sp_formula.specs.SlotsView.{slot_by}
use Rattle.sp_formula.proofs.Filled.{value_there, value_beyond}
use Rattle.sp_formula.proofs.slots.value_at.Goals as goal

pub returns-then-index-len : goal.returns-then-index-len
returns-then-index-len g c =
    sym (value_beyond (slot_by g.M.Leaf.leaf_of) c.args.slots.now.items c.args.place (omega (arith, c.if-index-len.true, c.len.ensures, c.args.slots.now.ok.0)))

copied : {A B : Type 0} (f : A → B) (o : Option (Bor A)) → option_map (λ t. f t.now) o ≡ option_map f (option_copied o)
copied f None = refl
copied f (Some t) = refl

pub returns : goal.returns
returns g c =
    let there =
    value_there (slot_by g.M.Leaf.leaf_of) c.args.slots.now.items c.args.place c.index.result.now
    (omega (arith, c.if-index-len.false, c.len.ensures, c.args.slots.now.ok.0)) c.index.ensures in
    copied (view_by g.M.Leaf.leaf_of) c.as_ref.result ∙ ap (option_map (view_by g.M.Leaf.leaf_of)) c.as_ref.ensures.value ∙ sym there
