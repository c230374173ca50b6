use Rattle.std.proofs.Common.{◌≡◌, map, take}
use Rattle.std.specs.List.{flat_map}
use Rattle.sp_spec.specs.Unifier.{mgu}
use Rattle.sp_fact.specs.View.{facts_of}
use Rattle.sp_spec_forms.specs.Forms.{form_by}
use Rattle.sp_book.specs.View.{form_of}
use Rattle.sp_variant.specs.View.{list_by, terms_in, way_by}
use Rattle.sp_variant.proofs.forms.results.Given as goal

abbrev pub invariant-loop-way : goal.invariant-loop-way
invariant-loop-way l = list_by form_of l.forms ≡ flat_map (λ r. form_by (terms_in l.kept) r.0 (mgu r.1.pairs)) (map (way_by facts_of) (take l.way-index l.way-items))
