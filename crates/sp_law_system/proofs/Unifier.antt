-- The unifier is what its users need.
use Rattle.std.proofs.Common.{◌<◌, subst}
use Rattle.sp_law_unify.proofs.Finding.{Answers, answers}
use Rattle.sp_law_unify.proofs.Unique.{most_general}
use Rattle.sp_spec.specs.Term.{any_names}
use Rattle.sp_law_system.specs.Laws.{UnifierIsRight}
use Rattle.sp_law_system.proofs.Unifying.{mgu_within}

pub unifier_is_right : UnifierIsRight
unifier_is_right = record {
  fixes = λ pairs bs e v sorts h. (most_general pairs bs e).fixes v (record { respects = sorts; makes_same = h });
  none = λ pairs e v sorts h. subst (Answers pairs) e (answers pairs) v (record { respects = sorts; makes_same = h });
  within = λ pairs bs e n h x l. mgu_within any_names (λ y. y.number < n) pairs bs h e x l;
}
