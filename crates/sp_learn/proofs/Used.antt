-- What one more entry uses and learns stands behind what those before it do.
use Rattle.std.proofs.Common.{◌≡◌, List, [], ◌∷◌, ◌++◌, map, sym, ap, ◌∙◌, append_assoc}
use Rattle.std.proofs.lemmas.List.{append-nil}
use Rattle.sp_spec.specs.Term.{Ground}
use Rattle.sp_spec.specs.Log.{Source, Entry, sources_of, all_sources, fresh_uses, all_fresh_uses}
use Rattle.sp_fact.specs.GroundView.{ground_of}
use Rattle.sp_log.specs.View.{source_of}
use Rattle.sp_learn.specs.declared.check.Used.{Used}
use Rattle.sp_learn.specs.Learning.{learnt_by, learnt_in}
use Rattle.sp_learn.specs.View.{IsUsed}

more_sources : (es : List Entry) (e : Entry) → all_sources (es ++ e ∷ []) ≡ all_sources es ++ sources_of e
more_sources [] e = append-nil (sources_of e)
more_sources (x ∷ es) e = ap (λ os. sources_of x ++ os) (more_sources es e) ∙ sym (append_assoc (sources_of x) (all_sources es) (sources_of e))

more_names : (es : List Entry) (e : Entry) → all_fresh_uses (es ++ e ∷ []) ≡ all_fresh_uses es ++ fresh_uses e
more_names [] e = append-nil (fresh_uses e)
more_names (x ∷ es) e = ap (λ ts. fresh_uses x ++ ts) (more_names es e) ∙ sym (append_assoc (fresh_uses x) (all_fresh_uses es) (fresh_uses e))

more_learnt : (es : List Entry) (e : Entry) → learnt_in (es ++ e ∷ []) ≡ learnt_in es ++ learnt_by e
more_learnt [] e = append-nil (learnt_by e)
more_learnt (x ∷ es) e = ap (λ ts. learnt_by x ++ ts) (more_learnt es e) ∙ sym (append_assoc (learnt_by x) (learnt_in es) (learnt_by e))

-- what is used afterwards, by what is added of an entry
pub used_more : (before after : Used) (es : List Entry) (e : Entry) → IsUsed before es
    → map source_of after.sources.items ≡ map source_of before.sources.items ++ sources_of e
    → map ground_of after.names.items ≡ map ground_of before.names.items ++ fresh_uses e
    → map ground_of after.learnt.items ≡ map ground_of before.learnt.items ++ learnt_by e → IsUsed after (es ++ e ∷ [])
used_more before after es e used sources names learnt = record {
  sources = sources ∙ ap (λ (os : List Source). os ++ sources_of e) used.sources ∙ sym (more_sources es e);
  names = names ∙ ap (λ (ts : List Ground). ts ++ fresh_uses e) used.names ∙ sym (more_names es e);
  learnt = learnt ∙ ap (λ (ts : List Ground). ts ++ learnt_by e) used.learnt ∙ sym (more_learnt es e);
}
