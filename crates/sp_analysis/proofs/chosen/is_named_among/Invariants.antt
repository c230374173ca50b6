use Rattle.std.proofs.Common.{◌≡◌, map, drop}
use Rattle.std.specs.Prelude.{bytes_eq}
use Rattle.std.specs.List.{list_any}
use Rattle.sp_pose.specs.Asked.{Asked, asked_of}
use Rattle.sp_analysis.proofs.chosen.is_named_among.Given as goal

abbrev pub invariant-loop-lemma : goal.invariant-loop-lemma
invariant-loop-lemma l =
    list_any (bytes_eq l.name) (map (λ (a : Asked). a.name) (map asked_of l.lemmas.items))
    ≡ list_any (bytes_eq l.name) (map (λ (a : Asked). a.name) (map asked_of (drop l.lemma-index l.lemmas.items)))
