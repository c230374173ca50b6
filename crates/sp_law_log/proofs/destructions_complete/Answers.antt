use Rattle.sp_law_log.proofs.Ways.{way_found, way_leads}
use Rattle.sp_law_log.proofs.Destructions.{place_among}
use Rattle.sp_law_log.proofs.destructions_complete.Goals as goal

pub returns : goal.returns
returns c = record {
  way = λ e p. let f = way_found e.right e.left p in (f.0, f.1, way_leads e.right e.left f.0 f.1);
  listed = λ signature e m above f g under w publics public. place_among signature e m above f (record { next = g; under = under; way = w; publics = publics; public = public });
}
