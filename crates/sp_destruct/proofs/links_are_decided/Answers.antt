use Rattle.std.proofs.Common.{◌≡◌, ◌<◌, ◌+◌, ℕ, zero, subst, arith}
use Rattle.sp_spec.specs.Lists.{AtPlace}
use Rattle.sp_destruct.proofs.Leading.{by_one, link_leads, link_least}
use Rattle.sp_destruct.specs.Links.{link_by}
use Rattle.sp_destruct.proofs.Searching.{first_found}
use Rattle.sp_destruct.proofs.Deciding.{in_log}
use Rattle.sp_destruct.proofs.links_are_decided.Goals as goal

pub returns : goal.returns
returns c = record {
  by_one = by_one;
  at_places = link_leads;
  least_places = link_least;
  by_number = λ ds learnt t u number places e.
      let f = first_found (λ d. link_by d learnt t u) zero ds (number, places) e in
      let i = f.index in
      let same : number ≡ zero + i = f.same in
      let is : i ≡ number = omega arith in
      (f.item, subst (λ (k : ℕ). AtPlace ds k f.item) is f.at, f.found);
  least_number = λ ds learnt t u number places e other d l a.
      let f = first_found (λ d. link_by d learnt t u) zero ds (number, places) e in
      let i = f.index in
      let same : number ≡ zero + i = f.same in
      let below : other < i = omega arith in
      f.earlier other d below a;
  in_log = in_log;
}
