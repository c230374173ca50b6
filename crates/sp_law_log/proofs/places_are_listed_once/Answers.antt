use Rattle.sp_law_log.proofs.Destructions.{places_listed, listed_place, one_place}
use Rattle.sp_law_log.proofs.places_are_listed_once.Goals as goal

pub returns : goal.returns
returns c = record {
  listed = λ symbols e above f p d. places_listed symbols e above f p d;
  place = λ symbols e k d a. listed_place symbols e k d a;
  one = λ symbols e above others f g p q l. one_place symbols e above others f g p q l;
}
