-- Annotations of facts that are read one after the other; each way to get stuck leaves no reading.
use Rattle.std.proofs.Common.{◌≡◌, true, false, List, [], ◌∷◌, sym, ap, subst, ◌∙◌}
use Rattle.sp_spec_text.specs.Signs as s
use Rattle.sp_spec_text.specs.Token.{Lexeme, sign}
use Rattle.sp_spec_text.specs.Names.{is_annotation}
use Rattle.sp_spec_text.specs.Lists.{IsNotFirst, NoReading}
use Rattle.sp_read_parts.specs.Parts.{AreAnnotations, last_annotation, next_annotation, IsAnnotated, unannotated, annotated}

-- annotations, each with a comma behind it, stand before the rest
pub record Annotating (tokens rest : List Lexeme) : Type 0 where
  pub goes : (r : List Lexeme) → AreAnnotations rest tt r → AreAnnotations tokens tt r
  pub stops : NoReading AreAnnotations rest → NoReading AreAnnotations tokens

pub annotating_none : (tokens : List Lexeme) → Annotating tokens tokens
annotating_none tokens = record { goes = λ r h. h; stops = λ h. h }

pub annotating_last : {x : Lexeme} {tokens rest ahead end : List Lexeme} → Annotating tokens rest → rest ≡ x ∷ ahead → is_annotation x ≡ true → ahead ≡ sign s.CloseList ∷ end → AreAnnotations tokens tt end
annotating_last {end = end} g e a c = g.goes end (rw (e, c) (last_annotation a))

pub annotating_more : {x : Lexeme} {tokens rest ahead after : List Lexeme} → Annotating tokens rest → rest ≡ x ∷ ahead → is_annotation x ≡ true → ahead ≡ sign s.Comma ∷ after → Annotating tokens after
annotating_more g e a c = record {
  goes = λ r k. g.goes r (rw (e, c) (next_annotation a k));
  stops = λ n. g.stops (record { none = λ u r k. at k e c n });
}
  where
    at : {u : Unit {0}} {x : Lexeme} {ts r ahead after : List Lexeme} → AreAnnotations ts u r → ts ≡ x ∷ ahead → ahead ≡ sign s.Comma ∷ after → NoReading AreAnnotations after → ⊥
    at (last_annotation i) e c n = cc
    at {u} {after = after} (next_annotation {tokens = ts} {rest = r} i k) e c n = let f : ts ≡ after = cc in n.none u r (subst (λ (l : List Lexeme). AreAnnotations l u r) f k)

pub annotating_nil : {tokens rest : List Lexeme} → Annotating tokens rest → rest ≡ [] → NoReading AreAnnotations tokens
annotating_nil g e = g.stops (record { none = λ u r k. at k e })
  where
    at : {u : Unit {0}} {ts r : List Lexeme} → AreAnnotations ts u r → ts ≡ [] → ⊥
    at (last_annotation i) e = cc
    at (next_annotation i k) e = cc

not_so : {x y : Lexeme} → is_annotation y ≡ true → y ≡ x → is_annotation x ≡ false → ⊥
not_so i g f = let j = sym i ∙ ap is_annotation g ∙ f in cc

pub annotating_other : {x : Lexeme} {tokens rest ahead : List Lexeme} → Annotating tokens rest → rest ≡ x ∷ ahead → is_annotation x ≡ false → NoReading AreAnnotations tokens
annotating_other g e f = g.stops (record { none = λ u r k. at k e f })
  where
    at : {u : Unit {0}} {x : Lexeme} {ts r ahead : List Lexeme} → AreAnnotations ts u r → ts ≡ x ∷ ahead → is_annotation x ≡ false → ⊥
    at {x = x} (last_annotation {x = y} i) e f = let g : y ≡ x = cc in not_so i g f
    at {x = x} (next_annotation {x = y} i k) e f = let g : y ≡ x = cc in not_so i g f

pub annotating_no_sign : {x : Lexeme} {tokens rest ahead : List Lexeme} → Annotating tokens rest → rest ≡ x ∷ ahead → IsNotFirst (sign s.CloseList) ahead → IsNotFirst (sign s.Comma) ahead → NoReading AreAnnotations tokens
annotating_no_sign g e c d = g.stops (record { none = λ u r k. at k e c d })
  where
    at : {u : Unit {0}} {x : Lexeme} {ts r ahead : List Lexeme} → AreAnnotations ts u r → ts ≡ x ∷ ahead → IsNotFirst (sign s.CloseList) ahead → IsNotFirst (sign s.Comma) ahead → ⊥
    at (last_annotation {rest = r} i) e c d = c r cc
    at (next_annotation {tokens = ts} i k) e c d = d ts cc

pub ruleset lists = (annotating_none, annotating_last, annotating_more, annotating_nil, annotating_other, annotating_no_sign)

-- ---- with annotations, or without

pub annotated_at : {tokens inside rest : List Lexeme} → tokens ≡ sign s.OpenList ∷ inside → AreAnnotations inside tt rest → IsAnnotated tokens tt rest
annotated_at e h = rw e (annotated h)

pub not_annotated : {tokens inside : List Lexeme} → tokens ≡ sign s.OpenList ∷ inside → NoReading AreAnnotations inside → NoReading IsAnnotated tokens
not_annotated e n = record { none = λ u r h. at h e n }
  where
    at : {u : Unit {0}} {ts r inside : List Lexeme} → IsAnnotated ts u r → ts ≡ sign s.OpenList ∷ inside → NoReading AreAnnotations inside → ⊥
    at {inside = inside} (unannotated d) e n = d inside e
    at {u} {inside = inside} (annotated {tokens = ts} {rest = r} h) e n = let f : ts ≡ inside = cc in n.none u r (subst (λ (l : List Lexeme). AreAnnotations l u r) f h)

pub ruleset either_way = (annotated_at, not_annotated, unannotated)
