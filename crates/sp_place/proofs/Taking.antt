-- A token is taken step by step: each step keeps what texts go on from the token on.
use Rattle.std.proofs.Common.{◌≡◌, ◌<◌, Bool, true, List, [], ◌∷◌, ◌++◌, refl, sym, ap, subst, ◌∙◌, length, reverse, MatchBool, ◌==◌, eqb-true, eq-eqb, false, arith}
use Rattle.std.proofs.lemmas.List.{length-reverse, nil_from_length}
use Rattle.sp_spec_text.specs.Signs.{Wide}
use Rattle.sp_spec_text.specs.Signs as s
use Rattle.sp_spec_text.specs.Token.{Lexeme, sign, wide}
use Rattle.sp_spec_text.specs.Plain.{text_beside, plain_to_quote}
use Rattle.sp_await.specs.Parts.{Awaited}
use Rattle.sp_await.specs.Parts as a
use Rattle.sp_await.specs.Table.{Move, takes, becomes, opens, stuck, next}
use Rattle.sp_await.specs.Stack.{is_closed, Fits, Good}
use Rattle.sp_law_await.specs.Language.{by_token, by_parts, by_quote, HasAll, all_had, and_all}
use Rattle.sp_place.specs.Remaining.{Remaining, as_read, read_as, stays_open, EndsIn}
use Rattle.sp_place.specs.Texts.{Follows, Refuses}
use Rattle.sp_law_await.proofs.Had.{taken, become, open_had, no_move, none_left, had_append}
use Rattle.sp_law_await.proofs.Keeps.{weights, taken_good, become_good, open_good, become_lighter, open_lighter}

-- ---- one after the other

record Split (parts others : List Awaited) (tokens rest : List Lexeme) : Type 0 where
  mid : List Lexeme
  first : HasAll parts tokens mid
  second : HasAll others mid rest

had_split : (parts : List Awaited) {others : List Awaited} {tokens rest : List Lexeme} → HasAll (parts ++ others) tokens rest → Split parts others tokens rest
had_split [] {tokens = tokens} h = record { mid = tokens; first = all_had; second = h }
had_split (part ∷ parts) (and_all h i) = let l = had_split parts i in record { mid = l.mid; first = and_all h l.first; second = l.second }

-- ---- tokens as they are read

-- a token is read by itself, and those behind it as a formula is open there or not
pub reads : (b : Bool) (x : Lexeme) (more : List Lexeme) → as_read b (x ∷ more) ≡ read_as b x ∷ as_read (stays_open b x) more
reads false x more = refl
reads true (sign s.Quote) more = refl
reads true _ more = refl

beside_again : (v : Wide) (tokens : List Lexeme) → plain_to_quote (text_beside v ∷ tokens) ≡ text_beside v ∷ plain_to_quote tokens
beside_again s.All tokens = refl
beside_again _ tokens = refl

-- what is read as text is read so again
plain_again : (tokens : List Lexeme) → plain_to_quote (plain_to_quote tokens) ≡ plain_to_quote tokens
plain_again [] = refl
plain_again (sign s.Quote ∷ tokens) = refl
plain_again (wide v ∷ tokens) = beside_again v (plain_to_quote tokens) ∙ ap (λ (ts : List Lexeme). text_beside v ∷ ts) (plain_again tokens)
plain_again (x ∷ tokens) = ap (λ (ts : List Lexeme). x ∷ ts) (plain_again tokens)

read_again : (b : Bool) (tokens : List Lexeme) → plain_to_quote (as_read b tokens) ≡ plain_to_quote tokens
read_again true tokens = plain_again tokens
read_again false tokens = refl

-- the token and those behind it, read as those of a formula
opened_again : (b : Bool) (x : Lexeme) (more : List Lexeme) → plain_to_quote (read_as b x ∷ as_read (stays_open b x) more) ≡ plain_to_quote (x ∷ more)
opened_again b x more = ap plain_to_quote (sym (reads b x more)) ∙ read_again b (x ∷ more)

-- ---- steps

abbrev pub left : Bool → List Awaited → Remaining
left b parts = record { in_formula = b; parts = parts }

-- from the token on the same texts go on from these parts as from what was left
pub record Same (start : Remaining) (x : Lexeme) (b : Bool) (now : List Awaited) : Type 0 where
  pub goes : (more : List Lexeme) → HasAll now (as_read b (x ∷ more)) [] → EndsIn start (x ∷ more)
  pub comes : (more : List Lexeme) → EndsIn start (x ∷ more) → HasAll now (as_read b (x ∷ more)) []
  pub good : Good now

pub same_start : {b : Bool} {parts : List Awaited} (x : Lexeme) → Good parts → Same (left b parts) x b parts
same_start x g = record { goes = λ m h. h; comes = λ m h. h; good = g }

-- what a part needs does not depend on those behind it
fits_so : (part : Awaited) (b : Bool) → Fits part b → Fits part true
fits_so (a.Negation n k) b f = (f.0, refl)
fits_so (a.Unit n k) b f = (f.0, refl)
fits_so (a.Side n k) b f = (f.0, refl)
fits_so (a.Order n k) b f = (f.0, refl)
fits_so (a.Bare n k) b f = (f.0, refl)
fits_so (a.Named n k) b f = (f.0, refl)
fits_so (a.Shown n k) b f = (f.0, refl)
fits_so (a.Truth n k) b f = (f.0, refl)
fits_so (a.Both n k) b f = (f.0, refl)
fits_so (a.Closing n k) b f = (f.0, refl)
fits_so (a.More n) b f = (f.0, refl)
fits_so (a.Twice n) b f = (f.0, refl)
fits_so _ b f = f

pub fits_first : {start : Remaining} {now others : List Awaited} {b : Bool} {x : Lexeme} {part : Awaited} → Same start x b now → now ≡ part ∷ others → Fits part true
fits_first {others = others} {part = part} k e = let g : Good (part ∷ others) = subst Good e k.good in fits_so part (is_closed others) g.0

same_as : {start : Remaining} {now parts : List Awaited} {b : Bool} {x : Lexeme} → Same start x b now → now ≡ parts → Same start x b parts
same_as {start} {b = b} {x = x} k e = subst (λ (ps : List Awaited). Same start x b ps) e k

same_move : (part : Awaited) {m : Move} {y z : Lexeme} → y ≡ z → m ≡ next part y → next part z ≡ m
same_move part f d = sym (d ∙ ap (λ (u : Lexeme). next part u) f)

-- the parts meet the token as it is read
met : {start : Remaining} {parts : List Awaited} {b : Bool} {x : Lexeme} → Same start x b parts → (more : List Lexeme) → EndsIn start (x ∷ more) → HasAll parts (read_as b x ∷ as_read (stays_open b x) more) []
met {parts = parts} {b = b} {x = x} k m h = subst (λ (ts : List Lexeme). HasAll parts ts []) (reads b x m) (k.comes m h)

meets : {start : Remaining} {parts : List Awaited} {b : Bool} {x : Lexeme} → Same start x b parts → (more : List Lexeme) → HasAll parts (read_as b x ∷ as_read (stays_open b x) more) [] → EndsIn start (x ∷ more)
meets {parts = parts} {b = b} {x = x} k m h = k.goes m (subst (λ (ts : List Lexeme). HasAll parts ts []) (sym (reads b x m)) h)

none_met : {x : Lexeme} {tokens : List Lexeme} → HasAll [] (x ∷ tokens) [] → ⊥
none_met h = let i = none_left h in cc

pub same_none : {start : Remaining} {now : List Awaited} {b : Bool} {x : Lexeme} → Same start x b now → now ≡ [] → Refuses start x
same_none k e = record { none = λ m h. none_met (met (same_as k e) m h) }

stuck_met : {part : Awaited} {others : List Awaited} {y : Lexeme} {tokens : List Lexeme} → next part y ≡ stuck → HasAll (part ∷ others) (y ∷ tokens) [] → ⊥
stuck_met {part} {y = y} d (and_all h i) = no_move part y d h

pub same_stuck : {start : Remaining} {now others : List Awaited} {b : Bool} {x y : Lexeme} {part : Awaited} → Same start x b now → now ≡ part ∷ others → y ≡ read_as b x → stuck ≡ next part y → Refuses start x
same_stuck {part = part} k e f d = record { none = λ m h. stuck_met (same_move part f d) (met (same_as k e) m h) }

takes_met : {part : Awaited} {parts others : List Awaited} {y : Lexeme} {tokens : List Lexeme} → next part y ≡ takes parts → HasAll (part ∷ others) (y ∷ tokens) [] → HasAll (parts ++ others) tokens []
takes_met {part} {y = y} d (and_all h i) = had_append (taken part y d h) i

take_meets : {part : Awaited} {parts others : List Awaited} {y : Lexeme} {tokens : List Lexeme} → next part y ≡ takes parts → HasAll (parts ++ others) tokens [] → HasAll (part ∷ others) (y ∷ tokens) []
take_meets {parts = parts} d h = let l = had_split parts h in and_all (by_token d l.first) l.second

follows_take : {start : Remaining} {others parts : List Awaited} {b : Bool} {x : Lexeme} {part : Awaited} → Same start x b (part ∷ others) → next part (read_as b x) ≡ takes parts → Follows start x (left (stays_open b x) (parts ++ others))
follows_take {others = others} {parts = parts} {b = b} {x = x} {part = part} k d = record {
  goes = λ m h. meets k m (take_meets d h);
  comes = λ m h. takes_met d (met k m h);
  good = taken_good part (read_as b x) parts others d k.good;
}

pub same_takes : {start : Remaining} {now others parts new : List Awaited} {b c : Bool} {x y : Lexeme} {part : Awaited} → Same start x b now → now ≡ part ∷ others → y ≡ read_as b x → takes parts ≡ next part y → new ≡ parts ++ others → c ≡ stays_open b x
    → Follows start x (left c new)
same_takes {start} {new = new} {b = b} {x = x} {part = part} k e f d n o =
    subst (λ (c : Bool). Follows start x (left c new)) (sym o) (subst (λ (ps : List Awaited). Follows start x (left (stays_open b x) ps)) (sym n) (follows_take (same_as k e) (same_move part f d)))

becomes_met : {part : Awaited} {parts others : List Awaited} {y : Lexeme} {tokens : List Lexeme} → next part y ≡ becomes parts → HasAll (part ∷ others) (y ∷ tokens) [] → HasAll (parts ++ others) (y ∷ tokens) []
becomes_met {part} {y = y} d (and_all h i) = had_append (become part y d h) i

become_meets : {part : Awaited} {parts others : List Awaited} {y : Lexeme} {tokens : List Lexeme} → next part y ≡ becomes parts → HasAll (parts ++ others) (y ∷ tokens) [] → HasAll (part ∷ others) (y ∷ tokens) []
become_meets {parts = parts} d h = let l = had_split parts h in and_all (by_parts d l.first) l.second

becomes_same : {start : Remaining} {others parts : List Awaited} {b : Bool} {x : Lexeme} {part : Awaited} → Same start x b (part ∷ others) → next part (read_as b x) ≡ becomes parts → Same start x b (parts ++ others)
becomes_same {others = others} {parts = parts} {b = b} {x = x} {part = part} k d = record {
  goes = λ m h. meets k m (become_meets d (subst (λ (ts : List Lexeme). HasAll (parts ++ others) ts []) (reads b x m) h));
  comes = λ m h. subst (λ (ts : List Lexeme). HasAll (parts ++ others) ts []) (sym (reads b x m)) (becomes_met d (met k m h));
  good = become_good part (read_as b x) parts others d k.good;
}

pub same_becomes : {start : Remaining} {now others parts new : List Awaited} {b : Bool} {x y : Lexeme} {part : Awaited} → Same start x b now → now ≡ part ∷ others → y ≡ read_as b x → becomes parts ≡ next part y → new ≡ parts ++ others → Same start x b new
same_becomes {start} {b = b} {x = x} {part = part} k e f d n = subst (λ (ps : List Awaited). Same start x b ps) (sym n) (becomes_same (same_as k e) (same_move part f d))

-- where a formula is opened the parts meet the tokens as those of a formula
opens_met : {part : Awaited} {parts others : List Awaited} {y : Lexeme} {tokens : List Lexeme} → next part y ≡ opens parts → HasAll (part ∷ others) (y ∷ tokens) [] → HasAll (parts ++ others) (plain_to_quote (y ∷ tokens)) []
opens_met {part} {y = y} d (and_all h i) = had_append (open_had part y d h) i

open_meets : {part : Awaited} {parts others : List Awaited} {y : Lexeme} {tokens : List Lexeme} → next part y ≡ opens parts → HasAll (parts ++ others) (plain_to_quote (y ∷ tokens)) [] → HasAll (part ∷ others) (y ∷ tokens) []
open_meets {parts = parts} d h = let l = had_split parts h in and_all (by_quote d l.first) l.second

opens_same : {start : Remaining} {others parts : List Awaited} {b : Bool} {x : Lexeme} {part : Awaited} → Same start x b (part ∷ others) → next part (read_as b x) ≡ opens parts → Same start x true (parts ++ others)
opens_same {others = others} {parts = parts} {b = b} {x = x} {part = part} k d = record {
  goes = λ m h. meets k m (open_meets d (subst (λ (ts : List Lexeme). HasAll (parts ++ others) ts []) (sym (opened_again b x m)) h));
  comes = λ m h. subst (λ (ts : List Lexeme). HasAll (parts ++ others) ts []) (opened_again b x m) (opens_met d (met k m h));
  good = open_good part (read_as b x) parts others d k.good;
}

pub same_opens : {start : Remaining} {now others parts new : List Awaited} {b : Bool} {x y : Lexeme} {part : Awaited} → Same start x b now → now ≡ part ∷ others → y ≡ read_as b x → opens parts ≡ next part y → new ≡ parts ++ others → Same start x true new
same_opens {start} {b = b} {x = x} {part = part} k e f d n = subst (λ (ps : List Awaited). Same start x true ps) (sym n) (opens_same (same_as k e) (same_move part f d))

pub becomes_lighter : {now others parts new : List Awaited} (x : Lexeme) (part : Awaited) → now ≡ part ∷ others → becomes parts ≡ next part x → new ≡ parts ++ others → weights new < weights now
becomes_lighter {others = others} {parts = parts} x part e d f = rw (e, f) (become_lighter part x parts others (sym d))

pub opens_lighter : {now others parts new : List Awaited} (x : Lexeme) (part : Awaited) → now ≡ part ∷ others → opens parts ≡ next part x → new ≡ parts ++ others → weights new < weights now
opens_lighter {others = others} {parts = parts} x part e d f = rw (e, f) (open_lighter part x parts others (sym d))

-- ---- no parts

none_so : (parts : List Awaited) (b : Bool) → (length parts == 0) ≡ b → MatchBool b (reverse parts ≡ []) (reverse parts ≡ [] → ⊥)
none_so parts true e = ap (λ (ps : List Awaited). reverse ps) (nil_from_length parts (eqb-true (length parts) 0 e))
none_so parts false e = λ r.
    let n : length (reverse parts) ≡ 0 = ap (λ (ps : List Awaited). length ps) r in
    let m : length parts ≡ 0 = omega (arith, n, length-reverse parts) in
    let k : (length parts == 0) ≡ true = eq-eqb (length parts) 0 m in
    cc

pub none_reversed : (parts : List Awaited) → MatchBool (length parts == 0) (reverse parts ≡ []) (reverse parts ≡ [] → ⊥)
none_reversed parts = none_so parts (length parts == 0) refl

pub ruleset steps = (same_start, fits_first, same_none, same_stuck, same_takes, same_becomes, same_opens, becomes_lighter, opens_lighter)
