-- What the checking answers is right, and of the same entries there is one answer.
use Rattle.std.proofs.Common.{◌≡◌, ◌<◌, ⊎_elim, ℕ, List, [], ◌∷◌, ◌++◌, length, Option, Some, None, refl, sym, ap, ◌∙◌, subst, arith, append_assoc}
use Rattle.std.specs.Bool.{Decides}
use Rattle.std.proofs.lemmas.List.{append-nil}
use Rattle.std.proofs.lemmas.Bool.{cases_order}
use Rattle.sp_spec.specs.Lists.{newest_first}
use Rattle.sp_spec.specs.Theory.{Theory, signature_of}
use Rattle.sp_spec.specs.Log.{Entry, Log, Keeps, IsLog}
use Rattle.sp_spec.proofs.Lists.{newest_append}
use Rattle.sp_law_equal.specs.RightTheory.{HasNormalInstances}
use Rattle.sp_learn.specs.declared.check.Clause.{Clause}
use Rattle.sp_learn.specs.declared.check.Checked.{Checked}
use Rattle.sp_learn.specs.declared.check.Checked.TheVariants.{Fine, Fails}
use Rattle.sp_learn.specs.Checking.{broken, fails_or, check_behind, check_of, is_fine, is_log}
use Rattle.sp_learn.specs.Meaning.{clause_of, rank, IsFirstBroken, IsChecked}
use Rattle.sp_learn.proofs.Clauses.{by_forms, same_rank, Told, entry_told}

-- ---- lists that are split at an entry

split_same : (xs ys : List Entry) (x y : Entry) (bs cs : List Entry) → length xs ≡ length ys → xs ++ x ∷ bs ≡ ys ++ y ∷ cs → (xs ≡ ys) × (x ≡ y)
split_same [] [] x y bs cs l e = (refl, cc)
split_same [] (z ∷ ys) x y bs cs l e = absurd (omega (arith, l))
split_same (z ∷ xs) [] x y bs cs l e = absurd (omega (arith, l))
split_same (z ∷ xs) (w ∷ ys) x y bs cs l e =
    let first : z ≡ w = cc in
    let rest : xs ++ x ∷ bs ≡ ys ++ y ∷ cs = cc in
    let r = split_same xs ys x y bs cs (omega (arith, l)) rest in
    let same = r.0 in
    (cc, r.1)

split_longer : (xs ys : List Entry) (x y : Entry) (bs cs : List Entry) → length xs < length ys → xs ++ x ∷ bs ≡ ys ++ y ∷ cs → (zs : List Entry) × (ys ≡ xs ++ x ∷ zs)
split_longer [] [] x y bs cs l e = absurd (omega (arith, l))
split_longer [] (z ∷ ys) x y bs cs l e = let same : z ≡ x = cc in (ys, ap (λ w. w ∷ ys) same)
split_longer (z ∷ xs) [] x y bs cs l e = absurd (omega (arith, l))
split_longer (z ∷ xs) (w ∷ ys) x y bs cs l e =
    let first : w ≡ z = cc in
    let rest : xs ++ x ∷ bs ≡ ys ++ y ∷ cs = cc in
    let r = split_longer xs ys x y bs cs (omega (arith, l)) rest in
    let same = r.1 in
    (r.0, cc)

-- ---- logs

module _ (theory : Theory) where
  -- the entries before the others of a log are a log
  log_before : (xs ys : List Entry) → IsLog theory (xs ++ ys) → IsLog theory ys
  log_before [] ys h = h
  log_before (x ∷ xs) ys h = log_before xs ys h.0

  -- an entry of a log keeps each clause behind the front
  kept_here : (front : List Entry) (e : Entry) (back : List Entry) → IsLog theory (newest_first (front ++ e ∷ back)) → (clause : Clause)
      → Keeps theory (clause_of clause) e (newest_first front)
  kept_here front e back h clause =
      let order : newest_first (front ++ e ∷ back) ≡ newest_first back ++ e ∷ newest_first front =
      newest_append front (e ∷ back) ∙ append_assoc (newest_first back) (e ∷ []) (newest_first front) in
      let here = log_before (newest_first back) (e ∷ newest_first front) (subst (λ (zs : Log). IsLog theory zs) order h) in
      here.1 (clause_of clause)

  pub no_log : (entries : List Entry) (n : ℕ) (clause : Clause) → IsFirstBroken theory entries n clause → IsLog theory (newest_first entries) → ⊥
  no_log entries n clause f h =
      f.breaks (kept_here f.front f.entry f.back (subst (λ (zs : List Entry). IsLog theory (newest_first zs)) f.splits h) clause)

  -- ---- what is answered

  module _ (good : HasNormalInstances theory) where
    -- the entry that is told first, or else what is answered of the later ones
    by_told : (earlier : List Entry) (e : Entry) (log : IsLog theory (newest_first earlier)) (later : List Entry) (o : Option Clause)
        → Told theory good earlier log e o → (c : Checked)
        → (IsLog theory (e ∷ newest_first earlier) → IsChecked theory (earlier ++ e ∷ later) c) → IsChecked theory (earlier ++ e ∷ later) (fails_or (length earlier) o c)
    by_told earlier e log later None told c next = next told
    by_told earlier e log later (Some clause) told c next = record {
      front = earlier;
      entry = e;
      back = later;
      splits = refl;
      counted = refl;
      is_log = log;
      breaks = told.0;
      least = told.1;
    }

    check_right : (later earlier : List Entry) → IsLog theory (newest_first earlier)
        → IsChecked theory (earlier ++ later) (check_behind (signature_of theory) (by_forms theory good) earlier later)
    check_right [] earlier log = subst (λ (zs : List Entry). IsLog theory (newest_first zs)) (sym (append-nil earlier)) log
    check_right (e ∷ later) earlier log =
        let forms = by_forms theory good in
        by_told earlier e log later (broken (signature_of theory) forms earlier e) (entry_told theory good earlier log e)
        (check_behind (signature_of theory) forms (earlier ++ e ∷ []) later)
        (λ whole.
        subst (λ (zs : List Entry). IsChecked theory zs (check_behind (signature_of theory) forms (earlier ++ e ∷ []) later))
        (append_assoc earlier (e ∷ []) later)
        (check_right later (earlier ++ e ∷ []) (subst (λ (zs : Log). IsLog theory zs) (sym (newest_append earlier (e ∷ []))) whole)))

    -- the answer is right
    pub is_checked : (entries : List Entry) → IsChecked theory entries (check_of (signature_of theory) (by_forms theory good) entries)
    is_checked entries = check_right entries [] tt

    -- and the test tells of logs
    pub log_decides : (entries : List Entry) → Decides (is_log (signature_of theory) (by_forms theory good) entries) (IsLog theory (newest_first entries))
    log_decides entries = by_answer (check_of (signature_of theory) (by_forms theory good) entries) (is_checked entries)
      where
        by_answer : (c : Checked) → IsChecked theory entries c → Decides (is_fine c) (IsLog theory (newest_first entries))
        by_answer Fine h = (λ t. h, λ l. refl)
        by_answer (Fails n clause) h = (λ t. absurd cc, λ l. absurd (no_log entries n clause h l))

  -- ---- one answer

  module _ (entries : List Entry) where
    not_later : (n m : ℕ) (clause other : Clause) → (f : IsFirstBroken theory entries n clause) → (g : IsFirstBroken theory entries m other)
        → length f.front < length g.front → ⊥
    not_later n m clause other f g l =
        let r = split_longer f.front g.front f.entry g.entry f.back g.back l (sym f.splits ∙ g.splits) in
        f.breaks (kept_here f.front f.entry r.0 (subst (λ (zs : List Entry). IsLog theory (newest_first zs)) r.1 g.is_log) clause)

    not_greater : (n m : ℕ) (clause other : Clause) → (f : IsFirstBroken theory entries n clause) → (g : IsFirstBroken theory entries m other)
        → f.front ≡ g.front → f.entry ≡ g.entry → rank clause < rank other → ⊥
    not_greater n m clause other f g e s l =
        let kept = g.least clause l in
        f.breaks (subst (λ (x : Entry). Keeps theory (clause_of clause) x (newest_first f.front)) (sym s)
        (subst (λ (zs : List Entry). Keeps theory (clause_of clause) g.entry (newest_first zs)) (sym e) kept))

    pub one_fault : (n m : ℕ) (clause other : Clause) → IsFirstBroken theory entries n clause → IsFirstBroken theory entries m other → (n ≡ m) × (clause ≡ other)
    one_fault n m clause other f g =
        ⊎_elim same_length
        (λ u. ⊎_elim (λ l. absurd (not_later n m clause other f g l)) (λ l. absurd (not_later m n other clause g f l)) u)
        (cases_order (length f.front) (length g.front))
      where
        same_length : length f.front ≡ length g.front → (n ≡ m) × (clause ≡ other)
        same_length e =
            let s = split_same f.front g.front f.entry g.entry f.back g.back e (sym f.splits ∙ g.splits) in (
              f.counted ∙ e ∙ sym g.counted,
              ⊎_elim (same_rank clause other)
                  (λ u. ⊎_elim
                  (λ l. absurd (not_greater n m clause other f g s.0 s.1 l))
                  (λ l. absurd (not_greater m n other clause g f (sym s.0) (sym s.1) l)) u)
                  (cases_order (rank clause) (rank other)),
            )

    pub one_answer : (answer other : Checked) → IsChecked theory entries answer → IsChecked theory entries other → answer ≡ other
    one_answer Fine Fine a b = refl
    one_answer Fine (Fails m other) a b = absurd (no_log entries m other b a)
    one_answer (Fails n clause) Fine a b = absurd (no_log entries n clause a b)
    one_answer (Fails n clause) (Fails m other) a b =
        let same = one_fault n m clause other a b in
        ap (λ k. Fails k clause) same.0 ∙ ap (λ x. Fails m x) same.1
