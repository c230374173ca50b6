-- The steps of a log, made from its oldest entry on.
use Rattle.std.proofs.Common.{◌≡◌, ◌<◌, ◌≤◌, ℕ, length, slice_index_or, Bool, true, false, ◌||◌, if◌then◌else◌, List, [], ◌∷◌, ◌++◌, map, take, drop, Option, Some, None, option_map, unwrap_or, slice_get, refl, sym, ap, ap₂, ◌∙◌, subst, append_assoc}
use Rattle.std.proofs.Math.Bool.{or-false, or-true, or_assoc}
use Rattle.std.proofs.lemmas.Option.{slice_get-map, slice_get-get_or, slice_get_past}
use Rattle.std.proofs.lemmas.List.{append-nil, map-append}
use Rattle.sp_spec.specs.Lists.{newest_first}
use Rattle.sp_spec.proofs.Lists.{newest_append, newest_last, newest_twice}
use Rattle.sp_spec.specs.Term.{var, constant, name, app, none, more, Ground, Grounds}
use Rattle.sp_spec.specs.Signature.{Equation, Signature}
use Rattle.sp_spec.specs.Theory.{Theory, signature_of}
use Rattle.sp_spec.specs.Execution.{Step, take_out, apply_symbol}
use Rattle.sp_spec.specs.Log.{Entry, step, send, learn, Log, IsLog, visible_trace}
use Rattle.sp_spec_forms.specs.Forms.{RuleForms, forms_of}
use Rattle.sp_term.specs.View.{terms_of}
use Rattle.sp_learn.specs.Learning.{learnt_by, learnt_in}
use Rattle.sp_law_log_execution.specs.Executed.{Level, Linking, in_front, args_between, sides_below, raised, raising, if_there, messages_at, messages_learnt, takes_from, is_taken, link_steps, chain_steps, making, from_out, executed_entry, executed_by, linking_of}
use Rattle.sp_law_log_execution.specs.Laws.{IsRunnable}
use Rattle.sp_law_log_execution.proofs.Steps.{log_runs}
use Rattle.sp_law_log_steps.specs.Execution.{IsExecutionWith}

-- ---- arguments

pub in_front_of : (xs : List Ground) (ys : List Ground) → terms_of (xs ++ ys) ≡ in_front xs (terms_of ys)
in_front_of [] ys = refl
in_front_of (x ∷ xs) ys = ap (more x) (in_front_of xs ys)

terms_alone : (ts : List Ground) → terms_of ts ≡ in_front ts none
terms_alone [] = refl
terms_alone (t ∷ ts) = ap (more t) (terms_alone ts)

-- the arguments in front of the message that is entered, that message, and those behind it
pub args_made : (l : Level) (ms made : List Ground) (t : Ground)
    → made ≡ (take l.front ms ++ t ∷ []) ++ take l.back (drop l.front ms) → terms_of made ≡ args_between l ms t
args_made l ms made t e =
    let front = take l.front ms in
    let back = take l.back (drop l.front ms) in
    ap terms_of (e ∙ append_assoc front (t ∷ []) back)
    ∙ in_front_of front (t ∷ back)
    ∙ ap (λ (ts : Grounds). in_front front (more t ts)) (terms_alone back)

-- one level more
module _ (levels below : List Level) (l : Level) (ms sides : List Ground) (t entered : Ground) (args : Grounds) (is : levels ≡ l ∷ below)
    (sides_are : sides ≡ sides_below l ms) (entered_is : entered ≡ raised below sides t) (args_are : args ≡ args_between l ms entered) where
  same_args : args ≡ args_between l ms (raised below (sides_below l ms) t)
  same_args = args_are ∙ ap (args_between l ms) (entered_is ∙ ap (λ (s : List Ground). raised below s t) sides_are)

  pub raised_more : app l.symbol args ≡ raised levels ms t
  raised_more = ap (app l.symbol) same_args ∙ ap (λ (ls : List Level). raised ls ms t) (sym is)

  pub raising_more : (before inner after : List Step) → inner ≡ before ++ newest_first (raising below sides t)
      → after ≡ inner ++ apply_symbol l.symbol args ∷ [] → after ≡ before ++ newest_first (raising levels ms t)
  raising_more before inner after i a =
      a ∙ ap₂ (λ (xs : List Step) (ts : Grounds). xs ++ apply_symbol l.symbol ts ∷ [])
      (i ∙ ap (λ (s : List Ground). before ++ newest_first (raising below s t)) sides_are) same_args
      ∙ append_assoc before (newest_first (raising below (sides_below l ms) t)) (apply_symbol l.symbol (args_between l ms (raised below (sides_below l ms) t)) ∷ [])
      ∙ ap (λ (ls : List Level). before ++ newest_first (raising ls ms t)) (sym is)

-- ---- chains

module _ (by : Linking) (learnt : List Ground) where
  -- a step of the way along a chain
  pub chain_more : (steps : List Step) (t u : Ground) (chain : List Ground)
      → steps ++ newest_first (chain_steps by learnt t (u ∷ chain))
      ≡ (steps ++ newest_first (link_steps by learnt t u)) ++ newest_first (chain_steps by learnt u chain)
  chain_more steps t u chain =
      ap (λ (xs : List Step). steps ++ xs) (newest_append (chain_steps by learnt u chain) (link_steps by learnt t u))
      ∙ sym (append_assoc steps (newest_first (link_steps by learnt t u)) (newest_first (chain_steps by learnt u chain)))

-- the way of a number, if there is one
pub way_there : {A : Type 0} (f : A → List Level) (ways : List A) (n : ℕ) (way : A) → slice_get ways n ≡ Some way
    → unwrap_or (slice_get (map f ways) n) [] ≡ f way
way_there f ways n way e = ap (λ (o : Option (List Level)). unwrap_or o []) (slice_get-map f ways n ∙ ap (option_map f) e)

pub way_absent : {A : Type 0} (f : A → List Level) (ways : List A) (n : ℕ) → slice_get ways n ≡ None → unwrap_or (slice_get (map f ways) n) [] ≡ []
way_absent f ways n e = ap (λ (o : Option (List Level)). unwrap_or o []) (slice_get-map f ways n ∙ ap (option_map f) e)

-- the message at the first of the places, if there is one
module _ {A : Type 0} (f : A → Ground) (learnt : List A) (k : ℕ) (ks : List ℕ) where
  pub message_there : (found : List A) (t u : A) → slice_get learnt k ≡ Some t → f u ≡ f t
      → map f (found ++ u ∷ []) ++ messages_at (map f learnt) ks ≡ map f found ++ messages_at (map f learnt) (k ∷ ks)
  message_there found t u there same =
      let rest = messages_at (map f learnt) ks in
      ap (λ (ms : List Ground). ms ++ rest) (map-append f found (u ∷ []))
      ∙ append_assoc (map f found) (f u ∷ []) rest
      ∙ ap (λ (m : Ground). map f found ++ m ∷ rest) same
      ∙ ap (λ (o : Option Ground). map f found ++ (if_there o ++ rest)) (sym (slice_get-map f learnt k ∙ ap (option_map f) there))

  pub message_absent : slice_get learnt k ≡ None → messages_at (map f learnt) ks ≡ messages_at (map f learnt) (k ∷ ks)
  message_absent absent =
      ap (λ (o : Option Ground). if_there o ++ messages_at (map f learnt) ks) (sym (slice_get-map f learnt k ∙ ap (option_map f) absent))

-- what is read in a list is there
pub is_there : {A : Type 0} (xs ys : List A) (k : ℕ) (x : A) → xs ≡ ys → k < length xs → ((d : A) → x ≡ slice_index_or xs k d) → slice_get ys k ≡ Some x
is_there {A} xs ys k x same within is =
    ap (λ (zs : List A). slice_get zs k) (sym same) ∙ slice_get-get_or xs k x within ∙ ap (λ (y : A). Some y) (sym (is x))

pub is_absent : {A : Type 0} (xs ys : List A) (k : ℕ) → xs ≡ ys → length xs ≤ k → slice_get ys k ≡ None
is_absent {A} xs ys k same past = ap (λ (zs : List A). slice_get zs k) (sym same) ∙ slice_get_past xs k past

-- ---- what is taken and learnt

taken_joined : (xs : Log) (e : Entry) (p k : ℕ) → is_taken (xs ++ e ∷ []) p k ≡ is_taken xs p k || takes_from e p k
taken_joined [] e p k = or-false (takes_from e p k)
taken_joined (x ∷ xs) e p k =
    ap (λ (b : Bool). takes_from x p k || b) (taken_joined xs e p k) ∙ sym (or_assoc (takes_from x p k) (is_taken xs p k) (takes_from e p k))

-- by the oldest entry, or else by a later one
pub taken_here : (e : Entry) (es : List Entry) (p k : ℕ) → takes_from e p k ≡ true → is_taken (newest_first (e ∷ es)) p k ≡ true
taken_here e es p k is =
    taken_joined (newest_first es) e p k ∙ ap (λ (b : Bool). is_taken (newest_first es) p k || b) is ∙ or-true (is_taken (newest_first es) p k)

pub taken_later : (e : Entry) (es : List Entry) (p k : ℕ) → takes_from e p k ≡ false
    → is_taken (newest_first (e ∷ es)) p k ≡ is_taken (newest_first es) p k
taken_later e es p k is =
    taken_joined (newest_first es) e p k ∙ ap (λ (b : Bool). is_taken (newest_first es) p k || b) is ∙ or-false (is_taken (newest_first es) p k)

learnt_joined : (xs : Log) (e : Entry) → messages_learnt (xs ++ e ∷ []) ≡ learnt_by e ++ messages_learnt xs
learnt_joined [] (step r facts os) = refl
learnt_joined [] (send m) = refl
learnt_joined [] (learn m how) = refl
learnt_joined (step r facts os ∷ xs) e = learnt_joined xs e
learnt_joined (send m ∷ xs) e = learnt_joined xs e
learnt_joined (learn m how ∷ xs) e =
    ap (λ (ms : List Ground). ms ++ m ∷ []) (learnt_joined xs e) ∙ append_assoc (learnt_by e) (messages_learnt xs) (m ∷ [])

pub learnt_oldest : (es : List Entry) → messages_learnt (newest_first es) ≡ learnt_in es
learnt_oldest [] = refl
learnt_oldest (e ∷ es) = learnt_joined (newest_first es) e ∙ ap (λ (ms : List Ground). learnt_by e ++ ms) (learnt_oldest es)

-- what was put out is taken first
pub from_out_newest : (by : Linking) (past : Log) (p k : ℕ) (t : Ground) (chain : List Ground)
    → newest_first (from_out by past p k (t ∷ chain))
    ≡ (if is_taken past p k then [] else take_out t ∷ []) ++ newest_first (chain_steps by (messages_learnt past) t chain)
from_out_newest by past p k t chain =
    newest_append (chain_steps by (messages_learnt past) t chain) (if is_taken past p k then [] else take_out t ∷ [])
    ∙ ap (λ (xs : List Step). xs ++ newest_first (chain_steps by (messages_learnt past) t chain)) (one_alone (is_taken past p k))
  where
    one_alone : (b : Bool) → newest_first (if b then [] else take_out t ∷ []) ≡ (if b then [] else take_out t ∷ [])
    one_alone true = refl
    one_alone false = refl

pub making_alone : (m : Ground) → newest_first (making m) ≡ making m
making_alone (var x) = refl
making_alone (constant c) = refl
making_alone (name n) = refl
making_alone (app f ts) = refl

-- ---- entries

module _ (es : List Equation) (rules : List RuleForms) (by : Linking) where
  -- the steps of entries behind these, the oldest first
  abbrev pub steps_behind : List Entry → List Entry → List Step
  steps_behind earlier [] = []
  steps_behind earlier (e ∷ later) = newest_first (executed_entry es rules by (newest_first earlier) e) ++ steps_behind (earlier ++ e ∷ []) later

  pub steps_more : (steps : List Step) (earlier : List Entry) (e : Entry) (later : List Entry)
      → steps ++ steps_behind earlier (e ∷ later)
      ≡ (steps ++ newest_first (executed_entry es rules by (newest_first earlier) e)) ++ steps_behind (earlier ++ e ∷ []) later
  steps_more steps earlier e later =
      sym (append_assoc steps (newest_first (executed_entry es rules by (newest_first earlier) e)) (steps_behind (earlier ++ e ∷ []) later))

  behind_newest : (earlier later : List Entry)
      → newest_first (steps_behind earlier later) ++ executed_by es rules by (newest_first earlier) ≡ executed_by es rules by (newest_first (earlier ++ later))
  behind_newest earlier [] = ap (λ (xs : List Entry). executed_by es rules by (newest_first xs)) (sym (append-nil earlier))
  behind_newest earlier (e ∷ later) =
      let here = executed_entry es rules by (newest_first earlier) e in
      let rest = steps_behind (earlier ++ e ∷ []) later in
      let old = executed_by es rules by (newest_first earlier) in
      ap (λ (xs : List Step). xs ++ old)
      (newest_append (newest_first here) rest ∙ ap (λ (xs : List Step). newest_first rest ++ xs) (newest_twice here))
      ∙ append_assoc (newest_first rest) here old
      ∙ ap (λ (log : Log). newest_first rest ++ executed_by es rules by log) (sym (newest_last earlier e))
      ∙ behind_newest (earlier ++ e ∷ []) later
      ∙ ap (λ (xs : List Entry). executed_by es rules by (newest_first xs)) (append_assoc earlier (e ∷ []) later)

  pub all_newest : (entries : List Entry) → newest_first (steps_behind [] entries) ≡ executed_by es rules by (newest_first entries)
  all_newest entries = sym (append-nil (newest_first (steps_behind [] entries))) ∙ behind_newest [] entries

-- ---- the execution

pub is_executed : (theory : Theory) → IsRunnable theory → (signature : Signature) (rules : List RuleForms)
    → map (forms_of (signature_of theory).equations) theory.rules ≡ rules → signature_of theory ≡ signature → (log : Log) → IsLog theory log
    → (steps : List Step) → steps ≡ executed_by signature.equations rules (linking_of signature) log → IsExecutionWith theory steps (visible_trace log)
is_executed theory good signature rules rules_same signature_same log is steps e =
    let same = ap₂ (λ (s : Signature) (rs : List RuleForms). executed_by s.equations rs (linking_of s) log) signature_same rules_same in
    subst (λ (xs : List Step). IsExecutionWith theory xs (visible_trace log)) (same ∙ sym e) (log_runs theory good log is)
