-- What is written from a place of a text on, and how it is cut.
use Rattle.std.proofs.Common.{◌≡◌, ℕ, ◌+◌, ◌-◌, List, [], ◌∷◌, ◌++◌, length, take, drop, codes, Option, None, refl, sym, ap, subst, ◌∙◌, append_assoc, length-append, arith}
use Rattle.std.proofs.Math.Seq.{drop-append_seam}
use Rattle.sp_spec_text.specs.Token.{Lexeme, Token}
use Rattle.sp_spec_text.specs.Lex.{lexemes}
use Rattle.sp_spec_proof.specs.Tree.{Tree}
use Rattle.sp_spec_text.specs.Spans.{Span}
use Rattle.sp_skel.proofs.Blanks.{Lexes}
use Rattle.sp_spec_text.proofs.Rests.{before_rest}
use Rattle.sp_law_reread.specs.Again.{between, replaced}
use Rattle.sp_law_reread.proofs.Ends.{Ends, ends_all}
use Rattle.sp_law_reread.proofs.Local.{Firm, IsOpen, Reaches, reaches_local}
use Rattle.sp_law_reread.proofs.Reached.{lexes_reached, Parted}
use Rattle.sp_law_reread.proofs.Leads.{Leads, leads_reached}

-- ---- places

-- from this place on the text goes on with these bytes
pub record At (text : List ℕ) (place : ℕ) (bytes : List ℕ) : Type 0 where
  pub ends : Ends text bytes
  pub is : place + length bytes ≡ length text

pub at_start : (text : List ℕ) → At text 0 text
at_start text = record { ends = ends_all text; is = omega arith }

pub at_drop : {text bytes : List ℕ} {place : ℕ} → At text place bytes → drop place text ≡ bytes
at_drop {text} {bytes} {place} a =
    let e : place ≡ length a.ends.0 = let i = a.is in omega (arith, ap length a.ends.1, length-append a.ends.0 bytes) in
    ap (λ (x : List ℕ). drop place x) a.ends.1 ∙ ap (λ (n : ℕ). drop n (a.ends.0 ++ bytes)) e ∙ drop-append_seam a.ends.0 bytes

pub between_is : {text bytes : List ℕ} {place : ℕ} → At text place bytes → (end : ℕ) (front rest : List ℕ) → bytes ≡ front ++ rest → end + length rest ≡ length text → between place end text ≡ front
between_is {text} {bytes} {place} a end front rest e f =
    let n : end - place ≡ length (front ++ rest) - length rest = let i = a.is in omega (arith, f, ap length e, length-append front rest) in
    ap (λ (x : List ℕ). take (end - place) x) (at_drop a ∙ e) ∙ ap (λ (k : ℕ). take k (front ++ rest)) n ∙ before_rest front rest

-- ---- from a place on

-- What is written in place of these bytes of the text, with trees in the places of proofs, begins with the tokens of the text, up to a byte
-- that stands firm, behind which no constant is closed. Of all its tokens P holds. None of them is the word `end` but that before what stands behind.
pub record Claim (text : List ℕ) (spans : List Span) (trees : List (Option Tree)) (end : ℕ) (behind bytes : List ℕ) (P : List Lexeme → Type 0) : Type 0 where
  pub stop : ℕ
  pub firm : Firm stop
  pub front : List ℕ
  pub old : List ℕ
  pub new : List ℕ
  pub still_open : IsOpen new
  pub bytes_are : bytes ≡ front ++ stop ∷ old
  pub written : (place : ℕ) (all before : List ℕ) → At text place all → all ≡ before ++ bytes → replaced text place spans trees end ++ 10 ∷ behind ≡ (before ++ front) ++ stop ∷ new
  pub first : List Lexeme
  pub reaches : Reaches (stop ∷ old) bytes first
  pub others : List Lexeme
  pub lexes : (size : ℕ) → Lexes size (stop ∷ new) others
  pub leads : Leads (codes "end" ++ 10 ∷ behind) (stop ∷ new)
  pub holds : P (first ++ others)

-- all that is written from this place on
pub record Again (text : List ℕ) (spans : List Span) (trees : List (Option Tree)) (end : ℕ) (behind : List ℕ) (place : ℕ) (P : List Lexeme → Type 0) : Type 0 where
  pub all : List Lexeme
  pub lexes : (size : ℕ) → Lexes size (replaced text place spans trees end ++ 10 ∷ behind) all
  pub leads : Leads (codes "end" ++ 10 ∷ behind) (replaced text place spans trees end ++ 10 ∷ behind)
  pub holds : P all

pub settle : {text : List ℕ} {spans : List Span} {trees : List (Option Tree)} {end place : ℕ} {behind bytes : List ℕ} {P : List Lexeme → Type 0}
    → Claim text spans trees end behind bytes P → At text place bytes → Again text spans trees end behind place P
settle {text} {spans} {trees} {end} {place} {behind} {bytes} c a =
    let e = c.written place bytes [] a refl in
    let r = reaches_local c.firm c.front c.old c.new c.still_open c.reaches refl c.bytes_are in
    record {
      all = c.first ++ c.others;
      lexes = λ size. subst (λ (x : List ℕ). Lexes size x (c.first ++ c.others)) (sym e) (lexes_reached r (c.lexes size));
      leads = subst (λ (x : List ℕ). Leads (codes "end" ++ 10 ∷ behind) x) (sym e) (leads_reached r c.leads);
      holds = c.holds;
    }

-- with more tokens before
pub extend : {text : List ℕ} {spans : List Span} {trees : List (Option Tree)} {end : ℕ} {behind bytes : List ℕ} {P Q : List Lexeme → Type 0} {ts us : List Token}
    → (p : Parted (length text) bytes ts us) → Claim text spans trees end behind p.rest P → ((ys : List Lexeme) → P ys → Q (lexemes ts ++ ys)) → Claim text spans trees end behind bytes Q
extend {text} {Q = Q} {ts = ts} p c f =
    let m = p.ends.0 in
    record {
      stop = c.stop;
      firm = c.firm;
      front = m ++ c.front;
      old = c.old;
      new = c.new;
      still_open = c.still_open;
      bytes_are = p.ends.1 ∙ ap (λ (x : List ℕ). m ++ x) c.bytes_are ∙ sym (append_assoc m c.front (c.stop ∷ c.old));
      written = λ place all before a e.
          let g = c.written place all (before ++ m) a (e ∙ ap (λ (x : List ℕ). before ++ x) p.ends.1 ∙ sym (append_assoc before m p.rest)) in
          g ∙ ap (λ (x : List ℕ). x ++ c.stop ∷ c.new) (append_assoc before m c.front);
      first = lexemes ts ++ c.first;
      reaches = p.reaches (c.stop ∷ c.old) c.first c.reaches;
      others = c.others;
      lexes = c.lexes;
      leads = c.leads;
      holds = subst Q (sym (append_assoc (lexemes ts) c.first c.others)) (f (c.first ++ c.others) c.holds);
    }

-- where no tree is given, what stands there is written
pub claim_stays : {text : List ℕ} {span : Span} {spans : List Span} {trees : List (Option Tree)} {end : ℕ} {behind bytes : List ℕ} {P : List Lexeme → Type 0}
    → Claim text spans trees end behind bytes P → Claim text (span ∷ spans) (None ∷ trees) end behind bytes P
claim_stays c =
    record {
      stop = c.stop;
      firm = c.firm;
      front = c.front;
      old = c.old;
      new = c.new;
      still_open = c.still_open;
      bytes_are = c.bytes_are;
      written = c.written;
      first = c.first;
      reaches = c.reaches;
      others = c.others;
      lexes = c.lexes;
      leads = c.leads;
      holds = c.holds;
    }
