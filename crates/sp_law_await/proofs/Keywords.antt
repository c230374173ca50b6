-- Which words begin which items.
use Rattle.std.proofs.Common.{◌≡◌, ℕ, ◌⊎◌, inl, inr, Bool, true, false, ◌||◌, List, codes, refl, sym, subst, bytes_eq}
use Rattle.sp_spec_text.specs.Names.{IsName, is_reserved}
use Rattle.sp_spec_text.specs.Attributes.{is_restriction}
use Rattle.sp_spec_text.specs.Proofs.{is_method}
use Rattle.sp_spec_text.proofs.Words.{restriction_words}
use Rattle.sp_await.specs.Keywords.{Rule, Restriction, Lemma, Builtins, Functions, Equations, Heuristic, Keyword, names, lists, neither, keyword_of}
use Rattle.sp_law_await.proofs.Means.{by_if}
use Rattle.sp_law_await.proofs.Tokens.{same_word, either_word}

-- the words with which an item begins
pub data Begins (w : List ℕ) : Keyword → Type 0 where
  restriction_begins : is_restriction w ≡ true → Begins w (names Restriction)
  rule_begins : w ≡ codes "rule" → Begins w (names Rule)
  lemma_begins : w ≡ codes "lemma" → Begins w (names Lemma)
  builtins_begin : w ≡ codes "builtins" → Begins w (lists Builtins)
  functions_begin : w ≡ codes "functions" → Begins w (lists Functions)
  equations_begin : w ≡ codes "equations" → Begins w (lists Equations)
  heuristic_begins : w ≡ codes "heuristic" → Begins w (lists Heuristic)
  nothing_begins : Begins w neither

pub keyword_begins : (w : List ℕ) → Begins w (keyword_of w)
unfolding keyword_of
keyword_begins w =
    by_if (Begins w) (is_restriction w) (names Restriction) _ (λ e. restriction_begins e)
    (λ d. by_if (Begins w) (bytes_eq w (codes "rule")) (names Rule) _ (λ e. rule_begins (same_word w (codes "rule") e))
    (λ d. by_if (Begins w) (bytes_eq w (codes "lemma")) (names Lemma) _ (λ e. lemma_begins (same_word w (codes "lemma") e))
    (λ d. by_if (Begins w) (bytes_eq w (codes "builtins")) (lists Builtins) _ (λ e. builtins_begin (same_word w (codes "builtins") e))
    (λ d. by_if (Begins w) (bytes_eq w (codes "functions")) (lists Functions) _ (λ e. functions_begin (same_word w (codes "functions") e))
    (λ d. by_if (Begins w) (bytes_eq w (codes "equations")) (lists Equations) _ (λ e. equations_begin (same_word w (codes "equations") e))
    (λ d. by_if (Begins w) (bytes_eq w (codes "heuristic")) (lists Heuristic) neither (λ e. heuristic_begins (same_word w (codes "heuristic") e)) (λ d. nothing_begins)))))))

pub rule_keyword : keyword_of (codes "rule") ≡ names Rule
unfolding keyword_of is_restriction
rule_keyword = refl

pub lemma_keyword : keyword_of (codes "lemma") ≡ names Lemma
unfolding keyword_of is_restriction
lemma_keyword = refl

pub builtins_keyword : keyword_of (codes "builtins") ≡ lists Builtins
unfolding keyword_of is_restriction
builtins_keyword = refl

pub functions_keyword : keyword_of (codes "functions") ≡ lists Functions
unfolding keyword_of is_restriction
functions_keyword = refl

pub equations_keyword : keyword_of (codes "equations") ≡ lists Equations
unfolding keyword_of is_restriction
equations_keyword = refl

pub heuristic_keyword : keyword_of (codes "heuristic") ≡ lists Heuristic
unfolding keyword_of is_restriction
heuristic_keyword = refl

pub restriction_keyword : (w : List ℕ) → is_restriction w ≡ true → keyword_of w ≡ names Restriction
unfolding keyword_of
restriction_keyword w e = rw e refl

-- ---- words with which proofs begin

pub solved_keyword : keyword_of (codes "SOLVED") ≡ neither
unfolding keyword_of is_restriction
solved_keyword = refl

pub by_keyword : keyword_of (codes "by") ≡ neither
unfolding keyword_of is_restriction
by_keyword = refl

-- a word of a method is a name, and begins no item
record Plainly (w : List ℕ) : Type 0 where
  named : IsName w
  keyword : keyword_of w ≡ neither

simplify_plainly : Plainly (codes "simplify")
unfolding is_reserved keyword_of is_restriction
simplify_plainly = record { named = refl; keyword = refl }

induction_plainly : Plainly (codes "induction")
unfolding is_reserved keyword_of is_restriction
induction_plainly = record { named = refl; keyword = refl }

contradiction_plainly : Plainly (codes "contradiction")
unfolding is_reserved keyword_of is_restriction
contradiction_plainly = record { named = refl; keyword = refl }

sorry_plainly : Plainly (codes "sorry")
unfolding is_reserved keyword_of is_restriction
sorry_plainly = record { named = refl; keyword = refl }

data MethodWord (w : List ℕ) : Type 0 where
  word_simplify : w ≡ codes "simplify" → MethodWord w
  word_induction : w ≡ codes "induction" → MethodWord w
  word_contradiction : w ≡ codes "contradiction" → MethodWord w
  word_sorry : w ≡ codes "sorry" → MethodWord w

method_word : (w : List ℕ) → is_method w ≡ true → MethodWord w
unfolding is_method
method_word w e = at (bytes_eq w (codes "simplify")) refl (bytes_eq w (codes "induction")) refl (bytes_eq w (codes "contradiction")) refl (bytes_eq w (codes "sorry")) refl e
  where
    at : (a : Bool) → bytes_eq w (codes "simplify") ≡ a → (b : Bool) → bytes_eq w (codes "induction") ≡ b → (c : Bool) → bytes_eq w (codes "contradiction") ≡ c → (d : Bool) → bytes_eq w (codes "sorry") ≡ d → (a || b || c || d) ≡ true → MethodWord w
    at true h b i c j d k e = word_simplify (same_word w (codes "simplify") h)
    at false h true i c j d k e = word_induction (same_word w (codes "induction") i)
    at false h false i true j d k e = word_contradiction (same_word w (codes "contradiction") j)
    at false h false i false j true k e = word_sorry (same_word w (codes "sorry") k)
    at false h false i false j false k e = absurd (let none : ⊥ = cc in none)

method_plainly : {w : List ℕ} → MethodWord w → Plainly w
method_plainly (word_simplify e) = subst Plainly (sym e) simplify_plainly
method_plainly (word_induction e) = subst Plainly (sym e) induction_plainly
method_plainly (word_contradiction e) = subst Plainly (sym e) contradiction_plainly
method_plainly (word_sorry e) = subst Plainly (sym e) sorry_plainly

pub method_named : (w : List ℕ) → is_method w ≡ true → IsName w
method_named w e = let p = method_plainly (method_word w e) in p.named

pub method_keyword : (w : List ℕ) → is_method w ≡ true → keyword_of w ≡ neither
method_keyword w e = let p = method_plainly (method_word w e) in p.keyword

-- ---- words of restrictions

restriction_reserved : IsName (codes "restriction")
unfolding is_reserved
restriction_reserved = refl

axiom_reserved : IsName (codes "axiom")
unfolding is_reserved
axiom_reserved = refl

pub restriction_named : (w : List ℕ) → is_restriction w ≡ true → IsName w
restriction_named w e = at (restriction_words w e)
  where
    at : (w ≡ codes "restriction") ⊎ (w ≡ codes "axiom") → IsName w
    at (inl i) = subst IsName (sym i) restriction_reserved
    at (inr i) = subst IsName (sym i) axiom_reserved
