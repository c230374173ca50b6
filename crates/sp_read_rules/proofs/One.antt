-- Facts and arrows are spelled in one way.
use Rattle.std.proofs.Common.{◌≡◌, List, refl}
use Rattle.sp_spec_text.specs.Signs.{Sign}
use Rattle.sp_spec_text.specs.Token.{Lexeme}
use Rattle.sp_spec.specs.Rule.{Fact}
use Rattle.sp_spec.specs.Formula.{Written}
use Rattle.sp_spec_text.specs.Lists.{AreItems}
use Rattle.sp_read_parts.specs.Parts.{IsFact}
use Rattle.sp_spec_text.specs.Formulas.{SpellsFact}
use Rattle.sp_read_parts.proofs.One as parts
use Rattle.sp_read_parts.proofs.One.{One, fact_sign, facts'}
use Rattle.sp_read_parts.proofs.Spelled.{items_spelled, fact_spelled}
use Rattle.sp_read_atoms.proofs.Taken.{facts_taken}
use Rattle.sp_spec_text.specs.Theories as g
use Rattle.sp_spec_text.specs.Theories.{SpellsFacts, SpellsArrow}

pub spelled : {close : Sign} {tokens rest : List Lexeme} {fs : List (Fact Written)} → AreItems (IsFact 0) close tokens fs rest → AreItems (SpellsFact 0) close tokens fs rest
spelled h = items_spelled (λ ts x r k. fact_spelled k) h

pub facts_one : {tokens r q : List Lexeme} {fs gs : List (Fact Written)} → SpellsFacts tokens fs r → SpellsFacts tokens gs q → (fs ≡ gs) × (r ≡ q)
facts_one (g.facts h) (g.facts k) = parts.items_one facts' (λ e. cc) (λ ts r x t. fact_sign (λ e. cc) t) (facts_taken (λ e. cc) h) (facts_taken (λ e. cc) k)

pub arrow_one : {tokens r q : List Lexeme} {fs gs : List (Fact Written)} → SpellsArrow tokens fs r → SpellsArrow tokens gs q → (fs ≡ gs) × (r ≡ q)
arrow_one g.unlabelled g.unlabelled = (refl, refl)
arrow_one (g.labelled h) (g.labelled k) = parts.items_one facts' (λ e. cc) (λ ts r x t. fact_sign (λ e. cc) t) (facts_taken (λ e. cc) h) (facts_taken (λ e. cc) k)

pub lists : One SpellsFacts
lists = record { one = facts_one }

pub arrows' : One SpellsArrow
arrows' = record { one = arrow_one }
