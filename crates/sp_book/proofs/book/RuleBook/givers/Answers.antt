use Rattle.std.proofs.Common.{◌≡◌, ap, ◌∙◌, [], ℕ, map, Option, Vec, Global}
use Rattle.std.specs.Option.{option_map_or}
use Rattle.sp_term.specs.View.{name_of}
use Rattle.sp_book.specs.View.{rule_forms_of}
use Rattle.sp_book.specs.Book.{givers, listed}
use Rattle.sp_book.proofs.book.RuleBook.givers.Goals as goal

pub returns-in-Some : goal.returns-in-Some
returns-in-Some c =
    let exact : listed c.args.self.now.by_conclusion c.as_str.result.now ≡ givers (name_of c.args.symbol.now) 0 (map rule_forms_of c.args.self.now.rules.items) =
    rw c.as_str.ensures.value (c.args.self.now.is_exact_of_conclusions (name_of c.args.symbol.now)) in
    c.deref.ensures.value ∙ ap (λ (o : Option (Vec ℕ Global)). option_map_or (λ v. v.items) o []) c.in-Some.ensures.value ∙ exact

pub returns-in-None : goal.returns-in-None
returns-in-None c =
    let exact : listed c.args.self.now.by_conclusion c.as_str.result.now ≡ givers (name_of c.args.symbol.now) 0 (map rule_forms_of c.args.self.now.rules.items) =
    rw c.as_str.ensures.value (c.args.self.now.is_exact_of_conclusions (name_of c.args.symbol.now)) in
    ap (λ (o : Option (Vec ℕ Global)). option_map_or (λ v. v.items) o []) c.in-None.ensures.value ∙ exact
