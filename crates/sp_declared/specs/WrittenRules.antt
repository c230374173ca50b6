-- The rules of items as they are written, with bound names in their places. Of a text in which values stand for bound names these are all rules that it has.
use Rattle.std.specs.Prelude.{List, [], ◌∷◌, ◌++◌}
use Rattle.sp_spec.specs.Written.{WrittenRule}
use Rattle.sp_spec_text.specs.Written.{Item, rule_item}

-- no rule or one
abbrev pub item_written : Item → List WrittenRule
item_written (rule_item bs r) = r ∷ []
item_written item = []

abbrev pub rules_written : List Item → List WrittenRule
rules_written [] = []
rules_written (x ∷ items) = item_written x ++ rules_written items
