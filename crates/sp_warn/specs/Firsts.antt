-- What is known of the first forms of names.
use Rattle.std.specs.Prelude.{◌≡◌, List, Option, option_map}
use Rattle.std.specs.List.{find}
use Rattle.indexmap.specs.IndexMap.{IndexMap, get}
use Rattle.sp_warn.specs.Forms.{Form, is_action, are_namesakes}
use Rattle.sp_warn.specs.FormView.{usage_of, form_of}
use Rattle.sp_warn.specs.declared.forms.Form as memory
use Rattle.sp_warn.specs.declared.several.Called.{Called}
use Rattle.sp_warn.specs.contracts.several.CalledPartialEq.TheImpl as calls

-- what a form's name is looked up by
abbrev pub called_by : memory.Form → Called
called_by x = record { name = x.symbol; is_action = is_action (usage_of x.usage) }

-- the first of these that has its name
abbrev pub first_of : Form → List Form → Option Form
first_of x fs = find (are_namesakes x) fs

-- the map has the first form of each name that these have
abbrev pub Knows : {S : Type 0} → IndexMap Called memory.Form S → List Form → Type 0
Knows m fs = (x : memory.Form) → option_map form_of (get calls.ghosts.eq m (called_by x)) ≡ first_of (form_of x) fs
