-- What forms in memory stand for.
use Rattle.std.specs.Prelude.{List, map}
use Rattle.sp_warn.specs.Forms as f
use Rattle.sp_warn.specs.declared.forms.Usage.{Usage}
use Rattle.sp_warn.specs.declared.forms.Usage.TheVariants as u
use Rattle.sp_warn.specs.declared.forms.Form.{Form}
use Rattle.sp_warn.specs.declared.made.Made.{Made}

abbrev pub usage_of : Usage → f.Usage
usage_of u.Linear = f.linear
usage_of u.Persistent = f.persistent
usage_of u.Action = f.action

abbrev pub form_of : Form → f.Form
form_of x = record { symbol = x.symbol.now; arity = x.arity; usage = usage_of x.usage }

abbrev pub made_of : Made → List f.Form
made_of m = map form_of m.forms.keys
