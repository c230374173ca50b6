use Rattle.std.proofs.Common.{map, sym}
use Rattle.sp_fact.specs.GroundView.{equation_of, symbol_of}
use Rattle.sp_conv.proofs.Forms.{without_form, formed_leads, private_leads, leads_wrong}
use Rattle.sp_conv.proofs.form.form_of.Goals as goal

pub returns-then-not-have_form : goal.returns-then-not-have_form
returns-then-not-have_form c =
    without_form (map symbol_of c.args.symbols.now.items) (map equation_of c.args.equations.now.items) (equation_of c.args.equation.now) (sym c.if-not-have_form.ensures)

pub returns-then-leads : goal.returns-then-leads
returns-then-leads c =
    formed_leads (map symbol_of c.args.symbols.now.items) (map equation_of c.args.equations.now.items) (equation_of c.args.equation.now)
    (sym c.if-not-have_form.ensures) (sym c.if-leads.ensures)

pub returns-then-is_constant : goal.returns-then-is_constant
returns-then-is_constant c =
    private_leads (map symbol_of c.args.symbols.now.items) (map equation_of c.args.equations.now.items) (equation_of c.args.equation.now)
    (sym c.if-not-have_form.ensures) (sym c.if-leads.ensures) (sym c.if-is_constant.ensures)

pub returns-else-is_constant : goal.returns-else-is_constant
returns-else-is_constant c =
    leads_wrong (map symbol_of c.args.symbols.now.items) (map equation_of c.args.equations.now.items) (equation_of c.args.equation.now)
    (sym c.if-leads.ensures) (sym c.if-is_constant.ensures)
