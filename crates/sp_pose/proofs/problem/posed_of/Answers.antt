use Rattle.std.proofs.Common.{◌≡◌, map}
use Rattle.sp_fact.specs.GroundView.{symbol_of, signature_of}
use Rattle.sp_declared.specs.NumberedView.{numbered_of}
use Rattle.sp_pose.proofs.Posed.{fine_said, forms_there, signature_same, made}
use Rattle.sp_pose.proofs.problem.posed_of.Goals as goal

pub unreachable-requires : goal.unreachable-requires
unreachable-requires c =
    let e = c.args.examined in
    let x = c.requires.examined in
    forms_there x.said e.theory (fine_said e x c.requires.fine) x.resolved_is (rw c.in_default.is at c.in_ok-problem.ensures)

pub returns : goal.returns
returns c =
    let e = c.args.examined in
    let x = c.requires.examined in
    let s = signature_of c.in_ok-signature.signature in
    made e x s c.in-Some.problem (fine_said e x c.requires.fine)
    (signature_same x.said (map symbol_of e.symbols.items) (map numbered_of e.equations.items) s x.symbols_are x.equations_are c.in_ok-signature.ensures) (rw c.in-Some.is at c.in_ok-problem.ensures)
