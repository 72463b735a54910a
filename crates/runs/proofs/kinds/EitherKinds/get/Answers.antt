use Rattle.std.proofs.Common.{length, Ok, Err, ap, rules}
use Rattle.runs.proofs.Wrapped.{got_wrapped}
use Rattle.runs.proofs.kinds.EitherKinds.get.Goals as goal
use Rattle.runs.specs.declared.kinds.Either.TheVariants.{First, Second}

pub returns-in_err-get-in-First-clause-made : goal.returns-in_err-get-in-First-clause-made
returns-in_err-get-in-First-clause-made g c =
    rw c.in-First.is
    (got_wrapped First (g.A.Kinds.decoded c.in-First.kind) g.D.Device.steps g.D.Device.meaning c.args.key.now (length c.args.page.now) c.args.database.now.device c.get.new.database.device
    (Err c.in_err-get-in-First.field-0.0) c.from_residual.result (search rules) c.in_err-get-in-First.ensures.made)

pub returns-in_err-get-in-Second-clause-made : goal.returns-in_err-get-in-Second-clause-made
returns-in_err-get-in-Second-clause-made g c =
    rw c.in-Second.is
    (got_wrapped Second (g.B.Kinds.decoded c.in-Second.kind) g.D.Device.steps g.D.Device.meaning c.args.key.now (length c.args.page.now) c.args.database.now.device c.get-in-Second.new.database.device
    (Err c.in_err-get-in-Second.field-0.0) c.from_residual-in_err-get-in-Second.result (search rules) c.in_err-get-in-Second.ensures.made)

pub returns-in_ok-get-in-First-clause-made : goal.returns-in_ok-get-in-First-clause-made
returns-in_ok-get-in-First-clause-made g c =
    rw c.in-First.is
    (got_wrapped First (g.A.Kinds.decoded c.in-First.kind) g.D.Device.steps g.D.Device.meaning c.args.key.now (length c.args.page.now) c.args.database.now.device c.get.new.database.device
    (Ok c.in_ok-get-in-First.field-0) (Ok c.first.result) (ap Ok c.first.ensures) c.in_ok-get-in-First.ensures.made)

pub returns-in_ok-get-in-Second-clause-made : goal.returns-in_ok-get-in-Second-clause-made
returns-in_ok-get-in-Second-clause-made g c =
    rw c.in-Second.is
    (got_wrapped Second (g.B.Kinds.decoded c.in-Second.kind) g.D.Device.steps g.D.Device.meaning c.args.key.now (length c.args.page.now) c.args.database.now.device c.get-in-Second.new.database.device
    (Ok c.in_ok-get-in-Second.field-0) (Ok c.second.result) (ap Ok c.second.ensures) c.in_ok-get-in-Second.ensures.made)
