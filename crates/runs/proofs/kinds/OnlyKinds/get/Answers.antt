use Rattle.std.proofs.Common.{length, Ok, Err, rules}
use Rattle.runs.proofs.Wrapped.{got_wrapped}
use Rattle.runs.proofs.kinds.OnlyKinds.get.Goals as goal

pub returns-in_err-get-clause-made : goal.returns-in_err-get-clause-made
returns-in_err-get-clause-made g c =
    got_wrapped (λ x. record { 0 = x }) g.R.Record.decoded g.D.Device.steps g.D.Device.meaning c.args.key.now (length c.args.page.now) c.args.database.now.device c.get.new.self.device
    (Err c.in_err-get.field-0.0) c.from_residual.result (search rules) c.in_err-get.ensures.made

pub returns-clause-made : goal.returns-clause-made
returns-clause-made g c =
    got_wrapped (λ x. record { 0 = x }) g.R.Record.decoded g.D.Device.steps g.D.Device.meaning c.args.key.now (length c.args.page.now) c.args.database.now.device c.get.new.self.device
    (Ok c.in_ok-get.field-0) (Ok c.map.result) (search rules) c.in_ok-get.ensures.made
