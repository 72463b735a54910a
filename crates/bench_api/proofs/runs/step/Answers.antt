use Rattle.std.proofs.Common.{length}
use Rattle.database.proofs.Keeps.{step_keeps}
use Rattle.calls.specs.Step.{stepped}
use Rattle.bench_api.proofs.runs.step.Goals as goal

pub returns-clause-same : goal.returns-clause-same
returns-clause-same g c =
    let size = length c.args.page.now in
    step_keeps g.D.Device.steps g.D.Device.meaning c.args.database.now.device c.step.new.self.device (λ blocks. stepped blocks c.args.at size) c.step.result c.args.at size
    c.step.ensures.made
