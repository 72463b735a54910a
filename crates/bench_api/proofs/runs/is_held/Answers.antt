use Rattle.std.proofs.Common.{length}
use Rattle.database.proofs.Keeps.{fetch_keeps}
use Rattle.calls.specs.Fetch.{fetched}
use Rattle.bench_api.proofs.runs.is_held.Goals as goal

pub returns-in_err-ok-clause-same : goal.returns-in_err-ok-clause-same
returns-in_err-ok-clause-same g c =
    let key = c.args.name.now in
    let size = length c.args.page.now in
    fetch_keeps g.D.Device.steps g.D.Device.meaning c.args.database.now.device c.fetch.new.self.device (λ blocks. fetched blocks key size) c.fetch.result key size c.fetch.ensures.made

pub returns-clause-same : goal.returns-clause-same
returns-clause-same g c =
    let key = c.args.name.now in
    let size = length c.args.page.now in
    fetch_keeps g.D.Device.steps g.D.Device.meaning c.args.database.now.device c.fetch.new.self.device (λ blocks. fetched blocks key size) c.fetch.result key size c.fetch.ensures.made
