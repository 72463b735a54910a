use Rattle.bench_api.proofs.Updated.{updates}
use Rattle.bench_api.proofs.runs.store.Goals as goal

pub returns : goal.returns
returns g c =
    updates g.D.Device.steps g.D.Device.meaning c.args.database.now.device c.store.new.self.device c.store.result c.ok.result c.ok.ensures.value c.args.name.now c.args.value.now
    c.store.ensures
