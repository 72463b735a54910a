use Rattle.bench_api.proofs.Updated.{brings}
use Rattle.bench_api.proofs.runs.flush.Goals as goal

pub returns : goal.returns
returns g c = brings g.D.Device.steps g.D.Device.meaning c.args.database.now.device c.flush.new.self.device c.flush.result c.ok.result c.ok.ensures.value c.flush.ensures
