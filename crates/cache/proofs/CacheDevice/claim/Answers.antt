use Rattle.std.proofs.Common.{◌≡◌, false, rules}
use Rattle.cache.proofs.CacheDevice.claim.Goals as goal
use Rattle.cache.proofs.Claiming.{claimed_new}
use Rattle.cache.specs.InUse.{in_use}

pub returns : goal.returns
returns g c =
    let q = in_use c.args.self.now.queue in
    let p = in_use c.forget.new.self in
    let d = g.D.Device.meaning c.args.self.now.below in
    let e = g.D.Device.meaning c.claim-2.new.self in
    let n = c.args.n in
    let un : d.held n ≡ false = search rules in
    ((search rules, search rules), claimed_new q p d e n un c.forget.ensures c.in_ok-claim.ensures.1)
