use Rattle.std.proofs.Common.{◌≡◌, true, rules}
use Rattle.cache.proofs.Cache.shown_by.Goals as goal
use Rattle.cache.proofs.Showing.{shows_held}
use Rattle.cache.specs.InUse.{in_use}

pub returns-then-holds-clause-shows : goal.returns-then-holds-clause-shows
returns-then-holds-clause-shows g c =
    let d = g.D.Device.meaning c.args.self.now.below in
    let held : d.held c.args.n ≡ true = search rules in
    shows_held (in_use c.args.self.now.queue) d c.args.n c.find.result held c.find.ensures.words
