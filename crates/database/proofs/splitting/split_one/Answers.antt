use Rattle.database.proofs.Halves.{block_within, split_made}
use Rattle.database.proofs.splitting.split_one.Goals as goal
use Rattle.calls.specs.Store.{slot}
use Rattle.devices.specs.Trace.{Did}
use Rattle.pages.specs.Blank.{bytes_of}
use Rattle.pages.specs.Page.{pairs_of}

pub bounds-directory-leaf : goal.bounds-directory-leaf
bounds-directory-leaf g c = block_within c.args.way.now.hash c.args.way.now.depth c.leaf-leaf.result c.leaf-leaf.ensures c.requires

pub returns-clause-made : goal.returns-clause-made
returns-clause-made g c =
    let leaf = c.leaf-leaf.result in
    let pairs = pairs_of (bytes_of c.args.page.now.good) in
    split_made (slot c.args.directory.now) pairs c.args.way.now.hash c.args.way.now.depth leaf c.leaf-leaf.ensures c.requires (Did g.D.Device.steps g.D.Device.meaning)
    c.keep.new.out c.set_bit.new.block c.keep-2.new.out c.in_ok-keep.ensures.1 c.set_bit.ensures c.in_ok-keep-2.ensures.1
    c.args.device.now c.write.new.self c.write-2.new.self c.write-3.new.self c.write-3.result c.in_ok-write.ensures c.in_ok-write-2.ensures c.write-3.ensures
