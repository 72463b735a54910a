use Rattle.std.proofs.Common.{◌≡◌, not, Err, sym, ap, subst, ◌∙◌, rules, arith}
use Rattle.calls.specs.Delete.{delete_calls, deleted}
use Rattle.contents.specs.Blocks.{blocks_of}
use Rattle.database.proofs.Database.delete.Goals as goal
use Rattle.database.proofs.Deletes.{home_refused, not_there, page_bad, page_lt, removed, write_refused}
use Rattle.devices.specs.Trace.{Did, Trace}

pub returns-in_err-leaf : goal.returns-in_err-leaf
returns-in_err-leaf g c =
    let did = Did g.D.Device.steps g.D.Device.meaning in
    let d = c.args.self.now.device in
    let m = c.read_home.new.device in
    let blocks = blocks_of (g.D.Device.meaning d) in
    let key = c.args.key.now in
    let f = c.in_err-leaf.field-0.0 in
    let is : c.from_residual.result ≡ Err f = search rules in
    subst (λ r. Trace did d (delete_calls blocks key) (deleted blocks key) r m) (sym is)
    (home_refused did blocks key (sym c.if-is_empty.ensures) d c.hash_of.result c.hash_of.ensures m f c.in_err-leaf.ensures.made)

pub overflow_add-home : goal.overflow_add-home
overflow_add-home g c =
    let did = Did g.D.Device.steps g.D.Device.meaning in
    let d = c.args.self.now.device in
    let blocks = blocks_of (g.D.Device.meaning d) in
    let below = page_lt did blocks c.args.key.now (sym c.if-is_empty.ensures) d c.hash_of.result c.hash_of.ensures c.read_home.new.device c.in_ok-leaf.leaf c.in_ok-leaf.ensures.made in
    omega arith

pub returns-in_err-page : goal.returns-in_err-page
returns-in_err-page g c =
    let did = Did g.D.Device.steps g.D.Device.meaning in
    let d = c.args.self.now.device in
    let m = c.read_home.new.device in
    let blocks = blocks_of (g.D.Device.meaning d) in
    let key = c.args.key.now in
    let f = c.in_err-page.field-0.0 in
    let is : c.from_residual-in_err-page.result ≡ Err f = search rules in
    subst (λ r. Trace did d (delete_calls blocks key) (deleted blocks key) r m) (sym is)
    (page_bad did blocks key (sym c.if-is_empty.ensures) d c.hash_of.result c.hash_of.ensures m c.in_ok-leaf.leaf c.in_ok-leaf.ensures.made c.read_home.new.block c.in_ok-leaf.ensures.page
    f c.in_err-page.ensures)

pub returns-then-is_none : goal.returns-then-is_none
returns-then-is_none g c =
    let did = Did g.D.Device.steps g.D.Device.meaning in
    let d = c.args.self.now.device in
    let m = c.read_home.new.device in
    let blocks = blocks_of (g.D.Device.meaning d) in
    let key = c.args.key.now in
    not_there did blocks key (sym c.if-is_empty.ensures) d c.hash_of.result c.hash_of.ensures m c.in_ok-leaf.leaf c.in_ok-leaf.ensures.made c.read_home.new.block c.in_ok-leaf.ensures.page
    c.in_ok-page.page c.in_ok-page.ensures c.find.result c.find.ensures (c.is_none.ensures ∙ ap not c.if-is_none.true)

pub returns-in_err-write : goal.returns-in_err-write
returns-in_err-write g c =
    let did = Did g.D.Device.steps g.D.Device.meaning in
    let d = c.args.self.now.device in
    let m = c.read_home.new.device in
    let e = c.write.new.self in
    let blocks = blocks_of (g.D.Device.meaning d) in
    let key = c.args.key.now in
    let f = c.in_err-write.field-0.0 in
    let is : c.from_residual-in_err-write.result ≡ Err f = search rules in
    subst (λ r. Trace did d (delete_calls blocks key) (deleted blocks key) r e) (sym is)
    (write_refused did blocks key (sym c.if-is_empty.ensures) d c.hash_of.result c.hash_of.ensures m c.in_ok-leaf.leaf c.in_ok-leaf.ensures.made c.read_home.new.block c.in_ok-leaf.ensures.page
    c.in_ok-page.page c.in_ok-page.ensures c.find.result c.find.ensures (c.is_none.ensures ∙ ap not c.if-is_none.false) c.keep_others.new.out c.in_ok-keep_others.ensures.1 e f c.in_err-write.ensures)

pub returns : goal.returns
returns g c =
    let did = Did g.D.Device.steps g.D.Device.meaning in
    let d = c.args.self.now.device in
    let m = c.read_home.new.device in
    let blocks = blocks_of (g.D.Device.meaning d) in
    let key = c.args.key.now in
    removed did blocks key (sym c.if-is_empty.ensures) d c.hash_of.result c.hash_of.ensures m c.in_ok-leaf.leaf c.in_ok-leaf.ensures.made c.read_home.new.block c.in_ok-leaf.ensures.page
    c.in_ok-page.page c.in_ok-page.ensures c.find.result c.find.ensures (c.is_none.ensures ∙ ap not c.if-is_none.false) c.keep_others.new.out c.in_ok-keep_others.ensures.1 c.write.new.self c.in_ok-write.ensures
