use Rattle.std.proofs.Common.{◌≡◌, ◌<◌, true, List, [], ◌∷◌, ◌++◌, length, set, None, sym, subst, rules}
use Rattle.cache.proofs.CacheDevice.write.Goals as goal
use Rattle.cache.proofs.Showing.{kept_self, shown_more, shown_set}
use Rattle.cache.proofs.Writing.{wrote}
use Rattle.cache.specs.InUse.{in_use, newest}
use Rattle.cache.specs.Shown.{cached}
use Rattle.cache.specs.declared.frames.Frame.{Frame}
use Rattle.devices.specs.Step.{Wrote}

pub returns-in-Some : goal.returns-in-Some
returns-in-Some g c =
    let q = in_use c.args.self.now.queue in
    let d = g.D.Device.meaning c.args.self.now.below in
    let n = c.args.n in
    let i = c.in-Some.age in
    let bytes = c.args.from.now in
    let f : Frame = record { number = n; block = bytes } in
    let size : length bytes ≡ 1024 = search rules in
    let range : n < d.limit = search rules in
    let held : d.held n ≡ true = search rules in
    let now : in_use c.overwrite.new.self ≡ set q i f = rw c.new-frame.ensures at c.overwrite.ensures in
    let found = c.in-Some.ensures in (
      (search rules, search rules),
      subst (λ (o : List Frame). Wrote (cached q d) n bytes (cached o d)) (sym now)
          (wrote q (set q i f) n bytes (cached q d) d (kept_self (cached q d)) size range held (λ k b. shown_set q n i k bytes b found.words)),
    )

pub returns : goal.returns
returns g c =
    let q = in_use c.args.self.now.queue in
    let p = in_use c.make_room.new.self.queue in
    let d = g.D.Device.meaning c.args.self.now.below in
    let e = g.D.Device.meaning c.make_room.new.self.below in
    let n = c.args.n in
    let bytes = c.args.from.now in
    let f : Frame = record { number = n; block = bytes } in
    let size : length bytes ≡ 1024 = search rules in
    let range : n < d.limit = search rules in
    let held : d.held n ≡ true = search rules in
    let now : in_use c.push.new.self ≡ p ++ f ∷ [] = rw c.new-frame.ensures at c.push.ensures in
    let room = c.in_ok-make_room.ensures in
    let free : None ≡ newest q n = c.in_default.ensures.place in (
      (search rules, search rules),
      subst (λ (o : List Frame). Wrote (cached q d) n bytes (cached o e)) (sym now)
          (wrote p (p ++ f ∷ []) n bytes (cached q d) e room.same size range held (λ k b. shown_more p f k b)),
    )
