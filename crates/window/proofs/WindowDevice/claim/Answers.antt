use Rattle.std.proofs.Common.{◌<◌, sym, ◌∙◌, refl, arith}
use Rattle.devices.proofs.Checks.{number_passed}
use Rattle.devices.specs.Trace.{Did}
use Rattle.faults.specs.declared.Layer.TheVariants.{Window}
use Rattle.window.specs.Part.{reach}
use Rattle.window.proofs.Parts.{one_claim, through}
use Rattle.window.proofs.WindowDevice.claim.Goals as goal

pub returns : goal.returns
returns g c =
    let base = c.args.self.now.base in
    let long = c.args.self.now.length in
    let M = g.D.Device.meaning in
    let s = c.args.self.now.below in
    let t = c.claim.new.self in
    let inside = number_passed Window c.reach.result c.args.n (sym c.check_number.ensures ∙ c.in_ok-check_number.was) in
    let lt : c.args.n < reach base long (M s) = omega (arith, c.reach.ensures.value, inside) in
    ((one_claim (Did g.D.Device.steps M) base long (M s) s t c.args.n _ lt c.claim.ensures, refl, refl), through base long (M s) (M t) c.args.n lt _ c.claim.ensures.1)
