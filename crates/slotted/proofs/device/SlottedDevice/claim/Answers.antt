use Rattle.std.proofs.Common.{◌≡◌, ◌<◌, is_some, vec_items, sym, ap, ◌∙◌, arith, rules}
use Rattle.slotted.proofs.Calls.{claim_did}
use Rattle.slotted.proofs.device.SlottedDevice.claim.Goals as goal
use Rattle.slotted.proofs.Tables.{record_none}
use Rattle.slotted.specs.Image.{left_in, limit_in, slot_in}

pub returns : goal.returns
returns c =
    let d = c.args.self.now in
    let s = vec_items d.bytes in
    let low : c.args.n < limit_in s = search rules in
    let none : slot_in s c.args.n ≡ 0 = record_none _ (ap is_some (sym c.record.ensures.value) ∙ sym c.is_some.ensures ∙ c.if-is_some.false) in
    let free : 0 < left_in s = omega (arith, d.rest) in
    claim_did s c.args.n low none free _ c.take_record.ensures
