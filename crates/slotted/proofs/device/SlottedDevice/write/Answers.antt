use Rattle.std.proofs.Common.{◌≡◌, suc, ◌+◌, ◌-◌, ◌*◌, length, vec_items, vec_len, sym, ap, ◌∙◌, arith, rules}
use Rattle.slotted.proofs.Calls.{write_did, write_keeps}
use Rattle.slotted.proofs.device.SlottedDevice.write.Goals as goal
use Rattle.slotted.proofs.Puts.{put_vec}
use Rattle.slotted.proofs.Tables.{record_some}
use Rattle.slotted.specs.Image.{slot_in}
use Rattle.slotted.specs.Table.{record_of}

pub invariant_of-self : goal.invariant_of-self
invariant_of-self c =
    let d = c.args.self.now in
    let s = vec_items d.bytes in
    let k = c.in-Some.k in
    let full : length c.args.from.now ≡ 1024 = search rules in
    let e = put_vec s (vec_len d.bytes) (omega arith) c.deref_mut.result.now c.copy_from_slice.new.self c.args.from.now (1030 * k + 6) (1030 * k + 6 + 1024 - (1030 * k + 6)) c.deref_mut.ensures.value c.copy_from_slice.ensures.after (omega arith) (omega (arith, c.in-Some.ensures.inside)) in
    let kept = write_keeps s k c.args.from.now _ full e c.in-Some.ensures.inside in
    record {
      sized = d.sized ∙ sym kept.limit;
      listed = λ n l. d.listed n (omega (arith, kept.limit)) ∙ sym (ap record_of (kept.slot n));
      counted = d.counted ∙ sym kept.used;
      rest = d.rest ∙ sym kept.left;
    }

pub returns : goal.returns
returns c =
    let d = c.args.self.now in
    let s = vec_items d.bytes in
    let k = c.in-Some.k in
    let full : length c.args.from.now ≡ 1024 = search rules in
    let slot : slot_in s c.args.n ≡ suc k = record_some _ _ (sym c.in-Some.ensures.value) in
    write_did s k c.args.from.now _ full (put_vec s (vec_len d.bytes) (omega arith) c.deref_mut.result.now _ c.args.from.now _ _ c.deref_mut.ensures.value c.copy_from_slice.ensures.after (omega arith) (omega (arith, c.in-Some.ensures.inside))) c.args.n slot
