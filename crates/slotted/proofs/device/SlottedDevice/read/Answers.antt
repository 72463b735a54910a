use Rattle.std.proofs.Common.{◌≡◌, ℕ, ◌+◌, ◌-◌, ◌*◌, List, length, take, drop, vec_items, sym, ap, ◌∙◌, arith, rules}
use Rattle.slotted.proofs.device.SlottedDevice.read.Goals as goal
use Rattle.slotted.proofs.Images.{no_block, record_block}

pub returns-in-Some-clause-into : goal.returns-in-Some-clause-into
returns-in-Some-clause-into c =
    let k = c.in-Some.k in
    let w : 1030 * k + 6 + 1024 - (1030 * k + 6) ≡ 1024 = omega arith in
    c.copy_from_slice.ensures.after
    ∙ rw w (ap (λ (x : List ℕ). take 1024 (drop (1030 * k + 6) x)) c.deref.ensures.value ∙ sym (record_block (vec_items c.args.self.now.bytes) c.args.n k (sym c.in-Some.ensures.value)))

pub returns-in-None-clause-into : goal.returns-in-None-clause-into
returns-in-None-clause-into c =
    let full : length c.args.into.now ≡ 1024 = search rules in
    c.fill.ensures.after (λ y h. h) ∙ rw full (sym (no_block (vec_items c.args.self.now.bytes) c.args.n (sym c.in-None.ensures.value)))
