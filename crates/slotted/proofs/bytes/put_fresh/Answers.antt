use Rattle.std.proofs.Common.{◌≡◌, rules}
use Rattle.slotted.proofs.Records.{fresh_parts}
use Rattle.slotted.proofs.bytes.put_fresh.Goals as goal
use Rattle.slotted.specs.Bytes.{le4}

pub returns : goal.returns
returns c =
    let number : c.copy_from_slice-2.new.self ≡ le4 c.args.n = search rules in
    fresh_parts c.args.bytes.now _ _ c.args.n _ c.requires c.copy_from_slice.ensures.after number (c.fill.ensures.after (λ y h. h))
