use Rattle.std.proofs.Common.{◌≡◌, ℕ, ◌/◌, ◌%◌, List, Ok, sym, ap, ◌∙◌}
use Rattle.contents.specs.Blocks.{bits_in, blocks_of}
use Rattle.database.proofs.checking.is_set_in.Goals as goal
use Rattle.devices.specs.Trace.{Did}
use Rattle.directory.specs.Tree.{bits_of}
use Rattle.lookup.proofs.Looking.{bit_is}
use Rattle.lookup.proofs.Reading.{answered}
use Rattle.lookup.specs.Reads.{another, reads}

pub returns-clause-made : goal.returns-clause-made
returns-clause-made g c =
    let blocks = blocks_of (g.D.Device.meaning c.args.device.now) in
    let is : c.is_set.result ≡ bits_in blocks c.args.i = c.is_set.ensures ∙ ap (λ (s : List ℕ). bits_of s (c.args.i % 8192)) c.in_ok-turn_to_slot.ensures.read ∙ sym (bit_is blocks c.args.i c.requires.range) in
    answered (Did g.D.Device.steps g.D.Device.meaning) (reads (another c.args.last (c.args.i / 8192))) c.args.device.now c.turn_to_slot.new.device tt tt (Ok (bits_in blocks c.args.i)) (Ok c.is_set.result) (ap Ok is) c.in_ok-turn_to_slot.ensures.made
