use Rattle.std.proofs.Common.{ℕ, ◌/◌, ◌%◌}
use Rattle.listing.proofs.Texts.{escaped, pushed}
use Rattle.listing.specs.Text.{digit}
use Rattle.listing.proofs.text.push_shown.Goals as goal

pub returns : goal.returns
returns c =
    let b = c.args.b in
    let e1 = c.in_ok-push-2.ensures in
    let e2 = c.in_ok-push-3.ensures in
    escaped _ _ _ _ b c.if-is_plain.ensures.value c.in_ok-push_str.ensures.bytes
    (pushed _ _ _ _ (digit (b / 16)) e1.bytes (e1.ascii c.hex_digit.ensures.ascii) c.hex_digit.ensures.value)
    (pushed _ _ _ _ (digit (b % 16)) e2.bytes (e2.ascii c.hex_digit-2.ensures.ascii) c.hex_digit-2.ensures.value)
