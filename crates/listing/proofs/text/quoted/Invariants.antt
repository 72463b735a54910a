use Rattle.std.proofs.Common.{◌≡◌, ◌∷◌, take, string_bytes}
use Rattle.listing.specs.Text.{each, shown_byte}
use Rattle.listing.proofs.text.quoted.Given as goal

abbrev pub invariant-loop-b : goal.invariant-loop-b
invariant-loop-b l = string_bytes l.s ≡ 34 ∷ each shown_byte (take l.b-index l.bytes)
