use Rattle.std.proofs.Common.{◌≡◌, length, take, fold}
use Rattle.keys.proofs.Prints.{blend_bytes}
use Rattle.keys.proofs.long.Given as goal

abbrev pub invariant-loop-word : goal.invariant-loop-word
invariant-loop-word l = l.h ≡ fold blend_bytes (length l.key) (take l.word-index l.words)
