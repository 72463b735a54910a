use Rattle.std.proofs.Common.{◌∙◌}
use Rattle.keys.proofs.Prints.{print_short, print_long}
use Rattle.keys.proofs.fingerprint.Goals as goal
use Rattle.keys.proofs.fingerprint.Goals.{then-key-lt8, else-key-lt8}

pub returns-clause-value : goal.returns-clause-value
returns-clause-value c =
    elim c.if-key-lt8.branch [
      | then-key-lt8 w ↦ print_short c.args.key.now _ w.if-key-lt8.true (w.h-is ∙ w.short-h.ensures)
      | else-key-lt8 w ↦ print_long c.args.key.now _ w.if-key-lt8.false (w.h-is ∙ w.long-h.ensures)
    ]
