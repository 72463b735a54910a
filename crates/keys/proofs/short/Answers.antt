use Rattle.std.proofs.Common.{ap, ◌∙◌, length, fold}
use Rattle.std.proofs.lemmas.List.{take_all}
use Rattle.keys.specs.Print.{blend}
use Rattle.keys.proofs.Prints.{bytes_folded}
use Rattle.keys.proofs.short.Goals as goal

pub returns : goal.returns
returns c =
    let key = c.args.key.now in
    let n = length key in
    c.loop-b.invariant ∙ ap (fold blend n) (take_all c.loop-b.b-index key c.loop-b-test.false) ∙ bytes_folded n key
