use Rattle.std.proofs.Common.{ap, ap₂, ◌∙◌, length, fold}
use Rattle.std.proofs.lemmas.List.{take_all}
use Rattle.keys.specs.Print.{blend}
use Rattle.keys.proofs.Prints.{blend_bytes, words_before}
use Rattle.keys.proofs.long.Goals as goal

pub returns : goal.returns
returns c =
    let key = c.args.key.now in
    let n = length key in
    let words = c.as_chunks.result.0.now in
    let folded = c.loop-word.invariant ∙ ap (fold blend_bytes n) (take_all c.loop-word.word-index words c.loop-word-test.false) in
    c.blend.ensures ∙ ap₂ blend (folded ∙ words_before key words n c.as_chunks.ensures.front) c.word8.ensures
