use Rattle.std.proofs.Common.{◌≡◌, ℕ, ◌+◌, ◌-◌, ◌*◌, length, take, drop, replicate, ap, ◌∙◌, arith, rules}
use Rattle.std.proofs.lemmas.List.{length-take, length-drop, length-replicate}
use Rattle.std.proofs.lemmas.Slice.{overwrites}
use Rattle.page_edits.proofs.Packs.{packed_all}
use Rattle.page_edits.proofs.packing.Packing.finish.Goals as goal

pub returns : goal.returns
returns c = λ ps packed.
    let at = 4 * c.args.self.count + 2 in
    let k = c.args.self.free - at in
    let l : length (take k (drop at c.put16.new.page)) ≡ k = simp (length-take, length-drop) (omega arith) in
    let z : c.fill.new.self ≡ replicate {A = ℕ} k 0 = c.fill.ensures.after (λ y h. h) ∙ ap (λ (n : ℕ). replicate n 0) l in
    let r = length-replicate {A = ℕ} k 0 in
    packed_all ps _ _ _ (omega arith) packed c.put16.new.page c.fill.new.self _ z c.put16.ensures (search (rules, overwrites))
