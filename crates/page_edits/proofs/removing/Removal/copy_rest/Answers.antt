use Rattle.std.proofs.Common.{◌+◌, ◌-◌, ◌*◌, length, ap, arith}
use Rattle.page_edits.proofs.Cut.{put_part}
use Rattle.page_edits.proofs.Rest.{rest_at}
use Rattle.std.proofs.lemmas.List.Edits.{length-between}
use Rattle.page_edits.proofs.removing.Removal.copy_rest.Goals as goal

pub returns : goal.returns
returns c =
    let r = c.args.self.now in
    let page = c.bytes-page.result.now in
    let front = length-between page 0 (4 * r.number + 2) (omega (arith, r.page.few, r.within, r.page.whole, ap length c.bytes-page.ensures)) in
    let rest = length-between page r.low r.start (omega (arith, r.order, r.page.whole, ap length c.bytes-page.ensures)) in
    let back = length-between page r.end 1024 (omega (arith, r.page.whole, ap length c.bytes-page.ensures)) in
    let front_put = put_part c.args.out.now _ _ 0 (4 * r.number + 2 - 0) c.copy_from_slice.ensures.after (omega (arith, front)) in
    rest_at r _ _ c.args.out.now _ _ _ _ c.count-count.ensures c.bytes-page.ensures c.raise.array_long (omega arith) front_put c.raise.ensures
    (put_part _ _ _ _ _ c.copy_from_slice-2.ensures.after (omega (arith, rest, r.order))) (put_part _ _ _ _ _ c.copy_from_slice-3.ensures.after (omega (arith, back)))
