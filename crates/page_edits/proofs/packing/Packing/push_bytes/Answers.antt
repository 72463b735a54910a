use Rattle.std.proofs.Common.{◌++◌, length, ap, ◌∙◌, arith, length-append}
use Rattle.page_edits.proofs.Cut.{put_part}
use Rattle.page_edits.proofs.Packs.{packed_more}
use Rattle.page_edits.proofs.packing.Packing.push_bytes.Goals as goal

pub returns : goal.returns
returns c = record {
  packed = λ ps key value e m packed.
      let free = c.make_place.new.self.free in
      let l = ap length e ∙ length-append value key in
      packed_more ps _ _ _ (omega arith) packed key value _ _ free c.make_place.ensures.count (omega (arith, l)) (omega arith)
      (put_part _ _ (value ++ key) free _ (c.copy_from_slice.ensures.after ∙ e) (omega (arith, l, length-append value key))
      ∙ rw (c.make_place.ensures.offsets, m));
}
