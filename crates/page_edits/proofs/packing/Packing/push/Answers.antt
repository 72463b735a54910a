use Rattle.std.proofs.Common.{ℕ, ◌+◌, ◌-◌, List, ◌++◌, length, refl, ap, ◌∙◌, arith}
use Rattle.page_edits.specs.Bytes.{put}
use Rattle.page_edits.proofs.Cut.{put_beside, put_part}
use Rattle.page_edits.proofs.Packs.{packed_more}
use Rattle.page_edits.proofs.packing.Packing.push.Goals as goal

pub returns : goal.returns
returns c = record {
  packed = λ ps packed.
      let key = c.args.key.now in
      let value = c.args.value.now in
      let free = c.make_place.new.self.free in
      let at = free + length value in
      let first = put_part c.make_place.new.out _ value free (at - free) c.copy_from_slice.ensures.after (omega arith) in
      packed_more ps _ _ _ (omega arith) packed key value _ _ _ c.make_place.ensures.count (omega arith) (omega arith)
      (put_part _ _ key at _ c.copy_from_slice-2.ensures.after (omega arith)
      ∙ ap (λ (s : List ℕ). put s at key) first
      ∙ put_beside c.make_place.new.out value key free at refl (omega arith)
      ∙ ap (λ (s : List ℕ). put s free (value ++ key)) c.make_place.ensures.offsets);
}
