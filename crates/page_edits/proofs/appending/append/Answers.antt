use Rattle.std.proofs.Common.{refl, ◌∙◌}
use Rattle.page_edits.proofs.Packs.{push_room}
use Rattle.page_edits.proofs.appending.append.Goals as goal

pub push-requires : goal.push-requires
push-requires c = push_room _ _ _ _ _ _ c.of-packing.ensures (c.if-not-fits.ensures.0 refl).room

pub returns : goal.returns
returns c =
    (c.in-Some.ensures.variant.0 refl, c.if-not-fits.ensures.0 refl, c.finish.ensures _ (c.push.ensures.packed _ (rw (c.copy_from_slice.ensures.after ∙ c.bytes.ensures) c.of-packing.ensures)))
