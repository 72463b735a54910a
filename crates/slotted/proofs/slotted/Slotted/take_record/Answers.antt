use Rattle.std.proofs.Common.{◌≡◌, ℕ, ◌+◌, ◌-◌, ◌*◌, List, Some, None, Option, is_some, get_or, set, vec_items, vec_len, sym, ap, ◌∙◌, arith}
use Rattle.slotted.proofs.Calls.{take_listed}
use Rattle.slotted.proofs.Images.{room_left}
use Rattle.slotted.proofs.Puts.{put_vec}
use Rattle.slotted.proofs.slotted.Slotted.take_record.Goals as goal
use Rattle.slotted.proofs.Tables.{record_none}
use Rattle.slotted.proofs.Takes.{fresh_length, take_left, take_limit, take_used}
use Rattle.devices.specs.Bytes.{put}
use Rattle.slotted.specs.Image.{left_in, limit_in, record_in, slot_in, used_in}
use Rattle.slotted.specs.Records.{fresh}

pub invariant_of-self : goal.invariant_of-self
invariant_of-self c =
    let d = c.args.self.now in
    let s = vec_items d.bytes in
    let n = c.args.n in
    let index = vec_items d.index in
    let low = c.requires.low in
    let none : slot_in s n ≡ 0 = record_none _ (ap is_some c.requires.none) in
    let free = c.requires.free in
    let room = (room_left s free).0 in
    let e = put_vec s (vec_len d.bytes) (omega arith) c.deref_mut.result.now c.put_fresh.new.bytes (fresh n) (1030 * d.used) (1030 * d.used + 1030 - 1030 * d.used) c.deref_mut.ensures.value c.put_fresh.ensures (omega (arith, fresh_length n)) (omega (arith, fresh_length n, d.counted, room))
    ∙ ap (λ (u : ℕ). put s (1030 * u) (fresh n)) d.counted in
    let limit = ap limit_in e ∙ take_limit s n low none free in
    record {
      sized = d.sized ∙ sym limit;
      listed = λ m l.
          ap (λ (o : Option ℕ). get_or (set index n o) m None) (c.of.ensures ∙ ap Some d.counted)
          ∙ take_listed s n low none free index (omega (arith, d.sized)) d.listed m (omega (arith, limit, take_limit s n low none free))
          ∙ sym (ap (λ (x : List ℕ). record_in x m) e);
      counted = ap (λ (u : ℕ). u + 1) d.counted ∙ sym (ap used_in e ∙ take_used s n low none free);
      rest = ap (λ (x : ℕ). x - 1) d.rest ∙ sym (ap left_in e ∙ take_left s n low none free);
    }

pub returns : goal.returns
returns c =
    let d = c.args.self.now in
    let s = vec_items d.bytes in
    let n = c.args.n in
    let room = (room_left s c.requires.free).0 in
    put_vec s (vec_len d.bytes) (omega arith) _ _ (fresh n) _ _ c.deref_mut.ensures.value c.put_fresh.ensures (omega (arith, fresh_length n)) (omega (arith, fresh_length n, d.counted, room))
    ∙ ap (λ (u : ℕ). put s (1030 * u) (fresh n)) d.counted
