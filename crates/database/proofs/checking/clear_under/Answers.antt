use Rattle.std.proofs.Common.{◌≡◌, ◌/◌, [], Bool, cond, Ok, Err, Result, sym, ap, subst, ◌∙◌, rules}
use Rattle.contents.specs.Blocks.{bits_in, blocks_of}
use Rattle.database.proofs.Unders.{first, kept_both, pair_answered, pair_stopped, second, set_below, slot_before, slot_then, tested}
use Rattle.database.proofs.checking.clear_under.Goals as goal
use Rattle.calls.specs.Store.{clear_pair}
use Rattle.devices.specs.Trace.{Did, Trace}
use Rattle.faults.specs.declared.Fault.{Fault}

pub is_set_in-requires-2-clause-slot : goal.is_set_in-requires-2-clause-slot
is_set_in-requires-2-clause-slot g c =
    slot_then g.D.Device.steps g.D.Device.meaning c.args.last c.args.i c.args.device.now c.is_set_in.new.device _ c.in_ok-is_set_in.ensures.made c.is_set_in.new.directory (first c.args.i / 8192) c.in_ok-is_set_in.ensures.read

pub returns-in_err-is_set_in-2-clause-made : goal.returns-in_err-is_set_in-2-clause-made
returns-in_err-is_set_in-2-clause-made g c =
    let steps = g.D.Device.steps in
    let M = g.D.Device.meaning in
    let d = c.args.device.now in
    let e = c.is_set_in-2.new.device in
    let bits = bits_in (blocks_of (M d)) in
    let i = c.args.i in
    let f = c.in_err-is_set_in-2.field-0.0 in
    let is : c.from_residual-in_err-is_set_in-2.result ≡ Err f = search rules in
    subst (λ r. Trace (Did steps M) d (tested bits c.args.last i []) (clear_pair bits i) r e) (sym is)
    (pair_stopped steps M c.args.last i d c.is_set_in.new.device _ c.in_ok-is_set_in.ensures.made c.if-branch.false e f c.in_err-is_set_in-2.ensures.made)

pub returns-in_err-is_set_in-2-clause-kept : goal.returns-in_err-is_set_in-2-clause-kept
returns-in_err-is_set_in-2-clause-kept g c =
    kept_both g.D.Device.steps g.D.Device.meaning c.args.last c.args.i c.args.device.now c.is_set_in.new.device _ c.in_ok-is_set_in.ensures.made c.args.directory.now c.is_set_in.new.directory c.is_set_in-2.new.directory c.in_ok-is_set_in.ensures.kept c.in_err-is_set_in-2.ensures.kept

pub returns-then-branch-2-clause-made : goal.returns-then-branch-2-clause-made
returns-then-branch-2-clause-made g c =
    let r : Result Unit Fault = Err c.fault-refused.result in
    let is : r ≡ set_below c.args.i = ap Err c.fault-refused.ensures in
    pair_answered g.D.Device.steps g.D.Device.meaning c.args.last c.args.i c.args.device.now c.is_set_in.new.device _ c.in_ok-is_set_in.ensures.made c.if-branch.false c.is_set_in-2.new.device _ r
    (is ∙ ap (λ (b : Bool). cond b (set_below c.args.i) (Ok tt)) (sym c.if-branch-2.true)) c.in_ok-is_set_in-2.ensures.made

pub returns-clause-made : goal.returns-clause-made
returns-clause-made g c =
    pair_answered g.D.Device.steps g.D.Device.meaning c.args.last c.args.i c.args.device.now c.is_set_in.new.device _ c.in_ok-is_set_in.ensures.made c.if-branch.false c.is_set_in-2.new.device _ (Ok tt)
    (ap (λ (b : Bool). cond b (set_below c.args.i) (Ok tt)) (sym c.if-branch-2.false)) c.in_ok-is_set_in-2.ensures.made

pub returns-then-branch-2-clause-kept : goal.returns-then-branch-2-clause-kept
returns-then-branch-2-clause-kept g c =
    kept_both g.D.Device.steps g.D.Device.meaning c.args.last c.args.i c.args.device.now c.is_set_in.new.device _ c.in_ok-is_set_in.ensures.made c.args.directory.now c.is_set_in.new.directory c.is_set_in-2.new.directory c.in_ok-is_set_in.ensures.kept c.in_ok-is_set_in-2.ensures.kept

pub returns-clause-kept : goal.returns-clause-kept
returns-clause-kept g c =
    kept_both g.D.Device.steps g.D.Device.meaning c.args.last c.args.i c.args.device.now c.is_set_in.new.device _ c.in_ok-is_set_in.ensures.made c.args.directory.now c.is_set_in.new.directory c.is_set_in-2.new.directory c.in_ok-is_set_in.ensures.kept c.in_ok-is_set_in-2.ensures.kept

pub returns-clause-read : goal.returns-clause-read
returns-clause-read g c =
    let before = slot_before g.D.Device.steps g.D.Device.meaning c.args.last c.args.i c.args.device.now c.is_set_in.new.device _ c.in_ok-is_set_in.ensures.made c.is_set_in-2.new.directory in (
      kept_both g.D.Device.steps g.D.Device.meaning c.args.last c.args.i c.args.device.now c.is_set_in.new.device _ c.in_ok-is_set_in.ensures.made c.is_set_in.new.directory c.is_set_in.new.directory c.is_set_in-2.new.directory (λ b there. there) c.in_ok-is_set_in-2.ensures.kept (first c.args.i / 8192) c.in_ok-is_set_in.ensures.read,
      before (second c.args.i / 8192) c.in_ok-is_set_in-2.ensures.read,
    )
