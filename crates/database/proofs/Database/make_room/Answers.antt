use Rattle.std.proofs.Common.{◌≡◌, ℕ, ◌/◌, ◌++◌, Ok, Err, Result, sym, ap, subst, ◌∙◌, rules, arith}
use Rattle.calls.specs.Store.{Slots, bits_clear, claims, room_calls, split_writes, under_calls}
use Rattle.contents.specs.Blocks.{bits_in, blocks_of}
use Rattle.directory.specs.declared.Leaf.{Leaf}
use Rattle.database.proofs.Database.make_room.Goals as goal
use Rattle.database.proofs.Halves.{block_within}
use Rattle.database.proofs.Rooms.{refused_before, went_on}
use Rattle.devices.proofs.Traces.{trace_stop, trace_then}
use Rattle.devices.specs.Trace.{Did, Trace}
use Rattle.faults.specs.declared.Fault.{Fault}
use Rattle.lookup.proofs.Reading.{own_answer}
use Rattle.pages.specs.Blank.{bytes_of}
use Rattle.pages.specs.Page.{pairs_of}

-- splits are made above depth 15 only
pub in_slot-blocks-requires : goal.in_slot-blocks-requires
in_slot-blocks-requires g c = block_within c.args.way.hash c.args.way.depth c.leaf-2.result c.leaf-2.ensures (omega (arith, c.requires.deep, c.if-splits-eq0.false))

pub check_under-requires-clause-slot : goal.check_under-requires-clause-slot
check_under-requires-clause-slot g c = λ some.
    let blocks = blocks_of (g.D.Device.meaning c.args.self.now.device) in
    let index : c.leaf-2.result.index ≡ c.args.way.index = ap (λ (l : Leaf). l.index) c.leaf-2.ensures ∙ sym c.args.way.on in
    subst (λ (i : ℕ). Slots blocks c.in_slot-blocks.result (i / 8192)) index (c.in_slot-blocks.ensures ∙ c.requires.directory (omega (arith, c.requires.deep)) ∙ ap (λ (i : ℕ). blocks (i / 8192)) (sym index))

pub returns-in_err-check_under : goal.returns-in_err-check_under
returns-in_err-check_under g c =
    let did = Did g.D.Device.steps g.D.Device.meaning in
    let d = c.args.self.now.device in
    let e = c.check_under.new.device in
    let blocks = blocks_of (g.D.Device.meaning d) in
    let h = c.args.way.hash in
    let t = c.args.way.depth in
    let s = c.args.splits in
    let own : Result Unit Fault = bits_clear (bits_in blocks) h t s in
    let f = c.in_err-check_under.field-0.0 in
    let is : c.from_residual.result ≡ Err f = search rules in
    let pairs = pairs_of (bytes_of c.args.page.now.good) in
    subst (λ (r : Result Unit Fault). Trace did d (room_calls blocks pairs h t s) own r e) (sym is)
    (refused_before did (under_calls (bits_in blocks) h t s) (λ _. claims h t s ++ split_writes blocks pairs h t s) own d e f own (λ g q. q) c.in_err-check_under.ensures.made)

pub returns-in_err-claim_all : goal.returns-in_err-claim_all
returns-in_err-claim_all g c =
    let did = Did g.D.Device.steps g.D.Device.meaning in
    let d = c.args.self.now.device in
    let m = c.check_under.new.device in
    let e = c.claim_all.new.device in
    let blocks = blocks_of (g.D.Device.meaning d) in
    let h = c.args.way.hash in
    let t = c.args.way.depth in
    let s = c.args.splits in
    let own : Result Unit Fault = bits_clear (bits_in blocks) h t s in
    let f = c.in_err-claim_all.field-0.0 in
    let is : c.from_residual-in_err-claim_all.result ≡ Err f = search rules in
    let pairs = pairs_of (bytes_of c.args.page.now.good) in
    subst (λ (r : Result Unit Fault). Trace did d (room_calls blocks pairs h t s) own r e) (sym is)
    (went_on did (under_calls (bits_in blocks) h t s) (λ _. claims h t s ++ split_writes blocks pairs h t s) own d m e tt own (Err f) c.in_ok-check_under.ensures.made
    (trace_stop did (claims h t s) (split_writes blocks pairs h t s) m e tt own f c.in_err-claim_all.ensures))

pub returns : goal.returns
returns g c =
    let did = Did g.D.Device.steps g.D.Device.meaning in
    let d = c.args.self.now.device in
    let m = c.check_under.new.device in
    let n = c.claim_all.new.device in
    let e = c.split_all.new.device in
    let blocks = blocks_of (g.D.Device.meaning d) in
    let h = c.args.way.hash in
    let t = c.args.way.depth in
    let s = c.args.splits in
    let own : Result Unit Fault = bits_clear (bits_in blocks) h t s in
    let pairs = pairs_of (bytes_of c.args.page.now.good) in
    let r = c.split_all.result in
    let clear : Ok tt ≡ own = own_answer did (under_calls (bits_in blocks) h t s) d m tt own c.in_ok-check_under.ensures.made in
    let writes = c.split_all.ensures blocks (c.in_ok-check_under.ensures.read) in
    went_on did (under_calls (bits_in blocks) h t s) (λ _. claims h t s ++ split_writes blocks pairs h t s) own d m e tt own r c.in_ok-check_under.ensures.made
    (subst (λ (o : Result Unit Fault). Trace did m (claims h t s ++ split_writes blocks pairs h t s) o r e) clear
    (trace_then did (claims h t s) (split_writes blocks pairs h t s) m n e tt tt (Ok tt) r c.in_ok-claim_all.ensures writes))
