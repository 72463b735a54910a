use Rattle.std.proofs.Common.{◌≡◌, ℕ, ◌+◌, ◌/◌, ◌≤◌, List, [], ◌∷◌, Ok, Err, Result, sym, ap, subst, ◌∙◌, rules, arith}
use Rattle.calls.specs.Delete.{home_depth, home_pairs}
use Rattle.calls.specs.Store.{bits_clear, change_calls, last_write, room_calls}
use Rattle.contents.specs.Blocks.{Blocks, bits_in, blocks_of}
use Rattle.database.proofs.Database.change.Goals as goal
use Rattle.database.proofs.Rooms.{change_is, refused_before, went_on}
use Rattle.devices.specs.Step.{Call}
use Rattle.devices.specs.Trace.{Did, Trace}
use Rattle.directory.proofs.Lookups.{ends_there, index_on_way}
use Rattle.directory.specs.Tree.{node}
use Rattle.directory.specs.declared.Leaf.{Leaf}
use Rattle.faults.specs.declared.Fault.{Fault}
use Rattle.keys.specs.Hash.{hash}
use Rattle.lookup.proofs.Reading.{own_answer}
use Rattle.page_edits.proofs.One.{fits_good}
use Rattle.pages.proofs.Held.{good_in}
use Rattle.pages.specs.Blank.{bytes_of}
use Rattle.pages.specs.Page.{Pair, pairs_of}
use Rattle.splits.proofs.Plans.{plans_least}
use Rattle.splits.proofs.Rooms.{room_decides}

pub way_to-requires : goal.way_to-requires
way_to-requires g c =
    let bits = bits_in (blocks_of (g.D.Device.meaning c.args.self.now.device)) in
    omega (arith, ap (λ (l : Leaf). l.depth) c.requires.leaf, (ends_there bits (hash c.args.key.now)).limit)

-- the plan does not go below depth 15
pub make_room-requires-clause-deep : goal.make_room-requires-clause-deep
make_room-requires-clause-deep g c =
    let bits = bits_in (blocks_of (g.D.Device.meaning c.args.self.now.device)) in
    let t = c.args.leaf.now.depth in
    let low : t ≤ 15 = omega (arith, ap (λ (l : Leaf). l.depth) c.requires.leaf, (ends_there bits (hash c.args.key.now)).limit) in
    let planned = (plans_least (pairs_of (bytes_of c.args.page.now.good)) c.args.key.now c.args.value.now t low).some c.args.splits c.requires.plan in
    omega (arith, c.way_to.ensures.1, planned.1)

pub make_room-requires-clause-directory : goal.make_room-requires-clause-directory
make_room-requires-clause-directory g c = λ above.
    let blocks = blocks_of (g.D.Device.meaning c.args.self.now.device) in
    let bits = bits_in blocks in
    let h = hash c.args.key.now in
    let depth = ap (λ (l : Leaf). l.depth) c.requires.leaf in
    let index : c.args.leaf.now.index ≡ c.way_to.result.index =
    ap (λ (l : Leaf). l.index) c.requires.leaf
    ∙ index_on_way bits h
    ∙ ap (node h) (sym (c.way_to.ensures.1 ∙ depth))
    ∙ ap (λ (k : ℕ). node k c.way_to.result.depth) (sym (c.way_to.ensures.0 ∙ c.requires.hash))
    ∙ sym c.way_to.result.on in
    c.requires.directory (omega (arith, c.way_to.ensures.1)) ∙ ap (λ (i : ℕ). blocks (i / 8192)) index

pub overflow_add-leaf : goal.overflow_add-leaf
overflow_add-leaf g c =
    let bits = bits_in (blocks_of (g.D.Device.meaning c.args.self.now.device)) in
    let t = c.args.leaf.now.depth in
    let low : t ≤ 15 = omega (arith, ap (λ (l : Leaf). l.depth) c.requires.leaf, (ends_there bits (hash c.args.key.now)).limit) in
    let planned = (plans_least (pairs_of (bytes_of c.args.page.now.good)) c.args.key.now c.args.value.now t low).some c.args.splits c.requires.plan in
    omega (arith, planned.1)

pub put_pair-requires-clause-deep : goal.put_pair-requires-clause-deep
put_pair-requires-clause-deep g c =
    let bits = bits_in (blocks_of (g.D.Device.meaning c.args.self.now.device)) in
    let t = c.args.leaf.now.depth in
    let low : t ≤ 15 = omega (arith, ap (λ (l : Leaf). l.depth) c.requires.leaf, (ends_there bits (hash c.args.key.now)).limit) in
    ((plans_least (pairs_of (bytes_of c.args.page.now.good)) c.args.key.now c.args.value.now t low).some c.args.splits c.requires.plan).1

-- room alone decides whether the pair fits
pub put_pair-requires-clause-fits : goal.put_pair-requires-clause-fits
put_pair-requires-clause-fits g c =
    let bits = bits_in (blocks_of (g.D.Device.meaning c.args.self.now.device)) in
    let page = c.args.page.now in
    let t = c.args.leaf.now.depth in
    let low : t ≤ 15 = omega (arith, ap (λ (l : Leaf). l.depth) c.requires.leaf, (ends_there bits (hash c.args.key.now)).limit) in
    let planned = (plans_least (pairs_of (bytes_of page.good)) c.args.key.now c.args.value.now t low).some c.args.splits c.requires.plan in
    (room_decides (pairs_of (bytes_of page.good)) c.args.key.now c.args.value.now (t + c.args.splits) (fits_good (bytes_of page.good) page.typed (good_in page)) c.requires.named).0 planned.2

-- the way and the page are those of the key
room_of : (blocks : Blocks) (key : List ℕ) (pairs : List Pair) (h t s : ℕ) → pairs ≡ home_pairs blocks key → h ≡ hash key → t ≡ home_depth blocks key
    → (room_calls blocks pairs h t s ≡ room_calls blocks (home_pairs blocks key) (hash key) (home_depth blocks key) s)
    × (bits_clear (bits_in blocks) h t s ≡ bits_clear (bits_in blocks) (hash key) (home_depth blocks key) s)
room_of blocks key pairs h t s p q r = (
  ap (λ (x : List Pair). room_calls blocks x h t s) p ∙ ap (λ (x : ℕ). room_calls blocks (home_pairs blocks key) x t s) q ∙ ap (λ (x : ℕ). room_calls blocks (home_pairs blocks key) (hash key) x s) r,
  ap (λ (x : ℕ). bits_clear (bits_in blocks) x t s) q ∙ ap (λ (x : ℕ). bits_clear (bits_in blocks) (hash key) x s) r,
)

pub returns-in_err-make_room : goal.returns-in_err-make_room
returns-in_err-make_room g c =
    let did = Did g.D.Device.steps g.D.Device.meaning in
    let d = c.args.self.now.device in
    let e = c.make_room.new.self.device in
    let blocks = blocks_of (g.D.Device.meaning d) in
    let key = c.args.key.now in
    let s = c.args.splits in
    let f = c.in_err-make_room.field-0.0 in
    let is : c.from_residual.result ≡ Err f = search rules in
    let own : Result Unit Fault = bits_clear (bits_in blocks) (hash key) (home_depth blocks key) s in
    let pairs : pairs_of (bytes_of c.args.page.now.good) ≡ home_pairs blocks key = ap pairs_of c.requires.page in
    let h : c.way_to.result.hash ≡ hash key = c.way_to.ensures.0 ∙ c.requires.hash in
    let t : c.way_to.result.depth ≡ home_depth blocks key = c.way_to.ensures.1 ∙ ap (λ (l : Leaf). l.depth) c.requires.leaf in
    let same = room_of blocks key _ _ _ s pairs h t in
    let room = room_calls blocks (home_pairs blocks key) (hash key) (home_depth blocks key) s in
    let made : Trace {X = Unit} did d room own (Err f) e =
    subst (λ (o : Result Unit Fault). Trace did d room o (Err f) e) same.1
    (subst (λ (cs : List Call). Trace {X = Unit} did d cs (bits_clear (bits_in blocks) c.way_to.result.hash c.way_to.result.depth s) (Err f) e) same.0 c.in_err-make_room.ensures) in
    subst (λ (r : Result Unit Fault). Trace did d (change_calls blocks key c.args.value.now s) own r e) (sym is)
    (subst (λ (cs : List Call). Trace did d cs own (Err f) e) (sym (change_is blocks key c.args.value.now s))
    (refused_before did room (λ _. last_write (home_pairs blocks key) key c.args.value.now (home_depth blocks key + s) ∷ []) own d e f own (λ g q. q) made))

pub returns : goal.returns
returns g c =
    let did = Did g.D.Device.steps g.D.Device.meaning in
    let d = c.args.self.now.device in
    let m = c.make_room.new.self.device in
    let e = c.put_pair.new.device in
    let r = c.put_pair.result in
    let blocks = blocks_of (g.D.Device.meaning d) in
    let key = c.args.key.now in
    let value = c.args.value.now in
    let s = c.args.splits in
    let own : Result Unit Fault = bits_clear (bits_in blocks) (hash key) (home_depth blocks key) s in
    let pairs : pairs_of (bytes_of c.args.page.now.good) ≡ home_pairs blocks key = ap pairs_of c.requires.page in
    let h : c.way_to.result.hash ≡ hash key = c.way_to.ensures.0 ∙ c.requires.hash in
    let depth : c.args.leaf.now.depth ≡ home_depth blocks key = ap (λ (l : Leaf). l.depth) c.requires.leaf in
    let t : c.way_to.result.depth ≡ home_depth blocks key = c.way_to.ensures.1 ∙ depth in
    let same = room_of blocks key _ _ _ s pairs h t in
    let room = room_calls blocks (home_pairs blocks key) (hash key) (home_depth blocks key) s in
    let made : Trace {X = Unit} did d room own (Ok tt) m =
    subst (λ (o : Result Unit Fault). Trace did d room o (Ok tt) m) same.1
    (subst (λ (cs : List Call). Trace {X = Unit} did d cs (bits_clear (bits_in blocks) c.way_to.result.hash c.way_to.result.depth s) (Ok tt) m) same.0 c.in_ok-make_room.ensures) in
    let clear : Ok tt ≡ own = own_answer did room d m tt own made in
    let last : (ps : List Pair) (k : ℕ) → List Call = λ ps k. last_write ps key value (k + s) ∷ [] in
    let write : Trace {X = Unit} did m (last (home_pairs blocks key) (home_depth blocks key)) own r e =
    subst (λ (o : Result Unit Fault). Trace did m (last (home_pairs blocks key) (home_depth blocks key)) o r e) clear
    (subst (λ (k : ℕ). Trace {X = Unit} did m (last (home_pairs blocks key) k) (Ok tt) r e) depth
    (subst (λ (ps : List Pair). Trace {X = Unit} did m (last ps c.args.leaf.now.depth) (Ok tt) r e) pairs c.put_pair.ensures)) in
    subst (λ (cs : List Call). Trace did d cs own r e) (sym (change_is blocks key value s))
    (went_on did room (λ _. last (home_pairs blocks key) (home_depth blocks key)) own d m e tt own r made write)
