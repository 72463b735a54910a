use Rattle.std.proofs.Common.{List, length, ap, sym, subst, ◌∙◌, arith, length-append}
use Rattle.page_edits.proofs.Kept.{kept_all, kept_no, kept_room, kept_yes, key_in_bytes, staying}
use Rattle.pages.specs.Blank.{bytes_of}
use Rattle.pages.specs.Page.{Pair, key_of, pairs_of, val_of}
use Rattle.page_edits.specs.Bytes.{Packed}
use Rattle.page_edits.specs.Stay.{stays}
use Rattle.page_edits.proofs.keeping.copy_kept.Goals as goal
use Rattle.page_edits.proofs.keeping.copy_kept.Goals.{in-Some+then-stays, in-Some+else-stays, in_default}

pub loop-k-init : goal.loop-k-init
loop-k-init c =
    subst (λ (ps : List Pair). Packed ps c.front-packing.new.out c.front-packing.result.count c.front-packing.result.free) (sym c.count_kept-first.ensures.next) c.front-packing.ensures

pub push_bytes-requires-clause-room : goal.push_bytes-requires-clause-room
push_bytes-requires-clause-room c =
    let page = bytes_of c.args.page.now.good in
    let at = c.in-Some.ensures in
    let kept = rw (key_in_bytes _ _ _ _ at.1 at.2) at c.if-stays.ensures in
    let room = kept_room c.args.page.now (λ q. stays c.args.but c.args.bits c.args.low q.0) c.loop-k.k at.0 kept _ _ _ c.loop-k.invariant in
    omega (arith, room, ap length at.1 ∙ length-append (val_of page c.loop-k.k) (key_of page c.loop-k.k))

pub loop-k-preserved : goal.loop-k-preserved
loop-k-preserved c =
    let f = λ (q : Pair). stays c.args.but c.args.bits c.args.low q.0 in
    elim c.match-pair_bytes.branch [
      | in-Some+then-stays w ↦
          let at = w.in-Some.ensures in
          let kept = rw (key_in_bytes _ _ _ _ at.1 at.2) at w.if-stays.ensures in
          rw (w.out-is, w.packing-is, kept_yes c.args.page.now f c.loop-k.k at.0 kept) (w.push_bytes.ensures.packed _ _ _ at.1 at.2 c.loop-k.invariant)
      | in-Some+else-stays w ↦
          let at = w.in-Some.ensures in
          let left = rw (key_in_bytes _ _ _ _ at.1 at.2) at w.if-stays.ensures in
          rw (w.out-is, w.packing-is, kept_no c.args.page.now f c.loop-k.k at.0 left) c.loop-k.invariant
      | in_default w ↦ absurd (omega (arith, w.in_default.ensures, c.loop-k-test.true, c.count-k-end.ensures))
    ]

pub returns : goal.returns
returns c =
    let ps = pairs_of (bytes_of c.args.page.now.good) in
    let all = kept_all c.args.page.now (λ q. stays c.args.but c.args.bits c.args.low q.0) c.loop-k.k (omega (arith, c.loop-k-test.false, c.count-k-end.ensures)) in
    rw (← staying c.args.but c.args.bits c.args.low ps, ← all) c.loop-k.invariant
