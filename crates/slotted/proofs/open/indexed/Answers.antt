use Rattle.std.proofs.Common.{◌≡◌, ℕ, List, length, get_or, None, Option, vec_items, replicate, sym, ap, ◌∙◌, subst, arith}
use Rattle.slotted.proofs.open.indexed.Goals as goal
use Rattle.slotted.proofs.open.indexed.Goals.{then-records-bytes-via-then-records-bytes, then-records-bytes-via-else-records-bytes+then-records}
use Rattle.slotted.proofs.Images.{formed_not}
use Rattle.slotted.proofs.Opens.{scan_bad, scan_good}
use Rattle.slotted.proofs.Tables.{slot_start}
use Rattle.slotted.specs.Image.{Indexed}
use Rattle.slotted.specs.Records.{table_of}
use Rattle.slotted.specs.Table.{record_of}
use Rattle.std.proofs.lemmas.List.{get_or-replicate, with_items_is}

pub returns-then-records-bytes : goal.returns-then-records-bytes
returns-then-records-bytes c =
    formed_not c.args.bytes.now
    (λ p. elim c.then-records-bytes.branch [ then-records-bytes-via-then-records-bytes w ↦ omega (arith, w.if-records-bytes.true, p.0) | then-records-bytes-via-else-records-bytes+then-records w ↦ omega (arith, w.if-records.true, p.1) ])

pub scan-requires-clause-listed : goal.scan-requires-clause-listed
scan-requires-clause-listed c =
    let fresh : vec_items c.in_ok-index.index ≡ replicate {A = Option ℕ} 65544 None = c.in_ok-index.ensures.items_if_clones_equal (λ _ q. q) ∙ ap (replicate 65544) c.none.ensures in
    λ n l.
    ap (λ (xs : List (Option ℕ)). get_or xs n None) (c.deref_mut.ensures.value ∙ fresh)
    ∙ get_or-replicate 65544 n None None (omega (arith, c.deref_mut.ensures.len, c.in_ok-index.ensures.len))
    ∙ ap record_of (sym (slot_start (table_of c.args.bytes.now) n))

pub returns-in_default : goal.returns-in_default
returns-in_default c =
    scan_bad c.args.bytes.now c.scan.new.index (omega (arith, c.deref_mut.ensures.len, c.in_ok-index.ensures.len)) c.in_default.ensures

pub returns : goal.returns
returns c =
    let s = c.args.bytes.now in
    let index = c.scan.new.index in
    let long : length index ≡ 65544 = omega (arith, c.deref_mut.ensures.len, c.in_ok-index.ensures.len) in
    let back = with_items_is c.in_ok-index.index index (omega (arith, c.in_ok-index.ensures.len)) in
    subst (λ (xs : List (Option ℕ)). Indexed s xs c.in-Some.used) (sym back) (scan_good s index c.in-Some.used (omega arith) (omega arith) long c.in-Some.ensures)
