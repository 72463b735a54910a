use Rattle.std.proofs.Common.{◌≡◌, ◌<◌, length, is_some, sym, ap, ◌∙◌, inl, arith, rules}
use Rattle.slotted.proofs.index.scan.Goals as goal
use Rattle.slotted.proofs.index.scan.Goals.{then-used-k-via-then-used-k, then-used-k-via-else-used-k+then-n-index, then-used-k-via-else-used-k+else-n-index+then-is_some}
use Rattle.slotted.proofs.Scans.{to_come, turn}
use Rattle.slotted.proofs.Steps.{scan_bad, scan_free, scan_none, scan_unmarked, scan_used}
use Rattle.slotted.specs.Records.{table_of}
use Rattle.std.proofs.lemmas.Bool.{both_ways}
use Rattle.std.proofs.lemmas.List.{get_or_default}
use Rattle.std.specs.Iterator.Adapters.{enumerate_count, enumerate_source}
use Rattle.std.specs.Slice.Iter.{chunks_exact_rest, chunks_exact_size}

pub loop-k-init : goal.loop-k-init
loop-k-init c =
    let s = c.args.bytes.now in
    let it = c.into_iter-k-iterator.result in
    let n : enumerate_count it ≡ 0 = search rules in
    let z : chunks_exact_size (enumerate_source it) ≡ 1030 = search rules in
    let left : chunks_exact_rest (enumerate_source it) ≡ s = search rules in
    record {
      can_next = (omega arith, tt, inl (rw n (to_come s _ 0 _ z (omega arith) left c.requires.few)));
      is_finite = tt;
      size = z;
      inside = omega arith;
      rest = rw n left;
      scanned = rw n (scan_none (table_of s) c.args.index.now c.requires.listed);
    }

pub loop-k-preserved-then-blank : goal.loop-k-preserved-then-blank
loop-k-preserved-then-blank c =
    let s = c.args.bytes.now in
    let i = c.loop-k.invariant in
    let h = c.in-Some.ensures.steps in
    let t = turn s _ _ _ _ h.0.1.0 (h.0.1.1 ∙ i.size) i.rest in
    let n = h.2 in
    let z = h.0.0 ∙ i.size in
    record {
      can_next = (omega arith, tt, inl (rw n (to_come s _ _ _ z t.inside t.left c.requires.few)));
      is_finite = tt;
      size = z;
      inside = omega (arith, n, t.inside);
      rest = rw n t.left;
      scanned = rw n (scan_free (table_of s) _ _ _ i.scanned (t.used ∙ sym c.marked.ensures ∙ c.if-not-marked.true) (t.free ∙ sym c.blank.ensures ∙ c.if-blank.true));
    }

pub returns-then-not-marked : goal.returns-then-not-marked
returns-then-not-marked c =
    let s = c.args.bytes.now in
    let i = c.loop-k.invariant in
    let h = c.in-Some.ensures.steps in
    let t = turn s _ _ _ _ h.0.1.0 (h.0.1.1 ∙ i.size) i.rest in
    scan_unmarked (table_of s) _ _ _ i.scanned _ t.below (t.used ∙ sym c.marked.ensures ∙ c.if-not-marked.true) (t.free ∙ sym c.blank.ensures ∙ c.if-blank.false)

pub returns-then-used-k : goal.returns-then-used-k
returns-then-used-k c =
    let s = c.args.bytes.now in
    let i = c.loop-k.invariant in
    let h = c.in-Some.ensures.steps in
    let t = turn s _ _ _ _ h.0.1.0 (h.0.1.1 ∙ i.size) i.rest in
    scan_bad (table_of s) _ _ _ i.scanned _ t.below c.number-n.result (t.used ∙ sym c.marked.ensures ∙ c.if-not-marked.false) (t.number ∙ sym c.number-n.ensures)
    (λ a b d. elim c.then-used-k.branch [ then-used-k-via-then-used-k w ↦ omega (arith, w.if-used-k.true, h.1) | then-used-k-via-else-used-k+then-n-index w ↦ omega (arith, w.if-n-index.true) | then-used-k-via-else-used-k+else-n-index+then-is_some w ↦ both_ways _ d (ap is_some (get_or_default _ _ _ _ b) ∙ sym w.is_some.ensures ∙ w.if-is_some.true) ])

pub loop-k-preserved : goal.loop-k-preserved
loop-k-preserved c =
    let s = c.args.bytes.now in
    let i = c.loop-k.invariant in
    let h = c.in-Some.ensures.steps in
    let t = turn s _ _ _ _ h.0.1.0 (h.0.1.1 ∙ i.size) i.rest in
    let n = h.2 in
    let z = h.0.0 ∙ i.size in
    let low : c.number-n.result < length c.loop-k.index = omega arith in
    record {
      can_next = (omega arith, tt, inl (rw n (to_come s _ _ _ z t.inside t.left c.requires.few)));
      is_finite = tt;
      size = z;
      inside = omega (arith, n, t.inside);
      rest = rw n t.left;
      scanned = rw (n, c.of.ensures, h.1) (scan_used (table_of s) _ _ _ i.scanned c.number-n.result (t.used ∙ sym c.marked.ensures ∙ c.if-not-marked.false) (t.number ∙ sym c.number-n.ensures) (omega (arith, h.1)) low (ap is_some (get_or_default _ _ _ _ low) ∙ sym c.is_some.ensures ∙ c.if-is_some.false));
    }
