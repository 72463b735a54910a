use Rattle.std.proofs.Common.{◌≡◌, ◌*◌, ◌≤◌, length, drop, Some}
use Rattle.std.specs.Iterator.Adapters.{enumerate_count, enumerate_source}
use Rattle.std.specs.Slice.Iter.{chunks_exact_rest, chunks_exact_size}
use Rattle.slotted.specs.Records.{table_of}
use Rattle.slotted.specs.Table.{Scanned}
use Rattle.slotted.proofs.index.scan.Given as goal

abbrev pub invariant-loop-k : goal.invariant-loop-k
invariant-loop-k l = record {
  can_next : (goal.iterator-loop-k).can_next l.k-iterator;
  is_finite : (goal.iterator-loop-k).is_finite l.k-iterator;
  size : chunks_exact_size (enumerate_source l.k-iterator) ≡ 1030;
  inside : 1030 * enumerate_count l.k-iterator ≤ length l.bytes;
  rest : chunks_exact_rest (enumerate_source l.k-iterator) ≡ drop (1030 * enumerate_count l.k-iterator) l.bytes;
  scanned : Scanned (table_of l.bytes) (enumerate_count l.k-iterator) l.index (Some l.used);
}
