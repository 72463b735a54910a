-- A fetch, a get and a step only read, so they leave the blocks as they are.
use Rattle.std.proofs.Common.{◌≡◌, ℕ, zero, suc, ◌+◌, ◌-◌, Bool, true, false, cond, List, [], ◌∷◌, ◌++◌, length, Some, None, Ok, Err, Option, Result, refl, sym, ap₂, ◌∙◌, ◌==◌}
use Rattle.contents.specs.Blocks.{Blocks, bits_in, blocks_of}
use Rattle.contents.specs.Contents.{Position}
use Rattle.calls.specs.Fetch.{fetch_calls, home_page}
use Rattle.calls.specs.Step.{Shows, calls_from, onward, reachable, step_calls, visit_calls, visited}
use Rattle.devices.specs.Meaning.{Meaning}
use Rattle.devices.specs.Step.{Call}
use Rattle.devices.specs.Trace.{Account}
use Rattle.faults.specs.declared.Fault.{Fault}
use Rattle.keys.specs.Hash.{hash}
use Rattle.lookup.proofs.Reading.{reads_append, reads_keep}
use Rattle.lookup.specs.Made.{Made}
use Rattle.lookup.specs.Reads.{lookup_reads, reads}

-- these calls are reads
abbrev OnlyReads : List Call → Type 0
OnlyReads calls = (ns : List ℕ) × (calls ≡ reads ns)

no_reads : OnlyReads []
no_reads = ([], refl)

reads_then : (cs ds : List Call) → OnlyReads cs → OnlyReads ds → OnlyReads (cs ++ ds)
reads_then cs ds a b = (a.0 ++ b.0, ap₂ (λ (x y : List Call). x ++ y) a.1 b.1 ∙ sym (reads_append a.0 b.0))

reads_of : (b : Bool) (cs ds : List Call) → OnlyReads cs → OnlyReads ds → OnlyReads (cond b cs ds)
reads_of true cs ds a c = a
reads_of false cs ds a c = c

reads_on : (v : Result (Option Shows) Fault) (rest : List Call) → OnlyReads rest → OnlyReads (onward v (λ _. []) (λ _. []) rest)
reads_on (Ok None) rest a = a
reads_on (Ok (Some s)) rest a = no_reads
reads_on (Err f) rest a = no_reads

module _ (blocks : Blocks) where
  lookup_then : (h : ℕ) (ns : List ℕ) → OnlyReads (reads (lookup_reads (bits_in blocks) h) ++ reads ns)
  lookup_then h ns = reads_then (reads (lookup_reads (bits_in blocks) h)) (reads ns) (lookup_reads (bits_in blocks) h, refl) (ns, refl)

  fetch_reads : (key : List ℕ) (size : ℕ) → OnlyReads (fetch_calls blocks key size)
  fetch_reads key size =
      reads_of (length key == 0) [] _ no_reads (reads_of (size == 1024) _ [] (lookup_then (hash key) ((4 + home_page blocks key) ∷ [])) no_reads)

  visit_reads : (p : ℕ) → OnlyReads (visit_calls blocks p)
  visit_reads p =
      reads_then (reads (lookup_reads (bits_in blocks) p)) _ (lookup_reads (bits_in blocks) p, refl)
      (reads_of (reachable blocks p) _ [] ((4 + p) ∷ [], refl) no_reads)

  visits_read : (k p n : ℕ) → OnlyReads (calls_from blocks k p n)
  visits_read zero p n = no_reads
  visits_read (suc k) p n = reads_then (visit_calls blocks p) _ (visit_reads p) (reads_on (visited blocks p n) _ (visits_read k (suc p) 0))

  step_reads : (at : Position) (size : ℕ) → OnlyReads (step_calls blocks at size)
  unfolding step_calls
  step_reads at size = reads_of (size == 1024) _ [] (visits_read (32768 - at.0) at.0 at.1) no_reads

module _ {S X : Type 0} (steps : Account S) (M : S → Meaning) (d e : S) (own : Blocks → Result X Fault) (r : Result X Fault) where
  pub fetch_keeps : (key : List ℕ) (size : ℕ) → Made steps M d (λ blocks. fetch_calls blocks key size) own r e → blocks_of (M e) ≡ blocks_of (M d)
  fetch_keeps key size made =
      let only = fetch_reads (blocks_of (M d)) key size in
      reads_keep steps M only.0 d e (own (blocks_of (M d))) r (rw only.1 at made)

  pub step_keeps : (at : Position) (size : ℕ) → Made steps M d (λ blocks. step_calls blocks at size) own r e → blocks_of (M e) ≡ blocks_of (M d)
  step_keeps at size made =
      let only = step_reads (blocks_of (M d)) at size in
      reads_keep steps M only.0 d e (own (blocks_of (M d))) r (rw only.1 at made)
