-- The claims and the writes of a store's splits, one split after another.
use Rattle.std.proofs.Common.{◌≡◌, ℕ, suc, ◌+◌, ◌*◌, ◌/◌, ◌%◌, ◌^◌, ◌<◌, List, [], ◌∷◌, length, set, Ok, Err, Result, inl, inr, sym, ap, subst, ◌∙◌, ⊎_elim, add-one, one-mul, mod-eq_of_lt, get_or-set_same, get_or-set_other, arith}
use lib.Pow.{pow-lt}
use Rattle.contents.specs.Blocks.{Blocks}
use Rattle.calls.proofs.Marks.{bit_within, marked}
use Rattle.splits.proofs.Splits.{put_here, put_other}
use Rattle.calls.specs.Store.{Slots, slot, split_claims, split_write, split_writes, with_bit}
use Rattle.devices.proofs.Traces.{last_call, trace_stop, trace_then}
use Rattle.devices.specs.Step.{Call, claim, write}
use Rattle.devices.specs.Trace.{Trace}
use Rattle.directory.proofs.Lookups.{node_lt}
use Rattle.directory.specs.Tree.{low, node}
use Rattle.directory.specs.declared.Leaf.{Leaf}
use Rattle.faults.specs.declared.Fault.{Fault}
use Rattle.lookup.proofs.Reading.{first_then}
use Rattle.page_edits.specs.Edit.{falling}
use Rattle.page_edits.specs.Write.{written}
use Rattle.pages.specs.Page.{Pair}
use Rattle.std.proofs.lemmas.Bool.{cases_eq}

-- where a lookup of h stands at depth t
abbrev pub leaf_at : ℕ → ℕ → Leaf
leaf_at h t = record { index = node h t; depth = t; page = low h t }

-- the upper page of a split, as code computes it
abbrev pub upper_page : Leaf → ℕ
upper_page leaf = leaf.page + 1 * 2 ^ leaf.depth % 4294967296

module _ (h t : ℕ) (leaf : Leaf) (at : leaf ≡ leaf_at h t) (deep : t < 15) where
  upper_is : upper_page leaf ≡ low h t + 2 ^ t
  upper_is =
      let power : 1 * 2 ^ t % 4294967296 ≡ 2 ^ t = ap (λ (x : ℕ). x % 4294967296) (one-mul (2 ^ t)) ∙ mod-eq_of_lt (pow-lt {j = 32} (omega arith)) in
      ap upper_page at ∙ ap (λ (x : ℕ). low h t + x) power

  block_is : leaf.index / 8192 ≡ node h t / 8192
  block_is = ap (λ (l : Leaf). l.index / 8192) at

  -- a bit that a split sets is in one of the four directory blocks
  pub block_within : leaf.index / 8192 < 4
  block_within = omega (arith, block_is, node_lt h t deep)

-- the claims of the next split
module _ {S : Type 0} (did : S → Call → Result Unit Fault → S → Type 0) (h t s n : ℕ) (one : s ≡ suc n) (leaf : Leaf) (at : leaf ≡ leaf_at h t) (deep : t < 15) where
  abbrev upper : ℕ
  upper = 4 + leaf.page + 1 * 2 ^ leaf.depth % 4294967296

  abbrev Claims : ℕ → S → ℕ → Result Unit Fault → S → Type 0
  Claims from d left r e = Trace {X = Unit} did d (split_claims h from left) (Ok tt) r e

  number_is : upper ≡ 4 + (low h t + 2 ^ t)
  number_is = omega (arith, upper_is h t leaf at deep)

  pub upper_refused : (d e : S) (f : Fault) → did d (claim upper) (Err f) e → Claims t d s (Err f) e
  upper_refused d e f x =
      subst (λ (k : ℕ). Claims t d k (Err f) e) (sym one) (inl (subst (λ (k : ℕ). did d (claim k) (Err f) e) number_is x))

  pub block_refused : (d m e : S) (f : Fault) → did d (claim upper) (Ok tt) m → did m (claim (leaf.index / 8192)) (Err f) e → Claims t d s (Err f) e
  block_refused d m e f x y =
      subst (λ (k : ℕ). Claims t d k (Err f) e) (sym one)
      (inr (
        m,
        subst (λ (k : ℕ). did d (claim k) (Ok tt) m) number_is x,
        inl (subst (λ (k : ℕ). did m (claim k) (Err f) e) (block_is h t leaf at deep) y),
      ))

  pub claims_next : (d m o e : S) (r : Result Unit Fault) → did d (claim upper) (Ok tt) m → did m (claim (leaf.index / 8192)) (Ok tt) o → Claims (suc t) o n r e → Claims t d s r e
  claims_next d m o e r x y left =
      let rest = split_claims h (suc t) n in
      subst (λ (k : ℕ). Claims t d k r e) (sym one)
      (first_then did (claim (4 + (low h t + 2 ^ t))) (claim (node h t / 8192) ∷ rest) d m e (Ok tt) r
      (subst (λ (k : ℕ). did d (claim k) (Ok tt) m) number_is x)
      (first_then did (claim (node h t / 8192)) rest m o e (Ok tt) r (subst (λ (k : ℕ). did m (claim k) (Ok tt) o) (block_is h t leaf at deep) y) left))

-- the three writes of a split, as code makes them
module _ (blocks : Blocks) (pairs : List Pair) (h t : ℕ) (leaf : Leaf) (at : leaf ≡ leaf_at h t) (deep : t < 15) where
  abbrev half : ℕ → ℕ → List ℕ
  half bits p = written (falling bits p pairs)

  depth_is : leaf.depth + 1 ≡ suc t
  depth_is = ap (λ (l : Leaf). l.depth + 1) at ∙ add-one t

  upper_write : (bytes : List ℕ) → bytes ≡ half (leaf.depth + 1) (upper_page leaf) → write (4 + upper_page leaf) bytes ≡ write (4 + (low h t + 2 ^ t)) (half (suc t) (low h t + 2 ^ t))
  upper_write bytes is =
      ap (write (4 + upper_page leaf)) (is ∙ ap (λ (k : ℕ). half k (upper_page leaf)) depth_is)
      ∙ ap (λ (p : ℕ). write (4 + p) (half (suc t) p)) (upper_is h t leaf at deep)

  block_write : (bytes : List ℕ) → bytes ≡ with_bit (blocks (leaf.index / 8192)) (leaf.index % 8192)
      → write (leaf.index / 8192) bytes ≡ write (node h t / 8192) (with_bit (blocks (node h t / 8192)) (node h t))
  block_write bytes is =
      ap (write (leaf.index / 8192)) (is ∙ bit_within (blocks (leaf.index / 8192)) leaf.index)
      ∙ ap (λ (l : Leaf). write (l.index / 8192) (with_bit (blocks (l.index / 8192)) l.index)) at

  lower_write : (bytes : List ℕ) → bytes ≡ half (leaf.depth + 1) leaf.page → write (4 + leaf.page) bytes ≡ write (4 + low h t) (half (suc t) (low h t))
  lower_write bytes is =
      ap (write (4 + leaf.page)) (is ∙ ap (λ (k : ℕ). half k leaf.page) depth_is)
      ∙ ap (λ (l : Leaf). write (4 + l.page) (half (suc t) l.page)) at

  module _ {S : Type 0} (did : S → Call → Result Unit Fault → S → Type 0) (high block least : List ℕ)
      (high_is : high ≡ half (leaf.depth + 1) (upper_page leaf))
      (bit_is : block ≡ with_bit (blocks (leaf.index / 8192)) (leaf.index % 8192))
      (least_is : least ≡ half (leaf.depth + 1) leaf.page) where
    pub split_made : (d m o e : S) (r : Result Unit Fault)
        → did d (write (4 + upper_page leaf) high) (Ok tt) m
        → did m (write (leaf.index / 8192) block) (Ok tt) o
        → did o (write (4 + leaf.page) least) r e
        → Trace {X = Unit} did d (split_write blocks pairs h t) (Ok tt) r e
    split_made d m o e r x y z =
        let first = write (4 + (low h t + 2 ^ t)) (half (suc t) (low h t + 2 ^ t)) in
        let second = write (node h t / 8192) (with_bit (blocks (node h t / 8192)) (node h t)) in
        let third = write (4 + low h t) (half (suc t) (low h t)) in
        first_then did first (second ∷ third ∷ []) d m e (Ok tt) r (subst (λ (c : Call). did d c (Ok tt) m) (upper_write high high_is) x)
        (first_then did second (third ∷ []) m o e (Ok tt) r (subst (λ (c : Call). did m c (Ok tt) o) (block_write block bit_is) y)
        (last_call did third o e r (subst (λ (c : Call). did o c r e) (lower_write least least_is) z)))

-- a split of blocks whose one directory block is in its slot
module _ (now : Blocks) (h t : ℕ) (directory : List (List ℕ)) (same : Slots now directory (node h t / 8192)) where
  split_same : (pairs : List Pair) → split_write (slot directory) pairs h t ≡ split_write now pairs h t
  split_same pairs =
      ap
      (λ (block : List ℕ).
      write (4 + (low h t + 2 ^ t)) (written (falling (suc t) (low h t + 2 ^ t) pairs))
      ∷ write (node h t / 8192) (with_bit block (node h t))
      ∷ write (4 + low h t) (written (falling (suc t) (low h t) pairs))
      ∷ [])
      same

  -- slots that had their blocks have them afterwards
  pub slots_set : (new : List (List ℕ)) → new ≡ set directory (node h t / 8192) (with_bit (slot directory (node h t / 8192)) (node h t)) → node h t / 8192 < length directory
      → (k : ℕ) → Slots now directory k → Slots (marked now (node h t)) new k
  slots_set new is within k had = ap (λ (d : List (List ℕ)). slot d k) at ∙ ⊎_elim here other (cases_eq k b)
    where
      b : ℕ
      b = node h t / 8192

      block : List ℕ
      block = with_bit (now b) (node h t)

      at : new ≡ set directory b block
      at = is ∙ ap (λ (bytes : List ℕ). set directory b (with_bit bytes (node h t))) same

      here : k ≡ b → slot (set directory b block) k ≡ marked now (node h t) k
      here e = ap (slot (set directory b block)) e ∙ get_or-set_same directory b block [] within ∙ sym (put_here now b block k e)

      other : (k ≡ b → ⊥) → slot (set directory b block) k ≡ marked now (node h t) k
      other n = get_or-set_other directory b k block [] n ∙ had ∙ sym (put_other now b block k n)

  -- the writes of the next split, and then the others
  module _ {S : Type 0} (did : S → Call → Result Unit Fault → S → Type 0) (pairs : List Pair) (s n : ℕ) (one : s ≡ suc n) where
    abbrev One : S → Result Unit Fault → S → Type 0
    One d r e = Trace {X = Unit} did d (split_write (slot directory) pairs h t) (Ok tt) r e

    abbrev Writes : Blocks → ℕ → S → ℕ → Result Unit Fault → S → Type 0
    Writes blocks from d left r e = Trace {X = Unit} did d (split_writes blocks pairs h from left) (Ok tt) r e

    abbrev rest : List Call
    rest = split_writes (marked now (node h t)) pairs h (suc t) n

    pub split_refused : (d e : S) (f : Fault) → One d (Err f) e → Writes now t d s (Err f) e
    split_refused d e f x =
        subst (λ (k : ℕ). Writes now t d k (Err f) e) (sym one)
        (trace_stop did (split_write now pairs h t) rest d e tt (Ok tt) f (subst (λ (cs : List Call). Trace {X = Unit} did d cs (Ok tt) (Err f) e) (split_same pairs) x))

    pub split_next : (d m e : S) (r : Result Unit Fault) → One d (Ok tt) m → Writes (marked now (node h t)) (suc t) m n r e → Writes now t d s r e
    split_next d m e r x left =
        subst (λ (k : ℕ). Writes now t d k r e) (sym one)
        (trace_then did (split_write now pairs h t) rest d m e tt tt (Ok tt) r (subst (λ (cs : List Call). Trace {X = Unit} did d cs (Ok tt) (Ok tt) m) (split_same pairs) x) left)
