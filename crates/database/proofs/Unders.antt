-- What a store knows of its directory slots, and of the bits that it tests under those it would set.
use Rattle.std.proofs.Common.{◌≡◌, ℕ, suc, ◌+◌, ◌-◌, ◌*◌, ◌/◌, ◌<◌, ◌≤◌, min, Bool, true, false, cond, ◌||◌, List, [], ◌∷◌, ◌++◌, map, length, set, get_or-set_same, get_or-set_other, Some, None, Ok, Err, OnOk, Option, Result, refl, sym, ap, subst, ◌∙◌, ⊎_elim, append_assoc, arith}
use Rattle.contents.specs.Blocks.{Blocks, bits_in, block_count, blocks_of}
use Rattle.calls.specs.Store.{Slots, bits_under, clear_pair, slot, up_to}
use Rattle.devices.proofs.Traces.{trace_stop, trace_then}
use Rattle.devices.specs.Meaning.{Meaning}
use Rattle.devices.specs.Step.{Call, Filled, fault, read}
use Rattle.devices.specs.Trace.{Account, Did, Trace}
use Rattle.directory.specs.Tree.{bit, node}
use Rattle.directory.specs.declared.Leaf.{Leaf}
use Rattle.directory.proofs.Lookups.{node_lt}
use Rattle.faults.specs.declared.Fault.{Fault}
use Rattle.faults.specs.declared.Layer.TheVariants.{Database}
use Rattle.faults.specs.declared.Refusal.TheVariants.{BitBelow}
use Rattle.lookup.proofs.Reading.{answer_is, block_shown, go_on, own_answer, reads_append, reads_keep, stop}
use Rattle.lookup.specs.Reads.{another, blocks_of_bits, reads}
use Rattle.std.proofs.lemmas.Bool.{cases_eq}
use Rattle.std.proofs.lemmas.List.{set-get_or}
use Rattle.std.specs.List.{find, flat_map, range_with_len}

-- a block that was read into its slot, and the other slots
module _ {S : Type 0} (steps : Account S) (M : S → Meaning) (d e : S) (n size : ℕ) (directory : List (List ℕ)) (new : List ℕ) (inside : n < length directory) (own : n < block_count) where
  pub slot_read : (r : Result Unit Fault) → Did steps M d (read n size) r e → Filled (M d) n r (slot directory n) new → OnOk r (Slots (blocks_of (M d)) (set directory n new) n)
  slot_read (Ok u) did is = get_or-set_same directory n new [] inside ∙ is ∙ sym (block_shown (M d) n own did.1.range)
  slot_read (Err f) did is = tt

  pub slots_kept : (r : Result Unit Fault) → Did steps M d (read n size) r e → Filled (M d) n r (slot directory n) new
      → (b : ℕ) → Slots (blocks_of (M d)) directory b → Slots (blocks_of (M d)) (set directory n new) b
  slots_kept (Ok u) did is b there =
      ⊎_elim
      (λ (same : b ≡ n). subst (Slots (blocks_of (M d)) (set directory n new)) (sym same) (slot_read (Ok u) did is))
      (λ other. get_or-set_other directory n b new [] other ∙ there)
      (cases_eq b n)
  slots_kept (Err f) did is b there =
      ap (λ (block : List ℕ). slot (set directory n block) b) is ∙ ap (λ (all : List (List ℕ)). slot all b) (set-get_or directory n []) ∙ there

-- the two bits under bit i
abbrev pub first : ℕ → ℕ
first i = 2 * i + 1

abbrev pub second : ℕ → ℕ
second i = 2 * i + 2

-- the bits under those on a way
below : ℕ → List ℕ → List ℕ
below h ts = flat_map (λ i. first i ∷ second i ∷ []) (map (node h) ts)

-- of s splits from depth t on, k are done
module _ (h t s k : ℕ) where
  -- those under the next bit come first
  pub under_next : (i : ℕ) → i ≡ node h (t + k) → k < s → t + k < 14 → bits_under h (t + k) (s - k) ≡ first i ∷ second i ∷ bits_under h (t + (k + 1)) (s - (k + 1))
  unfolding below
  under_next i at l deep =
      let more : min (s - k) (14 - (t + k)) ≡ suc (min (s - (k + 1)) (14 - (t + (k + 1)))) = omega arith in
      let next : t + k + 1 ≡ t + (k + 1) = omega arith in
      ap (λ (n : ℕ). below h (range_with_len (t + k) n)) more
      ∙ ap (λ (n : ℕ). first n ∷ second n ∷ below h (range_with_len (t + k + 1) (min (s - (k + 1)) (14 - (t + (k + 1)))))) (sym at)
      ∙ ap (λ (n : ℕ). first i ∷ second i ∷ below h (range_with_len n (min (s - (k + 1)) (14 - (t + (k + 1)))))) next

  -- and where none is left there are no bits
  pub under_none : min s (14 - t) ≤ k → bits_under h (t + k) (s - k) ≡ []
  unfolding below
  under_none l =
      let none : min (s - k) (14 - (t + k)) ≡ 0 = omega arith in
      ap (λ (n : ℕ). below h (range_with_len (t + k) n)) none

-- the bit where a way is, and the room for those under it at a depth below 14
module _ (leaf : Leaf) (hash depth page : ℕ) (is : leaf ≡ record { index = node hash depth; depth = depth; page = page }) where
  pub leaf_on : {h t : ℕ} → hash ≡ h → depth ≡ t → leaf.index ≡ node h t
  leaf_on {h} hash_is depth_is = ap (λ (l : Leaf). l.index) is ∙ ap (λ (n : ℕ). node n depth) hash_is ∙ ap (node h) depth_is

  pub leaf_lt : depth < 14 → second leaf.index < 32767
  leaf_lt l = omega (arith, ap (λ (l : Leaf). l.index) is, node_lt hash (suc depth) (omega arith))

-- the next bit on the way is one of the two
pub next_one : (P : ℕ → Type 0) (h t i : ℕ) → i ≡ node h t → P (first i / 8192) → P (second i / 8192) → P (node h (suc t) / 8192)
next_one P h t i at one two =
    ⊎_elim
    (λ (z : bit h t ≡ 0). let e : first i ≡ node h (suc t) = omega arith in subst (λ (n : ℕ). P (n / 8192)) e one)
    (λ z. let e : second i ≡ node h (suc t) = omega arith in subst (λ (n : ℕ). P (n / 8192)) e two)
    (cases_eq (bit h t) 0)

-- the answer where a bit is found to be set, or none
abbrev pub answer : Option ℕ → Result Unit Fault
answer found = elim found as (λ _. Result Unit Fault) [ Some i ↦ Err (fault BitBelow Database ((i - 1) / 2 / 8192)) | None ↦ Ok tt ]

-- the reads where they are tested, and then others
abbrev pub tested : (ℕ → Bool) → ℕ → ℕ → List ℕ → List Call
tested bits last i is = reads (blocks_of_bits last (up_to bits (first i ∷ second i ∷ is)))

abbrev pub set_below : ℕ → Result Unit Fault
set_below i = Err (fault BitBelow Database (i / 8192))

-- the first one was tested, by calls from d to m
module _ {S : Type 0} (steps : Account S) (M : S → Meaning) (last i : ℕ) (d m : S) (y : Bool) where
  abbrev did : S → Call → Result Unit Fault → S → Type 0
  did = Did steps M

  abbrev bits : ℕ → Bool
  bits = bits_in (blocks_of (M d))

  module _ (t : Trace did d (reads (another last (first i / 8192))) (Ok (bits (first i))) (Ok y) m) where
    same : blocks_of (M m) ≡ blocks_of (M d)
    same = reads_keep steps M (another last (first i / 8192)) d m (Ok (bits (first i))) (Ok y) t

    pub slot_then : (directory : List (List ℕ)) (b : ℕ) → Slots (blocks_of (M d)) directory b → Slots (blocks_of (M m)) directory b
    slot_then directory b = subst (λ (blocks : Blocks). Slots blocks directory b) (sym same)

    pub slot_before : (directory : List (List ℕ)) (b : ℕ) → Slots (blocks_of (M m)) directory b → Slots (blocks_of (M d)) directory b
    slot_before directory b = subst (λ (blocks : Blocks). Slots blocks directory b) same

    pub kept_both : (before between after : List (List ℕ)) → ((b : ℕ) → Slots (blocks_of (M d)) before b → Slots (blocks_of (M d)) between b) → ((b : ℕ) → Slots (blocks_of (M m)) between b → Slots (blocks_of (M m)) after b)
        → (b : ℕ) → Slots (blocks_of (M d)) before b → Slots (blocks_of (M d)) after b
    kept_both before between after first_kept then_kept b there = slot_before after b (then_kept b (slot_then between b (first_kept b there)))

    -- it is clear, and so the second one is tested, by calls from m to e
    module _ (clear : y ≡ false) (e : S) where
      off : bits (first i) ≡ false
      off = sym (answer_is (own_answer did (reads (another last (first i / 8192))) d m y (Ok (bits (first i))) t)) ∙ clear

      abbrev there : Result Bool Fault
      there = Ok (bits_in (blocks_of (M m)) (second i))

      abbrev rest : List ℕ
      rest = cond (bits (second i)) [] []

      with_first : (r : Result Unit Fault) → Trace did m (reads (blocks_of_bits (first i / 8192) (second i ∷ rest))) (clear_pair bits i) r e → Trace did d (tested bits last i []) (clear_pair bits i) r e
      with_first r u =
          subst (λ (b : Bool). Trace did d (reads (blocks_of_bits last (first i ∷ cond b [] (second i ∷ rest)))) (clear_pair bits i) r e) (sym off)
          (go_on did last (first i) (second i ∷ rest) d m e (bits (first i)) y (clear_pair bits i) r t u)

      pub pair_stopped : (f : Fault) → Trace did m (reads (another (first i / 8192) (second i / 8192))) there (Err f) e → Trace did d (tested bits last i []) (clear_pair bits i) (Err f) e
      pair_stopped f u = with_first (Err f) (stop did (first i / 8192) (second i) rest m e _ (clear_pair bits i) f u)

      pub pair_answered : (w : Bool) (r : Result Unit Fault) → r ≡ cond w (set_below i) (Ok tt) → Trace did m (reads (another (first i / 8192) (second i / 8192))) there (Ok w) e
          → Trace did d (tested bits last i []) (clear_pair bits i) r e
      pair_answered w r is u =
          with_first r (go_on did (first i / 8192) (second i) rest m e e _ w (clear_pair bits i) r u (nothing (bits (second i))))
        where
          found : w ≡ bits (second i)
          found = answer_is (own_answer did (reads (another (first i / 8192) (second i / 8192))) m e w there u) ∙ ap (λ (blocks : Blocks). bits_in blocks (second i)) same

          own : r ≡ clear_pair bits i
          own = is ∙ ap (λ (b : Bool). cond b (set_below i) (Ok tt)) found ∙ sym (ap (λ (b : Bool). cond (b || bits (second i)) (set_below i) (Ok tt)) off)

          nothing : (b : Bool) → Trace did e (reads (blocks_of_bits (second i / 8192) (cond b [] []))) (clear_pair bits i) r e
          nothing true = (own, refl)
          nothing false = (own, refl)

-- both were tested, and others after them
module _ {S : Type 0} (did : S → Call → Result Unit Fault → S → Type 0) (bits : ℕ → Bool) (last i : ℕ) (is : List ℕ) where
  abbrev pair_blocks : List Call
  pair_blocks = reads (blocks_of_bits last (first i ∷ second i ∷ []))

  abbrev next_blocks : List ℕ → List Call
  next_blocks js = reads (blocks_of_bits (second i / 8192) js)

  two_blocks : (js : List ℕ) → reads (blocks_of_bits last (first i ∷ second i ∷ js)) ≡ pair_blocks ++ next_blocks js
  two_blocks js =
      ap reads (regroup (another last (first i / 8192)) (another (first i / 8192) (second i / 8192)) (blocks_of_bits (second i / 8192) js))
      ∙ reads_append (blocks_of_bits last (first i ∷ second i ∷ [])) (blocks_of_bits (second i / 8192) js)
    where
      regroup : (a b c : List ℕ) → a ++ (b ++ c) ≡ (a ++ (b ++ [])) ++ c
      regroup a b c = simp append_assoc

  named : (j : ℕ) → (j - 1) / 2 ≡ i → set_below i ≡ answer (Some j)
  named j at = ap set_below (sym at)

  -- what is read and answered where their values are v and w
  abbrev calls : Bool → Bool → List ℕ → List Call
  calls v w js = reads (blocks_of_bits last (first i ∷ cond v [] (second i ∷ cond w [] js)))

  abbrev alone : Bool → Bool → Result Unit Fault
  alone v w = cond (v || w) (set_below i) (Ok (tt {0}))

  abbrev of_all : Bool → Bool → Result Unit Fault
  of_all v w = answer (cond v (Some (first i)) (cond w (Some (second i)) (find bits is)))

  pub pair_refused : (d e : S) (f : Fault) → Trace did d (tested bits last i []) (clear_pair bits i) (Err f) e → Trace did d (tested bits last i is) (answer (find bits (first i ∷ second i ∷ is))) (Err f) e
  pair_refused d e f t = go (bits (first i)) (bits (second i)) t
    where
      go : (v w : Bool) → Trace did d (calls v w []) (alone v w) (Err f) e → Trace did d (calls v w (up_to bits is)) (of_all v w) (Err f) e
      go true w t = subst (λ (own : Result Unit Fault). Trace did d (calls true w []) own (Err f) e) (named (first i) (omega arith)) t
      go false true t = subst (λ (own : Result Unit Fault). Trace did d (calls false true []) own (Err f) e) (named (second i) (omega arith)) t
      go false false t =
          subst (λ (cs : List Call). Trace did d cs (answer (find bits is)) (Err f) e) (sym (two_blocks (up_to bits is)))
          (trace_stop did pair_blocks (next_blocks (up_to bits is)) d e tt (answer (find bits is)) f t)

  pub pair_passed : (d m e : S) (r : Result Unit Fault) → Trace did d (tested bits last i []) (clear_pair bits i) (Ok tt) m
      → Trace did m (reads (blocks_of_bits (second i / 8192) (up_to bits is))) (answer (find bits is)) r e
      → Trace did d (tested bits last i is) (answer (find bits (first i ∷ second i ∷ is))) r e
  pair_passed d m e r t u = go (bits (first i)) (bits (second i)) t (own_answer did (tested bits last i []) d m tt (clear_pair bits i) t)
    where
      go : (v w : Bool) → Trace did d (calls v w []) (alone v w) (Ok tt) m → Ok tt ≡ alone v w → Trace did d (calls v w (up_to bits is)) (of_all v w) r e
      go true w t own = absurd (cc)
      go false true t own = absurd (cc)
      go false false t own =
          subst (λ (cs : List Call). Trace did d cs (answer (find bits is)) r e) (sym (two_blocks (up_to bits is)))
          (trace_then did pair_blocks (next_blocks (up_to bits is)) d m e tt tt (answer (find bits is)) r t u)
