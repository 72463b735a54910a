-- The worked cases of a store.
use Rattle.std.proofs.Common.{◌≡◌, ℕ, ◌+◌, ◌*◌, ◌%◌, ◌^◌, ◌<◌, ◌≤◌, ◌||◌, Bool, true, false, cond, eqb, List, [], ◌∷◌, ◌++◌, length, None, Some, Ok, Err, length-set, refl, sym, ap, ap₂, ◌∙◌, subst, arith}
use Rattle.std.proofs.Math.Path.{fun_ext}
use Rattle.calls.specs.Store.{store_calls, stored, with_bit}
use Rattle.calls.specs.declared.Mode.{Mode}
use Rattle.contents.proofs.Held.{contents_bits}
use Rattle.contents.specs.Blocks.{Blocks, bits_in}
use Rattle.contents.specs.Contents.{Contents, contents_of, held}
use Rattle.devices.specs.Meaning.{put}
use Rattle.devices.specs.Step.{Call, claim, fault, read, write}
use Rattle.directory.proofs.Low.{low_fewer}
use Rattle.directory.specs.Tree.{low}
use Rattle.faults.specs.declared.Layer.TheVariants.{Database}
use Rattle.faults.specs.declared.Refusal.TheVariants.{NoPlan}
use Rattle.keys.proofs.Sames.{laws}
use Rattle.keys.specs.Hash.{hash}
use Rattle.keys.specs.Same.{same}
use Rattle.page_edits.proofs.Back.{reads_back}
use Rattle.page_edits.specs.Edit.{dropped, with_pair}
use Rattle.page_edits.specs.Write.{Fits, size, written}
use Rattle.pages.proofs.Pages.{blank_good}
use Rattle.pages.specs.Page.{Pair, look}
use Rattle.splits.proofs.Plans.{plan_none, plan_some}
use Rattle.splits.proofs.Rooms.{fits_none}
use Rattle.splits.specs.Plan.{fits_at, has_room, plan}
use Rattle.splits.specs.Writes.{all_made, made, others, to_bit, to_page}
use Rattle.std.proofs.lemmas.Bool.{cond-false, cond-true, eq-eqb, le-leb, lt-leb, ne_eqb}
use Rattle.std.proofs.lemmas.List.{length-replicate}
use Rattle.upkeep.proofs.Clear.{by_plan, no_page, no_plan, none_set}
use Rattle.upkeep.proofs.Holds.{bits_blank, blank_page, pages_blank}
use Rattle.calls.proofs.Marks.{contents_marked, contents_written, marked}
use Rattle.upkeep.specs.Cases.{StoreCases, TwoStores, alone, blocks_after, claimed, key_a, key_c, key_like_a}
use Rattle.upkeep.specs.Holding.{BlankBlocks}

-- the hashes, and which keys are the same

hash_a : hash key_a ≡ 97
unfolding hash
hash_a = refl

hash_c : hash key_c ≡ 99
unfolding hash
hash_c = refl

hash_like_a : hash key_like_a ≡ 65633
unfolding hash
hash_like_a = refl

not_c : same key_a key_c ≡ false
unfolding same
not_c = refl

not_like_a : same key_a key_like_a ≡ false
unfolding same
not_like_a = refl

-- room for a pair, and none for two

fits_alone : (key value : List ℕ) → 0 < length key → length key + length value ≤ 1008 → Fits (alone key value)
fits_alone key value named short = record { named = (named, tt); apart = λ i j h. absurd (omega arith); room = omega arith }

module _ (v : List ℕ) (long : length v ≡ 600) where
  room_one : (key : List ℕ) → length key ≤ 2 → has_room (alone key v) ≡ true
  room_one key k = le-leb (2 + (4 * 1 + size (alone key v))) 1024 (omega arith)

  room_two : (key other w : List ℕ) → length w ≡ 600 → has_room ((key, v) ∷ (other, w) ∷ []) ≡ false
  room_two key other w e = lt-leb (2 + (4 * 2 + size ((key, v) ∷ (other, w) ∷ []))) 1024 (omega arith)

-- what of a page with `a` alone falls to a page, and what of that stays beside a key

module _ (v : List ℕ) where
  abbrev only : List Pair
  only = alone key_a v

  abbrev where_same : ℕ → ℕ → ℕ → List Pair
  where_same h t x = cond (eqb (h % 2 ^ t) x) only []

  module _ (key : List ℕ) (other : same key_a key ≡ false) (g : ℕ) (hashed : hash key ≡ g) where
    beside : (t : ℕ) → others only key t ≡ where_same 97 t (low g t)
    beside t = drops ∙ ap (λ (h : ℕ). where_same h t (low (hash key) t)) hash_a ∙ ap (λ (h : ℕ). where_same 97 t (low h t)) hashed
      where
        dropped_no : (b : Bool) → dropped key (cond b only []) ≡ cond b only []
        dropped_no true = rw other refl
        dropped_no false = refl

        drops : others only key t ≡ where_same (hash key_a) t (low (hash key) t)
        drops = dropped_no (eqb (hash key_a % 2 ^ t) (low (hash key) t))

    -- where the low bits agree there is no room beside `a`, and where they do not the page is free
    module _ (w : List ℕ) (wide : length v ≡ 600) (long : length w ≡ 600) (t : ℕ) where
      crowded : 97 % 2 ^ t ≡ low g t → fits_at only key w t ≡ false
      crowded e =
          ap (λ (ps : List Pair). has_room (with_pair ps key w)) (beside t ∙ cond-true (eqb (97 % 2 ^ t) (low g t)) only [] (eq-eqb (97 % 2 ^ t) (low g t) e))
          ∙ room_two v wide key_a key w long

      free : length key ≤ 2 → (97 % 2 ^ t ≡ low g t → ⊥) → fits_at only key w t ≡ true
      free k n =
          ap (λ (ps : List Pair). has_room (with_pair ps key w)) (beside t ∙ cond-false (eqb (97 % 2 ^ t) (low g t)) only [] (ne_eqb (97 % 2 ^ t) (low g t) n))
          ∙ room_one w long key k

-- the plans

module _ (v w : List ℕ) (wide : length v ≡ 600) (long : length w ≡ 600) where
  plan_a : Some 0 ≡ plan [] key_a v 0
  plan_a = plan_some [] key_a v 0 10 refl 0 (omega arith) (room_one v wide key_a (omega arith)) (λ r l. absurd (omega arith))

  plan_c : Some 2 ≡ plan (only v) key_c w 0
  plan_c =
      plan_some (only v) key_c w 0 10 refl 2 (omega arith) (free v key_c not_c 99 hash_c w wide long 2 (omega arith) (λ e. omega (arith, e)))
      (λ r l. crowded v key_c not_c 99 hash_c w wide long (0 + r) (low_fewer 97 99 (0 + r) 1 (omega arith) refl))

  plan_like_a : None ≡ plan (only v) key_like_a w 0
  plan_like_a =
      plan_none (only v) key_like_a w 0 10 refl
      (λ s l. crowded v key_like_a not_like_a 65633 hash_like_a w wide long (0 + s) (low_fewer 97 65633 (0 + s) 16 (omega arith) refl))

-- what is held after all

module _ (va vc : List Pair) where
  abbrev all_changes : Contents → Contents
  all_changes c =
      all_made
      (to_page 1 va ∷ to_bit 0 ∷ to_page 0 [] ∷ to_page 3 [] ∷ to_bit 2 ∷ to_page 1 va ∷ to_page 3 vc ∷ [])
      (made (to_page 0 va) c)

  abbrev in_the_end : Contents
  in_the_end = record { bits = λ i. eqb i 0 || eqb i 2; pages = put (put (λ _. []) 1 va) 3 vc }

  abbrev empty : Contents
  empty = record { bits = none_set; pages = λ _. [] }

  two_bits : (x y : Bool) → cond y true (cond x true false) ≡ (x || y)
  two_bits true true = refl
  two_bits true false = refl
  two_bits false true = refl
  two_bits false false = refl

  four_pages : (x y z : Bool) → cond z vc (cond y va (cond z [] (cond x [] (cond y va (cond x va []))))) ≡ cond z vc (cond y va [])
  four_pages x y true = refl
  four_pages x true false = refl
  four_pages true false false = refl
  four_pages false false false = refl

  ends_so : all_changes empty ≡ in_the_end
  ends_so =
      ap₂ {C = Contents} (λ (bits : ℕ → Bool) (pages : ℕ → List Pair). record { bits = bits; pages = pages })
      (fun_ext (λ i. two_bits (eqb i 0) (eqb i 2)))
      (fun_ext (λ q. four_pages (eqb q 0) (eqb q 1) (eqb q 3)))

-- the stores

module _ (blank : Blocks) (v w : List ℕ) (mode : Mode) (zeros : BlankBlocks blank) (wide : length v ≡ 600) (long : length w ≡ 600) where
  abbrev pa : List Pair
  pa = alone key_a v

  abbrev pc : List Pair
  pc = alone key_c w

  fits_a : Fits pa
  fits_a = fits_alone key_a v (omega arith) (omega arith)

  fits_c : Fits pc
  fits_c = fits_alone key_c w (omega arith) (omega arith)

  clear : bits_in blank ≡ none_set
  clear = fun_ext (bits_blank blank zeros)

  nothing : contents_of blank ≡ empty pa pc
  nothing =
      ap₂ {C = Contents} (λ (bits : ℕ → Bool) (pages : ℕ → List Pair). record { bits = bits; pages = pages })
      (contents_bits blank ∙ clear) (fun_ext (pages_blank blank zeros))

  -- the first store
  first : (stored blank key_a v mode ≡ Ok tt) × (store_calls blank key_a v mode ≡ read 0 1024 ∷ read 4 1024 ∷ claim 4 ∷ write 4 (written pa) ∷ [])
  first =
      by_plan blank key_a v mode clear [] (blank_good (blank 4) (zeros 4)) (blank_page (blank 4) (zeros 4)) refl refl (le-leb (1 + length v) 1008 (omega arith)) 0 97
      hash_a (plan_a v w wide long)

  -- the blocks after it

  abbrev blocks : Blocks
  blocks = put blank 4 (written pa)

  has_a : contents_of blocks ≡ made (to_page 0 pa) (empty pa pc)
  has_a = contents_written blank 0 pa fits_a ∙ ap (made (to_page 0 pa)) nothing

  still_clear : bits_in blocks ≡ none_set
  still_clear = sym (contents_bits blocks) ∙ ap (λ (c : Contents). c.bits) has_a

  no_other : (key : List ℕ) → same key_a key ≡ false → look key pa ≡ None
  no_other key other = rw other refl

  -- the calls of the second store, by the hash of `a` and directory block 0
  abbrev two_splits : ℕ → List ℕ → List Pair → List Call
  two_splits h directory new =
      read 0 1024 ∷ read 4 1024 ∷ claim 4 ∷ claim 5 ∷ claim 0 ∷ claim 7 ∷ claim 0
      ∷ write 5 (written (where_same v h 1 1)) ∷ write 0 (with_bit directory 0) ∷ write 4 (written (where_same v h 1 0))
      ∷ write 7 (written (where_same v h 2 3)) ∷ write 0 (with_bit (with_bit directory 0) 2) ∷ write 5 (written (where_same v h 2 1))
      ∷ write 7 (written new)
      ∷ []

  second : (stored blocks key_c w mode ≡ Ok tt) × (store_calls blocks key_c w mode ≡ two_splits 97 (blank 0) pc)
  second =
      let found = by_plan blocks key_c w mode still_clear pa (reads_back pa fits_a).0 (reads_back pa fits_a).1 (no_other key_c not_c) refl (le-leb (1 + length w) 1008 (omega arith)) 2 99 hash_c (plan_c v w wide long) in (
        found.0,
        found.1
            ∙ ap (λ (ps : List Pair). two_splits (hash key_a) (blank 0) (with_pair ps key_c w)) (beside v key_c not_c 99 hash_c 2)
            ∙ ap (λ (h : ℕ). two_splits h (blank 0) pc) hash_a,
      )

  second_contents : contents_of (blocks_after (two_splits 97 (blank 0) pc) blocks) ≡ in_the_end pa pc
  second_contents =
      let b2 : Blocks = put blocks 5 (written pa) in
      let b3 : Blocks = marked b2 0 in
      let b4 : Blocks = put b3 4 (written []) in
      let b5 : Blocks = put b4 7 (written []) in
      let b6 : Blocks = marked b5 2 in
      let b7 : Blocks = put b6 5 (written pa) in
      let whole : length (blank 0) ≡ 1024 = ap length (zeros 0) ∙ length-replicate {A = ℕ} 1024 0 in
      contents_written b7 3 pc fits_c
      ∙ ap (made (to_page 3 pc)) (contents_written b6 1 pa fits_a)
      ∙ ap (all_made (to_page 1 pa ∷ to_page 3 pc ∷ [])) (contents_marked b5 2 (omega arith) (length-set _ _ _ ∙ whole))
      ∙ ap (all_made (to_bit 2 ∷ to_page 1 pa ∷ to_page 3 pc ∷ [])) (contents_written b4 3 [] fits_none)
      ∙ ap (all_made (to_page 3 [] ∷ to_bit 2 ∷ to_page 1 pa ∷ to_page 3 pc ∷ [])) (contents_written b3 0 [] fits_none)
      ∙ ap (all_made (to_page 0 [] ∷ to_page 3 [] ∷ to_bit 2 ∷ to_page 1 pa ∷ to_page 3 pc ∷ [])) (contents_marked b2 0 (omega arith) whole)
      ∙ ap (all_made (to_bit 0 ∷ to_page 0 [] ∷ to_page 3 [] ∷ to_bit 2 ∷ to_page 1 pa ∷ to_page 3 pc ∷ [])) (contents_written blocks 1 pa fits_a)
      ∙ ap (all_made (to_page 1 pa ∷ to_bit 0 ∷ to_page 0 [] ∷ to_page 3 [] ∷ to_bit 2 ∷ to_page 1 pa ∷ to_page 3 pc ∷ [])) has_a
      ∙ ends_so pa pc

  -- the one that is refused
  refused : (stored blocks key_like_a w mode ≡ Err (fault NoPlan Database 4)) × (store_calls blocks key_like_a w mode ≡ read 0 1024 ∷ read 4 1024 ∷ [])
  refused =
      no_plan blocks key_like_a w mode still_clear pa (reads_back pa fits_a).0 (reads_back pa fits_a).1 (no_other key_like_a not_like_a) refl (le-leb (2 + length w) 1008 (omega arith))
      (plan_like_a v w wide long)

  kept : held (contents_of blocks) key_a ≡ Some (key_a, v)
  kept =
      ap (λ (c : Contents). held c key_a) has_a
      ∙ ap (λ (p : ℕ). look key_a (put (λ _. []) 0 pa p)) (no_page (hash key_a))
      ∙ rw (laws.reflexive key_a) refl

  two_stores : TwoStores blank blocks v w mode
  two_stores = record {
    first = first.0;
    first_calls = first.1;
    second = second.0;
    second_calls = second.1 ∙ ap (λ (directory : List ℕ). two_splits 97 directory pc) (zeros 0);
    claims = ap₂ (λ (cs ds : List Call). claimed (cs ++ ds)) first.1 second.1;
    contents = ap (λ (cs : List Call). contents_of (blocks_after cs blocks)) second.1 ∙ second_contents;
    refused = refused.0;
    refused_calls = refused.1;
    kept = ap (λ (cs : List Call). held (contents_of (blocks_after cs blocks)) key_a) refused.1 ∙ kept;
  }

pub cases : StoreCases
cases = record {
  hash_a = hash_a;
  hash_c = hash_c;
  hash_like_a = hash_like_a;
  stores = λ blank v w mode zeros wide long.
      let e : blocks_after (store_calls blank key_a v mode) blank ≡ put blank 4 (written (alone key_a v))
      = ap (λ (cs : List Call). blocks_after cs blank) (first blank v w mode zeros wide long).1 in
      subst (λ (b : Blocks). TwoStores blank b v w mode) (sym e) (two_stores blank v w mode zeros wide long);
}
