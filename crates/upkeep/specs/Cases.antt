-- Two stores one after another on a blank database, worked out. The format's other worked cases stand in page_edits.
use Rattle.std.specs.Prelude.{◌≡◌, ℕ, ◌+◌, not, List, [], ◌∷◌, ◌++◌, length, replicate, filter, Some, Ok, Err, ◌==◌, ◌||◌}
use Rattle.calls.specs.Store.{store_calls, stored}
use Rattle.calls.specs.declared.Mode.{Mode}
use Rattle.contents.specs.Blocks.{Blocks}
use Rattle.contents.specs.Contents.{contents_of, held}
use Rattle.devices.specs.Meaning.{put}
use Rattle.devices.specs.Step.{Call, claim, fault, flush, read, write}
use Rattle.faults.specs.declared.Layer.TheVariants.{Database}
use Rattle.faults.specs.declared.Refusal.TheVariants.{NoPlan}
use Rattle.keys.specs.Hash.{hash}
use Rattle.page_edits.specs.Write.{written}
use Rattle.pages.specs.Page.{Pair}
use Rattle.upkeep.specs.Holding.{BlankBlocks}

-- the keys `a` and `c`, and one whose hash has the same low 16 bits as that of `a`
abbrev pub key_a : List ℕ
key_a = 0x61 ∷ []

abbrev pub key_c : List ℕ
key_c = 0x63 ∷ []

abbrev pub key_like_a : List ℕ
key_like_a = 0x01 ∷ 0x22 ∷ []

-- the one pair of a page
abbrev pub alone : List ℕ → List ℕ → List Pair
alone key value = (key, value) ∷ []

-- the blocks after these calls, where none is refused
abbrev pub blocks_after : List Call → Blocks → Blocks
blocks_after [] blocks = blocks
blocks_after (claim n ∷ cs) blocks = blocks_after cs blocks
blocks_after (read n size ∷ cs) blocks = blocks_after cs blocks
blocks_after (write n bytes ∷ cs) blocks = blocks_after cs (put blocks n bytes)
blocks_after (flush ∷ cs) blocks = blocks_after cs blocks

-- the numbers that these calls claim, each where it is claimed first
abbrev pub claimed : List Call → List ℕ
claimed [] = []
claimed (claim n ∷ cs) = n ∷ filter (λ k. not (k == n)) (claimed cs)
claimed (read n size ∷ cs) = claimed cs
claimed (write n bytes ∷ cs) = claimed cs
claimed (flush ∷ cs) = claimed cs

-- The first store, on blank blocks, is of `a` with a value v. On the blocks after it the second is of `c`, or of the key like `a`,
-- with a value w.
pub record TwoStores (blank blocks : Blocks) (v w : List ℕ) (mode : Mode) : Type 0 where
  pub first : stored blank key_a v mode ≡ Ok tt
  pub first_calls : store_calls blank key_a v mode ≡ read 0 1024 ∷ read 4 1024 ∷ claim 4 ∷ write 4 (written (alone key_a v)) ∷ []
  -- the hashes of `a` and `c` agree in bit 0 and differ in bit 1, so there are two splits
  pub second : stored blocks key_c w mode ≡ Ok tt
  pub second_calls : store_calls blocks key_c w mode
      ≡ read 0 1024 ∷ read 4 1024
      ∷ claim 4 ∷ claim 5 ∷ claim 0 ∷ claim 7 ∷ claim 0
      ∷ write 5 (written (alone key_a v)) ∷ write 0 (0x01 ∷ replicate 1023 0) ∷ write 4 (written [])
      ∷ write 7 (written []) ∷ write 0 (0x05 ∷ replicate 1023 0) ∷ write 5 (written (alone key_a v))
      ∷ write 7 (written (alone key_c w))
      ∷ []
  pub claims : claimed (store_calls blank key_a v mode ++ store_calls blocks key_c w mode) ≡ 4 ∷ 5 ∷ 0 ∷ 7 ∷ []
  -- bits 0 and 2 are set and no other, `a` stands on page 1 and `c` on page 3, and every other page is empty
  pub contents : contents_of (blocks_after (store_calls blocks key_c w mode) blocks)
      ≡ record { bits = λ i. (i == 0) || (i == 2); pages = put (put (λ _. []) 1 (alone key_a v)) 3 (alone key_c w) }
  -- no number of splits that a store may make parts the key like `a` from `a`: it is refused 8 after its reads, and `a` is there
  pub refused : stored blocks key_like_a w mode ≡ Err (fault NoPlan Database 4)
  pub refused_calls : store_calls blocks key_like_a w mode ≡ read 0 1024 ∷ read 4 1024 ∷ []
  pub kept : held (contents_of (blocks_after (store_calls blocks key_like_a w mode) blocks)) key_a ≡ Some (key_a, v)

-- with any two values of 600 bytes, in either mode
pub record StoreCases : Type 0 where
  pub hash_a : hash key_a ≡ 97
  pub hash_c : hash key_c ≡ 99
  pub hash_like_a : hash key_like_a ≡ 97 + 65536
  pub stores : (blank : Blocks) (v w : List ℕ) (mode : Mode) → BlankBlocks blank → length v ≡ 600 → length w ≡ 600
      → TwoStores blank (blocks_after (store_calls blank key_a v mode) blank) v w mode
