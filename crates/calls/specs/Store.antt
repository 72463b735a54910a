-- What a store answers where none of its calls is refused, and which calls it makes: all its reads, then all its claims, then all
-- its writes.
use Rattle.std.specs.Prelude.{ℕ, zero, suc, ◌+◌, ◌-◌, ◌*◌, ◌/◌, ◌%◌, ◌^◌, Bool, false, cond, List, [], ◌∷◌, ◌++◌, map, min, length, is_some, Some, None, Ok, Err, Result, find, slice_index, slice_index_or, slice_set, ◌≡◌, ◌||◌, bit_or, nat_le, ◌==◌}
use Rattle.contents.specs.Blocks.{Blocks, bits_in}
use Rattle.contents.specs.Test.{is_good, place_of}
use Rattle.calls.specs.Delete.{home_depth, home_pairs}
use Rattle.calls.specs.Fetch.{home_bytes, home_page}
use Rattle.calls.specs.declared.Mode.{Mode}
use Rattle.calls.specs.declared.Mode.TheVariants.{Insert, Replace}
use Rattle.devices.specs.Meaning.{put}
use Rattle.devices.specs.Step.{Call, claim, fault, write}
use Rattle.directory.specs.Tree.{low, node}
use Rattle.faults.specs.declared.Fault.{Fault}
use Rattle.faults.specs.declared.Layer.TheVariants.{Database}
use Rattle.faults.specs.declared.Refusal.TheVariants.{BitBelow, EmptyKey, KeyExists, NoPlan, PairTooLong}
use Rattle.keys.specs.Hash.{hash}
use Rattle.lookup.specs.Pages.{bad_page}
use Rattle.lookup.specs.Reads.{blocks_of_bits, home_calls, reads}
use Rattle.page_edits.specs.Edit.{falling, with_pair}
use Rattle.page_edits.specs.Write.{written}
use Rattle.pages.specs.Page.{Pair, pairs_of}
use Rattle.splits.specs.Plan.{plan}
use Rattle.splits.specs.Writes.{others}
use Rattle.std.specs.List.{flat_map, range_with_len}

-- the input is refused 1 for an empty key, and then 2 for a key and a value of more than 1,008 bytes
abbrev pub with_pair_input : {X : Type 0} → List ℕ → List ℕ → (Fault → X) → X → X
with_pair_input key value refused accepted =
    cond (length key == 0) (refused (fault EmptyKey Database 0)) (cond (nat_le (length key + length value) 1008) accepted (refused (fault PairTooLong Database 0)))

abbrev pub inserts : Mode → Bool → Bool
inserts Insert there = there
inserts Replace there = false

-- How many splits a store makes, by a good home page, which has this depth and stands in block n: refused 5 for an insert of a key
-- that is there, and 8 where no number of splits makes room.
abbrev pub decided : List ℕ → ℕ → ℕ → List ℕ → List ℕ → Mode → Result ℕ Fault
decided page t n key value mode =
    cond
    (inserts mode (is_some (place_of page key)))
    (Err (fault KeyExists Database n))
    (elim (plan (pairs_of page) key value t) as (λ _. Result ℕ Fault) [ Some s ↦ Ok s | None ↦ Err (fault NoPlan Database n) ])

-- refused 6 before that for a home page that is not good
unfoldable pub planned : Blocks → List ℕ → List ℕ → Mode → Result ℕ Fault
planned blocks key value mode =
    cond
    (is_good (home_bytes blocks key))
    (decided (home_bytes blocks key) (home_depth blocks key) (4 + home_page blocks key) key value mode)
    (Err (bad_page (4 + home_page blocks key)))

-- the bits under those that s splits from depth t on would set, in their order; under a bit at depth 14 there is none
abbrev pub bits_under : ℕ → ℕ → ℕ → List ℕ
bits_under h t s = flat_map (λ i. (2 * i + 1) ∷ (2 * i + 2) ∷ []) (map (node h) (range_with_len t (min s (14 - t))))

-- numbers up to and with the first that passes
abbrev pub up_to : (ℕ → Bool) → List ℕ → List ℕ
up_to test [] = []
up_to test (i ∷ is) = i ∷ cond (test i) [] (up_to test is)

-- they are tested up to the first that is set; their blocks are read where they are not the one that was read last
abbrev pub under_calls : (ℕ → Bool) → ℕ → ℕ → ℕ → List Call
under_calls bits h t s = reads (blocks_of_bits (node h t / 8192) (up_to bits (bits_under h t s)))

-- the same of the two bits under bit i
abbrev pub clear_pair : (ℕ → Bool) → ℕ → Result Unit Fault
clear_pair bits i = cond (bits (2 * i + 1) || bits (2 * i + 2)) (Err (fault BitBelow Database (i / 8192))) (Ok tt)

-- refused 7 where one is set, naming the block of the bit above it
abbrev pub bits_clear : (ℕ → Bool) → ℕ → ℕ → ℕ → Result Unit Fault
bits_clear bits h t s = elim (find bits (bits_under h t s)) as (λ _. Result Unit Fault) [ Some i ↦ Err (fault BitBelow Database ((i - 1) / 2 / 8192)) | None ↦ Ok tt ]

-- the claims: the home page, and for each split the upper page and the directory block of its bit
abbrev pub split_claims : ℕ → ℕ → ℕ → List Call
split_claims h t zero = []
split_claims h t (suc s) = claim (4 + (low h t + 2 ^ t)) ∷ claim (node h t / 8192) ∷ split_claims h (suc t) s

abbrev pub claims : ℕ → ℕ → ℕ → List Call
claims h t s = claim (4 + low h t) ∷ split_claims h t s

-- a directory block with one more bit set
abbrev pub with_bit : List ℕ → ℕ → List ℕ
with_bit block i = slice_set block (i % 8192 / 8) (bit_or (slice_index block (i % 8192 / 8)) (2 ^ (i % 8)))

-- the writes of a split at depth t: the upper page, the directory block with the bit, and then the lower page
abbrev pub split_write : Blocks → List Pair → ℕ → ℕ → List Call
split_write blocks pairs h t =
    write (4 + (low h t + 2 ^ t)) (written (falling (suc t) (low h t + 2 ^ t) pairs))
    ∷ write (node h t / 8192) (with_bit (blocks (node h t / 8192)) (node h t))
    ∷ write (4 + low h t) (written (falling (suc t) (low h t) pairs))
    ∷ []

-- and those of s splits from there on
abbrev pub split_writes : Blocks → List Pair → ℕ → ℕ → ℕ → List Call
split_writes blocks pairs h t zero = []
split_writes blocks pairs h t (suc s) =
    split_write blocks pairs h t ++ split_writes (put blocks (node h t / 8192) (with_bit (blocks (node h t / 8192)) (node h t))) pairs h (suc t) s

-- the last write: the key's page after the splits, with the pair after the others
abbrev pub last_write : List Pair → List ℕ → List ℕ → ℕ → Call
last_write pairs key value t = write (4 + low (hash key) t) (written (with_pair (others pairs key t) key value))

-- what makes room: the bits under those to be set are tested, and where all are clear come the claims and the splits
abbrev pub room_calls : Blocks → List Pair → ℕ → ℕ → ℕ → List Call
room_calls blocks pairs h t s =
    under_calls (bits_in blocks) h t s
    ++ elim (bits_clear (bits_in blocks) h t s) as (λ _. List Call) [ Ok _ ↦ claims h t s ++ split_writes blocks pairs h t s | Err _ ↦ [] ]

-- what is done once the number of splits is known
unfoldable pub change_calls : Blocks → List ℕ → List ℕ → ℕ → List Call
change_calls blocks key value s =
    under_calls (bits_in blocks) (hash key) (home_depth blocks key) s
    ++ elim (bits_clear (bits_in blocks) (hash key) (home_depth blocks key) s) as (λ _. List Call) [
      | Ok _ ↦
          claims (hash key) (home_depth blocks key) s
          ++ (split_writes blocks (home_pairs blocks key) (hash key) (home_depth blocks key) s
          ++ last_write (home_pairs blocks key) key value (home_depth blocks key + s) ∷ [])
      | Err _ ↦ []
    ]

unfoldable pub store_calls : Blocks → List ℕ → List ℕ → Mode → List Call
store_calls blocks key value mode =
    with_pair_input key value (λ _. [])
    (home_calls blocks (hash key) ++ elim (planned blocks key value mode) as (λ _. List Call) [ Ok s ↦ change_calls blocks key value s | Err _ ↦ [] ])

unfoldable pub stored : Blocks → List ℕ → List ℕ → Mode → Result Unit Fault
stored blocks key value mode =
    with_pair_input key value (λ f. Err f)
    (elim (planned blocks key value mode) as (λ _. Result Unit Fault) [ Ok s ↦ bits_clear (bits_in blocks) (hash key) (home_depth blocks key) s | Err f ↦ Err f ])

-- a directory block in its slot
abbrev pub slot : List (List ℕ) → Blocks
slot directory b = slice_index_or directory b []

abbrev pub Slots : Blocks → List (List ℕ) → ℕ → Type 0
Slots blocks directory b = slot directory b ≡ blocks b
