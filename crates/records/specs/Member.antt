-- The code of a member: its offset and its length, each with the low byte first, and the byte of its sort.
use Rattle.std.specs.Prelude.{ℕ, ◌^◌, ◌<◌, cond, List, [], ◌∷◌, ◌++◌, length, drop, None, Option, ◌==◌, find, slice_index}
use Rattle.std.specs.Int.{from_le_bytes, to_le_bytes, w32}
use Rattle.std.specs.Option.{option_map}
use Rattle.records.specs.declared.member.Member.{Member}
use Rattle.records.specs.declared.member.Sort.{Sort}
use Rattle.records.specs.declared.member.Sort.TheVariants.{Object, Data, Other}

abbrev pub sort_byte : Sort → ℕ
sort_byte Object = 0
sort_byte Data = 1
sort_byte Other = 2

-- the sort that has the byte
abbrev pub sort_of : ℕ → Option Sort
sort_of byte = find (λ sort. sort_byte sort == byte) (Object ∷ Data ∷ Other ∷ [])

-- each number is one that its field can have
unfoldable pub member_fits : Member → Type 0
member_fits m = (m.offset < 2 ^ 32) × (m.length < 2 ^ 32)

-- nine bytes
unfoldable pub member_code : Member → List ℕ
member_code m = to_le_bytes w32 m.offset ++ (to_le_bytes w32 m.length ++ sort_byte m.sort ∷ [])

-- the member of nine bytes of which the last is a sort's; the laws tie it to the code
unfoldable pub member_decoded : List ℕ → Option Member
member_decoded bytes =
    cond (length bytes == 9)
    (option_map
    (λ sort. record { offset = from_le_bytes w32 bytes; length = from_le_bytes w32 (drop 4 bytes); sort = sort })
    (sort_of (slice_index bytes 8)))
    None
