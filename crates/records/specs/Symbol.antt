-- The code of a symbol: its address, its section and its addend, each with the low byte first.
use Rattle.std.specs.Prelude.{ℕ, ◌^◌, ◌<◌, cond, List, ◌++◌, length, drop, Some, None, Option, ◌==◌, FitsSigned}
use Rattle.std.specs.Int.{cast_signed, cast_unsigned, from_le_bytes, to_le_bytes, w16, w32}
use Rattle.records.specs.declared.symbol.Symbol.{Symbol}

-- each number is one that its field can have
unfoldable pub symbol_fits : Symbol → Type 0
symbol_fits s = (s.address < 2 ^ 32) × (s.section < 2 ^ 16) × FitsSigned w32 s.addend

-- ten bytes; a negative addend counts as 2 ^ 32 more
unfoldable pub symbol_code : Symbol → List ℕ
symbol_code s = to_le_bytes w32 s.address ++ (to_le_bytes w16 s.section ++ to_le_bytes w32 (cast_unsigned w32 s.addend))

-- the symbol of ten bytes; the laws tie it to the code
unfoldable pub symbol_decoded : List ℕ → Option Symbol
symbol_decoded bytes =
    cond (length bytes == 10)
    (Some (record {
      address = from_le_bytes w32 bytes;
      section = from_le_bytes w16 (drop 4 bytes);
      addend = cast_signed w32 (from_le_bytes w32 (drop 6 bytes));
    }))
    None
