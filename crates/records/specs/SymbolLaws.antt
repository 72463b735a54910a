-- The laws of a record kind, proved for symbols. Proofs only: they stand here, since an impl takes none from elsewhere.
use Rattle.std.proofs.Common.{◌≡◌, ℕ, ◌≤◌, true, List, [], ◌∷◌, ◌++◌, length, get_or, Some, refl, sym, ap, ◌∙◌, subst, arith, rules, w32}
use Rattle.std.proofs.Math.Facts.{Fits-of_lt, Fits-of_z, sfits_to_z}
use Rattle.std.proofs.lemmas.Bool.{eqb-true}
use Rattle.std.proofs.lemmas.Int.{of_z-to_z, to_z-of_z}
use Rattle.std.proofs.lemmas.Nat.{from_le_bytes-to_le_bytes_2, from_le_bytes-to_le_bytes_4}
use Rattle.std.proofs.lemmas.Option.{cond_some}
use Rattle.std.proofs.lemmas.Slice.Eq.{text_from_reads}
use Rattle.std.specs.Int.{cast_signed, cast_unsigned, from_le_bytes, to_le_bytes}
use Rattle.records.specs.Bytes.{Bytes}
use Rattle.records.specs.Symbol.{symbol_code, symbol_decoded, symbol_fits}
use Rattle.records.specs.Words.{short_back, short_fits, word_back, word_fits}
use Rattle.records.specs.declared.symbol.Symbol.{Symbol}

pub symbol_fixed : (s : Symbol) → length (symbol_code s) ≡ 10
unfolding symbol_code
symbol_fixed s = refl

pub symbol_bounded : (s : Symbol) → symbol_fits s → (1 ≤ length (symbol_code s)) × (length (symbol_code s) ≤ 960)
symbol_bounded s fits = let e = symbol_fixed s in (omega arith, omega arith)

pub symbol_back : (s : Symbol) → symbol_fits s → symbol_decoded (symbol_code s) ≡ Some s
unfolding symbol_code symbol_decoded symbol_fits
symbol_back s fits =
    let address = from_le_bytes-to_le_bytes_4 s.address fits.0 in
    let section = from_le_bytes-to_le_bytes_2 s.section fits.1 in
    let bits = from_le_bytes-to_le_bytes_4 (cast_unsigned w32 s.addend) (Fits-of_z fits.2).fits in
    let addend = ap (cast_signed w32) bits ∙ to_z-of_z w32 s.addend fits.2 in
    λ i. Some (record { address = address i; section = section i; addend = addend i })

-- ten bytes are the code of the symbol that they are decoded to
module _ (a0 a1 a2 a3 s0 s1 d0 d1 d2 d3 : ℕ) where
  abbrev ten : List ℕ
  ten = a0 ∷ a1 ∷ a2 ∷ a3 ∷ s0 ∷ s1 ∷ d0 ∷ d1 ∷ d2 ∷ d3 ∷ []

  ten_only : (s : Symbol) → Bytes ten → symbol_decoded ten ≡ Some s → symbol_fits s × (symbol_code s ≡ ten)
  unfolding symbol_code symbol_decoded symbol_fits
  ten_only s small is =
      let low = word_fits d0 d1 d2 d3 (small 6) (small 7) (small 8) (small 9) in
      let address = word_back a0 a1 a2 a3 (small 0) (small 1) (small 2) (small 3) in
      let section = short_back s0 s1 (small 4) (small 5) in
      let bits = of_z-to_z w32 (from_le_bytes w32 (d0 ∷ d1 ∷ d2 ∷ d3 ∷ [])) low in
      let addend = ap (to_le_bytes w32) bits ∙ word_back d0 d1 d2 d3 (small 6) (small 7) (small 8) (small 9) in
      subst (λ (x : Symbol). symbol_fits x × (symbol_code x ≡ ten)) (cond_some true _ _ is).1 (
        (word_fits a0 a1 a2 a3 (small 0) (small 1) (small 2) (small 3), short_fits s0 s1 (small 4) (small 5), sfits_to_z (Fits-of_lt low)),
        λ i. address i ++ (section i ++ addend i),
      )

pub symbol_only : (bytes : List ℕ) (s : Symbol) → Bytes bytes → symbol_decoded bytes ≡ Some s → symbol_fits s × (symbol_code s ≡ bytes)
unfolding symbol_decoded
symbol_only bytes s small is =
    let b : ℕ → ℕ = λ i. get_or bytes i 0 in
    let long : length bytes ≡ 10 = eqb-true _ _ (cond_some _ _ _ is).0 in
    let same = text_from_reads bytes (ten (b 0) (b 1) (b 2) (b 3) (b 4) (b 5) (b 6) (b 7) (b 8) (b 9)) long (search rules) in
    subst (λ (x : List ℕ). Bytes x → symbol_decoded x ≡ Some s → symbol_fits s × (symbol_code s ≡ x)) (sym same) (ten_only _ _ _ _ _ _ _ _ _ _ s) small is
