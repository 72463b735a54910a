-- One more byte of a text.
use Rattle.std.proofs.Common.{◌≡◌, ℕ, zero, suc, ◌+◌, ◌/◌, ◌%◌, ◌<◌, ◌≤◌, ◌&&◌, Bool, true, false, eqb, Option, Some, slice_index, ap₂, subst, ⊎_elim, arith, cond, List, [], ◌∷◌, ◌++◌, length, get_or, take, sym, refl, ap, ◌∙◌, append_assoc, append-nil}
use Rattle.std.proofs.lemmas.Bool.{and_parts, cases_lt, eqb-true}
use Rattle.std.proofs.lemmas.List.{take_more}
use Rattle.std.proofs.lemmas.Fmt.{hex_byte}
use Rattle.std.specs.Fmt.{AppendsText, digits, format_spec, padded_integral, ◌++?◌}
use Rattle.hex.specs.Hex.{encode_with, lower_digits}
use Rattle.listing.specs.Text.{digit, each, hex_bytes, plain, shown_byte, two_digits}

each_append : (f : ℕ → List ℕ) (xs ys : List ℕ) → each f (xs ++ ys) ≡ each f xs ++ each f ys
each_append f [] ys = refl
each_append f (x ∷ xs) ys = rw (each_append f xs ys) (simp append_assoc)

pub each_more : (f : ℕ → List ℕ) (bs : List ℕ) (i : ℕ) → i < length bs → each f (take (i + 1) bs) ≡ each f (take i bs) ++ f (get_or bs i 0)
each_more f bs i h =
    ap (each f) (take_more bs i 0 h) ∙ each_append f (take i bs) (get_or bs i 0 ∷ []) ∙ ap (λ (t : List ℕ). each f (take i bs) ++ t) (append-nil (f (get_or bs i 0)))

-- one more character
pub pushed : (old new bytes : List ℕ) (ch code : ℕ) → new ≡ old ++ bytes → bytes ≡ ch ∷ [] → ch ≡ code → new ≡ old ++ code ∷ []
pushed old new bytes ch code e a c = e ∙ ap (λ (t : List ℕ). old ++ t) a ∙ ap (λ (k : ℕ). old ++ k ∷ []) c

-- one turn of a loop over the bytes
pub turn : (f : ℕ → List ℕ) (bs : List ℕ) (i : ℕ) (pre old new : List ℕ) → i < length bs → new ≡ old ++ f (get_or bs i 0) → old ≡ pre ++ each f (take i bs) → new ≡ pre ++ each f (take (i + 1) bs)
turn f bs i pre old new h e inv =
    e ∙ ap (λ (t : List ℕ). t ++ f (get_or bs i 0)) inv
    ∙ append_assoc pre (each f (take i bs)) (f (get_or bs i 0))
    ∙ ap (λ (t : List ℕ). pre ++ t) (sym (each_more f bs i h))

-- a test of each number below n
abbrev all_below : (ℕ → Bool) → ℕ → Bool
all_below test zero = true
all_below test (suc n) = test n && all_below test n

passes : (test : ℕ → Bool) (n k : ℕ) → all_below test n ≡ true → k < n → test k ≡ true
passes test zero k all l = absurd (omega arith)
passes test (suc n) k all l =
    let parts = and_parts (test n) (all_below test n) all in
    ⊎_elim (λ (m : k < n). passes test n k parts.1 m) (λ (m : n ≤ k). let e : k ≡ n = omega arith in ap test e ∙ parts.0) (cases_lt k n)

-- the digits of the table that the library writes
digit_at : (n : ℕ) → n < 16 → slice_index lower_digits n ≡ digit n
digit_at n l = eqb-true _ _ (passes (λ (n : ℕ). eqb (slice_index lower_digits n) (digit n)) 16 n refl l)

pub hex_encoded : (bs : List ℕ) → ((i : ℕ) → get_or bs i 0 < 256) → encode_with lower_digits bs ≡ hex_bytes bs
unfolding encode_with
hex_encoded [] small = refl
hex_encoded (b ∷ bs) small =
    let l : b < 256 = small 0 in
    ap₂ ◌∷◌ (digit_at (b / 16) (omega arith)) (ap₂ ◌∷◌ (digit_at (b % 16) (omega arith)) (hex_encoded bs (λ i. small (suc i))))

-- a byte that does not stand as itself
pub escaped : (old marked half new : List ℕ) (b : ℕ) → false ≡ plain b → marked ≡ old ++ (92 ∷ 120 ∷ []) → half ≡ marked ++ digit (b / 16) ∷ [] → new ≡ half ++ digit (b % 16) ∷ [] → new ≡ old ++ shown_byte b
escaped old marked half new b p m h n =
    n ∙ ap (λ (t : List ℕ). t ++ digit (b % 16) ∷ []) (h ∙ ap (λ (t : List ℕ). t ++ digit (b / 16) ∷ []) m)
    ∙ ap (λ (t : List ℕ). t ++ digit (b % 16) ∷ []) (append_assoc old (92 ∷ 120 ∷ []) (digit (b / 16) ∷ []))
    ∙ append_assoc old (92 ∷ 120 ∷ digit (b / 16) ∷ []) (digit (b % 16) ∷ [])
    ∙ ap (λ (q : Bool). old ++ cond q (b ∷ []) (92 ∷ 120 ∷ two_digits b)) p
