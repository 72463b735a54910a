-- The fingerprint's loops as the numbers that they compute.
use Rattle.std.proofs.Common.{◌≡◌, ℕ, zero, suc, ◌+◌, ◌-◌, ◌*◌, ◌/◌, ◌%◌, ◌^◌, ◌<◌, ◌≤◌, Bool, cond, List, [], ◌∷◌, length, take, drop, get_or, fold, sym, refl, ap, ap₂, ◌∙◌, add-zero, zero-add, arith}
use Rattle.std.proofs.lemmas.Bool.{lt-ltb, le-ltb}
use Rattle.std.proofs.lemmas.List.{get_or-take, get_or-drop, length-take-le}
use Rattle.std.specs.Int.{from_le_bytes, w64}
use Rattle.std.specs.Simd.{first_chunks}
use Rattle.keys.specs.Print.{blends, blend, print, short, long, w8}

-- the word of a list of eight bytes, blended in
abbrev pub blend_bytes : ℕ → List ℕ → ℕ
blend_bytes h bytes = blend h (from_le_bytes w64 bytes)

blends_front : (word : ℕ → ℕ) (h n : ℕ) → blends word h (suc n) ≡ blends (λ i. word (suc i)) (blend h (word 0)) n
blends_front word h zero = refl
blends_front word h (suc n) = ap (λ (x : ℕ). blend x (word (suc n))) (blends_front word h n)

blends_same : (v w : ℕ → ℕ) (h n : ℕ) → ((i : ℕ) → i < n → v i ≡ w i) → blends v h n ≡ blends w h n
blends_same v w h zero e = refl
blends_same v w h (suc n) e = ap₂ blend (blends_same v w h n (λ i l. e i (omega arith))) (e n (omega arith))

w8_same : (s t : List ℕ) (i j : ℕ) → ((k : ℕ) → k < 8 → get_or s (i + k) 0 ≡ get_or t (j + k) 0) → w8 s i ≡ w8 t j
w8_same s t i j e =
    let e0 = simp add-zero at (e 0 (omega arith)) in
    let e1 = e 1 (omega arith) in
    let e2 = e 2 (omega arith) in
    let e3 = e 3 (omega arith) in
    let e4 = e 4 (omega arith) in
    let e5 = e 5 (omega arith) in
    let e6 = e 6 (omega arith) in
    let e7 = e 7 (omega arith) in
    cc

pub bytes_folded : (h : ℕ) (s : List ℕ) → fold blend h s ≡ blends (λ i. get_or s i 0) h (length s)
bytes_folded h [] = refl
bytes_folded h (b ∷ bs) = bytes_folded (blend h b) bs ∙ sym (blends_front (λ i. get_or (b ∷ bs) i 0) h (length bs))

words_folded : (k h : ℕ) (s : List ℕ) → fold blend_bytes h (first_chunks 8 k s) ≡ blends (λ c. w8 s (8 * c)) h k
words_folded zero h s = refl
words_folded (suc k) h s =
    let first : from_le_bytes w64 (take 8 s) ≡ w8 s 0 = w8_same (take 8 s) s 0 0 (λ j k. simp zero-add (get_or-take 8 s j 0 k)) in
    words_folded k (blend_bytes h (take 8 s)) (drop 8 s)
    ∙ ap (λ (w : ℕ). blends (λ c. w8 (drop 8 s) (8 * c)) (blend h w) k) first
    ∙ blends_same (λ c. w8 (drop 8 s) (8 * c)) (λ c. w8 s (8 * suc c)) (blend h (w8 s 0)) k
    (λ c _. w8_same (drop 8 s) s (8 * c) (8 * suc c) (λ j _. get_or-drop 8 s (8 * c + j) 0 ∙ ap (λ (i : ℕ). get_or s i 0) (omega arith)))
    ∙ sym (blends_front (λ c. w8 s (8 * c)) h k)

-- the words before the last byte of a key
pub words_before : (key : List ℕ) (words : List (List ℕ)) (h : ℕ) → let n = length key - 1 in words ≡ first_chunks 8 (length (take n key) / 8) (take n key) → fold blend_bytes h words ≡ blends (λ c. w8 key (8 * c)) h (n / 8)
words_before key words h e =
    let n = length key - 1 in
    let l : length (take n key) ≡ n = length-take-le n key (omega arith) in
    ap (fold blend_bytes h) (e ∙ ap (λ (m : ℕ). first_chunks 8 (m / 8) (take n key)) l)
    ∙ words_folded (n / 8) h (take n key)
    ∙ blends_same (λ c. w8 (take n key) (8 * c)) (λ c. w8 key (8 * c)) h (n / 8)
    (λ c k. w8_same (take n key) key (8 * c) (8 * c) (λ j l. get_or-take n key (8 * c + j) 0 (omega arith)))

top : ℕ → ℕ
top h = h * 11400714819323198485 % 2 ^ 64 / 2 ^ 54

pub print_short : (key : List ℕ) (h : ℕ) → length key < 8 → h ≡ short key → h * 11400714819323198485 % 2 ^ 64 / 2 ^ 54 ≡ print key
unfolding print top
print_short key h lt e = ap top e ∙ ap (λ (b : Bool). top (cond b (short key) (long key))) (sym (lt-ltb (length key) 8 lt))

pub print_long : (key : List ℕ) (h : ℕ) → 8 ≤ length key → h ≡ long key → h * 11400714819323198485 % 2 ^ 64 / 2 ^ 54 ≡ print key
unfolding print top
print_long key h le e = ap top e ∙ ap (λ (b : Bool). top (cond b (short key) (long key))) (sym (le-ltb (length key) 8 le))
