-- The blocks of an image on a flat device.
use Rattle.std.proofs.Common.{◌≡◌, ℕ, ◌+◌, ◌-◌, ◌*◌, ◌/◌, ◌%◌, ◌<◌, ◌≤◌, false, ltb, List, length, replicate, take, drop, slice_index, sym, ap, ◌∙◌, ⊎_elim, arith, ◌==◌}
use Rattle.contents.specs.Blocks.{bits_in, block_count, blocks_of, page_in}
use Rattle.directory.specs.Tree.{bit, bits_of}
use Rattle.flat.specs.Blocks.{block_at, blocks, flat}
use Rattle.image.specs.Files.{Has, filled, joined, page_at}
use Rattle.lookup.proofs.Reading.{block_shown}
use Rattle.std.proofs.lemmas.Bool.{cases_lt, cond-false, cond-true, le-ltb, lt-ltb}
use Rattle.std.proofs.lemmas.List.{get_or-append_right, get_or-drop, get_or-replicate, get_or-take, get_or_append_left, get_or_past, length-append, length-replicate, length-take}
use Rattle.std.proofs.Math.Seq.{drop-append-add}

module _ (dir : List ℕ) where
  pub filled_length : length (filled dir) ≡ 4096
  filled_length =
      omega (arith, length-append (take 4096 dir) (replicate (4096 - length dir) 0), length-take 4096 dir, length-replicate {A = ℕ} (4096 - length dir) 0)

  -- a byte of the filled directory; past the file's end it is 0, as a byte that is not there
  filled_byte : (j : ℕ) → j < 4096 → slice_index (filled dir) j ≡ slice_index dir j
  filled_byte j l =
      ⊎_elim
      (λ (i : j < length dir). get_or_append_left (take 4096 dir) (replicate (4096 - length dir) 0) 0 j (omega (arith, length-take 4096 dir)) ∙ get_or-take 4096 dir j 0 l)
      (λ (p : length dir ≤ j).
      get_or-append_right (take 4096 dir) (replicate (4096 - length dir) 0) (length dir) j 0 (omega (arith, length-take 4096 dir)) p
      ∙ get_or-replicate (4096 - length dir) (j - length dir) 0 0 (omega arith)
      ∙ sym (get_or_past dir j 0 p))
      (cases_lt j (length dir))

  module _ (pag : List ℕ) where
    abbrev image : List ℕ
    image = joined dir pag

    image_length : length image ≡ 4096 + length pag
    image_length = omega (arith, length-append (filled dir) pag, filled_length)

    pub past : (p : ℕ) → (Has pag p → ⊥) → blocks image ≤ 4 + p
    unfolding blocks
    past p lacks = ⊎_elim (λ (h : length pag < 1024 * p + 1024). omega (arith, image_length)) (λ (h : 1024 * p + 1024 ≤ length pag). absurd (lacks h)) (cases_lt (length pag) (1024 * p + 1024))

    shown : (n : ℕ) → n < block_count → n < blocks image → blocks_of (flat image) n ≡ block_at image n
    shown n own l = block_shown (flat image) n own l

    pub inside : (p : ℕ) → p < 32768 → Has pag p → 4 + p < blocks image
    unfolding blocks
    inside p l h = omega (arith, image_length)

    pub page : (p : ℕ) → p < 32768 → Has pag p → page_in (blocks_of (flat image)) p ≡ page_at pag p
    page p l h =
        let e : 1024 * (4 + p) ≡ length (filled dir) + 1024 * p = omega (arith, filled_length) in
        shown (4 + p) (omega arith) (inside p l h) ∙ ap (take 1024) (ap (λ (i : ℕ). drop i image) e ∙ drop-append-add (filled dir) pag (1024 * p))

    directory_inside : (n : ℕ) → n < 4 → n < blocks image
    unfolding blocks
    directory_inside n l = omega (arith, image_length)

    -- byte j of directory block n
    block_byte : (n j : ℕ) → n < 4 → j < 1024 → slice_index (blocks_of (flat image) n) j ≡ slice_index dir (1024 * n + j)
    block_byte n j l m =
        ap (λ (s : List ℕ). slice_index s j) (shown n (omega arith) (directory_inside n l))
        ∙ get_or-take 1024 (drop (1024 * n) image) j 0 m
        ∙ get_or-drop (1024 * n) image j 0
        ∙ get_or_append_left (filled dir) pag 0 (1024 * n + j) (omega (arith, filled_length))
        ∙ filled_byte (1024 * n + j) (omega arith)

    bit_there : (i : ℕ) → i < 32767 → bits_of (blocks_of (flat image) (i / 8192)) (i % 8192) ≡ bits_of dir i
    unfolding bits_of
    bit_there i l =
        let byte = block_byte (i / 8192) (i % 8192 / 8) (omega arith) (omega arith) in
        let place : 1024 * (i / 8192) + i % 8192 / 8 ≡ i / 8 = omega arith in
        let low : i % 8192 % 8 ≡ i % 8 = omega arith in
        cond-true (ltb (i % 8192) 32767) _ false (lt-ltb (i % 8192) 32767 (omega arith))
        ∙ ap (λ (b : ℕ). bit b (i % 8192 % 8) == 1) (byte ∙ ap (slice_index dir) place)
        ∙ ap (λ (t : ℕ). bit (slice_index dir (i / 8)) t == 1) low
        ∙ sym (cond-true (ltb i 32767) _ false (lt-ltb i 32767 l))

    bit_past : (i : ℕ) → 32767 ≤ i → false ≡ bits_of dir i
    unfolding bits_of
    bit_past i h = sym (cond-false (ltb i 32767) _ false (le-ltb i 32767 h))

    pub bits : (i : ℕ) → bits_in (blocks_of (flat image)) i ≡ bits_of dir i
    unfolding bits_in
    bits i =
        ⊎_elim
        (λ (l : i < 32767). cond-true (ltb i 32767) _ false (lt-ltb i 32767 l) ∙ bit_there i l)
        (λ (h : 32767 ≤ i). cond-false (ltb i 32767) _ false (le-ltb i 32767 h) ∙ bit_past i h)
        (cases_lt i 32767)
