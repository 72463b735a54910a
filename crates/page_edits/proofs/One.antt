use Rattle.std.proofs.Common.{◌≡◌, ℕ, zero, suc, ◌+◌, ◌-◌, ◌*◌, ◌/◌, ◌%◌, ◌<◌, ◌≤◌, List, [], ◌∷◌, ◌++◌, length, get_or, take, drop, sym, refl, ap, ◌∙◌, append_assoc, arith}
use Rattle.std.specs.List.{between}
use Rattle.std.proofs.ByRecursion.{All-from_get_or}
use Rattle.std.proofs.lemmas.Nat.{mod-mul-add, div-mul-add}
use Rattle.std.proofs.lemmas.List.Edits.{length-between}
use Rattle.std.proofs.lemmas.List.{take_all, take_more, take-append-drop, drop-drop, drop_all}
use Rattle.pages.specs.Page.{Bytes, word, Pair, key_at, val_at, key_end, key_of, val_of, pair_of, pairs, pairs_of, count, Good}
use Rattle.page_edits.specs.Laws.{OnePage, Parts, SameAgain}
use Rattle.page_edits.specs.Write.{le2, size, offs, body, len_of, shape, free, written, Fits, key_in}
use Rattle.page_edits.proofs.Cut.{offs_append, body_append, size_append}
use Rattle.pages.proofs.Looks.{pair_at, length_pairs, none}
use Rattle.pages.proofs.Pages.{end_within}
use Rattle.page_edits.proofs.Back.{reads_back}

low_of : (a b : ℕ) → a < 256 → a ≡ (a + b * 256) % 256
low_of a b h = let e : a + b * 256 ≡ b * 256 + a = omega arith in rw e (sym (mod-mul-add b 256 a h))

high_of : (a b : ℕ) → a < 256 → b < 256 → b ≡ (a + b * 256) / 256 % 256
high_of a b h k = let e : a + b * 256 ≡ b * 256 + a = omega arith in rw (e, div-mul-add b 256 a h) (omega arith)

-- two more bytes are one more word
pub word_more : (s : List ℕ) (i : ℕ) → Bytes s → i + 2 ≤ length s → take (i + 2) s ≡ take i s ++ le2 (word s i)
word_more s i b h =
    let e : i + 2 ≡ i + 1 + 1 = omega arith in
    let lo : get_or s i 0 ≡ word s i % 256 = low_of (get_or s i 0) (get_or s (i + 1) 0) (b i) in
    let hi : get_or s (i + 1) 0 ≡ word s i / 256 % 256 = high_of (get_or s i 0) (get_or s (i + 1) 0) (b i) (b (i + 1)) in
    ap (λ (n : ℕ). take n s) e
    ∙ take_more s (i + 1) 0 (omega arith)
    ∙ ap (λ (t : List ℕ). t ++ get_or s (i + 1) 0 ∷ []) (take_more s i 0 (omega arith))
    ∙ append_assoc (take i s) (get_or s i 0 ∷ []) (get_or s (i + 1) 0 ∷ [])
    ∙ rw (← lo, ← hi)

pub drop_between : (s : List ℕ) (i j : ℕ) → i ≤ j → drop i s ≡ between i j s ++ drop j s
drop_between s i j h =
    let e : i + (j - i) ≡ j = omega arith in
    sym (take-append-drop (j - i) (drop i s)) ∙ ap (λ (t : List ℕ). between i j s ++ t) (drop-drop (j - i) i s ∙ ap (λ (n : ℕ). drop n s) e)

-- on a good page every pair lies within the page
pub laid_at : (page : List ℕ) → Good page → (k : ℕ) → k < pairs page → (key_at page k < key_end page k) × (val_at page k ≤ key_at page k) × (key_end page k ≤ 1024)
laid_at page g k h = ((g.laid k h).0, (g.laid k h).1, end_within page (pairs page) g.laid k (omega arith))

module _ (page : List ℕ) (bytes : Bytes page) (g : Good page) where
  whole : length page ≡ 1024
  whole = g.whole

  -- what the first m pairs take of the page
  pub record Takes (m : ℕ) : Type 0 where
    pub front : take (4 * m + 2) page ≡ le2 (count page) ++ offs 1024 (take m (pairs_of page))
    pub back : drop (key_end page m) page ≡ body (take m (pairs_of page))
    pub sized : size (take m (pairs_of page)) + key_end page m ≡ 1024

  module _ (m : ℕ) (lt : m < pairs page) where
    pub key_len : length (key_of page m) + key_at page m ≡ key_end page m
    key_len = let l = laid_at page g m lt in omega (arith, l.0, length-between page (key_at page m) (key_end page m) (omega (arith, l.2)))

    pub val_len : length (val_of page m) + val_at page m ≡ key_at page m
    val_len = let l = laid_at page g m lt in omega (arith, l.1, length-between page (val_at page m) (key_at page m) (omega (arith, l.2, l.0)))

  module _ (m : ℕ) (lt : m < pairs page) (t : Takes m) where
    pub more : take (suc m) (pairs_of page) ≡ take m (pairs_of page) ++ pair_of page m ∷ []
    more =
        let n : m < length (pairs_of page) = omega (arith, length_pairs page) in
        let e : suc m ≡ m + 1 = omega arith in
        rw (e, take_more (pairs_of page) m none n, pair_at page m none lt)

    sized_more : size (take (suc m) (pairs_of page)) + val_at page m ≡ 1024
    sized_more =
        let z : size (take (suc m) (pairs_of page)) ≡ size (take m (pairs_of page)) + size (pair_of page m ∷ []) = ap size more ∙ size_append (take m (pairs_of page)) (pair_of page m ∷ []) in
        omega (arith, t.sized, key_len m lt, val_len m lt)

    offs_more : offs 1024 (take (suc m) (pairs_of page)) ≡ offs 1024 (take m (pairs_of page)) ++ (le2 (key_at page m) ++ le2 (val_at page m))
    offs_more =
        let x : 1024 - size (take m (pairs_of page)) - length (key_of page m) ≡ key_at page m = omega (arith, t.sized, key_len m lt) in
        let y : 1024 - size (take m (pairs_of page)) - len_of (pair_of page m) ≡ val_at page m = omega (arith, t.sized, key_len m lt, val_len m lt) in
        ap (offs 1024) more ∙ offs_append 1024 (take m (pairs_of page)) (pair_of page m ∷ []) ∙ rw (x, y)

    four_more : take (4 * suc m + 2) page ≡ (take (4 * m + 2) page ++ le2 (key_at page m)) ++ le2 (val_at page m)
    four_more =
        let n : 4 * suc m + 2 ≡ 4 * m + 4 + 2 = omega arith in
        let a : 4 * m + 4 ≡ 4 * m + 2 + 2 = omega arith in
        ap (λ (i : ℕ). take i page) n
        ∙ word_more page (4 * m + 4) bytes (omega (arith, g.few))
        ∙ ap (λ (s : List ℕ). s ++ le2 (val_at page m)) (ap (λ (i : ℕ). take i page) a ∙ word_more page (4 * m + 2) bytes (omega (arith, g.few)))

    front_more : take (4 * suc m + 2) page ≡ le2 (count page) ++ offs 1024 (take (suc m) (pairs_of page))
    front_more = four_more ∙ rw (t.front, offs_more) (simp append_assoc)

    back_more : drop (val_at page m) page ≡ body (take (suc m) (pairs_of page))
    back_more =
        let l = laid_at page g m lt in
        drop_between page (val_at page m) (key_at page m) l.1
        ∙ ap (λ (s : List ℕ). val_of page m ++ s) (drop_between page (key_at page m) (key_end page m) (omega (arith, l.0)) ∙ ap (λ (s : List ℕ). key_of page m ++ s) t.back)
        ∙ sym (append_assoc (val_of page m) (key_of page m) (body (take m (pairs_of page))))
        ∙ sym (ap body more ∙ body_append (take m (pairs_of page)) (pair_of page m ∷ []))

    step : Takes (suc m)
    step = record { front = front_more; back = back_more; sized = sized_more }

  pub takes : (m : ℕ) → m ≤ pairs page → Takes m
  takes zero h = record {
    front = word_more page 0 bytes (omega arith);
    back = drop_all 1024 page (omega arith);
    sized = refl;
  }
  takes (suc m) h = step m (omega arith) (takes m (omega arith))

  -- all of them
  all : Takes (pairs page)
  all = takes (pairs page) (omega arith)

  pub upto_all : take (pairs page) (pairs_of page) ≡ pairs_of page
  upto_all = take_all (pairs page) (pairs_of page) (omega (arith, length_pairs page))

  pub low : size (pairs_of page) + key_end page (pairs page) ≡ 1024
  low = rw upto_all at all.sized

  pub fits_good : Fits (pairs_of page)
  fits_good =
      let n = length_pairs page in
      record {
        named = All-from_get_or (λ p. 0 < length p.0) (pairs_of page) none
            (λ i h.
            let l : i < pairs page = omega arith in
            let laid = laid_at page g i l in
            rw (pair_at page i none l)
            (omega (arith, laid.0, length-between page (key_at page i) (key_end page i) (omega (arith, laid.2)))));
        apart = λ i j h.
            let lj : j < pairs page = omega arith in
            let li : i < pairs page = omega arith in
            let e = g.apart i j (h.0, lj) in
            let a : key_in (pairs_of page) i ≡ key_of page i = ap (λ (p : Pair). p.0) (pair_at page i none li) in
            let b : key_in (pairs_of page) j ≡ key_of page j = ap (λ (p : Pair). p.0) (pair_at page j none lj) in cc;
        room = omega (arith, low, g.room, g.even);
      }

  pub shape_good : page ≡ shape (pairs_of page) (take (free (pairs_of page)) (drop (2 * count page + 2) page))
  shape_good =
      let n = length_pairs page in
      let front = rw upto_all at all.front in
      let m = 4 * pairs page + 2 in
      let c : count page ≡ 2 * length (pairs_of page) = omega (arith, g.even) in
      let le : m ≤ key_end page (pairs page) = omega (arith, g.room, g.even) in
      let f : free (pairs_of page) ≡ key_end page (pairs page) - m = omega (arith, low) in
      let a : 2 * count page + 2 ≡ m = omega (arith, g.even) in
      let r : drop m page ≡ between m (key_end page (pairs page)) page ++ body (pairs_of page) =
      drop_between page m (key_end page (pairs page)) le ∙ ap (λ (s : List ℕ). between m (key_end page (pairs page)) page ++ s) (rw upto_all at all.back) in
      let w : page ≡ (le2 (count page) ++ offs 1024 (pairs_of page)) ++ (between m (key_end page (pairs page)) page ++ body (pairs_of page)) =
      sym (take-append-drop m page) ∙ cc (front, r) in
      w ∙ rw (f, a, ← c) (append_assoc (le2 (count page)) (offs 1024 (pairs_of page)) (between m (key_end page (pairs page)) page ++ body (pairs_of page)))

pub parts_of : Parts
parts_of page bytes g = (fits_good page bytes g, shape_good page bytes g)

pub one_page : OnePage
unfolding written
one_page page bytes g z = shape_good page bytes g ∙ ap (shape (pairs_of page)) z

pub same_again : SameAgain
same_again page bytes g = reads_back (pairs_of page) (fits_good page bytes g)
