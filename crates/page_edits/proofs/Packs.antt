-- A page that is packed pair by pair.
use Rattle.std.proofs.Common.{◌≡◌, ℕ, ◌+◌, ◌-◌, ◌*◌, ◌≤◌, List, [], ◌∷◌, ◌++◌, min, length, replicate, sym, refl, ap, ◌∙◌, append_assoc, arith, length-append}
use lib.ListN.{length-replicate}
use Rattle.pages.specs.Blank.{bytes_of}
use Rattle.pages.proofs.Held.{end_at, good_in}
use Rattle.pages.specs.declared.page.PairPage.{PairPage}
use Rattle.pages.specs.Page.{Bytes, Good, Pair, key_end, pairs, pairs_of}
use Rattle.pages.proofs.Looks.{length_pairs}
use Rattle.page_edits.proofs.Cut.{body_append, cut, length_body, length_offs, offs_append, put_seg, size_append}
use Rattle.page_edits.proofs.One.{low, parts_of}
use Rattle.page_edits.specs.Bytes.{Packed, put}
use Rattle.page_edits.specs.Edit.{with_pair}
use Rattle.page_edits.specs.Laws.{middle}
use Rattle.page_edits.specs.Write.{body, free, le2, len_of, offs, size, written}

pub packed_good : (page : List ℕ) → Bytes page → Good page → Packed (pairs_of page) page (pairs page) (key_end page (pairs page))
packed_good page bytes g = record {
  many = sym (length_pairs page);
  low = omega (arith, low page bytes g);
  room = omega (arith, g.room, g.even);
  head = le2 (2 * length (pairs_of page));
  mid = middle page;
  two = refl;
  is = (parts_of page bytes g).1;
}

-- the same, as the code has its numbers
pub packed_at : (p : PairPage) (m end : ℕ) → m ≡ pairs (bytes_of p.good) → end ≡ key_end (bytes_of p.good) (min m (pairs (bytes_of p.good))) → Packed (pairs_of (bytes_of p.good)) (bytes_of p.good) m end
packed_at p m end me ee =
    let e : end ≡ key_end (bytes_of p.good) (pairs (bytes_of p.good)) = end_at (bytes_of p.good) m end (omega arith) ee ∙ ap (key_end (bytes_of p.good)) me in
    rw (e, me) (packed_good (bytes_of p.good) p.typed (good_in p))

-- there is room for a pair where the list with it is not too long
pub push_room : (ps : List Pair) (key value out : List ℕ) (j free : ℕ) → Packed ps out j free → 2 + (4 * length (with_pair ps key value) + size (with_pair ps key value)) ≤ 1024 → 4 * j + 6 + (length key + length value) ≤ free
push_room ps key value out j free packed room =
    omega (arith, packed.many, packed.low, length-append ps ((key, value) ∷ []), size_append ps ((key, value) ∷ []))

-- three writes over five segments
three : (h a b z w bd a' b' w' : List ℕ) (i1 i2 i3 : ℕ)
    → length a ≡ length a' → length b ≡ length b' → length w ≡ length w'
    → i1 ≡ length h → i2 ≡ i1 + length a → i3 ≡ i2 + length b + length z
    → put (put (put (h ++ (a ++ (b ++ (z ++ (w ++ bd))))) i1 a') i2 b') i3 w' ≡ h ++ (a' ++ (b' ++ (z ++ (w' ++ bd))))
three h a b z w bd a' b' w' i1 i2 i3 la lb lw e1 e2 e3 =
    let p1 = h ++ a' in
    let p2 = p1 ++ b' in
    let p3 = p2 ++ z in
    let n1 : length p1 ≡ i2 = length-append h a' ∙ omega arith in
    let n2 : length p3 ≡ i3 = length-append p2 z ∙ omega (arith, length-append p1 b') in
    let s1 : put (h ++ (a ++ (b ++ (z ++ (w ++ bd))))) i1 a' ≡ p1 ++ (b ++ (z ++ (w ++ bd))) =
    put_seg h a (b ++ (z ++ (w ++ bd))) a' i1 (sym e1) la ∙ simp append_assoc in
    let s2 : put (p1 ++ (b ++ (z ++ (w ++ bd)))) i2 b' ≡ p3 ++ (w ++ bd) =
    put_seg p1 b (z ++ (w ++ bd)) b' i2 n1 lb ∙ simp append_assoc in
    let s3 : put (p3 ++ (w ++ bd)) i3 w' ≡ h ++ (a' ++ (b' ++ (z ++ (w' ++ bd)))) =
    put_seg p3 w bd w' i3 n2 lw ∙ simp append_assoc in
    rw (s1, s2) s3

module _ (ps : List Pair) (out : List ℕ) (j end : ℕ) (l : length out ≡ 1024) (packed : Packed ps out j end) where
  mid_length : length packed.mid + (4 * j + 2) ≡ end
  mid_length =
      let n : length out ≡ 2 + (length (offs 1024 ps) + (length packed.mid + length (body ps))) = ap length packed.is ∙ simp length-append (omega (arith, packed.two)) in
      omega (arith, length_offs 1024 ps, length_body ps, packed.many, packed.low, packed.room)

  -- one more pair, over four parts of the middle
  push_cut : (key value o : List ℕ) (at val : ℕ) (a b z w : List ℕ) → packed.mid ≡ a ++ (b ++ (z ++ w))
      → length a ≡ 2 → length b ≡ 2 → length z + (4 * j + 6) ≡ val → length w ≡ length value + length key → at + length key ≡ end → val + length value ≡ at
      → o ≡ put (put (put out (4 * j + 2) (le2 at)) (4 * j + 4) (le2 val)) val (value ++ key)
      → Packed (ps ++ (key, value) ∷ []) o (j + 1) val
  push_cut key value o at val a b z w m la lb lz lw ae ve wr =
      let p : Pair = (key, value) in
      let head = packed.head ++ offs 1024 ps in
      let lh : length head ≡ 4 * j + 2 = length-append packed.head (offs 1024 ps) ∙ omega (arith, packed.two, length_offs 1024 ps, packed.many) in
      let s : out ≡ head ++ (a ++ (b ++ (z ++ (w ++ body ps)))) = packed.is ∙ rw m (simp append_assoc) in
      let t = three head a b z w (body ps) (le2 at) (le2 val) (value ++ key) (4 * j + 2) (4 * j + 4) val la lb (lw ∙ sym (length-append value key)) (omega arith) (omega arith) (omega arith) in
      let e : o ≡ head ++ (le2 at ++ (le2 val ++ (z ++ ((value ++ key) ++ body ps)))) = cc in
      let x : 1024 - size ps - length key ≡ at = omega (arith, packed.low) in
      let y : 1024 - size ps - len_of p ≡ val = omega (arith, packed.low) in
      let o : offs 1024 (ps ++ p ∷ []) ≡ offs 1024 ps ++ (le2 at ++ le2 val) = offs_append 1024 ps (p ∷ []) ∙ rw (x, y) in
      record {
        many = omega (arith, packed.many, length-append ps (p ∷ []));
        low = omega (arith, packed.low, size_append ps (p ∷ []));
        room = omega arith;
        head = packed.head;
        mid = z;
        two = packed.two;
        is = e ∙ rw (o, body_append ps (p ∷ [])) (simp append_assoc);
      }

  -- one more pair: its offsets, and its value and its key
  pub packed_more : (key value o : List ℕ) (m val : ℕ) → m ≡ j + 1 → val + (length key + length value) ≡ end → 4 * j + 6 ≤ val
      → o ≡ put (put (put out (4 * j + 2) (le2 (val + length value))) (4 * j + 4) (le2 val)) val (value ++ key)
      → Packed (ps ++ (key, value) ∷ []) o m val
  packed_more key value o m val me ve room wr =
      let c1 = cut 2 packed.mid (omega (arith, mid_length)) in
      let c2 = cut 2 c1.1 (omega (arith, mid_length, c1.4)) in
      let c3 = cut (val - (4 * j + 6)) c2.1 (omega (arith, mid_length, c1.4, c2.4)) in
      rw me
      (push_cut key value o (val + length value) val c1.0 c2.0 c3.0 c3.1 (cc (c1.2, c2.2, c3.2))
      c1.3 c2.3 (omega (arith, c3.3)) (omega (arith, mid_length, c1.4, c2.4, c3.3, c3.4)) (omega arith) refl wr)

  -- with the count written and the middle cleared it is the written page
  pub packed_all : (o1 z o2 : List ℕ) → z ≡ replicate (end - (4 * j + 2)) 0 → o1 ≡ put out 0 (le2 (2 * j)) → o2 ≡ put o1 (4 * j + 2) z → o2 ≡ written ps
  unfolding written
  packed_all o1 z o2 ze e1 e2 =
      let front = le2 (2 * j) ++ offs 1024 ps in
      let lf : length front ≡ 4 * j + 2 = length-append (le2 (2 * j)) (offs 1024 ps) ∙ omega (arith, length_offs 1024 ps, packed.many) in
      let lz : length z ≡ end - (4 * j + 2) = ap length ze ∙ length-replicate {A = ℕ} (end - (4 * j + 2)) 0 in
      let s1 : put out 0 (le2 (2 * j)) ≡ front ++ (packed.mid ++ body ps) =
      ap (λ (t : List ℕ). put t 0 (le2 (2 * j))) packed.is
      ∙ put_seg [] packed.head (offs 1024 ps ++ (packed.mid ++ body ps)) (le2 (2 * j)) 0 refl packed.two
      ∙ sym (append_assoc (le2 (2 * j)) (offs 1024 ps) (packed.mid ++ body ps)) in
      let s2 : put (front ++ (packed.mid ++ body ps)) (4 * j + 2) z ≡ front ++ (z ++ body ps) =
      put_seg front packed.mid (body ps) z (4 * j + 2) lf (omega (arith, mid_length)) in
      let f : end - (4 * j + 2) ≡ free ps = omega (arith, packed.low, packed.many) in
      let e : o2 ≡ front ++ (z ++ body ps) = cc in
      e ∙ append_assoc (le2 (2 * j)) (offs 1024 ps) (z ++ body ps) ∙ rw (ze, f, packed.many)
