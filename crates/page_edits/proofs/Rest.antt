-- A page without one of its pairs.
use Rattle.std.proofs.Common.{◌≡◌, ℕ, suc, ◌+◌, ◌-◌, ◌*◌, ◌<◌, ◌≤◌, List, [], ◌∷◌, ◌++◌, length, take, drop, sym, refl, ap, ◌∙◌, append_assoc, append-nil, arith, length-append, take-add}
use Rattle.pages.specs.Blank.{bytes_of}
use Rattle.pages.proofs.Held.{good_in}
use Rattle.page_edits.specs.declared.removing.Removal.{Removal}
use Rattle.pages.specs.Page.{Bytes, Good, Pair, count, key_at, key_end, key_of, pair_of, pairs, pairs_of, val_at}
use Rattle.pages.proofs.Looks.{length_pairs, none, pair_at}
use Rattle.pages.proofs.Pages.{end_more}
use Rattle.page_edits.proofs.Cut.{body_append, offs_append, length_put, size_append, take_put}
use Rattle.page_edits.proofs.One.{drop_between, key_len, laid_at, takes, val_len}
use Rattle.page_edits.specs.Bytes.{Packed, put}
use Rattle.page_edits.specs.Write.{body, le2, len_of, offs, size}
use Rattle.std.proofs.lemmas.List.Edits.{between_more, between_none, length-between}
use Rattle.std.proofs.lemmas.List.{append_cancel_right, length-drop, length-take-le, take_all}
use Rattle.std.proofs.lemmas.Slice.{between_from_start, between_to_end}
use Rattle.std.specs.List.{between, remove}

-- one write after what is written so far
next : (s t b base : List ℕ) (i j : ℕ) → t ≡ put s i b → i ≤ length s → i + length b ≡ j → take i s ≡ base → take j t ≡ base ++ b
next s t b base i j e h n q = ap (take j) e ∙ ap (λ (m : ℕ). take m (put s i b)) (sym n) ∙ take_put s b i h ∙ ap (λ (x : List ℕ). x ++ b) q

take_between : {X : Type 0} (s : List X) (i j : ℕ) → i ≤ j → take j s ≡ take i s ++ between i j s
take_between s i j h = let e : i + (j - i) ≡ j = omega arith in ap (λ (n : ℕ). take n s) (sym e) ∙ take-add i (j - i) s

module _ (page : List ℕ) (bytes : Bytes page) (g : Good page) (k : ℕ) (lt : k < pairs page) where
  -- the pairs after pair k, up to pair j
  abbrev after : ℕ → List Pair
  after j = between (k + 1) j (pairs_of page)

  -- where pair k starts, and what the first pairs take
  start : key_end page (k + 1) ≡ val_at page k
  start = end_more page k

  take_after : (j : ℕ) → k < j → j ≤ pairs page → take j (pairs_of page) ≡ take (k + 1) (pairs_of page) ++ after j
  take_after j a b = take_between (pairs_of page) (k + 1) j (omega arith)

  after_size : (j : ℕ) → k < j → j ≤ pairs page → size (after j) + key_end page j ≡ val_at page k
  after_size j a b =
      let s = ap size (take_after j a b) ∙ size_append (take (k + 1) (pairs_of page)) (after j) in
      omega (arith, s, (takes page bytes g j b).sized, (takes page bytes g (k + 1) (omega arith)).sized, start)

  -- what the pairs after pair k rise by
  abbrev gap : ℕ
  gap = key_end page k - val_at page k

  offs_after : (j : ℕ) → k < j → j < pairs page → offs (key_end page k) (after (j + 1)) ≡ offs (key_end page k) (after j) ++ (le2 (key_at page j + gap) ++ le2 (val_at page j + gap))
  offs_after j a b =
      let e = key_end page k in
      let l = laid_at page g k lt in
      let s = after_size j a (omega arith) in
      let p : after (j + 1) ≡ after j ++ pair_of page j ∷ [] = between_more (pairs_of page) (k + 1) j none (omega arith) (omega (arith, length_pairs page)) ∙ rw (pair_at page j none b) in
      let x : e - size (after j) - length (key_of page j) ≡ key_at page j + gap = omega (arith, s, key_len page bytes g j b, l.0, l.1) in
      let y : e - size (after j) - len_of (pair_of page j) ≡ val_at page j + gap = omega (arith, s, key_len page bytes g j b, val_len page bytes g j b, l.0, l.1) in
      ap (offs e) p ∙ offs_append e (after j) (pair_of page j ∷ []) ∙ rw (x, y)

  pub raise_none : (out : List ℕ) → take (4 * (k + 1) - 2) out ≡ take (4 * k + 2) out ++ offs (key_end page k) (after (k + 1))
  raise_none out =
      let n : 4 * (k + 1) - 2 ≡ 4 * k + 2 = omega arith in
      rw (n, between_none (pairs_of page) (k + 1)) (sym (append-nil (take (4 * k + 2) out)))

  -- one more pair of offsets
  pub raise_step : (out o1 o2 base : List ℕ) (j key val : ℕ) → k < j → j < pairs page → length out ≡ 1024 → length o1 ≡ 1024
      → take (4 * j - 2) out ≡ base ++ offs (key_end page k) (after j) → key ≡ key_at page j + gap → val ≡ val_at page j + gap
      → o1 ≡ put out (4 * j - 2) (le2 key) → o2 ≡ put o1 (4 * j) (le2 val)
      → take (4 * (j + 1) - 2) o2 ≡ base ++ offs (key_end page k) (after (j + 1))
  raise_step out o1 o2 base j key val a b l l1 inv ke ve e1 e2 =
      let few = g.few in
      let t1 = next out o1 (le2 key) _ (4 * j - 2) (4 * j) e1 (omega arith) (omega arith) inv in
      let t2 = next o1 o2 (le2 val) _ (4 * j) (4 * (j + 1) - 2) e2 (omega arith) (omega arith) t1 in
      t2 ∙ rw (offs_after j a b, ke, ve) (simp append_assoc)

  pub raise_all : (j : ℕ) → pairs page ≤ j → after j ≡ drop (k + 1) (pairs_of page)
  raise_all j h = between_to_end (pairs_of page) (k + 1) j (omega (arith, length_pairs page))

  abbrev rest : List Pair
  rest = drop (k + 1) (pairs_of page)

  rest_is : after (pairs page) ≡ rest
  rest_is = raise_all (pairs page) (omega arith)

  rest_size : size rest + key_end page (pairs page) ≡ val_at page k
  rest_size = rw rest_is at (after_size (pairs page) lt (omega arith))

  -- the bytes of the pairs after pair k
  rest_body : between (key_end page (pairs page)) (val_at page k) page ≡ body rest
  rest_body =
      let low = key_end page (pairs page) in
      let all = takes page bytes g (pairs page) (omega arith) in
      let upto = takes page bytes g (k + 1) (omega arith) in
      let b : body (take (pairs page) (pairs_of page)) ≡ body (after (pairs page)) ++ body (take (k + 1) (pairs_of page)) =
      ap body (take_after (pairs page) lt (omega arith)) ∙ body_append (take (k + 1) (pairs_of page)) (after (pairs page)) in
      let d : drop (val_at page k) page ≡ body (take (k + 1) (pairs_of page)) = rw start at upto.back in
      let t : between low (val_at page k) page ++ drop (val_at page k) page ≡ body rest ++ drop (val_at page k) page =
      sym (drop_between page low (val_at page k) (omega (arith, rest_size))) ∙ all.back ∙ b ∙ rw (rest_is, ← d) in
      append_cancel_right (between low (val_at page k) page) (body rest) (drop (val_at page k) page) t

  -- where the parts of the page lie
  pub order : (4 * pairs page + 2 ≤ key_end page (pairs page)) × ((key_end page (pairs page) ≤ val_at page k) × ((val_at page k ≤ key_end page k) × (key_end page k ≤ 1024)))
  order =
      let l = laid_at page g k lt in
      (omega (arith, g.room, g.even), (omega (arith, rest_size), (omega (arith, l.0, l.1), l.2)))

  -- the parts of a page without pair k, one after another
  pub packed_rest : (out s1 s2 s3 s4 : List ℕ) (free : ℕ) → length s2 ≡ 1024 → length out ≡ 1024 → free ≡ key_end page (pairs page) + gap
      → s1 ≡ put out 0 (between 0 (4 * k + 2) page)
      → take (4 * pairs page - 2) s2 ≡ take (4 * k + 2) s1 ++ offs (key_end page k) rest
      → s3 ≡ put s2 free (between (key_end page (pairs page)) (val_at page k) page)
      → s4 ≡ put s3 (key_end page k) (between (key_end page k) 1024 page)
      → Packed (remove (pairs_of page) k) s4 (pairs page - 1) free
  packed_rest out s1 s2 s3 s4 free l2 lo fe e1 e2 e3 e4 =
      let low = key_end page (pairs page) in
      let end = key_end page k in
      let l = laid_at page g k lt in
      let n = length_pairs page in
      let upto = takes page bytes g k (omega arith) in
      let head = le2 (count page) ++ offs 1024 (take k (pairs_of page)) in
      let mid = between (4 * pairs page - 2) free s2 in
      let lb = length-between page 0 (4 * k + 2) (omega (arith, g.whole)) in
      let t1 : take (4 * k + 2) s1 ≡ head =
      next out s1 (between 0 (4 * k + 2) page) [] 0 (4 * k + 2) e1 (omega arith) (omega arith) refl ∙ between_from_start page (4 * k + 2) ∙ upto.front in
      let t2 : take (4 * pairs page - 2) s2 ≡ head ++ offs end rest = e2 ∙ ap (λ (t : List ℕ). t ++ offs end rest) t1 in
      let t3 : take free s2 ≡ (head ++ offs end rest) ++ mid = take_between s2 (4 * pairs page - 2) free (omega (arith, rest_size)) ∙ ap (λ (t : List ℕ). t ++ mid) t2 in
      let lv = length-between page low (val_at page k) (omega (arith, g.whole)) in
      let le = length-between page end 1024 (omega (arith, g.whole)) in
      let l3 : length s3 ≡ 1024 = ap length e3 ∙ length_put s2 (between low (val_at page k) page) free (omega (arith, rest_size)) ∙ l2 in
      let l4 : length s4 ≡ 1024 = ap length e4 ∙ length_put s3 (between end 1024 page) end (omega arith) ∙ l3 in
      let t4 : take end s3 ≡ ((head ++ offs end rest) ++ mid) ++ body rest =
      next s2 s3 (between low (val_at page k) page) _ free end e3 (omega (arith, rest_size)) (omega (arith, rest_size)) t3 ∙ ap (λ (t : List ℕ). ((head ++ offs end rest) ++ mid) ++ t) rest_body in
      let back : between end 1024 page ≡ body (take k (pairs_of page)) = between_to_end page end 1024 (omega (arith, g.whole)) ∙ upto.back in
      let t5 : take 1024 s4 ≡ (((head ++ offs end rest) ++ mid) ++ body rest) ++ body (take k (pairs_of page)) =
      next s3 s4 (between end 1024 page) _ end 1024 e4 (omega arith) (omega arith) t4 ∙ ap (λ (t : List ℕ). (((head ++ offs end rest) ++ mid) ++ body rest) ++ t) back in
      let kk : suc k ≡ k + 1 = omega arith in
      let x : 1024 - size (take k (pairs_of page)) ≡ end = omega (arith, upto.sized) in
      let o : offs 1024 (take k (pairs_of page) ++ rest) ≡ offs 1024 (take k (pairs_of page)) ++ offs end rest = offs_append 1024 (take k (pairs_of page)) rest ∙ rw x in
      let b = body_append (take k (pairs_of page)) rest in
      let packed : Packed (take k (pairs_of page) ++ rest) s4 (pairs page - 1) free =
      record {
        many = omega (arith, length-append (take k (pairs_of page)) rest, length-take-le k (pairs_of page) (omega arith), length-drop (k + 1) (pairs_of page));
        low = omega (arith, size_append (take k (pairs_of page)) rest, rest_size, upto.sized);
        room = omega (arith, g.room, g.even);
        head = le2 (count page);
        mid = mid;
        two = refl;
        is = sym (take_all 1024 s4 (omega arith)) ∙ t5 ∙ rw (o, b) (simp append_assoc);
      } in
      rw kk packed

-- the same of a removal, as the code has its numbers
pub rest_at : (r : Removal) (m : ℕ) (bs out s1 s2 s3 s4 : List ℕ) → m ≡ pairs (bytes_of r.page.good) → bs ≡ bytes_of r.page.good
    → length s2 ≡ 1024 → length out ≡ 1024
    → s1 ≡ put out 0 (between 0 (4 * r.number + 2) bs)
    → take (4 * pairs (bytes_of r.page.good) - 2) s2 ≡ take (4 * r.number + 2) s1 ++ offs r.end (drop (r.number + 1) (pairs_of (bytes_of r.page.good)))
    → s3 ≡ put s2 (r.low + (r.end - r.start)) (between r.low r.start bs)
    → s4 ≡ put s3 r.end (between r.end 1024 bs)
    → Packed (remove (pairs_of (bytes_of r.page.good)) r.number) s4 (m - 1) (r.low + (r.end - r.start))
rest_at r m bs out s1 s2 s3 s4 me be l2 lo e1 e2 e3 e4 =
    rw me
    (packed_rest (bytes_of r.page.good) r.page.typed (good_in r.page) r.number r.within out s1 s2 s3 s4 _ l2 lo (omega (arith, r.low_is, r.start_is, r.end_is))
    (rw be at e1) (rw r.end_is at e2) (e3 ∙ rw (be, r.low_is, r.start_is)) (rw (be, r.end_is) at e4))
