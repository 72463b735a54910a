-- The first pairs of a page, as they lie there.
use Rattle.std.proofs.Common.{◌≡◌, ℕ, ◌+◌, ◌*◌, ◌<◌, ◌≤◌, Bool, true, false, List, [], ◌∷◌, ◌++◌, min, length, take, drop, filter, sym, refl, ap, ap₂, subst, ◌∙◌, append_assoc, arith}
use Rattle.page_edits.proofs.Kept.{cost_take, kept_no, kept_yes}
use Rattle.page_edits.proofs.One.{drop_between, fits_good, takes}
use Rattle.page_edits.specs.Bytes.{Packed}
use Rattle.page_edits.specs.Write.{body, le2, offs}
use Rattle.pages.proofs.Held.{end_at, good_in}
use Rattle.pages.proofs.Looks.{length_pairs, none, pair_at}
use Rattle.pages.specs.Blank.{bytes_of}
use Rattle.pages.specs.Page.{Pair, count, key_end, pair_of, pairs, pairs_of}
use Rattle.pages.specs.declared.page.PairPage.{PairPage}
use Rattle.std.proofs.lemmas.List.{length-take-le, take-append-drop, take_all, take_more}
use Rattle.std.specs.List.{between}

-- they are packed, as the code has its numbers
pub packed_front : (p : PairPage) (m end : ℕ) → m ≤ pairs (bytes_of p.good) → end ≡ key_end (bytes_of p.good) (min m (pairs (bytes_of p.good))) → Packed (take m (pairs_of (bytes_of p.good))) (bytes_of p.good) m end
packed_front p m end le ee =
    let page = bytes_of p.good in
    let ps = take m (pairs_of page) in
    let g = good_in p in
    let t = takes page p.typed g m le in
    let e : end ≡ key_end page m = end_at page m end le ee in
    let n : length ps ≡ m = length-take-le m (pairs_of page) (omega (arith, length_pairs page, le)) in
    let room : 4 * m + 2 ≤ key_end page m = omega (arith, (fits_good page p.typed g).room, cost_take m (pairs_of page), n, t.sized) in
    let rest : drop (4 * m + 2) page ≡ between (4 * m + 2) (key_end page m) page ++ body ps
    = drop_between page (4 * m + 2) (key_end page m) room ∙ ap (λ (s : List ℕ). between (4 * m + 2) (key_end page m) page ++ s) t.back in
    record {
      many = sym n;
      low = omega (arith, t.sized, e);
      room = omega (arith, room, e);
      head = le2 (count page);
      mid = between (4 * m + 2) (key_end page m) page;
      two = refl;
      is = sym (take-append-drop (4 * m + 2) page) ∙ ap₂ (λ (x y : List ℕ). x ++ y) t.front rest
          ∙ append_assoc (le2 (count page)) (offs 1024 ps) (between (4 * m + 2) (key_end page m) page ++ body ps);
    }

module _ (p : PairPage) (f : Pair → Bool) where
  -- one more pair that is kept
  pub front_more : (k : ℕ) → k < pairs (bytes_of p.good) → true ≡ f (pair_of (bytes_of p.good) k) → filter f (take k (pairs_of (bytes_of p.good))) ≡ take k (pairs_of (bytes_of p.good))
      → filter f (take (k + 1) (pairs_of (bytes_of p.good))) ≡ take (k + 1) (pairs_of (bytes_of p.good))
  front_more k lt e h =
      let page = bytes_of p.good in
      let ps = pairs_of page in
      let next : take (k + 1) ps ≡ take k ps ++ pair_of page k ∷ []
      = take_more ps k none (omega (arith, length_pairs page, lt)) ∙ ap (λ (q : Pair). take k ps ++ q ∷ []) (pair_at page k none lt) in
      kept_yes p f k lt e ∙ ap (λ (qs : List Pair). qs ++ pair_of page k ∷ []) h ∙ sym next

  -- past the last pair
  pub front_all : (k n : ℕ) → pairs (bytes_of p.good) ≤ k → n ≡ pairs (bytes_of p.good) → filter f (take k (pairs_of (bytes_of p.good))) ≡ take k (pairs_of (bytes_of p.good))
      → filter f (take n (pairs_of (bytes_of p.good))) ≡ take n (pairs_of (bytes_of p.good))
  front_all k n past is h =
      let page = bytes_of p.good in
      let ps = pairs_of page in
      let l = length_pairs page in
      let a : take k ps ≡ ps = take_all k ps (omega (arith, l, past)) in
      let b : take n ps ≡ ps = take_all n ps (omega (arith, l, is)) in
      subst (λ (qs : List Pair). filter f qs ≡ qs) (a ∙ sym b) h

  -- up to a pair that is not kept
  pub front_next : (k : ℕ) → k < pairs (bytes_of p.good) → false ≡ f (pair_of (bytes_of p.good) k) → filter f (take k (pairs_of (bytes_of p.good))) ≡ take k (pairs_of (bytes_of p.good))
      → filter f (take (k + 1) (pairs_of (bytes_of p.good))) ≡ take k (pairs_of (bytes_of p.good))
  front_next k lt e h = kept_no p f k lt e ∙ h

  -- past the last pair there is none that is not kept
  pub front_end : (k n : ℕ) → pairs (bytes_of p.good) ≤ k → n ≡ pairs (bytes_of p.good) → filter f (take k (pairs_of (bytes_of p.good))) ≡ take k (pairs_of (bytes_of p.good))
      → filter f (take (n + 1) (pairs_of (bytes_of p.good))) ≡ take n (pairs_of (bytes_of p.good))
  front_end k n past is h =
      let page = bytes_of p.good in
      let ps = pairs_of page in
      let l = length_pairs page in
      let a : take n ps ≡ take (n + 1) ps = take_all n ps (omega (arith, l, is)) ∙ sym (take_all (n + 1) ps (omega (arith, l, is))) in
      subst (λ (qs : List Pair). filter f qs ≡ take n ps) a (front_all k n past is h)
