use Rattle.std.proofs.Common.{◌≡◌, ℕ, zero, suc, ◌+◌, ◌-◌, ◌*◌, ◌<◌, ◌≤◌, List, [], ◌∷◌, ◌++◌, length, get_or, replicate, sym, refl, ap, ◌∙◌, subst, append_assoc, append-nil, arith, lit<, length-append}
use lib.ListN.{length-replicate}
use Rattle.std.specs.List.{between}
use Rattle.std.proofs.ByRecursion.{All-get_or}
use Rattle.std.proofs.lemmas.List.{ext_get_or}
use Rattle.pages.specs.Page.{word, Pair, key_at, val_at, key_end, key_of, pair_of, pairs, pairs_of, count, Good}
use Rattle.page_edits.specs.Laws.{ReadsBack}
use Rattle.page_edits.specs.Write.{le2, size, offs, body, len_of, free, written, Fits, key_in}
use Rattle.page_edits.proofs.Cut.{plain, between_seg, word_at, length_offs, length_body}
use Rattle.pages.proofs.Looks.{pair_at, length_pairs}
use Rattle.pages.proofs.Pages.{end_more}

abbrev none : Pair
none = ([], [])

-- pairs from number k on, the first key of which ends at e
abbrev Lies : List ℕ → ℕ → ℕ → List Pair → Type 0
Lies page k e [] = Unit {0}
Lies page k e (p ∷ ps) =
    (key_at page k + length p.0 ≡ e)
    × (val_at page k + length p.1 ≡ key_at page k)
    × (between (key_at page k) e page ≡ p.0)
    × (between (val_at page k) (key_at page k) page ≡ p.1)
    × Lies page (k + 1) (val_at page k) ps

lies : (ps : List Pair) (page pre mid post : List ℕ) (k e : ℕ)
    → page ≡ pre ++ (offs e ps ++ (mid ++ (body ps ++ post)))
    → length pre ≡ 4 * k + 2 → length page ≡ e + length post → e < 65536 → size ps ≤ e
    → Lies page k e ps
lies [] page pre mid post k e is lp ll small fit = tt
lies (p ∷ ps) page pre mid post k e is lp ll small fit =
    let x = e - length p.0 in
    let y = e - len_of p in
    let rest = offs y ps ++ (mid ++ (body ps ++ (p.1 ++ (p.0 ++ post)))) in
    let is1 : page ≡ pre ++ (le2 x ++ (le2 y ++ rest)) = is ∙ simp append_assoc in
    let is2 : page ≡ (pre ++ le2 x) ++ (le2 y ++ rest) = is ∙ simp append_assoc in
    let is3 : page ≡ (pre ++ (le2 x ++ le2 y)) ++ rest = is ∙ simp append_assoc in
    let front = (pre ++ (le2 x ++ le2 y)) ++ (offs y ps ++ (mid ++ body ps)) in
    let is4 : page ≡ front ++ (p.1 ++ (p.0 ++ post)) = is ∙ simp append_assoc in
    let is5 : page ≡ (front ++ p.1) ++ (p.0 ++ post) = is ∙ simp append_assoc in
    let n4 : length page ≡ length front + (length p.1 + (length p.0 + length post)) = ap length is4 ∙ simp length-append in
    let lf : length front ≡ y = omega arith in
    let lv : length (front ++ p.1) ≡ x = length-append front p.1 ∙ omega arith in
    let k1 : key_at page k ≡ x = ap (λ (s : List ℕ). word s (4 * k + 2)) is1 ∙ word_at pre (le2 y ++ rest) (4 * k + 2) x lp (omega arith) in
    let l2 : length (pre ++ le2 x) ≡ 4 * k + 4 = length-append pre (le2 x) ∙ omega arith in
    let v1 : val_at page k ≡ y = ap (λ (s : List ℕ). word s (4 * k + 4)) is2 ∙ word_at (pre ++ le2 x) rest (4 * k + 4) y l2 (omega arith) in
    let bk : between x e page ≡ p.0 = ap (between x e) is5 ∙ between_seg (front ++ p.1) p.0 post x e lv (omega arith) in
    let bv : between y x page ≡ p.1 = ap (between y x) is4 ∙ between_seg front p.1 (p.0 ++ post) y x lf (omega arith) in
    let l3 : length (pre ++ (le2 x ++ le2 y)) ≡ 4 * (k + 1) + 2 = length-append pre (le2 x ++ le2 y) ∙ omega arith in
    let l4 : length page ≡ y + length (p.1 ++ (p.0 ++ post)) = ap length is4 ∙ length-append front (p.1 ++ (p.0 ++ post)) ∙ ap (λ (n : ℕ). n + length (p.1 ++ (p.0 ++ post))) lf in
    let ih = lies ps page (pre ++ (le2 x ++ le2 y)) mid (p.1 ++ (p.0 ++ post)) (k + 1) y is3 l3 l4 (omega arith) (omega arith) in
    (omega arith, omega arith, rw k1 bk, rw (v1, k1) bv, rw v1 ih)

pub pair_eq : {a b c d : List ℕ} → a ≡ c → b ≡ d → ◌≡◌ {A = Pair} (a, b) (c, d)
pair_eq p q = cc

-- where pair n of the page is p
record At (page : List ℕ) (p : Pair) (n : ℕ) : Type 0 where
  key : key_at page n + length p.0 ≡ key_end page n
  val : val_at page n + length p.1 ≡ key_at page n
  pair : pair_of page n ≡ p

lies_at : (ps : List Pair) (page : List ℕ) (k e : ℕ) → Lies page k e ps → key_end page k ≡ e → (i : ℕ) → i < length ps → At page (get_or ps i none) (k + i)
lies_at [] page k e l b i h = absurd (omega arith)
lies_at (p ∷ ps) page k e l b zero h =
    let z : k ≡ k + 0 = omega arith in
    let q : between (key_at page k) (key_end page k) page ≡ p.0 = rw b l.2 in
    subst (λ (n : ℕ). At page p n) z (record { key = l.0 ∙ sym b; val = l.1; pair = pair_eq q l.3 })
lies_at (p ∷ ps) page k e l b (suc i) h =
    let z : k + 1 + i ≡ k + suc i = omega arith in
    subst (λ (n : ℕ). At page (get_or ps i none) n) z (lies_at ps page (k + 1) (val_at page k) l.4 (end_more page k) i (omega arith))

lies_end : (ps : List Pair) (page : List ℕ) (k e : ℕ) → Lies page k e ps → key_end page k ≡ e → key_end page (k + length ps) + size ps ≡ e
lies_end [] page k e l b = let z : k + 0 ≡ k = omega arith in rw z (omega arith)
lies_end (p ∷ ps) page k e l b =
    let z : k + 1 + length ps ≡ k + suc (length ps) = omega arith in
    let ih : key_end page (k + 1 + length ps) + size ps ≡ val_at page k = lies_end ps page (k + 1) (val_at page k) l.4 (end_more page k) in
    let ih2 : key_end page (k + suc (length ps)) + size ps ≡ val_at page k = rw z at ih in
    omega (arith, l.0, l.1)

module _ (ps : List Pair) (f : Fits ps) where
  page_length : length (plain ps) ≡ 1024
  page_length = simp (length-append, length-replicate) (omega (arith, f.room, length_offs 1024 ps, length_body ps))

  lies_all : Lies (plain ps) 0 1024 ps
  lies_all =
      lies ps (plain ps) (le2 (2 * length ps)) (replicate (free ps) 0) [] 0 1024
      (simp append-nil) refl page_length (lit< tt) (omega (arith, f.room))

  count_is : count (plain ps) ≡ 2 * length ps
  count_is = word_at [] (offs 1024 ps ++ (replicate (free ps) 0 ++ body ps)) 0 (2 * length ps) refl (omega (arith, f.room))

  pairs_is : pairs (plain ps) ≡ length ps
  pairs_is = omega (arith, count_is)

  at : (i : ℕ) → i < pairs (plain ps) → At (plain ps) (get_or ps i none) i
  at i h = subst (λ (n : ℕ). At (plain ps) (get_or ps i none) n) (omega arith) (lies_at ps (plain ps) 0 1024 lies_all refl i (omega (arith, pairs_is)))

  key_laid : (i : ℕ) → i < pairs (plain ps) → key_of (plain ps) i ≡ key_in ps i
  key_laid i h = ap (λ (p : Pair). p.0) (at i h).pair

  good_written : Good (plain ps)
  good_written = record {
    whole = page_length;
    even = omega (arith, count_is);
    few = omega (arith, count_is, f.room);
    laid = λ k h.
        (omega (arith, (at k h).key, All-get_or (λ p. 0 < length p.0) ps k none (omega (arith, pairs_is)) f.named), omega (arith, (at k h).val));
    room =
        let z : 0 + length ps ≡ pairs (plain ps) = omega (arith, pairs_is) in
        let e = lies_end ps (plain ps) 0 1024 lies_all refl in
        let e2 : key_end (plain ps) (pairs (plain ps)) + size ps ≡ 1024 = rw z at e in
        omega (arith, f.room, count_is);
    apart = λ i j h.
        let l : (i < j) × (j < length ps) = (h.0, omega (arith, pairs_is)) in
        let a : key_of (plain ps) i ≡ key_in ps i = key_laid i (omega arith) in
        let b : key_of (plain ps) j ≡ key_in ps j = key_laid j h.1 in
        let e = f.apart i j l in cc;
  }

  reads : pairs_of (plain ps) ≡ ps
  reads = ext_get_or none (pairs_of (plain ps)) ps (length_pairs (plain ps) ∙ pairs_is)
      (λ i h. let l : i < pairs (plain ps) = omega (arith, length_pairs (plain ps)) in pair_at (plain ps) i none l ∙ (at i l).pair)

pub reads_back : ReadsBack
unfolding written
reads_back ps f = (good_written ps f, reads ps f)
