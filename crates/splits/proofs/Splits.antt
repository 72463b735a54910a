-- What the writes of splits leave of what is held.
use Rattle.std.proofs.Common.{◌≡◌, ℕ, zero, suc, ◌+◌, ◌*◌, ◌^◌, ◌<◌, ◌≤◌, Bool, List, take, eqb, sym, refl, ap, ◌∙◌, subst, inl, inr, ⊎_elim, ◌⊎◌, add-zero, eq-or-lt_of_le, le_of_suc-le-suc, arith, pow_pos}
use Rattle.contents.specs.Contents.{Contents, held}
use Rattle.devices.specs.Meaning.{put}
use Rattle.directory.proofs.Bits.{set_other}
use Rattle.directory.proofs.Lookups.{index_on_way, page_low}
use Rattle.directory.proofs.Low.{low_suc}
use Rattle.directory.proofs.Splits.{split_page, upper_fresh}
use Rattle.directory.specs.Tree.{NoneUnder, bit, depth_of, low, node, page_of, set_bit}
use Rattle.keys.specs.Hash.{hash}
use Rattle.page_edits.specs.Edit.{falling}
use Rattle.pages.specs.Page.{Pair, look}
use Rattle.splits.proofs.Finds.{look_falling}
use Rattle.splits.specs.Plan.{MaySplit}
use Rattle.splits.specs.Writes.{all_made, split, splits}
use Rattle.std.proofs.lemmas.Bool.{cases_eq, cond-false, cond-true, eq-eqb, ne_eqb}

-- a place that is put, and one that is not

pub put_here : {X : Type 0} (f : ℕ → X) (n : ℕ) (v : X) (k : ℕ) → k ≡ n → put f n v k ≡ v
put_here f n v k e = cond-true (eqb k n) v (f k) (eq-eqb k n e)

pub put_other : {X : Type 0} (f : ℕ → X) (n : ℕ) (v : X) (k : ℕ) → (k ≡ n → ⊥) → put f n v k ≡ f k
put_other f n v k ne = cond-false (eqb k n) v (f k) (ne_eqb k n ne)

-- one level down, either to the same number or 2^t above it
pub half : (h t : ℕ) → (low h (suc t) ≡ low h t) ⊎ (low h (suc t) ≡ low h t + 2 ^ t)
half h t = by (bit h t) (omega arith) (low_suc h t)
  where
    by : (b : ℕ) → b < 2 → low h (suc t) ≡ low h t + b * 2 ^ t → (low h (suc t) ≡ low h t) ⊎ (low h (suc t) ≡ low h t + 2 ^ t)
    by zero l e = inl (e ∙ omega arith)
    by (suc zero) l e = inr (e ∙ omega arith)
    by (suc (suc b)) l e = absurd (omega arith)

-- Where the lookup of g ends after the bit of the leaf of h, at depth t, is set: if it ended there, on one half or the other,
-- and otherwise where it did.
data Moved (bits : ℕ → Bool) (h t g : ℕ) : Type 0 where
  stays : page_of bits g ≡ low h t → low g t ≡ low h t → low g (suc t) ≡ low h t → page_of (set_bit bits (node h t)) g ≡ low h t → Moved bits h t g
  rises : page_of bits g ≡ low h t → low g t ≡ low h t → low g (suc t) ≡ low h t + 2 ^ t → page_of (set_bit bits (node h t)) g ≡ low h t + 2 ^ t → Moved bits h t g
  away : (page_of bits g ≡ low h t → ⊥) → page_of (set_bit bits (node h t)) g ≡ page_of bits g → Moved bits h t g

-- what the bits have to be for a split of the leaf of h, at depth t
abbrev MaySet : (ℕ → Bool) → ℕ → ℕ → Type 0
MaySet bits h t = (t < 15) × (suc t < 15 → NoneUnder bits (node h t))

-- the lookups after the bit is set, with the index as that on the way of h
set_at : (bits : ℕ → Bool) (h g : ℕ) → let d = depth_of bits h in MaySet bits h d
    → (page_of bits g ≡ page_of bits h → depth_of (set_bit bits (node h d)) g ≡ suc d)
    × ((page_of bits g ≡ page_of bits h → ⊥) → page_of (set_bit bits (node h d)) g ≡ page_of bits g)
set_at bits h g m =
    let s = rw (index_on_way bits h) at (split_page bits h m.0 (λ k. rw (index_on_way bits h) (m.1 k)) g) in
    (λ e. (s.0 e).0, λ n. (s.1 n).1)

moved : (bits : ℕ → Bool) (h t g : ℕ) → depth_of bits h ≡ t → MaySet bits h t → Moved bits h t g
moved bits h t g deep = subst (λ (d : ℕ). MaySet bits h d → Moved bits h d g) deep here
  where
    d : ℕ
    d = depth_of bits h

    on : (page_of bits g ≡ page_of bits h) → page_of (set_bit bits (node h d)) g ≡ low g (suc d) → Moved bits h d g
    on e to =
        let at = page_low bits g h e in
        ⊎_elim
        (λ (q : low g (suc d) ≡ low g d). stays e at (q ∙ at) (to ∙ q ∙ at))
        (λ (q : low g (suc d) ≡ low g d + 2 ^ d). let r = q ∙ ap (λ (x : ℕ). x + 2 ^ d) at in rises e at r (to ∙ r))
        (half g d)

    here : MaySet bits h d → Moved bits h d g
    here m =
        ⊎_elim (λ e. on e (ap (low g) ((set_at bits h g m).0 e))) (λ n. away n ((set_at bits h g m).1 n)) (cases_eq (page_of bits g) (page_of bits h))

pub deeper : (bits : ℕ → Bool) (h t : ℕ) → depth_of bits h ≡ t → MaySet bits h t → depth_of (set_bit bits (node h t)) h ≡ suc t
deeper bits h t deep = subst (λ (d : ℕ). MaySet bits h d → depth_of (set_bit bits (node h d)) h ≡ suc d) deep (λ m. (set_at bits h h m).0 refl)

-- The lookup of h ends at depth t, and there its page shows what the pairs do.
pub record LeafShows (c : Contents) (h t : ℕ) (pairs : List Pair) : Type 0 where
  pub depth : depth_of c.bits h ≡ t
  pub shows : (k : List ℕ) → low (hash k) t ≡ low h t → look k (c.pages (low h t)) ≡ look k pairs

-- one split
module _ (c : Contents) (h t : ℕ) (pairs : List Pair) (at : LeafShows c h t pairs) where
  abbrev lower : ℕ
  lower = low h t

  abbrev upper : ℕ
  upper = low h t + 2 ^ t

  abbrev bits' : ℕ → Bool
  bits' = set_bit c.bits (node h t)

  -- the pages after the first write, and after the third
  abbrev pages1 : ℕ → List Pair
  pages1 = put c.pages upper (falling (suc t) upper pairs)

  abbrev pages3 : ℕ → List Pair
  pages3 = put pages1 lower (falling (suc t) lower pairs)

  apart : upper ≡ lower → ⊥
  apart e = omega (arith, pow_pos t)

  -- a half of the pairs, sought through for a key whose lookup ends on the page and goes to that half
  found : (p : ℕ) (k : List ℕ) → page_of c.bits (hash k) ≡ lower → low (hash k) t ≡ lower → low (hash k) (suc t) ≡ p → look k (falling (suc t) p pairs) ≡ held c k
  found p k home e q = look_falling (suc t) p k pairs q ∙ sym (at.shows k e) ∙ ap (λ (x : ℕ). look k (c.pages x)) (sym home)

  -- after the first write: no lookup ends at the page that it is to
  after_one : (k : List ℕ) → look k (pages1 (page_of c.bits (hash k))) ≡ held c k
  after_one k =
      let g = hash k in
      ap (look k) (put_other c.pages upper (falling (suc t) upper pairs) (page_of c.bits g)
      (λ e. upper_fresh c.bits g h (e ∙ ap (λ (d : ℕ). low h d + 2 ^ d) (sym at.depth))))

  -- after the second: the upper half is sought through on its page, and the lower still on the whole one
  after_two : MaySet c.bits h t → (k : List ℕ) → look k (pages1 (page_of bits' (hash k))) ≡ held c k
  after_two may k = by (moved c.bits h t (hash k) at.depth may)
    where
      g : ℕ
      g = hash k

      by : Moved c.bits h t g → look k (pages1 (page_of bits' g)) ≡ held c k
      by (stays home e q to) =
          ap (λ (p : ℕ). look k (pages1 p)) to
          ∙ ap (look k) (put_other c.pages upper (falling (suc t) upper pairs) lower (λ z. apart (sym z)))
          ∙ ap (λ (p : ℕ). look k (c.pages p)) (sym home)
      by (rises home e q to) =
          ap (λ (p : ℕ). look k (pages1 p)) to ∙ ap (look k) (put_here c.pages upper (falling (suc t) upper pairs) upper refl) ∙ found upper k home e q
      by (away n to) = ap (λ (p : ℕ). look k (pages1 p)) to ∙ after_one k

  -- after the third: each half is sought through on its page
  after_three : MaySet c.bits h t → (k : List ℕ) → look k (pages3 (page_of bits' (hash k))) ≡ held c k
  after_three may k = by (moved c.bits h t (hash k) at.depth may)
    where
      g : ℕ
      g = hash k

      off : (p : ℕ) → (p ≡ lower → ⊥) → look k (pages3 p) ≡ look k (pages1 p)
      off p n = ap (look k) (put_other pages1 lower (falling (suc t) lower pairs) p n)

      by : Moved c.bits h t g → look k (pages3 (page_of bits' g)) ≡ held c k
      by (stays home e q to) =
          ap (λ (p : ℕ). look k (pages3 p)) to ∙ ap (look k) (put_here pages1 lower (falling (suc t) lower pairs) lower refl) ∙ found lower k home e q
      by (rises home e q to) =
          ap (λ (p : ℕ). look k (pages3 p)) to
          ∙ off upper apart
          ∙ ap (look k) (put_here c.pages upper (falling (suc t) upper pairs) upper refl)
          ∙ found upper k home e q
      by (away n to) = ap (λ (p : ℕ). look k (pages3 p)) to ∙ off (page_of c.bits g) n ∙ after_one k

  -- the page of h is then the one that its next bit names, and has the pairs' part with that bit
  own_half : pages3 (low h (suc t)) ≡ falling (suc t) (low h (suc t)) pairs
  own_half =
      let on : ℕ → List Pair = λ x. falling (suc t) x pairs in
      ⊎_elim
      (λ (e : low h (suc t) ≡ lower). put_here pages1 lower (on lower) (low h (suc t)) e ∙ ap on (sym e))
      (λ (e : low h (suc t) ≡ upper).
      put_other pages1 lower (on lower) (low h (suc t)) (λ q. apart (sym e ∙ q))
      ∙ put_here c.pages upper (on upper) (low h (suc t)) e
      ∙ ap on (sym e))
      (half h t)

  -- and its lookup ends there
  pub leaf_next : MaySet c.bits h t → LeafShows (all_made (split pairs h t) c) h (suc t) pairs
  leaf_next may = record {
    depth = deeper c.bits h t at.depth may;
    shows = λ k e. ap (look k) own_half ∙ look_falling (suc t) (low h (suc t)) k pairs e;
  }

-- what the bits have to be for more splits than one

node_mono : (h s t : ℕ) → s ≤ t → node h s ≤ node h t
node_mono h s zero l = let e : s ≡ zero = omega arith in rw e (omega arith)
node_mono h s (suc t) l = ⊎_elim (λ e. rw e (omega arith)) (λ k. omega (arith, node_mono h s t (le_of_suc-le-suc k))) (eq-or-lt_of_le l)

none_under_set : (bits : ℕ → Bool) (h s t : ℕ) → s ≤ t → NoneUnder bits (node h t) → NoneUnder (set_bit bits (node h s)) (node h t)
none_under_set bits h s t l none =
    let m = node_mono h s t l in
    (set_other bits (node h s) (2 * node h t + 1) (omega arith) ∙ none.0, set_other bits (node h s) (2 * node h t + 2) (omega arith) ∙ none.1)

may_now : (bits : ℕ → Bool) (h t s : ℕ) → MaySplit bits h t (suc s) → MaySet bits h t
may_now bits h t s may = (omega (arith, may.limit), subst (λ (u : ℕ). suc u < 15 → NoneUnder bits (node h u)) (add-zero t) (may.clear 0 (omega arith)))

may_next : (bits : ℕ → Bool) (h t s : ℕ) → MaySplit bits h t (suc s) → MaySplit (set_bit bits (node h t)) h (suc t) s
may_next bits h t s may = record {
  limit = omega (arith, may.limit);
  clear = λ j l.
      let e : t + suc j ≡ suc t + j = omega arith in
      subst (λ (u : ℕ). suc u < 15 → NoneUnder (set_bit bits (node h t)) (node h u)) e
      (λ k. none_under_set bits h t (t + suc j) (omega arith) (may.clear (suc j) (omega arith) k));
}

-- any front of the writes of the splits changes nothing that is held
pub splits_keep : (s : ℕ) (c : Contents) (h t : ℕ) (pairs : List Pair) → LeafShows c h t pairs → MaySplit c.bits h t s
    → (n : ℕ) (k : List ℕ) → held (all_made (take n (splits pairs h t s)) c) k ≡ held c k
splits_keep s c h t pairs at may zero k = refl
splits_keep zero c h t pairs at may (suc n) k = refl
splits_keep (suc s) c h t pairs at may (suc zero) k = after_one c h t pairs at k
splits_keep (suc s) c h t pairs at may (suc (suc zero)) k = after_two c h t pairs at (may_now c.bits h t s may) k
splits_keep (suc s) c h t pairs at may (suc (suc (suc n))) k =
    splits_keep s (all_made (split pairs h t) c) h (suc t) pairs (leaf_next c h t pairs at (may_now c.bits h t s may)) (may_next c.bits h t s may) n k
    ∙ after_three c h t pairs at (may_now c.bits h t s may) k

-- after all of them the lookup of h ends so many levels deeper
pub splits_end : (s : ℕ) (c : Contents) (h t : ℕ) (pairs : List Pair) → LeafShows c h t pairs → MaySplit c.bits h t s → LeafShows (all_made (splits pairs h t s) c) h (t + s) pairs
splits_end zero c h t pairs at may = rw (add-zero t) at
splits_end (suc s) c h t pairs at may =
    let e : suc t + s ≡ t + suc s = omega arith in
    subst (λ (u : ℕ). LeafShows (all_made (splits pairs h t (suc s)) c) h u pairs) e
    (splits_end s (all_made (split pairs h t) c) h (suc t) pairs (leaf_next c h t pairs at (may_now c.bits h t s may)) (may_next c.bits h t s may))
