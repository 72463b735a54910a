-- The frames of a ring, and the newest of a number.
use Rattle.std.proofs.Common.{◌≡◌, ℕ, zero, suc, ◌+◌, ◌%◌, ◌<◌, ◌≤◌, true, false, cond, eqb, ◌≢◌, List, [], ◌∷◌, ◌++◌, length, set, Some, None, Option, sym, refl, ap, ◌∙◌, ap₂, add-one, arith, get_or-set_other, get_or-set_same}
use Rattle.cache.specs.InUse.{Newest, newest, or_first, ring}
use Rattle.cache.specs.Whole.{Whole, at, none}
use Rattle.cache.specs.declared.frames.Frame.{Frame}
use Rattle.std.proofs.lemmas.Bool.{eq-eqb, ne_eqb}

pub length_ring : (fs : List Frame) (s c : ℕ) → length (ring fs s c) ≡ c
length_ring fs s zero = refl
length_ring fs s (suc c) = ap suc (length_ring fs (s + 1) c)

pub ring_at : (fs : List Frame) (s c i : ℕ) → i < c → at (ring fs s c) i ≡ at fs ((s + i) % 8)
ring_at fs s zero i h = absurd (omega arith)
ring_at fs s (suc c) zero h = ap (λ k. at fs (k % 8)) (omega arith)
ring_at fs s (suc c) (suc i) h = ring_at fs (s + 1) c i (omega arith) ∙ ap (λ k. at fs (k % 8)) (omega arith)

-- only the place in the ring counts
pub ring_mod : (fs : List Frame) (s t c : ℕ) → s % 8 ≡ t % 8 → ring fs s c ≡ ring fs t c
ring_mod fs s t zero h = refl
ring_mod fs s t (suc c) h = ap₂ (λ (f : Frame) q. f ∷ q) (ap (at fs) h) (ring_mod fs (s + 1) (t + 1) c (omega arith))

-- one more at the end
pub ring_more : (fs : List Frame) (s c : ℕ) → ring fs s (suc c) ≡ ring fs s c ++ at fs ((s + c) % 8) ∷ []
ring_more fs s zero = ap (λ k. at fs (k % 8) ∷ []) (omega arith)
ring_more fs s (suc c) =
    ap (λ q. at fs (s % 8) ∷ q) (ring_more fs (s + 1) c ∙ ap (λ k. ring fs (s + 1) c ++ at fs (k % 8) ∷ []) (omega arith))

-- a change at a place that none of them has
pub ring_apart : (fs : List Frame) (s c k : ℕ) (f : Frame) → ((i : ℕ) → i < c → (s + i) % 8 ≡ k → ⊥) → ring (set fs k f) s c ≡ ring fs s c
ring_apart fs s zero k f h = refl
ring_apart fs s (suc c) k f h =
    let ne : s % 8 ≢ k = λ e. h 0 (omega arith) (ap (λ j. j % 8) (omega arith) ∙ e) in
    ap₂ (λ (g : Frame) q. g ∷ q) (get_or-set_other fs k (s % 8) f none ne) (ring_apart fs (s + 1) c k f (λ i l e. h (suc i) (omega arith) (ap (λ j. j % 8) (omega arith) ∙ e)))

-- the frame at one place is overwritten
pub ring_set : (fs : List Frame) (s c i : ℕ) (f : Frame) → length fs ≡ 8 → c ≤ 8 → i < c → ring (set fs ((s + i) % 8) f) s c ≡ set (ring fs s c) i f
ring_set fs s zero i f n b h = absurd (omega arith)
ring_set fs s (suc c) zero f n b h =
    let e : (s + 0) % 8 ≡ s % 8 = ap (λ j. j % 8) (omega arith) in
    let l : s % 8 < length fs = omega arith in
    ap₂ (λ (g : Frame) q. g ∷ q)
    (ap (λ k. at (set fs k f) (s % 8)) e ∙ get_or-set_same fs (s % 8) f none l)
    (ring_apart fs (s + 1) c ((s + 0) % 8) f (λ i l e. omega arith))
ring_set fs s (suc c) (suc i) f n b h =
    let ne : s % 8 ≢ (s + suc i) % 8 = omega arith in
    ap₂ (λ (g : Frame) q. g ∷ q)
    (get_or-set_other fs ((s + suc i) % 8) (s % 8) f none ne)
    (ap (λ k. ring (set fs (k % 8) f) (s + 1) c) (omega arith) ∙ ring_set fs (s + 1) c i f n (omega arith) (omega arith))

-- a free frame is filled as the newest
pub ring_push : (fs : List Frame) (s c : ℕ) (f : Frame) → length fs ≡ 8 → c < 8 → ring (set fs ((s + c) % 8) f) s (c + 1) ≡ ring fs s c ++ f ∷ []
ring_push fs s c f n h =
    let k : (s + c) % 8 < length fs = omega arith in
    ap (ring (set fs ((s + c) % 8) f) s) (add-one c)
    ∙ ring_more (set fs ((s + c) % 8) f) s c
    ∙ ap₂ (λ q (g : Frame). q ++ g ∷ []) (ring_apart fs s c ((s + c) % 8) f (λ i l e. omega arith)) (get_or-set_same fs ((s + c) % 8) f none k)

-- the frames in use are whole
pub ring_whole : (fs : List Frame) (s c i : ℕ) → Whole fs → i < c → length (at (ring fs s c) i).block ≡ 1024
ring_whole fs s c i all h = ap (λ (f : Frame). length f.block) (ring_at fs s c i h) ∙ all ((s + i) % 8) (omega arith)

-- what is so in words is the newest
pub newest_is : (q : List Frame) (n : ℕ) (r : Option ℕ) → Newest q n r → r ≡ newest q n
newest_is [] n (Some i) h = absurd (omega arith)
newest_is [] n None h = refl
newest_is (f ∷ q) n None h =
    let rest : None ≡ newest q n = newest_is q n None (λ j l e. h (suc j) (omega arith) e) in
    let e : eqb n f.number ≡ false = ne_eqb n f.number (λ e. h 0 (omega arith) (sym e)) in
    sym (ap (λ t. cond t (Some 0) None) e) ∙ ap (or_first n f) rest
newest_is (f ∷ q) n (Some zero) h =
    let rest : None ≡ newest q n = newest_is q n None (λ j l e. h.2 (suc j) (omega arith) (omega arith) e) in
    let e : eqb n f.number ≡ true = eq-eqb n f.number (sym h.1) in
    sym (ap (λ t. cond t (Some 0) None) e) ∙ ap (or_first n f) rest
newest_is (f ∷ q) n (Some (suc i)) h =
    let rest : Some i ≡ newest q n = newest_is q n (Some i) (omega arith, h.1, (λ j a l e. h.2 (suc j) (omega arith) (omega arith) e)) in
    ap Some (omega arith) ∙ ap (or_first n f) rest
