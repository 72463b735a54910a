-- Where a lookup ends, and which hashes end there together.
use Rattle.std.proofs.Common.{◌≡◌, ℕ, zero, suc, ◌+◌, ◌*◌, ◌/◌, ◌^◌, ◌<◌, ◌≤◌, Bool, true, eqb, sym, refl, ap, ◌∙◌, subst, ⊎_elim, le_of_suc-le-suc, eq-or-lt_of_le, pow-suc, arith, pow_mono}
use native.Mathlib.Nat.{mod-mod, mod-one}
use Rattle.std.proofs.lemmas.Bool.{cond_both, cases_order, cases_lt, cases_eq, both_ways, eq-eqb, ne_eqb}
use Rattle.std.proofs.lemmas.Bool.Decides.{nat_tests}
use Rattle.directory.specs.Tree.{bit, low, child, descend, lookup, index_of, depth_of, page_of, node, Ends}
use Rattle.directory.specs.Laws.{EndsThere, EndsOnce, IndexOnWay, WayGoesDown, WaysPart, IndexBelow, PageBelow, PageReachable, Home}
use Rattle.directory.proofs.Low.{low_lt, low_suc, bit_low, low_low, low_fewer}

-- the indexes on a hash's way

pub way_goes_down : WayGoesDown
way_goes_down h t = next (bit h t) (node h t) (omega arith)
  where
    next : (b i : ℕ) → b < 2 → 2 * i + 1 + b ≡ child i b
    next b i l = grind (arith, nat_tests)

pub node_lt : (h t : ℕ) → t < 15 → node h t < 32767
node_lt h t l = let m = pow_mono {i = suc t} {j = 15} l in omega (arith, room h t)
  where
    room : (h t : ℕ) → node h t + 2 ≤ 2 ^ suc t
    room h zero = omega arith
    room h (suc t) = omega (arith, room h t, pow-suc 2 (suc t))

pub ways_part : WaysPart
ways_part g h zero zero e = (refl, mod-one g ∙ sym (mod-one h))
ways_part g h zero (suc t) e = absurd (omega arith)
ways_part g h (suc s) zero e = absurd (omega arith)
ways_part g h (suc s) (suc t) e =
    let n : node g s ≡ node h t = omega arith in
    let b : bit g s ≡ bit h t = omega arith in
    let p = (ways_part g h s t n).0 in
    let q = (ways_part g h s t n).1 in
    (ap suc p, cc (low_suc g s, low_suc h t))

-- hashes that agree in t low bits are at one index at depth t
pub node_agree : (g h t : ℕ) → low g t ≡ low h t → node g t ≡ node h t
node_agree g h zero e = refl
node_agree g h (suc t) e =
    let n = node_agree g h t (low_fewer g h t (suc t) (omega arith) e) in
    let b : bit g t ≡ bit h t = sym (bit_low g t) ∙ ap (λ (x : ℕ). x / 2 ^ t) e ∙ bit_low h t in
    cc

-- the end of a lookup

pub below_suc : (P : ℕ → Type 0) (t : ℕ) → ((s : ℕ) → s < t → P s) → P t → (s : ℕ) → s < suc t → P s
below_suc P t all here s l = ⊎_elim (λ e. subst P (sym e) here) (λ k. all s k) (eq-or-lt_of_le (le_of_suc-le-suc l))

pub ends_unique : (bits : ℕ → Bool) (h d e : ℕ) → Ends bits h d → Ends bits h e → d ≡ e
ends_unique bits h d e x y =
    ⊎_elim (λ q. q) (λ w. absurd (⊎_elim (not_sooner d e x y) (not_sooner e d y x) w)) (cases_order d e)
  where
    not_sooner : (d e : ℕ) → Ends bits h d → Ends bits h e → d < e → ⊥
    not_sooner d e x y l = both_ways (bits (node h d)) (x.clear (omega arith)) (y.above d l)

-- an index and a depth at which the lookup of h ends
abbrev Done : (ℕ → Bool) → ℕ → ℕ × ℕ → Type 0
Done bits h r = Ends bits h r.1 × (r.0 ≡ node h r.1)

descend_done : (bits : ℕ → Bool) (h n t : ℕ) → n + t ≡ 15 → ((s : ℕ) → s < t → bits (node h s) ≡ true) → Done bits h (descend bits h n (node h t) t)
descend_done bits h zero t e a = (record { limit = omega arith; above = a; clear = λ l. absurd (omega arith) }, refl)
descend_done bits h (suc n) t e a =
    let i = node h t in
    cond_both (bits i) (descend bits h n (child i (bit h t)) (suc t)) (i, t) (Done bits h)
    (λ b. subst (λ (j : ℕ). Done bits h (descend bits h n j (suc t))) (way_goes_down h t)
    (descend_done bits h n (suc t) (omega arith) (below_suc (λ s. bits (node h s) ≡ true) t a b)))
    (λ b. (record { limit = omega arith; above = a; clear = λ _. b }, refl))

lookup_done : (bits : ℕ → Bool) (h : ℕ) → Done bits h (lookup bits h)
unfolding lookup
lookup_done bits h = descend_done bits h 15 0 refl (λ s l. absurd (omega arith))

pub ends_there : EndsThere
unfolding depth_of
ends_there bits h = (lookup_done bits h).0

pub index_on_way : IndexOnWay
unfolding index_of depth_of
index_on_way bits h = (lookup_done bits h).1

pub ends_once : EndsOnce
ends_once bits h d x = ends_unique bits h d (depth_of bits h) x (ends_there bits h)

pub depth_limit : (bits : ℕ → Bool) (h : ℕ) → depth_of bits h ≤ 15
depth_limit bits h = (ends_there bits h).limit

pub index_below : IndexBelow
index_below bits h l = rw (index_on_way bits h) (node_lt h (depth_of bits h) l)

pub page_below : PageBelow
page_below bits h = let m = pow_mono {j = 15} (depth_limit bits h) in omega (arith, low_lt h (depth_of bits h))

-- hashes that agree

pub ends_agree : (bits : ℕ → Bool) (g h d : ℕ) → low g d ≡ low h d → Ends bits h d → Ends bits g d
ends_agree bits g h d e x =
    record {
      limit = x.limit;
      above = λ s l. ap bits (node_agree g h s (low_fewer g h s d (omega arith) e)) ∙ x.above s l;
      clear = λ l. ap bits (node_agree g h d e) ∙ x.clear l;
    }

pub depth_agree : (bits : ℕ → Bool) (g h : ℕ) → low g (depth_of bits h) ≡ page_of bits h → depth_of bits g ≡ depth_of bits h
depth_agree bits g h e = sym (ends_once bits g (depth_of bits h) (ends_agree bits g h (depth_of bits h) e (ends_there bits h)))

pub page_agree : (bits : ℕ → Bool) (g h : ℕ) → low g (depth_of bits h) ≡ page_of bits h → page_of bits g ≡ page_of bits h
page_agree bits g h e = ap (low g) (depth_agree bits g h e) ∙ e

pub page_reachable : PageReachable
page_reachable bits h = page_agree bits (page_of bits h) h (mod-mod h (2 ^ depth_of bits h))

-- lookups that end at one page end at one depth
pub page_depth : (bits : ℕ → Bool) (g h : ℕ) → page_of bits g ≡ page_of bits h → depth_of bits g ≡ depth_of bits h
page_depth bits g h e = ⊎_elim (λ l. less g h e (omega arith)) (λ l. sym (less h g (sym e) l)) (cases_lt (depth_of bits g) (depth_of bits h))
  where
    less : (g h : ℕ) → page_of bits g ≡ page_of bits h → depth_of bits g ≤ depth_of bits h → depth_of bits g ≡ depth_of bits h
    less g h e l =
        let d = depth_of bits g in
        sym (depth_agree bits h g (sym (low_low h d (depth_of bits h) l) ∙ ap (λ (x : ℕ). low x d) (sym e) ∙ mod-mod g (2 ^ d)))

pub page_low : (bits : ℕ → Bool) (g h : ℕ) → page_of bits g ≡ page_of bits h → low g (depth_of bits h) ≡ page_of bits h
page_low bits g h e = sym (ap (low g) (page_depth bits g h e)) ∙ e

pub home : Home
home bits g h = (λ e. (page_agree bits g h e, depth_agree bits g h e), page_low bits g h)

-- the same as a test
pub home_test : (bits : ℕ → Bool) (g h : ℕ) → eqb (low g (depth_of bits h)) (page_of bits h) ≡ eqb (page_of bits g) (page_of bits h)
home_test bits g h =
    let p = page_of bits h in
    let a = low g (depth_of bits h) in
    ⊎_elim
    (λ e. eq-eqb a p e ∙ sym (eq-eqb (page_of bits g) p (page_agree bits g h e)))
    (λ n. ne_eqb a p n ∙ sym (ne_eqb (page_of bits g) p (λ e. n (page_low bits g h e))))
    (cases_eq a p)
