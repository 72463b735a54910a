-- What setting the bit of a leaf does to lookups.
use Rattle.std.proofs.Common.{◌≡◌, ℕ, zero, suc, ◌+◌, ◌*◌, ◌^◌, ◌<◌, Bool, true, false, sym, ap, ◌∙◌, subst, ⊎_elim, arith, pow_mono}
use native.Mathlib.Nat.{mod-mod, add-mod_right}
use Rattle.std.proofs.lemmas.Bool.{cases_lt}
use Rattle.directory.specs.Tree.{bit, low, index_of, depth_of, page_of, node, Ends, set_bit, NoneUnder}
use Rattle.directory.specs.Laws.{SplitPage}
use Rattle.directory.proofs.Bits.{set_keeps, set_here, set_other}
use Rattle.directory.proofs.Low.{low_lt, low_suc, low_low}
use Rattle.directory.proofs.Lookups.{ways_part, node_agree, below_suc, ends_there, ends_once, index_on_way, ends_agree, depth_agree, page_agree, page_low}

pub under_clear : (bits : ℕ → Bool) (i b : ℕ) → b < 2 → NoneUnder bits i → bits (2 * i + 1 + b) ≡ false
under_clear bits i zero l c = ap bits (omega arith) ∙ c.0
under_clear bits i (suc zero) l c = ap bits (omega arith) ∙ c.1
under_clear bits i (suc (suc b)) l c = absurd (omega arith)

-- a lookup that ended at the leaf goes one level deeper
ends_deeper : (bits : ℕ → Bool) (g h d : ℕ) → d < 15 → Ends bits h d → (suc d < 15 → NoneUnder bits (node h d)) → low g d ≡ low h d → Ends (set_bit bits (node h d)) g (suc d)
ends_deeper bits g h d l x none e =
    let i = node h d in
    let same : node g d ≡ i = node_agree g h d e in
    let y = ends_agree bits g h d e x in
    record {
      limit = l;
      above = below_suc (λ s. set_bit bits i (node g s) ≡ true) d (λ s k. set_keeps bits i (node g s) (y.above s k)) (set_here bits i (node g d) same);
      clear = λ k.
          set_other bits i (node g (suc d)) (omega arith)
          ∙ ap (λ (n : ℕ). bits (2 * n + 1 + bit g d)) same
          ∙ under_clear bits i (bit g d) (omega arith) (none k);
    }

-- one that ended elsewhere does not meet the bit
ends_same : (bits : ℕ → Bool) (g h d e : ℕ) → (low g d ≡ low h d → ⊥) → Ends bits g e → Ends (set_bit bits (node h d)) g e
ends_same bits g h d e n y =
    record {
      limit = y.limit;
      above = λ s l. set_keeps bits (node h d) (node g s) (y.above s l);
      clear = λ l. set_other bits (node h d) (node g e) (λ q. n (subst (λ (k : ℕ). low g k ≡ low h d) (ways_part g h e d q).0 (ways_part g h e d q).1)) ∙ y.clear l;
    }

pub split_page : SplitPage
split_page bits h l none g =
    let d = depth_of bits h in
    let bits' = set_bit bits (index_of bits h) in
    let way = index_on_way bits h in (
      λ q.
          let e = page_low bits g h q in
          let deep : depth_of bits' g ≡ suc d
          = sym (ends_once bits' g (suc d) (rw way (ends_deeper bits g h d l (ends_there bits h) (rw way at none) e))) in
          (deep, ap (low g) deep ∙ low_suc g d ∙ ap (λ (x : ℕ). x + bit g d * 2 ^ d) e),
      λ n.
          let same : depth_of bits' g ≡ depth_of bits g
          = sym (ends_once bits' g (depth_of bits g) (rw way (ends_same bits g h d (depth_of bits g) (λ e. n (page_agree bits g h e)) (ends_there bits g)))) in
          (same, ap (low g) same),
    )

-- no lookup ends at the upper half of a leaf's page before the split
pub upper_fresh : (bits : ℕ → Bool) (g h : ℕ) → page_of bits g ≡ page_of bits h + 2 ^ depth_of bits h → ⊥
upper_fresh bits g h q =
    let d = depth_of bits h in
    let e = depth_of bits g in
    let small = low_lt g e in
    let deeper : d < e = ⊎_elim (λ l. l) (λ l. let m = pow_mono l in absurd (omega arith)) (cases_lt d e) in
    let agree : low g d ≡ page_of bits h
    = sym (low_low g d e (omega arith)) ∙ ap (λ (x : ℕ). low x d) q ∙ add-mod_right (page_of bits h) (2 ^ d) ∙ mod-mod h (2 ^ d) in
    let same = depth_agree bits g h agree in
    omega arith
