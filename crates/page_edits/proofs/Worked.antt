-- The worked cases.
use Rattle.std.proofs.Common.{◌≡◌, ℕ, zero, suc, ◌<◌, ◌≤◌, false, List, [], ◌∷◌, refl, arith}
use Rattle.keys.specs.Hash.{hash}
use Rattle.keys.specs.Same.{same}
use Rattle.pages.specs.Page.{Good, Pair, key_at, key_end, pairs, val_at}
use Rattle.page_edits.specs.Laws.{Cases, two_offsets}
use Rattle.page_edits.specs.Write.{key_in, written}

abbrev six : List ℕ
six = two_offsets 1023 6

six_laid : (k : ℕ) → k < pairs six → (key_at six k < key_end six k) × (val_at six k ≤ key_at six k)
six_laid zero h = (omega arith, omega arith)
six_laid (suc k) h = absurd (omega arith)

six_good : Good six
six_good = record {
  whole = refl;
  even = refl;
  few = omega arith;
  laid = six_laid;
  room = omega arith;
  apart = λ i j h. absurd (omega arith);
}

pub cases : Cases
unfolding hash written
cases = record {
  hash_a = refl;
  hash_ab = refl;
  hash_abc = refl;
  hash_80 = refl;
  two_pairs = refl;
  last_six = six_good;
  last_five = λ g. omega (arith, g.room);
  six_more = λ p q a b np nq ne. record {
    named = (np, (nq, tt));
    apart = λ i j h. two p q ne i j h;
    room = omega arith;
  };
  seven_more = λ p q a b f. omega (arith, f.room);
}
  where
    two : (p q : Pair) → same p.0 q.0 ≡ false → (i j : ℕ) → (i < j) × (j < 2) → same (key_in (p ∷ q ∷ []) i) (key_in (p ∷ q ∷ []) j) ≡ false
    two p q ne zero zero h = absurd (omega arith)
    two p q ne zero (suc zero) h = ne
    two p q ne zero (suc (suc j)) h = absurd (omega arith)
    two p q ne (suc i) j h = absurd (omega arith)
