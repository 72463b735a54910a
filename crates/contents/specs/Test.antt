-- Which pages are good, and where a key's value lies, as functions, so that an answer can be written down as one.
use Rattle.std.specs.Prelude.{ℕ, ◌+◌, ◌*◌, ◌%◌, Bool, not, List, length, Option, find, ◌==◌, ◌&&◌, nat_le, nat_lt}
use Rattle.keys.specs.Same.{same}
use Rattle.pages.specs.Page.{count, key_at, key_end, key_of, pairs, val_at}
use Rattle.pages.specs.Read.{Place, val_place}
use Rattle.std.specs.List.{list_all, range_with_len}
use Rattle.std.specs.Option.{option_map}

-- every number below n passes
abbrev pub each_below : (ℕ → Bool) → ℕ → Bool
each_below test n = list_all test (range_with_len 0 n)

-- The conditions of a good page. That the test is true exactly of the good pages is a law.
unfoldable pub is_good : List ℕ → Bool
is_good page =
    (length page == 1024) && (count page % 2 == 0) && nat_le (count page) 510
    && each_below (λ k. nat_lt (key_at page k) (key_end page k) && nat_le (val_at page k) (key_at page k)) (pairs page)
    && nat_le (2 * (count page + 1)) (key_end page (pairs page))
    && each_below (λ j. each_below (λ i. not (same (key_of page i) (key_of page j))) j) (pairs page)

-- where the value of the first pair with the key lies
unfoldable pub place_of : List ℕ → List ℕ → Option Place
place_of page key = option_map (val_place page) (find (λ k. same (key_of page k) key) (range_with_len 0 (pairs page)))
