-- What a write over bytes leaves of them.
use Rattle.std.proofs.Common.{◌≡◌, ℕ, ◌+◌, ◌-◌, ◌≤◌, List, ◌++◌, length, take, drop, refl, sym, ap, ◌∙◌, arith}
use Rattle.devices.specs.Bytes.{put}
use Rattle.std.proofs.lemmas.List.{drop_at, drop-drop, length-take-le, take-append-drop, take-append-le, take_at}
use Rattle.std.proofs.lemmas.List.Edits.{drop-paste, length-paste, paste_all}

module _ (s bs : List ℕ) (i : ℕ) (room : i + length bs ≤ length s) where
  front : length (take i s) ≡ i
  front = length-take-le i s (omega arith)

  pub put_length : length (put s i bs) ≡ length s
  put_length = ap length (sym (paste_all s i bs (length bs) refl)) ∙ length-paste s i bs (length bs) room (omega arith)

  pub put_same : take (length bs) (drop i (put s i bs)) ≡ bs
  put_same = ap (take (length bs)) (drop_at (take i s) (bs ++ drop (i + length bs) s) i front) ∙ take_at bs (drop (i + length bs) s) (length bs) refl

  pub put_below : (j : ℕ) → j ≤ i → take j (put s i bs) ≡ take j s
  put_below j h =
      take-append-le j (take i s) (bs ++ drop (i + length bs) s) (omega (arith, front))
      ∙ sym (take-append-le j (take i s) (drop i s) (omega (arith, front)))
      ∙ ap (take j) (take-append-drop i s)

  pub put_above : (j : ℕ) → i + length bs ≤ j → drop j (put s i bs) ≡ drop j s
  put_above j h =
      let more : i + length bs + (j - (i + length bs)) ≡ j = omega arith in
      let past : drop (i + length bs) (put s i bs) ≡ drop (i + length bs) s =
      ap (drop (i + length bs)) (sym (paste_all s i bs (length bs) refl)) ∙ drop-paste s i bs (length bs) (omega arith) (omega arith) in
      let from : (t : List ℕ) → drop (j - (i + length bs)) (drop (i + length bs) t) ≡ drop j t = λ t. drop-drop (j - (i + length bs)) (i + length bs) t ∙ ap (λ (k : ℕ). drop k t) more in
      sym (from (put s i bs)) ∙ ap (drop (j - (i + length bs))) past ∙ from s
