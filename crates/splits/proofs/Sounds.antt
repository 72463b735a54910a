-- Every front of the writes of a store, and the write of a delete, leave the contents sound.
use Rattle.std.proofs.Common.{◌≡◌, ℕ, zero, suc, ◌+◌, ◌*◌, ◌^◌, ◌<◌, ◌≤◌, Bool, false, List, [], ◌∷◌, ◌++◌, length, take, eqb, sym, refl, ap, ◌∙◌, subst, ⊎_elim, add-suc, add-zero, arith, length-append, take_all}
use Rattle.contents.specs.Contents.{Contents, home}
use Rattle.directory.proofs.Bits.{set_here, set_other}
use Rattle.directory.proofs.Lookups.{ends_there, node_lt}
use Rattle.directory.proofs.Splits.{under_clear}
use Rattle.directory.specs.Tree.{Ends, bit, depth_of, low, node, set_bit}
use Rattle.keys.specs.Hash.{hash}
use Rattle.page_edits.specs.Edit.{falling, with_pair}
use Rattle.page_edits.specs.Write.{Fits}
use Rattle.pages.specs.Page.{Pair}
use Rattle.splits.proofs.Rooms.{fits_falling, fits_none, fits_others}
use Rattle.splits.proofs.Splits.{deeper}
use Rattle.splits.proofs.Stores.{all_made_append}
use Rattle.splits.specs.Laws.{BlankSound, DeletesSound, Grown, Sound, SplitsFree, StoresSound}
use Rattle.splits.specs.Writes.{Write, all_made, deleting, depth_at, made, others, pairs_at, split, splits, storing, to_bit, to_page}
use Rattle.std.proofs.lemmas.Bool.{both_ways, cases_eq, cases_lt, cond_both}
use Rattle.std.proofs.lemmas.List.{take-append-le}

pub blank_sound : BlankSound
blank_sound c blank = record {
  grown = λ i _. (blank.clear (2 * i + 1), blank.clear (2 * i + 2));
  past = λ i _. blank.clear i;
  fits = λ p. rw (blank.empty p) fits_none;
}

-- under a clear bit of a way all bits of the way are clear
clear_below : (bits : ℕ → Bool) (h t j : ℕ) → Grown bits → bits (node h t) ≡ false → bits (node h (t + j)) ≡ false
clear_below bits h t zero grown clear = rw (add-zero t) clear
clear_below bits h t (suc j) grown clear =
    let i = node h (t + j) in
    rw (add-suc t j) (under_clear bits i (bit h (t + j)) (omega arith) (grown i (clear_below bits h t j grown clear)))

pub splits_free : SplitsFree
splits_free c sound h s l =
    let t = depth_of c.bits h in
    record {
      limit = l;
      clear = λ j k _. sound.grown (node h (t + j)) (clear_below c.bits h t j sound.grown ((ends_there c.bits h).clear (omega arith)));
    }

-- the writes

pub sound_page : (c : Contents) (p : ℕ) (ps : List Pair) → Sound c → Fits ps → Sound (made (to_page p ps) c)
sound_page c p ps sound f = record {
  grown = sound.grown;
  past = sound.past;
  fits = λ q. cond_both (eqb q p) ps (c.pages q) Fits (λ _. f) (λ _. sound.fits q);
}

-- the leaf is under no clear bit
not_under : (bits : ℕ → Bool) (h t i b : ℕ) → Ends bits h t → bits i ≡ false → b < 2 → 2 * i + 1 + b ≡ node h t → ⊥
not_under bits h zero i b ends clear l e = omega arith
not_under bits h (suc t) i b ends clear l e = let above : i ≡ node h t = omega arith in both_ways (bits i) clear (ap bits above ∙ ends.above t (omega arith))

grown_set : (bits : ℕ → Bool) (h t : ℕ) → Ends bits h t → Grown bits → Grown (set_bit bits (node h t))
grown_set bits h t ends grown i clear = (
  set_other bits (node h t) (2 * i + 1) (λ e. not_under bits h t i 0 ends off (omega arith) (omega arith)) ∙ (grown i off).0,
  set_other bits (node h t) (2 * i + 2) (λ e. not_under bits h t i 1 ends off (omega arith) (omega arith)) ∙ (grown i off).1,
)
  where
    off : bits i ≡ false
    off =
        ⊎_elim
        (λ (e : i ≡ node h t). absurd (both_ways (set_bit bits (node h t) i) clear (set_here bits (node h t) i e)))
        (λ (n : i ≡ node h t → ⊥). sym (set_other bits (node h t) i n) ∙ clear)
        (cases_eq i (node h t))

pub sound_bit : (c : Contents) (h t : ℕ) → depth_of c.bits h ≡ t → t < 15 → Sound c → Sound (made (to_bit (node h t)) c)
sound_bit c h t deep l sound = record {
  grown = grown_set c.bits h t (subst (Ends c.bits h) deep (ends_there c.bits h)) sound.grown;
  past = λ i k. let m = node_lt h t l in set_other c.bits (node h t) i (omega arith) ∙ sound.past i k;
  fits = sound.fits;
}

-- one split
module _ (c : Contents) (h t : ℕ) (pairs : List Pair) (f : Fits pairs) (deep : depth_of c.bits h ≡ t) (l : t < 15) (sound : Sound c) where
  abbrev one : Contents
  one = made (to_page (low h t + 2 ^ t) (falling (suc t) (low h t + 2 ^ t) pairs)) c

  sound_one : Sound one
  sound_one = sound_page c (low h t + 2 ^ t) (falling (suc t) (low h t + 2 ^ t) pairs) sound (fits_falling (suc t) (low h t + 2 ^ t) pairs f)

  sound_two : Sound (made (to_bit (node h t)) one)
  sound_two = sound_bit one h t deep l sound_one

  sound_three : Sound (all_made (split pairs h t) c)
  sound_three = sound_page (made (to_bit (node h t)) one) (low h t) (falling (suc t) (low h t) pairs) sound_two (fits_falling (suc t) (low h t) pairs f)

  next : depth_of (set_bit c.bits (node h t)) h ≡ suc t
  next = deeper c.bits h t deep (l, λ _. sound.grown (node h t) ((subst (Ends c.bits h) deep (ends_there c.bits h)).clear l))

-- any front of the writes of the splits
pub splits_sound : (s : ℕ) (c : Contents) (h t : ℕ) (pairs : List Pair) → Fits pairs → depth_of c.bits h ≡ t → t + s ≤ 15 → Sound c → (n : ℕ) → Sound (all_made (take n (splits pairs h t s)) c)
splits_sound s c h t pairs f deep l sound zero = sound
splits_sound zero c h t pairs f deep l sound (suc n) = sound
splits_sound (suc s) c h t pairs f deep l sound (suc zero) = sound_one c h t pairs f deep (omega arith) sound
splits_sound (suc s) c h t pairs f deep l sound (suc (suc zero)) = sound_two c h t pairs f deep (omega arith) sound
splits_sound (suc s) c h t pairs f deep l sound (suc (suc (suc n))) =
    splits_sound s (all_made (split pairs h t) c) h (suc t) pairs f (next c h t pairs f deep (omega arith) sound) (omega arith)
    (sound_three c h t pairs f deep (omega arith) sound) n

pub stores_sound : StoresSound
unfolding storing
stores_sound s c key value sound l planned n = ⊎_elim front whole (cases_lt n (length all))
  where
    h : ℕ
    h = hash key

    t : ℕ
    t = depth_at c key

    ws : List Write
    ws = splits (pairs_at c key) h t s

    last : Write
    last = to_page (low h (t + s)) (with_pair (others (pairs_at c key) key (t + s)) key value)

    all : List Write
    all = ws ++ last ∷ []

    split_sound : (m : ℕ) → Sound (all_made (take m ws) c)
    split_sound m = splits_sound s c h t (pairs_at c key) (sound.fits (home c key)) refl l sound m

    front : n < length all → Sound (all_made (take n all) c)
    front k =
        let e = take-append-le n ws (last ∷ []) (omega (arith, length-append ws (last ∷ []))) in
        subst (λ (x : List Write). Sound (all_made x c)) (sym e) (split_sound n)

    whole : length all ≤ n → Sound (all_made (take n all) c)
    whole k =
        let m = all_made (take (length ws) ws) c in
        let e : made last m ≡ all_made (take n all) c
        = ap (λ (x : List Write). made last (all_made x c)) (take_all (length ws) ws (omega arith))
        ∙ sym (all_made_append ws (last ∷ []) c)
        ∙ ap (λ (x : List Write). all_made x c) (sym (take_all n all k)) in
        subst Sound e (sound_page m (low h (t + s)) (with_pair (others (pairs_at c key) key (t + s)) key value) (split_sound (length ws)) planned)

pub deletes_sound : DeletesSound
unfolding deleting
deletes_sound c key sound =
    let t = depth_at c key in
    sound_page c (home c key) (others (pairs_at c key) key t) sound (fits_others (pairs_at c key) key t (sound.fits (home c key)))
