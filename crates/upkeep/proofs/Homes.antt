-- The home page of a key in the blocks of a device, and in what they hold.
use Rattle.std.proofs.Common.{◌≡◌, ℕ, Bool, true, false, List, [], ◌∷◌, Option, Some, None, is_some, refl, sym, ap, ◌∙◌, ⊎_elim}
use Rattle.calls.specs.Delete.{has_key, home_depth, home_pairs}
use Rattle.calls.specs.Fetch.{home_bytes, home_page}
use Rattle.contents.proofs.Held.{contents_bits, contents_pages}
use Rattle.contents.proofs.Tests.{pairs_good, place_found}
use Rattle.contents.specs.Blocks.{Blocks, page_in}
use Rattle.contents.specs.Contents.{contents_of, held, home, pairs_in}
use Rattle.contents.specs.Test.{place_of}
use Rattle.directory.specs.Tree.{depth_of, page_of}
use Rattle.keys.specs.Hash.{hash}
use Rattle.keys.specs.Same.{same}
use Rattle.page_edits.specs.Edit.{dropped}
use Rattle.pages.specs.Page.{Good, Pair, look}
use Rattle.pages.specs.Read.{Found, Place}
use Rattle.splits.specs.Writes.{depth_at, pairs_at}
use Rattle.std.proofs.lemmas.Bool.{cases_Bool, cond-false, cond-true}
use Rattle.std.proofs.lemmas.Option.{none-some}

module _ (blocks : Blocks) (key : List ℕ) where
  pub home_is : home (contents_of blocks) key ≡ home_page blocks key
  home_is = ap (λ (bits : ℕ → Bool). page_of bits (hash key)) (contents_bits blocks)

  pub depth_is : depth_at (contents_of blocks) key ≡ home_depth blocks key
  depth_is = ap (λ (bits : ℕ → Bool). depth_of bits (hash key)) (contents_bits blocks)

  module _ (good : Good (home_bytes blocks key)) where
    pub pairs_are : pairs_at (contents_of blocks) key ≡ home_pairs blocks key
    pairs_are = contents_pages blocks (home (contents_of blocks) key) ∙ ap (λ (p : ℕ). pairs_in (page_in blocks p)) home_is ∙ pairs_good (home_bytes blocks key) good

    -- the key is there where a pair is held for it
    pub key_there : has_key blocks key ≡ is_some (held (contents_of blocks) key)
    key_there = by (place_of (home_bytes blocks key) key) (place_found (home_bytes blocks key) key good) ∙ ap (λ (ps : List Pair). is_some (look key ps)) (sym pairs_are)
      where
        by : (o : Option Place) → Found (home_bytes blocks key) key o → is_some o ≡ is_some (look key (home_pairs blocks key))
        by None f = ap is_some (sym f)
        by (Some p) f = ap is_some (sym f.3)

-- a list without the key stays as it is where the key is dropped
pub dropped_none : (key : List ℕ) (ps : List Pair) → look key ps ≡ None → dropped key ps ≡ ps
dropped_none key [] e = refl
dropped_none key (p ∷ ps) e =
    ⊎_elim
    (λ (t : same p.0 key ≡ true). absurd (none-some p (sym e ∙ cond-true (same p.0 key) (Some p) (look key ps) t)))
    (λ (f : same p.0 key ≡ false). rw f (ap (λ (qs : List Pair). p ∷ qs) (dropped_none key ps (sym (cond-false (same p.0 key) (Some p) (look key ps) f) ∙ e))))
    (cases_Bool (same p.0 key))
