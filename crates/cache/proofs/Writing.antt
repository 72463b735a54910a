-- A write.
use Rattle.std.proofs.Common.{◌≡◌, ℕ, ◌<◌, Bool, true, cond, eqb, List, length, ap, ◌∙◌, rules}
use Rattle.cache.proofs.Showing.{put_block}
use Rattle.cache.specs.Shown.{shown, cached}
use Rattle.cache.specs.declared.frames.Frame.{Frame}
use Rattle.devices.specs.Meaning.{Meaning, put}
use Rattle.devices.specs.Step.{Kept, Wrote}

pub wrote : (q p : List Frame) (n : ℕ) (bytes : List ℕ) (c e : Meaning) → Kept c (cached q e) → length bytes ≡ 1024 → n < c.limit → c.held n ≡ true
    → ((k : ℕ) (b : List ℕ) → shown p k b ≡ cond (eqb k n) bytes (shown q k b)) → Wrote c n bytes (cached p e)
wrote q p n bytes c e kept size range held s =
    record {
      stays = search rules;
      buffer = size;
      range = range;
      was_held = held;
      held = kept.held;
      left = kept.left;
      block = put_block q p n bytes e (ap (λ (t : ℕ → Bool). t n) kept.held ∙ held) s ∙ ap (λ (g : ℕ → List ℕ). put g n bytes) kept.block;
    }
