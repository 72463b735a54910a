-- What a run answers, and what a cache changes of it.
use Rattle.std.proofs.Common.{◌≡◌, ℕ, Option, Some, None, IfSome, refl, ap, subst, ◌∙◌, inl, inr}
use Rattle.bench_api.specs.Runs.{Counts}
use Rattle.cache.specs.Shown.{renamed}
use Rattle.contents.specs.Blocks.{Blocks, blocks_of}
use Rattle.contents.specs.Contents.{Contents, contents_of}
use Rattle.devices.specs.Meaning.{Meaning}
use Rattle.std.specs.Option.{unwrap_or}

pub counts : (n r : ℕ) (count : Option ℕ) → IfSome count (λ k. k ≡ n) → r ≡ unwrap_or count 18446744073709551615 → Counts n r
counts n r None h e = inl e
counts n r (Some k) h e = inr (e ∙ h)

-- under a cache with no frames the blocks are the same
same_blocks : (d : Meaning) → blocks_of (renamed d) ≡ blocks_of d
unfolding blocks_of
same_blocks d = refl

pub through_cache : (run : Contents → ℕ) (d e : Meaning) (count : Option ℕ) → e ≡ renamed d → IfSome count (λ k. k ≡ run (contents_of (blocks_of e))) → IfSome count (λ k. k ≡ run (contents_of (blocks_of d)))
through_cache run d e count is h =
    subst (λ (blocks : Blocks). IfSome count (λ k. k ≡ run (contents_of blocks))) (ap blocks_of is ∙ same_blocks d) h
