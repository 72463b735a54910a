-- What a page that was read is known to be.
use Rattle.std.proofs.Common.{◌≡◌, ℕ, ◌≤◌, Decides, Bor, Option, Some, None, IfSome, is_some, min, List, refl, replicate, ap, ◌∙◌, arith}
use Rattle.pages.specs.Blank.{bytes_of}
use Rattle.pages.specs.Page.{Bytes, Good, key_end, pairs}
use Rattle.pages.proofs.Pages.{blank_bytes, blank_good}
use Rattle.pages.specs.declared.page.PairPage.{PairPage}
use Rattle.std.specs.Option.{unwrap_or}

pub good_in : (p : PairPage) → Good (bytes_of p.good)
good_in p = record { whole = p.whole; even = p.even; few = p.few; laid = p.laid; room = p.room; apart = p.apart }

-- what a check answers is good, and the blank page where it answers none
pub good_given : (page : List ℕ) (good : Option (Bor (List ℕ))) → IfSome good (λ block. block.now ≡ page) → Decides (is_some good) (Good page) → Good (bytes_of good)
good_given page None same holds = blank_good _ refl
good_given page (Some block) same holds = rw same (holds.0 refl)

pub bytes_typed : (page : List ℕ) (good : Option (Bor (List ℕ))) → IfSome good (λ block. block.now ≡ page) → Bytes page → Bytes (bytes_of good)
bytes_typed page None same typed = blank_bytes _ refl
bytes_typed page (Some block) same typed = rw same typed

pub bytes_given : (good : Option (Bor (List ℕ))) (blank : Bor (List ℕ)) → blank.now ≡ replicate 1024 0 → (unwrap_or good blank).now ≡ bytes_of good
bytes_given None blank e = e
bytes_given (Some page) blank e = refl

pub end_at : (page : List ℕ) (k e : ℕ) → k ≤ pairs page → e ≡ key_end page (min k (pairs page)) → e ≡ key_end page k
end_at page k e h q = let m : min k (pairs page) ≡ k = omega arith in q ∙ ap (key_end page) m
