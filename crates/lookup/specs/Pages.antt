-- A page that was read, and whether it is good.
use Rattle.std.specs.Prelude.{◌≡◌, ℕ, true, false, List, Ok, Err, Result}
use Rattle.contents.specs.Test.{is_good}
use Rattle.devices.specs.Step.{fault}
use Rattle.faults.specs.declared.Fault.{Fault}
use Rattle.faults.specs.declared.Layer.TheVariants.{Database}
use Rattle.faults.specs.declared.Refusal.TheVariants.{BadPage}
use Rattle.pages.specs.Blank.{bytes_of}
use Rattle.pages.specs.declared.page.PairPage.{PairPage}

-- block n is no good page
abbrev pub bad_page : ℕ → Fault
bad_page n = fault BadPage Database n

-- the bytes of block n as a page, or the refusal that names the block
abbrev pub GoodPage : List ℕ → ℕ → Result PairPage Fault → Type 0
GoodPage bytes n (Ok page) = (is_good bytes ≡ true) × (bytes_of page.good ≡ bytes)
GoodPage bytes n (Err f) = (is_good bytes ≡ false) × (f ≡ bad_page n)
