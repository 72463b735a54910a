use Rattle.std.proofs.Common.{◌≡◌, ℕ, ◌+◌, Bool, true, false, cond, List, Option, Some, None, is_some, Ok, Err, Result, refl, sym, ap, ◌∙◌}
use denote.Enum.Bare.{sameb}
use Rattle.calls.specs.Store.{decided, inserts}
use Rattle.calls.specs.contracts.Mode.{the_type}
use Rattle.calls.specs.declared.Mode.{Mode}
use Rattle.calls.specs.declared.Mode.TheVariants.{Insert, Replace}
use Rattle.contents.proofs.Tests.{found_place}
use Rattle.contents.specs.Test.{place_of}
use Rattle.database.proofs.storing.decide.Goals as goal
use Rattle.database.proofs.storing.decide.Goals.{else-eq-via-then-eq+else-is_some, else-eq-via-else-eq}
use Rattle.devices.specs.Step.{fault}
use Rattle.faults.specs.declared.Fault.{Fault}
use Rattle.faults.specs.declared.Layer.TheVariants.{Database}
use Rattle.faults.specs.declared.Refusal.TheVariants.{KeyExists, NoPlan}
use Rattle.pages.proofs.Held.{good_in}
use Rattle.pages.specs.Blank.{bytes_of}
use Rattle.pages.specs.Page.{pairs_of}
use Rattle.pages.specs.Read.{Found, Place}
use Rattle.pages.specs.declared.page.PairPage.{PairPage}
use Rattle.splits.specs.Plan.{plan}
use Rattle.std.proofs.lemmas.Bool.{cond-false, cond-true}
use Rattle.std.specs.Option.{ok_or}

-- whether the mode is that of an insert
abbrev is_insert : Mode → Bool
is_insert mode = sameb the_type mode Insert

inserting : (mode : Mode) (there : Bool) → inserts mode there ≡ cond (is_insert mode) there false
inserting Insert there = refl
inserting Replace there = refl

-- what is decided by a page that was read
module _ (page : PairPage) (t n : ℕ) (key value : List ℕ) (mode : Mode) where
  abbrev bytes : List ℕ
  bytes = bytes_of page.good

  abbrev there : Bool
  there = is_some (place_of bytes key)

  abbrev exists : Result ℕ Fault
  exists = Err (fault KeyExists Database n)

  abbrev by_plan : Option ℕ → Result ℕ Fault
  by_plan o = elim o as (λ _. Result ℕ Fault) [ Some s ↦ Ok s | None ↦ Err (fault NoPlan Database n) ]

  abbrev planned : Result ℕ Fault
  planned = by_plan (plan (pairs_of bytes) key value t)

  insert_finds : is_insert mode ≡ true → (place : Option Place) → Found bytes key place → inserts mode there ≡ is_some place
  insert_finds insert place at =
      inserting mode there ∙ cond-true (is_insert mode) there false insert ∙ ap (λ (p : Option Place). is_some p) (sym (found_place bytes key (good_in page) place at))

  other_mode : is_insert mode ≡ false → inserts mode there ≡ false
  other_mode other = inserting mode there ∙ cond-false (is_insert mode) there false other

  refused : inserts mode there ≡ true → exists ≡ decided bytes t n key value mode
  refused passes = sym (cond-true (inserts mode there) exists planned passes)

  told : (o : Option ℕ) → ok_or o (fault NoPlan Database n) ≡ by_plan o
  told (Some s) = refl
  told None = refl

  accepted : inserts mode there ≡ false → (o : Option ℕ) → o ≡ plan (pairs_of bytes) key value t → ok_or o (fault NoPlan Database n) ≡ decided bytes t n key value mode
  accepted fails o is = told o ∙ ap by_plan is ∙ sym (cond-false (inserts mode there) exists planned fails)

pub returns-then-is_some : goal.returns-then-is_some
returns-then-is_some c =
    let page = c.args.page.now in
    let t = c.args.leaf.now.depth in
    let n = 4 + c.args.leaf.now.page in
    let key = c.args.key.now in
    let value = c.args.value.now in
    let mode = c.args.mode in
    let found = insert_finds page t n key value mode (sym c.eq.ensures ∙ c.if-eq.true) c.find.result c.find.ensures in
    ap Err c.fault.ensures ∙ refused page t n key value mode (found ∙ sym c.is_some.ensures ∙ c.if-is_some.true)

pub returns : goal.returns
returns c =
    let page = c.args.page.now in
    let t = c.args.leaf.now.depth in
    let n = 4 + c.args.leaf.now.page in
    let key = c.args.key.now in
    let value = c.args.value.now in
    let mode = c.args.mode in
    let fails : inserts mode (is_some (place_of (bytes_of page.good) key)) ≡ false =
    elim c.else-eq.branch [
      | else-eq-via-then-eq+else-is_some w ↦
          insert_finds page t n key value mode (sym c.eq.ensures ∙ w.if-eq.true) w.find.result w.find.ensures ∙ sym w.is_some.ensures ∙ w.if-is_some.false
      | else-eq-via-else-eq w ↦ other_mode page t n key value mode (sym c.eq.ensures ∙ w.if-eq.false)
    ] in
    c.ok_or.ensures.value ∙ ap (ok_or c.plan.result) c.fault-2.ensures ∙ accepted page t n key value mode fails c.plan.result c.plan.ensures
