-- What a delete leaves of the pairs held, whatever it is answered.
use Rattle.std.proofs.Common.{◌≡◌, ℕ, ◌+◌, ◌<◌, ◌&&◌, Bool, true, false, not, cond, eqb, List, [], ◌∷◌, ◌++◌, length, take, Option, Some, None, is_some, Ok, Err, Result, inl, refl, sym, ap, ◌∙◌, subst, arith}
use Rattle.calls.specs.Delete.{delete_calls, delete_write, deleted, has_key, home_depth, home_pairs}
use Rattle.calls.specs.Fetch.{home_bytes, home_page}
use Rattle.contents.proofs.Joins.{differ_filter}
use Rattle.contents.proofs.Tests.{good_yes}
use Rattle.contents.specs.Blocks.{Blocks, blocks_of}
use Rattle.contents.specs.Contents.{Contents, contents_of, held, home}
use Rattle.contents.specs.Test.{is_good}
use Rattle.devices.specs.Meaning.{Meaning}
use Rattle.devices.specs.Step.{Call, Step, fault, write}
use Rattle.devices.specs.Trace.{Trace}
use Rattle.directory.proofs.Lookups.{page_below}
use Rattle.faults.specs.declared.Fault.{Fault}
use Rattle.faults.specs.declared.Layer.TheVariants.{Database}
use Rattle.faults.specs.declared.Refusal.TheVariants.{EmptyKey}
use Rattle.keys.specs.Hash.{hash}
use Rattle.keys.specs.Same.{same}
use Rattle.lookup.specs.Pages.{bad_page}
use Rattle.lookup.specs.Reads.{home_calls}
use Rattle.page_edits.specs.Edit.{dropped}
use Rattle.page_edits.specs.Write.{written}
use Rattle.pages.specs.Page.{Good, Pair, look}
use Rattle.splits.proofs.Finds.{look_dropped}
use Rattle.splits.proofs.Rooms.{fits_others}
use Rattle.splits.proofs.Sounds.{deletes_sound}
use Rattle.splits.proofs.Stores.{deletes}
use Rattle.splits.specs.Laws.{Sound}
use Rattle.splits.specs.Writes.{all_made, deleting, depth_at, made, others, pairs_at}
use Rattle.std.proofs.lemmas.Bool.{both_ways, true_from_ne_false}
use Rattle.upkeep.proofs.Holds.{blank_page, holding_quiet, holding_same, sane}
use Rattle.upkeep.proofs.Homes.{depth_is, dropped_none, home_is, key_there, pairs_are}
use Rattle.upkeep.proofs.Outcomes.{before, refused, written as after_writes}
use Rattle.upkeep.proofs.Quiet.{home_quiet, quiet_append, quiet_trace, spared}
use Rattle.upkeep.proofs.Writes.{AllMay, Sane, number, write_calls, writes_leave}
use Rattle.upkeep.specs.Holding.{Holding}
use Rattle.upkeep.specs.Laws.{DeleteKeeps, DeleteNever, Never, deleted_pairs}

not_some : (o : Option Pair) → is_some o ≡ false → o ≡ None
not_some None e = refl
not_some (Some p) e = absurd (both_ways true e refl)

module _ (pairs : List Pair) (key : List ℕ) where
  abbrev after : Result Bool Fault → List Pair
  after = deleted_pairs pairs key

  abbrev Fine : Result Bool Fault → Meaning → Type 0
  Fine r e = Holding (after r) e × Never r

  module _ (d : Meaning) (h : Holding pairs d) where
    abbrev c : Contents
    c = contents_of (blocks_of d)

    good : Good (home_bytes (blocks_of d) key)
    good = h.good (home_page (blocks_of d) key)

    -- the home page of a key that is there is held
    home_held : has_key (blocks_of d) key ≡ true → d.held (number (deleting c key)) ≡ true
    unfolding deleting
    home_held there =
        true_from_ne_false (d.held (4 + home c key))
        (λ free.
        let unheld : d.held (4 + home_page (blocks_of d) key) ≡ false = ap (λ (p : ℕ). d.held (4 + p)) (sym (home_is (blocks_of d) key)) ∙ free in
        let blank : home_pairs (blocks_of d) key ≡ [] = blank_page (home_bytes (blocks_of d) key) (h.unclaimed (4 + home_page (blocks_of d) key) unheld) in
        let none : has_key (blocks_of d) key ≡ false = key_there (blocks_of d) key good ∙ ap (λ (ps : List Pair). is_some (look key ps)) (pairs_are (blocks_of d) key good ∙ blank) in
        both_ways (has_key (blocks_of d) key) none there)

    may : AllMay (deleting c key ∷ [])
    unfolding deleting
    may = ((page_below c.bits (hash key), fits_others (pairs_at c key) key (depth_at c key) (h.sound.fits (home c key))), tt)

    -- the write is that of the contents
    calls_are : delete_write (blocks_of d) key ∷ [] ≡ write_calls (blocks_of d) (deleting c key ∷ [])
    unfolding deleting
    calls_are =
        let one : ℕ → List Pair → ℕ → List Call = λ p ps t. write (4 + p) (written (others ps key t)) ∷ [] in
        ap (λ (p : ℕ). one p (home_pairs (blocks_of d) key) (home_depth (blocks_of d) key)) (sym (home_is (blocks_of d) key))
        ∙ ap (λ (ps : List Pair). one (home c key) ps (home_depth (blocks_of d) key)) (sym (pairs_are (blocks_of d) key good))
        ∙ ap (one (home c key) (pairs_at c key)) (sym (depth_is (blocks_of d) key))

    module _ (e : Meaning) where
      whole : Sane e → contents_of (blocks_of e) ≡ made (deleting c key) c → Holding (dropped key pairs) e
      whole s is = record {
        device = s.device;
        unclaimed = s.unclaimed;
        sound = subst Sound (sym is) (deletes_sound c key h.sound);
        good = s.good;
        held = λ k.
            ap (λ (a : Contents). held a k) is ∙ deletes c key k ∙ ap (cond (same key k) None) (h.held k) ∙ sym (look_dropped key k pairs);
        differ = differ_filter (λ p. not (same p.0 key)) pairs h.differ;
      }

      -- the write of a delete
      write_fine : (r : Result Bool Fault) → has_key (blocks_of d) key ≡ true → Trace Step d (delete_write (blocks_of d) key ∷ []) (Ok true) r e → Fine r e
      write_fine r there t =
          let ws = deleting c key ∷ [] in
          let left = writes_leave ws d e true r may (home_held there, tt) (sane pairs d h) (subst (λ (cs : List Call). Trace Step d cs (Ok true) r e) calls_are t) in
          after_writes pairs after (λ f. refl) d e h ws r left (λ _ is. whole left.sane is)
          (λ n l is. holding_same pairs d e h left.sane (is ∙ ap (λ (k : ℕ). all_made (take k ws) c) (none n l)))
        where
          none : (n : ℕ) → n < 1 → n ≡ 0
          none n l = omega arith

    -- where the key is not there, dropping it changes nothing
    absent : has_key (blocks_of d) key ≡ false → dropped key pairs ≡ pairs
    absent none = dropped_none key pairs (sym (h.held key) ∙ not_some (held c key) (sym (key_there (blocks_of d) key good) ∙ none))

  module _ (d e : Meaning) (h : Holding pairs d) (r : Result Bool Fault) where
    abbrev blocks : Blocks
    blocks = blocks_of d

    abbrev Answers : List Call → Result Bool Fault → Type 0
    Answers cs own = Trace Step d cs own r e

    by_there : (there : Bool) → has_key blocks key ≡ there
        → Answers (home_calls blocks (hash key) ++ cond there (delete_write blocks key ∷ []) []) (Ok there)
        → Fine r e
    by_there true is t =
        before pairs after (λ f. refl) d e h (home_calls blocks (hash key)) (delete_write blocks key ∷ []) (Ok true) r (home_quiet blocks (hash key)) t
        (λ m k q u v.
        write_fine m k e r (subst (λ (b : Blocks). has_key b key ≡ true) (sym q.blocks) is)
        (subst (λ (b : Blocks). Trace Step m (delete_write b key ∷ []) (Ok true) r e) (sym q.blocks) v))
    by_there false is t =
        let hs = home_calls blocks (hash key) in
        let quiet = quiet_append hs [] (home_quiet blocks (hash key)) tt in
        let kept = holding_quiet pairs d e h (quiet_trace (hs ++ []) d e (Ok false) r quiet t) in
        before pairs after (λ f. refl) d e h hs [] (Ok false) r (home_quiet blocks (hash key)) t
        (λ m k q u v. subst (λ (a : Result Bool Fault). Fine a e) (sym v.0) (subst (λ (ps : List Pair). Holding ps e) (sym (absent d h is)) kept, tt))

    by_good : (good : Bool) → good ≡ true
        → Answers (home_calls blocks (hash key) ++ cond (good && has_key blocks key) (delete_write blocks key ∷ []) [])
        (cond good (Ok (has_key blocks key)) (Err (bad_page (4 + home_page blocks key))))
        → Fine r e
    by_good true is t = by_there (has_key blocks key) refl t
    by_good false is t = absurd (both_ways false refl is)

    by_key : (empty : Bool)
        → Answers
        (cond empty [] (home_calls blocks (hash key) ++ cond (is_good (home_bytes blocks key) && has_key blocks key) (delete_write blocks key ∷ []) []))
        (cond empty (Err (fault EmptyKey Database 0)) (cond (is_good (home_bytes blocks key)) (Ok (has_key blocks key)) (Err (bad_page (4 + home_page blocks key)))))
        → Fine r e
    by_key true t = refused pairs after (λ f. refl) d e h [] (fault EmptyKey Database 0) r tt (spared EmptyKey (inl (omega arith))) t
    by_key false t = by_good (is_good (home_bytes blocks key)) (good_yes (home_bytes blocks key) (good d h)) t

    deletes_fine : Answers (delete_calls blocks key) (deleted blocks key) → Fine r e
    deletes_fine t = by_key (eqb (length key) 0) t

pub delete_keeps : DeleteKeeps
delete_keeps pairs d e key r h t = (deletes_fine pairs key d e h r t).0

pub delete_never : DeleteNever
delete_never pairs d e key r h t = (deletes_fine pairs key d e h r t).1
