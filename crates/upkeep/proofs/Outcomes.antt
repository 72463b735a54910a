-- How a call comes out: what it leaves of the pairs held, and that its refusal is none of 6, 7 and 11.
use Rattle.std.proofs.Common.{◌≡◌, ℕ, ◌<◌, List, ◌++◌, length, take, Ok, Err, Result, sym, ap, ◌∙◌, subst, take_all, arith}
use Rattle.contents.specs.Blocks.{blocks_of}
use Rattle.contents.specs.Contents.{contents_of}
use Rattle.devices.specs.Meaning.{Meaning}
use Rattle.devices.specs.Step.{Call, Step}
use Rattle.devices.specs.Trace.{Trace}
use Rattle.faults.specs.declared.Fault.{Fault}
use Rattle.pages.specs.Page.{Pair}
use Rattle.splits.specs.Writes.{Write, all_made}
use Rattle.upkeep.proofs.Holds.{holding_quiet}
use Rattle.upkeep.proofs.Quiet.{AllQuiet, Quiet, Spared, never_accepted, quiet_never, quiet_trace}
use Rattle.upkeep.proofs.Traces.{Parts, parts, stopped, through}
use Rattle.upkeep.proofs.Writes.{Left}
use Rattle.upkeep.specs.Holding.{Holding}
use Rattle.upkeep.specs.Laws.{Never}

-- the pairs after a call, which are those before where it was refused
module _ {X : Type 0} (pairs : List Pair) (after : Result X Fault → List Pair) (same : (f : Fault) → after (Err f) ≡ pairs) where
  abbrev pub Done : Result X Fault → Meaning → Type 0
  Done r e = Holding (after r) e × Never r

  pub done_refused : (e : Meaning) (f : Fault) → Holding pairs e → Spared f.refusal → Done (Err f) e
  done_refused e f h s = (subst (λ (ps : List Pair). Holding ps e) (sym (same f)) h, s)

  module _ (d e : Meaning) (h : Holding pairs d) where
    -- calls that write nothing and an answer that is a refusal
    pub refused : (cs : List Call) (f : Fault) (r : Result X Fault) → AllQuiet cs → Spared f.refusal → Trace Step d cs (Err f) r e → Done r e
    refused cs f (Ok x) q s t = absurd (never_accepted cs d e f x t)
    refused cs f (Err g) q s t =
        done_refused e g (holding_quiet pairs d e h (quiet_trace cs d e (Err f) (Err g) q t)) (quiet_never cs d e (Err f) (Err g) q h.device s t)

    -- calls that write nothing, before others
    pub before : (cs ds : List Call) (own r : Result X Fault) → AllQuiet cs → Trace Step d (cs ++ ds) own r e
        → ((m : Meaning) → Holding pairs m → Quiet d m → Trace {X = Unit} Step d cs (Ok tt) (Ok tt) m → Trace Step m ds own r e → Done r e)
        → Done r e
    before cs ds own r q t go = by (parts Step cs ds d e own r t)
      where
        by : Parts {X = X} Step cs ds d own r e → Done r e
        by (stopped f is u) =
            subst (λ (a : Result X Fault). Done a e) (sym is)
            (done_refused e f (holding_quiet pairs d e h (quiet_trace {X = Unit} cs d e (Ok tt) (Err f) q u)) (quiet_never {X = Unit} cs d e (Ok tt) (Err f) q h.device tt u))
        by (through m u v) = let k = quiet_trace {X = Unit} cs d m (Ok tt) (Ok tt) q u in go m (holding_quiet pairs d m h k) k u v

    -- writes
    pub written : (ws : List Write) (r : Result X Fault) → Left ws d r e
        → ((x : X) → contents_of (blocks_of e) ≡ all_made ws (contents_of (blocks_of d)) → Holding (after (Ok x)) e)
        → ((n : ℕ) → n < length ws → contents_of (blocks_of e) ≡ all_made (take n ws) (contents_of (blocks_of d)) → Holding pairs e)
        → Done r e
    written ws (Ok x) left whole front =
        (whole x (left.contents ∙ ap (λ (vs : List Write). all_made vs (contents_of (blocks_of d))) (take_all left.many ws (omega (arith, left.cut)))), tt)
    written ws (Err f) left whole front = done_refused e f (front left.many left.cut.0 left.contents) left.cut.1
