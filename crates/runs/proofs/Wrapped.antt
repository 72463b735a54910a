-- A get whose records are wrapped is the get of the wrapped kind.
use Rattle.std.proofs.Common.{◌≡◌, ℕ, List, [], Some, None, Ok, Err, Option, Result, option_map, refl, sym, subst}
use Rattle.calls.specs.Fetch.{decoding, fetch_calls, found, got, home_bytes}
use Rattle.contents.specs.Blocks.{blocks_of}
use Rattle.devices.specs.Meaning.{Meaning}
use Rattle.devices.specs.Trace.{Account, Did, Trace}
use Rattle.faults.specs.declared.Fault.{Fault}
use Rattle.lookup.proofs.Reading.{mapped}
use Rattle.lookup.specs.Made.{Made}
use Rattle.pages.specs.Read.{Place, bytes_at}
use Rattle.runs.specs.Performed.{told_as}

module _ {R W : Type 0} (wrap : R → W) (decoded : List ℕ → Option R) where
  abbrev wrapped : List ℕ → Option W
  wrapped bytes = option_map wrap (decoded bytes)

  -- of the value at a place, whatever it is decoded to
  wrapped_code : (o : Option R) (n : ℕ)
      → told_as (option_map wrap) (decoding (λ _. o) [] (Ok (n, Some (0, 0)))) ≡ decoding (λ _. option_map wrap o) [] (Ok (n, Some (0, 0)))
  wrapped_code (Some x) n = refl
  wrapped_code None n = refl

  decoding_wrapped : (page : List ℕ) (home : Result (ℕ × Option Place) Fault) → told_as (option_map wrap) (decoding decoded page home) ≡ decoding wrapped page home
  decoding_wrapped page (Err f) = refl
  decoding_wrapped page (Ok (n, None)) = refl
  decoding_wrapped page (Ok (n, Some place)) = wrapped_code (decoded (bytes_at page place)) n

  pub got_wrapped : {S : Type 0} (steps : Account S) (M : S → Meaning) (key : List ℕ) (size : ℕ) (d e : S) (r : Result (Option R) Fault) (answer : Result (Option W) Fault)
      → answer ≡ told_as (option_map wrap) r
      → Made steps M d (λ blocks. fetch_calls blocks key size) (λ blocks. got decoded blocks key size) r e
      → Made steps M d (λ blocks. fetch_calls blocks key size) (λ blocks. got wrapped blocks key size) answer e
  got_wrapped steps M key size d e r answer told made =
      let did = Did steps M in
      let blocks = blocks_of (M d) in
      let calls = fetch_calls blocks key size in
      subst (λ (a : Result (Option W) Fault). Trace did d calls (got wrapped blocks key size) a e) (sym told)
      (subst (λ (own : Result (Option W) Fault). Trace did d calls own (told_as (option_map wrap) r) e) (decoding_wrapped (home_bytes blocks key) (found blocks key size))
      (mapped did (told_as (option_map wrap)) (λ f. refl) calls d e (got decoded blocks key size) r made))
