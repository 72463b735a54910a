use Rattle.std.proofs.Common.{◌≡◌, ℕ, List, IfOk, string_bytes, subst, arith}
use Rattle.listing.proofs.Texts.{hex_encoded}
use Rattle.listing.proofs.text.hex.Goals as goal

pub returns : goal.returns
returns c =
    subst (λ (text : List ℕ). IfOk c.encode.result (λ s. string_bytes s ≡ text))
    (hex_encoded c.args.bytes.now (λ i. omega (arith, c.type_inv.bytes i)))
    c.encode.ensures
