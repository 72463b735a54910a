use Rattle.std.proofs.Common.{◌≡◌, ◌/◌, ◌%◌, ◌^◌, false, eqb, bit_and, MatchOption, ◌∙◌, sym, arith, rules}
use Rattle.std.proofs.lemmas.Bool.{le-ltb}
use Rattle.directory.proofs.Bits.{bit_found, bits_out}
use Rattle.directory.proofs.is_set.Goals as goal

pub returns-then-i-lt-BITS : goal.returns-then-i-lt-BITS
returns-then-i-lt-BITS c =
    let r = c.is_some_and.result in
    let tested : MatchOption c.get.result (r ≡ false) (λ b. r ≡ eqb (bit_and (b.now / 2 ^ (c.args.i % 8)) 1) 1) = search rules in
    bit_found c.args.dir.now c.args.i _ _ c.if-i-lt-BITS.true (c.get.ensures.lookup.4 (omega arith) 0) tested

pub returns-else-i-lt-BITS : goal.returns-else-i-lt-BITS
returns-else-i-lt-BITS c = le-ltb c.args.i 32767 c.if-i-lt-BITS.false ∙ sym (bits_out c.args.dir.now c.args.i c.if-i-lt-BITS.false)
