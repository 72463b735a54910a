use Rattle.std.proofs.Common.{◌≡◌, ℕ, List, ◌++◌, length, drop, ap, ◌∙◌, rules, w32}
use Rattle.std.proofs.lemmas.List.{drop-drop}
use Rattle.std.specs.Int.{cast_unsigned, to_le_bytes, w16}
use Rattle.records.proofs.symbol.SymbolRecord.encode.Goals as goal
use Rattle.records.specs.Symbol.{symbol_code}
use Rattle.records.specs.declared.symbol.Symbol.{Symbol}
use borrow.Rule.Slice.PartMut.{post_of, put_mid}

-- the three numbers, one behind the other over the front of old bytes
written : (s : Symbol) (old address section addend : List ℕ)
    → address ≡ to_le_bytes w32 s.address → section ≡ to_le_bytes w16 s.section → addend ≡ to_le_bytes w32 (cast_unsigned w32 s.addend)
    → put_mid 6 4 (put_mid 4 2 (address ++ post_of 0 4 old) section) addend ≡ symbol_code s ++ drop (length (symbol_code s)) old
unfolding symbol_code
written s old _ _ _ p q r =
    (λ i. put_mid 6 4 (put_mid 4 2 (p i ++ post_of 0 4 old) (q i)) (r i))
    ∙ ap (λ (l : List ℕ). symbol_code s ++ l) (ap (drop 4) (drop-drop 2 4 old) ∙ drop-drop 4 6 old)

pub returns-clause-code : goal.returns-clause-code
returns-clause-code c = written c.args.self.now c.args.into.now _ _ _ (search rules) (search rules) (search rules)
