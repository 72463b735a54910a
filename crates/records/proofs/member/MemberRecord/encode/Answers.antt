use Rattle.std.proofs.Common.{◌≡◌, ℕ, ◌<◌, List, ◌++◌, length, drop, set, ap, ◌∙◌, rules, w32, drop-cons}
use Rattle.std.proofs.lemmas.List.{drop-drop}
use Rattle.std.specs.Int.{to_le_bytes}
use Rattle.records.proofs.member.MemberRecord.encode.Goals as goal
use Rattle.records.specs.Member.{member_code, sort_byte}
use Rattle.records.specs.declared.member.Member.{Member}
use borrow.Rule.Slice.PartMut.{post_of, put_mid}

-- the two numbers and the byte, one behind the other over the front of old bytes
written : (m : Member) (old offset size : List ℕ) (byte : ℕ) → 8 < length old
    → offset ≡ to_le_bytes w32 m.offset → size ≡ to_le_bytes w32 m.length → byte ≡ sort_byte m.sort
    → set (put_mid 4 4 (offset ++ post_of 0 4 old) size) 8 byte ≡ member_code m ++ drop (length (member_code m)) old
unfolding member_code
written m old _ _ _ room p q r =
    (λ i. set (put_mid 4 4 (p i ++ post_of 0 4 old) (q i)) 8 (r i))
    ∙ ap (λ (l : List ℕ). to_le_bytes w32 m.offset ++ (to_le_bytes w32 m.length ++ set l 0 (sort_byte m.sort))) (drop-drop 4 4 old ∙ drop-cons old 8 0 room)

pub returns-clause-code : goal.returns-clause-code
returns-clause-code c =
    written c.args.self.now c.args.into.now _ _ _ (search rules) (search rules) (search rules) c.into.ensures
