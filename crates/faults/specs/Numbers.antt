-- The numbers of refusals and layers. Every promise about a refusal goes through these.
use Rattle.std.specs.Prelude.{ℕ, Ok, Err, Result}
use Rattle.faults.specs.declared.Fault.{Fault}
use Rattle.faults.specs.declared.Layer.{Layer}
use Rattle.faults.specs.declared.Layer.TheVariants.{Database, Bottom, Cache, Quota, Window}
use Rattle.faults.specs.declared.Refusal.{Refusal}
use Rattle.faults.specs.declared.Refusal.TheVariants.{EmptyKey, PairTooLong, NotABlock, OutsidePage, KeyExists, BadPage, BitBelow, NoPlan, PastLimit, NoClaim, NotHeld, DeviceFailed, NoCode}

abbrev pub refusal_number : Refusal → ℕ
refusal_number EmptyKey = 1
refusal_number PairTooLong = 2
refusal_number NotABlock = 3
refusal_number OutsidePage = 4
refusal_number KeyExists = 5
refusal_number BadPage = 6
refusal_number BitBelow = 7
refusal_number NoPlan = 8
refusal_number PastLimit = 9
refusal_number NoClaim = 10
refusal_number NotHeld = 11
refusal_number DeviceFailed = 12
refusal_number NoCode = 13

abbrev pub layer_number : Layer → ℕ
layer_number Database = 0
layer_number Bottom = 1
layer_number Cache = 2
layer_number Quota = 3
layer_number Window = 4

-- a refusal as three numbers: which refusal, which layer, which block
abbrev pub numbers : Fault → ℕ × ℕ × ℕ
numbers f = (refusal_number f.refusal, layer_number f.layer, f.block)

-- an answer with its refusal as three numbers
abbrev pub told : {X : Type 0} → Result X Fault → Result X (ℕ × ℕ × ℕ)
told (Ok x) = Ok x
told (Err f) = Err (numbers f)
