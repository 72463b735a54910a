-- What a cache shows of the device below it.
use Rattle.std.specs.Prelude.{◌≡◌, ℕ, ◌<◌, cond, List, [], ◌∷◌, length, Some, None, Ok, Err, Option, Result, ◌==◌}
use Rattle.cache.specs.Whole.{at}
use Rattle.cache.specs.declared.frames.Frame.{Frame}
use Rattle.devices.specs.Meaning.{Meaning}
use Rattle.devices.specs.Step.{Failed}
use Rattle.faults.specs.declared.Fault.{Fault}
use Rattle.faults.specs.declared.Layer.TheVariants.{Cache}

-- block n, which is b below: that of the newest frame numbered n, where there is one
abbrev pub shown : List Frame → ℕ → List ℕ → List ℕ
shown [] n b = b
shown (f ∷ fs) n b = shown fs n (cond (n == f.number) f.block b)

-- a device with the name of the cache
abbrev pub renamed : Meaning → Meaning
renamed d = record {
  limit = d.limit;
  held = d.held;
  left = d.left;
  block = d.block;
  backing = d.backing;
  in_order = d.in_order;
  layer = Cache;
  spent = d.spent;
}

-- a device under frames, oldest first: those of held numbers show
abbrev pub cached : List Frame → Meaning → Meaning
cached fs d = record {
  limit = d.limit;
  held = d.held;
  left = d.left;
  block = λ n. cond (d.held n) (shown fs n (d.block n)) (d.block n);
  backing = d.backing;
  in_order = d.in_order;
  layer = Cache;
  spent = d.spent;
}

-- the frame at the place shows block n, or the device below does
abbrev pub Shows : List Frame → Meaning → ℕ → Option ℕ → Type 0
Shows fs d n (Some i) = (i < length fs) × ((cached fs d).block n ≡ (at fs i).block)
Shows fs d n None = (cached fs d).block n ≡ d.block n

-- a refusal is that of a device that is out of order
abbrev pub Fails : Result Unit Fault → Meaning → Type 0
Fails (Ok _) e = Unit {0}
Fails (Err f) e = Failed f e
