use Rattle.keys.proofs.Sames.{laws, by_bytes}
use Rattle.keys.proofs.key_laws.Goals as goal

pub returns : goal.returns
returns c = record { laws = laws; bytes = by_bytes }
