use Rattle.splits.proofs.Plans.{plans_least}
use Rattle.splits.proofs.Rooms.{room_decides}
use Rattle.splits.proofs.Sounds.{blank_sound, deletes_sound, splits_free, stores_sound}
use Rattle.splits.proofs.Stores.{deletes, stores}
use Rattle.splits.proofs.split_laws.Goals as goal

pub returns-clause-blank : goal.returns-clause-blank
returns-clause-blank c = blank_sound

pub returns-clause-free : goal.returns-clause-free
returns-clause-free c = splits_free

pub returns-clause-deletes : goal.returns-clause-deletes
returns-clause-deletes c = deletes

pub returns-clause-stores : goal.returns-clause-stores
returns-clause-stores c = stores

pub returns-clause-room : goal.returns-clause-room
returns-clause-room c = room_decides

pub returns-clause-stores_sound : goal.returns-clause-stores_sound
returns-clause-stores_sound c = stores_sound

pub returns-clause-deletes_sound : goal.returns-clause-deletes_sound
returns-clause-deletes_sound c = deletes_sound

pub returns-clause-plan : goal.returns-clause-plan
returns-clause-plan c = plans_least
