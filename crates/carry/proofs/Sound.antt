-- Every run is sound: the ghost fields of its ends say so. Assumes nothing.
use Rattle.carry.specs.declared.run.Run.{Run}
use Rattle.carry.specs.Sound.{Sound}

pub sound : (r : Run) → Sound r
sound r = record { sender = r.ends.sender; receiver = r.ends.receiver; connection = r.ends.connection; small = r.ends.small }
