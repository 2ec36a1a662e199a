use Rattle.ps_emit.proofs.Pieces.{nothing_ahead}
use Rattle.ps_emit.proofs.emitter.Emitter.make_room.Goals as goal

pub returns-else-as_slice-room-gt-ROOM-clause-ahead : goal.returns-else-as_slice-room-gt-ROOM-clause-ahead
returns-else-as_slice-room-gt-ROOM-clause-ahead g c = nothing_ahead c.args.self.now
