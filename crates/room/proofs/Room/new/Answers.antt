-- In a room that is made no cell has a way.
use Rattle.std.proofs.Common.{ap}
use Rattle.room.specs.Layout.{Way, Clean}
use Rattle.room.proofs.Holding.{none_made}
use Rattle.room.proofs.Room.new.Goals as goal

pub returns : goal.returns
unfolding Clean
returns g c x = ap (λ (way : Way). way.nearness) (none_made g.row.N x)
