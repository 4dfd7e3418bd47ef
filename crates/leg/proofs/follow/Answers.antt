-- The moves are the rules'.
use mathlib.Core.Path.{refl}
use native.Mathlib.Omega.{arith}
use Rattle.leg.proofs.Driving.{moves_short}
use Rattle.leg.proofs.Coming.{came_driven}
use Rattle.leg.proofs.follow.Goals as goal

pub overflow_cast-result : goal.overflow_cast-result
overflow_cast-result c = omega (arith, moves_short _ _ _ _ _ _ _ _ _ c.drive-drove.ensures, c.requires.few.0)

pub returns : goal.returns
returns c = came_driven _ _ _ _ _ _ _ _ _ c.drive-drove.ensures c.ending_at.ensures refl refl refl
