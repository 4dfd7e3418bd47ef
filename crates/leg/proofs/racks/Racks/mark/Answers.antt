-- One neighbour: off the floor, no news, or marked now.
use Prim.Native.Nat.{◌<◌}
use native.Mathlib.Omega.{arith}
use Rattle.floor.specs.Floor.{cells}
use Rattle.floor.proofs.Headings.{to_cell}
use Rattle.leg.proofs.Marking.{off_floor, no_news, now_marked}
use Rattle.leg.proofs.racks.Racks.mark.Goals.{In-Some}
use Rattle.leg.proofs.racks.Racks.mark.Goals as goal

-- the neighbour is on the floor
inside : (c : In-Some) → c.in-Some.x < cells c.args.self.now.grid.floor
inside c = to_cell _ _ _ _ c.neighbour.ensures _ c.args.self.now.grid.sized c.requires.1 c.in-Some.is

pub returns-in_default : goal.returns-in_default
returns-in_default c = off_floor _ _ c.requires.0.bytes _ _ _ _ c.neighbour.ensures c.in_default.is

pub bounds-self-x : goal.bounds-self-x
bounds-self-x c = omega (arith, inside (goal.at.bounds-self-x c).In-Some, c.args.self.now.long)

pub bounds-known-x : goal.bounds-known-x
bounds-known-x c = omega (arith, inside (goal.at.bounds-known-x c).In-Some)

pub returns-then-self-x : goal.returns-then-self-x
returns-then-self-x c = no_news _ _ c.requires.0.bytes _ _ _ _ c.neighbour.ensures _ c.in-Some.is c.if-self-x.true

pub bounds-known-x-2 : goal.bounds-known-x-2
bounds-known-x-2 c = omega (arith, inside (goal.at.bounds-known-x-2 c).In-Some)

pub returns : goal.returns
returns c = now_marked _ _ c.requires.0.bytes _ _ _ _ c.neighbour.ensures _ c.in-Some.is (omega (arith, inside (goal.at.returns c).In-Some)) (c.args.self.now.bytes _) c.if-self-x.false
