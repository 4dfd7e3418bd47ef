-- The neighbours in the headings so far are sensed.
use Rattle.leg.specs.Moving.{Marked}
use Rattle.leg.proofs.Marking.{near_to}
use Rattle.leg.proofs.racks.Racks.sense.Given as goal

abbrev pub invariant-loop-heading : goal.invariant-loop-heading
invariant-loop-heading l = Marked (near_to l.self.grid.floor l.cell l.heading-index) l.self.plan.now l.initial.known l.known l.new
