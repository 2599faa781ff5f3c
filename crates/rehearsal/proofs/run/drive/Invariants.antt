use Rattle.std.proofs.Common.{◌≤◌, map, length, take}
use Rattle.rehearsal.specs.Driven.{meant}
use Rattle.rehearsal.proofs.Driving.{Went}
use Rattle.rehearsal.proofs.run.drive.Given as goal

abbrev pub invariant-loop-request : goal.invariant-loop-request
invariant-loop-request g l =
    (l.request-index ≤ length l.requests)
    × Went g.S.Sponge.steps g.E.Challenge.draws g.R.Role.role (map (meant g.F.PrimeField.numbered) (take l.request-index l.requests)) l.initial.run l.initial.sponge l.run l.sponge
