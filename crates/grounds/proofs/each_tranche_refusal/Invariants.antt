-- At the loop's head the tranches before are not refused.
use Rattle.std.proofs.Common.{◌≡◌, drop}
use Rattle.grounds.specs.Grounds.{first_ground, tranches_grounds}
use Rattle.grounds.proofs.each_tranche_refusal.Given as goal

abbrev pub invariant-loop-tranche : goal.invariant-loop-tranche
invariant-loop-tranche l = first_ground (tranches_grounds l.fn.tranches) ≡ first_ground (tranches_grounds (drop l.tranche-index l.fn.tranches))
