-- `carried` meets its contract.
use Rattle.std.proofs.Common.{refl, to_z-of_z}
use Rattle.kept.specs.Rounding.Exponents.{result_back}
use Rattle.kept.specs.Rounding.Leading.{carry_made}
use Rattle.kept.proofs.rounding.carried.Goals as goal

pub returns : goal.returns
returns c =
    carry_made c.requires.digits refl
    (rw (result_back c.carried_exponent.result c.carried_exponent.type_inv, c.carried_exponent.ensures, to_z-of_z c.ranges.exponent))
