-- How far off a row that passes may be, from the distance of its bounds.
-- Assumes nothing.
use Rattle.std.specs.Prelude.{ℕ, refl}
use Rattle.std.proofs.Common.{lit≤}
use Rattle.model.specs.Fraction.{Fraction, AtMost, certainty, integer, plus, minus}
use Rattle.model.specs.Fraction.Laws.{at_most_refl, at_most_trans, plus_mono}
use Rattle.kept.specs.declared.Kept.{Kept}
use Rattle.kept.specs.Rounding.{value}
use Rattle.steps.specs.Column.{units_of_certainty, exact_units, half}
use Rattle.steps.proofs.Claims.Laws.{width_units}
use Rattle.steps.specs.Enclosure.{Enclosed}
use Rattle.steps.specs.Inputs.{up_to, fine_pool, distance_for}
use Rattle.steps.proofs.Inputs.Laws.{up_to_both}
use Rattle.pool.specs.Demands.{one_and_a_half, two_and_a_half, claim_off}

-- 1.5 units, or 2.5.
pub off_within : (n : ℕ) {low high : Kept} {v : Fraction} → Enclosed (distance_for n) low high v → AtMost v certainty
    → AtMost (plus half (exact_units (minus (value high) (value low)))) (claim_off n)
unfolding distance_for up_to fine_pool units_of_certainty half plus integer one_and_a_half two_and_a_half claim_off
off_within n {low} {high} {v} enclosed most =
    up_to_both (λ g off. Enclosed g low high v → AtMost (plus half (exact_units (minus (value high) (value low)))) off) 64 n
    (λ _ fine. at_most_trans (plus_mono at_most_refl (width_units 1 refl fine most)) (record { cross = lit≤ tt }))
    (λ _ coarse. at_most_trans (plus_mono at_most_refl (width_units 2 refl coarse most)) (record { cross = lit≤ tt }))
    enclosed
