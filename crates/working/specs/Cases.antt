-- The working row in figures.
-- Assumes nothing.
use Rattle.std.specs.Prelude.{◌≡◌, refl}
use Rattle.steps.specs.Inputs.{working_assets}
use Rattle.working.specs.Working.{working_places}

pub places : working_places ≡ 101
unfolding working_places working_assets
places = refl
