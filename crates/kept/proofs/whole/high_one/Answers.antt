-- `whole::high_one` meets its contract.
use Rattle.std.proofs.Common.{◌≡◌, ℕ, zero, suc, refl}
use Rattle.kept.specs.declared.Side.TheVariants.{High}
use Rattle.kept.specs.Rounding.{increment}
use Rattle.kept.proofs.whole.high_one.Goals as goal

some : (v : ℕ) → (v ≡ 0 → ⊥) → 1 ≡ increment High v
unfolding increment
some zero not = absurd (not refl)
some (suc v) not = refl

pub returns-in-Low : goal.returns-in-Low
unfolding increment
returns-in-Low c = rw c.in-Low.is

pub returns-then-v-eq0 : goal.returns-then-v-eq0
unfolding increment
returns-then-v-eq0 c = rw (c.in-High.is, c.if-v-eq0.true)

pub returns-else-v-eq0 : goal.returns-else-v-eq0
returns-else-v-eq0 c = rw c.in-High.is (some c.args.v c.if-v-eq0.false)
