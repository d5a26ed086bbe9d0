-- `ratio` meets its contract.
use Rattle.std.proofs.Common.{◌≡◌, ◌*◌, ◌^◌, ◌<◌, ℕ, ℤ, pos, ◌-ℤ◌, to_z, of_z, SFits, to_z-of_z, ◌∙◌, ap, arith, lit≤, le_of_lt}
use Rattle.std.specs.Int.{w32}
use Rattle.std.specs.Int.Signed.{mag}
use Rattle.kept.specs.Rounding.Exponents.{reach_minus, reach_whole, reach_weaken, result_back}
use Rattle.kept.specs.Rounding.Words.{shift_of, shifted, round_quotient, quotient_least, left_positive}
use Rattle.kept.proofs.rounding.ratio.Goals as goal

-- The exponent of the number that was shifted up.
exponent : {e f : ℤ} {h k : ℕ} → SFits w32 e → mag f < 2 ^ 31 → f ≡ to_z w32 (of_z w32 e) -ℤ pos h → h ≡ k → to_z w32 (of_z w32 f) ≡ e -ℤ pos k
exponent {f = f} range small is shift = result_back f small ∙ (rw (to_z-of_z range, shift) at is)

pub lowered-requires-clause-shift : goal.lowered-requires-clause-shift
lowered-requires-clause-shift c = rw c.headroom.ensures (le_of_lt (shifted c.ranges.n.fits).few)

pub round_once-requires-clause-reach : goal.round_once-requires-clause-reach
round_once-requires-clause-reach c =
    let reach = reach_minus c.requires.reach (reach_whole (le_of_lt (shifted c.ranges.n.fits).few)) in
    rw (exponent c.ranges.exponent c.lowered.type_inv c.lowered.ensures c.headroom.ensures) (reach_weaken {n = 1000000064} (lit≤ tt) reach)

pub round_once-requires-clause-leading : goal.round_once-requires-clause-leading
round_once-requires-clause-leading c =
    rw c.shifted_up-w.ensures
    (λ more.
    let some = left_positive c.args.n _ c.args.m (λ none. omega (arith, ap (λ k. k * 2 ^ shift_of c.args.n) none)) more in
    quotient_least (2 ^ 31) (shifted c.ranges.n.fits) c.requires.positive (omega (arith, c.ranges.m.fits)) some)

pub returns : goal.returns
returns c = λ above.
    round_quotient c.args.side _ _ above _ _
    (rw (c.shifted_up-w.ensures, exponent c.ranges.exponent c.lowered.type_inv c.lowered.ensures c.headroom.ensures) at c.round_once.ensures)
