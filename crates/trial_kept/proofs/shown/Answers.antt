-- `shown` is safe: a number that is not below 2^−800 and whose exponent is at most 192 has an f64.
use Rattle.std.proofs.Common.{rules, sym, arith, ltb-false, lit≤, ◌∙◌, ◌≡◌, ℕ, ◌+◌, ◌*◌, ◌≤◌, ◌<◌, ◌^◌, false, Fits, w32, ℤ, pos, negsuc, suc, FitsSigned}
use Rattle.std.proofs.Math.Nat.{lt_of_lt_of_le, mul-one, mul-le-mul_left}
use Rattle.std.proofs.Math.Pow.{pow_mono, shl_lt}
use Rattle.std.proofs.lemmas.Nat.{pow_pos}
use Rattle.std.proofs.Math.Facts.{to_z-of_z}
use Rattle.std.specs.Int.Signed.{lt_z}
use Rattle.model.specs.Fraction.{Less}
use Rattle.kept.specs.Rounding.{scaled}
use Rattle.kept.specs.Binary64.Laws.{below_shown_no}
use Rattle.trial_kept.proofs.shown.Goals as goal

-- Below 2^224.
below : {s : ℕ} → s < 2 ^ 32 → (e : ℤ) → lt_z (pos 192) e ≡ false → Less (scaled s e) (scaled 1 (pos 224))
unfolding scaled
below small (pos k) t =
    let few : 32 + k ≤ 224 = omega (arith, ltb-false 192 k t) in
    record { cross = simp mul-one (lt_of_lt_of_le (shl_lt 32 k small) (pow_mono few)) }
below small (negsuc k) t =
    record { cross = widen (2 ^ 224) (2 ^ suc k) (lt_of_lt_of_le small (lit≤ tt)) (pow_pos (suc k)) }
  where
    widen : {s : ℕ} (a b : ℕ) → s < a → 0 < b → s * 1 * 1 < 1 * a * b
    widen a b small above = omega (arith, mul-le-mul_left a above)

pub to_f64-requires : goal.to_f64-requires
to_f64-requires g c =
    let x = c.args.x in
    let small : Fits w32 x.significand = search rules in
    let fits : FitsSigned w32 x.exponent = search rules in
    record {
      kept = c.requires.kept;
      least = below_shown_no x (sym c.is_below_shown.ensures ∙ c.if-is_below_shown.false);
      below = below small.fits x.exponent (rw (to_z-of_z fits) at c.if-x-gt192.false);
    }
