-- `Kept::times_whole` meets its contract. A number of at most two has an exponent of at most zero, and the shift is by that negated.
use Rattle.std.proofs.Common.{◌≡◌, ◌∙◌, ◌*◌, ◌<◌, ◌^◌, pos, ◌-ℤ◌, rules, arith, true, false, ltb-true, ltb-false, SFits, w32, to_z, of_z, to_z-of_z}
use Rattle.std.specs.Prelude.{negsuc, neg_ℤ}
use Rattle.std.specs.Int.Signed.{lt_z}
use Rattle.kept.specs.declared.Kept.{Kept}
use Rattle.kept.specs.Rounding.Arithmetic.{product_word}
use Rattle.kept.specs.Rounding.Laws.{kept_below}
use Rattle.kept.specs.Rounding.Leading.{increment_at_most}
use Rattle.kept.specs.Whole.Laws.{places_test, places_back, Fractional, kept_fractional, whole_shifted, whole_faint}
use Rattle.kept.proofs.Kept.times_whole.Goals as goal

module _ {x : Kept} (f : Fractional x) (fit : SFits w32 x.exponent) where
  -- The exponent as the code reads it.
  exponent-is : to_z w32 (of_z w32 x.exponent) ≡ neg_ℤ (pos f.places)
  exponent-is = to_z-of_z fit ∙ f.is

  many : lt_z (to_z w32 (of_z w32 x.exponent)) (negsuc 62) ≡ true → 63 < f.places
  many test = ltb-true 63 f.places (rw (exponent-is, places_test) at test)

  few : lt_z (to_z w32 (of_z w32 x.exponent)) (negsuc 62) ≡ false → f.places < 64
  few test = omega (arith, ltb-false 63 f.places (rw (exponent-is, places_test) at test))

  -- What the code shifts by is the number of binary places.
  shift : f.places < 64 → to_z w32 (of_z w32 (pos 0 -ℤ to_z w32 (of_z w32 x.exponent))) ≡ pos f.places
  shift small =
      let fits : SFits w32 (pos 0 -ℤ neg_ℤ (pos f.places)) = rw places_back (record { sfits = omega arith }) in
      rw exponent-is (to_z-of_z fits ∙ places_back f.places)

pub returns-then-self-ltminus63 : goal.returns-then-self-ltminus63
returns-then-self-ltminus63 c =
    let f = kept_fractional c.requires.kept c.requires.to_two in
    let fit : SFits w32 c.args.self.exponent = search rules in
    let word : c.args.self.significand * c.args.m < 2 ^ 64 = product_word (kept_below c.requires.kept) c.ranges.m.fits in
    c.high_one-one.ensures ∙ whole_faint f c.args.m c.args.side word (many f fit c.if-self-ltminus63.true)

pub overflow_sub-result : goal.overflow_sub-result
overflow_sub-result c = rw c.high_one-one.ensures (increment_at_most c.args.side _)

pub overflow_cast-result : goal.overflow_cast-result
overflow_cast-result c =
    let f = kept_fractional c.requires.kept c.requires.to_two in
    let fit : SFits w32 c.args.self.exponent = search rules in
    let small = few f fit c.if-self-ltminus63.false in
    rw (shift f fit small) (tt, record { fits = omega (arith, small) })

pub overflow_shr-result : goal.overflow_shr-result
overflow_shr-result c =
    let f = kept_fractional c.requires.kept c.requires.to_two in
    let fit : SFits w32 c.args.self.exponent = search rules in
    let small = few f fit c.if-self-ltminus63.false in
    rw (shift f fit small) small

pub returns : goal.returns
returns c =
    let f = kept_fractional c.requires.kept c.requires.to_two in
    let fit : SFits w32 c.args.self.exponent = search rules in
    rw (shift f fit (few f fit c.if-self-ltminus63.false))
    (rw (← c.high_one-one.ensures) at (whole_shifted f c.args.m c.args.side))
