-- Sums and differences of exponents within their reach, and the difference of two words.
-- Assumes nothing.
use Rattle.std.specs.Prelude.{ℕ, zero, suc, ◌+◌, ◌-◌, ◌≤◌, ◌<◌, ◌^◌, ◌≡◌, refl, true, T, ◌≤ℤ◌, ℤ, pos, negsuc, neg_ℤ, nat_abs, ◌+ℤ◌, ◌-ℤ◌}
use Rattle.std.proofs.Common.{suc-le-suc, sym, ap, ap₂, ◌∙◌, true≢false, le_of_eq, le_of_lt, lt_of_not-le, arith, leb→le, le→leb, ltb-true, lt-ltb, le-ltb, SFits, to_z, of_z, to_z-of_z}
use Rattle.std.proofs.Math.Decide.{dec_le}
use Rattle.std.specs.Int.Signed.{mag, lt_z, non_neg}
use Rattle.std.proofs.Math.IntN.{sub_ℕ}
use Rattle.std.specs.Int.{w32}
use Rattle.std.proofs.Math.Facts.{to_z_pos}
use Rattle.model.specs.Number.Laws.{difference_size}
use Rattle.kept.specs.Rounding.{Reach}

difference : (a b : ℕ) → nat_abs (sub_ℕ a b) ≤ a + b
difference a b = elim (dec_le b a) [
  | yes le ↦ rw (le-ltb a b le) (omega arith)
  | no le ↦ rw (lt-ltb a b (lt_of_not-le le)) (omega arith)
]

total : (e f : ℤ) → nat_abs (e +ℤ f) ≤ nat_abs e + nat_abs f
total (pos a) (pos b) = omega arith
total (pos a) (negsuc b) = difference a (suc b)
total (negsuc a) (pos b) = omega (arith, difference b (suc a))
total (negsuc a) (negsuc b) = omega arith

negated : (e : ℤ) → nat_abs (neg_ℤ e) ≡ nat_abs e
negated (pos zero) = refl
negated (pos (suc n)) = refl
negated (negsuc n) = refl

pub reach_plus : {n m : ℕ} {e f : ℤ} → Reach n e → Reach m f → Reach (n + m) (e +ℤ f)
reach_plus {e} {f} r q = record { within = omega (arith, total e f) }

pub reach_minus : {n m : ℕ} {e f : ℤ} → Reach n e → Reach m f → Reach (n + m) (e -ℤ f)
reach_minus {e} {f} r q = record { within = omega (arith, total e (neg_ℤ f), negated f) }

pub reach_whole : {n m : ℕ} → n ≤ m → Reach m (pos n)
reach_whole le = record { within = le }

pub reach_weaken : {n m : ℕ} {e : ℤ} → n ≤ m → Reach n e → Reach m e
reach_weaken le r = omega arith

pub reach_fits : {n : ℕ} {e : ℤ} → n < 2 ^ 31 → Reach n e → SFits w32 e
reach_fits {e = pos n} less r = record { sfits = omega arith }
reach_fits {e = negsuc n} less r = record { sfits = omega arith }

-- Within an i32's reach an exponent is what its bits stand for.
pub reach_back : {n : ℕ} {e : ℤ} → n < 2 ^ 31 → Reach n e → to_z w32 (of_z w32 e) ≡ e
reach_back less r = to_z-of_z (reach_fits less r)

-- So is the result of a call.
pub result_back : (e : ℤ) → mag e < 2 ^ 31 → to_z w32 (of_z w32 e) ≡ e
result_back e fits = to_z-of_z {w = w32} {z = e} (record { sfits = fits })

-- ---- the difference of two words, as an i32

module _ {a b : ℕ} (l : a < 2 ^ 31) (m : b < 2 ^ 31) where
  words : to_z w32 a -ℤ to_z w32 b ≡ pos a -ℤ pos b
  words = ap₂ ◌-ℤ◌ (to_z_pos w32 l) (to_z_pos w32 m)

  word_fits : SFits w32 (pos a -ℤ pos b)
  word_fits = reach_fits {n = (a - b) + (b - a)} (omega arith) (record { within = le_of_eq (difference_size a b) })

  pub difference_fits : SFits w32 (to_z w32 a -ℤ to_z w32 b)
  difference_fits = rw words word_fits

  pub difference_back : to_z w32 (of_z w32 (to_z w32 a -ℤ to_z w32 b)) ≡ pos a -ℤ pos b
  difference_back = ap (λ z. to_z w32 (of_z w32 z)) words ∙ to_z-of_z word_fits

-- ---- two exponents in order

pub order_yes : {e f : ℤ} → lt_z e f ≡ true → e ≤ℤ f
order_yes {e = pos a} {f = pos b} test = record { le = le→leb a b (le_of_lt (ltb-true a b test)) }
order_yes {e = pos a} {f = negsuc b} test = absurd (true≢false (sym test))
order_yes {e = negsuc a} {f = pos b} test = record { le = tt }
order_yes {e = negsuc a} {f = negsuc b} test = record { le = le→leb b a (le_of_lt (ltb-true b a test)) }

above_zero : (a b : ℕ) → b ≤ a → T (non_neg (sub_ℕ a b))
above_zero a b le = rw (le-ltb a b le) tt

pub ordered_difference : (e f : ℤ) → f ≤ℤ e → T (non_neg (e -ℤ f))
ordered_difference (pos a) (pos zero) le = tt
ordered_difference (pos a) (pos (suc b)) le = above_zero a (suc b) (leb→le (suc b) a le.le)
ordered_difference (pos a) (negsuc b) le = tt
ordered_difference (negsuc a) (pos b) le = absurd le.le
ordered_difference (negsuc a) (negsuc b) le = above_zero (suc b) (suc a) (suc-le-suc (leb→le a b le.le))
