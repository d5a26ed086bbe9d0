-- The buyer's demands, with their numbers, on what each call is given and what it leaves. Demands/Theorems.antt shows that the contract of each call implies
-- its part; that of a call of a crate above this one, which has its demands here, is shown there.
-- 1. Every input is answered or refused by one number, and a refused call leaves its slices as they were, and hands back the head that came.
-- 2. Two bounds that the rounding steps make lie round every exact value of the call's model: the correlated binomial, and in the calls that have its name the
-- beta-binomial.
-- 3. The two are at most one part in 100,000 apart for up to 64 assets and one part in 50,000 for more, on the quote screen one part in 1,000,000; the rows of a
-- column are differences of tails rounded to nearest, add to exactly 100,000 units, and each is less than 1.5 units off for up to 64 assets and less than 2 units for
-- more; the entries of a shift list past the first add to less than 1.3 units for each asset, and each is less than 1.3 units off; a claimed row that is at most half
-- a unit off passes, and one that passes is at most half a unit and 100,000 × (high − low) off, which is at most 1.5 units for up to 64 assets and 2.5 for more.
-- Of tranches that touch from 0 to 10,000 with one R, the exact losses, each times B − A, add to p × (10,000 − R) / 10,000; the low bounds, and the low numbers that are
-- answered, add to no more than that, the high ones to no less.
-- A store file has 12 + 8 × (n+1)(n+2) bytes, which say the head and the entries; reading accepts those that some head and some kept numbers are written to, and no other,
-- and gives the head, the entries and the bounds back of a store that was filled.
-- A row that a desk reads has the bounds of the store that was filled, with the distance of its row; what else a store holds plays no part.
-- Assumes nothing.
use Rattle.std.specs.Prelude.{Result, Ok, Err, Option, None, Some, ℕ, suc, ◌+◌, ◌-◌, ◌*◌, ◌/◌, ◌%◌, ◌^◌, ◌≤◌, ◌<◌, ◌≡◌, ◌⊎◌, false, cond, List, [], ◌∷◌, ltb, ℤ, pos, negsuc, nat_abs, ◌+ℤ◌, ◌-ℤ◌, ◌≤ℤ◌, length, get_or, drop, Float}
use Rattle.std.proofs.Common.{lit<}
use Rattle.std.specs.Float.{binary64}
use Rattle.std.specs.Float.Ieee.{to_bits}
use Rattle.std.specs.Float.Ieee.Exact.{HasValue}
use Rattle.model.specs.Number.{sum, integer_sum}
use Rattle.model.specs.Fraction.{Fraction, Same, AtMost, Less, integer, plus, minus, times, fraction_sum}
use Rattle.model.specs.Chances.{Chances, chance, tail, expected_loss, layer_loss}
use Rattle.model.specs.CorrelatedBinomial.{probability, defaults}
use Rattle.model.specs.BetaBinomial.{beta_probability, beta_defaults}
use Rattle.kept.specs.declared.Kept.{Kept}
use Rattle.kept.specs.declared.Side.{Side}
use Rattle.kept.specs.declared.Side.TheVariants.{Low, High}
use Rattle.kept.specs.Rounding.{scaled, value}
use Rattle.steps.specs.CorrelatedBinomial.Rows.{kept_row}
use Rattle.steps.specs.Chances.{kept_tail, kept_loss, kept_layer}
use Rattle.steps.specs.Column.{printed_tail}
use Rattle.steps.specs.CorrelatedBinomial.{kept_defaults}
use Rattle.steps.specs.CorrelatedBinomial.Exponents.{PoolNumber}
use Rattle.steps.specs.BetaBinomial.{kept_entry, kept_beta_defaults, BetaNumber}
use Rattle.steps.specs.Inputs.{distance_for}
use Rattle.steps.specs.declared.Tranche.{Tranche}
use Rattle.grounds.specs.Grounds.{Ground, first_ground, fill_grounds, row_grounds, column_grounds, shift_grounds, loss_grounds, layer_grounds, screen_column_grounds, screen_loss_grounds, Screens, beta_column_grounds, beta_loss_grounds, desk_grounds, file_grounds}
use Rattle.steps.specs.declared.Pool.{Pool}
use Rattle.store.specs.Stores.{Store, store}
use Rattle.expected_losses.specs.declared.Loss.{Loss}
use Rattle.expected_losses.specs.declared.Loss.TheVariants.{Untouched, Faint, Shown}
use Rattle.pool.specs.declared.losses.Answer.{Answer}
use Rattle.expected_losses.specs.Loss.{losses_in}
use Rattle.grounds.specs.declared.refusal.Refusal.{Refusal}
use Rattle.grounds.specs.Refusals.{number_of, refusal_number}
use Rattle.pool.specs.Calls.{column_refusal, Prints, loss_refusal, Replies}
use Rattle.steps.specs.Claims.{VerdictAnswer, refused_by, all_pass, fails_at}

-- ---- the demands

-- Demand 1. The refusal is the number of the first ground that applies, of those that the call checks and in their order, or 0 where none applies and the call
-- answers. A refused call leaves of the slices what it was given.
pub record Demand1 {Given : Type 0} (grounds : List Ground) (refusal : ℕ) (given left : Given) : Type 0 where
  pub number : refusal ≡ first_ground grounds
  pub untouched : (refusal ≡ 0 → ⊥) → left ≡ given

-- Demand 2: low ≤ exact ≤ high.
pub record Demand2 (low high : Kept) (exact : Fraction) : Type 0 where
  pub from_below : AtMost (value low) exact
  pub from_above : AtMost exact (value high)

-- The kept number zero: 0 × 2^0.
unfoldable pub kept_zero : Kept
kept_zero = record { significand = 0; exponent = pos 0 }

-- Demand 3, of two bounds that may be one part in so many apart: parts × (high − low) ≤ exact, so that an exact zero has zero for both.
pub record Demand3 (parts : ℕ) (low high : Kept) (exact : Fraction) : Type 0 where
  pub apart : AtMost (times (integer parts) (value high)) (plus exact (times (integer parts) (value low)))
  pub of_zero : exact.num ≡ 0 → (low ≡ kept_zero) × (high ≡ kept_zero)

-- Bounds for n assets, those of row n of a store for a pool of any size among them, may be one part in so many apart: 100,000 for up to 64, and 50,000 for more.
unfoldable pub parts_for : ℕ → ℕ
parts_for n = cond (ltb 64 n) 50000 100000

-- Demands 2 and 3 of two bounds.
pub record BoundDemands (parts : ℕ) (low high : Kept) (exact : Fraction) : Type 0 where
  pub two : Demand2 low high exact
  pub three : Demand3 parts low high exact

-- 0.5
unfoldable pub one_half : Fraction
one_half = record { num = 1; den = 2; positive = lit< tt }

-- What is printed of the tails of the low side: 100,000 at 0; at each other place 100,000 times the tail and one half, rounded down.
pub record PrintedDemands (low : ℕ → Kept) (printed : ℕ → ℕ) : Type 0 where
  pub at_zero : printed 0 ≡ 100000
  pub not_above : (k : ℕ) → AtMost (integer (printed (suc k))) (plus (times (integer 100000) (value (low (suc k)))) one_half)
  pub next_above : (k : ℕ) → Less (plus (times (integer 100000) (value (low (suc k)))) one_half) (integer (suc (printed (suc k))))

-- 1.5
unfoldable pub one_and_a_half : Fraction
one_and_a_half = record { num = 3; den = 2; positive = lit< tt }

-- A printed row for n assets is less than so many units off: 1.5 for up to 64 assets, and 2 for more.
unfoldable pub units_off : ℕ → Fraction
units_off n = cond (ltb 64 n) (integer 2) one_and_a_half

-- Demand 3, of a column: row k, as it stands in the slice, is what the printed tail at k has more than the next, and row n is its own tail. Rows 0 to n add to exactly 100,000, and row k is
-- less than `unitsOff n` from 100,000 times the exact chance of k defaults.
pub record Demand3Column (n : ℕ) (low : ℕ → Kept) (printed : ℕ → ℕ) (exact : ℕ → Fraction) (units : List ℕ) : Type 0 where
  pub printed_is : PrintedDemands low printed
  pub difference : (k : ℕ) → k ≤ n → get_or units k 0 + printed (suc k) ≡ printed k
  pub last : get_or units n 0 ≡ printed n
  pub total : sum (suc n) (λ k. get_or units k 0) ≡ 100000
  pub not_above : (k : ℕ) → k ≤ n → Less (integer (get_or units k 0)) (plus (times (integer 100000) (exact k)) (units_off n))
  pub not_below : (k : ℕ) → k ≤ n → Less (times (integer 100000) (exact k)) (plus (integer (get_or units k 0)) (units_off n))

-- 1.3
unfoldable pub one_and_three_tenths : Fraction
one_and_three_tenths = record { num = 13; den = 10; positive = lit< tt }

-- Demand 3, of a shift list: entry k, as it stands in the slice, is the printed tail at k less that at another correlation. The entry at 0 is 0, and each is from
-- −100,000 to 100,000. Each is less than 1.3 from 100,000 times what the exact tails differ by. Entries 1 to n add to less than 1.3 × n, above zero and below it.
pub record Demand3Shifts (n : ℕ) (low low_other : ℕ → Kept) (printed other : ℕ → ℕ) (exact exact_other : ℕ → Fraction) (shifts : List ℤ) : Type 0 where
  pub printed_is : PrintedDemands low printed
  pub other_is : PrintedDemands low_other other
  pub entry : (k : ℕ) → k ≤ n → get_or shifts k (pos 0) ≡ pos (printed k) -ℤ pos (other k)
  pub at_zero : get_or shifts 0 (pos 0) ≡ pos 0
  pub between : (k : ℕ) → k ≤ n → nat_abs (get_or shifts k (pos 0)) ≤ 100000
  pub not_above : (k : ℕ) → k ≤ n
      → Less (plus (integer (printed k)) (times (integer 100000) (exact_other k))) (plus (plus (integer (other k)) (times (integer 100000) (exact k))) one_and_three_tenths)
  pub not_below : (k : ℕ) → k ≤ n
      → Less (plus (integer (other k)) (times (integer 100000) (exact k))) (plus (plus (integer (printed k)) (times (integer 100000) (exact_other k))) one_and_three_tenths)
  pub total : Less (integer (nat_abs (integer_sum n (λ i. get_or shifts (suc i) (pos 0))))) (times (integer n) one_and_three_tenths)

-- ---- a claimed column

-- x is at most `off` from y.
pub record NoFurther (off x y : Fraction) : Type 0 where
  pub not_above : AtMost x (plus y off)
  pub not_below : AtMost y (plus x off)

-- A claimed row passes by the bounds of its chance: some number from 100,000 times the low bound to 100,000 times the high one is at most one half from the claim.
pub record ClaimPasses (low high : Kept) (claim : ℕ) : Type 0 where
  pub number : Fraction
  pub from_low : AtMost (times (integer 100000) (value low)) number
  pub to_high : AtMost number (times (integer 100000) (value high))
  pub near : NoFurther one_half (integer claim) number

-- x to the nearest whole number. What is exactly half way goes down on the low side, and up on the high side.
unfoldable pub nearest_to : Side → Fraction → ℕ
nearest_to Low x = (2 * x.num + x.den - 1) / (2 * x.den)
nearest_to High x = (2 * x.num + x.den) / (2 * x.den)

-- What the answer of a check tells: the number of a refusal, that no row fails, or the first that does.
abbrev pub verdict_told : Result (Option ℕ) Refusal → VerdictAnswer
verdict_told (Err refusal) = refused_by (number_of refusal)
verdict_told (Ok None) = all_pass
verdict_told (Ok (Some k)) = fails_at k

-- The number of a refusal that a verdict tells, or 0.
abbrev pub refusal_of : VerdictAnswer → ℕ
refusal_of (refused_by number) = number
refusal_of all_pass = 0
refusal_of (fails_at k) = 0

-- 2.5
unfoldable pub two_and_a_half : Fraction
two_and_a_half = record { num = 5; den = 2; positive = lit< tt }

-- A claimed row for n assets that passes is at most so many units off: 1.5 for up to 64 assets, and 2.5 for more.
unfoldable pub claim_off : ℕ → Fraction
claim_off n = cond (ltb 64 n) two_and_a_half one_and_a_half

module _ (n : ℕ) (c : Side → ℕ → Kept) (exact : ℕ → Fraction) (claims : List ℕ) where
  -- Row k of the claim passes.
  abbrev pub ClaimPassesAt : ℕ → Type 0
  ClaimPassesAt k = ClaimPasses (c Low k) (c High k) (get_or claims k 0)

  -- It is at most `off` units from 100,000 times the exact chance.
  abbrev pub ClaimWithin : (off : Fraction) → ℕ → Type 0
  ClaimWithin off k = NoFurther off (integer (get_or claims k 0)) (times (integer 100000) (exact k))

  -- Row k is the first to fail. It is more than half a unit off.
  pub record FailsDemands (k : ℕ) : Type 0 where
    pub row : k ≤ n
    pub fails : ClaimPassesAt k → ⊥
    pub before : (i : ℕ) → i < k → ClaimPassesAt i
    pub far : ClaimWithin one_half k → ⊥

  -- What a verdict says of rows 0 to n. No refusal is one.
  abbrev pub VerdictSays : VerdictAnswer → Type 0
  VerdictSays (refused_by number) = ⊥
  VerdictSays all_pass = (k : ℕ) → k ≤ n → ClaimPassesAt k
  VerdictSays (fails_at k) = FailsDemands k

  -- A row that is at most half a unit off passes, and so does a column of such rows: that of exact chances each rounded to nearest, where what is half way goes up or down as
  -- each row likes. A row that passes is no further off than half a unit and 100,000 × (high − low), and no further than `claimOff n`.
  pub record VerdictDemands (verdict : VerdictAnswer) : Type 0 where
    pub says : VerdictSays verdict
    pub near_row : (k : ℕ) → k ≤ n → ClaimWithin one_half k → ClaimPassesAt k
    pub near : ((k : ℕ) → k ≤ n → ClaimWithin one_half k) → verdict ≡ all_pass
    pub rounded : (side : ℕ → Side) → ((k : ℕ) → k ≤ n → get_or claims k 0 ≡ nearest_to (side k) (times (integer 100000) (exact k))) → verdict ≡ all_pass
    pub passed : (k : ℕ) → k ≤ n → ClaimPassesAt k → ClaimWithin (plus one_half (times (integer 100000) (minus (value (c High k)) (value (c Low k))))) k
    pub passed_units : (k : ℕ) → k ≤ n → ClaimPassesAt k → ClaimWithin (claim_off n) k

-- ---- what calls are given and leave

-- The four slices of a store, in the order in which the calls take them.
pub record Slices : Type 0 where
  pub low_significands : List ℕ
  pub high_significands : List ℕ
  pub low_exponents : List ℤ
  pub high_exponents : List ℤ

-- From the four of them.
unfoldable pub lent : (low_significands high_significands : List ℕ) (low_exponents high_exponents : List ℤ) → Slices
lent ls hs le he = record { low_significands = ls; high_significands = hs; low_exponents = le; high_exponents = he }

-- The same four as the store of a contract.
abbrev pub store_of : Slices → Store
store_of s = store s.low_significands s.high_significands s.low_exponents s.high_exponents

abbrev pub lengths_of : Slices → List ℕ
lengths_of s = length s.low_significands ∷ length s.high_significands ∷ length s.low_exponents ∷ length s.high_exponents ∷ []

-- What stands from a place on.
abbrev pub from : ℕ → Slices → Slices
from i s = lent (drop i s.low_significands) (drop i s.high_significands) (drop i s.low_exponents) (drop i s.high_exponents)

-- The significands of a side, and the kept number that stands at a place.
abbrev pub significands_on : Side → Slices → List ℕ
significands_on Low s = s.low_significands
significands_on High s = s.high_significands

abbrev pub number_on : Side → Slices → ℕ → Kept
number_on Low s i = record { significand = get_or s.low_significands i 0; exponent = get_or s.low_exponents i (pos 0) }
number_on High s i = record { significand = get_or s.high_significands i 0; exponent = get_or s.high_exponents i (pos 0) }

-- 2^−800
unfoldable pub edge : Fraction
edge = scaled 1 (negsuc 799)

-- An f64 has a fraction for its exact value.
abbrev pub Exactly : Float → Fraction → Type 0
Exactly x z = HasValue x false z.num z.den

-- An f64 is a kept number, exactly: its value, and its 64 bits, which are the sign 0, 11 of the exponent and 52 of the fraction.
pub record BitsDemands (x : Kept) (number : Float) : Type 0 where
  pub exactly : Exactly number (value x)
  pub sign : to_bits binary64 number / 2 ^ 63 ≡ 0
  pub exponent_field : pos (to_bits binary64 number / 2 ^ 52 % 2 ^ 11) ≡ x.exponent +ℤ pos 1054
  pub fraction_field : to_bits binary64 number % 2 ^ 52 ≡ (x.significand - 2 ^ 31) * 2 ^ 21

-- A faint loss: the low bound is below 2^−800 and the high one is not zero; the number is the greater of the high bound and 2^−800.
pub record FaintDemands (low high : Kept) (number : Float) : Type 0 where
  pub low_below : Less (value low) edge
  pub high_not_zero : high ≡ kept_zero → ⊥
  pub greater : Kept
  pub number_is : BitsDemands greater number
  pub from_high : AtMost (value high) (value greater)
  pub from_edge : AtMost edge (value greater)
  pub either : Same (value greater) (value high) ⊎ Same (value greater) edge

-- A shown loss: the low bound is not below 2^−800; the numbers are the two bounds.
pub record ShownDemands (low high : Kept) (lower upper : Float) : Type 0 where
  pub low_not_below : AtMost edge (value low)
  pub lower_is : BitsDemands low lower
  pub upper_is : BitsDemands high upper

-- A loss, from its two bounds. Those of an untouched loss are zero.
abbrev pub LossDemands : (low high : Kept) → Loss → Type 0
LossDemands low high Untouched = (low ≡ kept_zero) × (high ≡ kept_zero)
LossDemands low high (Faint number) = FaintDemands low high number
LossDemands low high (Shown bounds) = ShownDemands low high bounds.low bounds.high

-- Demands 2 and 3 on a loss: its bounds on the two sides with its exact value, and the loss that they give.
pub record AnswerDemands (parts : ℕ) (bound : Side → Kept) (exact : Fraction) (loss : Loss) : Type 0 where
  pub bounds : BoundDemands parts (bound Low) (bound High) exact
  pub says : LossDemands (bound Low) (bound High) loss

-- Of a tranche, with its own recovery, of a row of chances in general: the bounds are those of step 6. `wide`: what that divides by is above zero.
pub record TrancheDemands (parts : ℕ) (r : Chances) (c : Side → ℕ → Kept) (t : Tranche) (loss : Loss) : Type 0 where
  pub wide : 0 < (t.upper - t.lower) * r.assets
  pub answer : AnswerDemands parts (λ side. kept_loss side r.assets (c side) t.recovery t.lower t.upper wide)
      (expected_loss r t.recovery t.lower t.upper wide) loss

-- An exact loss is that of the tranche from A to B without recovery.
pub record LossOfTranche (r : Chances) (exact : Fraction) (A B : ℕ) : Type 0 where
  pub wide : 0 < (B - A) * r.assets
  pub same : Same exact (expected_loss r 0 A B wide)

-- Of the layer from the i-th to the j-th default: the bounds are the tails of step 5 at i up to j, added and divided by j − i + 1, the exact loss is the mean of the exact
-- tails. That is the loss of the tranche without recovery from 10,000 × (i − 1) / n to 10,000 × j / n, wherever these come out whole.
pub record LayerLossDemands (parts : ℕ) (r : Chances) (c : Side → ℕ → Kept) (i j : ℕ) (loss : Loss) : Type 0 where
  pub answer : AnswerDemands parts (λ side. kept_layer side r.assets (c side) i j) (layer_loss r i j) loss
  pub of_tranche : (A B : ℕ) → A * r.assets ≡ 10000 * (i - 1) → B * r.assets ≡ 10000 * j → LossOfTranche r (layer_loss r i j) A B

-- The tranche at a place of those that are given, and the loss at a place of an answer.
abbrev pub given_at : List Tranche → ℕ → Tranche
given_at tranches i = get_or tranches i (record { recovery = 0; lower = 0; upper = 0 })

abbrev pub loss_at : Answer → ℕ → Loss
loss_at answer i = get_or answer.losses i Untouched

-- The tranches within the count touch from 0 to 10,000 with one recovery: there is a first one, and its A is 0; each B is the next A; the last B is 10,000; every R is
-- that of the first.
pub record Touch (tranches : List Tranche) (count : ℕ) : Type 0 where
  pub some : 0 < count
  pub first : (given_at tranches 0).lower ≡ 0
  pub next : (i : ℕ) → suc i < count → (given_at tranches (suc i)).lower ≡ (given_at tranches i).upper
  pub last : (given_at tranches (count - 1)).upper ≡ 10000
  pub recoveries : (i : ℕ) → i < count → (given_at tranches i).recovery ≡ (given_at tranches 0).recovery

-- The two numbers that a loss carries, exactly: 0 and 0 if it is untouched, 0 and its one number if it is faint, its two numbers if it is shown.
abbrev pub Carries : (low high : Fraction) → Loss → Type 0
Carries low high Untouched = (Same low (integer 0)) × (Same high (integer 0))
Carries low high (Faint number) = (Same low (integer 0)) × (Exactly number high)
Carries low high (Shown bounds) = (Exactly bounds.low low) × (Exactly bounds.high high)

-- What the pool loses, in basis points: p × (10,000 − R) / 10,000.
unfoldable pub loss_of_pool : (p R : ℕ) → Fraction
loss_of_pool p R = record { num = p * (10000 - R); den = 10000; positive = lit< tt }

-- The losses of the tranches within the count, each times B − A, added.
abbrev pub added_up : (tranches : List Tranche) (count : ℕ) (loss : (i : ℕ) → i < count → Fraction) → Fraction
added_up tranches count loss = fraction_sum count (λ i l. times (integer ((given_at tranches i).upper - (given_at tranches i).lower)) (loss i l))

-- A loss carries two numbers.
pub record CarriesTwo (loss : Loss) : Type 0 where
  pub low : Fraction
  pub high : Fraction
  pub carries : Carries low high loss

-- Touching tranches share out what the pool loses. The exact losses add up to it. The bounds of step 6 add up to no more on the low side, and to no less on the high side.
-- Each loss carries two numbers, and so do the low and the high ones of these.
pub record SharedDemands (p : ℕ) (r : Chances) (c : Side → ℕ → Kept) (tranches : List Tranche) (count : ℕ) (answer : Answer) : Type 0 where
  pub wide : (i : ℕ) → i < count → 0 < ((given_at tranches i).upper - (given_at tranches i).lower) * r.assets
  pub exact : Same (added_up tranches count (λ i l. let t = given_at tranches i in expected_loss r t.recovery t.lower t.upper (wide i l)))
      (loss_of_pool p (given_at tranches 0).recovery)
  pub low_bounds : AtMost
      (added_up tranches count (λ i l. let t = given_at tranches i in value (kept_loss Low r.assets (c Low) t.recovery t.lower t.upper (wide i l))))
      (loss_of_pool p (given_at tranches 0).recovery)
  pub high_bounds : AtMost (loss_of_pool p (given_at tranches 0).recovery)
      (added_up tranches count (λ i l. let t = given_at tranches i in value (kept_loss High r.assets (c High) t.recovery t.lower t.upper (wide i l))))
  pub carried : (i : ℕ) → i < count → CarriesTwo (loss_at answer i)
  pub low_carried : (low high : ℕ → Fraction) → ((i : ℕ) → i < count → Carries (low i) (high i) (loss_at answer i))
      → AtMost (added_up tranches count (λ i l. low i)) (loss_of_pool p (given_at tranches 0).recovery)
  pub high_carried : (low high : ℕ → Fraction) → ((i : ℕ) → i < count → Carries (low i) (high i) (loss_at answer i))
      → AtMost (loss_of_pool p (given_at tranches 0).recovery) (added_up tranches count (λ i l. high i))

-- What an answer holds at its eight places, for a row that is made by a default probability p. Demands 2 and 3 are for the places within the count of an accepted call alone. A place past the
-- count is untouched, and so are all eight on a refusal.
pub record LossesDemands (parts p : ℕ) (r : Chances) (c : Side → ℕ → Kept) (tranches : List Tranche) (count : ℕ) (answer : Answer) : Type 0 where
  pub eight : length answer.losses ≡ 8
  pub within : refusal_number answer.outcome ≡ 0 → (i : ℕ) → i < 8 → i < count → TrancheDemands parts r c (given_at tranches i) (loss_at answer i)
  pub past : refusal_number answer.outcome ≡ 0 → (i : ℕ) → i < 8 → count ≤ i → loss_at answer i ≡ Untouched
  pub shared : refusal_number answer.outcome ≡ 0 → Touch tranches count → SharedDemands p r c tranches count answer
  pub refused : (refusal_number answer.outcome ≡ 0 → ⊥) → (i : ℕ) → i < 8 → loss_at answer i ≡ Untouched

-- The loss that the answer of a layer call stands for: a refusal has none, and stands for an untouched one.
abbrev pub loss_told : Result Loss Refusal → Loss
loss_told (Ok loss) = loss
loss_told (Err refusal) = Untouched

-- What steps 4 to 6 make for n assets, of a row of chances in general: bounds of the chances and of the tails; and no number that is made, those of the entries
-- before and of the losses of tranches and layers after included, has an exponent below −80,000 or above 100.
pub record StepsDemands (parts n : ℕ) (r : Chances) (c : Side → ℕ → Kept) (Made : Side → Kept → Type 0) : Type 0 where
  pub chances : (j : ℕ) → j ≤ n → BoundDemands parts (c Low j) (c High j) (chance r j)
  pub tails : (k : ℕ) → BoundDemands parts (kept_tail Low n (c Low) k) (kept_tail High n (c High) k) (tail r k)
  pub exponents : (side : Side) {x : Kept} → Made side x → (negsuc 79999 ≤ℤ x.exponent) × (x.exponent ≤ℤ pos 100)

-- ---- the calls

module _ (pool : Pool) where
  abbrev n : ℕ
  n = pool.assets

  abbrev p : ℕ
  p = pool.probability

  abbrev ρ : ℕ
  ρ = pool.correlation

  -- The table that every accepted call works out. In the store, at place k(k+1)/2 + j, stand on either side the numbers that steps 1 to 3 make for entry j of
  -- row k, bounds of P(j,k), at most one part in `parts k` apart. The later steps go on from row n.
  pub record TableDemands (parts : ℕ → ℕ) (s : Slices) : Type 0 where
    pub made : (side : Side) (j k : ℕ) → j ≤ k → k ≤ n → number_on side s (k * (k + 1) / 2 + j) ≡ kept_row side p ρ k j
    pub entries : (j k : ℕ) → j ≤ k → k ≤ n
        → BoundDemands (parts k) (number_on Low s (k * (k + 1) / 2 + j)) (number_on High s (k * (k + 1) / 2 + j)) (probability p ρ j k)
    pub steps : StepsDemands (parts n) n (defaults n p ρ) (λ side. kept_defaults side n p ρ) (λ side. PoolNumber side n p ρ)

  -- The places of rows 0 to n.
  abbrev places : ℕ
  places = (n + 1) * (n + 2) / 2

  -- What every call that fills the store hands back and leaves of it. The head is the pool if the call is accepted, and the one that came if it is refused. Where it is accepted,
  -- no ground of a fill applies, whatever else the call checks; the store has the table, and behind it what stood there; no slice is longer or shorter than it was.
  pub record StoreDemands (parts : ℕ → ℕ) (head : Pool) (before after : Slices) (refusal : ℕ) (head' : Pool) : Type 0 where
    pub head_is : refusal ≡ 0 → head' ≡ pool
    pub head_kept : (refusal ≡ 0 → ⊥) → head' ≡ head
    pub accepted : refusal ≡ 0 → first_ground (fill_grounds 100 n p ρ (lengths_of before)) ≡ 0
    pub lengths : refusal ≡ 0 → lengths_of after ≡ lengths_of before
    pub table : refusal ≡ 0 → TableDemands parts after
    pub later : refusal ≡ 0 → from places after ≡ from places before

  pub record FillDemands (head : Pool) (before after : Slices) (refusal : ℕ) (head' : Pool) : Type 0 where
    pub one : Demand1 (fill_grounds 100 n p ρ (lengths_of before)) refusal before after
    pub store : StoreDemands parts_for head before after refusal head'

  -- What a call leaves that also writes entries 0 to n to a slice beside the store, which held `old`: a place behind them keeps its content.
  pub record EntriesDemands {A : Type 0} (parts : ℕ → ℕ) (grounds : List Ground) (head : Pool) (before after : Slices) (old new : List A) (refusal : ℕ) (head' : Pool)
      : Type 0 where
    pub one : Demand1 {Given = Slices × List A} grounds refusal (before, old) (after, new)
    pub store : StoreDemands parts head before after refusal head'
    pub entries_length : refusal ≡ 0 → length new ≡ length old
    pub later_entries : refusal ≡ 0 → drop (n + 1) new ≡ drop (n + 1) old

  -- The tails of the low side that step 5 makes, at a correlation.
  abbrev low_tails : ℕ → ℕ → Kept
  low_tails ρ k = kept_tail Low n (kept_defaults Low n p ρ) k

  -- Of a column call, by how far its bounds are apart and by its grounds.
  pub record ColumnDemandsBy (parts : ℕ → ℕ) (grounds : List Ground) (head : Pool) (before after : Slices) (units units' : List ℕ) (refusal : ℕ) (head' : Pool)
      : Type 0 where
    pub leaves : EntriesDemands parts grounds head before after units units' refusal head'
    pub column : refusal ≡ 0 → Demand3Column n (low_tails ρ) (printed_tail n (kept_defaults Low n p ρ)) (chance (defaults n p ρ)) units'

  abbrev pub ColumnDemands : (head : Pool) (before after : Slices) (units units' : List ℕ) (refusal : ℕ) (head' : Pool) → Type 0
  ColumnDemands head before after units = ColumnDemandsBy parts_for (column_grounds 100 n p ρ (lengths_of before) (length units)) head before after units

  -- The column of the quote screen, with grounds and a distance of its own. It refuses by 11 exactly where there are more than 20 assets and 1 does not apply. Save
  -- there, what it answers and leaves is what the contract of the library's call says for the same inputs, which leaves one outcome.
  pub record ScreenColumnDemands (head : Pool) (before after : Slices) (units units' : List ℕ) (refusal : ℕ) (head' : Pool) : Type 0 where
    pub own : ColumnDemandsBy (λ _. 1000000) (screen_column_grounds 100 20 n p ρ (lengths_of before) (length units)) head before after units units' refusal head'
    pub screens : Screens 100 20 n (first_ground (column_grounds 100 n p ρ (lengths_of before) (length units))) refusal
    pub library : (refusal ≡ 11 → ⊥) → Prints column_refusal distance_for pool head (store_of before) (store_of after) units units' refusal head'
    pub same : (refusal ≡ 11 → ⊥) → (after₂ : Slices) (units₂ : List ℕ) (refusal₂ : ℕ) (head₂ : Pool)
        → Prints column_refusal distance_for pool head (store_of before) (store_of after₂) units units₂ refusal₂ head₂
        → (refusal ≡ refusal₂) × (after ≡ after₂) × (units' ≡ units₂) × (head' ≡ head₂)

  -- What every accepted call of the beta-binomial model works out. Entry j is on either side what the quotients give, a bound of P(j,n), whose exact value is the closed
  -- form with the correlation ρ / (1 + iρ) after i defaults.
  pub record BetaRowDemands (parts : ℕ) : Type 0 where
    pub entries : (j : ℕ) → j ≤ n → BoundDemands parts (kept_entry Low n p ρ j) (kept_entry High n p ρ j) (beta_probability p ρ j n)
    pub steps : StepsDemands parts n (beta_defaults n p ρ) (λ side. kept_beta_defaults side n p ρ) (λ side. BetaNumber side n p ρ)

  -- Its column call, which is lent no store.
  pub record BetaColumnDemands (units units' : List ℕ) (refusal : ℕ) : Type 0 where
    pub one : Demand1 (beta_column_grounds 100 n p ρ (length units)) refusal units units'
    pub units_length : refusal ≡ 0 → length units' ≡ length units
    pub later_units : refusal ≡ 0 → drop (n + 1) units' ≡ drop (n + 1) units
    pub row : refusal ≡ 0 → BetaRowDemands (parts_for n)
    pub column : refusal ≡ 0
        → Demand3Column n (kept_tail Low n (kept_beta_defaults Low n p ρ)) (printed_tail n (kept_beta_defaults Low n p ρ)) (chance (beta_defaults n p ρ)) units'

  -- The other correlation is 0. What the steps make there, which stands in no slice, has bounds and a range as well.
  pub record ShiftDemands (head : Pool) (before after : Slices) (shifts shifts' : List ℤ) (refusal : ℕ) (head' : Pool) : Type 0 where
    pub leaves : EntriesDemands parts_for (shift_grounds 64 n p ρ (lengths_of before) (length shifts)) head before after shifts shifts' refusal head'
    pub uncorrelated : refusal ≡ 0 → StepsDemands (parts_for n) n (defaults n p 0) (λ side. kept_defaults side n p 0) (λ side. PoolNumber side n p 0)
    pub list : refusal ≡ 0
        → Demand3Shifts n (low_tails ρ) (low_tails 0) (printed_tail n (kept_defaults Low n p ρ)) (printed_tail n (kept_defaults Low n p 0))
        (tail (defaults n p ρ)) (tail (defaults n p 0)) shifts'

  -- The check of a claimed column, which is lent to be read, so that no call can write to it. Its grounds are those of a column.
  pub record CheckDemands (head : Pool) (claims : List ℕ) (before after : Slices) (outcome : Result (Option ℕ) Refusal) (head' : Pool) : Type 0 where
    pub one : Demand1 (column_grounds 100 n p ρ (lengths_of before) (length claims)) (refusal_of (verdict_told outcome)) before after
    pub store : StoreDemands parts_for head before after (refusal_of (verdict_told outcome)) head'
    pub answer : refusal_of (verdict_told outcome) ≡ 0
        → VerdictDemands n (λ side. kept_defaults side n p ρ) (chance (defaults n p ρ)) claims (verdict_told outcome)

  -- The layer call. The layer of all defaults loses p.
  pub record LayerDemands (head : Pool) (i j : ℕ) (before after : Slices) (answer : Result Loss Refusal) (head' : Pool) : Type 0 where
    pub one : Demand1 (layer_grounds 100 n p ρ i j (lengths_of before)) (refusal_number answer) before after
    pub store : StoreDemands parts_for head before after (refusal_number answer) head'
    pub layer : refusal_number answer ≡ 0 → LayerLossDemands (parts_for n) (defaults n p ρ) (λ side. kept_defaults side n p ρ) i j (loss_told answer)
    pub of_all : refusal_number answer ≡ 0 → Same (layer_loss (defaults n p ρ) 1 n) (record { num = p; den = 10000; positive = lit< tt })
    pub refused : (refusal_number answer ≡ 0 → ⊥) → loss_told answer ≡ Untouched

  module _ (head : Pool) (tranches : List Tranche) (count : ℕ) where
    -- Of a loss call, by how far its bounds are apart and by its grounds.
    pub record TranchesDemandsBy (parts : ℕ → ℕ) (grounds : List Ground) (before after : Slices) (answer : Answer) (head' : Pool) : Type 0 where
      pub one : Demand1 grounds (refusal_number answer.outcome) before after
      pub store : StoreDemands parts head before after (refusal_number answer.outcome) head'
      pub losses : LossesDemands (parts n) p (defaults n p ρ) (λ side. kept_defaults side n p ρ) tranches count answer

    abbrev pub TranchesDemands : (before after : Slices) (answer : Answer) (head' : Pool) → Type 0
    TranchesDemands before = TranchesDemandsBy parts_for (loss_grounds 100 n p ρ tranches count (lengths_of before)) before

    -- The quote screen's losses, as its column.
    pub record ScreenTranchesDemands (before after : Slices) (answer : Answer) (head' : Pool) : Type 0 where
      pub own : TranchesDemandsBy (λ _. 1000000) (screen_loss_grounds 100 20 n p ρ tranches count (lengths_of before)) before after answer head'
      pub screens : Screens 100 20 n (first_ground (loss_grounds 100 n p ρ tranches count (lengths_of before))) (refusal_number answer.outcome)
      pub library : (refusal_number answer.outcome ≡ 11 → ⊥)
          → Replies loss_refusal distance_for pool head tranches count (store_of before) (store_of after) (refusal_number answer.outcome) head' (losses_in answer.losses)
      pub same : (refusal_number answer.outcome ≡ 11 → ⊥) → (after₂ : Slices) (answer₂ : Answer) (head₂ : Pool)
          → Replies loss_refusal distance_for pool head tranches count (store_of before) (store_of after₂) (refusal_number answer₂.outcome) head₂ (losses_in answer₂.losses)
          → (answer ≡ answer₂) × (after ≡ after₂) × (head' ≡ head₂)

  -- The loss call of the beta-binomial model, which is lent no slice.
  pub record BetaTranchesDemands (tranches : List Tranche) (count : ℕ) (answer : Answer) : Type 0 where
    pub number : refusal_number answer.outcome ≡ first_ground (beta_loss_grounds 100 n p ρ tranches count)
    pub row : refusal_number answer.outcome ≡ 0 → BetaRowDemands (parts_for n)
    pub losses : LossesDemands (parts_for n) p (beta_defaults n p ρ) (λ side. kept_beta_defaults side n p ρ) tranches count answer

-- The slice is lent to be read, so that no call can write to it. Row k of a filled store has the significands of its bounds.
pub record RowDemands (n k : ℕ) (significands part : List ℕ) (refusal : ℕ) : Type 0 where
  pub number : refusal ≡ first_ground (row_grounds 100 n k (length significands))
  pub refused : (refusal ≡ 0 → ⊥) → length part ≡ 0
  pub entries : refusal ≡ 0 → length part ≡ k + 1
  pub entry : refusal ≡ 0 → (j : ℕ) → j ≤ k → get_or part j 0 ≡ get_or significands (k * (k + 1) / 2 + j) 0
  pub of_filled : refusal ≡ 0 → (parts : ℕ → ℕ) (pool : Pool) (s : Slices) → TableDemands pool parts s → n ≤ pool.assets → (side : Side) → significands ≡ significands_on side s
      → (j : ℕ) → j ≤ k → get_or part j 0 ≡ (kept_row side pool.probability pool.correlation k j).significand

-- ---- the desk

-- Two stores with slices of the same lengths, and with the same numbers in row k.
pub record SameRow (k : ℕ) (s t : Slices) : Type 0 where
  pub lengths : lengths_of s ≡ lengths_of t
  pub entries : (side : Side) (j : ℕ) → j ≤ k → number_on side s (k * (k + 1) / 2 + j) ≡ number_on side t (k * (k + 1) / 2 + j)

-- Of two rows that of a side.
abbrev pub row_of : (low high : List Kept) → Side → List Kept
row_of low high Low = low
row_of low high High = high

-- A desk that expects the numbers p' and ρ' of the head, asks for row k and has a ceiling.
module _ (p' ρ' k ceiling : ℕ) where
  -- What it is handed of a store with a head, 101 places on either side: the kept numbers of the row, and zeros behind them; nothing but zeros on a refusal. The slices
  -- are lent to be read, so that no call can write to them.
  pub record DeskRowDemands (head : Pool) (s : Slices) (refusal : ℕ) (low high : List Kept) : Type 0 where
    pub number : refusal ≡ first_ground (desk_grounds 100 head.assets head.probability head.correlation p' ρ' k ceiling (lengths_of s))
    pub places : (side : Side) → length (row_of low high side) ≡ 101
    pub entry : refusal ≡ 0 → (side : Side) (j : ℕ) → j ≤ k → get_or (row_of low high side) j kept_zero ≡ number_on side s (k * (k + 1) / 2 + j)
    pub later : refusal ≡ 0 → (side : Side) (j : ℕ) → k < j → get_or (row_of low high side) j kept_zero ≡ kept_zero
    pub refused : (refusal ≡ 0 → ⊥) → (side : Side) (j : ℕ) → get_or (row_of low high side) j kept_zero ≡ kept_zero

  -- Of a read with the head that an accepted call for a pool handed back, from slices as long as those that it left and with its numbers in row k, whatever came between: by
  -- which number it is refused, and that it is answered otherwise; the bounds of what it is handed; and that with the head and from the entries of another such call whose
  -- pool differs in the assets alone it is answered the same, in a row that both have.
  pub record FilledRowDemands (parts : ℕ → ℕ) (pool : Pool) (refusal : ℕ) (low high : List Kept) : Type 0 where
    pub other_pair : (p' ≡ pool.probability → ρ' ≡ pool.correlation → ⊥) → refusal ≡ 15
    pub above_assets : p' ≡ pool.probability → ρ' ≡ pool.correlation → pool.assets < k → refusal ≡ 9
    pub above_ceiling : p' ≡ pool.probability → ρ' ≡ pool.correlation → k ≤ pool.assets → ceiling < k → refusal ≡ 16
    pub answered : p' ≡ pool.probability → ρ' ≡ pool.correlation → k ≤ pool.assets → k ≤ ceiling → refusal ≡ 0
    pub made : refusal ≡ 0 → (side : Side) (j : ℕ) → j ≤ k → get_or (row_of low high side) j kept_zero ≡ kept_row side pool.probability pool.correlation k j
    pub bounds : refusal ≡ 0 → (j : ℕ) → j ≤ k
        → BoundDemands (parts k) (get_or low j kept_zero) (get_or high j kept_zero) (probability pool.probability pool.correlation j k)
    pub exponents : refusal ≡ 0 → (side : Side) (j : ℕ) → j ≤ k
        → (negsuc 79999 ≤ℤ (get_or (row_of low high side) j kept_zero).exponent) × ((get_or (row_of low high side) j kept_zero).exponent ≤ℤ pos 100)
    pub other_assets : (parts₂ : ℕ → ℕ) (pool₂ came₂ head₂ : Pool) (before₂ after₂ s₂ : Slices) (refusal₂ : ℕ) (low₂ high₂ : List Kept)
        → StoreDemands pool₂ parts₂ came₂ before₂ after₂ 0 head₂ → SameRow k s₂ after₂ → DeskRowDemands head₂ s₂ refusal₂ low₂ high₂
        → pool₂.probability ≡ pool.probability → pool₂.correlation ≡ pool.correlation → k ≤ pool.assets → k ≤ pool₂.assets
        → (refusal ≡ refusal₂) × (low ≡ low₂) × (high ≡ high₂)

  -- Whatever else the store holds, the answer is the same.
  pub record DeskDemands (head : Pool) (s : Slices) (refusal : ℕ) (low high : List Kept) : Type 0 where
    pub handed : DeskRowDemands head s refusal low high
    pub alone : (s₂ : Slices) (refusal₂ : ℕ) (low₂ high₂ : List Kept) → SameRow k s₂ s → DeskRowDemands head s₂ refusal₂ low₂ high₂
        → (refusal ≡ refusal₂) × (low ≡ low₂) × (high ≡ high₂)
    pub of_filled : (parts : ℕ → ℕ) (pool came : Pool) (before after : Slices) → StoreDemands pool parts came before after 0 head → SameRow k s after
        → FilledRowDemands parts pool refusal low high

-- ---- a store file

-- Byte k of a number, from the lowest.
unfoldable pub byte_from : (k x : ℕ) → ℕ
byte_from k x = x / 256 ^ k % 256

-- A number in two's complement, of 32 bits, and the way back.
unfoldable pub complement : ℤ → ℕ
complement (pos x) = x
complement (negsuc x) = 4294967295 - x

unfoldable pub from_complement : ℕ → ℤ
from_complement w = cond (ltb w 2147483648) (pos w) (negsuc (4294967295 - w))

-- The places of rows 0 to n.
abbrev pub table_places : ℕ → ℕ
table_places n = (n + 1) * (n + 2) / 2

-- Number i of m that stand in a file from a place on: its bytes from the lowest to the highest are m places apart.
unfoldable pub number_from : (file : List ℕ) (at m i : ℕ) → ℕ
number_from file at m i =
    get_or file (at + i) 0 + 256 * get_or file (at + (m + i)) 0 + 65536 * get_or file (at + (2 * m + i)) 0 + 16777216 * get_or file (at + (3 * m + i)) 0

-- The head of a file, and entry i of either side.
unfoldable pub head_of : List ℕ → Pool
head_of file = record { assets = number_from file 0 1 0; probability = number_from file 4 1 0; correlation = number_from file 8 1 0 }

unfoldable pub entry_from : (file : List ℕ) (at m i : ℕ) → Kept
entry_from file at m i = record { significand = number_from file at m i; exponent = from_complement (number_from file (at + 4 * m) m i) }

unfoldable pub entry_of : Side → (file : List ℕ) → ℕ → Kept
entry_of Low file = entry_from file 12 (table_places (head_of file).assets)
entry_of High file = let m = table_places (head_of file).assets in entry_from file (12 + 8 * m) m

-- An entry of a slice is a kept number: its significand is from 2^31 to 2^32 − 1, or both its numbers are 0. Its exponent is from −2^31 to 2^31 − 1.
pub record EntryDemands (x : Kept) : Type 0 where
  pub number : (x ≡ kept_zero) ⊎ ((2147483648 ≤ x.significand) × (x.significand < 4294967296))
  pub exponent : (negsuc 2147483647 ≤ℤ x.exponent) × (x.exponent ≤ℤ pos 2147483647)

-- Each slice has m places.
pub record RoomDemands (m : ℕ) (s : Slices) : Type 0 where
  pub low_significands : m ≤ length s.low_significands
  pub high_significands : m ≤ length s.high_significands
  pub low_exponents : m ≤ length s.low_exponents
  pub high_exponents : m ≤ length s.high_exponents

-- The same numbers at the first m places.
pub record SameEntries (m : ℕ) (s t : Slices) : Type 0 where
  pub entries : (side : Side) (i : ℕ) → i < m → number_on side s i ≡ number_on side t i

-- The bytes of a file, with m = (n+1)(n+2)/2: three numbers of the head, and then four arrays, each with the lowest bytes of its m numbers first, and the highest last.
pub record FileDemands (head : Pool) (s : Slices) (file : List ℕ) : Type 0 where
  pub size : length file ≡ 12 + 8 * ((head.assets + 1) * (head.assets + 2))
  pub assets : (k : ℕ) → k < 4 → get_or file k 0 ≡ byte_from k head.assets
  pub probability : (k : ℕ) → k < 4 → get_or file (4 + k) 0 ≡ byte_from k head.probability
  pub correlation : (k : ℕ) → k < 4 → get_or file (8 + k) 0 ≡ byte_from k head.correlation
  pub low_significands : (k i : ℕ) → k < 4 → i < table_places head.assets
      → get_or file (12 + (k * table_places head.assets + i)) 0 ≡ byte_from k (get_or s.low_significands i 0)
  pub low_exponents : (k i : ℕ) → k < 4 → i < table_places head.assets
      → get_or file (12 + ((4 + k) * table_places head.assets + i)) 0 ≡ byte_from k (complement (get_or s.low_exponents i (pos 0)))
  pub high_significands : (k i : ℕ) → k < 4 → i < table_places head.assets
      → get_or file (12 + ((8 + k) * table_places head.assets + i)) 0 ≡ byte_from k (get_or s.high_significands i 0)
  pub high_exponents : (k i : ℕ) → k < 4 → i < table_places head.assets
      → get_or file (12 + ((12 + k) * table_places head.assets + i)) 0 ≡ byte_from k (complement (get_or s.high_exponents i (pos 0)))

-- A file that some head of 1 to 100 assets and some four arrays of kept numbers are written to.
pub record WrittenDemands (head : Pool) (s : Slices) (file : List ℕ) : Type 0 where
  pub assets : (1 ≤ head.assets) × (head.assets ≤ 100)
  pub probability : head.probability ≤ 10000
  pub correlation : head.correlation ≤ 10000
  pub room : RoomDemands (table_places head.assets) s
  pub entries : (side : Side) (i : ℕ) → i < table_places head.assets → EntryDemands (number_on side s i)
  pub bytes : FileDemands head s file

-- The slices are lent to be read, so that no call can write to them. Every file of bytes that is written from the head and the slices is what the call leaves. A head and entries
-- that an accepted call left are written to every file of the right size.
pub record WriteDemands (head : Pool) (s : Slices) (before after : List ℕ) (refusal : ℕ) : Type 0 where
  pub one : Demand1 (file_grounds 100 head.assets head.probability head.correlation (length before) (lengths_of s) (number_on Low s) (number_on High s)) refusal before after
  pub written : refusal ≡ 0 → WrittenDemands head s after
  pub of_written : (file : List ℕ) → ((i : ℕ) → get_or file i 0 < 256) → WrittenDemands head s file → length before ≡ length file → (refusal ≡ 0) × (after ≡ file)
  pub of_filled : (parts : ℕ → ℕ) (pool came : Pool) (before₀ after₀ : Slices) → StoreDemands pool parts came before₀ after₀ 0 head
      → SameEntries (table_places pool.assets) s after₀ → RoomDemands (table_places pool.assets) s
      → length before ≡ 12 + 8 * ((pool.assets + 1) * (pool.assets + 2)) → refusal ≡ 0

-- The file is lent to be read. `head` came. A file is accepted into slices that are long enough exactly if it is written from some head and some kept numbers, which it gives
-- back. Of the head and the entries that an accepted call left it gives back the bounds; of other files nothing of the kind is said.
pub record ReadDemands (head : Pool) (file : List ℕ) (before after : Slices) (refusal : ℕ) (head' : Pool) : Type 0 where
  pub one : Demand1
      (file_grounds 100 (head_of file).assets (head_of file).probability (head_of file).correlation (length file) (lengths_of before) (entry_of Low file) (entry_of High file))
      refusal before after
  pub head_is : refusal ≡ 0 → head' ≡ head_of file
  pub head_kept : (refusal ≡ 0 → ⊥) → head' ≡ head
  pub entries : refusal ≡ 0 → (side : Side) (i : ℕ) → i < table_places head'.assets → number_on side after i ≡ entry_of side file i
  pub lengths : refusal ≡ 0 → lengths_of after ≡ lengths_of before
  pub later : refusal ≡ 0 → from (table_places head'.assets) after ≡ from (table_places head'.assets) before
  pub written : refusal ≡ 0 → WrittenDemands head' after file
  pub of_written : (head₀ : Pool) (s : Slices) → WrittenDemands head₀ s file → RoomDemands (table_places head₀.assets) before
      → (refusal ≡ 0) × (head' ≡ head₀) × SameEntries (table_places head₀.assets) after s
  pub of_filled : (parts : ℕ → ℕ) (pool came head₀ : Pool) (before₀ after₀ s : Slices) (old : List ℕ) → StoreDemands pool parts came before₀ after₀ 0 head₀
      → SameEntries (table_places pool.assets) s after₀ → WriteDemands head₀ s old file 0 → RoomDemands (table_places pool.assets) before
      → (refusal ≡ 0) × (head' ≡ head₀) × SameEntries (table_places pool.assets) after after₀ × TableDemands pool parts after
