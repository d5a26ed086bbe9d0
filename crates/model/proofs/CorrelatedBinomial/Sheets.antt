-- The sheets worked by hand: one table of figures, each beside the exact definition that gives it, and one claim, that each line holds.
-- Assumes nothing.
use Rattle.std.specs.Prelude.{ℕ, ◌*◌, ◌^◌, ◌≡◌, refl, List, [], ◌∷◌}
use Rattle.std.proofs.Common.{ap, lit<}
use Rattle.std.proofs.Math.Nat.{one-le-pow}
use Rattle.model.specs.Number.{sum, choose, binomial_sum, integer_sum, signed, alternating_sum, triangle, raise}
use Rattle.model.specs.Fraction.{Fraction, Same, whole, complement, over}
use Rattle.model.specs.Passes.{pass, passed}
use Rattle.model.specs.Chances.{share, chance, loss_above, loss_units, loss_numerator, expected_loss}
use Rattle.model.proofs.Chances.Laws.{loss_of_last}
use Rattle.model.specs.CorrelatedBinomial.{conditional, joint, scaled_joint, closed_form, probability, defaults, without_subtraction, pass_step, row_entry}

-- A decimal figure: n / 10^places.
decimal : (n places : ℕ) → Fraction
decimal n places = record { num = n; den = 10 ^ places; positive = one-le-pow places 10 (lit< tt) }

pub record Line : Type 0 where
  pub sheet : ℕ
  -- The value by the definitions, and the figure that the sheet gives.
  pub exact : Fraction
  pub figure : Fraction

line : ℕ → Fraction → Fraction → Line
line s e f = record { sheet = s; exact = e; figure = f }

abbrev pub Every : List Line → Type 0
Every [] = Unit
Every (l ∷ ls) = Same l.exact l.figure × Every ls

-- Sheets 1 to 6 are of the pool T: 3 assets, p = 1000, ρ = 3000. Sheets 4 to 6 have recovery 4000. Sheet 2 stands there by the closed form, by the
-- form without subtraction and by the passes.
small : List Line
unfolding defaults
small =
    line 1 (over (conditional 1000 3000 1) 2) (decimal 37 2)
    ∷ line 1 (over (conditional 1000 3000 2) 3) (decimal 559 3)
    ∷ line 1 (over (joint 1000 3000 3) (triangle 3)) (decimal 20683 6)
    ∷ line 2 (probability 1000 3000 0 3) (decimal 790317 6)
    ∷ line 2 (probability 1000 3000 1 3) (decimal 46683 6)
    ∷ line 2 (probability 1000 3000 2 3) (decimal 16317 6)
    ∷ line 2 (probability 1000 3000 3 3) (decimal 20683 6)
    ∷ line 2 (over (without_subtraction 1000 3000 0 2) (triangle 3)) (decimal 790317 6)
    ∷ line 2 (over (without_subtraction 1000 3000 1 2) (triangle 3)) (decimal 46683 6)
    ∷ line 2 (over (without_subtraction 1000 3000 2 2) (triangle 3)) (decimal 16317 6)
    ∷ line 2 (over (row_entry 1000 3000 3 0) (triangle 3)) (decimal 790317 6)
    ∷ line 2 (over (row_entry 1000 3000 3 1) (triangle 3)) (decimal 46683 6)
    ∷ line 2 (over (row_entry 1000 3000 3 2) (triangle 3)) (decimal 16317 6)
    ∷ line 2 (over (row_entry 1000 3000 3 3) (triangle 3)) (decimal 20683 6)
    ∷ line 3 (chance (defaults 3 1000 3000) 0) (decimal 790317 6)
    ∷ line 3 (chance (defaults 3 1000 3000) 1) (decimal 140049 6)
    ∷ line 3 (chance (defaults 3 1000 3000) 2) (decimal 48951 6)
    ∷ line 3 (chance (defaults 3 1000 3000) 3) (decimal 20683 6)
    ∷ line 4 (over (loss_units 3 4000 1000 3000 0) 0) (decimal 0 0)
    ∷ line 4 (over (loss_units 3 4000 1000 3000 1) 0) (decimal 3000 0)
    ∷ line 4 (over (loss_units 3 4000 1000 3000 2) 0) (decimal 6000 0)
    ∷ line 4 (over (loss_units 3 4000 1000 3000 3) 0) (decimal 6000 0)
    ∷ line 4 (expected_loss (defaults 3 1000 3000) 4000 1000 3000 (lit< tt)) (decimal 1396585 7)
    ∷ line 5 (expected_loss (defaults 3 1000 3000) 4000 0 6000 (lit< tt)) (decimal 1 1)
    ∷ line 6 (expected_loss (defaults 3 1000 3000) 4000 6000 10000 (lit< tt)) (decimal 0 0)
    ∷ line 7 (chance (defaults 2 5000 0) 0) (decimal 25 2)
    ∷ line 7 (chance (defaults 2 5000 0) 1) (decimal 5 1)
    ∷ line 7 (chance (defaults 2 5000 0) 2) (decimal 25 2)
    ∷ line 8 (chance (defaults 2 5000 10000) 0) (decimal 5 1)
    ∷ line 8 (chance (defaults 2 5000 10000) 1) (decimal 0 0)
    ∷ line 8 (chance (defaults 2 5000 10000) 2) (decimal 5 1)
    ∷ line 9 (chance (defaults 1 0 3000) 0) (decimal 1 0)
    ∷ line 9 (chance (defaults 1 0 3000) 1) (decimal 0 0)
    ∷ []

large : Line
unfolding defaults
large = line 10 (expected_loss (defaults 64 1 0) 0 9999 10000 (lit< tt)) (decimal 1 256)

pub table : List Line
table = large ∷ small

-- The numerator of the one times the denominator of the other, for each line.
products : (Line → Fraction) → (Line → Fraction) → List Line → List ℕ
products f g [] = []
products f g (l ∷ ls) = (f l).num * (g l).den ∷ products f g ls

by_products : (ls : List Line) → products (λ l. l.exact) (λ l. l.figure) ls ≡ products (λ l. l.figure) (λ l. l.exact) ls → Every ls
unfolding products
by_products [] e = tt
by_products (l ∷ ls) e = (record { cross = cc }, by_products ls (cc))

-- The small lines are computed.
small_holds : Every small
unfolding small line products decimal over triangle whole complement conditional joint scaled_joint closed_form probability defaults without_subtraction binomial_sum pass_step pass passed row_entry choose sum integer_sum signed alternating_sum share chance raise loss_above loss_units loss_numerator expected_loss
small_holds = by_products small refl

-- Sheet 10: the terms with no loss units drop out, and the one that is left, m_64 times 64, is computed.
large_numerator : large.exact.num ≡ choose 64 64 * (probability 1 0 64 64).num * 64
unfolding large line defaults expected_loss loss_above loss_units raise whole
large_numerator = loss_of_last (defaults 64 1 0) 0 9999 10000 refl

large_holds : Same large.exact large.figure
unfolding large line decimal over triangle whole complement conditional joint scaled_joint closed_form probability defaults choose integer_sum signed alternating_sum raise expected_loss
large_holds = record { cross = ap (λ z. z * 10 ^ 256) large_numerator }

pub sheets : Every table
unfolding table
sheets = (large_holds, small_holds)
