-- The pool T of the sheets, 3 assets with p = 1000 and ρ = 3000, by the beta-binomial model, worked by hand. The correlation is 0.3 after no default and 0.3 / 1.3 = 3/13
-- after one, so that p_1 = 0.1, p_2 = 0.1 × 0.7 + 0.3 = 0.37, p_3 = 0.37 × 10/13 + 3/13 = 6.7/13 and m_3 = 0.2479/13. P(j,3) stands here by the closed form and by the
-- quotients.
-- Assumes nothing.
use Rattle.std.specs.Prelude.{ℕ, ◌<◌, refl}
use Rattle.std.proofs.Common.{lit<}
use Rattle.model.specs.Number.{product, product_between, choose, integer_sum, signed, alternating_sum, raise}
use Rattle.model.specs.Fraction.{Fraction, Same, whole, complement}
use Rattle.model.specs.ClosedForm.{conditional_den, joint_den, conditional_by, joint_by, closed_form_by, probability_by}
use Rattle.model.specs.BetaBinomial.{beta_correlation, beta_probability, quotient_numerator, quotient_denominator, quotient_product}

-- n / 130,000
abbrev figure : ℕ → Fraction
figure n = record { num = n; den = 130000; positive = lit< tt }

pub below_full : 3000 < whole
unfolding whole
below_full = lit< tt

-- P(j,3) is n / 130,000 by either form.
pub record Worked (j n : ℕ) : Type 0 where
  pub closed_form_lem : Same (beta_probability 1000 3000 j 3) (figure n)
  pub quotients : Same (quotient_product below_full 1000 j 3) (figure n)

pub cases : Worked 0 102951 × Worked 1 5859 × Worked 2 2331 × Worked 3 2479
unfolding beta_correlation beta_probability quotient_numerator quotient_denominator quotient_product conditional_den joint_den conditional_by joint_by closed_form_by probability_by product product_between choose integer_sum signed alternating_sum raise whole complement
cases = (
  record { closed_form_lem = record { cross = refl }; quotients = record { cross = refl } },
  record { closed_form_lem = record { cross = refl }; quotients = record { cross = refl } },
  record { closed_form_lem = record { cross = refl }; quotients = record { cross = refl } },
  record { closed_form_lem = record { cross = refl }; quotients = record { cross = refl } },
)
