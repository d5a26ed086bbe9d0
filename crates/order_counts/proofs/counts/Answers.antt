-- `counts` meets its contract.
use Rattle.std.proofs.Common.{◌≡◌, refl, arith, rules}
use Rattle.kept.specs.Rounding.{rounded_sum}
use Rattle.steps.proofs.Inputs.Laws.{up_to_lem}
use Rattle.steps.specs.Counts.{exact_assets, summed_count, kept_count}
use Rattle.working.specs.Working.Laws.{entries_same}
use Rattle.order_counts.specs.Counts.Laws.{kept_add}
use Rattle.order_counts.proofs.counts.Goals as goal

pub pascal-requires : goal.pascal-requires
pascal-requires c = (
  search rules,
  (
    c.requires,
    (
      omega arith,
      (record {
        plus = rounded_sum c.args.side;
        gives = λ x y r given. search rules;
        callable = λ k j few from l.
            rw c.one.ensures (let both = kept_add c.args.side k j (omega arith) from l in search rules);
      }),
    ),
  ),
)

pub rounded_counts-requires : goal.rounded_counts-requires
unfolding exact_assets
rounded_counts-requires c = record { exact = omega arith; working = search rules }

pub returns-then-n-gt-EXACT_ASSETS : goal.returns-then-n-gt-EXACT_ASSETS
unfolding exact_assets kept_count summed_count
returns-then-n-gt-EXACT_ASSETS c =
    entries_same (rw c.one.ensures at (c.pascal.ensures.row_is (rounded_sum c.args.side) (λ x y r given. search rules)))
    (λ j l. up_to_lem (λ count. summed_count c.args.side c.args.n j ≡ count) exact_assets c.args.n (λ few. absurd (omega arith)) (λ _. refl))
