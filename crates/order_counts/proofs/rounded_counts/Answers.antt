-- `rounded_counts` meets its contract.
use Rattle.std.proofs.Common.{◌+◌, rules, ◌≡◌, refl, ap, ◌∙◌, arith, suc}
use Rattle.model.specs.Number.{choose}
use Rattle.model.specs.Number.Laws.{pascal_choose}
use Rattle.kept.specs.Rounding.{of_integer}
use Rattle.steps.specs.Inputs.{working_assets}
use Rattle.steps.proofs.Inputs.Laws.{up_to_lem}
use Rattle.steps.specs.Counts.{exact_assets, kept_count}
use Rattle.working.specs.Working.{working_places}
use Rattle.working.specs.Working.Laws.{entries_more, entries_same}
use Rattle.order_counts.specs.Counts.Laws.{words_add}
use Rattle.order_counts.proofs.rounded_counts.Goals as goal

pub pascal-exact-requires : goal.pascal-exact-requires
unfolding exact_assets
pascal-exact-requires c = (
  search rules,
  (
    omega arith,
    (
      omega arith,
      (record {
        plus = ◌+◌;
        gives = λ x y r given. search rules;
        callable = λ k j few from l. let small = words_add k j (omega arith) from l in search rules;
      }),
    ),
  ),
)

pub loop-j-preserved : goal.loop-j-preserved
unfolding working_places working_assets
loop-j-preserved c =
    let exact = (c.pascal-exact.ensures.row_is ◌+◌ (λ x y r given. search rules)).entry 0 c.loop-j.j (omega arith) ∙ pascal_choose c.args.n c.loop-j.j (omega arith) in
    entries_more c.loop-j.invariant (omega arith) (c.from_integer.ensures ∙ ap (of_integer c.args.side) exact)

pub returns : goal.returns
unfolding kept_count
returns c =
    let all : c.loop-j.j ≡ suc c.args.n = omega arith in
    entries_same (rw all at c.loop-j.invariant)
    (λ j l. up_to_lem (λ count. of_integer c.args.side (choose c.args.n j) ≡ count) exact_assets c.args.n (λ _. refl) (λ more. absurd (omega arith)))
