-- `same_entries` meets its contract: `==` of two numbers decides whether they are the same, so each of the four tests decides.
use Rattle.std.proofs.lemmas.Bool.Decides.{Decides-eqb, Decides-int_eq, Decides-and, Decides-like}
use Rattle.disk_console.proofs.compare.same_entries.Goals as goal

pub returns : goal.returns
returns c =
    let low = c.same-low_significands.ensures Decides-eqb in
    let high = c.same-high_significands.ensures Decides-eqb in
    let low_exponents = c.same-low_exponents.ensures Decides-int_eq in
    let high_exponents = c.same-high_exponents.ensures Decides-int_eq in
    Decides-like _
    (λ all. record { low_significands = all.0.0.0; high_significands = all.0.0.1; low_exponents = all.0.1; high_exponents = all.1 })
    (λ same. (((same.low_significands, same.high_significands), same.low_exponents), same.high_exponents))
    (Decides-and _ _ (Decides-and _ _ (Decides-and _ _ low high) low_exponents) high_exponents)
