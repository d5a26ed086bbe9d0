-- The places of the store.
-- Assumes nothing.
use Prim.Native.Nat.{ℕ, zero, suc, ◌+◌, ◌≤◌, ◌<◌, suc-le-suc}
use Rattle.std.specs.Prelude.{◌≡◌, List, length, get_or}
use Rattle.std.proofs.Math.Path.{refl, ap}
use Rattle.std.proofs.Common.{◌∙◌, length-append, get_or-append-add}
use Rattle.std.proofs.Math.Decide.{dec_le}
use native.Mathlib.Omega.{arith}
use Rattle.std.proofs.Math.ListN.{length-map, get_or-append}
use Rattle.model.specs.Number.{triangle}
use Rattle.model.specs.Number.Laws.{triangle_mono}
use Rattle.kept.specs.declared.Kept.{Kept}
use Rattle.kept.specs.declared.Side.{Side}
use Rattle.kept.specs.Rounding.{nought}
use Rattle.steps.specs.CorrelatedBinomial.Rows.{kept_row}
use Rattle.working.specs.Slices.{overwritten}
use Rattle.working.proofs.Slices.Laws.{length_tabulate, get_d_tabulate, overwritten_field}
use Rattle.rows.specs.Store.{rows_before, stored}

module _ (side : Side) (p ρ : ℕ) where
  rows_length : (m : ℕ) → length (rows_before side p ρ m) ≡ triangle m
  unfolding rows_before triangle
  rows_length zero = refl
  rows_length (suc m) = rw (length-append, rows_length m, length_tabulate (suc m))

  -- Entry j of row k stands at place T(k) + j.
  rows_entry : (m : ℕ) {j k : ℕ} → j ≤ k → k < m → get_or (rows_before side p ρ m) (triangle k + j) nought ≡ kept_row side p ρ k j
  unfolding rows_before triangle
  rows_entry zero l h = absurd (omega arith)
  rows_entry (suc m) {j} {k} l h = elim (dec_le m k) [
    | yes b ↦
        let last : k ≡ m = omega arith in
        rw (last, ← rows_length m)
        (get_or-append-add (rows_before side p ρ m) _ j nought ∙ get_d_tabulate (suc m) (kept_row side p ρ m) j nought (omega arith))
    | no b ↦
        let earlier : suc k ≤ m = omega arith in
        get_or-append (rows_before side p ρ m) _ nought (triangle k + j) (omega (arith, rows_length m, triangle_mono earlier))
        ∙ rows_entry m l earlier
  ]

  pub stored_length : {A : Type 0} (field : Kept → A) (n : ℕ) → length (stored side p ρ field n) ≡ triangle (suc n)
  unfolding stored
  stored_length field n = rw length-map (rows_length (suc n))

  -- Entry j of row k in a slice that was filled.
  pub filled_entry : {A : Type 0} (field : Kept → A) (n : ℕ) (old : List A) {j k : ℕ} → j ≤ k → k ≤ n
      → get_or (overwritten (stored side p ρ field n) old) (triangle k + j) (field nought) ≡ field (kept_row side p ρ k j)
  unfolding stored triangle
  filled_entry field n old {j} {k} l h =
      overwritten_field field (rows_before side p ρ (suc n)) old (triangle k + j) (omega (arith, triangle_mono h, rows_length (suc n)))
      ∙ ap field (rows_entry (suc n) l (suc-le-suc h))
