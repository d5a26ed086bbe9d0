-- `row` meets its contract.
use Rattle.std.proofs.Common.{ℕ, List, ◌≡◌, ◌+◌, ◌-◌, ◌≤◌, length, sym, ◌∙◌, rules, arith, add-zero}
use Rattle.model.specs.Number.{triangle}
use Rattle.grounds.proofs.Refusals.{err_some, ok_none}
use Rattle.store.specs.Stores.{place}
use Rattle.store.specs.Stores.Laws.{place_triangle}
use Rattle.store.specs.Calls.{row_refusal}
use Rattle.store.proofs.Calls.Laws.{hands_row, row_within, part_refused, part_accepted}
use Rattle.store.proofs.reading.row.Goals as goal

-- Where row k starts.
start : {first : ℕ} (k : ℕ) → first ≡ triangle k → first ≡ place k 0
start k is = is ∙ sym (place_triangle k 0 ∙ add-zero (triangle k))

-- The part ends within the slice.
ends : {first refusal : ℕ} (n k : ℕ) (significands : List ℕ) → first ≡ triangle k → refusal ≡ row_refusal n k significands → refusal ≡ 0
    → first + k + 1 ≤ length significands
ends n k significands first is none = rw (start k first) (omega (arith, row_within n k significands (sym is ∙ none)))

pub returns-then-is_err : goal.returns-then-is_err
returns-then-is_err c =
    let given = c.args in
    hands_row given.n given.k given.significands.now
    (part_refused given.n given.k given.significands.now c.row_refusal.ensures (err_some _ c.is_err.ensures.value c.if-is_err.true))

pub overflow_add-end : goal.overflow_add-end
overflow_add-end c =
    let end = ends c.args.n c.args.k c.args.significands.now c.row_start-first.ensures c.row_refusal.ensures (ok_none _ c.is_err.ensures.value c.if-is_err.false) in
    record { fits = omega arith }

pub overflow_add-end-2 : goal.overflow_add-end-2
overflow_add-end-2 c =
    let end = ends c.args.n c.args.k c.args.significands.now c.row_start-first.ensures c.row_refusal.ensures (ok_none _ c.is_err.ensures.value c.if-is_err.false) in
    record { fits = omega arith }

pub offset_bounds-significands-first : goal.offset_bounds-significands-first
offset_bounds-significands-first c =
    let end = ends c.args.n c.args.k c.args.significands.now c.row_start-first.ensures c.row_refusal.ensures (ok_none _ c.is_err.ensures.value c.if-is_err.false) in
    record { fits = omega arith }

pub slice_bounds-result-end-2 : goal.slice_bounds-result-end-2
slice_bounds-result-end-2 c =
    let end = ends c.args.n c.args.k c.args.significands.now c.row_start-first.ensures c.row_refusal.ensures (ok_none _ c.is_err.ensures.value c.if-is_err.false) in
    search rules

pub returns : goal.returns
returns c =
    let given = c.args in
    let first = c.row_start-first.result in
    hands_row given.n given.k given.significands.now
    (part_accepted given.n given.k given.significands.now c.row_refusal.ensures (ok_none _ c.is_err.ensures.value c.if-is_err.false)
    (first + given.k + 1 - first) first (omega arith) (start given.k c.row_start-first.ensures))
