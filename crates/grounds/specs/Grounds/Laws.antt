-- The first ground of two lists, what the inputs of an accepted call are, that tranches past the count play no part, when a fill, a column and a desk are answered, by
-- what a desk is refused, and when the screen and the beta-binomial refuse as the library.
-- Assumes nothing.
use Prim.Native.Nat.{ℕ, zero, suc, ◌+◌, ◌-◌, ◌*◌, ◌/◌, ◌%◌, ◌≤◌, ◌<◌}
use Rattle.std.specs.Prelude.{◌≡◌, Bool, cond, ◌&&◌, ◌||◌, T, leb, take, drop}
use Rattle.std.proofs.Math.Path.{refl, sym}
use Rattle.std.proofs.Common.{ap, subst, ◌∙◌, true≢false, le_trans, mul-le-mul, add-one, arith, below_more, ltb→lt, leb→le, lit<, drop_of_length-le, drop-cons}
use Rattle.std.proofs.Math.Bool.{true, false, not}
use mathlib.Core.List.{List, [], ◌∷◌, ◌++◌}
use borrow.Author.Tests.{ltb-false, eqb-true, eqb-false, not-false, ltb-true, lt-ltb, le-ltb, eq-eqb, ne_eqb}
use Rattle.std.proofs.Math.Dec.{eqb, ltb}
use Rattle.std.proofs.Math.ListN.{length, length-take}
use Rattle.std.specs.Prelude.{get_or}
use Rattle.model.specs.Fraction.{whole}
use Rattle.model.specs.Number.{triangle}
use Rattle.model.specs.Number.Laws.{triangle_closed, triangle_mono}
use Rattle.kept.specs.declared.Kept.{Kept}
use Rattle.steps.specs.declared.Tranche.{Tranche}
use Rattle.steps.specs.Inputs.{largest_pool, report_pool, TrancheInRange}
use Rattle.steps.proofs.Inputs.Laws.{report_range}
use Rattle.steps.specs.Tranches.{tranche_places, tranche_at}
use Rattle.grounds.specs.Grounds.{Ground, first_of, first_ground, store_places, some_shorter, assets_ground, probability_ground, correlation_ground}
use Rattle.grounds.specs.Grounds.{recovery_ground, upper_ground, attachments_ground, store_ground, entries_ground, row_ground, screen_ground, full_correlation_ground}
use Rattle.grounds.specs.Grounds.{count_ground, pool_grounds, tranche_grounds, tranches_grounds, counted_grounds, fill_grounds, row_grounds, entries_grounds, column_grounds, loss_grounds}
use Rattle.grounds.specs.Grounds.{layer_ground, layer_grounds, LayerAccepted, expected_ground, ceiling_ground, desk_grounds, DeskAccepted}
use Rattle.grounds.specs.Grounds.{file_bytes, is_kept, some_unkept, short_file_ground, file_length_ground, kept_ground, file_form_grounds, file_grounds}
use Rattle.grounds.specs.Grounds.{FileFormAccepted, AllKept, FileAccepted}
use Rattle.grounds.specs.Grounds.{screened, Screens, beta_pool_grounds, beta_column_grounds, beta_loss_grounds}
use Rattle.grounds.specs.Grounds.{PoolAccepted, EachAtLeast, FillAccepted, RowAccepted, EntriesAccepted, TranchesAccepted, LossAccepted}
use Rattle.grounds.specs.Grounds.{BetaPoolAccepted, BetaColumnAccepted, BetaLossAccepted}

pub store_places_lem : (n : ℕ) → store_places n ≡ triangle (suc n)
unfolding store_places
store_places_lem n = omega (arith, triangle_closed (suc n))

-- k (k + 1) fits a word of 64 bits where k fits one of 32.
pub start_word : {k : ℕ} → k < 4294967296 → k * (k + 1) ≤ 4294967295 * 4294967296
start_word {k} l =
    let more : k + 1 ≤ 4294967296 = omega arith in
    let few : k ≤ 4294967295 = omega arith in
    mul-le-mul few more

-- ---- the first of two

-- The last of a list.
pub first_last : (a : ℕ) → first_of a 0 ≡ a
unfolding first_of
first_last zero = refl
first_last (suc a) = refl

-- Where there is a first.
pub first_some : (a b : ℕ) → (a ≡ 0 → ⊥) → a ≡ first_of a b
unfolding first_of
first_some zero b some = absurd (some refl)
first_some (suc a) b some = refl

neither_of : (a b : ℕ) → first_of a b ≡ 0 → (a ≡ 0) × (b ≡ 0)
unfolding first_of
neither_of zero b e = (refl, e)
neither_of (suc a) b e = absurd (omega arith)

first_assoc : (a b c : ℕ) → first_of (first_of a b) c ≡ first_of a (first_of b c)
unfolding first_of
first_assoc zero b c = refl
first_assoc (suc a) b c = refl

-- ---- two lists of grounds

pub first_append : (a b : List Ground) → first_of (first_ground a) (first_ground b) ≡ first_ground (a ++ b)
unfolding first_ground first_of
first_append [] b = refl
first_append (g ∷ gs) b =
    let own = cond g.applies g.number 0 in
    first_assoc own (first_ground gs) (first_ground b) ∙ ap (first_of own) (first_append gs b)

-- What a function answers that takes the first of two refusals.
pub first_of_both : {r x y : ℕ} (a b : List Ground) → r ≡ first_of x y → x ≡ first_ground a → y ≡ first_ground b → r ≡ first_ground (a ++ b)
first_of_both a b is first rest = rw (is, first, rest) (first_append a b)

-- Where no ground of two lists applies, none of either does.
none_of_both : {r : ℕ} (a b : List Ground) → r ≡ first_ground (a ++ b) → r ≡ 0 → (first_ground a ≡ 0) × (first_ground b ≡ 0)
none_of_both a b is none = neither_of (first_ground a) (first_ground b) (first_append a b ∙ sym is ∙ none)

-- Every ground has a number that meets a test.
abbrev numbers_meet : (ℕ → Bool) → List Ground → Bool
numbers_meet test [] = true
numbers_meet test (g ∷ gs) = test g.number && numbers_meet test gs

abbrev NoneApplies : List Ground → Type 0
NoneApplies [] = Unit {0}
NoneApplies (g ∷ gs) = (g.applies ≡ false) × NoneApplies gs

both_hold : (s t : Bool) → T (s && t) → T s × T t
both_hold true t h = (tt, h)
both_hold false t h = absurd h

none_applies : {r : ℕ} (gs : List Ground) → T (numbers_meet (ltb 0) gs) → r ≡ first_ground gs → r ≡ 0 → NoneApplies gs
unfolding first_ground
none_applies [] h is none = tt
none_applies {r = r} (g ∷ gs) h is none =
    let parts = neither_of (cond g.applies g.number 0) (first_ground gs) (sym is ∙ none) in
    let above = both_hold (ltb 0 g.number) (numbers_meet (ltb 0) gs) h in
    (off g.applies (ltb→lt 0 g.number above.0) parts.0, none_applies {r = first_ground gs} gs above.1 refl parts.1)
  where
    off : {m : ℕ} (t : Bool) → 0 < m → cond t m 0 ≡ 0 → t ≡ false
    off true above e = absurd (omega arith)
    off false above e = refl

-- What 0 and the number of every ground meet, that of the first which applies meets.
first_meets : (test : ℕ → Bool) (gs : List Ground) → T (test 0) → T (numbers_meet test gs) → T (test (first_ground gs))
unfolding first_ground first_of
first_meets test [] none each = none
first_meets test (g ∷ gs) none each =
    let parts = both_hold (test g.number) (numbers_meet test gs) each in
    either g.applies g.number (first_ground gs) parts.0 (first_meets test gs none parts.1)
  where
    either : (t : Bool) (x y : ℕ) → T (test x) → T (test y) → T (test (first_of (cond t x 0) y))
    either true zero y a b = b
    either true (suc x) y a b = a
    either false x y a b = b

-- ---- what the inputs of an accepted call are, from the number that its grounds give

pub neither : (s t : Bool) → (s || t) ≡ false → (s ≡ false) × (t ≡ false)
neither true t e = absurd (true≢false e)
neither false t e = (refl, e)

each_at_least : (m : ℕ) (ls : List ℕ) → some_shorter m ls ≡ false → EachAtLeast m ls
unfolding some_shorter
each_at_least m [] e = tt
each_at_least m (l ∷ ls) e =
    let off = neither (ltb l m) (some_shorter m ls) e in
    (ltb-false l m off.0, each_at_least m ls off.1)

pub pool_accepted : {r : ℕ} (most n p ρ : ℕ) → r ≡ first_ground (pool_grounds most n p ρ) → r ≡ 0 → PoolAccepted most n p ρ
unfolding pool_grounds assets_ground probability_ground correlation_ground
pool_accepted most n p ρ is none =
    let off = none_applies (pool_grounds most n p ρ) tt is none in
    let assets = neither (eqb n 0) (ltb most n) off.0 in
    let not_zero = eqb-false n 0 assets.0 in
    record {
      not_empty = omega arith;
      range = record {
        assets = ltb-false most n assets.1;
        probability = ltb-false whole p off.1.0;
        correlation = ltb-false whole ρ off.1.1.0;
      };
    }

-- A pool that a report accepts is one that the library accepts.
pub report_accepted : {n p ρ : ℕ} → PoolAccepted report_pool n p ρ → PoolAccepted largest_pool n p ρ
report_accepted pool = record { not_empty = pool.not_empty; range = report_range pool.range }

pub report_fill_accepted : {n p ρ : ℕ} {lengths : List ℕ} → FillAccepted report_pool n p ρ lengths → FillAccepted largest_pool n p ρ lengths
report_fill_accepted fill = record { pool = report_accepted fill.pool; store = fill.store }

tranche_accepted : {r : ℕ} (R A B : ℕ) → r ≡ first_ground (tranche_grounds R A B) → r ≡ 0 → TrancheInRange R A B
unfolding tranche_grounds recovery_ground upper_ground attachments_ground
tranche_accepted R A B is none =
    let off = none_applies (tranche_grounds R A B) tt is none in
    record {
      recovery = ltb-false whole R off.0;
      upper = ltb-false whole B off.1.0;
      lower = ltb-true A B (not-false (ltb A B) off.1.1.0);
    }

store_accepted : {r : ℕ} (n : ℕ) (lengths : List ℕ) → r ≡ first_ground (store_ground n lengths ∷ []) → r ≡ 0 → EachAtLeast (triangle (suc n)) lengths
unfolding store_ground
store_accepted n lengths is none =
    rw store_places_lem at (each_at_least (store_places n) lengths (none_applies (store_ground n lengths ∷ []) tt is none).0)

-- Of a call that checks grounds of its own between those of the pool and that of the store.
between_accepted : {r : ℕ} (most n p ρ : ℕ) (own : List Ground) (lengths : List ℕ)
    → r ≡ first_ground (pool_grounds most n p ρ ++ (own ++ (store_ground n lengths ∷ []))) → r ≡ 0 → FillAccepted most n p ρ lengths × (first_ground own ≡ 0)
between_accepted most n p ρ own lengths is none =
    let parts = none_of_both (pool_grounds most n p ρ) (own ++ (store_ground n lengths ∷ [])) is none in
    let rest = none_of_both own (store_ground n lengths ∷ []) refl parts.1 in
    (record { pool = pool_accepted most n p ρ refl parts.0; store = store_accepted n lengths refl rest.1 }, rest.0)

pub fill_accepted : {r : ℕ} (most n p ρ : ℕ) (lengths : List ℕ) → r ≡ first_ground (fill_grounds most n p ρ lengths) → r ≡ 0 → FillAccepted most n p ρ lengths
unfolding fill_grounds
fill_accepted most n p ρ lengths is none = (between_accepted most n p ρ [] lengths is none).0

pub row_accepted : {r : ℕ} (most n k length : ℕ) → r ≡ first_ground (row_grounds most n k length) → r ≡ 0 → RowAccepted n k length
unfolding row_grounds assets_ground store_ground row_ground
row_accepted most n k length is none =
    let off = none_applies (row_grounds most n k length) tt is none in
    record {
      store = (rw store_places_lem at (each_at_least (store_places n) (length ∷ []) off.1.0)).0;
      row = ltb-false n k off.1.1.0;
    }

-- A slice that has room for entries 0 to n.
room_accepted : {r : ℕ} (number n places : ℕ) → 0 < number → r ≡ first_ground (entries_ground number n places ∷ []) → r ≡ 0 → n < places
unfolding entries_ground
room_accepted number n places above is none =
    let is_numbered : T (ltb 0 number && true) = rw (lt-ltb 0 number above) tt in
    omega (arith, ltb-false places (n + 1) (none_applies (entries_ground number n places ∷ []) is_numbered is none).0)

pub entries_accepted : {r : ℕ} (number most n p ρ : ℕ) (lengths : List ℕ) (places : ℕ) → 0 < number
    → r ≡ first_ground (entries_grounds number most n p ρ lengths places) → r ≡ 0 → EntriesAccepted most n p ρ lengths places
unfolding entries_grounds
entries_accepted number most n p ρ lengths places above is none =
    let parts = none_of_both (fill_grounds most n p ρ lengths) (entries_ground number n places ∷ []) is none in
    record { fill = fill_accepted most n p ρ lengths refl parts.0; entries = room_accepted number n places above refl parts.1 }

each_in_range : (ts : List Tranche) → first_ground (tranches_grounds ts) ≡ 0 → (i : ℕ) → i < length ts
    → TrancheInRange (tranche_at ts i).recovery (tranche_at ts i).lower (tranche_at ts i).upper
unfolding tranches_grounds
each_in_range [] none i l = absurd (omega arith)
each_in_range (t ∷ ts) none zero l =
    tranche_accepted t.recovery t.lower t.upper refl (none_of_both (tranche_grounds _ _ _) (tranches_grounds ts) refl none).0
each_in_range (t ∷ ts) none (suc i) l = each_in_range ts (none_of_both (tranche_grounds _ _ _) (tranches_grounds ts) refl none).1 i (omega arith)

pub tranches_accepted : {r : ℕ} (ts : List Tranche) (count : ℕ) → r ≡ first_ground (counted_grounds ts count) → r ≡ 0 → TranchesAccepted ts count
unfolding counted_grounds count_ground
tranches_accepted ts count is none =
    let parts = none_of_both (count_ground count ∷ []) (tranches_grounds (take count ts)) is none in
    let counted = neither (eqb count 0) (ltb tranche_places count) (none_applies (count_ground count ∷ []) tt refl parts.0).0 in
    let not_zero = eqb-false count 0 counted.0 in
    record {
      some = omega arith;
      places = ltb-false tranche_places count counted.1;
      tranches = record { at = each_in_range (take count ts) parts.1 };
    }

pub loss_accepted : {r : ℕ} (most n p ρ : ℕ) (ts : List Tranche) (count : ℕ) (lengths : List ℕ)
    → r ≡ first_ground (loss_grounds most n p ρ ts count lengths) → r ≡ 0 → LossAccepted most n p ρ ts count lengths
unfolding loss_grounds
loss_accepted most n p ρ ts count lengths is none =
    let parts = between_accepted most n p ρ (counted_grounds ts count) lengths is none in
    record { fill = parts.0; tranches = tranches_accepted ts count refl parts.1 }

pub layer_accepted : {r : ℕ} (most n p ρ i j : ℕ) (lengths : List ℕ) → r ≡ first_ground (layer_grounds most n p ρ i j lengths) → r ≡ 0
    → LayerAccepted most n p ρ i j lengths
unfolding layer_grounds layer_ground
layer_accepted most n p ρ i j lengths is none =
    let parts = between_accepted most n p ρ (layer_ground n i j ∷ []) lengths is none in
    let off = neither (eqb i 0 || ltb j i) (ltb n j) (none_applies (layer_ground n i j ∷ []) tt refl parts.1).0 in
    let start = neither (eqb i 0) (ltb j i) off.0 in
    let not_zero = eqb-false i 0 start.0 in
    record { fill = parts.0; layer = record { from = omega arith; order = ltb-false j i start.1; to = ltb-false n j off.1 } }

pub beta_pool_accepted : {r : ℕ} (most n p ρ : ℕ) → r ≡ first_ground (beta_pool_grounds most n p ρ) → r ≡ 0 → BetaPoolAccepted most n p ρ
unfolding beta_pool_grounds full_correlation_ground
beta_pool_accepted most n p ρ is none =
    let parts = none_of_both (pool_grounds most n p ρ) (full_correlation_ground ρ ∷ []) is none in
    let pool = pool_accepted most n p ρ refl parts.0 in
    let not_whole = eqb-false ρ whole (none_applies (full_correlation_ground ρ ∷ []) tt refl parts.1).0 in
    record { pool = pool; below = omega (arith, pool.range.correlation) }

pub beta_column_accepted : {r : ℕ} (most n p ρ units : ℕ) → r ≡ first_ground (beta_column_grounds most n p ρ units) → r ≡ 0
    → BetaColumnAccepted most n p ρ units
unfolding beta_column_grounds
beta_column_accepted most n p ρ units is none =
    let parts = none_of_both (beta_pool_grounds most n p ρ) (entries_ground 8 n units ∷ []) is none in
    record { pool = beta_pool_accepted most n p ρ refl parts.0; entries = room_accepted 8 n units (lit< tt) refl parts.1 }

pub beta_loss_accepted : {r : ℕ} (most n p ρ : ℕ) (ts : List Tranche) (count : ℕ) → r ≡ first_ground (beta_loss_grounds most n p ρ ts count) → r ≡ 0
    → BetaLossAccepted most n p ρ ts count
unfolding beta_loss_grounds
beta_loss_accepted most n p ρ ts count is none =
    let parts = none_of_both (beta_pool_grounds most n p ρ) (counted_grounds ts count) is none in
    record { pool = beta_pool_accepted most n p ρ refl parts.0; tranches = tranches_accepted ts count refl parts.1 }

-- ---- tranches within the count, and past it

-- The grounds are the same where the tranches within the count are.
pub counted_within : (ts ts' : List Tranche) (count : ℕ) → take count ts ≡ take count ts' → counted_grounds ts count ≡ counted_grounds ts' count
unfolding counted_grounds
counted_within ts ts' count same = ap (λ (within : List Tranche). count_ground count ∷ tranches_grounds within) same

pub loss_grounds_within : (most n p ρ : ℕ) (ts ts' : List Tranche) (count : ℕ) (lengths : List ℕ) → take count ts ≡ take count ts'
    → loss_grounds most n p ρ ts count lengths ≡ loss_grounds most n p ρ ts' count lengths
unfolding loss_grounds
loss_grounds_within most n p ρ ts ts' count lengths same = rw (counted_within ts ts' count same) refl

pub beta_loss_grounds_within : (most n p ρ : ℕ) (ts ts' : List Tranche) (count : ℕ) → take count ts ≡ take count ts'
    → beta_loss_grounds most n p ρ ts count ≡ beta_loss_grounds most n p ρ ts' count
unfolding beta_loss_grounds
beta_loss_grounds_within most n p ρ ts ts' count same = rw (counted_within ts ts' count same) refl

-- The tranches from place i on are that at the place and those behind it.
pub tranches_from : (ts : List Tranche) {i : ℕ} (d : Tranche) → i < length ts
    → tranches_grounds (drop i ts) ≡ tranche_grounds (get_or ts i d).recovery (get_or ts i d).lower (get_or ts i d).upper ++ tranches_grounds (drop (suc i) ts)
unfolding tranches_grounds
tranches_from ts {i} d placed = rw (drop-cons ts i d placed) refl

-- Past the last none is left.
pub tranches_done : (ts : List Tranche) {i : ℕ} → length ts ≤ i → 0 ≡ first_ground (tranches_grounds (drop i ts))
unfolding tranches_grounds first_ground
tranches_done ts past = rw (drop_of_length-le ts past) refl

-- ---- the refusal of a pool

-- Its number is 3 at most.
pub pool_refusal_at_most : {r : ℕ} (most n p ρ : ℕ) → r ≡ first_ground (pool_grounds most n p ρ) → r ≤ 3
unfolding pool_grounds assets_ground probability_ground correlation_ground
pool_refusal_at_most most n p ρ is = rw is (leb→le _ 3 (first_meets (λ x. leb x 3) (pool_grounds most n p ρ) tt tt))

-- ---- when a call is answered

none_shorter : (m : ℕ) (ls : List ℕ) → EachAtLeast m ls → some_shorter m ls ≡ false
unfolding some_shorter
none_shorter m [] each = refl
none_shorter m (l ∷ ls) each = rw (le-ltb l m each.0) (none_shorter m ls each.1)

fewer_places : {m m' : ℕ} (ls : List ℕ) → m ≤ m' → EachAtLeast m' ls → EachAtLeast m ls
fewer_places [] few each = tt
fewer_places (l ∷ ls) few each = (le_trans few each.0, fewer_places ls few each.1)

-- No ground of a fill applies to inputs that are as those of an accepted one.
pub fill_answered : (most n p ρ : ℕ) (lengths : List ℕ) → FillAccepted most n p ρ lengths → first_ground (fill_grounds most n p ρ lengths) ≡ 0
unfolding first_of first_ground fill_grounds pool_grounds assets_ground probability_ground correlation_ground store_ground
fill_answered most n p ρ lengths accepted =
    let pool = accepted.pool in
    let some : n ≡ 0 → ⊥ = λ none. omega (arith, pool.not_empty) in
    rw (
      ne_eqb n 0 some,
      le-ltb most n pool.range.assets,
      le-ltb whole p pool.range.probability,
      le-ltb whole ρ pool.range.correlation,
      store_places_lem n,
      none_shorter (triangle (suc n)) lengths accepted.store,
    ) refl

-- With slices that have room for so many assets, no column of at most so many is refused whose pool is accepted.
pub column_answered : (most room n p ρ : ℕ) (lengths : List ℕ) (units : ℕ) → PoolAccepted most n p ρ → n ≤ room → EachAtLeast (triangle (suc room)) lengths
    → room < units → first_ground (column_grounds most n p ρ lengths units) ≡ 0
unfolding first_of first_ground column_grounds entries_grounds entries_ground
column_answered most room n p ρ lengths units pool few store column =
    let few_places : triangle (suc n) ≤ triangle (suc room) = triangle_mono (omega arith) in
    let places = fewer_places lengths few_places store in
    rw (
      ← first_append (fill_grounds most n p ρ lengths) (entries_ground 8 n units ∷ []),
      fill_answered most n p ρ lengths (record { pool = pool; store = places }),
      le-ltb units (n + 1) (omega arith),
    ) refl

-- ---- the desk

-- A head that a fill would accept, with slices that it would: what is left of the list.
module _ (most n p ρ p' ρ' k ceiling : ℕ) (lengths : List ℕ) (fill : first_ground (fill_grounds most n p ρ lengths) ≡ 0) where
  desk_rest : first_ground (desk_grounds most n p ρ p' ρ' k ceiling lengths) ≡ first_ground (expected_ground p ρ p' ρ' ∷ row_ground n k ∷ ceiling_ground ceiling k ∷ [])
  unfolding first_of desk_grounds
  desk_rest = rw (← first_append (fill_grounds most n p ρ lengths) (expected_ground p ρ p' ρ' ∷ row_ground n k ∷ ceiling_ground ceiling k ∷ []), fill) refl

  -- 15 where the desk expects another pair, whatever row it asks for.
  pub desk_other_pair : (p ≡ p' → ρ ≡ ρ' → ⊥) → first_ground (desk_grounds most n p ρ p' ρ' k ceiling lengths) ≡ 15
  unfolding first_of first_ground expected_ground
  desk_other_pair other = desk_rest ∙ by_tests (eqb p p') (eqb ρ ρ') refl refl
    where
      by_tests : (s t : Bool) → s ≡ eqb p p' → t ≡ eqb ρ ρ' → first_of (cond (not s || not t) 15 0) (first_ground (row_ground n k ∷ ceiling_ground ceiling k ∷ [])) ≡ 15
      by_tests true true p_is ρ_is = absurd (other (eqb-true p p' (sym p_is)) (eqb-true ρ ρ' (sym ρ_is)))
      by_tests true false p_is ρ_is = refl
      by_tests false t p_is ρ_is = refl

  -- Where it expects the pair of the head.
  module _ (same_p : p ≡ p') (same_ρ : ρ ≡ ρ') where
    desk_row : first_ground (desk_grounds most n p ρ p' ρ' k ceiling lengths) ≡ first_ground (row_ground n k ∷ ceiling_ground ceiling k ∷ [])
    unfolding first_of first_ground expected_ground
    desk_row = desk_rest ∙ rw (eq-eqb p p' same_p, eq-eqb ρ ρ' same_ρ) refl

    -- 9 above the rows of the store.
    pub desk_above_assets : n < k → first_ground (desk_grounds most n p ρ p' ρ' k ceiling lengths) ≡ 9
    unfolding first_of first_ground row_ground
    desk_above_assets l = desk_row ∙ rw (lt-ltb n k l) refl

    -- 16 above the ceiling of the desk, where the store has the row.
    pub desk_above_ceiling : k ≤ n → ceiling < k → first_ground (desk_grounds most n p ρ p' ρ' k ceiling lengths) ≡ 16
    unfolding first_of first_ground row_ground ceiling_ground
    desk_above_ceiling row l = desk_row ∙ rw (le-ltb n k row, lt-ltb ceiling k l) refl

    pub desk_answered : k ≤ n → k ≤ ceiling → first_ground (desk_grounds most n p ρ p' ρ' k ceiling lengths) ≡ 0
    unfolding first_of first_ground row_ground ceiling_ground
    desk_answered row l = desk_row ∙ rw (le-ltb n k row, le-ltb ceiling k l) refl

  -- Of a row that the store has.
  pub desk_within : k ≤ n → first_ground (desk_grounds most n p ρ p' ρ' k ceiling lengths) ≡ first_ground (expected_ground p ρ p' ρ' ∷ ceiling_ground ceiling k ∷ [])
  unfolding first_of first_ground row_ground
  desk_within row = desk_rest ∙ rw (le-ltb n k row) refl

pub desk_accepted : {r : ℕ} (most n p ρ p' ρ' k ceiling : ℕ) (lengths : List ℕ) → r ≡ first_ground (desk_grounds most n p ρ p' ρ' k ceiling lengths) → r ≡ 0
    → DeskAccepted most n p ρ k lengths
unfolding desk_grounds expected_ground row_ground ceiling_ground
desk_accepted most n p ρ p' ρ' k ceiling lengths is none =
    let own = expected_ground p ρ p' ρ' ∷ row_ground n k ∷ ceiling_ground ceiling k ∷ [] in
    let parts = none_of_both (fill_grounds most n p ρ lengths) own is none in
    record { fill = fill_accepted most n p ρ lengths refl parts.0; row = ltb-false n k (none_applies own tt refl parts.1).1.0 }

-- ---- a store file

-- As many sixteens behind the head as the store has places, and nothing else: the length that the head gives a file.
pub file_length : (n bytes : ℕ) → 12 ≤ bytes → (eqb ((bytes - 12) / 16) (store_places n) && eqb ((bytes - 12) % 16) 0) ≡ eqb bytes (file_bytes n)
unfolding file_bytes
file_length n bytes room = by_tests (eqb ((bytes - 12) / 16) (store_places n)) (eqb ((bytes - 12) % 16) 0) refl refl
  where
    twice : 2 * store_places n ≡ (n + 1) * (n + 2)
    twice = rw (store_places_lem n) (omega (arith, triangle_closed (suc n)))

    by_tests : (s t : Bool) → s ≡ eqb ((bytes - 12) / 16) (store_places n) → t ≡ eqb ((bytes - 12) % 16) 0
        → (s && t) ≡ eqb bytes (12 + 8 * ((n + 1) * (n + 2)))
    by_tests true true s_is t_is =
        let places = eqb-true ((bytes - 12) / 16) (store_places n) (sym s_is) in
        let rest = eqb-true ((bytes - 12) % 16) 0 (sym t_is) in
        sym (eq-eqb bytes (12 + 8 * ((n + 1) * (n + 2))) (omega (arith, twice, places, rest)))
    by_tests true false s_is t_is =
        let rest = eqb-false ((bytes - 12) % 16) 0 (sym t_is) in
        sym (ne_eqb bytes (12 + 8 * ((n + 1) * (n + 2))) (λ e. rest (omega (arith, twice))))
    by_tests false t s_is t_is =
        let places = eqb-false ((bytes - 12) / 16) (store_places n) (sym s_is) in
        sym (ne_eqb bytes (12 + 8 * ((n + 1) * (n + 2))) (λ e. places (omega (arith, twice))))

pub kept_none : {f : ℕ → Kept} → AllKept 0 f
kept_none = record { at = λ i l. absurd (omega arith) }

pub kept_more : {m : ℕ} {f : ℕ → Kept} → AllKept m f → is_kept (f m) ≡ true → AllKept (m + 1) f
kept_more {m} {f} all next = record { at = below_more (λ i. is_kept (f i) ≡ true) m all.at next }

pub kept_all : {m i : ℕ} {f : ℕ → Kept} → i ≤ m → m ≤ i → AllKept i f → AllKept m f
kept_all most least all = record { at = λ j l. all.at j (omega arith) }

all_kept : (m : ℕ) (f : ℕ → Kept) → some_unkept m f ≡ false → AllKept m f
unfolding some_unkept
all_kept zero f none = kept_none
all_kept (suc m) f none =
    let parts = neither (some_unkept m f) (not (is_kept (f m))) none in
    rw (add-one m) at (kept_more (all_kept m f parts.0) (not-false (is_kept (f m)) parts.1))

pub none_unkept : (m : ℕ) (f : ℕ → Kept) → AllKept m f → some_unkept m f ≡ false
unfolding some_unkept
none_unkept zero f all = refl
none_unkept (suc m) f all = rw (none_unkept m f (record { at = λ i l. all.at i (omega arith) }), all.at m (omega arith)) refl

pub some_unkept_lem : (m : ℕ) (f : ℕ → Kept) (i : ℕ) → i < m → is_kept (f i) ≡ false → some_unkept m f ≡ true
some_unkept_lem m f i l bad = by_test (some_unkept m f) refl
  where
    by_test : (s : Bool) → s ≡ some_unkept m f → s ≡ true
    by_test true is = refl
    by_test false is = absurd (true≢false (sym ((all_kept m f (sym is)).at i l) ∙ bad))

module _ (most n p ρ bytes : ℕ) (lengths : List ℕ) where
  pub file_form_accepted : {r : ℕ} → r ≡ first_ground (file_form_grounds most n p ρ bytes lengths) → r ≡ 0 → FileFormAccepted most n p ρ bytes lengths
  unfolding file_form_grounds file_length_ground
  file_form_accepted is none =
      let own = file_length_ground n bytes ∷ [] in
      let parts = none_of_both (short_file_ground bytes ∷ []) (pool_grounds most n p ρ ++ (own ++ (store_ground n lengths ∷ []))) is none in
      let between = between_accepted most n p ρ own lengths refl parts.1 in
      record {
        fill = between.0;
        length = eqb-true bytes (file_bytes n) (not-false (eqb bytes (file_bytes n)) (none_applies own tt refl between.1).0);
      }

  file_form_answered : FileFormAccepted most n p ρ bytes lengths → first_ground (file_form_grounds most n p ρ bytes lengths) ≡ 0
  unfolding first_of first_ground file_form_grounds short_file_ground file_length_ground file_bytes pool_grounds assets_ground probability_ground correlation_ground store_ground
  file_form_answered accepted =
      let pool = accepted.fill.pool in
      let some : n ≡ 0 → ⊥ = λ none. omega (arith, pool.not_empty) in
      let long : 12 ≤ bytes = omega (arith, accepted.length) in
      rw (
        le-ltb bytes 12 long,
        ne_eqb n 0 some,
        le-ltb most n pool.range.assets,
        le-ltb whole p pool.range.probability,
        le-ltb whole ρ pool.range.correlation,
        eq-eqb bytes (12 + 8 * ((n + 1) * (n + 2))) accepted.length,
        store_places_lem n,
        none_shorter (triangle (suc n)) lengths accepted.fill.store,
      ) refl

  module _ (low high : ℕ → Kept) where
    -- What refuses before the entries are looked at.
    pub file_form_refused : {r : ℕ} → r ≡ first_ground (file_form_grounds most n p ρ bytes lengths) → (r ≡ 0 → ⊥)
        → r ≡ first_ground (file_grounds most n p ρ bytes lengths low high)
    unfolding file_grounds
    file_form_refused {r} is some =
        first_some r (first_ground (kept_ground n low high ∷ [])) some
        ∙ rw is (first_append (file_form_grounds most n p ρ bytes lengths) (kept_ground n low high ∷ []))

    -- 17 where there is no room for a head, whatever it is.
    pub file_short : bytes < 12 → 17 ≡ first_ground (file_grounds most n p ρ bytes lengths low high)
    unfolding first_of first_ground file_grounds file_form_grounds short_file_ground
    file_short l = rw (lt-ltb bytes 12 l) refl

    -- 18 by the entries, and otherwise nothing.
    pub file_by_entries : first_ground (file_form_grounds most n p ρ bytes lengths) ≡ 0
        → cond (some_unkept (store_places n) low || some_unkept (store_places n) high) 18 0 ≡ first_ground (file_grounds most n p ρ bytes lengths low high)
    unfolding first_of first_ground file_grounds kept_ground
    file_by_entries none =
        sym (rw (← first_append (file_form_grounds most n p ρ bytes lengths) (kept_ground n low high ∷ []), none) (first_last _))

    pub file_accepted : {r : ℕ} → r ≡ first_ground (file_grounds most n p ρ bytes lengths low high) → r ≡ 0 → FileAccepted most n p ρ bytes lengths low high
    unfolding file_grounds kept_ground
    file_accepted is none =
        let own = kept_ground n low high ∷ [] in
        let parts = none_of_both (file_form_grounds most n p ρ bytes lengths) own is none in
        let off = neither (some_unkept (store_places n) low) (some_unkept (store_places n) high) (none_applies own tt refl parts.1).0 in
        record {
          form = file_form_accepted refl parts.0;
          low_kept = rw (store_places_lem n) at (all_kept (store_places n) low off.0);
          high_kept = rw (store_places_lem n) at (all_kept (store_places n) high off.1);
        }

    pub file_answered : FileAccepted most n p ρ bytes lengths low high → first_ground (file_grounds most n p ρ bytes lengths low high) ≡ 0
    unfolding first_of
    file_answered accepted =
        sym (file_by_entries (file_form_answered accepted.form))
        ∙ rw (store_places_lem n, none_unkept (triangle (suc n)) low accepted.low_kept, none_unkept (triangle (suc n)) high accepted.high_kept) refl

-- ---- the refusal of a pool of the beta-binomial

-- Below full correlation, and above it, the beta-binomial refuses a pool as the library does.
pub beta_refused_as_pool : (most n p ρ : ℕ) → (ρ ≡ whole → ⊥) → first_ground (beta_pool_grounds most n p ρ) ≡ first_ground (pool_grounds most n p ρ)
unfolding first_of first_ground beta_pool_grounds full_correlation_ground
beta_refused_as_pool most n p ρ not_whole =
    rw (← first_append (pool_grounds most n p ρ) (full_correlation_ground ρ ∷ []), ne_eqb ρ whole not_whole) (first_last (first_ground (pool_grounds most n p ρ)))

-- ---- the refusals of the screen

-- Where no more assets are given than it takes, the number is the library's.
pub screens_within : {most limit n library number : ℕ} → n ≤ limit → Screens most limit n library number → number ≡ library
screens_within within given = given.otherwise (λ eleven. let more = (given.only eleven).0 in absurd (omega arith))

pub screens_at : {most limit n library number number' : ℕ} → number ≡ number' → Screens most limit n library number' → Screens most limit n library number
screens_at {most} {limit} {n} {library} is given = subst (Screens most limit n library) (sym is) given

abbrev not_eleven : ℕ → Bool
not_eleven x = not (eqb x 11)

-- A list that starts with ground 1, and in which no other ground has number 11.
pub record StartsWithOne (most n : ℕ) (gs : List Ground) : Type 0 where
  pub rest : List Ground
  pub is : gs ≡ assets_ground most n ∷ rest
  pub others : T (numbers_meet not_eleven rest)

pub column_starts : (most n p ρ : ℕ) (lengths : List ℕ) (units : ℕ) → StartsWithOne most n (column_grounds most n p ρ lengths units)
unfolding column_grounds entries_grounds fill_grounds pool_grounds probability_ground correlation_ground store_ground entries_ground
column_starts most n p ρ lengths units = record { rest = _; is = refl; others = tt }

tranches_not_eleven : (ts : List Tranche) (gs : List Ground) → T (numbers_meet not_eleven gs) → T (numbers_meet not_eleven (tranches_grounds ts ++ gs))
unfolding tranches_grounds tranche_grounds recovery_ground upper_ground attachments_ground
tranches_not_eleven [] gs others = others
tranches_not_eleven (t ∷ ts) gs others = tranches_not_eleven ts gs others

pub loss_starts : (most n p ρ : ℕ) (ts : List Tranche) (count : ℕ) (lengths : List ℕ) → StartsWithOne most n (loss_grounds most n p ρ ts count lengths)
unfolding loss_grounds pool_grounds probability_ground correlation_ground counted_grounds count_ground store_ground
loss_starts most n p ρ ts count lengths = record { rest = _; is = refl; others = tranches_not_eleven (take count ts) (store_ground n lengths ∷ []) tt }

module _ {most n : ℕ} (limit : ℕ) {gs : List Ground} (starts : StartsWithOne most n gs) where
  pub screens : Screens most limit n (first_ground gs) (first_ground (screened limit n gs))
  unfolding first_ground first_of screened assets_ground screen_ground
  screens = rw starts.is (by_tests (eqb n 0 || ltb most n) (ltb limit n) refl refl)
    where
      later : ℕ
      later = first_ground starts.rest

      other : later ≡ 11 → ⊥
      other eleven = subst (λ (x : ℕ). T (not_eleven x)) eleven (first_meets not_eleven starts.rest tt starts.others)

      in_between : limit < n → n ≤ most → (eqb n 0 || ltb most n) ≡ false
      in_between more l =
          let some : n ≡ 0 → ⊥ = λ none. omega arith in
          rw (ne_eqb n 0 some, le-ltb most n l) refl

      by_tests : (one eleven : Bool) → one ≡ (eqb n 0 || ltb most n) → eleven ≡ ltb limit n
          → Screens most limit n (first_of (cond one 1 0) later) (first_of (cond one 1 0) (first_of (cond eleven 11 0) later))
      by_tests true eleven one_is eleven_is = record {
        eleven = λ more l. absurd (true≢false (one_is ∙ in_between more l));
        only = λ is. absurd (omega arith);
        otherwise = λ _. refl;
      }
      by_tests false true one_is eleven_is = record {
        eleven = λ _ _. refl;
        only = λ _. (ltb-true limit n (sym eleven_is), ltb-false most n (neither (eqb n 0) (ltb most n) (sym one_is)).1);
        otherwise = λ not. absurd (not refl);
      }
      by_tests false false one_is eleven_is = record {
        eleven = λ more _. absurd (true≢false (sym (lt-ltb limit n more) ∙ sym eleven_is));
        only = λ is. absurd (other is);
        otherwise = λ _. refl;
      }

  -- What refuses before the list goes on.
  pub screen_refused : {r : ℕ} → r ≡ first_ground (assets_ground most n ∷ screen_ground limit n ∷ []) → (r ≡ 0 → ⊥) → r ≡ first_ground (screened limit n gs)
  unfolding screened
  screen_refused {r} is some =
      first_some r (first_ground starts.rest) some
      ∙ rw (is, starts.is) (first_append (assets_ground most n ∷ screen_ground limit n ∷ []) starts.rest)

pub screen_within : {r : ℕ} (most limit n : ℕ) → r ≡ first_ground (assets_ground most n ∷ screen_ground limit n ∷ []) → r ≡ 0 → n ≤ limit
unfolding assets_ground screen_ground
screen_within most limit n is none = ltb-false limit n (none_applies (assets_ground most n ∷ screen_ground limit n ∷ []) tt is none).1.0
