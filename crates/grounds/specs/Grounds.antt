-- The grounds on which a call says no, and what an accepted call's inputs are. Numbers and order are those of the papers.
-- Assumes nothing.
use Rattle.std.specs.Prelude.{ℕ, zero, suc, ◌+◌, ◌*◌, ◌/◌, ◌^◌, ◌≤◌, ◌<◌, ◌≡◌, Bool, true, false, cond, not, ◌&&◌, ◌||◌, List, [], ◌∷◌, ◌++◌, eqb, ltb, leb, nat_abs, take}
use Rattle.model.specs.Fraction.{whole}
use Rattle.model.specs.Number.{triangle}
use Rattle.kept.specs.declared.Kept.{Kept}
use Rattle.steps.specs.declared.Tranche.{Tranche}
use Rattle.steps.specs.Inputs.{InRange, LayerInRange}
use Rattle.steps.specs.Tranches.{tranche_places, TranchesInRange}
use Rattle.grounds.specs.declared.Lengths.{Lengths}
pub mod Laws

-- A ground, the scope paper's term for a reason to say no: its number, and whether it applies.
pub record Ground : Type 0 where
  pub number : ℕ
  pub applies : Bool

-- The first of two numbers that is not 0.
unfoldable pub first_of : ℕ → ℕ → ℕ
first_of zero b = b
first_of (suc a) b = suc a

-- The number of the first ground that applies, or 0 where none does.
unfoldable pub first_ground : List Ground → ℕ
first_ground [] = 0
first_ground (g ∷ gs) = first_of (cond g.applies g.number 0) (first_ground gs)

-- The places of a store of rows 0 to n.
unfoldable pub store_places : ℕ → ℕ
store_places n = (n + 1) * (n + 2) / 2

-- The lengths of the four slices of a store, in the order in which the calls take them.
unfoldable pub four_lengths : Lengths → List ℕ
four_lengths l = l.low_significands ∷ l.high_significands ∷ l.low_exponents ∷ l.high_exponents ∷ []

-- Some length is below m.
unfoldable pub some_shorter : ℕ → List ℕ → Bool
some_shorter m [] = false
some_shorter m (l ∷ ls) = ltb l m || some_shorter m ls

-- The bytes of a store file for n assets: 12 of the head, and four for each of the numbers of the store.
unfoldable pub file_bytes : ℕ → ℕ
file_bytes n = 12 + 8 * ((n + 1) * (n + 2))

-- A significand and an exponent are a kept number: the significand is 2^31 or more, or both are 0.
unfoldable pub is_kept : Kept → Bool
is_kept x = leb (2 ^ 31) x.significand || (eqb x.significand 0 && eqb (nat_abs x.exponent) 0)

-- Some of f 0 to f (m − 1) is none.
unfoldable pub some_unkept : ℕ → (ℕ → Kept) → Bool
some_unkept zero f = false
some_unkept (suc m) f = some_unkept m f || not (is_kept (f m))

-- ---- each ground

-- No asset, or more than the call's ceiling.
unfoldable pub assets_ground : (most n : ℕ) → Ground
assets_ground most n = record { number = 1; applies = eqb n 0 || ltb most n }

-- More than certainty.
unfoldable pub probability_ground : (p : ℕ) → Ground
probability_ground p = record { number = 2; applies = ltb whole p }

-- More than full correlation.
unfoldable pub correlation_ground : (ρ : ℕ) → Ground
correlation_ground ρ = record { number = 3; applies = ltb whole ρ }

-- More than all is recovered.
unfoldable pub recovery_ground : (R : ℕ) → Ground
recovery_ground R = record { number = 4; applies = ltb whole R }

-- The tranche ends above the pool.
unfoldable pub upper_ground : (B : ℕ) → Ground
upper_ground B = record { number = 5; applies = ltb whole B }

-- The tranche has no width.
unfoldable pub attachments_ground : (A B : ℕ) → Ground
attachments_ground A B = record { number = 6; applies = not (ltb A B) }

-- A slice of the store has no room for rows 0 to n.
unfoldable pub store_ground : (n : ℕ) (lengths : List ℕ) → Ground
store_ground n lengths = record { number = 7; applies = some_shorter (store_places n) lengths }

-- A slice has no room for its entries 0 to n. 8 is that of a column, printed or claimed, 10 that of a shift list.
unfoldable pub entries_ground : (number n places : ℕ) → Ground
entries_ground number n places = record { number = number; applies = ltb places (n + 1) }

-- There is no row k.
unfoldable pub row_ground : (n k : ℕ) → Ground
row_ground n k = record { number = 9; applies = ltb n k }

-- More assets than the quote screen takes.
unfoldable pub screen_ground : (limit n : ℕ) → Ground
screen_ground limit n = record { number = 11; applies = ltb limit n }

-- Full correlation: the first denominator of the beta-binomial is 0.
unfoldable pub full_correlation_ground : (ρ : ℕ) → Ground
full_correlation_ground ρ = record { number = 12; applies = eqb ρ whole }

-- The count of tranches is 0, or above the places for them.
unfoldable pub count_ground : (count : ℕ) → Ground
count_ground count = record { number = 13; applies = eqb count 0 || ltb tranche_places count }

-- Not 1 ≤ i ≤ j ≤ n.
unfoldable pub layer_ground : (n i j : ℕ) → Ground
layer_ground n i j = record { number = 14; applies = (eqb i 0 || ltb j i) || ltb n j }

-- The default probability or the correlation of the head differs from what the desk expects.
unfoldable pub expected_ground : (p ρ p' ρ' : ℕ) → Ground
expected_ground p ρ p' ρ' = record { number = 15; applies = not (eqb p p') || not (eqb ρ ρ') }

-- The row is above the desk's ceiling.
unfoldable pub ceiling_ground : (ceiling k : ℕ) → Ground
ceiling_ground ceiling k = record { number = 16; applies = ltb ceiling k }

-- The file has no room for a head.
unfoldable pub short_file_ground : (bytes : ℕ) → Ground
short_file_ground bytes = record { number = 17; applies = ltb bytes 12 }

-- The file has not the length that its head gives it.
unfoldable pub file_length_ground : (n bytes : ℕ) → Ground
file_length_ground n bytes = record { number = 17; applies = not (eqb bytes (file_bytes n)) }

-- An entry of rows 0 to n is no kept number, on the low side or on the high one.
unfoldable pub kept_ground : (n : ℕ) (low high : ℕ → Kept) → Ground
kept_ground n low high = record { number = 18; applies = some_unkept (store_places n) low || some_unkept (store_places n) high }

-- ---- the grounds of each call, in order; `most` is its ceiling on the assets

-- 1 to 3, on the pool.
unfoldable pub pool_grounds : (most n p ρ : ℕ) → List Ground
pool_grounds most n p ρ = assets_ground most n ∷ probability_ground p ∷ correlation_ground ρ ∷ []

-- 4 to 6, on a tranche.
unfoldable pub tranche_grounds : (R A B : ℕ) → List Ground
tranche_grounds R A B = recovery_ground R ∷ upper_ground B ∷ attachments_ground A B ∷ []

-- 4 to 6 of tranches, one tranche after the other.
unfoldable pub tranches_grounds : List Tranche → List Ground
tranches_grounds [] = []
tranches_grounds (t ∷ ts) = tranche_grounds t.recovery t.lower t.upper ++ tranches_grounds ts

-- 13, and 4 to 6 of each tranche within the count.
unfoldable pub counted_grounds : (ts : List Tranche) (count : ℕ) → List Ground
counted_grounds ts count = count_ground count ∷ tranches_grounds (take count ts)

-- 1 to 3 and 7.
unfoldable pub fill_grounds : (most n p ρ : ℕ) (lengths : List ℕ) → List Ground
fill_grounds most n p ρ lengths = pool_grounds most n p ρ ++ (store_ground n lengths ∷ [])

-- 1, 7 and 9.
unfoldable pub row_grounds : (most n k length : ℕ) → List Ground
row_grounds most n k length = assets_ground most n ∷ store_ground n (length ∷ []) ∷ row_ground n k ∷ []

-- 1 to 3, 7, and then that of a slice beside the store.
unfoldable pub entries_grounds : (number most n p ρ : ℕ) (lengths : List ℕ) (places : ℕ) → List Ground
entries_grounds number most n p ρ lengths places = fill_grounds most n p ρ lengths ++ (entries_ground number n places ∷ [])

-- 1 to 3, 7 and 8, of a column that is printed and of one that is checked.
unfoldable pub column_grounds : (most n p ρ : ℕ) (lengths : List ℕ) (units : ℕ) → List Ground
column_grounds = entries_grounds 8

-- 1 to 3, 7 and 10.
unfoldable pub shift_grounds : (most n p ρ : ℕ) (lengths : List ℕ) (shifts : ℕ) → List Ground
shift_grounds = entries_grounds 10

-- 1 to 3, 13, 4 to 6 of each tranche within the count, and 7.
unfoldable pub loss_grounds : (most n p ρ : ℕ) (ts : List Tranche) (count : ℕ) (lengths : List ℕ) → List Ground
loss_grounds most n p ρ ts count lengths = pool_grounds most n p ρ ++ (counted_grounds ts count ++ (store_ground n lengths ∷ []))

-- 1 to 3, 14 and 7.
unfoldable pub layer_grounds : (most n p ρ i j : ℕ) (lengths : List ℕ) → List Ground
layer_grounds most n p ρ i j lengths = pool_grounds most n p ρ ++ (layer_ground n i j ∷ store_ground n lengths ∷ [])

-- 1 to 3 on the head of the store, 7, 15, 9 and 16; p' and ρ' are what the desk expects.
unfoldable pub desk_grounds : (most n p ρ p' ρ' k ceiling : ℕ) (lengths : List ℕ) → List Ground
desk_grounds most n p ρ p' ρ' k ceiling lengths =
    fill_grounds most n p ρ lengths ++ (expected_ground p ρ p' ρ' ∷ row_ground n k ∷ ceiling_ground ceiling k ∷ [])

-- 17, 1 to 3 on a head, 17 and 7: what is checked of a file before its entries.
unfoldable pub file_form_grounds : (most n p ρ bytes : ℕ) (lengths : List ℕ) → List Ground
file_form_grounds most n p ρ bytes lengths =
    short_file_ground bytes ∷ (pool_grounds most n p ρ ++ (file_length_ground n bytes ∷ store_ground n lengths ∷ []))

-- The same and 18, of a file that is written and of one that is read. Head and entries are those that are given to be written, or those of the file.
unfoldable pub file_grounds : (most n p ρ bytes : ℕ) (lengths : List ℕ) (low high : ℕ → Kept) → List Ground
file_grounds most n p ρ bytes lengths low high = file_form_grounds most n p ρ bytes lengths ++ (kept_ground n low high ∷ [])

-- On the quote screen, which has a limit of its own: the same with 11 directly after the first.
unfoldable pub screened : (limit n : ℕ) → List Ground → List Ground
screened limit n [] = screen_ground limit n ∷ []
screened limit n (g ∷ gs) = g ∷ screen_ground limit n ∷ gs

-- 1, 11, 2, 3, 7 and 8.
unfoldable pub screen_column_grounds : (most limit n p ρ : ℕ) (lengths : List ℕ) (units : ℕ) → List Ground
screen_column_grounds most limit n p ρ lengths units = screened limit n (column_grounds most n p ρ lengths units)

-- 1, 11, 2, 3, 13, 4 to 6 of each tranche within the count, and 7.
unfoldable pub screen_loss_grounds : (most limit n p ρ : ℕ) (ts : List Tranche) (count : ℕ) (lengths : List ℕ) → List Ground
screen_loss_grounds most limit n p ρ ts count lengths = screened limit n (loss_grounds most n p ρ ts count lengths)

-- 1 to 3 and 12, on the pool of the beta-binomial, whose calls are lent no store.
unfoldable pub beta_pool_grounds : (most n p ρ : ℕ) → List Ground
beta_pool_grounds most n p ρ = pool_grounds most n p ρ ++ (full_correlation_ground ρ ∷ [])

-- 1 to 3, 12 and 8.
unfoldable pub beta_column_grounds : (most n p ρ units : ℕ) → List Ground
beta_column_grounds most n p ρ units = beta_pool_grounds most n p ρ ++ (entries_ground 8 n units ∷ [])

-- 1 to 3, 12, 13, and 4 to 6 of each tranche within the count.
unfoldable pub beta_loss_grounds : (most n p ρ : ℕ) (ts : List Tranche) (count : ℕ) → List Ground
beta_loss_grounds most n p ρ ts count = beta_pool_grounds most n p ρ ++ counted_grounds ts count

-- The number that the screen's list gives, beside that of the library's list for the same inputs: 11 exactly where the pool has more than `limit` assets and
-- ground 1 does not apply, and the library's otherwise.
pub record Screens (most limit n library number : ℕ) : Type 0 where
  pub eleven : limit < n → n ≤ most → number ≡ 11
  pub only : number ≡ 11 → (limit < n) × (n ≤ most)
  pub otherwise : (number ≡ 11 → ⊥) → number ≡ library

-- ---- what the inputs of an accepted call are

pub record PoolAccepted (most n p ρ : ℕ) : Type 0 where
  pub not_empty : 0 < n
  pub range : InRange most n p ρ

-- Each length is m or more.
abbrev pub EachAtLeast : ℕ → List ℕ → Type 0
EachAtLeast m [] = Unit {0}
EachAtLeast m (l ∷ ls) = (m ≤ l) × EachAtLeast m ls

pub record FillAccepted (most n p ρ : ℕ) (lengths : List ℕ) : Type 0 where
  pub pool : PoolAccepted most n p ρ
  pub store : EachAtLeast (triangle (suc n)) lengths

pub record RowAccepted (n k length : ℕ) : Type 0 where
  pub store : triangle (suc n) ≤ length
  pub row : k ≤ n

-- Of a call that is also lent a slice for entries 0 to n beside the store: a column, printed or claimed, a shift list.
pub record EntriesAccepted (most n p ρ : ℕ) (lengths : List ℕ) (places : ℕ) : Type 0 where
  pub fill : FillAccepted most n p ρ lengths
  pub entries : n < places

pub record TranchesAccepted (ts : List Tranche) (count : ℕ) : Type 0 where
  pub some : 0 < count
  pub places : count ≤ tranche_places
  pub tranches : TranchesInRange (take count ts)

pub record LossAccepted (most n p ρ : ℕ) (ts : List Tranche) (count : ℕ) (lengths : List ℕ) : Type 0 where
  pub fill : FillAccepted most n p ρ lengths
  pub tranches : TranchesAccepted ts count

pub record LayerAccepted (most n p ρ i j : ℕ) (lengths : List ℕ) : Type 0 where
  pub fill : FillAccepted most n p ρ lengths
  pub layer : LayerInRange n i j

pub record DeskAccepted (most n p ρ k : ℕ) (lengths : List ℕ) : Type 0 where
  pub fill : FillAccepted most n p ρ lengths
  pub row : k ≤ n

pub record FileFormAccepted (most n p ρ bytes : ℕ) (lengths : List ℕ) : Type 0 where
  pub fill : FillAccepted most n p ρ lengths
  pub length : bytes ≡ file_bytes n

-- Each of f 0 to f (m − 1) is a kept number.
pub record AllKept (m : ℕ) (f : ℕ → Kept) : Type 0 where
  pub at : (i : ℕ) → i < m → is_kept (f i) ≡ true

pub record FileAccepted (most n p ρ bytes : ℕ) (lengths : List ℕ) (low high : ℕ → Kept) : Type 0 where
  pub form : FileFormAccepted most n p ρ bytes lengths
  pub low_kept : AllKept (triangle (suc n)) low
  pub high_kept : AllKept (triangle (suc n)) high

pub record BetaPoolAccepted (most n p ρ : ℕ) : Type 0 where
  pub pool : PoolAccepted most n p ρ
  pub below : ρ < whole

pub record BetaColumnAccepted (most n p ρ places : ℕ) : Type 0 where
  pub pool : BetaPoolAccepted most n p ρ
  pub entries : n < places

pub record BetaLossAccepted (most n p ρ : ℕ) (ts : List Tranche) (count : ℕ) : Type 0 where
  pub pool : BetaPoolAccepted most n p ρ
  pub tranches : TranchesAccepted ts count
