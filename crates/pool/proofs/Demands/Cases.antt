-- What the page says of touching tranches, and how it reads answers, in figures; that each call which fills a store has what is demanded of all of them, and which head it hands back.
-- Assumes nothing.
use Rattle.std.specs.Prelude.{Result, Ok, Err, Option, None, Some, ℕ, suc, ◌+◌, ◌-◌, ◌*◌, ◌/◌, ◌%◌, ◌^◌, ◌≤◌, ◌<◌, ◌≡◌, refl, ◌⊎◌, List, ℤ, pos, negsuc, length, get_or, ◌≤ℤ◌}
use Rattle.std.proofs.Common.{◌∙◌, lt-suc_self, arith}
use Rattle.std.proofs.Math.Nat.{le_step}
use Rattle.model.specs.Fraction.{Fraction, Same, AtMost, integer, plus, times, fraction_sum, whole}
use Rattle.model.specs.Fraction.Laws.{same_refl, same_sym, same_trans, plus_same}
use Rattle.model.specs.Chances.{Chances, expected_loss}
use Rattle.kept.specs.declared.Kept.{Kept}
use Rattle.kept.specs.declared.Side.{Side}
use Rattle.kept.specs.declared.Side.TheVariants.{Low, High}
use Rattle.kept.specs.Rounding.{value}
use Rattle.kept.specs.Rounding.Leading.{side_same}
use Rattle.steps.specs.Chances.{kept_loss}
use Rattle.steps.specs.declared.Tranche.{Tranche}
use Rattle.steps.proofs.Tranches.Cases.{three, touch}
use Rattle.model.specs.Number.Laws.{triangle_closed}
use Rattle.grounds.specs.Grounds.{store_places, first_ground, file_grounds}
use Rattle.grounds.specs.Grounds.Laws.{store_places_lem}
use Rattle.steps.specs.declared.Pool.{Pool}
use Rattle.pool.specs.declared.losses.Answer.{Answer}
use Rattle.grounds.specs.declared.refusal.Refusal.{Refusal}
use Rattle.grounds.specs.declared.refusal.Refusal.TheVariants.{Assets, UnkeptEntry}
use Rattle.expected_losses.specs.declared.Loss.{Loss}
use Rattle.expected_losses.specs.declared.Loss.TheVariants.{Untouched}
use Rattle.grounds.specs.Refusals.{refusal_number}
use Rattle.pool.specs.Demands.{given_at, loss_at, Touch, Carries, CarriesTwo, loss_of_pool, LossesDemands, verdict_told, loss_told, refusal_of, parts_for, Slices, StoreDemands, FillDemands}
use Rattle.pool.specs.Demands.{ColumnDemands, ShiftDemands, TranchesDemands, LayerDemands, CheckDemands, ScreenColumnDemands, ScreenTranchesDemands}
use Rattle.pool.specs.Demands.{kept_zero, lengths_of, number_on, from, TableDemands, byte_from, complement, head_of, entry_of, RoomDemands, FileDemands, WrittenDemands, WriteDemands, ReadDemands}
use Rattle.steps.specs.Claims.{refused_by, all_pass, fails_at}

-- The conditions, and no others.
pub touches : (tranches : List Tranche) (count : ℕ) → 0 < count → (given_at tranches 0).lower ≡ 0
    → ((i : ℕ) → suc i < count → (given_at tranches (suc i)).lower ≡ (given_at tranches i).upper) → (given_at tranches (count - 1)).upper ≡ 10000
    → ((i : ℕ) → i < count → (given_at tranches i).recovery ≡ (given_at tranches 0).recovery) → Touch tranches count
touches tranches count some first next last alike = record {
  some = omega (arith, some);
  first = omega (arith, first);
  next = λ i l. omega (arith, next i (omega (arith, l)));
  last = omega (arith, last);
  recoveries = λ i l. omega (arith, alike i (omega (arith, l)));
}

-- 1000 × x + 2000 × y + 7000 × z
abbrev weighted : (x y z : Fraction) → Fraction
weighted x y z = plus (plus (times (integer 1000) x) (times (integer 2000) y)) (times (integer 7000) z)

-- What three tranches with recovery 4000, from 0 to 1000, to 3000 and to 10,000, lose by a default probability of 1000, whatever the row: 600 basis points, with the bounds and the numbers that are carried on both sides of that.
pub record Loses600 (r : Chances) (c : Side → ℕ → Kept) (answer : Answer) : Type 0 where
  pub first : 0 < 1000 * r.assets
  pub second : 0 < 2000 * r.assets
  pub third : 0 < 7000 * r.assets
  pub exact : Same (weighted (expected_loss r 4000 0 1000 first) (expected_loss r 4000 1000 3000 second) (expected_loss r 4000 3000 10000 third)) (integer 600)
  pub low_bounds : let low = kept_loss Low r.assets (c Low) 4000 in
      AtMost (weighted (value (low 0 1000 first)) (value (low 1000 3000 second)) (value (low 3000 10000 third))) (integer 600)
  pub high_bounds : let high = kept_loss High r.assets (c High) 4000 in
      AtMost (integer 600) (weighted (value (high 0 1000 first)) (value (high 1000 3000 second)) (value (high 3000 10000 third)))
  pub carried : (i : ℕ) → i < 3 → CarriesTwo (loss_at answer i)
  pub low_carried : (low high : ℕ → Fraction) → ((i : ℕ) → i < 3 → Carries (low i) (high i) (loss_at answer i)) → AtMost (weighted (low 0) (low 1) (low 2)) (integer 600)
  pub high_carried : (low high : ℕ → Fraction) → ((i : ℕ) → i < 3 → Carries (low i) (high i) (loss_at answer i)) → AtMost (integer 600) (weighted (high 0) (high 1) (high 2))

-- A sum of three has nothing before them.
from_nothing : (x y z : Fraction) → Same (plus (plus (plus (integer 0) x) y) z) (plus (plus x y) z)
unfolding plus integer
from_nothing x y z = plus_same (plus_same (record { cross = omega arith }) same_refl) same_refl

six_hundred : Same (loss_of_pool 1000 4000) (integer 600)
unfolding loss_of_pool integer
six_hundred = record { cross = refl }

pub three_lose : {parts : ℕ} {r : Chances} {c : Side → ℕ → Kept} (answer : Answer) → LossesDemands parts 1000 r c three 3 answer → refusal_number answer.outcome ≡ 0
    → Loses600 r c answer
unfolding fraction_sum whole
three_lose answer demands none =
    let shared = demands.shared none (touches three 3 touch.some touch.first touch.next touch.last touch.one_recovery) in
    record {
      first = shared.wide 0 (le_step (le_step (lt-suc_self 0)));
      second = shared.wide 1 (le_step (lt-suc_self 1));
      third = shared.wide 2 (lt-suc_self 2);
      exact = same_trans (same_sym (from_nothing _ _ _)) (same_trans shared.exact six_hundred);
      low_bounds = side_same Low (from_nothing _ _ _) six_hundred shared.low_bounds;
      high_bounds = side_same High (from_nothing _ _ _) six_hundred shared.high_bounds;
      carried = shared.carried;
      low_carried = λ low high carries. side_same Low (from_nothing _ _ _) six_hundred (shared.low_carried low high carries);
      high_carried = λ low high carries. side_same High (from_nothing _ _ _) six_hundred (shared.high_carried low high carries);
    }

-- ---- how answers are read

-- The answer of a check: no row fails; the first that does, by its own number; a refusal, by its number.
pub verdicts_told : (verdict_told (Ok None) ≡ all_pass) × (verdict_told (Ok (Some 2)) ≡ fails_at 2) × (verdict_told (Err Assets) ≡ refused_by 1)
    × (verdict_told (Err UnkeptEntry) ≡ refused_by 18) × ((k : ℕ) → verdict_told (Ok (Some k)) ≡ fails_at k)
verdicts_told = (refl, refl, refl, refl, λ k. refl)

-- That of a layer call: its loss; on a refusal an untouched one.
pub losses_told : ((loss : Loss) → loss_told (Ok loss) ≡ loss) × ((refusal : Refusal) → loss_told (Err refusal) ≡ Untouched)
losses_told = (λ loss. refl, λ refusal. refl)

-- ---- what every call that fills a store hands back and leaves

-- Each of the eight, whatever it is given beside the pool, the head and the store: bounds at the library's distance, and on the screen at its own.
pub each_fills : (pool head head' : Pool) (before after : Slices) (refusal count i j : ℕ) (units units' claims : List ℕ) (shifts shifts' : List ℤ) (tranches : List Tranche)
    (answer : Answer) (layer : Result Loss Refusal) (check : Result (Option ℕ) Refusal)
    → (FillDemands pool head before after refusal head' → StoreDemands pool parts_for head before after refusal head')
    × (ColumnDemands pool head before after units units' refusal head' → StoreDemands pool parts_for head before after refusal head')
    × (ShiftDemands pool head before after shifts shifts' refusal head' → StoreDemands pool parts_for head before after refusal head')
    × (TranchesDemands pool head tranches count before after answer head' → StoreDemands pool parts_for head before after (refusal_number answer.outcome) head')
    × (LayerDemands pool head i j before after layer head' → StoreDemands pool parts_for head before after (refusal_number layer) head')
    × (CheckDemands pool head claims before after check head' → StoreDemands pool parts_for head before after (refusal_of (verdict_told check)) head')
    × (ScreenColumnDemands pool head before after units units' refusal head' → StoreDemands pool (λ _. 1000000) head before after refusal head')
    × (ScreenTranchesDemands pool head tranches count before after answer head' → StoreDemands pool (λ _. 1000000) head before after (refusal_number answer.outcome) head')
each_fills pool head head' before after refusal count i j units units' claims shifts shifts' tranches answer layer check = (
  λ demands. demands.store,
  λ demands. demands.leaves.store,
  λ demands. demands.leaves.store,
  λ demands. demands.store,
  λ demands. demands.store,
  λ demands. demands.store,
  λ demands. demands.own.leaves.store,
  λ demands. demands.own.store,
)

-- The head that it hands back: the pool if it is accepted, and the one that came if it is refused.
pub heads : {pool head head' : Pool} {parts : ℕ → ℕ} {before after : Slices} {refusal : ℕ} → StoreDemands pool parts head before after refusal head'
    → (refusal ≡ 0 → head' ≡ pool) × ((refusal ≡ 0 → ⊥) → head' ≡ head)
heads store = (store.head_is, store.head_kept)

-- ---- a store file

-- Bytes and two's complement, for every number.
pub bytes : (k x : ℕ) → (byte_from k x ≡ x / 256 ^ k % 256) × (complement (pos x) ≡ x) × (complement (negsuc x) ≡ 4294967295 - x)
unfolding byte_from complement
bytes k x = (refl, refl, refl)

-- What a file is written from, and no more: 1 to 100 assets, p and ρ at most 10,000, slices that are long enough, entries that are zero or have a significand from 2^31 to
-- 2^32 − 1, with an exponent of an i32, and the bytes.
pub written_from : (head : Pool) (s : Slices) (file : List ℕ) → let m = (head.assets + 1) * (head.assets + 2) / 2 in
    1 ≤ head.assets → head.assets ≤ 100 → head.probability ≤ 10000 → head.correlation ≤ 10000
    → m ≤ length s.low_significands → m ≤ length s.high_significands → m ≤ length s.low_exponents → m ≤ length s.high_exponents
    → ((side : Side) (i : ℕ) → i < m
    → ((number_on side s i ≡ record { significand = 0; exponent = pos 0 }) ⊎ ((2147483648 ≤ (number_on side s i).significand) × ((number_on side s i).significand < 4294967296)))
    × ((negsuc 2147483647 ≤ℤ (number_on side s i).exponent) × ((number_on side s i).exponent ≤ℤ pos 2147483647)))
    → FileDemands head s file → WrittenDemands head s file
unfolding kept_zero
written_from head s file some most p ρ ls hs le he entries is = record {
  assets = (some, most);
  probability = p;
  correlation = ρ;
  room = record { low_significands = ls; high_significands = hs; low_exponents = le; high_exponents = he };
  entries = λ side i l. record { number = (entries side i l).0; exponent = (entries side i l).1 };
  bytes = is;
}

pub written_of : {head : Pool} {s : Slices} {file : List ℕ} → WrittenDemands head s file → let m = (head.assets + 1) * (head.assets + 2) / 2 in
    ((1 ≤ head.assets) × (head.assets ≤ 100)) × (head.probability ≤ 10000) × (head.correlation ≤ 10000)
    × ((side : Side) (i : ℕ) → i < m
    → (number_on side s i ≡ record { significand = 0; exponent = pos 0 }) ⊎ ((2147483648 ≤ (number_on side s i).significand) × ((number_on side s i).significand < 4294967296)))
    × FileDemands head s file
unfolding kept_zero
written_of demands = (demands.assets, demands.probability, demands.correlation, λ side i l. (demands.entries side i l).number, demands.bytes)

sixteen : (n : ℕ) → 12 + 8 * ((n + 1) * (n + 2)) ≡ 12 + 16 * ((n + 1) * (n + 2) / 2)
unfolding store_places
sixteen n = rw (store_places_lem n) (omega (arith, triangle_closed (suc n)))

-- The bytes of a file, and no others: 60 of one asset, 82,428 of a hundred, and where each stands, with m the places of a side.
pub file_of_lem : {head : Pool} {s : Slices} {file : List ℕ} → FileDemands head s file → let m = (head.assets + 1) * (head.assets + 2) / 2 in
    (length file ≡ 12 + 16 * m)
    × ((k : ℕ) → k < 4
    → (get_or file k 0 ≡ byte_from k head.assets) × (get_or file (4 + k) 0 ≡ byte_from k head.probability) × (get_or file (8 + k) 0 ≡ byte_from k head.correlation))
    × ((k i : ℕ) → k < 4 → i < m
    → (get_or file (12 + (k * m + i)) 0 ≡ byte_from k (get_or s.low_significands i 0))
    × (get_or file (12 + ((4 + k) * m + i)) 0 ≡ byte_from k (complement (get_or s.low_exponents i (pos 0))))
    × (get_or file (12 + ((8 + k) * m + i)) 0 ≡ byte_from k (get_or s.high_significands i 0))
    × (get_or file (12 + ((12 + k) * m + i)) 0 ≡ byte_from k (complement (get_or s.high_exponents i (pos 0)))))
file_of_lem {head} demands =
    let n = head.assets in (
      demands.size ∙ sixteen n,
      λ k l. (demands.assets k l, demands.probability k l, demands.correlation k l),
      λ k i l h. (demands.low_significands k i l h, demands.low_exponents k i l h, demands.high_significands k i l h, demands.high_exponents k i l h),
    )

-- Which number each call gives, and what a write leaves: a file that is written from what it was given, and no other such file of bytes; on a refusal what it was given. One of what
-- an accepted call left is accepted.
pub writes : {head : Pool} {s : Slices} {before after : List ℕ} {refusal : ℕ} → WriteDemands head s before after refusal
    → (refusal ≡ first_ground (file_grounds 100 head.assets head.probability head.correlation (length before) (lengths_of s) (number_on Low s) (number_on High s)))
    × (refusal ≡ 0 → WrittenDemands head s after)
    × ((file : List ℕ) → ((i : ℕ) → get_or file i 0 < 256) → WrittenDemands head s file → length before ≡ length file → (refusal ≡ 0) × (after ≡ file))
    × ((refusal ≡ 0 → ⊥) → after ≡ before)
writes demands = (demands.one.number, demands.written, demands.of_written, demands.one.untouched)

pub filled_written : {pool came head : Pool} {parts : ℕ → ℕ} {before₀ after₀ : Slices} {before after : List ℕ} {refusal : ℕ}
    → StoreDemands pool parts came before₀ after₀ 0 head → WriteDemands head after₀ before after refusal
    → let m = (pool.assets + 1) * (pool.assets + 2) / 2 in
    m ≤ length after₀.low_significands → m ≤ length after₀.high_significands → m ≤ length after₀.low_exponents → m ≤ length after₀.high_exponents
    → length before ≡ 12 + 8 * ((pool.assets + 1) * (pool.assets + 2)) → (refusal ≡ 0) × WrittenDemands head after₀ after
filled_written {pool = pool} {after₀ = after₀} filled demands ls hs le he long =
    let room : RoomDemands ((pool.assets + 1) * (pool.assets + 2) / 2) after₀ = record { low_significands = ls; high_significands = hs; low_exponents = le; high_exponents = he } in
    let none = demands.of_filled _ _ _ _ _ filled (record { entries = λ side i l. refl }) room long in
    (none, demands.written none)

-- An accepted read: the head of the file, its entries, and nothing else of the slices. A refused one: nothing.
pub reads : {head head' : Pool} {file : List ℕ} {before after : Slices} {refusal : ℕ} → ReadDemands head file before after refusal head'
    → (refusal ≡ first_ground (file_grounds 100 (head_of file).assets (head_of file).probability (head_of file).correlation (length file) (lengths_of before) (entry_of Low file) (entry_of High file)))
    × (refusal ≡ 0 → (head' ≡ head_of file) × (lengths_of after ≡ lengths_of before)
    × ((side : Side) (i : ℕ) → i < (head'.assets + 1) * (head'.assets + 2) / 2 → number_on side after i ≡ entry_of side file i)
    × (from ((head'.assets + 1) * (head'.assets + 2) / 2) after ≡ from ((head'.assets + 1) * (head'.assets + 2) / 2) before))
    × ((refusal ≡ 0 → ⊥) → (after ≡ before) × (head' ≡ head))
reads demands = (
  demands.one.number,
  λ none. (demands.head_is none, demands.lengths none, demands.entries none, demands.later none),
  λ some. (demands.one.untouched some, demands.head_kept some),
)

-- Exactly the files that are written, into slices that are long enough.
pub exactly : {head head' : Pool} {file : List ℕ} {before after : Slices} {refusal : ℕ} → ReadDemands head file before after refusal head'
    → (refusal ≡ 0 → WrittenDemands head' after file)
    × ((head₀ : Pool) (s : Slices) → let m = (head₀.assets + 1) * (head₀.assets + 2) / 2 in
    WrittenDemands head₀ s file → m ≤ length before.low_significands → m ≤ length before.high_significands → m ≤ length before.low_exponents
    → m ≤ length before.high_exponents
    → (refusal ≡ 0) × (head' ≡ head₀) × ((side : Side) (i : ℕ) → i < m → number_on side after i ≡ number_on side s i))
exactly demands = (
  demands.written,
  λ head₀ s written ls hs le he.
      let back = demands.of_written head₀ s written (record { low_significands = ls; high_significands = hs; low_exponents = le; high_exponents = he }) in
      (back.0, back.1, back.2.entries),
)

-- Filled, written and read back: the head, the entries, the enclosure and the distance.
pub back : {pool came head other other' : Pool} {parts : ℕ → ℕ} {before₀ after₀ before after : Slices} {old file : List ℕ} {refusal : ℕ}
    → StoreDemands pool parts came before₀ after₀ 0 head → WriteDemands head after₀ old file 0 → ReadDemands other file before after refusal other'
    → let m = (pool.assets + 1) * (pool.assets + 2) / 2 in
    m ≤ length before.low_significands → m ≤ length before.high_significands → m ≤ length before.low_exponents → m ≤ length before.high_exponents
    → (refusal ≡ 0) × (other' ≡ pool) × ((side : Side) (i : ℕ) → i < m → number_on side after i ≡ number_on side after₀ i) × TableDemands pool parts after
back {pool = pool} {before = before} filled writes reads ls hs le he =
    let room : RoomDemands ((pool.assets + 1) * (pool.assets + 2) / 2) before = record { low_significands = ls; high_significands = hs; low_exponents = le; high_exponents = he } in
    let all = reads.of_filled _ _ _ _ _ _ _ _ filled (record { entries = λ side i l. refl }) writes room in
    (all.0, all.1 ∙ filled.head_is refl, all.2.entries, all.3)
