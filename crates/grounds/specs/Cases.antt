-- The grounds in figures: each for every input, those that each call checks, in order, for each ground of the library inputs to which it alone applies, what
-- a loss call answers by its tranches and their count, what a layer call answers by its first and its last default, what the screen, a shift list and the
-- program `column` answer around their ceilings, what the beta-binomial answers around full correlation, what a desk is answered, and what is answered of a store file.
-- Assumes nothing.
use Rattle.std.specs.Prelude.{ℕ, suc, ◌+◌, ◌*◌, ◌/◌, ◌≤◌, ◌<◌, ◌≡◌, refl, true, false, cond, not, ◌&&◌, ◌||◌, List, [], ◌∷◌, ◌++◌, eqb, ltb, leb, pos, negsuc, nat_abs, take, replicate}
use Rattle.model.specs.Fraction.{whole}
use Rattle.kept.specs.declared.Kept.{Kept}
use Rattle.steps.specs.declared.Tranche.{Tranche}
use Rattle.steps.specs.Inputs.{largest_pool, report_pool, screen_pool}
use Rattle.steps.specs.Tranches.{tranche_places}
use Rattle.grounds.specs.Grounds.{Ground, first_of, first_ground, store_places, some_shorter, assets_ground, probability_ground, correlation_ground, recovery_ground, upper_ground}
use Rattle.grounds.specs.Grounds.{attachments_ground, store_ground, entries_ground, row_ground, screen_ground, full_correlation_ground, count_ground, layer_ground, pool_grounds}
use Rattle.grounds.specs.Grounds.{tranche_grounds, tranches_grounds, counted_grounds, fill_grounds, row_grounds, entries_grounds, column_grounds, shift_grounds, loss_grounds}
use Rattle.grounds.specs.Grounds.{layer_grounds, screened, Screens, screen_column_grounds, screen_loss_grounds, beta_pool_grounds, beta_column_grounds, beta_loss_grounds}
use Rattle.grounds.specs.Grounds.{expected_ground, ceiling_ground, desk_grounds, file_bytes, is_kept, some_unkept, short_file_ground, file_length_ground, kept_ground, file_form_grounds, file_grounds}

-- The first ground that applies: one that does gives its number, whatever follows; one that does not leaves it to the others; none gives 0.
pub first : (m : ℕ) (gs : List Ground)
    → (first_ground (record { number = suc m; applies = true } ∷ gs) ≡ suc m)
    × (first_ground (record { number = m; applies = false } ∷ gs) ≡ first_ground gs)
    × (first_ground [] ≡ 0)
unfolding first_ground first_of
first m gs = (refl, refl, refl)

-- Each ground in figures, for every input.
pub figures : (n p ρ R A B k units shifts count i j p' ρ' ceiling bytes : ℕ) (lengths : List ℕ) (low high : ℕ → Kept) (x : Kept)
    → (assets_ground largest_pool n ≡ record { number = 1; applies = eqb n 0 || ltb 100 n })
    × (assets_ground report_pool n ≡ record { number = 1; applies = eqb n 0 || ltb 64 n })
    × (probability_ground p ≡ record { number = 2; applies = ltb 10000 p })
    × (correlation_ground ρ ≡ record { number = 3; applies = ltb 10000 ρ })
    × (recovery_ground R ≡ record { number = 4; applies = ltb 10000 R })
    × (upper_ground B ≡ record { number = 5; applies = ltb 10000 B })
    × (attachments_ground A B ≡ record { number = 6; applies = not (ltb A B) })
    × (store_ground n lengths ≡ record { number = 7; applies = some_shorter ((n + 1) * (n + 2) / 2) lengths })
    × (entries_ground 8 n units ≡ record { number = 8; applies = ltb units (n + 1) })
    × (row_ground n k ≡ record { number = 9; applies = ltb n k })
    × (entries_ground 10 n shifts ≡ record { number = 10; applies = ltb shifts (n + 1) })
    × (screen_ground screen_pool n ≡ record { number = 11; applies = ltb 20 n })
    × (full_correlation_ground ρ ≡ record { number = 12; applies = eqb ρ 10000 })
    × (count_ground count ≡ record { number = 13; applies = eqb count 0 || ltb 8 count })
    × (layer_ground n i j ≡ record { number = 14; applies = (eqb i 0 || ltb j i) || ltb n j })
    × (expected_ground p ρ p' ρ' ≡ record { number = 15; applies = not (eqb p p') || not (eqb ρ ρ') })
    × (ceiling_ground ceiling k ≡ record { number = 16; applies = ltb ceiling k })
    × (short_file_ground bytes ≡ record { number = 17; applies = ltb bytes 12 })
    × (file_length_ground n bytes ≡ record { number = 17; applies = not (eqb bytes (12 + 8 * ((n + 1) * (n + 2)))) })
    × (kept_ground n low high ≡ record { number = 18; applies = some_unkept ((n + 1) * (n + 2) / 2) low || some_unkept ((n + 1) * (n + 2) / 2) high })
    × (is_kept x ≡ (leb 2147483648 x.significand || (eqb x.significand 0 && eqb (nat_abs x.exponent) 0)))
unfolding assets_ground probability_ground correlation_ground recovery_ground upper_ground attachments_ground store_ground entries_ground row_ground screen_ground full_correlation_ground count_ground layer_ground expected_ground ceiling_ground short_file_ground file_length_ground file_bytes kept_ground is_kept store_places tranche_places largest_pool report_pool screen_pool whole
figures n p ρ R A B k units shifts count i j p' ρ' ceiling bytes lengths low high x =
    (refl, refl, refl, refl, refl, refl, refl, refl, refl, refl, refl, refl, refl, refl, refl, refl, refl, refl, refl, refl, refl)

-- Of the lengths of slices, some is shorter than m: one by one, and in no other way.
pub shorter : (m l : ℕ) (ls : List ℕ) → (some_shorter m [] ≡ false) × (some_shorter m (l ∷ ls) ≡ (ltb l m || some_shorter m ls))
unfolding some_shorter
shorter m l ls = (refl, refl)

-- What is said of the screen's number beside the library's, in full.
pub screened_figures : {most limit n library number : ℕ} → Screens most limit n library number
    → (limit < n → n ≤ most → number ≡ 11) × (number ≡ 11 → (limit < n) × (n ≤ most)) × ((number ≡ 11 → ⊥) → number ≡ library)
screened_figures screens = (screens.eleven, screens.only, screens.otherwise)

-- The grounds that each call checks, in order, with what it is given.
pub orders : (most limit n p ρ k length units shifts count i j p' ρ' ceiling bytes : ℕ) (t : Tranche) (ts : List Tranche) (lengths : List ℕ) (low high : ℕ → Kept)
    → (fill_grounds most n p ρ lengths ≡ assets_ground most n ∷ probability_ground p ∷ correlation_ground ρ ∷ store_ground n lengths ∷ [])
    × (row_grounds most n k length ≡ assets_ground most n ∷ store_ground n (length ∷ []) ∷ row_ground n k ∷ [])
    × (column_grounds most n p ρ lengths units
    ≡ assets_ground most n ∷ probability_ground p ∷ correlation_ground ρ ∷ store_ground n lengths ∷ entries_ground 8 n units ∷ [])
    × (shift_grounds most n p ρ lengths shifts
    ≡ assets_ground most n ∷ probability_ground p ∷ correlation_ground ρ ∷ store_ground n lengths ∷ entries_ground 10 n shifts ∷ [])
    × (tranches_grounds [] ≡ [])
    × (tranches_grounds (t ∷ ts) ≡ recovery_ground t.recovery ∷ upper_ground t.upper ∷ attachments_ground t.lower t.upper ∷ tranches_grounds ts)
    × (loss_grounds most n p ρ ts count lengths
    ≡ assets_ground most n ∷ probability_ground p ∷ correlation_ground ρ ∷ count_ground count ∷ (tranches_grounds (take count ts) ++ (store_ground n lengths ∷ [])))
    × (layer_grounds most n p ρ i j lengths
    ≡ assets_ground most n ∷ probability_ground p ∷ correlation_ground ρ ∷ layer_ground n i j ∷ store_ground n lengths ∷ [])
    × (screen_column_grounds most limit n p ρ lengths units
    ≡ assets_ground most n ∷ screen_ground limit n ∷ probability_ground p ∷ correlation_ground ρ ∷ store_ground n lengths ∷ entries_ground 8 n units ∷ [])
    × (screen_loss_grounds most limit n p ρ ts count lengths
    ≡ assets_ground most n ∷ screen_ground limit n ∷ probability_ground p ∷ correlation_ground ρ ∷ count_ground count
    ∷ (tranches_grounds (take count ts) ++ (store_ground n lengths ∷ [])))
    × (beta_column_grounds most n p ρ units
    ≡ assets_ground most n ∷ probability_ground p ∷ correlation_ground ρ ∷ full_correlation_ground ρ ∷ entries_ground 8 n units ∷ [])
    × (beta_loss_grounds most n p ρ ts count
    ≡ assets_ground most n ∷ probability_ground p ∷ correlation_ground ρ ∷ full_correlation_ground ρ ∷ count_ground count ∷ tranches_grounds (take count ts))
    × (desk_grounds most n p ρ p' ρ' k ceiling lengths
    ≡ assets_ground most n ∷ probability_ground p ∷ correlation_ground ρ ∷ store_ground n lengths ∷ expected_ground p ρ p' ρ' ∷ row_ground n k ∷ ceiling_ground ceiling k ∷ [])
    × (file_grounds most n p ρ bytes lengths low high
    ≡ short_file_ground bytes ∷ assets_ground most n ∷ probability_ground p ∷ correlation_ground ρ ∷ file_length_ground n bytes ∷ store_ground n lengths ∷ kept_ground n low high ∷ [])
unfolding fill_grounds row_grounds entries_grounds column_grounds shift_grounds loss_grounds layer_grounds screened screen_column_grounds screen_loss_grounds beta_pool_grounds beta_column_grounds beta_loss_grounds desk_grounds file_form_grounds file_grounds pool_grounds tranche_grounds tranches_grounds counted_grounds
orders most limit n p ρ k length units shifts count i j p' ρ' ceiling bytes t ts lengths low high = (refl, refl, refl, refl, refl, refl, refl, refl, refl, refl, refl, refl, refl, refl)

-- The numbers of the grounds that apply, of those of the library, with one tranche.
abbrev applying : List Ground → List ℕ
applying [] = []
applying (g ∷ gs) = cond g.applies (g.number ∷ applying gs) (applying gs)

abbrev refusing : (n p ρ count R A B i j : ℕ) (lengths : List ℕ) (units k shifts : ℕ) → List ℕ
refusing n p ρ count R A B i j lengths units k shifts =
    applying (assets_ground largest_pool n ∷ probability_ground p ∷ correlation_ground ρ ∷ count_ground count ∷ recovery_ground R ∷ upper_ground B ∷ attachments_ground A B
    ∷ layer_ground n i j ∷ store_ground n lengths ∷ entries_ground 8 n units ∷ row_ground n k ∷ entries_ground 10 n shifts ∷ [])

-- Four slices, the last with a length of its own.
abbrev slices : (places last : ℕ) → List ℕ
slices places last = places ∷ places ∷ places ∷ last ∷ []

-- At the edge of every ground none applies, and one past it each alone; without assets 14 applies beside 1.
pub table :
    (refusing 1 0 0 1 0 0 1 1 1 (slices 3 3) 2 1 2 ≡ [])
    × (refusing 100 10000 10000 8 10000 9999 10000 1 100 (slices 5151 5151) 101 100 101 ≡ [])
    × (refusing 100 10000 10000 8 10000 9999 10000 100 100 (slices 5151 5151) 101 100 101 ≡ [])
    × (refusing 0 0 0 1 0 0 1 1 1 (slices 3 3) 2 0 1 ≡ 1 ∷ 14 ∷ [])
    × (refusing 101 10000 10000 8 10000 9999 10000 1 100 (slices 5253 5253) 102 100 102 ≡ 1 ∷ [])
    × (refusing 100 10001 10000 8 10000 9999 10000 1 100 (slices 5151 5151) 101 100 101 ≡ 2 ∷ [])
    × (refusing 100 10000 10001 8 10000 9999 10000 1 100 (slices 5151 5151) 101 100 101 ≡ 3 ∷ [])
    × (refusing 100 10000 10000 0 10000 9999 10000 1 100 (slices 5151 5151) 101 100 101 ≡ 13 ∷ [])
    × (refusing 100 10000 10000 9 10000 9999 10000 1 100 (slices 5151 5151) 101 100 101 ≡ 13 ∷ [])
    × (refusing 100 10000 10000 8 10001 9999 10000 1 100 (slices 5151 5151) 101 100 101 ≡ 4 ∷ [])
    × (refusing 100 10000 10000 8 10000 9999 10001 1 100 (slices 5151 5151) 101 100 101 ≡ 5 ∷ [])
    × (refusing 100 10000 10000 8 10000 10000 10000 1 100 (slices 5151 5151) 101 100 101 ≡ 6 ∷ [])
    × (refusing 100 10000 10000 8 10000 9999 10000 0 100 (slices 5151 5151) 101 100 101 ≡ 14 ∷ [])
    × (refusing 100 10000 10000 8 10000 9999 10000 100 99 (slices 5151 5151) 101 100 101 ≡ 14 ∷ [])
    × (refusing 100 10000 10000 8 10000 9999 10000 100 101 (slices 5151 5151) 101 100 101 ≡ 14 ∷ [])
    × (refusing 100 10000 10000 8 10000 9999 10000 1 100 (slices 5151 5150) 101 100 101 ≡ 7 ∷ [])
    × (refusing 100 10000 10000 8 10000 9999 10000 1 100 (slices 5151 5151) 100 100 101 ≡ 8 ∷ [])
    × (refusing 100 10000 10000 8 10000 9999 10000 1 100 (slices 5151 5151) 101 101 101 ≡ 9 ∷ [])
    × (refusing 100 10000 10000 8 10000 9999 10000 1 100 (slices 5151 5151) 101 100 100 ≡ 10 ∷ [])
unfolding assets_ground probability_ground correlation_ground recovery_ground upper_ground attachments_ground store_ground entries_ground row_ground count_ground layer_ground store_places some_shorter tranche_places largest_pool whole
table = (refl, refl, refl, refl, refl, refl, refl, refl, refl, refl, refl, refl, refl, refl, refl, refl, refl, refl, refl)

abbrev tranche : (R A B : ℕ) → Tranche
tranche R A B = record { recovery = R; lower = A; upper = B }

-- A tranche that no ground refuses, and one that 4 to 6 refuse.
abbrev accepted : Tranche
accepted = tranche 10000 9999 10000

abbrev refused : Tranche
refused = tranche 10001 10001 10001

abbrev loss : (ρ : ℕ) (ts : List Tranche) (count places : ℕ) → ℕ
loss ρ ts count places = first_ground (loss_grounds largest_pool 100 10000 ρ ts count (slices places places))

-- The count at its edges, and with what is checked before and after it wrong; then tranches one after the other, up to the count.
pub tranches_table :
    (loss 10000 (replicate 8 accepted) 1 5151 ≡ 0)
    × (loss 10000 (replicate 8 accepted) 8 5151 ≡ 0)
    × (loss 10000 (replicate 8 accepted) 0 5151 ≡ 13)
    × (loss 10000 (replicate 8 accepted) 9 5151 ≡ 13)
    × (loss 10000 (replicate 8 accepted) 4294967295 5151 ≡ 13)
    × (loss 10000 (replicate 8 refused) 0 5150 ≡ 13)
    × (loss 10000 (replicate 8 refused) 9 5150 ≡ 13)
    × (loss 10000 (replicate 8 accepted) 9 5150 ≡ 13)
    × (loss 10001 (replicate 8 refused) 9 5150 ≡ 3)
    × (loss 10000 (replicate 8 refused) 1 5150 ≡ 4)
    × (loss 10000 (accepted ∷ replicate 7 refused) 1 5151 ≡ 0)
    × (loss 10000 (accepted ∷ replicate 7 refused) 1 5150 ≡ 7)
    × (loss 10000 (accepted ∷ replicate 7 refused) 2 5150 ≡ 4)
    × (loss 10000 (tranche 10000 10000 10000 ∷ replicate 7 refused) 8 5150 ≡ 6)
    × (loss 10000 (tranche 10000 10000 10001 ∷ replicate 7 refused) 8 5150 ≡ 5)
    × (loss 10000 (replicate 7 accepted ++ (refused ∷ [])) 7 5151 ≡ 0)
    × (loss 10000 (replicate 7 accepted ++ (refused ∷ [])) 8 5150 ≡ 4)
unfolding first_of first_ground assets_ground probability_ground correlation_ground recovery_ground upper_ground attachments_ground store_ground count_ground store_places some_shorter loss_grounds pool_grounds tranche_grounds tranches_grounds counted_grounds tranche_places largest_pool whole
tranches_table = (refl, refl, refl, refl, refl, refl, refl, refl, refl, refl, refl, refl, refl, refl, refl, refl, refl)

abbrev layer : (n p ρ i j places : ℕ) → ℕ
layer n p ρ i j places = first_ground (layer_grounds largest_pool n p ρ i j (slices places places))

-- A layer at both ends of the pool, at the edges of 14, with the largest i and j, and with what is checked before and after it wrong.
pub layer_table :
    (layer 100 10000 10000 1 100 5151 ≡ 0)
    × (layer 100 10000 10000 1 1 5151 ≡ 0)
    × (layer 100 10000 10000 100 100 5151 ≡ 0)
    × (layer 100 10000 10000 0 100 5151 ≡ 14)
    × (layer 100 10000 10000 0 0 5151 ≡ 14)
    × (layer 100 10000 10000 1 0 5151 ≡ 14)
    × (layer 100 10000 10000 100 99 5151 ≡ 14)
    × (layer 100 10000 10000 1 101 5151 ≡ 14)
    × (layer 100 10000 10000 101 101 5151 ≡ 14)
    × (layer 100 10000 10000 4294967295 100 5151 ≡ 14)
    × (layer 100 10000 10000 1 4294967295 5151 ≡ 14)
    × (layer 100 10000 10000 4294967295 4294967295 5151 ≡ 14)
    × (layer 100 10000 10000 1 100 5150 ≡ 7)
    × (layer 100 10000 10000 0 100 5150 ≡ 14)
    × (layer 100 10000 10000 100 99 5150 ≡ 14)
    × (layer 100 10000 10000 1 101 5150 ≡ 14)
    × (layer 100 10000 10001 1 100 5150 ≡ 3)
    × (layer 100 10000 10001 0 101 5150 ≡ 3)
    × (layer 100 10001 10001 0 101 5150 ≡ 2)
    × (layer 0 10001 10001 0 101 0 ≡ 1)
    × (layer 101 10001 10001 0 102 0 ≡ 1)
unfolding first_of first_ground assets_ground probability_ground correlation_ground layer_ground store_ground store_places some_shorter layer_grounds pool_grounds largest_pool whole
layer_table = (refl, refl, refl, refl, refl, refl, refl, refl, refl, refl, refl, refl, refl, refl, refl, refl, refl, refl, refl, refl, refl)

-- The screen's column and loss for n assets: the number with all else right, and with all else wrong.
abbrev OnScreen : (n right wrong : ℕ) → Type 0
OnScreen n right wrong =
    (first_ground (screen_column_grounds largest_pool screen_pool n 1000 3000 (slices 5253 5253) 102) ≡ right)
    × (first_ground (screen_loss_grounds largest_pool screen_pool n 1000 3000 (tranche 4000 1000 3000 ∷ []) 1 (slices 5253 5253)) ≡ right)
    × (first_ground (screen_column_grounds largest_pool screen_pool n 10001 10001 (slices 0 0) 0) ≡ wrong)
    × (first_ground (screen_loss_grounds largest_pool screen_pool n 10001 10001 (refused ∷ []) 9 (slices 0 0)) ≡ wrong)

pub screen_table : OnScreen 0 1 1 × OnScreen 1 0 2 × OnScreen 20 0 2 × OnScreen 21 11 11 × OnScreen 64 11 11 × OnScreen 65 11 11 × OnScreen 100 11 11 × OnScreen 101 1 1
unfolding first_of first_ground assets_ground probability_ground correlation_ground recovery_ground upper_ground attachments_ground store_ground entries_ground screen_ground count_ground store_places some_shorter fill_grounds entries_grounds column_grounds loss_grounds screened screen_column_grounds screen_loss_grounds pool_grounds tranche_grounds tranches_grounds counted_grounds tranche_places largest_pool screen_pool whole
screen_table = (
  (refl, refl, refl, refl),
  (refl, refl, refl, refl),
  (refl, refl, refl, refl),
  (refl, refl, refl, refl),
  (refl, refl, refl, refl),
  (refl, refl, refl, refl),
  (refl, refl, refl, refl),
  (refl, refl, refl, refl),
)

-- A shift list for n assets, and the pool that the program `column` is given, with all else right.
abbrev InReport : (n number : ℕ) → Type 0
InReport n number =
    (first_ground (shift_grounds report_pool n 10000 10000 (slices 2211 2211) 66) ≡ number) × (first_ground (pool_grounds report_pool n 10000 10000) ≡ number)

pub report_table : InReport 64 0 × InReport 65 1
unfolding first_of first_ground assets_ground probability_ground correlation_ground store_ground entries_ground store_places some_shorter fill_grounds entries_grounds shift_grounds pool_grounds report_pool whole
report_table = ((refl, refl), (refl, refl))

abbrev beta_column : (n p ρ units : ℕ) → ℕ
beta_column n p ρ units = first_ground (beta_column_grounds largest_pool n p ρ units)

abbrev beta_loss : (n p ρ count R A B : ℕ) → ℕ
beta_loss n p ρ count R A B = first_ground (beta_loss_grounds largest_pool n p ρ (replicate 8 (tranche R A B)) count)

-- At the edges of 12, of 8 and of 13, and with all that follows wrong.
pub beta_table :
    (beta_column 100 10000 9999 101 ≡ 0)
    × (beta_column 100 10000 9999 100 ≡ 8)
    × (beta_column 100 10000 10000 101 ≡ 12)
    × (beta_column 100 10000 10000 100 ≡ 12)
    × (beta_column 100 10000 10001 100 ≡ 3)
    × (beta_column 100 10001 10000 100 ≡ 2)
    × (beta_column 0 10001 10000 0 ≡ 1)
    × (beta_column 101 10001 10000 0 ≡ 1)
    × (beta_loss 100 10000 9999 1 10000 9999 10000 ≡ 0)
    × (beta_loss 100 10000 9999 1 10000 10000 10000 ≡ 6)
    × (beta_loss 100 10000 9999 1 10000 10001 10001 ≡ 5)
    × (beta_loss 100 10000 9999 1 10001 10001 10001 ≡ 4)
    × (beta_loss 100 10000 9999 8 10000 9999 10000 ≡ 0)
    × (beta_loss 100 10000 9999 9 10000 9999 10000 ≡ 13)
    × (beta_loss 100 10000 9999 0 10001 10001 10001 ≡ 13)
    × (beta_loss 100 10000 9999 9 10001 10001 10001 ≡ 13)
    × (beta_loss 100 10000 10000 1 10000 9999 10000 ≡ 12)
    × (beta_loss 100 10000 10000 9 10001 10001 10001 ≡ 12)
    × (beta_loss 100 10000 10001 9 10001 10001 10001 ≡ 3)
    × (beta_loss 100 10001 10000 9 10001 10001 10001 ≡ 2)
    × (beta_loss 0 10001 10000 9 10001 10001 10001 ≡ 1)
    × (beta_loss 101 10001 10000 9 10001 10001 10001 ≡ 1)
unfolding first_of first_ground assets_ground probability_ground correlation_ground recovery_ground upper_ground attachments_ground entries_ground full_correlation_ground count_ground beta_pool_grounds beta_column_grounds beta_loss_grounds pool_grounds tranche_grounds tranches_grounds counted_grounds tranche_places largest_pool whole
beta_table = (refl, refl, refl, refl, refl, refl, refl, refl, refl, refl, refl, refl, refl, refl, refl, refl, refl, refl, refl, refl, refl, refl)

abbrev desk : (n p ρ p' ρ' k ceiling places : ℕ) → ℕ
desk n p ρ p' ρ' k ceiling places = first_ground (desk_grounds largest_pool n p ρ p' ρ' k ceiling (slices places places))

-- A desk at the edges of 9 and 16, at both sides of what it expects, with the largest numbers, and with all that follows each ground wrong.
pub desk_table :
    (desk 100 10000 10000 10000 10000 100 100 5151 ≡ 0)
    × (desk 1 0 0 0 0 0 0 3 ≡ 0)
    × (desk 100 10000 10000 10000 10000 100 4294967295 5151 ≡ 0)
    × (desk 100 10000 10000 10000 10000 101 101 5151 ≡ 9)
    × (desk 100 10000 10000 10000 10000 101 100 5151 ≡ 9)
    × (desk 100 10000 10000 10000 10000 4294967295 4294967295 5151 ≡ 9)
    × (desk 100 10000 10000 10000 10000 100 99 5151 ≡ 16)
    × (desk 1 0 0 0 0 1 0 3 ≡ 16)
    × (desk 100 9999 10000 10000 10000 100 100 5151 ≡ 15)
    × (desk 100 10000 9999 10000 10000 100 100 5151 ≡ 15)
    × (desk 100 10000 10000 9999 10000 100 100 5151 ≡ 15)
    × (desk 100 10000 10000 10000 9999 100 100 5151 ≡ 15)
    × (desk 100 9999 10000 10000 9999 100 100 5151 ≡ 15)
    × (desk 100 10000 10000 10001 10001 101 0 5151 ≡ 15)
    × (desk 100 10000 10000 10001 10001 101 0 5150 ≡ 7)
    × (desk 100 10000 10001 10001 10000 101 0 5150 ≡ 3)
    × (desk 100 10001 10001 10000 10000 101 0 5150 ≡ 2)
    × (desk 0 10001 10001 10000 10000 101 0 0 ≡ 1)
    × (desk 101 10001 10001 10000 10000 102 0 0 ≡ 1)
    × (desk 101 10001 10001 10001 10001 101 101 5253 ≡ 1)
unfolding first_of first_ground assets_ground probability_ground correlation_ground store_ground row_ground expected_ground ceiling_ground store_places some_shorter fill_grounds desk_grounds pool_grounds largest_pool whole
desk_table = (refl, refl, refl, refl, refl, refl, refl, refl, refl, refl, refl, refl, refl, refl, refl, refl, refl, refl, refl, refl)

-- Some of m numbers is no kept number: one by one, and in no other way.
pub unkept : (m : ℕ) (f : ℕ → Kept) → (some_unkept 0 f ≡ false) × (some_unkept (suc m) f ≡ (some_unkept m f || not (is_kept (f m))))
unfolding some_unkept
unkept m f = (refl, refl)

-- A store file for one asset, three places, all of whose entries are one half, but for one of the high side.
abbrev half : Kept
half = record { significand = 2147483648; exponent = negsuc 31 }

abbrev but : (place : ℕ) → Kept → ℕ → Kept
but place x i = cond (eqb i place) x half

abbrev file : (n p ρ bytes places place : ℕ) → Kept → ℕ
file n p ρ bytes places place x = first_ground (file_grounds largest_pool n p ρ bytes (slices places places) (λ _. half) (but place x))

-- At the edges of 17, of 7 and of 18, with entries that are kept numbers and that are none, at the last place and behind it, and with all that follows each ground wrong.
pub file_table :
    (file 1 10000 10000 60 3 2 half ≡ 0)
    × (file 1 10000 10000 60 3 2 (record { significand = 4294967295; exponent = pos 2147483647 }) ≡ 0)
    × (file 1 10000 10000 60 3 2 (record { significand = 2147483648; exponent = negsuc 2147483647 }) ≡ 0)
    × (file 1 10000 10000 60 3 2 (record { significand = 0; exponent = pos 0 }) ≡ 0)
    × (file 1 10000 10000 60 3 2 (record { significand = 2147483647; exponent = pos 0 }) ≡ 18)
    × (file 1 10000 10000 60 3 2 (record { significand = 1; exponent = pos 0 }) ≡ 18)
    × (file 1 10000 10000 60 3 2 (record { significand = 0; exponent = pos 1 }) ≡ 18)
    × (file 1 10000 10000 60 3 2 (record { significand = 0; exponent = negsuc 0 }) ≡ 18)
    × (file 1 10000 10000 60 3 0 (record { significand = 0; exponent = pos 1 }) ≡ 18)
    × (file 1 10000 10000 60 3 3 (record { significand = 0; exponent = pos 1 }) ≡ 0)
    × (file 1 10000 10000 60 2 2 (record { significand = 0; exponent = pos 1 }) ≡ 7)
    × (file 1 10000 10000 60 2 2 half ≡ 7)
    × (file 1 10000 10000 59 2 2 half ≡ 17)
    × (file 1 10000 10000 61 2 2 half ≡ 17)
    × (file 1 10000 10000 59 3 2 half ≡ 17)
    × (file 1 10000 10000 12 3 2 half ≡ 17)
    × (file 1 10000 10001 59 2 2 half ≡ 3)
    × (file 1 10001 10001 59 2 2 half ≡ 2)
    × (file 0 10001 10001 59 2 2 half ≡ 1)
    × (file 101 10001 10001 84060 2 2 half ≡ 1)
    × (file 101 10001 10001 12 2 2 half ≡ 1)
    × (file 101 10001 10001 11 2 2 half ≡ 17)
    × (file 0 0 0 0 0 0 half ≡ 17)
    × (file_bytes 1 ≡ 60)
    × (file_bytes 64 ≡ 34332)
    × (file_bytes 100 ≡ 82428)
unfolding first_of first_ground assets_ground probability_ground correlation_ground store_ground store_places some_shorter short_file_ground file_length_ground file_bytes kept_ground is_kept some_unkept file_form_grounds file_grounds pool_grounds largest_pool whole
file_table = (refl, refl, refl, refl, refl, refl, refl, refl, refl, refl, refl, refl, refl, refl, refl, refl, refl, refl, refl, refl, refl, refl, refl, refl, refl, refl)
