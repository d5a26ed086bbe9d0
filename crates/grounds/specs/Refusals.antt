-- The papers' numbers of the refusals.
-- Assumes nothing.
use Rattle.std.specs.Prelude.{ℕ, Result, Ok, Err}
use Rattle.grounds.specs.declared.refusal.Refusal.{Refusal}
use Rattle.grounds.specs.declared.refusal.Refusal.TheVariants.{Assets, Probability, Correlation, Recovery, UpperAttachment, Attachments, Store, Column, Row, Shifts, ScreenAssets}
use Rattle.grounds.specs.declared.refusal.Refusal.TheVariants.{FullCorrelation, TrancheCount, Layer, Head, Ceiling, FileLength, UnkeptEntry}

abbrev pub number_of : Refusal → ℕ
number_of Assets = 1
number_of Probability = 2
number_of Correlation = 3
number_of Recovery = 4
number_of UpperAttachment = 5
number_of Attachments = 6
number_of Store = 7
number_of Column = 8
number_of Row = 9
number_of Shifts = 10
number_of ScreenAssets = 11
number_of FullCorrelation = 12
number_of TrancheCount = 13
number_of Layer = 14
number_of Head = 15
number_of Ceiling = 16
number_of FileLength = 17
number_of UnkeptEntry = 18

-- The number of a refusal, or 0.
abbrev pub refusal_number : {A : Type 0} → Result A Refusal → ℕ
refusal_number (Ok x) = 0
refusal_number (Err refusal) = number_of refusal
