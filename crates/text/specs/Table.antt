-- The text that the program writes, as bytes: the table of a column, the line of a refusal.
-- Assumes nothing.
use Rattle.std.specs.Prelude.{ℕ, zero, suc, ◌+◌, ◌/◌, ◌%◌, cond, List, [], ◌∷◌, ◌++◌, ltb, get_or}
use Prim.Native.Char.{code}
use Rattle.model.specs.Number.{sum_between}
use Rattle.text.specs.Ascii.{ascii}
pub mod Laws
pub mod Lines

-- The byte of a digit.
abbrev pub digit : ℕ → ℕ
digit d = code "0" + d

-- The decimal digits of a number: those of a tenth of it, unless it is below 10, and its last one. Each digit takes a step.
unfoldable pub digits_by_steps : (steps number : ℕ) → List ℕ
digits_by_steps zero number = []
digits_by_steps (suc steps) number = cond (ltb number 10) [] (digits_by_steps steps (number / 10)) ++ digit (number % 10) ∷ []

-- A number in decimal digits. No number has more digits than one more than its value, so the steps are enough.
unfoldable pub decimal : ℕ → List ℕ
decimal number = digits_by_steps (suc number) number

-- A number and the byte that ends it.
unfoldable pub field_text : (number end : ℕ) → List ℕ
field_text number end = decimal number ++ end ∷ []

-- One line of the table: number of defaults, row in units, printed tail in units.
unfoldable pub line : (defaults row tail : ℕ) → List ℕ
line defaults row tail = field_text defaults (code " ") ++ field_text row (code " ") ++ field_text tail (code "\n")

-- The first m lines, for 0 to m − 1 defaults.
unfoldable pub lines : (m : ℕ) (rows tails : ℕ → ℕ) → List ℕ
lines zero rows tails = []
lines (suc k) rows tails = lines k rows tails ++ line k (rows k) (tails k)

unfoldable pub header : List ℕ
header = ascii "defaults units tail\n"

-- The table for 0 to n defaults.
unfoldable pub table_text : (n : ℕ) (rows tails : ℕ → ℕ) → List ℕ
table_text n rows tails = header ++ lines (suc n) rows tails

-- Row k of a column of units, and its tail: the sum of rows k to n.
abbrev pub row_of : (units : List ℕ) (k : ℕ) → ℕ
row_of units k = get_or units k 0

abbrev pub tail_of : (n : ℕ) (units : List ℕ) (k : ℕ) → ℕ
tail_of n units k = sum_between k n (row_of units)

-- The table of a column with rows 0 to n.
unfoldable pub column_text : (n : ℕ) (units : List ℕ) → List ℕ
column_text n units = table_text n (row_of units) (tail_of n units)

-- A refusal with a number, and one of the line itself.
unfoldable pub refused_text : (number : ℕ) → List ℕ
refused_text number = ascii "refused " ++ field_text number (code "\n")

unfoldable pub refused_line : List ℕ
refused_line = ascii "refused line\n"
