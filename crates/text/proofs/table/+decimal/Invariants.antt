-- A tenth of a number of two digits or more is less than it.
use Rattle.text.proofs.table.+decimal.Given as goal

abbrev pub decreases-decimal : goal.decreases-decimal
decreases-decimal l = l.number
