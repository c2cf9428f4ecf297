-- `spell` ends: a thousandth of a number is less. Assumes nothing.
use Rattle.carry.proofs.text.+spell.Given as goal

abbrev pub decreases-spell : goal.decreases-spell
decreases-spell g l = l.n
