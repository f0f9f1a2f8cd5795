-- The number falls.
use Rattle.rawk_format.proofs.figure.+digits_len.Given as goal

abbrev pub decreases-digits_len : goal.decreases-digits_len
decreases-digits_len l = l.n
