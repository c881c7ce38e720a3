use Rattle.vt_frac.specs.Divisor.{gcd}
use Rattle.vt_frac.specs.Fraction.{fits, fitted, over, reduced}
use Rattle.vt_cli.proofs.Pieces.{ok-inside, is-ok}
use Rattle.vt_cli.proofs.piece.zero.Goals as goal

pub unwrap-requires : goal.unwrap-requires
unfolding fitted fits over reduced gcd
unwrap-requires c = is-ok c.new.ensures.value

pub returns : goal.returns
unfolding fitted fits over reduced gcd
returns c = ok-inside c.unwrap.ensures c.new.ensures.value
