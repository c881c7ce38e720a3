use Rattle.vt_lex.proofs.Digits.{all_digits}
use Rattle.vt_lex.proofs.lexeme.number_at.Goals as goal

pub whole-requires : goal.whole-requires
whole-requires c = rw c.digits_len-len.ensures.longest (all_digits c.args.bytes.now)
