use Rattle.vt_session.proofs.LineLemmas.{split_ended, split_open}
use Rattle.vt_session.proofs.lines.split_line.Goals as goal

pub returns-then-len-bytes-clause-first : goal.returns-then-len-bytes-clause-first
returns-then-len-bytes-clause-first c =
    split_ended c.args.bytes.now c.split_at.result.0.now c.split_at.result.1.now c.line_len-len.result c.line_len-len.ensures.longest c.if-len-bytes.true c.split_at.ensures.front c.split_at.ensures.back

pub returns-else-len-bytes-clause-first : goal.returns-else-len-bytes-clause-first
returns-else-len-bytes-clause-first c =
    split_open c.args.bytes.now c.split_at-else-len-bytes.result.0.now c.split_at-else-len-bytes.result.1.now c.line_len-len.result
    c.line_len-len.ensures.longest c.if-len-bytes.false c.line_len-len.ensures.within c.requires c.split_at-else-len-bytes.ensures.front c.split_at-else-len-bytes.ensures.back
