use Rattle.std.proofs.Common.{◌+◌, arith}
use Rattle.std.proofs.lemmas.Grind.{common_steps}
use Rattle.std.proofs.KnownBytes.{Consumes-trans}
use Rattle.vt_cli.proofs.Bytes.{read-end, rest-end, read-full, rest-full, no-further, gone-none}
use Rattle.vt_cli.specs.Reading.{limit}
use Rattle.vt_cli.proofs.transfer.read_all.Goals as goal

pub returns-then-count-eq0-clause-bytes : goal.returns-then-count-eq0-clause-bytes
returns-then-count-eq0-clause-bytes g c =
    read-end (limit + 1) _ _ _ (gone-none _ _ _ _ _ _ c.fill.invariant.gone c.in-Ok.ensures.bytes.0 c.if-count-eq0.true)
    (c.in-Ok.ensures.bytes.1 c.if-count-eq0.true (grind (arith, common_steps, c.read.auto.buf))) c.fill.invariant.short

pub returns-then-count-eq0-clause-rest : goal.returns-then-count-eq0-clause-rest
returns-then-count-eq0-clause-rest g c =
    rest-end (limit + 1) _ _ _ (gone-none _ _ _ _ _ _ c.fill.invariant.gone c.in-Ok.ensures.bytes.0 c.if-count-eq0.true)
    (c.in-Ok.ensures.bytes.1 c.if-count-eq0.true (grind (arith, common_steps, c.read.auto.buf))) c.fill.invariant.short

pub returns-then-count-eq0-clause-no_further : goal.returns-then-count-eq0-clause-no_further
returns-then-count-eq0-clause-no_further g c =
    no-further _ _ _ (gone-none _ _ _ _ _ _ c.fill.invariant.gone c.in-Ok.ensures.bytes.0 c.if-count-eq0.true) c.fill.invariant.short

pub returns-in_err-extend_from_slice-in-Ok-clause-no_further : goal.returns-in_err-extend_from_slice-in-Ok-clause-no_further
returns-in_err-extend_from_slice-in-Ok-clause-no_further g c =
    no-further _ _ _ (Consumes-trans _ _ _ _ _ c.fill.invariant.gone c.in-Ok.ensures.bytes.0) (grind (arith, common_steps, c.read.auto.buf, c.in-Ok.ensures.bound))

pub returns-clause-bytes : goal.returns-clause-bytes
returns-clause-bytes g c = read-full (limit + 1) _ _ _ c.fill.invariant.gone (grind (arith, common_steps))

pub returns-clause-rest : goal.returns-clause-rest
returns-clause-rest g c = rest-full (limit + 1) _ _ _ c.fill.invariant.gone (grind (arith, common_steps))
