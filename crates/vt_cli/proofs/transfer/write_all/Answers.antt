use Rattle.std.proofs.Common.{arith}
use Rattle.std.proofs.lemmas.Grind.{common_steps}
use Rattle.vt_cli.proofs.Bytes.{given-more}
use Rattle.vt_cli.proofs.transfer.write_all.Goals as goal

pub put-preserved : goal.put-preserved
put-preserved g c = record {
  within = grind (arith, common_steps, c.in-Ok.ensures.bound);
  given = given-more _ _ _ c.args.text.now c.put.at c.in-Ok.count c.put.invariant.given c.in-Ok.ensures.bytes;
  later = omega (arith, c.in-Ok.ensures.cause.later);
}
