use Rattle.std.proofs.Common.{refl}
use Rattle.vt_tree.specs.Parts.{in_block}
use Rattle.vt_check.proofs.CheckedLemmas.{allowed_by, refused_by}
use Rattle.vt_check.proofs.JudgingLemmas.{moved}
use Rattle.vt_check.proofs.checked.check.Goals as goal

pub returns-in_err-check_block-clause-refused : goal.returns-in_err-check_block-clause-refused
returns-in_err-check_block-clause-refused c =
    refused_by c.args.block c.from_residual.result _ c.from_residual.ensures.1 (moved in_block refl c.of_text.ensures c.in_err-check_block.ensures)

pub invariant_of-result : goal.invariant_of-result
invariant_of-result c = record {
  formed = c.requires;
  allowed = allowed_by c.args.block _ (moved in_block refl c.of_text.ensures c.in_ok-check_block.ensures);
}

pub returns-clause-allowed : goal.returns-clause-allowed
returns-clause-allowed c = allowed_by c.args.block _ (moved in_block refl c.of_text.ensures c.in_ok-check_block.ensures)
