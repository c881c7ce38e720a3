use Rattle.std.proofs.Common.{◌∙◌, ap}
use Rattle.vt_tree.specs.Parts.{in_text}
use Rattle.vt_check.specs.Checked.{block_at}
use Rattle.vt_check.proofs.CheckedLemmas.{block_of_number, found_number, found_sound}
use Rattle.vt_check.proofs.checked.Checked.block.Goals as goal

pub returns-clause-block : goal.returns-clause-block
returns-clause-block c =
    c.find_block.ensures.by in_text
    ∙ block_of_number c.self.inside.tree c.args.number c.self.invariant.formed.numbered
    ∙ ap (λ tree. block_at tree c.args.number) c.self.view_is

pub returns-clause-number : goal.returns-clause-number
returns-clause-number c =
    found_number c.self.inside.tree c.args.number c.find_block.result c.self.invariant.formed.numbered
    (c.find_block.ensures.by in_text ∙ block_of_number c.self.inside.tree c.args.number c.self.invariant.formed.numbered)

pub returns-clause-sound : goal.returns-clause-sound
returns-clause-sound c = found_sound c.self.inside.tree c.args.number c.find_block.result c.self.invariant.allowed c.find_block.ensures
