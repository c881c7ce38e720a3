use Rattle.std.proofs.Common.{refl, rules}
use Rattle.std.proofs.lemmas.Fn.{filter_same}
use Rattle.vt_index.proofs.row.cut_row.Goals as goal

pub returns : goal.returns
returns c = record { same = refl; positions = filter_same _ _ _ (λ x b f' k. search rules) _ _ c.retain.ensures.filtered }
