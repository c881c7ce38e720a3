use Rattle.std.specs.Prelude.{true}
use Rattle.vt_meaning.proofs.Totality.{meaning_is_total}
use Rattle.vt_meaning.proofs.laws.meaning_is_total.Goals as goal

pub returns : goal.returns
returns c = meaning_is_total (λ texts until. c.threads_of_texts_act.ensures texts until (λ start pattern. true) (λ start. true) (λ event. true))
