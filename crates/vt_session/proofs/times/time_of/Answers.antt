use Rattle.std.proofs.Common.{◌∙◌, ap, take}
use Rattle.std.specs.Result.{result_ok}
use Rattle.vt_session.specs.Times.{ratio_of, whole_of}
use Rattle.vt_session.proofs.TimeLemmas.{time_plain, time_split}
use Rattle.vt_session.proofs.times.time_of.Goals as goal

pub returns-in-Some : goal.returns-in-Some
returns-in-Some c =
    time_split c.args.word.now c.in-Some.at c.ratio_of.result c.in-Some.ensures.place
    (c.ratio_of.ensures
    ∙ (ap (λ r. ratio_of r c.whole_of-in-Some.result) c.whole_of.ensures
    ∙ ap (λ r. ratio_of (whole_of (take c.in-Some.at c.args.word.now)) r) c.whole_of-in-Some.ensures))

pub returns-in-None : goal.returns-in-None
returns-in-None c = time_plain c.args.word.now c.ok.result c.in-None.ensures.place (c.ok.ensures.value ∙ ap result_ok c.read_decimal.ensures.value)
