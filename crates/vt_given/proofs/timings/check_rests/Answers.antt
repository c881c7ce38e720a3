use Rattle.std.proofs.Common.{IsOk, map, pos, sym, ap, ◌∙◌, subst}
use Rattle.std.proofs.lemmas.List.{take_all}
use Rattle.std.proofs.lemmas.Result.{err_from_is_err_and}
use Rattle.vt_frac.specs.Fraction.{Fraction, whole}
use Rattle.vt_ring.specs.Answers.{all_of}
use Rattle.vt_ring.proofs.SeriesLemmas.{item_good, item_fault}
use Rattle.vt_run.specs.calls.TimeCalls.{seconds_of}
use Rattle.vt_value.specs.declared.value.Value.{Value}
use Rattle.vt_given.specs.private.Rounds.{number_in}
use Rattle.vt_given.proofs.RoundLemmas.{good_all, map_map}
use Rattle.vt_given.proofs.timings.check_rests.Goals as goal

pub returns-in_err-seconds_of : goal.returns-in_err-seconds_of
returns-in_err-seconds_of c =
    let p = err_from_is_err_and c.from_residual.result c.from_residual.ensures.1 in
    let bpm = c.args.bpm.now in
    let times = c.args.times.now in
    let time = c.time-item.result in
    rw (p.1, p.2) (ap all_of (map_map (λ (n : Fraction). seconds_of n bpm) number_in times)
    ∙ item_fault (λ (time : Value). seconds_of (number_in time) bpm) times c.loop-time.time-index time c.in_err-seconds_of.field-0.0 c.loop-time-test.true c.time-item.is c.loop-time.invariant (ap (λ n. seconds_of n bpm) (sym c.number_in.ensures) ∙ sym c.in_err-seconds_of.ensures))

pub loop-time-preserved : goal.loop-time-preserved
loop-time-preserved c =
    let bpm = c.args.bpm.now in
    item_good (λ (time : Value). seconds_of (number_in time) bpm) c.args.times.now c.loop-time.time-index c.time-item.result c.in_ok-seconds_of.field-0 c.loop-time-test.true c.time-item.is c.loop-time.invariant (ap (λ n. seconds_of n bpm) (sym c.number_in.ensures) ∙ sym c.in_ok-seconds_of.ensures)

pub returns : goal.returns
returns c =
    let bpm = c.args.bpm.now in
    let times = c.args.times.now in
    good_all (λ (n : Fraction). seconds_of n bpm) (whole (pos 0)) (map number_in times)
    (subst (λ answers. IsOk (all_of answers)) (sym (map_map (λ (n : Fraction). seconds_of n bpm) number_in times))
    (subst (λ values. IsOk (all_of (map (λ (time : Value). seconds_of (number_in time) bpm) values))) (take_all c.loop-time.time-index times c.loop-time-test.false) c.loop-time.invariant))
