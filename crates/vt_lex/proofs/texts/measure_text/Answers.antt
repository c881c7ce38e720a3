use Rattle.std.proofs.Common.{arith, ap, length, length-drop}
use Rattle.std.proofs.lemmas.List.{take_rest}
use Rattle.vt_lex.proofs.Bodies.{measures_none, measured_closing, measured_bad, measures_byte, measured_end}
use Rattle.vt_lex.proofs.texts.measure_text.Goals as goal

pub units-init : goal.units-init
units-init c = record { within = omega arith; few = omega arith; so_far = measures_none _ _ }

pub returns-in-Closing-clause-lengths : goal.returns-in-Closing-clause-lengths
returns-in-Closing-clause-lengths c =
    measured_closing _ _ _ _ _ (take_rest c.args.bytes.now c.units.at) c.units.invariant.so_far c.units-test.true c.in-Closing.ensures.unit

pub units-preserved : goal.units-preserved
units-preserved c =
    let within = c.in-Byte.ensures.within in
    let so_far = measures_byte _ _ _ _ _ (take_rest c.args.bytes.now c.units.at) c.units.invariant.so_far c.units-test.true _ _ within c.in-Byte.ensures.unit in
    let left = ap length (take_rest c.args.bytes.now c.units.at) in
    record { within = omega (arith, left, length-drop c.units.at c.args.bytes.now); few = omega arith; so_far = so_far }

pub returns-in-Bad-clause-lengths : goal.returns-in-Bad-clause-lengths
returns-in-Bad-clause-lengths c =
    measured_bad _ _ _ _ _ (take_rest c.args.bytes.now c.units.at) c.units.invariant.so_far c.units-test.true c.in-Bad.ensures.unit

pub returns-clause-lengths : goal.returns-clause-lengths
returns-clause-lengths c = measured_end _ _ _ _ c.units.invariant.so_far c.units-test.false
