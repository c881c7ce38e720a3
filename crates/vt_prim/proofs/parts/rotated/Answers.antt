use Rattle.std.proofs.Common.{◌≡◌, ℤ, List, Result, Err, to_z, of_z, w64, subst, arith, rules}
use Rattle.std.proofs.lemmas.Int.{ints}
use Rattle.vt_value.specs.declared.fault.ValueFault.{ValueFault}
use Rattle.vt_value.specs.declared.value.Value.{Value}
use Rattle.vt_value.specs.Answers.{Gives}
use Rattle.vt_ring.specs.Turning.{rotate_of}
use Rattle.vt_prim.proofs.ClimbLemmas.{ring_err}
use Rattle.vt_prim.proofs.parts.rotated.Goals as goal

pub returns-in_err-list : goal.returns-in_err-list
returns-in_err-list c =
    let n : to_z w64 (of_z w64 c.get.result) ≡ c.args.number = omega (arith, ints, c.get.ensures.value) in
    let r : Result (List Value) ValueFault = Err c.in_err-list.field-0.0 in
    let given = ring_err (rotate_of c.args.items.now c.args.number) c.in_err-list.field-0.0 (subst (λ (z : ℤ). Gives (rotate_of c.args.items.now z) r) n c.in_err-list.ensures) in
    search (rules, given)
