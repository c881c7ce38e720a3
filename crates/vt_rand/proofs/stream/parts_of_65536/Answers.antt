use Rattle.std.proofs.Common.{◌≡◌, Ok, Err, Result, pos, sym, ◌∙◌, rules, w64, to_z, of_z}
use Rattle.std.proofs.lemmas.Int.{to_z-of_z}
use Rattle.vt_frac.specs.declared.fault.FracFault.{FracFault}
use Rattle.vt_frac.specs.Fraction.{Fraction, over}
use Rattle.vt_rand.proofs.DrawLemmas.{part_is}
use Rattle.vt_rand.proofs.stream.parts_of_65536.Goals as goal

pub unreachable-requires : goal.unreachable-requires
unreachable-requires c =
    let whole : to_z w64 (of_z w64 c.from.result) ≡ pos c.args.k = to_z-of_z w64 c.from.result (search rules) ∙ c.from.ensures in
    let fine : c.new.result ≡ Ok (over (pos c.args.k) 65536) = part_is _ c.args.k c.new.result whole (search rules) c.new.ensures.value in
    let both : (let f : Result Fraction FracFault = Ok (over (pos c.args.k) 65536) in f) ≡ Err c.in-Err.field-0 = sym fine ∙ c.in-Err.is in
    absurd cc

pub returns : goal.returns
returns c =
    let whole : to_z w64 (of_z w64 c.from.result) ≡ pos c.args.k = to_z-of_z w64 c.from.result (search rules) ∙ c.from.ensures in
    let fine : c.new.result ≡ Ok (over (pos c.args.k) 65536) = part_is _ c.args.k c.new.result whole (search rules) c.new.ensures.value in
    let both : (let f : Result Fraction FracFault = Ok c.in-Ok.fraction in f) ≡ Ok (over (pos c.args.k) 65536) = sym c.in-Ok.is ∙ fine in
    cc
