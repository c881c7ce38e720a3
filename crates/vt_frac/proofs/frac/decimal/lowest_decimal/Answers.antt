use Rattle.std.proofs.Common.{rules, ◌≡◌, ◌∙◌, ap, ℤ, MatchResult, Ok, Err}
use Rattle.std.specs.Int.{w128}
use Rattle.std.proofs.lemmas.Int.{to_z_pos}
use Rattle.vt_frac.specs.declared.fault.DecimalFault.TheVariants.{Overflow}
use Rattle.vt_frac.specs.Fraction.{fitted, over}
use Rattle.vt_frac.proofs.DecimalLemmas.{refitted}
use Rattle.vt_frac.proofs.frac.decimal.lowest_decimal.Goals as goal

pub returns : goal.returns
returns c =
    let h : MatchResult c.lowest.result (λ x. c.map_err.result ≡ Ok x) (λ e. c.map_err.result ≡ Err Overflow) = search rules in
    let lowest_is = c.lowest.ensures ∙ ap (λ (n : ℤ). fitted (over n c.args.d)) (to_z_pos w128 c.args.n c.requires.fits) in
    refitted _ _ (rw lowest_is at h)
