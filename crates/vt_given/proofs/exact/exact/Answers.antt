use Rattle.std.proofs.Common.{◌≡◌, Bool, true, false, cond, Result, Ok, Err, refl, sym, ap, ◌∙◌}
use Rattle.vt_frac.specs.declared.fault.FracFault.{FracFault}
use Rattle.vt_frac.specs.declared.fault.FracFault.TheVariants.{Overflow}
use Rattle.vt_frac.specs.Fraction.{Fraction, fits, fitted}
use Rattle.vt_value.specs.declared.fault.FaultKind.{FaultKind}
use Rattle.vt_value.specs.declared.fault.FaultKind.TheVariants.{Overflow as TooFar}
use Rattle.vt_given.proofs.exact.exact.Goals as goal

fitting : (g f : Fraction) (b : Bool) → ◌≡◌ {A = Result Fraction FracFault} (Ok g) (cond b (Ok f) (Err Overflow)) → ◌≡◌ {A = Result Fraction FaultKind} (Ok g) (cond b (Ok f) (Err TooFar))
fitting g f true h = let same : g ≡ f = cc in ap (λ x. Ok x) same
fitting g f false h = cc

over : (fault : FracFault) (f : Fraction) (b : Bool) → ◌≡◌ {A = Result Fraction FracFault} (Err fault) (cond b (Ok f) (Err Overflow)) → ◌≡◌ {A = Result Fraction FaultKind} (Err TooFar) (cond b (Ok f) (Err TooFar))
over fault f true h = cc
over fault f false h = refl

pub returns-in-Ok : goal.returns-in-Ok
unfolding fitted
returns-in-Ok c f h = fitting c.in-Ok.f f (fits f) (sym c.in-Ok.is ∙ h)

pub returns-in-Err : goal.returns-in-Err
unfolding fitted
returns-in-Err c f h = over c.in-Err.field-0 f (fits f) (sym c.in-Err.is ∙ h)
