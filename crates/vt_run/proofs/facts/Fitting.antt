-- A fraction that fits is the one that arithmetic answers.
use Rattle.std.proofs.Common.{◌≡◌, Bool, true, false, cond, IsTrue, Result, Ok, Err, refl, ap}
use Rattle.vt_frac.specs.declared.fault.FracFault.{FracFault}
use Rattle.vt_frac.specs.declared.fault.FracFault.TheVariants.{Overflow}
use Rattle.vt_frac.specs.Fraction.{Fraction, fits, fitted}
use Rattle.vt_ring.specs.Exact.{exact}
use Rattle.vt_value.specs.declared.fault.FaultKind.{FaultKind}

made_if : {E : Type 0} (fit : Bool) (f g : Fraction) (fault : E) → (let made : Result Fraction E = cond fit (Ok f) (Err fault) in made ≡ Ok g) → IsTrue fit
made_if true f g fault is = refl
made_if false f g fault is = cc

pub fits_where_fitted : (f g : Fraction) → fitted f ≡ Ok g → IsTrue (fits f)
unfolding fitted
fits_where_fitted f g is = made_if (fits f) f g Overflow is

pub fits_where_exact : (f g : Fraction) → (let answer : Result Fraction FaultKind = Ok g in exact f ≡ answer) → IsTrue (fits f)
fits_where_exact f g is = made_if (fits f) f g _ is

pub fitted_where_fits : (f : Fraction) → IsTrue (fits f) → fitted f ≡ Ok f
unfolding fitted
fitted_where_fits f fit = let answer : Result Fraction FracFault = Ok f in ap (λ fit. cond fit answer (Err Overflow)) fit
