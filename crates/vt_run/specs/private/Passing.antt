-- Which steps a recorder passes over.
use Rattle.std.specs.Prelude.{◌≡◌, Bool, true, false, None}
use Rattle.vt_run.specs.Evaluation.{Step}
use Rattle.vt_run.specs.Notes.{Notes, note}

-- the next step is kept: there is more to do, no stop was made, and all steps that are done are passed over
pub record IsNextKept (notes : Notes) : Type 0 where
  pub goes_on : notes.over ≡ false
  pub no_stop : notes.stop ≡ None
  pub none_done : notes.skip ≡ 0

-- the next step is passed over, whatever it is; or nothing is changed, and it is to be kept
abbrev pub Passed : Bool → Notes → Notes → Type 0
Passed true old new = (step : Step) → new ≡ note old step
Passed false old new = (new ≡ old) × IsNextKept old
