-- What the calls that make a part of a tree answer.
use Rattle.std.specs.Prelude.{◌≡◌, Result, Ok, Err}
use Rattle.vt_build.specs.declared.fault.Fault.{Fault}
use Rattle.vt_build.specs.declared.fault.Fault.TheVariants.{NoMemory}

-- this value, unless there is no memory
abbrev pub Makes : {V : Type 0} → V → Result V Fault → Type 0
Makes v (Ok w) = w ≡ v
Makes v (Err e) = e ≡ NoMemory

-- what this makes of the value that was read, or the fault where none was
abbrev pub Maps : {V W : Type 0} → (V → W) → Result V Fault → Result W Fault → Type 0
Maps f (Ok v) r = r ≡ Ok (f v)
Maps f (Err e) r = r ≡ Err e

-- this holds, unless there is no memory
abbrev pub Unless : Type 0 → Result (Unit {0}) Fault → Type 0
Unless P (Ok u) = P
Unless P (Err e) = e ≡ NoMemory
