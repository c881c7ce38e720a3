-- What transitions end in.
use Rattle.std.proofs.Common.{◌≡◌, ◌≤◌, List, refl, arith, subst}
use Rattle.vt_meaning.specs.Consistent.{IsConsistent}
use Rattle.vt_meaning.specs.Meaning.{Ending}
use Rattle.vt_meaning.specs.Meaning.Ending.{Ends, OverBudget}
use Rattle.vt_meaning.specs.Means.{Means}
use Rattle.vt_meaning.specs.Means.Means.{ends, goes, spends}
use Rattle.vt_meaning.specs.NextPlaces.{IsFinished}
use Rattle.vt_meaning.specs.Reach.{IsKnown}
use Rattle.vt_meaning.specs.ThreadLaws.{IsLawful, IsLive, IsOrderly}
use Rattle.vt_meaning.specs.ThreadMeaning.{ThreadMeaning}
use Rattle.vt_meaning.specs.Traces.{Thread}
use Rattle.vt_meaning.specs.World.{Opening, total_of}
use Rattle.vt_meaning.proofs.KeptByTransitions.{transition_kept}

-- a world at the end is a finished consistent set within the budget
pub record IsRight (m : ThreadMeaning) (opening : Opening) (ws : List Thread) : Type 0 where
  pub consistent : IsConsistent m opening ws
  pub finished : IsFinished m opening ws
  pub within : total_of m ws ≤ opening.budget

pub ends_right : (m : ThreadMeaning) (law : IsLawful m) (live : IsLive m) (opening : Opening) (knowns : IsKnown m opening) → IsOrderly opening → (these : List Thread) (o : Ending) → IsConsistent m opening these → Means m opening these o →
    (ws : List Thread) → o ≡ Ends ws → IsRight m opening ws
ends_right m law live opening knowns ok these o consistent (spends _ over) ws e = absurd (let z : OverBudget ≡ Ends ws = e in cc)
ends_right m law live opening knowns ok these o consistent (ends _ within done) ws e =
    let z : Ends these ≡ Ends ws = e in
    let s : these ≡ ws = cc z in
    subst (IsRight m opening) s (record { consistent = consistent; finished = done; within = within })
ends_right m law live opening knowns ok these o consistent (goes _ vs _ within transition rest) ws e =
    ends_right m law live opening knowns ok vs o (transition_kept m law live opening knowns ok these vs consistent transition) rest ws e

-- and a spent session has a consistent set above it
pub ends_if : (m : ThreadMeaning) (law : IsLawful m) (live : IsLive m) (opening : Opening) (knowns : IsKnown m opening) → IsOrderly opening → (these : List Thread) (o : Ending) → IsConsistent m opening these → Means m opening these o →
    ((those : List Thread) → IsConsistent m opening those → total_of m those ≤ opening.budget) → (ws : List Thread) × (o ≡ Ends ws)
ends_if m law live opening knowns ok these o consistent (spends _ over) few = (let le = few these consistent in absurd (omega arith))
ends_if m law live opening knowns ok these o consistent (ends _ within done) few = (these, refl)
ends_if m law live opening knowns ok these o consistent (goes _ vs _ within transition rest) few = ends_if m law live opening knowns ok vs o (transition_kept m law live opening knowns ok these vs consistent transition) rest few
