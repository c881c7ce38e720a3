-- Laws of the meaning of a session.
use Rattle.std.specs.Prelude.{◌≡◌, ◌↔◌, ℕ, false, Some, IsTrue, List, MatchOption}
use Rattle.std.specs.List.{Contains}
use Rattle.vt_tree.specs.declared.statement.Block.{Block}
use Rattle.vt_event.specs.declared.score.Outcome.{Outcome}
use Rattle.vt_run.specs.declared.texts.Verdict.TheVariants.{Good}
use Rattle.vt_run.specs.TextStarts.{text_start}
use Rattle.vt_run.specs.Threads.{text_at}
use Rattle.vt_path.specs.Match.{Matches}
use Rattle.vt_state.specs.LookUps.{HaveOwnPlaces, IsFirstAbove, IsLastBelow, NoneAbove, NoneBelow}
use Rattle.vt_event.specs.Event.{EventView}
use Rattle.vt_event.specs.declared.place.Place.{Place}
use Rattle.vt_frac.specs.Fraction.{Fraction}
use Rattle.vt_path.specs.declared.pattern.Segment.{Segment}
use Rattle.vt_run.specs.Actions.{is_past}
use Rattle.vt_meaning.specs.Endings.{ComesTo}
use Rattle.vt_meaning.specs.LookUps.{first_above, last_below, matches_path}
use Rattle.vt_meaning.specs.Meaning.{meaning, meaning_by}
use Rattle.vt_meaning.specs.Session.{Key, opening_of, threads_of}
use Rattle.vt_meaning.specs.ThreadLaws.{AreActs}
use Rattle.vt_meaning.specs.ThreadMeaning.{ThreadMeaning}
use Rattle.vt_meaning.specs.Traces.{Thread}
use Rattle.vt_meaning.specs.World.{begun, Opening, opening_world}

-- the key with another number of workers
abbrev pub with_workers : ℕ → Key → Key
with_workers workers key = record key { options = record key.options { workers = workers } }

-- the number of workers has no part in the meaning
abbrev pub WorkersDoNotMatter : Type 0
WorkersDoNotMatter = (key : Key) (workers : ℕ) → meaning (with_workers workers key) ≡ meaning key

-- what the opening world of a session comes to
abbrev pub SessionComesTo : Key → Outcome → Type 0
SessionComesTo key outcome = ComesTo (threads_of key.texts key.options.until) (opening_of key) (opening_world (opening_of key)) outcome

-- Every session means something: the transitions from its opening world come to an end, and the meaning is what they come to. So the number of transitions in the meaning never changes what it is.
abbrev pub MeaningIsTotal : Type 0
MeaningIsTotal = (key : Key) → SessionComesTo key (meaning key)

-- and a session means nothing else
abbrev pub MeaningIsOne : Type 0
MeaningIsOne = (key : Key) (outcome : Outcome) → SessionComesTo key outcome → outcome ≡ meaning key

-- the thread of a good text below the horizon, which has done nothing
pub record IsTextThread (key : Key) (thread : Thread) : Type 0 where
  pub number : ℕ
  pub time : Fraction
  pub tree : Block
  pub text : text_at key.texts number ≡ Some (time, Good tree)
  pub below : is_past key.options.until time ≡ false
  pub fresh : thread ≡ begun (text_start number time key.options)

-- the threads of the opening world are those of the good texts below the horizon
abbrev pub OpeningThreadsAreOfTexts : Type 0
OpeningThreadsAreOfTexts = (key : Key) (thread : Thread) → Contains (opening_world (opening_of key)) thread ↔ IsTextThread key thread

-- the test of a match is true exactly where the pattern matches
abbrev pub MatchTestIsRight : Type 0
MatchTestIsRight = (pattern : List Segment) (path : List (List ℕ)) → IsTrue (matches_path pattern path) ↔ Matches pattern path

-- The look-ups find what a read and a wait find by the time state, among events that stand each at a place of its own.
pub record LookUpsAreRight : Type 0 where
  pub last : (events : List EventView) (place : Place) (pattern : List Segment) → HaveOwnPlaces events →
      MatchOption (last_below events place pattern) (NoneBelow events place pattern) (λ event. IsLastBelow events place pattern event)
  pub first : (events : List EventView) (place : Place) (wants : List (List Segment)) → HaveOwnPlaces events →
      MatchOption (first_above events place wants) (NoneAbove events place wants) (λ event. IsFirstAbove events place wants event)

-- **transitions come to an end**: from any opening, whatever its threads do, if they have the laws of steps
abbrev pub TransitionsEnd : Type 0
TransitionsEnd = (m : ThreadMeaning) → AreActs m → (opening : Opening) → ComesTo m opening (opening_world opening) (meaning_by m opening)

-- .. and to one end
abbrev pub TransitionsEndOnce : Type 0
TransitionsEndOnce = (m : ThreadMeaning) → AreActs m → (opening : Opening) (outcome : Outcome) → ComesTo m opening (opening_world opening) outcome → outcome ≡ meaning_by m opening
