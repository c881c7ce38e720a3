-- The reach of the blocks of texts, as the theory of stores takes it: own.
use Rattle.std.specs.Prelude.{◌≡◌, ◌↔◌, List, Bool, true, IsTrue}
use Rattle.vt_event.specs.Event.{EventView}
use Rattle.vt_frac.specs.Fraction.{Fraction, IsFraction}
use Rattle.vt_path.specs.declared.pattern.Segment.{Segment}
use Rattle.vt_run.specs.declared.start.Start.{Start}
use Rattle.vt_run.specs.declared.texts.Texts.{Texts}
use Rattle.vt_run.specs.Limits.{AreChecked}
use Rattle.vt_reached.specs.Fit.{IsFit, IsKnown, MayPublish}
use Rattle.vt_meaning.specs.RealLaws.{IsLeading, IsRendered, IsRenderedWithin, OfCheckedTexts, threads_with}
use Rattle.vt_meaning.specs.ReachFunctions.{fit_of, known_of, may_of}
use Rattle.vt_meaning.specs.Session.{Key, opening_of}
use Rattle.vt_meaning.specs.Reach.{IsKnown as OpensKnown}
use Rattle.vt_meaning.specs.ThreadLaws.{IsActs}
use Rattle.vt_meaning.specs.ThreadMeaning.{ThreadMeaning}

-- what is said of starts, events and of what may be written is what the blocks of the texts say
pub record TellsReach (texts : Texts) (m : ThreadMeaning) : Type 0 where
  pub may : (start : Start) (pattern : List Segment) → (m.may start pattern ≡ true) ↔ MayPublish texts start pattern
  pub fit : (start : Start) → (m.fit start ≡ true) ↔ IsFit texts start
  pub known : (event : EventView) → (m.known event ≡ true) ↔ IsKnown texts event

-- **the reach is sound**: what the threads of checked texts lead to is what the texts can lead to, and they write what their blocks may
abbrev pub TextsLead : Type 0
TextsLead = OfCheckedTexts (λ texts until m. TellsReach texts m → IsLeading m)

-- .. so with the reach of their blocks they have all laws that the theory of stores asks for
abbrev pub TextsReach : Type 0
TextsReach = OfCheckedTexts (λ texts until m. TellsReach texts m → IsActs m)

-- what a session begins with is what its texts can lead to
abbrev pub OpeningsFit : Type 0
OpeningsFit =
    (key : Key) (may : Start → List Segment → Bool) (fit : Start → Bool) (known : EventView → Bool) → IsRendered key → TellsReach key.texts (threads_with key.texts key.options.until may fit known) →
    OpensKnown (threads_with key.texts key.options.until may fit known) (opening_of key)

-- what texts mean to their threads up to a horizon, with the reach of their blocks
abbrev pub reached_threads : Texts → Fraction → ThreadMeaning
reached_threads texts until = threads_with texts until (may_of texts) (fit_of texts) (known_of texts)

-- the functions of the reach tell it
abbrev pub TextsTellReach : Type 0
TextsTellReach = (texts : Texts) (until : Fraction) → TellsReach texts (reached_threads texts until)

-- **the threads of checked texts, with the reach of their blocks, have all laws that the theory of stores asks for**
abbrev pub TextsActByReach : Type 0
TextsActByReach = (texts : Texts) (until : Fraction) → AreChecked texts → IsFraction until → IsActs (reached_threads texts until)

-- **a rendered session begins and goes on within the reach of its blocks**
abbrev pub RenderedByReach : Type 0
RenderedByReach = (key : Key) → IsRendered key → IsRenderedWithin key (may_of key.texts) (fit_of key.texts) (known_of key.texts)

-- whatever tells what a start may write answers as the function of the reach does
abbrev pub MayIsOne : Type 0
MayIsOne = (texts : Texts) (start : Start) (pattern : List Segment) (told : Bool) → (IsTrue told ↔ MayPublish texts start pattern) → told ≡ may_of texts start pattern
