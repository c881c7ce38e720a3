-- What is known along an evaluation: of where the thread stands, of the values that it holds, of the events that it publishes.
use Rattle.std.proofs.Common.{◌≡◌, ℕ, ◌<◌, List, Bool, refl, None, Ok, ◌∷◌}
use Rattle.std.specs.Prelude.{ℤ, ◌^◌, unsigned_abs, IsTrue}
use Rattle.std.specs.List.{AllByRecursion}
use Rattle.vt_frac.specs.Fraction.{Fraction, IsFraction}
use Rattle.vt_rand.specs.Draw.{RandomStream}
use Rattle.vt_frac.specs.Names.{is_symbol_name}
use Rattle.vt_event.specs.declared.place.Place.{Place}
use Rattle.vt_event.specs.Event.{EventView}
use Rattle.vt_event.specs.Pairs.{Pairs}
use Rattle.vt_run.specs.declared.settings.Settings.{Settings}
use Rattle.vt_run.specs.declared.start.Start.{Start}
use Rattle.vt_run.specs.declared.state.State.{State}
use Rattle.vt_run.specs.calls.Arguments.{Given, all_args, path_argument}
use Rattle.vt_run.specs.calls.Deeds.{Deed}
use Rattle.vt_run.specs.Limits.{ArePairsWithin, AreSettingsWithin, IsEventWithin}
use Rattle.vt_run.specs.calls.TickCalls.{Counters}
use Rattle.vt_run.specs.WellMade.{IsWellMade}
use Rattle.vt_value.specs.Limits.{AreWithin, IsWithin}
use Rattle.vt_value.specs.declared.value.Value.{Value}

-- two states in which a thread stands alike: at one place, with as many effects, children and used answers
pub record IsLike (st other : State) : Type 0 where
  pub time : other.time ≡ st.time
  pub micro : other.micro ≡ st.micro
  pub step : other.step ≡ st.step
  pub effects : other.effects ≡ st.effects
  pub children : other.children ≡ st.children
  pub used : other.used ≡ st.used

-- what a thread may change without standing elsewhere
pub like : {st : State} (locals : Pairs) (settings : Settings) (ticks : Counters) (stream : RandomStream) (moved : Bool) →
    IsLike st (record st { locals = locals; settings = settings; ticks = ticks; stream = stream; moved = moved })
like locals settings ticks stream moved = record { time = refl; micro = refl; step = refl; effects = refl; children = refl; used = refl }

-- a tick counter, by its name
pub record IsCounterWithin (counter : List ℕ × ℤ) : Type 0 where
  pub name : IsTrue (is_symbol_name counter.0)
  pub number : unsigned_abs counter.1 < 2 ^ 63

-- what a state holds, within the limits of the language
pub record PartsWithin (time : Fraction) (locals : Pairs) (settings : Settings) (ticks : Counters) : Type 0 where
  pub fraction : IsFraction time
  pub pairs : ArePairsWithin locals
  pub set : AreSettingsWithin settings
  pub counters : AllByRecursion IsCounterWithin ticks

abbrev pub IsStateWithin : State → Type 0
IsStateWithin st = PartsWithin st.time st.locals st.settings st.ticks

-- what a call is given, within the limits of the language
pub record IsGivenWithin (given : Given) : Type 0 where
  pub args : AreWithin (all_args given)
  pub options : ArePairsWithin given.options

-- where a thread that started so stands
abbrev pub place_in : Start → State → Place
place_in start st = record { time = st.time; micro = st.micro; thread = start.place.thread; step = st.step }

-- what is allowed of each event without a path
abbrev pub Quiet : Type 0 → (EventView → Type 0) → Type 0
Quiet L T = L → (event : EventView) → event.path ≡ None → T event

-- An event that is published at a place. What is known under L is within the limits of the language, and allowed by T.
pub record IsTold (L : Type 0) (T : EventView → Type 0) (place : Place) (event : EventView) : Type 0 where
  pub placed : event.place ≡ place
  pub made : IsWellMade event
  pub within : L → IsEventWithin event
  pub told : L → T event

-- what `cue` or `set` tells at the path that its first argument stands for
abbrev pub SentBy : Type 0 → (EventView → Type 0) → List ℕ → (Place → List (List ℕ) → Value → EventView) → List Value → Type 0
SentBy L T word event args =
    L → (to : Value) (rest : List Value) (path : List (List ℕ)) → args ≡ to ∷ rest → path_argument word to ≡ Ok (Ok path) → (place : Place) (value : Value) → T (event place path value)

-- a call that comes to a deed
pub record IsDeed (L : Type 0) (T : EventView → Type 0) (st : State) (deed : Deed) : Type 0 where
  pub alike : IsLike st deed.state
  pub value : L → IsWithin deed.value
  pub state : L → IsStateWithin deed.state
  pub events : AllByRecursion (λ event. (place : Place) → (L → IsFraction place.time) → IsTold L T place (event place)) deed.events
