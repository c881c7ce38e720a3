-- When two sessions share what stands at the times in question: they begin alike there, and threads that did the same do the same next.
use Rattle.std.proofs.Common.{◌≡◌, ℕ, List, [], ◌∷◌, take, refl, sym, ◌∙◌, ap, Bool, true, false, subst, Option, Some, None}
use Rattle.std.specs.Prelude.{slice_get, Contains}
use Rattle.vt_event.specs.Event.{EventView}
use Rattle.vt_event.specs.declared.place.Place.{Place}
use Rattle.vt_frac.specs.Arithmetic.{sum_of}
use Rattle.vt_frac.specs.Fraction.{Fraction}
use Rattle.vt_path.specs.declared.pattern.Segment.{Segment}
use Rattle.vt_run.specs.Actions.{is_past}
use Rattle.vt_run.specs.Standing.{Asleep, next_step, Over, Ready, Stance}
use Rattle.vt_run.specs.declared.action.Action.{Action}
use Rattle.vt_run.specs.declared.action.Action.TheVariants.{Emit, End, Read, Rest, Spawn, Wait}
use Rattle.vt_run.specs.declared.action.Answer.{Answer}
use Rattle.vt_run.specs.declared.start.Start.{Start}
use Rattle.vt_meaning.specs.Consistent.{IsConsistent}
use Rattle.vt_meaning.specs.LookUps.{matches_event}
use Rattle.vt_meaning.specs.Places.{NoLater}
use Rattle.vt_meaning.specs.Reach.{IsKnown}
use Rattle.vt_meaning.specs.ThreadLaws.{IsLawful}
use Rattle.vt_meaning.specs.ThreadMeaning.{ThreadMeaning}
use Rattle.vt_meaning.specs.Traces.{after_action, after_rest, after_step, Entry, standing, stands, Thread, trace}
use Rattle.vt_meaning.specs.World.{Opening}
use Rattle.vt_meaning.proofs.Traces.{At}
use Rattle.vt_meaning.proofs.FedThreads.{fed}

-- what is so shared by two consistent sets
pub record Shares (Soon : Fraction → Type 0) (m m' : ThreadMeaning) (opening opening' : Opening) : Type 0 where
  pub law : IsLawful m
  pub law_back : IsLawful m'
  pub earlier : (n k : Fraction) → NoLater n k → Soon k → Soon n
  pub horizon : (time seconds : Fraction) → Soon (sum_of time seconds) → is_past m.until (sum_of time seconds) ≡ is_past m'.until (sum_of time seconds)
  pub starts : (start : Start) → Soon start.place.time → Contains opening.starts start → Contains opening'.starts start
  pub starts_back : (start : Start) → Soon start.place.time → Contains opening'.starts start → Contains opening.starts start
  pub given : (event : EventView) → Soon event.place.time → Contains opening.given event → Contains opening'.given event
  pub given_back : (event : EventView) → Soon event.place.time → Contains opening'.given event → Contains opening.given event
  -- the next step is one, after the same steps from one start
  pub same : (these those : List Thread) → IsConsistent m opening these → IsConsistent m' opening' those → (k l i : ℕ) (thread twin : Thread) (entry other : Entry) (place r : Place) → slice_get these k ≡ Some thread → slice_get those l ≡ Some twin →
      thread.start ≡ twin.start → take i (trace m thread) ≡ take i (trace m' twin) → slice_get (trace m thread) i ≡ Some entry → slice_get (trace m' twin) i ≡ Some other → At m thread i place → At m' twin i r → Soon place.time → Soon r.time → entry.step ≡ other.step
  -- what a thread may write in one session, it may write in the other
  pub writes : (those : List Thread) → IsConsistent m' opening' those → (l i : ℕ) (twin : Thread) (entry : Entry) (f : EventView) (pattern : List Segment) → slice_get those l ≡ Some twin → slice_get (trace m' twin) i ≡ Some entry →
      entry.step.action ≡ Some (Emit f) → Soon f.place.time → matches_event pattern f ≡ true → m.may twin.start pattern ≡ true
  pub passes : (those : List Thread) → IsConsistent m' opening' those → (l i : ℕ) (twin : Thread) (entry : Entry) (place : Place) (start : Start) (pattern : List Segment) → slice_get those l ≡ Some twin → slice_get (trace m' twin) i ≡ Some entry →
      entry.step.action ≡ Some (Spawn place start) → Soon place.time → m.may start pattern ≡ true → m.may twin.start pattern ≡ true
  pub writes_back : (those : List Thread) → IsConsistent m opening those → (l i : ℕ) (twin : Thread) (entry : Entry) (f : EventView) (pattern : List Segment) → slice_get those l ≡ Some twin → slice_get (trace m twin) i ≡ Some entry →
      entry.step.action ≡ Some (Emit f) → Soon f.place.time → matches_event pattern f ≡ true → m'.may twin.start pattern ≡ true
  pub passes_back : (those : List Thread) → IsConsistent m opening those → (l i : ℕ) (twin : Thread) (entry : Entry) (place : Place) (start : Start) (pattern : List Segment) → slice_get those l ≡ Some twin → slice_get (trace m twin) i ≡ Some entry →
      entry.step.action ≡ Some (Spawn place start) → Soon place.time → m'.may start pattern ≡ true → m'.may twin.start pattern ≡ true

pub flip : (Soon : Fraction → Type 0) (m m' : ThreadMeaning) (opening opening' : Opening) → Shares Soon m m' opening opening' → Shares Soon m' m opening' opening
flip Soon m m' opening opening' shared =
    record {
      law = shared.law_back;
      law_back = shared.law;
      earlier = shared.earlier;
      horizon = λ n k s. sym (shared.horizon n k s);
      starts = shared.starts_back;
      starts_back = shared.starts;
      given = shared.given_back;
      given_back = shared.given;
      same = λ these those these_hold those_hold k l i a b x y p r ah bh st al xd yd pa ra ps rs. sym (shared.same those these those_hold these_hold l k i b a y x r p bh ah (sym st) (sym al) yd xd ra pa rs ps);
      writes = shared.writes_back;
      passes = shared.passes_back;
      writes_back = shared.writes;
      passes_back = shared.passes;
    }

-- **a session shares everything with itself**
pub itself : (m : ThreadMeaning) → IsLawful m → (opening : Opening) → IsKnown m opening → Shares (λ n. Unit {0}) m m opening opening
itself m law opening knowns =
    record {
      law = law;
      law_back = law;
      earlier = λ n k l s. tt;
      horizon = λ n k s. refl;
      starts = λ s _ h. h;
      starts_back = λ s _ h. h;
      given = λ e _ h. h;
      given_back = λ e _ h. h;
      same = λ these those these_hold those_hold k l i a b x y p r ah bh st al xd yd pa ra ps rs. law.same a b i x y st al xd yd;
      writes = λ those those_hold l i b x f q bh d is _ matched. law.reach.writes b i x f q (fed m law opening knowns those those_hold l i b x bh d) d is matched;
      passes = λ those those_hold l i b x p s q bh d is _ may. law.reach.passes b i x p s q (fed m law opening knowns those those_hold l i b x bh d) d is may;
      writes_back = λ those those_hold l i b x f q bh d is _ matched. law.reach.writes b i x f q (fed m law opening knowns those those_hold l i b x bh d) d is matched;
      passes_back = λ those those_hold l i b x p s q bh d is _ may. law.reach.passes b i x p s q (fed m law opening knowns those those_hold l i b x bh d) d is may;
    }

-- the same steps leave two threads at one place, if neither is left asleep; horizons have no part in it
AtOne : Stance → Stance → Type 0
AtOne s r = (place q : Place) → s ≡ Ready place → r ≡ Ready q → place ≡ q

alone : (s : Stance) → AtOne s s
unfolding AtOne
alone s p q a b = let z : Ready p ≡ Ready q = sym a ∙ b in cc z

one_rest : (u v : Bool) (place : Place) (n : Fraction) → AtOne (after_rest u place n) (after_rest v place n)
unfolding AtOne
one_rest false false place n p q g h = let z : Ready p ≡ Ready q = sym g ∙ h in cc z
one_rest true v place n p q g h = absurd (let z : Asleep (sum_of place.time n) ≡ Ready p = g in cc)
one_rest false true place n p q g h = absurd (let z : Asleep (sum_of place.time n) ≡ Ready q = h in cc)

one_step : (u v : Fraction) (s r : Stance) (act : Option Action) (ans : Option Answer) → AtOne s r → AtOne (after_step u s act ans) (after_step v r act ans)
one_step u v s r None ans h = h
one_step u v s r (Some (Emit e)) ans h = alone (Ready (next_step e.place))
one_step u v s r (Some (Rest b n)) ans h = one_rest (is_past u (sum_of b.time n)) (is_past v (sum_of b.time n)) b n
one_step u v s r (Some (Read b q)) ans h = alone (after_action u (Read b q) ans)
one_step u v s r (Some (Wait b q c)) ans h = alone (after_action u (Wait b q c) ans)
one_step u v s r (Some (Spawn b c)) ans h = alone (Ready (next_step b))
one_step u v s r (Some (End b reason)) ans h = alone Over

one_stands : (u v : Fraction) (s r : Stance) (entries : List Entry) → AtOne s r → AtOne (stands u s entries) (stands v r entries)
one_stands u v s r [] a = a
one_stands u v s r (x ∷ xs) a = one_stands u v (after_step u s x.step.action x.answer) (after_step v r x.step.action x.answer) xs (one_step u v s r x.step.action x.answer a)

one_standing : (m m' : ThreadMeaning) (start : Start) (entries : List Entry) → AtOne (standing m start entries) (standing m' start entries)
unfolding standing
one_standing m m' start entries = one_stands m.until m'.until (Ready start.place) (Ready start.place) entries (alone (Ready start.place))

-- **so two threads go on at one place**
pub one_place : (m m' : ThreadMeaning) (thread twin : Thread) (i : ℕ) (place r : Place) → thread.start ≡ twin.start → take i (trace m thread) ≡ take i (trace m' twin) → At m thread i place → At m' twin i r → place ≡ r
unfolding AtOne
one_place m m' thread twin i place r start alike pa ra =
    one_standing m m' twin.start (take i (trace m' twin)) place r (ap (standing m twin.start) (sym alike) ∙ ap (λ s. standing m s (take i (trace m thread))) (sym start) ∙ pa) ra

module _ (Soon : Fraction → Type 0) (m m' : ThreadMeaning) (opening opening' : Opening) (shared : Shares Soon m m' opening opening') where
  -- at a time in question the next step is one
  pub step_same : (these those : List Thread) → IsConsistent m opening these → IsConsistent m' opening' those → (k l i : ℕ) (thread twin : Thread) (entry other : Entry) (place r : Place) → slice_get these k ≡ Some thread → slice_get those l ≡ Some twin →
      thread.start ≡ twin.start → take i (trace m thread) ≡ take i (trace m' twin) → slice_get (trace m thread) i ≡ Some entry → slice_get (trace m' twin) i ≡ Some other → At m thread i place → At m' twin i r → Soon place.time → entry.step ≡ other.step
  step_same these those these_hold those_hold k l i thread twin entry other place r ah bh st al xd yd pa ra ps =
      shared.same these those these_hold those_hold k l i thread twin entry other place r ah bh st al xd yd pa ra ps (subst (λ w. Soon w.time) (one_place m m' thread twin i place r st al pa ra) ps)
