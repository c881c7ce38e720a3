-- What a session begins with, where its texts and inputs are orderly: lists and places of their own, and all within the limits.
use Rattle.std.proofs.Common.{◌≡◌, ℕ, zero, suc, ◌+◌, ◌≤◌, List, [], ◌∷◌, ◌++◌, length, refl, sym, ◌∙◌, ap, inl, inr, arith, Bool, true, false, cond, subst, Option, Some, None}
use Rattle.std.specs.Prelude.{slice_get, filter, not, Contains, All, is_some}
use Rattle.std.specs.declared.cmp.Ordering.{Ordering}
use Rattle.std.specs.declared.cmp.Ordering.TheVariants.{Less, Equal, Greater}
use Rattle.std.proofs.lemmas.Option.{get_or_from_slice_get, slice_get_within}
use Rattle.vt_frac.specs.Fraction.{Fraction, IsFraction}
use Rattle.vt_frac.proofs.OrderLemmas.{order_is}
use Rattle.vt_tree.specs.declared.statement.Block.{Block}
use Rattle.vt_value.specs.declared.comparison.OrderOp.TheVariants.{Ge}
use Rattle.vt_value.specs.Comparison.{holds, value_cmp}
use Rattle.vt_value.specs.declared.fault.FaultKind.{FaultKind}
use Rattle.vt_event.specs.declared.place.Place.{Place}
use Rattle.vt_event.specs.Event.{EventView}
use Rattle.vt_event.specs.Orderly.{IsInput, IsGiven}
use Rattle.vt_run.specs.declared.start.Start.{Start}
use Rattle.vt_run.specs.declared.texts.Texts.{Texts}
use Rattle.vt_run.specs.declared.texts.Verdict.{Verdict}
use Rattle.vt_run.specs.declared.texts.Verdict.TheVariants.{Good, Bad}
use Rattle.vt_run.specs.Actions.{is_past}
use Rattle.vt_run.specs.Limits.{IsEventWithin, IsStartWithin}
use Rattle.vt_run.specs.TextStarts.{refused_event, text_start}
use Rattle.vt_run.specs.laws.StartLaws.{InputLaw, RefusalLaw, TextStartLaw}
use Rattle.vt_state.specs.LookUps.{HaveOwnPlaces}
use Rattle.vt_state.proofs.OwnPlaces.{index_of, own_append}
use Rattle.vt_meaning.specs.Places.{Earlier}
use Rattle.vt_meaning.specs.RealLaws.{IsOpening, IsRendered, OpeningsAreOrderly, OpeningsAreWithin, TextsArePrompt, text_times}
use Rattle.vt_meaning.proofs.Lists.{get-append_cases}
use Rattle.vt_meaning.specs.Session.{Key, given_events, of_texts, opening_starts, refusal_of, start_of}
use Rattle.vt_event.specs.declared.kind.Kind.TheVariants.{Play, Synth, Sample, Fx, Cue, Set as SetKind, Log, Took, Fault as FaultKindOf, Body, Defined, Started, Ended}
use Rattle.vt_event.specs.declared.kind.Kind.{Kind}
use Rattle.vt_event.specs.Kinds.{has_body}

none_some : {A : Type 0} {x : A} → ◌≡◌ {A = Option A} None (Some x) → ⊥
none_some h = cc

some_same : {A : Type 0} {x y : A} → Some x ≡ Some y → x ≡ y
some_same h = cc

-- items with numbers, of each of which P holds, in order of their numbers, from this number on
module _ {A : Type 0} (number_of : A → ℕ) (P : A → Type 0) where
  abbrev pub Rising : ℕ → List A → Type 0
  Rising low [] = Unit {0}
  Rising low (x ∷ xs) = (low ≤ number_of x) × P x × Rising (suc (number_of x)) xs

  pub rising_from : (low lower : ℕ) (xs : List A) → lower ≤ low → Rising low xs → Rising lower xs
  rising_from low lower [] le rising = tt
  rising_from low lower (x ∷ xs) le rising = ((let l = rising.0 in omega (arith, l, le)), rising.1, rising.2)

  pub rising_at : (low : ℕ) (xs : List A) (i : ℕ) (x : A) → Rising low xs → slice_get xs i ≡ Some x → (low ≤ number_of x) × P x
  rising_at low [] i x rising at = absurd (none_some at)
  rising_at low (y ∷ ys) zero x rising at =
      let same : y ≡ x = some_same at in
      (subst (λ z. low ≤ number_of z) same rising.0, subst P same rising.1)
  rising_at low (y ∷ ys) (suc i) x rising at =
      let r = rising_at (suc (number_of y)) ys i x rising.2 at in
      ((let first = rising.0 in let then = r.0 in omega (arith, first, then)), r.1)

  -- each has a number of its own
  pub rising_apart : (low : ℕ) (xs : List A) (i j : ℕ) (x y : A) → Rising low xs → slice_get xs i ≡ Some x → slice_get xs j ≡ Some y → number_of x ≡ number_of y → i ≡ j
  rising_apart low [] i j x y rising at there same = absurd (none_some at)
  rising_apart low (z ∷ zs) zero zero x y rising at there same = refl
  rising_apart low (z ∷ zs) zero (suc j) x y rising at there same =
      let later = (rising_at (suc (number_of z)) zs j y rising.2 there).0 in
      let first = ap number_of (some_same at) in
      absurd (omega (arith, later, first, same))
  rising_apart low (z ∷ zs) (suc i) zero x y rising at there same =
      let later = (rising_at (suc (number_of z)) zs i x rising.2 at).0 in
      let first = ap number_of (some_same there) in
      absurd (omega (arith, later, first, same))
  rising_apart low (z ∷ zs) (suc i) (suc j) x y rising at there same = ap suc (rising_apart (suc (number_of z)) zs i j x y rising.2 at there same)

  pub rising_holds : (low : ℕ) (xs : List A) (x : A) → Rising low xs → Contains xs x → (low ≤ number_of x) × P x
  rising_holds low xs x rising has = let at = index_of xs x has in rising_at low xs at.0 x rising at.1

  -- at most one item, with this number
  abbrev pub IsOne : ℕ → List A → Type 0
  IsOne number [] = Unit {0}
  IsOne number (x ∷ []) = (number_of x ≡ number) × P x
  IsOne number (x ∷ y ∷ xs) = ⊥

  one_first : (number : ℕ) (xs ys : List A) → IsOne number xs → Rising (number + 1) ys → Rising number (xs ++ ys)
  one_first number [] ys one rising = rising_from (number + 1) number ys (omega arith) rising
  one_first number (x ∷ []) ys one rising =
      let same = one.0 in
      ((omega (arith, same)), one.1, rising_from (number + 1) (suc (number_of x)) ys (omega (arith, same)) rising)
  one_first number (x ∷ y ∷ xs) ys one rising = absurd one

  one_or_none : (number : ℕ) (past : Bool) (xs ys : List A) → (past ≡ false → IsOne number xs) → Rising (number + 1) ys → Rising number (cond past [] xs ++ ys)
  one_or_none number true xs ys one rising = rising_from (number + 1) number ys (omega arith) rising
  one_or_none number false xs ys one rising = one_first number xs ys (one refl) rising

  -- what texts give rises with their numbers
  pub texts_rise : (until : Fraction) (of_text : ℕ → Fraction → Verdict → List A) (number : ℕ) (texts : Texts) →
      ((k : ℕ) (time : Fraction) (verdict : Verdict) → slice_get texts k ≡ Some (time, verdict) → is_past until time ≡ false → IsOne (number + k) (of_text (number + k) time verdict)) →
      Rising number (of_texts until of_text number texts)
  texts_rise until of_text number [] each = tt
  texts_rise until of_text number (text ∷ texts) each =
      one_or_none number (is_past until text.0) (of_text number text.0 text.1) (of_texts until of_text (number + 1) texts)
      (λ below. let n : number + 0 ≡ number = omega arith in subst (λ m. IsOne m (of_text m text.0 text.1)) n (each 0 text.0 text.1 refl below))
      (texts_rise until of_text (number + 1) texts (λ k time verdict at below.
      let n : number + suc k ≡ (number + 1) + k = omega arith in subst (λ m. IsOne m (of_text m time verdict)) n (each (suc k) time verdict at below)))

  -- so do those of them that pass a test, which hold it
  pub filter_rises : (test : A → Bool) (low : ℕ) (xs : List A) → Rising low xs → Rising low (filter test xs)
  filter_rises test low [] rising = tt
  filter_rises test low (x ∷ xs) rising = go (test x) (filter_rises test (suc (number_of x)) xs rising.2)
    where
      go : (passes : Bool) → Rising (suc (number_of x)) (filter test xs) → Rising low (cond passes (x ∷ filter test xs) (filter test xs))
      go true rest = (rising.0, rising.1, rest)
      go false rest = rising_from (suc (number_of x)) low (filter test xs) (let l = rising.0 in omega (arith, l)) rest

filter_passes : {A : Type 0} (test : A → Bool) (xs : List A) (i : ℕ) (x : A) → slice_get (filter test xs) i ≡ Some x → test x ≡ true
filter_passes test [] i x at = absurd (none_some at)
filter_passes test (y ∷ ys) i x at = go (test y) refl i (filter_passes test ys) at
  where
    go : (passes : Bool) → test y ≡ passes → (i : ℕ) → ((j : ℕ) (z : _) → slice_get (filter test ys) j ≡ Some z → test z ≡ true) →
        slice_get (cond passes (y ∷ filter test ys) (filter test ys)) i ≡ Some x → test x ≡ true
    go true is zero rest at = subst (λ z. test z ≡ true) (some_same at) is
    go true is (suc j) rest at = rest j x at
    go false is j rest at = rest j x at

number_in : List ℕ → ℕ
number_in [] = 0
number_in (n ∷ ns) = n

start_number : Start → ℕ
start_number start = number_in start.place.thread

pub event_number : EventView → ℕ
event_number event = number_in event.place.thread

input_number : EventView → ℕ
input_number event = event.place.step

-- how the thread of a good text below the horizon starts
pub record IsTextStart (key : Key) (start : Start) : Type 0 where
  pub number : ℕ
  pub time : Fraction
  pub tree : Block
  pub text : slice_get key.texts number ≡ Some (time, Good tree)
  pub below : is_past key.options.until time ≡ false
  pub is : start ≡ text_start (1 + number) time key.options

-- the fault of a refused text below the horizon
pub record IsRefused (key : Key) (event : EventView) : Type 0 where
  pub number : ℕ
  pub time : Fraction
  pub kind : FaultKind
  pub line : ℕ
  pub text : slice_get key.texts number ≡ Some (time, Bad kind line)
  pub below : is_past key.options.until time ≡ false
  pub is : event ≡ refused_event (1 + number) time kind line

-- an input
pub record IsHeard (event : EventView) : Type 0 where
  pub thread : event.place.thread ≡ 0 ∷ []
  pub micro : event.place.micro ≡ 0
  pub within : IsEventWithin event
  pub bodiless : event.body ≡ None

not_some : {A : Type 0} (o : Option A) → is_some o ≡ false → o ≡ None
not_some None e = refl
not_some (Some a) e = absurd (let z : true ≡ false = e in cc)

-- an input carries no block
no_body : (event : EventView) (kind : Kind) → event.kind ≡ kind → IsGiven kind event → is_some event.body ≡ has_body kind → event.body ≡ None
no_body event Cue is given e = not_some event.body e
no_body event SetKind is given e = not_some event.body e
no_body event Ended is given e = not_some event.body e
no_body event Play is given e = absurd given
no_body event Synth is given e = absurd given
no_body event Sample is given e = absurd given
no_body event Fx is given e = absurd given
no_body event Log is given e = absurd given
no_body event Took is given e = absurd given
no_body event (FaultKindOf fault) is given e = absurd given
no_body event Body is given e = absurd given
no_body event Defined is given e = absurd given
no_body event Started is given e = absurd given

all_at : {A : Type 0} (P : A → Type 0) (xs : List A) (k : ℕ) (x : A) → All P xs → slice_get xs k ≡ Some x → P x
all_at P xs k x all at = subst P (get_or_from_slice_get xs k x x at) (all k x (slice_get_within xs k x at))

time_at : (texts : Texts) (k : ℕ) (time : Fraction) (verdict : Verdict) → slice_get texts k ≡ Some (time, verdict) → slice_get (text_times texts) k ≡ Some time
time_at [] k time verdict at = absurd (none_some at)
time_at (text ∷ texts) zero time verdict at = ap (λ (t : Fraction × Verdict). Some t.0) (some_same at)
time_at (text ∷ texts) (suc k) time verdict at = time_at texts k time verdict at

inputs_rise : (number : ℕ) (inputs : List EventView) → ((k : ℕ) (input : EventView) → slice_get inputs k ≡ Some input → IsInput (number + k) input × IsEventWithin input) →
    Rising input_number IsHeard number inputs
unfolding input_number
inputs_rise number [] each = tt
inputs_rise number (input ∷ inputs) each =
    let first = each 0 input refl in
    let step = ap (λ (p : Place). p.step) first.0.place in (
      omega (arith, step),
      record { thread = ap (λ (p : Place). p.thread) first.0.place; micro = ap (λ (p : Place). p.micro) first.0.place; within = first.1; bodiless = no_body input input.kind refl first.0.form first.0.fields.body_with_kind },
      rising_from input_number IsHeard (number + 1) (suc input.place.step) inputs (omega (arith, step))
          (inputs_rise (number + 1) inputs (λ k other at. let n : number + suc k ≡ (number + 1) + k = omega arith in subst (λ m. IsInput m other × IsEventWithin other) n (each (suc k) other at))),
    )

module _ (starting : TextStartLaw) (refusing : RefusalLaw) (hearing : InputLaw) (key : Key) (rendered : IsRendered key) where
  start_one : (k : ℕ) (time : Fraction) (verdict : Verdict) → slice_get key.texts k ≡ Some (time, verdict) → is_past key.options.until time ≡ false →
      IsOne start_number (IsTextStart key) (1 + k) (start_of key.options (1 + k) time verdict)
  unfolding start_number number_in
  start_one k time (Good tree) at below = (refl, record { number = k; time = time; tree = tree; text = at; below = below; is = refl })
  start_one k time (Bad kind line) at below = tt

  refusal_one : (k : ℕ) (time : Fraction) (verdict : Verdict) → slice_get key.texts k ≡ Some (time, verdict) → is_past key.options.until time ≡ false →
      IsOne event_number (IsRefused key) (1 + k) (refusal_of (1 + k) time verdict)
  unfolding event_number number_in
  refusal_one k time (Good tree) at below = tt
  refusal_one k time (Bad kind line) at below = (refl, record { number = k; time = time; kind = kind; line = line; text = at; below = below; is = refl })

  starts_rise : Rising start_number (IsTextStart key) 1 (opening_starts key)
  starts_rise = texts_rise start_number (IsTextStart key) key.options.until (start_of key.options) 1 key.texts start_one

  abbrev refusals : List EventView
  refusals = of_texts key.options.until refusal_of 1 key.texts

  abbrev is_early : EventView → Bool
  is_early input = not (is_past key.options.until input.place.time)

  abbrev heard_inputs : List EventView
  heard_inputs = filter is_early key.inputs

  refusals_rise : Rising event_number (IsRefused key) 1 refusals
  refusals_rise = texts_rise event_number (IsRefused key) key.options.until refusal_of 1 key.texts refusal_one

  heard_rise : Rising input_number IsHeard 1 heard_inputs
  heard_rise =
      filter_rises input_number IsHeard is_early 1 key.inputs
      (inputs_rise 1 key.inputs (λ k input at. (
        let n : k + 1 ≡ 1 + k = omega arith in subst (λ m. IsInput m input) n (rendered.orderly.each k input at),
        (hearing (text_times key.texts) key.inputs k input rendered.orderly at).1,
      )))

  time_is : (k : ℕ) (time : Fraction) (verdict : Verdict) → slice_get key.texts k ≡ Some (time, verdict) → IsFraction time
  time_is k time verdict at = all_at IsFraction (text_times key.texts) k time rendered.orderly.texts.fractions (time_at key.texts k time verdict at)

  start_within : (start : Start) → IsTextStart key start → IsStartWithin start
  start_within start of =
      subst IsStartWithin (sym of.is) (starting (1 + of.number) of.time key.options (time_is of.number of.time (Good of.tree) of.text) rendered.horizon rendered.seed)

  refusal_within : (event : EventView) → IsRefused key event → IsEventWithin event
  refusal_within event of =
      subst IsEventWithin (sym of.is) (refusing (1 + of.number) of.time of.kind of.line key.options (time_is of.number of.time (Bad of.kind of.line) of.text)).within

  -- a given event is a refusal or an input
  pub data IsGivenSo (event : EventView) : Type 0 where
    Refusal : IsRefused key event → 1 ≤ event_number event → IsGivenSo event
    Heard : IsHeard event → is_past key.options.until event.place.time ≡ false → IsGivenSo event

  not_true : (b : Bool) → not b ≡ true → b ≡ false
  not_true false h = refl
  not_true true h = absurd (let z : false ≡ true = h in cc)

  given_at : (i : ℕ) (event : EventView) → slice_get (given_events key) i ≡ Some event → IsGivenSo event
  given_at i event at =
      elim (get-append_cases refusals heard_inputs i event at) [
        | inl left ↦ (let r = rising_at event_number (IsRefused key) 1 refusals i event refusals_rise left in Refusal r.1 r.0)
        | inr right ↦
            Heard (rising_at input_number IsHeard 1 heard_inputs right.0 event heard_rise right.2).1
            (not_true (is_past key.options.until event.place.time) (filter_passes is_early key.inputs right.0 event right.2))
      ]

  pub given_so : (event : EventView) → Contains (given_events key) event → IsGivenSo event
  given_so event has = let at = index_of (given_events key) event has in given_at at.0 event at.1

  pub text_so : (start : Start) → Contains (opening_starts key) start → IsTextStart key start
  text_so start has = (rising_holds start_number (IsTextStart key) 1 (opening_starts key) start starts_rise has).1

  -- a text is not both good and refused
  good_or_bad : (k l : ℕ) (time time' : Fraction) (tree : Block) (kind : FaultKind) (line : ℕ) → slice_get key.texts k ≡ Some (time, Good tree) → slice_get key.texts l ≡ Some (time', Bad kind line) → k ≡ l → ⊥
  good_or_bad k l time time' tree kind line good bad same =
      let e : ◌≡◌ {A = Fraction × Verdict} (time, Good tree) (time', Bad kind line) = some_same (sym good ∙ ap (slice_get key.texts) same ∙ bad) in
      absurd (let z : Good tree ≡ Bad kind line = ap (λ (t : Fraction × Verdict). t.1) e in cc)

  start_list : (start : Start) → (of : IsTextStart key start) → start.place.thread ≡ (1 + of.number) ∷ []
  start_list start of = ap (λ (s : Start). s.place.thread) of.is

  refusal_list : (event : EventView) → (of : IsRefused key event) → event.place.thread ≡ (1 + of.number) ∷ []
  refusal_list event of = ap (λ (e : EventView). e.place.thread) of.is

  one_list : (event : EventView) → IsGivenSo event → length event.place.thread ≡ 1
  one_list event (Refusal of low) = ap length (refusal_list event of)
  one_list event (Heard of early) = ap length of.thread

  no_text : (event : EventView) (start : Start) → IsGivenSo event → IsTextStart key start → event.place.thread ≡ start.place.thread → ⊥
  unfolding number_in
  no_text event start (Refusal of low) text same =
      let e : 1 + of.number ≡ 1 + text.number = ap number_in (sym (refusal_list event of) ∙ same ∙ start_list start text) in
      good_or_bad text.number of.number text.time of.time text.tree of.kind of.line text.text of.text (omega (arith, e))
  no_text event start (Heard of early) text same =
      let e : 0 ≡ 1 + text.number = ap number_in (sym of.thread ∙ same ∙ start_list start text) in
      omega (arith, e)

  given_within : (event : EventView) → IsGivenSo event → IsEventWithin event
  given_within event (Refusal of low) = refusal_within event of
  given_within event (Heard of early) = of.within

  given_early : (event : EventView) → IsGivenSo event → is_past key.options.until event.place.time ≡ false
  given_early event (Refusal of low) = subst (λ (e : EventView). is_past key.options.until e.place.time ≡ false) (sym of.is) of.below
  given_early event (Heard of early) = early

  given_low : (event : EventView) → IsGivenSo event → event.place.micro ≡ 0
  given_low event (Refusal of low) = ap (λ (e : EventView). e.place.micro) of.is
  given_low event (Heard of early) = of.micro

  own_places : HaveOwnPlaces (given_events key)
  unfolding event_number input_number number_in
  own_places =
      own_append refusals heard_inputs
      (λ i j event other at there same. rising_apart event_number (IsRefused key) 1 refusals i j event other refusals_rise at there (ap (λ (p : Place). number_in p.thread) same))
      (λ i j event other at there same. rising_apart input_number IsHeard 1 heard_inputs i j event other heard_rise at there (ap (λ (p : Place). p.step) same))
      (λ event other has there same.
      let r = rising_holds event_number (IsRefused key) 1 refusals event refusals_rise has in
      let h = rising_holds input_number IsHeard 1 heard_inputs other heard_rise there in
      let low = r.0 in
      let e : number_in event.place.thread ≡ 0 = ap (λ (p : Place). number_in p.thread) same ∙ ap number_in h.1.thread in
      absurd (omega (arith, low, e)))

  opening_is : IsOpening key
  unfolding start_number
  opening_is = record {
    orderly = λ start has. ap length (start_list start (text_so start has));
    given = record {
      one = λ event has. one_list event (given_so event has);
      no_text = λ event start has text same. no_text event start (given_so event has) (text_so start text) same;
      apart = λ event other has there same.
          let at = index_of (given_events key) event has in
          let to = index_of (given_events key) other there in
          let k : at.0 ≡ to.0 = own_places at.0 to.0 event other at.1 to.1 same in
          some_same (sym at.1 ∙ ap (slice_get (given_events key)) k ∙ to.1);
    };
    texts = λ number other start twin at there same. rising_apart start_number (IsTextStart key) 1 (opening_starts key) number other start twin starts_rise at there (ap number_in same);
    known = record { starts = λ start has. (refl, start_within start (text_so start has)); given = λ event has. (refl, given_within event (given_so event has)) };
    places = own_places;
    early = λ start has. subst (λ (s : Start). is_past key.options.until s.place.time ≡ false) (sym (text_so start has).is) (text_so start has).below;
    heard = λ event has. given_early event (given_so event has);
    low = record {
      steps = λ start has. let e = ap (λ (s : Start). s.place.step) (text_so start has).is in omega (arith, e);
      micros = λ start has. ap (λ (s : Start). s.place.micro) (text_so start has).is;
      given = λ event has. given_low event (given_so event has);
    };
  }

pub openings_are_orderly : TextStartLaw → RefusalLaw → InputLaw → OpeningsAreOrderly
openings_are_orderly starting refusing hearing key rendered = opening_is starting refusing hearing key rendered

-- a time that is not past the horizon is earlier
earlier_by : (o : Ordering) → holds Ge o ≡ false → o ≡ Less
earlier_by Less h = refl
earlier_by Equal h = absurd (let z : true ≡ false = h in cc)
earlier_by Greater h = absurd (let z : true ≡ false = h in cc)

earlier_than : (until time : Fraction) → IsFraction until → IsFraction time → is_past until time ≡ false → Earlier time until
unfolding Earlier
earlier_than until time u t h = sym (order_is time until t u) ∙ earlier_by (value_cmp time until) h

pub openings_are_within : OpeningsAreOrderly → TextsArePrompt → OpeningsAreWithin
openings_are_within orderly prompt key may fit known rendered =
    let o = orderly key rendered in
    record {
      horizon = rendered.horizon;
      starts = λ start has. earlier_than key.options.until start.place.time rendered.horizon (o.known.starts start has).1.time (o.early start has);
      given = λ event has. earlier_than key.options.until event.place.time rendered.horizon (o.known.given event has).1.time (o.heard event has);
      spawns = λ thread i entry place start at is early.
          subst (λ time. Earlier time key.options.until) (sym (prompt key.texts key.options.until may fit known thread i entry place start at is)) early;
    }
