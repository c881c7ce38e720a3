-- What a reader that takes one line more has read.
use Rattle.std.proofs.Common.{◌≡◌, ℕ, suc, ◌+◌, ◌≤◌, Bool, true, false, not, ◌||◌, is_lt, is_some, pos, List, [], ◌∷◌, ◌++◌, length, filter, All, Option, Some, None, Result, Ok, Err, cond, refl, sym, ap, ◌∙◌, subst, arith, append_assoc, append-nil, true≢false}
use Rattle.std.specs.List.{filter_map, last_or, list_all}
use Rattle.std.proofs.lemmas.List.{length_push}
use Rattle.std.proofs.lemmas.List.Elements.{All-append, All-cons, All-nil, filter_map-append, filter-append}
use Rattle.vt_path.proofs.Lists.{All-middle}
use Rattle.vt_event.specs.Event.{EventView}
use Rattle.vt_frac.specs.Fraction.{Fraction, whole}
use Rattle.vt_frac.specs.Order.{order_of, value_order}
use Rattle.vt_lex.specs.Bytes.{is_space}
use Rattle.vt_session.specs.declared.directive.Deed.{Deed}
use Rattle.vt_session.specs.declared.directive.Deed.TheVariants.{Cue, Set, Stop}
use Rattle.vt_session.specs.declared.fault.SessionFault.{SessionFault}
use Rattle.vt_session.specs.declared.fault.SessionFault.TheVariants.{BadSession, NoMemory}
use Rattle.vt_session.specs.declared.text_part.TextPart.{TextPart}
use Rattle.vt_session.specs.Directives.{Line, PlainLine, VersionLine, AtLine, CueLine, SetLine, StopLine, HasForm}
use Rattle.vt_session.specs.Rules.{Follow, Stands, KeepsVersion, KeepsInputs, KeepsTimes, is_behind_input, is_directive, is_some_input, is_version_2, time_in}
use Rattle.vt_session.specs.Sessions.{SessionView, first_text, inputs_from, later_texts, session_of, text_before_directive, text_part}
use Rattle.vt_session.specs.private.Reading.{input_event, input_line}
use Rattle.vt_session.specs.private.Standing.{Holds, IsLineRead, IsTaken, IsTime, Keeps, MayFollow, OpenView, Standing, StartsSo, closed_with, is_of_version_2, open_texts, texts_from, with_line}
use Rattle.vt_session.proofs.TimeLemmas.{not_below, not_below_zero, same_order}
use Rattle.vt_session.proofs.FormLemmas.{form_one}

-- Lines with one more at the end

more_lines : (what : List Line) (x : Line) (rest : List Line) → (what ++ x ∷ []) ++ rest ≡ what ++ (x ∷ rest)
more_lines what x rest = append_assoc what (x ∷ []) rest

last_push : {A : Type 0} (o : Option A) (xs : List A) (x : A) → last_or o (xs ++ x ∷ []) ≡ Some x
last_push o [] x = refl
last_push o (y ∷ xs) x = last_push (Some y) xs x

behind_directive : (what : List Line) (x : Line) → is_directive x ≡ true → is_behind_input (what ++ x ∷ []) ≡ is_some_input (Some x)
behind_directive what x e =
    ap (λ (xs : List Line). is_some_input (last_or None xs))
    (filter-append is_directive what (x ∷ []) ∙ ap (λ (t : Bool). filter is_directive what ++ cond t (x ∷ []) []) e)
    ∙ ap is_some_input (last_push None (filter is_directive what) x)

behind_plain : (what : List Line) (bytes : List ℕ) → is_behind_input (what ++ PlainLine bytes ∷ []) ≡ is_behind_input what
behind_plain what bytes =
    ap (λ (xs : List Line). is_some_input (last_or None xs))
    (filter-append is_directive what (PlainLine bytes ∷ []) ∙ append-nil (filter is_directive what))

first_tells : (y : Line) (ys zs : List Line) → is_version_2 (y ∷ ys) ≡ is_version_2 (y ∷ zs)
first_tells (PlainLine bytes) ys zs = refl
first_tells VersionLine ys zs = refl
first_tells (AtLine time) ys zs = refl
first_tells (CueLine time path values) ys zs = refl
first_tells (SetLine time path value) ys zs = refl
first_tells (StopLine time name) ys zs = refl

version_kept : (what : List Line) (x : Line) → is_version_2 (x ∷ []) ≡ false → is_version_2 (what ++ x ∷ []) ≡ is_version_2 what
version_kept [] x e = e
version_kept (y ∷ ys) x e = first_tells y (ys ++ x ∷ []) ys

-- Times

NotBelow : Fraction → List Fraction → Type 0
NotBelow time times = All (λ earlier. is_lt (value_order time earlier) ≡ false) times

times_same : (what : List Line) (x : Line) → time_in x ≡ None → filter_map time_in (what ++ x ∷ []) ≡ filter_map time_in what
times_same what x e =
    filter_map-append time_in what (x ∷ [])
    ∙ (ap (λ (o : Option Fraction). filter_map time_in what ++ filter_map (λ (y : Option Fraction). y) (o ∷ [])) e ∙ append-nil (filter_map time_in what))

times_more : (what : List Line) (x : Line) (time : Fraction) → time_in x ≡ Some time → filter_map time_in (what ++ x ∷ []) ≡ filter_map time_in what ++ time ∷ []
times_more what x time e =
    filter_map-append time_in what (x ∷ [])
    ∙ ap (λ (o : Option Fraction). filter_map time_in what ++ filter_map (λ (y : Option Fraction). y) (o ∷ [])) e

follow_same : (last time : Fraction) (what : List Line) (x : Line) → time_in x ≡ None → MayFollow last time what → MayFollow last time (what ++ x ∷ [])
follow_same last time what x e m = record {
  all = λ h. subst (λ (ts : List Fraction). All (λ earlier. is_lt (value_order time earlier) ≡ false) ts) (sym (times_same what x e)) (m.all h);
  only = λ h. m.only (subst (λ (ts : List Fraction). All (λ earlier. is_lt (value_order time earlier) ≡ false) ts) (times_same what x e) h);
}

follow_more : (last new time : Fraction) (what : List Line) (x : Line) → time_in x ≡ Some new → is_lt (value_order new last) ≡ false → MayFollow last time what → MayFollow new time (what ++ x ∷ [])
follow_more last new time what x e kept m = record {
  all = λ h. subst (λ (ts : List Fraction). All (λ earlier. is_lt (value_order time earlier) ≡ false) ts) (sym (times_more what x new e))
      (All-append (λ earlier. is_lt (value_order time earlier) ≡ false) (filter_map time_in what) (new ∷ []) (m.all (not_below last new time kept h))
      (All-cons (λ earlier. is_lt (value_order time earlier) ≡ false) new [] h (All-nil (λ earlier. is_lt (value_order time earlier) ≡ false))));
  only = λ h. All-middle (λ earlier. is_lt (value_order time earlier) ≡ false) (filter_map time_in what) new []
      (subst (λ (ts : List Fraction). All (λ earlier. is_lt (value_order time earlier) ≡ false) ts) (times_more what x new e) h);
}

-- Texts

-- what the texts come to, once a line is read
abbrev pub texts_on : Standing → List Line → List TextPart
texts_on s rest = s.texts ++ (open_texts s.open_text rest ++ later_texts (s.number + 1) rest)

from_more : (what : List Line) (x : Line) (s : Standing) (rest : List Line) → texts_from (what ++ x ∷ []) s rest ≡ texts_on s rest
from_more [] x s rest = refl
from_more (y ∷ what) x s rest = refl

abbrev pub start_view : OpenView
start_view = record { time = record { numer = pos 0; denom = 1 }; first_line = 1; bytes = [] }

from_on : (what : List Line) (s : Standing) (x : Line) (rest : List Line) → Holds what s → first_text (x ∷ rest) ≡ text_part (whole (pos 0)) 1 (x ∷ rest) → texts_from what s (x ∷ rest) ≡ texts_on s (x ∷ rest)
from_on [] s x rest h e =
    let start = h.start in
    let zero_lines : s.number ≡ 0 = h.number in
    ap (λ (part : TextPart). part ∷ later_texts 1 (x ∷ rest)) e
    ∙ sym (ap (λ (n : ℕ). s.texts ++ (open_texts s.open_text (x ∷ rest) ++ later_texts (n + 1) (x ∷ rest))) zero_lines
    ∙ (ap (λ (o : Option OpenView). s.texts ++ (open_texts o (x ∷ rest) ++ later_texts 1 (x ∷ rest))) start.open_text
    ∙ ap (λ (ts : List TextPart). ts ++ (text_part (whole (pos 0)) 1 (x ∷ rest) ∷ later_texts 1 (x ∷ rest))) start.texts))
from_on (y ∷ what) s x rest h e = refl

-- the texts, where what this line adds is known
texts_step : (what : List Line) (s t : Standing) (x : Line) → Holds what s → ((rest : List Line) → first_text (x ∷ rest) ≡ text_part (whole (pos 0)) 1 (x ∷ rest)) → ((rest : List Line) → texts_on s (x ∷ rest) ≡ texts_on t rest)
    → (rest : List Line) → first_text ((what ++ x ∷ []) ++ rest) ∷ later_texts 1 ((what ++ x ∷ []) ++ rest) ≡ texts_from (what ++ x ∷ []) t rest
texts_step what s t x h e step rest =
    ap (λ (ls : List Line). first_text ls ∷ later_texts 1 ls) (more_lines what x rest)
    ∙ (h.texts (x ∷ rest) ∙ (from_on what s x rest h (e rest) ∙ (step rest ∙ sym (from_more what x t rest))))

inputs_step : (what : List Line) (s t : Standing) (x : Line) → Holds what s → ((rest : List Line) → s.inputs ++ inputs_from (length s.inputs + 1) (x ∷ rest) ≡ t.inputs ++ inputs_from (length t.inputs + 1) rest)
    → (rest : List Line) → inputs_from 1 ((what ++ x ∷ []) ++ rest) ≡ t.inputs ++ inputs_from (length t.inputs + 1) rest
inputs_step what s t x h step rest = ap (inputs_from 1) (more_lines what x rest) ∙ (h.inputs (x ∷ rest) ∙ step rest)

started : (what : List Line) (x : Line) (s : Standing) → StartsSo (what ++ x ∷ []) s
started [] x s = tt
started (y ∷ what) x s = tt

-- A plain line

plain_bytes : (o : Option OpenView) (bytes : List ℕ) (rest : List Line) → open_texts o (PlainLine bytes ∷ rest) ≡ open_texts (with_line o bytes) rest
plain_bytes None bytes rest = refl
plain_bytes (Some open_text) bytes rest =
    ap (λ (text : List ℕ). record { time = open_text.time; first_line = open_text.first_line; text = text } ∷ []) (sym (append_assoc open_text.bytes bytes (text_before_directive rest)))

with_line_there : (o : Option OpenView) (bytes : List ℕ) → is_some (with_line o bytes) ≡ is_some o
with_line_there None bytes = refl
with_line_there (Some open_text) bytes = refl

abbrev pub after_plain : Standing → List ℕ → Standing
after_plain s bytes = record {
  number = s.number + 1;
  version_2 = s.version_2;
  last = s.last;
  texts = s.texts;
  open_text = with_line s.open_text bytes;
  inputs = s.inputs;
}

pub plain_holds : (what : List Line) (s : Standing) (bytes : List ℕ) → Holds what s → Holds (what ++ PlainLine bytes ∷ []) (after_plain s bytes)
plain_holds what s bytes h = record {
  number = ap (λ (n : ℕ). n + 1) h.number ∙ sym (length_push what (PlainLine bytes));
  version = h.version ∙ sym (version_kept what (PlainLine bytes) refl);
  behind = behind_plain what bytes ∙ (h.behind ∙ ap not (sym (with_line_there s.open_text bytes)));
  last = h.last;
  times = λ time is. follow_same s.last time what (PlainLine bytes) refl (h.times time is);
  start = started what (PlainLine bytes) (after_plain s bytes);
  texts = texts_step what s (after_plain s bytes) (PlainLine bytes) h (λ rest. refl)
      (λ rest. ap (λ (ts : List TextPart). s.texts ++ (ts ++ later_texts (s.number + 1 + 1) rest)) (plain_bytes s.open_text bytes rest));
  inputs = inputs_step what s (after_plain s bytes) (PlainLine bytes) h (λ rest. refl);
}

pub plain_keeps : (what : List Line) (s : Standing) (bytes : List ℕ) → Holds what s → (is_some s.open_text ≡ false → list_all is_space bytes ≡ true) → Keeps what (PlainLine bytes)
plain_keeps what s bytes h blank = record {
  version = tt;
  inputs = λ behind. blank (closed (is_some s.open_text) (sym behind ∙ h.behind));
  times = λ time e. absurd (let z : None ≡ Some time = e in cc);
}
  where
    closed : (t : Bool) → true ≡ not t → t ≡ false
    closed true e = absurd (true≢false e)
    closed false e = refl

pub plain_breaks : (what : List Line) (s : Standing) (bytes : List ℕ) → Holds what s → is_some s.open_text ≡ false → list_all is_space bytes ≡ false → Keeps what (PlainLine bytes) → ⊥
plain_breaks what s bytes h none filled k = true≢false (sym (k.inputs (h.behind ∙ ap not none)) ∙ filled)

-- The line that makes it version 2

abbrev pub after_version : Standing → Standing
after_version s = record {
  number = 1;
  version_2 = true;
  last = s.last;
  texts = s.texts;
  open_text = Some (record { time = whole (pos 0); first_line = 2; bytes = [] });
  inputs = s.inputs;
}

empty_what : (what : List Line) → 0 ≡ length what → what ≡ []
empty_what [] e = refl
empty_what (x ∷ what) e = absurd (omega arith)

version_holds_at : (s : Standing) → Holds [] s → Holds (VersionLine ∷ []) (after_version s)
version_holds_at s h = record {
  number = refl;
  version = refl;
  behind = refl;
  last = h.last;
  times = λ time is. follow_same s.last time [] VersionLine refl (h.times time is);
  start = tt;
  texts = λ rest. ap (λ (ts : List TextPart). ts ++ (text_part (whole (pos 0)) 2 rest ∷ later_texts 2 rest)) (sym h.start.texts);
  inputs = λ rest. h.inputs (VersionLine ∷ rest);
}

pub version_holds : (what : List Line) (s : Standing) → Holds what s → s.number ≡ 0 → Keeps what VersionLine × Holds (what ++ VersionLine ∷ []) (after_version s)
version_holds [] s h e = (
  record {
    version = refl;
    inputs = tt;
    times = λ time f. absurd (let z : None ≡ Some time = f in cc);
  },
  version_holds_at s h,
)
version_holds (x ∷ what) s h e = absurd (omega (arith, h.number, e))

pub version_breaks : (what : List Line) (s : Standing) → Holds what s → (s.number ≡ 0 → ⊥) → Keeps what VersionLine → ⊥
version_breaks what s h n k = n (h.number ∙ ap length k.version)

-- A line with a time

closed_same : (o : Option OpenView) (lines : List Line) → text_before_directive lines ≡ [] → open_texts o lines ≡ open_texts o []
closed_same None lines e = refl
closed_same (Some open_text) lines e = ap (λ (more : List ℕ). closed_with open_text more ∷ []) e

abbrev KeepsTimesAll : List Line → Fraction → Type 0
KeepsTimesAll what time = All (λ earlier. is_lt (value_order time earlier) ≡ false) (filter_map time_in what)

times_kept : (what : List Line) (s : Standing) (x : Line) (time : Fraction) → Holds what s → time_in x ≡ Some time → IsTime time → is_lt (value_order time s.last) ≡ false → KeepsTimes what x
times_kept what s x time h e is kept other f =
    let z : Some time ≡ Some other = sym e ∙ f in
    let same : time ≡ other = cc in
    subst (KeepsTimesAll what) same ((h.times time is).all kept)

pub times_break : (what : List Line) (s : Standing) (x : Line) (time : Fraction) → Holds what s → time_in x ≡ Some time → IsTime time → is_lt (value_order time s.last) ≡ true → Keeps what x → ⊥
times_break what s x time h e is below k = true≢false (sym below ∙ (h.times time is).only (k.times time e))

-- A line with which a text begins

abbrev pub after_at : Standing → Fraction → Standing
after_at s time = record {
  number = s.number + 1;
  version_2 = s.version_2;
  last = time;
  texts = s.texts ++ open_texts s.open_text [];
  open_text = Some (record { time = time; first_line = s.number + 1 + 1; bytes = [] });
  inputs = s.inputs;
}

pub at_holds : (what : List Line) (s : Standing) (time : Fraction) → Holds what s → IsTime time → is_lt (value_order time s.last) ≡ false → Keeps what (AtLine time) × Holds (what ++ AtLine time ∷ []) (after_at s time)
at_holds what s time h is kept = (
  record { version = tt; inputs = tt; times = times_kept what s (AtLine time) time h refl is kept },
  record {
    number = ap (λ (n : ℕ). n + 1) h.number ∙ sym (length_push what (AtLine time));
    version = h.version ∙ sym (version_kept what (AtLine time) refl);
    behind = behind_directive what (AtLine time) refl;
    last = is;
    times = λ later its. follow_more s.last time later what (AtLine time) refl kept (h.times later its);
    start = started what (AtLine time) (after_at s time);
    texts = texts_step what s (after_at s time) (AtLine time) h (λ rest. refl)
        (λ rest. ap (λ (ts : List TextPart). s.texts ++ (ts ++ (text_part time (s.number + 1 + 1) rest ∷ later_texts (s.number + 1 + 1) rest))) (closed_same s.open_text (AtLine time ∷ rest) refl)
        ∙ sym (append_assoc s.texts (open_texts s.open_text []) (text_part time (s.number + 1 + 1) rest ∷ later_texts (s.number + 1 + 1) rest)));
    inputs = inputs_step what s (after_at s time) (AtLine time) h (λ rest. refl);
  },
)

-- A line with which something is given

abbrev pub after_input : Standing → Fraction → Deed → Standing
after_input s time deed = record {
  number = s.number + 1;
  version_2 = s.version_2;
  last = time;
  texts = s.texts ++ open_texts s.open_text [];
  open_text = None;
  inputs = s.inputs ++ input_event (length s.inputs + 1) time deed ∷ [];
}

-- what is told of each input alike
record IsInputLine (x : Line) (time : Fraction) (deed : Deed) : Type 0 where
  time_there : time_in x ≡ Some time
  directive : is_directive x ≡ true
  input : is_some_input (Some x) ≡ true
  no_version : is_version_2 (x ∷ []) ≡ false
  no_text : (rest : List Line) → text_before_directive (x ∷ rest) ≡ []
  no_later : (n : ℕ) (rest : List Line) → later_texts n (x ∷ rest) ≡ later_texts (n + 1) rest
  first : (rest : List Line) → first_text (x ∷ rest) ≡ text_part (whole (pos 0)) 1 (x ∷ rest)
  event : (n : ℕ) (rest : List Line) → inputs_from n (x ∷ rest) ≡ input_event n time deed ∷ inputs_from (n + 1) rest

input_line_is : (time : Fraction) (deed : Deed) → IsInputLine (input_line time deed) time deed
input_line_is time (Cue path values) = record { time_there = refl; directive = refl; input = refl; no_version = refl; no_text = λ rest. refl; no_later = λ n rest. refl; first = λ rest. refl; event = λ n rest. refl }
input_line_is time (Set path value) = record { time_there = refl; directive = refl; input = refl; no_version = refl; no_text = λ rest. refl; no_later = λ n rest. refl; first = λ rest. refl; event = λ n rest. refl }
input_line_is time (Stop name) = record { time_there = refl; directive = refl; input = refl; no_version = refl; no_text = λ rest. refl; no_later = λ n rest. refl; first = λ rest. refl; event = λ n rest. refl }

input_texts : (s : Standing) (x : Line) (time : Fraction) (deed : Deed) → IsInputLine x time deed → (rest : List Line) → texts_on s (x ∷ rest) ≡ texts_on (after_input s time deed) rest
input_texts s x time deed i rest =
    ap (λ (ts : List TextPart). s.texts ++ (open_texts s.open_text (x ∷ rest) ++ ts)) (i.no_later (s.number + 1) rest)
    ∙ (ap (λ (ts : List TextPart). s.texts ++ (ts ++ later_texts (s.number + 1 + 1) rest)) (closed_same s.open_text (x ∷ rest) (i.no_text rest))
    ∙ sym (append_assoc s.texts (open_texts s.open_text []) (later_texts (s.number + 1 + 1) rest)))

input_inputs : (s : Standing) (x : Line) (time : Fraction) (deed : Deed) → IsInputLine x time deed → (rest : List Line)
    → s.inputs ++ inputs_from (length s.inputs + 1) (x ∷ rest) ≡ (after_input s time deed).inputs ++ inputs_from (length (after_input s time deed).inputs + 1) rest
input_inputs s x time deed i rest =
    let event : EventView = input_event (length s.inputs + 1) time deed in
    ap (λ (es : List EventView). s.inputs ++ es) (i.event (length s.inputs + 1) rest)
    ∙ (sym (append_assoc s.inputs (event ∷ []) (inputs_from (length s.inputs + 1 + 1) rest))
    ∙ ap (λ (n : ℕ). (s.inputs ++ event ∷ []) ++ inputs_from (n + 1) rest) (sym (length_push s.inputs event)))

holds_input : (what : List Line) (s : Standing) (x : Line) (time : Fraction) (deed : Deed) → Holds what s → IsInputLine x time deed → IsTime time → is_lt (value_order time s.last) ≡ false → Holds (what ++ x ∷ []) (after_input s time deed)
holds_input what s x time deed h i is kept = record {
  number = ap (λ (n : ℕ). n + 1) h.number ∙ sym (length_push what x);
  version = h.version ∙ sym (version_kept what x i.no_version);
  behind = behind_directive what x i.directive ∙ i.input;
  last = is;
  times = λ later its. follow_more s.last time later what x i.time_there kept (h.times later its);
  start = started what x (after_input s time deed);
  texts = texts_step what s (after_input s time deed) x h i.first (input_texts s x time deed i);
  inputs = inputs_step what s (after_input s time deed) x h (input_inputs s x time deed i);
}

deed_keeps : (what : List Line) (s : Standing) (time : Fraction) (deed : Deed) → Holds what s → (s.version_2 ≡ false → is_of_version_2 deed ≡ false) → KeepsVersion what (input_line time deed) × KeepsInputs what (input_line time deed)
deed_keeps what s time (Cue path values) h v = (tt, tt)
deed_keeps what s time (Set path value) h v = (sym h.version ∙ two (s.version_2) v, tt) where
  two : (t : Bool) → (t ≡ false → true ≡ false) → t ≡ true
  two true f = refl
  two false f = absurd (true≢false (f refl))
deed_keeps what s time (Stop name) h v = (sym h.version ∙ two (s.version_2) v, tt) where
  two : (t : Bool) → (t ≡ false → true ≡ false) → t ≡ true
  two true f = refl
  two false f = absurd (true≢false (f refl))

pub input_holds : (what : List Line) (s : Standing) (time : Fraction) (deed : Deed) → Holds what s → IsTime time → is_lt (value_order time s.last) ≡ false → (s.version_2 ≡ false → is_of_version_2 deed ≡ false) → Keeps what (input_line time deed) × Holds (what ++ input_line time deed ∷ []) (after_input s time deed)
input_holds what s time deed h is kept v =
    let i = input_line_is time deed in
    let k = deed_keeps what s time deed h v in (
      record { version = k.0; inputs = k.1; times = times_kept what s (input_line time deed) time h i.time_there is kept },
      holds_input what s (input_line time deed) time deed h i is kept,
    )

pub input_below : (what : List Line) (s : Standing) (time : Fraction) (deed : Deed) → Holds what s → IsTime time → is_lt (value_order time s.last) ≡ true → Keeps what (input_line time deed) → ⊥
input_below what s time deed h is below k = times_break what s (input_line time deed) time h (input_line_is time deed).time_there is below k

pub version_wanting : (what : List Line) (s : Standing) (time : Fraction) (deed : Deed) → Holds what s → s.version_2 ≡ false → is_of_version_2 deed ≡ true → Keeps what (input_line time deed) → ⊥
version_wanting what s time (Cue path values) h v d k = true≢false (sym d)
version_wanting what s time (Set path value) h v d k = true≢false (sym (h.version ∙ k.version) ∙ v)
version_wanting what s time (Stop name) h v d k = true≢false (sym (h.version ∙ k.version) ∙ v)

-- The start

pub start_holds : (s : Standing) → s.number ≡ 0 → s.version_2 ≡ false → s.last ≡ whole (pos 0) → s.texts ≡ [] → s.open_text ≡ Some (record { time = whole (pos 0); first_line = 1; bytes = [] }) → s.inputs ≡ [] → IsTime (whole (pos 0)) → Holds [] s
start_holds s number version last texts open_text inputs zero_time = record {
  number = number;
  version = version;
  behind = ap (λ (o : Option OpenView). not (is_some o)) (sym open_text);
  last = subst IsTime (sym last) zero_time;
  times = λ time is. record {
    all = λ h. All-nil (λ earlier. is_lt (value_order time earlier) ≡ false);
    only = λ h. subst (λ (l : Fraction). is_lt (value_order time l) ≡ false) (sym last) (not_below_zero time is.start);
  };
  start = record { texts = texts; open_text = open_text };
  texts = λ rest. refl;
  inputs = λ rest. ap (λ (es : List EventView). es ++ inputs_from (length es + 1) rest) (sym inputs);
}

-- The end

from_end : (what : List Line) (s : Standing) → Holds what s → texts_from what s [] ≡ s.texts ++ open_texts s.open_text []
from_end [] s h =
    sym (ap (λ (o : Option OpenView). s.texts ++ open_texts o []) h.start.open_text ∙ ap (λ (ts : List TextPart). ts ++ (text_part (whole (pos 0)) 1 [] ∷ [])) h.start.texts)
from_end (x ∷ what) s h = ap (λ (ts : List TextPart). s.texts ++ ts) (append-nil (open_texts s.open_text []))

abbrev session_with : List TextPart → List EventView → SessionView
session_with ts es = record { texts = ts; inputs = es }

pub session_at_end : (what : List Line) (s : Standing) → Holds what s → record { texts = s.texts ++ open_texts s.open_text []; inputs = s.inputs } ≡ session_of what
session_at_end what s h =
    let lines : what ++ [] ≡ what = append-nil what in
    let texts : s.texts ++ open_texts s.open_text [] ≡ first_text what ∷ later_texts 1 what =
    sym (from_end what s h) ∙ (sym (h.texts []) ∙ ap (λ (ls : List Line). first_text ls ∷ later_texts 1 ls) lines) in
    let inputs : s.inputs ≡ inputs_from 1 what = sym (append-nil s.inputs) ∙ (sym (h.inputs []) ∙ ap (inputs_from 1) lines) in
    ap (λ (ts : List TextPart). session_with ts s.inputs) texts ∙ ap (session_with (first_text what ∷ later_texts 1 what)) inputs

-- Lines behind lines

pub follow_more_lines : (before : List Line) (lines : List (List ℕ)) (what : List Line) (line : List ℕ) (x : Line) → Follow before lines what → Stands (before ++ what) line x → Follow before (lines ++ line ∷ []) (what ++ x ∷ [])
follow_more_lines before [] [] line x f s = (subst (λ (b : List Line). Stands b line x) (append-nil before) s, tt)
follow_more_lines before [] (y ∷ what) line x f s = absurd f
follow_more_lines before (first ∷ lines) [] line x f s = absurd f
follow_more_lines before (first ∷ lines) (y ∷ what) line x f s =
    (f.0, follow_more_lines (before ++ y ∷ []) lines what line x f.1 (subst (λ (b : List Line). Stands b line x) (sym (append_assoc before (y ∷ []) what)) s))

pub follow_length : (before : List Line) (lines : List (List ℕ)) (what : List Line) → Follow before lines what → length lines ≡ length what
follow_length before [] [] f = refl
follow_length before [] (y ∷ what) f = absurd f
follow_length before (line ∷ lines) [] f = absurd f
follow_length before (line ∷ lines) (y ∷ what) f = ap suc (follow_length (before ++ y ∷ []) lines what f.1)

-- there are no more inputs than lines
few_inputs : (n : ℕ) (what : List Line) → length (inputs_from n what) ≤ length what
few_inputs n [] = omega arith
few_inputs n (PlainLine bytes ∷ what) = omega (arith, few_inputs n what)
few_inputs n (VersionLine ∷ what) = omega (arith, few_inputs n what)
few_inputs n (AtLine time ∷ what) = omega (arith, few_inputs n what)
few_inputs n (CueLine time path values ∷ what) = omega (arith, few_inputs (n + 1) what)
few_inputs n (SetLine time path value ∷ what) = omega (arith, few_inputs (n + 1) what)
few_inputs n (StopLine time name ∷ what) = omega (arith, few_inputs (n + 1) what)

pub inputs_below : (what : List Line) (s : Standing) → Holds what s → length s.inputs ≤ s.number
inputs_below what s h =
    let same : s.inputs ≡ inputs_from 1 (what ++ []) = sym (append-nil s.inputs) ∙ sym (h.inputs []) in
    let few = few_inputs 1 (what ++ []) in
    omega (arith, ap length same, few, h.number, ap length (append-nil what))

-- What a reader takes, by the fields that it is left with

one_of : (a b : Bool) → (a || b) ≡ true → a ≡ false → b ≡ true
one_of true b h e = absurd (true≢false e)
one_of false b h e = h

neither_of : (a b : Bool) → (a || b) ≡ false → (a ≡ false) × (b ≡ false)
neither_of true b h = absurd (true≢false h)
neither_of false b h = (refl, h)

pub plain_taken : (what : List Line) (s : Standing) (bytes : List ℕ) (o : Option OpenView) → Holds what s → (is_some s.open_text || list_all is_space bytes) ≡ true → o ≡ with_line s.open_text bytes
    → Keeps what (PlainLine bytes) × Holds (what ++ PlainLine bytes ∷ []) (record { number = s.number + 1; version_2 = s.version_2; last = s.last; texts = s.texts; open_text = o; inputs = s.inputs })
plain_taken what s bytes o h may e = (
  plain_keeps what s bytes h (one_of (is_some s.open_text) (list_all is_space bytes) may),
  subst (λ (x : Option OpenView). Holds (what ++ PlainLine bytes ∷ []) (record { number = s.number + 1; version_2 = s.version_2; last = s.last; texts = s.texts; open_text = x; inputs = s.inputs })) (sym e) (plain_holds what s bytes h),
)

pub plain_refused : (what : List Line) (s : Standing) (bytes : List ℕ) → Holds what s → (is_some s.open_text || list_all is_space bytes) ≡ false → (s.number + 1 ≡ length what + 1) × (Keeps what (PlainLine bytes) → ⊥)
plain_refused what s bytes h refused =
    let parts = neither_of (is_some s.open_text) (list_all is_space bytes) refused in
    (ap (λ (n : ℕ). n + 1) h.number, plain_breaks what s bytes h parts.0 parts.1)

pub at_taken : (what : List Line) (s : Standing) (time : Fraction) (texts : List TextPart) (o : Option OpenView) → Holds what s → IsTime time → is_lt (order_of time s.last) ≡ false → texts ≡ s.texts ++ open_texts s.open_text [] → o ≡ Some (record { time = time; first_line = s.number + 1 + 1; bytes = [] })
    → Keeps what (AtLine time) × Holds (what ++ AtLine time ∷ []) (record { number = s.number + 1; version_2 = s.version_2; last = time; texts = texts; open_text = o; inputs = s.inputs })
at_taken what s time texts o h is kept e f =
    let below : is_lt (value_order time s.last) ≡ false = ap is_lt (sym (same_order time s.last is.fraction h.last.fraction)) ∙ kept in
    let taken = at_holds what s time h is below in (
      taken.0,
      subst (λ (ts : List TextPart). Holds (what ++ AtLine time ∷ []) (record { number = s.number + 1; version_2 = s.version_2; last = time; texts = ts; open_text = o; inputs = s.inputs })) (sym e)
          (subst (λ (x : Option OpenView). Holds (what ++ AtLine time ∷ []) (record { number = s.number + 1; version_2 = s.version_2; last = time; texts = s.texts ++ open_texts s.open_text []; open_text = x; inputs = s.inputs })) (sym f) taken.1),
    )

pub at_refused : (what : List Line) (s : Standing) (time : Fraction) → Holds what s → IsTime time → is_lt (order_of time s.last) ≡ true → (s.number + 1 ≡ length what + 1) × (Keeps what (AtLine time) → ⊥)
at_refused what s time h is below =
    (ap (λ (n : ℕ). n + 1) h.number, times_break what s (AtLine time) time h refl is (ap is_lt (sym (same_order time s.last is.fraction h.last.fraction)) ∙ below))

pub version_taken : (what : List Line) (s : Standing) (o : Option OpenView) → Holds what s → s.number ≡ 0 → o ≡ Some (record { time = whole (pos 0); first_line = 2; bytes = [] })
    → Keeps what VersionLine × Holds (what ++ VersionLine ∷ []) (record { number = 1; version_2 = true; last = s.last; texts = s.texts; open_text = o; inputs = s.inputs })
version_taken what s o h e f =
    let taken = version_holds what s h e in
    (taken.0, subst (λ (x : Option OpenView). Holds (what ++ VersionLine ∷ []) (record { number = 1; version_2 = true; last = s.last; texts = s.texts; open_text = x; inputs = s.inputs })) (sym f) taken.1)

pub version_refused : (what : List Line) (s : Standing) → Holds what s → (s.number ≡ 0 → ⊥) → (s.number + 1 ≡ length what + 1) × (Keeps what VersionLine → ⊥)
version_refused what s h e = (ap (λ (n : ℕ). n + 1) h.number, version_breaks what s h e)

wants_two : (v d : Bool) → (v || not d) ≡ true → v ≡ false → d ≡ false
wants_two true d h e = absurd (true≢false e)
wants_two false true h e = absurd (true≢false (sym h))
wants_two false false h e = refl

wants_not : (v d : Bool) → (v || not d) ≡ false → (v ≡ false) × (d ≡ true)
wants_not true d h = absurd (true≢false h)
wants_not false true h = (refl, refl)
wants_not false false h = absurd (true≢false h)

pub input_taken : (what : List Line) (s : Standing) (time : Fraction) (deed : Deed) (texts : List TextPart) (o : Option OpenView) (inputs : List EventView) → Holds what s → IsTime time → is_lt (order_of time s.last) ≡ false → (s.version_2 || not (is_of_version_2 deed)) ≡ true
    → texts ≡ s.texts ++ open_texts s.open_text [] → o ≡ None → inputs ≡ s.inputs ++ input_event (length s.inputs + 1) time deed ∷ []
    → Keeps what (input_line time deed) × Holds (what ++ input_line time deed ∷ []) (record { number = s.number + 1; version_2 = s.version_2; last = time; texts = texts; open_text = o; inputs = inputs })
input_taken what s time deed texts o inputs h is kept may e f g =
    let below : is_lt (value_order time s.last) ≡ false = ap is_lt (sym (same_order time s.last is.fraction h.last.fraction)) ∙ kept in
    let taken = input_holds what s time deed h is below (wants_two s.version_2 (is_of_version_2 deed) may) in (
      taken.0,
      subst (λ (ts : List TextPart). Holds (what ++ input_line time deed ∷ []) (record { number = s.number + 1; version_2 = s.version_2; last = time; texts = ts; open_text = o; inputs = inputs })) (sym e)
          (subst (λ (x : Option OpenView). Holds (what ++ input_line time deed ∷ []) (record { number = s.number + 1; version_2 = s.version_2; last = time; texts = s.texts ++ open_texts s.open_text []; open_text = x; inputs = inputs })) (sym f)
          (subst (λ (es : List EventView). Holds (what ++ input_line time deed ∷ []) (record { number = s.number + 1; version_2 = s.version_2; last = time; texts = s.texts ++ open_texts s.open_text []; open_text = None; inputs = es })) (sym g) taken.1)),
    )

pub input_late : (what : List Line) (s : Standing) (time : Fraction) (deed : Deed) → Holds what s → IsTime time → is_lt (order_of time s.last) ≡ true → (s.number + 1 ≡ length what + 1) × (Keeps what (input_line time deed) → ⊥)
input_late what s time deed h is below =
    (ap (λ (n : ℕ). n + 1) h.number, input_below what s time deed h is (ap is_lt (sym (same_order time s.last is.fraction h.last.fraction)) ∙ below))

pub input_refused : (what : List Line) (s : Standing) (time : Fraction) (deed : Deed) → Holds what s → (s.version_2 || not (is_of_version_2 deed)) ≡ false → (s.number + 1 ≡ length what + 1) × (Keeps what (input_line time deed) → ⊥)
input_refused what s time deed h refused =
    let parts = wants_not s.version_2 (is_of_version_2 deed) refused in
    (ap (λ (n : ℕ). n + 1) h.number, version_wanting what s time deed h parts.0 parts.1)

-- a fault that is told
pub taken_bad : (what : List Line) (x : Line) (number : ℕ) (fault : SessionFault) (s : Standing) → fault ≡ BadSession number → (number ≡ length what + 1) × (Keeps what x → ⊥) → IsTaken what x (Err fault) s
taken_bad what x number fault s e h = subst (λ (f : SessionFault). IsTaken what x (Err f) s) (sym e) h

-- what is taken of a line is read of it
keeps_of : (before : List Line) (line : List ℕ) (what : Line) → Stands before line what → Keeps before what
keeps_of before line what s = record { version = s.version; inputs = s.inputs; times = s.times }

pub line_read : (before : List Line) (line : List ℕ) (what : Line) (r : Result Unit SessionFault) (s : Standing) → HasForm what line → IsTaken before what r s → IsLineRead before line r s
line_read before line what (Ok done) s form h = (what, record { form = form; version = h.0.version; inputs = h.0.inputs; times = h.0.times }, h.1)
line_read before line what (Err (BadSession number)) s form h =
    (h.0, λ other stands. h.1 (subst (Keeps before) (form_one other what line stands.form form) (keeps_of before line other stands)))
line_read before line what (Err NoMemory) s form h = tt

pub finished : (what : List Line) (s : Standing) (texts : List TextPart) (inputs : List EventView) → Holds what s → texts ≡ s.texts ++ open_texts s.open_text [] → inputs ≡ s.inputs → record { texts = texts; inputs = inputs } ≡ session_of what
finished what s texts inputs h e f =
    ap (λ (ts : List TextPart). session_with ts inputs) e ∙ (ap (session_with (s.texts ++ open_texts s.open_text [])) f ∙ session_at_end what s h)

pub opened : (time : Fraction) (bytes : List ℕ) → time ≡ whole (pos 0) → bytes ≡ [] → Some (record { time = time; first_line = 1; bytes = bytes }) ≡ Some start_view
opened time bytes e f =
    ap (λ (t : Fraction). Some (record { time = t; first_line = 1; bytes = bytes })) e
    ∙ ap (λ (bs : List ℕ). Some (record { time = whole (pos 0); first_line = 1; bytes = bs })) f
