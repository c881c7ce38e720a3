-- What the functions that read one line answer.
use Rattle.std.specs.Prelude.{◌≡◌, ℕ, ◌+◌, ◌<◌, ◌==◌, ◌&&◌, nat_le, Bool, true, false, if◌then◌else◌, IsTrue, List, [], ◌∷◌, ◌++◌, length, take, drop, map, codes, Option, Some, None}
use Rattle.std.specs.Borrow.{Bor}
use Rattle.std.specs.List.{list_all, prefix_len}
use Rattle.std.specs.Str.{bytes_eq}
use Rattle.vt_frac.specs.Fraction.{Fraction}
use Rattle.vt_frac.specs.Names.{is_symbol_name}
use Rattle.vt_lex.specs.Bytes.{is_blank}
use Rattle.vt_lex.specs.Texts.{Body, body_of}
use Rattle.vt_event.specs.Event.{EventView}
use Rattle.vt_event.specs.EventsByKind.{cue_event, ended_event, set_event}
use Rattle.vt_event.specs.Orderly.{input_place}
use Rattle.vt_path.specs.declared.inner_path.InnerKind.TheVariants.{Stop as StopKind}
use Rattle.vt_path.specs.Inner.{inner_of}
use Rattle.vt_path.proofs.PathDecided.{path_of}
use Rattle.vt_value.specs.declared.value.Value.{Value}
use Rattle.vt_value.specs.declared.value.Value.TheVariants.{Ring}
use Rattle.vt_value.specs.Arithmetic.{are_within}
use Rattle.vt_session.specs.declared.directive.Deed.{Deed}
use Rattle.vt_session.specs.declared.directive.Deed.TheVariants.{Cue, Set, Stop}
use Rattle.vt_session.specs.declared.directive.Directive.{Directive}
use Rattle.vt_session.specs.declared.directive.Directive.TheVariants.{Version, At, Input}
use Rattle.vt_session.specs.declared.words.Next.{Next}
use Rattle.vt_session.specs.declared.words.Next.TheVariants.{End, Word, Bad}
use Rattle.vt_session.specs.Directives.{Line, VersionLine, AtLine, CueLine, SetLine, StopLine, HasForm}
use Rattle.vt_session.specs.Given.{given_of}
use Rattle.vt_session.specs.Times.{time_of}
use Rattle.vt_session.specs.Words.{AreWords, IsWord, is_bare_byte}

-- the bytes that are lent
abbrev pub bytes_of : List (Bor (List ℕ)) → List (List ℕ)
bytes_of texts = map (λ (text : Bor (List ℕ)). text.now) texts

abbrev pub quoted_size : Option Body → Option ℕ
quoted_size None = None
quoted_size (Some body) = Some (1 + body.len)

-- how long the word is that these bytes begin with, whatever follows it: a text in double quotes, or the bytes before the next blank or quote
abbrev pub word_size : List ℕ → Option ℕ
word_size [] = None
word_size (first ∷ rest) = if first == 34 then quoted_size (body_of 34 rest) else Some (prefix_len is_bare_byte (first ∷ rest))

-- a word may end before these bytes: they begin with a blank, or there are none
abbrev pub ends_word : List ℕ → Bool
ends_word [] = true
ends_word (b ∷ bytes) = is_blank b

-- blanks, one at least, then this word, and then this rest, which ends it
pub record IsNextWord (word rest bytes : List ℕ) : Type 0 where
  pub gap : List ℕ
  pub some : 0 < length gap
  pub blank : IsTrue (list_all is_blank gap)
  pub word_form : IsWord word
  pub whole : bytes ≡ gap ++ word ++ rest
  pub ends : IsTrue (ends_word rest)

-- the bytes are no words
abbrev pub AreNoWords : List ℕ → Type 0
AreNoWords bytes = (words : List (List ℕ)) → AreWords words bytes → ⊥

-- what stands at the head of the bytes
abbrev pub IsNext : List ℕ → Next → Type 0
IsNext bytes End = IsTrue (list_all is_blank bytes)
IsNext bytes (Word word rest) = IsNextWord word.now rest.now bytes
IsNext bytes Bad = AreNoWords bytes

-- the word of this length and the rest, if that ends it
abbrev pub IsWordOf : List ℕ → ℕ → Next → Type 0
IsWordOf form len End = ⊥
IsWordOf form len (Word word rest) = (word.now ≡ take len form) × (rest.now ≡ drop len form) × IsTrue (ends_word (drop len form))
IsWordOf form len Bad = ends_word (drop len form) ≡ false

-- a text ends where its bytes end, which stand behind its first quote, and has at most 4,096 bytes of value
abbrev pub is_text_by : ℕ → Option Body → Bool
is_text_by len None = false
is_text_by len (Some body) = body.len == len && nat_le (length body.value) 4096

abbrev pub is_text : List ℕ → Bool
is_text form = is_text_by (length form) (body_of 34 form)

-- the line that a directive is
abbrev pub input_line : Fraction → Deed → Line
input_line time (Cue path values) = CueLine time path values
input_line time (Set path value) = SetLine time path value
input_line time (Stop name) = StopLine time name

abbrev pub line_of : Directive → Line
line_of Version = VersionLine
line_of (At time) = AtLine time
line_of (Input time deed) = input_line time deed

abbrev pub line_in : Option Directive → Option Line
line_in None = None
line_in (Some directive) = Some (line_of directive)

-- the line that `%session` and these words are
abbrev pub told_version : List (List ℕ) → Option Line
told_version (word ∷ []) = if bytes_eq word (codes "2") then Some VersionLine else None
told_version _ = None

abbrev pub at_line : Option Fraction → Option Line
at_line (Some time) = Some (AtLine time)
at_line None = None

-- the line that `%at` and these words are
abbrev pub told_at : List (List ℕ) → Option Line
told_at (when ∷ []) = at_line (time_of when)
told_at _ = None

abbrev pub and_value : Option Value → Option (List Value) → Option (List Value)
and_value (Some value) (Some values) = Some (value ∷ values)
and_value (Some value) None = None
and_value None values = None

-- the values that words are, if each is one
abbrev pub values_of : List (List ℕ) → Option (List Value)
values_of [] = Some []
values_of (word ∷ words) = and_value (given_of word) (values_of words)

abbrev pub cue_line : Option Fraction → Option (List (List ℕ)) → Option (List Value) → Option Line
cue_line (Some time) (Some path) (Some values) = if are_within values then Some (CueLine time path values) else None
cue_line (Some time) (Some path) None = None
cue_line (Some time) None values = None
cue_line None path values = None

-- the line that `%cue` and these words are
abbrev pub told_cue : List (List ℕ) → Option Line
told_cue (when ∷ path ∷ given) = cue_line (time_of when) (path_of path) (values_of given)
told_cue _ = None

abbrev pub set_line : Option Fraction → Option (List (List ℕ)) → Option Value → Option Line
set_line (Some time) (Some path) (Some value) = Some (SetLine time path value)
set_line (Some time) (Some path) None = None
set_line (Some time) None value = None
set_line None path value = None

-- the line that `%set` and these words are
abbrev pub told_set : List (List ℕ) → Option Line
told_set (when ∷ path ∷ given ∷ []) = set_line (time_of when) (path_of path) (given_of given)
told_set _ = None

-- the name of a symbol that is written with its colon
abbrev pub name_of : List ℕ → Option (List ℕ)
name_of [] = None
name_of (first ∷ rest) = if first == 58 && is_symbol_name rest then Some rest else None

abbrev pub stop_line : Option Fraction → Option (List ℕ) → Option Line
stop_line (Some time) (Some name) = Some (StopLine time name)
stop_line (Some time) None = None
stop_line None name = None

-- the line that `%stop` and these words are
abbrev pub told_stop : List (List ℕ) → Option Line
told_stop (when ∷ name ∷ []) = stop_line (time_of when) (name_of name)
told_stop _ = None

-- the line that a name of a directive and these words are
unfoldable pub told : List ℕ → List (List ℕ) → Option Line
told name words =
    if bytes_eq name (codes "%session") then told_version words
    else (if bytes_eq name (codes "%at") then told_at words
    else (if bytes_eq name (codes "%cue") then told_cue words
    else (if bytes_eq name (codes "%set") then told_set words
    else (if bytes_eq name (codes "%stop") then told_stop words
    else None))))

-- what is read of a line
abbrev pub IsRead : List ℕ → Option Line → Type 0
IsRead line None = (what : Line) → HasForm what line → ⊥
IsRead line (Some what) = HasForm what line

-- the event of an input with this number
abbrev pub input_event : ℕ → Fraction → Deed → EventView
input_event number time (Cue path values) = cue_event (input_place time number) path (Ring values)
input_event number time (Set path value) = set_event (input_place time number) path value
input_event number time (Stop name) = ended_event (input_place time number) (inner_of StopKind name)
