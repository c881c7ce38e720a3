-- What a line is by its own bytes: one thing, which is told by the name and the words of a directive.
use Rattle.std.proofs.Common.{◌≡◌, ℕ, suc, ◌+◌, ◌≤◌, Bool, true, false, not, ◌&&◌, List, [], ◌∷◌, ◌++◌, length, take, drop, map, codes, if◌then◌else◌, Option, Some, None, Result, Ok, Err, IfOk, IsTrue, cond, eqb, refl, sym, ap, ◌∙◌, subst, arith, true≢false}
use Rattle.std.specs.List.{list_all, prefix_len}
use Rattle.std.specs.Str.{bytes_eq}
use Rattle.std.proofs.lemmas.Slice.Eq.{bytes_eq-Decides}
use Rattle.std.proofs.lemmas.Bool.{eqb-true}
use Rattle.std.proofs.lemmas.List.{take-append-drop, take_at, drop_at, length-drop, length-take-le}
use Rattle.std.proofs.lemmas.List.Sums.{prefix_len-le-length}
use Rattle.vt_frac.specs.Fraction.{Fraction}
use Rattle.vt_frac.specs.Names.{begins, is_symbol_name}
use Rattle.vt_frac.proofs.DecimalLemmas.{both_true}
use Rattle.vt_lex.specs.Bytes.{is_blank}
use Rattle.vt_path.specs.Path.{path_text}
use Rattle.vt_path.proofs.PathDecided.{path_of}
use Rattle.vt_path.proofs.DecidedLemmas.{path_where_written}
use Rattle.vt_value.specs.declared.value.Value.{Value}
use Rattle.vt_value.specs.Arithmetic.{are_within}
use Rattle.vt_session.specs.Directives.{Line, PlainLine, VersionLine, AtLine, CueLine, SetLine, StopLine, HasForm, IsAtLine, IsCueLine, IsSetLine, IsStopLine, is_percent}
use Rattle.vt_session.specs.Given.{given_of}
use Rattle.vt_session.specs.Lines.{content_of, is_newline}
use Rattle.vt_session.specs.Times.{time_of}
use Rattle.vt_session.specs.Words.{AreWords, IsDirective}
use Rattle.vt_session.specs.private.Reading.{IsRead, and_value, at_line, cue_line, ends_word, name_of, set_line, stop_line, told, told_at, told_cue, told_set, told_stop, told_version, values_of}
use Rattle.vt_session.proofs.WordLemmas.{Stops, prefix_whole, words_end, words_one}

abbrev is_name_byte : ℕ → Bool
is_name_byte byte = not (is_blank byte)

-- Values

pub all_given : (words : List (List ℕ)) (values : List Value) → map given_of words ≡ map Some values → values_of words ≡ Some values
all_given [] [] e = refl
all_given [] (value ∷ values) e = absurd (let z : ◌≡◌ {A = List (Option Value)} [] (Some value ∷ map Some values) = e in cc)
all_given (word ∷ words) [] e = absurd (let z : ◌≡◌ {A = List (Option Value)} (given_of word ∷ map given_of words) [] = e in cc)
all_given (word ∷ words) (value ∷ values) e =
    let z : ◌≡◌ {A = List (Option Value)} (given_of word ∷ map given_of words) (Some value ∷ map Some values) = e in
    let first : given_of word ≡ Some value = cc in
    let more : map given_of words ≡ map Some values = cc in
    ap (λ (o : Option Value). and_value o (values_of words)) first ∙ ap (and_value (Some value)) (all_given words values more)

and_value_is : (o : Option Value) (os : Option (List Value)) (values : List Value) → and_value o os ≡ Some values → (first : Value) × (rest : List Value) × (o ≡ Some first) × (os ≡ Some rest) × (values ≡ first ∷ rest)
and_value_is None os values e = absurd (let z : None ≡ Some values = e in cc)
and_value_is (Some v) None values e = absurd (let z : None ≡ Some values = e in cc)
and_value_is (Some v) (Some vs) values e = (v, vs, refl, refl, let z : Some (v ∷ vs) ≡ Some values = e in let y : values ≡ v ∷ vs = cc in y)

pub given_all : (words : List (List ℕ)) (values : List Value) → values_of words ≡ Some values → map given_of words ≡ map Some values
given_all [] values e = let z : ◌≡◌ {A = Option (List Value)} (Some []) (Some values) = e in let same : [] ≡ values = cc in ap (map Some) same
given_all (word ∷ words) values e =
    let p = and_value_is (given_of word) (values_of words) values e in
    ap (λ (o : Option Value). o ∷ map given_of words) p.2
    ∙ (ap (λ (os : List (Option Value)). Some p.0 ∷ os) (given_all words p.1 p.3)
    ∙ sym (ap (map Some) p.4))

-- Names of directives

pub content_short : (line : List ℕ) → length (content_of line) ≤ length line
content_short line = omega (arith, length-take-le (prefix_len (λ x. not (is_newline x)) line) line (prefix_len-le-length (λ x. not (is_newline x)) line), prefix_len-le-length (λ x. not (is_newline x)) line)

-- a line with this content begins as the content does
pub content_begins : (line : List ℕ) (b : ℕ) (rest : List ℕ) → content_of line ≡ b ∷ rest → (more : List ℕ) × (line ≡ b ∷ more)
content_begins [] b rest e = absurd (let z : ◌≡◌ {A = List ℕ} [] (b ∷ rest) = e in cc)
content_begins (byte ∷ bytes) b rest e = go (is_newline byte) e where
  go : (t : Bool) → take (cond (not t) (1 + prefix_len (λ x. not (is_newline x)) bytes) 0) (byte ∷ bytes) ≡ b ∷ rest → (more : List ℕ) × (byte ∷ bytes ≡ b ∷ more)
  go true f = absurd (let z : ◌≡◌ {A = List ℕ} [] (b ∷ rest) = f in cc)
  go false f =
      let one : 1 + prefix_len (λ x. not (is_newline x)) bytes ≡ suc (prefix_len (λ x. not (is_newline x)) bytes) = omega arith in
      let z : byte ∷ take (prefix_len (λ x. not (is_newline x)) bytes) bytes ≡ b ∷ rest = ap (λ (n : ℕ). take n (byte ∷ bytes)) (sym one) ∙ f in
      let same : byte ≡ b = cc in
      (bytes, ap (λ (x : ℕ). x ∷ bytes) same)

percent_begins : (line : List ℕ) (rest : List ℕ) → content_of line ≡ 37 ∷ rest → begins is_percent line ≡ true
percent_begins line rest e = let m = content_begins line 37 rest e in ap (begins is_percent) m.1

-- a name without blanks, behind which words stand, is all that stands before the first blank
name_stops : (rest : List ℕ) → ends_word rest ≡ true → Stops is_name_byte rest
name_stops [] e = tt
name_stops (b ∷ bytes) e = ap not e

pub name_sized : (name rest : List ℕ) (words : List (List ℕ)) → list_all is_name_byte name ≡ true → AreWords words rest → prefix_len is_name_byte (name ++ rest) ≡ length name
name_sized name rest words h w = prefix_whole is_name_byte name rest h (name_stops rest (words_end words rest w))

-- a directive by its parts: the name, and the words that tell what it is
pub record HasParts (what : Line) (line : List ℕ) : Type 0 where
  pub name : List ℕ
  pub words : List (List ℕ)
  pub rest : List ℕ
  pub whole : content_of line ≡ name ++ rest
  pub words_after : AreWords words rest
  pub no_blank : list_all is_name_byte name ≡ true
  pub is_told : told name words ≡ Some what

-- two lists of bytes that are the same, and two that differ at the place k
pub same_bytes : (xs ys : List ℕ) → xs ≡ ys → bytes_eq xs ys ≡ true
same_bytes xs ys e = (bytes_eq-Decides xs ys).1 e

two_word : told_version (codes "2" ∷ []) ≡ Some VersionLine
two_word = refl

-- what each name tells
told_session : (words : List (List ℕ)) → told (codes "%session") words ≡ told_version words
unfolding told
told_session words = refl

told_at_name : (words : List (List ℕ)) → told (codes "%at") words ≡ told_at words
unfolding told
told_at_name words = refl

told_cue_name : (words : List (List ℕ)) → told (codes "%cue") words ≡ told_cue words
unfolding told
told_cue_name words = refl

told_set_name : (words : List (List ℕ)) → told (codes "%set") words ≡ told_set words
unfolding told
told_set_name words = refl

told_stop_name : (words : List (List ℕ)) → told (codes "%stop") words ≡ told_stop words
unfolding told
told_stop_name words = refl

parts_of : (what : Line) (line name : List ℕ) (words : List (List ℕ)) → list_all is_name_byte name ≡ true → IsDirective name words line → told name words ≡ Some what → HasParts what line
parts_of what line name words h d e = record {
  name = name;
  words = words;
  rest = d.rest;
  whole = d.whole;
  words_after = d.words_after;
  no_blank = h;
  is_told = e;
}

cue_by : (time : Fraction) (path : List (List ℕ)) (values : List Value) (o : Option Fraction) (p : Option (List (List ℕ))) (vs : Option (List Value)) → o ≡ Some time → p ≡ Some path → vs ≡ Some values → are_within values ≡ true → cue_line o p vs ≡ Some (CueLine time path values)
cue_by time path values o p vs e f g within =
    ap (λ (x : Option Fraction). cue_line x p vs) e
    ∙ (ap (λ (x : Option (List (List ℕ))). cue_line (Some time) x vs) f
    ∙ (ap (λ (x : Option (List Value)). cue_line (Some time) (Some path) x) g
    ∙ ap (λ (t : Bool). cond t (Some (CueLine time path values)) None) within))

cue_parts : (time : Fraction) (path : List (List ℕ)) (values : List Value) (line : List ℕ) → IsCueLine time path values line → HasParts (CueLine time path values) line
cue_parts time path values line h =
    parts_of (CueLine time path values) line (codes "%cue") (h.when ∷ path_text path ∷ h.given) refl h.directive
    (told_cue_name (h.when ∷ path_text path ∷ h.given)
    ∙ cue_by time path values (time_of h.when) (path_of (path_text path)) (values_of h.given) h.spelled ((path_where_written (path_text path) path).1 (h.path_form, refl)) (all_given h.given values h.each) h.within)

set_by : (time : Fraction) (path : List (List ℕ)) (value : Value) (o : Option Fraction) (p : Option (List (List ℕ))) (v : Option Value) → o ≡ Some time → p ≡ Some path → v ≡ Some value → set_line o p v ≡ Some (SetLine time path value)
set_by time path value o p v e f g =
    ap (λ (x : Option Fraction). set_line x p v) e
    ∙ (ap (λ (x : Option (List (List ℕ))). set_line (Some time) x v) f
    ∙ ap (λ (x : Option Value). set_line (Some time) (Some path) x) g)

set_parts : (time : Fraction) (path : List (List ℕ)) (value : Value) (line : List ℕ) → IsSetLine time path value line → HasParts (SetLine time path value) line
set_parts time path value line h =
    parts_of (SetLine time path value) line (codes "%set") (h.when ∷ path_text path ∷ h.given ∷ []) refl h.directive
    (told_set_name (h.when ∷ path_text path ∷ h.given ∷ [])
    ∙ set_by time path value (time_of h.when) (path_of (path_text path)) (given_of h.given) h.spelled ((path_where_written (path_text path) path).1 (h.path_form, refl)) h.one)

stop_parts : (time : Fraction) (name line : List ℕ) → IsStopLine time name line → HasParts (StopLine time name) line
stop_parts time name line h =
    parts_of (StopLine time name) line (codes "%stop") (h.when ∷ (58 ∷ name) ∷ []) refl h.directive
    (told_stop_name (h.when ∷ (58 ∷ name) ∷ [])
    ∙ (ap (λ (x : Option Fraction). stop_line x (name_of (58 ∷ name))) h.spelled
    ∙ ap (λ (t : Bool). stop_line (Some time) (cond t (Some name) None)) h.symbol))

at_parts : (time : Fraction) (line : List ℕ) → IsAtLine time line → HasParts (AtLine time) line
at_parts time line h =
    parts_of (AtLine time) line (codes "%at") (h.when ∷ []) refl h.directive
    (told_at_name (h.when ∷ []) ∙ ap at_line h.spelled)

-- a line that begins with `%` has parts, whatever it is
pub has_parts : (what : Line) (line : List ℕ) → begins is_percent line ≡ true → HasForm what line → HasParts what line
has_parts (PlainLine bytes) line begun h = absurd (true≢false (sym begun ∙ h.plain))
has_parts VersionLine line begun h = parts_of VersionLine line (codes "%session") (codes "2" ∷ []) refl h (told_session (codes "2" ∷ []) ∙ two_word)
has_parts (AtLine time) line begun h = at_parts time line h
has_parts (CueLine time path values) line begun h = cue_parts time path values line h
has_parts (SetLine time path value) line begun h = set_parts time path value line h
has_parts (StopLine time name) line begun h = stop_parts time name line h

-- and what has the form of a directive begins with `%`
pub plain_or_percent : (what : Line) (line : List ℕ) → begins is_percent line ≡ false → HasForm what line → what ≡ PlainLine line
plain_or_percent (PlainLine bytes) line plain h = ap PlainLine h.same
plain_or_percent VersionLine line plain h = absurd (true≢false (sym (percent_begins line (drop 1 (codes "%session") ++ h.rest) h.whole) ∙ plain))
plain_or_percent (AtLine time) line plain h = absurd (true≢false (sym (percent_begins line (drop 1 (codes "%at") ++ h.directive.rest) h.directive.whole) ∙ plain))
plain_or_percent (CueLine time path values) line plain h = absurd (true≢false (sym (percent_begins line (drop 1 (codes "%cue") ++ h.directive.rest) h.directive.whole) ∙ plain))
plain_or_percent (SetLine time path value) line plain h = absurd (true≢false (sym (percent_begins line (drop 1 (codes "%set") ++ h.directive.rest) h.directive.whole) ∙ plain))
plain_or_percent (StopLine time name) line plain h = absurd (true≢false (sym (percent_begins line (drop 1 (codes "%stop") ++ h.directive.rest) h.directive.whole) ∙ plain))

-- the parts of a line are told by its content
pub record IsParted (line name rest : List ℕ) (words : List (List ℕ)) : Type 0 where
  pub name_is : name ≡ take (prefix_len is_name_byte (content_of line)) (content_of line)
  pub rest_is : rest ≡ drop (prefix_len is_name_byte (content_of line)) (content_of line)
  pub words_are : AreWords words rest

parted : (what : Line) (line : List ℕ) (p : HasParts what line) → IsParted line p.name p.rest p.words
parted what line p =
    let len : prefix_len is_name_byte (content_of line) ≡ length p.name = ap (prefix_len is_name_byte) p.whole ∙ name_sized p.name p.rest p.words p.no_blank p.words_after in
    record {
      name_is = sym (ap (λ (n : ℕ). take n (content_of line)) len ∙ (ap (take (length p.name)) p.whole ∙ take_at p.name p.rest (length p.name) refl));
      rest_is = sym (ap (λ (n : ℕ). drop n (content_of line)) len ∙ (ap (drop (length p.name)) p.whole ∙ drop_at p.name p.rest (length p.name) refl));
      words_are = p.words_after;
    }

-- the same name and words tell one thing
pub told_once : (what : Line) (line name rest : List ℕ) (words : List (List ℕ)) → HasParts what line → IsParted line name rest words → told name words ≡ Some what
told_once what line name rest words p d =
    let q = parted what line p in
    let names : p.name ≡ name = q.name_is ∙ sym d.name_is in
    let rests : p.rest ≡ rest = q.rest_is ∙ sym d.rest_is in
    let same : p.words ≡ words = words_one p.words words rest (subst (λ (r : List ℕ). AreWords p.words r) rests p.words_after) d.words_are in
    sym (ap (λ (n : List ℕ). told n p.words) names ∙ ap (told name) same) ∙ p.is_told

-- a line is one thing
pub form_one : (a b : Line) (line : List ℕ) → HasForm a line → HasForm b line → a ≡ b
form_one a b line f g = go (begins is_percent line) refl where
  go : (t : Bool) → begins is_percent line ≡ t → a ≡ b
  go false e = plain_or_percent a line e f ∙ sym (plain_or_percent b line e g)
  go true e =
      let q = has_parts b line e g in
      let z : Some a ≡ Some b = sym (told_once a line q.name q.rest q.words (has_parts a line e f) (parted b line q)) ∙ q.is_told in
      let same : a ≡ b = cc in same

-- What is told has its form

from_version : (line : List ℕ) (words : List (List ℕ)) (what : Line) → IsDirective (codes "%session") words line → told_version words ≡ Some what → HasForm what line
from_version line [] what d e = absurd (let z : None ≡ Some what = e in cc)
from_version line (word ∷ other ∷ words) what d e = absurd (let z : None ≡ Some what = e in cc)
from_version line (word ∷ []) what d e = go (bytes_eq word (codes "2")) refl e where
  go : (t : Bool) → bytes_eq word (codes "2") ≡ t → cond t (Some VersionLine) None ≡ Some what → HasForm what line
  go false t f = absurd (let z : None ≡ Some what = f in cc)
  go true t f =
      let same : VersionLine ≡ what = cc in
      let two : word ≡ codes "2" = (bytes_eq-Decides word (codes "2")).0 t in
      subst (λ (w : Line). HasForm w line) same (subst (λ (w : List ℕ). IsDirective (codes "%session") (w ∷ []) line) two d)

from_at : (line : List ℕ) (words : List (List ℕ)) (what : Line) → IsDirective (codes "%at") words line → told_at words ≡ Some what → HasForm what line
from_at line [] what d e = absurd (let z : None ≡ Some what = e in cc)
from_at line (when ∷ other ∷ words) what d e = absurd (let z : None ≡ Some what = e in cc)
from_at line (when ∷ []) what d e = go (time_of when) refl e where
  go : (o : Option Fraction) → time_of when ≡ o → at_line o ≡ Some what → HasForm what line
  go None s f = absurd (let z : None ≡ Some what = f in cc)
  go (Some time) s f =
      let same : AtLine time ≡ what = cc in
      let form : HasForm (AtLine time) line = record { when = when; directive = d; spelled = s } in
      subst (λ (w : Line). HasForm w line) same form

from_cue_by : (line when path_word : List ℕ) (given : List (List ℕ)) (what : Line) (o : Option Fraction) (p : Option (List (List ℕ))) (vs : Option (List Value)) → IsDirective (codes "%cue") (when ∷ path_word ∷ given) line → time_of when ≡ o → path_of path_word ≡ p → values_of given ≡ vs → cue_line o p vs ≡ Some what → HasForm what line
from_cue_by line when path_word given what None p vs d s q g e = absurd (let z : None ≡ Some what = e in cc)
from_cue_by line when path_word given what (Some time) None vs d s q g e = absurd (let z : None ≡ Some what = e in cc)
from_cue_by line when path_word given what (Some time) (Some path) None d s q g e = absurd (let z : None ≡ Some what = e in cc)
from_cue_by line when path_word given what (Some time) (Some path) (Some values) d s q g e = go (are_within values) refl e where
  go : (t : Bool) → are_within values ≡ t → cond t (Some (CueLine time path values)) None ≡ Some what → HasForm what line
  go false t f = absurd (let z : None ≡ Some what = f in cc)
  go true t f =
      let same : CueLine time path values ≡ what = cc in
      let written = (path_where_written path_word path).0 q in
      let form : HasForm (CueLine time path values) line = record {
        when = when;
        given = given;
        directive = subst (λ (w : List ℕ). IsDirective (codes "%cue") (when ∷ w ∷ given) line) written.1 d;
        spelled = s;
        path_form = written.0;
        each = given_all given values g;
        within = t;
      } in
      subst (λ (w : Line). HasForm w line) same form

from_cue : (line : List ℕ) (words : List (List ℕ)) (what : Line) → IsDirective (codes "%cue") words line → told_cue words ≡ Some what → HasForm what line
from_cue line [] what d e = absurd (let z : None ≡ Some what = e in cc)
from_cue line (when ∷ []) what d e = absurd (let z : None ≡ Some what = e in cc)
from_cue line (when ∷ path_word ∷ given) what d e = from_cue_by line when path_word given what (time_of when) (path_of path_word) (values_of given) d refl refl refl e

from_set_by : (line when path_word given : List ℕ) (what : Line) (o : Option Fraction) (p : Option (List (List ℕ))) (v : Option Value) → IsDirective (codes "%set") (when ∷ path_word ∷ given ∷ []) line → time_of when ≡ o → path_of path_word ≡ p → given_of given ≡ v → set_line o p v ≡ Some what → HasForm what line
from_set_by line when path_word given what None p v d s q g e = absurd (let z : None ≡ Some what = e in cc)
from_set_by line when path_word given what (Some time) None v d s q g e = absurd (let z : None ≡ Some what = e in cc)
from_set_by line when path_word given what (Some time) (Some path) None d s q g e = absurd (let z : None ≡ Some what = e in cc)
from_set_by line when path_word given what (Some time) (Some path) (Some value) d s q g e =
    let same : SetLine time path value ≡ what = cc in
    let written = (path_where_written path_word path).0 q in
    let form : HasForm (SetLine time path value) line = record {
      when = when;
      given = given;
      directive = subst (λ (w : List ℕ). IsDirective (codes "%set") (when ∷ w ∷ given ∷ []) line) written.1 d;
      spelled = s;
      path_form = written.0;
      one = g;
    } in
    subst (λ (w : Line). HasForm w line) same form

from_set : (line : List ℕ) (words : List (List ℕ)) (what : Line) → IsDirective (codes "%set") words line → told_set words ≡ Some what → HasForm what line
from_set line [] what d e = absurd (let z : None ≡ Some what = e in cc)
from_set line (when ∷ []) what d e = absurd (let z : None ≡ Some what = e in cc)
from_set line (when ∷ path_word ∷ []) what d e = absurd (let z : None ≡ Some what = e in cc)
from_set line (when ∷ path_word ∷ given ∷ other ∷ words) what d e = absurd (let z : None ≡ Some what = e in cc)
from_set line (when ∷ path_word ∷ given ∷ []) what d e = from_set_by line when path_word given what (time_of when) (path_of path_word) (given_of given) d refl refl refl e

-- the name of a symbol as it is written
pub record IsNamed (word name : List ℕ) : Type 0 where
  pub written : word ≡ 58 ∷ name
  pub symbol : IsTrue (is_symbol_name name)

pub named : (word name : List ℕ) → name_of word ≡ Some name → IsNamed word name
named [] name e = absurd (let z : None ≡ Some name = e in cc)
named (first ∷ rest) name e = go (eqb first 58 && is_symbol_name rest) refl e where
  go : (t : Bool) → (eqb first 58 && is_symbol_name rest) ≡ t → cond t (Some rest) None ≡ Some name → IsNamed (first ∷ rest) name
  go false t f = absurd (let z : None ≡ Some name = f in cc)
  go true t f =
      let same : rest ≡ name = cc in
      let parts = both_true (eqb first 58) (is_symbol_name rest) t in
      record {
        written = ap (λ (x : ℕ). x ∷ rest) (eqb-true first 58 parts.0) ∙ ap (λ (xs : List ℕ). 58 ∷ xs) same;
        symbol = subst (λ (n : List ℕ). IsTrue (is_symbol_name n)) same parts.1;
      }

from_stop_by : (line when name_word : List ℕ) (what : Line) (o : Option Fraction) (n : Option (List ℕ)) → IsDirective (codes "%stop") (when ∷ name_word ∷ []) line → time_of when ≡ o → name_of name_word ≡ n → stop_line o n ≡ Some what → HasForm what line
from_stop_by line when name_word what None n d s q e = absurd (let z : None ≡ Some what = e in cc)
from_stop_by line when name_word what (Some time) None d s q e = absurd (let z : None ≡ Some what = e in cc)
from_stop_by line when name_word what (Some time) (Some name) d s q e =
    let same : StopLine time name ≡ what = cc in
    let n = named name_word name q in
    let form : HasForm (StopLine time name) line = record {
      when = when;
      directive = subst (λ (w : List ℕ). IsDirective (codes "%stop") (when ∷ w ∷ []) line) n.written d;
      spelled = s;
      symbol = n.symbol;
    } in
    subst (λ (w : Line). HasForm w line) same form

from_stop : (line : List ℕ) (words : List (List ℕ)) (what : Line) → IsDirective (codes "%stop") words line → told_stop words ≡ Some what → HasForm what line
from_stop line [] what d e = absurd (let z : None ≡ Some what = e in cc)
from_stop line (when ∷ []) what d e = absurd (let z : None ≡ Some what = e in cc)
from_stop line (when ∷ name_word ∷ other ∷ words) what d e = absurd (let z : None ≡ Some what = e in cc)
from_stop line (when ∷ name_word ∷ []) what d e = from_stop_by line when name_word what (time_of when) (name_of name_word) d refl refl e

module _ (line name : List ℕ) (words : List (List ℕ)) (what : Line) (d : IsDirective name words line) where
  -- one name, or what the other names tell
  by_name : (own : List ℕ) (told_own others : Option Line) → (IsDirective own words line → told_own ≡ Some what → HasForm what line) → (others ≡ Some what → HasForm what line) → (if bytes_eq name own then told_own else others) ≡ Some what → HasForm what line
  by_name own told_own others f g = go (bytes_eq name own) refl where
    go : (t : Bool) → bytes_eq name own ≡ t → cond t told_own others ≡ Some what → HasForm what line
    go false t e = g e
    go true t e = f (subst (λ (n : List ℕ). IsDirective n words line) ((bytes_eq-Decides name own).0 t) d) e

  pub told_form : told name words ≡ Some what → HasForm what line
  unfolding told
  told_form =
      by_name (codes "%session") (told_version words) _ (from_version line words what)
      (by_name (codes "%at") (told_at words) _ (from_at line words what)
      (by_name (codes "%cue") (told_cue words) _ (from_cue line words what)
      (by_name (codes "%set") (told_set words) _ (from_set line words what)
      (by_name (codes "%stop") (told_stop words) None (from_stop line words what)
      (λ (e : None ≡ Some what). absurd (let z : None ≡ Some what = e in cc))))))

-- what is read of a line that begins with `%`
pub read_told : (line name rest : List ℕ) (words : List (List ℕ)) (o : Option Line) → begins is_percent line ≡ true → content_of line ≡ name ++ rest → IsParted line name rest words → o ≡ told name words → IsRead line o
read_told line name rest words None begun whole p e = λ what form. absurd (let z : None ≡ Some what = e ∙ told_once what line name rest words (has_parts what line begun form) p in cc)
read_told line name rest words (Some what) begun whole p e =
    told_form line name words what (record { rest = rest; whole = whole; words_after = p.words_are }) (sym e)

pub read_none : (line rest : List ℕ) → begins is_percent line ≡ true → rest ≡ drop (prefix_len is_name_byte (content_of line)) (content_of line) → ((words : List (List ℕ)) → AreWords words rest → ⊥) → IsRead line None
read_none line rest begun e none what form =
    let p = has_parts what line begun form in
    let q = parted what line p in
    none p.words (subst (λ (r : List ℕ). AreWords p.words r) (q.rest_is ∙ sym e) p.words_after)

-- values that are read, and then those of the rest
abbrev pub behind_values : List Value → Option (List Value) → Option (List Value)
behind_values values None = None
behind_values values (Some more) = Some (values ++ more)

-- the parts of a line, as they are cut off
module _ (line bytes name rest : List ℕ) (n : ℕ) (is : bytes ≡ content_of line) (longest : n ≡ prefix_len is_name_byte bytes) (front : name ≡ take n bytes) (back : rest ≡ drop n bytes) where
  cut_place : n ≡ prefix_len is_name_byte (content_of line)
  cut_place = longest ∙ ap (prefix_len is_name_byte) is

  rest_cut : rest ≡ drop (prefix_len is_name_byte (content_of line)) (content_of line)
  rest_cut = back ∙ (ap (drop n) is ∙ ap (λ (k : ℕ). drop k (content_of line)) cut_place)

  name_cut : name ≡ take (prefix_len is_name_byte (content_of line)) (content_of line)
  name_cut = front ∙ (ap (take n) is ∙ ap (λ (k : ℕ). take k (content_of line)) cut_place)

  whole_cut : content_of line ≡ name ++ rest
  whole_cut = sym (ap (λ (xs : List ℕ). xs ++ rest) front ∙ (ap (λ (xs : List ℕ). take n bytes ++ xs) back ∙ (take-append-drop n bytes ∙ is)))

  pub read_some_cut : (words : List (List ℕ)) (o : Option Line) → begins is_percent line ≡ true → AreWords words rest → o ≡ told name words → IsRead line o
  read_some_cut words o begun h e = read_told line name rest words o begun whole_cut (record { name_is = name_cut; rest_is = rest_cut; words_are = h }) e

  pub read_none_cut : begins is_percent line ≡ true → ((words : List (List ℕ)) → AreWords words rest → ⊥) → IsRead line None
  read_none_cut begun none = read_none line rest begun rest_cut none

  pub rest_short : length rest ≤ length line
  rest_short = omega (arith, ap length back, length-drop n bytes, ap length is, content_short line)

pub if_ok : {T E : Type 0} (r : Result T E) (P Q : T → Type 0) → IfOk r P → ((x : T) → P x → Q x) → IfOk r Q
if_ok (Ok x) P Q h f = f x h
if_ok (Err e) P Q h f = tt
