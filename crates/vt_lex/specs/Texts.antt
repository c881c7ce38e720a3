-- The form of a text and its value. A byte past the end of the bytes counts as 0 here. The project's own.
use Rattle.std.specs.Prelude.{◌≡◌, ℕ, ◌+◌, ◌≤◌, ◌⊎◌, ◌&&◌, ◌==◌, if◌then◌else◌, List, [], ◌∷◌, length, drop, slice_index, Option, Some, None}
use Rattle.vt_lex.specs.declared.texts.Measure.{Measure}
use Rattle.vt_lex.specs.declared.texts.TextUnit.{TextUnit}
use Rattle.vt_lex.specs.declared.texts.TextUnit.TheVariants.{Closing, Byte, Bad}

-- the byte that a backslash and this byte stand for: in both kinds of quotes `\\` and the quote, in double quotes also `\n` and `\t`
abbrev pub escaped : ℕ → ℕ → Option ℕ
escaped quote b =
    if b == 92 then Some 92
    else (if b == quote then Some quote
    else (if quote == 34 && b == 110 then Some 10
    else (if quote == 34 && b == 116 then Some 9
    else None)))

-- an escape of two bytes, or none
abbrev pub escape_unit : Option ℕ → TextUnit
escape_unit None = Bad
escape_unit (Some value) = Byte value 2

-- what stands at the head of the bytes of a text behind its opening quote: the closing quote, a byte of the value with
-- the length of its form, or what no text may hold: a newline or the end, an unknown escape, or `#{` in double quotes
abbrev pub unit_of : ℕ → ℕ → ℕ → TextUnit
unit_of quote b next =
    if b == quote then Closing
    else (if b == 10 then Bad
    else (if b == 92 then escape_unit (escaped quote next)
    else (if quote == 34 && (b == 35 && next == 123) then Bad
    else Byte b 1)))

-- how many bytes the rest of a text's form has, and the rest of its value
pub record Body : Type 0 where
  pub len : ℕ
  pub value : List ℕ

-- one more byte of the value, of a form of len bytes
abbrev pub and_byte : ℕ → ℕ → Option Body → Option Body
and_byte value len None = None
and_byte value len (Some body) = Some (record { len = len + body.len; value = value ∷ body.value })

-- what a unit and what follows it give: one byte on, or two bytes on
abbrev pub with_unit : TextUnit → Option Body → Option Body → Option Body
with_unit Closing one two = Some (record { len = 1; value = [] })
with_unit (Byte value len) one two = and_byte value len (if len == 1 then one else two)
with_unit Bad one two = None

-- the rest of a text behind its opening quote, with the closing quote; none where the text does not end well on its line
abbrev pub body_of : ℕ → List ℕ → Option Body
body_of quote [] = None
body_of quote (b ∷ []) = with_unit (unit_of quote b 0) None None
body_of quote (b ∷ c ∷ bytes) = with_unit (unit_of quote b c) (body_of quote (c ∷ bytes)) (body_of quote bytes)

-- the lengths of the form and of the value
abbrev pub measured : Option Body → Option Measure
measured None = None
measured (Some body) = Some (record { len = body.len; count = length body.value })

-- the value, if there is one
abbrev pub value_of_body : Option Body → List ℕ
value_of_body None = []
value_of_body (Some body) = body.value

-- the value of a text's form
abbrev pub value_of : List ℕ → List ℕ
value_of form = value_of_body (body_of (slice_index form 0) (drop 1 form))

-- The bytes are those of one text: a quote, the forms of at most 4,096 bytes of value, and the quote again.
pub record IsTextForm (form : List ℕ) : Type 0 where
  pub quote : (slice_index form 0 ≡ 34) ⊎ (slice_index form 0 ≡ 39)
  pub body : Body
  pub closes : body_of (slice_index form 0) (drop 1 form) ≡ Some body
  pub ends : 1 + body.len ≡ length form
  pub short : length body.value ≤ 4096
