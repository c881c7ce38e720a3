-- What the calls on notes give is within the limits of the language.
use Rattle.std.specs.Prelude.{◌+ℤ◌, ◌==◌, codes, if◌then◌else◌, is_some, nat_le, nat_lt, ok_or, option_and_then, slice_get}
use Rattle.std.specs.List.{AllByRecursion, list_all}
use Rattle.std.specs.Option.{IfSome, option_map}
use Rattle.std.specs.Result.{IfOk}
use Rattle.std.specs.Char.{is_ascii_digit, to_ascii_lowercase}
use Rattle.std.proofs.Common.{◌≡◌, ℕ, zero, suc, ◌+◌, ◌-◌, ◌*◌, ◌++◌, ◌<◌, ◌≤◌, ℤ, pos, negsuc, unsigned_abs, Bool, true, false, ◌&&◌, IsTrue, List, [], ◌∷◌, length, Option, Some, None, refl, sym, ap, ◌∙◌, arith, length-append}
use Rattle.std.proofs.lemmas.Bool.{false≢true, leb-true, ltb-true}
use Rattle.std.proofs.lemmas.Int.{ints}
use Rattle.std.proofs.lemmas.Result.{IfOk-weaker}
use Rattle.vt_frac.specs.Fraction.{Fraction, IsFraction, whole}
use Rattle.vt_frac.proofs.DecimalLemmas.{both_true, digit_small}
use Rattle.vt_table.specs.Lists.{Table, chord_intervals, chords, list_at, list_of, names_of, scale_steps, scales}
use Rattle.vt_table.specs.Names.{row_of}
use Rattle.vt_table.specs.Notes.{beside, letters, midi_number, note_number, octave_of, pitch_of, shift_of, signs, spelled}
use Rattle.vt_value.specs.declared.arithmetic.ArithOp.TheVariants.{Add}
use Rattle.vt_value.specs.declared.fault.FaultKind.TheVariants.{BadValue, WrongKind}
use Rattle.vt_value.specs.declared.value.Value.{Value, out-Value, out-roll-Value, map-Value}
use Rattle.vt_value.specs.declared.value.Value.TheOpen.{Value-F}
use Rattle.vt_value.specs.declared.value.Value.TheVariants.{Whole, Part, Ring, rolls-Whole, rolls-Part}
use Rattle.vt_value.specs.Arithmetic.{arith_layers, exact_arith, whole_arith}
use Rattle.vt_value.specs.Kinds.{number_layer, number_of}
use Rattle.vt_value.specs.Sizes.{size_layer, size_of, sizes_of}
use Rattle.vt_value.specs.Limits.{WithinLayer, IsWithin, AreWithin}
use Rattle.vt_value.proofs.Layers.{size-layer}
use Rattle.vt_ring.specs.Arguments.{between, whole_argument}
use Rattle.vt_ring.specs.CountCalls.{are_numbers}
use Rattle.vt_ring.specs.NoteCalls.{chord_call, chord_invert_call, climbed, degree_call, first_steps, intervals_above, inverted, note_call, octs_call, raised, scale_call, steps_up, times}
use Rattle.vt_ring.specs.Signatures.{Options, a_note_and_a_symbol, a_note_and_a_whole, a_ring_and_a_whole, a_whole_a_note_and_a_symbol, named_note, note_argument, note_layer, one_of, option_named, symbol_argument, three_of, two_of, whole_or}
use Rattle.vt_ring.proofs.limits.Arguments.{a_ring_and_a_whole_give, between_gives, one_gives, three_give, two_give}
use Rattle.vt_ring.proofs.Elements.{each_append, each_found, each_passes}
use Rattle.vt_ring.proofs.limits.Arithmetic.{as_part_if, as_whole_if, exact_arith_gives, whole_arith_gives}
use Rattle.vt_ring.proofs.limits.Answers.{and_then_any, and_then_gives, cond_gives, ok_or_gives}
use Rattle.vt_ring.proofs.limits.Values.{IsSingle, IsWholeWithin, at_some, here, ring_of_singles, within_part, within_ring, within_whole}

-- a number within the limits
pub record IsNote (value : Value) : Type 0 where
  pub within : IsWithin value
  pub number : IsTrue (is_some (number_of value))

note_whole : (n : ℤ) → IsWholeWithin n → IsNote (Whole n)
note_whole n h = record { within = within_whole n h; number = ap (λ layer. is_some (number_layer layer)) (ap out-Value (sym (rolls-Whole n)) ∙ out-roll-Value (Value-F.Whole n)) }

note_part : (f : Fraction) → IsFraction f → IsNote (Part f)
note_part f h = record { within = within_part f h; number = ap (λ layer. is_some (number_layer layer)) (ap out-Value (sym (rolls-Part f)) ∙ out-roll-Value (Value-F.Part f)) }

single_note : (value : Value) → IsNote value → IsSingle value
single_note value h = record { within = h.within; size = size-layer value ∙ by_layer (out-Value value) h.number }
  where
    by_layer : (layer : Value-F Value) → is_some (number_layer layer) ≡ true → size_layer (map-Value Value ℕ size_of layer) ≡ 1
    by_layer Value-F.Nil e = refl
    by_layer (Value-F.Bool b) e = refl
    by_layer (Value-F.Whole n) e = refl
    by_layer (Value-F.Part f) e = refl
    by_layer (Value-F.Sym name) e = refl
    by_layer (Value-F.Text bytes) e = absurd (false≢true e)
    by_layer (Value-F.Ring items) e = absurd (false≢true e)

notes_within : (notes : List Value) → length notes ≤ 4096 → AllByRecursion IsNote notes → IsWithin (Ring notes)
notes_within notes few h =
    let ring = ring_of_singles notes few (singles notes h) in
    within_ring notes ring.few ring.each
  where
    singles : (notes : List Value) → AllByRecursion IsNote notes → AllByRecursion IsSingle notes
    singles [] h = tt
    singles (note ∷ notes) h = (single_note note h.0, singles notes h.1)

-- The notes of names

-- less than an octave, upwards or downwards
abbrev IsSmall : ℤ → Type 0
IsSmall z = unsigned_abs z < 12

beside_gives : (rows : List (ℕ × ℤ)) (byte : ℕ) → AllByRecursion (λ (row : ℕ × ℤ). IsSmall row.1) rows → IfSome (beside rows byte) IsSmall
beside_gives [] byte h = tt
beside_gives (row ∷ rows) byte h = by_test (byte == row.0) (beside_gives rows byte h.1)
  where
    by_test : (same : Bool) → IfSome (beside rows byte) IsSmall → IfSome (if same then Some row.1 else beside rows byte) IsSmall
    by_test true k = h.0
    by_test false k = k

small_rows : (rows : List (ℕ × ℤ)) → list_all (λ (row : ℕ × ℤ). nat_lt (unsigned_abs row.1) 12) rows ≡ true → AllByRecursion (λ (row : ℕ × ℤ). IsSmall row.1) rows
small_rows rows h = each_passes (λ (row : ℕ × ℤ). IsSmall row.1) (λ (row : ℕ × ℤ). nat_lt (unsigned_abs row.1) 12) (λ row e. ltb-true (unsigned_abs row.1) 12 e) rows h

pitch_gives : (letter : ℕ) → IfSome (pitch_of letter) IsSmall
pitch_gives letter = beside_gives letters (to_ascii_lowercase letter) (small_rows letters refl)

shift_gives : (sign : Option ℕ) → IfSome (shift_of sign) IsSmall
shift_gives None = omega arith
shift_gives (Some sign) = beside_gives signs (to_ascii_lowercase sign) (small_rows signs refl)

octave_gives : (digit : Option ℕ) → IfSome (octave_of digit) (λ octave. octave ≤ 9)
octave_gives None = omega arith
octave_gives (Some digit) = by_test (is_ascii_digit digit) refl
  where
    by_test : (b : Bool) → is_ascii_digit digit ≡ b → IfSome (if b then Some (digit - 48) else None) (λ octave. octave ≤ 9)
    by_test true e = let small = digit_small digit e in omega (arith, small.0, small.1)
    by_test false e = tt

sum_fits : (n : ℕ) (a b : ℤ) → n ≤ 120 → IsSmall a → IsSmall b → IsWholeWithin (pos n +ℤ a +ℤ b)
sum_fits n (pos a) (pos b) h p q = omega (arith, ints)
sum_fits n (pos a) (negsuc b) h p q = omega (arith, ints)
sum_fits n (negsuc a) (pos b) h p q = omega (arith, ints)
sum_fits n (negsuc a) (negsuc b) h p q = omega (arith, ints)

midi_gives : (pitch shift : Option ℤ) (octave : Option ℕ) → IfSome pitch IsSmall → IfSome shift IsSmall → IfSome octave (λ o. o ≤ 9) → IfSome (midi_number pitch shift octave) IsWholeWithin
midi_gives (Some pitch) (Some shift) (Some octave) p s o = sum_fits (12 * (octave + 1)) pitch shift (omega arith) p s
midi_gives (Some pitch) (Some shift) None p s o = tt
midi_gives (Some pitch) None octave p s o = tt
midi_gives None shift octave p s o = tt

spelled_gives : (letter : ℕ) (sign digit : Option ℕ) → IfSome (spelled letter sign digit) IsWholeWithin
spelled_gives letter sign digit = midi_gives (pitch_of letter) (shift_of sign) (octave_of digit) (pitch_gives letter) (shift_gives sign) (octave_gives digit)

number_gives : (name : List ℕ) → IfSome (note_number name) IsWholeWithin
number_gives [] = tt
number_gives (letter ∷ []) = spelled_gives letter None None
number_gives (letter ∷ mark ∷ []) = by_test (is_ascii_digit mark)
  where
    by_test : (b : Bool) → IfSome (if b then spelled letter None (Some mark) else spelled letter (Some mark) None) IsWholeWithin
    by_test true = spelled_gives letter None (Some mark)
    by_test false = spelled_gives letter (Some mark) None
number_gives (letter ∷ sign ∷ digit ∷ []) = spelled_gives letter (Some sign) (Some digit)
number_gives (letter ∷ sign ∷ digit ∷ more ∷ rest) = tt

named_gives : (found : Option ℤ) → IfSome found IsWholeWithin → IfOk (named_note found) IsNote
named_gives (Some n) h = note_whole n h
named_gives None h = tt

-- Arguments

pub note_argument_gives : (value : Value) → IsWithin value → IfOk (note_argument value) (λ note. IfOk note IsNote)
note_argument_gives value h = ok_or_gives (note_layer (out-Value value)) WrongKind (λ note. IfOk note IsNote) (by_layer (out-Value value) (here value h))
  where
    by_layer : (layer : Value-F Value) → WithinLayer layer → IfSome (note_layer layer) (λ note. IfOk note IsNote)
    by_layer Value-F.Nil h = tt
    by_layer (Value-F.Bool b) h = tt
    by_layer (Value-F.Whole n) h = note_whole n h
    by_layer (Value-F.Part f) h = note_part f h
    by_layer (Value-F.Sym name) h = named_gives (note_number name) (number_gives name)
    by_layer (Value-F.Text bytes) h = tt
    by_layer (Value-F.Ring items) h = tt

a_note_and_a_symbol_give : (args : List Value) → AreWithin args → IfOk (a_note_and_a_symbol args) (λ both. IfOk both.0 IsNote)
a_note_and_a_symbol_give args h =
    and_then_gives (two_of args) _ _ (λ both. IfOk both.0 IsNote) (two_give args h) (λ both w.
    and_then_gives (note_argument both.0) _ _ (λ both. IfOk both.0 IsNote) (note_argument_gives both.0 w.0) (λ note k.
    and_then_any (symbol_argument both.1) _ (λ both. IfOk both.0 IsNote) (λ name. k)))

a_note_and_a_whole_give : (args : List Value) → AreWithin args → IfOk (a_note_and_a_whole args) (λ both. IfOk both.0 IsNote)
a_note_and_a_whole_give args h =
    and_then_gives (two_of args) _ _ (λ both. IfOk both.0 IsNote) (two_give args h) (λ both w.
    and_then_gives (note_argument both.0) _ _ (λ both. IfOk both.0 IsNote) (note_argument_gives both.0 w.0) (λ note k.
    and_then_any (whole_argument both.1) _ (λ both. IfOk both.0 IsNote) (λ n. k)))

a_whole_a_note_and_a_symbol_give : (args : List Value) → AreWithin args → IfOk (a_whole_a_note_and_a_symbol args) (λ all. IfOk all.1 IsNote)
a_whole_a_note_and_a_symbol_give args h =
    and_then_gives (three_of args) _ _ (λ all. IfOk all.1 IsNote) (three_give args h) (λ all w.
    and_then_any (whole_argument all.0) _ (λ all. IfOk all.1 IsNote) (λ n.
    and_then_gives (note_argument all.1) _ _ (λ all. IfOk all.1 IsNote) (note_argument_gives all.1 w.1) (λ note k.
    and_then_any (symbol_argument all.2) _ (λ all. IfOk all.1 IsNote) (λ name. k))))

-- Higher notes

raised_gives : (note : Value) (tones : ℕ) → IsNote note → IfOk (raised note tones) IsNote
raised_gives note tones h = by_layers (out-Value note) (out-Value (Whole (pos tones))) h.number
  where
    by_layers : (a b : Value-F Value) → is_some (number_layer a) ≡ true → IfOk (arith_layers Add a b) IsNote
    by_layers Value-F.Nil b e = tt
    by_layers (Value-F.Bool t) b e = tt
    by_layers (Value-F.Whole m) (Value-F.Whole n) e = as_whole_if (whole_arith Add m n) IsNote note_whole (whole_arith_gives Add m n)
    by_layers (Value-F.Whole m) (Value-F.Part g) e = as_part_if (exact_arith Add (whole m) g) IsNote note_part (exact_arith_gives Add (whole m) g)
    by_layers (Value-F.Part f) (Value-F.Whole n) e = as_part_if (exact_arith Add f (whole n)) IsNote note_part (exact_arith_gives Add f (whole n))
    by_layers (Value-F.Part f) (Value-F.Part g) e = as_part_if (exact_arith Add f g) IsNote note_part (exact_arith_gives Add f g)
    by_layers (Value-F.Whole m) _ e = tt
    by_layers (Value-F.Part f) _ e = tt
    by_layers (Value-F.Sym name) b e = tt
    by_layers (Value-F.Text bytes) b e = absurd (false≢true e)
    by_layers (Value-F.Ring items) b e = absurd (false≢true e)

steps_up_give : (note : Value) (steps : List ℕ) → IsNote note → IfOk (steps_up note steps) (λ notes. AllByRecursion IsNote notes × (length notes ≡ suc (length steps)))
steps_up_give note [] h = ((h, tt), refl)
steps_up_give note (step ∷ steps) h =
    and_then_gives (raised note step) _ _ _ (raised_gives note step h) (λ next k.
    and_then_gives (steps_up next steps) _ _ _ (steps_up_give next steps k) (λ notes w.
    ((h, w.0), ap suc w.1)))

climbed_gives : (note : Value) (steps : List ℕ) → IsNote note → IfOk (climbed note steps) IsNote
climbed_gives note [] h = h
climbed_gives note (step ∷ steps) h = and_then_gives (raised note step) _ _ IsNote (raised_gives note step h) (λ next k. climbed_gives next steps k)

-- as many numbers as before
abbrev AreNotes : ℕ → List Value → Type 0
AreNotes count notes = AllByRecursion IsNote notes × (length notes ≡ count)

inverted_gives : (n : ℕ) (notes : List Value) → AllByRecursion IsNote notes → IfOk (inverted n notes) (AreNotes (length notes))
inverted_gives zero notes h = (h, refl)
inverted_gives (suc n) [] h = (tt, refl)
inverted_gives (suc n) (note ∷ notes) h =
    and_then_gives (raised note 12) _ _ _ (raised_gives note 12 h.0) (λ higher k.
    let same : length (notes ++ higher ∷ []) ≡ length (note ∷ notes) = omega (arith, length-append notes (higher ∷ [])) in
    IfOk-weaker (inverted n (notes ++ higher ∷ [])) _ _ (λ list w. (w.0, w.1 ∙ same)) (inverted_gives n (notes ++ higher ∷ []) (each_append IsNote notes (higher ∷ []) h.1 (k, tt))))

intervals_give : (note : Value) (intervals : List ℕ) → IsNote note → IfOk (intervals_above note intervals) (λ notes. AllByRecursion IsNote notes × (length notes ≡ length intervals))
intervals_give note [] h = (tt, refl)
intervals_give note (interval ∷ intervals) h =
    and_then_gives (raised note interval) _ _ _ (raised_gives note interval h) (λ first k.
    and_then_gives (intervals_above note intervals) _ _ _ (intervals_give note intervals h) (λ notes w.
    ((k, w.0), ap suc w.1)))

length-times : (n : ℕ) (steps : List ℕ) → length steps ≤ 12 → length (times n steps) ≤ n * 12
length-times zero steps h = omega arith
length-times (suc n) steps h = omega (arith, length-append steps (times n steps), length-times n steps h)

-- at most 12 numbers in each row of a table
abbrev IsShort : Table → Type 0
IsShort table = AllByRecursion (λ (row : List ℕ × List ℕ). length row.1 ≤ 12) table

short_rows : (table : Table) → list_all (λ (row : List ℕ × List ℕ). nat_le (length row.1) 12) table ≡ true → IsShort table
short_rows table h = each_passes (λ (row : List ℕ × List ℕ). length row.1 ≤ 12) (λ (row : List ℕ × List ℕ). nat_le (length row.1) 12) (λ row e. leb-true (length row.1) 12 e) table h

scales_short : IsShort scales
unfolding scales
scales_short = short_rows scales refl

chords_short : IsShort chords
unfolding chords
chords_short = short_rows chords refl

list_if : (P : List ℕ → Type 0) (table : Table) (name : List ℕ) → AllByRecursion (λ (row : List ℕ × List ℕ). P row.1) table → IfSome (list_of table name) P
list_if P table name h = by_row (row_of (names_of table) name)
  where
    of_row : (found : Option (List ℕ × List ℕ)) → IfSome found (λ row. P row.1) → IfSome (option_map (λ (row : List ℕ × List ℕ). row.1) found) P
    of_row (Some row) k = k
    of_row None k = tt

    by_row : (row : Option ℕ) → IfSome (option_and_then (list_at table) row) P
    by_row (Some row) = of_row (slice_get table row) (each_found (λ (row : List ℕ × List ℕ). P row.1) table row h)
    by_row None = tt

list_gives : (table : Table) (name : List ℕ) → IsShort table → IfSome (list_of table name) (λ numbers. length numbers ≤ 12)
list_gives table name h = list_if (λ numbers. length numbers ≤ 12) table name h

scales_step : AllByRecursion (λ (row : List ℕ × List ℕ). 0 < length row.1) scales
unfolding scales
scales_step = each_passes (λ (row : List ℕ × List ℕ). 0 < length row.1) (λ (row : List ℕ × List ℕ). nat_lt 0 (length row.1)) (λ row e. ltb-true 0 (length row.1) e) scales refl

-- each scale has a step
pub scale_has_steps : (name steps : List ℕ) → scale_steps name ≡ Some steps → 0 < length steps
scale_has_steps name steps e = at_some (λ numbers. 0 < length numbers) (scale_steps name) steps e (list_if (λ numbers. 0 < length numbers) scales name scales_step)

-- The calls

pub note_gives : (args : List Value) → AreWithin args → IfOk (note_call args) IsWithin
unfolding note_call
note_gives args h =
    and_then_gives (one_of args) _ _ IsWithin (one_gives args h) (λ v w.
    and_then_gives (note_argument v) _ _ IsWithin (note_argument_gives v w) (λ note k.
    IfOk-weaker note IsNote IsWithin (λ value n. n.within) k))

pub scale_gives : (args : List Value) (options : Options) → AreWithin args → IfOk (scale_call args options) IsWithin
unfolding scale_call
scale_gives args options h =
    and_then_gives (a_note_and_a_symbol args) _ _ IsWithin (a_note_and_a_symbol_give args h) (λ both w.
    and_then_any (whole_or (pos 1) (option_named (codes "num_octaves") options)) _ IsWithin (λ number.
    and_then_gives both.0 _ _ IsWithin w (λ tonic note.
    and_then_gives (ok_or (scale_steps both.1) BadValue) _ _ IsWithin (ok_or_gives (scale_steps both.1) BadValue _ (list_gives scales both.1 scales_short)) (λ steps few.
    and_then_gives (between 1 16 number) _ _ IsWithin (between_gives 1 16 number) (λ octaves range.
    and_then_gives (steps_up tonic (times octaves steps)) _ _ IsWithin (steps_up_give tonic (times octaves steps) note) (λ notes all.
    notes_within notes (omega (arith, all.1, length-times octaves steps few, range.1)) all.0))))))

pub chord_gives : (args : List Value) → AreWithin args → IfOk (chord_call args) IsWithin
unfolding chord_call
chord_gives args h =
    and_then_gives (a_note_and_a_symbol args) _ _ IsWithin (a_note_and_a_symbol_give args h) (λ both w.
    and_then_gives both.0 _ _ IsWithin w (λ tonic note.
    and_then_gives (ok_or (chord_intervals both.1) BadValue) _ _ IsWithin (ok_or_gives (chord_intervals both.1) BadValue _ (list_gives chords both.1 chords_short)) (λ intervals few.
    and_then_gives (intervals_above tonic intervals) _ _ IsWithin (intervals_give tonic intervals note) (λ notes all.
    notes_within notes (omega (arith, all.1, few)) all.0))))

pub octs_gives : (args : List Value) → AreWithin args → IfOk (octs_call args) IsWithin
unfolding octs_call
octs_gives args h =
    and_then_gives (a_note_and_a_whole args) _ _ IsWithin (a_note_and_a_whole_give args h) (λ both w.
    and_then_gives both.0 _ _ IsWithin w (λ tonic note.
    and_then_gives (between 1 32 both.1) _ _ IsWithin (between_gives 1 32 both.1) (λ count range.
    and_then_gives (steps_up tonic (times (count - 1) (12 ∷ []))) _ _ IsWithin (steps_up_give tonic (times (count - 1) (12 ∷ [])) note) (λ notes all.
    notes_within notes (omega (arith, all.1, length-times (count - 1) (12 ∷ []) (omega arith), range.1)) all.0))))

pub degree_gives : (args : List Value) → AreWithin args → IfOk (degree_call args) IsWithin
unfolding degree_call
degree_gives args h =
    and_then_gives (a_whole_a_note_and_a_symbol args) _ _ IsWithin (a_whole_a_note_and_a_symbol_give args h) (λ all w.
    and_then_any (between 1 64 all.0) _ IsWithin (λ n.
    and_then_gives all.1 _ _ IsWithin w (λ tonic note.
    and_then_any (ok_or (scale_steps all.2) BadValue) _ IsWithin (λ steps.
    IfOk-weaker (climbed tonic (first_steps (n - 1) steps)) IsNote IsWithin (λ value k. k.within) (climbed_gives tonic (first_steps (n - 1) steps) note)))))

-- numbers within the limits
notes_of : (items : List Value) → are_numbers items ≡ true → AreWithin items → AllByRecursion IsNote items
notes_of [] e h = tt
notes_of (item ∷ items) e h =
    let both = both_true (is_some (number_of item)) (are_numbers items) e in
    (record { within = h.0; number = both.0 }, notes_of items both.1 h.1)

few_items : (count size : ℕ) → (nat_le count 4096 && nat_le (1 + size) 65536) ≡ true → count ≤ 4096
few_items count size e = leb-true count 4096 ((both_true (nat_le count 4096) (nat_le (1 + size) 65536) e).0)

pub chord_invert_gives : (args : List Value) → AreWithin args → IfOk (chord_invert_call args) IsWithin
unfolding chord_invert_call
chord_invert_gives args h =
    and_then_gives (a_ring_and_a_whole args) _ _ IsWithin (a_ring_and_a_whole_give args h) (λ both w.
    cond_gives (are_numbers both.0) _ WrongKind IsWithin (λ e.
    and_then_any (between 0 64 both.1) _ IsWithin (λ n.
    and_then_gives (inverted n both.0) _ _ IsWithin (inverted_gives n both.0 (notes_of both.0 e w.0.each)) (λ notes all.
    notes_within notes (omega (arith, all.1, few_items (length both.0) (sizes_of both.0) w.0.few)) all.0))))
