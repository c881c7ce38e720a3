-- Inversions of a chord, by whole octaves.
use Rattle.std.specs.Prelude.{is_some, nat_lt}
use Rattle.std.proofs.Common.{◌≡◌, ℕ, zero, suc, ◌+◌, ◌*◌, ◌/◌, ◌%◌, ◌^◌, ◌<◌, ℤ, pos, ◌+ℤ◌, unsigned_abs, Bool, true, false, cond, List, [], ◌∷◌, ◌++◌, length, map, take, drop, Result, Ok, Err, refl, sym, ap, subst, ◌∙◌, arith, append_assoc, div-add-mod', length-drop, mod-lt, suc-mul, take-append-drop}
use Rattle.std.proofs.lemmas.Bool.{and_from, and_parts, false≢true}
use Rattle.std.proofs.lemmas.List.{append-nil, length-take-le}
use Rattle.vt_frac.specs.declared.fault.FracFault.TheVariants.{Overflow as PartOverflow}
use Rattle.vt_frac.specs.Arithmetic.{sum_of}
use Rattle.vt_frac.specs.Fraction.{Fraction, fits, fitted, whole}
use Rattle.vt_value.specs.declared.arithmetic.ArithOp.TheVariants.{Add}
use Rattle.vt_value.specs.declared.fault.FaultKind.{FaultKind}
use Rattle.vt_value.specs.declared.fault.FaultKind.TheVariants.{Overflow, WrongKind}
use Rattle.vt_value.specs.declared.value.Value.{Value, out-Value, out-roll-Value}
use Rattle.vt_value.specs.declared.value.Value.TheOpen.{Value-F}
use Rattle.vt_value.specs.declared.value.Value.TheVariants.{Whole, Part, rolls-Whole, rolls-Part}
use Rattle.vt_value.specs.Arithmetic.{arith_layers, as_part, as_whole, fitting}
use Rattle.vt_value.specs.Kinds.{number_layer, number_of}
use Rattle.vt_ring.specs.Answers.{and_then, all_of}
use Rattle.vt_ring.specs.CountCalls.{are_numbers}
use Rattle.vt_ring.specs.NoteCalls.{climbed, inverted, raised, times}
use Rattle.vt_prim.specs.private.Inverting.{all_up, joined, moved_behind, octaves_up}

-- What arithmetic on numbers answers: a number, or overflow and no other fault

abbrev IsSound : Result Value FaultKind → Type 0
IsSound (Ok value) = is_some (number_of value) ≡ true
IsSound (Err kind) = kind ≡ Overflow

abbrev AreSound : ℕ → Result (List Value) FaultKind → Type 0
AreSound count (Ok values) = (are_numbers values ≡ true) × (length values ≡ count)
AreSound count (Err kind) = kind ≡ Overflow

-- for each number
abbrev Sound : (Value → Result Value FaultKind) → Type 0
Sound f = (value : Value) → is_some (number_of value) ≡ true → IsSound (f value)

out_whole : (n : ℤ) → out-Value (Whole n) ≡ Value-F.Whole n
out_whole n = ap out-Value (sym (rolls-Whole n)) ∙ out-roll-Value (Value-F.Whole n)

out_part : (f : Fraction) → out-Value (Part f) ≡ Value-F.Part f
out_part f = ap out-Value (sym (rolls-Part f)) ∙ out-roll-Value (Value-F.Part f)

sound_whole : (z : ℤ) → IsSound (as_whole (fitting z))
sound_whole z = by_test (nat_lt (unsigned_abs z) (2 ^ 63))
  where
    by_test : (b : Bool) → IsSound (as_whole (cond b (Ok z) (Err Overflow)))
    by_test true = ap (λ (layer : Value-F Value). is_some (number_layer layer)) (out_whole z)
    by_test false = refl

sound_part : (f : Fraction) → IsSound (as_part (fitted f))
unfolding fitted
sound_part f = by_test (fits f)
  where
    by_test : (b : Bool) → IsSound (as_part (cond b (Ok f) (Err PartOverflow)))
    by_test true = ap (λ (layer : Value-F Value). is_some (number_layer layer)) (out_part f)
    by_test false = refl

raised_sound : (tones : ℕ) → Sound (λ note. raised note tones)
raised_sound tones value h = subst (λ (b : Value-F Value). IsSound (arith_layers Add (out-Value value) b)) (sym (out_whole (pos tones))) (by_layer (out-Value value) h)
  where
    by_layer : (a : Value-F Value) → is_some (number_layer a) ≡ true → IsSound (arith_layers Add a (Value-F.Whole (pos tones)))
    by_layer Value-F.Nil e = absurd (false≢true e)
    by_layer (Value-F.Bool b) e = absurd (false≢true e)
    by_layer (Value-F.Whole m) e = sound_whole (m +ℤ pos tones)
    by_layer (Value-F.Part f) e = sound_part (sum_of f (whole (pos tones)))
    by_layer (Value-F.Sym name) e = absurd (false≢true e)
    by_layer (Value-F.Text bytes) e = absurd (false≢true e)
    by_layer (Value-F.Ring items) e = absurd (false≢true e)

climbed_sound : (steps : List ℕ) → Sound (λ note. climbed note steps)
climbed_sound [] value h = h
climbed_sound (step ∷ steps) value h = go (raised value step) (raised_sound step value h) (climbed_sound steps)
  where
    go : (first : Result Value FaultKind) → IsSound first → Sound (λ note. climbed note steps) → IsSound (and_then first (λ next. climbed next steps))
    go (Ok next) k later = later next k
    go (Err kind) k later = k

-- For each of a list an answer

all_sound : (f : Value → Result Value FaultKind) → Sound f → (values : List Value) → are_numbers values ≡ true → AreSound (length values) (all_of (map f values))
all_sound f sound [] h = (refl, refl)
all_sound f sound (value ∷ values) h =
    let both = and_parts (is_some (number_of value)) (are_numbers values) h in
    go (f value) (all_of (map f values)) (sound value both.0) (all_sound f sound values both.1)
  where
    go : (first : Result Value FaultKind) (rest : Result (List Value) FaultKind) → IsSound first → AreSound (length values) rest → AreSound (length (value ∷ values)) (and_then first (λ u. and_then rest (λ us. Ok (u ∷ us))))
    go (Ok u) (Ok us) a b = (and_from (is_some (number_of u)) (are_numbers us) a b.0, ap suc b.1)
    go (Ok u) (Err kind) a b = b
    go (Err kind) rest a b = a

-- two functions that agree on numbers
all_alike : (f g : Value → Result Value FaultKind) → ((value : Value) → is_some (number_of value) ≡ true → f value ≡ g value) → (values : List Value) → are_numbers values ≡ true → all_of (map f values) ≡ all_of (map g values)
all_alike f g same [] h = refl
all_alike f g same (value ∷ values) h =
    let both = and_parts (is_some (number_of value)) (are_numbers values) h in
    ap (λ (r : Result Value FaultKind). all_of (r ∷ map f values)) (same value both.0)
    ∙ go (g value) (all_alike f g same values both.1)
  where
    go : (first : Result Value FaultKind) → all_of (map f values) ≡ all_of (map g values) → all_of (first ∷ map f values) ≡ all_of (first ∷ map g values)
    go (Ok u) e = ap (λ (r : Result (List Value) FaultKind). let made : Result (List Value) FaultKind = and_then r (λ us. Ok (u ∷ us)) in made) e
    go (Err kind) e = refl

same_fault : (j k : FaultKind) → j ≡ Overflow → k ≡ Overflow → (let a : Result (List Value) FaultKind = Err j in a ≡ Err k)
same_fault j k e f = ap (λ (kind : FaultKind). let made : Result (List Value) FaultKind = Err kind in made) (e ∙ sym f)

-- one function for all of them, and then another, or both for each of them
two_ways : (f g : Value → Result Value FaultKind) → Sound f → Sound g → (values : List Value) → are_numbers values ≡ true
    → all_of (map (λ value. and_then (f value) g) values) ≡ and_then (all_of (map f values)) (λ us. all_of (map g us))
two_ways f g s t [] h = refl
two_ways f g s t (value ∷ values) h =
    let both = and_parts (is_some (number_of value)) (are_numbers values) h in
    go (f value) (all_of (map f values)) (all_of (map (λ v. and_then (f v) g) values)) (s value both.0) (all_sound f s values both.1) (two_ways f g s t values both.1)
  where
    stop : (first : Result Value FaultKind) (kind : FaultKind) → IsSound first → kind ≡ Overflow → (let rest : Result (List Value) FaultKind = Err kind in and_then first (λ w. and_then rest (λ ws. Ok (w ∷ ws))) ≡ Err kind)
    stop (Ok w) kind a b = refl
    stop (Err other) kind a b = same_fault other kind a b

    go : (first : Result Value FaultKind) (all each : Result (List Value) FaultKind) → IsSound first → AreSound (length values) all → each ≡ and_then all (λ us. all_of (map g us))
        → and_then (and_then first g) (λ w. and_then each (λ ws. Ok (w ∷ ws))) ≡ and_then (and_then first (λ u. and_then all (λ us. Ok (u ∷ us)))) (λ us. all_of (map g us))
    go (Ok u) (Ok us) each a b e = ap (λ (r : Result (List Value) FaultKind). and_then (g u) (λ w. and_then r (λ ws. Ok (w ∷ ws)))) e
    go (Ok u) (Err kind) each a b e = ap (λ (r : Result (List Value) FaultKind). and_then (g u) (λ w. and_then r (λ ws. Ok (w ∷ ws)))) e ∙ stop (g u) kind (t u a) b
    go (Err kind) all each a b e = refl

-- Octaves

abbrev octave : Value → Result Value FaultKind
octave note = raised note 12

abbrev lifted : ℕ → Value → Result Value FaultKind
lifted n note = climbed note (times n (12 ∷ []))

lifted_more : (n : ℕ) (values : List Value) → are_numbers values ≡ true → all_of (map (lifted (suc n)) values) ≡ and_then (all_of (map octave values)) (λ us. all_of (map (lifted n) us))
lifted_more n values h = two_ways octave (lifted n) (raised_sound 12) (climbed_sound (times n (12 ∷ []))) values h

lifted_none : (values : List Value) → all_of (map (lifted zero) values) ≡ Ok values
lifted_none [] = refl
lifted_none (value ∷ values) = ap (λ (r : Result (List Value) FaultKind). let made : Result (List Value) FaultKind = and_then r (λ us. Ok (value ∷ us)) in made) (lifted_none values)

lifted_once : (values : List Value) → are_numbers values ≡ true → all_of (map (lifted (suc zero)) values) ≡ all_of (map octave values)
lifted_once values h = all_alike (lifted (suc zero)) octave (λ value k. by_answer (octave value)) values h
  where
    by_answer : (r : Result Value FaultKind) → and_then r (λ next. Ok next) ≡ r
    by_answer (Ok next) = refl
    by_answer (Err kind) = refl

lifted_checked : (n : ℕ) (values : List Value) → are_numbers values ≡ true → all_up n values ≡ all_of (map (lifted n) values)
lifted_checked n values h = all_alike (octaves_up n) (lifted n) (λ value k. ap (λ (b : Bool). let note : Result Value FaultKind = cond b (Ok value) (Err WrongKind) in and_then note (lifted n)) k) values h

-- Inversions

-- as many inversions as there are notes in front raise these
turned : (front back : List Value) (m n : ℕ) → n ≡ length front + m → inverted n (front ++ back) ≡ and_then (all_of (map octave front)) (λ high. inverted m (back ++ high))
turned [] back m n e = let same : n ≡ m = omega arith in ap (λ (k : ℕ). inverted k back) same ∙ ap (inverted m) (sym (append-nil back))
turned (note ∷ front) back m n e =
    let more : n ≡ suc (length front + m) = omega arith in
    ap (λ (k : ℕ). inverted k ((note ∷ front) ++ back)) more
    ∙ go (octave note) (λ higher. ap (inverted (length front + m)) (append_assoc front back (higher ∷ [])) ∙ turned front (back ++ (higher ∷ [])) m (length front + m) refl)
  where
    inside : (higher : Value) (rest : Result (List Value) FaultKind) → and_then rest (λ high. inverted m ((back ++ (higher ∷ [])) ++ high)) ≡ and_then (and_then rest (λ high. Ok (higher ∷ high))) (λ high. inverted m (back ++ high))
    inside higher (Ok high) = ap (inverted m) (append_assoc back (higher ∷ []) high)
    inside higher (Err kind) = refl

    go : (first : Result Value FaultKind) → ((higher : Value) → inverted (length front + m) ((front ++ back) ++ (higher ∷ [])) ≡ and_then (all_of (map octave front)) (λ high. inverted m ((back ++ (higher ∷ [])) ++ high)))
        → and_then first (λ higher. inverted (length front + m) ((front ++ back) ++ (higher ∷ []))) ≡ and_then (and_then first (λ higher. and_then (all_of (map octave front)) (λ high. Ok (higher ∷ high)))) (λ high. inverted m (back ++ high))
    go (Ok higher) each = each higher ∙ inside higher (all_of (map octave front))
    go (Err kind) each = refl

-- what both turns come to
both_turns : (a b : ℕ) (moved stayed : Result (List Value) FaultKind) (first : List Value → Result (List Value) FaultKind) (second : List Value → List Value → Result (List Value) FaultKind) (low high : List Value → Result (List Value) FaultKind)
    → AreSound a moved → AreSound b stayed
    → ((xs : List Value) → first xs ≡ and_then stayed (second xs))
    → ((xs ys : List Value) → are_numbers xs ≡ true → length xs ≡ a → are_numbers ys ≡ true → length ys ≡ b → second xs ys ≡ joined (low ys) (high xs))
    → ((ys : List Value) → are_numbers ys ≡ true → AreSound (length ys) (low ys))
    → and_then moved first ≡ joined (and_then stayed low) (and_then moved high)
both_turns a b (Ok xs) (Ok ys) first second low high s t f g l = f xs ∙ g xs ys s.0 s.1 t.0 t.1
both_turns a b (Ok xs) (Err kind) first second low high s t f g l = f xs
both_turns a b (Err kind) (Ok ys) first second low high s t f g l = sym (stop (length ys) (low ys) (l ys t.0))
  where
    stop : (count : ℕ) (r : Result (List Value) FaultKind) → AreSound count r → (let none : Result (List Value) FaultKind = Err kind in joined r none ≡ Err kind)
    stop count (Ok zs) k = refl
    stop count (Err other) k = same_fault other kind k s
both_turns a b (Err kind) (Err other) first second low high s t f g l = same_fault kind other s t

by_octaves : (q n : ℕ) (moving staying : List Value) → n ≡ q * (length moving + length staying) + length moving → are_numbers moving ≡ true → are_numbers staying ≡ true
    → inverted n (moving ++ staying) ≡ joined (all_of (map (lifted q) staying)) (all_of (map (lifted (suc q)) moving))
by_octaves zero n moving staying e h k =
    let few : n ≡ length moving + 0 = omega arith in
    turned moving staying 0 n few
    ∙ sym (ap (λ (r : Result (List Value) FaultKind). joined r (all_of (map (lifted (suc zero)) moving))) (lifted_none staying) ∙ ap (joined (Ok staying)) (lifted_once moving h))
by_octaves (suc q) n moving staying e h k =
    let more : n ≡ length moving + (length staying + (q * (length moving + length staying) + length moving)) = omega (arith, suc-mul q (length moving + length staying)) in
    turned moving staying (length staying + (q * (length moving + length staying) + length moving)) n more
    ∙ both_turns (length moving) (length staying) (all_of (map octave moving)) (all_of (map octave staying))
    (λ xs. inverted (length staying + (q * (length moving + length staying) + length moving)) (staying ++ xs))
    (λ xs ys. inverted (q * (length moving + length staying) + length moving) (xs ++ ys))
    (λ ys. all_of (map (lifted q) ys))
    (λ xs. all_of (map (lifted (suc q)) xs))
    (all_sound octave (raised_sound 12) moving h)
    (all_sound octave (raised_sound 12) staying k)
    (λ xs. turned staying xs (q * (length moving + length staying) + length moving) (length staying + (q * (length moving + length staying) + length moving)) refl)
    (λ xs ys x lx y ly. by_octaves q (q * (length moving + length staying) + length moving) xs ys (sizes (length moving) (length staying) (length xs) (length ys) lx ly) x y)
    (λ ys y. all_sound (lifted q) (climbed_sound (times q (12 ∷ []))) ys y)
    ∙ sym (ap (λ (r : Result (List Value) FaultKind). joined r (all_of (map (lifted (suc (suc q))) moving))) (lifted_more q staying k) ∙ ap (joined (and_then (all_of (map octave staying)) (λ us. all_of (map (lifted q) us)))) (lifted_more (suc q) moving h))
  where
    sizes : (a b c d : ℕ) → c ≡ a → d ≡ b → q * (a + b) + a ≡ q * (c + d) + c
    sizes a b c d e f = rw (e, f) refl

numbers_parts : (xs ys : List Value) → are_numbers (xs ++ ys) ≡ true → (are_numbers xs ≡ true) × (are_numbers ys ≡ true)
numbers_parts [] ys h = (refl, h)
numbers_parts (x ∷ xs) ys h =
    let both = and_parts (is_some (number_of x)) (are_numbers (xs ++ ys)) h in
    let later = numbers_parts xs ys both.1 in
    (and_from (is_some (number_of x)) (are_numbers xs) both.0 later.0, later.1)

split_by : (q r n : ℕ) (items : List Value) → q * length items + r ≡ n → r < length items → are_numbers items ≡ true → inverted n items ≡ moved_behind q (take r items) (drop r items)
split_by q r n items whole small h =
    let parts = numbers_parts (take r items) (drop r items) (subst (λ (xs : List Value). are_numbers xs ≡ true) (sym (take-append-drop r items)) h) in
    let few : length (take r items) ≡ r = length-take-le r items (omega arith) in
    let all : length (take r items) + length (drop r items) ≡ length items = omega (arith, length-drop r items) in
    let sizes : n ≡ q * (length (take r items) + length (drop r items)) + length (take r items) = rw (all, few) (sym whole) in
    let one : suc q ≡ q + 1 = omega arith in
    ap (inverted n) (sym (take-append-drop r items))
    ∙ by_octaves q n (take r items) (drop r items) sizes parts.0 parts.1
    ∙ sym (ap (λ (xs : Result (List Value) FaultKind). joined xs (all_up (q + 1) (take r items))) (lifted_checked q (drop r items) parts.1)
    ∙ ap (λ (k : ℕ). joined (all_of (map (lifted q) (drop r items))) (all_up k (take r items))) (sym one)
    ∙ ap (joined (all_of (map (lifted q) (drop r items)))) (lifted_checked (suc q) (take r items) parts.0))

-- whole octaves for all of them, and one more for the first
inverted_split : (n : ℕ) (items : List Value) → 0 < length items → are_numbers items ≡ true → inverted n items ≡ moved_behind (n / length items) (take (n % length items) items) (drop (n % length items) items)
inverted_split n items some h = split_by (n / length items) (n % length items) n items (div-add-mod' n (length items)) (mod-lt n some) h

pub inverted_by : (n octaves : ℕ) (items moving staying : List Value) → 0 < length items → are_numbers items ≡ true → octaves ≡ n / length items → moving ≡ take (n % length items) items → staying ≡ drop (n % length items) items → inverted n items ≡ moved_behind octaves moving staying
inverted_by n octaves items moving staying some h e f g = rw (e, f, g) (inverted_split n items some h)
