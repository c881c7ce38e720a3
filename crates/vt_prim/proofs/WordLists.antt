-- One word after the other, and what they choose.
use Rattle.std.proofs.Common.{◌≡◌, ℕ, zero, suc, ◌+◌, ◌-◌, ◌^◌, ◌<◌, ◌≤◌, ◌%◌, min, Bool, true, false, cond, ◌&&◌, Result, Ok, Err, IsOk, length, get_or, subst, List, [], ◌∷◌, ◌++◌, map, refl, sym, ap, ◌∙◌, arith, add_assoc}
use Rattle.std.proofs.lemmas.List.FromFn.{map-range_with_len_more, length-map-range_with_len, get_or-map-range_with_len}
use Rattle.vt_rand.specs.Draw.{RandomStream, after_draws}
use Rattle.vt_rand.specs.Word.{word}
use Rattle.vt_rand.proofs.WordLemmas.{word-mod, word_fits, after_draws-after_draws}
use Rattle.std.specs.Prelude.{nat_le}
use Rattle.std.proofs.lemmas.Bool.Decides.{nat_tests}
use Rattle.vt_value.specs.declared.fault.FaultKind.{FaultKind}
use Rattle.vt_value.specs.declared.fault.FaultKind.TheVariants.{TooLarge}
use Rattle.vt_value.specs.declared.value.Value.{Value}
use Rattle.vt_value.specs.Arithmetic.{are_within}
use Rattle.vt_ring.specs.Limits.{within_limits}
use Rattle.vt_value.specs.Sizes.{size_of, sizes_of}
use Rattle.vt_value.proofs.Layers.{sizes-append}
use Rattle.vt_ring.specs.Items.{indices}
use Rattle.vt_ring.specs.RandomCalls.{choices, chosen}
use Rattle.vt_ring.specs.Shuffling.{shuffle_of, shuffled_by}
use Rattle.vt_ring.proofs.LimitLemmas.{within_same}
use Rattle.vt_ring.proofs.ShuffleLemmas.{shuffled_same}
use Rattle.vt_ring.specs.Streams.{moved_on, words_from}

-- the next word of a stream that has moved on
pub next_word : (k : ℕ) (stream : RandomStream) → words_from (moved_on k stream) 0 ≡ words_from stream k
next_word zero stream = refl
next_word (suc k) stream =
    let n : (stream.drawn + suc k) % 2 ^ 64 + 0 ≡ (stream.drawn + suc k) % 2 ^ 64 = omega arith in
    ap (word stream.seed) n ∙ word-mod stream.seed (stream.drawn + suc k)

-- one word more
pub moved_more : (k : ℕ) (stream : RandomStream) → moved_on 1 (moved_on k stream) ≡ moved_on (k + 1) stream
moved_more zero stream = refl
moved_more (suc k) stream =
    let n : suc k + 1 ≡ suc (suc k) = omega arith in
    after_draws-after_draws (suc k) 1 stream ∙ (let e : after_draws (suc k + 1) stream ≡ after_draws (suc (suc k)) stream = ap (λ (m : ℕ). after_draws m stream) n in e) ∙ ap (λ (m : ℕ). moved_on m stream) (sym n)

-- one choice more
pub choices_more : (items : List Value) (words : ℕ → ℕ) (k w : ℕ) → w ≡ words k → choices items words k ++ chosen items w ∷ [] ≡ choices items words (k + 1)
choices_more items words k w e =
    ap (λ (n : ℕ). choices items words k ++ chosen items n ∷ []) e ∙ sym (map-range_with_len_more (λ (n : ℕ). chosen items (words n)) 0 k k (omega arith))

pub sizes_more : (items : List Value) (words : ℕ → ℕ) (k w : ℕ) → w ≡ words k → sizes_of (choices items words (k + 1)) ≡ sizes_of (choices items words k) + size_of (chosen items w)
sizes_more items words k w e =
    let one : sizes_of (chosen items w ∷ []) ≡ size_of (chosen items w) = omega arith in
    ap sizes_of (sym (choices_more items words k w e)) ∙ sizes-append (choices items words k) (chosen items w ∷ []) ∙ ap (λ (n : ℕ). sizes_of (choices items words k) + n) one

length-choices : (items : List Value) (words : ℕ → ℕ) (n : ℕ) → length (choices items words n) ≡ n
length-choices items words n = length-map-range_with_len (λ (k : ℕ). chosen items (words k)) 0 n

-- sizes that are looked at up to 2^64 - 1
pub sizes_capped : (before after total size one sizes : ℕ) → before ≡ min (2 ^ 64 - 1) total → one ≡ min (2 ^ 64 - 1) size → after ≡ min (before + one) (2 ^ 64 - 1) → sizes ≡ total + size → after ≡ min (2 ^ 64 - 1) sizes
sizes_capped before after total size one sizes b o a s = omega arith

within_by : (list : List Value) (answer : Bool) → are_within list ≡ answer → (let r : Result (List Value) FaultKind = cond answer (Ok list) (Err TooLarge) in within_limits list ≡ r)
within_by list answer e = ap (λ (b : Bool). let r : Result (List Value) FaultKind = cond b (Ok list) (Err TooLarge) in r) e

few_test : (n size : ℕ) → n ≤ 4096 → size < 65536 → (nat_le n 4096 && nat_le (1 + size) 65536) ≡ true
few_test n size few small = grind (arith, nat_tests)

large_test : (n size : ℕ) → n ≤ 4096 → 65536 ≤ size → (nat_le n 4096 && nat_le (1 + size) 65536) ≡ false
large_test n size few large = grind (arith, nat_tests)

-- choices whose sizes are above the limit, and choices whose sizes are not
pub too_large : (items : List Value) (words : ℕ → ℕ) (n size : ℕ) → n ≤ 4096 → size ≡ min (2 ^ 64 - 1) (sizes_of (choices items words n)) → 65536 ≤ size → within_limits (choices items words n) ≡ Err TooLarge
too_large items words n size few e large =
    within_by (choices items words n) false (ap (λ (m : ℕ). nat_le m 4096 && nat_le (1 + sizes_of (choices items words n)) 65536) (length-choices items words n) ∙ large_test n (sizes_of (choices items words n)) few (omega arith))

pub not_too_large : (items : List Value) (words : ℕ → ℕ) (n size : ℕ) → n ≤ 4096 → size ≡ min (2 ^ 64 - 1) (sizes_of (choices items words n)) → size < 65536 → within_limits (choices items words n) ≡ Ok (choices items words n)
not_too_large items words n size few e small =
    within_by (choices items words n) true (ap (λ (m : ℕ). nat_le m 4096 && nat_le (1 + sizes_of (choices items words n)) 65536) (length-choices items words n) ∙ few_test n (sizes_of (choices items words n)) few (omega arith))

-- one word more in a list of them
pub words_more : (words : ℕ → ℕ) (k w : ℕ) → w ≡ words k → map words (indices k) ++ w ∷ [] ≡ map words (indices (k + 1))
words_more words k w e =
    ap (λ (n : ℕ). map words (indices k) ++ n ∷ []) e ∙ sym (map-range_with_len_more words 0 k k (omega arith))

pub length-words : (words : ℕ → ℕ) (n : ℕ) → length (map words (indices n)) ≡ n
length-words words n = length-map-range_with_len words 0 n

words_small : (stream : RandomStream) (n i : ℕ) → i < length (map (words_from stream) (indices n)) → get_or (map (words_from stream) (indices n)) i 0 < 2 ^ 32
words_small stream n i h =
    let below : i < n = omega (arith, length-words (words_from stream) n) in
    let at : get_or (map (words_from stream) (indices n)) i 0 ≡ words_from stream i = get_or-map-range_with_len (words_from stream) 0 n i i 0 below (omega arith) in
    omega (arith, at, word_fits stream.seed (stream.drawn + i))

-- the limits of a shuffled list are those of the list
pub shuffled_limits : (items : List Value) (stream : RandomStream) (n : ℕ) → are_within (shuffled_by items (map (words_from stream) (indices n))) ≡ are_within items
shuffled_limits items stream n =
    let same = shuffled_same items (map (words_from stream) (indices n)) (words_small stream n) in
    within_same (shuffled_by items (map (words_from stream) (indices n))) items same.0 same.1

pub shuffle_fault : (items : List Value) (stream : RandomStream) (n : ℕ) → are_within items ≡ false → shuffle_of items (map (words_from stream) (indices n)) ≡ Err TooLarge
shuffle_fault items stream n e = within_by (shuffled_by items (map (words_from stream) (indices n))) false (shuffled_limits items stream n ∙ e)

pub shuffle_fits : (items : List Value) (stream : RandomStream) (n : ℕ) → are_within items ≡ true → IsOk (shuffle_of items (map (words_from stream) (indices n)))
shuffle_fits items stream n e = subst IsOk (sym (within_by (shuffled_by items (map (words_from stream) (indices n))) true (shuffled_limits items stream n ∙ e))) refl
