-- How the generator of a seed moves, and what follows for its words.
use Rattle.std.proofs.Common.{◌≡◌, ℕ, zero, suc, ◌+◌, ◌*◌, ◌/◌, ◌%◌, ◌^◌, ◌<◌, refl, sym, ap, ◌∙◌, arith, zero-add, suc-add, add_assoc, ◌-◌, bit_xor, w32, lit<}
use Rattle.std.proofs.lemmas.Nat.{or_lt}
use Rattle.std.proofs.Math.Nat.{mod-add-mod, mod-lt, div-le_self, lt_of_le_of_lt}
use Rattle.std.specs.Int.{rotate_right}
use Rattle.rand_pcg.specs.Lcg.{Lcg, next_state, state_after}
use Rattle.rand_pcg.specs.Pcg.{multiplier_64, pcg32}
use Rattle.vt_rand.specs.Draw.{RandomStream, DrawsAddUp}
use Rattle.vt_rand.specs.Word.{generator_of, generator_after, word, WordsFit, WordsRepeat}
use Rattle.vt_rand.proofs.Period.{state_after-period}

-- a steps and then b steps
state_after-add : (m p a b s : ℕ) → state_after 64 m p (a + b) s ≡ state_after 64 m p b (state_after 64 m p a s)
unfolding state_after
state_after-add m p zero b s = ap (λ n. state_after 64 m p n s) (zero-add b)
state_after-add m p (suc a) b s =
    ap (λ n. state_after 64 m p n s) (suc-add a b) ∙ state_after-add m p a b (next_state 64 m p s)

state_after_fits : (m p n s : ℕ) → s < 2 ^ 64 → state_after 64 m p n s < 2 ^ 64
unfolding state_after
state_after_fits m p zero s small = small
state_after_fits m p (suc n) s small = state_after_fits m p n (next_state 64 m p s) (omega arith)

generator_fits : (seed : ℕ) → (generator_of seed).state < 2 ^ 64
unfolding generator_of
generator_fits seed = omega arith

-- the generator that a seed begins has given no word
pub generator_first : (seed : ℕ) → generator_of seed ≡ generator_after seed 0
unfolding generator_after state_after
generator_first seed = refl

-- a generator that stands at this state
at_state : Lcg → ℕ → Lcg
at_state g state = record g { state = state }

-- n words more
generator_more : (seed k n : ℕ) → generator_after seed (k + n) ≡ at_state (generator_after seed k) (state_after 64 multiplier_64 (generator_of seed).increment n (generator_after seed k).state)
unfolding generator_after at_state
generator_more seed k n =
    ap (λ s. let g : Lcg = record { state = s; increment = (generator_of seed).increment } in g) (state_after-add multiplier_64 (generator_of seed).increment k n (generator_of seed).state)

-- one step of the state is one word
one_word : (seed k : ℕ) → at_state (generator_after seed k) (state_after 64 multiplier_64 (generator_of seed).increment 1 (generator_after seed k).state) ≡ (pcg32 (generator_after seed k)).1
unfolding generator_after at_state state_after
one_word seed k = refl

-- each word moves it on by one
pub generator_next : (seed k : ℕ) → (pcg32 (generator_after seed k)).1 ≡ generator_after seed (k + 1)
generator_next seed k = sym (generator_more seed k 1 ∙ one_word seed k)

generator_after_fits : (seed k : ℕ) → (generator_after seed k).state < 2 ^ 64
unfolding generator_after
generator_after_fits seed k =
    state_after_fits multiplier_64 (generator_of seed).increment k (generator_of seed).state (generator_fits seed)

at_own_state : (g : Lcg) (s : ℕ) → s ≡ g.state → at_state g s ≡ g
unfolding at_state
at_own_state g s e = ap (λ x. let h : Lcg = record g { state = x } in h) e

-- after 2^64 words it stands where it stood
pub generator_repeats : (seed k : ℕ) → generator_after seed (k + 2 ^ 64) ≡ generator_after seed k
generator_repeats seed k =
    generator_more seed k (2 ^ 64)
    ∙ at_own_state (generator_after seed k) _ (state_after-period (generator_of seed).increment (generator_after seed k).state (generator_after_fits seed k))

generator_rounds : (seed rounds k : ℕ) → generator_after seed (k + rounds * 2 ^ 64) ≡ generator_after seed k
generator_rounds seed zero k =
    let none : k + 0 * 2 ^ 64 ≡ k = omega arith in ap (generator_after seed) none
generator_rounds seed (suc rounds) k =
    let last : k + suc rounds * 2 ^ 64 ≡ k + rounds * 2 ^ 64 + 2 ^ 64 = omega arith in
    ap (generator_after seed) last ∙ generator_repeats seed (k + rounds * 2 ^ 64) ∙ generator_rounds seed rounds k

-- the number of words counts modulo 2^64
pub generator-mod : (seed k : ℕ) → generator_after seed (k % 2 ^ 64) ≡ generator_after seed k
generator-mod seed k =
    let parts : k % 2 ^ 64 + k / 2 ^ 64 * 2 ^ 64 ≡ k = omega arith in
    sym (generator_rounds seed (k / 2 ^ 64) (k % 2 ^ 64)) ∙ ap (generator_after seed) parts

pub word-mod : WordsRepeat
unfolding word
word-mod seed k = ap (λ (g : Lcg). (pcg32 g).0) (generator-mod seed k)

rotated_fits : (x by : ℕ) → x < 2 ^ 32 → rotate_right w32 x by < 2 ^ 32
rotated_fits x by small =
    or_lt 32 (x / 2 ^ (by % 32)) (x * 2 ^ ((32 - by % 32) % 32) % 2 ^ 32) (lt_of_le_of_lt (div-le_self x (2 ^ (by % 32))) small) (mod-lt (x * 2 ^ ((32 - by % 32) % 32)) (lit< tt))

pub word_fits : WordsFit
unfolding word
word_fits seed k =
    let state = (generator_after seed k).state in
    rotated_fits (bit_xor (state / 2 ^ 18) state / 2 ^ 27 % 2 ^ 32) (state / 2 ^ 59) (mod-lt (bit_xor (state / 2 ^ 18) state / 2 ^ 27) (lit< tt))

-- the generator after one more word, as a stream counts it
pub generator_drawn : (seed k : ℕ) (g h : Lcg) → g ≡ generator_after seed k → h ≡ (pcg32 g).1 → h ≡ generator_after seed ((k + 1) % 2 ^ 64)
generator_drawn seed k g h stands moved =
    moved ∙ ap (λ (x : Lcg). (pcg32 x).1) stands ∙ generator_next seed k ∙ sym (generator-mod seed (k + 1))

-- the word that the generator gives is the seed's
pub word_drawn : (seed k w : ℕ) (g : Lcg) → g ≡ generator_after seed k → w ≡ (pcg32 g).0 → w ≡ word seed k
unfolding word
word_drawn seed k w g stands given = given ∙ ap (λ (x : Lcg). (pcg32 x).0) stands

-- n words and then m more
pub after_draws-after_draws : DrawsAddUp
after_draws-after_draws n m stream =
    let sum : ((stream.drawn + n) % 2 ^ 64 + m) % 2 ^ 64 ≡ (stream.drawn + (n + m)) % 2 ^ 64 =
    mod-add-mod (stream.drawn + n) (2 ^ 64) m ∙ ap (λ k. k % 2 ^ 64) (add_assoc stream.drawn n m) in
    ap (λ k. let s : RandomStream = record { seed = stream.seed; drawn = k } in s) sum
