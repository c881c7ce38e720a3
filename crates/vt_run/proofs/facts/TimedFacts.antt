-- The rests and values of the threads of `at`, and the tempo of a density, are within the limits of the language.
use Rattle.std.proofs.Common.{◌≡◌, ◌≤◌, ◌<◌, ◌*◌, ◌*ℤ◌, ℕ, ℤ, pos, negsuc, zero, suc, ◌/◌, List, length, map, ◌||◌, true, false, Option, Some, None, Result, Ok, Err, refl, sym, subst, true≢false, arith}
use Rattle.std.specs.Prelude.{IfOk, IfSome, IsTrue, int_le, int_lt, nat_eq, not}
use Rattle.std.specs.List.{AllByRecursion, list_all}
use Rattle.std.proofs.Math.Nat.{mul-pos}
use Rattle.std.proofs.lemmas.Bool.{le-leb, lt-ltb, ltb-true}
use Rattle.std.proofs.lemmas.Result.{IfOk-at_ok}
use Rattle.vt_frac.specs.Arithmetic.{product_of}
use Rattle.vt_frac.specs.Divisor.{gcd}
use Rattle.vt_frac.specs.Fraction.{Fraction, IsFraction, fits, over, whole}
use Rattle.vt_frac.proofs.FractionLemmas.{over_is}
use Rattle.vt_frac.proofs.GcdLemmas.{gcd-parts}
use Rattle.vt_ring.specs.Answers.{all_of}
use Rattle.vt_ring.specs.Arguments.{between}
use Rattle.vt_ring.specs.Exact.{exact, exact_product, is_negative}
use Rattle.vt_ring.specs.Signatures.{a_whole, one_or_two_of}
use Rattle.vt_ring.proofs.limits.Answers.{all_of_gives, and_then_any, and_then_gives, cond_gives}
use Rattle.vt_ring.proofs.limits.Arguments.{IsSomeWithin, between_gives, one_or_two_give}
use Rattle.vt_ring.proofs.limits.Fractions.{product_gives}
use Rattle.vt_value.specs.declared.fault.FaultKind.{FaultKind}
use Rattle.vt_value.specs.declared.fault.FaultKind.TheVariants.{BadValue, EmptyRing, Overflow}
use Rattle.vt_value.specs.declared.value.Value.{Value}
use Rattle.vt_value.specs.Limits.{AreWithin, IsWithin}
use Rattle.vt_run.specs.declared.state.State.{State}
use Rattle.vt_run.specs.calls.Arguments.{Given, all_args, each_of, has_item, numbers_of, ring_if_given}
use Rattle.vt_run.specs.calls.ThreadCalls.{timings, values_for}
use Rattle.vt_run.specs.calls.TimeCalls.{seconds_of}
use Rattle.vt_run.specs.calls.LoopCalls.{density_of}
use Rattle.vt_run.specs.Delays.{is_delay}
use Rattle.vt_run.specs.Limits.{IsRestWithin}
use Rattle.vt_run.specs.Tempo.{is_tempo}
use Rattle.vt_run.proofs.facts.ArgumentFacts.{IsNotNegative, each_of_within, items_round_within, none_negative, ring_if_given_gives, seconds_gives}
use Rattle.vt_run.proofs.facts.Known.{IsGivenWithin, IsStateWithin}
use Rattle.vt_run.proofs.facts.PairFacts.{each_zip}

-- Timings

-- a rest of a thread of `at`, and the value that the thread is given
abbrev pub IsTiming : Fraction × Value → Type 0
IsTiming t = IsFraction t.0 × IsTrue (is_delay t.0) × IsWithin t.1

delay_of : (z : ℤ) → int_lt z (pos 0) ≡ false → IsTrue (int_le (pos 0) z)
delay_of (pos n) e = le-leb 0 n (omega arith)
delay_of (negsuc n) e = absurd (true≢false e)

values_for_within : (items : Option (List Value)) (numbers : List Value) → IfSome items AreWithin → AreWithin numbers → AreWithin (values_for items numbers)
values_for_within None numbers h k = k
values_for_within (Some items) numbers h k = items_round_within (length numbers) items h

rests_give : (bpm : Fraction) → IsTrue (is_tempo bpm) → (beats : List Fraction) → AllByRecursion IsNotNegative beats →
    IfOk (all_of (map (λ n. seconds_of n bpm) beats)) (λ rests. AllByRecursion IsRestWithin rests × (length rests ≡ length beats))
rests_give bpm tempo beats h = all_of_gives (λ n. seconds_of n bpm) IsNotNegative IsRestWithin (λ n e. seconds_gives n bpm e tempo) beats h

timings_give : (given : Given) (st : State) → IsGivenWithin given → IsStateWithin st → IfOk (timings given st) (AllByRecursion IsTiming)
timings_give given st g s =
    and_then_gives (one_or_two_of (all_args given)) _ (λ both. IsWithin both.0 × IsSomeWithin both.1) _ (one_or_two_give (all_args given) g.args) (λ both w.
    and_then_any (numbers_of both.0) _ _ (λ beats.
    and_then_gives (ring_if_given both.1) _ (λ ring. IfSome ring AreWithin) _ (ring_if_given_gives both.1 w.1) (λ items r.
    cond_gives (list_all (λ n. not (is_negative n)) beats) _ BadValue _ (λ forward.
    cond_gives (nat_eq (length beats) 0 || has_item items) _ EmptyRing _ (λ some.
    and_then_gives (all_of (map (λ n. seconds_of n st.settings.bpm) beats)) _ (λ rests. AllByRecursion IsRestWithin rests × (length rests ≡ length beats)) _ (rests_give st.settings.bpm s.set.tempo beats (none_negative beats forward)) (λ rests good.
    each_zip IsRestWithin IsWithin IsTiming (λ rest value k v. (k.fraction, delay_of rest.numer k.forward, v)) rests (values_for items (each_of both.0)) good.0
    (values_for_within items (each_of both.0) r (each_of_within both.0 w.0))))))))

pub timings_fact : (given : Given) (st : State) (ts : List (Fraction × Value)) → timings given st ≡ Ok ts → IsGivenWithin given → IsStateWithin st → AllByRecursion IsTiming ts
timings_fact given st ts e g s = IfOk-at_ok (AllByRecursion IsTiming) e (timings_give given st g s)

-- Densities

-- above 0
record IsAbove (f : Fraction) : Type 0 where
  size : ℕ
  is : f.numer ≡ pos size
  above : 0 < size

tempo_above : (f : Fraction) → IsTrue (is_tempo f) → IsAbove f
tempo_above f t = go f.numer refl t where
  go : (z : ℤ) → f.numer ≡ z → int_lt (pos 0) z ≡ true → IsAbove f
  go (pos n) e k = record { size = n; is = e; above = ltb-true 0 n k }
  go (negsuc n) e k = absurd (true≢false (sym k))

quotient_above : (q g a : ℕ) → q * g ≡ a → 0 < a → 0 < q
quotient_above zero g a e h = absurd (omega arith)
quotient_above (suc q) g a e h = omega arith

over_above : (a d : ℕ) → 0 < a → 0 < d → IsTrue (is_tempo (over (pos a) d))
over_above a d h k =
    subst (λ (f : Fraction). IsTrue (is_tempo f)) (sym (over_is (pos a) d k)) (lt-ltb 0 (a / gcd a d) (quotient_above (a / gcd a d) (gcd a d) a (gcd-parts a d).0 h))

product_above : (f : Fraction) (n : ℕ) → IsTrue (is_tempo f) → 0 < f.denom → 0 < n → IsTrue (is_tempo (product_of f (whole (pos n))))
unfolding product_of
product_above f n t h k =
    let some = tempo_above f t in
    subst (λ (z : ℤ). IsTrue (is_tempo (over (z *ℤ pos n) (f.denom * 1)))) (sym some.is) (over_above (some.size * n) (f.denom * 1) (mul-pos some.above k) (omega arith))

abbrev IsTempo : Fraction → Type 0
IsTempo f = IsFraction f × IsTrue (is_tempo f)

tempo_from : (answer : Result Fraction FaultKind) → IfOk answer IsFraction → IfOk answer (λ f. IsTrue (is_tempo f)) → IfOk answer IsTempo
tempo_from (Ok f) h k = (h, k)
tempo_from (Err kind) h k = tt

faster_gives : (bpm : Fraction) (n : ℕ) → IsFraction bpm → IsTrue (is_tempo bpm) → 0 < n → IfOk (exact_product bpm (whole (pos n))) IsTempo
faster_gives bpm n f t h =
    let product = product_of bpm (whole (pos n)) in
    tempo_from (exact product) (product_gives bpm (whole (pos n))) (cond_gives (fits product) (Ok product) Overflow (λ f. IsTrue (is_tempo f)) (λ e. product_above bpm n t f.positive h))

abbrev IsDensity : ℕ × Fraction → Type 0
IsDensity density = (density.0 ≤ 64) × IsTempo density.1

density_gives : (given : Given) (bpm : Fraction) → IsFraction bpm → IsTrue (is_tempo bpm) → IfOk (density_of given bpm) IsDensity
density_gives given bpm f t =
    and_then_any (a_whole (all_args given)) _ IsDensity (λ number.
    and_then_gives (between 1 64 number) _ (λ n. (1 ≤ n) × (n ≤ 64)) IsDensity (between_gives 1 64 number) (λ n range.
    and_then_gives (exact_product bpm (whole (pos n))) _ IsTempo IsDensity (faster_gives bpm n f t range.0) (λ faster tempo.
    (range.1, tempo))))

pub density_fact : (given : Given) (bpm : Fraction) (n : ℕ) (faster : Fraction) → density_of given bpm ≡ Ok (n, faster) → IsFraction bpm → IsTrue (is_tempo bpm) → (n ≤ 64) × (IsFraction faster × IsTrue (is_tempo faster))
density_fact given bpm n faster e f t = IfOk-at_ok IsDensity e (density_gives given bpm f t)
