-- The disturbers of a read as a list: it is computed in as many rounds as there are threads, and is what the definition by a least set says.
use Rattle.std.proofs.Common.{◌≡◌, ℕ, ◌<◌, ◌≤◌, List, [], ◌∷◌, length, refl, sym, ◌∙◌, ap, inl, inr, ◌⊎◌, arith, Bool, true, false, zero, suc, subst, Option, Some, None}
use Rattle.std.specs.Prelude.{Contains, cond, ◌&&◌, ◌||◌, not}
use Rattle.vt_event.specs.Event.{EventView}
use Rattle.vt_event.specs.declared.place.Place.{Place}
use Rattle.vt_path.specs.declared.pattern.Segment.{Segment}
use Rattle.vt_run.specs.Standing.{Asks, Asleep, Over, Ready, Stance, Waits}
use Rattle.vt_run.specs.declared.start.Start.{Start}
use Rattle.vt_meaning.specs.Bounds.{Disturbs, IsBound, IsCandidate, Quiet, StandsBelow}
use Rattle.vt_meaning.specs.Bounds.Disturbs.{Feeds, Writes}
use Rattle.vt_meaning.specs.Disturbers.{any_below, disturbers, disturbers_in, is_below, is_disturber, is_quiet, may_feed, may_wake, sift, standing_at}
use Rattle.vt_meaning.specs.NextPlaces.{GoesOn, place_in}
use Rattle.vt_meaning.specs.Places.{Before}
use Rattle.vt_meaning.specs.Steps.{more}
use Rattle.vt_meaning.specs.ThreadMeaning.{may_meet, ThreadMeaning, Wants}
use Rattle.vt_meaning.specs.Traces.{stance_in, Thread, waiting}
use Rattle.vt_meaning.specs.World.{events_of, Opening}
use Rattle.vt_meaning.proofs.Order.{is_before-true, true-is_before, upto-before}
use Rattle.vt_meaning.proofs.FrontAndBounds.{both_true, contains_cons, contains_here, contains_there, bound_is}
use Rattle.vt_meaning.proofs.KeptByTransitions.{get_of, has_of}
use Rattle.vt_meaning.proofs.Writers.{either, or_left, or_right}

empty_has : {A : Type 0} (x : A) → Contains [] x → ⊥
empty_has x h = let z = h.1 in omega arith

both_are : (a b : Bool) → a ≡ true → b ≡ true → (a && b) ≡ true
both_are true b h k = k
both_are false b h k = absurd (let z : false ≡ true = h in cc)

pub sift_from : {A : Type 0} (f : A → Bool) (xs : List A) (x : A) → Contains (sift f xs) x → Contains xs x × (f x ≡ true)
sift_from f [] x h = absurd (empty_has x h)
sift_from f (y ∷ ys) x h = go (f y) refl h (sift_from f ys x)
  where
    go : (c : Bool) → f y ≡ c → Contains (cond c (y ∷ sift f ys) (sift f ys)) x → (Contains (sift f ys) x → Contains ys x × (f x ≡ true)) → Contains (y ∷ ys) x × (f x ≡ true)
    go true e k rest =
        elim (contains_cons y (sift f ys) x k) [
          | inl z ↦ (subst (Contains (y ∷ ys)) z (contains_here y ys), ap f (sym z) ∙ e)
          | inr l ↦ (let r = rest l in (contains_there y ys x r.0, r.1))
        ]
    go false e k rest = let r = rest k in (contains_there y ys x r.0, r.1)

pub sift_has : {A : Type 0} (f : A → Bool) (xs : List A) (x : A) → Contains xs x → f x ≡ true → Contains (sift f xs) x
sift_has f [] x h k = absurd (empty_has x h)
sift_has f (y ∷ ys) x h k = go (f y) refl (λ l. sift_has f ys x l k)
  where
    go : (c : Bool) → f y ≡ c → (Contains ys x → Contains (sift f ys) x) → Contains (cond c (y ∷ sift f ys) (sift f ys)) x
    go true e rest =
        elim (contains_cons y ys x h) [
          | inl z ↦ subst (Contains (y ∷ sift f ys)) z (contains_here y (sift f ys))
          | inr l ↦ contains_there y (sift f ys) x (rest l)
        ]
    go false e rest =
        elim (contains_cons y ys x h) [
          | inl z ↦ absurd (let n : false ≡ true = sym e ∙ ap f z ∙ k in cc)
          | inr l ↦ rest l
        ]

sift_short : {A : Type 0} (f : A → Bool) (xs : List A) → length (sift f xs) ≤ length xs
sift_short f [] = omega arith
sift_short f (y ∷ ys) = go (f y) (sift_short f ys)
  where
    go : (c : Bool) → length (sift f ys) ≤ length ys → length (cond c (y ∷ sift f ys) (sift f ys)) ≤ length (y ∷ ys)
    go true le = omega arith
    go false le = omega arith

-- with a weaker test there is no less
sift_more : {A : Type 0} (f g : A → Bool) → ((x : A) → f x ≡ true → g x ≡ true) → (xs : List A) → (sift f xs ≡ sift g xs) ⊎ (length (sift f xs) < length (sift g xs))
sift_more f g le [] = inl refl
sift_more f g le (y ∷ ys) = go (f y) refl (g y) refl (sift_more f g le ys)
  where
    go : (c : Bool) → f y ≡ c → (d : Bool) → g y ≡ d → (sift f ys ≡ sift g ys) ⊎ (length (sift f ys) < length (sift g ys)) →
        (cond c (y ∷ sift f ys) (sift f ys) ≡ cond d (y ∷ sift g ys) (sift g ys)) ⊎ (length (cond c (y ∷ sift f ys) (sift f ys)) < length (cond d (y ∷ sift g ys) (sift g ys)))
    go true e true k (inl z) = inl (ap (λ l. y ∷ l) z)
    go true e true k (inr lt) = inr (omega arith)
    go true e false k r = absurd (let n : false ≡ true = sym k ∙ le y e in cc)
    go false e true k (inl z) = inr (let l = ap length z in omega (arith, l))
    go false e true k (inr lt) = inr (omega arith)
    go false e false k r = r

fed_from : (m : ThreadMeaning) (start : Start) (ds : List Thread) → may_feed m start ds ≡ true → (thread : Thread) × (place : Place) × (wants : Wants) × Contains ds thread × (stance_in m thread ≡ waiting place wants) × (may_meet m start wants ≡ true)
fed_from m start [] h = absurd (let z : false ≡ true = h in cc)
fed_from m start (thread ∷ ds) h =
    elim (either (may_wake m start (stance_in m thread)) (may_feed m start ds) h) [
      | inl a ↦ go (stance_in m thread) refl a
      | inr b ↦ (let place = fed_from m start ds b in (place.0, place.1, place.2, contains_there thread ds place.0 place.3, place.4, place.5))
    ]
  where
    go : (o : Stance) → stance_in m thread ≡ o → may_wake m start o ≡ true → (e : Thread) × (place : Place) × (wants : Wants) × Contains (thread ∷ ds) e × (stance_in m e ≡ waiting place wants) × (may_meet m start wants ≡ true)
    go (Ready p) e a = absurd (let z : false ≡ true = a in cc)
    go (Asks p q) e a = absurd (let z : false ≡ true = a in cc)
    go (Waits place q c) e a = (thread, place, record { pattern = q; stop = c }, contains_here thread ds, e, a)
    go (Asleep n) e a = absurd (let z : false ≡ true = a in cc)
    go Over e a = absurd (let z : false ≡ true = a in cc)

fed_has : (m : ThreadMeaning) (start : Start) (ds : List Thread) (thread : Thread) (place : Place) (wants : Wants) → Contains ds thread → stance_in m thread ≡ waiting place wants → may_meet m start wants ≡ true → may_feed m start ds ≡ true
fed_has m start [] thread place wants h st may = absurd (empty_has thread h)
fed_has m start (e ∷ ds) thread place wants h st may =
    elim (contains_cons e ds thread h) [
      | inl z ↦
          (let a : may_wake m start (stance_in m e) ≡ true = ap (λ v. may_wake m start (stance_in m v)) z ∙ ap (may_wake m start) st ∙ may in
          or_left (may_wake m start (stance_in m e)) (may_feed m start ds) a)
      | inr l ↦ or_right (may_wake m start (stance_in m e)) (may_feed m start ds) (fed_has m start ds thread place wants l st may)
    ]

below_from : (s : Stance) (place : Place) → is_below (standing_at s) place ≡ true → StandsBelow s place
below_from (Ready r) place h = true-is_before r place h
below_from (Asks r q) place h = true-is_before r place h
below_from (Waits r q c) place h = true-is_before r place h
below_from (Asleep n) place h = let z : false ≡ true = h in cc
below_from Over place h = let z : false ≡ true = h in cc

below_has : (s : Stance) (place : Place) → StandsBelow s place → is_below (standing_at s) place ≡ true
below_has (Ready r) place h = is_before-true r place h
below_has (Asks r q) place h = is_before-true r place h
below_has (Waits r q c) place h = is_before-true r place h
below_has (Asleep n) place h = absurd h
below_has Over place h = absurd h

module _ (m : ThreadMeaning) (these : List Thread) (place : Place) (pattern : List Segment) where
  open_test : (ds : List Thread) (thread : Thread) → is_disturber m place pattern ds thread ≡ true → (is_below (standing_at (stance_in m thread)) place ≡ true) × ((m.may thread.start pattern || may_feed m thread.start ds) ≡ true)
  unfolding is_disturber
  open_test ds thread h = both_true (is_below (standing_at (stance_in m thread)) place) (m.may thread.start pattern || may_feed m thread.start ds) h

  shut_test : (ds : List Thread) (thread : Thread) → is_below (standing_at (stance_in m thread)) place ≡ true → (m.may thread.start pattern || may_feed m thread.start ds) ≡ true → is_disturber m place pattern ds thread ≡ true
  unfolding is_disturber
  shut_test ds thread a b = both_are (is_below (standing_at (stance_in m thread)) place) (m.may thread.start pattern || may_feed m thread.start ds) a b

  -- the list has no one else
  sound : (n : ℕ) (thread : Thread) → Contains (disturbers_in m these place pattern n) thread → Disturbs m these place pattern thread
  sound zero thread h = absurd (empty_has thread h)
  sound (suc n) thread h = go (sift_from (is_disturber m place pattern (disturbers_in m these place pattern n)) these thread h) (sound n)
    where
      go : Contains these thread × (is_disturber m place pattern (disturbers_in m these place pattern n) thread ≡ true) → ((twin : Thread) → Contains (disturbers_in m these place pattern n) twin → Disturbs m these place pattern twin) → Disturbs m these place pattern thread
      go has rest =
          let both = open_test (disturbers_in m these place pattern n) thread has.1 in
          let c : IsCandidate m these place thread = record { at = has.0.0; has = get_of these thread has.0; below = below_from (stance_in m thread) place both.0 } in
          elim (either (m.may thread.start pattern) (may_feed m thread.start (disturbers_in m these place pattern n)) both.1) [
            | inl may ↦ Writes thread c may
            | inr fed ↦ (let f = fed_from m thread.start (disturbers_in m these place pattern n) fed in Feeds thread f.0 f.1 f.2 c (rest f.0 f.3) f.4 f.5)
          ]

  test_more : (ds es : List Thread) → ((twin : Thread) → Contains ds twin → Contains es twin) → (thread : Thread) → is_disturber m place pattern ds thread ≡ true → is_disturber m place pattern es thread ≡ true
  test_more ds es le thread h =
      let both = open_test ds thread h in
      shut_test es thread both.0
      (elim (either (m.may thread.start pattern) (may_feed m thread.start ds) both.1) [
        | inl may ↦ or_left (m.may thread.start pattern) (may_feed m thread.start es) may
        | inr fed ↦ (let f = fed_from m thread.start ds fed in or_right (m.may thread.start pattern) (may_feed m thread.start es) (fed_has m thread.start es f.0 f.1 f.2 (le f.0 f.3) f.4 f.5))
      ])

  -- rounds only add
  grows : (n : ℕ) (thread : Thread) → Contains (disturbers_in m these place pattern n) thread → Contains (disturbers_in m these place pattern (suc n)) thread
  grows zero thread h = absurd (empty_has thread h)
  grows (suc n) thread h =
      let f = sift_from (is_disturber m place pattern (disturbers_in m these place pattern n)) these thread h in
      sift_has (is_disturber m place pattern (disturbers_in m these place pattern (suc n))) these thread f.0
      (test_more (disturbers_in m these place pattern n) (disturbers_in m these place pattern (suc n)) (grows n) thread f.1)

  -- .. and each adds something until one adds nothing
  steady : (n : ℕ) → (disturbers_in m these place pattern n ≡ disturbers_in m these place pattern (suc n)) ⊎ (n < length (disturbers_in m these place pattern (suc n)))
  steady zero = go (disturbers_in m these place pattern 1) refl
    where
      go : (l : List Thread) → disturbers_in m these place pattern 1 ≡ l → (disturbers_in m these place pattern 0 ≡ disturbers_in m these place pattern 1) ⊎ (0 < length (disturbers_in m these place pattern 1))
      go [] e = inl (sym e)
      go (d ∷ ds) e = inr (let z = ap length e in let c : length (d ∷ ds) ≡ suc (length ds) = refl in omega (arith, z, c))
  steady (suc n) =
      elim (steady n) [
        | inl e ↦ inl (ap (λ ds. sift (is_disturber m place pattern ds) these) e)
        | inr lt ↦
            elim (sift_more (is_disturber m place pattern (disturbers_in m these place pattern n)) (is_disturber m place pattern (disturbers_in m these place pattern (suc n)))
            (test_more (disturbers_in m these place pattern n) (disturbers_in m these place pattern (suc n)) (grows n)) these) [
              | inl e ↦ inl e
              | inr more ↦ inr (omega (arith, lt, more))
            ]
      ]

  fixed : disturbers_in m these place pattern (length these) ≡ disturbers_in m these place pattern (suc (length these))
  fixed =
      elim (steady (length these)) [
        | inl e ↦ e
        | inr lt ↦ absurd (let le = sift_short (is_disturber m place pattern (disturbers_in m these place pattern (length these))) these in omega (arith, lt, le))
      ]

  -- the list has all
  complete : (thread : Thread) → Disturbs m these place pattern thread → Contains (disturbers_in m these place pattern (length these)) thread
  complete thread (Writes _ c may) =
      subst (λ l. Contains l thread) (sym fixed)
      (sift_has (is_disturber m place pattern (disturbers_in m these place pattern (length these))) these thread (has_of these c.at thread c.has)
      (shut_test (disturbers_in m these place pattern (length these)) thread (below_has (stance_in m thread) place c.below) (or_left (m.may thread.start pattern) (may_feed m thread.start (disturbers_in m these place pattern (length these))) may)))
  complete thread (Feeds _ twin r w c d st may) =
      subst (λ l. Contains l thread) (sym fixed)
      (sift_has (is_disturber m place pattern (disturbers_in m these place pattern (length these))) these thread (has_of these c.at thread c.has)
      (shut_test (disturbers_in m these place pattern (length these)) thread (below_has (stance_in m thread) place c.below)
      (or_right (m.may thread.start pattern) (may_feed m thread.start (disturbers_in m these place pattern (length these)))
      (fed_has m thread.start (disturbers_in m these place pattern (length these)) twin r w (complete twin d) st may))))

  -- **so it has the disturbers**
  pub listed_disturbs : (thread : Thread) → Contains (disturbers m these place pattern) thread → Disturbs m these place pattern thread
  unfolding disturbers
  listed_disturbs thread h = sound (length these) thread h

  pub disturbs_listed : (thread : Thread) → Disturbs m these place pattern thread → Contains (disturbers m these place pattern) thread
  unfolding disturbers
  disturbs_listed thread d = complete thread d

any_from : (m : ThreadMeaning) (es : List EventView) (place : Place) (ds : List Thread) → any_below m es place ds ≡ true → (thread : Thread) × Contains ds thread × (is_below (place_in es (stance_in m thread)) place ≡ true)
any_from m es place [] h = absurd (let z : false ≡ true = h in cc)
any_from m es place (thread ∷ ds) h =
    elim (either (is_below (place_in es (stance_in m thread)) place) (any_below m es place ds) h) [
      | inl a ↦ (thread, contains_here thread ds, a)
      | inr b ↦ (let r = any_from m es place ds b in (r.0, contains_there thread ds r.0 r.1, r.2))
    ]

any_has : (m : ThreadMeaning) (es : List EventView) (place : Place) (ds : List Thread) (thread : Thread) → Contains ds thread → is_below (place_in es (stance_in m thread)) place ≡ true → any_below m es place ds ≡ true
any_has m es place [] thread h k = absurd (empty_has thread h)
any_has m es place (e ∷ ds) thread h k =
    elim (contains_cons e ds thread h) [
      | inl z ↦ or_left (is_below (place_in es (stance_in m e)) place) (any_below m es place ds) (ap (λ v. is_below (place_in es (stance_in m v)) place) z ∙ k)
      | inr l ↦ or_right (is_below (place_in es (stance_in m e)) place) (any_below m es place ds) (any_has m es place ds thread l k)
    ]

module _ (m : ThreadMeaning) (opening : Opening) (these : List Thread) (s : Stance) (place : Place) where
  bound_below : is_below (place_in (events_of m opening these) s) place ≡ true → (b : Place) × GoesOn m opening these s b × Before b place
  bound_below h = go (place_in (events_of m opening these) s) (bound_is m opening these s) h
    where
      go : (o : Option Place) → IsBound m opening these s o → is_below o place ≡ true → (b : Place) × GoesOn m opening these s b × Before b place
      go None i k = absurd (let z : false ≡ true = k in cc)
      go (Some b) i k = (b, i.0, true-is_before b place k)

  below_bound : (b : Place) → GoesOn m opening these s b → Before b place → is_below (place_in (events_of m opening these) s) place ≡ true
  below_bound b on lt = go (place_in (events_of m opening these) s) (bound_is m opening these s)
    where
      go : (o : Option Place) → IsBound m opening these s o → is_below o place ≡ true
      go None i = absurd (i b on)
      go (Some c) i = is_before-true c place (upto-before c b place (i.1 b on) lt)

not_true : (a : Bool) → not a ≡ true → a ≡ true → ⊥
not_true true h k = let z : false ≡ true = h in cc
not_true false h k = let z : false ≡ true = k in cc

true_not : (a : Bool) → (a ≡ true → ⊥) → not a ≡ true
true_not true h = absurd (h refl)
true_not false h = refl

-- **and the test of a quiet read is right**
pub quiet_true : (m : ThreadMeaning) (opening : Opening) (these : List Thread) (place : Place) (pattern : List Segment) → is_quiet m opening these place pattern ≡ true → Quiet m opening these place pattern
unfolding is_quiet
quiet_true m opening these place pattern h t b d on lt =
    not_true (any_below m (events_of m opening these) place (disturbers m these place pattern)) h
    (any_has m (events_of m opening these) place (disturbers m these place pattern) t (disturbs_listed m these place pattern t d) (below_bound m opening these (stance_in m t) place b on lt))

pub true_quiet : (m : ThreadMeaning) (opening : Opening) (these : List Thread) (place : Place) (pattern : List Segment) → Quiet m opening these place pattern → is_quiet m opening these place pattern ≡ true
unfolding is_quiet
true_quiet m opening these place pattern quiet =
    true_not (any_below m (events_of m opening these) place (disturbers m these place pattern))
    (λ h.
    let d = any_from m (events_of m opening these) place (disturbers m these place pattern) h in
    let b = bound_below m opening these (stance_in m d.0) place d.2 in
    quiet d.0 b.0 (listed_disturbs m these place pattern d.0 d.1) b.1 b.2)
