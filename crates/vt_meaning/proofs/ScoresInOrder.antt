-- The same things in order are the same list.
use Rattle.std.proofs.Common.{◌≡◌, ℕ, List, [], ◌∷◌, refl, sym, ◌∙◌, ap, inl, inr, ◌⊎◌, arith, Bool, true, false, zero, suc, subst, Option, Some, None}
use Rattle.std.specs.Prelude.{slice_get, Contains, cond}
use Rattle.std.specs.declared.cmp.Ordering.{Ordering}
use Rattle.std.specs.declared.cmp.Ordering.TheVariants.{Less, Equal, Greater}
use Rattle.std.specs.Ordering.{is_lt, ordering_reverse}
use Rattle.std.proofs.lemmas.Cmp.{tied_itself}
use Rattle.std.proofs.lemmas.List.Elements.{Contains-append_left, Contains-append_right, Contains-append_cases}
use Rattle.vt_event.specs.declared.score.LivingState.{LivingState}
use Rattle.vt_event.specs.OrderLaws.{thread_total}
use Rattle.vt_event.specs.Event.{EventView}
use Rattle.vt_event.specs.Order.{thread_order}
use Rattle.vt_event.specs.declared.score.Living.{Living}
use Rattle.vt_meaning.specs.Meaning.{in_order, is_event_before, is_living_before, living_by, living_in, put_in, state_in}
use Rattle.vt_meaning.specs.Theorems.{Lives}
use Rattle.vt_meaning.specs.ThreadMeaning.{ThreadMeaning}
use Rattle.vt_meaning.specs.Traces.{stance_in, Thread}
use Rattle.vt_meaning.proofs.Order.{before-trans, before-irrefl, before-cases, true-is_before, is_before-true, thread-equal}
use Rattle.vt_meaning.proofs.FrontAndBounds.{contains_cons, contains_here, contains_there}
use Rattle.vt_meaning.proofs.Lists.{none_some}

module _ {A : Type 0} (before : A → A → Bool) (onward : (x y z : A) → before x y ≡ true → before y z ≡ true → before x z ≡ true) (never : (x : A) → before x x ≡ true → ⊥) where
  -- each is before all behind it
  abbrev pub Rises : List A → Type 0
  Rises [] = Unit {0}
  Rises (e ∷ es) = ((f : A) → Contains es f → before e f ≡ true) × Rises es

  -- two of these of which none is before the other are one
  abbrev pub Apart : List A → Type 0
  Apart es = (e f : A) → Contains es e → Contains es f → before e f ≡ false → before f e ≡ false → e ≡ f

  -- what is there once e was put in is e or was there
  placed_from : (e : A) (l : List A) (f : A) → Contains (put_in before e l) f → (e ≡ f) ⊎ Contains l f
  placed_from e [] f h = contains_cons e [] f h
  placed_from e (g ∷ gs) f h = go (before g e) (before e g) (placed_from e gs f) h
    where
      go : (d c : Bool) → (Contains (put_in before e gs) f → (e ≡ f) ⊎ Contains gs f) → Contains (cond d (g ∷ put_in before e gs) (cond c (e ∷ g ∷ gs) (g ∷ gs))) f → (e ≡ f) ⊎ Contains (g ∷ gs) f
      go false true rest h = contains_cons e (g ∷ gs) f h
      go true c rest h =
          elim (contains_cons g (put_in before e gs) f h) [
            | inl z ↦ inr (subst (Contains (g ∷ gs)) z (contains_here g gs))
            | inr k ↦ elim (rest k) [ inl z ↦ inl z | inr k' ↦ inr (contains_there g gs f k') ]
          ]
      go false false rest h = inr h

  placed_old : (e : A) (l : List A) (f : A) → Contains l f → Contains (put_in before e l) f
  placed_old e [] f h = absurd (let z = h.1 in omega arith)
  placed_old e (g ∷ gs) f h = go (before g e) (before e g) (placed_old e gs f)
    where
      go : (d c : Bool) → (Contains gs f → Contains (put_in before e gs) f) → Contains (cond d (g ∷ put_in before e gs) (cond c (e ∷ g ∷ gs) (g ∷ gs))) f
      go false true rest = contains_there e (g ∷ gs) f h
      go true c rest =
          elim (contains_cons g gs f h)
          [ inl z ↦ subst (Contains (g ∷ put_in before e gs)) z (contains_here g (put_in before e gs)) | inr k ↦ contains_there g (put_in before e gs) f (rest k) ]
      go false false rest = h

  placed_new : (e : A) (l : List A) → ((f : A) → Contains l f → before e f ≡ false → before f e ≡ false → e ≡ f) → Contains (put_in before e l) e
  placed_new e [] apart = contains_here e []
  placed_new e (g ∷ gs) apart = go (before g e) refl (before e g) refl (placed_new e gs (λ f k. apart f (contains_there g gs f k)))
    where
      go : (d : Bool) → before g e ≡ d → (c : Bool) → before e g ≡ c → Contains (put_in before e gs) e → Contains (cond d (g ∷ put_in before e gs) (cond c (e ∷ g ∷ gs) (g ∷ gs))) e
      go false de true ce rest = contains_here e (g ∷ gs)
      go true de c ce rest = contains_there g (put_in before e gs) e rest
      go false de false ce rest = subst (Contains (g ∷ gs)) (sym (apart g (contains_here g gs) ce de)) (contains_here g gs)

  placed_rises : (e : A) (l : List A) → Rises l → Rises (put_in before e l)
  placed_rises e [] r = (λ f h. absurd (let z = h.1 in omega arith), tt)
  placed_rises e (g ∷ gs) r = go (before g e) refl (before e g) refl (placed_rises e gs r.1)
    where
      go : (d : Bool) → before g e ≡ d → (c : Bool) → before e g ≡ c → Rises (put_in before e gs) → Rises (cond d (g ∷ put_in before e gs) (cond c (e ∷ g ∷ gs) (g ∷ gs)))
      go false de true ce rest = (
        λ f h.
            elim (contains_cons g gs f h) [
              | inl z ↦ subst (λ w. before e w ≡ true) z ce
              | inr k ↦ onward e g f ce (r.0 f k)
            ],
        r,
      )
      go true de c ce rest =
          (λ f h. elim (placed_from e gs f h) [ inl z ↦ subst (λ w. before g w ≡ true) z de | inr k ↦ r.0 f k ], rest)
      go false de false ce rest = r

  pub ordered_rises : (es : List A) → Rises (in_order before es)
  ordered_rises [] = tt
  ordered_rises (e ∷ es) = placed_rises e (in_order before es) (ordered_rises es)

  pub ordered_from : (es : List A) (f : A) → Contains (in_order before es) f → Contains es f
  ordered_from [] f h = h
  ordered_from (e ∷ es) f h =
      elim (placed_from e (in_order before es) f h)
      [ inl z ↦ subst (Contains (e ∷ es)) z (contains_here e es) | inr k ↦ contains_there e es f (ordered_from es f k) ]

  pub ordered_has : (es : List A) → Apart es → (f : A) → Contains es f → Contains (in_order before es) f
  ordered_has [] apart f h = h
  ordered_has (e ∷ es) apart f h =
      elim (contains_cons e es f h) [
        | inl z ↦
            subst (Contains (put_in before e (in_order before es))) z
            (placed_new e (in_order before es) (λ g k s t. apart e g (contains_here e es) (contains_there e es g (ordered_from es g k)) s t))
        | inr k ↦
            placed_old e (in_order before es) f (ordered_has es (λ a b x y s t. apart a b (contains_there e es a x) (contains_there e es b y) s t) f k)
      ]

  empty_has : (f : A) → Contains [] f → ⊥
  empty_has f h = let z = h.1 in omega arith

  -- two rising lists of the same things are one
  pub rising_same : (xs ys : List A) → Rises xs → Rises ys → ((f : A) → Contains xs f → Contains ys f) → ((f : A) → Contains ys f → Contains xs f) → xs ≡ ys
  rising_same [] [] r s there back = refl
  rising_same [] (y ∷ ys) r s there back = absurd (empty_has y (back y (contains_here y ys)))
  rising_same (x ∷ xs) [] r s there back = absurd (empty_has x (there x (contains_here x xs)))
  rising_same (x ∷ xs) (y ∷ ys) r s there back =
      let head : x ≡ y =
      elim (contains_cons y ys x (there x (contains_here x xs))) [
        | inl z ↦ sym z
        | inr k ↦
            elim (contains_cons x xs y (back y (contains_here y ys)))
            [ inl z ↦ z | inr l ↦ absurd (never x (onward x y x (r.0 y l) (s.0 x k))) ]
      ] in
      let tail : xs ≡ ys =
      rising_same xs ys r.1 s.1
      (λ f k.
      elim (contains_cons y ys f (there f (contains_there x xs f k)))
      [ inl z ↦ absurd (never f (subst (λ w. before w f ≡ true) (head ∙ z) (r.0 f k))) | inr l ↦ l ])
      (λ f k.
      elim (contains_cons x xs f (back f (contains_there y ys f k)))
      [ inl z ↦ absurd (never f (subst (λ w. before w f ≡ true) (sym head ∙ z) (s.0 f k))) | inr l ↦ l ]) in
      cc

  -- **two lists with the same entries are one when both are put in order**
  pub in_order_same : (xs ys : List A) → Apart xs → Apart ys → ((f : A) → Contains xs f → Contains ys f) → ((f : A) → Contains ys f → Contains xs f) → in_order before xs ≡ in_order before ys
  in_order_same xs ys ax ay there back =
      rising_same (in_order before xs) (in_order before ys) (ordered_rises xs) (ordered_rises ys)
      (λ f h. ordered_has ys ay f (there f (ordered_from xs f h)))
      (λ f h. ordered_has xs ax f (back f (ordered_from ys f h)))

-- events by their places
pub events_onward : (event y z : EventView) → is_event_before event y ≡ true → is_event_before y z ≡ true → is_event_before event z ≡ true
events_onward event y z h k = is_before-true event.place z.place (before-trans event.place y.place z.place (true-is_before event.place y.place h) (true-is_before y.place z.place k))

pub events_never : (event : EventView) → is_event_before event event ≡ true → ⊥
events_never event h = before-irrefl event.place (true-is_before event.place event.place h)

pub same_place : (event f : EventView) → is_event_before event f ≡ false → is_event_before f event ≡ false → event.place ≡ f.place
same_place event f a b =
    elim (before-cases event.place f.place) [
      | inl lt ↦ absurd (let z : true ≡ false = sym (is_before-true event.place f.place lt) ∙ a in cc)
      | inr (inl z) ↦ z
      | inr (inr gt) ↦ absurd (let z : true ≡ false = sym (is_before-true f.place event.place gt) ∙ b in cc)
    ]

-- threads by their lists
less_of : (o : Ordering) → is_lt o ≡ true → o ≡ Less
less_of Less h = refl
less_of Equal h = absurd (let z : false ≡ true = h in cc)
less_of Greater h = absurd (let z : false ≡ true = h in cc)

pub living_onward : (x y z : Living) → is_living_before x y ≡ true → is_living_before y z ≡ true → is_living_before x z ≡ true
living_onward x y z h k = ap is_lt (thread_total.trans x.thread y.thread z.thread (less_of (thread_order x.thread y.thread) h) (less_of (thread_order y.thread z.thread) k))

pub living_never : (x : Living) → is_living_before x x ≡ true → ⊥
living_never x h = let z : false ≡ true = sym (ap is_lt (tied_itself thread_total x.thread)) ∙ h in cc

same_thread : (x y : Living) → is_living_before x y ≡ false → is_living_before y x ≡ false → x.thread ≡ y.thread
same_thread x y a b = go (thread_order x.thread y.thread) refl
  where
    go : (o : Ordering) → thread_order x.thread y.thread ≡ o → x.thread ≡ y.thread
    go Less e = absurd (let z : true ≡ false = sym (ap is_lt e) ∙ a in cc)
    go Equal e = thread-equal x.thread y.thread e
    go Greater e = absurd (let z : true ≡ false = sym (ap is_lt (thread_total.antisymm y.thread x.thread ∙ ap ordering_reverse e)) ∙ b in cc)

one_from : (l : List ℕ) (o : Option LivingState) (x : Living) → Contains (living_by l o) x → (x.thread ≡ l) × (o ≡ Some x.state)
one_from l None x h = absurd (let z = h.1 in omega arith)
one_from l (Some g) x h =
    elim (contains_cons (record { thread = l; state = g }) [] x h) [
      | inl z ↦ (ap (λ y. y.thread) (sym z), ap (λ y. Some y.state) z)
      | inr k ↦ absurd (let z = k.1 in omega arith)
    ]

pub lives_from : (m : ThreadMeaning) (these : List Thread) (x : Living) → Contains (living_in m these) x → Lives m these x
lives_from m [] x h = absurd (let z = h.1 in omega arith)
lives_from m (t ∷ these) x h =
    elim (Contains-append_cases (living_by t.start.place.thread (state_in (stance_in m t))) (living_in m these) x h) [
      | inl a ↦ (let o = one_from t.start.place.thread (state_in (stance_in m t)) x a in record { at = 0; thread = t; has = refl; list = o.0; state = o.1 })
      | inr b ↦ (let r = lives_from m these x b in record { at = suc r.at; thread = r.thread; has = r.has; list = r.list; state = r.state })
    ]

lives_at : (m : ThreadMeaning) (these : List Thread) (k : ℕ) (thread : Thread) (x : Living) → slice_get these k ≡ Some thread → x.thread ≡ thread.start.place.thread → state_in (stance_in m thread) ≡ Some x.state → Contains (living_in m these) x
lives_at m [] k thread x has list how = absurd (none_some has)
lives_at m (u ∷ those) zero thread x has list how =
    let z : Some u ≡ Some thread = has in
    let same : u ≡ thread = cc z in
    let e : state_in (stance_in m u) ≡ Some x.state = ap (λ v. state_in (stance_in m v)) same ∙ how in
    let l : u.start.place.thread ≡ x.thread = ap (λ v. v.start.place.thread) same ∙ sym list in
    let here : Contains (living_by x.thread (Some x.state)) x = contains_here x [] in
    Contains-append_left (living_by u.start.place.thread (state_in (stance_in m u))) (living_in m those) x
    (subst (λ o. Contains (living_by u.start.place.thread o) x) (sym e) (subst (λ w. Contains (living_by w (Some x.state)) x) (sym l) here))
lives_at m (u ∷ those) (suc k) thread x has list how =
    Contains-append_right (living_by u.start.place.thread (state_in (stance_in m u))) (living_in m those) x (lives_at m those k thread x has list how)

pub lives_has : (m : ThreadMeaning) (these : List Thread) (x : Living) → Lives m these x → Contains (living_in m these) x
lives_has m these x l = lives_at m these l.at l.thread x l.has l.list l.state

-- no two threads have one list
abbrev pub OwnLists : List Thread → Type 0
OwnLists vs = (k l : ℕ) (thread twin : Thread) → slice_get vs k ≡ Some thread → slice_get vs l ≡ Some twin → thread.start.place.thread ≡ twin.start.place.thread → k ≡ l

alone : (m : ThreadMeaning) (vs : List Thread) → OwnLists vs → Apart is_living_before living_onward living_never (living_in m vs)
alone m vs va x y h k below above =
    let a = lives_from m vs x h in
    let b = lives_from m vs y k in
    let same : x.thread ≡ y.thread = same_thread x y below above in
    let at : a.at ≡ b.at = va a.at b.at a.thread b.thread a.has b.has (sym a.list ∙ same ∙ b.list) in
    let z : Some a.thread ≡ Some b.thread = sym a.has ∙ ap (slice_get vs) at ∙ b.has in
    let t : a.thread ≡ b.thread = cc z in
    let o : Some x.state ≡ Some y.state = sym a.state ∙ ap (λ v. state_in (stance_in m v)) t ∙ b.state in
    let state : x.state ≡ y.state = cc o in
    λ j. record { thread = same j; state = state j }

-- **so are the lists of the living of two sets with the same threads**
pub living_same : (m m' : ThreadMeaning) (these those : List Thread) → OwnLists these → OwnLists those →
    ((k : ℕ) (thread : Thread) → slice_get these k ≡ Some thread → (l : ℕ) × (twin : Thread) × (slice_get those l ≡ Some twin) × (thread.start.place.thread ≡ twin.start.place.thread) × (stance_in m thread ≡ stance_in m' twin)) →
    ((l : ℕ) (twin : Thread) → slice_get those l ≡ Some twin → (k : ℕ) × (thread : Thread) × (slice_get these k ≡ Some thread) × (twin.start.place.thread ≡ thread.start.place.thread) × (stance_in m' twin ≡ stance_in m thread)) →
    in_order is_living_before (living_in m these) ≡ in_order is_living_before (living_in m' those)
living_same m m' these those ta ua there back =
    in_order_same is_living_before living_onward living_never (living_in m these) (living_in m' those) (alone m these ta) (alone m' those ua) (over m m' these those there) (over m' m those these back)
  where
    over : (m m' : ThreadMeaning) (vs ws : List Thread) → ((k : ℕ) (thread : Thread) → slice_get vs k ≡ Some thread → (l : ℕ) × (twin : Thread) × (slice_get ws l ≡ Some twin) × (thread.start.place.thread ≡ twin.start.place.thread) × (stance_in m thread ≡ stance_in m' twin)) →
        (x : Living) → Contains (living_in m vs) x → Contains (living_in m' ws) x
    over m m' vs ws both x h =
        let a = lives_from m vs x h in
        let b = both a.at a.thread a.has in
        lives_at m' ws b.0 b.1 x b.2 (a.list ∙ b.3) (ap state_in (sym b.4) ∙ a.state)
