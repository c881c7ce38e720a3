-- From the laws of the steps of a thread to those of its traces.
use Rattle.std.proofs.Common.{◌≡◌, ℕ, ◌+◌, ◌-◌, ◌<◌, ◌≤◌, List, [], ◌∷◌, ◌++◌, length, take, refl, sym, ◌∙◌, ap, inl, inr, ◌⊎◌, arith, true, false, zero, suc, subst, Option, Some, None, length-append, append_assoc, append-nil, add-zero}
use Rattle.std.specs.Prelude.{slice_get, cond, sum_by}
use Rattle.std.proofs.lemmas.Option.{slice_get_within}
use Rattle.std.proofs.lemmas.List.{take_all, take-append-le, length-take-le}
use Rattle.std.proofs.lemmas.List.Sums.{sum_by-cons, sum_by-append}
use Rattle.vt_event.specs.declared.place.Place.{Place}
use Rattle.vt_run.specs.Evaluation.{Step}
use Rattle.vt_run.specs.Standing.{Asks, Ready, Waits}
use Rattle.vt_run.specs.declared.action.Action.{Action}
use Rattle.vt_run.specs.declared.action.Action.TheVariants.{Emit, End, Read, Rest, Spawn, Wait}
use Rattle.vt_run.specs.declared.action.Answer.{Answer}
use Rattle.vt_run.specs.declared.start.Start.{Start}
use Rattle.vt_meaning.specs.Consistent.{got, has_answer, IsExact}
use Rattle.vt_meaning.specs.ThreadLaws.{AreActs, IsActs, IsLawful, IsLive}
use Rattle.vt_meaning.specs.ThreadMeaning.{ThreadMeaning}
use Rattle.vt_meaning.specs.Traces.{after_action, after_step, Entry, is_ask, paired, stance_in, standing, Thread, trace}
use Rattle.vt_meaning.specs.World.{begun, one_more, told}
use Rattle.vt_meaning.proofs.Order.{three}
use Rattle.vt_meaning.proofs.Traces.{standing_more}
use Rattle.vt_meaning.proofs.Pairing.{left, answers_of, paired-append, length-paired, answers_split, paired_again, paired_plain, steps_of, steps_of_paired, get_steps_of, take-paired, answers_count, one_if, asks, all_used, asked_answered, steps_of-snoc, length-steps_of, last_pair}
use Rattle.vt_meaning.proofs.Lists.{entry_at, get-append_left, take_front, take_one_more, get_front, take_past, front_of}

pub open_trace : (m : ThreadMeaning) (thread : Thread) → trace m thread ≡ paired (m.acts thread.start thread.answers thread.done) thread.answers
unfolding trace
open_trace m thread = refl

-- more steps only extend
pub longer_by : (m : ThreadMeaning) (a : AreActs m) (start : Start) (bs : List Answer) (n d : ℕ) → (r : List Step) × (m.acts start bs (n + d) ≡ m.acts start bs n ++ r)
longer_by m a start bs n zero = ([], ap (m.acts start bs) (add-zero n) ∙ sym (append-nil (m.acts start bs n)))
longer_by m a start bs n (suc d) =
    let b = longer_by m a start bs n d in
    let c = a.longer start bs (n + d) in
    (b.0 ++ c.0, ap (m.acts start bs) (let e : n + suc d ≡ (n + d) + 1 = omega arith in e) ∙ c.1 ∙ ap (λ l. l ++ c.0) b.1 ∙ append_assoc (m.acts start bs n) b.0 c.0)

pub further_by : (m : ThreadMeaning) (a : AreActs m) (start : Start) (bs cs : List Answer) (n : ℕ) → (r : List Step) × (m.acts start (bs ++ cs) n ≡ m.acts start bs n ++ r)
further_by m a start bs [] n = ([], ap (λ l. m.acts start l n) (append-nil bs) ∙ sym (append-nil (m.acts start bs n)))
further_by m a start bs (c ∷ cs) n =
    let b = a.further start bs c n in
    let d = further_by m a start (bs ++ c ∷ []) cs n in
    let e : bs ++ c ∷ cs ≡ (bs ++ c ∷ []) ++ cs = sym (append_assoc bs (c ∷ []) cs) in
    (b.0 ++ d.0, ap (λ l. m.acts start l n) e ∙ d.1 ∙ ap (λ l. l ++ d.0) b.1 ∙ append_assoc (m.acts start bs n) b.0 d.0)

le_cases : (a b : ℕ) → (a ≤ b) ⊎ (b < a)
le_cases a b = elim (three a b) [ inl l ↦ inl (omega arith) | inr (inl e) ↦ inl (omega arith) | inr (inr g) ↦ inr g ]

-- a step hangs on no answer that is not used before it
pub based : (m : ThreadMeaning) (a : AreActs m) (thread : Thread) (i : ℕ) (entry : Entry) → slice_get (trace m thread) i ≡ Some entry →
    slice_get (m.acts thread.start (answers_of (take i (trace m thread))) (suc i)) i ≡ Some entry.step
unfolding trace
based m a thread i entry xd = decide (suc i) (length zs) refl
  where
    xs : List Step
    xs = m.acts thread.start thread.answers thread.done

    lt : i < length xs
    lt = let w = slice_get_within (paired xs thread.answers) i entry xd in let l = length-paired xs thread.answers in omega (arith, w, l)

    sd : slice_get xs i ≡ Some entry.step
    sd = ap (λ l. slice_get l i) (sym (steps_of_paired xs thread.answers)) ∙ get_steps_of (paired xs thread.answers) i entry xd

    cs : List Answer
    cs = answers_of (take i (paired xs thread.answers))

    cs_is : cs ≡ answers_of (paired (take i xs) thread.answers)
    cs_is = ap answers_of (take-paired xs thread.answers i lt)

    zs : List Step
    zs = m.acts thread.start cs (suc i)

    whole : (w : List Step) × (xs ≡ zs ++ w)
    whole =
        let s = a.short thread.start thread.answers thread.done in
        let n : suc i + (thread.done - suc i) ≡ thread.done = omega (arith, lt, s) in
        let b = longer_by m a thread.start thread.answers (suc i) (thread.done - suc i) in
        let l : thread.answers ≡ cs ++ left (take i xs) thread.answers = answers_split (take i xs) thread.answers ∙ ap (λ l. l ++ left (take i xs) thread.answers) (sym cs_is) in
        let c = further_by m a thread.start cs (left (take i xs) thread.answers) (suc i) in (
          c.0 ++ b.0,
          ap (m.acts thread.start thread.answers) (sym n) ∙ b.1 ∙ ap (λ l. l ++ b.0) (ap (λ l. m.acts thread.start l (suc i)) l ∙ c.1)
              ∙ append_assoc zs c.0 b.0,
        )

    stuck : length zs ≤ i → ⊥
    stuck le =
        let e = entry_at (paired xs thread.answers) (length zs) (let l = length-paired xs thread.answers in omega (arith, l, lt)) in
        let here = a.placed thread (length zs) e.0 e.1 in
        let first : take (length zs) (paired xs thread.answers) ≡ paired zs thread.answers =
        ap (λ l. take (length zs) (paired l thread.answers)) whole.1 ∙ ap (take (length zs)) (paired-append zs whole.0 thread.answers)
        ∙ front_of (paired zs thread.answers) (paired whole.0 (left zs thread.answers)) (length zs) (length-paired zs thread.answers) in
        let past = take_past zs whole.0 i le in
        let again : paired zs cs ≡ paired zs thread.answers =
        ap (paired zs) (cs_is ∙ ap (λ l. answers_of (paired l thread.answers)) (ap (take i) whole.1 ∙ past.1)) ∙ paired_again zs past.0 thread.answers in
        a.stops thread.start cs (suc i) (omega arith) here.0 (ap (standing m thread.start) (again ∙ sym first) ∙ here.1)

    decide : (n l : ℕ) → length zs ≡ l → slice_get zs i ≡ Some entry.step
    decide n l e =
        elim (le_cases (length zs) i) [
          | inl le ↦ absurd (stuck le)
          | inr gt ↦ get_front zs xs whole.0 i entry.step whole.1 gt sd
        ]

-- the thread that stopped just behind this step: what it did, and that it was not told more
based_trace : (m : ThreadMeaning) (a : AreActs m) (thread : Thread) (i : ℕ) (entry : Entry) → slice_get (trace m thread) i ≡ Some entry →
    trace m (record { start = thread.start; answers = answers_of (take i (trace m thread)); done = suc i }) ≡ take i (trace m thread) ++ record { step = entry.step; answer = None } ∷ []
unfolding trace
based_trace m a thread i entry xd =
    ap (λ l. paired l cs) split ∙ paired-append (take i zs) (entry.step ∷ []) cs ∙ ap (λ w. paired (take i zs) cs ++ paired (entry.step ∷ []) w) unused
    ∙ ap (λ l. l ++ record { step = entry.step; answer = None } ∷ []) front
  where
    xs : List Step
    xs = m.acts thread.start thread.answers thread.done

    lt : i < length xs
    lt = let w = slice_get_within (paired xs thread.answers) i entry xd in let l = length-paired xs thread.answers in omega (arith, w, l)

    cs : List Answer
    cs = answers_of (take i (paired xs thread.answers))

    cs_is : cs ≡ answers_of (paired (take i xs) thread.answers)
    cs_is = ap answers_of (take-paired xs thread.answers i lt)

    zs : List Step
    zs = m.acts thread.start cs (suc i)

    got_it : slice_get zs i ≡ Some entry.step
    got_it = subst (λ l. slice_get (m.acts thread.start (answers_of (take i l)) (suc i)) i ≡ Some entry.step) (open_trace m thread) (based m a thread i entry (subst (λ l. slice_get l i ≡ Some entry) (sym (open_trace m thread)) xd))

    within : i < length zs
    within = slice_get_within zs i entry.step got_it

    whole : (w : List Step) × (xs ≡ zs ++ w)
    whole =
        let s = a.short thread.start thread.answers thread.done in
        let n : suc i + (thread.done - suc i) ≡ thread.done = omega (arith, lt, s) in
        let b = longer_by m a thread.start thread.answers (suc i) (thread.done - suc i) in
        let l : thread.answers ≡ cs ++ left (take i xs) thread.answers = answers_split (take i xs) thread.answers ∙ ap (λ l. l ++ left (take i xs) thread.answers) (sym cs_is) in
        let c = further_by m a thread.start cs (left (take i xs) thread.answers) (suc i) in (
          c.0 ++ b.0,
          ap (m.acts thread.start thread.answers) (sym n) ∙ b.1 ∙ ap (λ l. l ++ b.0) (ap (λ l. m.acts thread.start l (suc i)) l ∙ c.1)
              ∙ append_assoc zs c.0 b.0,
        )

    firsts : take i zs ≡ take i xs
    firsts = let w = within in sym (take-append-le i zs whole.0 (omega arith)) ∙ ap (take i) (sym whole.1)

    again : paired (take i xs) (answers_of (paired (take i xs) thread.answers)) ≡ paired (take i xs) thread.answers
    again = ap (λ l. paired (take i xs) (answers_of (paired l thread.answers))) (sym (append-nil (take i xs))) ∙ paired_again (take i xs) [] thread.answers

    front : paired (take i zs) cs ≡ take i (paired xs thread.answers)
    front = ap (λ l. paired l cs) firsts ∙ ap (paired (take i xs)) cs_is ∙ again ∙ sym (take-paired xs thread.answers i lt)

    split : zs ≡ take i zs ++ entry.step ∷ []
    split = let s = a.short thread.start cs (suc i) in sym (take_all (suc i) zs (omega (arith, s))) ∙ take_one_more zs i entry.step got_it

    unused : left (take i zs) cs ≡ []
    unused =
        let e = ap length (answers_split (take i zs) cs) in
        let f = length-append (answers_of (paired (take i zs) cs)) (left (take i zs) cs) in
        let g = ap (λ l. length (answers_of l)) front in
        sym (take_all 0 (left (take i zs) cs) (omega (arith, e, f, g)))

-- and that it did what it says
pub based_exact : (m : ThreadMeaning) (a : AreActs m) (thread : Thread) (i : ℕ) (entry : Entry) → slice_get (trace m thread) i ≡ Some entry →
    (trace m (record { start = thread.start; answers = answers_of (take i (trace m thread)); done = suc i }) ≡ take i (trace m thread) ++ record { step = entry.step; answer = None } ∷ [])
    × IsExact m (record { start = thread.start; answers = answers_of (take i (trace m thread)); done = suc i })
based_exact m a thread i entry xd =
    let e = based_trace m a thread i entry xd in
    let h = take i (trace m thread) in
    let w = slice_get_within (trace m thread) i entry xd in
    let y : Entry = record { step = entry.step; answer = None } in
    let n = length-take-le i (trace m thread) (omega arith) in (
      e,
      record {
        done = let l = ap length e in let k = length-append h (y ∷ []) in omega (arith, l, k, n);
        used =
            let c : Entry → ℕ = λ v. cond (has_answer v) 1 0 in
            let l = ap (sum_by c) e ∙ sum_by-append c h (y ∷ []) in
            let k = sum_by-cons c y [] in
            let u = answers_count h in
            omega (arith, l, k, u);
      },
    )

-- **after the same steps and answers two threads of one start take the same step**
acts_same : (m : ThreadMeaning) (a : AreActs m) (thread twin : Thread) (i : ℕ) (entry other : Entry) → thread.start ≡ twin.start → take i (trace m thread) ≡ take i (trace m twin) →
    slice_get (trace m thread) i ≡ Some entry → slice_get (trace m twin) i ≡ Some other → entry.step ≡ other.step
acts_same m a thread twin i entry other start same xd yd =
    let b = based m a thread i entry xd in
    let c = based m a twin i other yd in
    let z : Some entry.step ≡ Some other.step = sym b ∙ ap (λ s. slice_get (m.acts s (answers_of (take i (trace m thread))) (suc i)) i) start ∙ ap (λ h. slice_get (m.acts twin.start (answers_of h) (suc i)) i) same ∙ c in
    cc z

-- who did all its steps and used all answers has none to use
none_left : (m : ThreadMeaning) (thread : Thread) → IsExact m thread → left (m.acts thread.start thread.answers thread.done) thread.answers ≡ []
unfolding trace
none_left m thread ex =
    let xs = m.acts thread.start thread.answers thread.done in
    let a = ap length (answers_split xs thread.answers) in
    let b = length-append (answers_of (paired xs thread.answers)) (left xs thread.answers) in
    let c = answers_count (paired xs thread.answers) in
    let d = ex.used in
    sym (take_all 0 (left xs thread.answers) (omega (arith, a, b, c, d)))

-- its answers can be read off its trace
pub exact_answers : (m : ThreadMeaning) (thread : Thread) → IsExact m thread → thread.answers ≡ answers_of (trace m thread)
unfolding trace
exact_answers m thread ex =
    let xs = m.acts thread.start thread.answers thread.done in
    answers_split xs thread.answers ∙ ap (λ l. answers_of (paired xs thread.answers) ++ l) (none_left m thread ex) ∙ append-nil (answers_of (paired xs thread.answers))

acts_grows : (m : ThreadMeaning) (a : AreActs m) (thread : Thread) (place : Place) → IsExact m thread → stance_in m thread ≡ Ready place →
    (entry : Entry) × (trace m (one_more thread) ≡ trace m thread ++ entry ∷ []) × (entry.answer ≡ None)
unfolding trace
acts_grows m a thread place ex goes = go more.0 more.1
  where
    xs : List Step
    xs = m.acts thread.start thread.answers thread.done

    n : length xs ≡ thread.done
    n = sym (length-paired xs thread.answers) ∙ ex.done

    more : (r : List Step) × (m.acts thread.start thread.answers (thread.done + 1) ≡ xs ++ r)
    more = a.longer thread.start thread.answers thread.done

    go : (r : List Step) → m.acts thread.start thread.answers (thread.done + 1) ≡ xs ++ r → (entry : Entry) × (paired (m.acts thread.start thread.answers (thread.done + 1)) thread.answers ≡ paired xs thread.answers ++ entry ∷ []) × (entry.answer ≡ None)
    go [] e =
        let f : m.acts thread.start thread.answers (thread.done + 1) ≡ xs = e ∙ append-nil xs in
        let l = ap length f in
        let k = n in
        absurd (a.stops thread.start thread.answers (thread.done + 1) (omega (arith, l, k)) place (ap (λ w. standing m thread.start (paired w thread.answers)) f ∙ goes))
    go (entry ∷ []) e = (
      record { step = entry; answer = None },
      ap (λ w. paired w thread.answers) e ∙ paired-append xs (entry ∷ []) thread.answers ∙ ap (λ w. paired xs thread.answers ++ paired (entry ∷ []) w) (none_left m thread ex),
      refl,
    )
    go (entry ∷ y ∷ r) e =
        let s = a.short thread.start thread.answers (thread.done + 1) in
        let l = ap length e in
        let f = length-append xs (entry ∷ y ∷ r) in
        let k = n in
        absurd (omega (arith, s, l, f, k))

trace_plain : (m : ThreadMeaning) (thread : Thread) (i : ℕ) (entry : Entry) → slice_get (trace m thread) i ≡ Some entry → (is_ask entry.step.action ≡ true) ⊎ (entry.answer ≡ None)
unfolding trace
trace_plain m thread i entry d = paired_plain (m.acts thread.start thread.answers thread.done) thread.answers i entry d

-- an ask that others follow is told
followed : (m : ThreadMeaning) (a : AreActs m) (thread : Thread) (entries : List Entry) (entry : Entry) → trace m thread ≡ entries ++ entry ∷ [] → (i : ℕ) (other : Entry) → slice_get entries i ≡ Some other → got other.answer ≡ is_ask other.step.action
followed m a thread entries entry whole i other e = elim (trace_plain m thread i other did) [ inl ask ↦ asked other.step.action refl ask other.answer refl | inr none ↦ plain other.step.action refl none ]
  where
    did : slice_get (trace m thread) i ≡ Some other
    did = subst (λ l. slice_get l i ≡ Some other) (sym whole) (get-append_left entries (entry ∷ []) i other e)

    stuck : (act : Action) → other.step.action ≡ Some act → other.answer ≡ None → ((place : Place) → after_action m.until act None ≡ Ready place → ⊥) → ⊥
    stuck act is none never =
        let w = slice_get_within entries i other e in
        let l = ap length whole in
        let f = length-append entries (entry ∷ []) in
        let z = entry_at (trace m thread) (suc i) (omega (arith, w, l, f)) in
        let here = a.placed thread (suc i) z.0 z.1 in
        never here.0
        (sym (ap (λ o. after_action m.until act o) none) ∙ sym (ap (λ o. after_step m.until (standing m thread.start (take i (trace m thread))) o other.answer) is)
        ∙ sym (standing_more m thread.start (trace m thread) i other did) ∙ here.1)

    asked : (act : Option Action) → other.step.action ≡ act → is_ask act ≡ true → (o : Option Answer) → other.answer ≡ o → got other.answer ≡ is_ask other.step.action
    asked act is ask (Some b) ans = ap got ans ∙ sym ask ∙ ap is_ask (sym is)
    asked None is ask None ans = absurd (let n : false ≡ true = ask in cc)
    asked (Some (Emit _)) is ask None ans = absurd (let n : false ≡ true = ask in cc)
    asked (Some (Rest _ _)) is ask None ans = absurd (let n : false ≡ true = ask in cc)
    asked (Some (Spawn _ _)) is ask None ans = absurd (let n : false ≡ true = ask in cc)
    asked (Some (End _ _)) is ask None ans = absurd (let n : false ≡ true = ask in cc)
    asked (Some (Read p q)) is ask None ans = absurd (stuck (Read p q) is ans (λ place g. let n : Asks p q ≡ Ready place = g in cc))
    asked (Some (Wait p q c)) is ask None ans = absurd (stuck (Wait p q c) is ans (λ place g. let n : Waits p q c ≡ Ready place = g in cc))

    plain : (act : Option Action) → other.step.action ≡ act → other.answer ≡ None → got other.answer ≡ is_ask other.step.action
    plain None is none = ap got none ∙ ap is_ask (sym is)
    plain (Some (Emit _)) is none = ap got none ∙ ap is_ask (sym is)
    plain (Some (Rest _ _)) is none = ap got none ∙ ap is_ask (sym is)
    plain (Some (Spawn _ _)) is none = ap got none ∙ ap is_ask (sym is)
    plain (Some (End _ _)) is none = ap got none ∙ ap is_ask (sym is)
    plain (Some (Read p q)) is none = absurd (stuck (Read p q) is none (λ place g. let n : Asks p q ≡ Ready place = g in cc))
    plain (Some (Wait p q c)) is none = absurd (stuck (Wait p q c) is none (λ place g. let n : Waits p q c ≡ Ready place = g in cc))

-- of a trace with an open ask at its end an answer fills that alone
acts_replies : (m : ThreadMeaning) (a : AreActs m) (thread : Thread) (answer : Answer) (entries : List Entry) (entry : Entry) → IsExact m thread → trace m thread ≡ entries ++ entry ∷ [] → is_ask entry.step.action ≡ true → entry.answer ≡ None →
    trace m (told answer thread) ≡ entries ++ record { step = entry.step; answer = Some answer } ∷ []
acts_replies m a thread answer entries entry ex whole ask none = open_trace m (told answer thread) ∙ ap (λ l. paired l (thread.answers ++ answer ∷ [])) same_steps ∙ pairs
  where
    xs : List Step
    xs = m.acts thread.start thread.answers thread.done

    tr : trace m thread ≡ paired xs thread.answers
    tr = open_trace m thread

    n : length xs ≡ thread.done
    n = sym (length-paired xs thread.answers) ∙ ap length (sym tr) ∙ ex.done

    x1 : List Step
    x1 = steps_of entries

    xs_is : xs ≡ x1 ++ entry.step ∷ []
    xs_is = sym (steps_of_paired xs thread.answers) ∙ ap steps_of (sym tr ∙ whole) ∙ steps_of-snoc entries entry

    same_steps : m.acts thread.start (thread.answers ++ answer ∷ []) thread.done ≡ x1 ++ entry.step ∷ []
    same_steps =
        let f = a.further thread.start thread.answers answer thread.done in
        let s = a.short thread.start (thread.answers ++ answer ∷ []) thread.done in
        let l = ap length f.1 in
        let g = length-append xs f.0 in
        let k = n in
        let r : f.0 ≡ [] = sym (take_all 0 f.0 (omega (arith, s, l, g, k))) in
        f.1 ∙ ap (λ w. xs ++ w) r ∙ append-nil xs ∙ xs_is

    counts : asks x1 ≡ length thread.answers
    counts =
        let c : Entry → ℕ = λ y. cond (has_answer y) 1 0 in
        let e = asked_answered entries (followed m a thread entries entry whole) in
        let u = ex.used in
        let w = ap (sum_by c) whole ∙ sum_by-append c entries (entry ∷ []) in
        let v = sum_by-cons c entry [] in
        let z : c entry ≡ 0 = ap (λ o. one_if (got o)) none in
        omega (arith, e, u, w, v, z)

    front : paired x1 thread.answers ≡ entries
    front =
        let e = sym (paired-append x1 (entry.step ∷ []) thread.answers) ∙ ap (λ l. paired l thread.answers) (sym xs_is) ∙ sym tr ∙ whole in
        sym (front_of (paired x1 thread.answers) (paired (entry.step ∷ []) (left x1 thread.answers)) (length entries) (length-paired x1 thread.answers ∙ length-steps_of entries))
        ∙ ap (take (length entries)) e ∙ take_front entries (entry ∷ [])

    pairs : paired (x1 ++ entry.step ∷ []) (thread.answers ++ answer ∷ []) ≡ entries ++ record { step = entry.step; answer = Some answer } ∷ []
    pairs =
        let u = all_used x1 thread.answers (answer ∷ []) counts in
        paired-append x1 (entry.step ∷ []) (thread.answers ++ answer ∷ []) ∙ ap (λ w. paired x1 (thread.answers ++ answer ∷ []) ++ paired (entry.step ∷ []) w) u.1
        ∙ ap (λ w. w ++ paired (entry.step ∷ []) (answer ∷ [])) (u.0 ∙ front) ∙ ap (λ w. entries ++ w) (last_pair entry.step answer ask)

-- **both sorts of laws, as the theory takes them**
pub acts_lawful : (m : ThreadMeaning) → IsActs m → IsLawful m
acts_lawful m a = record { same = acts_same m a.acts; placed = a.acts.placed; plain = trace_plain m; later = a.acts.later; reach = a.reach }

pub acts_live : (m : ThreadMeaning) → AreActs m → IsLive m
acts_live m a =
    record {
      grows = acts_grows m a;
      replies = acts_replies m a;
      nothing = λ s. open_trace m (begun s) ∙ ap (λ l. paired l []) (sym (take_all 0 (m.acts s [] 0) (a.short s [] 0)));
      costs = λ t i x d. a.costs t.start t.answers t.done i x.step (ap (λ l. slice_get l i) (sym (steps_of_paired (m.acts t.start t.answers t.done) t.answers)) ∙ get_steps_of (paired (m.acts t.start t.answers t.done) t.answers) i x (subst (λ l. slice_get l i ≡ Some x) (open_trace m t) d));
      named = a.named;
    }
