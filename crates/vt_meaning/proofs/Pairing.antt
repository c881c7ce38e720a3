-- The steps of a thread paired with its answers: each ask takes the next one, in order.
use Rattle.std.proofs.Common.{◌≡◌, ℕ, ◌<◌, List, [], ◌∷◌, ◌++◌, length, take, refl, sym, ◌∙◌, ap, inl, inr, ◌⊎◌, arith, Bool, true, false, zero, suc, subst, Option, Some, None, length-append}
use Rattle.std.specs.Prelude.{slice_get, cond, count_by}
use Rattle.std.proofs.lemmas.List.{length-take-le}
use Rattle.std.proofs.lemmas.List.Sums.{sum_by-cons}
use Rattle.vt_run.specs.Evaluation.{Step}
use Rattle.vt_run.specs.declared.action.Answer.{Answer}
use Rattle.vt_meaning.specs.Consistent.{got, has_answer}
use Rattle.vt_meaning.specs.Traces.{Entry, is_ask, paired}
use Rattle.vt_meaning.proofs.Lists.{entry_at, none_some, cut_at, front_of}

-- how many answers some steps take, and which are left
abbrev pub left : List Step → List Answer → List Answer
left [] answers = answers
left (step ∷ steps) [] = []
left (step ∷ steps) (a ∷ others) = cond (is_ask step.action) (left steps others) (left steps (a ∷ others))

-- what was answered in some entries
abbrev pub one_answer : Option Answer → List Answer
one_answer None = []
one_answer (Some a) = a ∷ []

abbrev pub answers_of : List Entry → List Answer
answers_of [] = []
answers_of (entry ∷ entries) = one_answer entry.answer ++ answers_of entries

pub paired_none : (steps : List Step) (further : List Step) → paired (steps ++ further) [] ≡ paired steps [] ++ paired further []
paired_none [] further = refl
paired_none (step ∷ steps) further = ap (λ l. record { step = step; answer = None } ∷ l) (paired_none steps further)

pub left_none : (steps : List Step) → left steps [] ≡ []
left_none [] = refl
left_none (step ∷ steps) = refl

pub paired-append : (steps further : List Step) (answers : List Answer) → paired (steps ++ further) answers ≡ paired steps answers ++ paired further (left steps answers)
paired-append [] further answers = refl
paired-append (step ∷ steps) further [] = ap (λ l. record { step = step; answer = None } ∷ l) (paired_none steps further)
paired-append (step ∷ steps) further (answer ∷ others) = by_kind (paired-append steps further others) (paired-append steps further (answer ∷ others)) (is_ask step.action)
  where
    by_kind : paired (steps ++ further) others ≡ paired steps others ++ paired further (left steps others) → paired (steps ++ further) (answer ∷ others) ≡ paired steps (answer ∷ others) ++ paired further (left steps (answer ∷ others)) → (c : Bool) → cond c (record { step = step; answer = Some answer } ∷ paired (steps ++ further) others) (record { step = step; answer = None } ∷ paired (steps ++ further) (answer ∷ others))
        ≡ cond c (record { step = step; answer = Some answer } ∷ paired steps others) (record { step = step; answer = None } ∷ paired steps (answer ∷ others)) ++ paired further (cond c (left steps others) (left steps (answer ∷ others)))
    by_kind asked plain true = ap (λ l. record { step = step; answer = Some answer } ∷ l) asked
    by_kind asked plain false = ap (λ l. record { step = step; answer = None } ∷ l) plain

pub length-paired : (steps : List Step) (answers : List Answer) → length (paired steps answers) ≡ length steps
length-paired [] answers = refl
length-paired (step ∷ steps) [] = ap suc (length-paired steps [])
length-paired (step ∷ steps) (answer ∷ others) = by_kind (length-paired steps others) (length-paired steps (answer ∷ others)) (is_ask step.action)
  where
    by_kind : length (paired steps others) ≡ length steps → length (paired steps (answer ∷ others)) ≡ length steps → (c : Bool) → length (cond c (record { step = step; answer = Some answer } ∷ paired steps others) (record { step = step; answer = None } ∷ paired steps (answer ∷ others))) ≡ suc (length steps)
    by_kind asked plain true = ap suc asked
    by_kind asked plain false = ap suc plain

pub answers_split_none : (steps : List Step) → [] ≡ answers_of (paired steps []) ++ []
answers_split_none [] = refl
answers_split_none (y ∷ ys) = answers_split_none ys

-- taken and left together are all answers
pub answers_split : (steps : List Step) (answers : List Answer) → answers ≡ answers_of (paired steps answers) ++ left steps answers
answers_split [] answers = refl
answers_split (step ∷ steps) [] = answers_split_none steps
answers_split (step ∷ steps) (answer ∷ others) = by_kind (answers_split steps others) (answers_split steps (answer ∷ others)) (is_ask step.action)
  where
    by_kind : others ≡ answers_of (paired steps others) ++ left steps others → answer ∷ others ≡ answers_of (paired steps (answer ∷ others)) ++ left steps (answer ∷ others) → (c : Bool) → answer ∷ others ≡ answers_of (cond c (record { step = step; answer = Some answer } ∷ paired steps others) (record { step = step; answer = None } ∷ paired steps (answer ∷ others))) ++ cond c (left steps others) (left steps (answer ∷ others))
    by_kind asked plain true = ap (λ l. answer ∷ l) asked
    by_kind asked plain false = plain

-- a part of a trace is its own pairing with the answers in it
pub paired_again : (steps further : List Step) (answers : List Answer) → paired steps (answers_of (paired (steps ++ further) answers)) ≡ paired steps answers
paired_again [] further answers = refl
paired_again (step ∷ steps) further [] = again_none
  where
    no_answers : (ys : List Step) → answers_of (paired ys []) ≡ []
    no_answers [] = refl
    no_answers (y ∷ ys) = no_answers ys

    again_none : paired (step ∷ steps) (answers_of (paired (steps ++ further) [])) ≡ record { step = step; answer = None } ∷ paired steps []
    again_none = ap (paired (step ∷ steps)) (no_answers (steps ++ further))
paired_again (step ∷ steps) further (answer ∷ others) = by_kind (paired_again steps further others) (paired_again steps further (answer ∷ others)) (is_ask step.action) refl
  where
    skip : (later : List Answer) → is_ask step.action ≡ false → paired (step ∷ steps) later ≡ record { step = step; answer = None } ∷ paired steps later
    skip [] e = refl
    skip (c ∷ later) e = rw e refl

    by_kind : paired steps (answers_of (paired (steps ++ further) others)) ≡ paired steps others → paired steps (answers_of (paired (steps ++ further) (answer ∷ others))) ≡ paired steps (answer ∷ others) →
        (c : Bool) → is_ask step.action ≡ c → paired (step ∷ steps) (answers_of (cond c (record { step = step; answer = Some answer } ∷ paired (steps ++ further) others) (record { step = step; answer = None } ∷ paired (steps ++ further) (answer ∷ others))))
        ≡ cond c (record { step = step; answer = Some answer } ∷ paired steps others) (record { step = step; answer = None } ∷ paired steps (answer ∷ others))
    by_kind asked plain true e = rw e (ap (λ l. record { step = step; answer = Some answer } ∷ l) asked)
    by_kind asked plain false e = skip (answers_of (paired (steps ++ further) (answer ∷ others))) e ∙ ap (λ l. record { step = step; answer = None } ∷ l) plain

-- only asks are told
abbrev pub Plain : Entry → Type 0
Plain x = (is_ask x.step.action ≡ true) ⊎ (x.answer ≡ None)

pub plain_cons : (entry : Entry) (ys : List Entry) → Plain entry → ((i : ℕ) (other : Entry) → slice_get ys i ≡ Some other → Plain other) → (i : ℕ) (other : Entry) → slice_get (entry ∷ ys) i ≡ Some other → Plain other
plain_cons entry ys p rest zero other h = let z : Some entry ≡ Some other = h in let e : entry ≡ other = cc z in subst Plain e p
plain_cons entry ys p rest (suc i) other h = rest i other h

pub paired_plain : (steps : List Step) (answers : List Answer) (i : ℕ) (entry : Entry) → slice_get (paired steps answers) i ≡ Some entry → Plain entry
paired_plain [] answers = λ i entry h. absurd (none_some h)
paired_plain (y ∷ ys) [] = plain_cons (record { step = y; answer = None }) (paired ys []) (inr refl) (paired_plain ys [])
paired_plain (y ∷ ys) (answer ∷ others) = by_kind (paired_plain ys others) (paired_plain ys (answer ∷ others)) (is_ask y.action) refl
  where
    by_kind : ((i : ℕ) (entry : Entry) → slice_get (paired ys others) i ≡ Some entry → Plain entry) → ((i : ℕ) (entry : Entry) → slice_get (paired ys (answer ∷ others)) i ≡ Some entry → Plain entry) →
        (c : Bool) → is_ask y.action ≡ c → (i : ℕ) (entry : Entry) → slice_get (cond c (record { step = y; answer = Some answer } ∷ paired ys others) (record { step = y; answer = None } ∷ paired ys (answer ∷ others))) i ≡ Some entry → Plain entry
    by_kind asked plain true e = plain_cons (record { step = y; answer = Some answer }) (paired ys others) (inl e) asked
    by_kind asked plain false e = plain_cons (record { step = y; answer = None }) (paired ys (answer ∷ others)) (inr refl) plain

abbrev pub steps_of : List Entry → List Step
steps_of [] = []
steps_of (entry ∷ entries) = entry.step ∷ steps_of entries

pub steps_of_paired : (steps : List Step) (answers : List Answer) → steps_of (paired steps answers) ≡ steps
steps_of_paired [] answers = refl
steps_of_paired (step ∷ steps) [] = ap (λ l. step ∷ l) (steps_of_paired steps [])
steps_of_paired (step ∷ steps) (answer ∷ others) = by_kind (steps_of_paired steps others) (steps_of_paired steps (answer ∷ others)) (is_ask step.action)
  where
    by_kind : steps_of (paired steps others) ≡ steps → steps_of (paired steps (answer ∷ others)) ≡ steps → (c : Bool) →
        steps_of (cond c (record { step = step; answer = Some answer } ∷ paired steps others) (record { step = step; answer = None } ∷ paired steps (answer ∷ others))) ≡ step ∷ steps
    by_kind asked plain true = ap (λ l. step ∷ l) asked
    by_kind asked plain false = ap (λ l. step ∷ l) plain

pub get_steps_of : (entries : List Entry) (i : ℕ) (entry : Entry) → slice_get entries i ≡ Some entry → slice_get (steps_of entries) i ≡ Some entry.step
get_steps_of [] i entry e = absurd (none_some e)
get_steps_of (y ∷ entries) zero entry e = let z : Some y ≡ Some entry = e in let s : y ≡ entry = cc z in ap (λ w. Some w.step) s
get_steps_of (y ∷ entries) (suc i) entry e = get_steps_of entries i entry e

-- so is the trace
pub take-paired : (steps : List Step) (answers : List Answer) (i : ℕ) → i < length steps → take i (paired steps answers) ≡ paired (take i steps) answers
take-paired steps answers i lt =
    let x = entry_at steps i lt in
    let c = cut_at steps i x.0 x.1 in
    let n : length (take i steps) ≡ i = length-take-le i steps (omega arith) in
    ap (λ l. take i (paired l answers)) c.1 ∙ ap (take i) (paired-append (take i steps) (x.0 ∷ c.0) answers)
    ∙ front_of (paired (take i steps) answers) (paired (x.0 ∷ c.0) (left (take i steps) answers)) i (length-paired (take i steps) answers ∙ n)

pub answers_count : (entries : List Entry) → length (answers_of entries) ≡ count_by has_answer entries
answers_count [] = refl
answers_count (entry ∷ entries) =
    let a = length-append (one_answer entry.answer) (answers_of entries) in
    let b = answers_count entries in
    let c = sum_by-cons (λ y. cond (has_answer y) 1 0) entry entries in
    let d = one entry.answer in
    omega (arith, a, b, c, d)
  where
    one : (o : Option Answer) → length (one_answer o) ≡ cond (got o) 1 0
    one None = refl
    one (Some a) = refl

abbrev pub one_if : Bool → ℕ
one_if c = cond c 1 0

abbrev pub asks : List Step → ℕ
asks steps = count_by (λ step. is_ask step.action) steps

pub skip : (step : Step) (steps : List Step) (later : List Answer) → is_ask step.action ≡ false → (paired (step ∷ steps) later ≡ record { step = step; answer = None } ∷ paired steps later) × (left (step ∷ steps) later ≡ left steps later)
skip step steps [] e = (refl, sym (left_none steps))
skip step steps (c ∷ later) e = (rw e refl, rw e refl)

-- the pairing of steps whose asks are all answered takes no more answers
pub all_used : (steps : List Step) (answers later : List Answer) → asks steps ≡ length answers → (paired steps (answers ++ later) ≡ paired steps answers) × (left steps (answers ++ later) ≡ later)
all_used [] [] later e = (refl, refl)
all_used [] (answer ∷ answers) later e = absurd (let z : 0 ≡ suc (length answers) = e in omega arith)
all_used (step ∷ steps) answers later e = by_kind answers e (is_ask step.action) refl (all_used steps)
  where
    by_kind : (answers : List Answer) → count_by (λ step. is_ask step.action) (step ∷ steps) ≡ length answers → (c : Bool) → is_ask step.action ≡ c →
        ((answers later : List Answer) → count_by (λ step. is_ask step.action) steps ≡ length answers → (paired steps (answers ++ later) ≡ paired steps answers) × (left steps (answers ++ later) ≡ later)) →
        (paired (step ∷ steps) (answers ++ later) ≡ paired (step ∷ steps) answers) × (left (step ∷ steps) (answers ++ later) ≡ later)
    by_kind answers e false c others =
        let k = sum_by-cons (λ y. cond (is_ask y.action) 1 0) step steps in
        let z : one_if (is_ask step.action) ≡ 0 = ap one_if c in
        let r = others answers later (omega (arith, e, k, z)) in
        let one = skip step steps (answers ++ later) c in
        let two = skip step steps answers c in
        (one.0 ∙ ap (λ l. record { step = step; answer = None } ∷ l) r.0 ∙ sym two.0, one.1 ∙ r.1)
    by_kind [] e true c others =
        let k = sum_by-cons (λ y. cond (is_ask y.action) 1 0) step steps in
        let z : one_if (is_ask step.action) ≡ 1 = ap one_if c in
        absurd (omega (arith, e, k, z))
    by_kind (answer ∷ answers) e true c others =
        let k = sum_by-cons (λ y. cond (is_ask y.action) 1 0) step steps in
        let z : one_if (is_ask step.action) ≡ 1 = ap one_if c in
        let r = others answers later (omega (arith, e, k, z)) in
        (rw c (ap (λ l. record { step = step; answer = Some answer } ∷ l) r.0), rw c r.1)

pub asked_answered : (entries : List Entry) → ((i : ℕ) (entry : Entry) → slice_get entries i ≡ Some entry → got entry.answer ≡ is_ask entry.step.action) → asks (steps_of entries) ≡ count_by has_answer entries
asked_answered [] each = refl
asked_answered (entry ∷ entries) each =
    let a = asked_answered entries (λ i y e. each (suc i) y e) in
    let b = sum_by-cons (λ y. cond (is_ask y.action) 1 0) entry.step (steps_of entries) in
    let c = sum_by-cons (λ y. cond (has_answer y) 1 0) entry entries in
    let d : one_if (got entry.answer) ≡ one_if (is_ask entry.step.action) = ap one_if (each 0 entry refl) in
    omega (arith, a, b, c, d)

pub steps_of-snoc : (entries : List Entry) (entry : Entry) → steps_of (entries ++ entry ∷ []) ≡ steps_of entries ++ entry.step ∷ []
steps_of-snoc [] entry = refl
steps_of-snoc (y ∷ entries) entry = ap (λ l. y.step ∷ l) (steps_of-snoc entries entry)

pub length-steps_of : (entries : List Entry) → length (steps_of entries) ≡ length entries
length-steps_of [] = refl
length-steps_of (y ∷ entries) = ap suc (length-steps_of entries)

pub last_pair : (step : Step) (answer : Answer) → is_ask step.action ≡ true → paired (step ∷ []) (answer ∷ []) ≡ record { step = step; answer = Some answer } ∷ []
last_pair step answer e = rw e refl
