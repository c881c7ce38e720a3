-- From one place of an evaluation to another: how ways follow each other.
use Rattle.std.proofs.Common.{◌≡◌, ◌⊎◌, inl, inr, ◌≤◌, ◌<◌, ℕ, zero, suc, List, [], ◌∷◌, ◌++◌, Option, Some, None, Result, Ok, Err, refl, sym, ap, ◌∙◌, subst, append_assoc, arith}
use Rattle.std.specs.Prelude.{IsTrue, OnOk, IfOk}
use Rattle.std.specs.List.{AllByRecursion}
use Rattle.vt_value.specs.declared.value.Value.{Value}
use Rattle.vt_run.specs.declared.action.Action.{Action}
use Rattle.vt_run.specs.declared.state.State.{State}
use Rattle.vt_run.specs.Evaluation.{Left, Next, Ran, Step, after, charges, does, gives, goes_on, halts, spends, step, tick}
use Rattle.vt_run.specs.Leads.{Leads}
use Rattle.vt_run.specs.Notes.{IsOver, Notes, RestFits, capped, finished, note, noted, seen}
use Rattle.vt_run.proofs.Composition.{after_assoc}
use Rattle.vt_run.proofs.notes.Leads.{note_capped, noted_over, passed_over}
use Rattle.vt_eval_steps.specs.declared.run.Run.{Run}
use Rattle.vt_eval_steps.specs.Making.{Closes, Comes, DoesFit, Exceeds, Leaves, Makes, Passes, Passing, Closing, Exceeding}
use Rattle.vt_eval_steps.specs.Numbers.{IsTooGreat}

pub all_append : {A : Type 0} (P : A → Type 0) (xs ys : List A) → AllByRecursion P xs → AllByRecursion P ys → AllByRecursion P (xs ++ ys)
all_append P [] ys h k = k
all_append P (x ∷ xs) ys h k = (h.0, all_append P xs ys h.1 k)

pub noted_append : (notes : Notes) (s t : List Step) → noted notes (s ++ t) ≡ noted (noted notes s) t
noted_append notes [] t = refl
noted_append notes (x ∷ s) t = noted_append (note notes x) s t

-- a step before a run, and then what comes next
pub step_after : (s : Step) (ran : Ran) (next : Next) → after (step s ran) next ≡ step s (after ran next)
step_after s ran next = by_left ran.steps ran.left
  where
    by_left : (steps : List Step) (left : Option Left) → goes_on (s ∷ steps) left next ≡ step s (goes_on steps left next)
    by_left steps None = refl
    by_left steps (Some l) = refl

pub leaves_refl : (ran : Ran) → Leaves ran [] ran
leaves_refl ran = record { steps = λ next. refl; fit = tt }

pub leaves_trans : {a b c : Ran} {s t : List Step} → Leaves a s b → Leaves b t c → Leaves a (s ++ t) c
leaves_trans {a} {b} {c} {s} {t} p q = record {
  steps = λ next. p.steps next ∙ ap (λ l. s ++ l) (q.steps next) ∙ sym (append_assoc s t (after c next).steps);
  fit = all_append DoesFit s t p.fit q.fit;
}

pub leaves_after : {a b : Ran} {s : List Step} (next : Next) → Leaves a s b → Leaves (after a next) s (after b next)
leaves_after {a} {b} {s} next p = record {
  steps = λ last.
      ap (λ (r : Ran). r.steps) (after_assoc a next last)
      ∙ p.steps (λ value st. after (next value st) last)
      ∙ ap (λ (r : Ran). s ++ r.steps) (sym (after_assoc b next last));
  fit = p.fit;
}

-- a place leads to itself
pub makes_refl : (ran : Ran) (notes : Notes) → Makes ran notes ran notes
makes_refl ran notes = Passing (record { made = []; way = leaves_refl ran; notes = refl })

-- to an equal place
pub makes_at : {a b : Ran} (notes : Notes) → a ≡ b → Makes a notes b notes
makes_at {a} notes same = subst (λ b. Makes a notes b notes) same (makes_refl a notes)

-- where nothing more is noted, it stays so
pub stays_over : (notes : Notes) → IsOver notes → (s : List Step) → IsOver (noted notes s)
stays_over notes is_over s = subst IsOver (sym (noted_over notes is_over s)) is_over

pass_pass : {a b c : Ran} {x y z : Notes} → Passes a x b y → Passes b y c z → Passes a x c z
pass_pass {a} {b} {c} {x} {y} {z} p q = record {
  made = p.made ++ q.made;
  way = leaves_trans p.way q.way;
  notes = q.notes ∙ ap (λ n. noted n q.made) p.notes ∙ sym (noted_append x p.made q.made);
}

close_all : (x y : Notes) (s t : List Step) (rest : Ran) → y ≡ noted x s → IsOver (noted y t) ⊎ (rest ≡ halts) → IsOver (noted x (s ++ t)) ⊎ (rest ≡ halts)
close_all x y s t rest same (inl h) = inl (subst IsOver (ap (λ n. noted n t) same ∙ sym (noted_append x s t)) h)
close_all x y s t rest same (inr h) = inr h

pass_close : {a b : Ran} {x y z : Notes} → Passes a x b y → Closes b y z → Closes a x z
pass_close {a} {b} {x} {y} {z} p q = record {
  made = p.made ++ q.made;
  rest = q.rest;
  way = leaves_trans p.way q.way;
  notes = q.notes ∙ ap (λ n. seen (noted n q.made)) p.notes ∙ ap seen (sym (noted_append x p.made q.made));
  over = q.over;
  all = close_all x y p.made q.made q.rest p.notes q.all;
}

pass_exceed : {a b : Ran} {x y : Notes} → Passes a x b y → Exceeds b y → Exceeds a x
pass_exceed {a} {b} {x} {y} p q =
    let same : noted y q.made ≡ noted x (p.made ++ q.made) = ap (λ n. noted n q.made) p.notes ∙ sym (noted_append x p.made q.made) in
    record {
      made = p.made ++ q.made;
      cost = q.cost;
      action = q.action;
      rest = q.rest;
      way = leaves_trans p.way q.way;
      goes_on = λ h. q.goes_on (subst IsOver (sym same) h);
      few = subst (λ (n : Notes). n.count ≤ 4096) same q.few;
      great = q.great;
    }

close_more : {a : Ran} {x y z : Notes} → Closes a x y → IsOver z → seen z ≡ seen y → Closes a x z
close_more p over same = record { made = p.made; rest = p.rest; way = p.way; notes = same ∙ p.notes; over = over; all = p.all }

-- one way after another
pub makes_trans : {a b c : Ran} {x y z : Notes} → Makes a x b y → Makes b y c z → Makes a x c z
makes_trans (Passing p) (Passing q) = Passing (pass_pass p q)
makes_trans (Passing p) (Closing q) = Closing (pass_close p q)
makes_trans (Passing p) (Exceeding q) = Exceeding (pass_exceed p q)
makes_trans {a} {b} {c} {x} {y} {z} (Closing p) (Passing q) =
    let same : z ≡ y = q.notes ∙ noted_over y p.over q.made in
    Closing (close_more p (subst IsOver (sym same) p.over) (ap seen same))
makes_trans {a} {b} {c} {x} {y} {z} (Closing p) (Closing q) = Closing (close_more p q.over (q.notes ∙ ap seen (noted_over y p.over q.made)))
makes_trans {a} {b} {c} {x} {y} {z} (Closing p) (Exceeding q) = absurd (q.goes_on (stays_over y p.over q.made))
makes_trans (Exceeding p) q = Exceeding p

after_all : (notes : Notes) (s : List Step) (rest : Ran) (next : Next) → IsOver (noted notes s) ⊎ (rest ≡ halts) → IsOver (noted notes s) ⊎ (after rest next ≡ halts)
after_all notes s rest next (inl h) = inl h
after_all notes s rest next (inr h) = inr (ap (λ r. after r next) h)

exceed_after : {a : Ran} {x : Notes} (next : Next) → Exceeds a x → Exceeds (after a next) x
exceed_after {a} {x} next p = record {
  made = p.made;
  cost = p.cost;
  action = p.action;
  rest = after p.rest next;
  way = subst (λ r. Leaves (after a next) p.made r) (step_after (record { cost = p.cost; action = Some p.action }) p.rest next) (leaves_after next p.way);
  goes_on = p.goes_on;
  few = p.few;
  great = p.great;
}

-- the same follows both
pub makes_after : {a b : Ran} {x y : Notes} (next : Next) → Makes a x b y → Makes (after a next) x (after b next) y
makes_after next (Passing p) = Passing (record { made = p.made; way = leaves_after next p.way; notes = p.notes })
makes_after {a} {b} {x} {y} next (Closing p) =
    Closing (record { made = p.made; rest = after p.rest next; way = leaves_after next p.way; notes = p.notes; over = p.over; all = after_all x p.made p.rest next p.all })
makes_after next (Exceeding p) = Exceeding (exceed_after next p)

-- a step is noted
pub makes_step : (s : Step) (old new : Notes) → new ≡ note old s → DoesFit s → (ran : Ran) → Makes (step s ran) old ran new
makes_step s old new same fits ran = Passing (record {
  made = s ∷ [];
  way = record { steps = λ next. ap (λ (r : Ran). r.steps) (step_after s ran next); fit = (fits, tt) };
  notes = same;
})

-- a step is noted by its capped cost
pub makes_capped : (cost exact : ℕ) (action : Option Action) (old new : Notes) → new ≡ note old (record { cost = cost; action = action }) → capped exact ≡ cost → RestFits action → (ran : Ran) →
    Makes (step (record { cost = exact; action = action }) ran) old ran new
makes_capped cost exact action old new same cap fits ran =
    makes_step (record { cost = exact; action = action }) old new (same ∙ ap (λ cost. note old (record { cost = cost; action = action })) (sym cap) ∙ note_capped old exact action) fits ran

-- where nothing more is noted, all places lead to each other
pub makes_over : (notes : Notes) → IsOver notes → (a b : Ran) → Makes a notes b notes
makes_over notes is_over a b = Closing (record { made = []; rest = a; way = leaves_refl a; notes = refl; over = is_over; all = inl is_over })

-- the same, with notes that are as they were
pub makes_over_at : (old new : Notes) → IsOver old → new ≡ old → (a b : Ran) → Makes a old b new
makes_over_at old new is_over same a b = subst (λ n. Makes a old b n) (sym same) (makes_over old is_over a b)

-- a thread that has nothing more to do: any place is as good
pub makes_halt : (old new : Notes) → new ≡ finished old → (to : Ran) → Makes halts old to new
makes_halt old new same to = Closing (record { made = []; rest = halts; way = leaves_refl halts; notes = ap seen same; over = subst IsOver (sym same) refl; all = inr refl })

-- a step whose numbers code does not have
pub makes_exceeds : (cost : ℕ) (action : Action) (rest : Ran) (old new : Notes) (to : Ran) → (IsOver old → ⊥) → old.count ≤ 4096 → IsTooGreat action →
    Makes (does cost action rest) old to new
makes_exceeds cost action rest old new to goes_on few great =
    Exceeding (record { made = []; cost = cost; action = action; rest = rest; way = leaves_refl (does cost action rest); goes_on = goes_on; few = few; great = great })

-- behind a way, an evaluation that comes to its value
pub comes_from : {E : Type 0} {a b : Ran} {x y : Notes} (z : Run) (r : Result Value E) → Makes a x b y → Comes b y r z → Comes a x r z
comes_from z (Ok v) p q = makes_trans p q
comes_from z (Err e) p q = tt

-- the step of a size that is not 0, noted by its capped cost
pub makes_charge : (exact size : ℕ) (old new : Notes) → 0 < size → capped exact ≡ size → new ≡ note old (record { cost = size; action = None }) → (ran : Ran) → Makes (charges exact ran) old ran new
makes_charge zero size old new some cap same ran = absurd (omega (arith, some, cap))
makes_charge (suc n) size old new some cap same ran = makes_capped size (suc n) None old new same cap tt ran

pub on_ok : {A E : Type 0} {P Q : Type 0} (r : Result A E) → OnOk r P → (P → Q) → OnOk r Q
on_ok (Ok v) p f = f p
on_ok (Err e) p f = tt

pub if_ok : {A E : Type 0} {P Q : A → Type 0} (r : Result A E) → IfOk r P → ((v : A) → P v → Q v) → IfOk r Q
if_ok (Ok v) p f = f v p
if_ok (Err e) p f = tt

pub if_any : {A E : Type 0} {P : Type 0} (r : Result A E) → P → IfOk r (λ _. P)
if_any (Ok v) p = p
if_any (Err e) p = tt

-- an evaluation that has come to a value, of which code gives a copy
pub comes_copied : {E : Type 0} (v w : Value) → w ≡ v → (r : Result Value E) (z : Run) → IfOk r (λ value. value ≡ w) → Comes (gives v z.state) z.notes r z
comes_copied v w same (Ok value) z h = makes_at z.notes (ap (λ x. gives x z.state) (sym (h ∙ same)))
comes_copied v w same (Err e) z h = tt
