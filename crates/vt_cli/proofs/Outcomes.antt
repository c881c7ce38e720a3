-- Facts about outcomes.
use Rattle.std.proofs.Common.{not, IsSomeAnd, ◌≡◌, ℕ, ◌+◌, ◌≤◌, ◌<◌, List, Bool, true, false, Option, None, Some, length, refl, sym, ap, ◌∙◌, take_all, ◌⊎◌, inl, inr, IfSome, nat_le, cond, length-take-le, arith}
use Rattle.std.specs.List.{list_all}
use Rattle.std.proofs.lemmas.Grind.{common_steps}
use Rattle.std.proofs.lemmas.Bool.{cases_lt}
use Rattle.vt_cli.specs.declared.command.Command.{Command}
use Rattle.vt_cli.specs.declared.command.Command.TheVariants.{Check, Gen, Render}
use Rattle.vt_cli.specs.declared.status.Status.{Status}
use Rattle.vt_cli.specs.declared.status.Status.TheVariants.{Fine, Usage, TooLong, BadSession, WriteFault, Faulty}
use Rattle.vt_session.specs.Verdict.{Judged, Read, Refused}
use Rattle.vt_session.proofs.Judging.{judged_of}
use Rattle.vt_cli.specs.Ending.{ExactlyWhere, IsDecided}
use Rattle.vt_cli.specs.Piece.{score_of}
use Rattle.vt_cli.specs.Check.{is_good, verdicts_of}
use Rattle.vt_cli.specs.Commands.{command_of}
use Rattle.vt_cli.specs.Reading.{limit, part_read}
use Rattle.vt_cli.specs.Outcome.{AnswerView, has_fault, has_refused_text, is_refused, outcome_of, within_limit, too_long, answer_to, checked_session, finds_bad_line, heard, outcome, wants_input, IsTooLong, IsBadSession, IsFaulty, reports_fault}

pub within-short : (n : ℕ) → (a b : AnswerView) → n ≤ limit → cond (nat_le n limit) a b ≡ a
within-short n a b short = grind (arith, common_steps)

pub within-long : (n : ℕ) → (a b : AnswerView) → limit < n → cond (nat_le n limit) a b ≡ b
within-long n a b long = grind (arith, common_steps)

-- what is read of an input tells as much as all of it
part-cases : (command : Command) (input : List ℕ) → (limit < length input) ⊎ (length input ≤ limit)
    → within_limit (part_read input) (answer_to command (part_read input)) ≡ within_limit input (answer_to command input)
part-cases command input (inl long) =
    let more : limit + 1 ≤ length input = omega arith in
    let cut : length (part_read input) ≡ limit + 1 = length-take-le (limit + 1) input more in
    let past : limit < length (part_read input) = omega (arith, cut) in
    within-long _ _ _ past ∙ sym (within-long _ _ _ long)
part-cases command input (inr short) =
    ap (λ xs. within_limit xs (answer_to command xs)) (take_all (limit + 1) input (omega arith))

pub outcome-part : (command : Option Command) (input : List ℕ) → outcome_of command (part_read input) ≡ outcome_of command input
outcome-part None input = refl
outcome-part (Some command) input = part-cases command input (cases_lt limit (length input))

-- the answer to what was read is the outcome of what was there
pub told : (words : List (List ℕ)) (command : Option Command) (left : Option (List ℕ)) (bytes : List ℕ) (a : AnswerView) → command ≡ command_of words
    → IfSome left (λ input. bytes ≡ part_read (heard command input)) → a ≡ outcome_of command bytes → IfSome left (λ input. a ≡ outcome words input)
told words command None bytes a e read made = tt
told words command (Some x) bytes a e read made =
    made ∙ ap (outcome_of command) read ∙ outcome-part command (heard command x) ∙ ap (λ k. outcome_of k (heard k x)) e

-- a status that is due comes exactly where its cause holds, or a write fault comes in its place
exact : (result due status : Status) (cause : Type 0) → (status ≡ WriteFault → ⊥) → (result ≡ due) ⊎ (result ≡ WriteFault)
    → (due ≡ status → cause) → (cause → due ≡ status) → ExactlyWhere result status cause
exact result due status cause other (inl same) only always = record {
  only = λ e. only (sym same ∙ e);
  always = λ held. inl (same ∙ always held);
}
exact result due status cause other (inr failed) only always = record {
  only = λ e. absurd (other (sym e ∙ failed));
  always = λ held. inr (inr (inl failed));
}

no-too-long : (b : Bool) → cond b Fine Faulty ≡ TooLong → ⊥
no-too-long true e = (let wrong : Fine ≡ TooLong = e in cc)
no-too-long false e = (let wrong : Faulty ≡ TooLong = e in cc)

score-no-too-long : (b : Bool) → cond b Faulty Fine ≡ TooLong → ⊥
score-no-too-long true e = (let wrong : Faulty ≡ TooLong = e in cc)
score-no-too-long false e = (let wrong : Fine ≡ TooLong = e in cc)

session-no-too-long : (judged : Judged) → (checked_session judged).status ≡ TooLong → ⊥
session-no-too-long (Read session) e = no-too-long (list_all is_good (verdicts_of session)) e
session-no-too-long (Refused line) e = (let wrong : BadSession ≡ TooLong = e in cc)

-- no command answers TooLong to an input within the limit
answer-no-too-long : (command : Command) (input : List ℕ) → (answer_to command input).status ≡ TooLong → ⊥
answer-no-too-long Render input e = score-no-too-long (has_fault (score_of input)) e
answer-no-too-long Check input e = session-no-too-long (judged_of input) e
answer-no-too-long (Gen seed loops beats) input e = (let wrong : Fine ≡ TooLong = e in cc)

too-long-cases : (command : Command) (input : List ℕ) → (limit < length input) ⊎ (length input ≤ limit)
    → (within_limit input (answer_to command input)).status ≡ TooLong → limit < length input
too-long-cases command input (inl long) e = long
too-long-cases command input (inr short) e =
    absurd (answer-no-too-long command input (sym (ap (λ (o : AnswerView). o.status) (within-short _ _ too_long short)) ∙ e))

too-long-only : (command : Option Command) (input : List ℕ) → (outcome_of command (heard command input)).status ≡ TooLong
    → (wants_input command ≡ true) × (limit < length input)
too-long-only None input e = absurd (let wrong : Usage ≡ TooLong = e in cc)
too-long-only (Some Render) input e = (refl, too-long-cases Render input (cases_lt limit (length input)) e)
too-long-only (Some Check) input e = (refl, too-long-cases Check input (cases_lt limit (length input)) e)
too-long-only (Some (Gen seed loops beats)) input e = absurd (let wrong : Fine ≡ TooLong = e in cc)

too-long-always : (command : Option Command) (input : List ℕ) → (wants_input command ≡ true) × (limit < length input)
    → (outcome_of command (heard command input)).status ≡ TooLong
too-long-always None input held = absurd (let wrong : false ≡ true = held.0 in cc)
too-long-always (Some Render) input held = ap (λ (o : AnswerView). o.status) (within-long _ _ too_long held.1)
too-long-always (Some Check) input held = ap (λ (o : AnswerView). o.status) (within-long _ _ too_long held.1)
too-long-always (Some (Gen seed loops beats)) input held = absurd (let wrong : false ≡ true = held.0 in cc)

pub too-long-clause : (words : List (List ℕ)) (left : Option (List ℕ)) (a : AnswerView) (result : Status)
    → IfSome left (λ input. a ≡ outcome words input) → (result ≡ a.status) ⊎ (result ≡ WriteFault)
    → IfSome left (λ input. ExactlyWhere result TooLong (IsTooLong words input))
too-long-clause words None a result made ends = tt
too-long-clause words (Some input) a result made ends =
    let due : a.status ≡ (outcome words input).status = ap (λ (o : AnswerView). o.status) made in
    exact result a.status TooLong _ (λ e. (let wrong : TooLong ≡ WriteFault = e in cc)) ends
    (λ e. too-long-only (command_of words) input (sym due ∙ e))
    (λ held. due ∙ too-long-always (command_of words) input held)

score-faulty : (b : Bool) → cond b Faulty Fine ≡ Faulty → b ≡ true
score-faulty true e = refl
score-faulty false e = absurd (let wrong : Fine ≡ Faulty = e in cc)

verdict-faulty : (b : Bool) → cond b Fine Faulty ≡ Faulty → not b ≡ true
verdict-faulty true e = absurd (let wrong : Fine ≡ Faulty = e in cc)
verdict-faulty false e = refl

faulty-verdict : (b : Bool) → not b ≡ true → cond b Fine Faulty ≡ Faulty
faulty-verdict true e = absurd (let wrong : false ≡ true = e in cc)
faulty-verdict false e = refl

session-faulty : (judged : Judged) → (checked_session judged).status ≡ Faulty → has_refused_text judged ≡ true
session-faulty (Read session) e = verdict-faulty (list_all is_good (verdicts_of session)) e
session-faulty (Refused line) e = absurd (let wrong : BadSession ≡ Faulty = e in cc)

faulty-session : (judged : Judged) → has_refused_text judged ≡ true → (checked_session judged).status ≡ Faulty
faulty-session (Read session) held = faulty-verdict (list_all is_good (verdicts_of session)) held
faulty-session (Refused line) held = absurd (let wrong : false ≡ true = held in cc)

-- a command answers Faulty exactly where its answer reports a fault
answer-faulty : (command : Command) (input : List ℕ) → (answer_to command input).status ≡ Faulty → reports_fault command input ≡ true
answer-faulty Render input e = score-faulty (has_fault (score_of input)) e
answer-faulty Check input e = session-faulty (judged_of input) e
answer-faulty (Gen seed loops beats) input e = absurd (let wrong : Fine ≡ Faulty = e in cc)

faulty-answer : (command : Command) (input : List ℕ) → reports_fault command input ≡ true → (answer_to command input).status ≡ Faulty
faulty-answer Render input held = ap (λ b. cond b Faulty Fine) held
faulty-answer Check input held = faulty-session (judged_of input) held
faulty-answer (Gen seed loops beats) input held = absurd (let wrong : false ≡ true = held in cc)

-- A status other than TooLong and Usage, which a command answers to an input exactly where a test of both holds.
module _ (status : Status) (test : Command → List ℕ → Bool) (no_usage : Usage ≡ status → ⊥) (no_too_long : TooLong ≡ status → ⊥) (no_write_fault : status ≡ WriteFault → ⊥)
    (only : (command : Command) (input : List ℕ) → (answer_to command input).status ≡ status → test command input ≡ true)
    (always : (command : Command) (input : List ℕ) → test command input ≡ true → (answer_to command input).status ≡ status) where
  cases : (command : Command) (input : List ℕ) → (limit < length input) ⊎ (length input ≤ limit)
      → (within_limit input (answer_to command input)).status ≡ status → (length input ≤ limit) × (test command input ≡ true)
  cases command input (inl long) e =
      absurd (no_too_long (sym (ap (λ (o : AnswerView). o.status) (within-long _ (answer_to command input) too_long long)) ∙ e))
  cases command input (inr short) e =
      (short, only command input (sym (ap (λ (o : AnswerView). o.status) (within-short _ _ too_long short)) ∙ e))

  abbrev Tests : Option Command → List ℕ → Type 0
  Tests command input = IsSomeAnd command (λ k. (length (heard command input) ≤ limit) × (test k (heard command input) ≡ true))

  outcome-only : (command : Option Command) (input : List ℕ) → (outcome_of command (heard command input)).status ≡ status → Tests command input
  outcome-only None input e = absurd (no_usage e)
  outcome-only (Some command) input e = cases command (heard (Some command) input) (cases_lt limit _) e

  outcome-always : (command : Option Command) (input : List ℕ) → Tests command input → (outcome_of command (heard command input)).status ≡ status
  outcome-always None input held = absurd held
  outcome-always (Some command) input held =
      ap (λ (o : AnswerView). o.status) (within-short _ _ too_long held.0) ∙ always command (heard (Some command) input) held.1

  tested-clause : (words : List (List ℕ)) (left : Option (List ℕ)) (a : AnswerView) (result : Status)
      → IfSome left (λ input. a ≡ outcome words input) → (result ≡ a.status) ⊎ (result ≡ WriteFault)
      → IfSome left (λ input. ExactlyWhere result status (Tests (command_of words) input))
  tested-clause words None a result made ends = tt
  tested-clause words (Some input) a result made ends =
      let due : a.status ≡ (outcome words input).status = ap (λ (o : AnswerView). o.status) made in
      exact result a.status status _ no_write_fault ends
      (λ e. outcome-only (command_of words) input (sym due ∙ e))
      (λ held. due ∙ outcome-always (command_of words) input held)

pub faulty-clause : (words : List (List ℕ)) (left : Option (List ℕ)) (a : AnswerView) (result : Status)
    → IfSome left (λ input. a ≡ outcome words input) → (result ≡ a.status) ⊎ (result ≡ WriteFault)
    → IfSome left (λ input. ExactlyWhere result Faulty (IsFaulty words input))
faulty-clause = tested-clause Faulty reports_fault (λ e. (let wrong : Usage ≡ Faulty = e in cc)) (λ e. (let wrong : TooLong ≡ Faulty = e in cc))
    (λ e. (let wrong : Faulty ≡ WriteFault = e in cc)) answer-faulty faulty-answer

score-no-bad : (b : Bool) → cond b Faulty Fine ≡ BadSession → ⊥
score-no-bad true e = (let wrong : Faulty ≡ BadSession = e in cc)
score-no-bad false e = (let wrong : Fine ≡ BadSession = e in cc)

verdict-no-bad : (b : Bool) → cond b Fine Faulty ≡ BadSession → ⊥
verdict-no-bad true e = (let wrong : Fine ≡ BadSession = e in cc)
verdict-no-bad false e = (let wrong : Faulty ≡ BadSession = e in cc)

session-bad : (judged : Judged) → (checked_session judged).status ≡ BadSession → is_refused judged ≡ true
session-bad (Read session) e = absurd (verdict-no-bad (list_all is_good (verdicts_of session)) e)
session-bad (Refused line) e = refl

bad-session : (judged : Judged) → is_refused judged ≡ true → (checked_session judged).status ≡ BadSession
bad-session (Read session) held = absurd (let wrong : false ≡ true = held in cc)
bad-session (Refused line) held = refl

-- a command answers BadSession exactly where it reads a session, and the input is none
answer-bad : (command : Command) (input : List ℕ) → (answer_to command input).status ≡ BadSession → finds_bad_line command input ≡ true
answer-bad Render input e = absurd (score-no-bad (has_fault (score_of input)) e)
answer-bad Check input e = session-bad (judged_of input) e
answer-bad (Gen seed loops beats) input e = absurd (let wrong : Fine ≡ BadSession = e in cc)

bad-answer : (command : Command) (input : List ℕ) → finds_bad_line command input ≡ true → (answer_to command input).status ≡ BadSession
bad-answer Render input held = absurd (let wrong : false ≡ true = held in cc)
bad-answer Check input held = bad-session (judged_of input) held
bad-answer (Gen seed loops beats) input held = absurd (let wrong : false ≡ true = held in cc)

pub bad-session-clause : (words : List (List ℕ)) (left : Option (List ℕ)) (a : AnswerView) (result : Status)
    → IfSome left (λ input. a ≡ outcome words input) → (result ≡ a.status) ⊎ (result ≡ WriteFault)
    → IfSome left (λ input. ExactlyWhere result BadSession (IsBadSession words input))
bad-session-clause = tested-clause BadSession finds_bad_line (λ e. (let wrong : Usage ≡ BadSession = e in cc)) (λ e. (let wrong : TooLong ≡ BadSession = e in cc))
    (λ e. (let wrong : BadSession ≡ WriteFault = e in cc)) answer-bad bad-answer

-- An outcome is decided, and Usage where there is no command alone

-- a status that the words and the input decide, and that is not Usage
abbrev IsOfCommand : Status → Type 0
IsOfCommand status = IsDecided status × (status ≡ Usage → ⊥)

fine : IsOfCommand Fine
fine = (tt, λ e. (let wrong : Fine ≡ Usage = e in cc))

faulty : IsOfCommand Faulty
faulty = (tt, λ e. (let wrong : Faulty ≡ Usage = e in cc))

one-or-other : (b : Bool) (a c : Status) → IsOfCommand a → IsOfCommand c → IsOfCommand (cond b a c)
one-or-other true a c h k = h
one-or-other false a c h k = k

session-decided : (judged : Judged) → IsOfCommand (checked_session judged).status
session-decided (Read session) = one-or-other (list_all is_good (verdicts_of session)) Fine Faulty fine faulty
session-decided (Refused line) = (tt, λ e. (let wrong : BadSession ≡ Usage = e in cc))

answer-decided : (command : Command) (input : List ℕ) → IsOfCommand (answer_to command input).status
answer-decided Render input = one-or-other (has_fault (score_of input)) Faulty Fine faulty fine
answer-decided Check input = session-decided (judged_of input)
answer-decided (Gen seed loops beats) input = fine

within-decided : (b : Bool) (a : AnswerView) → IsOfCommand a.status → IsOfCommand (cond b a too_long).status
within-decided true a h = h
within-decided false a h = (tt, λ e. (let wrong : TooLong ≡ Usage = e in cc))

pub outcome-decided : (command : Option Command) (input : List ℕ) → IsDecided (outcome_of command input).status
outcome-decided None input = tt
outcome-decided (Some command) input = (within-decided (nat_le (length input) limit) (answer_to command input) (answer-decided command input)).0

pub outcome-usage : (command : Option Command) (input : List ℕ) → (outcome_of command input).status ≡ Usage → command ≡ None
outcome-usage None input e = refl
outcome-usage (Some command) input e = absurd ((within-decided (nat_le (length input) limit) (answer_to command input) (answer-decided command input)).1 e)

-- an answer to some bytes is the outcome of some input
pub some-input : (words : List (List ℕ)) (command : Option Command) (bytes : List ℕ) (a : AnswerView) → command ≡ command_of words
    → bytes ≡ heard command bytes → a ≡ outcome_of command bytes → (input : List ℕ) × (a ≡ outcome words input)
some-input words command bytes a e same made = (bytes, made ∙ ap (outcome_of command) same ∙ ap (λ k. outcome_of k (heard k bytes)) e)
