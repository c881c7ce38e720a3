-- What a call comes to, and the order of its faults. The project's own.
--
-- A call looks first at the count of its arguments (`wrong_count`), then at the kinds of the arguments from left to right and of the options after them (`wrong_kind`), then, in the same order, at what each of them may be (`bad_value`, `bad_note`, `empty_ring`). Then it draws its words, then it computes its formula (`overflow`), and last it looks at the limits of a ring (`too_large`). The definition of each call is written in this order, one line after the other: a line is reached only where the lines above gave no fault, so the first fault is the answer.
use Rattle.std.specs.Prelude.{ℕ, Bool, cond, List, Result, Ok, Err}
use Rattle.vt_value.specs.declared.fault.FaultKind.{FaultKind}
use Rattle.vt_value.specs.declared.value.Value.{Value}
use Rattle.vt_value.specs.declared.value.Value.TheVariants.{Ring}
use Rattle.vt_ring.specs.Answers.{and_then}

-- the value or the fault of a call, and how many words of its stream were drawn
pub record Called : Type 0 where
  pub answer : Result Value FaultKind
  pub drawn : ℕ

-- a call that draws so many words
abbrev pub drawing : ℕ → Result Value FaultKind → Called
drawing n answer = record { answer = answer; drawn = n }

-- a call that draws no word
abbrev pub undrawn : Result Value FaultKind → Called
undrawn answer = drawing 0 answer

-- what comes before words are drawn, and behind it the draws: a fault draws none
abbrev pub and_draw : {A : Type 0} → Result A FaultKind → (A → Called) → Called
and_draw (Ok a) next = next a
and_draw (Err kind) next = undrawn (Err kind)

-- what comes where the test holds, and else the fault
abbrev pub demand : {A : Type 0} → Bool → FaultKind → Result A FaultKind → Result A FaultKind
demand holds fault next = cond holds next (Err fault)

-- items as a ring
abbrev pub as_ring : Result (List Value) FaultKind → Result Value FaultKind
as_ring answer = and_then answer (λ items. Ok (Ring items))
