-- A session of two threads that each end at once, and what a log leaves of it.
use Rattle.std.specs.Prelude.{◌≡◌, ℕ, pos, List, [], ◌∷◌, take, true, Some, None}
use Rattle.vt_frac.specs.Fraction.{whole}
use Rattle.vt_run.specs.declared.action.Action.TheVariants.{End}
use Rattle.vt_run.specs.declared.action.EndReason.TheVariants.{Done}
use Rattle.vt_run.specs.declared.start.Start.{Start}
use Rattle.vt_run.specs.RenderLimits.{OptionsView}
use Rattle.vt_run.specs.TextStarts.{text_start}
use Rattle.vt_meaning.specs.Log.{Deed, LogEntry, Row, after, fresh_row, jobs_out, total_after}
use Rattle.vt_meaning.specs.Log.Deed.{Took, Published, PutBack, ReadAnswered}
use Rattle.vt_meaning.specs.ThreadMeaning.{ThreadMeaning}
use Rattle.vt_meaning.specs.World.{Opening, begun}

abbrev pub some_options : OptionsView
some_options = record { workers = 2; until = whole (pos 8); budget = 100; seed = 0 }

-- the k-th of the texts, which begin at 0 seconds
abbrev pub start_at : ℕ → Start
start_at k = text_start k (whole (pos 0)) some_options

abbrev pub two_threads : Opening
two_threads = record { starts = start_at 1 ∷ start_at 2 ∷ []; given = []; budget = 100 }

-- a thread does one step, which costs 1, and ends
abbrev pub ends_at_once : ThreadMeaning
ends_at_once = record {
  until = whole (pos 8);
  acts = λ start answers n. take n (record { cost = 1; action = Some (End start.place Done) } ∷ []);
  may = λ start pattern. true;
  fit = λ start. true;
  known = λ event. true;
}

abbrev pub entry : ℕ → ℕ → Deed → LogEntry
entry worker rec deed = record { worker = worker; rec = rec; deed = deed }

abbrev pub rows_after : List LogEntry → List Row
rows_after log = after ends_at_once two_threads log

-- a record of which nothing is done, out to the worker
abbrev pub out_row : ℕ → ℕ → Row
out_row k worker = record { thread = begun (start_at k); told = None; out = Some worker }

-- the record of a thread that has ended
abbrev pub ended_row : ℕ → Row
ended_row k = fresh_row (record { start = start_at k; answers = []; done = 1 })

pub record LogExample : Type 0 where
  -- before any entry both records are ready
  pub opens : rows_after [] ≡ fresh_row (begun (start_at 1)) ∷ fresh_row (begun (start_at 2)) ∷ []
  -- worker 5 takes the second
  pub takes : rows_after (entry 5 1 Took ∷ []) ≡ fresh_row (begun (start_at 1)) ∷ out_row 2 5 ∷ []
  pub job : jobs_out 5 (rows_after (entry 5 1 Took ∷ [])) ≡ record { rec = 1; start = start_at 2; answers = []; mark = 0; answer = None } ∷ []
  -- .. and may not take the first too, but another worker may
  pub one_job : rows_after (entry 5 1 Took ∷ entry 5 0 Took ∷ []) ≡ rows_after (entry 5 1 Took ∷ [])
  pub others_take : rows_after (entry 5 1 Took ∷ entry 6 0 Took ∷ []) ≡ out_row 1 6 ∷ out_row 2 5 ∷ []
  -- it publishes its piece, which no other worker may do
  pub publishes : rows_after (entry 5 1 Took ∷ entry 5 1 Published ∷ []) ≡ fresh_row (begun (start_at 1)) ∷ ended_row 2 ∷ []
  pub not_others : rows_after (entry 5 1 Took ∷ entry 6 1 Published ∷ []) ≡ rows_after (entry 5 1 Took ∷ [])
  pub costs : total_after ends_at_once two_threads (entry 5 1 Took ∷ entry 5 1 Published ∷ []) ≡ 1
  -- what is put back is as it was
  pub puts_back : rows_after (entry 5 1 Took ∷ entry 5 1 PutBack ∷ []) ≡ rows_after []
  -- an ended record is not taken again, and one that asks nothing gets no answer
  pub over : rows_after (entry 5 1 Took ∷ entry 5 1 Published ∷ entry 5 1 Took ∷ entry 5 1 ReadAnswered ∷ []) ≡ fresh_row (begun (start_at 1)) ∷ ended_row 2 ∷ []
