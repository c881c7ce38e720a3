-- What is noted of the steps of a thread is its next piece.
use Rattle.std.proofs.Common.{◌≡◌, ◌≤◌, ℕ, zero, suc, ◌+◌, ◌-◌, ◌^◌, min, List, [], ◌∷◌, ◌++◌, length, take, false, Option, Some, None, refl, sym, ap, ◌∙◌, subst, arith, append_assoc, append-nil}
use Rattle.std.specs.Prelude.{nat_le}
use Rattle.std.proofs.Math.Seq.{take-append_seam, take-append-add}
use Rattle.std.proofs.lemmas.Bool.Decides.{nat_tests}
use Rattle.vt_frac.specs.Fraction.{Fraction}
use Rattle.vt_run.specs.declared.action.Action.{Action}
use Rattle.vt_run.specs.declared.piece.Piece.{Piece}
use Rattle.vt_run.specs.declared.piece.Stop.{Stop}
use Rattle.vt_run.specs.laws.NoteLaws.{PieceLaw}
use Rattle.vt_run.specs.Notes.{Notes, capped, fresh, noted, piece_of, seen}
use Rattle.vt_run.specs.Pieces.{Fewest, actions_of, cost_of, ends_at, listed, or_more, stop_of}
use Rattle.vt_run.specs.Evaluation.{Step}
use Rattle.vt_run.specs.Threads.{acts, thread}
use Rattle.vt_run.proofs.notes.Leads.{noted_over}
use Rattle.vt_run.proofs.steps.Prefixes.{acts_stable}

-- notes of which no step is passed over any more
abbrev keeping : List Action → ℕ → ℕ → Option Stop → ℕ → Fraction → Notes
keeping actions cost count stop limit until = record { skip = 0; actions = actions; cost = cost; count = count; stop = stop; limit = limit; until = until; over = false }

-- the steps that are kept of all these, behind some of this cost
record Kept (all : List Step) (actions : List Action) (cost count limit : ℕ) (until : Fraction) (stop : Stop) (notes : Notes) : Type 0 where
  steps : List Step
  rest : List Step
  whole : all ≡ steps ++ rest
  done : notes.actions ≡ actions ++ actions_of steps
  paid : notes.cost ≡ capped (cost + cost_of steps)
  counted : notes.count ≡ count + length steps
  fewest : Fewest until limit cost steps stop

-- one step is kept, and the others after it
kept_one : (made : Option Stop) (s : Step) (all : List Step) (actions : List Action) (cost count limit : ℕ) (until : Fraction) (stop : Stop) →
    made ≡ or_more (stop_of until s.action) (nat_le limit (cost + s.cost)) →
    (noted (keeping (actions ++ listed s.action) (capped (cost + s.cost)) (count + 1) made limit until) all).stop ≡ Some stop →
    ((noted (keeping (actions ++ listed s.action) (capped (cost + s.cost)) (count + 1) None limit until) all).stop ≡ Some stop →
    Kept all (actions ++ listed s.action) (cost + s.cost) (count + 1) limit until stop (noted (keeping (actions ++ listed s.action) (capped (cost + s.cost)) (count + 1) None limit until) all)) →
    Kept (s ∷ all) actions cost count limit until stop (noted (keeping (actions ++ listed s.action) (capped (cost + s.cost)) (count + 1) made limit until) all)
kept_one None s all actions cost count limit until stop is ends later =
    let k = later ends in
    let sums : cost + s.cost + cost_of k.steps ≡ cost + (s.cost + cost_of k.steps) = omega arith in
    record {
      steps = s ∷ k.steps;
      rest = k.rest;
      whole = ap (λ steps. s ∷ steps) k.whole;
      done = k.done ∙ append_assoc actions (listed s.action) (actions_of k.steps);
      paid = k.paid ∙ ap capped sums;
      counted = omega (arith, k.counted);
      fewest = subst (λ made. ends_at made k.steps stop (Fewest until limit (cost + s.cost) k.steps stop)) is k.fewest;
    }
kept_one (Some made) s all actions cost count limit until stop is ends later =
    let notes = keeping (actions ++ listed s.action) (capped (cost + s.cost)) (count + 1) (Some made) limit until in
    let still : noted notes all ≡ notes = noted_over notes refl all in
    let same : made ≡ stop = cc (ap (λ (notes : Notes). notes.stop) still) in
    let sums : cost + s.cost ≡ cost + (s.cost + 0) = omega arith in
    record {
      steps = s ∷ [];
      rest = all;
      whole = refl;
      done = ap (λ (notes : Notes). notes.actions) still ∙ ap (λ l. actions ++ l) (sym (append-nil (listed s.action)));
      paid = ap (λ (notes : Notes). notes.cost) still ∙ ap capped sums;
      counted = omega (arith, ap (λ (notes : Notes). notes.count) still);
      fewest = subst (λ made. ends_at made [] stop (Fewest until limit (cost + s.cost) [] stop)) is (same, refl);
    }

full_capped : (limit cost most : ℕ) → limit ≤ most → nat_le limit (min cost most) ≡ nat_le limit cost
full_capped limit cost most le = grind (arith, nat_tests)

kept_from : (all : List Step) (actions : List Action) (cost count limit : ℕ) (until : Fraction) (stop : Stop) →
    limit ≤ 2 ^ 64 - 1 →
    (noted (keeping actions (capped cost) count None limit until) all).stop ≡ Some stop →
    Kept all actions cost count limit until stop (noted (keeping actions (capped cost) count None limit until) all)
kept_from [] actions cost count limit until stop small ends = cc
kept_from (s ∷ all) actions cost count limit until stop small ends =
    let paid : capped (cost + s.cost) ≡ capped (capped cost + s.cost) = capped_sum cost s.cost (2 ^ 64 - 1) in
    let made = λ (paid : ℕ). or_more (stop_of until s.action) (nat_le limit paid) in
    let goal = λ (paid : ℕ). (noted (keeping (actions ++ listed s.action) paid (count + 1) (made paid) limit until) all).stop ≡ Some stop → Kept (s ∷ all) actions cost count limit until stop (noted (keeping (actions ++ listed s.action) paid (count + 1) (made paid) limit until) all) in
    let is : made (capped (cost + s.cost)) ≡ made (cost + s.cost) = ap (λ full. or_more (stop_of until s.action) full) (full_capped limit (cost + s.cost) (2 ^ 64 - 1) small) in
    subst goal paid (λ ends. kept_one (made (capped (cost + s.cost))) s all actions cost count limit until stop is ends (kept_from all (actions ++ listed s.action) (cost + s.cost) (count + 1) limit until stop small)) ends
  where
    capped_sum : (a b most : ℕ) → min (a + b) most ≡ min (min a most + b) most
    capped_sum a b most = omega arith

-- the steps that are passed over
record Skipped (all : List Step) (skip limit : ℕ) (until : Fraction) : Type 0 where
  prefix : List Step
  rest : List Step
  whole : all ≡ prefix ++ rest
  long : length prefix ≡ skip
  same : noted (fresh skip limit until) all ≡ noted (keeping [] 0 0 None limit until) rest

skipped : (skip : ℕ) (all : List Step) (limit : ℕ) (until : Fraction) (stop : Stop) → (noted (fresh skip limit until) all).stop ≡ Some stop → Skipped all skip limit until
skipped zero all limit until stop ends = record { prefix = []; rest = all; whole = refl; long = refl; same = refl }
skipped (suc skip) [] limit until stop ends = cc
skipped (suc skip) (s ∷ all) limit until stop ends =
    let h = skipped skip all limit until stop ends in
    record { prefix = s ∷ h.prefix; rest = h.rest; whole = ap (λ steps. s ∷ steps) h.whole; long = omega (arith, h.long); same = h.same }

-- a piece that is noted, by its fields
record HasFields (notes : Notes) (piece : Piece) : Type 0 where
  stop : notes.stop ≡ Some piece.stop
  actions : piece.actions ≡ notes.actions
  cost : piece.cost ≡ notes.cost

fields_of : (stop : Option Stop) (notes : Notes) (piece : Piece) → notes.stop ≡ stop → piece_of (record notes { stop = stop }) ≡ Some piece → HasFields notes piece
fields_of None notes piece is e = cc
fields_of (Some stop) notes piece is e =
    let same : record { actions = notes.actions; cost = notes.cost; stop = stop } ≡ piece = cc in
    record {
      stop = is ∙ ap (λ (piece : Piece). Some piece.stop) same;
      actions = sym (ap (λ (piece : Piece). piece.actions) same);
      cost = sym (ap (λ (piece : Piece). piece.cost) same);
    }

joined : (all prefix rest steps more : List Step) → all ≡ prefix ++ rest → rest ≡ steps ++ more → all ≡ prefix ++ (steps ++ more)
joined all prefix rest steps more whole parts = whole ∙ ap (λ l. prefix ++ l) parts

-- a list, cut behind its prefix and behind the steps after it
cut_prefix : (all prefix more : List Step) (before : ℕ) → all ≡ prefix ++ more → length prefix ≡ before → take before all ≡ prefix
cut_prefix all prefix more before whole long = ap (take before) whole ∙ ap (λ n. take n (prefix ++ more)) (sym long) ∙ take-append_seam prefix more

cut_steps : (all prefix steps rest : List Step) (before count : ℕ) → all ≡ prefix ++ (steps ++ rest) → length prefix ≡ before → count ≡ length steps → take (before + count) all ≡ prefix ++ steps
cut_steps all prefix steps rest before count whole long counted =
    let sums : before + count ≡ length prefix + length steps = omega (arith, long, counted) in
    ap (take (before + count)) whole
    ∙ ap (λ n. take n (prefix ++ (steps ++ rest))) sums
    ∙ take-append-add prefix (steps ++ rest) (length steps)
    ∙ ap (λ l. prefix ++ l) (take-append_seam steps rest)

zero_plus : (n : ℕ) → 0 + n ≡ n
zero_plus n = omega arith

pub piece_noted : PieceLaw
piece_noted texts start old new before limit bound notes piece small unchanged of_thread is_piece =
    let all : List Step = (thread texts start new bound).steps in
    let fields : HasFields notes piece = fields_of notes.stop notes piece refl is_piece in
    let ends : (noted (fresh before limit start.until) all).stop ≡ Some piece.stop = ap (λ (notes : Notes). notes.stop) of_thread.all ∙ fields.stop in
    let s : Skipped all before limit start.until = skipped before all limit start.until piece.stop ends in
    let least : limit ≤ 2 ^ 64 - 1 = omega arith in
    let stopped : (noted (keeping [] 0 0 None limit start.until) s.rest).stop ≡ Some piece.stop = ap (λ (notes : Notes). notes.stop) (sym s.same) ∙ ends in
    let k : Kept s.rest [] 0 0 limit start.until piece.stop (noted (keeping [] 0 0 None limit start.until) s.rest) = kept_from s.rest [] 0 0 limit start.until piece.stop least stopped in
    let final : seen notes ≡ seen (noted (keeping [] 0 0 None limit start.until) s.rest) = sym of_thread.all ∙ ap seen s.same in
    let counted : notes.count ≡ length k.steps = ap (λ (notes : Notes). notes.count) final ∙ k.counted ∙ zero_plus (length k.steps) in
    let whole : all ≡ s.prefix ++ (k.steps ++ k.rest) = joined all s.prefix s.rest k.steps k.rest s.whole k.whole in
    let early : before ≤ bound = omega (arith, of_thread.within) in
    let done : acts texts start old before ≡ s.prefix = sym unchanged ∙ acts_stable texts start new before bound early ∙ cut_prefix all s.prefix s.rest before s.whole s.long in
    let now : acts texts start new (before + notes.count) ≡ s.prefix ++ k.steps = acts_stable texts start new (before + notes.count) bound of_thread.within ∙ cut_steps all s.prefix k.steps k.rest before notes.count whole s.long counted in
    let paid : piece.cost ≡ capped (cost_of k.steps) = fields.cost ∙ ap (λ (notes : Notes). notes.cost) final ∙ k.paid ∙ ap capped (zero_plus (cost_of k.steps)) in
    record {
      steps = k.steps;
      here = now ∙ ap (λ l. l ++ k.steps) (sym done);
      count = ap (λ n. before + n) counted;
      actions = fields.actions ∙ ap (λ (notes : Notes). notes.actions) final ∙ k.done;
      cost = paid;
      fewest = k.fewest;
    }
