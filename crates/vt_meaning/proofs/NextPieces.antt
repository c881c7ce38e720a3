-- The piece that a runner of a text gives is the next one of its thread.
use Rattle.std.proofs.Common.{◌≡◌, ℕ, ◌+◌, ◌-◌, ◌<◌, ◌≤◌, List, [], ◌∷◌, ◌++◌, length, drop, refl, sym, ◌∙◌, ap, arith, Bool, true, false, cond, subst, Option, Some, None, append_assoc}
use Rattle.std.specs.Prelude.{is_some, nat_le, slice_get}
use Rattle.std.proofs.lemmas.Bool.{leb-false}
use Rattle.std.proofs.lemmas.List.{drop_at}
use Rattle.vt_frac.specs.Fraction.{Fraction}
use Rattle.vt_run.specs.declared.piece.Stop.{Stop}
use Rattle.vt_run.specs.Evaluation.{Step}
use Rattle.vt_run.specs.Pieces.{ends_at, Fewest, or_more, stop_of}
use Rattle.vt_meaning.specs.Log.{next_piece, piece_limit, piece_of}
use Rattle.vt_meaning.specs.LogLaws.{PiecesAreNext}
use Rattle.vt_meaning.specs.RealLaws.{TextsAct, threads_with}
use Rattle.vt_meaning.specs.Traces.{trace}
use Rattle.vt_meaning.proofs.StepLaws.{longer_by}
use Rattle.vt_meaning.proofs.LogConsistent.{length_paired}

-- each of these steps costs at least 1
abbrev EachCosts : List Step → Type 0
EachCosts [] = Unit {0}
EachCosts (step ∷ steps) = (1 ≤ step.cost) × EachCosts steps

-- the fewest steps that make a stop are at most as many as their limit
few_steps : (until : Fraction) (limit cost : ℕ) (steps : List Step) (stop : Stop) → cost < limit → EachCosts steps → Fewest until limit cost steps stop → cost + length steps ≤ limit
few_steps until limit cost [] stop below costs fewest = absurd fewest
few_steps until limit cost (step ∷ steps) stop below costs fewest = go (stop_of until step.action) (nat_le limit (cost + step.cost)) refl fewest (λ lt. few_steps until limit (cost + step.cost) steps stop lt costs.1)
  where
    one : steps ≡ [] → cost + length (step ∷ steps) ≤ limit
    one none = let l = ap length none in omega (arith, l, below)

    go : (made : Option Stop) (full : Bool) → nat_le limit (cost + step.cost) ≡ full → ends_at (or_more made full) steps stop (Fewest until limit (cost + step.cost) steps stop) →
        ((cost + step.cost) < limit → Fewest until limit (cost + step.cost) steps stop → (cost + step.cost) + length steps ≤ limit) → cost + length (step ∷ steps) ≤ limit
    go (Some made) full is ends rest = one ends.1
    go None true is ends rest = one ends.1
    go None false is ends rest =
        let lt = leb-false limit (cost + step.cost) is in
        let r = rest lt ends in
        let c = costs.0 in
        omega (arith, r, c)

-- they are the piece of any steps that they begin
fewest_piece : (until : Fraction) (limit cost : ℕ) (steps rest : List Step) (stop : Stop) → Fewest until limit cost steps stop → piece_of until limit cost (steps ++ rest) ≡ steps
fewest_piece until limit cost [] rest stop fewest = absurd fewest
fewest_piece until limit cost (step ∷ steps) rest stop fewest = ap (λ l. step ∷ l) (go (or_more (stop_of until step.action) (nat_le limit (cost + step.cost))) fewest (λ more. fewest_piece until limit (cost + step.cost) steps rest stop more))
  where
    go : (made : Option Stop) → ends_at made steps stop (Fewest until limit (cost + step.cost) steps stop) →
        (Fewest until limit (cost + step.cost) steps stop → piece_of until limit (cost + step.cost) (steps ++ rest) ≡ steps) →
        cond (is_some made) [] (piece_of until limit (cost + step.cost) (steps ++ rest)) ≡ steps
    go None ends later = later ends
    go (Some made) ends later = sym ends.1

each_costs : (xs prefix : List Step) → ((i : ℕ) (step : Step) → slice_get (prefix ++ xs) i ≡ Some step → 1 ≤ step.cost) → EachCosts xs
each_costs [] prefix costs = tt
each_costs (x ∷ xs) prefix costs = (
  costs (length prefix) x (at_seam prefix xs x),
  each_costs xs (prefix ++ x ∷ []) (λ i step at. costs i step (subst (λ l. slice_get l i ≡ Some step) (append_assoc prefix (x ∷ []) xs) at)),
)
  where
    at_seam : (before after : List Step) (y : Step) → slice_get (before ++ y ∷ after) (length before) ≡ Some y
    at_seam [] after y = refl
    at_seam (z ∷ before) after y = at_seam before after y

pub pieces_are_next : TextsAct → PiecesAreNext
unfolding next_piece trace
pieces_are_next texts_act texts until may fit known thread old piece now exact same p =
    let m = threads_with texts until may fit known in
    let a = texts_act texts until may fit known in
    let done = m.acts thread.start thread.answers thread.done in
    let count : length done ≡ thread.done = sym (length_paired done thread.answers) ∙ exact.done in
    let here : m.acts thread.start thread.answers now ≡ done ++ p.steps = p.here ∙ ap (λ l. l ++ p.steps) same in
    let few = few_steps until piece_limit 0 p.steps piece.stop (omega arith) (each_costs p.steps done (λ i step at. a.costs thread.start thread.answers now i step (subst (λ l. slice_get l i ≡ Some step) (sym here) at))) p.fewest in
    let all = longer_by m a thread.start thread.answers now (piece_limit - length p.steps) in
    let sum : now + (piece_limit - length p.steps) ≡ thread.done + piece_limit = (let c = p.count in omega (arith, c, few)) in
    let whole : m.acts thread.start thread.answers (thread.done + piece_limit) ≡ done ++ (p.steps ++ all.0) =
    ap (m.acts thread.start thread.answers) (sym sum) ∙ all.1 ∙ ap (λ l. l ++ all.0) here ∙ append_assoc done p.steps all.0 in
    sym (ap (λ l. piece_of until piece_limit 0 (drop thread.done l)) whole ∙ ap (piece_of until piece_limit 0) (drop_at done (p.steps ++ all.0) thread.done count) ∙ fewest_piece until piece_limit 0 p.steps all.0 piece.stop p.fewest)
