-- What a piece adds to the events and to the total.
use Rattle.std.proofs.Common.{arith, ◌+◌, ◌≡◌, ℕ, List, [], ◌∷◌, ◌++◌, refl, sym, ◌∙◌, ap, zero, suc, subst, Option, Some, None, append_assoc, append-nil}
use Rattle.std.specs.Prelude.{slice_get, slice_set, sum_by}
use Rattle.std.proofs.lemmas.Option.{slice_get_within, get_or_from_slice_get}
use Rattle.std.proofs.lemmas.List.Sums.{sum_by-set, sum_by-append, sum_by-cons}
use Rattle.std.specs.List.Sorted.{IsPermutation}
use Rattle.std.proofs.lemmas.List.Sorted.{IsPermutation-refl, IsPermutation-append, IsPermutation-append_comm}
use Rattle.vt_event.specs.Event.{EventView}
use Rattle.vt_run.specs.declared.action.Action.{Action}
use Rattle.vt_run.specs.declared.action.Action.TheVariants.{Emit, End, Read, Rest, Spawn, Wait}
use Rattle.vt_meaning.specs.Steps.{published, started_all}
use Rattle.vt_meaning.specs.ThreadLaws.{IsLive}
use Rattle.vt_meaning.specs.ThreadMeaning.{ThreadMeaning}
use Rattle.vt_meaning.specs.Traces.{cost_in, Entry, Thread, trace}
use Rattle.vt_meaning.specs.World.{begun, emitted_by, emitted_in, emitted_one, events_of, Opening, started_by, total_of}

pub emitted_in-append : (entries w : List Entry) → emitted_in (entries ++ w) ≡ emitted_in entries ++ emitted_in w
emitted_in-append [] w = refl
emitted_in-append (x ∷ entries) w = ap (λ l. emitted_one x.step.action ++ l) (emitted_in-append entries w) ∙ sym (append_assoc (emitted_one x.step.action) (emitted_in entries) (emitted_in w))

pub emitted_by-append : (m : ThreadMeaning) (these those : List Thread) → emitted_by m (these ++ those) ≡ emitted_by m these ++ emitted_by m those
emitted_by-append m [] those = refl
emitted_by-append m (t ∷ these) those = ap (λ l. emitted_in (trace m t) ++ l) (emitted_by-append m these those) ∙ sym (append_assoc (emitted_in (trace m t)) (emitted_by m these) (emitted_by m those))

none_born : (m : ThreadMeaning) (live : IsLive m) (o : Option Action) → emitted_by m (started_by o) ≡ []
none_born m live None = refl
none_born m live (Some (Emit _)) = refl
none_born m live (Some (Rest _ _)) = refl
none_born m live (Some (Read _ _)) = refl
none_born m live (Some (Wait _ _ _)) = refl
none_born m live (Some (End _ _)) = refl
none_born m live (Some (Spawn p s)) = append-nil (emitted_in (trace m (begun s))) ∙ ap emitted_in (live.nothing s)

none_born_all : (m : ThreadMeaning) (live : IsLive m) (entries : List Entry) → emitted_by m (started_all entries) ≡ []
none_born_all m live [] = refl
none_born_all m live (x ∷ entries) =
    emitted_by-append m (started_by x.step.action) (started_all entries) ∙ ap (λ l. l ++ emitted_by m (started_all entries)) (none_born m live x.step.action) ∙ none_born_all m live entries

replaced : (m : ThreadMeaning) (these : List Thread) (i : ℕ) (thread t' : Thread) (entries : List Entry) → slice_get these i ≡ Some thread → trace m t' ≡ trace m thread ++ entries →
    IsPermutation (emitted_by m these ++ emitted_in entries) (emitted_by m (slice_set these i t'))
replaced m [] i thread t' entries h e = absurd (let n : ◌≡◌ {A = Option Thread} None (Some thread) = h in cc)
replaced m (u ∷ those) zero thread t' entries h e =
    let s : u ≡ thread = (let z : Some u ≡ Some thread = h in cc) in
    let whole : emitted_in (trace m t') ≡ emitted_in (trace m u) ++ emitted_in entries =
    ap emitted_in e ∙ emitted_in-append (trace m thread) entries ∙ ap (λ v. emitted_in (trace m v) ++ emitted_in entries) (sym s) in
    let a : List EventView = emitted_in (trace m u) in
    let b : List EventView = emitted_by m those in
    let c : List EventView = emitted_in entries in
    let p : IsPermutation (a ++ (b ++ c)) (a ++ (c ++ b)) = IsPermutation-append a a (b ++ c) (c ++ b) (IsPermutation-refl a) (IsPermutation-append_comm b c) in
    subst (λ l. IsPermutation ((a ++ b) ++ c) (l ++ b)) (sym whole)
    (subst (λ l. IsPermutation l ((a ++ c) ++ b)) (sym (append_assoc a b c)) (subst (λ l. IsPermutation (a ++ (b ++ c)) l) (sym (append_assoc a c b)) p))
replaced m (u ∷ those) (suc i) thread t' entries h e =
    let a : List EventView = emitted_in (trace m u) in
    let r = replaced m those i thread t' entries h e in
    subst (λ l. IsPermutation l (a ++ emitted_by m (slice_set those i t'))) (sym (append_assoc a (emitted_by m those) (emitted_in entries)))
    (IsPermutation-append a a (emitted_by m those ++ emitted_in entries) (emitted_by m (slice_set those i t')) (IsPermutation-refl a) r)

-- **the events are, up to order, the old ones and those of the piece**
pub events_published : (m : ThreadMeaning) (live : IsLive m) (opening : Opening) (these : List Thread) (i : ℕ) (thread t' : Thread) (entries : List Entry) → slice_get these i ≡ Some thread → trace m t' ≡ trace m thread ++ entries →
    IsPermutation (events_of m opening these ++ emitted_in entries) (events_of m opening (published these i t' entries))
events_published m live opening these i thread t' entries h e =
    let all : emitted_by m (published these i t' entries) ≡ emitted_by m (slice_set these i t') =
    emitted_by-append m (slice_set these i t') (started_all entries) ∙ ap (λ l. emitted_by m (slice_set these i t') ++ l) (none_born_all m live entries)
    ∙ append-nil (emitted_by m (slice_set these i t')) in
    subst (λ l. IsPermutation ((opening.given ++ emitted_by m these) ++ emitted_in entries) (opening.given ++ l)) (sym all)
    (subst (λ l. IsPermutation l (opening.given ++ emitted_by m (slice_set these i t'))) (sym (append_assoc opening.given (emitted_by m these) (emitted_in entries)))
    (IsPermutation-append opening.given opening.given (emitted_by m these ++ emitted_in entries) (emitted_by m (slice_set these i t')) (IsPermutation-refl opening.given) (replaced m these i thread t' entries h e)))

none_cost : (m : ThreadMeaning) (live : IsLive m) (o : Option Action) → sum_by (cost_in m) (started_by o) ≡ 0
unfolding cost_in
none_cost m live None = refl
none_cost m live (Some (Emit _)) = refl
none_cost m live (Some (Rest _ _)) = refl
none_cost m live (Some (Read _ _)) = refl
none_cost m live (Some (Wait _ _ _)) = refl
none_cost m live (Some (End _ _)) = refl
none_cost m live (Some (Spawn p s)) =
    let a = sum_by-cons (cost_in m) (begun s) [] in
    let b : cost_in m (begun s) ≡ 0 = ap (sum_by (λ x. x.step.cost)) (live.nothing s) in
    omega (arith, a, b)

none_cost_all : (m : ThreadMeaning) (live : IsLive m) (entries : List Entry) → sum_by (cost_in m) (started_all entries) ≡ 0
none_cost_all m live [] = refl
none_cost_all m live (x ∷ entries) =
    let a = sum_by-append (cost_in m) (started_by x.step.action) (started_all entries) in
    let b = none_cost m live x.step.action in
    let c = none_cost_all m live entries in
    omega (arith, a, b, c)

-- **the total is the old one and the costs of the piece**
pub total_published : (m : ThreadMeaning) (live : IsLive m) (these : List Thread) (i : ℕ) (thread t' : Thread) (entries : List Entry) → slice_get these i ≡ Some thread → trace m t' ≡ trace m thread ++ entries →
    total_of m (published these i t' entries) ≡ total_of m these + sum_by (λ x. x.step.cost) entries
unfolding total_of cost_in
total_published m live these i thread t' entries h e =
    let a = sum_by-append (cost_in m) (slice_set these i t') (started_all entries) in
    let b = none_cost_all m live entries in
    let c = sum_by-set (cost_in m) these i t' thread (slice_get_within these i thread h) in
    let d = ap (cost_in m) (get_or_from_slice_get these i thread thread h) in
    let f : cost_in m t' ≡ cost_in m thread + sum_by (λ x. x.step.cost) entries = ap (sum_by (λ x. x.step.cost)) e ∙ sum_by-append (λ x. x.step.cost) (trace m thread) entries in
    omega (arith, a, b, c, d, f)
