-- What the steps share: the rule after a change of one view, and what one view says of the others.
use Rattle.std.proofs.Common.{◌≡◌, ℕ, subst, ◌+◌, ◌%◌, ◌^◌, ◌<◌, ◌≤◌, ◌≢◌, ◌⊎◌, List, [], ◌∷◌, length, set, Option, sym, ap, ◌∙◌, inl, inr, ⊎_elim, arith}
use mathlib.Core.Option.{some, some-injective}
use mathlib.Core.Option as maybe
use native.Mathlib.Decide.{ℕ_discrete}
use lib.ListN.{get_elem?}
use Rattle.atomic_table.specs.Table.{State}
use Rattle.atomic_table.proofs.Lists.{at_set, set_else}
use Rattle.vt_lock.specs.declared.view.View.{View}
use Rattle.vt_lock.specs.declared.view.Stage.{Stage}
use Rattle.vt_lock.specs.declared.view.Stage.TheVariants.{Resting, Opening, Waiting, Holding, Joining}
use Rattle.vt_lock.specs.Numbers.{occurrences, one_if_below, one_if_equal}
use Rattle.vt_lock.specs.Logs.{AreOfWorkers}
use Rattle.vt_lock.specs.Views.{IsServed, holds_ticket, left_at_home, tickets_of, turns_of}
use Rattle.vt_lock.specs.TurnRule.{IsAtHome, IsAway, IsSoundView, KeepsTurns, total}
use Rattle.vt_lock.proofs.Sums.{total_set, total_one, total_two, total_at_most}

pub shift : (t' t fv fa bs bd bs' bd' : ℕ) → t' + fv ≡ t + fa → t + bs ≡ bd → (fa + bd) + bs' ≡ (fv + bs) + bd' → t' + bs' ≡ bd'
shift t' t fv fa bs bd bs' bd' p q r = omega arith

pub cancel : (t' t fv fa : ℕ) → t' + fv ≡ t + fa → fa ≡ fv → t' ≡ t
cancel t' t fv fa p q = omega arith

module _ {E : Type 0} where
  -- who has the turn has the ticket that is served
  pub served_ticket : (st : Stage E) (n : ℕ) → turns_of st ≡ 1 → IsServed n st → holds_ticket n st ≡ 1
  served_ticket Resting n e h = absurd (omega arith)
  served_ticket Opening n e h = let p : n ≡ 0 = h in omega arith
  served_ticket (Waiting u) n e h = absurd (omega arith)
  served_ticket (Holding u) n e h = let p : u ≡ n = h in omega arith
  served_ticket (Joining p q) n e h = absurd (omega arith)

  -- who has no turn is served by any count
  pub any_served : (st : Stage E) (n : ℕ) → turns_of st ≡ 0 → IsServed n st
  any_served Resting n e = tt
  any_served Opening n e = absurd (omega arith)
  any_served (Waiting u) n e = tt
  any_served (Holding u) n e = absurd (omega arith)
  any_served (Joining p q) n e = tt

module _ {T X E : Type 0} (key : T → X) (log : T → List E) (worker : E → ℕ) (first : T) where
  abbrev V : Type 0
  V = View X E

  abbrev S : Type 0
  S = State (Option T) V

  abbrev Rule : S → Type 0
  Rule s = KeepsTurns key log worker first s

  abbrev Sound : List E → ℕ → V → Type 0
  Sound current served v = IsSoundView key log worker (key first) current served v

  abbrev Whereabouts : List E → maybe.Option (Option T) → List V → Type 0
  Whereabouts current home views = IsAtHome key log worker (key first) current home views ⊎ IsAway key log worker current home views

  -- the rule after a change of one view that speaks for the same numbers
  pub moved : (s : S) (r : Rule s) (id : ℕ) (v a : V) → get_elem? s.views id ≡ some v → a.numbers ≡ v.numbers
      → (drawn served : ℕ) (current : List E) (home : maybe.Option (Option T)) (ws : List ℕ) (hs : List (maybe.Option (Option T)))
      → ws ≡ (drawn % 2 ^ 64) ∷ (served % 2 ^ 64) ∷ [] → hs ≡ home ∷ [] → AreOfWorkers worker current
      → ((t : ℕ) → (holds_ticket t a.stage + one_if_below t r.drawn) + one_if_below t served ≡ (holds_ticket t v.stage + one_if_below t r.served) + one_if_below t drawn)
      → (tickets_of a.stage + r.drawn) + served ≡ (tickets_of v.stage + r.served) + drawn
      → Sound current served a
      → ((j : ℕ) (w : V) → j ≢ id → get_elem? s.views j ≡ some w → Sound current served w)
      → Whereabouts current home (set s.views id a)
      → Rule record { words = ws; homes = hs; views = set s.views id a }
  moved s r id v a at eq drawn served current home ws hs words homes known_workers hand wait mine others whereabouts = record {
    drawn = drawn;
    served = served;
    current = current;
    home = home;
    words = words;
    homes = homes;
    known_workers = known_workers;
    tickets_out = λ t. shift _ _ _ _ _ _ _ _ (total_set (λ (u : V). holds_ticket t u.stage) s.views id v a at) (r.tickets_out t) (hand t);
    ticket_count = shift _ _ _ _ _ _ _ _ (total_set (λ (u : V). tickets_of u.stage) s.views id v a at) r.ticket_count wait;
    each_once = λ n. cancel _ _ _ _ (total_set (λ (u : V). occurrences n u.numbers) s.views id v a at) (ap (occurrences n) eq) ∙ r.each_once n;
    all_spoken_for = cancel _ _ _ _ (total_set (λ (u : V). length u.numbers) s.views id v a at) (ap length eq) ∙ r.all_spoken_for;
    each_view = λ i w e. ⊎_elim (λ h. subst (Sound current served) h.1 mine) (λ h. others i w h.0 h.1) (at_set s.views id i a w e);
    whereabouts = whereabouts;
  }

  -- a view that has no turn, before and after, changes nothing of where the value is
  pub whereabouts_kept : (current : List E) (home : maybe.Option (Option T)) (views : List V) (id : ℕ) (v a : V) → get_elem? views id ≡ some v
      → turns_of v.stage ≡ 0 → turns_of a.stage ≡ 0 → Whereabouts current home views → Whereabouts current home (set views id a)
  whereabouts_kept current home views id v a at idle idle' whereabouts = let t = total_set (λ (u : V). turns_of u.stage) views id v a at in ⊎_elim
      (λ f. inl (cancel _ _ _ _ t (idle' ∙ sym idle) ∙ f.0, f.1))
      (λ h. let ne : h.1.0 ≢ id = λ e. let same_view : h.1.1 ≡ v = some-injective h.1.1 v (sym h.1.2 ∙ ap (λ k. get_elem? views k) e ∙ at) in let p : turns_of h.1.1.stage ≡ turns_of v.stage = ap (λ (u : V). turns_of u.stage) same_view in omega (arith, h.1.3) in
      inr (cancel _ _ _ _ t (idle' ∙ sym idle) ∙ h.0, (h.1.0, h.1.1, set_else views id h.1.0 a ne ∙ h.1.2, h.1.3, h.1.4, h.1.5)))
      whereabouts

  abbrev Holds : List V → maybe.Option (Option T) → List E → V → Type 0
  Holds views home current v = (total (λ (u : V). turns_of u.stage) views ≡ 1) × (v.seen ≡ current) × (home ≡ left_at_home {T = T} v.stage)

  is_the_named : (views : List V) (home : maybe.Option (Option T)) (current : List E) (id : ℕ) (v : V) → get_elem? views id ≡ some v → turns_of v.stage ≡ 1
      → (h : IsAway key log worker current home views) → Dec (h.1.0 ≡ id) → Holds views home current v
  is_the_named views home current id v at mine h (yes e) =
      let same_view : h.1.1 ≡ v = some-injective h.1.1 v (sym h.1.2 ∙ ap (λ k. get_elem? views k) e ∙ at) in
      (h.0, ap (λ (u : V). u.seen) (sym same_view) ∙ h.1.4, h.1.5 ∙ ap (λ (u : V). left_at_home {T = T} u.stage) same_view)
  is_the_named views home current id v at mine h (no ne) =
      let two = total_two (λ (u : V). turns_of u.stage) views h.1.0 id h.1.1 v ne h.1.2 at in absurd (omega (arith, h.0, h.1.3))

  -- the view that has the turn is the one with which the value is away
  pub holder : (s : S) (r : Rule s) (id : ℕ) (v : V) → get_elem? s.views id ≡ some v → turns_of v.stage ≡ 1 → Holds s.views r.home r.current v
  holder s r id v at mine = let one = total_one (λ (u : V). turns_of u.stage) s.views id v at in ⊎_elim {B = IsAway key log worker r.current r.home s.views}
      (λ f. absurd (omega (arith, f.0)))
      (λ h. is_the_named s.views r.home r.current id v at mine h (ℕ_discrete h.1.0 id))
      r.whereabouts

  -- fewer than 2^64 tickets are out, since each is of a view that speaks for a number, and there are 64 of these
  pub ticket_range : (s : S) (r : Rule s) (id : ℕ) (v : V) (t : ℕ) → get_elem? s.views id ≡ some v → holds_ticket t v.stage ≡ 1 → (r.served ≤ t) × (t < r.served + 2 ^ 64)
  ticket_range s r id v t at mine =
      let one = total_one (λ (u : V). holds_ticket t u.stage) s.views id v at in
      let hand = r.tickets_out t in
      let few = total_at_most (λ (u : V). tickets_of u.stage) (λ (u : V). length u.numbers) s.views (λ i u e. (r.each_view i u e).speaks) in
      let all = r.all_spoken_for in
      let wait = r.ticket_count in
      (omega (arith, one, hand, mine), omega (arith, one, hand, mine, few, all, wait))

  -- while a view waits with the ticket that is served, the value is at home
  pub at_home : (s : S) (r : Rule s) (id : ℕ) (v : V) (t : ℕ) → get_elem? s.views id ≡ some v → v.stage ≡ Waiting t → t ≡ r.served
      → IsAtHome key log worker (key first) r.current r.home s.views
  at_home s r id v t at waits mine = ⊎_elim {B = IsAway key log worker r.current r.home s.views}
      (λ f. f)
      (λ h. let z : turns_of v.stage ≡ 0 = ap turns_of waits in
      let ne : h.1.0 ≢ id = λ e. let same_view : h.1.1 ≡ v = some-injective h.1.1 v (sym h.1.2 ∙ ap (λ k. get_elem? s.views k) e ∙ at) in let p : turns_of h.1.1.stage ≡ turns_of v.stage = ap (λ (u : V). turns_of u.stage) same_view in omega (arith, h.1.3) in
      let two = total_two (λ (u : V). holds_ticket r.served u.stage) s.views h.1.0 id h.1.1 v ne h.1.2 at in
      let theirs = served_ticket h.1.1.stage r.served h.1.3 (r.each_view h.1.0 h.1.1 h.1.2).served in
      let ours : holds_ticket r.served v.stage ≡ one_if_equal r.served t = ap (holds_ticket r.served) waits in
      let hand = r.tickets_out r.served in absurd (omega (arith, two, theirs, ours, hand, mine)))
      r.whereabouts

  -- two views share no number
  pub share_no_number : (s : S) (r : Rule s) (i j : ℕ) (v w : V) → i ≢ j → get_elem? s.views i ≡ some v → get_elem? s.views j ≡ some w → (n : ℕ) → occurrences n v.numbers + occurrences n w.numbers ≤ 1
  share_no_number s r i j v w ne e d n = let two = total_two (λ (u : V). occurrences n u.numbers) s.views i j v w ne e d in let all = r.each_once n in omega (arith, two, all)

  -- while one view has the turn, another has none
  pub others_have_none : (s : S) (r : Rule s) (i j : ℕ) (v w : V) → i ≢ j → get_elem? s.views i ≡ some v → get_elem? s.views j ≡ some w → turns_of v.stage ≡ 1 → turns_of w.stage ≡ 0
  others_have_none s r i j v w ne e d mine = let two = total_two (λ (u : V). turns_of u.stage) s.views i j v w ne e d in let h = holder s r i v e mine in let z = h.0 in omega (arith, two, z, mine)
