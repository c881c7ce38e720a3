-- A split, a join, and the look after a join keep the turn rule.
use Rattle.std.proofs.Common.{◌≡◌, ℕ, subst, ◌+◌, ◌<◌, ◌≤◌, ◌≢◌, ◌⊎◌, List, [], ◌∷◌, ◌++◌, length, set, slice_index, Option, sym, refl, ap, ◌∙◌, inl, inr, ⊎_elim, arith}
use Rattle.std.proofs.Common.{length-append}
use mathlib.Core.Option.{some, none, some-injective}
use mathlib.Core.Option as maybe
use lib.ListN.{get_elem?}
use Rattle.atomic_table.specs.Table.{State, Me, step, keeps, Allows, Splits, Joins}
use Rattle.atomic_table.proofs.Lists.{at_set, set_else, at_longer, at_snoc}
use Rattle.vt_lock.specs.declared.view.View.{View}
use Rattle.vt_lock.specs.declared.view.Stage.{Stage}
use Rattle.vt_lock.specs.declared.view.JoinedPart.{JoinedPart}
use Rattle.vt_lock.specs.declared.view.Stage.TheVariants.{Resting, Joining}
use Rattle.vt_lock.specs.Numbers.{occurrences, one_if_below}
use Rattle.vt_lock.specs.Logs.{ContinuesWithout, HasNoneOf}
use Rattle.vt_lock.specs.Views.{IsServed, PartsAgree, PartsContinue, holds_ticket, spent_view, tickets_of, turns_of, united}
use Rattle.vt_lock.specs.TurnRule.{IsAtHome, IsAway, IsSoundView, KeepsTurns, total}
use Rattle.vt_lock.specs.private.StepsTell.{settle_tells}
use Rattle.vt_lock.proofs.LogLemmas.{none_fewer, shorter_begins, longer_continues}
use Rattle.vt_lock.proofs.Sums.{total_set, total_snoc, occurrences_append}
use Rattle.vt_lock.proofs.OneView.{moved, whereabouts_kept}

-- no entry is of a worker without a number
none_of_none : {E : Type 0} (worker : E → ℕ) (xs : List E) → HasNoneOf worker [] xs
none_of_none worker [] = tt
none_of_none worker (x ∷ xs) = (refl, none_of_none worker xs)

module _ {T X E : Type 0} (key : T → X) (log : T → List E) (worker : E → ℕ) (first : T) where
  abbrev V : Type 0
  V = View X E

  abbrev S : Type 0
  S = State (Option T) V

  abbrev Sound : List E → ℕ → V → Type 0
  Sound current served v = IsSoundView key log worker (key first) current served v

  abbrev Whereabouts : List E → maybe.Option (Option T) → List V → Type 0
  Whereabouts current home views = IsAtHome key log worker (key first) current home views ⊎ IsAway key log worker current home views

  -- where the value is stays the same where no view with the turn changes
  whereabouts_of_two : (current : List E) (home : maybe.Option (Option T)) (views views' : List V) → total (λ (u : V). turns_of u.stage) views' ≡ total (λ (u : V). turns_of u.stage) views
      → ((i : ℕ) (v : V) → get_elem? views i ≡ some v → turns_of v.stage ≡ 1 → get_elem? views' i ≡ some v) → Whereabouts current home views → Whereabouts current home views'
  whereabouts_of_two current home views views' eq stays whereabouts = ⊎_elim {A = IsAtHome key log worker (key first) current home views} {B = IsAway key log worker current home views}
      (λ f. inl (eq ∙ f.0, f.1))
      (λ h. inr (eq ∙ h.0, (h.1.0, h.1.1, stays h.1.0 h.1.1 h.1.2 h.1.3, h.1.3, h.1.4, h.1.5)))
      whereabouts

  -- the sum over the views after a split
  total_split : (f : V → ℕ) (l : List V) (i : ℕ) (v a b : V) → get_elem? l i ≡ some v → f a + f b ≡ f v → total f (set l i a ++ b ∷ []) ≡ total f l
  total_split f l i v a b at eq = let p = total_snoc f (set l i a) b in let q = total_set f l i v a at in omega (arith, p, q, eq)

  -- a view is cut in two, which have the first numbers and the rest, and the same log
  pub split_keeps : (id : ℕ) (v a b : V) → v.stage ≡ Resting → a.stage ≡ Resting → b.stage ≡ Resting → a.key ≡ v.key → b.key ≡ v.key → a.seen ≡ v.seen → b.seen ≡ v.seen
      → v.numbers ≡ a.numbers ++ b.numbers → 0 < length v.numbers
      → Splits (KeepsTurns key log worker first) id v a b
  split_keeps id v a b idle idle_a idle_b key_a key_b seen_a seen_b numbers speaks s r at =
      let old = r.each_view id v at in
      let parts : (n : ℕ) → occurrences n v.numbers ≡ occurrences n a.numbers + occurrences n b.numbers = λ n. ap (occurrences n) numbers ∙ occurrences_append n a.numbers b.numbers in
      let long : length v.numbers ≡ length a.numbers + length b.numbers = ap length numbers ∙ length-append a.numbers b.numbers in
      let fit : (w : V) → w.stage ≡ Resting → w.key ≡ v.key → w.seen ≡ v.seen → ((n : ℕ) → occurrences n w.numbers ≤ occurrences n v.numbers) → Sound r.current r.served w = λ w i k e le. record {
        keyed = λ _. k ∙ old.keyed speaks;
        seen = subst (λ l. ContinuesWithout worker w.numbers l r.current) (sym e) (old.seen.0, old.seen.1, none_fewer worker v.numbers w.numbers old.seen.0 le old.seen.2);
        speaks = let z : tickets_of w.stage ≡ 0 = ap tickets_of i in omega (arith, z);
        served = subst (IsServed r.served) (sym i) tt;
        parts = subst (PartsContinue worker w.numbers r.current) (sym i) tt;
      } in
      let fit_a = fit a idle_a key_a seen_a (λ n. let p = parts n in omega (arith, p)) in
      let fit_b = fit b idle_b key_b seen_b (λ n. let p = parts n in omega (arith, p)) in
      let quiet : (f : Stage E → ℕ) → f Resting ≡ 0 → total (λ (u : V). f u.stage) (set s.views id a ++ b ∷ []) ≡ total (λ (u : V). f u.stage) s.views = λ f z.
      total_split (λ (u : V). f u.stage) s.views id v a b at (let x = ap f idle_a in let y = ap f idle_b in let w = ap f idle in omega (arith, x, y, w, z)) in record {
        drawn = r.drawn;
        served = r.served;
        current = r.current;
        home = r.home;
        words = r.words;
        homes = r.homes;
        known_workers = r.known_workers;
        tickets_out = λ t. ap (λ k. k + one_if_below t r.served) (quiet (holds_ticket t) refl) ∙ r.tickets_out t;
        ticket_count = ap (λ k. k + r.served) (quiet tickets_of refl) ∙ r.ticket_count;
        each_once = λ n. total_split (λ (u : V). occurrences n u.numbers) s.views id v a b at (sym (parts n)) ∙ r.each_once n;
        all_spoken_for = total_split (λ (u : V). length u.numbers) s.views id v a b at (sym long) ∙ r.all_spoken_for;
        each_view = λ i w e. ⊎_elim
            (λ e'. ⊎_elim (λ h. subst (Sound r.current r.served) h.1 fit_a) (λ h. r.each_view i w h.1) (at_set s.views id i a w e'))
            (λ p. subst (Sound r.current r.served) p fit_b)
            (at_snoc (set s.views id a) b w i e);
        whereabouts = whereabouts_of_two r.current r.home s.views (set s.views id a ++ b ∷ []) (quiet turns_of refl)
            (λ i w e mine. let ne : i ≢ id = λ p. let same_view : w ≡ v = some-injective w v (sym e ∙ ap (λ k. get_elem? s.views k) p ∙ at) in let q : turns_of w.stage ≡ turns_of v.stage = ap (λ (u : V). turns_of u.stage) same_view in let z : turns_of v.stage ≡ 0 = ap turns_of idle in omega (arith, q, z, mine) in
            at_longer (set s.views id a) (b ∷ []) i w (set_else s.views id i a ne ∙ e)) r.whereabouts;
      }

  -- the sum over the views after a join
  total_join : (f : V → ℕ) (l : List V) (i j : ℕ) (v w a b : V) → get_elem? l i ≡ some v → get_elem? (set l i a) j ≡ some w → f a + f b ≡ f v + f w → total f (set (set l i a) j b) ≡ total f l
  total_join f l i j v w a b at at' eq = let p = total_set f l i v a at in let q = total_set f (set l i a) j w b at' in omega (arith, p, q, eq)

  -- a view takes in another, which is spent
  pub join_keeps : (id other : ℕ) (v w : V) → v.stage ≡ Resting → w.stage ≡ Resting → 0 < length v.numbers → Joins (KeepsTurns key log worker first) id v other w (united v w) spent_view
  join_keeps id other v w idle idle' speaks s r at ne at' =
      let both : V = united v w in
      let there : get_elem? s.views other ≡ some w = sym (set_else s.views id other both ne) ∙ at' in
      let mine = r.each_view id v at in
      let theirs = r.each_view other w there in
      let fit : Sound r.current r.served both = record {
        keyed = λ _. mine.keyed speaks;
        seen = longer_continues worker v.numbers w.numbers v.seen w.seen r.current mine.seen theirs.seen;
        speaks = omega arith;
        served = tt;
        parts = (refl, mine.seen, theirs.seen);
      } in
      let fit' : Sound r.current r.served spent_view = record {
        keyed = λ h. absurd (omega arith);
        seen = (r.current, refl, none_of_none worker r.current);
        speaks = omega arith;
        served = tt;
        parts = tt;
      } in
      let quiet : (f : Stage E → ℕ) → f Resting ≡ 0 → f both.stage ≡ 0 → total (λ (u : V). f u.stage) (set (set s.views id both) other spent_view) ≡ total (λ (u : V). f u.stage) s.views = λ f z y.
      total_join (λ (u : V). f u.stage) s.views id other v w both spent_view at at' (let x = ap f idle in let x' = ap f idle' in omega (arith, x, x', y, z)) in record {
        drawn = r.drawn;
        served = r.served;
        current = r.current;
        home = r.home;
        words = r.words;
        homes = r.homes;
        known_workers = r.known_workers;
        tickets_out = λ t. ap (λ k. k + one_if_below t r.served) (quiet (holds_ticket t) refl refl) ∙ r.tickets_out t;
        ticket_count = ap (λ k. k + r.served) (quiet tickets_of refl refl) ∙ r.ticket_count;
        each_once = λ n. total_join (λ (u : V). occurrences n u.numbers) s.views id other v w both spent_view at at' (let p = occurrences_append n v.numbers w.numbers in omega (arith, p)) ∙ r.each_once n;
        all_spoken_for = total_join (λ (u : V). length u.numbers) s.views id other v w both spent_view at at' (let p = length-append v.numbers w.numbers in omega (arith, p)) ∙ r.all_spoken_for;
        each_view = λ i u e. ⊎_elim
            (λ h. subst (Sound r.current r.served) h.1 fit')
            (λ h. ⊎_elim (λ h'. subst (Sound r.current r.served) h'.1 fit) (λ h'. r.each_view i u h'.1) (at_set s.views id i both u h.1))
            (at_set (set s.views id both) other i spent_view u e);
        whereabouts = whereabouts_of_two r.current r.home s.views (set (set s.views id both) other spent_view) (quiet turns_of refl refl)
            (λ i u e has.
            let ne_id : i ≢ id = λ p. let q : turns_of u.stage ≡ turns_of v.stage = ap (λ (z : V). turns_of z.stage) (some-injective u v (sym e ∙ ap (λ k. get_elem? s.views k) p ∙ at)) in let z : turns_of v.stage ≡ 0 = ap turns_of idle in omega (arith, q, z, has) in
            let ne_other : i ≢ other = λ p. let q : turns_of u.stage ≡ turns_of w.stage = ap (λ (z : V). turns_of z.stage) (some-injective u w (sym e ∙ ap (λ k. get_elem? s.views k) p ∙ there)) in let z : turns_of w.stage ≡ 0 = ap turns_of idle' in omega (arith, q, z, has) in
            set_else (set s.views id both) other i spent_view ne_other ∙ (set_else s.views id i both ne_id ∙ e)) r.whereabouts;
      }

  -- after a join a load tells what the two had seen of each other
  pub settle_keeps : (slots id : ℕ) (me : Me (Option T) V) (p q : JoinedPart E) → me.0.stage ≡ Joining p q → me.1 ≡ []
      → Allows (KeepsTurns key log worker first) slots id me 1 (λ n. n) (settle_tells key log worker (step slots 1 0 0 none) me)
  settle_keeps slots id me p q joining empty s r _ at _ =
      let v : V = me.0 in
      let a : V = record v { stage = Resting } in
      let old = r.each_view id v at in
      let fit : PartsContinue worker v.numbers r.current (Joining p q) = subst (PartsContinue worker v.numbers r.current) joining old.parts in (
        a,
        keeps,
        tt,
        moved key log worker first s r id v a at refl r.drawn r.served r.current r.home _ _
            (ap (λ w. set w 1 (slice_index w 1)) r.words) r.homes r.known_workers
            (λ t. let z : holds_ticket t v.stage ≡ 0 = ap (holds_ticket t) joining in omega (arith, z))
            (let z : tickets_of v.stage ≡ 0 = ap tickets_of joining in omega (arith, z))
            (record { keyed = old.keyed; seen = old.seen; speaks = omega arith; served = tt; parts = tt })
            (λ j w ne e. r.each_view j w e)
            (whereabouts_kept key log worker first r.current r.home s.views id v a at (ap turns_of joining) refl r.whereabouts),
        (refl, empty, subst (PartsAgree worker) (sym joining) (shorter_begins worker p.numbers q.numbers p.seen q.seen r.current fit.1 fit.2)),
      )
