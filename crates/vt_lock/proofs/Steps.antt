-- Each step of one seat keeps the turn rule: the opening, the draw, the look, the raise.
use Rattle.std.proofs.Common.{◌≡◌, ℕ, subst, ◌+◌, ◌%◌, ◌^◌, ◌<◌, ◌≤◌, ◌⊎◌, List, [], ◌∷◌, ◌++◌, length, set, slice_index, Option, Some, None, sym, refl, ap, ◌∙◌, inl, inr, arith}
use Rattle.std.proofs.Math.Nat.{mod-add-mod}
use Rattle.std.proofs.Common.{append-nil, append_assoc, unwrap_or}
use mathlib.Core.Option.{some, none}
use mathlib.Core.Option as maybe
use mathlib.Core.Logic.{dite}
use native.Mathlib.Decide.{ℕ_discrete}
use lib.ListN.{get_elem?}
use Rattle.atomic_table.specs.Table.{State, Me, Act, step, keeps, takes, gives, Valid, carried_after, stepped, Allows}
use Rattle.atomic_table.proofs.Lists.{set_here, set_again, one_turn}
use Rattle.vt_lock.specs.declared.view.View.{View}
use Rattle.vt_lock.specs.declared.view.Stage.{Stage}
use Rattle.vt_lock.specs.declared.view.Stage.TheVariants.{Resting, Opening, Waiting, Holding, Joining}
use Rattle.vt_lock.specs.Numbers.{occurrences, one_if_equal}
use Rattle.vt_lock.specs.Logs.{AreOfWorkers, ContinuesBy, ContinuesWithout, HasNoneOf}
use Rattle.vt_lock.specs.Views.{IsServed, PartsContinue, holds_ticket, left_at_home, ticket_in, tickets_of, turns_of}
use Rattle.vt_lock.specs.TurnRule.{IsAtHome, IsAway, KeepsTurns}
use Rattle.vt_lock.specs.private.StepsTell.{HasCome, draw_tells, look_tells, open_tells, raise_tells}
use Rattle.vt_lock.proofs.LogLemmas.{none_in_append, none_fewer, none_others, below_append, each_below}
use Rattle.vt_lock.proofs.Sums.{total_set, total_one, occurrences_append, place_below}
use Rattle.vt_lock.proofs.OneView.{cancel, any_served, moved, whereabouts_kept, holder, ticket_range, at_home, share_no_number, others_have_none}

module _ {E : Type 0} where
  continues_further : (worker : E → ℕ) (ns ms : List ℕ) (seen log log' more : List E) → ((n : ℕ) → occurrences n ms ≤ occurrences n ns) → log' ≡ log ++ more → HasNoneOf worker ns more
      → ContinuesWithout worker ms seen log → ContinuesWithout worker ms seen log'
  continues_further worker ns ms seen log log' more le is free g =
      (g.0 ++ more, is ∙ ap (λ l. l ++ more) g.1 ∙ append_assoc seen g.0 more, none_in_append worker ms g.0 more g.2 (none_fewer worker ns ms more le free))

  parts_continue_further : (worker : E → ℕ) (st : Stage E) (ns : List ℕ) (log log' more : List E) → log' ≡ log ++ more → HasNoneOf worker ns more → PartsContinue worker ns log st → PartsContinue worker ns log' st
  parts_continue_further worker Resting ns log log' more is free h = tt
  parts_continue_further worker Opening ns log log' more is free h = tt
  parts_continue_further worker (Waiting u) ns log log' more is free h = tt
  parts_continue_further worker (Holding u) ns log log' more is free h = tt
  parts_continue_further worker (Joining p q) ns log log' more is free h =
      let split : (n : ℕ) → occurrences n ns ≡ occurrences n p.numbers + occurrences n q.numbers = λ n. ap (occurrences n) h.0 ∙ occurrences_append n p.numbers q.numbers in (
        h.0,
        continues_further worker ns p.numbers p.seen log log' more (λ n. let e = split n in omega (arith, e)) is free h.1,
        continues_further worker ns q.numbers q.seen log log' more (λ n. let e = split n in omega (arith, e)) is free h.2,
      )

module _ {T X E : Type 0} (key : T → X) (log : T → List E) (worker : E → ℕ) (first : T) where
  abbrev V : Type 0
  V = View X E

  abbrev S : Type 0
  S = State (Option T) V

  abbrev Rule : S → Type 0
  Rule s = KeepsTurns key log worker first s

  abbrev Whereabouts : List E → maybe.Option (Option T) → List V → Type 0
  Whereabouts current home views = IsAtHome key log worker (key first) current home views ⊎ IsAway key log worker current home views

  -- the first seat takes the slot that the value is to lie in
  pub open_keeps : (slots id : ℕ) (me : Me (Option T) V) → me.0.stage ≡ Opening → me.1 ≡ []
      → Allows (KeepsTurns key log worker first) slots id me 1 (λ n. n) (open_tells key log worker (step slots 1 0 0 none) me)
  open_keeps slots id me opening empty s r _ at _ =
      let v : V = me.0 in
      let a : V = record v { stage = Holding 0 } in
      let old = r.each_view id v at in
      let has : turns_of v.stage ≡ 1 = ap turns_of opening in
      let h = holder key log worker first s r id v at has in
      let none_yet : r.served ≡ 0 = subst (IsServed r.served) opening old.served in
      let t = total_set (λ (u : V). turns_of u.stage) s.views id v a at in (
        a,
        takes 0 None,
        ap (λ hs. get_elem? hs 0) r.homes ∙ ap some (h.2 ∙ ap (left_at_home {T = T}) opening),
        moved key log worker first s r id v a at refl r.drawn r.served r.current none _ _
            (ap (λ w. set w 1 (slice_index w 1)) r.words)
            (ap (λ hs. set hs 0 none) r.homes)
            r.known_workers
            (λ t. let z : holds_ticket t v.stage ≡ one_if_equal t 0 = ap (holds_ticket t) opening in omega arith)
            (let z : tickets_of v.stage ≡ 1 = ap tickets_of opening in omega arith)
            (record { keyed = old.keyed; seen = old.seen; speaks = let z : tickets_of v.stage ≡ 1 = ap tickets_of opening in omega (arith, old.speaks); served = sym none_yet; parts = tt })
            (λ j w ne e. r.each_view j w e)
            (inr (cancel _ _ _ _ t (sym has) ∙ h.0, (id, a, set_here s.views id a (place_below s.views id v at), refl, h.1, refl))),
        (refl, ap (λ c. (0, None) ∷ c) empty),
      )

  -- a seat draws a ticket
  pub draw_keeps : (slots id : ℕ) (me : Me (Option T) V) → me.0.stage ≡ Resting → me.1 ≡ [] → 0 < length me.0.numbers
      → Allows (KeepsTurns key log worker first) slots id me 0 (λ n. (n + 1) % 2 ^ 64) (draw_tells key log worker (step slots 0 1 0 none) me)
  draw_keeps slots id me idle empty speaks s r _ at _ =
      let v : V = me.0 in
      let a : V = record v { stage = Waiting r.drawn } in
      let old = r.each_view id v at in (
        a,
        keeps,
        tt,
        moved key log worker first s r id v a at refl (r.drawn + 1) r.served r.current r.home _ _
            (ap (λ w. set w 0 ((slice_index w 0 + 1) % 2 ^ 64)) r.words ∙ ap (λ (k : ℕ). k ∷ (r.served % 2 ^ 64) ∷ []) (mod-add-mod r.drawn (2 ^ 64) 1))
            r.homes r.known_workers
            (λ t. let z : holds_ticket t v.stage ≡ 0 = ap (holds_ticket t) idle in omega arith)
            (let z : tickets_of v.stage ≡ 0 = ap tickets_of idle in omega arith)
            (record { keyed = old.keyed; seen = old.seen; speaks = omega arith; served = tt; parts = tt })
            (λ j w ne e. r.each_view j w e)
            (whereabouts_kept key log worker first r.current r.home s.views id v a at (ap turns_of idle) refl r.whereabouts),
        (r.drawn, refl, sym (ap (λ w. slice_index w 0) r.words), empty),
      )

  has_come_to : (slots id : ℕ) (me : Me (Option T) V) (t : ℕ) → me.0.stage ≡ Waiting t → me.1 ≡ [] → (s : S) (r : Rule s) → get_elem? s.views id ≡ some me.0
      → (slice_index s.words 1 ≡ t % 2 ^ 64)
      → (w : V) × (a : Act (Option T)) × Valid s.homes me.1 a × Rule (stepped s 1 (slice_index s.words 1) id me.1 w a) × HasCome key log worker me (w, carried_after me.1 a)
  has_come_to slots id me t waits empty s r at here =
      let v : V = me.0 in
      let range = ticket_range key log worker first s r id v t at (ap (holds_ticket t) waits ∙ omega arith) in
      let mine : t ≡ r.served = sym (one_turn r.served t (2 ^ 64) range.0 range.1 (sym (ap (λ w. slice_index w 1) r.words) ∙ here)) in
      let free = at_home key log worker first s r id v t at waits mine in
      let x : T = free.1.0 in
      let a : V = record v { seen = log x; stage = Holding (ticket_in v.stage) } in
      let old = r.each_view id v at in
      let number : ticket_in v.stage ≡ t = ap ticket_in waits in
      let turn = total_set (λ (u : V). turns_of u.stage) s.views id v a at in
      let none_before : turns_of v.stage ≡ 0 = ap turns_of waits in (
        a,
        takes 0 (Some x),
        ap (λ hs. get_elem? hs 0) r.homes ∙ ap some free.1.1,
        moved key log worker first s r id v a at refl r.drawn r.served r.current none _ _
            (ap (λ w. set w 1 (slice_index w 1)) r.words)
            (ap (λ hs. set hs 0 none) r.homes)
            r.known_workers
            (λ k. let z : holds_ticket k v.stage ≡ one_if_equal k t = ap (holds_ticket k) waits in omega (arith, number))
            (let z : tickets_of v.stage ≡ 1 = ap tickets_of waits in omega arith)
            (record { keyed = old.keyed; seen = ([], sym free.1.3 ∙ sym (append-nil (log x)), tt); speaks = let z : tickets_of v.stage ≡ 1 = ap tickets_of waits in omega (arith, old.speaks); served = number ∙ mine; parts = tt })
            (λ j w ne e. r.each_view j w e)
            (inr (let f = free.0 in omega (arith, turn, f, none_before), (id, a, set_here s.views id a (place_below s.views id v at), refl, free.1.3, refl))),
        (x, ap (λ c. (0, Some x) ∷ c) empty, old.keyed (let z : tickets_of v.stage ≡ 1 = ap tickets_of waits in omega (arith, old.speaks)) ∙ ap Some (sym free.1.2), (old.seen.0, free.1.3 ∙ old.seen.1, old.seen.2), refl),
      )

  -- a load that tells nothing changes nothing
  still : (s : S) (r : Rule s) (id : ℕ) (me : Me (Option T) V) → get_elem? s.views id ≡ some me.0 → Rule (stepped s 1 (slice_index s.words 1) id me.1 me.0 keeps)
  still s r id me at = moved key log worker first s r id me.0 me.0 at refl r.drawn r.served r.current r.home _ _
      (ap (λ w. set w 1 (slice_index w 1)) r.words) r.homes r.known_workers (λ k. omega arith) (omega arith) (r.each_view id me.0 at) (λ j w ne e. r.each_view j w e)
      (subst (Whereabouts r.current r.home) (sym (set_again s.views id me.0 at)) r.whereabouts)

  -- a seat that waits looks at the count that is served
  pub look_keeps : (slots id : ℕ) (me : Me (Option T) V) (t : ℕ) → me.0.stage ≡ Waiting t → me.1 ≡ []
      → Allows (KeepsTurns key log worker first) slots id me 1 (λ n. n) (look_tells key log worker (step slots 1 0 0 none) me)
  look_keeps slots id me t waits empty s r _ at _ =
      let number : ticket_in me.0.stage ≡ t = ap ticket_in waits in
      let same_rest : ticket_in me.0.stage % 2 ^ 64 ≡ t % 2 ^ 64 = ap (λ k. k % 2 ^ 64) number in
      dite (ℕ_discrete (slice_index s.words 1) (t % 2 ^ 64))
      (λ here. let c = has_come_to slots id me t waits empty s r at here in (c.0, c.1, c.2, c.3, ((λ _. c.4), λ not. absurd (not (here ∙ sym same_rest)))))
      (λ gone. (me.0, keeps, tt, still s r id me at, ((λ here. absurd (gone (here ∙ same_rest))), λ _. refl)))

  -- who has the turn gives the value back, and raises the count that is served
  pub raise_keeps : (slots id : ℕ) (v : V) (x : T) (t : ℕ) → v.stage ≡ Holding t → 0 < length v.numbers → v.key ≡ Some (key x) → ContinuesBy worker v.numbers v.seen (log x)
      → Allows (KeepsTurns key log worker first) slots id (v, (0, Some x) ∷ []) 1 (λ n. (n + 1) % 2 ^ 64) (raise_tells key log worker (step slots 1 1 0 none) (v, (0, Some x) ∷ []))
  raise_keeps slots id v x t holds speaks keyed adds s r _ at _ =
      let a : V = record v { seen = log x; stage = Resting } in
      let old = r.each_view id v at in
      let mine : turns_of v.stage ≡ 1 = ap turns_of holds in
      let h = holder key log worker first s r id v at mine in
      let number : t ≡ r.served = subst (IsServed r.served) holds old.served in
      let below_64 : (n : ℕ) → 0 < occurrences n v.numbers → n < 64 = λ n has. let one = total_one (λ (u : V). occurrences n u.numbers) s.views id v at in let all = r.each_once n in omega (arith, one, all, has) in
      let now : log x ≡ r.current ++ adds.0 = adds.1 ∙ ap (λ l. l ++ adds.0) h.1 in
      let turn = total_set (λ (u : V). turns_of u.stage) s.views id v a at in
      let range = ticket_range key log worker first s r id v t at (ap (holds_ticket t) holds ∙ omega arith) in
      let had : tickets_of v.stage ≡ 1 = ap tickets_of holds in
      let drawn_more : r.served < r.drawn = let one = total_one (λ (u : V). tickets_of u.stage) s.views id v at in let w = r.ticket_count in omega (arith, one, had, w) in (
        a,
        gives,
        tt,
        moved key log worker first s r id v a at refl r.drawn (r.served + 1) (log x) (some (Some x)) _ _
            (ap (λ w. set w 1 ((slice_index w 1 + 1) % 2 ^ 64)) r.words ∙ ap (λ (k : ℕ). (r.drawn % 2 ^ 64) ∷ k ∷ []) (mod-add-mod r.served (2 ^ 64) 1))
            (ap (λ hs. set hs 0 (some (Some x))) r.homes)
            (subst (AreOfWorkers worker) (sym now) (below_append worker r.current adds.0 r.known_workers (each_below worker v.numbers adds.0 below_64 adds.2)))
            (λ k. let z : holds_ticket k v.stage ≡ one_if_equal k t = ap (holds_ticket k) holds in omega (arith, number, drawn_more))
            (omega (arith, had))
            (record { keyed = old.keyed; seen = ([], sym (append-nil (log x)), tt); speaks = omega arith; served = tt; parts = tt })
            (λ j w ne e. let other = r.each_view j w e in record {
              keyed = other.keyed;
              seen = continues_further worker w.numbers w.numbers w.seen r.current (log x) adds.0 (λ n. omega arith) now (none_others worker v.numbers w.numbers adds.0 (share_no_number key log worker first s r id j v w (λ p. ne (sym p)) at e) adds.2) other.seen;
              speaks = other.speaks;
              served = any_served w.stage (r.served + 1) (others_have_none key log worker first s r id j v w (λ p. ne (sym p)) at e mine);
              parts = parts_continue_further worker w.stage w.numbers r.current (log x) adds.0 now (none_others worker v.numbers w.numbers adds.0 (share_no_number key log worker first s r id j v w (λ p. ne (sym p)) at e) adds.2) other.parts;
            })
            (inl (let z = h.0 in omega (arith, turn, z, mine), (x, refl, ap (λ (o : Option X). unwrap_or o (key x)) (sym keyed ∙ old.keyed speaks), refl))),
        (refl, refl),
      )
