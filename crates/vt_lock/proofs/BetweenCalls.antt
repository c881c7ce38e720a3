-- The steps of a seat as the calls make them, from what a contract sees of the seat.
use Rattle.std.proofs.Common.{◌≡◌, ℕ, true, false, subst, ◌+◌, ◌%◌, ◌^◌, ◌<◌, List, [], ◌∷◌, length, unwrap_or, take-append-drop, Option, Some, None, sym, refl, ap, ◌∙◌}
use mathlib.Core.Option.{none, some}
use lib.ListN.{get_elem?}
use Rattle.atomic_table.specs.Seated.{TableId}
use Rattle.atomic_table.specs.Table.{Me, step, rest, Allows, Splits, Joins, Final, Seen}
use Rattle.vt_lock.specs.declared.view.View.{View}
use Rattle.vt_lock.specs.declared.view.Stage.{Stage}
use Rattle.vt_lock.specs.declared.view.Stage.TheVariants.{Resting, Opening, Waiting, Holding, Joining}
use Rattle.vt_lock.specs.Numbers.{HasAllNumbers, half_of}
use Rattle.vt_lock.specs.Logs.{ContinuesBy}
use Rattle.vt_lock.specs.SeatFacts.{SeatFacts, has_turn_at, seat_facts}
use Rattle.vt_lock.specs.Views.{lower_half, part_of, spent_view, ticket_in, united, upper_half}
use Rattle.vt_lock.specs.TurnRule.{KeepsTurns}
use Rattle.vt_lock.specs.private.StepsTell.{HasCome, HasTaken, IsBetweenCalls, IsWaiting, draw_tells, look_tells, raise_tells, settle_tells}
use Rattle.vt_lock.proofs.Steps.{draw_keeps, look_keeps, raise_keeps}
use Rattle.vt_lock.proofs.SplitAndJoin.{join_keeps, settle_keeps, split_keeps}
use Rattle.vt_lock.proofs.StartAndEnd.{last_value}

module _ {T E : Type 0} where
  pub held : (st : Stage E) (slots : List (ℕ × Option T)) → has_turn_at st ≡ true → IsBetweenCalls st slots → (t : ℕ) × (st ≡ Holding t) × (slots ≡ (0, None) ∷ [])
  held Resting slots e h = cc
  held Opening slots e h = absurd h
  held (Waiting t) slots e h = absurd h
  held (Holding t) slots e h = (t, refl, h)
  held (Joining p q) slots e h = absurd h

  pub idle : (st : Stage E) (slots : List (ℕ × Option T)) → has_turn_at st ≡ false → IsBetweenCalls st slots → (st ≡ Resting) × (slots ≡ [])
  idle Resting slots e h = (refl, h)
  idle Opening slots e h = absurd h
  idle (Waiting t) slots e h = absurd h
  idle (Holding t) slots e h = cc
  idle (Joining p q) slots e h = absurd h

abbrev value_in : {T : Type 0} → List (ℕ × Option T) → Option T
value_in [] = None
value_in (c ∷ cs) = c.1

module _ {T X E : Type 0} (key : T → X) (log : T → List E) (worker : E → ℕ) (first : T) where
  abbrev M : Type 0
  M = Me (Option T) (View X E)

  pub may_give : (slots id : ℕ) (z : TableId) (before me : M) (k : SeatFacts X E) (x : T) → seat_facts z before.0 ≡ k → (0 < length before.0.numbers) × IsBetweenCalls before.0.stage before.1
      → k.has_turn ≡ true → k.key ≡ Some (key x) → ContinuesBy worker k.numbers k.seen (log x) → me ≡ (before.0, (0, Some x) ∷ rest before.1)
      → Allows (KeepsTurns key log worker first) slots id me 1 (λ n. (n + 1) % 2 ^ 64) (raise_tells key log worker (step slots 1 1 0 none) me)
  may_give slots id z before me k x is rests turn keyed adds now =
      let h = held before.0.stage before.1 (ap (λ (k : SeatFacts X E). k.has_turn) is ∙ turn) rests.1 in
      let there : me ≡ (before.0, (0, Some x) ∷ []) = now ∙ ap (λ c. (before.0, (0, Some x) ∷ rest c)) h.2 in
      subst (λ (m : M). Allows (KeepsTurns key log worker first) slots id m 1 (λ n. (n + 1) % 2 ^ 64) (raise_tells key log worker (step slots 1 1 0 none) m)) (sym there)
      (raise_keeps key log worker first slots id before.0 x h.0 h.1 rests.0 (ap (λ (k : SeatFacts X E). k.key) is ∙ keyed)
      (subst (λ (k : SeatFacts X E). ContinuesBy worker k.numbers k.seen (log x)) (sym is) adds))

  pub may_draw : (slots id : ℕ) (z : TableId) (me : M) (k : SeatFacts X E) → seat_facts z me.0 ≡ k → (0 < length me.0.numbers) × IsBetweenCalls me.0.stage me.1 → k.has_turn ≡ false
      → Allows (KeepsTurns key log worker first) slots id me 0 (λ n. (n + 1) % 2 ^ 64) (draw_tells key log worker (step slots 0 1 0 none) me)
  may_draw slots id z me k is rests free =
      let h = idle me.0.stage me.1 (ap (λ (k : SeatFacts X E). k.has_turn) is ∙ free) rests.1 in
      draw_keeps key log worker first slots id me h.0 h.1 rests.0

  pub may_look : (slots id : ℕ) (n : ℕ) (me now : M) → now ≡ me → IsWaiting n me
      → Allows (KeepsTurns key log worker first) slots id now 1 (λ n. n) (look_tells key log worker (step slots 1 0 0 none) now)
  may_look slots id n me now is waits = subst (λ (m : M). Allows (KeepsTurns key log worker first) slots id m 1 (λ n. n) (look_tells key log worker (step slots 1 0 0 none) m)) (sym is)
      (look_keeps key log worker first slots id me waits.0 waits.1 waits.3)

  pub has_come : (n r : ℕ) (me now after : M) → now ≡ me → IsWaiting n me → look_tells key log worker (step 0 0 0 0 none) now r after → r ≡ n → HasCome key log worker me after
  has_come n r me now after is waits told found =
      let number : ticket_in me.0.stage % 2 ^ 64 ≡ n = ap (λ (s : Stage E). ticket_in s % 2 ^ 64) waits.1 ∙ waits.2 in
      subst (λ (m : M). HasCome key log worker m after) is (told.0 (found ∙ (sym number ∙ ap (λ (m : M). ticket_in m.0.stage % 2 ^ 64) (sym is))))

  pub has_slot : (me after : M) → HasCome key log worker me after → (old : Option T) × (after.1 ≡ (0, old) ∷ rest after.1)
  has_slot me after has_come_to = (Some has_come_to.0, has_come_to.1 ∙ ap (λ l. (0, Some has_come_to.0) ∷ l) (sym (ap rest has_come_to.1)))

  -- the value that the exchange returned is the one that the seat came to
  pub took : (me after : M) (old : Option T) (x : T) (now : M) → HasCome key log worker me after → after.1 ≡ (0, old) ∷ rest after.1 → old ≡ Some x → now ≡ (after.0, (0, None) ∷ rest after.1) → HasTaken key log worker me x now
  took me after old x now has_come_to found is then =
      let same_value : has_come_to.0 ≡ x = ap (λ (o : Option T). unwrap_or o has_come_to.0) (ap value_in (sym has_come_to.1 ∙ found) ∙ is) in
      subst (λ (y : T). HasTaken key log worker me y now) same_value (
        has_come_to.2,
        has_come_to.3,
        then ∙ ap (λ l. (after.0, (0, None) ∷ l)) (ap rest has_come_to.1) ∙ ap (λ v. (v, (0, None) ∷ [])) has_come_to.4,
      )

  pub may_split : (id : ℕ) (z : TableId) (me : M) (k : SeatFacts X E) → seat_facts z me.0 ≡ k → (0 < length me.0.numbers) × IsBetweenCalls me.0.stage me.1 → k.has_turn ≡ false
      → Splits (KeepsTurns key log worker first) id me.0 (lower_half me.0) (upper_half me.0)
  may_split id z me k is rests free =
      let h = idle me.0.stage me.1 (ap (λ (k : SeatFacts X E). k.has_turn) is ∙ free) rests.1 in
      split_keeps key log worker first id me.0 (lower_half me.0) (upper_half me.0) h.0 h.0 h.0 refl refl refl refl (sym (take-append-drop (half_of me.0.numbers) me.0.numbers)) rests.0

  pub may_join : (id other : ℕ) (z z' : TableId) (me me' : M) (k k' : SeatFacts X E) → seat_facts z me.0 ≡ k → seat_facts z' me'.0 ≡ k'
      → (0 < length me.0.numbers) × IsBetweenCalls me.0.stage me.1 → (0 < length me'.0.numbers) × IsBetweenCalls me'.0.stage me'.1 → k.has_turn ≡ false → k'.has_turn ≡ false
      → (me'.1 ≡ []) × Joins (KeepsTurns key log worker first) id me.0 other me'.0 (united me.0 me'.0) spent_view
  may_join id other z z' me me' k k' is is' rests rests' free free' =
      let h = idle me.0.stage me.1 (ap (λ (k : SeatFacts X E). k.has_turn) is ∙ free) rests.1 in
      let h' = idle me'.0.stage me'.1 (ap (λ (k : SeatFacts X E). k.has_turn) is' ∙ free') rests'.1 in
      (h'.1, join_keeps key log worker first id other me.0 me'.0 h.0 h'.0 rests.0)

  pub may_settle : (slots id : ℕ) (z : TableId) (me now : M) (w : View X E) (k : SeatFacts X E) → seat_facts z me.0 ≡ k → (0 < length me.0.numbers) × IsBetweenCalls me.0.stage me.1 → k.has_turn ≡ false
      → now ≡ (united me.0 w, me.1)
      → Allows (KeepsTurns key log worker first) slots id now 1 (λ n. n) (settle_tells key log worker (step slots 1 0 0 none) now)
  may_settle slots id z me now w k is rests free then =
      let h = idle me.0.stage me.1 (ap (λ (k : SeatFacts X E). k.has_turn) is ∙ free) rests.1 in
      settle_keeps key log worker first slots id now (part_of me.0) (part_of w) (ap (λ (m : M). m.0.stage) then) (ap (λ (m : M). m.1) then ∙ h.1)

  -- the value at the end
  pub may_close : (ws : List ℕ) (xs : List (Option T)) (id : ℕ) (z : TableId) (me : M) (y : Option T) (k : SeatFacts X E) → seat_facts z me.0 ≡ k → (0 < length me.0.numbers) × IsBetweenCalls me.0.stage me.1 → k.has_turn ≡ false
      → HasAllNumbers k.numbers → Final (Seen (KeepsTurns key log worker first) id me.0) ws xs → get_elem? xs 0 ≡ some y
      → (x : T) × (y ≡ Some x) × (k.key ≡ Some (key x)) × (log x ≡ k.seen)
  may_close ws xs id z me y k is rests free all final there =
      let h = idle me.0.stage me.1 (ap (λ (k : SeatFacts X E). k.has_turn) is ∙ free) rests.1 in
      let v = last_value key log worker first ws xs id me.0 y final there h.0 (subst (λ (k : SeatFacts X E). HasAllNumbers k.numbers) (sym is) all) in
      (v.0, v.1, ap (λ (k : SeatFacts X E). k.key) (sym is) ∙ v.2, v.3 ∙ ap (λ (k : SeatFacts X E). k.seen) is)

  pub closes : (y : Option T) (u : T) (k : SeatFacts X E) → y ≡ Some u → (x : T) × (y ≡ Some x) × (k.key ≡ Some (key x)) × (log x ≡ k.seen) → (k.key ≡ Some (key u)) × (log u ≡ k.seen)
  closes y u k is v =
      let same_value : v.0 ≡ u = ap (λ (o : Option T). unwrap_or o u) (sym v.1 ∙ is) in
      subst (λ (x : T). (k.key ≡ Some (key x)) × (log x ≡ k.seen)) same_value (v.2, v.3)
