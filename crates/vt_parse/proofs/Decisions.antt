-- The decisions by two tokens: a command or an expression, an assignment or a value.
use Rattle.std.proofs.Common.{◌≡◌, inl, inr, Bool, true, false, not, ◌&&◌, List, [], ◌∷◌, ◌++◌, refl, sym, ap, ◌∙◌, subst}
use Rattle.vt_tree.specs.declared.expression.Expr.{Expr}
use Rattle.vt_tree.specs.declared.statement.Simple.{Simple}
use Rattle.vt_tree.specs.declared.statement.Simple.TheVariants as simples
use Rattle.vt_grammar.specs.declared.parts.Arguments.{Arguments}
use Rattle.vt_grammar.specs.declared.terminals.Terminal.{Terminal}
use Rattle.vt_grammar.specs.declared.terminals.Terminal.TheVariants as terminals
use Rattle.vt_grammar.specs.Form.{Form, either, mapped, only}
use Rattle.vt_grammar.specs.private.Parsing.{Read, Stuck}
use Rattle.vt_grammar.specs.Marks.{Mark}
use Rattle.vt_grammar.specs.Grammar.{Opened, terminal, args, expr, leads, Leads, IsLed, IsPlain, command, cond_form, is_set, rhs, assign}
use Rattle.vt_grammar.specs.private.Sets.{just, ArgStarts, ExprGoes, RhsGoes}
use Rattle.vt_parse.specs.private.Parses.{is_command, is_assign}
use Rattle.vt_grammar.proofs.Choices.{left_read_by, left_stuck_by, only_read, only_stuck, right_read_by, right_stuck_by}
use Rattle.vt_grammar.proofs.TerminalSets.{In, disjoint, apart, by_room, just_is, just_self}
use Rattle.vt_grammar.proofs.MarkLaws.{map_rule}
use Rattle.vt_grammar.proofs.Rules.{Brackets, args_rule, expr_rule, command_rule, command_begun, command_one, command_expr, name_expr, rhs_rule, rhs_second, name_rhs, assign_rule, assign_begun, assign_one, assign_rhs}
use Rattle.vt_grammar.proofs.Exact.{Exacts, args_exact}
use Rattle.vt_parse.proofs.Rules.{map_read, map_stuck}

-- two tokens that begin the form are in front of where it is stuck
two_prefix : {V : Type 0} (a : Form Mark V) (c d : Mark) (r n : List Mark) → a.begins (c ∷ []) → a.begins (c ∷ d ∷ []) → (h : Stuck a (c ∷ d ∷ r) n)
    → (z : List Mark) × (h.prefix ≡ c ∷ d ∷ z)
two_prefix a c d r n one two h = go h.prefix h.whole h.stops
  where
    go : (f : List Mark) → c ∷ d ∷ r ≡ f ++ n → ((t : Mark) (rest : List Mark) → n ≡ t ∷ rest → a.begins (f ++ t ∷ []) → ⊥) → (z : List Mark) × (f ≡ c ∷ d ∷ z)
    go [] e st = absurd (st c (d ∷ r) (sym e) one)
    go (x ∷ []) e st =
        let same : x ≡ c = cc in
        absurd (st d r (let tail : n ≡ d ∷ r = cc in tail) (subst (λ y. a.begins (y ∷ d ∷ [])) (sym same) two))
    go (x ∷ y ∷ f) e st = (f, cc)

and_left : (a b : Bool) → a && b ≡ true → a ≡ true
and_left true b e = refl
and_left false b e = absurd (cc)

and_right : (a b : Bool) → a && b ≡ true → b ≡ true
and_right true b e = e
and_right false b e = absurd (cc)

and_both : (a b : Bool) → a && b ≡ false → a ≡ true → b ≡ false
and_both true b e p = e
and_both false b e p = absurd (cc)

after_terminal : {o a : List Mark} {t : Mark} (w : Terminal) → Read (terminal w) o a t → o ≡ t ∷ a
after_terminal {o = o} {a = a} {t = t} w h = go h.prefix h.whole h.is_read
  where
    go : (f : List Mark) → o ≡ f ++ a → (terminal w).reads f t → o ≡ t ∷ a
    go [] e g = absurd g
    go (c ∷ []) e g = e ∙ ap (λ z. z ∷ a) (sym g.1)
    go (c ∷ d ∷ f) e g = absurd g

module _ (s : Opened) (b : Bool) (bs : Brackets s b) (xs : Exacts s b) where
  -- a token that leads, but with which no argument may begin here, doesn't go on with an expression either
  leads_only : (w : Terminal) → leads w && not (ArgStarts b w) ≡ true → ExprGoes w ≡ true → ⊥
  leads_only w p q =
      apart {F = λ w. leads w && not (ArgStarts b w)} {G = ExprGoes} (by_room (λ b. disjoint (λ w. leads w && not (ArgStarts b w)) ExprGoes ≡ true) refl refl b)
      (record { terminal = w; line = 0; gap = false; bytes = []; number = 0 }) (record { is = p }) (record { is = q })

  head_of : (c d : Mark) (z : List Mark) → is_command b (c ∷ d ∷ z) ≡ true → (c.terminal ≡ terminals.Name) × Leads d × (ArgStarts b d.terminal ≡ true)
  head_of c d z p =
      let q = and_right (just terminals.Name c.terminal) (d.gap && (leads d.terminal && ArgStarts b d.terminal)) p in
      let r = and_right d.gap (leads d.terminal && ArgStarts b d.terminal) q in (
        sym (just_is terminals.Name c.terminal (and_left (just terminals.Name c.terminal) (d.gap && (leads d.terminal && ArgStarts b d.terminal)) p)),
        (and_left d.gap (leads d.terminal && ArgStarts b d.terminal) q, and_left (leads d.terminal) (ArgStarts b d.terminal) r),
        and_right (leads d.terminal) (ArgStarts b d.terminal) r,
      )

  name_true : (c : Mark) → c.terminal ≡ terminals.Name → just terminals.Name c.terminal ≡ true
  name_true c e = subst (λ z. just terminals.Name z ≡ true) (sym e) (just_self terminals.Name)

  -- where no command is, what leads can't begin an argument here
  not_command : (c d : Mark) (z : List Mark) → is_command b (c ∷ d ∷ z) ≡ false → c.terminal ≡ terminals.Name → Leads d → ArgStarts b d.terminal ≡ false
  not_command c d z p e h =
      and_both (leads d.terminal) (ArgStarts b d.terminal) (and_both d.gap (leads d.terminal && ArgStarts b d.terminal)
      (and_both (just terminals.Name c.terminal) (d.gap && (leads d.terminal && ArgStarts b d.terminal)) p (name_true c e)) h.0) h.1

  expr_second : (c d : Mark) (z : List Mark) → c.terminal ≡ terminals.Name → (expr s).begins (c ∷ d ∷ z) → In ExprGoes d
  expr_second c d z e h = let p = name_expr s b bs c e in (expr_rule s b bs).law.more (c ∷ []) p.0 d z p.1 h

  plain_two : (c d : Mark) (z y : List Mark) → is_command b (c ∷ d ∷ z) ≡ false → (expr s).begins (c ∷ d ∷ y) → c.terminal ≡ terminals.Name → Leads d → ⊥
  plain_two c d z y p g e h =
      let never = not_command c d z p e h in
      leads_only d.terminal (both (leads d.terminal) (ArgStarts b d.terminal) h.1 never) (expr_second c d y e g).is
    where
      both : (x y : Bool) → x ≡ true → y ≡ false → x && not y ≡ true
      both true false e f = refl
      both true true e f = absurd (cc)
      both false y e f = absurd (cc)

  plain_of : (o n f : List Mark) → o ≡ f ++ n → is_command b o ≡ false → (expr s).begins f → IsPlain f
  plain_of o n [] e p g = tt
  plain_of o n (c ∷ []) e p g = tt
  plain_of o n (c ∷ d ∷ f) e p g = λ x y. plain_two c d (f ++ n) f (subst (λ z. is_command b z ≡ false) e p) g x y

  command_args : (c d : Mark) (z : List Mark) → (command s).begins (c ∷ d ∷ z) → ArgStarts b d.terminal ≡ true
  unfolding command
  command_args c d z (inl (inl e)) = absurd (cc)
  command_args c d z (inl (inr h)) = absurd h
  command_args c d z (inr (v, p)) = go p.prefix p.rest p.whole p.first p.second
    where
      go : (f t : List Mark) → c ∷ d ∷ z ≡ f ++ t → (terminal terminals.Name).reads f v → (only IsLed (args s)).begins t → ArgStarts b d.terminal ≡ true
      go [] t e h g = absurd h
      go (u ∷ []) t e h g = ((args_rule s b bs).law.opens.first d z (subst (args s).begins (let back : t ≡ d ∷ z = cc in back) g.1)).is
      go (u ∷ w ∷ f) t e h g = absurd h

  command_two : (c d : Mark) (z y : List Mark) → is_command b (c ∷ d ∷ z) ≡ false → (command s).begins (c ∷ d ∷ y) → ⊥
  command_two c d z y p g =
      let two = command_begun s b bs c d y g in
      let never = not_command c d z p two.0 two.1 in
      let always = command_args c d y g in cc

  no_command : (o n f : List Mark) (t : Mark) (rest : List Mark) → o ≡ f ++ n → n ≡ t ∷ rest → is_command b o ≡ false
      → (f ≡ [] → (command s).begins (t ∷ []) → ⊥) → (command s).begins (f ++ t ∷ []) → ⊥
  no_command o n [] t rest e q p never g = never refl g
  no_command o n (c ∷ []) t rest e q p never g = command_two c t rest [] (subst (λ z. is_command b z ≡ false) (e ∙ ap (λ z. c ∷ z) q) p) g
  no_command o n (c ∷ d ∷ f) t rest e q p never g = command_two c d (f ++ n) (f ++ t ∷ []) (subst (λ z. is_command b z ≡ false) e p) g

  unread_command : (o n f : List Mark) → o ≡ f ++ n → is_command b o ≡ false → (v : Expr) → (command s).reads f v → ⊥
  unread_command o n [] e p v g = (command_rule s b bs).solid.solid v g
  unread_command o n (c ∷ []) e p v g = command_one s b bs c v g
  unread_command o n (c ∷ d ∷ f) e p v g =
      command_two c d (f ++ n) f (subst (λ z. is_command b z ≡ false) e p) ((command_rule s b bs).law.opens.whole (c ∷ d ∷ f) v g)

  pub cond_expr_ok : {o n : List Mark} {v : Expr} → is_command b o ≡ false → Read (expr s) o n v → Read (cond_form s) o n v
  unfolding cond_form
  cond_expr_ok {o = o} {n = n} {v = v} p h = record {
    prefix = h.prefix;
    whole = h.whole;
    is_read = inr (plain_of o n h.prefix h.whole p ((expr_rule s b bs).law.opens.whole h.prefix v h.is_read), h.is_read);
    settled = λ t rest e g. elim g [
      | inl q ↦ no_command o n h.prefix t rest h.whole e p (λ r _. (expr_rule s b bs).solid.solid v (subst (λ z. (expr s).reads z v) r h.is_read)) q
      | inr q ↦ h.settled t rest e q.1
    ];
  }

  pub cond_expr_err : {o n : List Mark} → is_command b o ≡ false → Stuck (expr s) o n → Stuck (cond_form s) o n
  unfolding cond_form
  cond_expr_err {o = o} {n = n} p h = record {
    prefix = h.prefix;
    whole = h.whole;
    begun = inr (plain_of o n h.prefix h.whole p h.begun, h.begun);
    unread = λ v g. elim g [ inl q ↦ unread_command o n h.prefix h.whole p v q | inr q ↦ h.unread v q.1 ];
    stops = λ t rest e g. elim g [
      | inl q ↦ no_command o n h.prefix t rest h.whole e p
          (λ r c. h.stops t rest e (subst (λ z. (expr s).begins (z ++ t ∷ [])) (sym r) (expr_name t ((command_rule s b bs).law.opens.first t [] c)))) q
      | inr q ↦ h.stops t rest e q.1
    ];
  }
    where
      expr_name : (t : Mark) → In (just terminals.Name) t → (expr s).begins (t ∷ [])
      expr_name t h = let p = name_expr s b bs t (sym (just_is terminals.Name t.terminal h.is)) in (expr_rule s b bs).law.opens.whole (t ∷ []) p.0 p.1

  -- what follows the head of a command leads
  led_after : (o a : List Mark) (t : Mark) → is_command b o ≡ true → o ≡ t ∷ a → IsLed a
  led_after [] a t p e = absurd (cc)
  led_after (c ∷ []) a t p e = let q = and_right (just terminals.Name c.terminal) false p in absurd (cc)
  led_after (c ∷ d ∷ o) a t p e = subst IsLed (let tail : d ∷ o ≡ a = cc in tail) (head_of c d o p).1

  led_prefix : (a n f : List Mark) → IsLed a → a ≡ f ++ n → IsLed f
  led_prefix a n [] h e = tt
  led_prefix a n (c ∷ f) h e = go (subst IsLed e h)
    where
      go : Leads c → Leads c
      go h = h

  pub led_ok : {o a n : List Mark} {t : Mark} {v : Arguments} → is_command b o ≡ true → Read (terminal terminals.Name) o a t → Read (args s) a n v → Read (only IsLed (args s)) a n v
  led_ok {o = o} {a = a} {n = n} {t = t} {v = v} p h g = only_read IsLed (args s) a n v g (led_prefix a n g.prefix (led_after o a t p (after_terminal terminals.Name h)) g.whole)

  pub led_err : {o a n : List Mark} {t : Mark} → is_command b o ≡ true → Read (terminal terminals.Name) o a t → Stuck (args s) a n → Stuck (only IsLed (args s)) a n
  led_err {o = o} {a = a} {n = n} {t = t} p h g = only_stuck IsLed (args s) a n g (led_prefix a n g.prefix (led_after o a t p (after_terminal terminals.Name h)) g.whole)

  pub cond_command_ok : {o n : List Mark} {v : Expr} → Read (command s) o n v → Read (cond_form s) o n v
  unfolding cond_form
  cond_command_ok {o = o} {n = n} {v = v} h =
      left_read_by (command s) (only IsPlain (expr s)) o n v h (λ t rest e g. command_expr s b bs h.prefix v (t ∷ []) h.is_read g)

  command_one_begun : (c : Mark) → c.terminal ≡ terminals.Name → (command s).begins (c ∷ [])
  unfolding command
  command_one_begun c e = inl (inr e)

  command_two_begun : (c d : Mark) → c.terminal ≡ terminals.Name → Leads d → ArgStarts b d.terminal ≡ true → (command s).begins (c ∷ d ∷ [])
  unfolding command
  command_two_begun c d e h g = inr (c, record { prefix = c ∷ []; rest = d ∷ []; whole = refl; first = (e, refl); second = (h, (args_exact s b xs).exact d g) })

  pub cond_command_err : {o n : List Mark} → is_command b o ≡ true → Stuck (command s) o n → Stuck (cond_form s) o n
  unfolding cond_form
  cond_command_err {o = []} p h = absurd (cc)
  cond_command_err {o = c ∷ []} p h = let q = and_right (just terminals.Name c.terminal) false p in absurd (cc)
  cond_command_err {o = c ∷ d ∷ r} {n = n} p h = go (head_of c d r p)
    where
      go : (c.terminal ≡ terminals.Name) × Leads d × (ArgStarts b d.terminal ≡ true) → Stuck (either (command s) (only IsPlain (expr s))) (c ∷ d ∷ r) n
      go q =
          let prefix = two_prefix (command s) c d r n (command_one_begun c q.0) (command_two_begun c d q.0 q.1 q.2) h in
          left_stuck_by (command s) (only IsPlain (expr s)) (c ∷ d ∷ r) n h
          (λ v g. (subst IsPlain prefix.1 g.0) q.0 q.1)
          (λ t rest e g. (subst (λ z. IsPlain (z ++ t ∷ [])) prefix.1 g.0) q.0 q.1)

  -- An assignment or a value

  head_assign : (c d : Mark) (z : List Mark) → is_assign (c ∷ d ∷ z) ≡ true → (c.terminal ≡ terminals.Name) × In is_set d
  head_assign c d z p =
      (sym (just_is terminals.Name c.terminal (and_left (just terminals.Name c.terminal) (is_set d.terminal) p)), record { is = and_right (just terminals.Name c.terminal) (is_set d.terminal) p })

  not_assign : (c d : Mark) (z : List Mark) → is_assign (c ∷ d ∷ z) ≡ false → c.terminal ≡ terminals.Name → In is_set d → ⊥
  not_assign c d z p e h = let q = and_both (just terminals.Name c.terminal) (is_set d.terminal) p (name_true c e) in let r : is_set d.terminal ≡ true = h.is in cc

  assign_one_begun : (c : Mark) → c.terminal ≡ terminals.Name → (assign s).begins (c ∷ [])
  unfolding assign
  assign_one_begun c e = inl (inr e)

  assign_two_begun : (c d : Mark) → c.terminal ≡ terminals.Name → In is_set d → (assign s).begins (c ∷ d ∷ [])
  unfolding assign
  assign_two_begun c d e h = inr (c, record { prefix = c ∷ []; rest = d ∷ []; whole = refl; first = (e, refl); second = inl (inr h.is) })

  set_apart : (d : Mark) → In is_set d → In RhsGoes d → ⊥
  set_apart d h g = apart refl d h g

  pub assign_ok : {o n : List Mark} {v : Simple} → Read (assign s) o n v → Read (either (assign s) (mapped (λ (e : Expr). simples.Value e) (rhs s))) o n v
  assign_ok {o = o} {n = n} {v = v} h = left_read_by (assign s) (mapped (λ (e : Expr). simples.Value e) (rhs s)) o n v h (λ t rest e g. assign_rhs s b bs h.prefix v (t ∷ []) h.is_read g)

  pub assign_err : {o n : List Mark} → is_assign o ≡ true → Stuck (assign s) o n → Stuck (either (assign s) (mapped (λ (e : Expr). simples.Value e) (rhs s))) o n
  assign_err {o = []} p h = absurd (cc)
  assign_err {o = c ∷ []} p h = let q = and_right (just terminals.Name c.terminal) false p in absurd (cc)
  assign_err {o = c ∷ d ∷ r} {n = n} p h = go (head_assign c d r p)
    where
      go : (c.terminal ≡ terminals.Name) × In is_set d → Stuck (either (assign s) (mapped (λ (e : Expr). simples.Value e) (rhs s))) (c ∷ d ∷ r) n
      go q =
          let prefix = two_prefix (assign s) c d r n (assign_one_begun c q.0) (assign_two_begun c d q.0 q.1) h in
          left_stuck_by (assign s) (mapped (λ (e : Expr). simples.Value e) (rhs s)) (c ∷ d ∷ r) n h
          (λ v g. set_apart d q.1 (rhs_second s b bs c d prefix.0 q.0 (subst (rhs s).begins prefix.1 ((rhs_rule s b bs).law.opens.whole h.prefix g.0 g.1))))
          (λ t rest e g. set_apart d q.1 (rhs_second s b bs c d (prefix.0 ++ t ∷ []) q.0 (subst (λ z. (rhs s).begins (z ++ t ∷ [])) prefix.1 g)))

  no_assign : (o n f : List Mark) (t : Mark) (rest : List Mark) → o ≡ f ++ n → n ≡ t ∷ rest → is_assign o ≡ false
      → (f ≡ [] → (assign s).begins (t ∷ []) → ⊥) → (assign s).begins (f ++ t ∷ []) → ⊥
  no_assign o n [] t rest e q p never g = never refl g
  no_assign o n (c ∷ []) t rest e q p never g =
      let two = assign_begun s b bs c t [] g in
      not_assign c t rest (subst (λ z. is_assign z ≡ false) (e ∙ ap (λ z. c ∷ z) q) p) two.0 two.1
  no_assign o n (c ∷ d ∷ f) t rest e q p never g =
      let two = assign_begun s b bs c d (f ++ t ∷ []) g in
      not_assign c d (f ++ n) (subst (λ z. is_assign z ≡ false) e p) two.0 two.1

  unread_assign : (o n f : List Mark) → o ≡ f ++ n → is_assign o ≡ false → (v : Simple) → (assign s).reads f v → ⊥
  unread_assign o n [] e p v g = (assign_rule s b bs).solid.solid v g
  unread_assign o n (c ∷ []) e p v g = assign_one s b bs c v g
  unread_assign o n (c ∷ d ∷ f) e p v g =
      let two = assign_begun s b bs c d f ((assign_rule s b bs).law.opens.whole (c ∷ d ∷ f) v g) in
      not_assign c d (f ++ n) (subst (λ z. is_assign z ≡ false) e p) two.0 two.1

  pub value_ok : {o n : List Mark} {v : Expr} → is_assign o ≡ false → Read (rhs s) o n v
      → Read (either (assign s) (mapped (λ (e : Expr). simples.Value e) (rhs s))) o n (simples.Value v)
  value_ok {o = o} {n = n} {v = v} p h =
      let k : Read (mapped (λ (e : Expr). simples.Value e) (rhs s)) o n (simples.Value v) = map_read h in
      right_read_by (assign s) (mapped (λ (e : Expr). simples.Value e) (rhs s)) o n (simples.Value v) k
      (λ t rest e g. no_assign o n k.prefix t rest k.whole e p
      (λ r _. (map_rule (rhs_rule s b bs)).solid.solid (simples.Value v) (subst (λ z. (mapped (λ (e : Expr). simples.Value e) (rhs s)).reads z (simples.Value v)) r k.is_read)) g)

  pub value_err : {o n : List Mark} → is_assign o ≡ false → Stuck (rhs s) o n → Stuck (either (assign s) (mapped (λ (e : Expr). simples.Value e) (rhs s))) o n
  value_err {o = o} {n = n} p h =
      let k : Stuck (mapped (λ (e : Expr). simples.Value e) (rhs s)) o n = map_stuck h in
      right_stuck_by (assign s) (mapped (λ (e : Expr). simples.Value e) (rhs s)) o n k (λ v g. unread_assign o n k.prefix k.whole p v g)
      (λ t rest e g. no_assign o n k.prefix t rest k.whole e p
      (λ r c. k.stops t rest e (subst (λ z. (rhs s).begins (z ++ t ∷ [])) (sym r) (rhs_name t ((assign_rule s b bs).law.opens.first t [] c)))) g)
    where
      rhs_name : (t : Mark) → In (just terminals.Name) t → (rhs s).begins (t ∷ [])
      rhs_name t h = let p = name_rhs s b bs t (sym (just_is terminals.Name t.terminal h.is)) in (rhs_rule s b bs).law.opens.whole (t ∷ []) p.0 p.1
