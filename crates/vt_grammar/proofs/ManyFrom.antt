-- The laws of any number of forms, each by the state that the ones before it leave.
use Rattle.std.proofs.Common.{◌≡◌, ◌⊎◌, List, [], ◌++◌, ◌∷◌, ap, inl, inr, refl, subst, sym, ◌∙◌, append_assoc}
use Rattle.std.proofs.lemmas.List.{append_cancel_right}
use Rattle.vt_grammar.specs.Form.{AreFrom, state_after, Form, many_from, next}
use Rattle.vt_grammar.specs.private.Parsing.{Read, Stuck}
use Rattle.vt_grammar.proofs.Cut.{Cuts, cuts, equal, longer, shorter}
use Rattle.vt_grammar.proofs.Sequences.{Lawful, Opens, next_more, next_read, next_single, next_stuck, next_stuck_first}

module _ {T S V : Type 0} (go : S → V → S) (a : S → Form T V) (F M : T → Type 0) (la : (s : S) → Lawful (a s) F M)
    (apart : (t : T) → M t → F t → ⊥) (solid : (s : S) (v : V) → (a s).reads [] v → ⊥) where
  abbrev R : S → List T → V → Type 0
  R s = (a s).reads

  cons : (s : S) (f z : List T) (v : V) → (a s).reads f v → (many_from go a (go s v)).begins z → (many_from go a s).begins (f ++ z)
  cons s f z v h (vs, p) = (
    v ∷ vs,
    record {
      prefix = f ++ p.prefix;
      rest = p.rest;
      whole = ap (λ u. f ++ u) p.whole ∙ sym (append_assoc f p.prefix p.rest);
      first = record { prefix = f; rest = p.prefix; whole = refl; first = h; second = p.first };
      second = p.second;
    },
  )

  alone : (s : S) (x : List T) → (a s).begins x → (many_from go a s).begins x
  alone s x h = ([], record { prefix = []; rest = x; whole = refl; first = refl; second = h })

  prefix_cut : (s : S) (x y f r : List T) (v : V) → (a s).reads f v → ((u : List T) → u ++ y ≡ r → (many_from go a (go s v)).begins u)
      → Cuts x y f r → (many_from go a s).begins x
  prefix_cut s x y f r v h ih (equal p q) = alone s x (subst (a s).begins (sym p) ((la s).opens.whole f v h))
  prefix_cut s x y f r v h ih (longer t u p q) = subst (many_from go a s).begins (sym p) (cons s f (t ∷ u) v h (ih (t ∷ u) (sym q)))
  prefix_cut s x y f r v h ih (shorter t u p q) = alone s x ((la s).opens.prefix x (t ∷ u) (subst (a s).begins p ((la s).opens.whole f v h)))

  prefix_at : (vs : List V) (s : S) (x y f r : List T) → AreFrom go R s f vs → (a (state_after go s vs)).begins r → x ++ y ≡ f ++ r → (many_from go a s).begins x
  prefix_at [] s x y f r h g e = alone s x ((la s).opens.prefix x y (subst (a s).begins (let back : r ≡ x ++ y = cc in back) g))
  prefix_at (v ∷ vs) s x y f r p g e =
      prefix_cut s x y p.prefix (p.rest ++ r) v p.first (λ u q. prefix_at vs (go s v) u y p.rest r p.second g q)
      (cuts x y p.prefix (p.rest ++ r) (e ∙ ap (λ z. z ++ r) p.whole ∙ append_assoc p.prefix p.rest r))

  from_whole : (vs : List V) (s : S) (x : List T) → AreFrom go R s x vs → (many_from go a s).begins x
  from_whole [] s x h = subst (many_from go a s).begins (sym h) (alone s [] (la s).opens.nil)
  from_whole (v ∷ vs) s x p = subst (many_from go a s).begins (sym p.whole) (cons s p.prefix p.rest v p.first (from_whole vs (go s v) p.rest p.second))

  first_at : (vs : List V) (s : S) (t : T) (y f r : List T) → t ∷ y ≡ f ++ r → AreFrom go R s f vs → (a (state_after go s vs)).begins r → F t
  first_at [] s t y f r e h g = (la s).opens.first t y (subst (a s).begins (let back : r ≡ t ∷ y = cc in back) g)
  first_at (v ∷ vs) s t y f r e p g = goes p.prefix p.rest p.whole p.first
    where
      goes : (x z : List T) → f ≡ x ++ z → (a s).reads x v → F t
      goes [] z q h = absurd (solid s v h)
      goes (c ∷ x) z q h = let same : c ≡ t = cc in subst F same ((la s).opens.first c x ((la s).opens.whole (c ∷ x) v h))

  pub from_opens : (s : S) → Opens (many_from go a s) F
  from_opens s = record {
    nil = alone s [] (la s).opens.nil;
    prefix = λ x y b. prefix_at b.0 s x y b.1.prefix b.1.rest b.1.first b.1.second b.1.whole;
    whole = λ x vs h. from_whole vs s x h;
    first = λ t y b. first_at b.0 s t y b.1.prefix b.1.rest b.1.whole b.1.first b.1.second;
  }

  pub uncons : (s : S) (x : List T) → (many_from go a s).begins x → (next (a s) (λ v. many_from go a (go s v))).begins x
  uncons s x ([], p) = inl (subst (a s).begins (let back : p.rest ≡ x = cc in back) p.second)
  uncons s x (v ∷ vs, p) = inr (
    v,
    record {
      prefix = p.first.prefix;
      rest = p.first.rest ++ p.rest;
      whole = p.whole ∙ ap (λ z. z ++ p.rest) p.first.whole ∙ append_assoc p.first.prefix p.first.rest p.rest;
      first = p.first.first;
      second = (vs, record { prefix = p.first.rest; rest = p.rest; whole = refl; first = p.first.second; second = p.second });
    },
  )

  from_more : (vs : List V) (s : S) (x : List T) (t : T) (y : List T) → AreFrom go R s x vs → (many_from go a s).begins (x ++ t ∷ y) → F t ⊎ M t
  from_more [] s x t y h b = inl ((from_opens s).first t y (subst (λ z. (many_from go a s).begins (z ++ t ∷ y)) h b))
  from_more (v ∷ vs) s x t y p b =
      next_more (a s) (λ v. many_from go a (go s v)) F M (λ _. F) (la s) (λ v. from_opens (go s v)) (λ _. apart) (λ t. F t ⊎ M t) (λ v w t m _. inr m)
      x (v, vs) t y p (λ h g. from_more vs (go s v) p.rest t y h g) (uncons s (x ++ t ∷ y) b)

  nonempty : (s : S) (f r : List T) (w : V) → (a s).reads f w → f ++ r ≡ [] → ⊥
  nonempty s [] r w p e = solid s w p
  nonempty s (c ∷ f) r w p e = cc

  from_single : (vs ws : List V) (s : S) (x : List T) → AreFrom go R s x vs → AreFrom go R s x ws → vs ≡ ws
  from_single [] [] s x h g = refl
  from_single [] (w ∷ ws) s x h g = absurd (nonempty s g.prefix g.rest w g.first (sym g.whole ∙ h))
  from_single (v ∷ vs) [] s x h g = absurd (nonempty s h.prefix h.rest v h.first (sym h.whole ∙ g))
  from_single (v ∷ vs) (w ∷ ws) s x h g =
      let same : ◌≡◌ {A = V × List V} (v, vs) (w, ws) =
      next_single (a s) (λ v. many_from go a (go s v)) F M (λ _. F) (la s) (λ v. from_opens (go s v)) (λ _. apart) x (v, vs) (w, ws) h
      (λ k. from_single vs ws (go s v) h.rest h.second k) g in
      ap (λ (p : V × List V). p.0 ∷ p.1) same

  -- the laws of any number of forms by a state
  pub from_lawful : (s : S) → Lawful (many_from go a s) F (λ t. F t ⊎ M t)
  from_lawful s = record {
    opens = from_opens s;
    more = λ x vs t y h b. from_more vs s x t y h b;
    single = λ x v w h g. from_single v w s x h g;
  }

  -- one was read, and then the others
  pub from_cons : (s : S) (o m n : List T) (v : V) (vs : List V) → Read (a s) o m v → Read (many_from go a (go s v)) m n vs → Read (many_from go a s) o n (v ∷ vs)
  from_cons s o m n v vs h g =
      let both : Read (next (a s) (λ v. many_from go a (go s v))) o n (v, vs) =
      next_read (a s) (λ v. many_from go a (go s v)) F M (λ _. F) (la s) (λ v. from_opens (go s v)) (λ _. apart) o m n v vs h g in
      record {
        prefix = both.prefix;
        whole = both.whole;
        is_read = both.is_read;
        settled = λ t rest e b. both.settled t rest e (uncons s (both.prefix ++ t ∷ []) b);
      }

  from_begun : (s : S) (x : List T) → (next (a s) (λ v. many_from go a (go s v))).begins x → (many_from go a s).begins x
  from_begun s x (inl b) = alone s x b
  from_begun s x (inr (v, p)) = subst (many_from go a s).begins (sym p.whole) (cons s p.prefix p.rest v p.first p.second)

  from_lift : (s : S) (o n : List T) (h : Stuck (next (a s) (λ v. many_from go a (go s v))) o n) → (o ≡ n → ⊥) → Stuck (many_from go a s) o n
  from_lift s o n h some = record {
    prefix = h.prefix;
    whole = h.whole;
    begun = from_begun s h.prefix h.begun;
    unread = λ vs g. unread vs g;
    stops = λ t rest e b. h.stops t rest e (uncons s (h.prefix ++ t ∷ []) b);
  }
    where
      unread : (vs : List V) → AreFrom go R s h.prefix vs → ⊥
      unread [] g = some (h.whole ∙ ap (λ z. z ++ n) g)
      unread (v ∷ vs) g = h.unread (v, vs) g

  -- one was read, and the rest is stuck
  pub from_stuck : (s : S) (o m n : List T) (v : V) → Read (a s) o m v → Stuck (many_from go a (go s v)) m n → Stuck (many_from go a s) o n
  from_stuck s o m n v h g =
      from_lift s o n (next_stuck (a s) (λ v. many_from go a (go s v)) F M (λ _. F) (la s) (λ v. from_opens (go s v)) (λ _. apart) o m n v h g)
      (λ e. solid s v (subst (λ z. (a s).reads z v) (left_nil h.prefix g.prefix (append_cancel_right (h.prefix ++ g.prefix) [] n
      (append_assoc h.prefix g.prefix n ∙ ap (λ z. h.prefix ++ z) (sym g.whole) ∙ sym h.whole ∙ e))) h.is_read))
    where
      left_nil : (f g : List T) → f ++ g ≡ [] → f ≡ []
      left_nil [] g e = refl
      left_nil (c ∷ f) g e = absurd (cc)

  -- the next is stuck, past its first token
  pub from_stuck_first : (s : S) (o n : List T) → Stuck (a s) o n → (o ≡ n → ⊥) → Stuck (many_from go a s) o n
  from_stuck_first s o n h some =
      from_lift s o n (next_stuck_first (a s) (λ v. many_from go a (go s v)) F M (λ _. F) (la s) (λ v. from_opens (go s v)) (λ _. apart) o n h) some

  -- none begins here, by the state
  pub from_end : (s : S) (o : List T) → ((t : T) (rest : List T) → o ≡ t ∷ rest → (a s).begins (t ∷ []) → ⊥) → Read (many_from go a s) o o []
  from_end s o cold = record {
    prefix = [];
    whole = refl;
    is_read = refl;
    settled = λ t rest e b. none t rest e (uncons s (t ∷ []) b);
  }
    where
      none : (t : T) (rest : List T) → o ≡ t ∷ rest → (next (a s) (λ v. many_from go a (go s v))).begins (t ∷ []) → ⊥
      none t rest e (inl b) = cold t rest e b
      none t rest e (inr (v, p)) = at p.prefix p.rest p.whole p.first
        where
          at : (f r : List T) → t ∷ [] ≡ f ++ r → (a s).reads f v → ⊥
          at [] r q h = solid s v h
          at (c ∷ f) r q h = cold t rest e ((la s).opens.prefix (t ∷ []) [] (subst (a s).begins (prefix_is c f r q) ((la s).opens.whole (c ∷ f) v h)))
            where
              prefix_is : (c : T) (f r : List T) → t ∷ [] ≡ (c ∷ f) ++ r → c ∷ f ≡ t ∷ []
              prefix_is c [] r q = cc
              prefix_is c (u ∷ f) r q = absurd (cc)

  -- vs were read from the start up to here, in the state s here, and what follows goes on from s
  pub record GoesOn (s0 s : S) (start here : List T) (vs : List V) : Type 0 where
    pub read_on : (n : List T) (ws : List V) → Read (many_from go a s) here n ws → Read (many_from go a s0) start n (vs ++ ws)
    pub stuck_on : (n : List T) → Stuck (many_from go a s) here n → Stuck (many_from go a s0) start n

  pub goes_one : (s0 s : S) (o m n : List T) (vs : List V) (v : V) → GoesOn s0 s o m vs → Read (a s) m n v → GoesOn s0 (go s v) o n (vs ++ v ∷ [])
  goes_one s0 s o m n vs v c h = record {
    read_on = λ r ws g. subst (λ z. Read (many_from go a s0) o r z) (sym (append_assoc vs (v ∷ []) ws))
        (c.read_on r (v ∷ ws) (from_cons s m n r v ws h g));
    stuck_on = λ r g. c.stuck_on r (from_stuck s m n r v h g);
  }
