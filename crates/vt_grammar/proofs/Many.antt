-- The laws of any number of a form.
use Rattle.std.proofs.Common.{◌≡◌, ◌⊎◌, inl, inr, List, [], ◌∷◌, ◌++◌, refl, sym, ap, ◌∙◌, subst, append_assoc}
use Rattle.std.proofs.lemmas.List.{append_cancel_right}
use Rattle.vt_grammar.specs.Form.{Form, AreMany, next, many}
use Rattle.vt_grammar.specs.private.Parsing.{Read, Stuck}
use Rattle.vt_grammar.proofs.Cut.{Cuts, equal, longer, shorter, cuts}
use Rattle.vt_grammar.proofs.Sequences.{Opens, Lawful, next_more, next_single, next_read, next_stuck, next_stuck_first}
use Rattle.vt_grammar.proofs.Choices.{Bars}

module _ {T V : Type 0} (a : Form T V) (F M : T → Type 0) (la : Lawful a F M)
    (apart : (t : T) → M t → F t → ⊥) (solid : (v : V) → a.reads [] v → ⊥) where
  cons : (f z : List T) (v : V) → a.reads f v → (many a).begins z → (many a).begins (f ++ z)
  cons f z v h (vs, s) = (
    v ∷ vs,
    record {
      prefix = f ++ s.prefix;
      rest = s.rest;
      whole = ap (λ u. f ++ u) s.whole ∙ sym (append_assoc f s.prefix s.rest);
      first = record { prefix = f; rest = s.prefix; whole = refl; first = h; second = s.first };
      second = s.second;
    },
  )

  alone : (x : List T) → a.begins x → (many a).begins x
  alone x h = ([], record { prefix = []; rest = x; whole = refl; first = refl; second = h })

  many_nil : (many a).begins []
  many_nil = alone [] la.opens.nil

  prefix_cut : (x y f r : List T) (v : V) → a.reads f v → ((u : List T) → u ++ y ≡ r → (many a).begins u)
      → Cuts x y f r → (many a).begins x
  prefix_cut x y f r v h ih (equal p q) = alone x (subst a.begins (sym p) (la.opens.whole f v h))
  prefix_cut x y f r v h ih (longer t u p q) = subst (many a).begins (sym p) (cons f (t ∷ u) v h (ih (t ∷ u) (sym q)))
  prefix_cut x y f r v h ih (shorter t u p q) = alone x (la.opens.prefix x (t ∷ u) (subst a.begins p (la.opens.whole f v h)))

  prefix_at : (vs : List V) (x y f r : List T) → AreMany a.reads f vs → a.begins r → x ++ y ≡ f ++ r → (many a).begins x
  prefix_at [] x y f r h g e =
      alone x (la.opens.prefix x y (subst a.begins (let back : r ≡ x ++ y = cc in back) g))
  prefix_at (v ∷ vs) x y f r s g e =
      prefix_cut x y s.prefix (s.rest ++ r) v s.first (λ u p. prefix_at vs u y s.rest r s.second g p)
      (cuts x y s.prefix (s.rest ++ r) (e ∙ ap (λ z. z ++ r) s.whole ∙ append_assoc s.prefix s.rest r))

  many_whole : (x : List T) (vs : List V) → AreMany a.reads x vs → (many a).begins x
  many_whole x [] h = subst (many a).begins (sym h) many_nil
  many_whole x (v ∷ vs) s = subst (many a).begins (sym s.whole) (cons s.prefix s.rest v s.first (many_whole s.rest vs s.second))

  first_at : (vs : List V) (t : T) (y f r : List T) → t ∷ y ≡ f ++ r → AreMany a.reads f vs → a.begins r → F t
  first_at [] t y f r e h g = la.opens.first t y (subst a.begins (let back : r ≡ t ∷ y = cc in back) g)
  first_at (v ∷ vs) t y f r e s g = go s.prefix s.rest s.whole s.first
    where
      go : (x z : List T) → f ≡ x ++ z → a.reads x v → F t
      go [] z p h = absurd (solid v h)
      go (c ∷ x) z p h = let same : c ≡ t = cc in subst F same (la.opens.first c x (la.opens.whole (c ∷ x) v h))

  pub many_opens : Opens (many a) F
  many_opens = record {
    nil = many_nil;
    prefix = λ x y b. prefix_at b.0 x y b.1.prefix b.1.rest b.1.first b.1.second b.1.whole;
    whole = many_whole;
    first = λ t y b. first_at b.0 t y b.1.prefix b.1.rest b.1.whole b.1.first b.1.second;
  }

  -- what begins many of the form begins one of it and then many
  pub uncons : (x : List T) → (many a).begins x → (next a (λ _. many a)).begins x
  uncons x ([], s) = inl (subst a.begins (let back : s.rest ≡ x = cc in back) s.second)
  uncons x (v ∷ vs, s) = inr (
    v,
    record {
      prefix = s.first.prefix;
      rest = s.first.rest ++ s.rest;
      whole = s.whole ∙ ap (λ z. z ++ s.rest) s.first.whole ∙ append_assoc s.first.prefix s.first.rest s.rest;
      first = s.first.first;
      second = (vs, record { prefix = s.first.rest; rest = s.rest; whole = refl; first = s.first.second; second = s.second });
    },
  )

  many_more : (vs : List V) (x : List T) (t : T) (y : List T) → AreMany a.reads x vs → (many a).begins (x ++ t ∷ y) → F t ⊎ M t
  many_more [] x t y h b = inl (many_opens.first t y (subst (λ z. (many a).begins (z ++ t ∷ y)) h b))
  many_more (v ∷ vs) x t y s b =
      next_more a (λ _. many a) F M (λ _. F) la (λ _. many_opens) (λ _. apart) (λ t. F t ⊎ M t) (λ v w t m _. inr m)
      x (v, vs) t y s (λ h g. many_more vs s.rest t y h g) (uncons (x ++ t ∷ y) b)

  many_single : (vs ws : List V) (x : List T) → AreMany a.reads x vs → AreMany a.reads x ws → vs ≡ ws
  many_single [] [] x h g = refl
  many_single [] (w ∷ ws) x h g = absurd (nonempty g.prefix g.rest w g.first (sym g.whole ∙ h))
    where
      nonempty : (f r : List T) (w : V) → a.reads f w → f ++ r ≡ [] → ⊥
      nonempty [] r w p e = solid w p
      nonempty (c ∷ f) r w p e = cc
  many_single (v ∷ vs) [] x h g = absurd (nonempty h.prefix h.rest v h.first (sym h.whole ∙ g))
    where
      nonempty : (f r : List T) (w : V) → a.reads f w → f ++ r ≡ [] → ⊥
      nonempty [] r w p e = solid w p
      nonempty (c ∷ f) r w p e = cc
  many_single (v ∷ vs) (w ∷ ws) x h g =
      let same : ◌≡◌ {A = V × List V} (v, vs) (w, ws) =
      next_single a (λ _. many a) F M (λ _. F) la (λ _. many_opens) (λ _. apart) x (v, vs) (w, ws) h
      (λ k. many_single vs ws h.rest h.second k) g in
      ap (λ (p : V × List V). p.0 ∷ p.1) same

  -- the laws of any number of a form
  pub many_lawful : Lawful (many a) F (λ t. F t ⊎ M t)
  many_lawful = record {
    opens = many_opens;
    more = λ x vs t y h b. many_more vs x t y h b;
    single = λ x v w h g. many_single v w x h g;
  }

  -- none of the form stands here
  pub many_end : (o : List T) → Bars o F → Read (many a) o o []
  many_end o bars = record {
    prefix = [];
    whole = refl;
    is_read = refl;
    settled = λ t rest e b. bars.bars t rest e (many_opens.first t [] b);
  }

  -- one of the form was read, and then many
  pub many_cons : (o m n : List T) (v : V) (vs : List V) → Read a o m v → Read (many a) m n vs → Read (many a) o n (v ∷ vs)
  many_cons o m n v vs h g =
      let both : Read (next a (λ _. many a)) o n (v, vs) =
      next_read a (λ _. many a) F M (λ _. F) la (λ _. many_opens) (λ _. apart) o m n v vs h g in
      record {
        prefix = both.prefix;
        whole = both.whole;
        is_read = both.is_read;
        settled = λ t rest e b. both.settled t rest e (uncons (both.prefix ++ t ∷ []) b);
      }

  begun : (x : List T) → (next a (λ _. many a)).begins x → (many a).begins x
  begun x (inl b) = alone x b
  begun x (inr (v, s)) = subst (many a).begins (sym s.whole) (cons s.prefix s.rest v s.first s.second)

  lift : (o n : List T) (h : Stuck (next a (λ _. many a)) o n) → (o ≡ n → ⊥) → Stuck (many a) o n
  lift o n h some = record {
    prefix = h.prefix;
    whole = h.whole;
    begun = begun h.prefix h.begun;
    unread = λ vs g. unread vs g;
    stops = λ t rest e b. h.stops t rest e (uncons (h.prefix ++ t ∷ []) b);
  }
    where
      unread : (vs : List V) → AreMany a.reads h.prefix vs → ⊥
      unread [] g = some (h.whole ∙ ap (λ z. z ++ n) g)
      unread (v ∷ vs) g = h.unread (v, vs) g

  -- one of the form was read, and the rest is stuck
  pub many_stuck : (o m n : List T) (v : V) → Read a o m v → Stuck (many a) m n → Stuck (many a) o n
  many_stuck o m n v h g =
      lift o n (next_stuck a (λ _. many a) F M (λ _. F) la (λ _. many_opens) (λ _. apart) o m n v h g)
      (λ e. solid v (subst (λ z. a.reads z v) (left_nil h.prefix g.prefix (append_cancel_right (h.prefix ++ g.prefix) [] n
      (append_assoc h.prefix g.prefix n ∙ ap (λ z. h.prefix ++ z) (sym g.whole) ∙ sym h.whole ∙ e))) h.is_read))
    where
      left_nil : (f g : List T) → f ++ g ≡ [] → f ≡ []
      left_nil [] g e = refl
      left_nil (c ∷ f) g e = absurd (cc)

  -- the first of the form is stuck, past its first token
  pub many_stuck_first : (o n : List T) → Stuck a o n → (o ≡ n → ⊥) → Stuck (many a) o n
  many_stuck_first o n h some =
      lift o n (next_stuck_first a (λ _. many a) F M (λ _. F) la (λ _. many_opens) (λ _. apart) o n h) some
