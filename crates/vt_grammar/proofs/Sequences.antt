-- The laws of a form, and how each way to build forms keeps them.
use Rattle.std.proofs.Common.{◌≡◌, inl, inr, List, [], ◌∷◌, ◌++◌, refl, sym, ap, ap₂, ◌∙◌, subst, append_assoc, append-nil}
use Rattle.vt_grammar.specs.Form.{Form, next}
use Rattle.vt_grammar.specs.private.Parsing.{Read, Stuck}
use Rattle.vt_grammar.proofs.Cut.{Cuts, equal, longer, shorter, cuts}

-- the prefixes of what begins a form begin it, so does what is read, and it may begin with F alone
pub record Opens {T V : Type 0} (a : Form T V) (F : T → Type 0) : Type 0 where
  pub nil : a.begins []
  pub prefix : (x y : List T) → a.begins (x ++ y) → a.begins x
  pub whole : (x : List T) (v : V) → a.reads x v → a.begins x
  pub first : (t : T) (y : List T) → a.begins (t ∷ y) → F t

-- with what a whole one may go on, and that it is read as one value
pub record Lawful {T V : Type 0} (a : Form T V) (F M : T → Type 0) : Type 0 where
  pub opens : Opens a F
  pub more : (x : List T) (v : V) (t : T) (y : List T) → a.reads x v → a.begins (x ++ t ∷ y) → M t
  pub single : (x : List T) (v w : V) → a.reads x v → a.reads x w → v ≡ w

module _ {T A B : Type 0} (a : Form T A) (k : A → Form T B) (FA MA : T → Type 0) (FK : A → T → Type 0)
    (la : Lawful a FA MA) (lk : (v : A) → Opens (k v) (FK v))
    (apart : (v : A) (t : T) → MA t → FK v t → ⊥) where
  prefix_at : (x y prefix rest : List T) (v : A) → Cuts x y prefix rest → a.reads prefix v → (k v).begins rest → (next a k).begins x
  prefix_at x y f r v (equal p q) h g = inl (subst a.begins (sym p) (la.opens.whole f v h))
  prefix_at x y f r v (longer t u p q) h g =
      inr (v, record { prefix = f; rest = t ∷ u; whole = p; first = h; second = (lk v).prefix (t ∷ u) y (subst (k v).begins q g) })
  prefix_at x y f r v (shorter t u p q) h g = inl (la.opens.prefix x (t ∷ u) (subst a.begins p (la.opens.whole f v h)))

  pub next_prefix : (x y : List T) → (next a k).begins (x ++ y) → (next a k).begins x
  next_prefix x y (inl b) = inl (la.opens.prefix x y b)
  next_prefix x y (inr (v, s)) = prefix_at x y s.prefix s.rest v (cuts x y s.prefix s.rest s.whole) s.first s.second

  pub next_whole : (x : List T) (v : A × B) → (next a k).reads x v → (next a k).begins x
  next_whole x v s = inr (v.0, record { prefix = s.prefix; rest = s.rest; whole = s.whole; first = s.first; second = (lk v.0).whole s.rest v.1 s.second })

  -- a list at which a was read short, and k goes on where a would
  absurd_at : (f z : List T) (u : T) (r : List T) (v : A) → a.reads f v → a.begins (f ++ u ∷ z) → (k v).begins (u ∷ r) → ⊥
  absurd_at f z u r v h b g = apart v u (la.more f v u z h b) ((lk v).first u r g)

  pub next_first : (F : T → Type 0) → ((t : T) → FA t → F t) → ((v : A) (t : T) → a.reads [] v → FK v t → F t)
      → (t : T) (y : List T) → (next a k).begins (t ∷ y) → F t
  next_first F fa fk t y (inl b) = fa t (la.opens.first t y b)
  next_first F fa fk t y (inr (v, s)) = go s.prefix s.rest s.whole s.first s.second
    where
      go : (f r : List T) → t ∷ y ≡ f ++ r → a.reads f v → (k v).begins r → F t
      go [] r e h g = fk v t h ((lk v).first t y (subst (k v).begins (sym e) g))
      go (c ∷ f) r e h g = let same : c ≡ t = cc in subst F same (fa c (la.opens.first c f (la.opens.whole (c ∷ f) v h)))

  more_at : (M : T → Type 0) → ((v : A) (w : B) (t : T) → MA t → (k v).reads [] w → M t)
      → (f r : List T) (v : A) (w : B) (t : T) (y : List T) (f' r' : List T) (v' : A)
      → ((k v).reads r w → (k v).begins (r ++ t ∷ y) → M t)
      → a.reads f v → (k v).reads r w → a.reads f' v' → (k v').begins r' → Cuts f (r ++ t ∷ y) f' r' → M t
  more_at M ma f r v w t y f' r' v' here h g h' g' (equal p q) =
      let same : v ≡ v' = la.single f v v' h (subst (λ z. a.reads z v') (sym p) h') in
      here g (subst (k v).begins (sym q) (subst (λ u. (k u).begins r') (sym same) g'))
  more_at M ma f r v w t y f' r' v' here h g h' g' (longer u z p q) =
      absurd (absurd_at f' z u (z ++ (r ++ t ∷ y)) v' h' (subst a.begins p (la.opens.whole f v h)) (subst (k v').begins q g'))
  more_at M ma f [] v w t y f' r' v' here h g h' g' (shorter u z p q) =
      let same : u ≡ t = cc in
      ma v w t (subst MA same (la.more f v u z h (subst a.begins p (la.opens.whole f' v' h')))) g
  more_at M ma f (c ∷ r) v w t y f' r' v' here h g h' g' (shorter u z p q) =
      let same : c ≡ u = cc in
      absurd (absurd_at f z u r v h (subst a.begins p (la.opens.whole f' v' h'))
      (subst (λ n. (k v).begins (n ∷ r)) same ((lk v).whole (c ∷ r) w g)))

  pub next_more : (M : T → Type 0) → ((v : A) (w : B) (t : T) → MA t → (k v).reads [] w → M t)
      → (x : List T) (v : A × B) (t : T) (y : List T) (s : (next a k).reads x v)
      → ((k v.0).reads s.rest v.1 → (k v.0).begins (s.rest ++ t ∷ y) → M t)
      → (next a k).begins (x ++ t ∷ y) → M t
  next_more M ma x v t y s here (inr (v', s')) =
      more_at M ma s.prefix s.rest v.0 v.1 t y s'.prefix s'.rest v' here s.first s.second s'.first s'.second
      (cuts s.prefix (s.rest ++ t ∷ y) s'.prefix s'.rest
      (sym (append_assoc s.prefix s.rest (t ∷ y)) ∙ ap (λ z. z ++ t ∷ y) (sym s.whole) ∙ s'.whole))
  next_more M ma x v t y s here (inl b) = go s.rest (subst (λ z. a.begins (z ++ t ∷ y)) s.whole b) s.second
    where
      go : (r : List T) → a.begins ((s.prefix ++ r) ++ t ∷ y) → (k v.0).reads r v.1 → M t
      go [] b g = ma v.0 v.1 t (la.more s.prefix v.0 t y s.first (subst (λ z. a.begins (z ++ t ∷ y)) (append-nil s.prefix) b)) g
      go (c ∷ r) b g = absurd (absurd_at s.prefix (r ++ t ∷ y) c r v.0 s.first
          (subst a.begins (append_assoc s.prefix (c ∷ r) (t ∷ y)) b) ((lk v.0).whole (c ∷ r) v.1 g))

  single_at : (f r f' r' : List T) (v v' : A) (w w' : B) → ((k v).reads r w' → w ≡ w') → a.reads f v → (k v).reads r w → a.reads f' v' → (k v').reads r' w'
      → Cuts f r f' r' → ◌≡◌ {A = A × B} (v, w) (v', w')
  single_at f r f' r' v v' w w' here h g h' g' (equal p q) =
      let same : v ≡ v' = la.single f v v' h (subst (λ z. a.reads z v') (sym p) h') in
      let rest : w ≡ w' = here
      (subst (λ z. (k v).reads z w') (sym q) (subst (λ u. (k u).reads r' w') (sym same) g')) in
      ap₂ (λ (m : A) (n : B). (m, n)) same rest
  single_at f r f' r' v v' w w' here h g h' g' (longer u z p q) =
      absurd (absurd_at f' z u (z ++ r) v' h' (subst a.begins p (la.opens.whole f v h)) (subst (k v').begins q ((lk v').whole r' w' g')))
  single_at f r f' r' v v' w w' here h g h' g' (shorter u z p q) =
      absurd (absurd_at f z u (z ++ r') v h (subst a.begins p (la.opens.whole f' v' h')) (subst (k v).begins q ((lk v).whole r w g)))

  pub next_single : (x : List T) (v w : A × B) (s : (next a k).reads x v) → ((k v.0).reads s.rest w.1 → v.1 ≡ w.1) → (next a k).reads x w → v ≡ w
  next_single x v w s here s' = single_at s.prefix s.rest s'.prefix s'.rest v.0 w.0 v.1 w.1 here s.first s.second s'.first s'.second
      (cuts s.prefix s.rest s'.prefix s'.rest (sym s.whole ∙ s'.whole))

  pub next_opens : (F : T → Type 0) → ((t : T) → FA t → F t) → ((v : A) (t : T) → a.reads [] v → FK v t → F t) → Opens (next a k) F
  next_opens F fa fk = record { nil = inl la.opens.nil; prefix = next_prefix; whole = next_whole; first = next_first F fa fk }

  -- the laws of one form and then another
  pub next_lawful : (F M : T → Type 0) (MK : A → T → Type 0) → ((v : A) → Lawful (k v) (FK v) (MK v))
      → ((t : T) → FA t → F t) → ((v : A) (t : T) → a.reads [] v → FK v t → F t)
      → ((v : A) (t : T) → MK v t → M t) → ((v : A) (w : B) (t : T) → MA t → (k v).reads [] w → M t) → Lawful (next a k) F M
  next_lawful F M MK lk' fa fk mk ma = record {
    opens = next_opens F fa fk;
    more = λ x v t y s. next_more M ma x v t y s (λ g b. mk v.0 t ((lk' v.0).more s.rest v.1 t y g b));
    single = λ x v w s. next_single x v w s (λ g. (lk' v.0).single s.rest v.1 w.1 s.second g);
  }

  -- a was read, and nothing goes on with it from what is left
  over : (o m : List T) (v : A) (h : Read a o m v) (c : T) (z rest : List T) → m ≡ c ∷ rest → a.begins (h.prefix ++ c ∷ z) → ⊥
  over o m v h c z rest e b =
      h.settled c rest e (la.opens.prefix (h.prefix ++ c ∷ []) z (subst a.begins (sym (append_assoc h.prefix (c ∷ []) z)) b))

  over_list : (o m : List T) (v : A) (h : Read a o m v) (g : List T) (t : T) (rest : List T) → m ≡ g ++ t ∷ rest
      → a.begins ((h.prefix ++ g) ++ t ∷ []) → ⊥
  over_list o m v h [] t rest e b = over o m v h t [] rest e (subst (λ z. a.begins (z ++ t ∷ [])) (append-nil h.prefix) b)
  over_list o m v h (c ∷ g) t rest e b =
      over o m v h c (g ++ t ∷ []) (g ++ t ∷ rest) e (subst a.begins (append_assoc h.prefix (c ∷ g) (t ∷ [])) b)

  stops_at : (o m : List T) (v : A) (h : Read a o m v) (g : List T) (t : T) (rest : List T) → m ≡ g ++ t ∷ rest
      → ((k v).begins (g ++ t ∷ []) → ⊥)
      → (v' : A) (f' r' : List T) → a.reads f' v' → (k v').begins r' → Cuts h.prefix (g ++ t ∷ []) f' r' → ⊥
  stops_at o m v h g t rest e never v' f' r' a' b' (equal p q) =
      let same : v ≡ v' = la.single h.prefix v v' h.is_read (subst (λ z. a.reads z v') (sym p) a') in
      never (subst (k v).begins (sym q) (subst (λ u. (k u).begins r') (sym same) b'))
  stops_at o m v h g t rest e never v' f' r' a' b' (longer u z p q) =
      absurd_at f' z u (z ++ (g ++ t ∷ [])) v' a' (subst a.begins p (la.opens.whole h.prefix v h.is_read)) (subst (k v').begins q b')
  stops_at o m v h [] t rest e never v' f' r' a' b' (shorter u z p q) =
      over o m v h u z rest (let same : t ≡ u = cc in cc) (subst a.begins p (la.opens.whole f' v' a'))
  stops_at o m v h (c ∷ g) t rest e never v' f' r' a' b' (shorter u z p q) =
      over o m v h u z (g ++ t ∷ rest) (let same : c ≡ u = cc in cc) (subst a.begins p (la.opens.whole f' v' a'))

  next_stops : (o m : List T) (v : A) (h : Read a o m v) (g : List T) (t : T) (rest : List T) → m ≡ g ++ t ∷ rest
      → ((k v).begins (g ++ t ∷ []) → ⊥) → (next a k).begins ((h.prefix ++ g) ++ t ∷ []) → ⊥
  next_stops o m v h g t rest e never (inl b) = over_list o m v h g t rest e b
  next_stops o m v h g t rest e never (inr (v', s)) =
      stops_at o m v h g t rest e never v' s.prefix s.rest s.first s.second
      (cuts h.prefix (g ++ t ∷ []) s.prefix s.rest (sym (append_assoc h.prefix g (t ∷ [])) ∙ s.whole))

  joined : (o m n f g : List T) → o ≡ f ++ m → m ≡ g ++ n → o ≡ (f ++ g) ++ n
  joined o m n f g p q = p ∙ ap (λ z. f ++ z) q ∙ sym (append_assoc f g n)

  -- one form was read, and then the other
  pub next_read : (o m n : List T) (v : A) (w : B) → Read a o m v → Read (k v) m n w → Read (next a k) o n (v, w)
  next_read o m n v w h g = record {
    prefix = h.prefix ++ g.prefix;
    whole = joined o m n h.prefix g.prefix h.whole g.whole;
    is_read = record { prefix = h.prefix; rest = g.prefix; whole = refl; first = h.is_read; second = g.is_read };
    settled = λ t rest e. next_stops o m v h g.prefix t rest (g.whole ∙ ap (λ z. g.prefix ++ z) e) (g.settled t rest e);
  }

  unread_at : (o m n : List T) (v : A) (h : Read a o m v) (g : Stuck (k v) m n) (v' : A) (w' : B) (f' r' : List T)
      → a.reads f' v' → (k v').reads r' w' → Cuts h.prefix g.prefix f' r' → ⊥
  unread_at o m n v h g v' w' f' r' a' b' (equal p q) =
      let same : v ≡ v' = la.single h.prefix v v' h.is_read (subst (λ z. a.reads z v') (sym p) a') in
      g.unread w' (subst (λ z. (k v).reads z w') (sym q) (subst (λ u. (k u).reads r' w') (sym same) b'))
  unread_at o m n v h g v' w' f' r' a' b' (longer u z p q) =
      absurd_at f' z u (z ++ g.prefix) v' a' (subst a.begins p (la.opens.whole h.prefix v h.is_read))
      (subst (k v').begins q ((lk v').whole r' w' b'))
  unread_at o m n v h g v' w' f' r' a' b' (shorter u z p q) =
      over o m v h u z (z ++ (r' ++ n)) (g.whole ∙ ap (λ x. x ++ n) q ∙ append_assoc (u ∷ z) r' n) (subst a.begins p (la.opens.whole f' v' a'))

  -- one form was read, and the other is stuck
  pub next_stuck : (o m n : List T) (v : A) → Read a o m v → Stuck (k v) m n → Stuck (next a k) o n
  next_stuck o m n v h g = record {
    prefix = h.prefix ++ g.prefix;
    whole = joined o m n h.prefix g.prefix h.whole g.whole;
    begun = inr (v, record { prefix = h.prefix; rest = g.prefix; whole = refl; first = h.is_read; second = g.begun });
    unread = λ w s. unread_at o m n v h g w.0 w.1 s.prefix s.rest s.first s.second
        (cuts h.prefix g.prefix s.prefix s.rest s.whole);
    stops = λ t rest e. next_stops o m v h g.prefix t rest (g.whole ∙ ap (λ z. g.prefix ++ z) e) (g.stops t rest e);
  }

  first_unread : (o n : List T) (h : Stuck a o n) (f r : List T) (v : A) → h.prefix ≡ f ++ r → a.reads f v → (k v).begins r → ⊥
  first_unread o n h f [] v e a' b' = h.unread v (subst (λ z. a.reads z v) (sym (append-nil f) ∙ sym e) a')
  first_unread o n h f (c ∷ r) v e a' b' = absurd_at f r c r v a' (subst a.begins e h.begun) b'

  first_stops : (o n : List T) (h : Stuck a o n) (t : T) (rest : List T) → n ≡ t ∷ rest
      → (v : A) (f r : List T) → a.reads f v → (k v).begins r → Cuts h.prefix (t ∷ []) f r → ⊥
  first_stops o n h t rest e v f r a' b' (equal p q) = h.unread v (subst (λ z. a.reads z v) (sym p) a')
  first_stops o n h t rest e v f r a' b' (longer u z p q) =
      absurd_at f z u (z ++ t ∷ []) v a' (subst a.begins p h.begun) (subst (k v).begins q b')
  first_stops o n h t rest e v f r a' b' (shorter u z p q) =
      let same : t ≡ u = cc in
      h.stops u rest (e ∙ ap (λ c. c ∷ rest) same)
      (la.opens.prefix (h.prefix ++ u ∷ []) z (subst a.begins (p ∙ sym (append_assoc h.prefix (u ∷ []) z)) (la.opens.whole f v a')))

  -- the first form is stuck
  pub next_stuck_first : (o n : List T) → Stuck a o n → Stuck (next a k) o n
  next_stuck_first o n h = record {
    prefix = h.prefix;
    whole = h.whole;
    begun = inl h.begun;
    unread = λ w s. first_unread o n h s.prefix s.rest w.0 s.whole s.first ((lk w.0).whole s.rest w.1 s.second);
    stops = λ t rest e b. elim b [
      | inl b ↦ h.stops t rest e b
      | inr p ↦ first_stops o n h t rest e p.0 p.1.prefix p.1.rest p.1.first p.1.second
          (cuts h.prefix (t ∷ []) p.1.prefix p.1.rest p.1.whole)
    ];
  }

-- what stands here can't begin a form that isn't empty
pub stuck_here : {T V : Type 0} (a : Form T V) (F : T → Type 0) → Opens a F → ((v : V) → a.reads [] v → ⊥)
    → (o : List T) → ((t : T) (rest : List T) → o ≡ t ∷ rest → F t → ⊥) → Stuck a o o
stuck_here a F la solid o bars = record {
  prefix = [];
  whole = refl;
  begun = la.nil;
  unread = solid;
  stops = λ t rest e b. bars t rest e (la.first t [] b);
}

pub next_solid : {T A B : Type 0} (a : Form T A) (k : A → Form T B) → ((v : A) → a.reads [] v → ⊥)
    → (v : A × B) → (next a k).reads [] v → ⊥
next_solid a k solid v s = go s.prefix s.rest s.whole s.first
  where
    go : (f r : List _) → [] ≡ f ++ r → a.reads f v.0 → ⊥
    go [] r e h = solid v.0 h
    go (t ∷ f) r e h = cc
