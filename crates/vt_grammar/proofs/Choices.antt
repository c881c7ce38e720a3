-- The laws of one token, of no token, of either form, of a form with another value, and of some lists of a form.
use Rattle.std.proofs.Common.{◌≡◌, inl, inr, List, [], ◌∷◌, ◌++◌, refl, sym, ap, ◌∙◌}
use Rattle.vt_grammar.specs.Form.{Form, one, empty, nothing, either, mapped, only}
use Rattle.vt_grammar.specs.private.Parsing.{Read, Stuck}
use Rattle.vt_grammar.proofs.Sequences.{Opens, Lawful}

-- the list doesn't begin with a token of which this holds
pub record Bars {T : Type 0} (o : List T) (F : T → Type 0) : Type 0 where
  pub bars : (t : T) (rest : List T) → o ≡ t ∷ rest → F t → ⊥

module _ {T : Type 0} (passes : T → Type 0) where
  one_prefix : (x y : List T) → (one passes).begins (x ++ y) → (one passes).begins x
  one_prefix [] y b = inl refl
  one_prefix (t ∷ []) [] b = b
  one_prefix (t ∷ []) (u ∷ y) (inl e) = absurd (cc)
  one_prefix (t ∷ []) (u ∷ y) (inr h) = absurd h
  one_prefix (t ∷ u ∷ x) y (inr h) = absurd h
  one_prefix (t ∷ u ∷ x) y (inl e) = absurd (cc)

  one_whole : (x : List T) (v : T) → (one passes).reads x v → (one passes).begins x
  one_whole (t ∷ []) v h = inr h.0
  one_whole [] v h = absurd h
  one_whole (t ∷ u ∷ x) v h = absurd h

  one_first : (t : T) (y : List T) → (one passes).begins (t ∷ y) → passes t
  one_first t y (inl e) = absurd (cc)
  one_first t [] (inr h) = h
  one_first t (u ∷ y) (inr h) = absurd h

  one_more : (x : List T) (v t : T) (y : List T) → (one passes).reads x v → (one passes).begins (x ++ t ∷ y) → ⊥
  one_more (c ∷ []) v t y h (inl e) = cc
  one_more (c ∷ []) v t y h (inr p) = p
  one_more [] v t y h b = h
  one_more (c ∷ u ∷ x) v t y h b = h

  one_single : (x : List T) (v w : T) → (one passes).reads x v → (one passes).reads x w → v ≡ w
  one_single (c ∷ []) v w h g = h.1 ∙ sym g.1
  one_single [] v w h g = absurd h
  one_single (c ∷ u ∷ x) v w h g = absurd h

  pub one_lawful : Lawful (one passes) passes (λ t. ⊥)
  one_lawful = record {
    opens = record { nil = inl refl; prefix = one_prefix; whole = one_whole; first = one_first };
    more = one_more;
    single = one_single;
  }

  -- the token was there
  pub one_read : (o n : List T) (t : T) → o ≡ t ∷ n → passes t → Read (one passes) o n t
  one_read o n t e h = record {
    prefix = t ∷ [];
    whole = e;
    is_read = (h, refl);
    settled = λ c rest _ b. one_more (t ∷ []) t c [] (h, refl) b;
  }

  -- another token was there, or none
  pub one_stuck : (o : List T) → Bars o passes → Stuck (one passes) o o
  one_stuck o bars = record {
    prefix = [];
    whole = refl;
    begun = inl refl;
    unread = λ v h. h;
    stops = λ t rest e b. bars.bars t rest e (one_first t [] b);
  }

pub empty_lawful : {T V : Type 0} (v : V) → Lawful {T = T} (empty v) (λ t. ⊥) (λ t. ⊥)
empty_lawful v = record {
  opens = record { nil = refl; prefix = λ x y b. nil_of x y b; whole = λ x w h. h.0; first = λ t y b. absurd (cc) };
  more = λ x w t y h b. absurd (not_nil x t y b);
  single = λ x a b h g. h.1 ∙ sym g.1;
}
  where
    nil_of : {T : Type 0} (x y : List T) → x ++ y ≡ [] → x ≡ []
    nil_of [] y b = refl
    nil_of (t ∷ x) y b = absurd (cc)

    not_nil : {T : Type 0} (x : List T) (t : T) (y : List T) → x ++ t ∷ y ≡ [] → ⊥
    not_nil [] t y b = cc
    not_nil (c ∷ x) t y b = cc

pub empty_read : {T V : Type 0} (v : V) (o : List T) → Read (empty v) o o v
empty_read v o = record { prefix = []; whole = refl; is_read = (refl, refl); settled = λ t rest _ b. cc }

module _ {T A B : Type 0} (f : A → B) (a : Form T A) where
  pub mapped_lawful : (F M : T → Type 0) → Lawful a F M → Lawful (mapped f a) F M
  mapped_lawful F M l = record {
    opens = record { nil = l.opens.nil; prefix = l.opens.prefix; whole = λ x w h. l.opens.whole x h.0 h.1; first = l.opens.first };
    more = λ x w t y h b. l.more x h.0 t y h.1 b;
    single = λ x v w h g. h.2 ∙ ap f (l.single x h.0 g.0 h.1 g.1) ∙ sym g.2;
  }

  pub mapped_read : (o n : List T) (v : A) → Read a o n v → Read (mapped f a) o n (f v)
  mapped_read o n v h = record { prefix = h.prefix; whole = h.whole; is_read = (v, h.is_read, refl); settled = h.settled }

  pub mapped_stuck : (o n : List T) → Stuck a o n → Stuck (mapped f a) o n
  mapped_stuck o n h = record { prefix = h.prefix; whole = h.whole; begun = h.begun; unread = λ w g. h.unread g.0 g.1; stops = h.stops }

module _ {T V : Type 0} (P : List T → Type 0) (a : Form T V) where
  pub only_lawful : (F M : T → Type 0) → P [] → ((x y : List T) → P (x ++ y) → P x) → Lawful a F M → Lawful (only P a) F M
  only_lawful F M p closed l = record {
    opens = record {
      nil = (p, l.opens.nil);
      prefix = λ x y b. (closed x y b.0, l.opens.prefix x y b.1);
      whole = λ x v h. (h.0, l.opens.whole x v h.1);
      first = λ t y b. l.opens.first t y b.1;
    };
    more = λ x v t y h b. l.more x v t y h.1 b.1;
    single = λ x v w h g. l.single x v w h.1 g.1;
  }

  pub only_read : (o n : List T) (v : V) → (h : Read a o n v) → P h.prefix → Read (only P a) o n v
  only_read o n v h p = record { prefix = h.prefix; whole = h.whole; is_read = (p, h.is_read); settled = λ t rest e b. h.settled t rest e b.1 }

  pub only_stuck : (o n : List T) → (h : Stuck a o n) → P h.prefix → Stuck (only P a) o n
  only_stuck o n h p = record {
    prefix = h.prefix;
    whole = h.whole;
    begun = (p, h.begun);
    unread = λ v g. h.unread v g.1;
    stops = λ t rest e b. h.stops t rest e b.1;
  }

module _ {T V : Type 0} (a b : Form T V) where
  -- the laws of either form, where what both may begin with is told apart by the premises
  pub either_lawful_by : (FA MA FB MB F M : T → Type 0) → Lawful a FA MA → Lawful b FB MB
      → ((t : T) → FA t → F t) → ((t : T) → FB t → F t) → ((t : T) → MA t → M t) → ((t : T) → MB t → M t)
      → ((x : List T) (v : V) (t : T) (y : List T) → a.reads x v → b.begins (x ++ t ∷ y) → M t)
      → ((x : List T) (v : V) (t : T) (y : List T) → b.reads x v → a.begins (x ++ t ∷ y) → M t)
      → ((x : List T) (v w : V) → a.reads x v → b.reads x w → v ≡ w)
      → Lawful (either a b) F M
  either_lawful_by FA MA FB MB F M la lb fa fb ma mb ab ba same = record {
    opens = record {
      nil = inl la.opens.nil;
      prefix = λ x y h. elim h [ inl p ↦ inl (la.opens.prefix x y p) | inr p ↦ inr (lb.opens.prefix x y p) ];
      whole = λ x v h. elim h [ inl p ↦ inl (la.opens.whole x v p) | inr p ↦ inr (lb.opens.whole x v p) ];
      first = λ t y h. elim h [ inl p ↦ fa t (la.opens.first t y p) | inr p ↦ fb t (lb.opens.first t y p) ];
    };
    more = λ x v t y h g. elim h [
      | inl p ↦ elim g [ inl q ↦ ma t (la.more x v t y p q) | inr q ↦ ab x v t y p q ]
      | inr p ↦ elim g [ inl q ↦ ba x v t y p q | inr q ↦ mb t (lb.more x v t y p q) ]
    ];
    single = λ x v w h g. elim h [
      | inl p ↦ elim g [ inl q ↦ la.single x v w p q | inr q ↦ same x v w p q ]
      | inr p ↦ elim g [ inl q ↦ sym (same x w v q p) | inr q ↦ lb.single x v w p q ]
    ];
  }

  -- .. where no token may begin both, and the first isn't empty
  pub either_lawful : (FA MA FB MB F M : T → Type 0) → Lawful a FA MA → Lawful b FB MB
      → ((t : T) → FA t → FB t → ⊥) → ((v : V) → a.reads [] v → ⊥)
      → ((t : T) → FA t → F t) → ((t : T) → FB t → F t) → ((t : T) → MA t → M t) → ((t : T) → MB t → M t)
      → ((v : V) (t : T) → b.reads [] v → FA t → M t)
      → Lawful (either a b) F M
  either_lawful FA MA FB MB F M la lb apart solid fa fb ma mb mf =
      either_lawful_by FA MA FB MB F M la lb fa fb ma mb ab ba same
    where
      ab : (x : List T) (v : V) (t : T) (y : List T) → a.reads x v → b.begins (x ++ t ∷ y) → M t
      ab [] v t y h g = absurd (solid v h)
      ab (c ∷ x) v t y h g = absurd (apart c (la.opens.first c x (la.opens.whole (c ∷ x) v h)) (lb.opens.first c (x ++ t ∷ y) g))

      ba : (x : List T) (v : V) (t : T) (y : List T) → b.reads x v → a.begins (x ++ t ∷ y) → M t
      ba [] v t y h g = mf v t h (la.opens.first t y g)
      ba (c ∷ x) v t y h g = absurd (apart c (la.opens.first c (x ++ t ∷ y) g) (lb.opens.first c x (lb.opens.whole (c ∷ x) v h)))

      same : (x : List T) (v w : V) → a.reads x v → b.reads x w → v ≡ w
      same [] v w h g = absurd (solid v h)
      same (c ∷ x) v w h g = absurd (apart c (la.opens.first c x (la.opens.whole (c ∷ x) v h)) (lb.opens.first c x (lb.opens.whole (c ∷ x) w g)))

  -- the first form was read, and the other doesn't go so far
  pub left_read_by : (o n : List T) (v : V) (h : Read a o n v)
      → ((t : T) (rest : List T) → n ≡ t ∷ rest → b.begins (h.prefix ++ t ∷ []) → ⊥) → Read (either a b) o n v
  left_read_by o n v h never = record {
    prefix = h.prefix;
    whole = h.whole;
    is_read = inl h.is_read;
    settled = λ t rest e g. elim g [ inl p ↦ h.settled t rest e p | inr p ↦ never t rest e p ];
  }

  pub right_read_by : (o n : List T) (v : V) (h : Read b o n v)
      → ((t : T) (rest : List T) → n ≡ t ∷ rest → a.begins (h.prefix ++ t ∷ []) → ⊥) → Read (either a b) o n v
  right_read_by o n v h never = record {
    prefix = h.prefix;
    whole = h.whole;
    is_read = inr h.is_read;
    settled = λ t rest e g. elim g [ inl p ↦ never t rest e p | inr p ↦ h.settled t rest e p ];
  }

  pub left_stuck_by : (o n : List T) (h : Stuck a o n) → ((v : V) → b.reads h.prefix v → ⊥)
      → ((t : T) (rest : List T) → n ≡ t ∷ rest → b.begins (h.prefix ++ t ∷ []) → ⊥) → Stuck (either a b) o n
  left_stuck_by o n h unread never = record {
    prefix = h.prefix;
    whole = h.whole;
    begun = inl h.begun;
    unread = λ v g. elim g [ inl p ↦ h.unread v p | inr p ↦ unread v p ];
    stops = λ t rest e g. elim g [ inl p ↦ h.stops t rest e p | inr p ↦ never t rest e p ];
  }

  pub right_stuck_by : (o n : List T) (h : Stuck b o n) → ((v : V) → a.reads h.prefix v → ⊥)
      → ((t : T) (rest : List T) → n ≡ t ∷ rest → a.begins (h.prefix ++ t ∷ []) → ⊥) → Stuck (either a b) o n
  right_stuck_by o n h unread never = record {
    prefix = h.prefix;
    whole = h.whole;
    begun = inr h.begun;
    unread = λ v g. elim g [ inl p ↦ unread v p | inr p ↦ h.unread v p ];
    stops = λ t rest e g. elim g [ inl p ↦ never t rest e p | inr p ↦ h.stops t rest e p ];
  }

-- a list that begins the form stands nowhere in o, past its first token or not
barred : {T V : Type 0} (b : Form T V) (F : T → Type 0) → Opens b F → (o : List T) → Bars o F
    → (f : List T) (t : T) (n rest : List T) → o ≡ f ++ n → n ≡ t ∷ rest → b.begins (f ++ t ∷ []) → ⊥
barred b F lb o bars [] t n rest e p g = bars.bars t rest (e ∙ p) (lb.first t [] g)
barred b F lb o bars (c ∷ f) t n rest e p g = bars.bars c (f ++ n) e (lb.first c (f ++ t ∷ []) g)

unbegun : {T V : Type 0} (b : Form T V) (F : T → Type 0) → Opens b F → (o : List T) → Bars o F
    → (f n : List T) (v : V) → o ≡ f ++ n → ((w : V) → b.reads [] w → o ≡ n → ⊥) → b.reads f v → ⊥
unbegun b F lb o bars [] n v e solid h = solid v h e
unbegun b F lb o bars (c ∷ f) n v e solid h = bars.bars c (f ++ n) e (lb.first c f (lb.whole (c ∷ f) v h))

module _ {T V : Type 0} (a b : Form T V) (FA FB : T → Type 0) (la : Opens a FA) (lb : Opens b FB) where
  -- the first form was read, and the list begins with no token of the other
  pub left_read : (o n : List T) (v : V) → Bars o FB → Read a o n v → Read (either a b) o n v
  left_read o n v bars h = left_read_by a b o n v h (λ t rest e g. barred b FB lb o bars h.prefix t n rest h.whole e g)

  pub right_read : (o n : List T) (v : V) → Bars o FA → Read b o n v → Read (either a b) o n v
  right_read o n v bars h = right_read_by a b o n v h (λ t rest e g. barred a FA la o bars h.prefix t n rest h.whole e g)

  pub left_stuck : (o n : List T) → Bars o FB → Stuck a o n → ((w : V) → b.reads [] w → o ≡ n → ⊥) → Stuck (either a b) o n
  left_stuck o n bars h solid = left_stuck_by a b o n h (λ v g. unbegun b FB lb o bars h.prefix n v h.whole solid g)
      (λ t rest e g. barred b FB lb o bars h.prefix t n rest h.whole e g)

  pub right_stuck : (o n : List T) → Bars o FA → Stuck b o n → ((w : V) → a.reads [] w → o ≡ n → ⊥) → Stuck (either a b) o n
  right_stuck o n bars h solid = right_stuck_by a b o n h (λ v g. unbegun a FA la o bars h.prefix n v h.whole solid g)
      (λ t rest e g. barred a FA la o bars h.prefix t n rest h.whole e g)

pub nothing_lawful : {T V : Type 0} (F : T → Type 0) → Lawful {T = T} {V = V} nothing F (λ t. ⊥)
nothing_lawful F = record {
  opens = record { nil = refl; prefix = λ x y b. nil_of x y b; whole = λ x w h. absurd h; first = λ t y b. absurd (cc) };
  more = λ x w t y h b. h;
  single = λ x a b h g. absurd h;
}
  where
    nil_of : {T : Type 0} (x y : List T) → x ++ y ≡ [] → x ≡ []
    nil_of [] y b = refl
    nil_of (t ∷ x) y b = absurd (cc)

pub nothing_stuck : {T V : Type 0} (o : List T) → Stuck {V = V} nothing o o
nothing_stuck o = record { prefix = []; whole = refl; begun = refl; unread = λ v h. h; stops = λ t rest e b. cc }
