-- Lemmas on the items of one list that stand in order at items of another.
use Rattle.std.proofs.Common.{List, [], ◌∷◌, ◌++◌, refl, sym, ap, ◌∙◌, append_assoc}
use Rattle.vt_grammar.specs.Form.{Split}
use Rattle.vt_grammar.specs.Order.{AreAmong}

module _ {A T : Type 0} (R : A → T → Type 0) where
  -- with more items before them
  pub later : (before : List T) (xs : List A) (items : List T) → AreAmong R xs items → AreAmong R xs (before ++ items)
  later before [] items h = tt
  later before (x ∷ xs) items h = record {
    before = before ++ h.before;
    here = h.here;
    after = h.after;
    whole = ap (λ z. before ++ z) h.whole ∙ sym (append_assoc before h.before (h.here ∷ h.after));
    holds = h.holds;
    rest = h.rest;
  }

  pub join : (xs ys : List A) (items more : List T) → AreAmong R xs items → AreAmong R ys more → AreAmong R (xs ++ ys) (items ++ more)
  join [] ys items more h g = later items ys more g
  join (x ∷ xs) ys items more h g = record {
    before = h.before;
    here = h.here;
    after = h.after ++ more;
    whole = ap (λ z. z ++ more) h.whole ∙ append_assoc h.before (h.here ∷ h.after) more;
    holds = h.holds;
    rest = join xs ys h.after more h.rest g;
  }

  pub front : (xs ys : List A) (items : List T) → AreAmong R (xs ++ ys) items → AreAmong R xs items
  front [] ys items h = tt
  front (x ∷ xs) ys items h = record {
    before = h.before;
    here = h.here;
    after = h.after;
    whole = h.whole;
    holds = h.holds;
    rest = front xs ys h.after h.rest;
  }

  pub parted : (xs ys : List A) (items : List T) → AreAmong R (xs ++ ys) items → Split items (AreAmong R xs) (AreAmong R ys)
  parted [] ys items h = record { prefix = []; rest = items; whole = refl; first = tt; second = h }
  parted (x ∷ xs) ys items h =
      let parts = parted xs ys h.after h.rest in
      record {
        prefix = h.before ++ h.here ∷ parts.prefix;
        rest = parts.rest;
        whole = h.whole ∙ ap (λ z. h.before ++ h.here ∷ z) parts.whole ∙ sym (append_assoc h.before (h.here ∷ parts.prefix) parts.rest);
        first = record { before = h.before; here = h.here; after = parts.prefix; whole = refl; holds = h.holds; rest = parts.first };
        second = parts.second;
      }
