use Rattle.std.proofs.Common.{◌≡◌, ℕ, ◌+◌, ◌<◌, ◌≤◌, List, [], ◌∷◌, length, drop, get_or, sym, ◌∙◌, ap, subst, inl, inr, ◌⊎◌, ⊎_elim, arith, ◌↔◌, ◌-◌}
use Rattle.std.proofs.lemmas.Bool.{eq-eqb, ne_eqb}
use Rattle.std.proofs.lemmas.List.{drop_more, drop_all, length-drop, get_or-drop}
use Rattle.vt_path.specs.Match.{Holds}

span_case : (a d z : ℕ) (rest : List ℕ) (b : ℕ) → d ≡ 45 → Holds (a ∷ d ∷ z ∷ rest) b ↔ (((a ≤ b) × (b ≤ z)) ⊎ Holds rest b)
unfolding Holds
span_case a d z rest b e = rw (eq-eqb d 45 e) (λ h. h, λ h. h)

single_case : (a : ℕ) (tail : List ℕ) (b : ℕ) → (1 < length tail → get_or tail 0 0 ≡ 45 → ⊥) → Holds (a ∷ tail) b ↔ ((b ≡ a) ⊎ Holds tail b)
unfolding Holds
single_case a [] b never = (λ h. inl h, λ h. ⊎_elim (λ e. e) (λ z. absurd z) h)
single_case a (d ∷ []) b never = (λ h. h, λ h. h)
single_case a (d ∷ z ∷ rest) b never = rw (ne_eqb d 45 (never (omega arith))) (λ h. h, λ h. h)

holds_nil : (b : ℕ) → Holds [] b → ⊥
unfolding Holds
holds_nil b h = h

module _ (held : List ℕ) (i b : ℕ) where
  -- a span stands at the place
  span_at : i + 2 < length held → get_or held (i + 1) 0 ≡ 45
      → Holds (drop i held) b ↔ (((get_or held i 0 ≤ b) × (b ≤ get_or held (i + 2) 0)) ⊎ Holds (drop (i + 3) held) b)
  span_at less dash =
      let e1 : drop i held ≡ get_or held i 0 ∷ drop (i + 1) held = drop_more held i 0 (omega arith) in
      let e2 : drop (i + 1) held ≡ get_or held (i + 1) 0 ∷ drop (i + 1 + 1) held = drop_more held (i + 1) 0 (omega arith) in
      let n2 : i + 1 + 1 ≡ i + 2 = omega arith in
      let n3 : i + 2 + 1 ≡ i + 3 = omega arith in
      let e3 : drop (i + 2) held ≡ get_or held (i + 2) 0 ∷ drop (i + 2 + 1) held = drop_more held (i + 2) 0 less in
      let all : drop i held ≡ get_or held i 0 ∷ get_or held (i + 1) 0 ∷ get_or held (i + 2) 0 ∷ drop (i + 3) held =
      e1 ∙ ap (λ (x : List ℕ). get_or held i 0 ∷ x) (e2 ∙ ap (λ (x : List ℕ). get_or held (i + 1) 0 ∷ x)
      (ap (λ k. drop k held) n2 ∙ (e3 ∙ ap (λ k. get_or held (i + 2) 0 ∷ drop k held) n3))) in
      let P : List ℕ → Type 0 = λ x. Holds x b ↔ (((get_or held i 0 ≤ b) × (b ≤ get_or held (i + 2) 0)) ⊎ Holds (drop (i + 3) held) b) in
      subst P (sym all) (span_case (get_or held i 0) (get_or held (i + 1) 0) (get_or held (i + 2) 0) (drop (i + 3) held) b dash)

  -- no span does
  single_at : i < length held → (i + 2 < length held → get_or held (i + 1) 0 ≡ 45 → ⊥)
      → Holds (drop i held) b ↔ ((b ≡ get_or held i 0) ⊎ Holds (drop (i + 1) held) b)
  single_at less never =
      let e : drop i held ≡ get_or held i 0 ∷ drop (i + 1) held = drop_more held i 0 less in
      let n : length (drop (i + 1) held) ≡ length held - (i + 1) = length-drop (i + 1) held in
      let g : get_or (drop (i + 1) held) 0 0 ≡ get_or held (i + 1 + 0) 0 = get_or-drop (i + 1) held 0 0 in
      let m : i + 1 + 0 ≡ i + 1 = omega arith in
      let P : List ℕ → Type 0 = λ x. Holds x b ↔ ((b ≡ get_or held i 0) ⊎ Holds (drop (i + 1) held) b) in
      subst P (sym e) (single_case (get_or held i 0) (drop (i + 1) held) b (λ long dash. never (omega arith) (ap (λ k. get_or held k 0) (sym m) ∙ (sym g ∙ dash))))

  pub span_here : Holds (drop i held) b ↔ Holds held b → i + 2 < length held → get_or held (i + 1) 0 ≡ 45 → get_or held i 0 ≤ b → b ≤ get_or held (i + 2) 0 → Holds held b
  span_here inv less dash low high = inv.0 ((span_at less dash).1 (inl (low, high)))

  pub span_on : Holds (drop i held) b ↔ Holds held b → i + 2 < length held → get_or held (i + 1) 0 ≡ 45 → (get_or held i 0 ≤ b → b ≤ get_or held (i + 2) 0 → ⊥)
      → Holds (drop (i + 3) held) b ↔ Holds held b
  span_on inv less dash out =
      (λ h. inv.0 ((span_at less dash).1 (inr h)), λ h. ⊎_elim (λ (s : (get_or held i 0 ≤ b) × (b ≤ get_or held (i + 2) 0)). absurd (out s.0 s.1)) (λ r. r) ((span_at less dash).0 (inv.1 h)))

  pub single_here : Holds (drop i held) b ↔ Holds held b → i < length held → (i + 2 < length held → get_or held (i + 1) 0 ≡ 45 → ⊥) → b ≡ get_or held i 0 → Holds held b
  single_here inv less never e = inv.0 ((single_at less never).1 (inl e))

  pub single_on : Holds (drop i held) b ↔ Holds held b → i < length held → (i + 2 < length held → get_or held (i + 1) 0 ≡ 45 → ⊥) → (b ≡ get_or held i 0 → ⊥)
      → Holds (drop (i + 1) held) b ↔ Holds held b
  single_on inv less never apart =
      (λ h. inv.0 ((single_at less never).1 (inr h)), λ h. ⊎_elim (λ (e : b ≡ get_or held i 0). absurd (apart e)) (λ r. r) ((single_at less never).0 (inv.1 h)))

  pub holds_end : Holds (drop i held) b ↔ Holds held b → length held ≤ i → Holds held b → ⊥
  holds_end inv all h =
      let P : List ℕ → Type 0 = λ x. Holds x b in holds_nil b (subst P (drop_all i held all) (inv.1 h))
