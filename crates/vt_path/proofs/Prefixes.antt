use Rattle.std.proofs.Common.{◌≡◌, ℕ, ◌+◌, ◌<◌, ◌≤◌, List, [], ◌∷◌, ◌++◌, length, take, refl, sym, ◌∙◌, ap, subst, arith, append_assoc, length-append, get_or, drop, suc, add-one}
use Rattle.std.proofs.lemmas.List.{append-nil, take_at, take_all, take_more, drop_more, length-take-le, take-append-drop}
use Rattle.vt_path.specs.Stop.{StopsAt}

-- Once the bytes of `prefix` were read, what makes a value goes on by `GoesOnTo` with the bytes after them, and the other way.
pub record Reads {V : Type 0} (Good : V → Type 0) (text : V → List ℕ) (GoesOnTo : List ℕ → V → Type 0) (prefix : List ℕ) : Type 0 where
  pub on : (rest : List ℕ) (v : V) → Good v → prefix ++ rest ≡ text v → GoesOnTo rest v
  pub back : (rest : List ℕ) (v : V) → GoesOnTo rest v → prefix ++ rest ≡ text v

-- some bytes finish a good value
abbrev pub Opens : {V : Type 0} → (V → Type 0) → (List ℕ → V → Type 0) → Type 0
Opens {V} Good GoesOnTo = (rest : List ℕ) × (v : V) × Good v × GoesOnTo rest v

abbrev pub IsTextOf : {V : Type 0} → (V → Type 0) → (V → List ℕ) → List ℕ → Type 0
IsTextOf {V} Good text bytes = (v : V) × Good v × (bytes ≡ text v)

module _ {V : Type 0} (Good : V → Type 0) (text : V → List ℕ) (GoesOnTo : List ℕ → V → Type 0) where
  -- one byte more was read
  pub Reads-more : (GoesOnTo' : List ℕ → V → Type 0) (prefix : List ℕ) (b : ℕ) → Reads Good text GoesOnTo prefix
      → ((rest : List ℕ) (v : V) → Good v → GoesOnTo (b ∷ rest) v → GoesOnTo' rest v)
      → ((rest : List ℕ) (v : V) → GoesOnTo' rest v → GoesOnTo (b ∷ rest) v)
      → Reads Good text GoesOnTo' (prefix ++ b ∷ [])
  Reads-more GoesOnTo' prefix b reads on back = record {
    on = λ rest v good e. on rest v good (reads.on (b ∷ rest) v good (sym (append_assoc prefix (b ∷ []) rest) ∙ e));
    back = λ rest v h. append_assoc prefix (b ∷ []) rest ∙ reads.back (b ∷ rest) v (back rest v h);
  }

  -- nothing goes on with the next byte
  pub stops_here : (prefix : List ℕ) (b : ℕ) (more : List ℕ) → Reads Good text GoesOnTo prefix → Opens Good GoesOnTo
      → ((rest : List ℕ) (v : V) → Good v → GoesOnTo (b ∷ rest) v → ⊥)
      → StopsAt (IsTextOf Good text) (prefix ++ b ∷ more) (length prefix)
  stops_here prefix b more reads opens none = record {
    no_text = λ t. none more t.0 t.1 (reads.on (b ∷ more) t.0 t.1 t.2);
    within = rw (length-append prefix (b ∷ more)) (omega arith);
    before = (opens.0, (opens.1, opens.2, ap (λ x. x ++ opens.0) (take_at prefix (b ∷ more) (length prefix) refl) ∙ reads.back opens.0 opens.1 opens.3));
    stops = λ _ t.
        let n : length (prefix ++ b ∷ []) ≡ length prefix + 1 = length-append prefix (b ∷ []) in
        let w : take (length prefix + 1) ((prefix ++ b ∷ []) ++ more) ≡ prefix ++ b ∷ [] = take_at (prefix ++ b ∷ []) more (length prefix + 1) n in
        let a : (prefix ++ b ∷ []) ++ more ≡ prefix ++ b ∷ more = append_assoc prefix (b ∷ []) more in
        let u : take (length prefix + 1) (prefix ++ b ∷ more) ≡ prefix ++ b ∷ [] = ap (λ x. take (length prefix + 1) x) (sym a) ∙ w in
        let e : (prefix ++ b ∷ []) ++ t.0 ≡ text t.1.0 = ap (λ x. x ++ t.0) (sym u) ∙ t.1.2 in
        none t.0 t.1.0 t.1.1 (reads.on (b ∷ t.0) t.1.0 t.1.1 (sym (append_assoc prefix (b ∷ []) t.0) ∙ e));
  }

  -- the bytes end too early
  pub stops_at_end : (prefix : List ℕ) → Reads Good text GoesOnTo prefix → Opens Good GoesOnTo → ((v : V) → Good v → GoesOnTo [] v → ⊥)
      → StopsAt (IsTextOf Good text) prefix (length prefix)
  stops_at_end prefix reads opens none = record {
    no_text = λ t. none t.0 t.1 (reads.on [] t.0 t.1 (append-nil prefix ∙ t.2));
    within = omega arith;
    before = (opens.0, (opens.1, opens.2, ap (λ x. x ++ opens.0) (take_all (length prefix) prefix (omega arith)) ∙ reads.back opens.0 opens.1 opens.3));
    stops = λ less _. omega arith;
  }

  -- what was read is no longer than a text may be
  pub length-prefix : (prefix : List ℕ) (most : ℕ) → ((v : V) → Good v → length (text v) ≤ most) → Reads Good text GoesOnTo prefix → Opens Good GoesOnTo
      → length prefix ≤ most
  length-prefix prefix most bound reads opens =
      let n : length (prefix ++ opens.0) ≡ length (text opens.1) = ap length (reads.back opens.0 opens.1 opens.3) in
      let m : length (prefix ++ opens.0) ≡ length prefix + length opens.0 = length-append prefix opens.0 in
      let k : length (text opens.1) ≤ most = bound opens.1 opens.2 in
      omega arith

  -- the same for a slash (47) and the bytes after it, of which the first i were read
  pub Reads-next : (GoesOnTo' : List ℕ → V → Type 0) (bytes : List ℕ) (i : ℕ) → i < length bytes → Reads Good text GoesOnTo (47 ∷ take i bytes)
      → ((rest : List ℕ) (v : V) → Good v → GoesOnTo (get_or bytes i 0 ∷ rest) v → GoesOnTo' rest v)
      → ((rest : List ℕ) (v : V) → GoesOnTo' rest v → GoesOnTo (get_or bytes i 0 ∷ rest) v)
      → Reads Good text GoesOnTo' (47 ∷ take (i + 1) bytes)
  Reads-next GoesOnTo' bytes i less reads on back =
      rw (take_more bytes i 0 less) (Reads-more GoesOnTo' (47 ∷ take i bytes) (get_or bytes i 0) reads on back)

  pub stops_at_next : (bytes : List ℕ) (i : ℕ) → i < length bytes → Reads Good text GoesOnTo (47 ∷ take i bytes) → Opens Good GoesOnTo
      → ((rest : List ℕ) (v : V) → Good v → GoesOnTo (get_or bytes i 0 ∷ rest) v → ⊥)
      → StopsAt (IsTextOf Good text) (47 ∷ bytes) (i + 1)
  stops_at_next bytes i less reads opens none =
      let s = stops_here (47 ∷ take i bytes) (get_or bytes i 0) (drop (i + 1) bytes) reads opens none in
      let n : length (47 ∷ take i bytes) ≡ i + 1 = ap suc (length-take-le i bytes (omega arith)) ∙ sym (add-one i) in
      let e : take i bytes ++ get_or bytes i 0 ∷ drop (i + 1) bytes ≡ bytes =
      ap (λ x. take i bytes ++ x) (sym (drop_more bytes i 0 less)) ∙ take-append-drop i bytes in
      let P : List ℕ → ℕ → Type 0 = λ x m. StopsAt (IsTextOf Good text) (47 ∷ x) m in
      let t : P (take i bytes ++ get_or bytes i 0 ∷ drop (i + 1) bytes) (length (47 ∷ take i bytes)) = s in
      subst (λ (m : ℕ). P bytes m) n (subst (λ (x : List ℕ). P x (length (47 ∷ take i bytes))) e t)

  pub stops_after_all : (bytes : List ℕ) (i : ℕ) → length bytes ≤ i → Reads Good text GoesOnTo (47 ∷ take i bytes) → Opens Good GoesOnTo
      → ((v : V) → Good v → GoesOnTo [] v → ⊥)
      → StopsAt (IsTextOf Good text) (47 ∷ bytes) (length bytes + 1)
  stops_after_all bytes i all reads opens none =
      let e : take i bytes ≡ bytes = take_all i bytes all in
      let P : List ℕ → Type 0 = λ x. Reads Good text GoesOnTo (47 ∷ x) in
      let r : P bytes = subst P e reads in
      let Q : ℕ → Type 0 = λ m. StopsAt (IsTextOf Good text) (47 ∷ bytes) m in
      let s : Q (suc (length bytes)) = stops_at_end (47 ∷ bytes) r opens none in
      subst Q (sym (add-one (length bytes))) s

  -- all were read
  pub text_after_all : (bytes : List ℕ) (i : ℕ) (v : V) → length bytes ≤ i → Reads Good text GoesOnTo (47 ∷ take i bytes) → GoesOnTo [] v → 47 ∷ bytes ≡ text v
  text_after_all bytes i v all reads h =
      ap (λ x. 47 ∷ x) (sym (take_all i bytes all)) ∙ (sym (append-nil (47 ∷ take i bytes)) ∙ reads.back [] v h)

  pub place_bound : (bytes : List ℕ) (i most : ℕ) → i ≤ length bytes → ((v : V) → Good v → length (text v) ≤ most)
      → Reads Good text GoesOnTo (47 ∷ take i bytes) → Opens Good GoesOnTo → i + 1 ≤ most
  place_bound bytes i most less bound reads opens =
      let n : length (take i bytes) ≡ i = length-take-le i bytes less in
      let m : suc (length (take i bytes)) ≤ most = length-prefix (47 ∷ take i bytes) most bound reads opens in
      omega arith

  -- bytes without a slash (47) at their start
  pub stops_at_start : (bytes : List ℕ) → Opens Good GoesOnTo → Reads Good text GoesOnTo (47 ∷ [])
      → ((v : V) → Good v → (t : List ℕ) × (text v ≡ 47 ∷ t))
      → ((t : List ℕ) → bytes ≡ 47 ∷ t → ⊥)
      → StopsAt (IsTextOf Good text) bytes 0
  stops_at_start bytes opens reads slash none = record {
    no_text = λ t. let s = slash t.0 t.1 in none s.0 (t.2 ∙ s.1);
    within = omega arith;
    before = (47 ∷ opens.0, (opens.1, opens.2, reads.back opens.0 opens.1 opens.3));
    stops = λ some t. let s = slash t.1.0 t.1.1 in refuted bytes none some t.0 s.0 (t.1.2 ∙ s.1);
  } where
    refuted : (bytes : List ℕ) → ((t : List ℕ) → bytes ≡ 47 ∷ t → ⊥) → 0 < length bytes → (rest t : List ℕ) → take 1 bytes ++ rest ≡ 47 ∷ t → ⊥
    refuted [] none some rest t e = omega arith
    refuted (b ∷ bs) none some rest t e = none bs (let z : b ∷ rest ≡ 47 ∷ t = e in let y : b ≡ 47 = cc in cc)
