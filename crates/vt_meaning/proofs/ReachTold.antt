-- The functions of the reach answer as its relations do.
use Rattle.std.proofs.Common.{◌≡◌, ℕ, ◌<◌, List, [], ◌∷◌, length, get_or, refl, sym, ◌∙◌, ap, inl, inr, ◌⊎◌, arith, Bool, true, false, zero, suc, subst, true≢false, ◌&&◌, ◌||◌, ◌==◌, cond, Option, Some, None}
use Rattle.std.specs.Prelude.{Contains, Decides, not, bytes_eq}
use Rattle.std.specs.Bool.{one_answer}
use Rattle.std.specs.List.{list_any}
use Rattle.std.proofs.lemmas.Bool.Decides.{Decides-and, Decides-eqb, Decides-like, Decides-or}
use Rattle.std.proofs.lemmas.Slice.Eq.{bytes_eq-Decides}
use Rattle.vt_path.specs.declared.pattern.Segment.{Segment}
use Rattle.vt_path.specs.Inner.{inner_of, kind_word}
use Rattle.vt_path.specs.InnerPattern.{is_inner_pattern}
use Rattle.vt_path.specs.declared.inner_path.InnerKind.TheVariants.{Body as BodyPath, Def as DefPath, Named as NamedPath}
use Rattle.vt_event.specs.declared.references.BlockRef.{BlockRef}
use Rattle.vt_event.specs.Pairs.{Pairs}
use Rattle.vt_reach.specs.Reach.{IsMet, Reaches}
use Rattle.vt_reach.specs.Reach.Reaches.{mentioned, by_body}
use Rattle.vt_reach.specs.declared.found.Row.{Row}
use Rattle.vt_reach.specs.declared.mention.Key.{Key}
use Rattle.vt_reach.specs.declared.mention.Key.TheVariants.{Function, Loop}
use Rattle.vt_reach.specs.declared.mention.Mention.{Mention}
use Rattle.vt_reach.specs.declared.mention.Mention.TheVariants.{Writes, WritesAny, Runs}
use Rattle.vt_run.specs.declared.role.Role.{Role}
use Rattle.vt_run.specs.declared.role.Role.TheVariants.{Plain, Named, Looped, Timed}
use Rattle.vt_run.specs.declared.start.Start.{Start}
use Rattle.vt_run.specs.declared.texts.Texts.{Texts}
use Rattle.vt_reached.specs.Fit.{FitsBody, FitsPath, FitsRole, IsFit, IsRow, MayPublish, rows_of_texts}
use Rattle.vt_meaning.specs.Laws.{MatchTestIsRight}
use Rattle.vt_meaning.specs.Leading.{MayIsOne, OpeningsFit, RenderedByReach, TextsActByReach, TextsLead, TextsReach, TextsTellReach}
use Rattle.vt_meaning.specs.ReachFunctions.{fit_of, fits_body, fits_key, fits_role, has_row, is_row, key_at, known_of, may_of, meets_mention, reaches_by, runs_key, same_key, same_path, writes_path}

-- Lists

in_cases : {X : Type 0} (x : X) (xs : List X) (y : X) → Contains (x ∷ xs) y → (x ≡ y) ⊎ Contains xs y
in_cases {X} x xs y h = one h.0 h.1 h.2
  where
    one : (k : ℕ) → k < length (x ∷ xs) → get_or (x ∷ xs) k y ≡ y → (x ≡ y) ⊎ Contains xs y
    one zero lt g = inl g
    one (suc k) lt g = inr (k, (omega arith), g)

in_first : {X : Type 0} (x : X) (xs : List X) → Contains (x ∷ xs) x
in_first x xs = (0, omega arith, refl)

in_rest : {X : Type 0} (x : X) (xs : List X) (y : X) → Contains xs y → Contains (x ∷ xs) y
in_rest x xs y h = (suc h.0, (let l = h.1 in omega arith), h.2)

never : {P : Type 0} → (P → ⊥) → Decides false P
never none = (λ e. absurd (true≢false (sym e)), λ p. absurd (none p))

always : {P : Type 0} → P → Decides true P
always p = (λ e. p, λ p. refl)

-- one of the list is so
abbrev Some_of : {X : Type 0} → (X → Type 0) → List X → Type 0
Some_of {X} P xs = (x : X) × Contains xs x × P x

any_right : {X : Type 0} (test : X → Bool) (P : X → Type 0) → ((x : X) → Decides (test x) (P x)) → (xs : List X) → Decides (list_any test xs) (Some_of P xs)
any_right test P each [] = never (λ h. let lt = h.1.1 in omega arith)
any_right {X} test P each (x ∷ xs) = Decides-like (test x || list_any test xs) forth back (Decides-or (test x) (list_any test xs) (each x) (any_right test P each xs))
  where
    forth : P x ⊎ Some_of P xs → Some_of P (x ∷ xs)
    forth (inl h) = (x, in_first x xs, h)
    forth (inr h) = (h.0, in_rest x xs h.0 h.1, h.2)

    back : Some_of P (x ∷ xs) → P x ⊎ Some_of P xs
    back h = elim (in_cases x xs h.0 h.1) [ inl same ↦ inl (subst P (sym same) h.2) | inr there ↦ inr (h.0, there, h.2) ]

-- Keys and paths

function_name : (a b : List ℕ) → ◌≡◌ {A = Key} (Function a) (Function b) → a ≡ b
function_name a b h = cc

loop_name : (a b : List ℕ) → ◌≡◌ {A = Key} (Loop a) (Loop b) → a ≡ b
loop_name a b h = cc

function_loop : (a b : List ℕ) → ◌≡◌ {A = Key} (Function a) (Loop b) → ⊥
function_loop a b h = cc

key_right : (key other : Key) → Decides (same_key key other) (key ≡ other)
key_right (Function name) (Function other) = Decides-like (bytes_eq name other) (λ e. ap (λ n. Function n) e) (function_name name other) (bytes_eq-Decides name other)
key_right (Function name) (Loop other) = never (function_loop name other)
key_right (Loop name) (Function other) = never (λ h. function_loop other name (sym h))
key_right (Loop name) (Loop other) = Decides-like (bytes_eq name other) (λ e. ap (λ n. Loop n) e) (loop_name name other) (bytes_eq-Decides name other)

-- the mention runs what this is a body of
abbrev IsRun : Option Key → Mention → Type 0
IsRun own mention = (key : Key) × (mention ≡ Runs key) × (own ≡ Some key)

no_key : (key : Key) → ◌≡◌ {A = Option Key} None (Some key) → ⊥
no_key key h = cc

one_key : (key other : Key) → ◌≡◌ {A = Option Key} (Some key) (Some other) → key ≡ other
one_key key other h = cc

one_run : (key other : Key) → ◌≡◌ {A = Mention} (Runs key) (Runs other) → key ≡ other
one_run key other h = cc

no_path : (path : List (List ℕ)) (key : Key) → ◌≡◌ {A = Mention} (Writes path) (Runs key) → ⊥
no_path path key h = cc

no_any : (key : Key) → ◌≡◌ {A = Mention} WritesAny (Runs key) → ⊥
no_any key h = cc

no_any_path : (path : List (List ℕ)) → ◌≡◌ {A = Mention} WritesAny (Writes path) → ⊥
no_any_path path h = cc

one_path : (path other : List (List ℕ)) → ◌≡◌ {A = Mention} (Writes path) (Writes other) → path ≡ other
one_path path other h = cc

run_right : (own : Option Key) (mention : Mention) → Decides (runs_key own mention) (IsRun own mention)
run_right (Some key) (Runs run) =
    Decides-like (same_key key run) (λ e. (run, refl, ap (λ k. Some k) e)) (λ h. one_key key h.0 h.2 ∙ sym (one_run run h.0 h.1)) (key_right key run)
run_right (Some key) (Writes path) = never (λ h. no_path path h.0 h.1)
run_right (Some key) WritesAny = never (λ h. no_any h.0 h.1)
run_right None (Runs run) = never (λ h. no_key h.0 h.2)
run_right None (Writes path) = never (λ h. no_key h.0 h.2)
run_right None WritesAny = never (λ h. no_key h.0 h.2)

-- it is a body of this
own_right : (own : Option Key) (key : Key) → Decides (runs_key own (Runs key)) (own ≡ Some key)
own_right own key = Decides-like (runs_key own (Runs key)) (λ h. h.2 ∙ ap (λ k. Some k) (sym (one_run key h.0 h.1))) (λ e. (key, refl, e)) (run_right own (Runs key))

first_same : (a b : List ℕ) (p q : List (List ℕ)) → a ∷ p ≡ b ∷ q → a ≡ b
first_same a b p q h = cc

rest_same : (a b : List ℕ) (p q : List (List ℕ)) → a ∷ p ≡ b ∷ q → p ≡ q
rest_same a b p q h = cc

not_nil : (a : List ℕ) (p : List (List ℕ)) → [] ≡ a ∷ p → ⊥
not_nil a p h = cc

path_right : (path other : List (List ℕ)) → Decides (same_path path other) (path ≡ other)
path_right [] [] = always refl
path_right [] (segment ∷ path) = never (not_nil segment path)
path_right (segment ∷ path) [] = never (λ h. not_nil segment path (sym h))
path_right (segment ∷ path) (other ∷ others) =
    Decides-like (bytes_eq segment other && same_path path others)
    (λ h. ap (λ s. s ∷ path) h.0 ∙ ap (λ l. other ∷ l) h.1)
    (λ h. (first_same segment other path others h, rest_same segment other path others h))
    (Decides-and (bytes_eq segment other) (same_path path others) (bytes_eq-Decides segment other) (path_right path others))

writes_right : (path : List (List ℕ)) (mention : Mention) → Decides (writes_path path mention) (mention ≡ Writes path)
writes_right path (Writes other) = Decides-like (same_path path other) (λ e. ap (λ p. Writes p) (sym e)) (λ h. sym (one_path other path h)) (path_right path other)
writes_right path WritesAny = never (no_any_path path)
writes_right path (Runs key) = never (λ h. no_path path key (sym h))

-- The search

-- in the reach of the block, through these bodies
abbrev Among : List Row → Row → Mention → Type 0
Among [] block mention = Contains block.mentions mention
Among (body ∷ bodies) block mention = Among bodies block mention ⊎ ((key : Key) × Among bodies block (Runs key) × (body.body_of ≡ Some key) × Among bodies body mention)

among_own : (bodies : List Row) (block : Row) (mention : Mention) → Contains block.mentions mention → Among bodies block mention
among_own [] block mention has = has
among_own (body ∷ bodies) block mention has = inl (among_own bodies block mention has)

-- a body that the block runs passes on what it reaches
among_body : (bodies : List Row) (block : Row) (key : Key) (body : Row) (mention : Mention) → Contains block.mentions (Runs key) → Contains bodies body → body.body_of ≡ Some key →
    Among bodies body mention → Among bodies block mention
among_body [] block key body mention runs there is h = absurd (let lt = there.1 in omega arith)
among_body (first ∷ bodies) block key body mention runs there is h = go (in_cases first bodies body there) h (λ other rest h. among_body bodies block key body other runs rest is h)
  where
    through : first ≡ body → Among bodies first mention → Among (first ∷ bodies) block mention
    through same h = inr (key, among_own bodies block (Runs key) runs, ap (λ (r : Row). r.body_of) same ∙ is, h)

    go : (first ≡ body) ⊎ Contains bodies body → Among (first ∷ bodies) body mention → ((other : Mention) → Contains bodies body → Among bodies body other → Among bodies block other) →
        Among (first ∷ bodies) block mention
    go (inl same) (inl h) on = through same (subst (λ (r : Row). Among bodies r mention) (sym same) h)
    go (inl same) (inr h) on = through same h.3
    go (inr rest) (inl h) on = inl (on mention rest h)
    go (inr rest) (inr h) on = inr (h.0, on (Runs h.0) rest h.1, h.2, h.3)

among_all : (rows : List Row) (block : Row) (mention : Mention) → Reaches rows block mention → Among rows block mention
among_all rows block mention (mentioned _ _ has) = among_own rows block mention has
among_all rows block mention (by_body _ key body _ runs there is h) = among_body rows block key body mention runs there is (among_all rows body mention h)

-- what is reached and run passes on what it reaches
reach_on : (rows : List Row) (block : Row) (run : Mention) (key : Key) (body : Row) (mention : Mention) → Reaches rows block run → run ≡ Runs key → Contains rows body → body.body_of ≡ Some key →
    Reaches rows body mention → Reaches rows block mention
reach_on rows block run key body mention (mentioned _ _ has) same there is h = by_body block key body mention (subst (Contains block.mentions) same has) there is h
reach_on rows block run key body mention (by_body _ other next _ runs near is_next h) same there is h' =
    by_body block other next mention runs near is_next (reach_on rows next run key body mention h same there is h')

among_reaches : (rows bodies : List Row) (block : Row) (mention : Mention) → ((body : Row) → Contains bodies body → Contains rows body) → Among bodies block mention → Reaches rows block mention
among_reaches rows [] block mention all h = mentioned block mention h
among_reaches rows (body ∷ bodies) block mention all h = go (λ from to. among_reaches rows bodies from to rest) h
  where
    rest : (other : Row) → Contains bodies other → Contains rows other
    rest other there = all other (in_rest body bodies other there)

    go : ((from : Row) (to : Mention) → Among bodies from to → Reaches rows from to) → Among (body ∷ bodies) block mention → Reaches rows block mention
    go on (inl h) = on block mention h
    go on (inr h) = reach_on rows block (Runs h.0) h.0 body mention (on block (Runs h.0) h.1) refl (all body (in_first body bodies)) h.2 (on body mention h.3)

-- something so is in the reach
abbrev Hits : List Row → Row → (Mention → Type 0) → Type 0
Hits bodies block P = (mention : Mention) × Among bodies block mention × P mention

hits_right : (bodies : List Row) (block : Row) (test : Mention → Bool) (P : Mention → Type 0) → ((mention : Mention) → Decides (test mention) (P mention)) → Decides (reaches_by bodies block test) (Hits bodies block P)
hits_right [] block test P each = any_right test P each block.mentions
hits_right (body ∷ bodies) block test P each =
    Decides-like (here || (runs && there)) forth back
    (Decides-or here (runs && there) (hits_right bodies block test P each)
    (Decides-and runs there (hits_right bodies block (λ mention. runs_key body.body_of mention) (IsRun body.body_of) (run_right body.body_of)) (hits_right bodies body test P each)))
  where
    here : Bool
    here = reaches_by bodies block test

    runs : Bool
    runs = reaches_by bodies block (λ mention. runs_key body.body_of mention)

    there : Bool
    there = reaches_by bodies body test

    forth : Hits bodies block P ⊎ (Hits bodies block (IsRun body.body_of) × Hits bodies body P) → Hits (body ∷ bodies) block P
    forth (inl h) = (h.0, inl h.1, h.2)
    forth (inr (r, h)) = (h.0, inr (r.2.0, subst (Among bodies block) r.2.1 r.1, r.2.2, h.1), h.2)

    back : Hits (body ∷ bodies) block P → Hits bodies block P ⊎ (Hits bodies block (IsRun body.body_of) × Hits bodies body P)
    back (mention, inl h, p) = inl (mention, h, p)
    back (mention, inr h, p) = inr ((Runs h.0, h.1, (h.0, refl, h.2)), (mention, h.3, p))

reaches_right : (rows : List Row) (block : Row) (test : Mention → Bool) (P : Mention → Type 0) → ((mention : Mention) → Decides (test mention) (P mention)) →
    Decides (reaches_by rows block test) ((mention : Mention) × Reaches rows block mention × P mention)
reaches_right rows block test P each =
    Decides-like (reaches_by rows block test) (λ h. (h.0, among_reaches rows rows block h.0 (λ body there. there) h.1, h.2)) (λ h. (h.0, among_all rows block h.0 h.1, h.2))
    (hits_right rows block test P each)

-- Patterns, starts and events

not_right : (b : Bool) → Decides (not b) (b ≡ false)
not_right true = never true≢false
not_right false = always refl

met_right : MatchTestIsRight → (pattern : List Segment) (mention : Mention) → Decides (meets_mention pattern mention) (IsMet pattern mention)
met_right right pattern (Writes path) = ((right pattern path).0, (right pattern path).1)
met_right right pattern WritesAny = not_right (is_inner_pattern pattern)
met_right right pattern (Runs key) = never (λ h. h)

row_right : (texts : Texts) (ref : BlockRef) (test : Row → Bool) (P : Row → Type 0) → ((row : Row) → Decides (test row) (P row)) → Decides (has_row texts ref test) ((row : Row) × IsRow texts ref row × P row)
row_right texts ref test P each =
    Decides-like (has_row texts ref test)
    (λ h. (h.0, record { among = h.1; of_text = h.2.0.0; of_block = h.2.0.1 }, h.2.1))
    (λ h. (h.0, h.1.among, ((h.1.of_text, h.1.of_block), h.2)))
    (any_right (λ row. is_row ref row && test row) (λ row. ((row.text ≡ ref.text) × (row.block ≡ ref.block)) × P row) one (rows_of_texts texts))
  where
    one : (row : Row) → Decides (is_row ref row && test row) (((row.text ≡ ref.text) × (row.block ≡ ref.block)) × P row)
    one row =
        Decides-and (is_row ref row) (test row)
        (Decides-and (row.text == ref.text) (row.block == ref.block) (Decides-eqb row.text ref.text) (Decides-eqb row.block ref.block)) (each row)

may_right : MatchTestIsRight → (texts : Texts) (start : Start) (pattern : List Segment) → Decides (may_of texts start pattern) (MayPublish texts start pattern)
may_right right texts start pattern =
    Decides-like (may_of texts start pattern) (λ h. (h.0, h.2.0, h.1, h.2.1, h.2.2)) (λ h. (h.0, h.2, (h.1, h.3, h.4)))
    (row_right texts start.block (λ row. reaches_by (rows_of_texts texts) row (meets_mention pattern)) (λ row. (mention : Mention) × Reaches (rows_of_texts texts) row mention × IsMet pattern mention)
    (λ row. reaches_right (rows_of_texts texts) row (meets_mention pattern) (IsMet pattern) (met_right right pattern)))

role_right : (role : Role) (row : Row) → Decides (fits_role role row) (FitsRole role row)
role_right Plain row = always tt
role_right (Named name) row =
    Decides-like (fits_role (Named name) row) (λ h. subst (Contains row.mentions) h.2 h.1) (λ h. (Writes (inner_of NamedPath name), h, refl))
    (any_right (writes_path (inner_of NamedPath name)) (λ mention. mention ≡ Writes (inner_of NamedPath name)) (writes_right (inner_of NamedPath name)) row.mentions)
role_right (Looped name wait init) row = own_right row.body_of (Loop name)
role_right (Timed rest given line) row = always tt

fit_right : (texts : Texts) (start : Start) → Decides (fit_of texts start) (IsFit texts start)
fit_right texts start =
    Decides-like (fit_of texts start) (λ h. record { row = h.0; of_texts = h.1; role = h.2 }) (λ h. (h.row, h.of_texts, h.role))
    (row_right texts start.block (fits_role start.role) (FitsRole start.role) (role_right start.role))

-- the path at which bodies of this key are told
abbrev IsTold : Option (List (List ℕ)) → Key → Type 0
IsTold path (Loop name) = path ≡ Some (inner_of BodyPath name)
IsTold path (Function name) = path ≡ Some (inner_of DefPath name)

told_at : (path : Option (List (List ℕ))) (key : Key) → IsTold path key → key_at path ≡ Some key
told_at path (Loop name) is = subst (λ p. key_at p ≡ Some (Loop name)) (sym is) refl
told_at path (Function name) is = subst (λ p. key_at p ≡ Some (Function name)) (sym is) refl

at_told : (path : Option (List (List ℕ))) (key : Key) → key_at path ≡ Some key → IsTold path key
at_told None key h = absurd (no_key key h)
at_told (Some []) key h = absurd (no_key key h)
at_told (Some (word ∷ [])) key h = absurd (no_key key h)
at_told (Some (word ∷ name ∷ more ∷ path)) key h = absurd (no_key key h)
at_told (Some (word ∷ name ∷ [])) key h = go (bytes_eq word (kind_word BodyPath)) (bytes_eq word (kind_word DefPath)) refl refl h
  where
    here : Option (List (List ℕ))
    here = Some (word ∷ name ∷ [])

    go : (body def : Bool) → bytes_eq word (kind_word BodyPath) ≡ body → bytes_eq word (kind_word DefPath) ≡ def → cond body (Some (Loop name)) (cond def (Some (Function name)) None) ≡ Some key → IsTold here key
    go true def is e h = subst (IsTold here) (one_key (Loop name) key h) (ap (λ w. Some (w ∷ name ∷ [])) ((bytes_eq-Decides word (kind_word BodyPath)).0 is))
    go false true is e h = subst (IsTold here) (one_key (Function name) key h) (ap (λ w. Some (w ∷ name ∷ [])) ((bytes_eq-Decides word (kind_word DefPath)).0 e))
    go false false is e h = absurd (no_key key h)

fits_right : (told own : Option Key) → Decides (fits_key told own) ((key : Key) → told ≡ Some key → own ≡ Some key)
fits_right None own = always (λ key h. absurd (no_key key h))
fits_right (Some key) own =
    Decides-like (runs_key own (Runs key)) (λ e other h. e ∙ h) (λ f. f key refl) (own_right own key)

path_fits : (path : Option (List (List ℕ))) (row : Row) → FitsPath path row → (key : Key) → IsTold path key → row.body_of ≡ Some key
path_fits path row fits (Loop name) is = fits.loop name is
path_fits path row fits (Function name) is = fits.function name is

fits_path_right : (path : Option (List (List ℕ))) (row : Row) → Decides (fits_key (key_at path) row.body_of) (FitsPath path row)
fits_path_right path row =
    Decides-like (fits_key (key_at path) row.body_of)
    (λ f. record { loop = λ name is. f (Loop name) (told_at path (Loop name) is); function = λ name is. f (Function name) (told_at path (Function name) is) })
    (λ fits key h. path_fits path row fits key (at_told path key h))
    (fits_right (key_at path) row.body_of)

body_right : (texts : Texts) (path : Option (List (List ℕ))) (body : Option (BlockRef × Pairs)) → Decides (fits_body texts path body) (FitsBody texts path body)
body_right texts path None = always tt
body_right texts path (Some body) = row_right texts body.0 (λ row. fits_key (key_at path) row.body_of) (FitsPath path) (fits_path_right path)

pub texts_tell_reach : MatchTestIsRight → TextsTellReach
texts_tell_reach right texts until = record {
  may = may_right right texts;
  fit = fit_right texts;
  known = λ event. body_right texts event.path event.body;
}

pub texts_act_by_reach : TextsTellReach → TextsReach → TextsActByReach
texts_act_by_reach tells reach texts until checked horizon = reach texts until (may_of texts) (fit_of texts) (known_of texts) checked horizon (tells texts until)

pub rendered_by_reach : TextsTellReach → TextsLead → OpeningsFit → RenderedByReach
rendered_by_reach tells lead opens key rendered =
    let told = tells key.texts key.options.until in
    record {
      rendered = rendered;
      leading = lead key.texts key.options.until (may_of key.texts) (fit_of key.texts) (known_of key.texts) rendered.checked rendered.horizon told;
      begun = opens key (may_of key.texts) (fit_of key.texts) (known_of key.texts) rendered told;
    }

pub may_is_one : MatchTestIsRight → MayIsOne
may_is_one right texts start pattern told tells = one_answer told (may_of texts start pattern) (tells.0, tells.1) (may_right right texts start pattern)
