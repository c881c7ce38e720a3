-- The reach of the blocks of texts as functions, by which the theory of stores asks for it: own.
use Rattle.std.specs.Prelude.{ℕ, List, [], ◌∷◌, Bool, true, false, ◌&&◌, ◌||◌, ◌==◌, cond, not, bytes_eq, Option, Some, None}
use Rattle.std.specs.List.{list_any}
use Rattle.vt_path.specs.declared.pattern.Segment.{Segment}
use Rattle.vt_path.specs.Inner.{inner_of, kind_word}
use Rattle.vt_path.specs.InnerPattern.{is_inner_pattern}
use Rattle.vt_path.specs.declared.inner_path.InnerKind.TheVariants.{Body as BodyPath, Def as DefPath, Named as NamedPath}
use Rattle.vt_event.specs.declared.references.BlockRef.{BlockRef}
use Rattle.vt_event.specs.Event.{EventView}
use Rattle.vt_event.specs.Pairs.{Pairs}
use Rattle.vt_reach.specs.declared.found.Row.{Row}
use Rattle.vt_reach.specs.declared.mention.Key.{Key}
use Rattle.vt_reach.specs.declared.mention.Key.TheVariants.{Function, Loop}
use Rattle.vt_reach.specs.declared.mention.Mention.{Mention}
use Rattle.vt_reach.specs.declared.mention.Mention.TheVariants.{Writes, WritesAny, Runs}
use Rattle.vt_run.specs.declared.role.Role.{Role}
use Rattle.vt_run.specs.declared.role.Role.TheVariants.{Plain, Named, Looped, Timed}
use Rattle.vt_run.specs.declared.start.Start.{Start}
use Rattle.vt_run.specs.declared.texts.Texts.{Texts}
use Rattle.vt_reached.specs.Fit.{rows_of_texts}
use Rattle.vt_meaning.specs.LookUps.{matches_path}

abbrev pub same_key : Key → Key → Bool
same_key (Function name) (Function other) = bytes_eq name other
same_key (Function name) (Loop other) = false
same_key (Loop name) (Function other) = false
same_key (Loop name) (Loop other) = bytes_eq name other

-- what is run is what this is a body of
abbrev pub runs_key : Option Key → Mention → Bool
runs_key (Some key) (Runs run) = same_key key run
runs_key _ _ = false

-- A mention that the test takes is in the reach of the block through these bodies: it is reached without the first of them, or that one is run by what is reached without it, and reaches the mention without itself.
abbrev pub reaches_by : List Row → Row → (Mention → Bool) → Bool
reaches_by [] block test = list_any test block.mentions
reaches_by (body ∷ bodies) block test = reaches_by bodies block test || (reaches_by bodies block (λ mention. runs_key body.body_of mention) && reaches_by bodies body test)

-- the pattern matches the path that is written, or it may
abbrev pub meets_mention : List Segment → Mention → Bool
meets_mention pattern (Writes path) = matches_path pattern path
meets_mention pattern WritesAny = not (is_inner_pattern pattern)
meets_mention pattern (Runs key) = false

-- the row is that of the block that is meant
abbrev pub is_row : BlockRef → Row → Bool
is_row ref row = (row.text == ref.text) && (row.block == ref.block)

-- the block that is meant is one of the texts, and passes the test
abbrev pub has_row : Texts → BlockRef → (Row → Bool) → Bool
has_row texts ref test = list_any (λ row. is_row ref row && test row) (rows_of_texts texts)

-- what a thread that starts so, and all that it leads to, may publish
abbrev pub may_of : Texts → Start → List Segment → Bool
may_of texts start pattern = has_row texts start.block (λ row. reaches_by (rows_of_texts texts) row (meets_mention pattern))

abbrev pub same_path : List (List ℕ) → List (List ℕ) → Bool
same_path [] [] = true
same_path [] (segment ∷ path) = false
same_path (segment ∷ path) [] = false
same_path (segment ∷ path) (other ∷ others) = bytes_eq segment other && same_path path others

abbrev pub writes_path : List (List ℕ) → Mention → Bool
writes_path path (Writes other) = same_path path other
writes_path path _ = false

-- the block of a thread fits its part
abbrev pub fits_role : Role → Row → Bool
fits_role Plain row = true
fits_role (Named name) row = list_any (writes_path (inner_of NamedPath name)) row.mentions
fits_role (Looped name wait init) row = runs_key row.body_of (Runs (Loop name))
fits_role (Timed rest given line) row = true

-- a start that the texts can lead to
abbrev pub fit_of : Texts → Start → Bool
fit_of texts start = has_row texts start.block (fits_role start.role)

-- the live loop or the function whose bodies are told at the path
abbrev pub key_at : Option (List (List ℕ)) → Option Key
key_at (Some (word ∷ name ∷ [])) =
    cond (bytes_eq word (kind_word BodyPath)) (Some (Loop name)) (cond (bytes_eq word (kind_word DefPath)) (Some (Function name)) None)
key_at _ = None

-- a body that is told there is one of that
abbrev pub fits_key : Option Key → Option Key → Bool
fits_key None own = true
fits_key (Some key) own = runs_key own (Runs key)

-- a block that an event carries is of these texts, and fits the event's path
abbrev pub fits_body : Texts → Option (List (List ℕ)) → Option (BlockRef × Pairs) → Bool
fits_body texts path None = true
fits_body texts path (Some body) = has_row texts body.0 (λ row. fits_key (key_at path) row.body_of)

-- an event that the texts can lead to
abbrev pub known_of : Texts → EventView → Bool
known_of texts event = fits_body texts event.path event.body
