-- The threads of the opening world are those of the good texts below the horizon.
use Rattle.std.proofs.Common.{◌≡◌, ℕ, ◌+◌, ◌<◌, List, [], ◌∷◌, ◌++◌, length, map, get_or, refl, sym, ◌∙◌, ap, inl, inr, ◌⊎◌, arith, Bool, true, false, zero, suc, subst, Option, Some, None}
use Rattle.std.specs.Prelude.{Contains, slice_get, cond}
use Rattle.vt_frac.specs.Fraction.{Fraction}
use Rattle.vt_tree.specs.declared.statement.Block.{Block}
use Rattle.vt_run.specs.declared.texts.Texts.{Texts}
use Rattle.vt_run.specs.declared.texts.Verdict.{Verdict}
use Rattle.vt_run.specs.declared.texts.Verdict.TheVariants.{Good, Bad}
use Rattle.vt_run.specs.Actions.{is_past}
use Rattle.vt_run.specs.RenderLimits.{OptionsView}
use Rattle.vt_run.specs.TextStarts.{text_start}
use Rattle.vt_run.specs.Threads.{text_at}
use Rattle.vt_meaning.specs.Laws.{IsTextThread, OpeningThreadsAreOfTexts}
use Rattle.vt_meaning.specs.Session.{of_texts, start_of, opening_of}
use Rattle.vt_meaning.specs.Traces.{Thread}
use Rattle.vt_meaning.specs.World.{begun, opening_world}

none_some : {A : Type 0} {x : A} → ◌≡◌ {A = Option A} None (Some x) → ⊥
none_some h = cc

contains_cons : (x : Thread) (xs : List Thread) (y : Thread) → Contains (x ∷ xs) y → (x ≡ y) ⊎ Contains xs y
contains_cons x xs y h = one h.0 h.1 h.2
  where
    one : (k : ℕ) → k < length (x ∷ xs) → get_or (x ∷ xs) k y ≡ y → (x ≡ y) ⊎ Contains xs y
    one zero lt g = inl g
    one (suc k) lt g = inr (k, (omega arith), g)

contains_there : (x : Thread) (xs : List Thread) (y : Thread) → Contains xs y → Contains (x ∷ xs) y
contains_there x xs y h = (suc h.0, (let l = h.1 in omega arith), h.2)

module _ (options : OptionsView) where
  abbrev threads_from : ℕ → Texts → List Thread
  threads_from number texts = map begun (of_texts options.until (start_of options) number texts)

  -- of these texts, which are numbered from this number, the one at `at` has this thread
  record IsOfText (number : ℕ) (texts : Texts) (thread : Thread) : Type 0 where
    at : ℕ
    time : Fraction
    tree : Block
    text : slice_get texts at ≡ Some (time, Good tree)
    below : is_past options.until time ≡ false
    fresh : thread ≡ begun (text_start (number + at) time options)

  later : (number : ℕ) (text : Fraction × Verdict) (texts : Texts) (thread : Thread) → IsOfText (number + 1) texts thread → IsOfText number (text ∷ texts) thread
  later number text texts thread of = record {
    at = suc of.at;
    time = of.time;
    tree = of.tree;
    text = of.text;
    below = of.below;
    fresh = of.fresh ∙ ap (λ n. begun (text_start n of.time options)) (omega arith);
  }

  of_text : (number : ℕ) (texts : Texts) (thread : Thread) → Contains (threads_from number texts) thread → IsOfText number texts thread
  of_text number [] thread h = absurd (let z = h.1 in omega arith)
  of_text number ((time, verdict) ∷ texts) thread h = go (of_text (number + 1) texts thread) (is_past options.until time) refl verdict h
    where
      go : (Contains (threads_from (number + 1) texts) thread → IsOfText (number + 1) texts thread) → (past : Bool) → is_past options.until time ≡ past → (verdict : Verdict) →
          Contains (map begun (cond past [] (start_of options number time verdict) ++ of_texts options.until (start_of options) (number + 1) texts)) thread → IsOfText number ((time, verdict) ∷ texts) thread
      go rest true e verdict h = later number (time, verdict) texts thread (rest h)
      go rest false e (Bad kind line) h = later number (time, Bad kind line) texts thread (rest h)
      go rest false e (Good tree) h =
          elim (contains_cons (begun (text_start number time options)) (threads_from (number + 1) texts) thread h) [
            | inl same ↦
                record {
                  at = 0;
                  time = time;
                  tree = tree;
                  text = refl;
                  below = e;
                  fresh = sym same ∙ ap (λ n. begun (text_start n time options)) (omega arith);
                }
            | inr further ↦ later number (time, Good tree) texts thread (rest further)
          ]

  listed : (number : ℕ) (texts : Texts) (k : ℕ) (time : Fraction) (tree : Block) → slice_get texts k ≡ Some (time, Good tree) → is_past options.until time ≡ false →
      Contains (threads_from number texts) (begun (text_start (number + k) time options))
  listed number [] k time tree text below = absurd (none_some text)
  listed number (first ∷ texts) zero time tree text below =
      let same : first ≡ (time, Good tree) = cc in
      subst (λ t. Contains (threads_from number (t ∷ texts)) (begun (text_start (number + 0) time options))) (sym same)
      (subst (λ past. Contains (map begun (cond past [] (text_start number time options ∷ []) ++ of_texts options.until (start_of options) (number + 1) texts)) (begun (text_start (number + 0) time options))) (sym below)
      (0, omega arith, ap (λ n. begun (text_start n time options)) (omega arith)))
  listed number ((at, verdict) ∷ texts) (suc k) time tree text below =
      let n : (number + 1) + k ≡ number + suc k = omega arith in
      go (is_past options.until at) verdict (subst (λ m. Contains (threads_from (number + 1) texts) (begun (text_start m time options))) n (listed (number + 1) texts k time tree text below))
    where
      go : (past : Bool) (verdict : Verdict) → Contains (threads_from (number + 1) texts) (begun (text_start (number + suc k) time options)) →
          Contains (map begun (cond past [] (start_of options number at verdict) ++ of_texts options.until (start_of options) (number + 1) texts)) (begun (text_start (number + suc k) time options))
      go true verdict h = h
      go false (Bad kind line) h = h
      go false (Good tree) h = contains_there (begun (text_start number at options)) (threads_from (number + 1) texts) _ h

pub opening_threads_are_of_texts : OpeningThreadsAreOfTexts
opening_threads_are_of_texts key thread = (forth, back)
  where
    forth : Contains (opening_world (opening_of key)) thread → IsTextThread key thread
    forth h =
        let of = of_text key.options 1 key.texts thread h in
        record {
          number = suc of.at;
          time = of.time;
          tree = of.tree;
          text = of.text;
          below = of.below;
          fresh = of.fresh ∙ ap (λ n. begun (text_start n of.time key.options)) (omega arith);
        }

    numbered : (number : ℕ) (time : Fraction) (tree : Block) → text_at key.texts number ≡ Some (time, Good tree) → is_past key.options.until time ≡ false →
        Contains (opening_world (opening_of key)) (begun (text_start number time key.options))
    numbered zero time tree text below = absurd (none_some text)
    numbered (suc k) time tree text below =
        let n : 1 + k ≡ suc k = omega arith in
        subst (λ m. Contains (opening_world (opening_of key)) (begun (text_start m time key.options))) n (listed key.options 1 key.texts k time tree text below)

    back : IsTextThread key thread → Contains (opening_world (opening_of key)) thread
    back of = subst (Contains (opening_world (opening_of key))) (sym of.fresh) (numbered of.number of.time of.tree of.text of.below)
