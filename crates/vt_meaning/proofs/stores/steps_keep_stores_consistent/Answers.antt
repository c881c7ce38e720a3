use Rattle.vt_meaning.proofs.StepLaws.{acts_lawful, acts_live}
use Rattle.vt_meaning.proofs.OneMoreStep.{step_kept}
use Rattle.vt_meaning.proofs.PublishedPieces.{piece_kept}
use Rattle.vt_meaning.proofs.PieceEvents.{events_published, total_published}
use Rattle.vt_meaning.proofs.stores.steps_keep_stores_consistent.Goals as goal

pub returns : goal.returns
returns c =
    record {
      step = λ m opening s these consistent i t p has e. (((acts_live m s.acts.acts).grows t p (consistent.exact i t has) e).0, step_kept m (acts_lawful m s.acts) (acts_live m s.acts.acts) opening s.known s.orderly these consistent i t p has e);
      piece = λ m opening s these consistent k i t has w e n. piece_kept m s.acts opening s.known s.orderly k these consistent i t has w e n;
      added = λ m opening s these i t t' w h e. (events_published m (acts_live m s.acts.acts) opening these i t t' w h e, total_published m (acts_live m s.acts.acts) these i t t' w h e);
    }
