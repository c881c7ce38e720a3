-- The number of workers has no part in the meaning.
use Rattle.std.proofs.Common.{refl}
use Rattle.vt_meaning.specs.Laws.{WorkersDoNotMatter}
use Rattle.vt_meaning.specs.Meaning.{ending_of, meaning, meaning_by, score_of}

pub workers_do_not_matter : WorkersDoNotMatter
unfolding meaning meaning_by ending_of score_of
workers_do_not_matter key workers = refl
