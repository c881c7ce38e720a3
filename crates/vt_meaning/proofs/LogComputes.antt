-- The example of a log computes.
use Rattle.std.proofs.Common.{refl}
use Rattle.vt_meaning.specs.Log.{after, next_piece}
use Rattle.vt_meaning.specs.LogExample.{LogExample}
use Rattle.vt_meaning.specs.Traces.{cost_in, standing, trace}
use Rattle.vt_meaning.specs.World.{total_of}

pub log_computes : LogExample
unfolding after next_piece standing trace total_of cost_in
log_computes = record {
  opens = refl;
  takes = refl;
  job = refl;
  one_job = refl;
  others_take = refl;
  publishes = refl;
  not_others = refl;
  costs = refl;
  puts_back = refl;
  over = refl;
}
