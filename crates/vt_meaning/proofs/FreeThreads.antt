-- Who may write what has no part in the meaning: with every write allowed it is the same.
use Rattle.std.proofs.Common.{◌≡◌, ℕ, List, refl, true, Bool}
use Rattle.vt_event.specs.Event.{EventView}
use Rattle.vt_frac.specs.Fraction.{Fraction}
use Rattle.vt_run.specs.declared.start.Start.{Start}
use Rattle.vt_meaning.specs.Causal.{AgreeBelow, IsWithin, living, score}
use Rattle.vt_meaning.specs.Meaning.{ending_of}
use Rattle.vt_meaning.specs.Reach.{IsFedBy, IsReach}
use Rattle.vt_meaning.specs.ThreadLaws.{AreActs, IsSession}
use Rattle.vt_meaning.specs.ThreadMeaning.{ThreadMeaning}
use Rattle.vt_meaning.specs.Traces.{cost_in, standing, Thread, trace}
use Rattle.vt_meaning.specs.World.{Opening, total_of}

-- the meaning of threads with every write allowed
abbrev pub freely : ThreadMeaning → ThreadMeaning
freely m = record m { may = λ s q. true }

pub freely_means : (m : ThreadMeaning) (opening : Opening) → ending_of (freely m) opening ≡ ending_of m opening
unfolding ending_of total_of cost_in trace standing
freely_means m opening = refl

pub freely_score : (m : ThreadMeaning) (opening : Opening) (ws : List Thread) → score (freely m) opening ws ≡ score m opening ws
unfolding trace
freely_score m opening ws = refl

pub freely_living : (m : ThreadMeaning) (ws : List Thread) → living (freely m) ws ≡ living m ws
unfolding standing trace
freely_living m ws = refl

pub freely_total : (m : ThreadMeaning) (ws : List Thread) → total_of (freely m) ws ≡ total_of m ws
unfolding total_of cost_in trace
freely_total m ws = refl

by_back : (fit : Start → Bool) (known : EventView → Bool) (m : ThreadMeaning) (thread : Thread) (i : ℕ) → IsFedBy fit known (freely m) thread i → IsFedBy fit known m thread i
unfolding trace
by_back fit known m thread i f = record { begun = f.begun; told = f.told }

reach_freely : (m : ThreadMeaning) → IsReach m → IsReach (freely m)
unfolding trace
reach_freely m r =
    record {
      knows = λ t i x e q f d is matched. r.knows t i x e q (by_back m.fit m.known m t i f) d is matched;
      breeds = λ t i x p s f d is. r.breeds t i x p s (by_back m.fit m.known m t i f) d is;
      moves = λ t i x p n f d is. r.moves t i x p n (by_back m.fit m.known m t i f) d is;
      writes = λ t i x e q f d is h. refl;
      passes = λ t i x p s q f d is h. refl;
    }

acts_freely : (m : ThreadMeaning) → AreActs m → AreActs (freely m)
unfolding trace standing
acts_freely m a =
    record {
      short = a.short;
      longer = a.longer;
      further = a.further;
      stops = a.stops;
      placed = a.placed;
      costs = a.costs;
      later = a.later;
      named = a.named;
    }

pub session_freely : (m : ThreadMeaning) (opening : Opening) → IsSession m opening → IsSession (freely m) opening
session_freely m opening s =
    record {
      acts = record { acts = acts_freely m s.acts.acts; reach = reach_freely m s.acts.reach };
      orderly = s.orderly;
      given = s.given;
      texts = s.texts;
      known = record { starts = s.known.starts; given = s.known.given };
    }

pub within_freely : (m : ThreadMeaning) (opening : Opening) → IsWithin m opening → IsWithin (freely m) opening
unfolding trace
within_freely m opening w = record { horizon = w.horizon; starts = w.starts; given = w.given; spawns = w.spawns }

pub agree_freely : (t : Fraction) (fit : Start → Bool) (known : EventView → Bool) (m m' : ThreadMeaning) (opening opening' : Opening) → AgreeBelow t fit known m m' opening opening' → AgreeBelow t fit known (freely m) (freely m') opening opening'
unfolding trace standing
agree_freely t fit known m m' opening opening' g =
    record {
      horizon = g.horizon;
      starts = g.starts;
      given = g.given;
      early = g.early;
      heard = g.heard;
      same = λ a b i x y p st f al xd yd at lt. g.same a b i x y p st (by_back fit known m a i f) al xd yd at lt;
      knows = λ a i x e q f d is lt matched. g.knows a i x e q (by_back fit known m a i f) d is lt matched;
      breeds = λ a i x p s f d is lt. g.breeds a i x p s (by_back fit known m a i f) d is lt;
    }
