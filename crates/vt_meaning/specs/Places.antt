-- One place of a session before another: after FARM 2014 for the time, the rest own.
use Rattle.std.specs.Prelude.{◌≡◌, ◌⊎◌, Bool}
use Rattle.std.specs.declared.cmp.Ordering.TheVariants.{Less}
use Rattle.std.specs.Ordering.{is_lt}
use Rattle.vt_frac.specs.Fraction.{Fraction}
use Rattle.vt_frac.specs.Order.{order_of}
use Rattle.vt_event.specs.declared.place.Place.{Place}
use Rattle.vt_event.specs.Order.{IsBefore, place_order}

-- a place stands before another
unfoldable pub Before : Place → Place → Type 0
Before place other = IsBefore place other

-- the same, as a test
unfoldable pub is_before : Place → Place → Bool
is_before place other = is_lt (place_order place other)

-- a place is another one, or stands before it
unfoldable pub Upto : Place → Place → Type 0
Upto place other = (place ≡ other) ⊎ Before place other

-- a time is earlier than another: times are ordered by their values
unfoldable pub Earlier : Fraction → Fraction → Type 0
Earlier time other = order_of time other ≡ Less

-- the same, as a test
unfoldable pub is_earlier : Fraction → Fraction → Bool
is_earlier time other = is_lt (order_of time other)

-- a time is another one, or earlier
unfoldable pub NoLater : Fraction → Fraction → Type 0
NoLater time other = (time ≡ other) ⊎ Earlier time other
