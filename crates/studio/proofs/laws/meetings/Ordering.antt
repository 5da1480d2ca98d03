-- The order of places and of meetings: a lower place passes the test, and the lesser of two meetings is the one that is named first.
use Rattle.std.specs.Prelude.{◌≡◌, refl, true, false, Some}
use Rattle.std.specs.Ordering.{ord_min}
use Rattle.basis.proofs.Names.{arith, rules, lt-ltb, le-ltb}
use Rattle.std.proofs.Common.{tests}
use Rattle.manual.specs.Places.{Place, mmx, integer, byte, zero_mark}
use Rattle.studio.specs.declared.Meeting as handed
use Rattle.studio.specs.contracts.MeetingOrd.TheImpl as order
use Rattle.studio.specs.Meetings.{paper_of_meeting}
use Rattle.studio.specs.Reasons.{Lower}
use Rattle.studio.specs.inner.Meetings.{is_lower, first_of}

pub lower_passes : (p q : Place) → Lower p q → (is_lower p q ≡ true) × (is_lower q p ≡ false)
lower_passes (mmx j) (mmx k) h = (lt-ltb j k h, le-ltb k j (omega arith))
lower_passes (mmx j) (integer k) h = (refl, refl)
lower_passes (mmx j) (byte k) h = (refl, refl)
lower_passes (mmx j) zero_mark h = (refl, refl)
lower_passes (integer j) (mmx k) h = absurd h
lower_passes (integer j) (integer k) h = (lt-ltb j k h, le-ltb k j (omega arith))
lower_passes (integer j) (byte k) h = (refl, refl)
lower_passes (integer j) zero_mark h = (refl, refl)
lower_passes (byte j) (mmx k) h = absurd h
lower_passes (byte j) (integer k) h = absurd h
lower_passes (byte j) (byte k) h = (lt-ltb j k h, le-ltb k j (omega arith))
lower_passes (byte j) zero_mark h = (refl, refl)
lower_passes zero_mark q h = absurd h

pub not_itself : (p : Place) → is_lower p p ≡ false
not_itself (mmx k) = le-ltb k k (omega arith)
not_itself (integer k) = le-ltb k k (omega arith)
not_itself (byte a) = le-ltb a a (omega arith)
not_itself zero_mark = refl

pub lesser_first : (a b : handed.Meeting)
    → paper_of_meeting (Some (ord_min order.cmp-value.it a b)) ≡ first_of (paper_of_meeting (Some a)) (paper_of_meeting (Some b))
lesser_first a b = search (rules, tests)
