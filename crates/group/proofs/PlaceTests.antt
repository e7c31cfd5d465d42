-- Whoever is at a place, by the numbers that stand there: whether somebody is, and whether a sweep removes it. Assumes nothing.
use Rattle.std.specs.Prelude.{None, Some}
use Rattle.std.specs.Prelude as P
use Rattle.std.proofs.Common.{◌≡◌, ℕ, ◌<◌, Bool, true, false, not, ◌&&◌, ◌||◌, leb, List, get_or, sym, refl, ap, ◌∙◌, true≢false}
use mathlib.Core.Bool.{and-false, and-true, false≢true}
use mathlib.Core.Option.{Option, none, some}
use Rattle.rules.specs.Constants.{max_members, session_timeout}
use Rattle.rules.specs.Effects.{due}
use Rattle.rules.specs.Group as G
use Rattle.rules.specs.Group.{elapsed, includes_topic, subscribes, vacant}
use Rattle.search.specs.Places.{matches}
use Rattle.group.specs.Columns.{cell, numbers_at, seat_at, view_members}
use Rattle.group.specs.View.{view_seat, seated}
use Rattle.group.specs.Words.{all_zero}
use Rattle.group.specs.declared.Seat.{Seat}
use Rattle.group.proofs.Columns as C
use Rattle.group.proofs.Columns.{member_at_lem, seat_is, seat_there, seat_numbers}

pub nobody : (m : Option G.Member) → vacant m ≡ true → m ≡ none
unfolding vacant
nobody none e = refl
nobody (some m) e = absurd (false≢true e)

sits : (r : P.Option Seat) → vacant (view_seat r) ≡ false → (s : Seat) × (r ≡ Some s)
unfolding vacant
sits None e = absurd (true≢false e)
sits (Some s) e = (s, refl)

stands_empty : (r : P.Option Seat) → vacant (view_seat r) ≡ true → r ≡ None
unfolding vacant
stands_empty None e = refl
stands_empty (Some s) e = absurd (false≢true e)

-- whether the number at a place has a topic, and somebody is there
abbrev pub subscriber : ℕ → List ℕ → ℕ → Bool
subscriber t ms k = includes_topic t (numbers_at ms k).subscription && not (vacant (get_or (view_members ms) k none))

module _ (ms : List ℕ) (k : ℕ) where
  abbrev there : Option G.Member
  there = get_or (view_members ms) k none

  pub vacant_is : k < max_members → vacant there ≡ all_zero (cell ms 0 k) (cell ms 1 k) (cell ms 2 k) (cell ms 3 k)
  unfolding matches
  vacant_is h = ap vacant (member_at_lem ms k h) ∙ C.vacant_is ms k

  -- the seat that is gathered there
  pub seat_none : vacant there ≡ true → seat_at ms k ≡ None
  seat_none e = stands_empty (seat_at ms k) (ap vacant (seat_is ms k) ∙ e)

  pub seat_some : vacant there ≡ false → seat_at ms k ≡ Some (numbers_at ms k)
  seat_some e = let s = sits (seat_at ms k) (ap vacant (seat_is ms k) ∙ e) in s.1 ∙ ap Some (seat_numbers ms k s.1)

  -- whoever is there has the numbers that stand there
  pub somebody : vacant there ≡ false → there ≡ some (seated (numbers_at ms k))
  somebody e = seat_there ms k (seat_some e)

  pub subscriber_there : (t : ℕ) → subscribes t there ≡ subscriber t ms k
  unfolding subscribes
  subscriber_there t = go (vacant there) refl
    where
      go : (v : Bool) → vacant there ≡ v → subscribes t there ≡ (includes_topic t (numbers_at ms k).subscription && not v)
      go true e = ap (subscribes t) (nobody there e) ∙ sym (and-false (includes_topic t (numbers_at ms k).subscription))
      go false e = ap (subscribes t) (somebody e) ∙ sym (and-true (includes_topic t (numbers_at ms k).subscription))

  -- its clocks: not heard for the session timeout, or giving slots back for longer than its own timeout
  abbrev pub late : ℕ → Bool → Bool
  late tick revokes = let s = numbers_at ms k in leb session_timeout (elapsed tick s.heard) || (revokes && leb s.timeout (elapsed tick s.revoked_at))

  pub due_is : (tick : ℕ) (revokes : Bool) → due tick revokes there ≡ (late tick revokes && not (vacant there))
  unfolding due
  due_is tick revokes = go (vacant there) refl
    where
      go : (v : Bool) → vacant there ≡ v → due tick revokes there ≡ (late tick revokes && not v)
      go true e = ap (due tick revokes) (nobody there e) ∙ sym (and-false (late tick revokes))
      go false e = ap (due tick revokes) (somebody e) ∙ sym (and-true (late tick revokes))
