-- What a caller learns from a search of the places: the answer's case says whether there is such a place, and the seat at the place where a member was found is
-- that member's.
use Rattle.std.specs.Prelude.{None, Some}
use Rattle.std.specs.Prelude as P
use Rattle.std.proofs.Common.{◌≡◌, ℕ, Bool, true, false, List, get_or, sym, refl, ap, ◌∙◌, subst}
use mathlib.Core.Option.{none, some}
use Rattle.rules.specs.Basics.{any, find}
use Rattle.rules.specs.Group.{is_member}
use Rattle.rules.specs.declared.Place.{Place}
use Rattle.rules.proofs.Lists.{find_holds, same_eq}
use Rattle.group.specs.Columns.{view_members, numbers_at, seat_at}
use Rattle.group.specs.declared.Seat.{Seat}
use Rattle.group.specs.View.{view_seat, seated}
use Rattle.group.specs.Searches.{Hit, Finds}
use Rattle.group.proofs.Columns.{seat_is, seat_there, seat_numbers}

-- ---- by the case of the answer

module _ {there : Bool} {r : P.Option Place} where
  pub hit : {place : ℕ} {p : Place} → r ≡ Some p → Finds there place r → Hit there place p.0
  hit {place} e f = subst (Finds there place) e f

  pub miss : (place : ℕ) → r ≡ None → Finds there place r → there ≡ false
  miss place e f = subst (Finds there place) e f

-- ---- the member that was found

somebody : (id : List ℕ) (r : P.Option Seat) → is_member id (view_seat r) ≡ true → (s : Seat) × (r ≡ Some s)
unfolding is_member
somebody id None h = cc
somebody id (Some s) h = (s, refl)

module _ (ms id : List ℕ) {p : ℕ} (h : Hit (any (is_member id) (view_members ms)) (find (is_member id) (view_members ms)) p) where
  found_id : is_member id (view_seat (seat_at ms p)) ≡ true
  found_id =
      ap (is_member id) (seat_is ms p ∙ ap (λ (q : ℕ). get_or (view_members ms) q none) (sym h.first))
      ∙ find_holds (is_member id) (view_members ms) none h.found

  -- a seat is there, and it has the numbers at the place
  pub found_used : seat_at ms p ≡ Some (numbers_at ms p)
  found_used = let s = somebody id (seat_at ms p) found_id in s.1 ∙ ap Some (seat_numbers ms p s.1)

  pub found_same : (numbers_at ms p).id ≡ id
  unfolding is_member
  found_same = same_eq (numbers_at ms p).id id (rw found_used at found_id)

  pub found_member : get_or (view_members ms) p none ≡ some (seated (numbers_at ms p))
  found_member = seat_there ms p found_used
