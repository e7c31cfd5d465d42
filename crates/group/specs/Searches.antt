-- What a search of the places says.
use Rattle.std.specs.Prelude.{◌≡◌, ℕ, ◌<◌, Bool, true, false, Option, None, Some}
use Rattle.rules.specs.Constants.{max_members}
use Rattle.rules.specs.declared.Place.{Place}

-- a place of the group at which the search ended
pub record Hit (there : Bool) (place p : ℕ) : Type 0 where
  pub found : there ≡ true
  pub first : place ≡ p
  pub below : p < max_members

-- `there`: some place passes; `place`: the first that does
abbrev pub Finds : Bool → ℕ → Option Place → Type 0
Finds there place None = there ≡ false
Finds there place (Some p) = Hit there place p.0
