-- The place of a number, where there is one.
use Rattle.std.proofs.Common.{◌≡◌, ℕ, ◌≤◌, ◌<◌, OkIff, Result, Ok, Err, None, Some, arith}
use Rattle.std.specs.Result.{result_ok}
use Rattle.rules.specs.Constants.{max_members}
use Rattle.rules.specs.declared.Place.{Place}
use Rattle.rules.specs.declared.NoPlace.{NoPlace}

pub place_of : (n : ℕ) (r : Result Place NoPlace) → OkIff r (n < max_members) (record { 0 = n }) → (p : Place) → Some p ≡ result_ok r → (p.0 ≡ n) × (n < max_members)
place_of n (Ok q) h p e = let same : p.0 ≡ n = cc in (same, h.0)
place_of n (Err x) h p e = cc

pub no_place_of : (n : ℕ) (r : Result Place NoPlace) → OkIff r (n < max_members) (record { 0 = n }) → None ≡ result_ok r → max_members ≤ n
no_place_of n (Ok q) h e = cc
no_place_of n (Err x) h e = omega (arith, h)
