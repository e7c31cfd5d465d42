-- Tables that change entry by entry.
use Rattle.std.specs.Prelude.{ℕ, ◌<◌, ◌≡◌, List, length, get_or}

-- each entry is what f makes of its place and of what it was
pub record Replaces (f : ℕ → ℕ → ℕ) (l l' : List ℕ) : Type 0 where
  pub size : length l' ≡ length l
  pub is : (k : ℕ) → k < length l → get_or l' k 0 ≡ f k (get_or l k 0)
