-- A walk over the slots near a place: what the search for the next one tells of those that are still to come (`over`, `gives`).
use Rattle.std.specs.Prelude.{None, Some}
use Rattle.std.proofs.Common.{◌≡◌, ℕ, ◌+◌, ◌≤◌, [], ◌∷◌, ◌∙◌, arith}
use Rattle.rules.specs.Constants.{slot_count}
use Rattle.slots.proofs.Selecting.{select_in, select_none, select_skip}
use Rattle.tables.specs.View.{slot_at}
use Rattle.tables.specs.Places.{near, NextNear}
use Rattle.tables.specs.Walk.{near_from}
use Rattle.tables.specs.declared.Tables.{Tables}

module _ (t : Tables) (p from : ℕ) where
  pub over : from ≤ slot_count → NextNear p t from None → near_from t p from ≡ []
  over h n = select_none (λ s. near p (slot_at t s)) from slot_count h n

  pub gives : (s : ℕ) → NextNear p t from (Some s) → near_from t p from ≡ s ∷ near_from t p (s + 1)
  gives s n =
      select_skip (λ k. near p (slot_at t k)) slot_count from s n.0 (omega (arith, n.1)) n.2
      ∙ select_in (λ k. near p (slot_at t k)) s slot_count n.1 n.3
