-- Ticks of a reading: no time has passed since its own tick, and a session timeout since the tick at which the members of a removal were last heard.
use Prim.Native.Nat.{ℕ}
use native.Mathlib.Omega.{arith}
use mathlib.Core.Path.{◌≡◌}
use Rattle.rules.specs.Constants.{session_timeout}
use Rattle.rules.specs.Group.{elapsed}
use Rattle.rules.specs.Batches.{session_before}

pub none_elapsed : (t : ℕ) → elapsed t t ≡ 0
unfolding elapsed
none_elapsed t = omega arith

pub session_elapsed : (t : ℕ) → elapsed t (session_before t) ≡ session_timeout
unfolding elapsed session_before
session_elapsed t = omega arith
