-- What follows where a row of the table does not apply. Assumes nothing.
use Rattle.std.specs.Prelude.{if◌then◌else◌}
use Rattle.std.proofs.Common.{◌≡◌, ℕ, suc, ◌<◌, ◌≤◌, Bool, true, false, ◌&&◌, leb, List, refl, arith, ltb-false, lt-ltb, leb-false}
use borrow.Author.Tests.{eqb-false}
use Rattle.rules.specs.Constants.{topic_count, max_partitions, last_epoch}
use Rattle.rules.specs.Group.{Group, raised}
use Rattle.rules.specs.Refusals.{topic_bad}
use Rattle.rules.proofs.Lists.{or_false}

-- 1007: the number is one of a topic, and the count is one that a topic may have
pub topic_good : (g : Group) (t : ℕ) (id : List ℕ) (n : ℕ) → topic_bad g t id n ≡ false → (t < topic_count) × (1 ≤ n) × (n ≤ max_partitions)
unfolding topic_bad
topic_good g t id n h =
    let a = or_false _ _ h in
    let b = or_false _ _ a.1 in
    let d = or_false _ _ b.1 in
    let p = leb-false topic_count t a.0 in
    let q = eqb-false n 0 b.0 in
    let r = ltb-false max_partitions n d.0 in
    (omega arith, omega arith, omega arith)

-- 1002: an epoch that is not the largest rises by one
pub raised_below : (e : ℕ) → leb last_epoch e ≡ false → raised e ≡ suc e
unfolding raised
raised_below e h = rw (lt-ltb e last_epoch (leb-false last_epoch e h))

-- and so where it rises only sometimes
pub raised_if : (raises : Bool) (e : ℕ) → (raises && leb last_epoch e) ≡ false → (if raises then raised e else e) ≡ (if raises then suc e else e)
raised_if true e h = raised_below e h
raised_if false e h = refl
