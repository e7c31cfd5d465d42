use Rattle.std.proofs.Common.{ℕ, ◌+◌, ◌≤◌, ◌<◌, arith, ◌∙◌, List, [], ◌∷◌, append-nil, length, get_or, drop}
use lib.ListN.{replicate, length-replicate}
use Rattle.rules.specs.Assignor.{runs, share}
use Rattle.ranges.proofs.Runs.{runs_most}
use Rattle.numbers.proofs.Writing.{Writing, begin, cut, put_at_lem, part_over, room, ended}
use Rattle.assignor.proofs.Listing.{runs_end, runs_next}
use Rattle.assignor.proofs.put_runs.Goals as goal

start : (n : ℕ) (ps b : List ℕ) → n ≤ length b → Writing (runs n (length ps) 0 ps) b b 0 (runs n (length ps) 0 ps ∷ [])
start n ps b h = begin _ _ _ (append-nil _) (omega (arith, runs_most n ps))

-- the next subscriber's run comes next
turn : (n : ℕ) (ps b buf : List ℕ) (at i : ℕ) → i < length ps → Writing (runs n (length ps) 0 ps) b buf at (runs n (length ps) i (drop i ps) ∷ [])
    → Writing (runs n (length ps) 0 ps) b buf at (replicate (share n (length ps) i) (get_or ps i 0) ∷ runs n (length ps) (i + 1) (drop (i + 1) ps) ∷ [])
turn n ps b buf at i h s = cut (runs_next n (length ps) ps i h) s

pub returns-then-k-eq0 : goal.returns-then-k-eq0
returns-then-k-eq0 c =
    let a = c.args in
    let ps = a.subscribers.now in
    ended (start a.n ps a.out.now c.requires.1) (append-nil _ ∙ runs_end a.n (length ps) ps 0 (omega arith))

pub loop-i-init : goal.loop-i-init
loop-i-init c = let a = c.args in start a.n a.subscribers.now a.out.now c.requires.1

pub put_times-at-requires : goal.put_times-at-requires
unfolding share
put_times-at-requires c =
    let a = c.args in
    let ps = a.subscribers.now in
    let l = c.loop-i in
    let t = turn a.n ps a.out.now l.out l.at l.i (omega arith) l.invariant in
    omega (arith, room t, length-replicate (share a.n (length ps) l.i) (get_or ps l.i 0), c.share_of.ensures)

pub loop-i-preserved : goal.loop-i-preserved
unfolding share
loop-i-preserved c =
    let a = c.args in
    let l = c.loop-i in
    let t = turn a.n a.subscribers.now a.out.now l.out l.at l.i (omega arith) l.invariant in
    put_at_lem t (part_over _ _ _ _ _ (rw c.share_of.ensures at c.put_times-at.ensures))

pub returns : goal.returns
returns c =
    let a = c.args in
    let ps = a.subscribers.now in
    let l = c.loop-i in
    ended l.invariant (append-nil _ ∙ runs_end a.n (length ps) ps l.i (omega arith))
