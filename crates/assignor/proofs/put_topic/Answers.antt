-- The runs come first, and after them none, so that the entries are as many as a topic may have partitions. Assumes nothing.
use Rattle.std.proofs.Common.{ℕ, ◌-◌, ◌≤◌, arith, refl, ap, subst, List, [], ◌∷◌, ◌++◌, append-nil, length, take, drop}
use lib.ListN.{replicate}
use Rattle.rules.specs.Constants.{max_partitions, no_place}
use Rattle.rules.specs.Assignor.{padded, runs}
use Rattle.ranges.proofs.Runs.{padded_long, runs_most}
use Rattle.numbers.specs.Buffer.{Wrote}
use Rattle.numbers.proofs.Writing.{Writing, begin, over_whole, part_over, put_at_lem, ended}
use Rattle.assignor.proofs.put_topic.Goals as goal

abbrev Given : ℕ → List ℕ → List ℕ
Given n ps = runs n (length ps) 0 ps

few : (n : ℕ) (ps : List ℕ) → n ≤ max_partitions → length (Given n ps) ≤ max_partitions
few n ps h = omega (arith, runs_most n ps)

-- the runs are written
s₁ : (n : ℕ) (ps b buf : List ℕ) (r : ℕ) → n ≤ max_partitions → max_partitions ≤ length b → Wrote (Given n ps) b buf r
    → Writing (padded (Given n ps)) b buf r (replicate (max_partitions - length (Given n ps)) no_place ∷ [])
unfolding padded
s₁ n ps b buf r h m w =
    put_at_lem
    (begin (Given n ps ∷ replicate (max_partitions - length (Given n ps)) no_place ∷ []) _ _
    (ap (λ (l : List ℕ). Given n ps ++ l) (append-nil (replicate (max_partitions - length (Given n ps)) no_place)))
    (omega (arith, padded_long (Given n ps) (few n ps h))))
    (over_whole _ _ _ _ w)

pub overflow_sub-at : goal.overflow_sub-at
overflow_sub-at c = omega (arith, c.put_runs-at.ensures.count, few c.args.n c.args.subscribers.now c.requires.0)

pub slice_bounds-put_times-count : goal.slice_bounds-put_times-count
slice_bounds-put_times-count c =
    let n = few c.args.n c.args.subscribers.now c.requires.0 in
    omega (arith, c.put_runs-at.ensures.count, n)

pub slice_bounds-put_times-start : goal.slice_bounds-put_times-start
slice_bounds-put_times-start c =
    let n = few c.args.n c.args.subscribers.now c.requires.0 in
    omega (arith, c.put_runs-at.ensures.count, n)

pub returns : goal.returns
returns c =
    let a = c.args in
    let ps = a.subscribers.now in
    let r = c.put_runs-at in
    let t = c.put_times in
    let w : Wrote (replicate (max_partitions - length (Given a.n ps)) no_place) (take (length r.new.out - r.result) (drop r.result r.new.out)) t.new.out t.result =
    subst (λ (n : ℕ). Wrote (replicate (max_partitions - n) no_place) (take (length r.new.out - r.result) (drop r.result r.new.out)) t.new.out t.result) r.ensures.count t.ensures in
    ended (put_at_lem (s₁ a.n ps a.out.now r.new.out r.result c.requires.0 c.requires.1 r.ensures) (part_over _ _ _ _ _ w)) refl
