use Rattle.std.proofs.Common.{ℕ, ◌+◌, ◌<◌, min, arith, ◌≡◌, ◌∙◌, List, [], ◌∷◌, append-nil, length, get_or, take}
use Rattle.rules.specs.Constants.{max_partitions, topic_count}
use Rattle.rules.specs.Assignor.{padded, runs}
use Rattle.numbers.specs.Buffer.{Wrote}
use Rattle.numbers.proofs.Writing.{Writing, begin, cut, to_go₁, room, put_at_lem, part_over, ended}
use Rattle.assignor.specs.Shares.{all_entries, among, entries_of}
use Rattle.assignor.proofs.Assigning.{From, all_long, entries_long, from_end, from_next, from_start, wrote_all}
use Rattle.assignor.proofs.put_topics.Goals as goal

module _ (order subscriptions counts : List ℕ) where
  -- the next topic's entries come next
  turn : (b buf : List ℕ) (at t : ℕ) → t < topic_count → Writing (all_entries order subscriptions counts) b buf at (From order subscriptions counts t ∷ [])
      → Writing (all_entries order subscriptions counts) b buf at (entries_of order subscriptions counts t ∷ From order subscriptions counts (t + 1) ∷ [])
  turn b buf at t h s = cut (from_next order subscriptions counts t h) s

  -- they are written
  stored : (list b b' : List ℕ) (t k n r : ℕ) → n ≡ min (get_or counts t 0) max_partitions → take k list ≡ among order subscriptions t
      → Wrote (padded (runs n (length (take k list)) 0 (take k list))) b b' r → Wrote (entries_of order subscriptions counts t) b b' r
  unfolding entries_of
  stored list b b' t k n r e f w = rw (e, f) at w

pub loop-t-init : goal.loop-t-init
loop-t-init c =
    let a = c.args in
    begin _ _ _ (append-nil _ ∙ from_start a.order.now a.subscriptions.now a.counts.now) (omega (arith, all_long a.order.now a.subscriptions.now a.counts.now))

pub put_topic-at-requires : goal.put_topic-at-requires
put_topic-at-requires c =
    let a = c.args in
    let l = c.loop-t in
    let s = turn a.order.now a.subscriptions.now a.counts.now a.out.now l.out l.at l.t (omega arith) l.invariant in
    (omega (arith, c.partitions_of-n.ensures), omega (arith, room s, entries_long a.order.now a.subscriptions.now a.counts.now l.t))

pub overflow_add-at : goal.overflow_add-at
overflow_add-at c =
    let a = c.args in
    let l = c.loop-t in
    let k = c.list_subscribers-k in
    let s = turn a.order.now a.subscriptions.now a.counts.now a.out.now l.out l.at l.t (omega arith) l.invariant in
    let p = stored a.order.now a.subscriptions.now a.counts.now k.new.list _ _ l.t k.result _ _ c.partitions_of-n.ensures k.ensures.front c.put_topic-at.ensures in
    omega (arith, to_go₁ s, s.fits, p.count)

pub loop-t-preserved : goal.loop-t-preserved
loop-t-preserved c =
    let a = c.args in
    let l = c.loop-t in
    let k = c.list_subscribers-k in
    let s = turn a.order.now a.subscriptions.now a.counts.now a.out.now l.out l.at l.t (omega arith) l.invariant in
    let p = stored a.order.now a.subscriptions.now a.counts.now k.new.list _ _ l.t k.result _ _ c.partitions_of-n.ensures k.ensures.front c.put_topic-at.ensures in
    put_at_lem s (part_over _ _ _ _ _ p)

pub returns : goal.returns
returns c =
    let a = c.args in
    let l = c.loop-t in
    wrote_all (ended l.invariant (append-nil _ ∙ from_end a.order.now a.subscriptions.now a.counts.now l.t (omega arith)))
    (omega (arith, all_long a.order.now a.subscriptions.now a.counts.now))
