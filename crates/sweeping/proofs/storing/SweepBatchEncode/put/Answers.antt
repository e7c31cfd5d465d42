use Rattle.std.proofs.Common.{ℕ, arith, List, [], ◌++◌, append-nil, refl, ap, ◌∙◌}
use Rattle.numbers.proofs.Writing.{begin, cut, room_at, put_at_lem, ended}
use Rattle.sweeping.proofs.Leaving.{bytes_in, sweep_bytes, left_next, all_written}
use Rattle.sweeping.proofs.storing.SweepBatchEncode.put.Goals as goal

pub loop-leaver-init : goal.loop-leaver-init
loop-leaver-init c = let s = c.args.self in begin _ _ _ (ap (λ (u : List ℕ). bytes_in s.going ++ u) (append-nil _) ∙ sweep_bytes s.going s.epoch) c.requires

pub put_at-at-requires : goal.put_at-at-requires
put_at-at-requires c = let l = c.loop-leaver in room_at (cut (left_next c.args.self.going l.leaver-index (omega arith)) l.invariant)

pub loop-leaver-preserved : goal.loop-leaver-preserved
loop-leaver-preserved c = let l = c.loop-leaver in put_at_lem (cut (left_next c.args.self.going l.leaver-index (omega arith)) l.invariant) c.put_at-at.ensures

pub put_at-requires : goal.put_at-requires
put_at-requires c = let l = c.loop-leaver in room_at (all_written c.args.self.going l.leaver-index (omega arith) l.invariant)

pub returns : goal.returns
returns c = let l = c.loop-leaver in ended {us = []} (put_at_lem (all_written c.args.self.going l.leaver-index (omega arith) l.invariant) c.put_at.ensures) refl
