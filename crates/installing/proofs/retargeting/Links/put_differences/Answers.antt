use Rattle.std.proofs.Common.{◌≡◌, ◌+◌, ◌-◌, [], ◌∷◌, refl, sym, ap, ◌∙◌, arith, append-nil}
use Rattle.rules.specs.Basics.{keep, up_to}
use Rattle.rules.specs.Constants.{slot_count}
use Rattle.rules.specs.Group.{set_m}
use Rattle.rules.specs.Records.{number, differences}
use Rattle.numbers.proofs.Writing.{Writing, begin, room_at, put_at_lem, ended}
use Rattle.records.proofs.Differences.{run_next}
use Rattle.installing.specs.Targets.{unheld}
use Rattle.installing.specs.Links.{is_of, slots_from}
use Rattle.installing.proofs.Linking.{skip_to, set_from}
use Rattle.installing.proofs.retargeting.Links.put_differences.Goals.{In-loop-slot}
use Rattle.installing.proofs.retargeting.Links.put_differences.Goals as goal

-- inside the loop the difference of `slot` comes next
turn : (c : In-loop-slot) → let a = c.args in let l = c.loop-slot in let target = a.self.now.target.now in
    Writing (differences 0 (set_m a.p.0 (unheld target))) a.buf.now l.buf l.at (number (l.slot - l.last) ∷ differences l.slot (slots_from target a.p.0 (l.slot + 1)) ∷ [])
turn c =
    let l = c.loop-slot in
    run_next (is_of c.args.self.now.target.now c.args.p.0) l.last l.slot slot_count (omega arith) (l.invariant.own (omega arith)) l.invariant.writing

pub loop-slot-init : goal.loop-slot-init
loop-slot-init c =
    let a = c.args in
    let f = a.self.now.linked in
    let n = f.first a.p.0 c.requires.0 in
    record {
      most = n.1;
      rising = omega arith;
      own = n.3;
      writing = begin _ _ _ (append-nil _ ∙ ap (differences 0) (sym (set_from a.self.now.target.now a.p.0 f.whole n))) c.requires.1;
    }

pub put_at-at-requires : goal.put_at-at-requires
put_at-at-requires c = room_at (turn (goal.at.put_at-at-requires c).In-loop-slot)

pub loop-slot-preserved : goal.loop-slot-preserved
loop-slot-preserved c =
    let a = c.args in
    let l = c.loop-slot in
    let target = a.self.now.target.now in
    let n = a.self.now.linked.next a.p.0 c.requires.0 l.slot (omega arith) (omega arith) (l.invariant.own (omega arith)) in
    let w = put_at_lem (turn (goal.at.loop-slot-preserved c).In-loop-slot) c.put_at-at.ensures in
    record {
      most = n.1;
      rising = omega (arith, n.0);
      own = n.3;
      writing = rw (skip_to target a.p.0 n) at w;
    }

pub returns : goal.returns
unfolding differences keep up_to
returns c =
    let l = c.loop-slot in
    let e : l.slot ≡ slot_count = omega arith in
    ended (rw e at l.invariant.writing) refl
