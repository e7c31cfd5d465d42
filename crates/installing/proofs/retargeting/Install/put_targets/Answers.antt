use Rattle.std.proofs.Common.{◌≡◌, ℕ, ◌+◌, ◌<◌, Bool, true, false, List, [], ◌∷◌, get_or, ◌∙◌, arith, append-nil}
use Rattle.rules.specs.Constants.{max_members}
use Rattle.rules.specs.Records.{bytes_of}
use Rattle.numbers.proofs.Writing.{Writing, cut, to_go₁, room, put_at_lem, part_over, ended}
use Rattle.installing.specs.Targets.{target_of, record_at}
use Rattle.events.proofs.Places.{places_from, places_end, bytes_at, bytes_end}
use Rattle.installing.proofs.Installs.{marked_next, unmarked_next}
use Rattle.installing.proofs.retargeting.Install.put_targets.Goals.{then-mark, else-mark}
use Rattle.installing.proofs.retargeting.Install.put_targets.Goals as goal

-- the record of a marked place comes next
turn : (marks : List Bool) (target : List ℕ) {w b buf : List ℕ} {at i : ℕ} → i < max_members → get_or marks i false ≡ true → Writing w b buf at (bytes_at (record_at marks target) (places_from i) ∷ [])
    → Writing w b buf at (bytes_of (target_of target i) ∷ bytes_at (record_at marks target) (places_from (i + 1)) ∷ [])
turn marks target {i = i} h e s = cut (marked_next marks target i h e) s

pub put_target-at-requires : goal.put_target-at-requires
put_target-at-requires c =
    let a = c.args in
    (omega arith, room (turn a.self.now.marks a.self.now.links.target.now (omega arith) c.if-mark.true c.loop-i.invariant))

pub overflow_add-at : goal.overflow_add-at
overflow_add-at c =
    let a = c.args in
    let s = turn a.self.now.marks a.self.now.links.target.now (omega arith) c.if-mark.true c.loop-i.invariant in
    omega (arith, to_go₁ s, s.fits, c.put_target-at.ensures.count)

pub loop-i-preserved : goal.loop-i-preserved
loop-i-preserved c =
    let a = c.args in
    let l = c.loop-i in
    let target = a.self.now.links.target.now in
    elim c.if-mark.branch [
      | then-mark w ↦ rw (w.buf-is, w.at-is) (put_at_lem (turn a.self.now.marks target (omega arith) w.if-mark.true l.invariant) (part_over _ _ _ _ _ w.put_target-at.ensures))
      | else-mark w ↦ rw (w.buf-is, w.at-is) (rw (unmarked_next a.self.now.marks target l.i (omega arith) w.if-mark.false) at l.invariant)
    ]

pub returns : goal.returns
returns c =
    let a = c.args in
    let l = c.loop-i in
    ended l.invariant (append-nil _ ∙ bytes_end (record_at a.self.now.marks a.self.now.links.target.now) (places_end l.i c.loop-i-test.false))
