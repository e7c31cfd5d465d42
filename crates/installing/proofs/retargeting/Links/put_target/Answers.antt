-- The front of the record, with the number of slots that was linked, then the differences in the part of the buffer after it.
use Rattle.std.proofs.Common.{[], ◌∷◌, get_or, refl, arith}
use Rattle.rules.specs.Group.{set_m}
use Rattle.rules.specs.Records.{differences, bytes_of}
use Rattle.numbers.proofs.Writing.{Writing, begin, first, next, to_go, in_range_lem, room, room₀, ended}
use Rattle.records.specs.Fields.{target_front}
use Rattle.records.proofs.Parts.{target_fields}
use Rattle.installing.specs.Targets.{unheld, target_of}
use Rattle.installing.proofs.Linking.{set_count}
use Rattle.installing.proofs.retargeting.Links.put_target.Goals.{Start}
use Rattle.installing.proofs.retargeting.Links.put_target.Goals as goal

s₀ : (c : Start) → let a = c.args in
    Writing (bytes_of (target_of a.self.now.target.now a.p.0)) a.buf.now a.buf.now 0 (target_front a.p.0 (get_or a.self.now.counts a.p.0 0) ∷ differences 0 (set_m a.p.0 (unheld a.self.now.target.now)) ∷ [])
unfolding target_of
s₀ c =
    let a = c.args in
    let target = a.self.now.target.now in
    begin _ _ _ (target_fields (record { place = a.p.0; slots = set_m a.p.0 (unheld target) }) (set_count target a.p.0 a.self.now.linked.whole (a.self.now.linked.count a.p.0 c.requires.0))) c.requires.1

pub put_target_front-at-requires : goal.put_target_front-at-requires
put_target_front-at-requires c = room₀ (s₀ (goal.at.put_target_front-at-requires c).Start)

pub slice_bounds-put_differences-count : goal.slice_bounds-put_differences-count
slice_bounds-put_differences-count c = in_range_lem (first (s₀ (goal.at.slice_bounds-put_differences-count c).Start) c.put_target_front-at.ensures).run

pub slice_bounds-put_differences-start : goal.slice_bounds-put_differences-start
slice_bounds-put_differences-start c = in_range_lem (first (s₀ (goal.at.slice_bounds-put_differences-start c).Start) c.put_target_front-at.ensures).run

pub put_differences-requires : goal.put_differences-requires
put_differences-requires c = (c.requires.0, room (first (s₀ (goal.at.put_differences-requires c).Start) c.put_target_front-at.ensures).run)

pub overflow_add-result : goal.overflow_add-result
overflow_add-result c =
    let t = (next (first (s₀ (goal.at.overflow_add-result c).Start) c.put_target_front-at.ensures) c.put_differences.ensures).run in
    omega (arith, to_go t, t.fits)

pub returns : goal.returns
returns c = ended (next (first (s₀ (goal.at.returns c).Start) c.put_target_front-at.ensures) c.put_differences.ensures).run refl
