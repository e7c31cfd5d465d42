-- The records 7 go to the start of the buffer, and record 6 to the place where they ended.
use Rattle.std.proofs.Common.{refl, sym}
use Rattle.rules.specs.Records.{all_bytes}
use Rattle.numbers.proofs.Writing.{Writing, begin, first, next_at, room_at, room₀, ended}
use Rattle.installing.specs.Targets.{marked_install}
use Rattle.installing.proofs.Installs.{install_parts, install_parts_lem}
use Rattle.installing.proofs.retargeting.Install.put_install.Goals.{Start}
use Rattle.installing.proofs.retargeting.Install.put_install.Goals as goal

s₀ : (c : Start) → let a = c.args in let target = a.self.now.links.target.now in
    Writing (all_bytes (marked_install a.self.now.marks target a.self.now.epoch)) a.buf.now a.buf.now 0 (install_parts a.self.now.marks target a.self.now.epoch)
s₀ c = let a = c.args in begin _ _ _ (sym (install_parts_lem a.self.now.marks a.self.now.links.target.now a.self.now.epoch)) c.requires

pub put_targets-at-requires : goal.put_targets-at-requires
put_targets-at-requires c = room₀ (s₀ (goal.at.put_targets-at-requires c).Start)

pub put_at-requires : goal.put_at-requires
put_at-requires c = room_at (first (s₀ (goal.at.put_at-requires c).Start) c.put_targets-at.ensures).run

pub returns : goal.returns
returns c = ended (next_at (first (s₀ (goal.at.returns c).Start) c.put_targets-at.ensures) c.put_at.ensures).run refl
