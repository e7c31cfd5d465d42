-- No install needs more than `install_most` bytes, so that a buffer which has them is written straight away; the records of the places marked are those of the install.
use Rattle.std.proofs.Common.{◌≡◌, ◌≤◌, List, length, subst, arith, rules}
use Rattle.rules.specs.Constants.{slot_count}
use Rattle.rules.specs.Effects.{retargeted, install_records}
use Rattle.rules.specs.Records.{Record, all_bytes}
use Rattle.numbers.specs.Buffer.{Wrote}
use Rattle.tables.specs.View.{slots_in}
use Rattle.records.specs.Storing.{Stores}
use Rattle.installing.specs.Targets.{marked_install}
use Rattle.installing.proofs.Bounds.{install_le}
use Rattle.installing.proofs.Installs.{install_told}
use Rattle.installing.proofs.retargeting.store_install.Goals.{After-of-links}
use Rattle.installing.proofs.retargeting.store_install.Goals as goal

-- the records are those of the places marked
told : (c : After-of-links) → let a = c.args in marked_install c.changed_places-marks.result c.of-links.result.target.now a.epoch ≡ install_records (slots_in a.tables.now) (retargeted (slots_in a.tables.now) a.target.now) a.epoch
told c =
    let a = c.args in
    let t = a.tables.now in
    let n : length t.target ≡ slot_count = search rules in
    let h : length t.holder ≡ slot_count = search rules in
    let w : length t.waiting ≡ slot_count = search rules in
    install_told t a.target.now n h w c.told-target c.changed_places-marks.result a.epoch c.changed_places-marks.ensures c.of-links.ensures

pub store_tight-requires : goal.store_tight-requires
store_tight-requires c = install_le c.changed_places-marks.result _ c.of-links.result.linked.whole c.args.epoch c.ranges.epoch.fits

pub returns-then-buf-lt-MOST : goal.returns-then-buf-lt-MOST
returns-then-buf-lt-MOST c =
    let P : List Record → Type 0 = λ rs. Stores (all_bytes rs) c.args.buf.now c.store_tight.new.buf c.store_tight.result in
    subst P (told (goal.at.returns-then-buf-lt-MOST c).After-of-links) c.store_tight.ensures

pub put_install-requires : goal.put_install-requires
put_install-requires c = omega (arith, install_le c.changed_places-marks.result _ c.of-links.result.linked.whole c.args.epoch c.ranges.epoch.fits)

pub returns : goal.returns
returns c =
    let b = c.args.buf.now in
    let P : List Record → Type 0 = λ rs. (length (all_bytes rs) ≤ length b) × Wrote (all_bytes rs) b c.put_install.new.buf c.put_install.result in
    subst P (told (goal.at.returns c).After-of-links)
    (omega (arith, install_le c.changed_places-marks.result _ c.of-links.result.linked.whole c.args.epoch c.ranges.epoch.fits), c.put_install.ensures)
