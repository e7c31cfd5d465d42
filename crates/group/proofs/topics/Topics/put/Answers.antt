-- The ID and the count of the number are set (`topics_set`). Assumes nothing.
use Rattle.std.proofs.Common.{◌≡◌, ◌+◌, ◌-◌, ◌*◌, length, arith, rules}
use Rattle.rules.specs.Constants.{topic_count, id_length}
use Rattle.group.proofs.Bytes.{copied}
use Rattle.group.proofs.Numbering.{topics_set, topics_past}
use Rattle.group.proofs.topics.Topics.put.Goals as goal

pub returns-then-n-ge-TOPICS : goal.returns-then-n-ge-TOPICS
returns-then-n-ge-TOPICS c = let a = c.args in topics_past a.self.now.ids a.self.now.counts a.number _ (omega arith)

pub returns : goal.returns
returns c =
    let a = c.args in
    let t = a.self.now in
    let n : length t.counts ≡ topic_count = search rules in
    let m : length t.ids ≡ topic_count * id_length = search rules in
    let l : length a.id ≡ id_length = search rules in
    let at = a.number * id_length in
    let k : at + id_length - at ≡ id_length = omega arith in
    rw c.copy_from_slice.ensures.after (topics_set t.ids _ t.counts a.number a.id a.count (omega arith) n (copied a.id t.ids a.number _ k m (omega arith) l))
