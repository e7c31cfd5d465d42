-- Four bytes a word, the lowest first.
use Rattle.std.proofs.Common.{◌<◌, rules}
use Rattle.group.proofs.Spelling.{id_bytes}
use Rattle.group.proofs.words.id_of.Goals as goal

pub returns : goal.returns
returns c =
    let w = c.args.w in
    let fb : w.b < 4294967296 = search rules in
    let fc : w.c < 4294967296 = search rules in
    let fd : w.d < 4294967296 = search rules in
    rw (c.copy_from_slice.ensures.after, c.to_le_bytes.ensures, c.copy_from_slice-2.ensures.after, c.to_le_bytes-2.ensures, c.copy_from_slice-3.ensures.after, c.to_le_bytes-3.ensures, c.copy_from_slice-4.ensures.after, c.to_le_bytes-4.ensures, c.first_word.ensures)
    (id_bytes w.a w.b w.c w.d fb fc fd)
