-- A member is where the words of its ID are, and nobody has the zero ID.
use Rattle.std.proofs.Common.{◌≡◌, ◌<◌, length, get_or, w32, Fits, sym, ◌∙◌, rules}
use Rattle.rules.specs.Group.{is_member}
use Rattle.search.specs.Places.{matches}
use Rattle.group.specs.Columns as C
use Rattle.group.specs.Columns.{cell_count}
use Rattle.group.proofs.Columns.{finds, finds_none, member_is, nobody_is}
use Rattle.group.proofs.members.Members.find.Goals as goal

pub returns-then-all_zero : goal.returns-then-all_zero
returns-then-all_zero c =
    let ms = c.args.self.now.cells in
    let w = c.words_of-w.result in
    let n : length ms ≡ cell_count = search rules in
    let fit : C.Fits ms = λ k q. let g : Fits w32 (get_or ms k 0) = search rules in g.fits in
    let fa : w.a < 4294967296 = search rules in
    let fb : w.b < 4294967296 = search rules in
    let fc : w.c < 4294967296 = search rules in
    let fd : w.d < 4294967296 = search rules in
    nobody_is ms n fit w.a w.b w.c w.d fa fb fc fd c.args.id c.words_of-w.ensures (sym c.all_zero.ensures ∙ c.if-all_zero.true)

pub returns-in_err-k : goal.returns-in_err-k
returns-in_err-k c =
    let ms = c.args.self.now.cells in
    let w = c.words_of-w.result in
    let n : length ms ≡ cell_count = search rules in
    let fit : C.Fits ms = λ k q. let g : Fits w32 (get_or ms k 0) = search rules in g.fits in
    let fa : w.a < 4294967296 = search rules in
    let fb : w.b < 4294967296 = search rules in
    let fc : w.c < 4294967296 = search rules in
    let fd : w.d < 4294967296 = search rules in
    let is = member_is ms n fit w.a w.b w.c w.d fa fb fc fd c.args.id c.words_of-w.ensures (sym c.all_zero.ensures ∙ c.if-all_zero.false) in
    rw c.from_residual.ensures (finds_none ms (is_member c.args.id) (matches ms w.a w.b w.c w.d) is c.in_err-k.ensures)

pub returns : goal.returns
returns c =
    let ms = c.args.self.now.cells in
    let w = c.words_of-w.result in
    let n : length ms ≡ cell_count = search rules in
    let fit : C.Fits ms = λ k q. let g : Fits w32 (get_or ms k 0) = search rules in g.fits in
    let fa : w.a < 4294967296 = search rules in
    let fb : w.b < 4294967296 = search rules in
    let fc : w.c < 4294967296 = search rules in
    let fd : w.d < 4294967296 = search rules in
    let is = member_is ms n fit w.a w.b w.c w.d fa fb fc fd c.args.id c.words_of-w.ensures (sym c.all_zero.ensures ∙ c.if-all_zero.false) in
    finds ms (is_member c.args.id) (matches ms w.a w.b w.c w.d) is c.in_ok-k.ensures
