-- What was written elsewhere says how long the records are; they are copied where they fit.
use Rattle.std.proofs.Common.{List, ℕ, subst, arith}
use Rattle.numbers.specs.Buffer.{Wrote}
use Rattle.installing.proofs.Installs.{wrote_part}
use Rattle.installing.proofs.retargeting.Install.store_tight.Goals as goal

pub returns : goal.returns
returns c =
    let put = c.put_install-size.ensures in
    let P : List ℕ → Type 0 = λ w. Wrote w c.args.buf.now c.put_all.new.buf c.put_all.result in
    (omega (arith, put.count, c.if-buf-size.false), subst P (wrote_part put) c.put_all.ensures)
