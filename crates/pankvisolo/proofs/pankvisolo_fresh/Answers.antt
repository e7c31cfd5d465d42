-- `pankvisolo::pankvisolo_fresh` meets its contract: demand 3 of the coordinator's runs is demand 3 of the library's.
use Rattle.pankvisolo.proofs.Hosting.{decodes, library_single_holder, library_settles}
use Rattle.pankvisolo.proofs.pankvisolo_fresh.Goals as goal

pub returns : goal.returns
returns c =
    let promised = c.fresh.ensures in
    (promised.0, decodes, library_single_holder _ promised.3, library_settles _ promised.4)
