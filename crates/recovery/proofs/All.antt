-- What is claimed of journals (crates/rules/specs/Brokers) together.
use Rattle.rules.specs.Brokers.{JournalTheorems}
use Rattle.theorems.proofs.SingleHolder.{single_holder_over}
use Rattle.theorems.proofs.ThreeRounds.{three_rounds_over}
use Rattle.recovery.proofs.Exact.{judges_exactly, same_bytes_same_group}
use Rattle.recovery.proofs.Lengths.{fuel_enough}
use Rattle.recovery.proofs.AnyFile.{reads_heading, reads_so_far, refuses_heading}
use Rattle.recovery.proofs.ReadsOn.{journals_good, reads_good, reads_on, reads_whole}
use Rattle.recovery.proofs.ReadsCut.{keeps_counted, reads_cut}
use Rattle.recovery.proofs.JudgesFiles.{judges_files}
use Rattle.recovery.proofs.Answers.{answers_count}
use Rattle.recovery.proofs.Brokers.{continues, single_holder_across, three_rounds_across}

pub journal_theorems : JournalTheorems
journal_theorems = record {
  judges_exactly = judges_exactly;
  same_bytes_same_group = same_bytes_same_group;
  reads_cut = reads_cut;
  keeps_counted = keeps_counted;
  reads_heading = reads_heading;
  refuses_heading = refuses_heading;
  reads_on = reads_on;
  reads_whole = reads_whole;
  reads_so_far = reads_so_far;
  judges_files = judges_files;
  reads_good = reads_good;
  journals_good = journals_good;
  fuel_enough = fuel_enough;
  single_holder = single_holder_over;
  three_rounds = three_rounds_over;
  answers_count = answers_count;
  continues = continues;
  single_holder_across = single_holder_across;
  three_rounds_across = three_rounds_across;
}
