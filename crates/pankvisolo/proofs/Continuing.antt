-- Brokers on this library have the group and the file of the life that they live.
use Rattle.std.proofs.Common.{ℕ, ◌≡◌, refl, ap, ap₂, ◌∙◌, Bool, List, ◌++◌, length, take}
use lib.Seq.{take-length}
use Rattle.rules.specs.Group as G
use Rattle.rules.specs.Course.{stepped}
use Rattle.rules.specs.Journal.{Verdict, entry, read_journal, refused_at, stored_by, torn_from, whole}
use Rattle.rules.specs.Brokers.{State, acted, cut_off, failed, headed, state_of}
use Rattle.group.specs.declared.Group.{Group}
use Rattle.group.specs.View.{view}
use Rattle.pankvisolo.specs.declared.Reading as Code
use Rattle.pankvisolo.specs.Replies.{Report, Serves, replied, report_of}
use Rattle.pankvisolo.specs.Recovery.{Recovers, good_end}
use Rattle.pankvisolo.specs.Runs.{Exchange}
use Rattle.pankvisolo.specs.Lives.{LibraryContinues, made, recovered, served}

-- ---- an event

module _ (g : Group) (file : List ℕ) (s : State) (group : view g ≡ s.group) (same : file ≡ s.file) (x : Exchange) (told : Bool)
    (p : Serves x.call.event g x.group x.reply x.call.buffer x.buffer x.call.list x.list) where
  acted_group : view x.group ≡ (acted s x.call told).group
  unfolding acted replied report_of stepped
  acted_group = ap (λ (r : Report). r.group) p.steps ∙ ap (λ (h : G.Group). (stepped h x.call).group) group

  acted_file : file ++ entry (take x.reply.written x.buffer) ≡ (acted s x.call told).file
  unfolding acted stored_by replied report_of stepped
  acted_file =
      ap₂ (λ (f r : List ℕ). f ++ entry r) same
      (ap (λ (r : Report). take r.written r.buffer) p.steps ∙ ap (λ (h : G.Group). take (stepped h x.call).written (stepped h x.call).buffer) group)

-- ---- a reading

cut_off_lem : (v : Verdict) (bytes : List ℕ) → take (good_end v (length bytes)) bytes ≡ cut_off v bytes
unfolding cut_off
cut_off_lem whole bytes = take-length bytes
cut_off_lem (refused_at n) bytes = refl
cut_off_lem (torn_from n) bytes = refl

module _ (file : List ℕ) (s : State) (same : file ≡ s.file) (n t : ℕ) (h : Group) (r : Code.Reading) (p : Recovers t (take n file) h r) where
  failed_group : view h ≡ (failed s n t).group
  unfolding failed
  failed_group = p.group ∙ ap (λ (f : List ℕ). (read_journal t (take n f)).group) same

  failed_file : headed (take r.end (take n file)) ≡ (failed s n t).file
  unfolding failed
  failed_file =
      ap (λ (k : ℕ). headed (take k (take n file))) p.end
      ∙ ap headed (cut_off_lem (read_journal t (take n file)).verdict (take n file))
      ∙ ap (λ (f : List ℕ). headed (cut_off (read_journal t (take n f)).verdict (take n f))) same

pub library_continues : LibraryContinues
unfolding LibraryContinues state_of
library_continues g file l (made s k e) = record { group = e; same = refl }
library_continues g file l (served {g = h} {file = f} {l = k} hosted x told p) =
    let i = library_continues h f k hosted in
    record { group = acted_group h f (state_of k) i.group i.same x told p; same = acted_file h f (state_of k) i.group i.same x told p }
library_continues g file l (recovered {g = h} {file = f} {l = k} hosted n t after r p) =
    let i = library_continues h f k hosted in
    record { group = failed_group f (state_of k) i.same n t after r p; same = failed_file f (state_of k) i.same n t after r p }
