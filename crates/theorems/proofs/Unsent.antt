-- The ledger where an answer was lost: its sets are within those that it has where the answer went out, and its names are the same.
use Prim.Native.Nat.{ℕ}
use mathlib.Core.Path.{◌≡◌, refl}
use mathlib.Core.List.Memᴰ
use mathlib.Core.List.{List, [], ◌++◌, append-nil, Memᴰ}
use mathlib.Core.Option.{Option, none, some}
use lib.ListN.{take}
use lib.Seq.{take-nil}
use Rattle.rules.specs.Basics.{default, same}
use Rattle.rules.specs.Event.{Event, Request, heartbeat, install, sweep, topic}
use Rattle.rules.specs.Answers.{on_assigned, unless_refused}
use Rattle.rules.specs.Refusals.{Kind, invalid, joins, kind_of, leaves, ordinary}
use Rattle.rules.specs.Ledger.{Ledger, Observation, after_accepted, after_heartbeat, named, naming, reckon, records_in, set_work}
use Rattle.rules.specs.Readings.{unsent}
use Rattle.rules.specs.declared.Answer.{Answer}
use Rattle.rules.specs.declared.Answer.TheVariants.{Assigned, Left, Swept, Done, Refused}
use Rattle.theorems.proofs.Cases.{by_cases}

pub record Less (l m : Ledger) : Type 0 where
  pub sets : (i : List ℕ) (s : ℕ) → Memᴰ s (l.works_on i) → Memᴰ s (m.works_on i)
  pub names : (p : ℕ) → l.name p ≡ m.name p

less_refl : (l : Ledger) → Less l l
less_refl l = record { sets = λ i s h. h; names = λ p. refl }

set_less : (W : List ℕ → List ℕ) (id X Y : List ℕ) → ((s : ℕ) → Memᴰ s X → Memᴰ s Y)
    → (i : List ℕ) (s : ℕ) → Memᴰ s (set_work W id X i) → Memᴰ s (set_work W id Y i)
unfolding set_work
set_less W id X Y fewer i s = by_cases (same id i) (λ e. rw e (fewer s)) (λ e. rw e (λ h. h))

module _ (l : Ledger) (slots bytes : List ℕ) where
  naming_less : (id : List ℕ) (p : Option ℕ) → Less (naming l id [] p) (naming l id slots p)
  unfolding naming
  naming_less id none = record { sets = set_less l.works_on id [] slots (λ s h. absurd (Memᴰ.not-nil h)); names = λ p. refl }
  naming_less id (some q) = record { sets = set_less l.works_on id [] slots (λ s h. absurd (Memᴰ.not-nil h)); names = λ p. refl }

  heartbeat_less : (b : Request) (k : Kind) → Less (after_heartbeat l b [] bytes k) (after_heartbeat l b slots bytes k)
  unfolding after_heartbeat
  heartbeat_less b joins = naming_less b.id (named (records_in bytes))
  heartbeat_less b leaves = less_refl _
  heartbeat_less b invalid = less_refl _
  heartbeat_less b (ordinary e) =
      let given = default (l.works_on b.id) b.owned in
      record { sets = set_less l.works_on b.id (given ++ []) (given ++ slots) (λ s. rw (append-nil given) (Memᴰ.append_left slots)); names = λ p. refl }

  accepted_less : (e : Event) → Less (after_accepted l e [] bytes) (after_accepted l e slots bytes)
  unfolding after_accepted
  accepted_less (heartbeat b) = heartbeat_less b (kind_of b.epoch)
  accepted_less (sweep tick) = less_refl _
  accepted_less (topic t id n) = less_refl _
  accepted_less (install rule e entries) = less_refl _

-- the ledger after the answer a, where the lent list is this
abbrev after : Ledger → Observation → List ℕ → Answer → Ledger
after l o list a = unless_refused (after_accepted l o.event (on_assigned [] (λ x. take x.count list) a) o.stored) l a

by_answer : (l : Ledger) (o : Observation) (a : Answer) → Less (after l o [] a) (after l o o.list a)
by_answer l o (Assigned a) = rw (take-nil a.count) (accepted_less l (take a.count o.list) o.stored o.event)
by_answer l o Left = less_refl _
by_answer l o (Swept n) = less_refl _
by_answer l o Done = less_refl _
by_answer l o (Refused r) = less_refl _

pub unsent_less : (l : Ledger) (o : Observation) → Less (reckon l (unsent o)) (reckon l o)
unfolding reckon unsent
unsent_less l o = by_answer l o o.answer
