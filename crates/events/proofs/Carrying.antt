-- What every event's code comes to at its end: a refusal changes nothing, and an effect that no row refuses is carried out if there is room.
use Rattle.std.proofs.Common.{ℕ, ◌≤◌, ◌<◌, arith, ◌≡◌, refl, sym, subst, List, [], length, le-ltb, lt-ltb}
use Rattle.rules.specs.Group.{Group}
use Rattle.rules.specs.Records.{all_bytes}
use Rattle.rules.specs.Event.{Request, heartbeat}
use Rattle.rules.specs.Refusals.{first_of, kind_of, table}
use Rattle.rules.specs.Effects.{Effect, effect}
use Rattle.rules.specs.Step.{Stepped, step, verdict, carry_out, too_little_room, overlay}
use Rattle.rules.specs.declared.Refusal.{Refusal}
use Rattle.rules.specs.declared.Refusal.TheVariants.{Room}
use Rattle.rules.specs.declared.Answer.{Answer}
use Rattle.rules.specs.declared.Answer.TheVariants.{Refused}
use Rattle.numbers.specs.Buffer.{Wrote}
use Rattle.group.specs.declared.Group as D
use Rattle.group.specs.View.{view}
use Rattle.events.specs.declared.Outcome.{Outcome}
use Rattle.events.specs.Outcomes.{took, SameIfRefused, carried, step_as}

-- ---- refusals

abbrev pub denied : Refusal → Group → List ℕ → List ℕ → Stepped
denied why g b l = record { answer = Refused why; group = g; written = 0; buffer = b; list = l }

-- an exit with a refusal, of the group as it was: the three parts of `Becomes`, where s is what the step makes of the group. Whatever is to be kept is kept
pub refusal : {Kept : Type 0} {k : Kept} {why : Refusal} {g : D.Group} {b l : List ℕ} {s : Stepped} → s ≡ denied why (view g) b l
    → SameIfRefused (Refused why) g g × (k ≡ k) × (took (record { answer = Refused why; written = 0 }) (view g) b l ≡ s)
unfolding took
refusal e = (refl, refl, sym e)

-- an exit with an outcome whose answer is a
pub acceptance : {Kept : Type 0} {k k' : Kept} {a : Answer} {s : Stepped} (r : Outcome) (g g' : D.Group) (b l : List ℕ) → r.answer ≡ a → SameIfRefused a g g' → k' ≡ k → took r (view g') b l ≡ s
    → SameIfRefused r.answer g g' × (k' ≡ k) × (took r (view g') b l ≡ s)
acceptance r g g' b l e h k t = (subst (λ (a : Answer). SameIfRefused a g g') (sym e) h, k, t)

-- ---- heartbeats are taken as the kind of their epoch

pub step_kind : (g : Group) (b : Request) (buffer list : List ℕ) → step g (heartbeat b) buffer list ≡ step_as (kind_of b.epoch) g b buffer list
unfolding step verdict table effect step_as
step_kind g b buffer list = refl

-- ---- an effect that no row refuses: no room in the buffer, or carried out

module _ (f : Effect) (b l : List ℕ) (g : Group) where
  pub records_denied : length b < length (all_bytes f.records) → carried g f b l ≡ denied Room g b l
  unfolding carried carry_out first_of too_little_room
  records_denied p = rw (lt-ltb _ _ p)

  pub carried_out : (g' : Group) {w : ℕ} {b' l' : List ℕ} → length (all_bytes f.records) ≤ length b → length f.told ≤ length l
      → g' ≡ f.group → Wrote (all_bytes f.records) b b' w → l' ≡ overlay f.told l
      → took (record { answer = f.answer; written = w }) g' b' l' ≡ carried g f b l
  unfolding carried carry_out first_of too_little_room took
  carried_out g' p h v q t = rw (le-ltb _ _ p, le-ltb _ _ h, v, q.count, q.bytes, t)

  -- with nothing for the list
  pub carried_untold : (g' : Group) {w : ℕ} {b' : List ℕ} → f.told ≡ [] → length (all_bytes f.records) ≤ length b
      → g' ≡ f.group → Wrote (all_bytes f.records) b b' w
      → took (record { answer = f.answer; written = w }) g' b' l ≡ carried g f b l
  unfolding carried carry_out first_of too_little_room took overlay
  carried_untold g' t p v q = rw (t, le-ltb _ _ p, le-ltb (length l) 0 (omega arith), v, q.count, q.bytes)
