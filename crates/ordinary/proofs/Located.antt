-- The member that was found, and the group after it is heard. Assumes nothing.
use Rattle.std.specs.Prelude.{set, get_or}
use Rattle.std.proofs.Common.{◌≡◌, ℕ, false, List, ap, ◌∙◌}
use Rattle.std.proofs.Math.Option.{Option, none, some}
use Rattle.rules.specs.Basics.{any, default, find}
use Rattle.rules.specs.Group as G
use Rattle.rules.specs.Group.{is_member, known, place_of, member_at}
use Rattle.rules.specs.Refusals.{zero_id, sender_of}
use Rattle.rules.specs.Effects.{changed}
use Rattle.rules.specs.declared.Place.{Place}
use Rattle.tables.specs.View.{slots_in}
use Rattle.group.specs.Columns.{numbers_at, view_members}
use Rattle.group.specs.Members.{heard_at}
use Rattle.group.specs.Searches.{Hit}
use Rattle.group.specs.View.{view, seated}
use Rattle.group.specs.declared.Group.{Group}
use Rattle.group.proofs.Finding.{found_used, found_same, found_member}
use Rattle.events.specs.declared.Outcome.{Outcome}
use Rattle.events.specs.declared.Request.{Request}
use Rattle.events.proofs.Lent.{group_changed}
use Rattle.ordinary.specs.Plans.{asked, view_sender, sender_at, Sends, Heard}
use Rattle.ordinary.proofs.Staying.{heard_last}

module _ (g : Group) (b : Request) (l : Option (List ℕ)) (p : Place) (h : Hit (known (view g) b.id) (place_of (view g) b.id) p.0) where
  hit : Hit (any (is_member b.id) (view_members g.members.cells)) (find (is_member b.id) (view_members g.members.cells)) p.0
  unfolding known place_of view
  hit = h

  pub seat_found : get_or (view_members g.members.cells) p.0 none ≡ some (seated (numbers_at g.members.cells p.0))
  seat_found = found_member g.members.cells b.id hit

  -- the sender is the member with the ID, at its place
  pub who : sender_of (view g) (asked b l) ≡ view_sender (sender_at g.members.cells p)
  unfolding member_at view
  who = λ i. record { place = h.first i; member = (ap (member_at (view g)) h.first ∙ ap (default _) seat_found) i }

  pub same_id : (numbers_at g.members.cells p.0).id ≡ b.id
  same_id = found_same g.members.cells b.id hit

  pub sends : zero_id b.id ≡ false → Sends g.members.cells p b
  sends z = record { below = h.below; there = found_used g.members.cells b.id hit; own = same_id; real = z }

-- heard at a tick
pub heard_group : (g g' : Group) (p tick epoch : ℕ) (l list list' : List ℕ) (r : Outcome) (m : G.Member) → get_or (view_members g.members.cells) p none ≡ some m
    → Heard g p tick epoch l list r g' list' → view g' ≡ changed (view g) (view g).epoch tick (set (view g).members p (some (heard_last m tick))) (view g).slots
unfolding view
heard_group g g' p tick epoch l list list' r m here d =
    group_changed g g' g.head.epoch tick d.head_is d.topics_stay (d.members_are ∙ ap (λ (x : Option G.Member). set (view_members g.members.cells) p (heard_at tick x)) here) (λ i. slots_in (d.tables_stay i))
