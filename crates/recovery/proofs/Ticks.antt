-- Ticks aside: what the rules read of a group beside its ticks is the same after a reading.
use Prim.Native.Nat.{ℕ, zero, suc}
use mathlib.Core.Path.{◌≡◌, refl, sym, ap, ◌∙◌}
use mathlib.Core.Bool.{Bool, false}
use mathlib.Core.List.{List, [], ◌∷◌, map}
use mathlib.Core.Option.{Option, none, some}
use lib.ListN.{get_or, set}
use Rattle.rules.specs.Basics.{any, default, find}
use Rattle.rules.specs.Group.{Group, Member, is_member, known, lowest_free, member_at, nobody, place_of, subscribes, vacant}
use Rattle.rules.specs.Refusals.{at_end, goes_back}
use Rattle.rules.specs.Batches.{Alike, retimed, retimed_member}
use Rattle.theorems.proofs.Retimed.{get_d_retimed}
use Rattle.recovery.proofs.Elapsed.{none_elapsed}

-- ---- one tick after another

pub member_twice : (s t : ℕ) (m : Option Member) → retimed_member t (retimed_member s m) ≡ retimed_member t m
unfolding retimed_member
member_twice s t none = refl
member_twice s t (some m) = refl

pub members_twice : (s t : ℕ) (ms : List (Option Member)) → map (retimed_member t) (map (retimed_member s) ms) ≡ map (retimed_member t) ms
members_twice s t [] = refl
members_twice s t (m ∷ ms) = λ i. member_twice s t m i ∷ members_twice s t ms i

-- two groups that are equal, their last ticks and the ticks of their members aside
pub alike_members : (t : ℕ) (g h : Group) → g.epoch ≡ h.epoch → g.target_epoch ≡ h.target_epoch → g.topics ≡ h.topics
    → map (retimed_member t) g.members ≡ map (retimed_member t) h.members → g.slots ≡ h.slots → retimed t g ≡ retimed t h
unfolding retimed
alike_members t g h a b c d e = λ i. record { epoch = a i; target_epoch = b i; tick = t; topics = c i; members = d i; slots = e i }

pub retimed_twice : (s t : ℕ) (g : Group) → retimed t (retimed s g) ≡ retimed t g
unfolding retimed
retimed_twice s t g = alike_members t (retimed s g) g refl refl refl (members_twice s t g.members) refl

pub alike_at : (t : ℕ) (g h : Group) → Alike g h → retimed t g ≡ retimed t h
alike_at t g h a = sym (retimed_twice 0 t g) ∙ ap (retimed t) a ∙ retimed_twice 0 t h

-- ---- members

module _ (t : ℕ) (f : Option Member → Bool) (same : (m : Option Member) → f (retimed_member t m) ≡ f m) where
  any_retimed : (ms : List (Option Member)) → any f (map (retimed_member t) ms) ≡ any f ms
  any_retimed [] = refl
  any_retimed (m ∷ ms) = rw (same m, any_retimed ms) refl

  find_retimed : (ms : List (Option Member)) → find f (map (retimed_member t) ms) ≡ find f ms
  find_retimed [] = refl
  find_retimed (m ∷ ms) = rw (same m, find_retimed ms) refl

is_member_retimed : (t : ℕ) (id : List ℕ) (m : Option Member) → is_member id (retimed_member t m) ≡ is_member id m
unfolding is_member retimed_member
is_member_retimed t id none = refl
is_member_retimed t id (some m) = refl

vacant_retimed : (t : ℕ) (m : Option Member) → vacant (retimed_member t m) ≡ vacant m
unfolding vacant retimed_member
vacant_retimed t none = refl
vacant_retimed t (some m) = refl

pub subscribes_retimed : (t n : ℕ) (m : Option Member) → subscribes n (retimed_member t m) ≡ subscribes n m
unfolding subscribes retimed_member
subscribes_retimed t n none = refl
subscribes_retimed t n (some m) = refl

pub set_retimed : (t : ℕ) (ms : List (Option Member)) (p : ℕ) (x : Option Member)
    → map (retimed_member t) (set ms p x) ≡ set (map (retimed_member t) ms) p (retimed_member t x)
set_retimed t [] p x = refl
set_retimed t (m ∷ ms) zero x = refl
set_retimed t (m ∷ ms) (suc p) x = ap (λ (l : List (Option Member)). retimed_member t m ∷ l) (set_retimed t ms p x)

-- what is read of a member beside its ticks
pub record SameMember (m n : Member) : Type 0 where
  pub id : m.id ≡ n.id
  pub epoch : m.epoch ≡ n.epoch
  pub subscription : m.subscription ≡ n.subscription
  pub timeout : m.timeout ≡ n.timeout

same_member : (t : ℕ) (o : Option Member) → SameMember (default nobody (retimed_member t o)) (default nobody o)
unfolding retimed_member
same_member t none = record { id = refl; epoch = refl; subscription = refl; timeout = refl }
same_member t (some m) = record { id = refl; epoch = refl; subscription = refl; timeout = refl }

-- ---- the group

module _ (t : ℕ) (g : Group) where
  pub known_retimed : (id : List ℕ) → known (retimed t g) id ≡ known g id
  unfolding known retimed
  known_retimed id = any_retimed t (is_member id) (is_member_retimed t id) g.members

  pub place_retimed : (id : List ℕ) → place_of (retimed t g) id ≡ place_of g id
  unfolding place_of retimed
  place_retimed id = find_retimed t (is_member id) (is_member_retimed t id) g.members

  pub free_retimed : lowest_free (retimed t g) ≡ lowest_free g
  unfolding lowest_free retimed
  free_retimed = find_retimed t vacant (vacant_retimed t) g.members

  pub full_retimed : any vacant (retimed t g).members ≡ any vacant g.members
  unfolding retimed
  full_retimed = any_retimed t vacant (vacant_retimed t) g.members

  pub subscribed_retimed : (n : ℕ) → any (subscribes n) (retimed t g).members ≡ any (subscribes n) g.members
  unfolding retimed
  subscribed_retimed n = any_retimed t (subscribes n) (subscribes_retimed t n) g.members

  pub at_retimed : (p : ℕ) → get_or (retimed t g).members p none ≡ retimed_member t (get_or g.members p none)
  unfolding retimed
  at_retimed p = get_d_retimed t g.members p

  pub member_retimed : (p : ℕ) → SameMember (member_at (retimed t g) p) (member_at g p)
  unfolding member_at
  member_retimed p = rw (at_retimed p) (same_member t (get_or g.members p none))

  pub end_retimed : at_end (retimed t g) ≡ at_end g
  unfolding at_end retimed
  end_retimed = refl

  -- an event at the tick of reading is not refused by the clock
  pub on_time : goes_back (retimed t g) t ≡ false
  unfolding goes_back retimed
  on_time = rw (none_elapsed t) refl
