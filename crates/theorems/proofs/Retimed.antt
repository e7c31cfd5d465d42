-- What a reading leaves of members: all but their ticks.
use Prim.Native.Nat.{ℕ}
use mathlib.Core.Path.{◌≡◌, refl, sym, ap, ◌∙◌, subst}
use mathlib.Core.List.{List, map}
use mathlib.Core.Option.{Option, none, some}
use lib.ListN.{get_or, get_or-map}
use Rattle.rules.specs.Basics.{default}
use Rattle.rules.specs.Group.{Group, Member, member_at, nobody}
use Rattle.rules.specs.Batches.{retimed, retimed_member}
use Rattle.theorems.proofs.Cases.{no_some, some_inj}
use Rattle.theorems.proofs.Picks.{Each}

-- a member at the tick of reading
abbrev pub timed : ℕ → Member → Member
timed t m = record { id = m.id; epoch = m.epoch; subscription = m.subscription; timeout = m.timeout; heard = t; revoked_at = t }

module _ (t : ℕ) (ms : List (Option Member)) (p : ℕ) where
  pub get_d_retimed : get_or (map (retimed_member t) ms) p none ≡ retimed_member t (get_or ms p none)
  unfolding retimed_member
  get_d_retimed = get_or-map (retimed_member t) ms p none

  -- a member there is the one from before
  pub member_retimed : (m : Member) → get_or (map (retimed_member t) ms) p none ≡ some m → (n : Member) × (get_or ms p none ≡ some n) × (timed t n ≡ m)
  unfolding retimed_member
  member_retimed m e = pick (get_or ms p none) (sym get_d_retimed ∙ e)
    where
      pick : (o : Option Member) → retimed_member t o ≡ some m → (n : Member) × (o ≡ some n) × (timed t n ≡ m)
      pick none q = absurd (no_some m q)
      pick (some n) q = (n, refl, some_inj q)

  pub none_retimed : get_or (map (retimed_member t) ms) p none ≡ none → get_or ms p none ≡ none
  unfolding retimed_member
  none_retimed e = pick (get_or ms p none) (sym get_d_retimed ∙ e)
    where
      pick : (o : Option Member) → retimed_member t o ≡ none → o ≡ none
      pick none q = refl
      pick (some n) q = absurd (no_some (timed t n) (sym q))

-- what each member has whatever its ticks, each has after a reading, and had before it
module _ (Q : Member → Type 0) (t : ℕ) (ms : List (Option Member)) where
  pub each_retimed : ((m : Member) → Q m → Q (timed t m)) → Each Q ms → Each Q (map (retimed_member t) ms)
  each_retimed any each p m e = let r = member_retimed t ms p m e in subst Q r.2 (any r.0 (each p r.0 r.1))

  pub each_before : ((m : Member) → Q (timed t m) → Q m) → Each Q (map (retimed_member t) ms) → Each Q ms
  unfolding retimed_member
  each_before any each p m e = any m (each p (timed t m) (get_d_retimed t ms p ∙ ap (retimed_member t) e))

-- what is read of a member beside its ticks
pub record SameMember (m n : Member) : Type 0 where
  pub id : m.id ≡ n.id
  pub epoch : m.epoch ≡ n.epoch
  pub subscription : m.subscription ≡ n.subscription
  pub timeout : m.timeout ≡ n.timeout

same_member : (t : ℕ) (o : Option Member) → SameMember (default nobody (retimed_member t o)) (default nobody o)
unfolding retimed_member
same_member t none = record { id = refl; epoch = refl; subscription = refl; timeout = refl }
same_member t (some m) = record { id = refl; epoch = refl; subscription = refl; timeout = refl }

pub member_at_retimed : (t : ℕ) (g : Group) (p : ℕ) → SameMember (member_at (retimed t g) p) (member_at g p)
unfolding member_at retimed
member_at_retimed t g p = rw (get_d_retimed t g.members p) (same_member t (get_or g.members p none))
