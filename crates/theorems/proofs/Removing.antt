-- A sweep's answer counts the members that it removed: each place that it picks has a member, and a place removed has one member less. At G's largest
-- value leaves and sweeps still remove, and G stays.
use Prim.Native.Nat.{ℕ, zero, suc, ◌+◌, ◌≤◌}
use native.Mathlib.Nat.{zero-add}
use native.Mathlib.Omega.{arith}
use mathlib.Core.Path.{◌≡◌, refl, sym, ap, ◌∙◌}
use mathlib.Core.Bool.{Bool, true, false, not, false≢true}
use mathlib.Core.List.{List, [], ◌∷◌, foldl, Memᴰ}
use mathlib.Core.Option.{Option, none, some}
use lib.ListN.{length, get_or, set}
use lib.Seq.{get_or-set_other}
use Rattle.rules.specs.Basics.{any, empty, indices, keep, up_to}
use Rattle.rules.specs.Constants.{last_epoch, max_members}
use Rattle.rules.specs.Group.{Group, Member, member_count, place_of, raised, revoking, vacant}
use Rattle.rules.specs.Event.{heartbeat, sweep}
use Rattle.rules.specs.Refusals.{Kind, invalid, joins, kind_of, leaves, ordinary}
use Rattle.rules.specs.Effects.{changed, due, effect, heartbeat_effect, join_at, join_effect, leave_at, leave_effect, ordinary_at, overdue, overdue_places, remove, sweep_effect, sweep_epoch, sweep_of}
use Rattle.rules.specs.Step.{carry_out}
use Rattle.rules.specs.Theorems.{LeaveAtEnd, SweepAtEnd, SweptIsDifference}
use Rattle.rules.specs.declared.Answer.TheVariants.{Left, Swept}
use Rattle.theorems.proofs.Cases.{by_cases, if_cases}
use Rattle.theorems.proofs.Picks.{none_set}
use Rattle.theorems.proofs.Accepting.{step_cases}
use Rattle.theorems.proofs.Vacating.{emptied_all}
use Rattle.theorems.proofs.Emptying.{overdue_only, placed}

-- ---- members removed, one place after another

-- an entry that passes is set to one that does not
one_less : {A : Type 0} (f : A → Bool) (d : A) → f d ≡ false → (l : List A) (p n : ℕ) → f (get_or l p d) ≡ true → suc (length (indices f n (set l p d))) ≡ length (indices f n l)
one_less f d e [] p n k = absurd (false≢true (sym e ∙ k))
one_less f d e (x ∷ xs) zero n k = rw (k, e) refl
one_less f d e (x ∷ xs) (suc p) n k = by_cases (f x) (λ q. rw q (ap suc (one_less f d e xs p (suc n) k))) (λ q. rw q (one_less f d e xs p (suc n) k))

removed_one : (g : Group) (p : ℕ) → vacant (get_or g.members p none) ≡ false → suc (member_count (remove g p).members) ≡ member_count g.members
unfolding member_count remove changed vacant
removed_one g p h = one_less (λ m. not (vacant m)) none refl g.members p 0 (ap not h)

-- the places from n on that a test picks, at each of which there is a member
removed_kept : (f : ℕ → Bool) (k n : ℕ) (g : Group) → ((p : ℕ) → n ≤ p → f p ≡ true → vacant (get_or g.members p none) ≡ false)
    → length (keep f (up_to n k)) + member_count (foldl remove g (keep f (up_to n k))).members ≡ member_count g.members
unfolding keep up_to remove changed
removed_kept f zero n g h = zero-add (member_count g.members)
removed_kept f (suc k) n g h =
    if_cases (λ l. length l + member_count (foldl remove g l).members ≡ member_count g.members) (f n)
    (λ e. omega (arith, removed_kept f k (suc n) (remove g n) there, removed_one g n (h n (omega arith) e)))
    (λ _. removed_kept f k (suc n) g (λ p l. h p (omega arith)))
  where
    there : (p : ℕ) → suc n ≤ p → f p ≡ true → vacant (get_or (remove g n).members p none) ≡ false
    there p l e = ap vacant (get_or-set_other g.members n p none none (λ q. omega arith)) ∙ h p (omega arith) e

-- who is due is there
pub is_there : (o : Option Member) (tick : ℕ) (w : Bool) → due tick w o ≡ true → vacant o ≡ false
unfolding due vacant
is_there none tick w e = absurd (false≢true e)
is_there (some m) tick w e = refl

swept_inj : (m n : ℕ) → Swept m ≡ Swept n → m ≡ n
swept_inj m n e = cc

pub swept_is_difference : SweptIsDifference
unfolding carry_out effect sweep_effect sweep_of changed overdue_places overdue
swept_is_difference g tick n buffer list =
    step_cases g (sweep tick) buffer list (λ s. s.answer ≡ Swept n → n + member_count s.group.members ≡ member_count g.members)
    (λ r q. let z : ◌≡◌ {A = ℕ} 0 1 = cc in absurd (omega arith))
    (λ _ _ q. omega (arith, swept_inj _ n q, removed_kept (overdue g tick) max_members 0 g (λ p _. is_there (get_or g.members p none) tick (any (revoking p) g.slots))))

-- ---- at the largest epoch

pub sweep_at_end : SweepAtEnd
unfolding carry_out effect sweep_effect sweep_of sweep_epoch changed raised vacant
sweep_at_end g tick n buffer list last =
    step_cases g (sweep tick) buffer list
    (λ s. s.answer ≡ Swept n → (s.group.epoch ≡ last_epoch) × ((p : ℕ) → Memᴰ p (overdue_places g tick) → vacant (get_or s.group.members p none) ≡ true))
    (λ r q. let z : ◌≡◌ {A = ℕ} 0 1 = cc in absurd (omega arith))
    (λ _ _ q. (
      if_cases (λ e. e ≡ last_epoch) (empty (overdue_places g tick)) (λ _. last) (λ _. ap raised last),
      λ p m. ap vacant (emptied_all p (placed p (overdue_only g tick p m).0) (overdue_places g tick) g m).0,
    ))

pub leave_at_end : LeaveAtEnd
unfolding carry_out effect heartbeat_effect join_effect join_at leave_effect leave_at ordinary_at remove changed raised vacant
leave_at_end g b buffer list last =
    step_cases g (heartbeat b) buffer list
    (λ s. s.answer ≡ Left → (s.group.epoch ≡ last_epoch) × (vacant (get_or s.group.members (place_of g b.id) none) ≡ true))
    (λ r q. let z : ◌≡◌ {A = ℕ} 0 1 = cc in absurd (omega arith))
    (λ _ _. left (kind_of b.epoch))
  where
    -- only a leave is answered so
    left : (k : Kind) → (heartbeat_effect g b k).answer ≡ Left
        → ((heartbeat_effect g b k).group.epoch ≡ last_epoch) × (vacant (get_or (heartbeat_effect g b k).group.members (place_of g b.id) none) ≡ true)
    left joins e = let z : ◌≡◌ {A = ℕ} 0 1 = cc in absurd (omega arith)
    left leaves e = (ap raised last, ap vacant (none_set g.members (place_of g b.id)))
    left invalid e = (ap raised last, ap vacant (none_set g.members (place_of g b.id)))
    left (ordinary n) e = let z : ◌≡◌ {A = ℕ} 0 1 = cc in absurd (omega arith)
