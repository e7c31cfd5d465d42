-- The columns of the ticks set: what the members that they stand for become.
use Rattle.std.specs.Prelude.{if◌then◌else◌}
use Rattle.std.proofs.Common.{ℕ, suc, ◌+◌, ◌%◌, ◌≤◌, ◌<◌, arith, zero-add, ◌≡◌, refl, sym, ap, ◌∙◌, Bool, true, false, ◌&&◌, List, [], ◌∷◌, map, eqb, length, get_or, set, length-set, ext_get_or, get_or-set_same, get_or-set_other, below_none, below_more}
use Rattle.std.proofs.Math.Option.{Option, none, some}
use lib.ListN.{length-map, get_or-map}
use Rattle.rules.specs.Basics.{any}
use Rattle.rules.specs.Constants.{max_members, subscription_count}
use Rattle.rules.specs.Group as G
use Rattle.rules.specs.Batches.{heard_at, retimed, retimed_member, silent}
use Rattle.recovery.proofs.Judging.{at_silent}
use Rattle.tables.specs.View.{slots_in}
use Rattle.group.specs.Columns.{cell_count, cell, cell_of, member_of, view_members, view_place}
use Rattle.group.specs.Members as M
use Rattle.group.specs.View.{topics_in, view}
use Rattle.group.specs.declared.Group.{Group}
use Rattle.group.proofs.Columns.{member_at_lem, members_long}
use Rattle.batches.specs.Gathered.{Marks}

-- ---- a tick for every tick

-- the places below p have it
pub record Ticked (t : ℕ) (ms₀ ms : List ℕ) (p : ℕ) : Type 0 where
  pub long : length ms ≡ length ms₀
  pub others : (k : ℕ) → k < cell_of 7 0 → get_or ms k 0 ≡ get_or ms₀ k 0
  pub heard : (k : ℕ) → k < p → cell ms 7 k ≡ t
  pub revoked : (k : ℕ) → k < p → cell ms 8 k ≡ t

pub none_ticked : (t : ℕ) (ms : List ℕ) → Ticked t ms ms 0
none_ticked t ms = record { long = refl; others = λ k q. refl; heard = below_none (λ k. cell ms 7 k ≡ t); revoked = below_none (λ k. cell ms 8 k ≡ t) }

pub one_ticked : (t : ℕ) (ms₀ ms : List ℕ) (p : ℕ) → length ms₀ ≡ cell_count → p < max_members → Ticked t ms₀ ms p
    → Ticked t ms₀ (set (set ms (cell_of 7 p) t) (cell_of 8 p) t) (p + 1)
one_ticked t ms₀ ms p n h w =
    let one = set ms (cell_of 7 p) t in
    let two = set one (cell_of 8 p) t in
    let far : (k : ℕ) → (k ≡ cell_of 7 p → ⊥) → (k ≡ cell_of 8 p → ⊥) → get_or two k 0 ≡ get_or ms k 0 =
    λ k a b. get_or-set_other one (cell_of 8 p) k t 0 b ∙ get_or-set_other ms (cell_of 7 p) k t 0 a in
    record {
      long = length-set one (cell_of 8 p) t ∙ length-set ms (cell_of 7 p) t ∙ w.long;
      others = λ k q. far k (λ e. omega (arith, e)) (λ e. omega (arith, e)) ∙ w.others k q;
      heard =
          below_more (λ k. cell two 7 k ≡ t) p
          (λ k q. far (cell_of 7 k) (λ e. omega (arith, e)) (λ e. omega (arith, e)) ∙ w.heard k q)
          (get_or-set_other one (cell_of 8 p) (cell_of 7 p) t 0 (λ e. omega (arith, e)) ∙ get_or-set_same ms (cell_of 7 p) t 0 (omega (arith, n, w.long)));
      revoked =
          below_more (λ k. cell two 8 k ≡ t) p
          (λ k q. far (cell_of 8 k) (λ e. omega (arith, e)) (λ e. omega (arith, e)) ∙ w.revoked k q)
          (get_or-set_same one (cell_of 8 p) t 0 (omega (arith, n, w.long, length-set ms (cell_of 7 p) t)));
    }

abbrev made : List ℕ → ℕ → ℕ → ℕ → ℕ → ℕ → G.Member
made id epoch subscription timeout heard revoked =
    record { id = id; epoch = epoch; subscription = subscription % subscription_count; timeout = timeout; heard = heard; revoked_at = revoked }

retimed_of : (a b c d epoch subscription timeout heard revoked t : ℕ)
    → member_of a b c d epoch subscription timeout t t ≡ retimed_member t (member_of a b c d epoch subscription timeout heard revoked)
unfolding member_of retimed_member
retimed_of a b c d epoch subscription timeout heard revoked t = go (eqb a 0 && (eqb b 0 && (eqb c 0 && eqb d 0))) _
  where
    go : (z : Bool) (id : List ℕ)
        → (if z then none else some (made id epoch subscription timeout t t))
        ≡ retimed_member t (if z then none else some (made id epoch subscription timeout heard revoked))
    go true id = refl
    go false id = refl

place_ticked : (t : ℕ) (ms₀ ms : List ℕ) → Ticked t ms₀ ms max_members → (k : ℕ) → k < max_members → view_place ms k ≡ retimed_member t (view_place ms₀ k)
unfolding view_place
place_ticked t ms₀ ms w k h =
    let b : (c : ℕ) → cell_of c k < cell_of 7 0 → cell ms c k ≡ cell ms₀ c k = λ c q. w.others (cell_of c k) q in
    (λ i. member_of (b 0 (omega arith) i) (b 1 (omega arith) i) (b 2 (omega arith) i) (b 3 (omega arith) i) (b 4 (omega arith) i) (b 5 (omega arith) i)
    (b 6 (omega arith) i) (w.heard k h i) (w.revoked k h i))
    ∙ retimed_of (cell ms₀ 0 k) (cell ms₀ 1 k) (cell ms₀ 2 k) (cell ms₀ 3 k) (cell ms₀ 4 k) (cell ms₀ 5 k) (cell ms₀ 6 k) (cell ms₀ 7 k) (cell ms₀ 8 k) t

pub all_ticked : (t : ℕ) (ms₀ ms : List ℕ) (p : ℕ) → max_members ≤ p → Ticked t ms₀ ms p → view_members ms ≡ map (retimed_member t) (view_members ms₀)
unfolding retimed_member
all_ticked t ms₀ ms p h w =
    let all : Ticked t ms₀ ms max_members =
    record { long = w.long; others = w.others; heard = λ k q. w.heard k (omega arith); revoked = λ k q. w.revoked k (omega arith) } in
    ext_get_or none (view_members ms) (map (retimed_member t) (view_members ms₀))
    (members_long ms ∙ sym (length-map (view_members ms₀) (retimed_member t) ∙ members_long ms₀))
    (λ k q. let b : k < max_members = omega (arith, q, members_long ms) in
    member_at_lem ms k b ∙ place_ticked t ms₀ ms all k b ∙ ap (retimed_member t) (sym (member_at_lem ms₀ k b))
    ∙ sym (get_or-map (retimed_member t) (view_members ms₀) k none))

pub group_ticked : (t : ℕ) (g : Group) (ms : List ℕ) → view_members ms ≡ map (retimed_member t) (view_members g.members.cells)
    → view (record { head = record { epoch = g.head.epoch; target_epoch = g.head.target_epoch; tick = t }; members = record { cells = ms }; topics = g.topics; tables = g.tables })
    ≡ retimed t (view g)
unfolding view retimed
group_ticked t g ms e = λ i. record {
  epoch = g.head.epoch;
  target_epoch = g.head.target_epoch;
  tick = t;
  topics = topics_in g.topics;
  members = e i;
  slots = slots_in g.tables;
}

-- ---- the places that are gone are silent

-- below p, those that are marked were last heard at t
pub record Silenced (t : ℕ) (marks : List Bool) (vs₀ vs : List (Option G.Member)) (p : ℕ) : Type 0 where
  pub done : (k : ℕ) → k < p → get_or vs k none ≡ (if get_or marks k false then heard_at t (get_or vs₀ k none) else get_or vs₀ k none)
  pub left : (k : ℕ) → p ≤ k → get_or vs k none ≡ get_or vs₀ k none

pub none_silenced : (t : ℕ) (marks : List Bool) (vs : List (Option G.Member)) → Silenced t marks vs vs 0
none_silenced t marks vs = record { done = λ k q. absurd (omega arith); left = λ k q. refl }

-- `heard_at` of the code's members is the rules'
heard_same : (t : ℕ) (m : Option G.Member) → M.heard_at t m ≡ heard_at t m
unfolding heard_at
heard_same t none = refl
heard_same t (some m) = refl

module _ (t : ℕ) (marks : List Bool) (vs₀ vs : List (Option G.Member)) (p : ℕ) (w : Silenced t marks vs₀ vs p) where
  abbrev Done : List (Option G.Member) → ℕ → Type 0
  Done l k = get_or l k none ≡ (if get_or marks k false then heard_at t (get_or vs₀ k none) else get_or vs₀ k none)

  pub unmarked : get_or marks p false ≡ false → Silenced t marks vs₀ vs (p + 1)
  unmarked e = record {
    done = below_more (Done vs) p w.done (rw e (w.left p (omega arith)));
    left = λ k q. w.left k (omega arith);
  }

  pub marked : (vs' : List (Option G.Member)) → length vs ≡ max_members → p < max_members → vs' ≡ set vs p (M.heard_at t (get_or vs p none))
      → get_or marks p false ≡ true
      → Silenced t marks vs₀ vs' (p + 1)
  marked vs' n h is e =
      let x = M.heard_at t (get_or vs p none) in
      let at : (k : ℕ) → get_or vs' k none ≡ get_or (set vs p x) k none = λ k. ap (λ (l : List (Option G.Member)). get_or l k none) is in
      record {
        done =
            below_more (Done vs') p (λ k q. at k ∙ get_or-set_other vs p k x none (λ z. omega (arith, z)) ∙ w.done k q)
            (rw e (at p ∙ get_or-set_same vs p x none (omega (arith, n)) ∙ heard_same t (get_or vs p none) ∙ ap (heard_at t) (w.left p (omega arith))));
        left = λ k q. at k ∙ get_or-set_other vs p k x none (λ z. omega (arith, z)) ∙ w.left k (omega arith);
      }

silent_long : (t : ℕ) (ps : List ℕ) (n : ℕ) (vs : List (Option G.Member)) → length (silent t ps n vs) ≡ length vs
unfolding silent
silent_long t ps n [] = refl
silent_long t ps n (m ∷ vs) = ap suc (silent_long t ps (suc n) vs)

pub all_silenced : (t : ℕ) (marks : List Bool) (ms₀ ms ps : List ℕ) (p : ℕ) → max_members ≤ p → Silenced t marks (view_members ms₀) (view_members ms) p
    → Marks marks ps
    → view_members ms ≡ silent t ps 0 (view_members ms₀)
all_silenced t marks ms₀ ms ps p h w m =
    ext_get_or none (view_members ms) (silent t ps 0 (view_members ms₀))
    (members_long ms ∙ sym (silent_long t ps 0 (view_members ms₀) ∙ members_long ms₀))
    (λ k q. let b : k < max_members = omega (arith, q, members_long ms) in
    w.done k (omega arith)
    ∙ ap (λ (z : Bool). if z then heard_at t (get_or (view_members ms₀) k none) else get_or (view_members ms₀) k none)
    (m k b ∙ ap (λ (j : ℕ). any (eqb j) ps) (sym (zero-add k)))
    ∙ sym (at_silent t ps 0 (view_members ms₀) k))
