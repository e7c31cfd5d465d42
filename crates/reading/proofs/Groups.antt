-- A number read group by group, lowest first: `low` is what the groups so far come to, `weight` what the next one counts.
use Rattle.std.proofs.Common.{if◌then◌else◌, ◌≡◌, refl, sym, ap, ◌∙◌, Bool, ◌&&◌, List, ℕ, zero, suc, ◌+◌, ◌-◌, ◌*◌, ◌≤◌, ◌<◌, mul_assoc, mul_comm, add-mul, mul-le-mul_right, add-one, arith, eqb, ltb, length, get_or, drop, drop_of_length-le, drop-cons, lt-ltb, le-ltb, eq-eqb, ne_eqb}
use mathlib.Core.Option.{Option, none, some}
use native.Mathlib.Decide.{ℕ_discrete}
use Rattle.rules.specs.Constants.{number_range}
use Rattle.rules.specs.Reader.{and_then, pure, refuse, ◌>>=◌, more_groups, read_number}
use Rattle.reading.specs.Fitting.{passing}
use Rattle.reading.specs.Narrow.{in_range, number32}

abbrev Result : Type 0
Result = Option (ℕ × List ℕ)

-- a group of this weight that another follows is of a number out of range
abbrev pub large_weight : ℕ
large_weight = 33554432

-- a last group is there for nothing: it is 0, and groups come before it
abbrev spare : ℕ → ℕ → Bool
spare high weight = eqb high 0 && ltb 1 weight

-- what the rest of the groups makes of the whole number: none of them is there for nothing
unfoldable pub after : ℕ → ℕ → Result → Result
after low weight none = none
after low weight (some r) = if spare r.0 weight then none else some (r.0 * weight + low, r.1)

abbrev ranged : Result → Result
ranged o = and_then o (passing in_range)

some_first : (m n : ℕ) (rest : List ℕ) → m ≡ n → ◌≡◌ {A = Result} (some (m, rest)) (some (n, rest))
some_first m n rest e = λ i. some (e i, rest)

after_start : (o : Result) → after 0 1 o ≡ o
unfolding after
after_start none = refl
after_start (some (zero, rest)) = refl
after_start (some (suc n, rest)) = rw (ne_eqb (suc n) 0 (λ z. omega arith)) (some_first (suc n * 1 + 0) (suc n) rest (omega arith))

-- one group more, of which the top bit is set
weigh : (n low weight b : ℕ) → (n * 128 + b) * weight + low ≡ n * (weight * 128) + (low + b * weight)
weigh n low weight b =
    let e : (n * 128 + b) * weight ≡ n * (weight * 128) + b * weight =
    add-mul (n * 128) b weight ∙ ap (λ (x : ℕ). x + b * weight) (mul_assoc n 128 weight ∙ ap (λ (x : ℕ). n * x) (mul_comm 128 weight)) in
    omega (arith, e)

after_more : (low weight b : ℕ) (o : Result) → 1 ≤ weight → after low weight (and_then o (more_groups b)) ≡ after (low + b * weight) (weight * 128) o
unfolding after and_then more_groups pure refuse
after_more low weight b none h = refl
after_more low weight b (some (zero, rest)) h = rw (lt-ltb 1 (weight * 128) (omega arith))
after_more low weight b (some (suc n, rest)) h =
    rw (ne_eqb (suc n) 0 (λ z. omega arith), ne_eqb (suc n * 128 + b) 0 (λ z. omega arith)) (some_first _ _ rest (weigh (suc n) low weight b))

-- a group more than is in range
after_large : (low weight b : ℕ) (o : Result) → large_weight ≤ weight → ranged (after low weight (and_then o (more_groups b))) ≡ none
unfolding after and_then more_groups pure refuse passing
after_large low weight b none h = refl
after_large low weight b (some (zero, rest)) h = refl
after_large low weight b (some (suc n, rest)) h =
    let m : 128 * weight ≤ (suc n * 128 + b) * weight = mul-le-mul_right weight (omega arith) in
    rw (
      ne_eqb (suc n) 0 (λ z. omega arith),
      ne_eqb (suc n * 128 + b) 0 (λ z. omega arith),
      le-ltb ((suc n * 128 + b) * weight + low) number_range (omega arith),
    )

-- the bytes from a place on
number_past : (s : List ℕ) (i : ℕ) → length s ≤ i → read_number (drop i s) ≡ none
unfolding read_number
number_past s i h = rw (drop_of_length-le s h)

number_last : (s : List ℕ) (i : ℕ) → i < length s → get_or s i 0 < 128 → read_number (drop i s) ≡ some (get_or s i 0, drop (i + 1) s)
unfolding read_number
number_last s i h l = rw (add-one i, drop-cons s i 0 h, lt-ltb (get_or s i 0) 128 l)

number_goes : (s : List ℕ) (i : ℕ) → i < length s → 128 ≤ get_or s i 0
    → read_number (drop i s) ≡ and_then (read_number (drop (i + 1) s)) (more_groups (get_or s i 0 - 128))
unfolding read_number
number_goes s i h l = rw (add-one i, drop-cons s i 0 h, le-ltb (get_or s i 0) 128 l)

-- what a group adds: less than its weight is of the next
pub group_below : (b weight : ℕ) → b < 128 → b * weight ≤ 127 * weight
group_below b weight h = mul-le-mul_right weight (omega arith)

-- ---- the loop

pub record Groups (s : List ℕ) (at low weight i : ℕ) : Type 0 where
  pub below : low < weight
  pub light : weight ≤ number_range
  pub reads : number32 (drop at s) ≡ ranged (after low weight (read_number (drop i s)))

pub groups_start : (s : List ℕ) (at : ℕ) → Groups s at 0 1 at
unfolding number32 ◌>>=◌
groups_start s at = record {
  below = omega arith;
  light = omega arith;
  reads = ap ranged (sym (after_start (read_number (drop at s))));
}

module _ {s : List ℕ} {at low weight i : ℕ} (g : Groups s at low weight i) where
  by : {o : Result} → read_number (drop i s) ≡ o → number32 (drop at s) ≡ ranged (after low weight o)
  by e = g.reads ∙ ap (λ (o : Result). ranged (after low weight o)) e

  pub groups_end : length s ≤ i → number32 (drop at s) ≡ none
  unfolding after and_then
  groups_end h = by (number_past s i h)

  module _ (h : i < length s) where
    module _ (l : get_or s i 0 < 128) where
      pub groups_spare : get_or s i 0 ≡ 0 → 1 < weight → number32 (drop at s) ≡ none
      unfolding after and_then
      groups_spare e k = by (number_last s i h l) ∙ rw (eq-eqb (get_or s i 0) 0 e, lt-ltb 1 weight k)

      -- a last group that is there for something
      last : (get_or s i 0 ≡ 0 → weight ≤ 1) → number32 (drop at s) ≡ ranged (some (get_or s i 0 * weight + low, drop (i + 1) s))
      unfolding after
      last k = by (number_last s i h l) ∙ go (ℕ_discrete (get_or s i 0) 0)
        where
          go : Dec (get_or s i 0 ≡ 0) → ranged (if spare (get_or s i 0) weight then none else some (get_or s i 0 * weight + low, drop (i + 1) s))
              ≡ ranged (some (get_or s i 0 * weight + low, drop (i + 1) s))
          go (yes e) = rw (eq-eqb (get_or s i 0) 0 e, le-ltb 1 weight (k e))
          go (no e) = rw (ne_eqb (get_or s i 0) 0 e)

      pub groups_last : (get_or s i 0 ≡ 0 → weight ≤ 1) → get_or s i 0 * weight + low < number_range
          → number32 (drop at s) ≡ some (get_or s i 0 * weight + low, drop (i + 1) s)
      unfolding and_then passing pure
      groups_last k u = last k ∙ rw (lt-ltb (get_or s i 0 * weight + low) number_range u)

      pub groups_beyond : (get_or s i 0 ≡ 0 → weight ≤ 1) → number_range ≤ get_or s i 0 * weight + low → number32 (drop at s) ≡ none
      unfolding and_then passing refuse
      groups_beyond k u = last k ∙ rw (le-ltb (get_or s i 0 * weight + low) number_range u)

    module _ (l : 128 ≤ get_or s i 0) where
      pub groups_large : large_weight ≤ weight → number32 (drop at s) ≡ none
      groups_large e = by (number_goes s i h l) ∙ after_large low weight (get_or s i 0 - 128) (read_number (drop (i + 1) s)) e

      pub groups_more : get_or s i 0 < 256 → weight < large_weight → Groups s at (low + (get_or s i 0 - 128) * weight) (weight * 128) (i + 1)
      groups_more u k = record {
        below = omega (arith, group_below (get_or s i 0 - 128) weight (omega arith), g.below);
        light = omega arith;
        reads =
            by (number_goes s i h l)
            ∙ ap ranged (after_more low weight (get_or s i 0 - 128) (read_number (drop (i + 1) s)) (omega (arith, g.below)));
      }

-- what the steps of the loop come to
pub ruleset by_groups = (group_below, groups_start, groups_end, groups_spare, groups_last, groups_beyond, groups_large, groups_more)
