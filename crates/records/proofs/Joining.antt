-- Writers one after another, each lent the part of the buffer where the last ended: nothing, a byte, and one thing after another.
use Rattle.std.proofs.Common.{refl, ap, length, ℕ, ◌+◌, ◌-◌, ◌≤◌, List, [], ◌∷◌, ◌++◌}
use mathlib.Core.List.{append-nil}
use lib.ListN.{take, drop, set}
use Rattle.rules.specs.Step.{overlay}
use Rattle.numbers.specs.Buffer.{Wrote}
use Rattle.numbers.proofs.Writing.{begin, begun, first, next, put_one, ended}

pub wrote_none : (b : List ℕ) → Wrote [] b b 0
unfolding overlay
wrote_none b = record { count = refl; bytes = refl }

pub wrote_byte : (x : ℕ) (b : List ℕ) → 1 ≤ length b → Wrote (x ∷ []) b (set b 0 x) 1
wrote_byte x b h = ended (put_one (begin ((x ∷ []) ∷ []) (x ∷ []) b refl h)) refl

pub wrote_both : {u v b b' last : List ℕ} {n m : ℕ} → length (u ++ v) ≤ length b → Wrote u b b' n → Wrote v (take (length b' - n) (drop n b')) last m
    → Wrote (u ++ v) b (take n b' ++ (last ++ drop (length b' - n) (drop n b'))) (n + m)
wrote_both {u = u} {v = v} h p q = ended (next (first (begun {us = u ∷ v ∷ []} (ap (λ (l : List ℕ). u ++ l) (append-nil v)) h).run p) q).run refl
