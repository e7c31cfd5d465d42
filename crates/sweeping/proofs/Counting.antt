-- The marked places of a table of marks, entry by entry: how many there are.
use Rattle.std.proofs.Common.{ℕ, suc, ◌+◌, ◌<◌, arith, ◌≡◌, refl, sym, ap, ◌∙◌, Bool, true, false, List, [], ◌∷◌, length, get_or}
use Rattle.std.specs.Prelude.{count_by, filter}
use Rattle.std.proofs.lemmas.List.Sums.{length-filter}
use Rattle.rules.specs.Basics.{keep, up_to}
use Rattle.rules.specs.Constants.{max_members}
use Rattle.sweeping.specs.Marks.{mark, marked}

counted : (f : ℕ → Bool) (l : List Bool) (n : ℕ) → ((k m : ℕ) → k < length l → m ≡ n + k → f m ≡ get_or l k false) → length (filter (λ x. x) l) ≡ length (keep f (up_to n (length l)))
unfolding keep up_to
counted f [] n e = refl
counted f (x ∷ l) n e = go x (e 0 n (omega arith) (omega arith)) (counted f l (suc n) (λ k m h q. e (suc k) m (omega arith) (omega arith)))
  where
    go : (b : Bool) → f n ≡ b → length (filter (λ x. x) l) ≡ length (keep f (up_to (suc n) (length l))) → length (filter (λ x. x) (b ∷ l)) ≡ length (keep f (up_to n (suc (length l))))
    go true q h = rw q (ap suc h)
    go false q h = rw q h

pub count_marked : (marks : List Bool) → length marks ≡ max_members → count_by (λ x. x) marks ≡ length (marked marks)
unfolding marked
count_marked marks n = sym (length-filter (λ x. x) marks) ∙ counted (mark marks) marks 0 (λ k m h q. ap (mark marks) (omega arith)) ∙ ap (λ (k : ℕ). length (keep (mark marks) (up_to 0 k))) n
