-- No answer that went out is missing from the history: what a failover drops was not answered.
use Rattle.std.specs.Prelude.{if◌then◌else◌}
use Prim.Native.Nat.{ℕ, ◌-◌}
use mathlib.Core.Path.{◌≡◌, refl, sym, ap, ◌∙◌}
use mathlib.Core.Bool.{Bool, true, false}
use mathlib.Core.List.{List, [], ◌∷◌, ◌++◌, append_assoc, append-nil}
use lib.ListN.{length, drop}
use lib.Dec.{leb}
use Rattle.rules.specs.Group.{Group, fresh}
use Rattle.rules.specs.Course.{Call}
use Rattle.rules.specs.Readings.{Item, happens, next_group, reads}
use Rattle.rules.specs.Journal.{counted, entry, heading, stored_by}
use Rattle.rules.specs.Brokers.{AnswersCount, Unanswered, acts, answered_in, born, born_at, counted_in, fails, history_of, only_told, told_in}

told_append : (is js : List Item) → told_in (is ++ js) ≡ told_in is ++ told_in js
unfolding told_in
told_append [] js = refl
told_append (happens t told ∷ is) js = ap (λ (l : List Call). only_told told t ++ l) (told_append is js) ∙ sym (append_assoc (only_told told t) (told_in is) (told_in js))
told_append (reads t ∷ is) js = told_append is js

none_told : (is : List Item) → Unanswered is → told_in is ≡ []
unfolding told_in
none_told [] h = refl
none_told (happens t told ∷ is) h = rw h.0 (none_told is h.1)
none_told (reads t ∷ is) h = none_told is h

-- the events that count are the first ones
counted_first : (n : ℕ) (g : Group) (is : List Item) → counted n g is ++ drop (length (counted n g is)) is ≡ is
unfolding counted
counted_first n g [] = refl
counted_first n g (i ∷ is) = pick (leb (length (entry (stored_by g i))) n) _ (counted_first (n - length (entry (stored_by g i))) (next_group g i) is)
  where
    pick : (b : Bool) (js : List Item) → js ++ drop (length js) is ≡ is
        → let k = if b then i ∷ js else [] in k ++ drop (length k) (i ∷ is) ≡ i ∷ is
    pick true js e = ap (λ (l : List Item). i ∷ l) e
    pick false js e = refl

pub answers_count : AnswersCount
unfolding history_of answered_in told_in counted_in
answers_count (born s) h = refl
answers_count (acts l t told) h =
    told_append (history_of l) (happens t told ∷ [])
    ∙ ap (λ (c : List Call). told_in (history_of l) ++ c) (append-nil (only_told told t))
    ∙ ap (λ (c : List Call). c ++ only_told told t) (answers_count l h)
answers_count (fails l n t) h =
    let kept = counted_in n l (history_of l) in
    let dropped = drop (length kept) (history_of l) in
    told_append kept (reads t ∷ [])
    ∙ ap (λ (c : List Call). told_in kept ++ c) (sym (none_told dropped h.0))
    ∙ sym (told_append kept dropped)
    ∙ ap told_in (counted_first (n - length heading) (fresh (born_at l)) (history_of l))
    ∙ answers_count l h.1
