-- A buffer that is written from its start, part after part. `Writing` says what is there and which parts are to come. `begin` starts it, `put_one` (one element)
-- and `put_at_lem` (a part written at its place) take it further, `ended` closes it. A writer that was lent a part of the buffer wrote at a place (`part_over`).
-- A straight line of such writers goes by `Stage`, `begun`, `first`, `next` and `next_at`.
use Rattle.std.proofs.Common.{refl, sym, ap, ap₂, ◌∙◌, append_assoc, append-nil, le_of_eq, zero-add, arith, add-one, length-append, length-drop, drop_of_length-le, drop-cons, take_at, drop_at, drop-drop, take_all, ◌≡◌, List, [], ◌∷◌, ◌++◌, ℕ, suc, ◌+◌, ◌-◌, ◌≤◌, ◌<◌, length, take, drop}
use lib.ListN.{set}
use lib.Seq.{set_at}
use Rattle.rules.specs.Step.{overlay}
use Rattle.numbers.specs.Buffer.{overlay_at, Wrote, WroteAt, flat}

-- w goes to the front of the buffer b₀: its first at elements are there, the parts us are to come, and buf is the buffer as it is
pub record Writing {A : Type 0} (w b₀ buf : List A) (at : ℕ) (us : List (List A)) : Type 0 where
  pub done : List A
  pub is : buf ≡ done ++ drop at b₀
  pub far : length done ≡ at
  pub whole : done ++ flat us ≡ w
  pub fits : length w ≤ length b₀

pub begin : {A : Type 0} (us : List (List A)) (w b : List A) → flat us ≡ w → length w ≤ length b → Writing w b b 0 us
begin us w b e h = record { done = []; is = refl; far = refl; whole = e; fits = h }

module _ {A : Type 0} {w b₀ buf : List A} {us : List (List A)} {at : ℕ} (s : Writing w b₀ buf at us) where
  -- for omega: how far it is
  pub to_go : at + length (flat us) ≡ length w
  to_go = rw (← s.far, ← (length-append s.done (flat us)), s.whole)

  pub same_len : length buf ≡ length b₀
  same_len =
      let e : length buf ≡ length s.done + (length b₀ - at) = rw (s.is, length-append, length-drop) in
      omega (arith, to_go, s.far, s.fits)

  pub in_range_lem : at ≤ length buf
  in_range_lem = omega (arith, to_go, same_len, s.fits)

  beyond : drop at buf ≡ drop at b₀
  beyond = rw s.is (drop_at s.done (drop at b₀) at s.far)

  before : take at buf ≡ s.done
  before = rw s.is (take_at s.done (drop at b₀) at s.far)

  -- the parts may be cut otherwise
  pub recut : (vs : List (List A)) → flat vs ≡ flat us → Writing w b₀ buf at vs
  recut vs e = record { done = s.done; is = s.is; far = s.far; whole = ap (λ (l : List A). s.done ++ l) e ∙ s.whole; fits = s.fits }

  -- nothing is to come
  pub ended : flat us ≡ [] → Wrote w b₀ buf at
  unfolding overlay
  ended z =
      let e : s.done ≡ w = sym (append-nil s.done) ∙ ap (λ (l : List A). s.done ++ l) (sym z) ∙ s.whole in
      let n : at ≡ length w = sym s.far ∙ ap length e in
      record { count = n; bytes = s.is ∙ ap₂ (λ (l : List A) (k : ℕ). l ++ drop k b₀) e n }

-- one element more
pub put_one : {A : Type 0} {w b₀ buf u : List A} {us : List (List A)} {at : ℕ} {v : A} → Writing w b₀ buf at ((v ∷ u) ∷ us) → Writing w b₀ (set buf at v) (at + 1) (u ∷ us)
put_one {A} {w} {b₀} {buf} {u} {us} {at} {v} s =
    let l : at < length b₀ = omega (arith, to_go s, s.fits) in
    record {
      done = s.done ++ v ∷ [];
      is =
          rw (s.is, drop-cons b₀ at v l) (set_at s.done _ (drop (suc at) b₀) v at s.far
          ∙ sym (append_assoc s.done (v ∷ []) (drop (at + 1) b₀) ∙ ap (λ (n : ℕ). s.done ++ v ∷ drop n b₀) (add-one at)));
      far = length-append s.done (v ∷ []) ∙ ap (λ (n : ℕ). n + 1) s.far;
      whole = append_assoc s.done (v ∷ []) (u ++ flat us) ∙ s.whole;
      fits = s.fits;
    }

-- `&mut buf[at..]` lends `take (length buf - at) (drop at buf)`, and brings `last` back as `take at buf ++ (last ++ drop (length buf - at) (drop at buf))`
part_all : {A : Type 0} (buf : List A) (at : ℕ) → take (length buf - at) (drop at buf) ≡ drop at buf
part_all buf at = take_all (length buf - at) (drop at buf) (le_of_eq (length-drop at buf))

part_none : {A : Type 0} (buf : List A) (at : ℕ) → drop (length buf - at) (drop at buf) ≡ []
part_none buf at = drop_of_length-le (drop at buf) (le_of_eq (length-drop at buf))

pub part_over : {A : Type 0} (u buf last : List A) (at n : ℕ) → Wrote u (take (length buf - at) (drop at buf)) last n
    → WroteAt u at buf (take at buf ++ (last ++ drop (length buf - at) (drop at buf))) (at + n)
unfolding overlay overlay_at
part_over u buf last at n p = record {
  place = ap (λ (k : ℕ). at + k) p.count;
  bytes = rw (part_none buf at, append-nil last, p.bytes, part_all buf at);
}

module _ {A : Type 0} {w b₀ buf u : List A} {us : List (List A)} {at : ℕ} (s : Writing w b₀ buf at (u ∷ us)) where
  -- for omega, where a part is to come: how far it is
  pub to_go₁ : at + (length u + length (flat us)) ≡ length w
  to_go₁ = rw (← (length-append u (flat us))) (to_go s)

  -- what a writer of the next part requires: of the place, of the part that it is lent, of the whole buffer
  pub room_at : at + length u ≤ length buf
  room_at = omega (arith, to_go₁, same_len s, s.fits)

  pub room : length u ≤ length (take (length buf - at) (drop at buf))
  room = rw (part_all buf at, length-drop at buf) (omega (arith, to_go₁, same_len s, s.fits))

  pub room₀ : length u ≤ length buf
  room₀ = omega (arith, to_go₁, same_len s, s.fits)

  -- the next part was written at the place
  pub put_at_lem : {last : List A} {n : ℕ} → WroteAt u at buf last n → Writing w b₀ last n us
  unfolding overlay overlay_at
  put_at_lem {last} {n} p = record {
    done = s.done ++ u;
    is = rw (p.bytes, before s, beyond s, drop-drop (length u) at b₀, p.place) (sym (append_assoc s.done u (drop (at + length u) b₀)));
    far = length-append s.done u ∙ ap (λ (x : ℕ). x + length u) s.far ∙ sym p.place;
    whole = append_assoc s.done u (flat us) ∙ s.whole;
    fits = s.fits;
  }

-- the next part is cut in two
pub cut : {A : Type 0} {w b₀ buf x u l : List A} {us : List (List A)} {at : ℕ} → x ≡ u ++ l → Writing w b₀ buf at (x ∷ us) → Writing w b₀ buf at (u ∷ l ∷ us)
cut {u = u} {l = l} {us = us} e s = recut s (u ∷ l ∷ us) (sym (append_assoc u l (flat us)) ∙ ap (λ y. y ++ flat us) (sym e))

-- a list over the whole buffer
pub filled : {A : Type 0} {w b b' : List A} {n : ℕ} → Wrote w b b' n → length w ≡ length b → b' ≡ w
unfolding overlay
filled {w = w} {b = b} p e = p.bytes ∙ ap (λ l. w ++ l) (drop_of_length-le b (le_of_eq (sym e))) ∙ append-nil w

-- ---- a straight line of writers, each lent the part where the last ended. The buffer and the place are kept with the run, so that no proof writes them out
pub record Stage {A : Type 0} (w b₀ : List A) (us : List (List A)) : Type 0 where
  pub buf : List A
  pub at : ℕ
  pub run : Writing w b₀ buf at us

pub over_whole : {A : Type 0} (u b last : List A) (n : ℕ) → Wrote u b last n → WroteAt u 0 b last n
unfolding overlay_at
over_whole u b last n p = record { place = p.count ∙ sym (zero-add (length u)); bytes = p.bytes }

abbrev pub begun : {A : Type 0} {w b : List A} {us : List (List A)} → flat us ≡ w → length w ≤ length b → Stage w b us
begun {b = b} e h = record { buf = b; at = 0; run = begin _ _ _ e h }

-- the first was lent the whole buffer, and each other the part, or wrote at the place
abbrev pub first : {A : Type 0} {w b u : List A} {us : List (List A)} {last : List A} {n : ℕ} → Writing w b b 0 (u ∷ us) → Wrote u b last n → Stage w b us
first {last = last} {n = n} s p = record { buf = last; at = n; run = put_at_lem s (over_whole _ _ last n p) }

abbrev pub next : {A : Type 0} {w b₀ u : List A} {us : List (List A)} {last : List A} {n : ℕ} (t : Stage w b₀ (u ∷ us))
    → Wrote u (take (length t.buf - t.at) (drop t.at t.buf)) last n → Stage w b₀ us
next {last = last} {n = n} t p = record {
  buf = take t.at t.buf ++ (last ++ drop (length t.buf - t.at) (drop t.at t.buf));
  at = t.at + n;
  run = put_at_lem t.run (part_over _ t.buf last t.at n p);
}

abbrev pub next_at : {A : Type 0} {w b₀ u : List A} {us : List (List A)} {last : List A} {n : ℕ} (t : Stage w b₀ (u ∷ us)) → WroteAt u t.at t.buf last n → Stage w b₀ us
next_at {last = last} {n = n} t p = record { buf = last; at = n; run = put_at_lem t.run p }

-- ---- the length of parts

abbrev pub lengths : {A : Type 0} → List (List A) → ℕ
lengths [] = 0
lengths (u ∷ us) = length u + lengths us

pub flat_length : {A : Type 0} (us : List (List A)) → length (flat us) ≡ lengths us
flat_length [] = refl
flat_length (u ∷ us) = length-append u (flat us) ∙ ap (λ (n : ℕ). length u + n) (flat_length us)
