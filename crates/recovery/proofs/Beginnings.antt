-- How bytes begin: with the heading or not, with a right length or not, and what the reader makes of each.
use Prim.Native.Nat.{ℕ, ◌+◌, ◌-◌, ◌*◌, ◌/◌, ◌%◌, ◌≤◌, ◌<◌}
use native.Mathlib.Decide.{dec_lt}
use native.Mathlib.Omega.{arith}
use mathlib.Core.Path.{◌≡◌, refl, sym, ap, ◌∙◌, subst}
use mathlib.Core.Logic.{◌⊎◌, inl, inr, ⊎_elim}
use mathlib.Core.Bool.{Bool, true, false, ◌||◌, true≢false}
use mathlib.Core.List.{List, [], ◌∷◌, ◌++◌}
use lib.ListN.{get_or, drop}
use lib.Dec.{eqb, leb, ltb}
use borrow.Author.Tests.{eqb-false, eqb-true, le-ltb, lt-leb, ltb-false, ltb-true, ne_eqb}
use Rattle.rules.specs.Constants.{batch_limit}
use Rattle.rules.specs.Group.{fresh}
use Rattle.rules.specs.Records.{number}
use Rattle.rules.specs.Journal.{LengthRead, Reading, bad_length, batch_of, cut_length, no_length, read_heading, read_length, refused_at, second_group, torn_from}
use Rattle.rules.specs.Files.{BadLength, Bytes, EndInside, IsLength, NeverBegin}
use Rattle.rules.proofs.Lists.{or_false}
use Rattle.rules.proofs.Number.{number_small}
use Rattle.theorems.proofs.Cases.{if_cases}
use Rattle.recovery.proofs.Lengths.{number_two}

first : {b c : ℕ} {bs cs : List ℕ} → b ∷ bs ≡ c ∷ cs → b ≡ c
first e = ap (λ (l : List ℕ). get_or l 0 0) e

later : {b c : ℕ} {bs cs : List ℕ} → b ∷ bs ≡ c ∷ cs → bs ≡ cs
later e = ap (drop 1) e

-- ---- the heading

module _ (t : ℕ) (more : List ℕ → Reading) (P : Reading → Type 0) where
  pub heading_cases : (hs bytes : List ℕ) → ((rest : List ℕ) → bytes ≡ hs ++ rest → P (more rest))
      → (EndInside bytes hs → P (record { group = fresh t; verdict = torn_from 0 }))
      → (NeverBegin bytes hs → P (record { group = fresh t; verdict = refused_at 0 }))
      → P (read_heading hs bytes t more)
  unfolding read_heading
  heading_cases [] bytes there cut other = there bytes refl
  heading_cases (h ∷ hs) [] there cut other = cut (record { more = h ∷ hs; short = refl; go_on = refl })
  heading_cases (h ∷ hs) (b ∷ bs) there cut other =
      if_cases P (eqb h b)
      (λ e.
      let q = sym (eqb-true h b e) in
      heading_cases hs bs (λ rest k. there rest (λ i. q i ∷ k i))
      (λ k. cut (record { more = k.more; short = k.short; go_on = λ i. q i ∷ k.go_on i }))
      (λ k. other (λ l rest d. k l rest (later d))))
      (λ e. other (λ l rest d. eqb-false h b e (sym (first d))))

-- ---- a length

-- a right length in fewest bytes: of one byte, or of two
record OneByte (b n : ℕ) (bs rest : List ℕ) : Type 0 where
  small : n < 128
  low : b ≡ n

record TwoBytes (b n : ℕ) (bs rest : List ℕ) : Type 0 where
  large : 128 ≤ n
  low : b ≡ n % 128 + 128
  high : bs ≡ n / 128 ∷ rest

begins : (b n : ℕ) (bs rest : List ℕ) → IsLength n → b ∷ bs ≡ number n ++ rest → OneByte b n bs rest ⊎ TwoBytes b n bs rest
begins b n bs rest l e = pick (dec_lt n 128)
  where
    pick : Dec (n < 128) → OneByte b n bs rest ⊎ TwoBytes b n bs rest
    pick (yes q) = inl (record { small = q; low = first (e ∙ ap (λ (x : List ℕ). x ++ rest) (number_small n q)) })
    pick (no q) =
        let large : 128 ≤ n = omega arith in
        let d = e ∙ ap (λ (x : List ℕ). x ++ rest) (number_two n large l.1) in
        inr (record { large = large; low = first d; high = later d })

zero_bad : (bs : List ℕ) → BadLength (0 ∷ bs)
zero_bad bs n l more rest e = ⊎_elim (λ o. omega (arith, o.low, l.0)) (λ w. omega (arith, w.low)) (begins 0 n (bs ++ more) rest l e)

abbrev refuses : ℕ → ℕ → Bool
refuses b c = leb 128 c || (eqb c 0 || ltb batch_limit (c * 128 + (b - 128)))

two_bad : (b c : ℕ) (bs : List ℕ) → 128 ≤ b → refuses b c ≡ true → BadLength (b ∷ c ∷ bs)
two_bad b c bs h bad n l more rest e =
    ⊎_elim (λ o. omega (arith, o.low, o.small)) (λ w. true≢false (sym bad ∙ right w)) (begins b n (c ∷ (bs ++ more)) rest l e)
  where
    right : TwoBytes b n (c ∷ (bs ++ more)) rest → refuses b c ≡ false
    right w =
        let low = w.low in
        let high : c ≡ n / 128 = first w.high in
        let large = w.large in
        let most = l.1 in
        rw (lt-leb 128 c (omega arith), ne_eqb c 0 (λ z. omega arith), le-ltb batch_limit (c * 128 + (b - 128)) (omega arith)) refl

module _ (P : LengthRead → Type 0) where
  abbrev Right : List ℕ → Type 0
  Right bytes = (n : ℕ) (rest : List ℕ) → IsLength n → bytes ≡ number n ++ rest → P (batch_of n rest)

  second_cases : (b : ℕ) (bs : List ℕ) → 128 ≤ b → b < 256 → (bs ≡ [] → P cut_length) → (BadLength (b ∷ bs) → P bad_length) → Right (b ∷ bs)
      → P (second_group (b - 128) bs)
  unfolding second_group
  second_cases b [] h low cut bad right = cut refl
  second_cases b (c ∷ bs) h low cut bad right =
      if_cases P (refuses b c) (λ e. bad (two_bad b c bs h e)) (λ e.
      let x = or_false (leb 128 c) _ e in
      let y = or_false (eqb c 0) _ x.1 in
      let n = c * 128 + (b - 128) in
      let some' : 0 < c = omega (arith, eqb-false c 0 y.0) in
      let most : n ≤ batch_limit = ltb-false batch_limit n y.1 in
      let d : n % 128 + 128 ≡ b = omega arith in
      let q : n / 128 ≡ c = omega arith in
      right n bs (omega arith, most) (sym (ap (λ (l : List ℕ). l ++ bs) (number_two n (omega arith) most ∙ (λ i. d i ∷ q i ∷ [])))))

  pub length_cases : (bytes : List ℕ) → Bytes bytes → (bytes ≡ [] → P no_length) → ((b : ℕ) → 128 ≤ b → b < 256 → bytes ≡ b ∷ [] → P cut_length)
      → (BadLength bytes → P bad_length) → Right bytes → P (read_length bytes)
  unfolding read_length
  length_cases [] ok end cut bad right = end refl
  length_cases (b ∷ bs) ok end cut bad right =
      if_cases P (ltb b 128)
      (λ l. if_cases P (eqb b 0)
      (λ z. bad (subst (λ (x : ℕ). BadLength (x ∷ bs)) (sym (eqb-true b 0 z)) (zero_bad bs)))
      (λ z.
      let low : b < 128 = ltb-true b 128 l in
      let some' : 0 < b = omega (arith, eqb-false b 0 z) in
      right b bs (some', omega arith) (ap (λ (x : List ℕ). x ++ bs) (sym (number_small b low)))))
      (λ l.
      let high : 128 ≤ b = ltb-false b 128 l in
      second_cases b bs high ok.0 (λ e. cut b high ok.0 (ap (λ (x : List ℕ). b ∷ x) e)) bad right)
