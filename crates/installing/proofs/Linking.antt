-- The slots of a target linked from the last to the first (`link_none`, `link_some`), and the set of a place along its links.
use Rattle.std.proofs.Common.{ℕ, ◌+◌, ◌≤◌, ◌<◌, arith, add-one, ◌≡◌, sym, ap, ◌∙◌, subst, true, false, true≢false, List, length, get_or, set, length-set, get_or-set_same, get_or-set_other, eq-eqb, ne_eqb, eqb-true}
use native.Mathlib.Decide.{ℕ_discrete}
use Rattle.rules.specs.Constants.{max_members, slot_count}
use Rattle.rules.specs.Basics.{keep, up_to}
use Rattle.rules.specs.Group.{set_m}
use Rattle.slots.proofs.Selecting.{select_in, select_out, select_skip}
use Rattle.installing.specs.Targets.{unheld}
use Rattle.installing.specs.Links.{is_of, slots_from, NextOf, LinkedFrom}
use Rattle.installing.proofs.Targets.{set_is}

-- ---- links

module _ (target firsts counts nexts : List ℕ) where
  -- past the last slot
  pub link_begin : length target ≡ slot_count → length firsts ≡ max_members → length counts ≡ max_members → length nexts ≡ slot_count → ((p : ℕ) → p < max_members → get_or firsts p 0 ≡ slot_count)
      → ((p : ℕ) → p < max_members → get_or counts p 0 ≡ 0) → LinkedFrom slot_count target firsts counts nexts
  unfolding keep up_to
  link_begin k l m n e z = record {
    whole = k;
    firsts_long = l;
    counts_long = m;
    nexts_long = n;
    count = z;
    first = λ p q. (omega (arith, e p q), omega (arith, e p q), λ s a b. absurd (omega (arith, e p q)), λ h. absurd (omega (arith, e p q)));
    next = λ p q s a b c. absurd (omega arith);
  }

  module _ {from : ℕ} (s : ℕ) (f : LinkedFrom from target firsts counts nexts) (e : from ≡ s + 1) (l : s < slot_count) where
    -- the slot is not the place's
    passed : (p : ℕ) → is_of target p s ≡ false → {r : ℕ} → NextOf target p from r → NextOf target p s r
    passed p z {r} n = (omega (arith, e, n.0), n.1, λ x a b. at x a b (ℕ_discrete x s), n.3)
      where
        at : (x : ℕ) → s ≤ x → x < r → Dec (x ≡ s) → is_of target p x ≡ false
        at x a b (yes q) = ap (is_of target p) q ∙ z
        at x a b (no q) = n.2 x (omega (arith, e)) b

    uncounted : (p : ℕ) {n : ℕ} → is_of target p s ≡ false → n ≡ length (slots_from target p from) → n ≡ length (slots_from target p s)
    uncounted p z c = c ∙ ap (λ (k : ℕ). length (slots_from target p k)) e ∙ sym (ap length (select_out (is_of target p) s slot_count l z))

    -- the slot has no place
    pub link_none : max_members ≤ get_or target s 0 → LinkedFrom s target firsts counts nexts
    link_none h = record {
      whole = f.whole;
      firsts_long = f.firsts_long;
      counts_long = f.counts_long;
      nexts_long = f.nexts_long;
      count = λ p q. uncounted p (other p q) (f.count p q);
      first = λ p q. passed p (other p q) (f.first p q);
      next = λ p q x a b c. f.next p q x (later p q x a c (ℕ_discrete x s)) b c;
    }
      where
        other : (p : ℕ) → p < max_members → is_of target p s ≡ false
        other p q = ne_eqb (get_or target s 0) p (λ (r : get_or target s 0 ≡ p). omega arith)

        later : (p : ℕ) → p < max_members → (x : ℕ) → s ≤ x → is_of target p x ≡ true → Dec (x ≡ s) → from ≤ x
        later p q x a c (yes r) = absurd (true≢false (sym c ∙ ap (is_of target p) r ∙ other p q))
        later p q x a c (no r) = omega (arith, e)

    -- the slot becomes the first of its place
    pub link_some : {t : ℕ} → get_or target s 0 ≡ t → t < max_members → LinkedFrom s target (set firsts t s) (set counts t (get_or counts t 0 + 1)) (set nexts s (get_or firsts t 0))
    link_some {t} z h = record {
      whole = f.whole;
      firsts_long = length-set firsts t s ∙ f.firsts_long;
      counts_long = length-set counts t (get_or counts t 0 + 1) ∙ f.counts_long;
      nexts_long = length-set nexts s (get_or firsts t 0) ∙ f.nexts_long;
      count = λ p q. count_at p q (ℕ_discrete p t);
      first = λ p q. first_at p q (ℕ_discrete p t);
      next = λ p q x a b c. next_at p q x a b c (ℕ_discrete x s);
    }
      where
        first_at : (p : ℕ) → p < max_members → Dec (p ≡ t) → NextOf target p s (get_or (set firsts t s) p 0)
        first_at p q (yes r) = subst (NextOf target p s) (sym (ap (λ (k : ℕ). get_or (set firsts t s) k 0) r ∙ get_or-set_same firsts t s 0 (omega (arith, f.firsts_long))))
            (omega arith, omega arith, λ x a b. absurd (omega arith), λ _. eq-eqb (get_or target s 0) p (z ∙ sym r))
        first_at p q (no r) = subst (NextOf target p s) (sym (get_or-set_other firsts t p s 0 r)) (passed p (ne_eqb (get_or target s 0) p (λ k. r (sym k ∙ z))) (f.first p q))

        count_at : (p : ℕ) → p < max_members → Dec (p ≡ t) → get_or (set counts t (get_or counts t 0 + 1)) p 0 ≡ length (slots_from target p s)
        count_at p q (yes r) =
            let c = f.count p q ∙ ap (λ (k : ℕ). length (slots_from target p k)) e in
            let v = get_or-set_same counts t (get_or counts t 0 + 1) 0 (omega (arith, f.counts_long)) in
            let k = ap length (select_in (is_of target p) s slot_count l (eq-eqb (get_or target s 0) p (z ∙ sym r))) in
            ap (λ (k : ℕ). get_or (set counts t (get_or counts t 0 + 1)) k 0) r ∙ v ∙ ap (λ (k : ℕ). get_or counts k 0 + 1) (sym r) ∙ ap (λ (k : ℕ). k + 1) c ∙ add-one _ ∙ sym k
        count_at p q (no r) = get_or-set_other counts t p (get_or counts t 0 + 1) 0 r ∙ uncounted p (ne_eqb (get_or target s 0) p (λ k. r (sym k ∙ z))) (f.count p q)

        next_at : (p : ℕ) → p < max_members → (x : ℕ) → s ≤ x → x < slot_count → is_of target p x ≡ true → Dec (x ≡ s) → NextOf target p (x + 1) (get_or (set nexts s (get_or firsts t 0)) x 0)
        next_at p q x a b c (yes r) =
            let u : t ≡ p = sym z ∙ ap (λ (k : ℕ). get_or target k 0) (sym r) ∙ eqb-true (get_or target x 0) p c in
            let n : NextOf target p from (get_or firsts p 0) = f.first p q in
            let v : get_or (set nexts s (get_or firsts t 0)) x 0 ≡ get_or firsts p 0 =
            ap (λ (k : ℕ). get_or (set nexts s (get_or firsts t 0)) k 0) r ∙ get_or-set_same nexts s (get_or firsts t 0) 0 (omega (arith, f.nexts_long)) ∙ ap (λ (k : ℕ). get_or firsts k 0) u in
            subst (NextOf target p (x + 1)) (sym v) (omega (arith, e, r, n.0), n.1, λ y i j. n.2 y (omega (arith, e, r)) j, n.3)
        next_at p q x a b c (no r) = subst (NextOf target p (x + 1)) (sym (get_or-set_other nexts s x (get_or firsts t 0) 0 r)) (f.next p q x (omega (arith, e)) b c)

-- ---- along the links of a place

module _ (target : List ℕ) (p : ℕ) where
  -- from one slot of the place to the next
  pub skip_to : {from r : ℕ} → NextOf target p from r → slots_from target p from ≡ slots_from target p r
  skip_to {from} {r} n = select_skip (is_of target p) slot_count from r n.0 n.1 n.2

  -- the set of the place from its first slot on
  pub set_from : {r : ℕ} → length target ≡ slot_count → NextOf target p 0 r → set_m p (unheld target) ≡ slots_from target p r
  set_from l n = set_is p target l ∙ skip_to n

  pub set_count : {n : ℕ} → length target ≡ slot_count → n ≡ length (slots_from target p 0) → n ≡ length (set_m p (unheld target))
  set_count l e = e ∙ sym (ap length (set_is p target l))
