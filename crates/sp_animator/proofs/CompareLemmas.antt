-- The answers of a whole run and of its purged run, compared one after the other.
use Rattle.std.proofs.Common.{◌≡◌, refl, sym, ◌∙◌, ap, arith, ℕ, zero, suc, ◌+◌, ◌<◌, Bool, true, false, List, [], ◌∷◌, ◌++◌, length, take, get_or, Some}
use Rattle.std.specs.Prelude.{if◌then◌else◌, slice_get}
use Rattle.std.proofs.lemmas.Option.{none-some, same_Some, slice_get_read}
use Rattle.sp_values.specs.declared.place.Invocation.{Invocation}
use Rattle.sp_core.specs.declared.function.Answer.{Answer}
use Rattle.sp_core.specs.Machine.{Machine}
use Rattle.sp_core.specs.Security.{is_seen, purge, seen}
use Rattle.sp_animator.specs.Comparing.{IsComparison, IsOtherNext, IsSameNext, kept_before}
use Rattle.sp_animator.specs.declared.comparing.Compared.TheVariants as compared

pub there_at : (list : List Invocation) (k : ℕ) (i : Invocation) → k < length list → i ≡ get_or list k i → slice_get list k ≡ Some i
there_at list k i l e = slice_get_read list (length list) k i refl l e

next_taken : (xs : List Answer) (k : ℕ) (x : Answer) → slice_get xs k ≡ Some x → take (suc k) xs ≡ take k xs ++ x ∷ []
next_taken [] k x h = absurd (none-some x h)
next_taken (y ∷ xs) zero x h = λ j. same_Some y x h j ∷ []
next_taken (y ∷ xs) (suc k) x h = ap (λ ys. y ∷ ys) (next_taken xs k x h)

pub take_all : {A : Type 0} (xs : List A) (n : ℕ) → n ≡ length xs → take n xs ≡ xs
take_all [] zero e = refl
take_all [] (suc n) e = refl
take_all (x ∷ xs) zero e = absurd (omega (arith, e))
take_all (x ∷ xs) (suc n) e = ap (λ ys. x ∷ ys) (take_all xs n (omega (arith, e)))

module _ (m : Machine) (l : ℕ) where
  -- there is one more kept invocation
  pub kept_within : (list : List Invocation) (k : ℕ) (i : Invocation) → slice_get list k ≡ Some i → is_seen m l i ≡ true → kept_before m l list k < length (purge m l list)
  kept_within [] k i there kept = absurd (none-some i there)
  kept_within (j ∷ list) zero i there kept =
      let one : is_seen m l j ≡ true = ap (is_seen m l) (same_Some j i there) ∙ kept in
      let long : length (if is_seen m l j then j ∷ purge m l list else purge m l list) ≡ suc (length (purge m l list)) = ap (λ b. length (if b then j ∷ purge m l list else purge m l list)) one in
      omega (arith, long)
  kept_within (j ∷ list) (suc k) i there kept = by (is_seen m l j) (kept_within list k i there kept)
    where
      by : (b : Bool) → length (purge m l (take k list)) < length (purge m l list) → length (if b then j ∷ purge m l (take k list) else purge m l (take k list)) < length (if b then j ∷ purge m l list else purge m l list)
      by true h = omega (arith, h)
      by false h = h

  -- how many are kept with one more invocation, and what is seen of it
  pub kept_next : (list : List Invocation) (k : ℕ) (i : Invocation) → slice_get list k ≡ Some i → kept_before m l list (suc k) ≡ (if is_seen m l i then kept_before m l list k + 1 else kept_before m l list k)
  kept_next [] k i there = absurd (none-some i there)
  kept_next (j ∷ list) zero i there = ap (λ (x : Invocation). length (if is_seen m l x then j ∷ [] else [])) (same_Some j i there) ∙ by (is_seen m l i)
    where
      by : (b : Bool) → length (if b then j ∷ [] else []) ≡ (if b then 0 + 1 else 0)
      by true = refl
      by false = refl
  kept_next (j ∷ list) (suc k) i there = by (is_seen m l j) (is_seen m l i) (kept_next list k i there)
    where
      by : (b c : Bool) → length (purge m l (take (suc k) list)) ≡ (if c then length (purge m l (take k list)) + 1 else length (purge m l (take k list)))
          → length (if b then j ∷ purge m l (take (suc k) list) else purge m l (take (suc k) list))
          ≡ (if c then length (if b then j ∷ purge m l (take k list) else purge m l (take k list)) + 1 else length (if b then j ∷ purge m l (take k list) else purge m l (take k list)))
      by true true h = omega (arith, h)
      by true false h = omega (arith, h)
      by false c h = h

  pub seen_next : (list : List Invocation) (as' : List Answer) (k : ℕ) (i : Invocation) (x : Answer) → slice_get list k ≡ Some i → slice_get as' k ≡ Some x
      → seen m l (take (suc k) list) (take (suc k) as') ≡ seen m l (take k list) (take k as') ++ (if is_seen m l i then x ∷ [] else [])
  seen_next [] as' k i x there has = absurd (none-some i there)
  seen_next (j ∷ list) [] k i x there has = absurd (none-some x has)
  seen_next (j ∷ list) (a ∷ as') zero i x there has = λ n. if is_seen m l (same_Some j i there n) then same_Some a x has n ∷ [] else []
  seen_next (j ∷ list) (a ∷ as') (suc k) i x there has = by (is_seen m l j) (seen_next list as' k i x there has)
    where
      by : (b : Bool) → seen m l (take (suc k) list) (take (suc k) as') ≡ seen m l (take k list) (take k as') ++ (if is_seen m l i then x ∷ [] else [])
          → (if b then a ∷ seen m l (take (suc k) list) (take (suc k) as') else seen m l (take (suc k) list) (take (suc k) as'))
          ≡ (if b then a ∷ seen m l (take k list) (take k as') else seen m l (take k list) (take k as')) ++ (if is_seen m l i then x ∷ [] else [])
      by true h = ap (λ ys. a ∷ ys) h
      by false h = h

  -- the kept invocations before number k answer the same
  pub record AreSameBefore (list : List Invocation) (whole purged : List Answer) (k n : ℕ) : Type 0 where
    pub kept : n ≡ kept_before m l list k
    pub same : seen m l (take k list) (take k whole) ≡ take n purged

  pub same_next : (list : List Invocation) (whole purged : List Answer) (k n : ℕ) (i : Invocation) (x : Answer) (j : ℕ) → AreSameBefore list whole purged k n → slice_get list k ≡ Some i → slice_get whole k ≡ Some x
      → (b : Bool) → b ≡ is_seen m l i → IsSameNext b x purged n j → AreSameBefore list whole purged (suc k) j
  same_next list whole purged k n i x j h there has true e (next, other) = record {
    kept = next ∙ ap (λ q. q + 1) h.kept ∙ (λ q. if e q then kept_before m l list k + 1 else kept_before m l list k) ∙ sym (kept_next list k i there);
    same = seen_next list whole k i x there has ∙ (λ q. h.same q ++ (if sym e q then x ∷ [] else [])) ∙ sym (next_taken purged n x other) ∙ ap (λ q. take q purged) (let more : suc n ≡ n + 1 = omega arith in more ∙ sym next);
  }
  same_next list whole purged k n i x j h there has false e next = record {
    kept = next ∙ h.kept ∙ (λ q. if e q then kept_before m l list k + 1 else kept_before m l list k) ∙ sym (kept_next list k i there);
    same = seen_next list whole k i x there has ∙ (λ q. h.same q ++ (if sym e q then x ∷ [] else [])) ∙ append_none (take n purged) ∙ ap (λ q. take q purged) (sym next);
  }
    where
      append_none : (ys : List Answer) → ys ++ [] ≡ ys
      append_none [] = refl
      append_none (y ∷ ys) = ap (λ zs. y ∷ zs) (append_none ys)

  pub other_next : (list : List Invocation) (whole purged : List Answer) (k n : ℕ) (i : Invocation) (x y : Answer) → AreSameBefore list whole purged k n → slice_get list k ≡ Some i → slice_get whole k ≡ Some x
      → (b : Bool) → b ≡ is_seen m l i → IsOtherNext b x purged n y → IsComparison m l list whole purged (compared.Differs k x y)
  other_next list whole purged k n i x y h there has b e (kept, next, differ) = (
    i,
    record {
      there = there;
      kept = sym e ∙ kept;
      whole = has;
      purged = ap (slice_get purged) (sym h.kept) ∙ next;
      differ = differ;
      earlier = h.same ∙ ap (λ q. take q purged) h.kept;
    },
  )

  -- all of them do
  pub all_same : (list : List Invocation) (whole purged : List Answer) (n : ℕ) → length whole ≡ length list → length purged ≡ length (purge m l list) → (k : ℕ) → k ≡ length list → AreSameBefore list whole purged k n
      → IsComparison m l list whole purged (compared.Same n)
  all_same list whole purged n long kept k end h =
      let lists : take k list ≡ list = take_all list k end in
      let answers : take k whole ≡ whole = take_all whole k (end ∙ sym long) in
      let number : n ≡ length (purge m l list) = h.kept ∙ ap (λ (xs : List Invocation). length (purge m l xs)) lists in
      (number, (λ q. seen m l (sym lists q) (sym answers q)) ∙ h.same ∙ take_all purged n (number ∙ sym kept))

-- The kept invocations as a list of their own

take_none : {A : Type 0} (xs : List A) → take 0 xs ≡ []
take_none [] = refl
take_none (x ∷ xs) = refl

module _ (m : Machine) (l : ℕ) where
  pub kept_there : (list : List Invocation) (n : ℕ) (i : Invocation) → slice_get list n ≡ Some i → is_seen m l i ≡ true → slice_get (purge m l list) (kept_before m l list n) ≡ Some i
  kept_there [] n i there kept = absurd (none-some i there)
  kept_there (j ∷ list) zero i there kept = (λ k. slice_get (if (ap (is_seen m l) (same_Some j i there) ∙ kept) k then j ∷ purge m l list else purge m l list) 0) ∙ there
  kept_there (j ∷ list) (suc n) i there kept = by (is_seen m l j) (kept_there list n i there kept)
    where
      by : (b : Bool) → slice_get (purge m l list) (length (purge m l (take n list))) ≡ Some i
          → slice_get (if b then j ∷ purge m l list else purge m l list) (length (if b then j ∷ purge m l (take n list) else purge m l (take n list))) ≡ Some i
      by true h = h
      by false h = h

  pub kept_front : (list : List Invocation) (n : ℕ) → take (kept_before m l list n) (purge m l list) ≡ purge m l (take n list)
  kept_front [] zero = refl
  kept_front [] (suc n) = refl
  kept_front (j ∷ list) zero = take_none (purge m l (j ∷ list))
  kept_front (j ∷ list) (suc n) = by (is_seen m l j) (kept_front list n)
    where
      by : (b : Bool) → take (length (purge m l (take n list))) (purge m l list) ≡ purge m l (take n list)
          → take (length (if b then j ∷ purge m l (take n list) else purge m l (take n list))) (if b then j ∷ purge m l list else purge m l list) ≡ (if b then j ∷ purge m l (take n list) else purge m l (take n list))
      by true h = ap (λ js. j ∷ js) h
      by false h = h
