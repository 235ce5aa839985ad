-- A trail that grows by a new fact, and one that loses its last.
use Rattle.std.proofs.Common.{◌≡◌, ◌≢◌, ℕ, zero, suc, ◌+◌, ◌-◌, ◌<◌, ◌≤◌, ◌⊎◌, ◌||◌, ◌&&◌, not, Bool, true, false, List, length, set, get_or-set_other, get_or-set_same, refl, sym, ap, ◌∙◌, subst, ⊎_elim, arith}
use Rattle.sp_rules.specs.declared.fact.Fact.{Fact}
use Rattle.sp_rules.specs.declared.fact.Fact.TheVariants.{Eq}
use Rattle.sp_rules.specs.Facts.{is_fact}
use Rattle.sp_rules.proofs.FactLemmas.{is_fact-true}
use Rattle.sp_cert.specs.Checks.{Facts}
use Rattle.sp_checker.specs.Trail.{Trailed, laid, fact_at, Kept}

pub laid_agree : (t u : List Fact) (from k : ℕ) (h : Facts) (f : Fact) → ((i : ℕ) → i < k → fact_at t (from + i) ≡ fact_at u (from + i)) → laid t from k h f ≡ laid u from k h f
laid_agree t u from zero h f e = refl
laid_agree t u from (suc k) h f e =
    ap (λ x. is_fact x f || laid t from k h f) (e k (omega arith)) ∙ ap (λ b. is_fact (fact_at u (from + k)) f || b) (laid_agree t u from k h f (λ i l. e i (omega arith)))

-- a trail that is kept below has the same facts
pub kept_trailed : (h0 h : Facts) (old new : List Fact) (from to : ℕ) → Kept old new to → Trailed h0 old from to h → Trailed h0 new from to h
kept_trailed h0 h old new from to kept t = record {
  count = t.count;
  sum = t.sum;
  now = λ f. t.now f ∙ laid_agree old new from t.count h0 f (λ i l. sym (kept (from + i) (omega (arith, t.sum))));
  fresh = λ i l.
      ap (laid new from i h0) (kept (from + i) (omega (arith, t.sum))) ∙ laid_agree new old from i h0 (fact_at old (from + i)) (λ k m. kept (from + k) (omega (arith, t.sum))) ∙ t.fresh i l;
}

abbrev Pushed : Facts → List Fact → ℕ → ℕ → Facts → Fact → Type 0
Pushed h0 trail from len h' fact = Trailed h0 (set trail len fact) from (len + 1) h'

pub pushed : (h0 : Facts) (trail : List Fact) (from len : ℕ) (h h' : Facts) (fact : Fact) → len < length trail → h fact ≡ false → ((f : Fact) → h' f ≡ (is_fact fact f || h f))
    → Trailed h0 trail from len h → Pushed h0 trail from len h' fact
pushed h0 trail from len h h' fact room absent has t = record {
  count = suc t.count;
  sum = omega (arith, t.sum);
  now = λ f. has f ∙ ap (λ b. is_fact fact f || b) (t.now f ∙ sym (same f)) ∙ ap (λ x. is_fact x f || laid (set trail len fact) from t.count h0 f) (sym top);
  fresh = λ i l. ⊎_elim (older i) (λ (e : i ≡ t.count). subst (λ x. laid (set trail len fact) from x h0 (fact_at (set trail len fact) (from + x)) ≡ false) (sym e) last) (split i t.count l);
}
  where
    split : (k n : ℕ) → k < suc n → (k < n) ⊎ (k ≡ n)
    split k n l = grind arith

    below : (i : ℕ) → i < t.count → fact_at (set trail len fact) (from + i) ≡ fact_at trail (from + i)
    below i l = let apart : from + i ≢ len = λ e. omega (arith, t.sum) in get_or-set_other trail len (from + i) fact (Eq 0 0) apart

    top : fact_at (set trail len fact) (from + t.count) ≡ fact
    top = ap (fact_at (set trail len fact)) t.sum ∙ get_or-set_same trail len fact (Eq 0 0) room

    same : (f : Fact) → laid (set trail len fact) from t.count h0 f ≡ laid trail from t.count h0 f
    same f = laid_agree (set trail len fact) trail from t.count h0 f below

    last : laid (set trail len fact) from t.count h0 (fact_at (set trail len fact) (from + t.count)) ≡ false
    last = ap (laid (set trail len fact) from t.count h0) top ∙ same fact ∙ sym (t.now fact) ∙ absent

    older : (i : ℕ) → i < t.count → laid (set trail len fact) from i h0 (fact_at (set trail len fact) (from + i)) ≡ false
    older i l = ap (laid (set trail len fact) from i h0) (below i l) ∙ laid_agree (set trail len fact) trail from i h0 (fact_at trail (from + i)) (λ k m. below k (omega arith)) ∙ t.fresh i l

out : (t b : Bool) → (t ≡ true → b ≡ false) → (not t && (t || b)) ≡ b
out true b e = sym (e refl)
out false b e = refl

popped_by : (h0 : Facts) (trail : List Fact) (from left : ℕ) (h h' : Facts) (n : ℕ) → from + n ≡ left → from < left → ((f : Fact) → h f ≡ laid trail from n h0 f)
    → ((i : ℕ) → i < n → laid trail from i h0 (fact_at trail (from + i)) ≡ false) → ((f : Fact) → h' f ≡ (not (is_fact (fact_at trail (left - 1)) f) && h f)) → Trailed h0 trail from (left - 1) h'
popped_by h0 trail from left h h' zero sum some now fresh has = absurd (omega arith)
popped_by h0 trail from left h h' (suc n) sum some now fresh has = record {
  count = n;
  sum = omega arith;
  now = λ f. has f ∙ ap (λ b. not (is_fact (fact_at trail (left - 1)) f) && b) (now f) ∙ ap (λ x. not (is_fact x f) && (is_fact (fact_at trail (from + n)) f || laid trail from n h0 f)) top
      ∙ out (is_fact (fact_at trail (from + n)) f) (laid trail from n h0 f) (λ e. ap (laid trail from n h0) (sym (is_fact-true (fact_at trail (from + n)) f e)) ∙ fresh n (omega arith));
  fresh = λ i l. fresh i (omega arith);
}
  where
    top : fact_at trail (left - 1) ≡ fact_at trail (from + n)
    top = let e : left - 1 ≡ from + n = omega arith in ap (fact_at trail) e

pub popped : (h0 : Facts) (trail : List Fact) (from left : ℕ) (h h' : Facts) → from < left → ((f : Fact) → h' f ≡ (not (is_fact (fact_at trail (left - 1)) f) && h f))
    → Trailed h0 trail from left h → Trailed h0 trail from (left - 1) h'
popped h0 trail from left h h' some has t = popped_by h0 trail from left h h' t.count t.sum some t.now t.fresh has

none_by : (h0 : Facts) (trail : List Fact) (from left : ℕ) (h : Facts) (n : ℕ) → from + n ≡ left → left ≤ from → ((f : Fact) → h f ≡ laid trail from n h0 f) → (f : Fact) → h f ≡ h0 f
none_by h0 trail from left h zero sum none now f = now f
none_by h0 trail from left h (suc n) sum none now f = absurd (omega arith)

pub nothing_laid : (h0 : Facts) (trail : List Fact) (from left : ℕ) (h : Facts) → left ≤ from → Trailed h0 trail from left h → (f : Fact) → h f ≡ h0 f
nothing_laid h0 trail from left h none t f = none_by h0 trail from left h t.count t.sum none t.now f

pub laid_nothing : (h0 : Facts) (trail : List Fact) (from : ℕ) → Trailed h0 trail from from h0
laid_nothing h0 trail from = record { count = 0; sum = omega arith; now = λ f. refl; fresh = λ i l. absurd (omega arith) }
