-- Facts put into tables: how much room is left, and what is there.
use Rattle.std.proofs.Common.{◌≡◌, ℕ, ◌+◌, ◌-◌, ◌*◌, ◌<◌, ◌≤◌, ◌||◌, not, Bool, true, false, ltb, List, [], ◌∷◌, ◌++◌, length, refl, sym, ap, ◌∙◌, arith}
use Rattle.std.proofs.lemmas.Bool.Decides.{Decides-ltb}
use Rattle.sp_bits.specs.Table.{Bits, has, is_pair, empty_table}
use Rattle.sp_rules.specs.Facts.{holds_in, is_fact, is_one_of}
use Rattle.sp_rules.specs.Questions.{is_truth_below}
use Rattle.sp_rules.specs.Table.{in_range}
use Rattle.sp_rules.specs.declared.fact.Fact.{Fact}
use Rattle.sp_rules.specs.declared.fact.Fact.TheVariants.{Eq, Le}
use Rattle.sp_rules.proofs.FactLemmas.{both_hold, both_true, is_one_of-append, is_one_of-cons, is_one_of-none}
use Rattle.sp_checker.specs.Trail.{Added, free}

less_free : (t u : Bits) → u.count ≡ t.count → length u.pairs ≡ length t.pairs + 1 → length u.pairs ≤ u.count * u.count → free u < free t
less_free t u e l few = count (u.count * u.count) (t.count * t.count) (length u.pairs) (length t.pairs) (ap (λ n. n * n) e) l few
  where
    count : (a b m n : ℕ) → a ≡ b → m ≡ n + 1 → m ≤ a → a - m < b - n
    count a b m n e l few = omega arith

no_more_free : (t u : Bits) (new : Bool) → (new ≡ false → u ≡ t) → (new ≡ true → free u < free t) → free u ≤ free t
no_more_free t u true same less = let l = less refl in omega (arith, l)
no_more_free t u false same less = let e : free u ≡ free t = ap (λ (x : Bits). free x) (same refl) in omega (arith, e)

-- an equality put in
module _ (i j : ℕ) (eq le eqn : Bits) (new : Bool) where
  equal_has : ((a b : ℕ) → has eqn a b ≡ (is_pair i j a b || has eq a b)) → (f : Fact) → holds_in eqn le f ≡ (is_fact (Eq i j) f || holds_in eq le f)
  equal_has h (Eq a b) = h a b
  equal_has h (Le a b) = refl

  pub added_equal : eqn.count ≡ eq.count → ((a b : ℕ) → has eqn a b ≡ (is_pair i j a b || has eq a b)) → new ≡ not (has eq i j) → (new ≡ false → eqn ≡ eq)
      → (new ≡ true → length eqn.pairs ≡ length eq.pairs + 1) → length eqn.pairs ≤ eqn.count * eqn.count → Added (Eq i j) eq le eqn le new
  added_equal count h n same more few =
      let less : new ≡ true → free eqn < free eq = λ e. less_free eq eqn count (more e) few in
      let fewer = no_more_free eq eqn new same less in
      record {
        sizes = (count, refl);
        has = equal_has h;
        new = n;
        same = λ e. (same e, refl);
        fewer = omega (arith, fewer);
        less = λ e. let l = less e in omega (arith, l);
      }

-- an order put in
module _ (i j : ℕ) (eq le len : Bits) (new : Bool) where
  order_has : ((a b : ℕ) → has len a b ≡ (is_pair i j a b || has le a b)) → (f : Fact) → holds_in eq len f ≡ (is_fact (Le i j) f || holds_in eq le f)
  order_has h (Eq a b) = refl
  order_has h (Le a b) = h a b

  pub added_order : len.count ≡ le.count → ((a b : ℕ) → has len a b ≡ (is_pair i j a b || has le a b)) → new ≡ not (has le i j) → (new ≡ false → len ≡ le)
      → (new ≡ true → length len.pairs ≡ length le.pairs + 1) → length len.pairs ≤ len.count * len.count → Added (Le i j) eq le eq len new
  added_order count h n same more few =
      let less : new ≡ true → free len < free le = λ e. less_free le len count (more e) few in
      let fewer = no_more_free le len new same less in
      record {
        sizes = (refl, count);
        has = order_has h;
        new = n;
        same = λ e. (refl, same e);
        fewer = omega (arith, fewer);
        less = λ e. let l = less e in omega (arith, l);
      }

-- room for what two tables may still take
pub enough : (t u : Bits) (n m : ℕ) → t.count ≡ n → u.count ≡ n → 2 * (n * n) ≤ m → 0 + (free t + free u) ≤ m
enough t u n m e f r = fits (t.count * t.count) (u.count * u.count) (length t.pairs) (length u.pairs) (n * n) (ap (λ k. k * k) e) (ap (λ k. k * k) f) r
  where
    fits : (a b x y c : ℕ) → a ≡ c → b ≡ c → 2 * c ≤ m → 0 + ((a - x) + (b - y)) ≤ m
    fits a b x y c e f r = omega arith

-- nothing is in empty tables
nothing_in : (n m : ℕ) (f : Fact) → holds_in (empty_table n) (empty_table m) f ≡ false
unfolding has
nothing_in n m (Eq i j) = refl
nothing_in n m (Le i j) = refl

pub none_in : (t u : Bits) (n m : ℕ) → t ≡ empty_table n → u ≡ empty_table m → (f : Fact) → holds_in t u f ≡ false
none_in t u n m e g f = ap (λ (x : Bits). holds_in x u f) e ∙ ap (λ (x : Bits). holds_in (empty_table n) x f) g ∙ nothing_in n m f

turned : (a b : Bool) → (a || (b || false)) ≡ (b || a)
turned true true = refl
turned true false = refl
turned false true = refl
turned false false = refl

-- one more of the given facts
pub given_more : (xs : List Fact) (g f : Fact) (h : Bool) → h ≡ is_one_of xs f → (is_fact g f || h) ≡ is_one_of (xs ++ g ∷ []) f
given_more xs g f h e =
    ap (λ b. is_fact g f || b) e
    ∙ sym (is_one_of-append xs (g ∷ []) f ∙ ap (λ b. is_one_of xs f || b) (is_one_of-cons g [] f ∙ ap (λ b. is_fact g f || b) (is_one_of-none f))
    ∙ turned (is_one_of xs f) (is_fact g f))

-- a truth value of a term is about terms
pub truth_in_range : (n : ℕ) (f : Fact) → 2 ≤ n → is_truth_below n f ≡ true → in_range n f ≡ true
truth_in_range n (Eq i j) two t =
    let k = both_hold (ltb i n) (ltb j 2) t in
    let small = (Decides-ltb j 2).0 k.1 in
    both_true (ltb i n) (ltb j n) k.0 ((Decides-ltb j n).1 (omega (arith, small, two)))
truth_in_range n (Le i j) two t = absurd (cc)
