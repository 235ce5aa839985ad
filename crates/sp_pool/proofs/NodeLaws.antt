-- Public lemmas on the nodes of a pool: the nodes of a list with one more and of its front, pools among them, and that a
-- node is held or not.
use Rattle.std.proofs.Common.{◌≡◌, ℕ, zero, suc, ◌<◌, ◌≤◌, ◌⊎◌, ⊎_elim, inl, inr, Bool, true, false, List, [], ◌∷◌, ◌++◌, length, take, get_or, Some, replicate, refl, sym, ap, ◌∙◌, subst, arith, rules}
use Rattle.std.specs.Bool.{Decides}
use Rattle.std.specs.List.{slice_get}
use Rattle.std.proofs.lemmas.Bool.{cases_eq, false≢true}
use Rattle.std.proofs.lemmas.List.{length_push, length-take}
use Rattle.std.proofs.lemmas.Option.{none-some, same_Some, slice_get_within}
use Rattle.sp_values.specs.declared.value.Value.TheVariants.{Truth}
use Rattle.sp_pool.specs.declared.node.Head.{Head}
use Rattle.sp_pool.specs.declared.node.Head.TheVariants.{Const}
use Rattle.sp_pool.specs.declared.node.Node.{Node}
use Rattle.sp_pool.specs.declared.node.TermId.{TermId}
use Rattle.sp_pool.specs.contracts.node.HeadPartialEq.TheImpl as heads
use Rattle.sp_pool.specs.Nodes.{HasNode, IsHeld, IsNode, IsPool, truth_node, term}

-- an element of a list with one more
pub get_last : {X : Type 0} (xs : List X) (x : X) → slice_get (xs ++ x ∷ []) (length xs) ≡ Some x
get_last [] x = refl
get_last (y ∷ ys) x = get_last ys x

pub get_pushed : {X : Type 0} (xs : List X) (x y : X) (i : ℕ) → slice_get (xs ++ x ∷ []) i ≡ Some y → (slice_get xs i ≡ Some y) ⊎ ((i ≡ length xs) × (x ≡ y))
get_pushed [] x y zero e = inr (refl, same_Some x y e)
get_pushed [] x y (suc i) e = absurd (none-some y e)
get_pushed (z ∷ zs) x y zero e = inl e
get_pushed (z ∷ zs) x y (suc i) e = ⊎_elim inl (λ (p : (i ≡ length zs) × (x ≡ y)). inr (ap suc p.0, p.1)) (get_pushed zs x y i e)

pub get_front : {X : Type 0} (xs : List X) (x y : X) (i : ℕ) → slice_get xs i ≡ Some y → slice_get (xs ++ x ∷ []) i ≡ Some y
get_front [] x y i e = absurd (none-some y e)
get_front (z ∷ zs) x y zero e = e
get_front (z ∷ zs) x y (suc i) e = get_front zs x y i e

-- an element of the first ones
pub get_taken : {X : Type 0} (m : ℕ) (xs : List X) (i : ℕ) (y : X) → slice_get (take m xs) i ≡ Some y → slice_get xs i ≡ Some y
get_taken zero xs i y e = absurd (none-some y e)
get_taken (suc m) [] i y e = absurd (none-some y e)
get_taken (suc m) (x ∷ xs) zero y e = e
get_taken (suc m) (x ∷ xs) (suc i) y e = get_taken m xs i y e

pub get_kept : {X : Type 0} (m : ℕ) (xs : List X) (i : ℕ) (y : X) → i < m → slice_get xs i ≡ Some y → slice_get (take m xs) i ≡ Some y
get_kept zero xs i y below e = absurd (omega arith)
get_kept (suc m) [] i y below e = absurd (none-some y e)
get_kept (suc m) (x ∷ xs) zero y below e = e
get_kept (suc m) (x ∷ xs) (suc i) y below e = get_kept m xs i y (omega arith) e

-- a pool has the constants
pub two : {xs : List Node} → IsPool xs → 2 ≤ length xs
two {xs} pool = slice_get_within xs 1 (truth_node false) pool.false_second

module _ (xs : List Node) (pool : IsPool xs) (some : 2 ≤ length xs) where
  -- one node more
  module _ (n : Node) (fine : IsNode (length xs) n) (eight : length n.args ≡ 8) (fresh : IsHeld xs n → ⊥) (room : length xs < 512) where
    one : (i j : ℕ) (m : Node) → HasNode xs i m ⊎ ((i ≡ length xs) × (n ≡ m)) → HasNode xs j m ⊎ ((j ≡ length xs) × (n ≡ m)) → i ≡ j
    one i j m (inl a) (inl b) = pool.apart i j m a b
    one i j m (inl a) (inr b) = absurd (fresh (i, subst (λ x. HasNode xs i x) (sym b.1) a))
    one i j m (inr a) (inl b) = absurd (fresh (j, subst (λ x. HasNode xs j x) (sym a.1) b))
    one i j m (inr a) (inr b) = a.0 ∙ sym b.0

    pub pool_more : IsPool (xs ++ n ∷ [])
    pool_more = record {
      true_first = get_front xs n (truth_node true) 0 pool.true_first;
      false_second = get_front xs n (truth_node false) 1 pool.false_second;
      apart = λ i j m a b. one i j m (get_pushed xs n m i a) (get_pushed xs n m j b);
      ordered = λ i m a. ⊎_elim (pool.ordered i m) (λ (e : (i ≡ length xs) × (n ≡ m)). subst (IsNode i) e.1 (subst (λ k. IsNode k n) (sym e.0) fine)) (get_pushed xs n m i a);
      eight = λ i m a. ⊎_elim (pool.eight i m) (λ (e : (i ≡ length xs) × (n ≡ m)). subst (λ x. length x.args ≡ 8) e.1 eight) (get_pushed xs n m i a);
      few = omega (arith, length_push xs n);
    }

  -- the first nodes
  pub pool_less : (m : ℕ) → 2 ≤ m → IsPool (take m xs)
  pool_less m two = record {
    true_first = get_kept m xs 0 (truth_node true) (omega arith) pool.true_first;
    false_second = get_kept m xs 1 (truth_node false) (omega arith) pool.false_second;
    apart = λ i j n a b. pool.apart i j n (get_taken m xs i n a) (get_taken m xs j n b);
    ordered = λ i n a. pool.ordered i n (get_taken m xs i n a);
    eight = λ i n a. pool.eight i n (get_taken m xs i n a);
    few = omega (arith, length-take m xs, pool.few);
  }

-- a node without other arguments than the first number
pub zeros : (m k : ℕ) → (get_or (replicate m (term 0)) k (term 0)).0 ≡ 0
zeros zero k = refl
zeros (suc m) zero = refl
zeros (suc m) (suc k) = zeros m k

pub plain_node : (held : ℕ) (h : Head) (count : ℕ) → count ≤ 8 → (count ≡ 0) ⊎ (0 < held) → IsNode held (record { head = h; count = count; args = replicate 8 (term 0) })
plain_node held h count few some = record {
  few = few;
  earlier = λ k below. ⊎_elim (λ none. absurd (omega (arith, below, none))) (λ more. omega (arith, zeros 8 k, more)) some;
  padded = λ k past. zeros 8 k;
}

pub truth_node_is : (held : ℕ) (b : Bool) → IsNode held (truth_node b)
truth_node_is held b = plain_node held (Const (Truth b)) 0 (omega arith) (inl refl)

pub truths_apart : truth_node true ≡ truth_node false → ⊥
truths_apart e = let heads : Const (Truth true) ≡ Const (Truth false) = ap (λ (n : Node). n.head) e in cc

abbrev pub truths : List Node
truths = truth_node true ∷ truth_node false ∷ []

truth_of : (i : ℕ) (n : Node) → HasNode truths i n → ((i ≡ 0) × (truth_node true ≡ n)) ⊎ ((i ≡ 1) × (truth_node false ≡ n))
truth_of zero n e = inl (refl, same_Some (truth_node true) n e)
truth_of (suc zero) n e = inr (refl, same_Some (truth_node false) n e)
truth_of (suc (suc i)) n e = absurd (none-some n e)

pub truths_pool : IsPool truths
truths_pool = record {
  true_first = refl;
  false_second = refl;
  apart = λ i j n a b. one i j n (truth_of i n a) (truth_of j n b);
  ordered = λ i n a. ⊎_elim (λ (h : (i ≡ 0) × (truth_node true ≡ n)). subst (IsNode i) h.1 (truth_node_is i true)) (λ (h : (i ≡ 1) × (truth_node false ≡ n)). subst (IsNode i) h.1 (truth_node_is i false)) (truth_of i n a);
  eight = λ i n a. ⊎_elim (λ (h : (i ≡ 0) × (truth_node true ≡ n)). subst (λ m. length m.args ≡ 8) h.1 refl) (λ (h : (i ≡ 1) × (truth_node false ≡ n)). subst (λ m. length m.args ≡ 8) h.1 refl) (truth_of i n a);
  few = omega arith;
}
  where
    one : (i j : ℕ) (n : Node) → ((i ≡ 0) × (truth_node true ≡ n)) ⊎ ((i ≡ 1) × (truth_node false ≡ n)) → ((j ≡ 0) × (truth_node true ≡ n)) ⊎ ((j ≡ 1) × (truth_node false ≡ n)) → i ≡ j
    one i j n (inl a) (inl b) = a.0 ∙ sym b.0
    one i j n (inl a) (inr b) = absurd (truths_apart (a.1 ∙ sym b.1))
    one i j n (inr a) (inl b) = absurd (truths_apart (b.1 ∙ sym a.1))
    one i j n (inr a) (inr b) = a.0 ∙ sym b.0

-- a node is held or not
head-Decides : (g h : Head) → Decides (heads.eq-value.it g h) (g ≡ h)
head-Decides g h = search rules

decided : {P : Type 0} (b : Bool) → Decides b P → P ⊎ (P → ⊥)
decided true d = inl (d.0 refl)
decided false d = inr (λ p. false≢true (d.1 p))

terms_cases : (xs ys : List TermId) → (xs ≡ ys) ⊎ (xs ≡ ys → ⊥)
terms_cases [] [] = inl refl
terms_cases [] (y ∷ ys) = inr (λ e. cc)
terms_cases (x ∷ xs) [] = inr (λ e. cc)
terms_cases (x ∷ xs) (y ∷ ys) = ⊎_elim
    (λ (e : x.0 ≡ y.0). ⊎_elim
    (λ (es : xs ≡ ys). inl (let first : x ≡ y = ap term e in λ i. first i ∷ es i))
    (λ (apart : xs ≡ ys → ⊥). inr (λ (f : x ∷ xs ≡ y ∷ ys). apart (cc)))
    (terms_cases xs ys))
    (λ (apart : x.0 ≡ y.0 → ⊥). inr (λ (f : x ∷ xs ≡ y ∷ ys). let first : x ≡ y = cc in apart (ap (λ (t : TermId). t.0) first)))
    (cases_eq x.0 y.0)

pub node_cases : (m n : Node) → (m ≡ n) ⊎ (m ≡ n → ⊥)
node_cases m n = ⊎_elim
    (λ (h : m.head ≡ n.head). ⊎_elim
    (λ (c : m.count ≡ n.count). ⊎_elim
    (λ (a : m.args ≡ n.args). inl (λ i. record { head = h i; count = c i; args = a i }))
    (λ (apart : m.args ≡ n.args → ⊥). inr (λ (e : m ≡ n). apart (ap (λ (x : Node). x.args) e)))
    (terms_cases m.args n.args))
    (λ (apart : m.count ≡ n.count → ⊥). inr (λ (e : m ≡ n). apart (ap (λ (x : Node). x.count) e)))
    (cases_eq m.count n.count))
    (λ (apart : m.head ≡ n.head → ⊥). inr (λ (e : m ≡ n). apart (ap (λ (x : Node). x.head) e)))
    (decided (heads.eq-value.it m.head n.head) (head-Decides m.head n.head))

pub held_or_not : (nodes : List Node) (n : Node) → IsHeld nodes n ⊎ (IsHeld nodes n → ⊥)
held_or_not [] n = inr (λ h. none-some n h.1)
held_or_not (m ∷ ms) n = ⊎_elim
    (λ (e : m ≡ n). inl (0, ap Some e))
    (λ apart. ⊎_elim (λ (h : IsHeld ms n). inl (suc h.0, h.1)) (λ away. inr (behind apart away)) (held_or_not ms n))
    (node_cases m n)
  where
    behind : (m ≡ n → ⊥) → (IsHeld ms n → ⊥) → IsHeld (m ∷ ms) n → ⊥
    behind apart away (zero, e) = apart (same_Some m n e)
    behind apart away (suc i, e) = away (i, e)
