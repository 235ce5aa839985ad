-- Public lemmas on the trees of a pool's numbers: a held number stands for one tree, equal trees have one number, and
-- numbers keep their trees as nodes come behind and as the last ones are given up.
use Rattle.std.proofs.Common.{◌≡◌, ℕ, zero, suc, ◌+◌, ◌<◌, ◌≤◌, List, [], ◌∷◌, ◌++◌, length, take, get_or, true, refl, sym, ap, ◌∙◌, subst, ⊎_elim, inl, inr, arith}
use Rattle.std.proofs.lemmas.Bool.{cases_lt, cases_eq}
use Rattle.std.proofs.lemmas.List.{ext_get_or}
use Rattle.std.proofs.lemmas.Option.{none-some, same_Some, slice_get-get_or}
use Rattle.sp_pool.specs.declared.node.TermId.{TermId}
use Rattle.sp_pool.specs.declared.node.Node.{Node}
use Rattle.sp_pool.specs.declared.node.Head.{Head}
use Rattle.sp_pool.specs.Nodes.{HasNode, IsGrown, IsPool, IsNode, arg_of, term, truth_node}
use Rattle.sp_pool.specs.Trees.{Tree, Trees, tree, none, more, Stands, AllStand, KeepsTrees}
use Rattle.sp_pool.proofs.NodeLaws.{get_kept, get_taken}

-- the arguments from k on are alike, and so are the counts
abbrev AlikeFrom : Node → Node → ℕ → Type 0
AlikeFrom m n k = (m.count ≡ n.count) × ((l : ℕ) → k ≤ l → l < m.count → arg_of m l ≡ arg_of n l)

module _ (nodes : List Node) (pool : IsPool nodes) where
  same_node : (m n : Node) (i j : ℕ) → HasNode nodes i m → HasNode nodes j n → m.head ≡ n.head → AlikeFrom m n 0 → m ≡ n
  same_node m n i j a b h alike =
      ap (λ (x : Head). let r : Node = record { head = x; count = m.count; args = m.args } in r) h
      ∙ ap (λ (x : ℕ). let r : Node = record { head = n.head; count = x; args = m.args } in r) alike.0
      ∙ ap (λ (x : List TermId). let r : Node = record { head = n.head; count = n.count; args = x } in r)
      (ext_get_or (term 0) m.args n.args (pool.eight i m a ∙ sym (pool.eight j n b)) (λ k l. ap term (⊎_elim (λ s. alike.1 k (omega arith) s)
      (λ s. (pool.ordered i m a).padded k s ∙ sym ((pool.ordered j n b).padded k (subst (λ c. c ≤ k) alike.0 s))) (cases_lt k m.count))))

  mutual
    pub one_number : (t : Tree) (i j : ℕ) → Stands nodes i t → Stands nodes j t → i ≡ j
    one_number (tree h ts) i j a b =
        let e : a.0 ≡ b.0 = same_node a.0 b.0 i j a.1 b.1 (a.2 ∙ sym b.2) (all_alike ts a.0 b.0 0 a.3 b.3) in
        pool.apart i j b.0 (subst (HasNode nodes i) e a.1) b.1

    all_alike : (ts : Trees) (m n : Node) (k : ℕ) → AllStand nodes m k ts → AllStand nodes n k ts → AlikeFrom m n k
    all_alike none m n k a b = (a ∙ sym b, λ l g s. absurd (omega (arith, a)))
    all_alike (more t ts) m n k a b =
        let rest = all_alike ts m n (k + 1) a.2 b.2 in
        let first = one_number t (arg_of m k) (arg_of n k) a.1 b.1 in
        (rest.0, λ l g s. ⊎_elim (λ e. subst (λ x. arg_of m x ≡ arg_of n x) e first) (λ apart. rest.1 l (grind (arith, apart)) s) (cases_eq k l))

  mutual
    same_tree : (t u : Tree) (i : ℕ) → Stands nodes i t → Stands nodes i u → u ≡ t
    same_tree (tree h ts) (tree g us) i a b =
        let e : a.0 ≡ b.0 = same_Some a.0 b.0 (sym a.1 ∙ b.1) in
        let heads : g ≡ h = sym b.2 ∙ ap (λ (n : Node). n.head) (sym e) ∙ a.2 in
        let parts : us ≡ ts = same_trees ts us a.0 0 a.3 (subst (λ n. AllStand nodes n 0 us) (sym e) b.3) in
        ap (λ x. tree x us) heads ∙ ap (tree h) parts

    same_trees : (ts us : Trees) (n : Node) (k : ℕ) → AllStand nodes n k ts → AllStand nodes n k us → us ≡ ts
    same_trees none none n k a b = refl
    same_trees none (more u us) n k a b = absurd (omega (arith, a, b.0))
    same_trees (more t ts) none n k a b = absurd (omega (arith, a.0, b))
    same_trees (more t ts) (more u us) n k a b =
        ap (λ x. more x us) (same_tree t u (arg_of n k) a.1 b.1) ∙ ap (more t) (same_trees ts us n (k + 1) a.2 b.2)

  -- trees for the arguments from k on, where each lesser number has one
  parts_from : (b : ℕ) → ((i : ℕ) → i < b → (t : Tree) × Stands nodes i t) → (n : Node) → IsNode b n → (m k : ℕ) → k + m ≡ n.count → (ts : Trees) × AllStand nodes n k ts
  parts_from b each n fine zero k e = (none, omega (arith, e))
  parts_from b each n fine (suc m) k e =
      let below : k < n.count = omega (arith, e) in
      let first = each (arg_of n k) (fine.earlier k below) in
      let rest = parts_from b each n fine m (k + 1) (omega (arith, e)) in
      (more first.0 rest.0, (below, first.1, rest.1))

  some_tree : (b i : ℕ) → i < b → i < length nodes → (t : Tree) × Stands nodes i t
  some_tree zero i below held = absurd (omega arith)
  some_tree (suc b) i below held =
      let n = get_or nodes i (truth_node true) in
      let there : HasNode nodes i n = slice_get-get_or nodes i (truth_node true) held in
      let each = λ (j : ℕ) (less : j < i). some_tree b j (omega arith) (omega arith) in
      let parts = parts_from i each n (pool.ordered i n there) n.count 0 (omega arith) in
      (tree n.head parts.0, (n, there, refl, parts.1))

  pub one_tree : (i : ℕ) → i < length nodes → (t : Tree) × Stands nodes i t × ((u : Tree) → Stands nodes i u → u ≡ t)
  one_tree i held = let found = some_tree (i + 1) i (omega arith) held in (found.0, found.1, λ u s. same_tree found.0 u i found.1 s)

-- Two lists with the same nodes below a bound, of which each has arguments before the whole
module _ (old new : List Node) (bound : ℕ) (same : (i : ℕ) (n : Node) → i < bound → HasNode old i n → HasNode new i n)
    (ordered : (i : ℕ) (n : Node) → i < bound → HasNode old i n → IsNode i n) where
  mutual
    -- a number keeps its tree
    pub stands_over : (t : Tree) (i : ℕ) → i < bound → Stands old i t → Stands new i t
    stands_over (tree h ts) i below s = (s.0, same i s.0 below s.1, s.2, parts_over ts s.0 i below (ordered i s.0 below s.1) 0 s.3)

    -- and so do the arguments of a node over lesser numbers
    parts_over : (ts : Trees) (n : Node) (i : ℕ) → i < bound → IsNode i n → (k : ℕ) → AllStand old n k ts → AllStand new n k ts
    parts_over none n i below fine k a = a
    parts_over (more t ts) n i below fine k a =
        (a.0, stands_over t (arg_of n k) (omega (arith, below, fine.earlier k a.0)) a.1, parts_over ts n i below fine (k + 1) a.2)

  -- the same for the arguments of a node over all numbers below the bound
  pub all_stand_over : (ts : Trees) (n : Node) → IsNode bound n → (k : ℕ) → AllStand old n k ts → AllStand new n k ts
  all_stand_over none n fine k a = a
  all_stand_over (more t ts) n fine k a = (a.0, stands_over t (arg_of n k) (fine.earlier k a.0) a.1, all_stand_over ts n fine (k + 1) a.2)

-- nodes of a list with others behind it
get_longer : (xs ys : List Node) (i : ℕ) (n : Node) → HasNode xs i n → HasNode (xs ++ ys) i n
get_longer [] ys i n e = absurd (none-some n e)
get_longer (x ∷ xs) ys zero n e = e
get_longer (x ∷ xs) ys (suc i) n e = get_longer xs ys i n e

get_shorter : (xs ys : List Node) (i : ℕ) (n : Node) → i < length xs → HasNode (xs ++ ys) i n → HasNode xs i n
get_shorter [] ys i n below e = absurd (omega arith)
get_shorter (x ∷ xs) ys zero n below e = e
get_shorter (x ∷ xs) ys (suc i) n below e = get_shorter xs ys i n (omega arith) e

-- nodes behind a pool's
module _ (nodes others : List Node) (pool : IsPool nodes) where
  pub longer_keeps_trees : KeepsTrees (length nodes) nodes (nodes ++ others)
  longer_keeps_trees i t below = (
    stands_over nodes (nodes ++ others) (length nodes) (λ j n b e. get_longer nodes others j n e) (λ j n b e. pool.ordered j n e) t i below,
    stands_over (nodes ++ others) nodes (length nodes) (λ j n b e. get_shorter nodes others j n b e) (λ j n b e. pool.ordered j n (get_shorter nodes others j n b e)) t i below,
  )

-- a pool's nodes, or these with one more
module _ (nodes new : List Node) (n : Node) (pool : IsPool nodes) (grown : IsGrown nodes n new) where
  pub grown_keeps_trees : KeepsTrees (length nodes) nodes new
  grown_keeps_trees = ⊎_elim
      (λ same. subst (KeepsTrees (length nodes) nodes) (sym same) (λ i t below. (λ s. s, λ s. s)))
      (λ longer. subst (KeepsTrees (length nodes) nodes) (sym longer) (longer_keeps_trees nodes (n ∷ []) pool))
      grown

  pub grown_tree : (i : ℕ) → IsNode (length nodes) n → HasNode new i n → (ts : Trees) → AllStand nodes n 0 ts → Stands new i (tree n.head ts)
  grown_tree i fine there ts a = (n, there, refl, all_stand_over nodes new (length nodes) (λ j m b e. kept grown j m e) (λ j m b e. pool.ordered j m e) ts n fine 0 a)
    where
      kept : IsGrown nodes n new → (j : ℕ) (m : Node) → HasNode nodes j m → HasNode new j m
      kept (inl same) j m e = subst (λ ns. HasNode ns j m) (sym same) e
      kept (inr longer) j m e = subst (λ ns. HasNode ns j m) (sym longer) (get_longer nodes (n ∷ []) j m e)

-- the front of a pool's nodes
module _ (nodes : List Node) (m : ℕ) (pool : IsPool nodes) where
  pub front_keeps_trees : KeepsTrees m nodes (take m nodes)
  front_keeps_trees i t below = (
    stands_over nodes (take m nodes) m (λ j n b e. get_kept m nodes j n b e) (λ j n b e. pool.ordered j n e) t i below,
    stands_over (take m nodes) nodes m (λ j n b e. get_taken m nodes j n e) (λ j n b e. pool.ordered j n (get_taken m nodes j n e)) t i below,
  )
